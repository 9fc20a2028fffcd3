use Rattle.std.proofs.Common.{◌≡◌, ◌+◌, ◌<◌, ◌≤◌, ℕ, List, [], false, ap, arith, length, map, sym, ◌∙◌}
use Rattle.std.proofs.lemmas.List.{take_all}
use Rattle.std.specs.Prelude.{get_or}
use Rattle.q_model.specs.QueueFileBytes.{recipient_at}
use Rattle.q_model.specs.Values.{FileHead}
use Rattle.q_message.specs.Names.{receiver_in}
use Rattle.q_message.proofs.NameLaws.{fresh, names_begin, names_end, names_more, stands_before, stands_later, stands_same}
use Rattle.q_message.specs.Windows.{Seen}
use Rattle.q_message.proofs.PendingLaws.{recipients_few}
use Rattle.q_host.proofs.Stays.{stays_on}
use Rattle.q_message.proofs.names.read_names.Goals as goal

pub loop-position-preserved : goal.loop-position-preserved
loop-position-preserved g c =
    let loop = c.loop-position in
    record {
      stays = λ t. stays_on _ _ _ (loop.invariant.stays t) (c.read_receiver.ensures.stays t);
      disk_later = omega (arith, loop.invariant.disk_later, c.read_receiver.ensures.cause.disk_later);
      tell_later = omega (arith, loop.invariant.tell_later, c.read_receiver.ensures.cause.tell_later);
      reads = λ t m s within.
          let r = loop.invariant.reads t m s within in
          let items = c.as_slice-position-items.ensures in
          let p = get_or c.as_slice-position-items.result.now c.loop-position.position-index 0 in
          let read : p ≡ get_or c.args.positions.now c.loop-position.position-index 0 = ap (λ (ps : List ℕ). get_or ps c.loop-position.position-index 0) items in
          let inside : c.loop-position.position-index < length c.args.positions.now = omega (arith, c.loop-position-test.true, ap length items) in
          let below : p < length m.recipients = omega (arith, read, within c.loop-position.position-index 0 inside) in
          let next : p + 1 ≡ c.saturating_add-from.result = omega (arith, c.saturating_add-from.ensures, below, recipients_few s.bytes m s.reads) in
          let first : c.file.inside.first_at ≡ recipient_at m 0 = ap (λ (w : Seen). w.at) (sym c.new-window.ensures) ∙ s.place in
          let here = stands_later (g.H.Host.view c.args.host.now) (g.H.Host.view loop.host) c.args.spot m c.loop-position.from c.loop-position.window (loop.invariant.stays t) r.0 in
          let there = stands_before (g.H.Host.view c.args.host.now) (g.H.Host.view loop.host) c.args.spot m (p + 1) c.read_receiver.new.window (loop.invariant.stays t) (c.in_ok-receiver.ensures.stands t m here first below) in (
            stands_same _ m (p + 1) c.saturating_add-from.result c.read_receiver.new.window next there,
            names_more m c.args.positions.now c.loop-position.position-index p c.loop-position.names c.push.new.self c.in_ok-receiver.receiver inside read r.1 (c.in_ok-receiver.ensures.receiver t m here first below) c.in_ok-push.ensures.ok,
          );
    }

pub returns-clause-names : goal.returns-clause-names
returns-clause-names g c t =
    let new : c.new-window.result ≡ record { at = c.args.file.now.first_at; bytes = []; ended = false } = c.new-window.ensures ∙ ap (λ (f : FileHead). fresh f.first_at) c.file.view_is in
    let begin = names_begin _ c.args.file.now c.new-window.result c.args.positions.now (c.requires.there t) (c.requires.reading t) new c.requires.within in
    let r = c.loop-position.invariant.reads t begin.0 begin.1 begin.2 in
    let all : length c.args.positions.now ≤ c.loop-position.position-index = omega (arith, c.loop-position-test.false, ap length c.as_slice-position-items.ensures) in
    names_end _ begin.0 0 c.new-window.result _ c.args.positions.now begin.1
    (r.1 ∙ ap (map (receiver_in begin.0)) (take_all c.loop-position.position-index c.args.positions.now all))
