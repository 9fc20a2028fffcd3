use Rattle.std.proofs.Common.{◌≡◌, ◌+◌, ◌<◌, ◌≤◌, ◌∷◌, ◌++◌, [], List, ℕ, Some, ap, arith, length, slice_get, subst, sym, ◌∙◌}
use Rattle.std.proofs.lemmas.List.{length-append}
use Rattle.q_model.specs.QueueFile.{FileRecipient}
use Rattle.q_model.specs.QueueFileBytes.{original_size, recipient_at, recipient_size}
use Rattle.q_model.specs.Values.{Batch, Taken}
use Rattle.q_model.specs.SpoolFiles.{Files}
use Rattle.q_message.specs.Pending.{cursor_at, position_behind, taken_at, taken_from}
use Rattle.q_message.specs.Readings.{version_at}
use Rattle.q_message.specs.Windows.{Shows}
use Rattle.q_message.proofs.PendingLaws.{front_told, IsLeft, cursor_is, cursor_with, each_told, few_more, left_end, left_marked, left_none, left_taken, next_at, recipient_is, recipient_missing, recipient_near, recipients_of, taken_is, taken_with, told}
use Rattle.q_host.proofs.Stays.{stays_on}
use Rattle.q_message.proofs.WindowLaws.{moved_shows}
use Rattle.q_message.proofs.recipients.read_recipients.Goals as goal
use Rattle.q_message.proofs.recipients.read_recipients.Goals.{then-not-recipient, else-not-recipient, then-loop-position-test+else-len-max, else-loop-position-test}

pub returns-in_default-clause-no_message : goal.returns-in_default-clause-no_message
returns-in_default-clause-no_message g c place is t =
    let loop = c.loop-position in
    let k = told ((g.H.Host.view c.args.host.now).files c.args.spot.area c.args.spot.name) c.args.recipients c.args.cursor (c.requires.there t) (c.requires.reading t) in
    let m = k.2.message in
    let r = loop.invariant.reads t k.0 k.1 m k.2.reads in
    let many = recipients_of ((g.H.Host.view c.args.host.now).files c.args.spot.area c.args.spot.name) k.0 m c.args.recipients c.args.cursor (c.requires.reading t) k.1 k.2.reads in
    let within : c.loop-position.position < length k.2.message.recipients = omega arith in
    let front = c.in_ok-fill.ensures.front t k.0 (ap (λ (f : Files). f c.args.spot.area c.args.spot.name) (loop.invariant.stays t).files ∙ k.1) r.shows in
    recipient_missing k.0 m loop.position loop.window.at c.fill.new.self.bytes k.2.reads r.place within front (sym (front_told _ _ _ c.fill.new.self.bytes c.front_recipient.ensures c.version_at-version.ensures c.bytes-front.ensures) ∙ c.in_default.is)

pub loop-position-preserved : goal.loop-position-preserved
loop-position-preserved g c =
    let loop = c.loop-position in
    record {
      stays = λ t. stays_on _ _ _ (loop.invariant.stays t) (c.fill.ensures.stays t);
      disk_later = omega (arith, loop.invariant.disk_later, c.fill.ensures.cause.disk_later);
      tell_later = omega (arith, loop.invariant.tell_later, c.fill.ensures.cause.tell_later);
      room = elim c.if-not-recipient.branch [
        | then-not-recipient w ↦ ap (λ (b : Batch). b.room) w.out-is ∙ w.push.ensures.room ∙ loop.invariant.room
        | else-not-recipient w ↦ ap (λ (b : Batch). b.room) w.out-is ∙ loop.invariant.room
      ];
      few = elim c.if-not-recipient.branch [
        | then-not-recipient w ↦ few_more c.loop-position.out.items c.if-not-recipient.out.items _ c.args.max (ap (λ (b : Batch). b.items) w.out-is ∙ w.push.ensures.items) (omega (arith, c.if-len-max.true, c.len.ensures))
        | else-not-recipient w ↦ subst (λ (b : Batch). length b.items ≤ c.args.max) (sym w.out-is) loop.invariant.few
      ];
      less = elim c.if-not-recipient.branch [
        | then-not-recipient w ↦
            let one = ap (λ (b : Batch). length b.items) w.out-is ∙ ap length w.push.ensures.items ∙ length-append loop.out.items _ in
            omega (arith, loop.invariant.less, one, c.loop-position-test.true)
        | else-not-recipient w ↦
            let same = ap (λ (b : Batch). length b.items) w.out-is in
            omega (arith, loop.invariant.less, same, c.loop-position-test.true)
      ];
      reads = λ t bytes here m given.
          let r = loop.invariant.reads t bytes here m given in
          let many = recipients_of ((g.H.Host.view c.args.host.now).files c.args.spot.area c.args.spot.name) bytes m c.args.recipients c.args.cursor (c.requires.reading t) here given in
          let within : c.loop-position.position < length m.recipients = omega arith in
          let there = ap (λ (f : Files). f c.args.spot.area c.args.spot.name) (loop.invariant.stays t).files ∙ here in
          let front = c.in_ok-fill.ensures.front t bytes there r.shows in
          let k = recipient_is bytes m loop.position loop.window.at c.fill.new.self.bytes given r.place within front in
          let is : slice_get m.recipients c.loop-position.position ≡ Some c.in-Some.recipient = k.there ∙ sym k.found ∙ sym (front_told _ _ _ c.fill.new.self.bytes c.front_recipient.ensures c.version_at-version.ensures c.bytes-front.ensures) ∙ c.in-Some.is in
          let version : c.version_at-version.result ≡ m.version = c.version_at-version.ensures ∙ ap version_at c.bytes-front.ensures ∙ k.version in
          let near = recipient_near bytes m loop.position given in
          let place = r.place in
          let same = c.fill.ensures.at in
          let moves = c.skip.ensures.at (omega (arith, c.recipient_size.ensures.few)) in
          let size = c.recipient_size.ensures.size ∙ ap (λ (v : ℕ). recipient_size v c.in-Some.recipient) version in
          let mark : c.recipient.inside.marked ≡ c.in-Some.recipient.marked = ap (λ (x : FileRecipient). x.marked) c.recipient.view_is in
          let room : length c.loop-position.out.items < c.args.max = omega (arith, c.if-len-max.true, c.len.ensures) in
          record {
            shows = subst (Shows bytes) (sym (c.skip.ensures.moved (omega (arith, c.recipient_size.ensures.few)))) (moved_shows c.recipient_size.result bytes c.fill.new.self (c.in_ok-fill.ensures.shows t bytes there r.shows));
            place = moves ∙ ap (λ (n : ℕ). n + c.recipient_size.result) (same ∙ place) ∙ ap (λ (n : ℕ). recipient_at m c.loop-position.position + n) size ∙ sym (next_at m loop.position c.in-Some.recipient is);
            within = omega arith;
            left = elim c.if-not-recipient.branch [
              | then-not-recipient w ↦
                  let begins = c.at-at.ensures ∙ same ∙ place in
                  let marks = w.mark_at.ensures (omega (arith, near, begins)) ∙ ap (λ (v : ℕ). c.at-at.result + original_size v c.in-Some.recipient.original + 5) version in
                  let one = ap (λ (x : FileRecipient). taken_with c.loop-position.position w.mark_at.result x.address) c.recipient.view_is
                  ∙ taken_is bytes m loop.position c.at-at.result w.mark_at.result c.in-Some.recipient is begins marks in
                  let items : c.if-not-recipient.out.items ≡ c.loop-position.out.items ++ taken_at m c.loop-position.position ∷ [] =
                  ap (λ (b : Batch). b.items) w.out-is ∙ w.push.ensures.items ∙ ap (λ (x : Taken). c.loop-position.out.items ++ x ∷ []) one in
                  subst (λ (xs : List Taken). IsLeft m c.args.cursor.position c.args.max xs (c.loop-position.position + 1)) (sym items)
                  (left_taken m c.args.cursor.position c.args.max loop.out.items loop.position c.in-Some.recipient is (sym mark ∙ w.if-not-recipient.true) room r.left)
              | else-not-recipient w ↦
                  subst (λ (b : Batch). IsLeft m c.args.cursor.position c.args.max b.items (c.loop-position.position + 1)) (sym w.out-is)
                  (left_marked m c.args.cursor.position c.args.max loop.out.items loop.position c.in-Some.recipient is (sym mark ∙ w.if-not-recipient.false) room r.left)
            ];
          };
    }

pub returns-clause-taken : goal.returns-clause-taken
returns-clause-taken g c t = each_told ((g.H.Host.view c.args.host.now).files c.args.spot.area c.args.spot.name) (λ bytes m. c.loop-position.out.items ≡ taken_from m c.args.cursor.position c.args.max) (λ bytes here m given.
    let r = c.loop-position.invariant.reads t bytes here m given in
    let within = r.within in
    let many = recipients_of ((g.H.Host.view c.args.host.now).files c.args.spot.area c.args.spot.name) bytes m c.args.recipients c.args.cursor (c.requires.reading t) here given in
    elim c.loop-position-test.branch [
      | then-loop-position-test+else-len-max w ↦ (left_none m c.args.cursor.position c.args.max c.loop-position.out.items c.loop-position.position (omega (arith, w.if-len-max.false, w.len.ensures)) r.left).0
      | else-loop-position-test w ↦ (left_end m c.args.cursor.position c.args.max c.loop-position.out.items c.loop-position.position (omega (arith, w.loop-position-test.false)) r.left).0
    ])

pub returns-clause-next : goal.returns-clause-next
returns-clause-next g c t = each_told ((g.H.Host.view c.args.host.now).files c.args.spot.area c.args.spot.name) (λ bytes m. cursor_with c.loop-position.position c.at.result ≡ cursor_at m (position_behind m c.args.cursor.position c.args.max)) (λ bytes here m given.
    let r = c.loop-position.invariant.reads t bytes here m given in
    let within = r.within in
    let many = recipients_of ((g.H.Host.view c.args.host.now).files c.args.spot.area c.args.spot.name) bytes m c.args.recipients c.args.cursor (c.requires.reading t) here given in
    cursor_is m c.loop-position.position c.at.result (position_behind m c.args.cursor.position c.args.max) (c.at.ensures ∙ r.place)
    (elim c.loop-position-test.branch [
      | then-loop-position-test+else-len-max w ↦ (left_none m c.args.cursor.position c.args.max c.loop-position.out.items c.loop-position.position (omega (arith, w.if-len-max.false, w.len.ensures)) r.left).1
      | else-loop-position-test w ↦ (left_end m c.args.cursor.position c.args.max c.loop-position.out.items c.loop-position.position (omega (arith, w.loop-position-test.false)) r.left).1
    ]))

pub returns-clause-full : goal.returns-clause-full
returns-clause-full g c more = elim c.loop-position-test.branch [
  | then-loop-position-test+else-len-max w ↦ omega (arith, w.if-len-max.false, w.len.ensures)
  | else-loop-position-test w ↦ absurd (omega (arith, more, w.loop-position-test.false))
]
