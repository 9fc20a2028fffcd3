use Rattle.std.proofs.Common.{◌<◌, ◌^◌, ◌∙◌, ap, arith, sym, ℕ}
use Rattle.q_load.specs.Due.{due}
use Rattle.q_load.specs.Lives.{behind_all}
use Rattle.q_load.specs.Loads.{behind, load_world}
use Rattle.q_load.proofs.Beginning.{still_stands, tells_crashes}
use Rattle.q_load.proofs.Hearing.{all_heard, fewer_left, has_room, none_heard, one_heard, way_begins, way_on, way_takes}
use Rattle.q_mem_host.specs.Left.{view_of}
use Rattle.q_load.proofs.loading.hear_all.Goals as goal

pub loop-engine-init : goal.loop-engine-init
loop-engine-init c = record {
  ready = c.requires.ready;
  mails = c.new-generator.ensures.mails;
  way = way_begins c.args.mails c.new-generator.result c.args.engine (view_of c.args.host.now) c.requires.stands c.new-generator.ensures.heard;
  went = λ k stands. none_heard c.args.mails k c.new-generator.result c.args.engine (view_of c.args.host.now) c.new-generator.ensures.heard stands;
}

pub due-requires : goal.due-requires
due-requires c =
    let fits : c.args.mails < 2 ^ 32 = omega arith in
    record { room = (has_room c.args.mails c.loop-engine.generator c.loop-engine.engine (view_of c.loop-engine.host) fits c.loop-engine.invariant.way).replies }

pub note-requires : goal.note-requires
note-requires c =
    let fits : c.args.mails < 2 ^ 32 = omega arith in
    record { room = has_room c.args.mails c.loop-engine.generator c.loop-engine.engine (view_of c.loop-engine.host) fits c.loop-engine.invariant.way }

pub returns-in_default : goal.returns-in_default
returns-in_default c = record {
  hears = λ l stands.
      let loop = c.loop-engine in
      let u = view_of loop.host in
      let v = view_of c.due.new.host in
      let h = loop.invariant.went l stands in
      let k = behind_all l h.done in
      all_heard c.args.mails l loop.generator loop.engine u h v
      (sym c.in_default.is ∙ c.in_ok-event.ensures.exact load_world k h.stands h.heard h.counts ∙ ap (λ (m : ℕ). due m h.heard k) loop.invariant.mails)
      (still_stands load_world loop.engine k u v (tells_crashes loop.host) c.due.ensures.stays h.stands);
}

pub hear-requires-clause-accepted : goal.hear-requires-clause-accepted
hear-requires-clause-accepted c =
    let loop = c.loop-engine in
    let way = loop.invariant.way in
    let u = view_of loop.host in
    let v = view_of c.due.new.host in
    let fits : c.args.mails < 2 ^ 32 = omega arith in
    way_takes c.args.mails loop.generator loop.engine u way c.in-Some.event c.note.new.self v fits
    (sym c.in-Some.is ∙ c.in_ok-event.ensures.exact load_world way.ledger way.stands way.heard way.counts ∙ ap (λ (m : ℕ). due m way.heard way.ledger) loop.invariant.mails)
    (still_stands load_world loop.engine way.ledger u v (tells_crashes loop.host) c.due.ensures.stays way.stands)

pub loop-engine-preserved : goal.loop-engine-preserved
loop-engine-preserved c =
    let loop = c.loop-engine in
    let u = view_of loop.host in
    let v = view_of c.due.new.host in
    let lawful = tells_crashes loop.host in
    let way = loop.invariant.way in
    record {
      ready = c.in_ok-engine.ensures.ready;
      mails = c.note.ensures.mails ∙ loop.invariant.mails;
      way = way_on c.args.mails loop.generator loop.engine u way c.in-Some.event c.note.new.self c.in_ok-engine.engine (view_of c.hear.new.host)
          (sym c.in-Some.is ∙ c.in_ok-event.ensures.exact load_world way.ledger way.stands way.heard way.counts ∙ ap (λ (m : ℕ). due m way.heard way.ledger) loop.invariant.mails)
          (c.note.ensures.heard way.heard way.counts)
          (c.in_ok-engine.ensures.hears way.ledger (still_stands load_world loop.engine way.ledger u v lawful c.due.ensures.stays way.stands));
      went = λ l stands.
          let h = loop.invariant.went l stands in
          let k = behind_all l h.done in
          one_heard c.args.mails l loop.generator loop.engine u h c.in-Some.event c.note.new.self c.in_ok-engine.engine (view_of c.hear.new.host)
          (sym c.in-Some.is ∙ c.in_ok-event.ensures.exact load_world k h.stands h.heard h.counts ∙ ap (λ (m : ℕ). due m h.heard k) loop.invariant.mails)
          (c.note.ensures.heard h.heard h.counts)
          (c.in_ok-engine.ensures.hears k (still_stands load_world loop.engine k u v lawful c.due.ensures.stays h.stands));
    }

pub loop-engine-smaller : goal.loop-engine-smaller
loop-engine-smaller c =
    let loop = c.loop-engine in
    let way = loop.invariant.way in
    fewer_left c.args.mails loop.generator loop.engine (view_of loop.host) way c.in-Some.event c.note.new.self
    (sym c.in-Some.is ∙ c.in_ok-event.ensures.exact load_world way.ledger way.stands way.heard way.counts ∙ ap (λ (m : ℕ). due m way.heard way.ledger) loop.invariant.mails)
    (c.note.ensures.heard way.heard way.counts)
