use Rattle.std.proofs.Common.{◌≡◌, ◌∙◌, arith, ap, sym}
use Rattle.q_entries.proofs.Playing.{reads_then}
use Rattle.q_core.specs.Changes.{is_looked_at}
use Rattle.q_core.specs.Deciding.{decide_in, is_look, question_for}
use Rattle.q_core.specs.Looking.{looks_left}
use Rattle.q_core.specs.declared.state.Core.{Core}
use Rattle.q_engine.specs.declared.engine.Engine.{Engine}
use Rattle.q_engine.proofs.Looking.{always_err, answers_lent, answers_some, look_found, scan_asked}
use Rattle.q_engine.proofs.StoredNotes.{keeps_then}
use Rattle.q_engine.proofs.Boxed.{lent_agrees}
use Rattle.q_engine.proofs.engine.Engine.look_ahead.Goals as goal

pub answer-requires-clause-look : goal.answer-requires-clause-look
answer-requires-clause-look g c =
    ap is_look c.next_decision.ensures.question
    ∙ scan_asked c.scan.self.core.value c.next_decision.result c.scan.invariant.timed (ap is_looked_at (sym c.deref.ensures) ∙ sym c.is_looked_at.ensures ∙ c.if-is_looked_at.false) (c.next_decision.ensures.decided ∙ ap decide_in c.deref_mut.ensures.value)

pub returns-in_err-answer-clause-err : goal.returns-in_err-answer-clause-err
returns-in_err-answer-clause-err g c = always_err c.from_residual.result (λ t w l h.
    let so_far = c.scan.invariant.stands t w l h in
    let v = g.H.Host.view c.scan.host in
    let e = c.next_decision.ensures in
    let d = c.in-Some.decision in
    let agrees = lent_agrees w l _ _ c.deref_mut.ensures.value (so_far.0).core in
    let a = answers_some w l v c.scan.self c.next_decision.result d c.next_decision.new.self c.in-Some.is
    (answers_lent w l v c.scan.self c.deref_mut.result.now c.next_decision.result c.next_decision.new.self c.deref_mut.ensures.value so_far.0 (e.exact w l agrees) (e.placed w l agrees) (e.started w l agrees) e.skipped e.asked) in
    let asked = scan_asked c.scan.self.core.value c.next_decision.result c.scan.invariant.timed (ap is_looked_at (sym c.deref.ensures) ∙ sym c.is_looked_at.ensures ∙ c.if-is_looked_at.false) (e.decided ∙ ap decide_in c.deref_mut.ensures.value) in
    let look = look_found w l v c.scan.self d c.next_decision.new.self a (ap is_look (ap question_for (sym c.in-Some.is)) ∙ asked) in
    reads_then l.book _ _ _ so_far.1 (c.in_err-answer.ensures.err t w l look.1))

pub scan-preserved : goal.scan-preserved
scan-preserved g c = record {
  answered = c.in_ok-answer.ensures.answered;
  timed = c.in_ok-answer.ensures.timed ∙ c.next_decision.ensures.timed ∙ ap (λ (x : Core). x.timed) c.deref_mut.ensures.value ∙ c.scan.invariant.timed;
  rest = c.in_ok-answer.ensures.rest ∙ ap (λ (x : Engine). record x { core = c.answer.new.self.core }) c.scan.invariant.rest;
  stands = λ t w l h.
      let so_far = c.scan.invariant.stands t w l h in
      let v = g.H.Host.view c.scan.host in
      let e = c.next_decision.ensures in
      let d = c.in-Some.decision in
      let agrees = lent_agrees w l _ _ c.deref_mut.ensures.value (so_far.0).core in
      let a = answers_some w l v c.scan.self c.next_decision.result d c.next_decision.new.self c.in-Some.is
      (answers_lent w l v c.scan.self c.deref_mut.result.now c.next_decision.result c.next_decision.new.self c.deref_mut.ensures.value so_far.0 (e.exact w l agrees) (e.placed w l agrees) (e.started w l agrees) e.skipped e.asked) in
      let asked = scan_asked c.scan.self.core.value c.next_decision.result c.scan.invariant.timed (ap is_looked_at (sym c.deref.ensures) ∙ sym c.is_looked_at.ensures ∙ c.if-is_looked_at.false) (e.decided ∙ ap decide_in c.deref_mut.ensures.value) in
      let look = look_found w l v c.scan.self d c.next_decision.new.self a (ap is_look (ap question_for (sym c.in-Some.is)) ∙ asked) in
      let one = c.in_ok-answer.ensures.ok t w l look.1 look.0 in
      (one.0, reads_then l.book _ _ _ so_far.1 one.1);
  notes = λ t. keeps_then (g.H.Host.view c.args.host.now) (g.H.Host.view c.scan.host) (g.H.Host.view c.answer.new.host) (c.scan.invariant.notes t) (c.in_ok-answer.ensures.notes t);
  disk_later = omega (arith, c.scan.invariant.disk_later, c.in_ok-answer.ensures.cause.disk_later);
  tell_later = omega (arith, c.scan.invariant.tell_later, c.in_ok-answer.ensures.cause.tell_later);
}

pub scan-smaller : goal.scan-smaller
scan-smaller g c =
    let e = c.next_decision.ensures in
    let at = scan_asked c.scan.self.core.value c.next_decision.result c.scan.invariant.timed (ap is_looked_at (sym c.deref.ensures) ∙ sym c.is_looked_at.ensures ∙ c.if-is_looked_at.false) (e.decided ∙ ap decide_in c.deref_mut.ensures.value) in
    let same : looks_left c.next_decision.new.self ≡ looks_left c.scan.self.core.value = e.looks at ∙ ap looks_left c.deref_mut.ensures.value in
    let less = c.in_ok-answer.ensures.fewer (e.unseen at) in
    omega (arith, same, less)
