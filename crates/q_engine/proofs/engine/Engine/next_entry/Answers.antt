use Rattle.std.proofs.Common.{◌≡◌, ◌∙◌, arith, ap, sym, subst, Option, true}
use Rattle.q_entries.proofs.Playing.{reads_then}
use Rattle.q_core.specs.Deciding.{AsksSome, BeginsFlight, CanBeDone, is_answered, is_look, is_reading, NotesSkip, question_for}
use Rattle.q_core.specs.Looking.{looks_left}
use Rattle.q_core.specs.declared.decision.Decision.{Decision}
use Rattle.q_core.specs.declared.state.Core.{Core}
use Rattle.q_engine.specs.declared.engine.Engine.{Engine}
use Rattle.q_engine.proofs.Looking.{always_err, answers_lent, answers_some, look_found, next_found}
use Rattle.q_engine.proofs.KeptRows.{keeps_row}
use Rattle.q_engine.proofs.StoredNotes.{keeps_then}
use Rattle.q_engine.proofs.Boxed.{lent_agrees}
use Rattle.q_engine.proofs.engine.Engine.next_entry.Goals as goal

pub returns-in_default-clause-ready : goal.returns-in_default-clause-ready
returns-in_default-clause-ready g c same = record {
  answered = ap is_answered (c.next_decision.ensures.question ∙ ap question_for c.in_default.is);
  looked = c.next_decision.ensures.quiet c.in_default.is (ap (λ (x : Core). x.timed) c.deref_mut.ensures.value ∙ c.loop-decision.invariant.timed);
}

pub returns-in_default-clause-timed : goal.returns-in_default-clause-timed
returns-in_default-clause-timed g c = c.next_decision.ensures.timed ∙ ap (λ (x : Core). x.timed) c.deref_mut.ensures.value ∙ c.loop-decision.invariant.timed

pub returns-then-not-is_looking-clause-timed : goal.returns-then-not-is_looking-clause-timed
returns-then-not-is_looking-clause-timed g c = c.next_decision.ensures.timed ∙ ap (λ (x : Core). x.timed) c.deref_mut.ensures.value ∙ c.loop-decision.invariant.timed

pub returns-in_err-answer-clause-timed : goal.returns-in_err-answer-clause-timed
returns-in_err-answer-clause-timed g c = c.in_err-answer.ensures.timed ∙ c.next_decision.ensures.timed ∙ ap (λ (x : Core). x.timed) c.deref_mut.ensures.value ∙ c.loop-decision.invariant.timed

pub returns-then-not-is_looking-clause-ok : goal.returns-then-not-is_looking-clause-ok
returns-then-not-is_looking-clause-ok g c t w l h =
    let so_far = c.loop-decision.invariant.stands t w l h in
    let v = g.H.Host.view c.loop-decision.host in
    let e = c.next_decision.ensures in
    let d = c.in-Some.decision in
    let agrees = lent_agrees w l _ _ c.deref_mut.ensures.value (so_far.0).core in
    let a = answers_some w l v c.loop-decision.self c.next_decision.result d c.next_decision.new.self c.in-Some.is
    (answers_lent w l v c.loop-decision.self c.deref_mut.result.now c.next_decision.result c.next_decision.new.self c.deref_mut.ensures.value so_far.0 (e.exact w l agrees) (e.placed w l agrees) (e.started w l agrees) e.skipped e.asked) in
    (next_found w l v c.loop-decision.self d c.next_decision.new.self a (ap is_look (ap question_for (sym c.in-Some.is) ∙ sym e.question) ∙ sym (ap (λ (k : Core). is_look k.question) c.deref.ensures) ∙ sym c.is_looking.ensures ∙ c.if-not-is_looking.true), so_far.1)

pub returns-in_err-answer-clause-err : goal.returns-in_err-answer-clause-err
returns-in_err-answer-clause-err g c = always_err c.from_residual.result (λ t w l h.
    let so_far = c.loop-decision.invariant.stands t w l h in
    let v = g.H.Host.view c.loop-decision.host in
    let e = c.next_decision.ensures in
    let d = c.in-Some.decision in
    let agrees = lent_agrees w l _ _ c.deref_mut.ensures.value (so_far.0).core in
    let a = answers_some w l v c.loop-decision.self c.next_decision.result d c.next_decision.new.self c.in-Some.is
    (answers_lent w l v c.loop-decision.self c.deref_mut.result.now c.next_decision.result c.next_decision.new.self c.deref_mut.ensures.value so_far.0 (e.exact w l agrees) (e.placed w l agrees) (e.started w l agrees) e.skipped e.asked) in
    let look = look_found w l v c.loop-decision.self d c.next_decision.new.self a (ap is_look (ap question_for (sym c.in-Some.is) ∙ sym e.question) ∙ sym (ap (λ (k : Core). is_look k.question) c.deref.ensures) ∙ sym c.is_looking.ensures ∙ c.if-not-is_looking.false) in
    reads_then l.book _ _ _ so_far.1 (c.in_err-answer.ensures.err t w l look.1))

pub loop-decision-preserved : goal.loop-decision-preserved
loop-decision-preserved g c = record {
  answered = c.in_ok-answer.ensures.answered;
  timed = c.in_ok-answer.ensures.timed ∙ c.next_decision.ensures.timed ∙ ap (λ (x : Core). x.timed) c.deref_mut.ensures.value ∙ c.loop-decision.invariant.timed;
  rest = c.in_ok-answer.ensures.rest ∙ ap (λ (x : Engine). record x { core = c.answer.new.self.core }) c.loop-decision.invariant.rest;
  stands = λ t w l h.
      let so_far = c.loop-decision.invariant.stands t w l h in
      let v = g.H.Host.view c.loop-decision.host in
      let e = c.next_decision.ensures in
      let d = c.in-Some.decision in
      let agrees = lent_agrees w l _ _ c.deref_mut.ensures.value (so_far.0).core in
      let a = answers_some w l v c.loop-decision.self c.next_decision.result d c.next_decision.new.self c.in-Some.is
      (answers_lent w l v c.loop-decision.self c.deref_mut.result.now c.next_decision.result c.next_decision.new.self c.deref_mut.ensures.value so_far.0 (e.exact w l agrees) (e.placed w l agrees) (e.started w l agrees) e.skipped e.asked) in
      let look = look_found w l v c.loop-decision.self d c.next_decision.new.self a (ap is_look (ap question_for (sym c.in-Some.is) ∙ sym e.question) ∙ sym (ap (λ (k : Core). is_look k.question) c.deref.ensures) ∙ sym c.is_looking.ensures ∙ c.if-not-is_looking.false) in
      let one = c.in_ok-answer.ensures.ok t w l look.1 look.0 in
      (one.0, reads_then l.book _ _ _ so_far.1 one.1);
  notes = λ t. keeps_then (g.H.Host.view c.args.host.now) (g.H.Host.view c.loop-decision.host) (g.H.Host.view c.answer.new.host) (c.loop-decision.invariant.notes t) (c.in_ok-answer.ensures.notes t);
  disk_later = omega (arith, c.loop-decision.invariant.disk_later, c.in_ok-answer.ensures.cause.disk_later);
  tell_later = omega (arith, c.loop-decision.invariant.tell_later, c.in_ok-answer.ensures.cause.tell_later);
}

pub loop-decision-smaller : goal.loop-decision-smaller
loop-decision-smaller g c =
    let e = c.next_decision.ensures in
    let at : is_look (question_for c.next_decision.result) ≡ true = ap is_look (sym e.question) ∙ sym (ap (λ (k : Core). is_look k.question) c.deref.ensures) ∙ sym c.is_looking.ensures ∙ c.if-not-is_looking.false in
    let same : looks_left c.next_decision.new.self ≡ looks_left c.loop-decision.self.core.value = e.looks at ∙ ap looks_left c.deref_mut.ensures.value in
    let less = c.in_ok-answer.ensures.fewer (e.unseen at) in
    omega (arith, same, less)

pub returns-then-not-is_looking-clause-taken : goal.returns-then-not-is_looking-clause-taken
returns-then-not-is_looking-clause-taken g c =
    let e = c.next_decision.ensures in
    let d = c.in-Some.decision in
    let is = c.in-Some.is in
    let noted = subst (λ (o : Option Decision). NotesSkip c.deref_mut.result.now o c.next_decision.new.self) is e.skipped in
    record {
      question = e.question ∙ ap question_for is;
      no_look = ap is_look (ap question_for (sym is) ∙ sym e.question) ∙ sym (ap (λ (k : Core). is_look k.question) c.deref.ensures) ∙ sym c.is_looking.ensures ∙ c.if-not-is_looking.true;
      reads = λ reading. let at = ap (λ (o : Option Decision). is_reading (question_for o)) is ∙ reading in (e.reads at, e.unnamed at);
      some = subst (λ (o : Option Decision). AsksSome (question_for o)) is e.some;
      flies = subst (λ (o : Option Decision). BeginsFlight o c.next_decision.new.self.flights) is e.flies;
      row = keeps_row c.deref_mut.result.now c.next_decision.new.self d noted;
      lawful = subst CanBeDone is e.lawful;
    }
