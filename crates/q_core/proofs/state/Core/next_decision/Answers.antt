use Rattle.std.proofs.Common.{◌∙◌, List, Some, sym, ap, subst}
use Rattle.q_core.specs.Deciding.{BeginsFlight, CanBeDone, IsPlaced, question_of}
use Rattle.q_core.specs.Looking.{is_unseen, looks_left}
use Rattle.q_core.specs.declared.state.Core.{Core}
use Rattle.q_model.specs.declared.rows.Delivery.{Delivery}
use Rattle.q_core.proofs.AskLaws.{asking_applied, decided_law, quiet_law, same_unseen}
use Rattle.q_core.proofs.PlacedDecisions.{placed_law}
use Rattle.q_core.proofs.ReadRooms.{decided_asks, decided_some}
use Rattle.q_core.proofs.StartedLaws.{asking_begins, started_law}
use Rattle.q_core.proofs.AskedLaws.{look_unseen}
use Rattle.q_core.proofs.DoneLaws.{decided_done}
use Rattle.q_core.proofs.state.Core.next_decision.Goals as goal

pub returns-in_default-clause-exact : goal.returns-in_default-clause-exact
returns-in_default-clause-exact c = λ w l a. quiet_law a (sym c.decide.ensures ∙ c.in_default.is)

pub returns-then-is_asking-clause-exact : goal.returns-then-is_asking-clause-exact
returns-then-is_asking-clause-exact c = λ w l a.
    let d = c.in-Some.decision in
    decided_law d a (asking_applied a d (sym c.is_asking.ensures ∙ c.if-is_asking.true) (sym c.decide.ensures ∙ c.in-Some.is)) c.ask.ensures.rest

pub returns-then-is_asking-clause-unseen : goal.returns-then-is_asking-clause-unseen
returns-then-is_asking-clause-unseen c = λ looks.
    let d = c.in-Some.decision in
    let core = c.args.self.now in
    ap (λ (x : Core). is_unseen x.question x) c.ask.ensures.rest ∙ same_unseen (question_of d) core (question_of d) c.ask.new.self.named ∙ look_unseen core d (sym c.decide.ensures ∙ c.in-Some.is) looks

pub returns-then-is_asking-clause-looks : goal.returns-then-is_asking-clause-looks
returns-then-is_asking-clause-looks c = λ looks. ap looks_left c.ask.ensures.rest

pub returns-clause-exact : goal.returns-clause-exact
returns-clause-exact c = λ w l a. decided_law c.in-Some.decision a (c.apply.ensures.applied w l a) c.ask-2.ensures.rest

pub returns-then-is_asking-clause-started : goal.returns-then-is_asking-clause-started
returns-then-is_asking-clause-started c = λ w l a.
    let d = c.in-Some.decision in
    started_law d a (asking_applied a d (sym c.is_asking.ensures ∙ c.if-is_asking.true) (sym c.decide.ensures ∙ c.in-Some.is)) c.ask.ensures.rest

pub returns-clause-started : goal.returns-clause-started
returns-clause-started c = λ w l a. started_law c.in-Some.decision a (c.apply.ensures.applied w l a) c.ask-2.ensures.rest

pub returns-then-is_asking-clause-placed : goal.returns-then-is_asking-clause-placed
returns-then-is_asking-clause-placed c = λ w l a. subst (IsPlaced l) (sym c.decide.ensures ∙ c.in-Some.is) (placed_law a)

pub returns-clause-placed : goal.returns-clause-placed
returns-clause-placed c = λ w l a. subst (IsPlaced l) (sym c.decide.ensures ∙ c.in-Some.is) (placed_law a)

pub ask-requires : goal.ask-requires
ask-requires c = decided_asks c.args.self.now c.in-Some.decision (sym c.decide.ensures ∙ c.in-Some.is)

pub returns-then-is_asking-clause-some : goal.returns-then-is_asking-clause-some
returns-then-is_asking-clause-some c = decided_some c.args.self.now c.in-Some.decision c.stand_within.ensures.params (sym c.decide.ensures ∙ c.in-Some.is)

pub returns-clause-some : goal.returns-clause-some
returns-clause-some c = decided_some c.args.self.now c.in-Some.decision c.stand_within.ensures.params (sym c.decide.ensures ∙ c.in-Some.is)

pub returns-clause-flies : goal.returns-clause-flies
returns-clause-flies c = subst (λ (fs : List Delivery). BeginsFlight (Some c.in-Some.decision) fs) (sym (ap (λ (x : Core). x.flights) c.ask-2.ensures.rest)) c.apply.ensures.flies

pub returns-then-is_asking-clause-flies : goal.returns-then-is_asking-clause-flies
returns-then-is_asking-clause-flies c = asking_begins c.ask.new.self.flights c.in-Some.decision (sym c.is_asking.ensures ∙ c.if-is_asking.true)

pub returns-then-is_asking-clause-lawful : goal.returns-then-is_asking-clause-lawful
returns-then-is_asking-clause-lawful c =
    let e = c.stand_within.ensures in
    subst CanBeDone (sym c.decide.ensures ∙ c.in-Some.is) (decided_done c.args.self.now e.params e.early e.codes e.dated)

pub returns-clause-lawful : goal.returns-clause-lawful
returns-clause-lawful c =
    let e = c.stand_within.ensures in
    subst CanBeDone (sym c.decide.ensures ∙ c.in-Some.is) (decided_done c.args.self.now e.params e.early e.codes e.dated)
