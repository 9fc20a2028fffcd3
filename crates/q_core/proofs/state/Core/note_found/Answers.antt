use Rattle.std.proofs.Common.{◌≡◌, ap, subst, sym, ◌∙◌}
use Rattle.q_core.proofs.AskLaws.{fewer_active, fewer_deferred, fewer_incoming, never_seen, not_seen}
use Rattle.q_core.specs.Answers.{IsAnswer}
use Rattle.q_core.specs.State.{State}
use Rattle.q_core.specs.Changes.{IsSlotChange}
use Rattle.q_pool.specs.Slots.{with_damage}
use Rattle.q_core.specs.declared.state.Question.TheVariants.{Active, Deferred, Incoming, Nothing, Recipients}
use Rattle.q_model.specs.declared.id.Id.{Id}
use Rattle.q_core.proofs.state.Core.note_found.Goals as goal

pub returns-in-Active-clause-exact : goal.returns-in-Active-clause-exact
returns-in-Active-clause-exact c = λ w l a h. c.found_active.ensures.agrees w l a (subst (λ q. IsAnswer c.args.self.now q c.args.found l) (sym (ap (λ (s : State). s.question) c.self.view_is) ∙ c.in-Active.is) h)

pub returns-in-Incoming-clause-exact : goal.returns-in-Incoming-clause-exact
returns-in-Incoming-clause-exact c = λ w l a h. c.found_incoming.ensures.agrees w l a (subst (λ q. IsAnswer c.args.self.now q c.args.found l) (sym (ap (λ (s : State). s.question) c.self.view_is) ∙ c.in-Incoming.is) h)

pub returns-in-Deferred-clause-exact : goal.returns-in-Deferred-clause-exact
returns-in-Deferred-clause-exact c = λ w l a h. let k = subst (λ q. IsAnswer c.args.self.now q c.args.found l) (sym (ap (λ (s : State). s.question) c.self.view_is) ∙ c.in-Deferred.is) h in c.found_deferred.ensures.agrees w l a k.0 k.1 k.2

pub returns-in-Nothing-clause-exact : goal.returns-in-Nothing-clause-exact
returns-in-Nothing-clause-exact c = λ w l a h. absurd (subst (λ q. IsAnswer c.args.self.now q c.args.found l) (sym (ap (λ (s : State). s.question) c.self.view_is) ∙ c.in-Nothing.is) h)

pub returns-in-Recipients-clause-exact : goal.returns-in-Recipients-clause-exact
returns-in-Recipients-clause-exact c = λ w l a h. absurd (subst (λ q. IsAnswer c.args.self.now q c.args.found l) (sym (ap (λ (s : State). s.question) c.self.view_is) ∙ c.in-Recipients.is) h)

pub returns-in-Active-clause-fewer : goal.returns-in-Active-clause-fewer
returns-in-Active-clause-fewer c = λ h. fewer_active c.args.self.now c.found_active.new.self c.args.found (not_seen c.args.self.now (sym (ap (λ (s : State). s.question) c.self.view_is) ∙ c.in-Active.is) h) c.found_active.ensures.change

pub returns-in-Incoming-clause-fewer : goal.returns-in-Incoming-clause-fewer
returns-in-Incoming-clause-fewer c = λ h. fewer_incoming c.args.self.now c.found_incoming.new.self c.args.found (not_seen c.args.self.now (sym (ap (λ (s : State). s.question) c.self.view_is) ∙ c.in-Incoming.is) h) c.found_incoming.ensures.change

pub returns-in-Deferred-clause-fewer : goal.returns-in-Deferred-clause-fewer
returns-in-Deferred-clause-fewer c = λ h. fewer_deferred c.args.self.now c.found_deferred.new.self c.args.found (not_seen c.args.self.now (sym (ap (λ (s : State). s.question) c.self.view_is) ∙ c.in-Deferred.is) h) c.found_deferred.ensures.change

pub returns-in-Nothing-clause-fewer : goal.returns-in-Nothing-clause-fewer
returns-in-Nothing-clause-fewer c = λ h. never_seen (not_seen c.args.self.now (sym (ap (λ (s : State). s.question) c.self.view_is) ∙ c.in-Nothing.is) h)

pub returns-in-Recipients-clause-fewer : goal.returns-in-Recipients-clause-fewer
returns-in-Recipients-clause-fewer c = λ h. never_seen (not_seen c.args.self.now (sym (ap (λ (s : State). s.question) c.self.view_is) ∙ c.in-Recipients.is) h)

pub returns-in-Active-clause-damaged : goal.returns-in-Active-clause-damaged
returns-in-Active-clause-damaged c = λ id from max e.
    let bad : Active ≡ Recipients id from max = sym (sym (ap (λ (s : State). s.question) c.self.view_is) ∙ c.in-Active.is) ∙ e in
    absurd cc

pub returns-in-Incoming-clause-damaged : goal.returns-in-Incoming-clause-damaged
returns-in-Incoming-clause-damaged c = λ id from max e.
    let bad : Incoming ≡ Recipients id from max = sym (sym (ap (λ (s : State). s.question) c.self.view_is) ∙ c.in-Incoming.is) ∙ e in
    absurd cc

pub returns-in-Deferred-clause-damaged : goal.returns-in-Deferred-clause-damaged
returns-in-Deferred-clause-damaged c = λ id from max e.
    let bad : Deferred ≡ Recipients id from max = sym (sym (ap (λ (s : State). s.question) c.self.view_is) ∙ c.in-Deferred.is) ∙ e in
    absurd cc

pub returns-in-Nothing-clause-damaged : goal.returns-in-Nothing-clause-damaged
returns-in-Nothing-clause-damaged c = λ id from max e.
    let bad : Nothing ≡ Recipients id from max = sym (sym (ap (λ (s : State). s.question) c.self.view_is) ∙ c.in-Nothing.is) ∙ e in
    absurd cc

pub returns-in-Recipients-clause-damaged : goal.returns-in-Recipients-clause-damaged
returns-in-Recipients-clause-damaged c = λ id from max e.
    let both : Recipients c.in-Recipients.id c.in-Recipients.from c.in-Recipients.max ≡ Recipients id from max = sym (sym (ap (λ (s : State). s.question) c.self.view_is) ∙ c.in-Recipients.is) ∙ e in
    let same : c.in-Recipients.id ≡ id = cc in
    subst (λ (i : Id). IsSlotChange c.args.self.now c.note_damage.new.self i with_damage) same c.note_damage.ensures
