use Rattle.q_core.proofs.AskLaws.{question_law}
use Rattle.q_core.specs.declared.state.Question.TheVariants.{Nothing}
use Rattle.q_core.specs.State.{State}
use Rattle.q_core.specs.Agrees.{Agrees}
use Rattle.std.proofs.Common.{◌≡◌, ◌∙◌, ap, subst, sym}
use Rattle.q_core.proofs.WholeLaws.{still_agrees}
use Rattle.q_core.specs.declared.state.Core.{Core}
use Rattle.std.specs.Prelude.{map}
use Rattle.q_pool.specs.Slots.{changed_at, with_damage}
use Rattle.q_core.specs.View.{state_of}
use Rattle.q_core.proofs.state.Core.found.Goals as goal

pub returns-clause-exact : goal.returns-clause-exact
returns-clause-exact c = λ w l a h. let k : Agrees w _ l = subst (λ (s : State). Agrees w s l) (sym c.self.view_is) (c.note_found.ensures.exact w l a h) in still_agrees k (question_law Nothing k.matches)

pub returns-clause-damaged : goal.returns-clause-damaged
returns-clause-damaged c = λ id from max e.
    let k = c.note_found.ensures.damaged id from max e in
    let mid : Core = state_of c.self.inside in
    let same : mid ≡ c.note_found.new.self = c.self.view_is in
    let slots : mid.admitted ≡ map (changed_at id with_damage) c.args.self.now.admitted = ap (λ (x : Core). x.admitted) same ∙ k.admitted in
    let rest : mid ≡ record c.args.self.now { admitted = mid.admitted } = same ∙ k.rest ∙ ap (λ xs. record c.args.self.now { admitted = xs }) (sym (ap (λ (x : Core). x.admitted) same)) in
    record { rest = ap (λ (x : Core). record x { question = Nothing }) rest; admitted = slots }
