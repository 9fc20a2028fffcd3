use Rattle.std.proofs.Common.{◌≡◌, ◌==◌, false, refl, sym, ap, ℕ, ◌∙◌, arith}
use Rattle.std.proofs.lemmas.Bool.Decides.{nat_tests}
use Rattle.q_session.specs.declared.dialogue.Awaited.TheVariants.{Answer}
use Rattle.q_session.specs.declared.dialogue.Command.TheVariants.{Data}
use Rattle.q_session.specs.declared.dialogue.Next.TheVariants as next
use Rattle.q_session.proofs.Dialogues.{goes_at, data_asked, data_refused, data_broken, place_at}
use Rattle.q_session.proofs.CodeLaws.{answer_last, refusal_answers}
use Rattle.q_session.proofs.dialogue.Dialogue.hear_data.Goals as goal

pub returns-then-code-eq354-clause-goes : goal.returns-then-code-eq354-clause-goes
returns-then-code-eq354-clause-goes c = λ e all. goes_at e c.args.self.now (Answer Data) c.args.code next.SendContent _ c.requires.awaited
    (λ more. data_asked e c.args.self.now.answers.items c.args.code more (ap (λ (x : ℕ). x == 354) c.if-code-eq354.true))
    (record { place = place_at c.args.self.now (Answer Data) c.requires.awaited c.requires.course.place; room = c.requires.course.room }, refl) refl (λ whole left h. (h, refl))

pub returns-then-not-is_refusal-clause-goes : goal.returns-then-not-is_refusal-clause-goes
returns-then-not-is_refusal-clause-goes c =
    let other : (c.args.code == 354) ≡ false = grind (arith, nat_tests, c.if-code-eq354.false) in
    λ e all. goes_at e c.args.self.now (Answer Data) c.args.code next.Broken c.args.self.now c.requires.awaited
    (λ more. data_broken e c.args.self.now.answers.items c.args.code more other (sym c.is_refusal.ensures ∙ c.if-not-is_refusal.true)) tt refl (λ whole left h. tt)

pub returns-clause-goes : goal.returns-clause-goes
returns-clause-goes c =
    let other : (c.args.code == 354) ≡ false = grind (arith, nat_tests, c.if-code-eq354.false) in
    λ e all. goes_at e c.args.self.now (Answer Data) c.args.code (next.Settled c.args.code) c.args.self.now c.requires.awaited
    (λ more. data_refused e c.args.self.now.answers.items c.args.code more other (sym c.is_refusal.ensures ∙ c.if-not-is_refusal.false)) (place_at c.args.self.now (Answer Data) c.requires.awaited c.requires.course.place) refl (λ whole left h. tt)

pub returns-clause-last : goal.returns-clause-last
returns-clause-last c = answer_last c.args.code (refusal_answers c.args.code (sym c.is_refusal.ensures ∙ c.if-not-is_refusal.false))
