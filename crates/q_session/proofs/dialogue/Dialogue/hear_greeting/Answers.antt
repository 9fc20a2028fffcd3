use Rattle.std.proofs.Common.{refl, ap, ℕ, ◌≡◌, ◌==◌, false, arith}
use Rattle.std.proofs.lemmas.Bool.Decides.{nat_tests}
use Rattle.q_session.specs.declared.dialogue.Awaited.TheVariants.{Greeting}
use Rattle.q_session.specs.declared.dialogue.Command.TheVariants.{Ehlo}
use Rattle.q_session.specs.declared.dialogue.Next.TheVariants as next
use Rattle.q_session.proofs.Dialogues.{goes_at, goes_say, greeted, not_greeted, place_at}
use Rattle.q_session.proofs.dialogue.Dialogue.hear_greeting.Goals as goal

pub returns-then-code-eq220-clause-goes : goal.returns-then-code-eq220-clause-goes
returns-then-code-eq220-clause-goes c = λ e all. rw c.say.ensures.next (goes_say e c.args.self.now c.say.new.self Greeting c.args.code Ehlo c.requires.awaited
    (λ more. greeted e c.args.code more (ap (λ (x : ℕ). x == 220) c.if-code-eq220.true)) c.say.ensures.awaited (place_at c.args.self.now Greeting c.requires.awaited c.requires.course.place) c.requires.course.room (λ whole left h. h))

pub returns-clause-goes : goal.returns-clause-goes
returns-clause-goes c =
    let other : (c.args.code == 220) ≡ false = grind (arith, nat_tests, c.if-code-eq220.false) in
    λ e all. goes_at e c.args.self.now Greeting c.args.code next.Broken c.args.self.now c.requires.awaited (λ more. not_greeted e c.args.code more other) tt refl (λ whole left h. tt)
