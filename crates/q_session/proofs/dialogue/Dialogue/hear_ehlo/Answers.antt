use Rattle.std.proofs.Common.{refl, sym, ◌∙◌}
use Rattle.q_session.specs.declared.dialogue.Awaited.TheVariants.{Answer}
use Rattle.q_session.specs.declared.dialogue.Command.TheVariants.{Ehlo, Helo, Mail}
use Rattle.q_session.specs.declared.dialogue.Next.TheVariants as next
use Rattle.q_session.proofs.Dialogues.{ehlo_broken, ehlo_done, ehlo_never, goes_at, goes_say, place_at}
use Rattle.q_session.proofs.dialogue.Dialogue.hear_ehlo.Goals as goal

pub returns-then-is_done-clause-goes : goal.returns-then-is_done-clause-goes
returns-then-is_done-clause-goes c = λ e all. rw c.say.ensures.next (goes_say e c.args.self.now c.say.new.self (Answer Ehlo) c.args.code Mail c.requires.awaited
    (λ more. ehlo_done e c.args.code more (sym c.is_done.ensures ∙ c.if-is_done.true)) c.say.ensures.awaited (place_at c.args.self.now (Answer Ehlo) c.requires.awaited c.requires.course.place) c.requires.course.room (λ whole left h. h))

pub returns-then-is_never-clause-goes : goal.returns-then-is_never-clause-goes
returns-then-is_never-clause-goes c = λ e all. rw c.say-then-is_never.ensures.next (goes_say e c.args.self.now c.say-then-is_never.new.self (Answer Ehlo) c.args.code Helo c.requires.awaited
    (λ more. ehlo_never e c.args.code more (sym c.is_done.ensures ∙ c.if-is_done.false) (sym c.is_never.ensures ∙ c.if-is_never.true)) c.say-then-is_never.ensures.awaited (place_at c.args.self.now (Answer Ehlo) c.requires.awaited c.requires.course.place) c.requires.course.room (λ whole left h. h))

pub returns-clause-goes : goal.returns-clause-goes
returns-clause-goes c = λ e all. goes_at e c.args.self.now (Answer Ehlo) c.args.code next.Broken c.args.self.now c.requires.awaited (λ more. ehlo_broken e c.args.code more (sym c.is_done.ensures ∙ c.if-is_done.false) (sym c.is_never.ensures ∙ c.if-is_never.false)) tt refl (λ whole left h. tt)
