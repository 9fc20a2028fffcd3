use Rattle.std.proofs.Common.{refl, sym, ◌∙◌}
use Rattle.q_session.specs.declared.dialogue.Awaited.TheVariants.{Answer}
use Rattle.q_session.specs.declared.dialogue.Command.TheVariants.{Helo, Mail}
use Rattle.q_session.specs.declared.dialogue.Next.TheVariants as next
use Rattle.q_session.proofs.Dialogues.{goes_at, goes_say, helo_broken, helo_done, place_at}
use Rattle.q_session.proofs.dialogue.Dialogue.hear_helo.Goals as goal

pub returns-then-is_done-clause-goes : goal.returns-then-is_done-clause-goes
returns-then-is_done-clause-goes c = λ e all. rw c.say.ensures.next (goes_say e c.args.self.now c.say.new.self (Answer Helo) c.args.code Mail c.requires.awaited
    (λ more. helo_done e c.args.code more (sym c.is_done.ensures ∙ c.if-is_done.true)) c.say.ensures.awaited (place_at c.args.self.now (Answer Helo) c.requires.awaited c.requires.course.place) c.requires.course.room (λ whole left h. h))

pub returns-clause-goes : goal.returns-clause-goes
returns-clause-goes c = λ e all. goes_at e c.args.self.now (Answer Helo) c.args.code next.Broken c.args.self.now c.requires.awaited (λ more. helo_broken e c.args.code more (sym c.is_done.ensures ∙ c.if-is_done.false)) tt refl (λ whole left h. tt)
