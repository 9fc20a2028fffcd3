use Rattle.std.proofs.Common.{refl, sym, ◌∙◌}
use Rattle.q_session.specs.declared.dialogue.Awaited.TheVariants.{Verdict}
use Rattle.q_session.specs.declared.dialogue.Next.TheVariants as next
use Rattle.q_session.proofs.Dialogues.{goes_at, content_answered, content_broken, place_at}
use Rattle.q_session.proofs.CodeLaws.{answer_last}
use Rattle.q_session.proofs.dialogue.Dialogue.hear_verdict.Goals as goal

pub returns-then-not-is_answer-clause-goes : goal.returns-then-not-is_answer-clause-goes
returns-then-not-is_answer-clause-goes c = λ e all. goes_at e c.args.self.now Verdict c.args.code next.Broken c.args.self.now c.requires.awaited
    (λ more. content_broken c.args.self.now.answers.items c.args.code more (sym c.is_answer.ensures ∙ c.if-not-is_answer.true)) tt refl (λ whole left h. tt)

pub returns-clause-goes : goal.returns-clause-goes
returns-clause-goes c = λ e all. goes_at e c.args.self.now Verdict c.args.code (next.Settled c.args.code) c.args.self.now c.requires.awaited
    (λ more. content_answered c.args.self.now.answers.items c.args.code more (sym c.is_answer.ensures ∙ c.if-not-is_answer.false)) (place_at c.args.self.now Verdict c.requires.awaited c.requires.course.place) refl (λ whole left h. tt)

pub returns-clause-last : goal.returns-clause-last
returns-clause-last c = answer_last c.args.code (sym c.is_answer.ensures ∙ c.if-not-is_answer.false)
