use Rattle.std.proofs.Common.{ap, refl, sym, ◌∙◌, vec_len}
use Rattle.q_session.specs.declared.dialogue.Awaited.TheVariants.{Answer}
use Rattle.q_session.specs.declared.dialogue.Command.TheVariants.{Rcpt}
use Rattle.q_session.specs.declared.dialogue.Next.TheVariants as next
use Rattle.q_session.proofs.Dialogues.{goes_at, goes_named, is_ready_at, rcpt_broken, rcpt_heard}
use Rattle.std.specs.List.{list_all}
use Rattle.q_smtp.specs.Codes.{is_answer}
use Rattle.q_session.proofs.CodeLaws.{answers_more}
use Rattle.q_session.proofs.dialogue.Dialogue.hear_rcpt.Goals as goal

pub returns-then-not-is_answer-clause-goes : goal.returns-then-not-is_answer-clause-goes
returns-then-not-is_answer-clause-goes c = λ e all. goes_at e c.args.self.now (Answer (Rcpt (vec_len c.args.self.now.answers))) c.args.code next.Broken c.args.self.now c.requires.awaited
    (λ more. rcpt_broken _ c.args.code more (sym c.is_answer.ensures ∙ c.if-not-is_answer.true)) tt refl (λ whole left h. tt)

pub returns-clause-goes : goal.returns-clause-goes
returns-clause-goes c = λ e all. goes_named e c.args.self.now (record c.args.self.now { answers = c.push_reserved.new.self }) c.name_recipient.new.self c.args.code c.name_recipient.result
    (rcpt_heard e c.args.self.now (record c.args.self.now { answers = c.push_reserved.new.self }) c.args.code c.requires.awaited (sym c.is_answer.ensures ∙ c.if-not-is_answer.false) c.push_reserved.ensures.items c.push_reserved.ensures.len)
    refl (is_ready_at c.args.self.now (Rcpt (vec_len c.args.self.now.answers)) c.requires.awaited) (c.name_recipient.ensures.named e all)

pub name_recipient-requires-clause-codes : goal.name_recipient-requires-clause-codes
name_recipient-requires-clause-codes c =
    ap (list_all is_answer) c.push_reserved.ensures.items ∙ answers_more c.args.self.now.answers.items c.args.code c.requires.codes (sym c.is_answer.ensures ∙ c.if-not-is_answer.false)
