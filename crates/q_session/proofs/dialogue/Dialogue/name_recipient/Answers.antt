use Rattle.std.proofs.Common.{sym, ap, ◌∙◌, arith, List, ℕ}
use Rattle.std.specs.List.{list_any}
use Rattle.q_smtp.specs.Codes.{is_done}
use Rattle.q_session.specs.declared.dialogue.Awaited.TheVariants.{Answer}
use Rattle.q_session.specs.declared.dialogue.Command.TheVariants.{Rcpt}
use Rattle.q_session.proofs.Dialogues.{names_next, names_none, names_refused}
use Rattle.q_session.proofs.dialogue.Dialogue.name_recipient.Goals as goal

pub returns-then-place-self-clause-named : goal.returns-then-place-self-clause-named
returns-then-place-self-clause-named c = λ e all. rw (c.say.ensures.next, c.len-place.ensures) (names_next e c.args.self.now c.say.new.self all (omega arith) c.requires.room (c.say.ensures.awaited ∙ ap (λ (n : ℕ). record c.args.self.now { awaited = Answer (Rcpt n) }) c.len-place.ensures))

pub returns-then-is_any_done-clause-named : goal.returns-then-is_any_done-clause-named
returns-then-is_any_done-clause-named c = λ e all. rw c.say-then-is_any_done.ensures.next (names_none e c.args.self.now c.say-then-is_any_done.new.self all c.requires.few (omega arith) c.requires.room
    (ap (λ (xs : List ℕ). list_any is_done xs) (sym c.deref.ensures.value) ∙ sym c.is_any_done.ensures ∙ c.if-is_any_done.true) c.say-then-is_any_done.ensures.awaited)

pub returns-clause-named : goal.returns-clause-named
returns-clause-named c = λ e all. names_refused e c.args.self.now all c.requires.few (omega arith)
    (ap (λ (xs : List ℕ). list_any is_done xs) (sym c.deref.ensures.value) ∙ sym c.is_any_done.ensures ∙ c.if-is_any_done.false)
