use Rattle.std.proofs.Common.{sym, ap, ℕ, ◌∙◌, ◌≡◌, ◌==◌, false, arith}
use Rattle.std.proofs.lemmas.Bool.Decides.{nat_tests}
use Rattle.q_reply.proofs.Steps.{took_bad, took_byte, took_line, took_whole}
use Rattle.q_reply.proofs.progress.Progress.take.Goals as goal

pub returns-then-not-may_follow-clause-took : goal.returns-then-not-may_follow-clause-took
returns-then-not-may_follow-clause-took c = λ p h. took_bad p c.args.self.now c.args.byte h (sym c.is_full.ensures ∙ c.if-is_full.false) (sym c.may_follow.ensures ∙ c.if-not-may_follow.true)

pub returns-then-byte-ne-LF-clause-took : goal.returns-then-byte-ne-LF-clause-took
returns-then-byte-ne-LF-clause-took c = λ p h. rw c.add.ensures (took_byte p c.args.self.now c.args.byte h (sym c.is_full.ensures ∙ c.if-is_full.false) (sym c.may_follow.ensures ∙ c.if-not-may_follow.false)
    (let other : (c.args.byte == 10) ≡ false = grind (arith, nat_tests) in other))

pub returns-then-has_more-clause-took : goal.returns-then-has_more-clause-took
returns-then-has_more-clause-took c = λ p h. rw c.begin_line.ensures (took_line p c.args.self.now c.args.byte h (sym c.is_full.ensures ∙ c.if-is_full.false) (sym c.may_follow.ensures ∙ c.if-not-may_follow.false)
    (ap (λ (b : ℕ). b == 10) c.if-byte-ne-LF.false) (sym c.has_more.ensures ∙ c.if-has_more.true))

pub returns-clause-took : goal.returns-clause-took
returns-clause-took c = λ p h. rw (c.number-code.ensures, c.new.ensures) (took_whole p c.args.self.now c.args.byte h (sym c.is_full.ensures ∙ c.if-is_full.false) (sym c.may_follow.ensures ∙ c.if-not-may_follow.false)
    (ap (λ (b : ℕ). b == 10) c.if-byte-ne-LF.false) (sym c.has_more.ensures ∙ c.if-has_more.false))
