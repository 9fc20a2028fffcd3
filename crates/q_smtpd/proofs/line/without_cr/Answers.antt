use Rattle.std.proofs.Common.{sym}
use Rattle.std.proofs.lemmas.Bool.{eq-eqb, ne_eqb}
use Rattle.q_smtpd.proofs.LineEnds.{last_ends, none_ends}
use Rattle.q_smtpd.proofs.line.without_cr.Goals as goal

pub returns-then-count-eq0 : goal.returns-then-count-eq0
returns-then-count-eq0 c = none_ends c.args.line.now c.if-count-eq0.true

pub returns-then-line-count-eq13 : goal.returns-then-line-count-eq13
returns-then-line-count-eq13 c = sym (rw (eq-eqb _ _ c.if-line-count-eq13.true) at (last_ends c.args.line.now c.if-count-eq0.false))

pub returns-else-line-count-eq13 : goal.returns-else-line-count-eq13
returns-else-line-count-eq13 c = sym (rw (ne_eqb _ _ c.if-line-count-eq13.false) at (last_ends c.args.line.now c.if-count-eq0.false))
