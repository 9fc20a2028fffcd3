use Rattle.std.proofs.Common.{ap, List, Option, Some, subst, sym, ℕ}
use Rattle.std.specs.Prelude.{IsSomeAnd}
use Rattle.q_model.specs.Message.{pending}
use Rattle.q_model.specs.SpoolFiles.{Files}
use Rattle.q_pending.specs.Readings.{IsPendingAhead}
use Rattle.q_pending.specs.declared.pending.Pending.{Pending}
use Rattle.q_super.proofs.expiring.pending_positions.Goals as goal

pub returns-in_default-clause-positions : goal.returns-in_default-clause-positions
returns-in_default-clause-positions g c t m is =
    let f = (g.H.Host.view c.args.host.now).files in
    absurd (subst (λ (o : Option Pending). IsSomeAnd o (λ p. IsPendingAhead f m p (pending m))) c.in_default.is (c.in_ok-reader.ensures.ahead t m is))

pub returns-clause-positions : goal.returns-clause-positions
returns-clause-positions g c t m is =
    let f = (g.H.Host.view c.args.host.now).files in
    let ahead = subst (λ (o : Option Pending). IsSomeAnd o (λ p. IsPendingAhead f m p (pending m))) c.in-Some.is (c.in_ok-reader.ensures.ahead t m is) in
    ap (λ (ps : List ℕ). Some ps) (c.in_ok-positions_of.ensures.positions t m (pending m) (subst (λ (fs : Files). IsPendingAhead fs m c.in-Some.reader (pending m)) (sym (c.in_ok-reader.ensures.stays t).files) ahead))
