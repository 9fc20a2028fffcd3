use Rattle.std.proofs.Common.{◌≡◌, arith, false, not, true, Bool, refl}
use Rattle.q_pending.proofs.ReadingLaws.{gives_next}
use Rattle.q_pending.proofs.pending.Pending.next_unmarked.Goals as goal

by_not : (b : Bool) → not b ≡ true → b ≡ false
by_not false h = refl
by_not true h = absurd cc

pub returns-then-not-branch-clause-next : goal.returns-then-not-branch-clause-next
returns-then-not-branch-clause-next g c t m positions ahead =
    let no : c.in_ok-has_more.field-0 ≡ false = c.if-not-branch.true in
    c.in_ok-has_more.ensures.none no t m positions (c.in_ok-has_more.ensures.ahead t m positions ahead)

pub overflow_add-self : goal.overflow_add-self
overflow_add-self g c =
    let yes : c.in_ok-has_more.field-0 ≡ true = c.if-not-branch.false in
    omega (arith, c.in_ok-has_more.ensures.more yes, c.in_ok-has_more.ensures.few)

pub returns-clause-next : goal.returns-clause-next
returns-clause-next g c t m positions ahead =
    gives_next (g.H.Host.view c.args.host.now).files c.has_more.new.self _ c.get-taken.result c.get-taken.ensures refl refl refl refl m positions (c.in_ok-has_more.ensures.ahead t m positions ahead)
