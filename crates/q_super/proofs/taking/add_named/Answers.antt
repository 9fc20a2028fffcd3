use Rattle.std.proofs.Common.{inl, inr, refl}
use Rattle.q_super.proofs.taking.add_named.Goals as goal

pub returns-in_default : goal.returns-in_default
returns-in_default c = inr (c.in_default.ensures.none, refl)

pub returns : goal.returns
returns c = inl (c.in-Some.standing, c.in-Some.ensures.some, c.in_ok-push.ensures.items)
