-- A call that reads, and one that takes a file away.
use Rattle.std.proofs.Common.{◌≡◌, ◌∙◌, ⊎_elim, ℕ, List, None, ap, arith, inl, inr, subst, sym}
use Rattle.q_model.specs.declared.spot.Area.{Area}
use Rattle.q_model.specs.SpoolFiles.{Files}
use Rattle.q_host.specs.Calls.{Changes, MayRemove, Removes, Stays}
use Rattle.q_host.specs.Files.{without_file}
use Rattle.q_host.specs.Steps.{Become, Stay}
use Rattle.q_host.specs.View.{CountsNow, Remains, View}
use Rattle.q_host.proofs.Puts.{put-here}
use Rattle.q_host.proofs.Stays.{stays_on}

-- what a crash may leave at once counts as what it may have left before
pub stays_changes : (change : Files → Files) (u v w : View) → CountsNow u → Stays u v → Changes change v w → Changes change u w
stays_changes change u v w counts p q = record {
  files = q.files ∙ ap change p.files;
  told = q.told ∙ p.told;
  goes = record {
    later = omega (arith, p.goes.later, q.goes.later);
    crash = λ z left. let y = q.goes.crash z left in let x = p.goes.crash y.0 y.1 in (x.0, x.1, both x.0 y.0 z x.2 y.2);
    nothing_else = λ t z le left. ⊎_elim
        (λ was. ⊎_elim (λ old. inl old) (λ x. inl (counts t z le (subst u.may_leave (sym x.2) x.1))) (p.goes.nothing_else t z le was))
        (λ y. let x = p.goes.crash y.0 y.1 in inr (x.0, x.1, both x.0 y.0 z x.2 y.2))
        (q.goes.nothing_else t z (omega (arith, le, p.goes.later)) left);
    keeps = λ t z le was. q.goes.keeps t z (omega (arith, le, p.goes.later)) (p.goes.keeps t z le was);
  };
}
  where
    both : (x y z : Remains) → Stay x y → Become change y z → Become change x z
    both x y z a b = subst (λ (r : Remains). Become change r z) a b

pub removed_now : (a : Area) (n : List ℕ) (v w : View) → Removes a n v w → w.files a n ≡ None
removed_now a n v w ch = ap (λ (f : Files). f a n) ch.files ∙ put-here v.files a n None

pub may_remove_on : (a : Area) (n : List ℕ) (u v w : View) → CountsNow u → Stays u v → MayRemove a n v w → MayRemove a n u w
may_remove_on a n u v w counts p (inl q) = inl (stays_changes (λ f. without_file f a n) u v w counts p q)
may_remove_on a n u v w counts p (inr q) = inr (stays_on u v w p q)
