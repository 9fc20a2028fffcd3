-- Which leftover is the next, as leftovers leave: who stands before all others does so among fewer.
use Rattle.std.proofs.Common.{◌≡◌, Bool, true, false, List, [], ◌∷◌, Option, Some, None, ◌⊎◌, inl, inr, refl, subst, arith, if◌then◌else◌}
use Rattle.std.proofs.lemmas.Bool.Decides.{nat_tests}
use Rattle.std.proofs.lemmas.Option.{same_Some}
use Rattle.std.specs.List.{AllByRecursion, list_any}
use Rattle.std.specs.Option.{option_map_or}
use Rattle.q_laws.proofs.Distinct.{in_listed, listed_in}
use Rattle.q_laws.proofs.Members.{IsIn}
use Rattle.q_laws.specs.Consistency.{IsSyncedNext}
use Rattle.q_model.proofs.LeastIds.{least-is}
use Rattle.q_model.specs.Ids.{id_before, id_eq}
use Rattle.q_model.specs.Ledger.{Ledger}
use Rattle.q_model.specs.Leftovers.{is_leftover, leftovers}
use Rattle.q_model.specs.Lists.{least}
use Rattle.q_model.specs.declared.id.Id.{Id}

-- ---- the order of ids

before_itself : (a : Id) → id_before a a ≡ false
before_itself a = grind (arith, nat_tests)

not_both : (a b : Id) → id_before a b ≡ true → id_before b a ≡ false
not_both a b h = grind (arith, nat_tests)

between : (a b c : Id) → id_before a b ≡ false → id_before b c ≡ false → id_before a c ≡ false
between a b c h k = grind (arith, nat_tests)

-- ---- the least

least_there : (ids : List Id) (y : Id) → least id_before ids ≡ None → IsIn y ids → ⊥
least_there [] y none inside = inside
least_there (x ∷ xs) y none inside = absurd cc

lowest_on : (x z : Id) (o : Option Id) (zs : List Id) → least id_before zs ≡ o → ((v : Id) → o ≡ Some v → (y : Id) → IsIn y zs → id_before y v ≡ false) → Some (option_map_or (λ v. if id_before v z then v else z) o z) ≡ Some x →
    (y : Id) → (z ≡ y) ⊎ IsIn y zs → id_before y x ≡ false
lowest_on x z None zs none rest h y (inl e) = subst (λ i. id_before i x ≡ false) e (subst (λ i. id_before z i ≡ false) (same_Some z x h) (before_itself z))
lowest_on x z None zs none rest h y (inr k) = absurd (least_there zs y none k)
lowest_on x z (Some v) zs some rest h y k = which (id_before v z) refl (same_Some (if id_before v z then v else z) x h) k
  where
    which : (t : Bool) → id_before v z ≡ t → (if t then v else z) ≡ x → (z ≡ y) ⊎ IsIn y zs → id_before y x ≡ false
    which true e is (inl here) = subst (λ i. id_before i x ≡ false) here (subst (λ i. id_before z i ≡ false) is (not_both v z e))
    which true e is (inr there) = subst (λ i. id_before y i ≡ false) is (rest v refl y there)
    which false e is (inl here) = subst (λ i. id_before i x ≡ false) here (subst (λ i. id_before z i ≡ false) is (before_itself z))
    which false e is (inr there) = subst (λ i. id_before y i ≡ false) is (between y v z (rest v refl y there) e)

-- none stands before the least
lowest : (ids : List Id) (x : Id) → least id_before ids ≡ Some x → (y : Id) → IsIn y ids → id_before y x ≡ false
lowest [] x h y inside = absurd inside
lowest (z ∷ zs) x h y inside = lowest_on x z (least id_before zs) zs refl (λ v e. lowest zs v e) h y inside

each : (P : Id → Type 0) (ids : List Id) → ((i : Id) → IsIn i ids → P i) → AllByRecursion P ids
each P [] h = tt
each P (x ∷ xs) h = (h x (inl refl), each P xs (λ i inside. h i (inr inside)))

-- the least is so of fewer that it is one of
pub least_of_fewer : (more fewer : List Id) (x : Id) → ((i : Id) → IsIn i fewer → IsIn i more) → least id_before more ≡ Some x → IsIn x fewer → least id_before fewer ≡ Some x
least_of_fewer more fewer x within h inside = least-is fewer x (in_listed x fewer inside) (each (λ i. id_before i x ≡ false) fewer (λ i there. lowest more x h i (within i there)))

-- ---- leftovers

-- where no leftover is new and none was synced since, one that was synced is the next
pub still_next : (l k : Ledger) → ((i : Id) → is_leftover k i ≡ true → is_leftover l i ≡ true) → k.synced ≡ l.synced → ((id : Id) → IsSyncedNext l id) → (id : Id) → IsSyncedNext k id
still_next l k within same h id left was =
    least_of_fewer (leftovers l) (leftovers k) id
    (λ i inside. listed_in i (leftovers l) (within i (in_listed i (leftovers k) inside)))
    (h id (within id left) (subst (λ ids. list_any (id_eq id) ids ≡ true) same was)) (listed_in id (leftovers k) left)
