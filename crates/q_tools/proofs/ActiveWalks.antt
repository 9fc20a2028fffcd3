-- A walk over active that comes to no message.
use Rattle.std.proofs.Common.{◌≡◌, ◌≢◌, ◌⊎◌, ℕ, List, is_some, Some, None, Option, inl, inr, sym, subst}
use Rattle.std.specs.Cmp.Lexicographic.{slice_cmp}
use Rattle.std.specs.Ordering.{nat_cmp}
use Rattle.std.specs.Prelude.{IsSome}
use Rattle.std.specs.declared.cmp.Ordering.TheVariants.{Less}
use Rattle.std.proofs.lemmas.Bool.{false_from_ne_true}
use Rattle.q_host.specs.Reads.{IsAfter}
use Rattle.q_host.proofs.NamesInOrder.{either_order}
use Rattle.q_model.specs.declared.id.Id.{Id}
use Rattle.q_model.specs.declared.spot.Area.{Area}
use Rattle.q_model.specs.declared.spot.Area.TheVariants as areas
use Rattle.q_model.specs.IdTexts.{id_text, IsId}
use Rattle.q_model.specs.SpoolFiles.{Files}
use Rattle.q_scan.specs.Walks.{IsDueAhead, IsFirstDue, IsNextOf, IsWithin, Walk}
use Rattle.q_tools.specs.Resting.{HasNoneActive}

-- each message in active is one to which the walk will come
abbrev pub AreToCome : Files → Option (List ℕ) → Type 0
AreToCome f place = (id : Id) → IsId id → IsSome (f areas.Active (id_text id)) → IsAfter place (id_text id)

pub come_none : (f : Files) (place : Option (List ℕ)) → place ≡ None → AreToCome f place
come_none f place start id form there = subst (λ (p : Option (List ℕ)). IsAfter p (id_text id)) (sym start) tt

module _ (f : Files) (w : Walk) (same : w.area ≡ areas.Active) (still : AreToCome f w.place) where
  within : (n : List ℕ) → IsWithin w.area 999990000000 n
  within n = subst (λ (a : Area). IsWithin a 999990000000 n) (sym same) tt

  ahead : (id : Id) → IsId id → IsSome (f areas.Active (id_text id)) → IsDueAhead f w 999990000000 (id_text id)
  ahead id form there = record {
    there = subst (λ (a : Area). IsSome (f a (id_text id))) (sym same) there;
    behind = still id form there;
    within = within (id_text id);
  }

  -- the next name is none of a message
  pub come_behind : (x : List ℕ) → IsFirstDue f w 999990000000 x → ((id : Id) → IsId id → id_text id ≢ x) → AreToCome f (Some x)
  come_behind x next other id form there = by (either_order x (id_text id))
    where
      by : (slice_cmp nat_cmp x (id_text id) ≡ Less) ⊎ ((x ≡ id_text id) ⊎ (slice_cmp nat_cmp (id_text id) x ≡ Less)) → slice_cmp nat_cmp x (id_text id) ≡ Less
      by (inl less) = less
      by (inr (inl here)) = absurd (other id form (sym here))
      by (inr (inr more)) = absurd (next.first (id_text id) (ahead id form there) more)

  -- no name is left
  pub none_come : IsNextOf f w 999990000000 None → HasNoneActive f
  none_come none id form = false_from_ne_true (is_some (f areas.Active (id_text id))) (λ there. none (id_text id) (ahead id form there))
