-- The file of an id, looked for by names.
use Rattle.std.proofs.Common.{◌≡◌, ◌≢◌, ◌<◌, ◌⊎◌, ◌^◌, ◌∙◌, ℕ, Bool, true, false, List, not, Some, None, Option, inl, inr, refl, sym, ap, subst, arith, true≢false}
use Rattle.std.specs.Cmp.Lexicographic.{slice_cmp}
use Rattle.std.specs.Ordering.{nat_cmp}
use Rattle.std.specs.Prelude.{is_some, IsSome}
use Rattle.std.specs.declared.cmp.Ordering.TheVariants.{Less}
use Rattle.std.proofs.lemmas.Bool.{false_from_ne_true}
use Rattle.std.proofs.lemmas.Grind.{common_steps}
use Rattle.q_host.specs.Reads.{IsAfter}
use Rattle.q_host.proofs.NamesInOrder.{either_order}
use Rattle.q_model.specs.declared.id.Id.{Id}
use Rattle.q_model.specs.declared.rows.Place.TheVariants as places
use Rattle.q_model.specs.declared.spot.Area.{Area}
use Rattle.q_model.specs.declared.spot.Area.TheVariants as areas
use Rattle.q_model.specs.contracts.id.IdPartialEq.TheImpl.{eq-value}
use Rattle.q_model.specs.IdTexts.{due_text, id_text, IsId}
use Rattle.q_model.specs.SpoolFiles.{Files}
use Rattle.q_model.proofs.SpotLaws.{due_text-injective}
use Rattle.q_scan.specs.Walks.{IsDueAhead, IsFirstDue, IsNextOf, IsWithin, Walk}
use Rattle.q_show.specs.Finding.{IsDueTime, IsFoundAt, is_file, IsNamedAt}

-- where the id's file stands in deferred, the walk will come to it
abbrev pub IsStillToCome : Files → Id → Option (List ℕ) → Type 0
IsStillToCome f id place = (due : ℕ) → due < 10 ^ 12 → is_file f id (places.Deferred due) ≡ true → IsAfter place (due_text due id)

pub to_come_none : (f : Files) (id : Id) (place : Option (List ℕ)) → place ≡ None → IsStillToCome f id place
to_come_none f id place start due fits there = subst (λ (p : Option (List ℕ)). IsAfter p (due_text due id)) (sym start) tt

due_ahead : (f : Files) (w : Walk) (id : Id) (due : ℕ) → IsId id → w.area ≡ areas.Deferred → due < 10 ^ 12 → is_file f id (places.Deferred due) ≡ true → IsAfter w.place (due_text due id) → IsDueAhead f w 999999999999 (due_text due id)
due_ahead f w id due form same fits there after = record {
  there = subst (λ (a : Area). IsSome (f a (due_text due id))) (sym same) there;
  behind = after;
  within = subst (λ (a : Area). IsWithin a 999999999999 (due_text due id)) (sym same) (due, id, record { form = form; digits = fits; says = refl }, omega (arith, fits));
}

-- it isn't the file with the next name
pub to_come_behind : (f : Files) (w : Walk) (id : Id) (x : List ℕ) → IsId id → w.area ≡ areas.Deferred → IsStillToCome f id w.place → IsFirstDue f w 999999999999 x → ((due : ℕ) → due < 10 ^ 12 → due_text due id ≢ x) → IsStillToCome f id (Some x)
to_come_behind f w id x form same still next other due fits there = by (either_order x (due_text due id))
  where
    by : (slice_cmp nat_cmp x (due_text due id) ≡ Less) ⊎ ((x ≡ due_text due id) ⊎ (slice_cmp nat_cmp (due_text due id) x ≡ Less)) → slice_cmp nat_cmp x (due_text due id) ≡ Less
    by (inl less) = less
    by (inr (inl here)) = absurd (other due fits (sym here))
    by (inr (inr more)) = absurd (next.first (due_text due id) (due_ahead f w id due form same fits there (still due fits there)) more)

-- it is that one
pub found_here : (f : Files) (w : Walk) (id : Id) (x : List ℕ) (due : ℕ) → w.area ≡ areas.Deferred → IsFirstDue f w 999999999999 x → due_text due id ≡ x → is_file f id (places.Deferred due) ≡ true
found_here f w id x due same next says = subst (λ (n : List ℕ). IsSome (f areas.Deferred n)) (sym says) (subst (λ (a : Area). IsSome (f a x)) same next.due.there)

-- no name is left
pub found_nowhere : (f : Files) (w : Walk) (id : Id) → IsId id → w.area ≡ areas.Deferred → IsStillToCome f id w.place → IsNextOf f w 999999999999 None → IsDueTime f id None
found_nowhere f w id form same still none due fits = false_from_ne_true (is_file f id (places.Deferred due)) (λ there. none (due_text due id) (due_ahead f w id due form same fits there (still due fits there)))

-- ---- names

-- a name in deferred says one moment and one id
pub one_name : (due at : ℕ) (id other : Id) (name : List ℕ) → due < 10 ^ 12 → at < 10 ^ 12 → IsId id → IsId other → due_text at other ≡ name → due_text due id ≡ name → other ≡ id
one_name due at id other name fits within form is says this = (due_text-injective at due other id within fits is form (says ∙ sym this)).1

-- an id equals itself
equal_parts : (g s : ℕ) (bounce : Bool) → eq-value.it (record { generation = g; serial = s; bounce = bounce }) (record { generation = g; serial = s; bounce = bounce }) ≡ true
equal_parts g s true = grind (arith, common_steps)
equal_parts g s false = grind (arith, common_steps)

pub not_apart : (i j : Id) → i ≡ j → not (eq-value.it i j) ≡ true → ⊥
not_apart i j same apart = true≢false (sym apart ∙ ap not (ap (λ (x : Id). eq-value.it x j) same ∙ equal_parts j.generation j.serial j.bounce))

-- ---- places

-- no file has the id's name in any other area
pub named_nowhere : (f : Files) (id : Id) → is_some (f areas.Incoming (id_text id)) ≡ false → is_some (f areas.Active (id_text id)) ≡ false → is_some (f areas.Hold (id_text id)) ≡ false → is_some (f areas.Corrupt (id_text id)) ≡ false → IsNamedAt f id None
named_nowhere f id incoming active hold corrupt places.Incoming e = incoming
named_nowhere f id incoming active hold corrupt places.Active e = active
named_nowhere f id incoming active hold corrupt places.Hold e = hold
named_nowhere f id incoming active hold corrupt places.Corrupt e = corrupt
named_nowhere f id incoming active hold corrupt (places.Deferred due) e = absurd cc

pub nowhere : (f : Files) (id : Id) → IsNamedAt f id None → IsDueTime f id None → IsFoundAt f id None
nowhere f id named due places.Incoming fits = named places.Incoming refl
nowhere f id named due places.Active fits = named places.Active refl
nowhere f id named due places.Hold fits = named places.Hold refl
nowhere f id named due places.Corrupt fits = named places.Corrupt refl
nowhere f id named due (places.Deferred moment) fits = due moment fits
