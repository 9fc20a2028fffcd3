-- What the slots of an agent show where the session of one comes, goes, or changes.
use Rattle.std.proofs.Common.{◌≡◌, ◌≢◌, ℕ, List, [], ◌∷◌, ◌++◌, map, Option, Some, None, refl, sym, ap, subst, ◌∙◌}
use Rattle.std.proofs.lemmas.List.{map-append}
use Rattle.std.specs.List.{AllByRecursion}
use Rattle.std.specs.Option.{option_and_then, option_map_or}
use Rattle.std.specs.Prelude.{IsSome}
use Rattle.slab.specs.Slab.{get, Slab, Updates}
use Rattle.q_link.specs.Views.{View}
use Rattle.q_model.proofs.EachLaws.{each-append, each-same, each-unmap}
use Rattle.q_agent.specs.Sessions.{IsSound, OpenSession}
use Rattle.q_agent.specs.Slots.{Differ, shown, shown_at, work_of}
use Rattle.q_agent.specs.declared.delivery_session.DeliverySession.{DeliverySession}
use Rattle.q_agent.specs.declared.slot.Slot.{Slot}
use Rattle.q_agent.proofs.Splits.{each_parts}

-- ---- keys

-- no slot has this key
abbrev pub Misses : ℕ → List Slot → Type 0
Misses key slots = AllByRecursion (λ (e : Slot). e.key ≢ key) slots

-- two lists of keys that differ, also from one another
record DifferParted (front back : List ℕ) : Type 0 where
  front_differ : Differ front
  back_differ : Differ back
  between : AllByRecursion (λ k. AllByRecursion (λ j. j ≢ k) back) front

differ_parts : (front back : List ℕ) → Differ (front ++ back) → DifferParted front back
differ_parts [] back d = record { front_differ = tt; back_differ = d; between = tt }
differ_parts (k ∷ front) back d =
    let others = each_parts (λ j. j ≢ k) front back d.0 in
    let rest = differ_parts front back d.1 in
    record { front_differ = (others.0, rest.front_differ); back_differ = rest.back_differ; between = (others.1, rest.between) }

differ_join : (front back : List ℕ) → DifferParted front back → Differ (front ++ back)
differ_join [] back p = p.back_differ
differ_join (k ∷ front) back p = (
  each-append (λ j. j ≢ k) front back p.front_differ.0 p.between.0,
  differ_join front back (record { front_differ = p.front_differ.1; back_differ = p.back_differ; between = p.between.1 }),
)

pub differ_without : (front : List ℕ) (k : ℕ) (back : List ℕ) → Differ (front ++ k ∷ back) → Differ (front ++ back)
differ_without front k back d =
    let p = differ_parts front (k ∷ back) d in
    differ_join front back (record { front_differ = p.front_differ; back_differ = p.back_differ.1; between = each-same (λ m. AllByRecursion (λ j. j ≢ m) (k ∷ back)) (λ m. AllByRecursion (λ j. j ≢ m) back) front (λ m h. h.1) p.between })

apart_both : (k : ℕ) (front back : List ℕ) → AllByRecursion (λ m. m ≢ k) front → AllByRecursion (λ m. AllByRecursion (λ j. j ≢ m) back) front → AllByRecursion (λ m. AllByRecursion (λ j. j ≢ m) (k ∷ back)) front
apart_both k [] back differs between = tt
apart_both k (m ∷ front) back differs between = ((λ e. differs.0 (sym e), between.0), apart_both k front back differs.1 between.1)

pub differ_with : (front : List ℕ) (k : ℕ) (back : List ℕ) → Differ (front ++ back) → AllByRecursion (λ m. m ≢ k) front → AllByRecursion (λ m. m ≢ k) back → Differ (front ++ k ∷ back)
differ_with front k back d before behind =
    let p = differ_parts front back d in
    differ_join front (k ∷ back) (record { front_differ = p.front_differ; back_differ = (behind, p.back_differ); between = apart_both k front back before p.between })

-- the slots around one have other keys
pub misses_around : (before : List Slot) (e : Slot) (behind : List Slot) → Differ (map (λ (s : Slot). s.key) (before ++ e ∷ behind)) → Misses e.key before × Misses e.key behind
misses_around before e behind d =
    let p = differ_parts (map (λ (s : Slot). s.key) before) (map (λ (s : Slot). s.key) (e ∷ behind)) (subst Differ (map-append (λ (s : Slot). s.key) before (e ∷ behind)) d) in (
      each-unmap (λ k. k ≢ e.key) (λ (s : Slot). s.key) before (each-same (λ k. AllByRecursion (λ j. j ≢ k) (e.key ∷ map (λ (s : Slot). s.key) behind)) (λ k. k ≢ e.key) (map (λ (s : Slot). s.key) before) (λ k h q. h.0 (sym q)) p.between),
      each-unmap (λ k. k ≢ e.key) (λ (s : Slot). s.key) behind p.back_differ.0,
    )

-- ---- what is shown

module _ {L : Type 0} (view : L → View) where
  -- a slot that has another key shows what it showed
  pub shown_same : (old new : Slab (DeliverySession L)) (key : ℕ) (slot : Option (DeliverySession L)) → Updates old new key slot → (e : Slot) → e.key ≢ key → shown_at view new e ≡ shown_at view old e
  shown_same old new key slot u e differs =
      ap (λ (o : Option (DeliverySession L)). record { number = e.number; recipients = option_map_or (λ (h : DeliverySession L). h.recipients) o 0; work = option_and_then (work_of view) o }) (u.others e.key differs)

  pub all_same : (old new : Slab (DeliverySession L)) (key : ℕ) (slot : Option (DeliverySession L)) → Updates old new key slot → (es : List Slot) → Misses key es → map (shown_at view new) es ≡ map (shown_at view old) es
  all_same old new key slot u [] misses = refl
  all_same old new key slot u (e ∷ es) misses =
      ap (λ (o : OpenSession). o ∷ map (shown_at view new) es) (shown_same old new key slot u e misses.0)
      ∙ ap (λ (os : List OpenSession). shown_at view old e ∷ os) (all_same old new key slot u es misses.1)

  pub shown_there : (slab : Slab (DeliverySession L)) (e : Slot) (h : DeliverySession L) → get slab e.key ≡ Some h → shown_at view slab e ≡ shown view e.number h
  shown_there slab e h is =
      ap (λ (o : Option (DeliverySession L)). record { number = e.number; recipients = option_map_or (λ (x : DeliverySession L). x.recipients) o 0; work = option_and_then (work_of view) o }) is

  -- what is there of the slots with other keys is there still
  pub there_same : (old new : Slab (DeliverySession L)) (key : ℕ) (slot : Option (DeliverySession L)) → Updates old new key slot → (es : List Slot) → Misses key es → AllByRecursion (λ (e : Slot). IsSome (get old e.key)) es → AllByRecursion (λ (e : Slot). IsSome (get new e.key)) es
  there_same old new key slot u [] misses there = tt
  there_same old new key slot u (e ∷ es) misses there = (subst IsSome (sym (u.others e.key misses.0)) there.0, there_same old new key slot u es misses.1 there.1)

  pub sound_same : (old new : Slab (DeliverySession L)) (key : ℕ) (slot : Option (DeliverySession L)) → Updates old new key slot → (es : List Slot) → Misses key es → AllByRecursion (λ (e : Slot). IsSound (shown_at view old e)) es → AllByRecursion (λ (e : Slot). IsSound (shown_at view new e)) es
  sound_same old new key slot u [] misses sound = tt
  sound_same old new key slot u (e ∷ es) misses sound = (subst IsSound (sym (shown_same old new key slot u e misses.0)) sound.0, sound_same old new key slot u es misses.1 sound.1)

  -- a slot that is vacant is none of these
  pub misses_vacant : (slab : Slab (DeliverySession L)) (key : ℕ) → get slab key ≡ None → (es : List Slot) → AllByRecursion (λ (e : Slot). IsSome (get slab e.key)) es → Misses key es
  misses_vacant slab key vacant [] there = tt
  misses_vacant slab key vacant (e ∷ es) there = (
    λ same. let none : IsSome {T = DeliverySession L} None = subst IsSome (ap (get slab) same ∙ vacant) there.0 in absurd cc,
    misses_vacant slab key vacant es there.1,
  )
