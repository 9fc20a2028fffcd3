-- The session of a slot changes, goes, or comes.
use Rattle.std.proofs.Common.{◌≡◌, ◌≢◌, ℕ, suc, ◌<◌, ◌≤◌, false, List, ◌∷◌, ◌++◌, length, map, take, drop, Option, Some, None, refl, sym, ap, subst, ◌∙◌, arith, ◌==◌}
use Rattle.std.proofs.lemmas.Bool.{eqb-false}
use Rattle.std.proofs.lemmas.List.{map-append, take-append-drop}
use Rattle.std.specs.List.{AllByRecursion}
use Rattle.std.specs.Prelude.{IsSome, slice_get, insert, remove}
use Rattle.slab.specs.Slab.{get, Slab, Updates}
use Rattle.q_link.specs.Views.{View}
use Rattle.q_model.proofs.EachLaws.{any-map, each-append, each-both, each-map, each-same, none-each}
use Rattle.q_agent.specs.Places.{Parts}
use Rattle.q_agent.specs.Sessions.{IsSound, OpenSession, Rises, has_number, inserted, replaced, without}
use Rattle.q_agent.specs.Slots.{Differ, Holds, shown, shown_at}
use Rattle.q_agent.specs.declared.delivery_session.DeliverySession.{DeliverySession}
use Rattle.q_agent.specs.declared.slot.Slot.{Slot}
use Rattle.q_agent.proofs.Rising.{Around, around, rises_with, rises_without}
use Rattle.q_agent.proofs.SessionLaws.{inserted_at, replaced_at, without_at}
use Rattle.q_agent.proofs.SlotLaws.{Misses, all_same, differ_with, differ_without, misses_around, misses_vacant, shown_there, sound_same, there_same}
use Rattle.q_agent.proofs.Splits.{each_before, each_from, each_parts, parts_at}

-- another value at a key, and then nothing
pub updates_both : {T : Type 0} (old mid new : Slab T) (key : ℕ) (a b : Option T) → Updates old mid key a → Updates mid new key b → Updates old new key b
updates_both old mid new key a b u v = record { changed = v.changed; others = λ other differs. v.others other differs ∙ u.others other differs }

module _ {L : Type 0} (view : L → View) where
  -- the slots of an agent now, and what they show
  pub record Becomes (new : Slab (DeliverySession L)) (slots : List Slot) (listed : List OpenSession) : Type 0 where
    pub holds : Holds view new slots
    pub shows : map (shown_at view new) slots ≡ listed

  -- what is shown of slots around one, of which nothing changed
  shown_around : (old new : Slab (DeliverySession L)) (key : ℕ) (slot : Option (DeliverySession L)) → Updates old new key slot → (before behind : List Slot) → Misses key before → Misses key behind
      → map (shown_at view new) (before ++ behind) ≡ map (shown_at view old) before ++ map (shown_at view old) behind
  shown_around old new key slot u before behind front back =
      map-append (shown_at view new) before behind
      ∙ ap (λ (os : List OpenSession). os ++ map (shown_at view new) behind) (all_same view old new key slot u before front)
      ∙ ap (λ (os : List OpenSession). map (shown_at view old) before ++ os) (all_same view old new key slot u behind back)

  shown_with : (old new : Slab (DeliverySession L)) (before : List Slot) (e : Slot) (behind : List Slot) (h : DeliverySession L) → Updates old new e.key (Some h) → Misses e.key before → Misses e.key behind
      → map (shown_at view new) (before ++ e ∷ behind) ≡ map (shown_at view old) before ++ shown view e.number h ∷ map (shown_at view old) behind
  shown_with old new before e behind h u front back =
      map-append (shown_at view new) before (e ∷ behind)
      ∙ ap (λ (os : List OpenSession). os ++ shown_at view new e ∷ map (shown_at view new) behind) (all_same view old new e.key (Some h) u before front)
      ∙ ap (λ (o : OpenSession). map (shown_at view old) before ++ o ∷ map (shown_at view new) behind) (shown_there view new e h u.changed)
      ∙ ap (λ (os : List OpenSession). map (shown_at view old) before ++ shown view e.number h ∷ os) (all_same view old new e.key (Some h) u behind back)

  around_shown : (old : Slab (DeliverySession L)) (n : ℕ) (before behind : List Slot) → Around (λ (e : Slot). e.number) n before behind → Around (λ (o : OpenSession). o.number) n (map (shown_at view old) before) (map (shown_at view old) behind)
  around_shown old n before behind a = record {
    below = each-map (λ (e : Slot). e.number < n) (λ (o : OpenSession). o.number < n) (shown_at view old) before (λ e lt. lt) a.below;
    above = each-map (λ (e : Slot). n < e.number) (λ (o : OpenSession). n < o.number) (shown_at view old) behind (λ e lt. lt) a.above;
  }

  -- ---- another session in the place of one

  changed_parted : (old new : Slab (DeliverySession L)) (before : List Slot) (e : Slot) (behind : List Slot) (h : DeliverySession L) → Holds view old (before ++ e ∷ behind) → Updates old new e.key (Some h) → IsSound (shown view e.number h)
      → Becomes new (before ++ e ∷ behind) (replaced (shown view e.number h) (map (shown_at view old) (before ++ e ∷ behind)))
  changed_parted old new before e behind h i u sound =
      let misses = misses_around before e behind i.differ in
      let there = each_parts (λ (s : Slot). IsSome (get old s.key)) before (e ∷ behind) i.there in
      let sounds = each_parts (λ (s : Slot). IsSound (shown_at view old s)) before (e ∷ behind) i.sound in
      let a = around_shown old e.number before behind (around (λ (s : Slot). s.number) before e behind i.rise) in
      record {
        holds = record {
          rise = i.rise;
          differ = i.differ;
          there = each-append (λ (s : Slot). IsSome (get new s.key)) before (e ∷ behind) (there_same view old new e.key (Some h) u before misses.0 there.0) (subst IsSome (sym u.changed) refl, there_same view old new e.key (Some h) u behind misses.1 there.1.1);
          sound = each-append (λ (s : Slot). IsSound (shown_at view new s)) before (e ∷ behind) (sound_same view old new e.key (Some h) u before misses.0 sounds.0) (subst IsSound (sym (shown_there view new e h u.changed)) sound, sound_same view old new e.key (Some h) u behind misses.1 sounds.1.1);
        };
        shows = shown_with old new before e behind h u misses.0 misses.1
            ∙ sym (replaced_at (map (shown_at view old) before) (shown_at view old e) (shown view e.number h) (map (shown_at view old) behind) a refl)
            ∙ ap (replaced (shown view e.number h)) (sym (map-append (shown_at view old) before (e ∷ behind)));
      }

  pub changed : (old new : Slab (DeliverySession L)) (slots : List Slot) (place : ℕ) (e : Slot) (h : DeliverySession L) → Holds view old slots → slice_get slots place ≡ Some e → Updates old new e.key (Some h) → IsSound (shown view e.number h)
      → Becomes new slots (replaced (shown view e.number h) (map (shown_at view old) slots))
  changed old new slots place e h i at u sound =
      let parts = parts_at slots place e at in
      subst (λ (ss : List Slot). Becomes new ss (replaced (shown view e.number h) (map (shown_at view old) ss))) (sym parts)
      (changed_parted old new (take place slots) e (drop (suc place) slots) h (subst (Holds view old) parts i) u sound)

  -- ---- one goes

  gone_parted : (old new : Slab (DeliverySession L)) (before : List Slot) (e : Slot) (behind : List Slot) → Holds view old (before ++ e ∷ behind) → Updates old new e.key None
      → Becomes new (before ++ behind) (without e.number (map (shown_at view old) (before ++ e ∷ behind)))
  gone_parted old new before e behind i u =
      let misses = misses_around before e behind i.differ in
      let there = each_parts (λ (s : Slot). IsSome (get old s.key)) before (e ∷ behind) i.there in
      let sounds = each_parts (λ (s : Slot). IsSound (shown_at view old s)) before (e ∷ behind) i.sound in
      let a = around_shown old e.number before behind (around (λ (s : Slot). s.number) before e behind i.rise) in
      record {
        holds = record {
          rise = subst Rises (sym (map-append (λ (s : Slot). s.number) before behind)) (rises_without (map (λ (s : Slot). s.number) before) e.number (map (λ (s : Slot). s.number) behind) (subst Rises (map-append (λ (s : Slot). s.number) before (e ∷ behind)) i.rise));
          differ = subst Differ (sym (map-append (λ (s : Slot). s.key) before behind)) (differ_without (map (λ (s : Slot). s.key) before) e.key (map (λ (s : Slot). s.key) behind) (subst Differ (map-append (λ (s : Slot). s.key) before (e ∷ behind)) i.differ));
          there = each-append (λ (s : Slot). IsSome (get new s.key)) before behind (there_same view old new e.key None u before misses.0 there.0) (there_same view old new e.key None u behind misses.1 there.1.1);
          sound = each-append (λ (s : Slot). IsSound (shown_at view new s)) before behind (sound_same view old new e.key None u before misses.0 sounds.0) (sound_same view old new e.key None u behind misses.1 sounds.1.1);
        };
        shows = shown_around old new e.key None u before behind misses.0 misses.1
            ∙ sym (without_at (map (shown_at view old) before) (shown_at view old e) (map (shown_at view old) behind) a)
            ∙ ap (without e.number) (sym (map-append (shown_at view old) before (e ∷ behind)));
      }

  pub gone : (old new : Slab (DeliverySession L)) (slots : List Slot) (place : ℕ) (e : Slot) → Holds view old slots → slice_get slots place ≡ Some e → Updates old new e.key None
      → Becomes new (remove slots place) (without e.number (map (shown_at view old) slots))
  gone old new slots place e i at u =
      let parts = parts_at slots place e at in
      subst (λ (ss : List Slot). Becomes new (remove slots place) (without e.number (map (shown_at view old) ss))) (sym parts)
      (gone_parted old new (take place slots) e (drop (suc place) slots) (subst (Holds view old) parts i) u)

  -- ---- one comes

  come_parted : (old new : Slab (DeliverySession L)) (before : List Slot) (e : Slot) (behind : List Slot) (h : DeliverySession L) → Holds view old (before ++ behind) → get old e.key ≡ None → Updates old new e.key (Some h) → Around (λ (s : Slot). s.number) e.number before behind → IsSound (shown view e.number h)
      → Becomes new (before ++ e ∷ behind) (inserted (shown view e.number h) (map (shown_at view old) (before ++ behind)))
  come_parted old new before e behind h i vacant u a sound =
      let there = each_parts (λ (s : Slot). IsSome (get old s.key)) before behind i.there in
      let sounds = each_parts (λ (s : Slot). IsSound (shown_at view old s)) before behind i.sound in
      let front = misses_vacant view old e.key vacant before there.0 in
      let back = misses_vacant view old e.key vacant behind there.1 in
      record {
        holds = record {
          rise = subst Rises (sym (map-append (λ (s : Slot). s.number) before (e ∷ behind)))
              (rises_with (map (λ (s : Slot). s.number) before) e.number (map (λ (s : Slot). s.number) behind) (subst Rises (map-append (λ (s : Slot). s.number) before behind) i.rise)
              (each-map (λ (s : Slot). s.number < e.number) (λ n. n < e.number) (λ (s : Slot). s.number) before (λ s lt. lt) a.below) (each-map (λ (s : Slot). e.number < s.number) (λ n. e.number < n) (λ (s : Slot). s.number) behind (λ s lt. lt) a.above));
          differ = subst Differ (sym (map-append (λ (s : Slot). s.key) before (e ∷ behind)))
              (differ_with (map (λ (s : Slot). s.key) before) e.key (map (λ (s : Slot). s.key) behind) (subst Differ (map-append (λ (s : Slot). s.key) before behind) i.differ)
              (each-map (λ (s : Slot). s.key ≢ e.key) (λ k. k ≢ e.key) (λ (s : Slot). s.key) before (λ s d. d) front) (each-map (λ (s : Slot). s.key ≢ e.key) (λ k. k ≢ e.key) (λ (s : Slot). s.key) behind (λ s d. d) back));
          there = each-append (λ (s : Slot). IsSome (get new s.key)) before (e ∷ behind) (there_same view old new e.key (Some h) u before front there.0) (subst IsSome (sym u.changed) refl, there_same view old new e.key (Some h) u behind back there.1);
          sound = each-append (λ (s : Slot). IsSound (shown_at view new s)) before (e ∷ behind) (sound_same view old new e.key (Some h) u before front sounds.0) (subst IsSound (sym (shown_there view new e h u.changed)) sound, sound_same view old new e.key (Some h) u behind back sounds.1);
        };
        shows = shown_with old new before e behind h u front back
            ∙ sym (inserted_at (map (shown_at view old) before) (shown view e.number h) (map (shown_at view old) behind) (around_shown old e.number before behind a))
            ∙ ap (inserted (shown view e.number h)) (sym (map-append (shown_at view old) before behind));
      }

  -- the place behind the numbers up to one that no session has is between those below and those above it
  place_between : (slab : Slab (DeliverySession L)) (slots : List Slot) (n place : ℕ) → place ≤ length slots → Parts n slots place → has_number n (map (shown_at view slab) slots) ≡ false
      → Around (λ (e : Slot). e.number) n (take place slots) (drop place slots)
  place_between slab slots n place within point fresh =
      let none = none-each (λ (e : Slot). e.number == n) slots (sym (any-map (λ (o : OpenSession). o.number == n) (shown_at view slab) slots) ∙ fresh) in
      let differ = each_parts (λ (e : Slot). (e.number == n) ≡ false) (take place slots) (drop place slots) (subst (AllByRecursion (λ (e : Slot). (e.number == n) ≡ false)) (sym (take-append-drop place slots)) none) in
      let up_to = each_before (λ (e : Slot). e.number ≤ n) slots place (λ k d lt. point.0 k d (omega arith) lt) within in
      record {
        below = each-same (λ (e : Slot). (e.number ≤ n) × ((e.number == n) ≡ false)) (λ (e : Slot). e.number < n) (take place slots) (λ e h. let other : e.number ≢ n = eqb-false e.number n h.1 in omega (arith, h.0, other))
            (each-both (λ (e : Slot). e.number ≤ n) (λ (e : Slot). (e.number == n) ≡ false) (take place slots) up_to differ.0);
        above = each_from (λ (e : Slot). n < e.number) slots place (λ k d ge lt. point.1 k d ge lt);
      }

  pub come : (old new : Slab (DeliverySession L)) (slots : List Slot) (place : ℕ) (e : Slot) (h : DeliverySession L) → Holds view old slots → get old e.key ≡ None → Updates old new e.key (Some h)
      → place ≤ length slots → Parts e.number slots place → has_number e.number (map (shown_at view old) slots) ≡ false → IsSound (shown view e.number h)
      → Becomes new (insert slots place e) (inserted (shown view e.number h) (map (shown_at view old) slots))
  come old new slots place e h i vacant u within point fresh sound =
      let parts = take-append-drop place slots in
      subst (λ (ss : List Slot). Becomes new (insert slots place e) (inserted (shown view e.number h) (map (shown_at view old) ss))) parts
      (come_parted old new (take place slots) e (drop place slots) h (subst (Holds view old) (sym parts) i) vacant u (place_between old slots e.number place within point fresh) sound)

  -- the list before and behind, where one is changed
  pub shown_at_parts : (old new : Slab (DeliverySession L)) (slots : List Slot) (place : ℕ) (e : Slot) (h g : DeliverySession L) → Holds view old slots → slice_get slots place ≡ Some e → get old e.key ≡ Some h → Updates old new e.key (Some g)
      → (map (shown_at view old) slots ≡ map (shown_at view old) (take place slots) ++ shown view e.number h ∷ map (shown_at view old) (drop (suc place) slots))
      × (map (shown_at view new) slots ≡ map (shown_at view old) (take place slots) ++ shown view e.number g ∷ map (shown_at view old) (drop (suc place) slots))
  shown_at_parts old new slots place e h g i at there u =
      let parts = parts_at slots place e at in
      let front = take place slots in
      let back = drop (suc place) slots in
      let misses = misses_around front e back (subst (Holds view old) parts i).differ in (
        ap (map (shown_at view old)) parts ∙ map-append (shown_at view old) front (e ∷ back) ∙ ap (λ (o : OpenSession). map (shown_at view old) front ++ o ∷ map (shown_at view old) back) (shown_there view old e h there),
        ap (map (shown_at view new)) parts ∙ shown_with old new front e back g u misses.0 misses.1,
      )
