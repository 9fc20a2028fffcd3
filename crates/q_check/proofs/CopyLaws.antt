-- A copy of the names of a spool has the damage of the spool.
use Rattle.std.proofs.Common.{◌≡◌, ◌<◌, ◌+◌, ◌++◌, ◌∷◌, ◌∙◌, ◌⊎◌, [], Bool, true, false, ℕ, zero, suc, List, length, take, None, Some, Option, inl, inr, ⊎_elim, refl, sym, ap, subst, arith}
use Rattle.std.specs.List.{Contains}
use Rattle.std.specs.Option.{IsSome}
use Rattle.std.specs.Prelude.{slice_index_or}
use Rattle.std.proofs.lemmas.List.{take_more}
use Rattle.std.proofs.lemmas.List.Elements.{Contains-append_cases, Contains-append_left, Contains-append_right}
use Rattle.q_model.specs.declared.rows.Place.{Place}
use Rattle.q_model.specs.declared.rows.Place.TheVariants as places
use Rattle.q_model.specs.declared.spot.Area.{Area}
use Rattle.q_model.specs.declared.spot.Area.TheVariants as areas
use Rattle.q_model.specs.SpoolFiles.{area_of, Files}
use Rattle.q_host.specs.Files.{same_place, with_file}
use Rattle.q_host.proofs.Puts.{put-here, put-other, same_place-true}
use Rattle.q_restart.specs.Damages.{IsDamage, IsUndamaged, SpoolShows}
use Rattle.q_restart.specs.Walks.{AreAllNames, HasStanding}
use Rattle.q_restart.proofs.Lists.{has_cases, has_head, has_none}
use Rattle.q_host.specs.View.{now, Remains, View}
use Rattle.q_mem_host.specs.Left.{nothing}
use Rattle.q_model.specs.Values.{Spot}
use Rattle.q_check.specs.Copies.{AddsNames, CopiesNames, decisive, HasNoFiles}
use Rattle.q_check.specs.SpoolDamages.{IsDamageIn}

-- ---- one name more

-- a file more stands where it was put, and nowhere else
put_kept : (f : Files) (a : Area) (n : List ℕ) (b : Area) (m : List ℕ) → IsSome (f b m) → IsSome (with_file f a n [] b m)
put_kept f a n b m some = by (same_place a n b m) refl
  where
    by : (t : Bool) → same_place a n b m ≡ t → IsSome (with_file f a n [] b m)
    by true e =
        let both = same_place-true a n b m e in
        subst (λ (x : Area). IsSome (with_file f a n [] x m)) both.0 (subst (λ (y : List ℕ). IsSome (with_file f a n [] a y)) both.1 (subst IsSome (sym (put-here f a n (Some []))) refl))
    by false e = subst IsSome (sym (put-other f a n (Some []) b m e)) some

put_only : (f : Files) (a : Area) (n : List ℕ) (b : Area) (m : List ℕ) → IsSome (with_file f a n [] b m) → IsSome (f b m) ⊎ ((b ≡ a) × (m ≡ n))
put_only f a n b m some = by (same_place a n b m) refl
  where
    by : (t : Bool) → same_place a n b m ≡ t → IsSome (f b m) ⊎ ((b ≡ a) × (m ≡ n))
    by true e = let both = same_place-true a n b m e in inr (sym both.0, sym both.1)
    by false e = inl (subst IsSome (put-other f a n (Some []) b m e) some)

pub names-none : (area : Area) (f : Files) → AddsNames area [] f f
names-none area f = record {
  kept = λ a n some. some;
  there = λ n k. absurd (has_none n k);
  nothing_else = λ a n some. inl some;
}

one_name : (area : Area) (names : List (List ℕ)) (n : List ℕ) (f g h : Files) → h ≡ with_file g area n [] → AddsNames area names f g → AddsNames area (names ++ n ∷ []) f h
one_name area names n f g h is adds = subst (AddsNames area (names ++ n ∷ []) f) (sym is) (record {
  kept = λ a m some. put_kept g area n a m (adds.kept a m some);
  there = λ m k. ⊎_elim (λ before. put_kept g area n area m (adds.there m before))
      (λ here. ⊎_elim (λ (e : n ≡ m). subst (λ (x : List ℕ). IsSome (with_file g area n [] area x)) e (subst IsSome (sym (put-here g area n (Some []))) refl)) (λ none. absurd (has_none m none)) (has_cases n [] m here))
      (Contains-append_cases names (n ∷ []) m k);
  nothing_else = λ a m some. ⊎_elim (λ old. ⊎_elim (λ first. inl first) (λ p. inr (p.0, Contains-append_left names (n ∷ []) m p.1)) (adds.nothing_else a m old))
      (λ p. inr (p.0, Contains-append_right names (n ∷ []) m (subst (Contains (n ∷ [])) (sym p.1) (has_head n []))))
      (put_only g area n a m some);
})

more : {A : Type 0} (xs : List A) (i : ℕ) (x : A) → i < length xs → x ≡ slice_index_or xs i x → take (i + 1) xs ≡ take i xs ++ x ∷ []
more {A} xs i x within at = take_more xs i x within ∙ ap (λ (y : A). take i xs ++ y ∷ []) (sym at)

pub names-more : (area : Area) (names : List (List ℕ)) (i : ℕ) (n : List ℕ) (f g h : Files) → i < length names → n ≡ slice_index_or names i n → h ≡ with_file g area n []
    → AddsNames area (take i names) f g → AddsNames area (take (i + 1) names) f h
names-more area names i n f g h within at is adds = subst (λ (ns : List (List ℕ)). AddsNames area ns f h) (sym (more names i n within at)) (one_name area (take i names) n f g h is adds)

-- ---- one area more

pub copy-none : (f g : Files) → ((a : Area) (n : List ℕ) → IsSome (g a n) → ⊥) → CopiesNames [] f g
copy-none f g none = record { there = λ a n some. absurd (none a n some); all = λ a k. absurd (has_none a k) }

one_area : (these : List Area) (area : Area) (names : List (List ℕ)) (f g h : Files) → AreAllNames (f area) names → AddsNames area names g h → CopiesNames these f g → CopiesNames (these ++ area ∷ []) f h
one_area these area names f g h listed adds copies = record {
  there = λ a n some. ⊎_elim (λ old. copies.there a n old) (λ p. subst (λ (x : Area). IsSome (f x n)) (sym p.0) (listed.there n p.1)) (adds.nothing_else a n some);
  all = λ a k n some. ⊎_elim (λ before. adds.kept a n (copies.all a before n some))
      (λ here. ⊎_elim (λ (e : area ≡ a). subst (λ (x : Area). IsSome (h x n)) e (adds.there n (listed.all n (subst (λ (x : Area). IsSome (f x n)) (sym e) some)))) (λ none. absurd (has_none a none)) (has_cases area [] a here))
      (Contains-append_cases these (area ∷ []) a k);
}

at_default : {A : Type 0} (xs : List A) (i : ℕ) (d : A) → i < length xs → slice_index_or xs i d ≡ slice_index_or xs i (slice_index_or xs i d)
at_default [] i d within = absurd (omega (arith, within))
at_default (x ∷ xs) zero d within = refl
at_default (x ∷ xs) (suc i) d within = at_default xs i d (omega (arith, within))

pub copy-more : (these : List Area) (i : ℕ) (d : Area) (names : List (List ℕ)) (f g h : Files) → i < length these → AreAllNames (f (slice_index_or these i d)) names → AddsNames (slice_index_or these i d) names g h
    → CopiesNames (take i these) f g → CopiesNames (take (i + 1) these) f h
copy-more these i d names f g h within listed adds copies =
    let area = slice_index_or these i d in
    subst (λ (xs : List Area). CopiesNames xs f h) (sym (more these i area within (at_default these i d within))) (one_area (take i these) area names f g h listed adds copies)

-- ---- the damage of a copy

abbrev Within : Files → Files → Type 0
Within f g = (a : Area) → Contains decisive a → (n : List ℕ) → IsSome (f a n) → IsSome (g a n)

is_decisive : (place : Place) → Contains decisive (area_of place)
is_decisive places.Incoming = (1, omega arith, refl)
is_decisive places.Active = (2, omega arith, refl)
is_decisive (places.Deferred due) = (3, omega arith, refl)
is_decisive places.Hold = (4, omega arith, refl)
is_decisive places.Corrupt = (5, omega arith, refl)

boot_decisive : Contains decisive areas.Boot
boot_decisive = (0, omega arith, refl)

standing_over : (f g : Files) → Within f g → (s : _) → HasStanding f s → HasStanding g s
standing_over f g in_g s h = record { id = h.id; place = h.place; there = in_g (area_of s.place) (is_decisive s.place) _ h.there }

shows_over : (f g : Files) (boot : List (List ℕ)) (walk : _) → Within f g → Within g f → SpoolShows f boot walk → SpoolShows g boot walk
shows_over f g boot walk in_g in_f shows = record {
  names = record {
    sorted = shows.names.sorted;
    there = λ n k. in_g areas.Boot boot_decisive n (shows.names.there n k);
    all = λ n some. shows.names.all n (in_f areas.Boot boot_decisive n some);
  };
  files = record {
    sorted = shows.files.sorted;
    there = λ s k. standing_over f g in_g s (shows.files.there s k);
    all = λ s h. shows.files.all s (standing_over g f in_f s h);
  };
}

module _ (f g : Files) (copies : CopiesNames decisive f g) where
  pub damage-copied : (area : Area) (name : List ℕ) → IsDamage g area name → IsDamage f area name
  damage-copied area name d = record { boot = d.boot; walk = d.walk; shows = shows_over g f d.boot d.walk (λ a k n some. copies.there a n some) copies.all d.shows; is = d.is }

  pub undamaged-copied : IsUndamaged g → IsUndamaged f
  undamaged-copied sound area name d = sound area name (record { boot = d.boot; walk = d.walk; shows = shows_over f g d.boot d.walk copies.all (λ a k n some. copies.there a n some) d.shows; is = d.is })

  pub copied-damage : (o : Option Spot) → IsDamageIn g o → IsDamageIn f o
  copied-damage None sound = undamaged-copied sound
  copied-damage (Some spot) d = damage-copied spot.area spot.name d

false_true : ◌≡◌ {A = Bool} false true → ⊥
false_true e = cc

-- a host of which nothing remains has no files
pub no-files : (v : View) → now v ≡ nothing → HasNoFiles v.files
no-files v is a n some = false_true (subst (λ (r : Remains). IsSome (r.files a n)) is some)
