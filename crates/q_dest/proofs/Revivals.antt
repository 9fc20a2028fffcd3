-- Sites that pass a test are changed one by one, so that they don't pass any more.
use Rattle.std.proofs.Common.{◌≡◌, ◌∙◌, ◌+◌, ◌<◌, ◌≤◌, ◌∷◌, [], ap, arith, Bool, cond, false, List, map, None, refl, Some, sym, true}
use Rattle.std.specs.Prelude.{filter, find}
use Rattle.q_dest.proofs.Changes.{at_head, behind, changed_none, changed_same, none_parts}
use Rattle.q_dest.proofs.Counts.{counted_front, counted_set}
use Rattle.q_dest.proofs.Kept.{all_kept}
use Rattle.q_dest.proofs.Settling.{other_step}
use Rattle.q_dest.specs.Counting.{count_of, one_if}
use Rattle.q_dest.specs.Dests.{AreApart, AreKept, changed_at, is_at, is_kept}
use Rattle.q_dest.specs.declared.dest.Dest.{Dest}
use Rattle.q_model.proofs.IdLaws.{site_eq-refl}
use Rattle.q_model.specs.Values.{Site}

own_step : (p : Dest → Bool) (found d : Dest) (ds : List Dest) → AreApart (d ∷ ds) → find p (d ∷ ds) ≡ Some found → (find p ds ≡ Some found → find (is_at found.known.site) ds ≡ Some found) →
    (b : Bool) → p d ≡ b → find (is_at found.known.site) (d ∷ ds) ≡ Some found
own_step p found d ds apart h more true t =
    let first : Some d ≡ Some found = sym (ap (λ b. cond b (Some d) (find p ds)) t) ∙ h in
    let same : d ≡ found = cc in
    ap (λ (x : Dest). find (is_at x.known.site) (d ∷ ds)) (sym same)
    ∙ ap (λ b. cond b (Some d) (find (is_at d.known.site) ds)) (site_eq-refl d.known.site)
    ∙ first
own_step p found d ds apart h more false t =
    let there : find p ds ≡ Some found = sym (ap (λ b. cond b (Some d) (find p ds)) t) ∙ h in
    ap (λ b. cond b (Some d) (find (is_at found.known.site) ds)) (other_step p found d ds apart there (is_at found.known.site d) refl)
    ∙ more there

-- what passes is found by its own site
pub found_own : (p : Dest → Bool) (found : Dest) (ds : List Dest) → AreApart ds → find p ds ≡ Some found → find (is_at found.known.site) ds ≡ Some found
found_own p found [] apart h = cc
found_own p found (d ∷ ds) apart h = own_step p found d ds apart h (found_own p found ds apart.1) (p d) refl

fewer_step : (p : Dest → Bool) (d : Dest) (xs ds : List Dest) → count_of p xs ≤ count_of p ds → (b : Bool) → count_of p (cond b (d ∷ xs) xs) ≤ count_of p (d ∷ ds)
fewer_step p d xs ds more true = omega (arith, counted_front p d xs, counted_front p d ds, more)
fewer_step p d xs ds more false = omega (arith, counted_front p d ds, more)

counted_fewer : (p q : Dest → Bool) (ds : List Dest) → count_of p (filter q ds) ≤ count_of p ds
counted_fewer p q [] = omega arith
counted_fewer p q (d ∷ ds) = fewer_step p d (filter q ds) ds (counted_fewer p q ds) (q d)

module _ (p : Dest → Bool) (f : Dest → Dest) where
  -- changed where it passes
  abbrev pub changed_when : Dest → Dest
  changed_when d = cond (p d) (f d) d

  -- none passes
  pub none_changed : (ds : List Dest) → find p ds ≡ None → map changed_when ds ≡ ds
  none_changed [] h = refl
  none_changed (d ∷ ds) h =
      let parts = none_parts p d ds h in
      ap (λ b. cond b (f d) d ∷ map changed_when ds) parts.0 ∙ ap (λ xs. d ∷ xs) (none_changed ds parts.1)

  -- all are changed
  pub all_changed : (ds : List Dest) → AreKept ds → find p ds ≡ None → ds ≡ filter is_kept (map changed_when ds)
  all_changed ds kept none = sym (all_kept ds kept) ∙ ap (filter is_kept) (sym (none_changed ds none))

  keep_step : (v : Dest) (ds : List Dest) → changed_when v ≡ v → AreKept ds → (b : Bool) → is_kept v ≡ b →
      filter is_kept (map changed_when (cond b (v ∷ filter is_kept ds) (filter is_kept ds))) ≡ filter is_kept (v ∷ map changed_when ds)
  keep_step v ds still kept true t =
      ap (λ xs. filter is_kept (changed_when v ∷ map changed_when xs)) (all_kept ds kept)
      ∙ ap (λ x. filter is_kept (x ∷ map changed_when ds)) still
  keep_step v ds still kept false t =
      ap (λ xs. filter is_kept (map changed_when xs)) (all_kept ds kept)
      ∙ ap (λ b. cond b (v ∷ filter is_kept (map changed_when ds)) (filter is_kept (map changed_when ds))) (sym t)

  -- One that passes is changed, and doesn't pass then.
  module _ (site : Site) (found : Dest) (passes : p found ≡ true) (fails : p (f found) ≡ false) where
    still : changed_when (f found) ≡ f found
    still = ap (λ b. cond b (f (f found)) (f found)) fails

    change : changed_when found ≡ f found
    change = ap (λ b. cond b (f found) found) passes

    rest_step : (d : Dest) (ds : List Dest) → AreApart (d ∷ ds) → AreKept (d ∷ ds) → find (is_at site) (d ∷ ds) ≡ Some found →
        (find (is_at site) ds ≡ Some found → filter is_kept (map changed_when (filter is_kept (map (changed_at site f) ds))) ≡ filter is_kept (map changed_when ds)) → (b : Bool) → is_at site d ≡ b →
        filter is_kept (map changed_when (filter is_kept (cond b (f d) d ∷ map (changed_at site f) ds))) ≡ filter is_kept (changed_when d ∷ map changed_when ds)
    rest_step d ds apart kept h more true t =
        let head = at_head site found d ds apart t h in
        ap (λ xs. filter is_kept (map changed_when (filter is_kept (f d ∷ xs)))) (changed_none site f ds head.none)
        ∙ ap (λ x. filter is_kept (map changed_when (filter is_kept (f x ∷ ds)))) head.same
        ∙ keep_step (f found) ds still kept.1 (is_kept (f found)) refl
        ∙ ap (λ x. filter is_kept (x ∷ map changed_when ds)) (sym change)
        ∙ ap (λ x. filter is_kept (changed_when x ∷ map changed_when ds)) (sym head.same)
    rest_step d ds apart kept h more false t =
        let xs = filter is_kept (map (changed_at site f) ds) in
        ap (λ b. filter is_kept (map changed_when (cond b (d ∷ xs) xs))) kept.0
        ∙ ap (λ ys. cond (is_kept (changed_when d)) (changed_when d ∷ ys) ys) (more (behind site found d ds t h))

    -- what is left to change comes to the same
    pub rest_same : (ds : List Dest) → AreApart ds → AreKept ds → find (is_at site) ds ≡ Some found →
        filter is_kept (map changed_when (filter is_kept (map (changed_at site f) ds))) ≡ filter is_kept (map changed_when ds)
    rest_same [] apart kept h = refl
    rest_same (d ∷ ds) apart kept h = rest_step d ds apart kept h (rest_same ds apart.1 kept.1) (is_at site d) refl

    -- fewer pass
    pub rest_fewer : (ds : List Dest) → AreApart ds → find (is_at site) ds ≡ Some found → count_of p (filter is_kept (map (changed_at site f) ds)) < count_of p ds
    rest_fewer ds apart h =
        let set : count_of p (map (changed_at site f) ds) + one_if (p found) ≡ count_of p ds + one_if (p (f found)) =
        ap (λ xs. count_of p xs + one_if (p found)) (sym (changed_same site f found ds apart h)) ∙ counted_set p site found (f found) ds apart h in
        let one : one_if (p found) ≡ 1 = ap one_if passes in
        let no : one_if (p (f found)) ≡ 0 = ap one_if fails in
        omega (arith, set, one, no, counted_fewer p is_kept (map (changed_at site f) ds))
