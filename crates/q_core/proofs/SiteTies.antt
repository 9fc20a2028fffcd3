-- What the counts of sites tell of rows and deliveries.
use Rattle.std.proofs.Common.{◌≡◌, ◌≤◌, ◌∙◌, ◌+◌, ◌++◌, ap, arith, Bool, cond, false, length, List, [], ◌∷◌, None, Option, option_map, refl, Some, sym, true, ℕ}
use Rattle.std.proofs.lemmas.Grind.{common_steps}
use Rattle.std.proofs.lemmas.List.{length-map, map-append}
use Rattle.std.specs.List.{list_any}
use Rattle.std.specs.Option.{option_map_or}
use Rattle.std.specs.Prelude.{◌&&◌, ◌||◌, ◌==◌, count_by, filter, find, nat_lt, not}
use Rattle.q_core.proofs.CountLaws.{counted_step}
use Rattle.q_core.proofs.ListLaws.{find-any}
use Rattle.q_core.proofs.Tallies.{tally_here}
use Rattle.q_core.specs.Known.{forgotten, known_records, site_of}
use Rattle.q_core.specs.Lists.{moved_back}
use Rattle.q_core.specs.Ties.{AreSitesTied}
use Rattle.q_core.specs.UsedSites.{busy_in, forget_in, is_dead_with, is_remembered_in, is_kept_in, is_left_in, is_unused_in, used_in, waits_at_in}
use Rattle.q_dest.specs.declared.dest.Dest.{Dest}
use Rattle.q_dest.specs.Dests.{AreApart, is_at, is_dead_waiting, is_kept, is_remembered, is_unused}
use Rattle.q_model.proofs.IdLaws.{site_eq-refl, site_eq-true}
use Rattle.q_model.specs.Lists.{drop_first}
use Rattle.q_model.specs.SiteRecords.{is_alive, is_awake}
use Rattle.q_model.specs.Sites.{site_eq}
use Rattle.q_model.specs.Values.{Site, SiteRecord}
use Rattle.q_model.specs.declared.rows.Delivery.{Delivery}
use Rattle.q_model.specs.declared.rows.Row.{Row}

-- each of these is what is found of its site
abbrev AreFound : List Dest → List Dest → Type 0
AreFound ds [] = Unit {0}
AreFound ds (e ∷ es) = (find (is_at e.known.site) ds ≡ Some e) × AreFound ds es

more_step : (d e : Dest) (ds : List Dest) (t : Bool) → is_at e.known.site d ≡ t → find (is_at d.known.site) ds ≡ None → find (is_at e.known.site) ds ≡ Some e → cond t (Some d) (find (is_at e.known.site) ds) ≡ Some e
more_step d e ds false t none h = h
more_step d e ds true t none h =
    let bad : None ≡ Some e = sym none ∙ ap (λ s. find (is_at s) ds) (site_eq-true d.known.site e.known.site t) ∙ h in cc

found_more : (d : Dest) (ds es : List Dest) → find (is_at d.known.site) ds ≡ None → AreFound ds es → AreFound (d ∷ ds) es
found_more d ds [] none h = tt
found_more d ds (e ∷ es) none h = (more_step d e ds (is_at e.known.site d) refl none h.0, found_more d ds es none h.1)

all_found : (ds : List Dest) → AreApart ds → AreFound ds ds
all_found [] h = tt
all_found (d ∷ ds) h =
    (ap (λ b. cond b (Some d) (find (is_at d.known.site) ds)) (site_eq-refl d.known.site), found_more d ds ds h.0 (all_found ds h.1))

-- each keeps as many as there are
abbrev pub AreOf : List Row → List Delivery → List Dest → Type 0
AreOf rows fs [] = Unit {0}
AreOf rows fs (d ∷ ds) = (d.waiting ≡ count_by (λ (r : Row). site_eq r.site d.known.site) rows) × (d.busy ≡ busy_in fs d.known.site) × AreOf rows fs ds

of_found : (ds es : List Dest) (rows : List Row) (fs : List Delivery) → AreSitesTied ds rows fs → AreFound ds es → AreOf rows fs es
of_found ds [] rows fs tie h = tt
of_found ds (e ∷ es) rows fs tie h = (
  tally_here site_eq site_of site_eq-true site_eq-refl (λ d. d.waiting) (λ (r : Row). r.site) ds rows e.known.site e tie.waiting h.0,
  tally_here site_eq site_of site_eq-true site_eq-refl (λ d. d.busy) (λ (f : Delivery). f.row.site) ds fs e.known.site e tie.busy h.0,
  of_found ds es rows fs tie h.1,
)

pub counts_of : (ds : List Dest) (rows : List Row) (fs : List Delivery) → AreApart ds → AreSitesTied ds rows fs → AreOf rows fs ds
counts_of ds rows fs apart tie = of_found ds ds rows fs tie (all_found ds apart)

-- what a count says

any_step : {X : Type 0} (p : X → Bool) (x : X) (xs : List X) → list_any p xs ≡ not (count_by p xs == 0) → (b : Bool) → (b || list_any p xs) ≡ not (cond b 1 0 + count_by p xs == 0)
any_step p x xs h true = grind (arith, common_steps)
any_step p x xs h false = let none : count_by p xs ≡ 0 + count_by p xs = omega arith in h ∙ ap (λ n. not (n == 0)) none

pub any_counted : {X : Type 0} (p : X → Bool) (xs : List X) → list_any p xs ≡ not (count_by p xs == 0)
any_counted p [] = refl
any_counted p (x ∷ xs) = any_step p x xs (any_counted p xs) (p x) ∙ ap (λ n. not (n == 0)) (sym (counted_step p x xs))

some_counted : (n : ℕ) → not (n == 0) ≡ true → 1 ≤ n
some_counted n h = grind (arith, common_steps, h)

-- where a delivery is in flight its site is busy
pub flies_there : (number : ℕ) (f : Delivery) (fs : List Delivery) → find (λ (g : Delivery). g.number == number) fs ≡ Some f → 1 ≤ busy_in fs f.row.site
flies_there number f fs at =
    some_counted (busy_in fs f.row.site)
    (sym (any_counted (λ (g : Delivery). site_eq g.row.site f.row.site) fs)
    ∙ find-any (λ (g : Delivery). g.number == number) (λ (g : Delivery). site_eq g.row.site f.row.site) fs f at (site_eq-refl f.row.site))

twice : (b : Bool) → not (not b) ≡ b
twice true = refl
twice false = refl

-- One site with its counts.
module _ (rows : List Row) (fs : List Delivery) (d : Dest) (waits : d.waiting ≡ count_by (λ (r : Row). site_eq r.site d.known.site) rows) (flies : d.busy ≡ busy_in fs d.known.site) where
  waits_is : waits_at_in rows d.known.site ≡ not (d.waiting == 0)
  waits_is = any_counted (λ (r : Row). site_eq r.site d.known.site) rows ∙ ap (λ n. not (n == 0)) (sym waits)

  unused_is : is_unused_in rows fs d.known.site ≡ is_unused d
  unused_is =
      ap (λ b. not b && (busy_in fs d.known.site == 0)) waits_is
      ∙ ap (λ b. b && (busy_in fs d.known.site == 0)) (twice (d.waiting == 0))
      ∙ ap (λ n. (d.waiting == 0) && (n == 0)) (sym flies)

  kept_is : is_kept_in rows fs d.known ≡ is_kept d
  kept_is = ap (λ b. not (b && not (not (is_awake d.known)))) unused_is ∙ either (is_unused d) (is_awake d.known)
    where
      either : (u a : Bool) → not (u && not (not a)) ≡ not (a && u)
      either true true = refl
      either true false = refl
      either false true = refl
      either false false = refl

  remembered_is : is_remembered_in rows fs d.known ≡ is_remembered d
  remembered_is = ap (λ b. b && not (is_awake d.known)) unused_is ∙ either (is_unused d) (not (is_awake d.known))
    where
      either : (u a : Bool) → (u && a) ≡ (a && u)
      either true true = refl
      either true false = refl
      either false true = refl
      either false false = refl

  left_is : (site : Site) → is_left_in rows fs site d.known ≡ (is_at site d && is_unused d)
  left_is site = ap (λ b. b && site_eq d.known.site site) unused_is ∙ either (is_unused d) (is_at site d)
    where
      either : (u a : Bool) → (u && a) ≡ (a && u)
      either true true = refl
      either true false = refl
      either false true = refl
      either false false = refl

  dead_waiting_is : is_dead_with rows d.known ≡ is_dead_waiting d
  dead_waiting_is = ap (λ b. not (is_alive d.known.health) && b) (waits_is ∙ more d.waiting)
    where
      more : (n : ℕ) → not (n == 0) ≡ nat_lt 0 n
      more n = grind (arith, common_steps)

-- a test of records and one of sites agree on these
abbrev AreAlike : (SiteRecord → Bool) → (Dest → Bool) → List Dest → Type 0
AreAlike t u [] = Unit {0}
AreAlike t u (d ∷ ds) = (t d.known ≡ u d) × AreAlike t u ds

-- where they do, so do what is kept, found and dropped by them
module _ (t : SiteRecord → Bool) (u : Dest → Bool) where
  kept_step : (d : Dest) (ds : List Dest) (rs : List SiteRecord) (es : List Dest) → rs ≡ known_records es → (b c : Bool) → b ≡ c → cond b (d.known ∷ rs) rs ≡ known_records (cond c (d ∷ es) es)
  kept_step d ds rs es h true true e = ap (λ xs. d.known ∷ xs) h
  kept_step d ds rs es h false false e = h
  kept_step d ds rs es h true false e = cc
  kept_step d ds rs es h false true e = cc

  pub kept_alike : (ds : List Dest) → AreAlike t u ds → filter t (known_records ds) ≡ known_records (filter u ds)
  kept_alike [] h = refl
  kept_alike (d ∷ ds) h = kept_step d ds (filter t (known_records ds)) (filter u ds) (kept_alike ds h.1) (t d.known) (u d) h.0

  drop_step : (d : Dest) (ds : List Dest) (rs : List SiteRecord) (es : List Dest) → rs ≡ known_records es → (b c : Bool) → b ≡ c → cond b (known_records ds) (d.known ∷ rs) ≡ known_records (cond c ds (d ∷ es))
  drop_step d ds rs es h true true e = refl
  drop_step d ds rs es h false false e = ap (λ xs. d.known ∷ xs) h
  drop_step d ds rs es h true false e = cc
  drop_step d ds rs es h false true e = cc

  pub dropped_alike : (ds : List Dest) → AreAlike t u ds → drop_first t (known_records ds) ≡ known_records (drop_first u ds)
  dropped_alike [] h = refl
  dropped_alike (d ∷ ds) h = drop_step d ds (drop_first t (known_records ds)) (drop_first u ds) (dropped_alike ds h.1) (t d.known) (u d) h.0

  find_step : (d : Dest) (o : Option SiteRecord) (p : Option Dest) → o ≡ option_map (λ d. d.known) p → (b c : Bool) → b ≡ c → cond b (Some d.known) o ≡ option_map (λ d. d.known) (cond c (Some d) p)
  find_step d o p h true true e = refl
  find_step d o p h false false e = h
  find_step d o p h true false e = cc
  find_step d o p h false true e = cc

  pub found_alike : (ds : List Dest) → AreAlike t u ds → find t (known_records ds) ≡ option_map (λ d. d.known) (find u ds)
  found_alike [] h = refl
  found_alike (d ∷ ds) h = find_step d (find t (known_records ds)) (find u ds) (found_alike ds h.1) (t d.known) (u d) h.0

  any_either : (b c x y : Bool) → b ≡ c → x ≡ y → (b || x) ≡ (c || y)
  any_either true true x y e h = refl
  any_either false false x y e h = h
  any_either true false x y e h = cc
  any_either false true x y e h = cc

  pub any_alike : (ds : List Dest) → AreAlike t u ds → list_any t (known_records ds) ≡ list_any u ds
  any_alike [] h = refl
  any_alike (d ∷ ds) h = any_either (t d.known) (u d) (list_any t (known_records ds)) (list_any u ds) h.0 (any_alike ds h.1)

  moved_by : (ds : List Dest) (o : Option Dest) → AreAlike t u ds → option_map_or (λ r. drop_first t (known_records ds) ++ r ∷ []) (option_map (λ d. d.known) o) (known_records ds) ≡ known_records (option_map_or (λ d. drop_first u ds ++ d ∷ []) o ds)
  moved_by ds None h = refl
  moved_by ds (Some d) h = ap (λ xs. xs ++ d.known ∷ []) (dropped_alike ds h) ∙ sym (map-append (λ (d : Dest). d.known) (drop_first u ds) (d ∷ []))

  pub moved_alike : (ds : List Dest) → AreAlike t u ds → moved_back t (known_records ds) ≡ known_records (moved_back u ds)
  moved_alike ds h = ap (λ o. option_map_or (λ r. drop_first t (known_records ds) ++ r ∷ []) o (known_records ds)) (found_alike ds h) ∙ moved_by ds (find u ds) h

-- where each agrees by its counts
alike_from : (rows : List Row) (fs : List Delivery) (t : SiteRecord → Bool) (u : Dest → Bool) → ((d : Dest) → d.waiting ≡ count_by (λ (r : Row). site_eq r.site d.known.site) rows → d.busy ≡ busy_in fs d.known.site → t d.known ≡ u d) →
    (ds : List Dest) → AreOf rows fs ds → AreAlike t u ds
alike_from rows fs t u each [] h = tt
alike_from rows fs t u each (d ∷ ds) h = (each d h.0 h.1, alike_from rows fs t u each ds h.2)

filtered_step : (d : Dest) (ds es : List Dest) (u : Dest → Bool) → list_any u ds ≡ not (length es == 0) → (b : Bool) → (b || list_any u ds) ≡ not (length (cond b (d ∷ es) es) == 0)
filtered_step d ds es u h true = grind (arith, common_steps)
filtered_step d ds es u h false = h

any_filtered : (u : Dest → Bool) (ds : List Dest) → list_any u ds ≡ not (length (filter u ds) == 0)
any_filtered u [] = refl
any_filtered u (d ∷ ds) = filtered_step d ds (filter u ds) u (any_filtered u ds) (u d)

-- The sites as the rows and the deliveries show them.
module _ (rows : List Row) (fs : List Delivery) (ds : List Dest) (counts : AreOf rows fs ds) where
  pub used_is : used_in rows fs (known_records ds) ≡ known_records (filter is_kept ds)
  used_is = kept_alike (is_kept_in rows fs) is_kept ds (alike_from rows fs (is_kept_in rows fs) is_kept (kept_is rows fs) ds counts)

  pub left_back : (site : Site) → moved_back (is_left_in rows fs site) (known_records ds) ≡ known_records (moved_back (λ d. is_at site d && is_unused d) ds)
  left_back site =
      moved_alike (is_left_in rows fs site) (λ d. is_at site d && is_unused d) ds
      (alike_from rows fs (is_left_in rows fs site) (λ d. is_at site d && is_unused d) (λ d w b. left_is rows fs d w b site) ds counts)

  pub forgotten_is : (limit : ℕ) → forget_in rows fs limit (known_records ds) ≡ known_records (forgotten limit ds)
  forgotten_is limit =
      let alike = alike_from rows fs (is_remembered_in rows fs) is_remembered (remembered_is rows fs) ds counts in
      let many : length (filter (is_remembered_in rows fs) (known_records ds)) ≡ length (filter is_remembered ds) =
      ap length (kept_alike (is_remembered_in rows fs) is_remembered ds alike) ∙ length-map (filter is_remembered ds) (λ (d : Dest). d.known) in
      ap (λ n. cond (nat_lt limit n) (drop_first (is_remembered_in rows fs) (known_records ds)) (known_records ds)) many
      ∙ ap (λ xs. cond (nat_lt limit (length (filter is_remembered ds))) xs (known_records ds)) (dropped_alike (is_remembered_in rows fs) is_remembered ds alike)
      ∙ either (nat_lt limit (length (filter is_remembered ds)))
    where
      either : (b : Bool) → cond b (known_records (drop_first is_remembered ds)) (known_records ds) ≡ known_records (cond b (drop_first is_remembered ds) ds)
      either true = refl
      either false = refl

  pub dead_waiting_any : list_any (is_dead_with rows) (known_records ds) ≡ not (length (filter is_dead_waiting ds) == 0)
  dead_waiting_any =
      any_alike (is_dead_with rows) is_dead_waiting ds (alike_from rows fs (is_dead_with rows) is_dead_waiting (dead_waiting_is rows fs) ds counts)
      ∙ any_filtered is_dead_waiting ds
