-- The counts of sites go on to be those of rows and deliveries as these come, move and go.
use Rattle.std.proofs.Common.{◌≡◌, ◌∙◌, ◌+◌, ◌≤◌, ◌++◌, ap, arith, Bool, cond, false, length, List, [], ◌∷◌, map, None, refl, Some, subst, sym, true, ℕ}
use Rattle.std.proofs.lemmas.Grind.{common_steps}
use Rattle.std.proofs.lemmas.List.{length-append, length-map, map-append}
use Rattle.std.specs.List.{list_any, remove}
use Rattle.std.specs.Prelude.{◌&&◌, ◌||◌, ◌==◌, count_by, filter, find, nat_lt, not, slice_get}
use Rattle.q_core.proofs.CountLaws.{count_without}
use Rattle.q_core.proofs.Tallies.{keyed_mapped, keyed_moved, tally_comes, tally_dropped, tally_fewer, tally_filtered, tally_first, tally_mapped, tally_more, tally_moved, tally_there}
use Rattle.q_flights.proofs.Rising.{count_left}
use Rattle.q_flights.specs.Flying.{AreRising}
use Rattle.q_core.specs.Known.{forgotten, known_records, site_of}
use Rattle.q_core.specs.Lists.{moved_back}
use Rattle.q_core.specs.Ties.{AreBusyTied, AreSitesTied, AreWaitingTied}
use Rattle.q_dest.specs.declared.dest.Dest.{Dest}
use Rattle.q_dest.specs.Dests.{AreApart, begun, changed_at, gained, heard, is_at, is_kept, is_remembered, is_unused, landed, left, settled}
use Rattle.q_dest.proofs.Hearing.{heard_in_site}
use Rattle.q_model.proofs.IdLaws.{site_eq-refl, site_eq-true}
use Rattle.q_model.specs.Lists.{drop_first}
use Rattle.q_model.specs.Settings.{Settings}
use Rattle.q_model.specs.SiteRecords.{is_awake}
use Rattle.q_model.specs.Sites.{site_eq}
use Rattle.q_model.specs.Values.{Site}
use Rattle.q_model.specs.declared.outcome.SiteState.{SiteState}
use Rattle.q_model.specs.declared.rows.Delivery.{Delivery}
use Rattle.q_model.specs.declared.rows.Row.{Row}

-- changes that leave what is known of a site

pub known_step : (g : Dest → Dest) → ((d : Dest) → (g d).known ≡ d.known) → (d : Dest) (b : Bool) → (cond b (g d) d).known ≡ d.known
known_step g same d true = same d
known_step g same d false = refl

pub known_stays : (site : Site) (g : Dest → Dest) → ((d : Dest) → (g d).known ≡ d.known) → (xs : List Dest) → known_records (map (changed_at site g) xs) ≡ known_records xs
known_stays site g same [] = refl
known_stays site g same (d ∷ xs) = ap (λ k. k ∷ known_records (map (changed_at site g) xs)) (known_step g same d (is_at site d)) ∙ ap (λ ks. d.known ∷ ks) (known_stays site g same xs)

-- what goes has no counts

unused_parts : (w b : ℕ) → ((w == 0) && (b == 0)) ≡ true → (w ≡ 0) × (b ≡ 0)
unused_parts w b h = (grind (arith, common_steps, h), grind (arith, common_steps, h))

spent_step : (alive : Bool) (w b : ℕ) → not (alive && ((w == 0) && (b == 0))) ≡ false → (w ≡ 0) × (b ≡ 0)
spent_step true w b h = unused_parts w b (turned ((w == 0) && (b == 0)) h)
  where
    turned : (t : Bool) → not t ≡ false → t ≡ true
    turned true h = refl
    turned false h = cc
spent_step false w b h = cc

spent_none : (d : Dest) → is_kept d ≡ false → (d.waiting ≡ 0) × (d.busy ≡ 0)
spent_none d h = spent_step (is_awake d.known) d.waiting d.busy h

remembered_step : (dead : Bool) (w b : ℕ) → (dead && ((w == 0) && (b == 0))) ≡ true → (w ≡ 0) × (b ≡ 0)
remembered_step true w b h = unused_parts w b h
remembered_step false w b h = cc

pub remembered_none : (d : Dest) → is_remembered d ≡ true → (d.waiting ≡ 0) × (d.busy ≡ 0)
remembered_none d h = remembered_step (not (is_awake d.known)) d.waiting d.busy h

module _ (rows : List Row) (fs : List Delivery) where
  -- changes that leave sites and counts
  pub sites_same : (f : Dest → Dest) → ((d : Dest) → (f d).known.site ≡ d.known.site) → ((d : Dest) → (f d).waiting ≡ d.waiting) → ((d : Dest) → (f d).busy ≡ d.busy) → (ds : List Dest) → AreSitesTied ds rows fs → AreSitesTied (map f ds) rows fs
  sites_same f stays waits flies ds tie = record {
    waiting = tally_mapped site_eq site_of site_eq-true site_eq-refl (λ d. d.waiting) f stays waits (λ (r : Row). r.site) ds rows tie.waiting;
    busy = tally_mapped site_eq site_of site_eq-true site_eq-refl (λ d. d.busy) f stays flies (λ (g : Delivery). g.row.site) ds fs tie.busy;
  }

  -- those that are alive and unused go
  pub sites_kept : (ds : List Dest) → AreApart ds → AreSitesTied ds rows fs → AreSitesTied (filter is_kept ds) rows fs
  sites_kept ds apart tie = record {
    waiting = tally_filtered site_eq site_of site_eq-true site_eq-refl (λ d. d.waiting) is_kept (λ (r : Row). r.site) ds rows (λ d h. (spent_none d h).0) apart tie.waiting;
    busy = tally_filtered site_eq site_of site_eq-true site_eq-refl (λ d. d.busy) is_kept (λ (g : Delivery). g.row.site) ds fs (λ d h. (spent_none d h).1) apart tie.busy;
  }

  pub sites_moved : (test : Dest → Bool) (ds : List Dest) → AreApart ds → AreSitesTied ds rows fs → AreSitesTied (moved_back test ds) rows fs
  sites_moved test ds apart tie = record {
    waiting = tally_moved site_eq site_of site_eq-true site_eq-refl (λ d. d.waiting) test (λ (r : Row). r.site) ds rows apart tie.waiting;
    busy = tally_moved site_eq site_of site_eq-true site_eq-refl (λ d. d.busy) test (λ (g : Delivery). g.row.site) ds fs apart tie.busy;
  }

  pub sites_forgotten : (limit : ℕ) (ds : List Dest) → AreApart ds → AreSitesTied ds rows fs → AreSitesTied (forgotten limit ds) rows fs
  sites_forgotten limit ds apart tie = either (nat_lt limit (length (filter is_remembered ds)))
    where
      either : (b : Bool) → AreSitesTied (cond b (drop_first is_remembered ds) ds) rows fs
      either true = record {
        waiting = tally_dropped site_eq site_of site_eq-true site_eq-refl (λ d. d.waiting) is_remembered (λ (r : Row). r.site) ds rows (λ d h. (remembered_none d h).0) apart tie.waiting;
        busy = tally_dropped site_eq site_of site_eq-true site_eq-refl (λ d. d.busy) is_remembered (λ (g : Delivery). g.row.site) ds fs (λ d h. (remembered_none d h).1) apart tie.busy;
      }
      either false = tie

  -- the site that was changed goes behind all others, or out, where it is unused
  pub sites_settled : (site : Site) (f : Dest → Dest) → ((d : Dest) → (f d).known.site ≡ d.known.site) → (ds : List Dest) → AreApart ds → AreSitesTied (map (changed_at site f) ds) rows fs → AreSitesTied (filter is_kept (settled site f ds)) rows fs
  sites_settled site f stays ds apart tie =
      let changed = map (changed_at site f) ds in
      let keyed : AreApart changed = keyed_mapped site_eq site_of site_eq-true site_eq-refl (changed_at site f) (λ d. at_stays d (is_at site d)) ds apart in
      let test = λ (d : Dest). is_at site d && is_unused d in
      sites_kept (moved_back test changed) (keyed_moved site_eq site_of site_eq-true site_eq-refl test changed keyed) (sites_moved test changed keyed tie)
    where
      at_stays : (d : Dest) (b : Bool) → (cond b (f d) d).known.site ≡ d.known.site
      at_stays d true = stays d
      at_stays d false = refl

heard_site : (p : Settings) (now : ℕ) (state : SiteState) (d : Dest) (b : Bool) → (cond b (heard p now state d) d).known.site ≡ d.known.site
heard_site p now state d true = heard_in_site p d.busy now state d.known
heard_site p now state d false = refl

heard_counts : (p : Settings) (now : ℕ) (state : SiteState) (d : Dest) (b : Bool) → let x = cond b (heard p now state d) d in (x.waiting ≡ d.waiting) × (x.busy ≡ d.busy)
heard_counts p now state d true = (refl, refl)
heard_counts p now state d false = (refl, refl)

-- a site hears of a delivery
pub sites_heard : (rows : List Row) (fs : List Delivery) (p : Settings) (site : Site) (now : ℕ) (state : SiteState) (ds : List Dest) → AreSitesTied ds rows fs → AreSitesTied (map (changed_at site (heard p now state)) ds) rows fs
sites_heard rows fs p site now state ds tie =
    sites_same rows fs (changed_at site (heard p now state)) (λ d. heard_site p now state d (is_at site d)) (λ d. (heard_counts p now state d (is_at site d)).0) (λ d. (heard_counts p now state d (is_at site d)).1) ds tie

-- a row waits no more
pub sites_left : (rows : List Row) (i : ℕ) (row : Row) (fs : List Delivery) (ds : List Dest) → slice_get rows i ≡ Some row → AreSitesTied ds rows fs → AreSitesTied (map (changed_at row.site left) ds) (remove rows i) fs
sites_left rows i row fs ds at tie =
    let there = tally_there site_eq site_of site_eq-true site_eq-refl (λ d. d.waiting) (λ (r : Row). r.site) ds rows row.site (count_by (λ (r : Row). site_eq r.site row.site) (remove rows i)) tie.waiting
    (count_without (λ (r : Row). site_eq r.site row.site) rows i row at ∙ ap (λ b. count_by (λ (r : Row). site_eq r.site row.site) (remove rows i) + cond b 1 0) (site_eq-refl row.site)) in
    record {
      waiting = tally_fewer site_eq site_of site_eq-true site_eq-refl (λ d. d.waiting) (λ (r : Row). r.site) left (λ d. refl) ds rows row.site row there.0 tie.waiting refl there.1 (remove rows i) (λ p. count_without p rows i row at) refl;
      busy = tally_mapped site_eq site_of site_eq-true site_eq-refl (λ d. d.busy) (changed_at row.site left) (λ d. stays (is_at row.site d) d) (λ d. flies (is_at row.site d) d) (λ (g : Delivery). g.row.site) ds fs tie.busy;
    }
  where
    stays : (b : Bool) (d : Dest) → (cond b (left d) d).known.site ≡ d.known.site
    stays true d = refl
    stays false d = refl

    flies : (b : Bool) (d : Dest) → (cond b (left d) d).busy ≡ d.busy
    flies true d = refl
    flies false d = refl

-- a row that waited is in flight
pub sites_begun : (rows : List Row) (i : ℕ) (row : Row) (number : ℕ) (fs : List Delivery) (ds : List Dest) → slice_get rows i ≡ Some row → AreSitesTied ds rows fs →
    AreSitesTied (map (changed_at row.site begun) ds) (remove rows i) (fs ++ record { number = number; row = row } ∷ [])
sites_begun rows i row number fs ds at tie =
    let there = tally_there site_eq site_of site_eq-true site_eq-refl (λ d. d.waiting) (λ (r : Row). r.site) ds rows row.site (count_by (λ (r : Row). site_eq r.site row.site) (remove rows i)) tie.waiting
    (count_without (λ (r : Row). site_eq r.site row.site) rows i row at ∙ ap (λ b. count_by (λ (r : Row). site_eq r.site row.site) (remove rows i) + cond b 1 0) (site_eq-refl row.site)) in
    record {
      waiting = tally_fewer site_eq site_of site_eq-true site_eq-refl (λ d. d.waiting) (λ (r : Row). r.site) begun (λ d. refl) ds rows row.site row there.0 tie.waiting refl there.1 (remove rows i) (λ p. count_without p rows i row at) refl;
      busy = tally_comes site_eq site_of site_eq-true site_eq-refl (λ d. d.busy) (λ (g : Delivery). g.row.site) begun (λ d. refl) ds fs row.site (record { number = number; row = row }) there.0 tie.busy refl there.1 refl;
    }

-- a delivery is over
pub sites_landed : (rows : List Row) (fs : List Delivery) (number : ℕ) (f : Delivery) (ds : List Dest) → AreRising fs → find (λ (x : Delivery). x.number == number) fs ≡ Some f → AreSitesTied ds rows fs →
    AreSitesTied (map (changed_at f.row.site landed) ds) rows (filter (λ (x : Delivery). not (x.number == number)) fs)
sites_landed rows fs number f ds rise at tie =
    let left = filter (λ (x : Delivery). not (x.number == number)) fs in
    let there = tally_there site_eq site_of site_eq-true site_eq-refl (λ d. d.busy) (λ (g : Delivery). g.row.site) ds fs f.row.site (count_by (λ (g : Delivery). site_eq g.row.site f.row.site) left) tie.busy
    (count_left (λ (g : Delivery). site_eq g.row.site f.row.site) number fs f rise at ∙ ap (λ b. count_by (λ (g : Delivery). site_eq g.row.site f.row.site) left + cond b 1 0) (site_eq-refl f.row.site)) in
    record {
      waiting = tally_mapped site_eq site_of site_eq-true site_eq-refl (λ d. d.waiting) (changed_at f.row.site landed) (λ d. stays (is_at f.row.site d) d) (λ d. waits (is_at f.row.site d) d) (λ (r : Row). r.site) ds rows tie.waiting;
      busy = tally_fewer site_eq site_of site_eq-true site_eq-refl (λ d. d.busy) (λ (g : Delivery). g.row.site) landed (λ d. refl) ds fs f.row.site f there.0 tie.busy refl there.1 left (λ p. count_left p number fs f rise at) refl;
    }
  where
    stays : (b : Bool) (d : Dest) → (cond b (landed d) d).known.site ≡ d.known.site
    stays true d = refl
    stays false d = refl

    waits : (b : Bool) (d : Dest) → (cond b (landed d) d).waiting ≡ d.waiting
    waits true d = refl
    waits false d = refl

-- a row more waits for a site

found_step : (p : Dest → Bool) (d : Dest) (ds : List Dest) → (list_any p ds ≡ true → (x : Dest) × (find p ds ≡ Some x)) → (b : Bool) → (b || list_any p ds) ≡ true → (x : Dest) × (cond b (Some d) (find p ds) ≡ Some x)
found_step p d ds rest true h = (d, refl)
found_step p d ds rest false h = rest h

any_found : (p : Dest → Bool) (ds : List Dest) → list_any p ds ≡ true → (x : Dest) × (find p ds ≡ Some x)
any_found p [] h = cc
any_found p (d ∷ ds) h = found_step p d ds (any_found p ds) (p d) h

absent_step : (p : Dest → Bool) (d : Dest) (ds : List Dest) → (list_any p ds ≡ false → find p ds ≡ None) → (b : Bool) → (b || list_any p ds) ≡ false → cond b (Some d) (find p ds) ≡ None
absent_step p d ds rest true h = cc
absent_step p d ds rest false h = rest h

none_found : (p : Dest → Bool) (ds : List Dest) → list_any p ds ≡ false → find p ds ≡ None
none_found p [] h = refl
none_found p (d ∷ ds) h = absent_step p d ds (none_found p ds) (p d) h

-- with a new site where it has no record
module _ (r : Row) (ds : List Dest) (new : Dest) (own : new.known.site ≡ r.site) where
  abbrev pub with_row : Bool → List Dest
  with_row b = cond b (map (changed_at r.site (gained 1)) ds) (ds ++ new ∷ [])

  pub waiting_gained : (rows : List Row) → new.waiting ≡ 1 → AreWaitingTied ds rows → (b : Bool) → list_any (is_at r.site) ds ≡ b → AreWaitingTied (with_row b) (rows ++ r ∷ [])
  waiting_gained rows one tie true t =
      let there = any_found (is_at r.site) ds t in
      tally_comes site_eq site_of site_eq-true site_eq-refl (λ d. d.waiting) (λ (x : Row). x.site) (gained 1) (λ d. refl) ds rows r.site r there.0 tie refl there.1 refl
  waiting_gained rows one tie false t =
      tally_first site_eq site_of site_eq-true site_eq-refl (λ d. d.waiting) (λ (x : Row). x.site) ds rows new r tie (ap (λ s. find (is_at s) ds) own ∙ none_found (is_at r.site) ds t) one (sym own)

  gained_stays : (b : Bool) (d : Dest) → (cond b (gained 1 d) d).known.site ≡ d.known.site
  gained_stays true d = refl
  gained_stays false d = refl

  gained_flies : (b : Bool) (d : Dest) → (cond b (gained 1 d) d).busy ≡ d.busy
  gained_flies true d = refl
  gained_flies false d = refl

  pub busy_gained : (fs : List Delivery) → new.busy ≡ 0 → AreBusyTied ds fs → (b : Bool) → AreBusyTied (with_row b) fs
  busy_gained fs none tie true =
      tally_mapped site_eq site_of site_eq-true site_eq-refl (λ d. d.busy) (changed_at r.site (gained 1)) (λ d. gained_stays (is_at r.site d) d) (λ d. gained_flies (is_at r.site d) d) (λ (g : Delivery). g.row.site) ds fs tie
  busy_gained fs none tie false = tally_more site_eq site_of site_eq-true site_eq-refl (λ d. d.busy) (λ (g : Delivery). g.row.site) ds fs new none tie

  pub known_gained : (b : Bool) → known_records (with_row b) ≡ cond b (known_records ds) (known_records ds ++ new.known ∷ [])
  known_gained true = known_stays r.site (gained 1) (λ d. refl) ds
  known_gained false = map-append (λ (d : Dest). d.known) ds (new ∷ [])

  pub one_site_more : (b : Bool) → length (with_row b) ≤ length ds + 1
  one_site_more true = let same = length-map ds (changed_at r.site (gained 1)) in omega (arith, same)
  one_site_more false = let all = length-append ds (new ∷ []) in omega (arith, all)

-- at the beginning there is nothing
pub sites_new : (ds : List Dest) (rows : List Row) (fs : List Delivery) → ds ≡ [] → rows ≡ [] → fs ≡ [] → AreSitesTied ds rows fs
sites_new ds rows fs d r f =
    subst (λ x. AreSitesTied x rows fs) (sym d) (subst (λ x. AreSitesTied [] x fs) (sym r) (subst (λ x. AreSitesTied [] [] x) (sym f) (record { waiting = λ k. refl; busy = λ k. refl })))
