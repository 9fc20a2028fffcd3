-- The records of sites as a ledger sees them, where the sites with their counts change.
use Rattle.std.proofs.Common.{◌≡◌, ◌∙◌, ap, Bool, cond, false, List, [], ◌∷◌, map, None, Option, option_map, refl, Some, sym, true, ℕ}
use Rattle.std.proofs.lemmas.List.{append_assoc}
use Rattle.std.proofs.lemmas.List.Folds.{list_any-append}
use Rattle.std.specs.List.{list_any}
use Rattle.std.specs.Option.{option_map_or}
use Rattle.std.specs.Prelude.{◌&&◌, ◌||◌, ◌++◌, filter, find, if◌then◌else◌, nat_lt, not, slice_get}
use Rattle.q_dest.proofs.Hearing.{woken_due_site}
use Rattle.q_core.proofs.ListLaws.{find-map, list_any-map}
use Rattle.q_core.proofs.SiteChanges.{known_stays, known_step, sites_moved, sites_same}
use Rattle.q_core.proofs.SiteTies.{AreOf, counts_of, left_back, used_is}
use Rattle.q_core.proofs.Tallies.{keyed_mapped, keyed_moved}
use Rattle.q_core.specs.Known.{known_records, site_of}
use Rattle.q_core.specs.Leaving.{heard_at}
use Rattle.q_core.specs.Lists.{moved_back}
use Rattle.q_core.specs.Loading.{has_record, with_site}
use Rattle.q_core.specs.Queries.{record_behind, records_behind}
use Rattle.q_core.specs.Ties.{AreBusyTied, AreSitesTied}
use Rattle.q_core.specs.UsedSites.{busy_in, is_left_in, revive_dead_in, wake_due_in, used_in}
use Rattle.q_dest.specs.declared.dest.Dest.{Dest}
use Rattle.q_dest.specs.Dests.{AreApart, AreKept, behind_dests, changed_at, first_dest, has_space, heard, is_at, is_dead, is_kept, is_unused, revived_when_dead, woken_when_due, settled, woken, woken_in, is_due_at}
use Rattle.q_dest.specs.Windows.{heard_in}
use Rattle.q_model.proofs.IdLaws.{site_eq-refl, site_eq-true}
use Rattle.q_model.specs.Revival.{is_due, is_rest_over, rest_ended}
use Rattle.q_model.specs.Routes.{world_without_table}
use Rattle.q_model.specs.Settings.{Settings}
use Rattle.q_model.specs.SiteRecords.{is_alive, new_record, is_awake}
use Rattle.q_model.specs.Sites.{site_eq}
use Rattle.q_model.specs.Values.{Site, SiteRecord}
use Rattle.q_model.specs.Windows.{revived}
use Rattle.q_model.specs.declared.outcome.SiteState.{SiteState}
use Rattle.q_model.specs.declared.rows.Delivery.{Delivery}
use Rattle.q_model.specs.declared.rows.Row.{Row}

mapped_known : (rows : List Row) (fs : List Delivery) (f : Dest → Dest) (h : SiteRecord → SiteRecord) → ((d : Dest) → d.busy ≡ busy_in fs d.known.site → (f d).known ≡ h d.known) → (ds : List Dest) → AreOf rows fs ds → known_records (map f ds) ≡ map h (known_records ds)
mapped_known rows fs f h each [] c = refl
mapped_known rows fs f h each (d ∷ ds) c = ap (λ k. k ∷ known_records (map f ds)) (each d c.1) ∙ ap (λ ks. h d.known ∷ ks) (mapped_known rows fs f h each ds c.2)

-- Sites that are tied to these rows and deliveries.
module _ (rows : List Row) (fs : List Delivery) (ds : List Dest) (apart : AreApart ds) (tie : AreSitesTied ds rows fs) where
  -- a change of each, after which those go that nothing goes to
  module _ (f : Dest → Dest) (h : SiteRecord → SiteRecord) (each : (d : Dest) → d.busy ≡ busy_in fs d.known.site → (f d).known ≡ h d.known)
      (stays : (d : Dest) → (f d).known.site ≡ d.known.site) (waits : (d : Dest) → (f d).waiting ≡ d.waiting) (flies : (d : Dest) → (f d).busy ≡ d.busy) where
    changed_used : known_records (filter is_kept (map f ds)) ≡ used_in rows fs (map h (known_records ds))
    changed_used =
        let keyed : AreApart (map f ds) = keyed_mapped site_eq site_of site_eq-true site_eq-refl f stays ds apart in
        sym (used_is rows fs (map f ds) (counts_of (map f ds) rows fs keyed (sites_same rows fs f stays waits flies ds tie)))
        ∙ ap (used_in rows fs) (mapped_known rows fs f h each ds (counts_of ds rows fs apart tie))

  -- dead sites whose time has come
  due_each : (p : Settings) (moment : ℕ) (d : Dest) → d.busy ≡ busy_in fs d.known.site → (b : Bool) → (cond b (record d { known = revived (world_without_table p) d.busy d.known }) d).known ≡ cond b (revived (world_without_table p) (busy_in fs d.known.site) d.known) d.known
  due_each p moment d e true = ap (λ n. revived (world_without_table p) n d.known) e
  due_each p moment d e false = refl

  alike : (p : Settings) (d : Dest) (b : Bool) → let x = cond b (record d { known = revived (world_without_table p) d.busy d.known }) d in (x.known.site ≡ d.known.site) × (x.waiting ≡ d.waiting) × (x.busy ≡ d.busy)
  alike p d true = (refl, refl, refl)
  alike p d false = (refl, refl, refl)

  -- sites that wake where it is time
  woken_each : (p : Settings) (moment : ℕ) (d : Dest) → d.busy ≡ busy_in fs d.known.site → (a b : Bool) → is_due moment d.known.health ≡ a → is_rest_over moment d.known ≡ b → (cond (a || b) (woken p moment d) d).known ≡ wake_due_in p fs moment d.known
  woken_each p moment d e true b h k = ap (λ n. woken_in p n moment d.known) e
  woken_each p moment d e false true h k = ap (λ n. woken_in p n moment d.known) e
  woken_each p moment d e false false h k =
      sym (ap (λ t. rest_ended moment (if t then revived (world_without_table p) (busy_in fs d.known.site) d.known else d.known)) h
      ∙ ap (λ t. if t then record d.known { rest = None } else d.known) k)

  woken_waits : (p : Settings) (moment : ℕ) (d : Dest) (b : Bool) → ((cond b (woken p moment d) d).waiting ≡ d.waiting) × ((cond b (woken p moment d) d).busy ≡ d.busy)
  woken_waits p moment d true = (refl, refl)
  woken_waits p moment d false = (refl, refl)

  pub due_used : (p : Settings) (moment : ℕ) → known_records (filter is_kept (map (woken_when_due p moment) ds)) ≡ used_in rows fs (map (wake_due_in p fs moment) (known_records ds))
  due_used p moment =
      changed_used (woken_when_due p moment) (wake_due_in p fs moment) (λ d e. woken_each p moment d e (is_due moment d.known.health) (is_rest_over moment d.known) refl refl)
      (woken_due_site p moment) (λ d. (woken_waits p moment d (is_due_at moment d)).0) (λ d. (woken_waits p moment d (is_due_at moment d)).1)

  pub due_tied : (p : Settings) (moment : ℕ) → AreSitesTied (map (woken_when_due p moment) ds) rows fs
  due_tied p moment =
      sites_same rows fs (woken_when_due p moment) (woken_due_site p moment) (λ d. (woken_waits p moment d (is_due_at moment d)).0) (λ d. (woken_waits p moment d (is_due_at moment d)).1) ds tie

  pub due_apart : (p : Settings) (moment : ℕ) → AreApart (map (woken_when_due p moment) ds)
  due_apart p moment = keyed_mapped site_eq site_of site_eq-true site_eq-refl (woken_when_due p moment) (woken_due_site p moment) ds apart

  pub dead_used : (p : Settings) → known_records (filter is_kept (map (revived_when_dead p) ds)) ≡ used_in rows fs (map (revive_dead_in p fs) (known_records ds))
  dead_used p =
      changed_used (revived_when_dead p) (revive_dead_in p fs) (λ d e. due_each p 0 d e (is_dead d))
      (λ d. (alike p d (is_dead d)).0) (λ d. (alike p d (is_dead d)).1) (λ d. (alike p d (is_dead d)).2)

  pub dead_tied : (p : Settings) → AreSitesTied (map (revived_when_dead p) ds) rows fs
  dead_tied p = sites_same rows fs (revived_when_dead p) (λ d. (alike p d (is_dead d)).0) (λ d. (alike p d (is_dead d)).1) (λ d. (alike p d (is_dead d)).2) ds tie

  pub dead_apart : (p : Settings) → AreApart (map (revived_when_dead p) ds)
  dead_apart p = keyed_mapped site_eq site_of site_eq-true site_eq-refl (revived_when_dead p) (λ d. (alike p d (is_dead d)).0) ds apart

  -- a site hears of a delivery in flight
  heard_each : (p : Settings) (site : Site) (now : ℕ) (state : SiteState) (d : Dest) → d.busy ≡ busy_in fs d.known.site → (b : Bool) → is_at site d ≡ b →
      (cond b (heard p now state d) d).known ≡ cond b (heard_in p (busy_in fs site) now state d.known) d.known
  heard_each p site now state d e true t = ap (λ n. heard_in p n now state d.known) (e ∙ ap (busy_in fs) (site_eq-true d.known.site site t))
  heard_each p site now state d e false t = refl

  pub heard_known : (p : Settings) (site : Site) (now : ℕ) (state : SiteState) → known_records (map (changed_at site (heard p now state)) ds) ≡ map (heard_at p site (busy_in fs site) now state) (known_records ds)
  heard_known p site now state =
      mapped_known rows fs (changed_at site (heard p now state)) (heard_at p site (busy_in fs site) now state) (λ d e. heard_each p site now state d e (is_at site d) refl) ds (counts_of ds rows fs apart tie)

-- what is known of a site
room_step : (fs : List Delivery) (site : Site) (o : Option Dest) → option_map_or (λ (d : Dest). d.busy) o 0 ≡ busy_in fs site →
    option_map_or has_space o false ≡ option_map_or (λ (r : SiteRecord). is_awake r && nat_lt (busy_in fs site) r.window) (option_map (λ (d : Dest). d.known) o) false
room_step fs site None e = refl
room_step fs site (Some d) e = ap (λ n. is_awake d.known && nat_lt n d.known.window) e

pub room_known : (fs : List Delivery) (site : Site) (ds : List Dest) → AreBusyTied ds fs →
    option_map_or has_space (find (is_at site) ds) false ≡ option_map_or (λ (r : SiteRecord). is_awake r && nat_lt (busy_in fs site) r.window) (find (λ (r : SiteRecord). site_eq r.site site) (known_records ds)) false
room_known fs site ds tie =
    room_step fs site (find (is_at site) ds) (tie site)
    ∙ ap (λ o. option_map_or (λ (r : SiteRecord). is_awake r && nat_lt (busy_in fs site) r.window) o false) (sym (find-map (λ (r : SiteRecord). site_eq r.site site) (λ (d : Dest). d.known) ds))

dead_step : (o : Option Dest) → option_map_or is_dead o false ≡ option_map_or (λ (r : SiteRecord). not (is_alive r.health)) (option_map (λ (d : Dest). d.known) o) false
dead_step None = refl
dead_step (Some d) = refl

pub dead_known : (site : Site) (ds : List Dest) → option_map_or is_dead (find (is_at site) ds) false ≡ option_map_or (λ (r : SiteRecord). not (is_alive r.health)) (find (λ (r : SiteRecord). site_eq r.site site) (known_records ds)) false
dead_known site ds =
    dead_step (find (is_at site) ds)
    ∙ ap (λ o. option_map_or (λ (r : SiteRecord). not (is_alive r.health)) o false) (sym (find-map (λ (r : SiteRecord). site_eq r.site site) (λ (d : Dest). d.known) ds))

-- A row or a delivery leaves a site, which goes behind all others, or out, where nothing goes there any more.
module _ (rows : List Row) (fs : List Delivery) (site : Site) (g : Dest → Dest) (same : (d : Dest) → (g d).known ≡ d.known) (ds : List Dest) (apart : AreApart ds) (tie : AreSitesTied (map (changed_at site g) ds) rows fs) where
  pub settled_used : known_records (filter is_kept (settled site g ds)) ≡ used_in rows fs (moved_back (is_left_in rows fs site) (known_records ds))
  settled_used =
      let changed = map (changed_at site g) ds in
      let test = λ (d : Dest). is_at site d && is_unused d in
      let keyed : AreApart changed = keyed_mapped site_eq site_of site_eq-true site_eq-refl (changed_at site g) (λ d. ap (λ (r : SiteRecord). r.site) (known_step g same d (is_at site d))) ds apart in
      let back : AreApart (moved_back test changed) = keyed_moved site_eq site_of site_eq-true site_eq-refl test changed keyed in
      sym (used_is rows fs (moved_back test changed) (counts_of (moved_back test changed) rows fs back (sites_moved rows fs test changed keyed tie)))
      ∙ ap (used_in rows fs) (sym (left_back rows fs changed (counts_of changed rows fs keyed tie) site) ∙ ap (moved_back (is_left_in rows fs site)) (known_stays site g same ds))

-- a record more, where there was none
more_step : (start fresh ks : List SiteRecord) (x : SiteRecord) (b t : Bool) → ks ≡ start ++ fresh → b ≡ t → cond b ks (ks ++ x ∷ []) ≡ start ++ cond t fresh (fresh ++ x ∷ [])
more_step start fresh ks x true true e h = e
more_step start fresh ks x false false e h = ap (λ rs. rs ++ x ∷ []) e ∙ append_assoc start fresh (x ∷ [])
more_step start fresh ks x true false e h = cc
more_step start fresh ks x false true e h = cc

pub known_more : (p : Settings) (start fresh : List SiteRecord) (ds : List Dest) (site : Site) → known_records ds ≡ start ++ fresh →
    cond (list_any (is_at site) ds) (known_records ds) (known_records ds ++ new_record (world_without_table p) site ∷ []) ≡ start ++ with_site p start site fresh
known_more p start fresh ds site e =
    more_step start fresh (known_records ds) (new_record (world_without_table p) site) (list_any (is_at site) ds) (has_record start site || has_record fresh site) e
    (sym (list_any-map (λ (r : SiteRecord). site_eq r.site site) (λ (d : Dest). d.known) ds) ∙ ap (λ rs. has_record rs site) e ∙ list_any-append (λ (r : SiteRecord). site_eq r.site site) start fresh)

-- walks along them
pub first_known : (ds : List Dest) → option_map (λ (d : Dest). d.known) (first_dest ds) ≡ slice_get (known_records ds) 0
first_known [] = refl
first_known (d ∷ ds) = refl

behind_step : (d : Dest) (ds : List Dest) (rs : List SiteRecord) (es : List Dest) → rs ≡ known_records es → (b : Bool) → cond b (known_records ds) rs ≡ known_records (cond b ds es)
behind_step d ds rs es h true = refl
behind_step d ds rs es h false = h

behind_known : (site : Site) (ds : List Dest) → records_behind site (known_records ds) ≡ known_records (behind_dests site ds)
behind_known site [] = refl
behind_known site (d ∷ ds) = behind_step d ds (records_behind site (known_records ds)) (behind_dests site ds) (behind_known site ds) (is_at site d)

pub next_known : (site : Site) (ds : List Dest) → option_map (λ (d : Dest). d.known) (first_dest (behind_dests site ds)) ≡ record_behind site (known_records ds)
next_known site ds = first_known (behind_dests site ds) ∙ ap (λ rs. slice_get rs 0) (sym (behind_known site ds))

-- where all are kept
pub kept_whole : (ds : List Dest) → AreKept ds → filter is_kept ds ≡ ds
kept_whole [] h = refl
kept_whole (d ∷ ds) h = ap (λ b. cond b (d ∷ filter is_kept ds) (filter is_kept ds)) h.0 ∙ ap (λ xs. d ∷ xs) (kept_whole ds h.1)
