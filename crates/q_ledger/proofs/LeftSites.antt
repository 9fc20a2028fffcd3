-- What is left of the records of sites after a reply, a skip, a start and a load.
use Rattle.std.proofs.Common.{◌≡◌, ℕ, ◌+◌, ◌≤◌, Bool, true, false, cond, not, List, [], ◌∷◌, ◌++◌, length, map, filter, replicate, Option, Some, None, option_map, inl, inr, refl, sym, ap, ◌∙◌, subst, arith, append-nil, eqb-true, if◌then◌else◌}
use Rattle.std.proofs.lemmas.Bool.{and_from, and_parts, cases_Bool, ne_eqb, not-true, not_from_false, or_left, or_right}
use Rattle.std.proofs.lemmas.List.{append_assoc}
use Rattle.std.specs.List.{list_all, list_any}
use Rattle.std.specs.Option.{option_map_or}
use Rattle.std.specs.Prelude.{◌&&◌, ◌==◌, ◌*◌, ◌-◌, max, nat_le, nat_lt}
use Rattle.q_bare.specs.Counts.{Counts}
use Rattle.q_laws.proofs.Delivered.{this_row}
use Rattle.q_laws.proofs.Loaded.{records_is}
use Rattle.q_laws.proofs.Members.{IsIn, all_append, all_at, all_weaker, any_from, any_in, find_in, in_left, in_right, in_unmap, none_at, none_from}
use Rattle.q_laws.proofs.SiteCounts.{busy_begun, tally, tally_append, turned, waits_dropped, waits_in}
use Rattle.q_laws.proofs.SiteLists.{busy_in, busy_more}
use Rattle.q_laws.proofs.Sites.{state_good}
use Rattle.q_laws.specs.SitesConsistency.{IsSitesConsistent, are_apart, is_kept}
use Rattle.q_ledger.proofs.OfLedger.{numbers_once, sites_fit}
use Rattle.q_ledger.proofs.RowCounts.{one_ends}
use Rattle.q_ledger.proofs.SiteLaws.{LeavesFrom, OthersStay, all_stay, few_still, filter_nothing, kept_still, left_law, sites_same}
use Rattle.q_ledger.specs.Beside.{IsOfLedger}
use Rattle.q_ledger.specs.Tidying.{sites_left}
use Rattle.q_model.proofs.IdLaws.{site_eq-refl, site_eq-true}
use Rattle.q_model.specs.Batches.{load_rows}
use Rattle.q_model.specs.Book.{message_of}
use Rattle.q_model.specs.Deliveries.{flight_of}
use Rattle.q_model.specs.Ledger.{Ledger}
use Rattle.q_model.specs.Lists.{drop_first}
use Rattle.q_model.specs.Loads.{after_load, loaded, with_records}
use Rattle.q_model.specs.Message.{Message}
use Rattle.q_model.specs.Replies.{after_reply, fits_state, landed, may_reply, replied}
use Rattle.q_model.specs.Settings.{World}
use Rattle.q_model.specs.Settling.{needs_of}
use Rattle.q_model.specs.SiteRecords.{is_alive, is_awake, is_dead_site, new_record, with_record}
use Rattle.q_model.specs.Sites.{site_eq}
use Rattle.q_model.specs.Skips.{after_skip, may_skip, unqueued}
use Rattle.q_model.specs.Starts.{after_start, is_row}
use Rattle.q_model.specs.UnusedSites.{is_remembered, is_unused, tidied_sites}
use Rattle.q_model.specs.Values.{Site, SiteRecord}
use Rattle.q_model.specs.Windows.{after_down, after_up, down_alive, more_cohorts, narrowed, rested}
use Rattle.q_model.specs.Feedbacks.{amount, parts, unit}
use Rattle.q_model.specs.declared.rows.Health.TheVariants as healths
use Rattle.q_model.specs.declared.id.Id.{Id}
use Rattle.q_model.specs.declared.outcome.Outcome.{Outcome}
use Rattle.q_model.specs.declared.outcome.Outcome.TheVariants as outcomes
use Rattle.q_model.specs.declared.outcome.SiteState.{SiteState}
use Rattle.q_model.specs.declared.outcome.SiteState.TheVariants.{Down, Up}
use Rattle.q_model.specs.declared.rows.Delivery.{Delivery}
use Rattle.q_model.specs.declared.rows.Row.{Row}

-- ---- a record that hears of a delivery is of its site still

either_site : (b : Bool) (x y : SiteRecord) (site : Site) → x.site ≡ site → y.site ≡ site → (if b then x else y).site ≡ site
either_site true x y site h k = h
either_site false x y site h k = k

up_site : (w : World) (n : ℕ) (r : SiteRecord) → (after_up w n r).site ≡ r.site
up_site w n r = either_site (is_alive r.health) _ _ r.site (either_site _ _ _ r.site (either_site _ _ _ r.site refl refl) refl) refl

narrowed_site : (w : World) (r : SiteRecord) → (narrowed w r).site ≡ r.site
narrowed_site w r = which (nat_lt r.failure (amount w.settings.negative r.window))
  where
    which : (b : Bool) → (if b then record r { window = max 1 (r.window - 1); failure = r.failure + unit w.settings.negative - amount w.settings.negative r.window; success = 0 } else record r { failure = r.failure - amount w.settings.negative r.window }).site ≡ r.site
    which true = refl
    which false = refl

down_alive_site : (w : World) (now : ℕ) (r : SiteRecord) → (down_alive w now r).site ≡ r.site
down_alive_site w now r = which (not (w.settings.cohort_limit == 0) && nat_le (w.settings.cohort_limit * parts) (more_cohorts w r))
  where
    which : (b : Bool) → (if b then record r { cohorts = more_cohorts w r; health = healths.DeadUntil (now + w.settings.minimal_backoff) } else narrowed w (record r { cohorts = more_cohorts w r })).site ≡ r.site
    which true = refl
    which false = narrowed_site w (record r { cohorts = more_cohorts w r })

down_site : (w : World) (now : ℕ) (r : SiteRecord) → (after_down w now r).site ≡ r.site
down_site w now r = either_site (is_alive r.health) (down_alive w now r) r r.site (down_alive_site w now r) refl

rested_site : (w : World) (now : ℕ) (r : SiteRecord) → (rested w now r).site ≡ r.site
rested_site w now r = either_site (w.settings.rate_delay == 0) _ _ r.site refl refl

-- ---- a delivery ends

abbrev others : Delivery → List Delivery → List Delivery
others f fs = filter (λ (g : Delivery). not (g.number == f.number)) fs

-- the ledger without the delivery, with these records
abbrev ended : Ledger → Delivery → List SiteRecord → Ledger
ended l f rs = record l { flights = others f l.flights; sites = rs }

unused_busy : (b : Bool) (n : ℕ) → 1 ≤ n → (not b && (n == 0)) ≡ false
unused_busy true n h = refl
unused_busy false n h = ne_eqb n 0 (λ e. omega (arith, e, h))

reply_leaves : (w : World) (c : Counts) (b : Ledger) (f : Delivery) (rs : List SiteRecord) → IsOfLedger w c b → IsIn f b.flights → LeavesFrom f.row.site b (ended b f rs)
reply_leaves w c b f rs h inside = record {
  here =
      let a = one_ends (λ (g : Delivery). site_eq g.row.site f.row.site) f b.flights (numbers_once w c b h) inside in
      let one : ◌≡◌ {A = ℕ} (cond (site_eq f.row.site f.row.site) 1 0) 1 = ap (λ t. cond t 1 0) (site_eq-refl f.row.site) in
      unused_busy (waits_in b.waiting f.row.site) (busy_in b.flights f.row.site) (omega (arith, a, one));
  elsewhere = λ s apart.
      let a = one_ends (λ (g : Delivery). site_eq g.row.site s) f b.flights (numbers_once w c b h) inside in
      let none : ◌≡◌ {A = ℕ} (cond (site_eq f.row.site s) 1 0) 0 = ap (λ t. cond t 1 0) (turned s f.row.site apart) in
      let same : busy_in (others f b.flights) s ≡ busy_in b.flights s = omega (arith, a, none) in
      ap (λ n. not (waits_in b.waiting s) && (n == 0)) same;
}

-- a record of another site is as it was
heard_others : (w : World) (b : Ledger) (f : Delivery) (g : SiteRecord → SiteRecord) → ((r : SiteRecord) → (g r).site ≡ r.site) → IsSitesConsistent w b → LeavesFrom f.row.site b (ended b f (map (λ r. if site_eq r.site f.row.site then g r else r) b.sites)) →
    OthersStay f.row.site (ended b f (map (λ r. if site_eq r.site f.row.site then g r else r) b.sites))
heard_others w b f g sites h leaves r inside apart =
    let change : SiteRecord → SiteRecord = λ x. if site_eq x.site f.row.site then g x else x in
    let old = in_unmap change r b.sites inside in
    which old.0 old.1 (site_eq old.0.site f.row.site) refl old.2
  where
    which : (x : SiteRecord) → IsIn x b.sites → (t : Bool) → site_eq x.site f.row.site ≡ t → (if t then g x else x) ≡ r → is_kept (ended b f (map (λ y. if site_eq y.site f.row.site then g y else y) b.sites)) r ≡ true
    which x there true e same =
        let bad : true ≡ false = sym e ∙ ap (λ (s : Site). site_eq s f.row.site) (sym (sites x) ∙ ap (λ (y : SiteRecord). y.site) same) ∙ apart in
        absurd cc
    which x there false e same =
        let kept : is_kept b r ≡ true = subst (λ (y : SiteRecord). is_kept b y ≡ true) same (all_at (is_kept b) x b.sites h.kept there) in
        ap (λ u. not (u && is_awake r)) (leaves.elsewhere r.site apart) ∙ kept

ended_law : (w : World) (c : Counts) (b : Ledger) (f : Delivery) (g : SiteRecord → SiteRecord) → ((r : SiteRecord) → (g r).site ≡ r.site) → IsOfLedger w c b → IsIn f b.flights →
    are_apart (map (λ r. if site_eq r.site f.row.site then g r else r) b.sites) ≡ true →
    tidied_sites w b (ended b f (map (λ r. if site_eq r.site f.row.site then g r else r) b.sites)) ≡ sites_left w (ended b f (map (λ r. if site_eq r.site f.row.site then g r else r) b.sites)) f.row.site
ended_law w c b f g sites h inside apart =
    let rs = map (λ r. if site_eq r.site f.row.site then g r else r) b.sites in
    let leaves = reply_leaves w c b f rs h inside in
    left_law w f.row.site b (ended b f rs) leaves apart (heard_others w b f g sites (sites_fit w c b h) leaves)

landed_law : (w : World) (c : Counts) (b : Ledger) (state : SiteState) (f : Delivery) → IsOfLedger w c b → IsIn f b.flights → tidied_sites w b (landed w b state f) ≡ sites_left w (landed w b state f) f.row.site
landed_law w c b Up f h inside = ended_law w c b f (λ r. rested w b.now (after_up w (busy_in b.flights f.row.site) r))
    (λ r. rested_site w b.now (after_up w (busy_in b.flights f.row.site) r) ∙ up_site w (busy_in b.flights f.row.site) r) h inside (state_good w b f.row.site Up (sites_fit w c b h)).apart
landed_law w c b Down f h inside = ended_law w c b f (λ r. rested w b.now (after_down w b.now r))
    (λ r. rested_site w b.now (after_down w b.now r) ∙ down_site w b.now r) h inside (state_good w b f.row.site Down (sites_fit w c b h)).apart

with_outcomes_law : (w : World) (b k : Ledger) (ps : List ℕ) (os : List Outcome) (site : Site) (o : Option Message) → tidied_sites w b k ≡ sites_left w k site →
    tidied_sites w b (option_map_or (λ m. record k { unsettled = k.unsettled ++ needs_of w k.now m ps os }) o k) ≡ sites_left w (option_map_or (λ m. record k { unsettled = k.unsettled ++ needs_of w k.now m ps os }) o k) site
with_outcomes_law w b k ps os site None h = h
with_outcomes_law w b k ps os site (Some m) h = h

reply_on : (w : World) (c : Counts) (b : Ledger) (number : ℕ) (state : SiteState) (os : List Outcome) (o : Option Delivery) (rest : Ledger → List SiteRecord) → IsOfLedger w c b → flight_of b number ≡ o →
    option_map_or (λ (f : Delivery). (length os == length f.row.positions) && fits_state state os) o false ≡ true →
    tidied_sites w b (option_map_or (λ (f : Delivery). replied w b state os f) o b)
    ≡ option_map_or (sites_left w (option_map_or (λ (f : Delivery). replied w b state os f) o b)) (option_map (λ (f : Delivery). f.row.site) o) (rest (option_map_or (λ (f : Delivery). replied w b state os f) o b))
reply_on w c b number state os None rest h e may = absurd cc
reply_on w c b number state os (Some f) rest h e may =
    with_outcomes_law w b (landed w b state f) f.row.positions os f.row.site (message_of b.book f.row.id)
    (landed_law w c b state f h (find_in (λ (g : Delivery). g.number == number) f b.flights e).0)

-- after a reply
pub reply_sites : (w : World) (c : Counts) (b : Ledger) (number : ℕ) (state : SiteState) (os : List Outcome) (rest : Ledger → List SiteRecord) → IsOfLedger w c b → may_reply b number state os ≡ true →
    tidied_sites w b (after_reply w b number state os) ≡ option_map_or (sites_left w (after_reply w b number state os)) (option_map (λ (f : Delivery). f.row.site) (flight_of b number)) (rest (after_reply w b number state os))
reply_sites w c b number state os rest h may = reply_on w c b number state os (flight_of b number) rest h refl may

-- ---- a row is skipped

-- a row that goes was at another site
row_gone : (id : Id) (site : Site) (ps : List ℕ) (rows : List Row) (other : Site) → site_eq other site ≡ false → waits_in (drop_first (is_row id site ps) rows) other ≡ waits_in rows other
row_gone id site ps rows other apart = waits_dropped (is_row id site ps) rows other (λ r this. ap (λ s. site_eq s other) (this_row id site ps r this).at ∙ turned other site apart)

unused_waiting : (b : Bool) (n : ℕ) → b ≡ true → (not b && (n == 0)) ≡ false
unused_waiting true n h = refl
unused_waiting false n h = absurd cc

skip_leaves : (b : Ledger) (id : Id) (site : Site) (ps : List ℕ) → list_any (is_row id site ps) b.waiting ≡ true → LeavesFrom site b (unqueued b id site ps)
skip_leaves b id site ps some = record {
  here =
      let one = any_in (is_row id site ps) b.waiting some in
      let there : site_eq one.0.site site ≡ true = subst (λ s. site_eq s site ≡ true) (sym (this_row id site ps one.0 one.2).at) (site_eq-refl site) in
      unused_waiting (waits_in b.waiting site) (busy_in b.flights site) (any_from (λ (r : Row). site_eq r.site site) one.0 b.waiting one.1 there);
  elsewhere = λ s apart.
      let same : waits_in (drop_first (is_row id site ps) b.waiting) s ≡ waits_in b.waiting s = row_gone id site ps b.waiting s apart in
      ap (λ t. not t && (busy_in b.flights s == 0)) same;
}

unqueued_law : (w : World) (b : Ledger) (id : Id) (site : Site) (ps : List ℕ) → IsSitesConsistent w b → list_any (is_row id site ps) b.waiting ≡ true → tidied_sites w b (unqueued b id site ps) ≡ sites_left w (unqueued b id site ps) site
unqueued_law w b id site ps h some =
    let leaves = skip_leaves b id site ps some in
    left_law w site b (unqueued b id site ps) leaves h.apart (λ r inside apart. ap (λ u. not (u && is_awake r)) (leaves.elsewhere r.site apart) ∙ all_at (is_kept b) r b.sites h.kept inside)

-- after a skip
pub skip_sites : (w : World) (c : Counts) (b : Ledger) (id : Id) (site : Site) (ps : List ℕ) → IsOfLedger w c b → may_skip b id site ps ≡ true →
    tidied_sites w b (after_skip w b id site ps) ≡ sites_left w (after_skip w b id site ps) site
skip_sites w c b id site ps h may =
    with_outcomes_law w b (unqueued b id site ps) ps (replicate (length ps) (outcomes.Later 0)) site (message_of b.book id)
    (unqueued_law w b id site ps (sites_fit w c b h) (and_parts (list_any (is_row id site ps) b.waiting) (is_dead_site b site) may).0)

-- ---- a delivery begins

zero_less : (n k : ℕ) → n ≡ k + 1 → (n == 0) ≡ true → ⊥
zero_less n k e h = let a : n ≡ 0 = eqb-true n 0 h in omega (arith, e, a)

abbrev begun : ℕ → Id → Site → List ℕ → Delivery
begun number id site ps = record { number = number; row = record { id = id; site = site; positions = ps } }

begun_busy : (b : Ledger) (f : Delivery) (r : SiteRecord) → r.site ≡ f.row.site → (busy_in (b.flights ++ f ∷ []) r.site == 0) ≡ true → ⊥
begun_busy b f r e none =
    let a = busy_more r.site b.flights f in
    let here : site_eq f.row.site r.site ≡ true = subst (λ s. site_eq s r.site ≡ true) e (site_eq-refl r.site) in
    let one : ◌≡◌ {A = ℕ} (cond (site_eq f.row.site r.site) 1 0) 1 = ap (λ t. cond t 1 0) here in
    zero_less (busy_in (b.flights ++ f ∷ []) r.site) (busy_in b.flights r.site) (omega (arith, a, one)) none

start_used : (b : Ledger) (number : ℕ) (id : Id) (site : Site) (ps : List ℕ) (r : SiteRecord) → is_unused (after_start b number id site ps) r ≡ true → is_unused b r ≡ true
start_used b number id site ps r h =
    let f = begun number id site ps in
    let rows = drop_first (is_row id site ps) b.waiting in
    elim (cases_Bool (site_eq r.site site)) [
      | inl e ↦ absurd (begun_busy b f r (site_eq-true r.site site e) (and_parts (not (waits_in rows r.site)) (busy_in (b.flights ++ f ∷ []) r.site == 0) h).1)
      | inr e ↦
          sym (ap (λ t. not t && (busy_in (b.flights ++ f ∷ []) r.site == 0)) (row_gone id site ps b.waiting r.site e)
          ∙ ap (λ n. not (waits_in b.waiting r.site) && (n == 0)) (busy_begun b.flights f r.site (turned r.site site e))) ∙ h
    ]

-- after a start
pub start_sites : (w : World) (c : Counts) (b : Ledger) (number : ℕ) (id : Id) (site : Site) (ps : List ℕ) → IsOfLedger w c b → tidied_sites w b (after_start b number id site ps) ≡ b.sites
start_sites w c b number id site ps h = sites_same w b (after_start b number id site ps) (sites_fit w c b h) refl (start_used b number id site ps)

-- ---- rows are read

-- a record of a site that is awake, and at which one of the rows waits
abbrev is_new : List Row → SiteRecord → Bool
is_new rows r = is_awake r && list_any (λ (x : Row). site_eq x.site r.site) rows

-- the new records, behind the others
record AreAdded (rows : List Row) (old new : List SiteRecord) : Type 0 where
  more : List SiteRecord
  whole : new ≡ old ++ more
  all : list_all (is_new rows) more ≡ true

new_more : (row : Row) (rows : List Row) (r : SiteRecord) → is_new rows r ≡ true → is_new (row ∷ rows) r ≡ true
new_more row rows r h =
    let waits = λ (xs : List Row). list_any (λ (x : Row). site_eq x.site r.site) xs in
    let two = and_parts (is_awake r) (waits rows) h in
    and_from (is_awake r) (waits (row ∷ rows)) two.0 (or_right (site_eq row.site r.site) (waits rows) two.1)

added_step : (w : World) (row : Row) (rows : List Row) (old new : List SiteRecord) (b : Bool) → AreAdded rows (if b then old else old ++ new_record w row.site ∷ []) new → AreAdded (row ∷ rows) old new
added_step w row rows old new true h = record { more = h.more; whole = h.whole; all = all_weaker (is_new rows) (is_new (row ∷ rows)) h.more (λ r inside. new_more row rows r) h.all }
added_step w row rows old new false h = record {
  more = new_record w row.site ∷ h.more;
  whole = h.whole ∙ append_assoc old (new_record w row.site ∷ []) h.more;
  all = and_from (is_new (row ∷ rows) (new_record w row.site)) (list_all (is_new (row ∷ rows)) h.more)
      (or_left (site_eq row.site row.site) (list_any (λ (x : Row). site_eq x.site row.site) rows) (site_eq-refl row.site))
      (all_weaker (is_new rows) (is_new (row ∷ rows)) h.more (λ r inside. new_more row rows r) h.all);
}

records_added : (w : World) (rows : List Row) (l : Ledger) → AreAdded rows l.sites (with_records w rows l).sites
records_added w [] l = record { more = []; whole = sym (append-nil l.sites); all = refl }
records_added w (row ∷ rows) l =
    added_step w row rows l.sites (with_records w (row ∷ rows) l).sites (list_any (λ (r : SiteRecord). site_eq r.site row.site) l.sites)
    (records_added w rows (record l { sites = with_record w l.sites row.site }))

load_used : (w : World) (b : Ledger) (id : Id) (to : ℕ) (rows : List Row) (r : SiteRecord) → is_unused (loaded w b id to rows) r ≡ true → is_unused b r ≡ true
load_used w b id to rows r h =
    let flights : (with_records w rows b).flights ≡ b.flights = ap (λ (k : Ledger). k.flights) (records_is w rows b).1 in
    let two = and_parts (not (waits_in (b.waiting ++ rows) r.site)) (busy_in (with_records w rows b).flights r.site == 0) h in
    let none = not-true (waits_in (b.waiting ++ rows) r.site) two.0 in
    let still : waits_in b.waiting r.site ≡ false = none_from (λ (x : Row). site_eq x.site r.site) b.waiting (λ x inside. none_at (λ (y : Row). site_eq y.site r.site) x (b.waiting ++ rows) none (in_left x b.waiting rows inside)) in
    and_from (not (waits_in b.waiting r.site)) (busy_in b.flights r.site == 0) (not_from_false (waits_in b.waiting r.site) still)
    (ap (λ (fs : List Delivery). busy_in fs r.site == 0) (sym flights) ∙ two.1)

-- a new record is of a site that is used
new_used : (w : World) (b : Ledger) (id : Id) (to : ℕ) (rows : List Row) (r : SiteRecord) → is_new rows r ≡ true → is_kept (loaded w b id to rows) r ≡ true
new_used w b id to rows r h =
    let some = any_in (λ (x : Row). site_eq x.site r.site) rows (and_parts (is_awake r) (list_any (λ (x : Row). site_eq x.site r.site) rows) h).1 in
    let waits : waits_in (b.waiting ++ rows) r.site ≡ true = any_from (λ (x : Row). site_eq x.site r.site) some.0 (b.waiting ++ rows) (in_right some.0 b.waiting rows some.1) some.2 in
    ap (λ t. not ((not t && (busy_in (with_records w rows b).flights r.site == 0)) && is_awake r)) waits

never_and : (a b : Bool) → b ≡ true → (a && not b) ≡ false
never_and true true h = refl
never_and false b h = refl
never_and true false h = absurd cc

loaded_sites : (w : World) (b : Ledger) (id : Id) (to : ℕ) (rows : List Row) → IsSitesConsistent w b → tidied_sites w b (loaded w b id to rows) ≡ (loaded w b id to rows).sites
loaded_sites w b id to rows h =
    let k = loaded w b id to rows in
    let fewer : (r : SiteRecord) → is_unused k r ≡ true → is_unused b r ≡ true = load_used w b id to rows in
    let added = records_added w rows b in
    let old_kept : list_all (is_kept k) b.sites ≡ true = kept_still w b k h fewer in
    let new_kept : list_all (is_kept k) added.more ≡ true = all_weaker (is_new rows) (is_kept k) added.more (λ r inside. new_used w b id to rows r) added.all in
    let old_few : tally (is_remembered k) b.sites ≤ w.settings.recipient_limit = few_still w b k h fewer in
    let no_new : tally (is_remembered k) added.more ≡ 0 = ap length (filter_nothing (is_remembered k) added.more (λ r inside.
    never_and (is_unused k r) (is_awake r) (and_parts (is_awake r) (list_any (λ (x : Row). site_eq x.site r.site) rows) (all_at (is_new rows) r added.more added.all inside)).0)) in
    let both = tally_append (is_remembered k) b.sites added.more in
    let whole : tally (is_remembered k) (b.sites ++ added.more) ≤ w.settings.recipient_limit = omega (arith, old_few, no_new, both) in
    all_stay w b k fewer
    (ap (list_all (is_kept k)) added.whole ∙ all_append (is_kept k) b.sites added.more old_kept new_kept)
    (subst (λ rs. tally (is_remembered k) rs ≤ w.settings.recipient_limit) (sym added.whole) whole)

load_on : (w : World) (b : Ledger) (id : Id) (from to : ℕ) (o : Option Message) → IsSitesConsistent w b →
    tidied_sites w b (option_map_or (λ m. loaded w b id to (load_rows w m from to)) o b) ≡ (option_map_or (λ m. loaded w b id to (load_rows w m from to)) o b).sites
load_on w b id from to None h = sites_same w b b h refl (λ r e. e)
load_on w b id from to (Some m) h = loaded_sites w b id to (load_rows w m from to) h

-- after a load
pub load_sites : (w : World) (c : Counts) (b : Ledger) (id : Id) (from to : ℕ) → IsOfLedger w c b → tidied_sites w b (after_load w b id from to) ≡ (after_load w b id from to).sites
load_sites w c b id from to h = load_on w b id from to (message_of b.book id) (sites_fit w c b h)
