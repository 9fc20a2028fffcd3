-- A site rests after each delivery, so that the next one to it begins the delay later.
use Rattle.std.proofs.Common.{◌≡◌, ℕ, ◌+◌, ◌≤◌, ◌<◌, Bool, true, false, not, List, [], ◌∷◌, ◌++◌, filter, length, is_none, is_some, map, Option, Some, None, ◌⊎◌, inl, inr, refl, sym, ap, ◌∙◌, subst, arith, if◌then◌else◌, ◌&&◌, ◌||◌}
use Rattle.std.proofs.lemmas.Bool.{and_from, and_parts, eqb-true, leb-true, lt-ltb, ltb-false, ltb-true, not-true, or_left, or_right}
use Rattle.std.specs.List.{list_any}
use Rattle.std.specs.Option.{option_map_or}
use Rattle.std.specs.Prelude.{◌*◌, ◌==◌, nat_le, nat_lt, replicate}
use Rattle.q_laws.proofs.Kept.{entry_consistent, may_be}
use Rattle.q_laws.proofs.Living.{at_change, at_now, inner_now}
use Rattle.q_laws.proofs.Members.{IsIn, any_in, find_in, in_dropped, in_either, in_filtered, in_left, in_unmap, none_at}
use Rattle.q_laws.proofs.Decisions.{next_decided}
use Rattle.q_laws.proofs.Delivered.{this_row}
use Rattle.q_laws.proofs.Tidied.{tidy_scan_is}
use Rattle.q_laws.specs.Consistency.{IsConsistent}
use Rattle.q_laws.specs.Resting.{GoesOneByOne, KeepsApart, is_forgotten_before}
use Rattle.q_laws.specs.SitesConsistency.{IsSitesConsistent}
use Rattle.q_laws.specs.Traces.{AreEntriesOf, IsEntryOf, is_outside}
use Rattle.q_model.proofs.IdLaws.{site_eq-refl, site_eq-true}
use Rattle.q_model.specs.declared.entry.Entry.{Entry}
use Rattle.q_model.specs.declared.entry.Entry.TheVariants as entries
use Rattle.q_model.specs.declared.event.Trigger.TheVariants as triggers
use Rattle.q_model.specs.declared.outcome.Outcome.{Outcome}
use Rattle.q_model.specs.declared.outcome.SiteState.{SiteState}
use Rattle.q_model.specs.declared.outcome.SiteState.TheVariants.{Down, Up}
use Rattle.q_model.specs.declared.rows.Delivery.{Delivery}
use Rattle.q_model.specs.declared.rows.Row.{Row}
use Rattle.q_model.specs.declared.rows.Health.TheVariants as healths
use Rattle.q_model.specs.Clock.{scheduled, woken}
use Rattle.q_model.specs.Deliveries.{busy, flight_of, flights_of}
use Rattle.q_model.specs.Feedbacks.{amount, parts, unit}
use Rattle.q_model.specs.Ledger.{Ledger}
use Rattle.q_model.specs.Lists.{drop_first}
use Rattle.q_model.specs.Loads.{loaded, with_records}
use Rattle.q_model.specs.Past.{is_life, starts}
use Rattle.q_model.specs.Replies.{landed, replied}
use Rattle.q_model.specs.Batches.{load_rows}
use Rattle.q_model.specs.Book.{message_of}
use Rattle.q_model.specs.BookChanges.{add_message}
use Rattle.q_model.specs.Leftovers.{is_next_leftover}
use Rattle.q_model.specs.Message.{Message}
use Rattle.q_model.specs.Notices.{bounce_message}
use Rattle.q_model.specs.Scans.{ask_scan, joined_request, new_scan}
use Rattle.q_model.specs.Settling.{needs_of, with_outcomes}
use Rattle.q_model.specs.Skips.{unqueued}
use Rattle.q_model.specs.Alternation.{Pick, after_pick, from_deferred, from_incoming, passed, pick}
use Rattle.q_model.specs.declared.event.Trigger.{Trigger}
use Rattle.q_model.specs.declared.id.Id.{Id}
use Rattle.q_model.specs.declared.rows.Request.{Request}
use Rattle.q_model.specs.declared.rows.Scan.{Scan}
use Rattle.q_model.specs.declared.outcome.Outcome.TheVariants as outcomes
use Rattle.q_model.specs.declared.rows.Request.TheVariants as requests
use Rattle.q_model.specs.Revival.{is_due, is_rest_over, rest_ended}
use Rattle.q_model.specs.Settings.{window_limit, World}
use Rattle.q_model.specs.SiteRecords.{initial_window, is_alive, is_awake, new_record, record_of, with_record}
use Rattle.q_model.specs.Sites.{site_eq}
use Rattle.q_model.specs.Startable.{is_startable}
use Rattle.q_model.specs.Starts.{is_row}
use Rattle.q_model.specs.Step.{after, after_all, allowed, change, may, noted}
use Rattle.q_model.specs.UnusedSites.{is_remembered, is_unused, tidied_sites}
use Rattle.q_model.specs.Values.{Site, SiteRecord}
use Rattle.q_model.specs.Windows.{after_down, after_state, after_up, more_cohorts, rested, revived}

-- the rest goes on up to the moment, or longer
abbrev IsLater : ℕ → Option ℕ → Type 0
IsLater m None = ⊥
IsLater m (Some u) = m ≤ u

-- each record of the site rests so long
abbrev AllRest : ℕ → Site → List SiteRecord → Type 0
AllRest m site rs = (r : SiteRecord) → IsIn r rs → r.site ≡ site → IsLater m r.rest

-- ---- changes of records

-- a change that keeps the site, and a rest that goes on
record KeepsRest (m : ℕ) (site : Site) (f : SiteRecord → SiteRecord) : Type 0 where
  same : (r : SiteRecord) → (f r).site ≡ r.site
  rest : (r : SiteRecord) → r.site ≡ site → IsLater m r.rest → IsLater m (f r).rest

rest_map : (m : ℕ) (site : Site) (f : SiteRecord → SiteRecord) (rs : List SiteRecord) → KeepsRest m site f → AllRest m site rs → AllRest m site (map f rs)
rest_map m site f rs k h r inside at =
    let one = in_unmap f r rs inside in
    let here : one.0.site ≡ site = sym (k.same one.0) ∙ ap (λ (x : SiteRecord). x.site) one.2 ∙ at in
    subst (λ (x : SiteRecord). IsLater m x.rest) one.2 (k.rest one.0 here (h one.0 one.1 here))

-- one of two changes
either_site : (b : Bool) (x y r : SiteRecord) → x.site ≡ r.site → y.site ≡ r.site → (if b then x else y).site ≡ r.site
either_site true x y r h k = h
either_site false x y r h k = k

either_rest : (b : Bool) (x y : SiteRecord) (o : Option ℕ) → x.rest ≡ o → y.rest ≡ o → (if b then x else y).rest ≡ o
either_rest true x y o h k = h
either_rest false x y o h k = k

up_rest : (w : World) (n : ℕ) (r : SiteRecord) → ((after_up w n r).site ≡ r.site) × ((after_up w n r).rest ≡ r.rest)
up_rest w n r = (
  either_site (is_alive r.health) _ _ r (either_site (nat_lt r.window (window_limit w.settings) && nat_lt r.window (n + initial_window w)) _ _ r (either_site (nat_le (unit w.settings.positive) (r.success + amount w.settings.positive r.window)) _ _ r refl refl) refl) refl,
  either_rest (is_alive r.health) _ _ r.rest (either_rest (nat_lt r.window (window_limit w.settings) && nat_lt r.window (n + initial_window w)) _ _ r.rest (either_rest (nat_le (unit w.settings.positive) (r.success + amount w.settings.positive r.window)) _ _ r.rest refl refl) refl) refl,
)

down_rest : (w : World) (now : ℕ) (r : SiteRecord) → ((after_down w now r).site ≡ r.site) × ((after_down w now r).rest ≡ r.rest)
down_rest w now r = (
  either_site (is_alive r.health) _ _ r (either_site (not (w.settings.cohort_limit == 0) && nat_le (w.settings.cohort_limit * parts) (more_cohorts w r)) _ _ r refl (either_site (nat_lt r.failure (amount w.settings.negative r.window)) _ _ r refl refl)) refl,
  either_rest (is_alive r.health) _ _ r.rest (either_rest (not (w.settings.cohort_limit == 0) && nat_le (w.settings.cohort_limit * parts) (more_cohorts w r)) _ _ r.rest refl (either_rest (nat_lt r.failure (amount w.settings.negative r.window)) _ _ r.rest refl refl)) refl,
)

-- a rest that begins now goes on for the delay
rested_later : (w : World) (now m : ℕ) (r : SiteRecord) → m ≤ now + w.settings.rate_delay → IsLater m r.rest → IsLater m (rested w now r).rest
rested_later w now m r fits h = which (w.settings.rate_delay == 0)
  where
    which : (b : Bool) → IsLater m (if b then r else record r { rest = Some (now + w.settings.rate_delay) }).rest
    which true = h
    which false = fits

rested_site : (w : World) (now : ℕ) (r : SiteRecord) → (rested w now r).site ≡ r.site
rested_site w now r = either_site (w.settings.rate_delay == 0) r _ r refl refl

-- a change at a site alone
at_site : (m : ℕ) (site other : Site) (f : SiteRecord → SiteRecord) → KeepsRest m site f → KeepsRest m site (λ r. if site_eq r.site other then f r else r)
at_site m site other f k = record {
  same = λ r. either_site (site_eq r.site other) (f r) r r (k.same r) refl;
  rest = λ r here h. which r (site_eq r.site other) here h;
}
  where
    which : (r : SiteRecord) (b : Bool) → r.site ≡ site → IsLater m r.rest → IsLater m (if b then f r else r).rest
    which r true here h = k.rest r here h
    which r false here h = h

up_keeps : (w : World) (l : Ledger) (m n : ℕ) (site : Site) → m ≤ l.now + w.settings.rate_delay → KeepsRest m site (λ r. rested w l.now (after_up w n r))
up_keeps w l m n site fits = record {
  same = λ r. rested_site w l.now (after_up w n r) ∙ (up_rest w n r).0;
  rest = λ r here h. rested_later w l.now m (after_up w n r) fits (subst (IsLater m) (sym (up_rest w n r).1) h);
}

down_keeps : (w : World) (l : Ledger) (m : ℕ) (site : Site) → m ≤ l.now + w.settings.rate_delay → KeepsRest m site (λ r. rested w l.now (after_down w l.now r))
down_keeps w l m site fits = record {
  same = λ r. rested_site w l.now (after_down w l.now r) ∙ (down_rest w l.now r).0;
  rest = λ r here h. rested_later w l.now m (after_down w l.now r) fits (subst (IsLater m) (sym (down_rest w l.now r).1) h);
}

state_rests : (w : World) (l : Ledger) (m : ℕ) (site other : Site) (state : SiteState) → m ≤ l.now + w.settings.rate_delay → AllRest m site l.sites → AllRest m site (after_state w l other state)
state_rests w l m site other Up fits h = rest_map m site (λ r. if site_eq r.site other then rested w l.now (after_up w (busy l other) r) else r) l.sites (at_site m site other _ (up_keeps w l m (busy l other) site fits)) h
state_rests w l m site other Down fits h = rest_map m site (λ r. if site_eq r.site other then rested w l.now (after_down w l.now r) else r) l.sites (at_site m site other _ (down_keeps w l m site fits)) h

-- a rest that is not over goes on
ended_later : (m t : ℕ) (r : SiteRecord) → t < m → IsLater m r.rest → IsLater m (rest_ended t r).rest
ended_later m t r before h = which (is_rest_over t r) refl
  where
    over : (o : Option ℕ) → option_map_or (λ u. nat_le u t) o false ≡ true → IsLater m o → ⊥
    over None e k = k
    over (Some u) e k = let a : u ≤ t = leb-true u t e in absurd (omega (arith, a, k, before))

    which : (b : Bool) → is_rest_over t r ≡ b → IsLater m (if b then record r { rest = None } else r).rest
    which true e = absurd (over r.rest e h)
    which false e = h

woken_keeps : (w : World) (l : Ledger) (m t : ℕ) (site : Site) → t < m → KeepsRest m site (λ r. rest_ended t (if is_due t r.health then revived w (busy l r.site) r else r))
woken_keeps w l m t site before = record {
  same = λ r. either_site (is_rest_over t (if is_due t r.health then revived w (busy l r.site) r else r)) _ _ (if is_due t r.health then revived w (busy l r.site) r else r) refl refl ∙ either_site (is_due t r.health) (revived w (busy l r.site) r) r r refl refl;
  rest = λ r here h. ended_later m t (if is_due t r.health then revived w (busy l r.site) r else r) before (subst (IsLater m) (sym (either_rest (is_due t r.health) (revived w (busy l r.site) r) r r.rest refl refl)) h);
}

-- ---- records of sites

-- the site has a record
abbrev Known : Site → List SiteRecord → Type 0
Known site rs = (x : SiteRecord) × IsIn x rs × (x.site ≡ site)

with_one : (m : ℕ) (site other : Site) (w : World) (rs : List SiteRecord) → Known site rs → AllRest m site rs → Known site (with_record w rs other) × AllRest m site (with_record w rs other)
with_one m site other w rs k h = which (list_any (λ (r : SiteRecord). site_eq r.site other) rs) refl
  where
    apart : (r : SiteRecord) → list_any (λ (x : SiteRecord). site_eq x.site other) rs ≡ false → new_record w other ≡ r → r.site ≡ site → ⊥
    apart r none is here =
        let same : other ≡ site = ap (λ (x : SiteRecord). x.site) is ∙ here in
        let there : site_eq k.0.site other ≡ true = subst (λ s. site_eq s other ≡ true) (same ∙ sym k.2) (site_eq-refl other) in
        let bad : true ≡ false = sym there ∙ none_at (λ (x : SiteRecord). site_eq x.site other) k.0 rs none k.1 in
        absurd cc

    in_new : (r : SiteRecord) → list_any (λ (x : SiteRecord). site_eq x.site other) rs ≡ false → IsIn r rs ⊎ IsIn r (new_record w other ∷ []) → r.site ≡ site → IsLater m r.rest
    in_new r none (inl there) here = h r there here
    in_new r none (inr (inl is)) here = absurd (apart r none is here)
    in_new r none (inr (inr nowhere)) here = absurd nowhere

    which : (b : Bool) → list_any (λ (r : SiteRecord). site_eq r.site other) rs ≡ b → Known site (if b then rs else rs ++ new_record w other ∷ []) × AllRest m site (if b then rs else rs ++ new_record w other ∷ [])
    which true e = (k, h)
    which false e = ((k.0, in_left k.0 rs (new_record w other ∷ []) k.1, k.2), λ r inside here. in_new r e (in_either r rs (new_record w other ∷ []) inside) here)

records_rest : (m : ℕ) (site : Site) (w : World) (rows : List Row) (l : Ledger) → Known site l.sites → AllRest m site l.sites → AllRest m site (with_records w rows l).sites
records_rest m site w [] l k h = h
records_rest m site w (r ∷ rows) l k h =
    let one = with_one m site r.site w l.sites k h in
    records_rest m site w rows (record l { sites = with_record w l.sites r.site }) one.0 one.1

-- ---- each entry

option_sites : {A : Type 0} (l : Ledger) (f : A → Ledger) → ((x : A) → (f x).sites ≡ l.sites) → (o : Option A) → (option_map_or f o l).sites ≡ l.sites
option_sites l f h None = refl
option_sites l f h (Some x) = h x

passed_sites : (l : Ledger) (p : Pick) → (passed p l).sites ≡ l.sites
passed_sites l (from_incoming id) = refl
passed_sites l (from_deferred name) = refl

pick_sites : (l : Ledger) → (after_pick l).sites ≡ l.sites
pick_sites l = option_sites l (λ p. passed p l) (passed_sites l) (pick l)

if_sites : (b : Bool) (x y : Ledger) (rs : List SiteRecord) → x.sites ≡ rs → y.sites ≡ rs → (if b then x else y).sites ≡ rs
if_sites true x y rs h k = h
if_sites false x y rs h k = k

asked_sites : (l : Ledger) (request : Request) (o : Option Scan) →
    (option_map_or (λ s. record l { asked = Some (joined_request l.asked request); ignores = false }) o (record l { scan = Some (new_scan l.now request); ignores = false })).sites ≡ l.sites
asked_sites l request None = refl
asked_sites l request (Some s) = refl

ask_sites : (l : Ledger) → (ask_scan l).sites ≡ l.sites
ask_sites l = asked_sites l (if l.ignores then requests.All else requests.Due) l.scan

outcomes_sites : (w : World) (id : Id) (positions : List ℕ) (outcomes : List Outcome) (l : Ledger) → (with_outcomes w id positions outcomes l).sites ≡ l.sites
outcomes_sites w id positions outcomes l = option_sites l (λ m. record l { unsettled = l.unsettled ++ needs_of w l.now m positions outcomes }) (λ m. refl) (message_of l.book id)

module _ (w : World) (l : Ledger) (m : ℕ) (site : Site) (fits : m ≤ l.now + w.settings.rate_delay) (known : Known site l.sites) (h : AllRest m site l.sites) where
  same_sites : (k : Ledger) → k.sites ≡ l.sites → AllRest m site k.sites
  same_sites k e = subst (AllRest m site) (sym e) h

  at_rests : (t : ℕ) → t < m → AllRest m site (change w l (entries.At t)).sites
  at_rests t before =
      subst (AllRest m site) (sym (if_sites (nat_le l.next_run t) (ask_scan (scheduled w l t)) (woken w l t) (woken w l t).sites (ask_sites (scheduled w l t)) refl))
      (rest_map m site (λ r. rest_ended t (if is_due t r.health then revived w (busy l r.site) r else r)) l.sites (woken_keeps w l m t site before) h)

  trigger_rests : (kind : Trigger) → AllRest m site (change w l (entries.Trigger kind)).sites
  trigger_rests triggers.D = same_sites (ask_scan l) (ask_sites l)
  trigger_rests triggers.A = h
  trigger_rests triggers.F = rest_map m site (λ r. if is_alive r.health then r else revived w (busy l r.site) r) l.sites (record {
    same = λ r. either_site (is_alive r.health) r (revived w (busy l r.site) r) r refl refl;
    rest = λ r here k. subst (IsLater m) (sym (either_rest (is_alive r.health) r (revived w (busy l r.site) r) r.rest refl refl)) k;
  }) h

  reply_rests : (state : SiteState) (os : List Outcome) (o : Option Delivery) → AllRest m site (option_map_or (λ (f : Delivery). replied w l state os f) o l).sites
  reply_rests state os None = h
  reply_rests state os (Some f) = subst (AllRest m site) (sym (outcomes_sites w f.row.id f.row.positions os (landed w l state f))) (state_rests w l m site f.row.site state fits h)

  load_rests : (id : Id) (from to : ℕ) (o : Option Message) → AllRest m site (option_map_or (λ (x : Message). loaded w l id to (load_rows w x from to)) o l).sites
  load_rests id from to None = h
  load_rests id from to (Some x) = records_rest m site w (load_rows w x from to) l known h

  change_rests : (e : Entry) → is_life e ≡ false → (change w l e).now < m → AllRest m site (change w l e).sites
  change_rests (entries.Life generation mode) life before = absurd cc
  change_rests (entries.At t) life before = at_rests t (subst (λ n. n < m) (at_change w l t) before)
  change_rests (entries.Arrive id sender to content) life before = h
  change_rests (entries.Back id) life before = h
  change_rests (entries.Admit id) life before = same_sites (change w l (entries.Admit id)) (pick_sites l)
  change_rests (entries.Load id from to) life before = load_rests id from to (message_of l.book id)
  change_rests (entries.Start number id site positions) life before = h
  change_rests (entries.Preempt child parent transport need) life before = h
  change_rests (entries.Reply number state os) life before = reply_rests state os (flight_of l number)
  change_rests (entries.Skip id other positions) life before = same_sites (change w l (entries.Skip id other positions)) (outcomes_sites w id positions (replicate (length positions) (outcomes.Later 0)) (unqueued l id other positions))
  change_rests (entries.Log id failure) life before = h
  change_rests (entries.Mark id position) life before = h
  change_rests (entries.Sync id) life before = h
  change_rests (entries.Defer id due) life before = h
  change_rests (entries.Bounce id) life before = same_sites (change w l (entries.Bounce id)) (option_sites l (λ x. record l { book = add_message l.book (bounce_message l.now x) }) (λ x. refl) (message_of l.book id))
  change_rests (entries.Remove id) life before = h
  change_rests (entries.Corrupt id) life before = same_sites (change w l (entries.Corrupt id)) (if_sites (is_next_leftover l id) l (after_pick l) l.sites refl (pick_sites l))
  change_rests (entries.Trigger kind) life before = trigger_rests kind
  change_rests entries.End life before = h

-- ---- after an entry

in_forgotten : (w : World) (l : Ledger) (r : SiteRecord) (rs : List SiteRecord) (b : Bool) → IsIn r (if b then drop_first (is_remembered l) rs else rs) → IsIn r rs
in_forgotten w l r rs true h = in_dropped (is_remembered l) r rs h
in_forgotten w l r rs false h = h

in_tidied : (w : World) (before l : Ledger) (r : SiteRecord) → IsIn r (tidied_sites w before l) → IsIn r l.sites
in_tidied w before l r h =
    let newly : SiteRecord → Bool = λ x. is_unused l x && not (is_unused before x) in
    let older : SiteRecord → Bool = λ x. not (newly x) in
    let stays : SiteRecord → Bool = λ x. not (is_unused l x && is_awake x) in
    let ordered = filter older l.sites ++ filter newly l.sites in
    let left = in_forgotten w l r (filter stays ordered) (nat_lt w.settings.recipient_limit (length (filter (is_remembered l) (filter stays ordered)))) h in
    elim (in_either r (filter older l.sites) (filter newly l.sites) (in_filtered stays r ordered left).0) [
      | inl a ↦ (in_filtered older r l.sites a).0
      | inr b ↦ (in_filtered newly r l.sites b).0
    ]

after_now : (w : World) (l : Ledger) (e : Entry) → (after w l e).now ≡ (change w l e).now
unfolding after
after_now w l e = ap (λ (k : Ledger). k.now) (tidy_scan_is (noted e (change w l e))).2

in_after : (w : World) (l : Ledger) (e : Entry) (r : SiteRecord) → IsIn r (after w l e).sites → IsIn r (change w l e).sites
unfolding after
in_after w l e r h = in_tidied w l (noted e (change w l e)) r h

equal : (a b : ℕ) → a ≡ b → b ≤ a
equal a b e = omega (arith, e)

-- the clock doesn't go back in a life
now_later : (w : World) (l : Ledger) (e : Entry) → is_life e ≡ false → may w l e ≡ true → l.now ≤ (after w l e).now
now_later w l (entries.Life generation mode) life can = absurd cc
now_later w l (entries.At t) life can = subst (λ n. l.now ≤ n) (sym (at_now w l t)) (leb-true l.now t can)
now_later w l entries.End life can = equal _ _ (after_now w l entries.End)
now_later w l (entries.Arrive id sender to content) life can = equal _ _ (inner_now w l (entries.Arrive id sender to content) refl)
now_later w l (entries.Back id) life can = equal _ _ (inner_now w l (entries.Back id) refl)
now_later w l (entries.Admit id) life can = equal _ _ (inner_now w l (entries.Admit id) refl)
now_later w l (entries.Load id from to) life can = equal _ _ (inner_now w l (entries.Load id from to) refl)
now_later w l (entries.Start number id site positions) life can = equal _ _ (inner_now w l (entries.Start number id site positions) refl)
now_later w l (entries.Preempt child parent transport need) life can = equal _ _ (inner_now w l (entries.Preempt child parent transport need) refl)
now_later w l (entries.Reply number state os) life can = equal _ _ (inner_now w l (entries.Reply number state os) refl)
now_later w l (entries.Skip id site positions) life can = equal _ _ (inner_now w l (entries.Skip id site positions) refl)
now_later w l (entries.Log id failure) life can = equal _ _ (inner_now w l (entries.Log id failure) refl)
now_later w l (entries.Mark id position) life can = equal _ _ (inner_now w l (entries.Mark id position) refl)
now_later w l (entries.Sync id) life can = equal _ _ (inner_now w l (entries.Sync id) refl)
now_later w l (entries.Defer id due) life can = equal _ _ (inner_now w l (entries.Defer id due) refl)
now_later w l (entries.Bounce id) life can = equal _ _ (inner_now w l (entries.Bounce id) refl)
now_later w l (entries.Remove id) life can = equal _ _ (inner_now w l (entries.Remove id) refl)
now_later w l (entries.Corrupt id) life can = equal _ _ (inner_now w l (entries.Corrupt id) refl)
now_later w l (entries.Trigger kind) life can = equal _ _ (inner_now w l (entries.Trigger kind) refl)

-- ---- along entries

-- the moment came, or the site is known and rests until then
record Rests (m : ℕ) (site : Site) (w : World) (l : Ledger) : Type 0 where
  fits : m ≤ l.now + w.settings.rate_delay
  state : (m ≤ l.now) ⊎ (Known site l.sites × AllRest m site l.sites)

-- nothing is known of the site before the moment
abbrev is_lost : ℕ → Site → Ledger → Bool
is_lost m site l = is_none (record_of l site) && nat_lt l.now m

known_by : (site : Site) (l : Ledger) (o : Option SiteRecord) → record_of l site ≡ o → is_none o ≡ false → Known site l.sites
known_by site l None e h = absurd cc
known_by site l (Some x) e h = let two = find_in (λ (r : SiteRecord). site_eq r.site site) x l.sites e in (x, two.0, site_eq-true x.site site two.1)

-- after an entry that leaves each record of the site resting, where there is one
rests_or_lost : (m : ℕ) (site : Site) (w : World) (l : Ledger) → m ≤ l.now + w.settings.rate_delay → (l.now < m → AllRest m site l.sites) → Rests m site w l ⊎ (is_lost m site l ≡ true)
rests_or_lost m site w l fits rests = by_time (nat_lt l.now m) refl
  where
    by_record : (b : Bool) → is_none (record_of l site) ≡ b → l.now < m → Rests m site w l ⊎ (is_lost m site l ≡ true)
    by_record true none before = inr (and_from (is_none (record_of l site)) (nat_lt l.now m) none (lt-ltb l.now m before))
    by_record false none before = inl (record { fits = fits; state = inr (known_by site l (record_of l site) refl none, rests before) })

    by_time : (b : Bool) → nat_lt l.now m ≡ b → Rests m site w l ⊎ (is_lost m site l ≡ true)
    by_time false e = inl (record { fits = fits; state = inl (ltb-false l.now m e) })
    by_time true e = by_record (is_none (record_of l site)) refl (ltb-true l.now m e)

entry_may : (w : World) (l : Ledger) (e : Entry) → IsConsistent w l → IsEntryOf w l e → may w l e ≡ true
entry_may w l e c (inl k) = may_be w l e (and_parts (is_outside e) (allowed w l e) k).1
entry_may w l e c (inr k) = (next_decided w l e c k).0

entry_rests : (m : ℕ) (site : Site) (w : World) (l : Ledger) (e : Entry) → IsConsistent w l → IsEntryOf w l e → is_life e ≡ false → Rests m site w l → Rests m site w (after w l e) ⊎ (is_lost m site (after w l e) ≡ true)
entry_rests m site w l e c is life h =
    let later = now_later w l e life (entry_may w l e c is) in
    let fits : m ≤ (after w l e).now + w.settings.rate_delay = let a = h.fits in omega (arith, a, later) in
    rests_or_lost m site w (after w l e) fits (λ before. resting later before h.state)
  where
    resting : l.now ≤ (after w l e).now → (after w l e).now < m → (m ≤ l.now) ⊎ (Known site l.sites × AllRest m site l.sites) → AllRest m site (after w l e).sites
    resting later before (inl came) = absurd (omega (arith, came, later, before))
    resting later before (inr both) = λ r inside here.
        change_rests w l m site h.fits both.0 both.1 e life (subst (λ n. n < m) (after_now w l e) before) r (in_after w l e r inside) here

along : (m : ℕ) (site : Site) (w : World) (l : Ledger) (es : List Entry) → IsConsistent w l → AreEntriesOf w l es → list_any is_life es ≡ false → Rests m site w l → Rests m site w (after_all w l es) ⊎ (is_forgotten_before m site w l es ≡ true)
unfolding after_all
along m site w l [] c are lives h = inl h
along m site w l (e ∷ es) c are lives h =
    on (entry_rests m site w l e c are.0 (first (is_life e) lives) h)
    (λ rests. along m site w (after w l e) es (entry_consistent w l e c are.0) are.1 (others (is_life e) lives) rests)
  where
    first : (b : Bool) → (b || list_any is_life es) ≡ false → b ≡ false
    first true k = absurd cc
    first false k = refl

    others : (b : Bool) → (b || list_any is_life es) ≡ false → list_any is_life es ≡ false
    others true k = absurd cc
    others false k = k

    on : Rests m site w (after w l e) ⊎ (is_lost m site (after w l e) ≡ true) →
        (Rests m site w (after w l e) → Rests m site w (after_all w (after w l e) es) ⊎ (is_forgotten_before m site w (after w l e) es ≡ true)) →
        Rests m site w (after_all w (after w l e) es) ⊎ (is_forgotten_before m site w l (e ∷ es) ≡ true)
    on (inr lost) further = inr (or_left (is_lost m site (after w l e)) (is_forgotten_before m site w (after w l e) es) lost)
    on (inl rests) further = elim (further rests) [
      | inl k ↦ inl k
      | inr k ↦ inr (or_right (is_lost m site (after w l e)) (is_forgotten_before m site w (after w l e) es) k)
    ]

-- ---- a reply, and a start

-- each record of the site of a delivery that ended rests for the delay
begins_rest : (w : World) (now : ℕ) (r : SiteRecord) → now < now + w.settings.rate_delay → IsLater (now + w.settings.rate_delay) (rested w now r).rest
begins_rest w now r some = which (w.settings.rate_delay == 0) refl
  where
    which : (b : Bool) → (w.settings.rate_delay == 0) ≡ b → IsLater (now + w.settings.rate_delay) (if b then r else record r { rest = Some (now + w.settings.rate_delay) }).rest
    which true e = let a = eqb-true w.settings.rate_delay 0 e in absurd (omega (arith, a, some))
    which false e = omega arith

heard_rest : (w : World) (now : ℕ) (site : Site) (f : SiteRecord → SiteRecord) (rs : List SiteRecord) → ((r : SiteRecord) → (f r).site ≡ r.site) → now < now + w.settings.rate_delay → AllRest (now + w.settings.rate_delay) site (map (λ r. if site_eq r.site site then rested w now (f r) else r) rs)
heard_rest w now site f rs same some r inside here =
    let one = in_unmap (λ (x : SiteRecord). if site_eq x.site site then rested w now (f x) else x) r rs inside in
    which one.0 (site_eq one.0.site site) refl one.2
  where
    which : (x : SiteRecord) (b : Bool) → site_eq x.site site ≡ b → (if b then rested w now (f x) else x) ≡ r → IsLater (now + w.settings.rate_delay) r.rest
    which x true e is = subst (λ (y : SiteRecord). IsLater (now + w.settings.rate_delay) y.rest) is (begins_rest w now (f x) some)
    which x false e is =
        let there : site_eq x.site site ≡ true = subst (λ s. site_eq s site ≡ true) (sym (ap (λ (y : SiteRecord). y.site) is ∙ here)) (site_eq-refl site) in
        let bad : true ≡ false = sym there ∙ e in
        absurd cc

reply_rest : (w : World) (l : Ledger) (state : SiteState) (os : List Outcome) (f : Delivery) → l.now < l.now + w.settings.rate_delay → AllRest (l.now + w.settings.rate_delay) f.row.site (replied w l state os f).sites
reply_rest w l Up os f some = subst (AllRest (l.now + w.settings.rate_delay) f.row.site) (sym (outcomes_sites w f.row.id f.row.positions os (landed w l Up f)))
    (heard_rest w l.now f.row.site (after_up w (busy l f.row.site)) l.sites (λ r. (up_rest w (busy l f.row.site) r).0) some)
reply_rest w l Down os f some = subst (AllRest (l.now + w.settings.rate_delay) f.row.site) (sym (outcomes_sites w f.row.id f.row.positions os (landed w l Down f)))
    (heard_rest w l.now f.row.site (after_down w l.now) l.sites (λ r. (down_rest w l.now r).0) some)

after_reply_rests : (w : World) (l : Ledger) (number : ℕ) (state : SiteState) (os : List Outcome) (f : Delivery) → flight_of l number ≡ Some f →
    Rests (l.now + w.settings.rate_delay) f.row.site w (after w l (entries.Reply number state os)) ⊎ (is_lost (l.now + w.settings.rate_delay) f.row.site (after w l (entries.Reply number state os)) ≡ true)
after_reply_rests w l number state os f found =
    let e = entries.Reply number state os in
    let m = l.now + w.settings.rate_delay in
    let now : (after w l e).now ≡ l.now = inner_now w l e refl in
    rests_or_lost m f.row.site w (after w l e) (omega (arith, now)) (λ before r inside here.
    subst (λ (o : Option Delivery). AllRest m f.row.site (option_map_or (λ (g : Delivery). replied w l state os g) o l).sites) (sym found)
    (reply_rest w l state os f (omega (arith, now, before))) r (in_after w l e r inside) here)

no_rest : (m : ℕ) (s : SiteRecord) → is_awake s ≡ true → IsLater m s.rest → ⊥
no_rest m s h k = on s.rest (not-true (is_some s.rest) (and_parts (is_alive s.health) (not (is_some s.rest)) h).1) k
  where
    on : (o : Option ℕ) → is_some o ≡ false → IsLater m o → ⊥
    on None e j = j
    on (Some u) e j = absurd cc

starts_awake : (m : ℕ) (l : Ledger) (site : Site) (o : Option SiteRecord) → record_of l site ≡ o → option_map_or (λ (s : SiteRecord). is_awake s && nat_lt (busy l site) s.window) o false ≡ true → AllRest m site l.sites → ⊥
starts_awake m l site None e h k = absurd cc
starts_awake m l site (Some s) e h k =
    let two = find_in (λ (r : SiteRecord). site_eq r.site site) s l.sites e in
    no_rest m s (and_parts (is_awake s) (nat_lt (busy l site) s.window) h).0 (k s two.0 (site_eq-true s.site site two.1))

-- where a delivery may begin the site doesn't rest
start_later : (m : ℕ) (site : Site) (w : World) (l : Ledger) (number : ℕ) (id : Id) (ps : List ℕ) → may w l (entries.Start number id site ps) ≡ true → Rests m site w l → m ≤ l.now
start_later m site w l number id ps can h = on h.state
  where
    on : (m ≤ l.now) ⊎ (Known site l.sites × AllRest m site l.sites) → m ≤ l.now
    on (inl came) = came
    on (inr both) =
        let two = and_parts (number == starts l + 1) (list_any (λ r. is_row id site ps r && is_startable w l r) l.waiting) can in
        let one = any_in (λ r. is_row id site ps r && is_startable w l r) l.waiting two.1 in
        let r = one.0 in
        let parts = and_parts (is_row id site ps r) (is_startable w l r) one.2 in
        let room : Bool = option_map_or (λ (s : SiteRecord). is_awake s && nat_lt (busy l r.site) s.window) (record_of l r.site) false in
        let awake = (and_parts (nat_lt (flights_of l r.site.transport) w.settings.process_limit) room parts.1).1 in
        absurd (starts_awake m l r.site (record_of l r.site) refl awake (subst (λ s. AllRest m s l.sites) (sym (this_row id site ps r parts.0).at) both.1))

pub keeps_apart : (w : World) (l : Ledger) → IsConsistent w l → KeepsApart w l
unfolding after_all
keeps_apart w l c number state os f found es lives are begun id ps can =
    let m = l.now + w.settings.rate_delay in
    let site = f.row.site in
    let e = entries.Reply number state os in
    let k = after w l e in
    elim (after_reply_rests w l number state os f found) [
      | inr lost ↦ inr (or_left (is_lost m site k) (is_forgotten_before m site w k es) lost)
      | inl rests ↦ elim (along m site w k es (entry_consistent w l e c are.0) are.1 lives rests) [
        | inl last ↦ inl (start_later m site w (after_all w k es) begun id ps can last)
        | inr lost ↦ inr (or_right (is_lost m site k) (is_forgotten_before m site w k es) lost)
      ]
    ]

-- ---- one delivery at a time

pub one_by_one : (w : World) (l : Ledger) → IsSitesConsistent w l → GoesOneByOne w l
one_by_one w l h some site = which (w.settings.rate_delay == 0) refl (h.busy site)
  where
    which : (b : Bool) → (w.settings.rate_delay == 0) ≡ b → busy l site ≤ (if b then w.settings.concurrency_limit else 1) → busy l site ≤ 1
    which true e k = absurd (some (eqb-true w.settings.rate_delay 0 e))
    which false e k = k
