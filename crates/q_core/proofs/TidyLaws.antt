-- How the core is tidied after an entry.
use Rattle.std.proofs.Common.{◌≡◌, ℕ, ◌+◌, Bool, true, false, cond, List, [], ◌∷◌, ◌++◌, map, refl, sym, ap, ◌∙◌, subst, arith, Option, Some, None, option_map, append-nil}
use Rattle.std.specs.Prelude.{filter, not, ◌&&◌, ◌||◌, ◌==◌, slice_get}
use Rattle.std.specs.List.{list_any, enumerate_from}
use Rattle.std.specs.Option.{option_map_or}
use Rattle.q_core.proofs.AgreesLaws.{same_unread}
use Rattle.q_core.proofs.ListLaws.{filter-map, filter-same, filter_each, filter_none, length-numbered, slice_get-numbered}
use Rattle.q_core.proofs.NameLaws.{id_eq-true}
use Rattle.q_core.proofs.StepLaws.{HoldsRaw, IsStillSeen}
use Rattle.q_core.specs.Agrees.{Matches, AgreesButScan, IsScan, IsSeenScan, found_deferred, job_of, jobs_of}
use Rattle.q_core.specs.Changes.{IsTidied}
use Rattle.q_core.specs.UsedSites.{forget_in, is_kept_in, is_unused_in, used_in}
use Rattle.q_core.specs.Scanning.{scan_after, scan_at}
use Rattle.q_core.specs.Tidied.{tidied_jobs, tidied_line, tidied_served, stays_among, waits_for}
use Rattle.q_jobs.specs.declared.job.Job.{Job}
use Rattle.q_core.specs.declared.state.Core.{Core}
use Rattle.q_core.specs.declared.state.Seen.{Seen}
use Rattle.q_core.specs.declared.state.Seen.TheVariants.{Known, Unknown}
use Rattle.q_model.specs.Sites.{site_eq}
use Rattle.q_model.specs.Ids.{id_eq}
use Rattle.q_model.specs.Ledger.{Ledger}
use Rattle.q_model.specs.Memory.{unread_of}
use Rattle.q_model.specs.Scans.{scan_next, tidy_scan, tidy_scan_at}
use Rattle.q_model.specs.Settings.{Settings, World}
use Rattle.q_model.specs.SiteRecords.{is_awake}
use Rattle.q_model.specs.Startable.{line_of}
use Rattle.q_model.specs.Step.{tidy_line, tidied, stays}
use Rattle.q_model.specs.UnusedSites.{forget_oldest, is_unused, tidied_sites}
use Rattle.q_model.specs.Values.{Served, SiteRecord}
use Rattle.q_model.specs.declared.id.Id.{Id}
use Rattle.q_model.specs.declared.rows.DeferredName.{DeferredName}
use Rattle.q_model.specs.declared.rows.Delivery.{Delivery}
use Rattle.q_model.specs.declared.rows.Request.{Request}
use Rattle.q_model.specs.declared.rows.Row.{Row}
use Rattle.q_model.specs.declared.rows.Scan.{Scan}

-- the scan and the request, in place of the ledger that tidies them
tidy_over_is : (l : Ledger) (s : Scan) (q : Option Request) (n : Option DeferredName) →
    tidy_scan_at (record l { scan = Some s; asked = q }) n ≡ record l { scan = (scan_at l.book l.now s q n).0; asked = (scan_at l.book l.now s q n).1 }
tidy_over_is l s q (Some n) = refl
tidy_over_is l s None None = refl
tidy_over_is l s (Some request) None = refl

tidied_scan_at : (l : Ledger) (o : Option Scan) (q : Option Request) →
    tidy_scan (record l { scan = o; asked = q }) ≡ record l { scan = (scan_after l.book l.now o q).0; asked = (scan_after l.book l.now o q).1 }
tidied_scan_at l None q = refl
tidied_scan_at l (Some s) q = tidy_over_is l s q (scan_next l.book s)

pub tidy_scan_is : (l : Ledger) → tidy_scan l ≡ record l { scan = (scan_after l.book l.now l.scan l.asked).0; asked = (scan_after l.book l.now l.scan l.asked).1 }
tidy_scan_is l = tidied_scan_at l l.scan l.asked

-- the same jobs stay in a line
same_stays : {w : World} {c : Core} {l : Ledger} → AgreesButScan w c l → (t : ℕ) (id : Id) → stays_among c.admitted c.waiting t id ≡ stays l t id
same_stays {c = c} {l = l} h t id =
    ap (λ n. not (n == 0) || waits_for c.waiting id t) (same_unread h id)
    ∙ ap (λ (rs : List Row). not (unread_of l id == 0) || waits_for rs id t) h.waiting

jobs_tidied : {w : World} {c : Core} {l : Ledger} → AgreesButScan w c l → (t : ℕ) (ids : List Id) →
    tidied_jobs c.admitted c.waiting t (map (job_of l t) ids) ≡ map (job_of l t) (filter (stays l t) ids)
jobs_tidied {c = c} {l = l} h t ids =
    filter-map (λ (j : Job). stays_among c.admitted c.waiting t j.id) (job_of l t) ids
    ∙ ap (map (job_of l t)) (filter-same (λ id. stays_among c.admitted c.waiting t id) (stays l t) (same_stays h t) ids)

lines_tidied : {w : World} {c : Core} {l : Ledger} → AgreesButScan w c l → (n : ℕ) (ls : List (List Id)) →
    map (tidied_line c.admitted c.waiting) (enumerate_from n (map (jobs_of l) (enumerate_from n ls))) ≡ map (jobs_of l) (enumerate_from n (map (tidy_line l) (enumerate_from n ls)))
lines_tidied h n [] = refl
lines_tidied {c = c} {l = l} h n (ids ∷ ls) =
    ap (λ js. js ∷ map (tidied_line c.admitted c.waiting) (enumerate_from (n + 1) (map (jobs_of l) (enumerate_from (n + 1) ls)))) (jobs_tidied h n ids)
    ∙ ap (λ rest. map (job_of l n) (filter (stays l n) ids) ∷ rest) (lines_tidied h (n + 1) ls)

-- what isn't in a line that was tidied, and stays, wasn't in the line
gone_step : (p : Id → Bool) (id x : Id) (xs : List Id) → p id ≡ true → (list_any (id_eq id) (filter p xs) ≡ false → list_any (id_eq id) xs ≡ false) →
    (b e : Bool) → p x ≡ b → id_eq id x ≡ e → list_any (id_eq id) (cond b (x ∷ filter p xs) (filter p xs)) ≡ false → (e || list_any (id_eq id) xs) ≡ false
gone_step p id x xs stays rest b false pb eb h = gone_rest b h
  where
    gone_rest : (b : Bool) → list_any (id_eq id) (cond b (x ∷ filter p xs) (filter p xs)) ≡ false → list_any (id_eq id) xs ≡ false
    gone_rest true h = rest (ap (λ z. z || list_any (id_eq id) (filter p xs)) (sym eb) ∙ h)
    gone_rest false h = rest h
gone_step p id x xs stays rest true true pb eb h = let bad : true ≡ false = ap (λ z. z || list_any (id_eq id) (filter p xs)) (sym eb) ∙ h in cc
gone_step p id x xs stays rest false true pb eb h = let bad : false ≡ true = sym pb ∙ ap p (sym (id_eq-true id x eb)) ∙ stays in cc

still_gone : (p : Id → Bool) (id : Id) (xs : List Id) → p id ≡ true → list_any (id_eq id) (filter p xs) ≡ false → list_any (id_eq id) xs ≡ false
still_gone p id [] stays h = refl
still_gone p id (x ∷ xs) stays h = gone_step p id x xs stays (still_gone p id xs stays) (p x) (id_eq id x) refl refl h

abbrev line_at : Option (List Id) → List Id
line_at o = option_map_or (λ ids. ids) o []

line_filtered : (l : Ledger) (t : ℕ) (o : Option (List Id)) → line_at (option_map (λ ids. tidy_line l (t, ids)) o) ≡ filter (stays l t) (line_at o)
line_filtered l t None = refl
line_filtered l t (Some ids) = refl

line_tidied : (l : Ledger) (t : ℕ) → line_at (slice_get (map (tidy_line l) (enumerate_from 0 l.lines)) t) ≡ filter (stays l t) (line_of l t)
line_tidied l t = ap line_at (slice_get-numbered (tidy_line l) 0 t t l.lines (omega arith)) ∙ line_filtered l t (slice_get l.lines t)

-- where no row left its site, no record comes to be unused
not_newly : (b : Bool) → (b && not b) ≡ false
not_newly true = refl
not_newly false = refl

all_old : (b : Bool) → not (b && not b) ≡ true
all_old true = refl
all_old false = refl

twice_not : (a b : Bool) → not (a && not (not b)) ≡ not (a && b)
twice_not a true = refl
twice_not a false = refl

ordered_same : (l : Ledger) → (filter (λ r. not (is_unused l r && not (is_unused l r))) l.sites ++ filter (λ r. is_unused l r && not (is_unused l r)) l.sites) ≡ l.sites
ordered_same l =
    ap (λ xs. xs ++ filter (λ r. is_unused l r && not (is_unused l r)) l.sites) (filter_each (λ r. not (is_unused l r && not (is_unused l r))) (λ r. all_old (is_unused l r)) l.sites)
    ∙ ap (λ xs. l.sites ++ xs) (filter_none (λ r. is_unused l r && not (is_unused l r)) (λ r. not_newly (is_unused l r)) l.sites)
    ∙ append-nil l.sites

abbrev pub kept_alive : Ledger → List SiteRecord → List SiteRecord
kept_alive l rs = filter (λ r. not (is_unused l r && is_awake r)) rs

sites_tidied : {w : World} {c : Core} {l : Ledger} → AgreesButScan w c l →
    forget_in c.waiting c.flights c.params.recipient_limit (used_in c.waiting c.flights c.sites) ≡ forget_oldest w l (kept_alive l l.sites)
sites_tidied {w = w} {c = c} {l = l} h =
    ap (λ (rs : List Row). forget_in rs c.flights c.params.recipient_limit (used_in rs c.flights c.sites)) h.waiting
    ∙ ap (λ (fs : List Delivery). forget_in l.waiting fs c.params.recipient_limit (used_in l.waiting fs c.sites)) h.flights
    ∙ ap (λ (ss : List SiteRecord). forget_in l.waiting l.flights c.params.recipient_limit (used_in l.waiting l.flights ss)) h.sites
    ∙ ap (λ (x : Settings). forget_in l.waiting l.flights x.recipient_limit (used_in l.waiting l.flights l.sites)) h.settings
    ∙ ap (forget_in l.waiting l.flights w.settings.recipient_limit)
    (filter-same (is_kept_in l.waiting l.flights) (λ r. not (is_unused l r && is_awake r)) (λ r. twice_not (is_unused l r) (is_awake r)) l.sites)

-- the ledger after its scan, lines, served rows and sites are tidied, where no row left its site
abbrev pub tidied_by : World → Ledger → List SiteRecord → Ledger
tidied_by w l sites = record l {
  scan = (scan_after l.book l.now l.scan l.asked).0;
  asked = (scan_after l.book l.now l.scan l.asked).1;
  lines = map (tidy_line l) (enumerate_from 0 l.lines);
  served = filter (λ (s : Served). list_any (λ (r : Row). id_eq r.id s.id && site_eq r.site s.site) l.waiting) l.served;
  sites = sites;
}

seen_tidied : (seen : Seen) (w : World) (c : Core) (l : Ledger) (sites : List SiteRecord) → c.scan ≡ l.scan → c.asked ≡ l.asked → IsStillSeen seen l →
    IsSeenScan seen c.scan c.asked (tidied_by w l sites)
seen_tidied Unknown w c l sites s q h = tt
seen_tidied (Known found) w c l sites s q h =
    let same : (scan_after l.book l.now l.scan l.asked).0 ≡ l.scan = ap (λ (p : Option Scan × Option Request). p.0) h.1 in
    (s ∙ sym same, q ∙ sym (ap (λ (p : Option Scan × Option Request). p.1) h.1), h.0 ∙ ap (λ x. found_deferred (record l { scan = x })) (sym same))

abbrev sites_since : World → Ledger → List Row → List Delivery → List SiteRecord
sites_since w l rows flights = forget_oldest w l (kept_alive l
    (filter (λ r. not (is_unused l r && not (is_unused_in rows flights r.site))) l.sites ++ filter (λ r. is_unused l r && not (is_unused_in rows flights r.site)) l.sites))

pub tidied_as : (w : World) (before l : Ledger) → tidied w before l ≡ tidied_by w l (tidied_sites w before l)
tidied_as w before l =
    ap (λ (k : Ledger). record k {
      lines = map (tidy_line l) (enumerate_from 0 l.lines);
      served = filter (λ (s : Served). list_any (λ (r : Row). id_eq r.id s.id && site_eq r.site s.site) l.waiting) l.served;
      sites = tidied_sites w before l;
    }) (tidy_scan_is l)

tidied_is : (w : World) (before l : Ledger) → before.waiting ≡ l.waiting → before.flights ≡ l.flights → tidied w before l ≡ tidied_by w l (forget_oldest w l (kept_alive l l.sites))
tidied_is w before l rows flights =
    tidied_as w before l
    ∙ ap (tidied_by w l)
    (ap (λ rs. sites_since w l rs before.flights) rows ∙ ap (sites_since w l l.waiting) flights ∙ ap (λ xs. forget_oldest w l (kept_alive l xs)) (ordered_same l))

-- tidying keeps the agreement; the entry took no row from a site
pub tidy_law : {w : World} {c d : Core} {l : Ledger} (before : Ledger) → before.waiting ≡ l.waiting → before.flights ≡ l.flights → HoldsRaw w c l → IsTidied c d → Matches w d (tidied w before l)
tidy_law {w = w} {c = c} {d = d} {l = l} before rows flights r s =
    let h = r.parts in
    let kept : Core = record c { lines = d.lines; served = d.served; sites = d.sites } in
    let after : Ledger = tidied_by w l (forget_oldest w l (kept_alive l l.sites)) in
    let lines : d.lines ≡ map (jobs_of l) (enumerate_from 0 (map (tidy_line l) (enumerate_from 0 l.lines))) =
    s.lines ∙ ap (λ (js : List (List Job)). map (tidied_line c.admitted c.waiting) (enumerate_from 0 js)) h.lines ∙ lines_tidied h 0 l.lines in
    let served : d.served ≡ filter (λ (x : Served). list_any (λ (y : Row). id_eq y.id x.id && site_eq y.site x.site) l.waiting) l.served =
    s.served ∙ ap (λ (rs : List Row). tidied_served rs c.served) h.waiting ∙ ap (tidied_served l.waiting) h.served in
    let parts : AgreesButScan w kept after = record {
      settings = h.settings;
      count = (h.count ∙ sym (length-numbered (tidy_line l) 0 l.lines));
      transports = (length-numbered (tidy_line l) 0 l.lines ∙ h.transports);
      mode = h.mode;
      clock = h.clock;
      timed = h.timed;
      next_run = h.next_run;
      ignores = h.ignores;
      deferred_follows = h.deferred_follows;
      admitted = h.admitted;
      waiting = h.waiting;
      flights = h.flights;
      memory = h.memory;
      served = served;
      unsettled = h.unsettled;
      lines = lines;
      sites = (s.sites ∙ sites_tidied h);
      synced = h.synced;
      starts = h.starts;
      active = h.active;
      incoming = h.incoming;
    } in
    let scan : IsScan kept after = record {
      goes_on = ap (λ x. scan_after l.book l.now x c.asked) r.scan ∙ ap (scan_after l.book l.now l.scan) r.asked;
      seen = seen_tidied c.deferred w kept l (forget_oldest w l (kept_alive l l.sites)) r.scan r.asked r.seen;
    } in
    let agrees : Matches w d after = subst (λ k. Matches w k after) (sym s.rest) (record { parts = parts; scan = scan }) in
    subst (λ k. Matches w d k) (sym (tidied_is w before l rows flights)) agrees
