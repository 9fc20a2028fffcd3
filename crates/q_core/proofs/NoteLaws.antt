-- An entry is noted, and what the triggers change.
use Rattle.std.proofs.Common.{◌≡◌, ℕ, ◌+◌, Bool, true, false, List, [], ◌∷◌, map, refl, sym, ap, ◌∙◌, subst, cond, zero-add}
use Rattle.std.specs.Prelude.{not, if◌then◌else◌, count_by, sum_by}
use Rattle.std.specs.List.{enumerate_from}
use Rattle.std.proofs.lemmas.List.Sums.{take_while-cons, sum_by-cons}
use Rattle.q_core.proofs.ListLaws.{map-same}
use Rattle.q_core.proofs.StepLaws.{HoldsRaw, IsStillSeen}
use Rattle.q_core.specs.Agrees.{AgreesButScan, job_of, jobs_of}
use Rattle.q_core.specs.Changes.{IsRevived}
use Rattle.q_core.specs.UsedSites.{busy_in, revive_dead_in}
use Rattle.q_core.specs.declared.state.Core.{Core}
use Rattle.q_core.specs.declared.state.Seen.{Seen}
use Rattle.q_core.specs.declared.state.Seen.TheVariants.{Known, Unknown}
use Rattle.q_model.specs.Accounts.{charge_of, charged, is_admit_of, is_start_of, since_admit, starts_of}
use Rattle.q_model.specs.Deliveries.{busy}
use Rattle.q_model.specs.Ledger.{Ledger}
use Rattle.q_model.specs.Past.{is_start}
use Rattle.q_model.specs.Revival.{revive_all}
use Rattle.q_model.specs.Routes.{world_without_table}
use Rattle.q_model.specs.Settings.{Settings, World}
use Rattle.q_model.specs.SiteRecords.{is_alive}
use Rattle.q_model.specs.Step.{noted}
use Rattle.q_model.specs.Values.{SiteRecord}
use Rattle.q_model.specs.Windows.{revived}
use Rattle.q_model.specs.declared.entry.Entry.{Entry}
use Rattle.q_model.specs.declared.id.Id.{Id}
use Rattle.q_model.specs.declared.rows.Delivery.{Delivery}

still_noted : (seen : Seen) (l : Ledger) (past : List Entry) → IsStillSeen seen l → IsStillSeen seen (record l { past = past })
still_noted Unknown l past h = tt
still_noted (Known found) l past h = h

-- an entry that begins no account and adds to none
pub record IsQuiet (e : Entry) : Type 0 where
  pub no_admit : (id : Id) → is_admit_of id e ≡ false
  pub no_start_of : (id : Id) (transport : ℕ) → is_start_of id transport e ≡ false
  pub no_charge : (id : Id) (transport : ℕ) → charge_of id transport e ≡ 0
  pub no_start : is_start e ≡ false

since_quiet : (e : Entry) (l : Ledger) (id : Id) → IsQuiet e → since_admit (noted e l) id ≡ e ∷ since_admit l id
since_quiet e l id q =
    take_while-cons (λ x. not (is_admit_of id x)) e l.past
    ∙ ap (λ b. cond (not b) (e ∷ since_admit l id) []) (q.no_admit id)

count_quiet : (p : Entry → Bool) (e : Entry) (es : List Entry) → p e ≡ false → count_by p (e ∷ es) ≡ count_by p es
count_quiet p e es h = sum_by-cons (λ x. cond (p x) 1 0) e es ∙ ap (λ b. cond b 1 0 + count_by p es) h ∙ zero-add (count_by p es)

same_starts : (e : Entry) (l : Ledger) (id : Id) (t : ℕ) → IsQuiet e → starts_of (noted e l) id t ≡ starts_of l id t
same_starts e l id t q = ap (count_by (is_start_of id t)) (since_quiet e l id q) ∙ count_quiet (is_start_of id t) e (since_admit l id) (q.no_start_of id t)

same_charged : (e : Entry) (l : Ledger) (id : Id) (t : ℕ) → IsQuiet e → charged (noted e l) id t ≡ charged l id t
same_charged e l id t q =
    ap (sum_by (charge_of id t)) (since_quiet e l id q) ∙ sum_by-cons (charge_of id t) e (since_admit l id)
    ∙ ap (λ n. n + charged l id t) (q.no_charge id t) ∙ zero-add (charged l id t)

same_job : (e : Entry) (l : Ledger) → IsQuiet e → (t : ℕ) (id : Id) → job_of (noted e l) t id ≡ job_of l t id
same_job e l q t id =
    ap (λ n. record { id = id; starts = n; charged = charged (noted e l) id t }) (same_starts e l id t q)
    ∙ ap (λ n. record { id = id; starts = starts_of l id t; charged = n }) (same_charged e l id t q)

same_jobs : (e : Entry) (l : Ledger) → IsQuiet e → (lines : List (ℕ × List Id)) → map (jobs_of l) lines ≡ map (jobs_of (noted e l)) lines
same_jobs e l q [] = refl
same_jobs e l q (x ∷ xs) =
    ap (λ js. js ∷ map (jobs_of l) xs) (map-same (job_of l x.0) (job_of (noted e l) x.0) (λ id. sym (same_job e l q x.0 id)) x.1)
    ∙ ap (λ ls. jobs_of (noted e l) x ∷ ls) (same_jobs e l q xs)

-- an entry that begins no account is noted
pub note_law : {w : World} {c : Core} {l : Ledger} (e : Entry) → IsQuiet e → HoldsRaw w c l → HoldsRaw w c (noted e l)
note_law {w = w} {c = c} {l = l} e q r = let h = r.parts in record {
  parts = record {
    settings = h.settings;
    count = h.count;
    transports = h.transports;
    mode = h.mode;
    clock = h.clock;
    timed = h.timed;
    next_run = h.next_run;
    ignores = h.ignores;
    deferred_follows = h.deferred_follows;
    admitted = h.admitted;
    waiting = h.waiting;
    flights = h.flights;
    memory = h.memory;
    served = h.served;
    unsettled = h.unsettled;
    lines = (h.lines ∙ same_jobs e l q (enumerate_from 0 l.lines));
    sites = h.sites;
    synced = h.synced;
    starts = (h.starts ∙ sym (count_quiet is_start e l.past q.no_start));
    active = h.active;
    incoming = h.incoming;
  };
  scan = r.scan;
  asked = r.asked;
  seen = still_noted c.deferred l (e ∷ l.past) r.seen;
}

still_ignored : (seen : Seen) (l : Ledger) (b : Bool) → IsStillSeen seen l → IsStillSeen seen (record l { ignores = b })
still_ignored Unknown l b h = tt
still_ignored (Known found) l b h = h

pub ignore_law : {w : World} {c : Core} {l : Ledger} → HoldsRaw w c l → HoldsRaw w (record c { ignores = true }) (record l { ignores = true })
ignore_law {c = c} {l = l} r = let h = r.parts in record {
  parts = record {
    settings = h.settings;
    count = h.count;
    transports = h.transports;
    mode = h.mode;
    clock = h.clock;
    timed = h.timed;
    next_run = h.next_run;
    ignores = refl;
    deferred_follows = h.deferred_follows;
    admitted = h.admitted;
    waiting = h.waiting;
    flights = h.flights;
    memory = h.memory;
    served = h.served;
    unsettled = h.unsettled;
    lines = h.lines;
    sites = h.sites;
    synced = h.synced;
    starts = h.starts;
    active = h.active;
    incoming = h.incoming;
  };
  scan = r.scan;
  asked = r.asked;
  seen = still_ignored c.deferred l true r.seen;
}

still_revived : (seen : Seen) (l : Ledger) (sites : List SiteRecord) → IsStillSeen seen l → IsStillSeen seen (record l { sites = sites })
still_revived Unknown l sites h = tt
still_revived (Known found) l sites h = h

alive_or : (b : Bool) (r s : SiteRecord) → (if not b then s else r) ≡ (if b then r else s)
alive_or true r s = refl
alive_or false r s = refl

pub revive_law : {w : World} {c d : Core} {l : Ledger} → HoldsRaw w c l → IsRevived c d → HoldsRaw w d (record l { sites = revive_all w l })
revive_law {w = w} {c = c} {d = d} {l = l} r revives =
    let h = r.parts in
    let sites : d.sites ≡ revive_all w l =
    revives.sites
    ∙ ap (λ (fs : List Delivery). map (revive_dead_in c.params fs) c.sites) h.flights
    ∙ ap (map (revive_dead_in c.params l.flights)) h.sites
    ∙ ap (λ (s : Settings). map (λ (x : SiteRecord). if not (is_alive x.health) then revived (world_without_table s) (busy_in l.flights x.site) x else x) l.sites) h.settings
    ∙ map-same (λ (x : SiteRecord). if not (is_alive x.health) then revived w (busy l x.site) x else x) (λ (x : SiteRecord). if is_alive x.health then x else revived w (busy l x.site) x)
    (λ x. alive_or (is_alive x.health) x (revived w (busy l x.site) x)) l.sites in
    let later : Ledger = record l { sites = revive_all w l } in
    let kept : AgreesButScan w (record c { sites = d.sites }) later = record {
      settings = h.settings;
      count = h.count;
      transports = h.transports;
      mode = h.mode;
      clock = h.clock;
      timed = h.timed;
      next_run = h.next_run;
      ignores = h.ignores;
      deferred_follows = h.deferred_follows;
      admitted = h.admitted;
      waiting = h.waiting;
      flights = h.flights;
      memory = h.memory;
      served = h.served;
      unsettled = h.unsettled;
      lines = h.lines;
      sites = sites;
      synced = h.synced;
      starts = h.starts;
      active = h.active;
      incoming = h.incoming;
    } in
    let raw : HoldsRaw w (record c { sites = d.sites }) later = record { parts = kept; scan = r.scan; asked = r.asked; seen = still_revived c.deferred l (revive_all w l) r.seen } in
    subst (λ k. HoldsRaw w k later) (sym revives.rest) raw
