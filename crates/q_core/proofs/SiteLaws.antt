-- The records of sites change by an entry.
use Rattle.std.proofs.Common.{◌≡◌, Bool, true, false, List, ◌++◌, refl, sym, ap, ◌∙◌, subst, append-nil}
use Rattle.std.specs.Prelude.{◌&&◌, filter, not}
use Rattle.q_core.proofs.ListLaws.{filter-same, filter_each, filter_none}
use Rattle.q_core.proofs.MovedLaws.{moved_is}
use Rattle.q_core.proofs.NameLaws.{and_true_parts}
use Rattle.q_core.proofs.TidyLaws.{kept_alive, tidy_law, tidied_as, tidied_by}
use Rattle.q_core.proofs.StepLaws.{HoldsRaw, IsStillSeen}
use Rattle.q_core.specs.Agrees.{AgreesButScan, Matches}
use Rattle.q_core.specs.Changes.{HasLeftSite, IsTidied}
use Rattle.q_core.specs.UsedSites.{is_left_in, is_unused_in}
use Rattle.q_core.specs.Lists.{moved_back}
use Rattle.q_core.specs.declared.state.Core.{Core}
use Rattle.q_core.specs.declared.state.Seen.{Seen}
use Rattle.q_core.specs.declared.state.Seen.TheVariants.{Known, Unknown}
use Rattle.q_laws.specs.SitesConsistency.{are_apart}
use Rattle.q_model.proofs.IdLaws.{site_eq-true}
use Rattle.q_model.specs.Sites.{site_eq}
use Rattle.q_model.specs.Ledger.{Ledger}
use Rattle.q_model.specs.Settings.{World}
use Rattle.q_model.specs.Step.{tidied}
use Rattle.q_model.specs.UnusedSites.{forget_oldest, is_unused}
use Rattle.q_model.specs.Values.{Site, SiteRecord}
use Rattle.q_model.specs.declared.rows.Delivery.{Delivery}
use Rattle.q_model.specs.declared.rows.Row.{Row}

still_sites : (seen : Seen) (l : Ledger) (sites : List SiteRecord) → IsStillSeen seen l → IsStillSeen seen (record l { sites = sites })
still_sites Unknown l sites h = tt
still_sites (Known found) l sites h = h

-- the records of sites are set in both
pub sites_law : {w : World} {c d : Core} {l : Ledger} (sites : List SiteRecord) → HoldsRaw w c l → d ≡ record c { sites = d.sites } → d.sites ≡ sites → HoldsRaw w d (record l { sites = sites })
sites_law {w = w} {c = c} {d = d} {l = l} sites r rest e =
    let h = r.parts in
    let later : Ledger = record l { sites = sites } in
    let kept : AgreesButScan w (record c { sites = d.sites }) later = record {
      settings = h.settings;
      count = h.count;
      transports = h.transports;
      mode = h.mode;
      clock = h.clock;
      timed = h.timed;
      next_run = h.next_run;
      ignores = h.ignores;
      deferred_follows = h.deferred_follows;
      admitted = h.admitted;
      waiting = h.waiting;
      flights = h.flights;
      memory = h.memory;
      served = h.served;
      unsettled = h.unsettled;
      lines = h.lines;
      sites = e;
      synced = h.synced;
      starts = h.starts;
      active = h.active;
      incoming = h.incoming;
    } in
    let raw : HoldsRaw w (record c { sites = d.sites }) later = record { parts = kept; scan = r.scan; asked = r.asked; seen = still_sites c.deferred l sites r.seen } in
    subst (λ k. HoldsRaw w k later) (sym rest) raw

-- a row left this site, and no other row left or came
pub record LeavesFrom (site : Site) (before l : Ledger) : Type 0 where
  pub here : is_unused_in before.waiting before.flights site ≡ false
  pub elsewhere : (s : Site) → site_eq s site ≡ false → is_unused_in l.waiting l.flights s ≡ is_unused_in before.waiting before.flights s

abbrev comes_unused : Ledger → Ledger → SiteRecord → Bool
comes_unused before l r = is_unused l r && not (is_unused before r)

newly_same : (b : Bool) → (b && not b) ≡ (b && false)
newly_same true = refl
newly_same false = refl

newly_case : (site : Site) (before l : Ledger) → LeavesFrom site before l → (r : SiteRecord) → (b : Bool) → site_eq r.site site ≡ b → comes_unused before l r ≡ is_left_in l.waiting l.flights site r
newly_case site before l leaves r true e =
    ap (λ x. is_unused l r && not x) (ap (is_unused_in before.waiting before.flights) (site_eq-true r.site site e) ∙ leaves.here)
    ∙ ap (λ x. is_unused l r && x) (sym e)
newly_case site before l leaves r false e =
    ap (λ x. is_unused l r && not x) (sym (leaves.elsewhere r.site e)) ∙ newly_same (is_unused l r) ∙ ap (λ x. is_unused l r && x) (sym e)

left_there : (l : Ledger) (site : Site) (r : SiteRecord) → is_left_in l.waiting l.flights site r ≡ true → r.site ≡ site
left_there l site r h = site_eq-true r.site site (and_true_parts (is_unused_in l.waiting l.flights r.site) (site_eq r.site site) h).1

abbrev sites_left : Ledger → Site → List SiteRecord
sites_left l site = moved_back (is_left_in l.waiting l.flights site) l.sites

ordered_left : (site : Site) (before l : Ledger) → LeavesFrom site before l → are_apart l.sites ≡ true →
    (filter (λ r. not (comes_unused before l r)) l.sites ++ filter (comes_unused before l) l.sites) ≡ sites_left l site
ordered_left site before l leaves apart =
    let same : (r : SiteRecord) → comes_unused before l r ≡ is_left_in l.waiting l.flights site r = λ r. newly_case site before l leaves r (site_eq r.site site) refl in
    ap (λ xs. xs ++ filter (comes_unused before l) l.sites) (filter-same (λ r. not (comes_unused before l r)) (λ r. not (is_left_in l.waiting l.flights site r)) (λ r. ap not (same r)) l.sites)
    ∙ ap (λ xs. filter (λ r. not (is_left_in l.waiting l.flights site r)) l.sites ++ xs) (filter-same (comes_unused before l) (is_left_in l.waiting l.flights site) same l.sites)
    ∙ moved_is site (is_left_in l.waiting l.flights site) (left_there l site) l.sites apart

none_new : (b : Bool) → (b && not b) ≡ false
none_new true = refl
none_new false = refl

-- with the records in their order, nothing comes to be unused
tidied_same : (w : World) (l : Ledger) → tidied w l l ≡ tidied_by w l (forget_oldest w l (kept_alive l l.sites))
tidied_same w l =
    tidied_as w l l
    ∙ ap (λ xs. tidied_by w l (forget_oldest w l (kept_alive l xs)))
    (ap (λ xs. xs ++ filter (comes_unused l l) l.sites) (filter_each (λ r. not (comes_unused l l r)) (λ r. ap not (none_new (is_unused l r))) l.sites)
    ∙ ap (λ xs. l.sites ++ xs) (filter_none (comes_unused l l) (λ r. none_new (is_unused l r)) l.sites)
    ∙ append-nil l.sites)

tidied_left : (w : World) (site : Site) (before l : Ledger) → LeavesFrom site before l → are_apart l.sites ≡ true →
    tidied w before l ≡ tidied w (record l { sites = sites_left l site }) (record l { sites = sites_left l site })
tidied_left w site before l leaves apart =
    tidied_as w before l
    ∙ ap (λ xs. tidied_by w l (forget_oldest w l (kept_alive l xs))) (ordered_left site before l leaves apart)
    ∙ sym (tidied_same w (record l { sites = sites_left l site }))

-- tidying keeps the agreement; the entry took a row from this site
pub tidy_left_law : {w : World} {c mid d : Core} {l : Ledger} (site : Site) (before : Ledger) → LeavesFrom site before l → are_apart l.sites ≡ true → HoldsRaw w c l →
    HasLeftSite c mid site → IsTidied mid d → Matches w d (tidied w before l)
tidy_left_law {w = w} {c = c} {mid = mid} {d = d} {l = l} site before leaves apart r left s =
    let moved : mid.sites ≡ sites_left l site =
    left.sites
    ∙ ap (λ (rs : List Row). moved_back (is_left_in rs c.flights site) c.sites) r.parts.waiting
    ∙ ap (λ (fs : List Delivery). moved_back (is_left_in l.waiting fs site) c.sites) r.parts.flights
    ∙ ap (moved_back (is_left_in l.waiting l.flights site)) r.parts.sites in
    let later : Ledger = record l { sites = sites_left l site } in
    subst (λ k. Matches w d k) (sym (tidied_left w site before l leaves apart)) (tidy_law later refl refl (sites_law (sites_left l site) r left.rest moved) s)

-- tidying keeps the agreement; the entry left no site unused that was used before
pub tidy_used_law : {w : World} {c d : Core} {l : Ledger} (before : Ledger) → ((r : SiteRecord) → comes_unused before l r ≡ false) → HoldsRaw w c l → IsTidied c d → Matches w d (tidied w before l)
tidy_used_law {w = w} {c = c} {d = d} {l = l} before none r s =
    let ordered : (filter (λ x. not (comes_unused before l x)) l.sites ++ filter (comes_unused before l) l.sites) ≡ l.sites =
    ap (λ xs. xs ++ filter (comes_unused before l) l.sites) (filter_each (λ x. not (comes_unused before l x)) (λ x. ap not (none x)) l.sites)
    ∙ ap (λ xs. l.sites ++ xs) (filter_none (comes_unused before l) none l.sites)
    ∙ append-nil l.sites in
    let same : tidied w before l ≡ tidied w l l =
    tidied_as w before l ∙ ap (λ xs. tidied_by w l (forget_oldest w l (kept_alive l xs))) ordered ∙ sym (tidied_same w l) in
    subst (λ k. Matches w d k) (sym same) (tidy_law l refl refl r s)
