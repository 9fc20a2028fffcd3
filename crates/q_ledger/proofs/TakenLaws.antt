-- Sites and the scan tidied after an entry make of the ledger what it is after that entry.
use Rattle.std.proofs.Common.{◌≡◌, List, map, filter, Option, Some, None, refl, sym, ap, ◌∙◌, subst, true}
use Rattle.std.specs.List.{enumerate_from, list_any}
use Rattle.std.specs.Option.{option_map_or}
use Rattle.std.specs.Prelude.{◌&&◌}
use Rattle.q_bare.specs.Bare.{bare}
use Rattle.q_bare.specs.CountedRows.{may_by}
use Rattle.q_bare.specs.Counts.{Counts}
use Rattle.q_laws.proofs.Tidied.{tidy_scan_is}
use Rattle.q_ledger.proofs.BareChanges.{tidied_bare}
use Rattle.q_ledger.proofs.CountedLaws.{counted_still}
use Rattle.q_ledger.proofs.EntrySites.{entry_sites}
use Rattle.q_ledger.specs.Beside.{IsBeside, IsOfLedger}
use Rattle.q_ledger.specs.State.{State}
use Rattle.q_ledger.specs.Taking.{IsChanged, IsTaken, rows_tidied, site_left}
use Rattle.q_ledger.specs.Tidying.{sites_left, sites_tidied, sites_woken, tidied_in, woken_by}
use Rattle.q_model.specs.Ids.{id_eq}
use Rattle.q_model.specs.Ledger.{Ledger}
use Rattle.q_model.specs.Scans.{end_scan, scan_next, tidy_scan, tidy_scan_at, tidy_scan_of}
use Rattle.q_model.specs.Settings.{World}
use Rattle.q_model.specs.Sites.{site_eq}
use Rattle.q_model.specs.Step.{after, change, noted, tidied, tidy_line}
use Rattle.q_model.specs.UnusedSites.{tidied_sites}
use Rattle.q_model.specs.Values.{Served, Site, SiteRecord}
use Rattle.q_model.specs.declared.entry.Entry.{Entry}
use Rattle.q_model.specs.declared.id.Id.{Id}
use Rattle.q_model.specs.declared.rows.DeferredName.{DeferredName}
use Rattle.q_model.specs.declared.rows.Request.{Request}
use Rattle.q_model.specs.declared.rows.Scan.{Scan}

-- ---- the scan is tidied whatever lines, served rows and records are

abbrev with_rows : Ledger → List (List Id) → List Served → List SiteRecord → Ledger
with_rows l lines served sites = record l { lines = lines; served = served; sites = sites }

over_apart : (l : Ledger) (ls : List (List Id)) (sv : List Served) (ss : List SiteRecord) (o : Option Request) → end_scan (with_rows l ls sv ss) o ≡ with_rows (end_scan l o) ls sv ss
over_apart l ls sv ss None = refl
over_apart l ls sv ss (Some request) = refl

at_apart : (l : Ledger) (ls : List (List Id)) (sv : List Served) (ss : List SiteRecord) (o : Option DeferredName) → tidy_scan_at (with_rows l ls sv ss) o ≡ with_rows (tidy_scan_at l o) ls sv ss
at_apart l ls sv ss None = over_apart l ls sv ss l.asked
at_apart l ls sv ss (Some name) = refl

of_apart : (l : Ledger) (ls : List (List Id)) (sv : List Served) (ss : List SiteRecord) (o : Option Scan) → tidy_scan_of (with_rows l ls sv ss) o ≡ with_rows (tidy_scan_of l o) ls sv ss
of_apart l ls sv ss None = refl
of_apart l ls sv ss (Some s) = at_apart l ls sv ss (scan_next l.book s)

-- ---- the ledger

after_tidied : (w : World) (b : Ledger) (e : Entry) → bare (after w b e) ≡ tidied w b (bare (change w b e))
unfolding after
after_tidied w b e = sym (tidied_bare w b (noted e (change w b e)))

-- tidied in two parts: lines and served rows first, then sites and the scan
in_parts : (w : World) (b k : Ledger) → tidy_scan (record (rows_tidied k) { sites = tidied_sites w b k }) ≡ tidied w b k
in_parts w b k = of_apart k (map (tidy_line k) (enumerate_from 0 k.lines)) (filter (λ s. list_any (λ r. id_eq r.id s.id && site_eq r.site s.site) k.waiting) k.served) (tidied_sites w b k) k.scan

ledger_law : (w : World) (c : Counts) (b : Ledger) (e : Entry) (woken : List Site) (s : State) → IsOfLedger w c b → may_by c w b e ≡ true → woken ≡ woken_by b e → IsChanged w b e s →
    (tidied_in w woken s).ledger ≡ bare (after w b e)
ledger_law w c b e woken s h may which t =
    let k = bare (change w b e) in
    let tidy : Ledger → Option Site → List Site → Ledger = λ l left sites. tidy_scan (record l { sites = option_map_or (sites_left w l) left (sites_woken sites l) }) in
    ap (λ (l : Ledger). tidy l s.left woken) t.ledger
    ∙ ap (λ left. tidy (rows_tidied k) left woken) t.left
    ∙ ap (tidy (rows_tidied k) (site_left b e)) which
    ∙ ap (λ rs. tidy_scan (record (rows_tidied k) { sites = rs })) (sym (entry_sites w c b e h may))
    ∙ in_parts w b k
    ∙ sym (after_tidied w b e)

-- ---- what is kept beside it

beside_law : (w : World) (b : Ledger) (e : Entry) (woken : List Site) (s : State) → IsChanged w b e s → IsBeside (tidied_in w woken s)
beside_law w b e woken s t =
    let rs = sites_tidied w woken s in
    let scan = tidy_scan_is (record s.ledger { sites = rs }) in
    let k : State = record s { ledger = record s.ledger { sites = rs; scan = scan.0; asked = scan.1 }; left = None } in
    let beside : IsBeside k = record {
      counted = counted_still s k t.counted refl refl (λ i. refl) (λ i. refl);
      leftovers = t.leftovers;
      left = refl;
    } in
    subst (λ (l : Ledger). IsBeside (record s { ledger = l; left = None })) (sym scan.2) beside

-- the entry is taken over
pub tidy_takes : (w : World) (c : Counts) (b : Ledger) (e : Entry) (woken : List Site) (s : State) → IsOfLedger w c b → may_by c w b e ≡ true → woken ≡ woken_by b e → IsChanged w b e s →
    IsTaken w b e (tidied_in w woken s)
tidy_takes w c b e woken s h may which t = record { ledger = ledger_law w c b e woken s h may which t; beside = beside_law w b e woken s t }
