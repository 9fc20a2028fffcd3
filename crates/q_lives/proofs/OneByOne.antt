-- Where there is a delay between deliveries, at most one to each site is in flight throughout all lives.
use Rattle.std.proofs.Common.{[], List, suc, sym, subst, take, zero, ◌+◌, ◌∷◌, ℕ}
use Rattle.q_laws.proofs.Beginnings.{life_consistent}
use Rattle.q_laws.proofs.Kept.{entry_consistent}
use Rattle.q_laws.proofs.Resting.{one_by_one}
use Rattle.q_laws.proofs.SiteEntries.{sites_at_entry, sites_at_life}
use Rattle.q_laws.specs.Consistency.{IsConsistent, IsUsable}
use Rattle.q_laws.specs.SitesConsistency.{IsOpen, IsSitesConsistent}
use Rattle.q_laws.specs.Traces.{AreEntriesOf}
use Rattle.q_lives.proofs.Throughout.{first_entry, lives_orderly, run_all, take_entries}
use Rattle.q_lives.specs.Lives.{AreLives, IsLife, IsOrderly, Life}
use Rattle.q_lives.specs.Throughout.{AtEach, AtEachOf, DeliversOneByOne, Throughout}
use Rattle.q_model.specs.Book.{Book}
use Rattle.q_model.specs.Ledger.{Ledger, opening}
use Rattle.q_model.specs.Settings.{World}
use Rattle.q_model.specs.Step.{after}
use Rattle.q_model.specs.declared.entry.Entry.{Entry}
use Rattle.q_model.specs.declared.event.Mode.{Mode}
use Rattle.q_model.specs.declared.entry.Entry.TheVariants as entries

entries_single : (w : World) (l : Ledger) (es : List Entry) → IsConsistent w l → (IsOpen w → IsSitesConsistent w l) → AreEntriesOf w l es → AtEach DeliversOneByOne w l es
entries_single w l [] c sites h = tt
entries_single w l (e ∷ es) c sites h =
    let next : IsOpen w → IsSitesConsistent w (after w l e) = λ opens. sites_at_entry w l e c (sites opens) h.0 in
    ((λ opens. one_by_one w (after w l e) (next opens)), entries_single w (after w l e) es (entry_consistent w l e c h.0) next h.1)

front_single : (w : World) (mode : Mode) (book : Book) (rest : List Entry) (n : ℕ) → IsUsable w → IsOrderly book → AreEntriesOf w (opening mode book) (entries.Life (book.generation + 1) mode ∷ rest) →
    AtEach DeliversOneByOne w (opening mode book) (take n (entries.Life (book.generation + 1) mode ∷ rest))
front_single w mode book rest zero usable good h = tt
front_single w mode book rest (suc n) usable good h =
    let e = entries.Life (book.generation + 1) mode in
    let l = opening mode book in
    let next : IsOpen w → IsSitesConsistent w (after w l e) = sites_at_life w l (book.generation + 1) mode in
    let begun : IsConsistent w (after w l e) = life_consistent w l mode usable good.distinct good.orderly in
    ((λ opens. one_by_one w (after w l e) (next opens)), entries_single w (after w l e) (take n rest) begun next (take_entries n w (after w l e) rest h.1))

life_single : (book : Book) (life : Life) → IsOrderly book → IsLife book life → AtEachOf DeliversOneByOne book life
life_single book life good h =
    let w = life.world in
    let begins = first_entry w life.mode book life.items in
    let all = subst (AreEntriesOf w (opening life.mode book)) begins.1 (run_all w life.mode book life.items h.fits) in
    subst (λ es. AtEach DeliversOneByOne w (opening life.mode book) (take life.count es)) (sym begins.1) (front_single w life.mode book begins.0 life.count h.usable good all)

pub lives_single : (book : Book) (lives : List Life) → IsOrderly book → AreLives book lives → Throughout DeliversOneByOne book lives
lives_single book [] good h = tt
lives_single book (life ∷ lives) good h = (life_single book life good h.0, lives_single life.left lives (lives_orderly book (life ∷ []) good (h.0, tt)) h.1)
