-- The ledger after a front fits together.
use Rattle.std.proofs.Common.{◌≡◌, ℕ, ◌+◌, Bool, true, false, cond, List, [], ◌∷◌, ◌++◌, refl, sym, ap, ◌∙◌, subst}
use Rattle.std.specs.List.{list_all}
use Rattle.std.specs.Prelude.{◌&&◌, filter}
use Rattle.q_fronts.proofs.Going.{begins}
use Rattle.q_fronts.specs.Fitting.{FrontsFit, is_awaited, IsFitting}
use Rattle.q_fronts.specs.Fronts.{empty_at}
use Rattle.q_laws.proofs.Kept.{entry_consistent}
use Rattle.q_laws.proofs.Beginnings.{life_consistent}
use Rattle.q_laws.proofs.Runs.{run_entries}
use Rattle.q_laws.proofs.SiteEntries.{sites_at_entry, sites_at_life}
use Rattle.q_laws.proofs.Tidied.{tidy_scan_is}
use Rattle.q_laws.specs.Consistency.{IsUsable}
use Rattle.q_laws.specs.SitesConsistency.{IsOpen}
use Rattle.q_laws.specs.Traces.{AreEntriesOf, IsEntryOf}
use Rattle.q_model.specs.declared.entry.Entry.{Entry}
use Rattle.q_model.specs.declared.event.LifeEvent.TheVariants.{Begin}
use Rattle.q_model.specs.declared.event.Mode.{Mode}
use Rattle.q_model.specs.declared.rows.Row.{Row}
use Rattle.q_model.specs.Ledger.{Ledger, opening}
use Rattle.q_model.specs.Run.{run_of}
use Rattle.q_model.specs.Settings.{World}
use Rattle.q_model.specs.Step.{after, after_all, change, noted}
use Rattle.q_model.specs.declared.entry.Entry.TheVariants as entries

filtered_step : {A : Type 0} (p : A → Bool) (x : A) (xs : List A) (b : Bool) → p x ≡ b → list_all p xs ≡ true → list_all p (cond b (x ∷ xs) xs) ≡ true
filtered_step p x xs true h k = ap (λ b. b && list_all p xs) h ∙ k
filtered_step p x xs false h k = k

all_filter : {A : Type 0} (p : A → Bool) (xs : List A) → list_all p (filter p xs) ≡ true
all_filter p [] = refl
all_filter p (x ∷ xs) = filtered_step p x (filter p xs) (p x) refl (all_filter p xs)

served_after : (w : World) (l : Ledger) (e : Entry) → list_all (is_awaited (after w l e).waiting) (after w l e).served ≡ true
unfolding after
served_after w l e =
    let k : Ledger = noted e (change w l e) in
    let t = tidy_scan_is k in
    ap (λ (rows : List Row). list_all (is_awaited rows) (filter (is_awaited k.waiting) k.served)) (ap (λ (x : Ledger). x.waiting) t.2)
    ∙ all_filter (is_awaited k.waiting) k.served

entry_fits : (w : World) (l : Ledger) (e : Entry) → IsFitting w l → IsEntryOf w l e → IsFitting w (after w l e)
entry_fits w l e h k = record {
  consistent = entry_consistent w l e h.consistent k;
  sites = sites_at_entry w l e h.consistent h.sites k;
  served = served_after w l e;
}

entries_fit : (w : World) (l : Ledger) (es fs : List Entry) → IsFitting w l → AreEntriesOf w l (es ++ fs) → IsFitting w (after_all w l es)
unfolding after_all
entries_fit w l [] fs h k = h
entries_fit w l (e ∷ es) fs h k = entries_fit w (after w l e) es fs (entry_fits w l e h k.0) k.1

first_fits : (w : World) (generation : ℕ) (mode : Mode) → IsUsable w → IsOpen w → IsFitting w (after w (opening mode (empty_at generation)) (entries.Life (generation + 1) mode))
first_fits w generation mode usable windows = record {
  consistent = life_consistent w (opening mode (empty_at generation)) mode usable refl refl;
  sites = sites_at_life w (opening mode (empty_at generation)) (generation + 1) mode windows;
  served = served_after w (opening mode (empty_at generation)) (entries.Life (generation + 1) mode);
}

pub fits : FrontsFit
unfolding after_all run_of
fits w first es l usable windows h =
    let f = h.front in
    let m = opening f.mode (empty_at f.generation) in
    let all : AreEntriesOf w m (first ∷ (es ++ f.later)) = subst (AreEntriesOf w m) f.run (run_entries w m (Begin ∷ f.items) f.fits) in
    let start : IsFitting w (after w m first) = subst (λ x. IsFitting w (after w m x)) (begins w first es f) (first_fits w f.generation f.mode usable windows) in
    subst (IsFitting w) (sym h.is) (entries_fit w (after w m first) es f.later start all.1)
