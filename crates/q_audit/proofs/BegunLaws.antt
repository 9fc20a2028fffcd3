-- What is kept of the jobs of the front of a run, and how far preemption delayed them.
use Rattle.std.proofs.Common.{◌≡◌, ◌≢◌, ℕ, ◌+◌, ◌++◌, Bool, true, false, List, [], ◌∷◌, map, refl, sym, ap, ◌∙◌, subst}
use Rattle.std.specs.List.{list_all, list_any}
use Rattle.std.specs.Prelude.{◌&&◌, ◌||◌}
use Rattle.q_audit.proofs.DelayedLaws.{delays_bounded, delays_whole}
use Rattle.q_audit.proofs.SinceLaws.{AreSince, life_forgets}
use Rattle.q_audit.proofs.ToldLaws.{ended_fresh, told, lasts}
use Rattle.q_audit.specs.Delays.{delay_by, Delay, delays, was_preempted}
use Rattle.q_audit.specs.ReportLaws.{capped, DelaysAreBounded, DelaysAreWhole, has_few, is_bounded, JobsAreTold, ledger_before}
use Rattle.q_audit.specs.Tallied.{is_of, Job, job_by, jobs}
use Rattle.q_fronts.proofs.Going.{begins}
use Rattle.q_fronts.specs.Fronts.{IsFront}
use Rattle.q_laws.proofs.Beginnings.{life_consistent}
use Rattle.q_laws.proofs.Runs.{run_entries}
use Rattle.q_laws.specs.Consistency.{IsConsistent, IsUsable}
use Rattle.q_laws.specs.Traces.{AreEntriesOf}
use Rattle.q_model.specs.Ids.{id_eq}
use Rattle.q_model.specs.Ledger.{Ledger}
use Rattle.q_model.specs.Memory.{is_admitted}
use Rattle.q_model.specs.Past.{is_life}
use Rattle.q_model.specs.PreemptingStarts.{ends_job}
use Rattle.q_model.specs.Run.{run_of}
use Rattle.q_model.specs.Settings.{World}
use Rattle.q_model.specs.Step.{after, after_all}
use Rattle.q_model.specs.declared.entry.Entry.{Entry}
use Rattle.q_model.specs.declared.event.LifeEvent.TheVariants.{Begin}
use Rattle.q_model.specs.declared.id.Id.{Id}
use Rattle.q_model.specs.declared.rows.Admitted.{Admitted}
use Rattle.q_model.specs.declared.entry.Entry.TheVariants as entries

entries_cut : (w : World) (l : Ledger) (es fs : List Entry) → AreEntriesOf w l (es ++ fs) → AreEntriesOf w l es
entries_cut w l [] fs h = tt
entries_cut w l (e ∷ es) fs h = (h.0, entries_cut w (after w l e) es fs h.1)

-- behind the first entry of a front, which begins a life
record IsBegun (w : World) (l : Ledger) (first : Entry) (es : List Entry) : Type 0 where
  consistent : IsConsistent w (after w l first)
  run : AreEntriesOf w (after w l first) es
  since : AreSince w (after w l first)
  fresh : (id : Id) (t : ℕ) → was_preempted (after w l first) id t ≡ false
  opens : job_by l first es ≡ []
  delays : delay_by l first es ≡ []

begun : (w : World) (first : Entry) (es : List Entry) (f : IsFront w (first ∷ es)) → IsUsable w → IsBegun w (ledger_before f) first es
unfolding run_of
begun w first es f usable =
    let m = ledger_before f in
    let life = begins w first es f in
    let all : AreEntriesOf w m (first ∷ (es ++ f.later)) = subst (AreEntriesOf w m) f.run (run_entries w m (Begin ∷ f.items) f.fits) in
    let ends : (id : Id) → ends_job id first ≡ true = λ id. subst (λ (x : Entry). ends_job id x ≡ true) life refl in
    let is : is_life first ≡ true = subst (λ (x : Entry). is_life x ≡ true) life refl in
    record {
      consistent = subst (λ x. IsConsistent w (after w m x)) life (life_consistent w m f.mode usable refl refl);
      run = entries_cut w (after w m first) es f.later all.1;
      since = λ id t inside fresh. absurd (none (is_admitted (after w m first) id) (ap (list_any (λ (a : Admitted). id_eq a.id id)) (life_forgets w m first is)) inside);
      fresh = λ id t. ended_fresh w m first id t (ends id);
      opens = subst (λ (x : Entry). job_by m x es ≡ []) life refl;
      delays = subst (λ (x : Entry). delay_by m x es ≡ []) life refl;
    }
  where
    none : (b : Bool) → b ≡ false → b ≡ true → ⊥
    none b h i = let bad : false ≡ true = sym h ∙ i in absurd cc

pub jobs_told : JobsAreTold
unfolding after_all
jobs_told w [] f usable id t = refl
jobs_told w (first ∷ es) f usable id t =
    let b = begun w first es f usable in
    let m = ledger_before f in
    ap (λ (js : List Job). list_any (is_of id t) (js ++ jobs w (after w m first) es)) b.opens
    ∙ or_none (list_any (is_of id t) (jobs w (after w m first) es))
    ∙ sym (ap (λ (p : Bool). list_any (is_of id t) (jobs w (after w m first) es) || (p && lasts id es)) (b.fresh id t))
    ∙ told w (after w m first) es id t b.consistent b.run
  where
    or_none : (b : Bool) → b ≡ (b || false)
    or_none true = refl
    or_none false = refl

pub delays_of_fronts_bounded : DelaysAreBounded
delays_of_fronts_bounded w [] f usable = refl
delays_of_fronts_bounded w (first ∷ es) f usable =
    let b = begun w first es f usable in
    let m = ledger_before f in
    ap (λ (ds : List Delay). list_all (is_bounded w) (ds ++ delays w (after w m first) es)) b.delays
    ∙ delays_bounded w (after w m first) es b.since b.consistent b.run

pub delays_of_fronts_whole : DelaysAreWhole
delays_of_fronts_whole w [] f usable one few = refl
delays_of_fronts_whole w (first ∷ es) f usable one few =
    let b = begun w first es f usable in
    let m = ledger_before f in
    let ds = delays w (after w m first) es in
    let there : list_all has_few ds ≡ true = sym (ap (λ (xs : List Delay). list_all has_few (xs ++ ds)) b.delays) ∙ few in
    ap (λ (xs : List Delay). map capped (xs ++ ds)) b.delays
    ∙ delays_whole w (after w m first) es b.since b.consistent b.run one there
    ∙ sym (ap (λ (xs : List Delay). xs ++ ds) b.delays)
