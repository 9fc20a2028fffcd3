-- Which entries a front goes on with.
use Rattle.std.proofs.Common.{◌≡◌, ℕ, suc, ◌+◌, ◌<◌, ◌^◌, true, List, [], ◌∷◌, ◌++◌, length, None, refl, sym, ap, ◌∙◌, subst, arith}
use Rattle.q_fronts.proofs.Back.{forth, turn_goes}
use Rattle.q_fronts.proofs.Onward.{AreContinued, behind_decisions, by_item}
use Rattle.q_fronts.specs.Fronts.{Continues, empty_at, FrontsGoOn, IsFront, IsLedgerAfter, LedgersAreOne, LedgersGoOn}
use Rattle.q_laws.proofs.Living.{entry_living}
use Rattle.q_laws.specs.Traces.{AreAllowed}
use Rattle.q_model.specs.Ledger.{Ledger, opening}
use Rattle.q_model.specs.Next.{next}
use Rattle.q_model.specs.Past.{is_living}
use Rattle.q_model.specs.Run.{run, run_of, turn}
use Rattle.q_model.specs.Settings.{World}
use Rattle.q_model.specs.Step.{after, after_all}
use Rattle.q_model.specs.declared.entry.Entry.{Entry}
use Rattle.q_model.specs.declared.event.LifeEvent.TheVariants.{Begin}
use Rattle.q_model.specs.declared.event.Mode.{Mode}
use Rattle.q_model.specs.declared.entry.Entry.TheVariants as entries

quiet_opening : (w : World) (mode : Mode) (g : ℕ) → next w (opening mode (empty_at g)) ≡ None
unfolding next
quiet_opening w mode g = refl

len_more : (es : List Entry) (e : Entry) → length (es ++ e ∷ []) ≡ suc (length es)
len_more [] e = refl
len_more (x ∷ xs) e = ap suc (len_more xs e)

last_continues : (w : World) (l : Ledger) (es : List Entry) (e : Entry) → AreContinued w l (es ++ e ∷ []) → Continues w (after_all w l es) e
unfolding after_all
last_continues w l [] e h = h.0
last_continues w l (x ∷ xs) e h = last_continues w (after w l x) xs e h.1

one_more : (w : World) (l : Ledger) (es : List Entry) (e : Entry) → AreContinued w l es → Continues w (after_all w l es) e → AreContinued w l (es ++ e ∷ [])
unfolding after_all
one_more w l [] e h k = (k, tt)
one_more w l (x ∷ xs) e h k = (h.0, one_more w (after w l x) xs e h.1 k)

-- the entries of a front continue
continued : (w : World) (first : Entry) (es : List Entry) (f : IsFront w (first ∷ es)) → length es < 2 ^ 60 → AreContinued w (opening f.mode (empty_at f.generation)) (first ∷ es)
unfolding run_of
continued w first es f short = by_item Begin f.items first es w (opening f.mode (empty_at f.generation)) f.later short (quiet_opening w f.mode f.generation) f.fits f.run (behind_decisions es)

-- with what a run begins
pub begins : (w : World) (first : Entry) (es : List Entry) (f : IsFront w (first ∷ es)) → entries.Life (f.generation + 1) f.mode ≡ first
unfolding run_of run turn
begins w first es f = let run : run_of w f.mode (empty_at f.generation) f.items ≡ first ∷ (es ++ f.later) = f.run in cc

pub same_numbers : (g h : ℕ) (m n : Mode) → entries.Life (g + 1) m ≡ entries.Life (h + 1) n → opening m (empty_at g) ≡ opening n (empty_at h)
same_numbers g h m n e =
    let plus : g + 1 ≡ h + 1 = cc in
    let numbers : g ≡ h = omega (arith, plus) in
    let modes : m ≡ n = cc in
    ap (λ k. opening m (empty_at k)) numbers ∙ ap (λ k. opening k (empty_at h)) modes

onward : (w : World) (first : Entry) (es : List Entry) (e : Entry) (l : Ledger) → IsLedgerAfter w (first ∷ es) l → length (first ∷ es) < 2 ^ 60 → IsFront w (first ∷ (es ++ e ∷ [])) → Continues w l e
unfolding after_all
onward w first es e l f short g =
    let longer : length (es ++ e ∷ []) ≡ suc (length es) = len_more es e in
    let all = continued w first (es ++ e ∷ []) g (omega (arith, short, longer)) in
    let opened : opening g.mode (empty_at g.generation) ≡ opening f.front.mode (empty_at f.front.generation) =
    same_numbers g.generation f.front.generation g.mode f.front.mode (begins w first (es ++ e ∷ []) g ∙ sym (begins w first es f.front)) in
    let there = subst (λ k. AreContinued w k (first ∷ (es ++ e ∷ []))) opened all in
    subst (λ k. Continues w k e) (sym f.is) (last_continues w (after w (opening f.front.mode (empty_at f.front.generation)) first) es e there.1)

back : (w : World) (first : Entry) (es : List Entry) (e : Entry) (l : Ledger) → IsLedgerAfter w (first ∷ es) l → length (first ∷ es) < 2 ^ 60 → Continues w l e → IsFront w (first ∷ (es ++ e ∷ []))
unfolding after_all run_of run
back w first es e l f short k =
    let opened = opening f.front.mode (empty_at f.front.generation) in
    let longer : length (es ++ e ∷ []) ≡ suc (length es) = len_more es e in
    let starts = begins w first es f.front in
    let here = continued w first es f.front (omega (arith, short)) in
    let there : Continues w (after_all w (after w opened first) es) e = subst (λ m. Continues w m e) f.is k in
    let all = one_more w (after w opened first) es e here.1 there in
    let living : is_living (after w opened first) ≡ true = subst (λ x. is_living (after w opened x) ≡ true) starts (entry_living w opened (entries.Life (f.front.generation + 1) f.front.mode) refl) in
    let ahead = forth (es ++ e ∷ []) (2 ^ 60) w (after w opened first) living all (omega (arith, short, longer)) (omega (arith, short, longer)) in
    let turns = turn_goes w opened Begin first starts refl in
    record {
      generation = f.front.generation;
      mode = f.front.mode;
      items = ahead.items;
      later = ahead.later;
      fits = (f.front.fits.0, subst (λ ds. AreAllowed w (after_all w opened ds) ahead.items) (sym turns) ahead.fits);
      run = ap (λ ds. ds ++ run w (after_all w opened ds) ahead.items) turns ∙ ap (λ xs. first ∷ xs) ahead.run;
    }

pub go_on : FrontsGoOn
go_on w first es e l f short = (onward w first es e l f short, back w first es e l f short)

-- ---- ledgers

last_after : (w : World) (l : Ledger) (es : List Entry) (e : Entry) → after_all w l (es ++ e ∷ []) ≡ after w (after_all w l es) e
unfolding after_all
last_after w l [] e = refl
last_after w l (x ∷ xs) e = last_after w (after w l x) xs e

-- fronts that begin with one entry have one first ledger
pub opened_same : (w : World) (first : Entry) (es fs : List Entry) (f : IsFront w (first ∷ es)) (g : IsFront w (first ∷ fs)) → opening f.mode (empty_at f.generation) ≡ opening g.mode (empty_at g.generation)
opened_same w first es fs f g = same_numbers f.generation g.generation f.mode g.mode (begins w first es f ∙ sym (begins w first fs g))

pub ledgers_go_on : LedgersGoOn
ledgers_go_on w first es e l f short k =
    let longer : IsFront w (first ∷ (es ++ e ∷ [])) = back w first es e l f short k in
    record {
      front = longer;
      is = ap (λ m. after w m e) f.is
          ∙ sym (last_after w (opening f.front.mode (empty_at f.front.generation)) (first ∷ es) e)
          ∙ ap (λ m. after_all w m (first ∷ (es ++ e ∷ []))) (opened_same w first es (es ++ e ∷ []) f.front longer);
    }

pub ledgers_are_one : LedgersAreOne
ledgers_are_one w first es k l f g =
    f.is ∙ ap (λ m. after_all w m (first ∷ es)) (opened_same w first es es f.front g.front) ∙ sym g.is
