-- The failures of a message, as its records are taken over one by one.
use Rattle.std.proofs.Common.{◌≡◌, ◌<◌, ◌≤◌, ◌++◌, ◌∷◌, ◌∙◌, [], ap, arith, Bool, false, filter, length, List, not, suc, subst, sym, true, ℕ}
use Rattle.std.specs.Prelude.{◌==◌, All, nat_lt, slice_index_or, slice_set}
use Rattle.std.proofs.lemmas.Bool.{ltb-true}
use Rattle.std.proofs.lemmas.List.{length-append}
use Rattle.std.proofs.lemmas.List.Elements.{All-cons, All-filter, filter_passes}
use Rattle.q_model.specs.declared.outcome.Failure.{Failure}
use Rattle.q_model.specs.FailureLog.{failures_of, first_of_each}
use Rattle.q_model.proofs.FailuresLaws.{failures_of-push}
use Rattle.q_logfile.specs.Flags.{AreFlags}
use Rattle.q_look.proofs.FlagCounts.{set_few, set_more}
use Rattle.q_logfile.proofs.FlagLaws.{failures_again, failures_have, failures_past, flags_more, set_again, set_outside}
use Rattle.q_engine.specs.BounceTexts.{AreKnown}

module _ (n : ℕ) (fs : List Failure) (flags : List Bool) (gs : List Failure) (f : Failure) (h : AreKnown n fs flags gs) where
  pub known_past : length flags ≤ f.position → AreKnown n (fs ++ f ∷ []) flags gs
  known_past past = record {
    set = subst (λ (x : List Bool). AreFlags n (fs ++ f ∷ []) x) (set_outside flags f.position past) (flags_more n fs f flags h.set);
    first = h.first ∙ sym (failures_past n fs f (omega (arith, past, h.set.count)));
    counted = h.counted;
  }

  pub known_again : f.position < length flags → slice_index_or flags f.position false ≡ true → AreKnown n (fs ++ f ∷ []) flags gs
  known_again within again =
      let here : f.position < n = omega (arith, within, h.set.count) in
      record {
        set = subst (λ (x : List Bool). AreFlags n (fs ++ f ∷ []) x) (set_again flags f.position again) (flags_more n fs f flags h.set);
        first = h.first ∙ sym (failures_again n fs f here (sym (h.set.each f.position here) ∙ again));
        counted = h.counted;
      }

  pub known_more : f.position < length flags → slice_index_or flags f.position false ≡ false → AreKnown n (fs ++ f ∷ []) (slice_set flags f.position true) (gs ++ f ∷ [])
  known_more within new =
      let here : f.position < n = omega (arith, within, h.set.count) in
      record {
        set = flags_more n fs f flags h.set;
        first = ap (λ (x : List Failure). x ++ f ∷ []) h.first ∙ sym (failures_of-push n fs f here (failures_have n f.position fs here ∙ sym (h.set.each f.position here) ∙ new));
        counted = omega (arith, set_more flags f.position within new, h.counted, length-append gs (f ∷ []));
      }

-- there are no more of them than recipients
pub known_few : (n : ℕ) (fs : List Failure) (flags : List Bool) (gs : List Failure) → AreKnown n fs flags gs → length gs ≤ n
known_few n fs flags gs h = omega (arith, h.counted, h.set.count, set_few flags)

-- each failure is of a recipient
firsts_within : (P : Failure → Type 0) (fs : List Failure) → All P fs → All P (first_of_each fs)
firsts_within P [] h = h
firsts_within P (f ∷ fs) h =
    All-cons P f (filter (λ (g : Failure). not (g.position == f.position)) (first_of_each fs)) (h 0 f (omega arith))
    (All-filter (λ (g : Failure). not (g.position == f.position)) P (first_of_each fs) (firsts_within P fs (λ k d below. h (suc k) d (omega (arith, below)))))

pub failures_within : (n : ℕ) (fs : List Failure) → All (λ (f : Failure). f.position < n) (failures_of n fs)
failures_within n fs = firsts_within (λ (f : Failure). f.position < n) (filter (λ (f : Failure). nat_lt f.position n) fs) (λ k d below. ltb-true _ n (filter_passes (λ (f : Failure). nat_lt f.position n) fs k d below))
