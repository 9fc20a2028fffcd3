-- Logs can hold the codes of the outcomes that are to be settled.
use Rattle.std.proofs.Common.{◌≡◌, ◌∙◌, [], ◌∷◌, Bool, false, length, List, refl, slice_get, Some, suc, sym, true, ap, zero, ℕ}
use Rattle.std.proofs.lemmas.Bool.{and_from, and_parts}
use Rattle.std.specs.List.{list_all, remove}
use Rattle.std.specs.Prelude.{replicate}
use Rattle.q_core.specs.Hearing.{has_log_code}
use Rattle.q_model.specs.Logs.{first_logged}
use Rattle.q_core.specs.Needs.{needs_in, needs_put_off}
use Rattle.q_core.specs.Rooms.{is_loggable}
use Rattle.q_model.specs.FailureLog.{is_log_code}
use Rattle.q_model.specs.declared.id.Id.{Id}
use Rattle.q_model.specs.declared.outcome.Outcome.{Outcome}
use Rattle.q_model.specs.declared.outcome.Outcome.TheVariants as outcomes
use Rattle.q_model.specs.declared.rows.Unsettled.{Unsettled}

-- what outcomes need whose codes a log can hold
pub needs_loggable : (expired : Bool) (id : Id) (ps : List ℕ) (os : List Outcome) → list_all has_log_code os ≡ true → list_all is_loggable (needs_in expired id ps os) ≡ true
needs_loggable expired id [] os h = refl
needs_loggable expired id (p ∷ ps) [] h = refl
needs_loggable expired id (p ∷ ps) (outcomes.Ok ∷ os) h = needs_loggable expired id ps os h
needs_loggable expired id (p ∷ ps) (outcomes.Never code ∷ os) h =
    let both = and_parts (is_log_code code) (list_all has_log_code os) h in
    and_from (is_log_code code) (list_all is_loggable (needs_in expired id ps os)) both.0 (needs_loggable expired id ps os both.1)
needs_loggable true id (p ∷ ps) (outcomes.Later code ∷ os) h =
    let both = and_parts (is_log_code code) (list_all has_log_code os) h in
    and_from (is_log_code code) (list_all is_loggable (needs_in true id ps os)) both.0 (needs_loggable true id ps os both.1)
needs_loggable false id (p ∷ ps) (outcomes.Later code ∷ os) h = needs_loggable false id ps os (and_parts (is_log_code code) (list_all has_log_code os) h).1

no_codes : (n : ℕ) → list_all has_log_code (replicate n (outcomes.Later 0)) ≡ true
no_codes zero = refl
no_codes (suc n) = no_codes n

pub put_off_loggable : (expired : Bool) (id : Id) (ps : List ℕ) → list_all is_loggable (needs_put_off expired id ps) ≡ true
put_off_loggable expired id ps = needs_loggable expired id ps _ (no_codes (length ps))

-- the first one needs its mark, or is settled
pub marked_loggable : (us : List Unsettled) → list_all is_loggable us ≡ true → list_all is_loggable (first_logged us) ≡ true
marked_loggable [] h = refl
marked_loggable (u ∷ us) h = (and_parts (is_loggable u) (list_all is_loggable us) h).1

pub rest_all : {A : Type 0} (p : A → Bool) (xs : List A) → list_all p xs ≡ true → list_all p (remove xs 0) ≡ true
rest_all p [] h = refl
rest_all p (x ∷ xs) h = (and_parts (p x) (list_all p xs) h).1

pub first_all : {A : Type 0} (p : A → Bool) (xs : List A) (x : A) → list_all p xs ≡ true → slice_get xs 0 ≡ Some x → p x ≡ true
first_all p [] x h there = cc
first_all p (y ∷ ys) x h there = let same : y ≡ x = cc in ap p (sym same) ∙ (and_parts (p y) (list_all p ys) h).0
