-- What outcomes need, added one by one, and in the ledger.
use Rattle.std.proofs.Common.{◌≡◌, ℕ, ◌≤◌, ◌<◌, Bool, List, [], ◌∷◌, ◌++◌, length, take, get_or, refl, ap, ◌∙◌, arith, suc, zero, Option, Some, None, option_map}
use Rattle.std.specs.List.{cons_option}
use Rattle.std.specs.Prelude.{slice_get}
use Rattle.q_ledger.specs.Needs.{need_at, need_in, needs_in}
use Rattle.q_model.specs.Message.{Message}
use Rattle.q_model.specs.Settings.{World}
use Rattle.q_model.specs.Settling.{need_of, needs_of, unsettled_row}
use Rattle.q_model.specs.Times.{is_expired}
use Rattle.q_model.specs.declared.id.Id.{Id}
use Rattle.q_model.specs.declared.outcome.Outcome.{Outcome}
use Rattle.q_model.specs.declared.outcome.Outcome.TheVariants as outcomes

cons_append : {X : Type 0} (o : Option X) (xs ys : List X) → cons_option o (xs ++ ys) ≡ (cons_option o xs ++ ys)
cons_append None xs ys = refl
cons_append (Some x) xs ys = refl

-- the needs of one position more
pub needs_more : (expired : Bool) (id : Id) (i : ℕ) (ps : List ℕ) (os : List Outcome) → i < length ps →
    needs_in expired id (take (suc i) ps) os ≡ (needs_in expired id (take i ps) os ++ need_at expired id (get_or ps i 0) (slice_get os i))
needs_more expired id i [] os h = absurd (omega arith)
needs_more expired id zero (p ∷ ps) [] h = refl
needs_more expired id zero (p ∷ ps) (o ∷ os) h = refl
needs_more expired id (suc i) (p ∷ ps) [] h = refl
needs_more expired id (suc i) (p ∷ ps) (o ∷ os) h =
    ap (cons_option (option_map (unsettled_row id p) (need_in expired o))) (needs_more expired id i ps os (omega arith))
    ∙ cons_append (option_map (unsettled_row id p) (need_in expired o)) (needs_in expired id (take i ps) os) (need_at expired id (get_or ps i 0) (slice_get os i))

need_same : (w : World) (now : ℕ) (m : Message) (o : Outcome) → need_in (is_expired w now m) o ≡ need_of w now m o
need_same w now m outcomes.Ok = refl
need_same w now m (outcomes.Never code) = refl
need_same w now m (outcomes.Later code) = refl

-- the needs of a message's recipients in the ledger
pub needs_same : (w : World) (now : ℕ) (m : Message) (ps : List ℕ) (os : List Outcome) → needs_in (is_expired w now m) m.id ps os ≡ needs_of w now m ps os
needs_same w now m [] os = refl
needs_same w now m (p ∷ ps) [] = refl
needs_same w now m (p ∷ ps) (o ∷ os) =
    ap (λ n. cons_option (option_map (unsettled_row m.id p) n) (needs_in (is_expired w now m) m.id ps os)) (need_same w now m o)
    ∙ ap (cons_option (option_map (unsettled_row m.id p) (need_of w now m o))) (needs_same w now m ps os)

few_step : {X : Type 0} (o : Option X) (xs : List X) (n : ℕ) → length xs ≤ n → length (cons_option o xs) ≤ suc n
few_step None xs n h = omega (arith, h)
few_step (Some x) xs n h = omega (arith, h)

-- each outcome needs one thing at most
pub needs_few : (expired : Bool) (id : Id) (ps : List ℕ) (os : List Outcome) → length (needs_in expired id ps os) ≤ length os
needs_few expired id [] os = omega arith
needs_few expired id (p ∷ ps) [] = omega arith
needs_few expired id (p ∷ ps) (o ∷ os) = few_step (option_map (unsettled_row id p) (need_in expired o)) (needs_in expired id ps os) (length os) (needs_few expired id ps os)
