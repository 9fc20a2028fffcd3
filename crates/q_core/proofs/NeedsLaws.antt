-- What outcomes need, added one by one, and in the ledger.
use Rattle.std.proofs.Common.{◌≡◌, ℕ, ◌+◌, ◌≤◌, ◌<◌, Bool, false, List, [], ◌∷◌, ◌++◌, length, take, get_or, refl, sym, ap, ◌∙◌, arith, add-one, append_assoc, length-append, replicate, true, suc, zero, Option, Some, None, option_map}
use Rattle.std.proofs.lemmas.List.{append-nil, length-take-le}
use Rattle.std.specs.List.{cons_option}
use Rattle.std.specs.Prelude.{slice_get}
use Rattle.q_core.specs.Needs.{need_at, need_in, needs_in, needs_put_off}
use Rattle.q_model.specs.Message.{Message}
use Rattle.q_model.specs.Settings.{World}
use Rattle.q_model.specs.Settling.{need_of, needs_of, unsettled_row}
use Rattle.q_model.specs.Times.{is_expired}
use Rattle.q_model.specs.declared.id.Id.{Id}
use Rattle.q_model.specs.declared.outcome.Outcome.{Outcome}
use Rattle.q_model.specs.declared.outcome.Outcome.TheVariants as outcomes
use Rattle.q_model.specs.declared.outcome.Why.TheVariants.{Expired}
use Rattle.q_model.specs.declared.rows.Need.TheVariants as needs
use Rattle.q_model.specs.declared.rows.Unsettled.{Unsettled}
use Rattle.q_queue.specs.Queued.{Queued}

cons_append : {X : Type 0} (o : Option X) (xs ys : List X) → cons_option o (xs ++ ys) ≡ (cons_option o xs ++ ys)
cons_append None xs ys = refl
cons_append (Some x) xs ys = refl

-- the needs of one position more
pub needs_more : (expired : Bool) (id : Id) (i : ℕ) (ps : List ℕ) (os : List Outcome) → i < length ps →
    needs_in expired id (take (suc i) ps) os ≡ (needs_in expired id (take i ps) os ++ need_at expired id (get_or ps i 0) (slice_get os i))
needs_more expired id i [] os h = absurd (omega arith)
needs_more expired id zero (p ∷ ps) [] h = refl
needs_more expired id zero (p ∷ ps) (o ∷ os) h = refl
needs_more expired id (suc i) (p ∷ ps) [] h = refl
needs_more expired id (suc i) (p ∷ ps) (o ∷ os) h =
    ap (cons_option (option_map (unsettled_row id p) (need_in expired o))) (needs_more expired id i ps os (omega arith))
    ∙ cons_append (option_map (unsettled_row id p) (need_in expired o)) (needs_in expired id (take i ps) os) (need_at expired id (get_or ps i 0) (slice_get os i))

-- the same of recipients that are put off
pub put_off_more : (id : Id) (i : ℕ) (ps : List ℕ) → i < length ps →
    needs_put_off true id (take (suc i) ps) ≡ (needs_put_off true id (take i ps) ++ unsettled_row id (get_or ps i 0) (needs.Log Expired 0) ∷ [])
put_off_more id i [] h = absurd (omega arith)
put_off_more id zero (p ∷ ps) h = refl
put_off_more id (suc i) (p ∷ ps) h = ap (λ us. unsettled_row id p (needs.Log Expired 0) ∷ us) (put_off_more id i ps (omega arith))

-- as long as their message isn't too old they need nothing
put_off_none : (id : Id) (ps : List ℕ) → needs_put_off false id ps ≡ []
put_off_none id [] = refl
put_off_none id (p ∷ ps) = put_off_none id ps

need_same : (w : World) (now : ℕ) (m : Message) (o : Outcome) → need_in (is_expired w now m) o ≡ need_of w now m o
need_same w now m outcomes.Ok = refl
need_same w now m (outcomes.Never code) = refl
need_same w now m (outcomes.Later code) = refl

-- the needs of a message's recipients in the ledger
pub needs_same : (w : World) (now : ℕ) (m : Message) (ps : List ℕ) (os : List Outcome) → needs_in (is_expired w now m) m.id ps os ≡ needs_of w now m ps os
needs_same w now m [] os = refl
needs_same w now m (p ∷ ps) [] = refl
needs_same w now m (p ∷ ps) (o ∷ os) =
    ap (λ n. cons_option (option_map (unsettled_row m.id p) n) (needs_in (is_expired w now m) m.id ps os)) (need_same w now m o)
    ∙ ap (cons_option (option_map (unsettled_row m.id p) (need_of w now m o))) (needs_same w now m ps os)

few_step : {X : Type 0} (o : Option X) (xs : List X) (n : ℕ) → length xs ≤ n → length (cons_option o xs) ≤ suc n
few_step None xs n h = omega (arith, h)
few_step (Some x) xs n h = omega (arith, h)

-- each position needs one thing at most
pub needs_few : (expired : Bool) (id : Id) (ps : List ℕ) (os : List Outcome) → length (needs_in expired id ps os) ≤ length ps
needs_few expired id [] os = omega arith
needs_few expired id (p ∷ ps) [] = omega arith
needs_few expired id (p ∷ ps) (o ∷ os) = few_step (option_map (unsettled_row id p) (need_in expired o)) (needs_in expired id ps os) (length ps) (needs_few expired id ps os)

fewer_fit : (us new : List Unsettled) (room i : ℕ) (ps : List ℕ) → length new ≤ length (take i ps) → i < length ps → length us + length ps ≤ room → length (us ++ new) < room
fewer_fit us new room i ps few more fits = let cut = length-take-le i ps (omega (arith, more)) in let long = length-append us new in omega (arith, few, more, fits, cut, long)

-- Where there is space for the needs of all positions, there is for those of one more.
pub needs_fit : (us : List Unsettled) (room : ℕ) (expired : Bool) (id : Id) (i : ℕ) (ps : List ℕ) (os : List Outcome) → i < length ps → length us + length ps ≤ room → length (us ++ needs_in expired id (take i ps) os) < room
needs_fit us room expired id i ps os more fits = fewer_fit us (needs_in expired id (take i ps) os) room i ps (needs_few expired id (take i ps) os) more fits

pub put_off_fit : (us : List Unsettled) (room : ℕ) (id : Id) (i : ℕ) (ps : List ℕ) → i < length ps → length us + length ps ≤ room → length (us ++ needs_put_off true id (take i ps)) < room
put_off_fit us room id i ps more fits = fewer_fit us (needs_put_off true id (take i ps)) room i ps (needs_few true id (take i ps) (replicate (length (take i ps)) (outcomes.Later 0))) more fits

-- a queue with the needs of one position more
module _ (q : Queued Unsettled) (id : Id) where
  pub added_more : (expired : Bool) (i : ℕ) (ps : List ℕ) (os : List Outcome) → i < length ps →
      record q { items = (q.items ++ needs_in expired id (take i ps) os) ++ need_at expired id (get_or ps i 0) (slice_get os i) } ≡ record q { items = q.items ++ needs_in expired id (take (i + 1) ps) os }
  added_more expired i ps os more =
      ap (λ (us : List Unsettled). record q { items = us })
      (append_assoc q.items (needs_in expired id (take i ps) os) (need_at expired id (get_or ps i 0) (slice_get os i))
      ∙ ap (λ us. q.items ++ us) (sym (needs_more expired id i ps os more) ∙ ap (λ n. needs_in expired id (take n ps) os) (sym (add-one i))))

  pub failed_more : (i : ℕ) (ps : List ℕ) → i < length ps →
      record q { items = (q.items ++ needs_put_off true id (take i ps)) ++ unsettled_row id (get_or ps i 0) (needs.Log Expired 0) ∷ [] } ≡ record q { items = q.items ++ needs_put_off true id (take (i + 1) ps) }
  failed_more i ps more =
      ap (λ (us : List Unsettled). record q { items = us })
      (append_assoc q.items (needs_put_off true id (take i ps)) (unsettled_row id (get_or ps i 0) (needs.Log Expired 0) ∷ [])
      ∙ ap (λ us. q.items ++ us) (sym (put_off_more id i ps more) ∙ ap (λ n. needs_put_off true id (take n ps)) (sym (add-one i))))

  pub added_none : (ps : List ℕ) → q ≡ record q { items = q.items ++ needs_put_off false id ps }
  added_none ps = ap (λ (us : List Unsettled). record q { items = us }) (sym (append-nil q.items) ∙ ap (λ us. q.items ++ us) (sym (put_off_none id ps)))
