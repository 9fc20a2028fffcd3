-- Recipients that are given up one behind another.
use Rattle.std.proofs.Common.{◌≡◌, ◌≢◌, ◌<◌, ◌≤◌, ◌+◌, ◌∙◌, ◌∷◌, ◌++◌, ◌||◌, [], ℕ, Bool, true, false, not, List, None, Option, Some, drop, length, take, take_all, refl, sym, ap, subst, arith}
use Rattle.std.specs.List.{list_any}
use Rattle.std.specs.Option.{option_map_or}
use Rattle.std.specs.Prelude.{◌==◌, IsSomeAnd, slice_index_or}
use Rattle.std.proofs.lemmas.Bool.{and_parts, eqb-true}
use Rattle.std.proofs.lemmas.List.{take-append-drop, take_more}
use Rattle.q_model.specs.declared.id.Id.{Id}
use Rattle.q_model.specs.declared.entry.Entry.TheVariants as entries
use Rattle.q_model.specs.Book.{Book, message_of}
use Rattle.q_model.specs.CutOff.{cut_off}
use Rattle.q_model.specs.Marks.{is_marked}
use Rattle.q_model.specs.Message.{is_logged, Message, pending, Recipient}
use Rattle.q_model.specs.Orderly.{has_firm_failures}
use Rattle.q_model.specs.Places.{is_active}
use Rattle.q_model.specs.ToolSteps.{after_step, fails, given_up, is_unpaired, may_give_up, may_step, may_steps}
use Rattle.q_laws.proofs.Members.{any_in, IsIn}
use Rattle.q_laws.proofs.Places.{got_below, place_is}
use Rattle.q_laws.proofs.Unmarked.{firm_more}
use Rattle.q_host.specs.View.{View}
use Rattle.q_host.specs.declared.error.HostError.{HostError}
use Rattle.q_host.specs.declared.error.HostError.TheVariants.{Tell}
use Rattle.q_books.specs.HostStands.{HostStands, Takes, TellsCrashes, TriesLoosely}
use Rattle.q_files.specs.Changes.{AddsFailure}
use Rattle.q_super.specs.Deeds.{Deed, does, failing, steps_in}
use Rattle.q_super.specs.GivingUp.{MayFail}
use Rattle.q_super.specs.Plays.{after_deeds, HaltsDeeds, PlaysDeeds}
use Rattle.q_super.proofs.MaySteps.{found_failed}
use Rattle.q_super.proofs.Playing.{after_deeds-append, halts_behind, halts_more, plays_none, plays_then, takes_step, tries_loose_step}
use Rattle.q_super.proofs.ToldMoves.{drop_at}

-- ---- one recipient

record IsWaiting (b : Book) (id : Id) (p : ℕ) : Type 0 where
  message : Message
  found : message_of b id ≡ Some message
  waits : IsIn p (pending message)
  firm : has_firm_failures message ≡ true

is_waiting : (b : Book) (id : Id) (p : ℕ) → may_step b (fails id p) ≡ true → IsSomeAnd (message_of b id) (λ m. has_firm_failures m ≡ true) → IsWaiting b id p
is_waiting b id p may firm = by (message_of b id) refl (and_parts (is_unpaired b) (option_map_or (may_give_up p) (message_of b id) false) may).1 firm
  where
    by : (o : Option Message) → message_of b id ≡ o → option_map_or (may_give_up p) o false ≡ true → IsSomeAnd o (λ m. has_firm_failures m ≡ true) → IsWaiting b id p
    by None e k f = absurd cc
    by (Some m) e k f =
        let one = any_in (λ q. q == p) (pending m) (and_parts (is_active m.place) (list_any (λ q. q == p) (pending m)) k).1 in
        record { message = m; found = e; waits = subst (λ q. IsIn q (pending m)) (eqb-true one.0 p one.2) one.1; firm = f }

not_either : (x y : Bool) → not (x || y) ≡ true → y ≡ false
not_either true y h = absurd cc
not_either false true h = absurd cc
not_either false false h = refl

module _ (b : Book) (id : Id) (p : ℕ) (ps : List ℕ) (h : MayFail b id (p ∷ ps)) where
  two : (may_step b (fails id p) ≡ true) × (may_steps (after_step b (fails id p)) (steps_in (failing id ps)) ≡ true)
  two = and_parts (may_step b (fails id p)) (may_steps (after_step b (fails id p)) (steps_in (failing id ps))) h.may

  abbrev waiting : IsWaiting b id p
  waiting = is_waiting b id p two.0 h.firm

  -- its failure may be stored
  pub fails_next : AddsFailure id (given_up p) b (after_step b (fails id p))
  fails_next =
      let at = place_is 0 (λ i (r : Recipient). not (is_marked r.mark || is_logged waiting.message i)) waiting.message.recipients p waiting.waits in
      record {
        message = waiting.message;
        found = waiting.found;
        here = omega (arith, at.is, got_below at.item waiting.message.recipients at.index at.there);
        fresh = not_either (is_marked at.item.mark) (is_logged waiting.message p) at.passes;
        firm = waiting.firm;
        changed = refl;
      }

  -- and those of the others behind it
  pub may_fail_behind : MayFail (after_step b (fails id p)) id ps
  may_fail_behind = record {
    may = two.1;
    firm = subst (λ (o : Option Message). IsSomeAnd o (λ m. has_firm_failures m ≡ true)) (sym (found_failed b id p waiting.message waiting.found)) (firm_more (given_up p) waiting.message waiting.firm);
  }

-- ---- recipients one behind another

failing_append : (id : Id) (ps qs : List ℕ) → failing id (ps ++ qs) ≡ failing id ps ++ failing id qs
failing_append id [] qs = refl
failing_append id (p ∷ ps) qs = ap (λ (ds : List Deed). does (fails id p) ∷ ds) (failing_append id ps qs)

-- the first of these recipients failed, and the others may
pub record FailedFront (b : Book) (id : Id) (ps : List ℕ) (i : ℕ) (u v : View) : Type 0 where
  pub plays : PlaysDeeds b (failing id (take i ps)) u v
  pub rest : MayFail (after_deeds b (failing id (take i ps))) id (drop i ps)

pub failed_none : (b : Book) (id : Id) (ps : List ℕ) (u : View) → TellsCrashes u → HostStands u b → MayFail b id ps → FailedFront b id ps 0 u u
failed_none b id ps u lawful h may = record { plays = plays_none b u lawful h; rest = may }

pub failed_all : (b : Book) (id : Id) (ps : List ℕ) (i : ℕ) (u v : View) → length ps ≤ i → FailedFront b id ps i u v → PlaysDeeds b (failing id ps) u v
failed_all b id ps i u v whole front = subst (λ (qs : List ℕ). PlaysDeeds b (failing id qs) u v) (take_all i ps whole) front.plays

module _ (b : Book) (id : Id) (ps : List ℕ) (i p : ℕ) (within : i < length ps) (is : p ≡ slice_index_or ps i p) (u v : View) (front : FailedFront b id ps i u v) where
  abbrev pub before : List Deed
  before = failing id (take i ps)

  one_more : failing id (take (i + 1) ps) ≡ before ++ does (fails id p) ∷ []
  one_more = ap (failing id) (take_more ps i p within ∙ ap (λ (q : ℕ). take i ps ++ q ∷ []) (sym is)) ∙ failing_append id (take i ps) (p ∷ [])

  behind : drop i ps ≡ p ∷ drop (i + 1) ps
  behind = drop_at ps i p within is

  next : MayFail (after_deeds b before) id (p ∷ drop (i + 1) ps)
  next = subst (MayFail (after_deeds b before) id) behind front.rest

  pub adds_next : AddsFailure id (given_up p) (after_deeds b before) (after_step (after_deeds b before) (fails id p))
  adds_next = fails_next (after_deeds b before) id p (drop (i + 1) ps) next

  pub failed_more : (w : View) → Takes (after_deeds b before) (after_step (after_deeds b before) (fails id p)) v w → FailedFront b id ps (i + 1) u w
  failed_more w t = record {
    plays = subst (λ (ds : List Deed). PlaysDeeds b ds u w) (sym one_more) (plays_then b before (does (fails id p) ∷ []) u v w front.plays (takes_step (after_deeds b before) (fails id p) v w t));
    rest = subst (λ (k : Book). MayFail k id (drop (i + 1) ps)) (sym (ap (after_deeds b) one_more ∙ after_deeds-append b before (does (fails id p) ∷ []))) (may_fail_behind (after_deeds b before) id p (drop (i + 1) ps) next);
  }

  all_of : failing id ps ≡ before ++ (does (fails id p) ∷ failing id (drop (i + 1) ps))
  all_of = ap (failing id) (sym (take-append-drop i ps) ∙ ap (λ (qs : List ℕ). take i ps ++ qs) behind) ∙ failing_append id (take i ps) (p ∷ drop (i + 1) ps)

  pub failed_halts : (error : HostError) (w : View) → error ≢ Tell → TriesLoosely (after_deeds b before) (after_step (after_deeds b before) (fails id p)) (cut_off (entries.Log id (given_up p)) (after_step (after_deeds b before) (fails id p))) v w → HaltsDeeds b (failing id ps) error u w
  failed_halts error w other t = subst (λ (ds : List Deed). HaltsDeeds b ds error u w) (sym all_of)
      (halts_behind b before (does (fails id p) ∷ failing id (drop (i + 1) ps)) error u v w front.plays
      (halts_more (after_deeds b before) (does (fails id p) ∷ []) (failing id (drop (i + 1) ps)) error v w (tries_loose_step (after_deeds b before) (fails id p) v w error other t)))
