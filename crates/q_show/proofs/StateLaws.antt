-- How recipients stand, put together from the reader's positions and the failure log.
use Rattle.std.proofs.Common.{◌≡◌, ◌∙◌, ◌+◌, ◌<◌, ◌++◌, ◌∷◌, ◌||◌, [], Bool, cond, drop, false, filter, length, List, map, nat_eq, nat_lt, not, None, Option, Some, ℕ, ap, eqb-true, refl, sym, true, true≢false, suc, arith}
use Rattle.std.specs.BTreeMap.{BTreeMap, get, is_at}
use Rattle.std.specs.List.{list_any}
use Rattle.std.specs.Option.{option_map_or}
use Rattle.std.specs.Ordering.{nat_cmp}
use Rattle.std.specs.Prelude.{find, slice_index_or, unwrap_or}
use Rattle.std.proofs.Math.Seq.{drop-cons}
use Rattle.std.proofs.lemmas.Bool.{lt-ltb}
use Rattle.std.proofs.lemmas.List.Folds.{list_any-append}
use Rattle.q_listing.proofs.CodeLaws.{same_position}
use Rattle.q_model.specs.declared.outcome.Failure.{Failure}
use Rattle.q_model.specs.declared.outcome.Note.{Note}
use Rattle.q_model.specs.FailureLog.{failures_of, first_of_each}
use Rattle.q_model.specs.Message.{Logged, Message, pending}
use Rattle.q_listing.specs.Listings.{last_code}
use Rattle.q_show.specs.declared.states.State.{State}
use Rattle.q_show.specs.declared.states.State.TheVariants as states
use Rattle.q_show.specs.States.{AreStates, failed_or, waiting}

-- ---- the positions of the reader

-- of these positions it is said that they wait
abbrev pub AreWaiting : (ℕ → Option ℕ) → BTreeMap ℕ State → List ℕ → Type 0
AreWaiting code kept done = (q : ℕ) → get nat_cmp kept q ≡ waiting code done q

pub waiting_none : (code : ℕ → Option ℕ) (kept : BTreeMap ℕ State) → kept.entries ≡ [] → AreWaiting code kept []
waiting_none code kept none q = rw none refl

-- one more of them
pub waiting_more : (code : ℕ → Option ℕ) (old new : BTreeMap ℕ State) (done : List ℕ) (position p : ℕ) (noted : Option ℕ) → p ≡ position → noted ≡ code p
    → ((q : ℕ) → get nat_cmp new q ≡ cond (is_at (nat_cmp p) q) (Some (states.Pending noted)) (get nat_cmp old q)) → AreWaiting code old done → AreWaiting code new (done ++ position ∷ [])
waiting_more code old new done position p noted same coded put was q =
    put q ∙ ap (λ (t : Bool). cond t (Some (states.Pending noted)) (get nat_cmp old q)) (same_position p q ∙ ap (λ (x : ℕ). nat_eq x q) same)
    ∙ ap (λ (o : Option State). cond (nat_eq position q) (Some (states.Pending noted)) o) (was q)
    ∙ ap (λ (o : Option ℕ). cond (nat_eq position q) (Some (states.Pending o)) (waiting code done q)) (coded ∙ ap code same)
    ∙ by (nat_eq position q) (list_any (λ x. nat_eq x q) done) refl
    ∙ ap (λ (t : Bool). cond t (Some (states.Pending (code q))) None) (sym (list_any-append (λ x. nat_eq x q) done (position ∷ [])))
  where
    by : (t s : Bool) → nat_eq position q ≡ t → cond t (Some (states.Pending (code position))) (cond s (Some (states.Pending (code q))) None) ≡ cond (s || (t || false)) (Some (states.Pending (code q))) None
    by true true e = ap (λ (x : ℕ). Some (states.Pending (code x))) (eqb-true position q e)
    by true false e = ap (λ (x : ℕ). Some (states.Pending (code x))) (eqb-true position q e)
    by false true e = refl
    by false false e = refl

-- ---- the failures, from the last to the first

abbrev failed : Failure → Option State
failed f = Some (states.Failed f.why f.code)

-- one more of them
pub failed_more : (fs : List Failure) (f : Failure) (left next : ℕ) (old new first : BTreeMap ℕ State) → next + 1 ≡ left → next < length fs → slice_index_or fs next f ≡ f
    → ((q : ℕ) → get nat_cmp new q ≡ cond (is_at (nat_cmp f.position) q) (failed f) (get nat_cmp old q))
    → ((q : ℕ) → get nat_cmp old q ≡ failed_or (drop left fs) (get nat_cmp first q) q) → (q : ℕ) → get nat_cmp new q ≡ failed_or (drop next fs) (get nat_cmp first q) q
failed_more fs f left next old new first behind within here put was q =
    put q ∙ ap (λ (t : Bool). cond t (failed f) (get nat_cmp old q)) (same_position f.position q)
    ∙ ap (λ (o : Option State). cond (nat_eq f.position q) (failed f) o) (was q)
    ∙ by (nat_eq f.position q) (find (λ x. nat_eq x.position q) (drop left fs))
    ∙ ap (λ (xs : List Failure). failed_or xs (get nat_cmp first q) q) (sym split)
  where
    split : drop next fs ≡ f ∷ drop left fs
    split =
        let count : suc next ≡ left = omega (arith, behind) in
        drop-cons fs next f within ∙ ap (λ (x : Failure). x ∷ drop (suc next) fs) here ∙ ap (λ (n : ℕ). f ∷ drop n fs) count

    by : (t : Bool) (o : Option Failure) → cond t (failed f) (option_map_or failed o (get nat_cmp first q)) ≡ option_map_or failed (cond t (Some f) o) (get nat_cmp first q)
    by true o = refl
    by false o = refl

-- ---- the failures of a message are the first of each of its positions

-- what a filter lets pass is found still
find_filter : (p k : Failure → Bool) (fs : List Failure) → ((f : Failure) → p f ≡ true → k f ≡ true) → find p (filter k fs) ≡ find p fs
find_filter p k [] passes = refl
find_filter p k (f ∷ fs) passes = by (k f) (p f) refl refl (find_filter p k fs passes)
  where
    by : (s t : Bool) → k f ≡ s → p f ≡ t → find p (filter k fs) ≡ find p fs → find p (cond s (f ∷ filter k fs) (filter k fs)) ≡ cond t (Some f) (find p fs)
    by true t e h rest = ap (λ (b : Bool). cond b (Some f) (find p (filter k fs))) h ∙ ap (cond t (Some f)) rest
    by false true e h rest = absurd (true≢false (sym (passes f h) ∙ e))
    by false false e h rest = rest

other_passes : (position q : ℕ) (g : Failure) → nat_eq position q ≡ false → nat_eq g.position q ≡ true → not (nat_eq g.position position) ≡ true
other_passes position q g apart is = by (nat_eq g.position position) refl
  where
    by : (t : Bool) → nat_eq g.position position ≡ t → not t ≡ true
    by true e = absurd (true≢false (sym (ap (λ (x : ℕ). nat_eq x q) (sym (eqb-true g.position position e)) ∙ is) ∙ apart))
    by false e = refl

find_first : (q : ℕ) (fs : List Failure) → find (λ f. nat_eq f.position q) (first_of_each fs) ≡ find (λ f. nat_eq f.position q) fs
find_first q [] = refl
find_first q (f ∷ fs) = by (nat_eq f.position q) refl (find_first q fs)
  where
    by : (t : Bool) → nat_eq f.position q ≡ t → find (λ g. nat_eq g.position q) (first_of_each fs) ≡ find (λ g. nat_eq g.position q) fs
        → cond t (Some f) (find (λ g. nat_eq g.position q) (filter (λ g. not (nat_eq g.position f.position)) (first_of_each fs))) ≡ cond t (Some f) (find (λ g. nat_eq g.position q) fs)
    by true e rest = refl
    by false e rest = find_filter (λ g. nat_eq g.position q) (λ g. not (nat_eq g.position f.position)) (first_of_each fs) (λ g is. other_passes f.position q g e is) ∙ rest

within_passes : (n q : ℕ) (f : Failure) → nat_lt q n ≡ true → nat_eq f.position q ≡ true → nat_lt f.position n ≡ true
within_passes n q f within is = ap (λ (x : ℕ). nat_lt x n) (eqb-true f.position q is) ∙ within

find_failure : (n q : ℕ) (fs : List Failure) → nat_lt q n ≡ true → find (λ f. nat_eq f.position q) (failures_of n fs) ≡ find (λ f. nat_eq f.position q) fs
find_failure n q fs within =
    find_first q (filter (λ f. nat_lt f.position n) fs)
    ∙ find_filter (λ f. nat_eq f.position q) (λ f. nat_lt f.position n) fs (λ f is. within_passes n q f within is)

-- ---- both together

both : (o : Option Failure) (t : Bool) (code : Option ℕ) → unwrap_or (option_map_or failed o (cond t (Some (states.Pending code)) None)) states.Done
    ≡ option_map_or (λ f. states.Failed f.why f.code) o (cond t (states.Pending code) states.Done)
both None true code = refl
both None false code = refl
both (Some f) t code = refl

pub states_are : (notes : List Note) (m : Message) (logged : List Failure) (kept last : BTreeMap ℕ State) → map (λ l. l.failure) m.failures ≡ failures_of (length m.recipients) logged
    → AreWaiting (last_code notes) kept (pending m) → ((q : ℕ) → get nat_cmp last q ≡ failed_or logged (get nat_cmp kept q) q) → AreStates notes m last
states_are notes m logged kept last failures waits fails position within =
    let n = length m.recipients in
    let first : find (λ f. nat_eq f.position position) logged ≡ find (λ f. nat_eq f.position position) (map (λ (l : Logged). l.failure) m.failures) =
    sym (ap (find (λ f. nat_eq f.position position)) failures ∙ find_failure n position logged (lt-ltb position n within)) in
    ap (λ (o : Option State). unwrap_or o states.Done) (fails position ∙ ap (λ (o : Option State). failed_or logged o position) (waits position))
    ∙ ap (λ (o : Option Failure). unwrap_or (option_map_or failed o (waiting (last_code notes) (pending m) position)) states.Done) first
    ∙ both (find (λ f. nat_eq f.position position) (map (λ (l : Logged). l.failure) m.failures)) (list_any (λ p. nat_eq p position) (pending m)) (last_code notes position)
