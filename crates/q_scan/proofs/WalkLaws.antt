-- To which names a walk comes.
use Rattle.std.proofs.Common.{◌≡◌, ◌≢◌, ◌≤◌, ◌<◌, ◌+◌, zero, suc, ◌⊎◌, ⊎_elim, ℕ, Bool, true, List, [], ◌∷◌, length, Option, Some, None, refl, sym, ap, subst, ◌∙◌, inl, inr, arith, eqb, ◌&&◌, ◌||◌}
use Rattle.std.specs.Prelude.{Contains, drop, IsSome, slice_get}
use Rattle.std.specs.Ordering.{nat_cmp}
use Rattle.std.specs.declared.cmp.Ordering.{Ordering}
use Rattle.std.specs.declared.cmp.Ordering.TheVariants.{Equal, Greater, Less}
use Rattle.std.specs.Cmp.Lexicographic.{slice_cmp}
use Rattle.std.proofs.lemmas.Bool.{lt-ltb}
use Rattle.std.proofs.lemmas.List.{length-drop}
use Rattle.q_host.specs.Reads.{IsAfter, Rise}
use Rattle.q_model.specs.declared.id.Id.{Id}
use Rattle.q_model.specs.declared.rows.DeferredName.{DeferredName}
use Rattle.q_model.specs.declared.spot.Area.{Area}
use Rattle.q_model.specs.declared.spot.Area.TheVariants as areas
use Rattle.q_model.specs.Ids.{id_before}
use Rattle.q_model.specs.IdTexts.{due_text}
use Rattle.q_model.specs.SpoolFiles.{Files}
use Rattle.q_model.proofs.NameOrder.{due_text-order, is_less}
use Rattle.q_scan.specs.Filled.{IsFilled, IsStepped}
use Rattle.q_scan.specs.Fits.{IsLater}
use Rattle.q_scan.specs.Walks.{AllStand, IsDueName, IsNextOf, IsStillAhead, IsUpToDate, IsWalked, IsWithin, LeavesAhead, Walk}
use Rattle.q_host.proofs.NamesInOrder.{after_on, either_order, head_or_behind, in_behind, in_none, not_both, not_itself, rise_less}

-- ---- listing

-- a name that stands and was ahead is ahead still
pub filled_ahead : (f : Files) (old new : Walk) (n : List ℕ) → new.place ≡ old.place → IsFilled f old new → IsSome (f old.area n) → IsStillAhead old n → IsStillAhead new n
filled_ahead f old new n place (inl same) there h = record {
  behind = subst (λ (p : Option (List ℕ)). IsAfter p n) (sym place) h.behind;
  listed = λ m inside less. subst (λ (xs : List (List ℕ)). Contains xs n) (sym same.0) (h.listed m (subst (λ (xs : List (List ℕ)). Contains xs m) same.0 inside) less);
}
filled_ahead f old new n place (inr (none, listing)) there h = record {
  behind = subst (λ (p : Option (List ℕ)). IsAfter p n) (sym place) h.behind;
  listed = λ m inside less. ⊎_elim (λ here. here) (λ past. absurd (not_both n m less (past.1 m inside))) (listing.none_left_out n there h.behind);
}

-- and what was listed stands
pub filled_stands : (f : Files) (old new : Walk) → new.area ≡ old.area → IsFilled f old new → AllStand f old → AllStand f new
filled_stands f old new area (inl same) h n inside = subst (λ (a : Area). IsSome (f a n)) (sym area) (h n (subst (λ (xs : List (List ℕ)). Contains xs n) same.0 inside))
filled_stands f old new area (inr (none, listing)) h n inside = subst (λ (a : Area). IsSome (f a n)) (sym area) (listing.there n inside)

-- where nothing was listed, nothing is ahead
pub filled_none : (f : Files) (old new : Walk) (n : List ℕ) → IsFilled f old new → new.ahead ≡ [] → IsSome (f old.area n) → IsStillAhead old n → ⊥
filled_none f old new n (inl same) none there h = absurd (same.1 (sym same.0 ∙ none))
filled_none f old new n (inr (empty, listing)) none there h = ⊎_elim (λ inside. in_none n (subst (λ (xs : List (List ℕ)). Contains xs n) none inside)) (λ past. omega (arith, past.0, ap (λ (xs : List (List ℕ)). length xs) none)) (listing.none_left_out n there h.behind)

-- ---- passing a name

pub stepped_stands : (f : Files) (old new : Walk) → IsStepped old new → AllStand f old → AllStand f new
stepped_stands f old new s h n inside = subst (λ (a : Area). IsSome (f a n)) (sym s.area) (h n (subst (λ (xs : List (List ℕ)). Contains xs n) (sym s.ahead) (in_behind s.name n new.ahead inside)))

-- a name that was ahead is the one that was passed, or is ahead still
pub stepped_ahead : (old new : Walk) (n : List ℕ) (s : IsStepped old new) → Rise old.place old.ahead → IsStillAhead old n → (s.name ≡ n) ⊎ IsStillAhead new n
stepped_ahead old new n s rise h =
    let rises : Rise old.place (s.name ∷ new.ahead) = subst (Rise old.place) s.ahead rise in
    let first : Contains old.ahead s.name = subst (λ (xs : List (List ℕ)). Contains xs s.name) (sym s.ahead) (0, omega arith, refl) in
    ⊎_elim
    (λ less. ⊎_elim (λ same. inl same) (λ back. absurd (not_both n s.name less (rise_less s.name n new.ahead rises.1 back)))
    (head_or_behind s.name n new.ahead (subst (λ (xs : List (List ℕ)). Contains xs n) s.ahead (h.listed s.name first less))))
    (λ rest. ⊎_elim (λ same. inl (sym same)) (λ more. inr (record {
      behind = subst (λ (p : Option (List ℕ)). IsAfter p n) (sym s.place) more;
      listed = λ m inside less.
          ⊎_elim (λ same. absurd (not_itself n (subst (λ (x : List ℕ). slice_cmp nat_cmp x n ≡ Less) same more))) (λ back. back)
          (head_or_behind s.name n new.ahead (subst (λ (xs : List (List ℕ)). Contains xs n) s.ahead (h.listed m (subst (λ (xs : List (List ℕ)). Contains xs m) (sym s.ahead) (in_behind s.name m new.ahead inside)) less)));
    })) rest)
    (either_order n s.name)

-- what stands behind the new place stands behind the old
pub stepped_behind : (old new : Walk) (n : List ℕ) → (s : IsStepped old new) → Rise old.place old.ahead → IsAfter new.place n → IsAfter old.place n
stepped_behind old new n s rise h =
    let rises : Rise old.place (s.name ∷ new.ahead) = subst (Rise old.place) s.ahead rise in
    after_on old.place s.name n rises.0 (subst (λ (p : Option (List ℕ)). IsAfter p n) s.place h)

pub stepped_first : (old new : Walk) (s : IsStepped old new) → Rise old.place old.ahead → IsAfter old.place s.name
stepped_first old new s rise =
    let rises : Rise old.place (s.name ∷ new.ahead) = subst (Rise old.place) s.ahead rise in
    rises.0

-- ---- due times

-- names are in the order of their due times
due_less : (x y : List ℕ) (d e : ℕ) (i j : Id) → IsDueName x d i → IsDueName y e j → d < e → slice_cmp nat_cmp x y ≡ Less
due_less x y d e i j hx hy less =
    let a : DeferredName = record { due = d; id = i } in
    let b : DeferredName = record { due = e; id = j } in
    subst (λ (n : List ℕ). slice_cmp nat_cmp x n ≡ Less) hy.says (subst (λ (n : List ℕ). slice_cmp nat_cmp n (due_text e j) ≡ Less) hx.says
    (is_so (slice_cmp nat_cmp (due_text d i) (due_text e j)) (due_text-order a b hx.digits hy.digits hx.form hy.form ∙ ap (λ (t : Bool). t || (eqb d e && id_before i j)) (lt-ltb d e less))))
  where
    is_so : (o : Ordering) → is_less o ≡ true → o ≡ Less
    is_so Less h = refl
    is_so Equal h = absurd cc
    is_so Greater h = absurd cc

-- where the first name is due later, no name that is ahead is due
later_name : (area : Area) (until : ℕ) (x n : List ℕ) → IsLater area until x → IsWithin area until n → slice_cmp nat_cmp n x ≡ Less
later_name areas.Deferred until x n late within = due_less n x within.0 late.0 within.1 late.1 within.2 late.2 (omega (arith, within.3, late.3))
later_name area until x n late within = absurd late

pub none_due : (w : Walk) (until : ℕ) (x : List ℕ) (rest : List (List ℕ)) (n : List ℕ) → w.ahead ≡ x ∷ rest → Rise w.place w.ahead → IsLater w.area until x → IsStillAhead w n → IsWithin w.area until n → ⊥
none_due w until x rest n is rise late h within =
    let rises : Rise w.place (x ∷ rest) = subst (Rise w.place) is rise in
    let less = later_name w.area until x n late within in
    let first : Contains w.ahead x = subst (λ (xs : List (List ℕ)). Contains xs x) (sym is) (0, omega arith, refl) in
    ⊎_elim (λ same. not_itself n (subst (λ (y : List ℕ). slice_cmp nat_cmp n y ≡ Less) same less)) (λ back. not_both n x less (rise_less x n rest rises.1 back))
    (head_or_behind x n rest (subst (λ (xs : List (List ℕ)). Contains xs n) is (h.listed x first less)))

-- a name that is due is one that the walk gives
pub within_walked : (area : Area) (until : ℕ) (n : List ℕ) → IsWithin area until n → IsWalked area n
within_walked areas.Deferred until n h = (h.0, h.1, h.2)
within_walked area until n h = tt

-- ---- how far a walk has come

-- It is in the same area, and comes to each name to which it would have come.
pub record HasWalked (f : Files) (old new : Walk) : Type 0 where
  pub area : new.area ≡ old.area
  pub behind : (n : List ℕ) → IsAfter new.place n → IsAfter old.place n
  pub ahead : (n : List ℕ) → IsSome (f old.area n) → IsWalked old.area n → IsStillAhead old n → IsStillAhead new n
  pub stands : AllStand f old → AllStand f new

pub walked_nowhere : (f : Files) (w : Walk) → HasWalked f w w
walked_nowhere f w = record { area = refl; behind = λ n h. h; ahead = λ n there walked h. h; stands = λ h. h }

module _ (f : Files) (old mid new : Walk) (so_far : HasWalked f old mid) where
  there_mid : (n : List ℕ) → IsSome (f old.area n) → IsSome (f mid.area n)
  there_mid n there = subst (λ (a : Area). IsSome (f a n)) (sym so_far.area) there

  pub walked_filled : new.area ≡ mid.area → new.place ≡ mid.place → IsFilled f mid new → HasWalked f old new
  walked_filled area place filled = record {
    area = area ∙ so_far.area;
    behind = λ n h. so_far.behind n (subst (λ (p : Option (List ℕ)). IsAfter p n) place h);
    ahead = λ n there walked h. filled_ahead f mid new n place filled (there_mid n there) (so_far.ahead n there walked h);
    stands = λ h. filled_stands f mid new area filled (so_far.stands h);
  }

  pub walked_over : (s : IsStepped mid new) → Rise mid.place mid.ahead → (x : List ℕ) → x ≡ s.name → (IsWalked mid.area x → ⊥) → HasWalked f old new
  walked_over s rise x is other = record {
    area = s.area ∙ so_far.area;
    behind = λ n h. so_far.behind n (stepped_behind mid new n s rise h);
    ahead = λ n there walked h.
        ⊎_elim (λ same. absurd (other (subst (λ (a : Area). IsWalked a x) (sym so_far.area) (subst (IsWalked old.area) (sym (is ∙ same)) walked)))) (λ more. more)
        (stepped_ahead mid new n s rise (so_far.ahead n there walked h));
    stands = λ h. stepped_stands f mid new s (so_far.stands h);
  }

  -- nothing was listed, so nothing is ahead
  pub ended_empty : (until : ℕ) → IsFilled f mid new → new.ahead ≡ [] → (n : List ℕ) → IsSome (f old.area n) → IsWithin old.area until n → IsStillAhead old n → ⊥
  ended_empty until filled none n there within h = filled_none f mid new n filled none (there_mid n there) (so_far.ahead n there (within_walked old.area until n within) h)

module _ (f : Files) (old new : Walk) (until : ℕ) (so_far : HasWalked f old new) where
  -- the first name that is left is due later
  pub ended_later : (x : List ℕ) (rest : List (List ℕ)) → new.ahead ≡ x ∷ rest → Rise new.place new.ahead → IsLater new.area until x → (n : List ℕ) → IsSome (f old.area n) → IsWithin old.area until n → IsStillAhead old n → ⊥
  ended_later x rest is rise late n there within h = none_due new until x rest n is rise late (so_far.ahead n there (within_walked old.area until n within) h) (subst (λ (a : Area). IsWithin a until n) (sym so_far.area) within)

  module _ (ended : (n : List ℕ) → IsSome (f old.area n) → IsWithin old.area until n → IsStillAhead old n → ⊥) where
    pub left_none : (n : List ℕ) → IsSome (f old.area n) → IsWalked old.area n → IsStillAhead old n → LeavesAhead until None new n
    left_none n there walked h = (λ within. ended n there (subst (λ (a : Area). IsWithin a until n) so_far.area within) h, so_far.ahead n there walked h)

    pub exact_none : IsUpToDate f old → IsNextOf f old until None
    exact_none up n due = ended n due.there due.within (up.none_left_out n due.there (within_walked old.area until n due.within) due.behind)

  pub up_none : IsUpToDate f old → IsUpToDate f new
  up_none up = record {
    stands = so_far.stands up.stands;
    none_left_out = λ n there walked h.
        let here = subst (λ (a : Area). IsSome (f a n)) so_far.area there in
        let gives = subst (λ (a : Area). IsWalked a n) so_far.area walked in
        so_far.ahead n here gives (up.none_left_out n here gives (so_far.behind n h));
  }

module _ (f : Files) (old mid new : Walk) (until : ℕ) (x : List ℕ) (so_far : HasWalked f old mid) (s : IsStepped mid new) (rise : Rise mid.place mid.ahead) (is : x ≡ s.name) where
  pub left_some : (n : List ℕ) → IsSome (f old.area n) → IsWalked old.area n → IsStillAhead old n → LeavesAhead until (Some x) new n
  left_some n there walked h = ⊎_elim (λ same. inl (is ∙ same)) (λ more. inr more) (stepped_ahead mid new n s rise (so_far.ahead n there walked h))

  pub behind_some : IsAfter old.place x
  behind_some = so_far.behind x (subst (IsAfter mid.place) (sym is) (stepped_first mid new s rise))

  behind_new : (n : List ℕ) → IsAfter new.place n → slice_cmp nat_cmp x n ≡ Less
  behind_new n h = subst (λ (y : List ℕ). slice_cmp nat_cmp y n ≡ Less) (sym is) (subst (λ (p : Option (List ℕ)). IsAfter p n) s.place h)

  first_stands : AllStand f old → IsSome (f old.area x)
  first_stands h = subst (λ (a : Area). IsSome (f a x)) so_far.area (so_far.stands h x (subst (λ (xs : List (List ℕ)). Contains xs x) (sym s.ahead) (0, omega arith, sym is)))

  pub exact_some : IsWithin mid.area until x → IsUpToDate f old → IsNextOf f old until (Some x)
  exact_some within up = record {
    due = record { there = first_stands up.stands; behind = behind_some; within = subst (λ (a : Area). IsWithin a until x) so_far.area within };
    first = λ n due less.
        let walked = within_walked old.area until n due.within in
        ⊎_elim (λ same. not_itself n (subst (λ (y : List ℕ). slice_cmp nat_cmp n y ≡ Less) (is ∙ same) less)) (λ more. not_both n x less (behind_new n more.behind))
        (stepped_ahead mid new n s rise (so_far.ahead n due.there walked (up.none_left_out n due.there walked due.behind)));
  }

  pub up_some : IsUpToDate f old → IsUpToDate f new
  up_some up = record {
    stands = stepped_stands f mid new s (so_far.stands up.stands);
    none_left_out = λ n there walked h.
        let area = s.area ∙ so_far.area in
        let here = subst (λ (a : Area). IsSome (f a n)) area there in
        let gives = subst (λ (a : Area). IsWalked a n) area walked in
        ⊎_elim (λ same. absurd (not_itself n (subst (λ (y : List ℕ). slice_cmp nat_cmp y n ≡ Less) (is ∙ same) (behind_new n h)))) (λ more. more)
        (stepped_ahead mid new n s rise (so_far.ahead n here gives (up.none_left_out n here gives (so_far.behind n (stepped_behind mid new n s rise h)))));
  }

-- ---- other changes of the area

-- While no name is added behind the place, and none that is left is taken away, a walk stays up to date.
pub stays_up_to_date : (f g : Files) (w : Walk) → ((n : List ℕ) → IsAfter w.place n → IsSome (g w.area n) → IsSome (f w.area n)) → ((n : List ℕ) → Contains w.ahead n → IsSome (f w.area n) → IsSome (g w.area n)) → IsUpToDate f w → IsUpToDate g w
stays_up_to_date f g w none_added none_taken up = record {
  stands = λ n inside. none_taken n inside (up.stands n inside);
  none_left_out = λ n there walked h. up.none_left_out n (none_added n h there) walked h;
}

-- With nothing listed it is up to date.
pub up_from_none : (f : Files) (w : Walk) → w.ahead ≡ [] → IsUpToDate f w
up_from_none f w none = record {
  stands = λ n inside. absurd (in_none n (subst (λ (xs : List (List ℕ)). Contains xs n) none inside));
  none_left_out = λ n there walked h. record { behind = h; listed = λ m inside less. absurd (in_none m (subst (λ (xs : List (List ℕ)). Contains xs m) none inside)) };
}

pub first_of : (xs : List (List ℕ)) (x : List ℕ) → slice_get xs 0 ≡ Some x → xs ≡ x ∷ drop 1 xs
first_of [] x h = absurd cc
first_of (y ∷ ys) x h = let same : y ≡ x = cc in ap (λ (z : List ℕ). z ∷ ys) same

pub none_first : (xs : List (List ℕ)) → slice_get xs 0 ≡ None → xs ≡ []
none_first [] h = refl
none_first (y ∷ ys) h = absurd cc

-- ---- the names in a buffer

pub drop_step : (xs : List (List ℕ)) (i : ℕ) (x : List ℕ) → slice_get xs i ≡ Some x → drop i xs ≡ x ∷ drop (i + 1) xs
drop_step xs i x h = go xs i h ∙ ap (λ (n : ℕ). x ∷ drop n xs) (next i)
  where
    next : (n : ℕ) → suc n ≡ n + 1
    next n = omega arith

    go : (ys : List (List ℕ)) (k : ℕ) → slice_get ys k ≡ Some x → drop k ys ≡ x ∷ drop (suc k) ys
    go [] k e = absurd cc
    go (y ∷ ys) zero e = let same : y ≡ x = cc in ap (λ (z : List ℕ). z ∷ ys) same
    go (y ∷ ys) (suc k) e = go ys k e

pub some_left : (xs : List (List ℕ)) (i : ℕ) → i < length xs → drop i xs ≢ []
some_left xs i h e = omega (arith, h, ap (λ (ys : List (List ℕ)). length ys) e, length-drop i xs)

pub within_buffer : (xs : List (List ℕ)) (i : ℕ) (x : List ℕ) → slice_get xs i ≡ Some x → i + 1 ≤ length xs
within_buffer [] i x h = absurd cc
within_buffer (y ∷ ys) zero x h = omega arith
within_buffer (y ∷ ys) (suc i) x h = omega (arith, within_buffer ys i x h)

pub rise_step : (after : Option (List ℕ)) (xs : List (List ℕ)) (i : ℕ) (x : List ℕ) → slice_get xs i ≡ Some x → Rise after (drop i xs) → Rise (Some x) (drop (i + 1) xs)
rise_step after xs i x h rise =
    let rises : Rise after (x ∷ drop (i + 1) xs) = subst (Rise after) (drop_step xs i x h) rise in
    rises.1

pub same_first : (xs : List (List ℕ)) (x y : List ℕ) (rest : List (List ℕ)) → slice_get xs 0 ≡ Some x → xs ≡ y ∷ rest → x ≡ y
same_first xs x y rest h is =
    let first : Some y ≡ Some x = sym (ap (λ (ys : List (List ℕ)). slice_get ys 0) is) ∙ h in
    sym (same_some first)
  where
    same_some : Some y ≡ Some x → y ≡ x
    same_some e = cc
