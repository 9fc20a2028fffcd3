-- The recipients of a file whose mark isn't set, from a position on.
use Rattle.std.proofs.Common.{◌≡◌, ◌∙◌, ℕ, zero, suc, ◌+◌, ◌-◌, ◌<◌, ◌≤◌, ◌^◌, ◌⊎◌, min, Bool, true, false, cond, not, List, [], ◌∷◌, ◌++◌, length, filter, map, take, take_all, drop, slice_get, Option, Some, None, inl, inr, if◌then◌else◌, refl, sym, ap, subst, arith}
use Rattle.std.specs.List.{list_all}
use Rattle.std.specs.Option.{IfSome, option_map_or}
use Rattle.std.specs.Prelude.{◌&&◌, Err, IsErrOf, nat_le, nat_lt, Ok, Result}
use Rattle.std.specs.Result.{IsErrAnd}
use Rattle.std.proofs.lemmas.List.Folds.{list_all-append}
use Rattle.std.proofs.lemmas.Bool.{and_parts, le-leb, leb-false, leb-true, lt-ltb, ltb-false, ltb-true}
use Rattle.std.proofs.lemmas.List.{drop-drop, drop_all, length-drop, take-map}
use Rattle.std.proofs.lemmas.Option.{slice_get_past}
use Rattle.q_laws.proofs.Batched.{IsRising, rising_places}
use Rattle.q_core.proofs.PlaceLaws.{few_places}
use Rattle.q_laws.proofs.Members.{IsIn}
use Rattle.q_laws.proofs.Places.{place_is}
use Rattle.q_model.specs.declared.file_head.Cursor.{Cursor}
use Rattle.q_model.specs.Lists.{places_from}
use Rattle.q_model.specs.QueueFile.{FileMessage, FileRecipient, queue_file}
use Rattle.q_model.specs.Values.{Taken}
use Rattle.q_message.specs.FileHeads.{IsFault}
use Rattle.q_message.proofs.PendingLaws.{next_cursor}
use Rattle.q_message.specs.Pending.{AreTaken, cursor_at, HasCursor, IsPlaceBehind, position_behind, taken_at, taken_from, unmarked_from}
use Rattle.q_engine.specs.Pending.{AreRead, IsReadUpTo, LeavesFrom, open_from}

-- ---- behind the first few of them

record IsBehind {A : Type 0} (t : ℕ → A → Bool) (n : ℕ) (rs : List A) (j p : ℕ) : Type 0 where
  index : ℕ
  is : p ≡ n + index
  rest : places_from (p + 1) t (drop (suc index) rs) ≡ drop (suc j) (places_from n t rs)

same_some : {A : Type 0} (x y : A) → Some x ≡ Some y → x ≡ y
same_some x y e = cc

behind_one : {A : Type 0} (t : ℕ → A → Bool) (n : ℕ) (x : A) (rs : List A) (j p : ℕ) (b : Bool) → t n x ≡ b → ((i : ℕ) → slice_get (places_from (n + 1) t rs) i ≡ Some p → IsBehind t (n + 1) rs i p)
    → slice_get (if b then n ∷ places_from (n + 1) t rs else places_from (n + 1) t rs) j ≡ Some p
    → (i : ℕ) × (p ≡ n + i) × (places_from (p + 1) t (drop (suc i) (x ∷ rs)) ≡ drop (suc j) (if b then n ∷ places_from (n + 1) t rs else places_from (n + 1) t rs))
behind_one t n x rs zero p true e rest h =
    let same : n ≡ p = same_some n p h in
    (0, omega (arith, same), ap (λ (q : ℕ). places_from (q + 1) t rs) (sym same))
behind_one t n x rs (suc j) p true e rest h = let r = rest j h in (suc r.index, omega (arith, r.is), r.rest)
behind_one t n x rs j p false e rest h = let r = rest j h in (suc r.index, omega (arith, r.is), r.rest)

behind_is : {A : Type 0} (t : ℕ → A → Bool) (n : ℕ) (rs : List A) (j p : ℕ) → slice_get (places_from n t rs) j ≡ Some p → IsBehind t n rs j p
behind_is t n [] j p h = absurd cc
behind_is t n (x ∷ rs) j p h = let b = behind_one t n x rs j p (t n x) refl (λ i k. behind_is t (n + 1) rs i p k) h in record { index = b.0; is = b.1; rest = b.2 }

drop_past : {A : Type 0} (xs : List A) (j : ℕ) → slice_get xs j ≡ None → drop (suc j) xs ≡ []
drop_past [] j h = refl
drop_past (x ∷ xs) zero h = absurd cc
drop_past (x ∷ xs) (suc j) h = drop_past xs j h

-- behind the first k of them are the others
left_behind : (m : FileMessage) (c k : ℕ) → 1 ≤ k → unmarked_from m (position_behind m c k) ≡ drop k (unmarked_from m c)
left_behind m c k h = let all : suc (k - 1) ≡ k = omega (arith, h) in by (slice_get (unmarked_from m c) (k - 1)) refl ∙ ap (λ (n : ℕ). drop n (unmarked_from m c)) all
  where
    by : (o : Option ℕ) → slice_get (unmarked_from m c) (k - 1) ≡ o → unmarked_from m (option_map_or (λ p. p + 1) o (length m.recipients)) ≡ drop (suc (k - 1)) (unmarked_from m c)
    by None e = ap (places_from (length m.recipients) (λ i (r : FileRecipient). not r.marked)) (drop_all (length m.recipients) m.recipients (omega arith)) ∙ sym (drop_past (unmarked_from m c) (k - 1) e)
    by (Some p) e =
        let b = behind_is (λ i (r : FileRecipient). not r.marked) c (drop c m.recipients) (k - 1) p e in
        let there : c + suc b.index ≡ p + 1 = omega (arith, b.is) in
        ap (places_from (p + 1) (λ i (r : FileRecipient). not r.marked)) (sym (drop-drop (suc b.index) c m.recipients ∙ ap (λ (n : ℕ). drop n m.recipients) there)) ∙ b.rest

-- ---- those from a position on

kept_not : (from p : ℕ) → nat_lt p from ≡ true → nat_le from p ≡ false
kept_not from p h = by (nat_le from p) refl
  where
    by : (b : Bool) → nat_le from p ≡ b → b ≡ false
    by false e = refl
    by true e = let less : p < from = ltb-true p from h in let more : from ≤ p = leb-true from p e in absurd (omega (arith, less, more))

passed_over : (from p : ℕ) (xs : List ℕ) (b : Bool) → b ≡ false → cond b (p ∷ xs) xs ≡ xs
passed_over from p xs false e = refl
passed_over from p xs true e = absurd cc

kept_one : (p : ℕ) (few xs : List ℕ) (b : Bool) → b ≡ true → few ≡ xs → cond b (p ∷ few) few ≡ p ∷ xs
kept_one p few xs true e h = ap (λ (ps : List ℕ). p ∷ ps) h
kept_one p few xs false e h = absurd cc

-- the first few lie below, and so are passed over
pub below_passed : (from k : ℕ) (xs : List ℕ) → list_all (λ p. nat_lt p from) (take k xs) ≡ true → filter (nat_le from) (drop k xs) ≡ filter (nat_le from) xs
below_passed from zero xs h = refl
below_passed from (suc k) [] h = refl
below_passed from (suc k) (x ∷ xs) h =
    let two = and_parts (nat_lt x from) (list_all (λ p. nat_lt p from) (take k xs)) h in
    below_passed from k xs two.1 ∙ sym (passed_over from x (filter (nat_le from) xs) (nat_le from x) (kept_not from x two.0))

pub all_kept : (test : ℕ → Bool) (xs : List ℕ) → ((p : ℕ) → IsIn p xs → test p ≡ true) → filter test xs ≡ xs
all_kept test [] h = refl
all_kept test (x ∷ xs) h = kept_one x (filter test xs) xs (test x) (h x (inl refl)) (all_kept test xs (λ p k. h p (inr k)))

-- the first of rising ones doesn't lie below, and so none does
pub rising_kept : (from : ℕ) (xs : List ℕ) → IsRising xs → ((x : ℕ) → slice_get xs 0 ≡ Some x → from ≤ x) → filter (nat_le from) xs ≡ xs
rising_kept from [] h k = refl
rising_kept from (x ∷ xs) h k = all_kept (nat_le from) (x ∷ xs) (each (k x refl))
  where
    each : from ≤ x → (p : ℕ) → IsIn p (x ∷ xs) → nat_le from p ≡ true
    each least p (inl same) = le-leb from p (omega (arith, least, same))
    each least p (inr there) = let more : x < p = h.0 p there in le-leb from p (omega (arith, least, more))

-- those from a position on stand behind that many recipients
behind_position : {A : Type 0} (t : ℕ → A → Bool) (n k : ℕ) (xs : List A) → filter (nat_le (n + k)) (places_from n t xs) ≡ places_from (n + k) t (drop k xs)
behind_position t n zero xs =
    let same : n + 0 ≡ n = omega arith in
    all_kept (nat_le (n + 0)) (places_from n t xs) (λ p h. let is = (place_is n t xs p h).is in le-leb (n + 0) p (omega (arith, is))) ∙ ap (λ (m : ℕ). places_from m t xs) (sym same)
behind_position t n (suc k) [] = refl
behind_position t n (suc k) (x ∷ xs) =
    let same : (n + 1) + k ≡ n + suc k = omega arith in
    by (t n x) (subst (λ (m : ℕ). filter (nat_le m) (places_from (n + 1) t xs) ≡ places_from m t (drop k xs)) same (behind_position t (n + 1) k xs))
  where
    by : (b : Bool) → filter (nat_le (n + suc k)) (places_from (n + 1) t xs) ≡ places_from (n + suc k) t (drop k xs) → filter (nat_le (n + suc k)) (if b then n ∷ places_from (n + 1) t xs else places_from (n + 1) t xs) ≡ places_from (n + suc k) t (drop k xs)
    by true h = passed_over (n + suc k) n (filter (nat_le (n + suc k)) (places_from (n + 1) t xs)) (nat_le (n + suc k) n) (kept_not (n + suc k) n (lt-ltb n (n + suc k) (omega arith))) ∙ h
    by false h = h

open_behind : (m : FileMessage) (from : ℕ) → unmarked_from m from ≡ open_from m from
open_behind m from = let same : 0 + from ≡ from = omega arith in sym (subst (λ (k : ℕ). filter (nat_le k) (unmarked_from m 0) ≡ places_from k (λ i (r : FileRecipient). not r.marked) (drop from m.recipients)) same (behind_position (λ i (r : FileRecipient). not r.marked) 0 from m.recipients))

-- ---- a place in the file

-- the recipients behind the place that don't lie below the position are those from the position on
abbrev pub PassesBelow : ℕ → ℕ → List ℕ → Type 0
PassesBelow from place bytes = IfSome (queue_file bytes) (λ m. filter (nat_le from) (unmarked_from m place) ≡ open_from m from)

pub passes_none : (o : Option (List ℕ)) (from : ℕ) → IfSome o (PassesBelow from 0)
passes_none None from = tt
passes_none (Some bytes) from = by (queue_file bytes)
  where
    by : (x : Option FileMessage) → IfSome x (λ m. filter (nat_le from) (unmarked_from m 0) ≡ open_from m from)
    by None = tt
    by (Some m) = refl

taken_below : (m : FileMessage) (from : ℕ) (is : List ℕ) → list_all (λ t. nat_lt t.position from) (map (taken_at m) is) ≡ list_all (λ p. nat_lt p from) is
taken_below m from [] = refl
taken_below m from (i ∷ is) = ap (λ (b : Bool). nat_lt i from && b) (taken_below m from is)

take_take : {A : Type 0} (j k : ℕ) (xs : List A) → j ≤ k → take j (take k xs) ≡ take j xs
take_take zero k xs h = refl
take_take (suc j) zero xs h = absurd (omega (arith, h))
take_take (suc j) (suc k) [] h = refl
take_take (suc j) (suc k) (x ∷ xs) h = ap (λ ys. x ∷ ys) (take_take j k xs (omega (arith, h)))

all_fewer : {A : Type 0} (test : A → Bool) (j k : ℕ) (xs : List A) → j ≤ k → list_all test (take k xs) ≡ true → list_all test (take j xs) ≡ true
all_fewer test zero k xs h e = refl
all_fewer test (suc j) zero xs h e = absurd (omega (arith, h))
all_fewer test (suc j) (suc k) [] h e = refl
all_fewer test (suc j) (suc k) (x ∷ xs) h e =
    let two = and_parts (test x) (list_all test (take k xs)) e in
    by (test x) two.0 (all_fewer test j k xs (omega (arith, h)) two.1)
  where
    by : (b : Bool) → b ≡ true → list_all test (take j xs) ≡ true → (b && list_all test (take j xs)) ≡ true
    by true e rest = rest
    by false e rest = absurd cc

-- the first few of a batch lie below the position, and are passed over
pub passes_more : (o : Option (List ℕ)) (from k : ℕ) (c next : Cursor) (items : List Taken) → 1 ≤ k → IfSome o (PassesBelow from c.position) → IfSome o (AreTaken c.position 256 items) → IfSome o (IsPlaceBehind c.position (min k 256) next)
    → list_all (λ t. nat_lt t.position from) (take k items) ≡ true → IfSome o (PassesBelow from next.position)
passes_more None from k c next items some h taken behind below = tt
passes_more (Some bytes) from k c next items some h taken behind below = by (queue_file bytes) h taken behind
  where
    few : ℕ
    few = min k 256

    by : (x : Option FileMessage) → IfSome x (λ m. filter (nat_le from) (unmarked_from m c.position) ≡ open_from m from) → IfSome x (λ m. items ≡ taken_from m c.position 256) → IfSome x (λ m. next ≡ cursor_at m (position_behind m c.position (min k 256)))
        → IfSome x (λ m. filter (nat_le from) (unmarked_from m next.position) ≡ open_from m from)
    by None h taken behind = tt
    by (Some m) h taken behind =
        let xs = unmarked_from m c.position in
        let some_few : 1 ≤ min k 256 = omega (arith, some) in
        let front : list_all (λ t. nat_lt t.position from) (take (min k 256) (map (taken_at m) (take 256 xs))) ≡ true =
        subst (λ (ts : List Taken). list_all (λ t. nat_lt t.position from) (take (min k 256) ts) ≡ true) taken (all_fewer (λ (t : Taken). nat_lt t.position from) (min k 256) k items (omega arith) below) in
        let these : list_all (λ p. nat_lt p from) (take (min k 256) xs) ≡ true =
        ap (list_all (λ p. nat_lt p from)) (sym (take_take (min k 256) 256 xs (omega arith)))
        ∙ sym (taken_below m from (take (min k 256) (take 256 xs)))
        ∙ ap (list_all (λ (t : Taken). nat_lt t.position from)) (sym (take-map (taken_at m) (min k 256) (take 256 xs)))
        ∙ front in
        let left : unmarked_from m next.position ≡ drop (min k 256) xs = ap (λ (x : Cursor). unmarked_from m x.position) behind ∙ left_behind m c.position (min k 256) some_few in
        ap (filter (nat_le from)) left ∙ below_passed from (min k 256) xs these ∙ h

first_taken : (m : FileMessage) (from : ℕ) (xs : List ℕ) → ((t : Taken) → slice_get (map (taken_at m) (take 256 xs)) 0 ≡ Some t → nat_lt t.position from ≡ false) → (x : ℕ) → slice_get xs 0 ≡ Some x → from ≤ x
first_taken m from [] h x e = absurd cc
first_taken m from (y ∷ xs) h x e = subst (λ (z : ℕ). from ≤ z) (same_some y x e) (ltb-false y from (h (taken_at m y) refl))

-- the first of a batch doesn't lie below
pub leaves_from : (o : Option (List ℕ)) (from k : ℕ) (c : Cursor) (items : List Taken) → k ≡ 0 → IfSome o (PassesBelow from c.position) → IfSome o (AreTaken c.position 256 items)
    → ((t : Taken) → slice_get items k ≡ Some t → nat_lt t.position from ≡ false) → IfSome o (LeavesFrom from c.position)
leaves_from None from k c items none h taken behind = tt
leaves_from (Some bytes) from k c items none h taken behind = by (queue_file bytes) h taken
  where
    by : (x : Option FileMessage) → IfSome x (λ m. filter (nat_le from) (unmarked_from m c.position) ≡ open_from m from) → IfSome x (λ m. items ≡ taken_from m c.position 256) → IfSome x (λ m. unmarked_from m c.position ≡ open_from m from)
    by None h taken = tt
    by (Some m) h taken =
        let xs = unmarked_from m c.position in
        let first : (t : Taken) → slice_get (map (taken_at m) (take 256 xs)) 0 ≡ Some t → nat_lt t.position from ≡ false = λ t e. behind t (ap (slice_get items) none ∙ ap (λ (ts : List Taken). slice_get ts 0) taken ∙ e) in
        sym (rising_kept from xs (rising_places c.position (λ i (r : FileRecipient). not r.marked) (drop c.position m.recipients)) (first_taken m from xs first)) ∙ h

-- the place is that of the position itself
pub leaves_at : (o : Option (List ℕ)) (from place : ℕ) → place ≡ from → IfSome o (LeavesFrom from place)
leaves_at None from place same = tt
leaves_at (Some bytes) from place same = by (queue_file bytes)
  where
    by : (x : Option FileMessage) → IfSome x (λ m. unmarked_from m place ≡ open_from m from)
    by None = tt
    by (Some m) = ap (unmarked_from m) same ∙ open_behind m from

-- ---- the read

-- there is room for all where there isn't for as many as were asked for
pub roomy : (xs : List ℕ) (n max room : ℕ) → length xs ≤ n → 1 ≤ max → room ≡ max ⊎ ((n < room) × (room ≤ max)) → (take room xs ≡ take max xs) × (slice_get xs (room - 1) ≡ slice_get xs (max - 1))
roomy xs n max room short some (inl same) = (ap (λ (k : ℕ). take k xs) same, ap (λ (k : ℕ). slice_get xs (k - 1)) same)
roomy xs n max room short some (inr h) = (
  take_all room xs (omega (arith, short, h.0)) ∙ sym (take_all max xs (omega (arith, short, h.0, h.1))),
  slice_get_past xs (room - 1) (omega (arith, short, h.0)) ∙ sym (slice_get_past xs (max - 1) (omega (arith, short, h.0, h.1))),
)

abbrev upto : List ℕ → ℕ → ℕ → ℕ
upto xs max end = option_map_or (λ p. p + 1) (slice_get xs (max - 1)) end

-- what was read from such a place on
pub are_read : (o : Option (List ℕ)) (count : ℕ) (place next : Cursor) (from max room : ℕ) (items : List Taken) → 1 ≤ room → room ≡ min max (min (count + 1) (2 ^ 32 - 1)) → max ≤ 2 ^ 32 - 1
    → IfSome o (λ bytes. HasCursor bytes count place) → IfSome o (AreTaken place.position room items) → IfSome o (IsPlaceBehind place.position room next) → IfSome o (LeavesFrom from place.position) → IfSome o (AreRead from max items next.position)
are_read None count place next from max room items some is fits h taken behind leaves = tt
are_read (Some bytes) count place next from max room items some is fits h taken behind leaves =
    let m = h.message in
    let xs = unmarked_from m place.position in
    let items_are = subst (λ (x : Option FileMessage). IfSome x (λ k. items ≡ taken_from k place.position room)) h.reads taken in
    let next_is = subst (λ (x : Option FileMessage). IfSome x (λ k. next ≡ cursor_at k (position_behind k place.position room))) h.reads behind in
    let these = subst (λ (x : Option FileMessage). IfSome x (λ k. unmarked_from k place.position ≡ open_from k from)) h.reads leaves in
    let few = few_places (λ i (r : FileRecipient). not r.marked) place.position (drop place.position m.recipients) in
    let short : length xs ≤ length m.recipients = omega (arith, few, length-drop place.position m.recipients) in
    let enough : 1 ≤ max = omega (arith, some, is) in
    let fit = roomy xs (length m.recipients) max room short enough (which count (length m.recipients) max room h.count is fits) in
    subst (λ (x : Option FileMessage). IfSome x (λ k. IsReadUpTo k from max items next.position)) (sym h.reads) (record {
      some = enough;
      taken_are = items_are ∙ ap (map (taken_at m)) (fit.0 ∙ ap (take max) these);
      end = ap (λ (x : Cursor). x.position) next_is ∙ ap (λ (p : Option ℕ). option_map_or (λ q. q + 1) p (length m.recipients)) fit.1 ∙ ap (λ (ps : List ℕ). upto ps max (length m.recipients)) these;
    })
  where
    which : (r n max room : ℕ) → r ≡ n → room ≡ min max (min (r + 1) (2 ^ 32 - 1)) → max ≤ 2 ^ 32 - 1 → room ≡ max ⊎ ((n < room) × (room ≤ max))
    which r n max room same is fits = by (nat_le max room) refl
      where
        by : (b : Bool) → nat_le max room ≡ b → room ≡ max ⊎ ((n < room) × (room ≤ max))
        by true e = inl (le_same (leb-true max room e))
          where
            le_same : max ≤ room → room ≡ max
            le_same k = omega (arith, is, k)
        by false e = let less : room < max = leb-false max room e in inr (omega (arith, is, same, fits, less), omega (arith, is))

-- ---- one by one

take_next : {A : Type 0} (xs : List A) (i : ℕ) (t : A) → slice_get xs i ≡ Some t → take (suc i) xs ≡ take i xs ++ t ∷ []
take_next [] i t h = absurd cc
take_next (x ∷ xs) zero t h = ap (λ y. y ∷ []) (same_some x t h)
take_next (x ∷ xs) (suc i) t h = ap (λ ys. x ∷ ys) (take_next xs i t h)

pub next_taken : {A : Type 0} (xs : List A) (i : ℕ) (t : A) → slice_get xs i ≡ Some t → take (i + 1) xs ≡ take i xs ++ t ∷ []
next_taken xs i t h = let one : i + 1 ≡ suc i = omega arith in ap (λ (n : ℕ). take n xs) one ∙ take_next xs i t h

pub below_next : {A : Type 0} (test : A → Bool) (xs : List A) (i : ℕ) (t : A) → list_all test (take i xs) ≡ true → slice_get xs i ≡ Some t → test t ≡ true → list_all test (take (i + 1) xs) ≡ true
below_next test xs i t before here passes =
    ap (list_all test) (next_taken xs i t here) ∙ list_all-append test (take i xs) (t ∷ []) ∙ by (list_all test (take i xs)) (test t) before passes
  where
    by : (a b : Bool) → a ≡ true → b ≡ true → (a && (b && true)) ≡ true
    by true true e f = refl
    by true false e f = absurd cc
    by false b e f = absurd cc

pub none_behind : (xs : List Taken) (n : ℕ) (from : ℕ) → length xs ≤ n → (t : Taken) → slice_get xs n ≡ Some t → nat_lt t.position from ≡ false
none_behind xs n from past t h = absurd (none_some t (sym (slice_get_past xs n past) ∙ h))
  where
    none_some : {A : Type 0} (x : A) → None ≡ Some x → ⊥
    none_some x k = cc

-- the place behind a batch is one of the file
pub cursor_behind : (o : Option (List ℕ)) (count : ℕ) (c next : Cursor) (max : ℕ) → IfSome o (λ bytes. HasCursor bytes count c) → IfSome o (IsPlaceBehind c.position max next) → IfSome o (λ bytes. HasCursor bytes count next)
cursor_behind None count c next max h is = tt
cursor_behind (Some bytes) count c next max h is = next_cursor bytes count c next max h is

-- a file at fault is no queue file
pub no_file : (o : Option (List ℕ)) (place : ℕ) → IfSome o (IsFault place) → IfSome o (λ bytes. queue_file bytes ≡ None)
no_file None place h = tt
no_file (Some bytes) place h = h.0

pub same_refusal : {T S E : Type 0} (r : Result T E) (inner e : E) → IsErrAnd r (λ x. x ≡ inner) → IsErrOf r e → IsErrOf {T = S} (Err inner) e
same_refusal (Ok v) inner e is of = absurd is
same_refusal (Err x) inner e is of = let same : x ≡ e = cc in ap (λ y. Err y) (sym is ∙ same)
