-- Which failed recipient comes first of those that aren't marked, by the recipients that are taken.
use Rattle.std.proofs.Common.{◌≡◌, ℕ, ◌≤◌, ◌+◌, ◌-◌, Bool, true, false, cond, not, ◌&&◌, List, [], ◌∷◌, length, filter, map, take, if◌then◌else◌, Option, Some, None, refl, sym, ap, subst, ◌∙◌, arith, take_all, suc, zero}
use Rattle.std.specs.Option.{IfSome}
use Rattle.std.specs.Prelude.{count_by, find, slice_get}
use Rattle.std.proofs.lemmas.List.Sums.{sum_by-cons}
use Rattle.q_message.specs.FileHeads.{head_of, IsHead}
use Rattle.q_message.specs.Pending.{taken_at, taken_from}
use Rattle.q_model.specs.declared.outcome.Failure.{Failure}
use Rattle.q_model.specs.FailureLog.{failures_of}
use Rattle.q_model.specs.Lists.{places_from}
use Rattle.q_model.specs.QueueFile.{FileMessage, FileRecipient, queue_file}
use Rattle.q_model.specs.Values.{FileHead, Taken}
use Rattle.q_model.proofs.RecordLaws.{map_some}
use Rattle.q_laws.proofs.Places.{filter_places, places_within}
use Rattle.q_logfile.specs.Flags.{AreFlags, flag_at, has_failed}
use Rattle.q_look.specs.Failures.{failed_in, first_flagged, unmarked_failed}

-- ---- places in lists

find_by : (q : ℕ → Bool) (x : ℕ) (xs : List ℕ) → slice_get (filter q xs) 0 ≡ find q xs → (t : Bool) → slice_get (if t then x ∷ filter q xs else filter q xs) 0 ≡ (if t then Some x else find q xs)
find_by q x xs same true = refl
find_by q x xs same false = same

first_filtered : (q : ℕ → Bool) (xs : List ℕ) → slice_get (filter q xs) 0 ≡ find q xs
first_filtered q [] = refl
first_filtered q (x ∷ xs) = find_by q x xs (first_filtered q xs) (q x)

none_places : (n : ℕ) (rs : List FileRecipient) → places_from n (λ i r. not r.marked && false) rs ≡ []
none_places n [] = refl
none_places n (r ∷ rs) = by (not r.marked) (none_places (n + 1) rs)
  where
    by : (t : Bool) → places_from (n + 1) (λ i (x : FileRecipient). not x.marked && false) rs ≡ [] → (if t && false then n ∷ places_from (n + 1) (λ i (x : FileRecipient). not x.marked && false) rs else places_from (n + 1) (λ i (x : FileRecipient). not x.marked && false) rs) ≡ []
    by true same = same
    by false same = same

-- ---- recipients that are taken

abbrev unmarked : ℕ → List FileRecipient → List ℕ
unmarked n rs = places_from n (λ i r. not r.marked) rs

count_step : (n k all : ℕ) (t : Bool) (ps : List ℕ) → length ps + k ≡ all → length (if not t then n ∷ ps else ps) + (cond t 1 0 + k) ≡ suc all
count_step n k all true ps h = omega (arith, h)
count_step n k all false ps h = omega (arith, h)

unmarked_count : (n : ℕ) (rs : List FileRecipient) → length (unmarked n rs) + count_by (λ r. r.marked) rs ≡ length rs
unmarked_count n [] = refl
unmarked_count n (r ∷ rs) =
    ap (λ (k : ℕ). length (unmarked n (r ∷ rs)) + k) (sum_by-cons (λ (x : FileRecipient). cond x.marked 1 0) r rs)
    ∙ count_step n (count_by (λ (x : FileRecipient). x.marked) rs) (length rs) r.marked (unmarked (n + 1) rs) (unmarked_count (n + 1) rs)

positions : (m : FileMessage) (ps : List ℕ) → map (λ (t : Taken). t.position) (map (taken_at m) ps) ≡ ps
positions m [] = refl
positions m (p ∷ ps) = ap (λ (xs : List ℕ). p ∷ xs) (positions m ps)

first_taken : (m : FileMessage) (flags : List Bool) (max : ℕ) → length m.recipients - count_by (λ (r : FileRecipient). r.marked) m.recipients ≤ max → find (flag_at flags) (map (λ (t : Taken). t.position) (taken_from m 0 max)) ≡ first_flagged flags m
first_taken m flags max enough =
    let all = unmarked 0 m.recipients in
    let few : length all ≤ max = omega (arith, unmarked_count 0 m.recipients, enough) in
    ap (find (flag_at flags)) (positions m (take max all) ∙ take_all max all few)
    ∙ sym (first_filtered (flag_at flags) all)
    ∙ ap (λ (xs : List ℕ). slice_get xs 0) (filter_places (λ i (r : FileRecipient). not r.marked) (flag_at flags) 0 m.recipients)

head_has : (m : FileMessage) (head : FileHead) → head_of m ≡ head → (length m.recipients ≡ head.recipients) × (count_by (λ (r : FileRecipient). r.marked) m.recipients ≡ head.marked)
head_has m head e = (ap (λ (h : FileHead). h.recipients) e, ap (λ (h : FileHead). h.marked) e)

no_places : (xs : List ℕ) → length xs ≡ 0 → xs ≡ []
no_places [] h = refl
no_places (x ∷ xs) h = absurd (omega (arith, h))

-- the bytes are a queue file with this head, of which this holds
pub with_head : (o : Option (List ℕ)) (head : FileHead) (P : FileMessage → Type 0) → ((m : FileMessage) → head_of m ≡ head → P m) → IfSome o (IsHead head) → IfSome o (λ bytes. IfSome (queue_file bytes) P)
with_head None head P each reads = tt
with_head (Some bytes) head P each reads =
    let m = map_some head_of (queue_file bytes) head reads in
    subst (λ (q : Option FileMessage). IfSome q P) (sym m.1) (each m.0 m.2)

-- and of which this is known
pub with_both : (o : Option (List ℕ)) (head : FileHead) (P Q : FileMessage → Type 0) → ((m : FileMessage) → head_of m ≡ head → P m → Q m) → IfSome o (IsHead head) → IfSome o (λ bytes. IfSome (queue_file bytes) P) → IfSome o (λ bytes. IfSome (queue_file bytes) Q)
with_both None head P Q each reads known = tt
with_both (Some bytes) head P Q each reads known =
    let m = map_some head_of (queue_file bytes) head reads in
    subst (λ (q : Option FileMessage). IfSome q Q) (sym m.1) (each m.0 m.2 (subst (λ (q : Option FileMessage). IfSome q P) m.1 known))

-- where all are marked, there is none
none_flagged : (m : FileMessage) (head : FileHead) (flags : List Bool) → head_of m ≡ head → head.recipients - head.marked ≡ 0 → None ≡ first_flagged flags m
none_flagged m head flags is all =
    let has = head_has m head is in
    let none : unmarked 0 m.recipients ≡ [] = no_places (unmarked 0 m.recipients) (omega (arith, all, has.0, has.1, unmarked_count 0 m.recipients)) in
    ap (λ (ps : List ℕ). slice_get ps 0) (sym (sym (filter_places (λ i (r : FileRecipient). not r.marked) (flag_at flags) 0 m.recipients) ∙ ap (filter (flag_at flags)) none))

pub all_marked : (o : Option (List ℕ)) (head : FileHead) (flags : List Bool) → head.recipients - head.marked ≡ 0 → IfSome o (IsHead head) → IfSome o (λ bytes. IfSome (queue_file bytes) (λ m. None ≡ first_flagged flags m))
all_marked o head flags all reads = with_head o head (λ m. None ≡ first_flagged flags m) (λ m is. none_flagged m head flags is all) reads

-- the first of those that were taken is the first of all
pub first_read : (o : Option (List ℕ)) (head : FileHead) (flags : List Bool) (max : ℕ) (items : List Taken) (found : Option ℕ) → head.recipients - head.marked ≤ max → found ≡ find (flag_at flags) (map (λ (t : Taken). t.position) items) → IfSome o (IsHead head) → IfSome o (λ bytes. IfSome (queue_file bytes) (λ m. items ≡ taken_from m 0 max))
    → IfSome o (λ bytes. IfSome (queue_file bytes) (λ m. found ≡ first_flagged flags m))
first_read o head flags max items found enough is reads taken =
    with_both o head (λ m. items ≡ taken_from m 0 max) (λ m. found ≡ first_flagged flags m)
    (λ m same items_are.
    let has = head_has m head same in
    is ∙ ap (λ (ts : List Taken). find (flag_at flags) (map (λ (t : Taken). t.position) ts)) items_are ∙ first_taken m flags max (omega (arith, has.0, has.1, enough)))
    reads taken

-- ---- what a log says

no_records : (fs : List Failure) → length fs ≡ 0 → fs ≡ []
no_records [] h = refl
no_records (f ∷ fs) h = absurd (omega (arith, h))

-- a log without records
pub nothing_failed : (o : Option (List ℕ)) (head : FileHead) (fs records : List Failure) → records ≡ fs → length records ≡ 0 → IfSome o (IsHead head) → IfSome o (λ bytes. IfSome (queue_file bytes) (λ m. record { count = 0; unmarked = None } ≡ failed_in fs m))
nothing_failed o head fs records same none reads = with_head o head (λ m. record { count = 0; unmarked = None } ≡ failed_in fs m) (λ m is. sym (empty m) ∙ ap (λ (gs : List Failure). failed_in gs m) (sym (no_records records none) ∙ same)) reads
  where
    empty : (m : FileMessage) → failed_in [] m ≡ record { count = 0; unmarked = None }
    empty m = ap (λ (ps : List ℕ). record { count = 0; unmarked = slice_get ps 0 }) (none_places 0 m.recipients)

same_failed : (m : FileMessage) (head : FileHead) (fs : List Failure) (flags : List Bool) (count : ℕ) (found : Option ℕ) → AreFlags head.recipients fs flags → count ≡ length (failures_of head.recipients fs) → head_of m ≡ head → found ≡ first_flagged flags m → record { count = count; unmarked = found } ≡ failed_in fs m
same_failed m head fs flags count found are counted is first =
    let has = head_has m head is in
    let same : first_flagged flags m ≡ slice_get (unmarked_failed fs m.recipients) 0 =
    ap (λ (ps : List ℕ). slice_get ps 0) (places_within (λ i (r : FileRecipient). not r.marked && flag_at flags i) (λ i (r : FileRecipient). not r.marked && has_failed fs i) 0 m.recipients (λ i r h. ap (λ (t : Bool). not r.marked && t) (are.each i (omega (arith, h, has.0))))) in
    ap (λ (n : ℕ). record { count = n; unmarked = found }) (counted ∙ ap (λ (n : ℕ). length (failures_of n fs)) (sym has.0))
    ∙ ap (λ (x : Option ℕ). record { count = length (failures_of (length m.recipients) fs); unmarked = x }) (first ∙ same)

-- a log with records
pub failed_is : (o : Option (List ℕ)) (head : FileHead) (fs : List Failure) (flags : List Bool) (count : ℕ) (found : Option ℕ) → AreFlags head.recipients fs flags → count ≡ length (failures_of head.recipients fs) → IfSome o (IsHead head) → IfSome o (λ bytes. IfSome (queue_file bytes) (λ m. found ≡ first_flagged flags m))
    → IfSome o (λ bytes. IfSome (queue_file bytes) (λ m. record { count = count; unmarked = found } ≡ failed_in fs m))
failed_is o head fs flags count found are counted reads first = with_both o head (λ m. found ≡ first_flagged flags m) (λ m. record { count = count; unmarked = found } ≡ failed_in fs m) (λ m is here. same_failed m head fs flags count found are counted is here) reads first

-- ---- one position after another

pub find_none : (q : ℕ → Bool) (xs : List ℕ) (i x : ℕ) → slice_get xs i ≡ Some x → q x ≡ false → find q (take i xs) ≡ None → find q (take (i + 1) xs) ≡ None
find_none q xs i x here fails none = subst (λ (k : ℕ). find q (take k xs) ≡ None) (next i) (go xs i here none)
  where
    next : (n : ℕ) → suc n ≡ n + 1
    next n = omega arith

    past : (y : ℕ) (ys zs : List ℕ) (t : Bool) → (find q ys ≡ None → find q zs ≡ None) → (if t then Some y else find q ys) ≡ None → (if t then Some y else find q zs) ≡ None
    past y ys zs true step h = h
    past y ys zs false step h = step h

    go : (ys : List ℕ) (k : ℕ) → slice_get ys k ≡ Some x → find q (take k ys) ≡ None → find q (take (suc k) ys) ≡ None
    go [] k e h = refl
    go (y ∷ ys) zero e h =
        let same : y ≡ x = cc in
        rw (ap q same ∙ fails) refl
    go (y ∷ ys) (suc k) e h = past y (take k ys) (take (suc k) ys) (q y) (go ys k e) h

pub find_here : (q : ℕ → Bool) (xs : List ℕ) (i x : ℕ) → slice_get xs i ≡ Some x → q x ≡ true → find q (take i xs) ≡ None → Some x ≡ find q xs
find_here q [] i x here passes none = absurd cc
find_here q (y ∷ ys) zero x here passes none =
    let same : y ≡ x = cc in
    rw (ap q same ∙ passes) (ap Some (sym same))
find_here q (y ∷ ys) (suc i) x here passes none = past (q y) (find_here q ys i x here passes) none
  where
    past : (t : Bool) → (find q (take i ys) ≡ None → Some x ≡ find q ys) → (if t then Some y else find q (take i ys)) ≡ None → Some x ≡ (if t then Some y else find q ys)
    past true step h = absurd cc
    past false step h = step h

pub position_at : (ts : List Taken) (i : ℕ) (t : Taken) → slice_get ts i ≡ Some t → slice_get (map (λ (x : Taken). x.position) ts) i ≡ Some t.position
position_at [] i t h = absurd cc
position_at (x ∷ ts) zero t h = let same : x ≡ t = cc in ap (λ (y : Taken). Some y.position) same
position_at (x ∷ ts) (suc i) t h = position_at ts i t h
