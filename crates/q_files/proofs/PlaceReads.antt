-- The place of a mark is found in the recipients that are read batch by batch.
use Rattle.std.proofs.Common.{◌≡◌, ◌∙◌, ◌+◌, ◌-◌, inl, inr, ◌<◌, ◌≤◌, ℕ, zero, suc, Bool, true, false, not, List, [], ◌∷◌, length, map, take, drop, is_some, slice_get, Option, Some, None, if◌then◌else◌, refl, sym, ap, subst, arith}
use Rattle.std.specs.List.{AllByRecursion, list_any}
use Rattle.std.specs.Option.{IfSome, option_map, option_map_or}
use Rattle.std.specs.Prelude.{◌==◌, find}
use Rattle.std.proofs.lemmas.Bool.{eq-eqb, eqb-true, not-true, or_cases, or_left, or_parts, or_right}
use Rattle.std.proofs.lemmas.List.{length-drop, length-map}
use Rattle.std.proofs.lemmas.Option.{slice_get-map, slice_get_past, slice_get_within}
use Rattle.q_model.specs.declared.file_head.Cursor.{Cursor}
use Rattle.q_model.specs.FilesStand.{file_message, file_recipient}
use Rattle.q_model.specs.Lists.{places_from}
use Rattle.q_model.specs.Marking.{is_unmarked_at}
use Rattle.q_model.specs.Marks.{is_marked}
use Rattle.q_model.specs.Message.{Message, Recipient}
use Rattle.q_model.specs.QueueFile.{FileMessage, FileRecipient, queue_file}
use Rattle.q_model.specs.QueueFileBytes.{first_at, mark_at}
use Rattle.q_model.specs.SpoolFiles.{file_at, Files}
use Rattle.q_model.specs.Values.{FileHead, Spot, Taken}
use Rattle.q_model.proofs.EachLaws.{any-map, find-any, find-has, find-passes}
use Rattle.q_model.proofs.QueueFileLaws.{queue_file_again}
use Rattle.q_model.proofs.StandChanges.{Stands-message}
use Rattle.q_model.proofs.StandLaws.{true_false}
use Rattle.q_message.specs.Names.{HasHead}
use Rattle.q_message.specs.Pending.{AreTaken, cursor_at, HasCursor, IsPlaceBehind, position_behind, taken_at, taken_from, unmarked_from}
use Rattle.q_books.specs.Spots.{IsMarkAt}
use Rattle.q_files.specs.MarkPlaces.{FindsMark, IsMarkPlace, mark_place}

-- ---- the positions of a list at which no mark is set

abbrev unmarked : ℕ → List FileRecipient → List ℕ
unmarked n rs = places_from n (λ i r. not r.marked) rs

record IsPending (n p : ℕ) (rs : List FileRecipient) : Type 0 where
  behind : ℕ
  place : p ≡ n + behind
  recipient : FileRecipient
  here : slice_get rs behind ≡ Some recipient
  pending : recipient.marked ≡ false

pending_later : (n p : ℕ) (x : FileRecipient) (rs : List FileRecipient) → IsPending (n + 1) p rs → IsPending n p (x ∷ rs)
pending_later n p x rs h = record { behind = suc h.behind; place = h.place ∙ next n h.behind; recipient = h.recipient; here = h.here; pending = h.pending }
  where
    next : (a b : ℕ) → (a + 1) + b ≡ a + suc b
    next a b = omega arith

one_there : (n p : ℕ) (x : FileRecipient) (rs : List FileRecipient) (t : Bool) → x.marked ≡ t → (list_any (λ i. i == p) (unmarked (n + 1) rs) ≡ true → IsPending (n + 1) p rs)
    → list_any (λ i. i == p) (if not t then n ∷ unmarked (n + 1) rs else unmarked (n + 1) rs) ≡ true → IsPending n p (x ∷ rs)
one_there n p x rs true e rest h = pending_later n p x rs (rest h)
one_there n p x rs false e rest h = elim (or_cases (n == p) (list_any (λ i. i == p) (unmarked (n + 1) rs)) h) [
  | inl here ↦ record { behind = 0; place = sym (eqb-true n p here) ∙ sym (plus_none n); recipient = x; here = refl; pending = e }
  | inr later ↦ pending_later n p x rs (rest later)
]
  where
    plus_none : (a : ℕ) → a + 0 ≡ a
    plus_none a = omega arith

-- who stands among them is pending
is_there : (n p : ℕ) (rs : List FileRecipient) → list_any (λ i. i == p) (unmarked n rs) ≡ true → IsPending n p rs
is_there n p [] h = absurd cc
is_there n p (x ∷ rs) h = one_there n p x rs x.marked refl (is_there (n + 1) p rs) h

-- what stands in front of a place in a list stands in the list
any_of_take : (p : ℕ) (k : ℕ) (xs : List ℕ) → list_any (λ i. i == p) (take k xs) ≡ true → list_any (λ i. i == p) xs ≡ true
any_of_take p zero xs h = absurd cc
any_of_take p (suc k) [] h = absurd cc
any_of_take p (suc k) (x ∷ xs) h = elim (or_cases (x == p) (list_any (λ i. i == p) (take k xs)) h) [
  | inl here ↦ or_left (x == p) (list_any (λ i. i == p) xs) here
  | inr later ↦ or_right (x == p) (list_any (λ i. i == p) xs) (any_of_take p k xs later)
]

-- the place behind so many of them and one more
abbrev behind : ℕ → List ℕ → ℕ → ℕ
behind k xs end = option_map_or (λ i. i + 1) (slice_get xs k) end

-- ---- who stands before this place and not among them is marked

abbrev Marked : ℕ → ℕ → ℕ → List FileRecipient → Type 0
Marked n k p rs = (j : ℕ) (r : FileRecipient) → p ≡ n + j → list_any (λ i. i == p) (take (suc k) (unmarked n rs)) ≡ false → p < behind k (unmarked n rs) (n + length rs) → slice_get rs j ≡ Some r → r.marked ≡ true

some_same : {A : Type 0} (x y : A) → Some x ≡ Some y → x ≡ y
some_same x y e = cc

one_marked : (n k p : ℕ) (x : FileRecipient) (rs : List FileRecipient) (t : Bool) → x.marked ≡ t → ((i : ℕ) → Marked (n + 1) i p rs) → (j : ℕ) (r : FileRecipient) → p ≡ n + j
    → list_any (λ i. i == p) (take (suc k) (if not t then n ∷ unmarked (n + 1) rs else unmarked (n + 1) rs)) ≡ false
    → p < behind k (if not t then n ∷ unmarked (n + 1) rs else unmarked (n + 1) rs) (n + suc (length rs)) → slice_get (x ∷ rs) j ≡ Some r → r.marked ≡ true
one_marked n k p x rs true e rest zero r is none before here = ap (λ (y : FileRecipient). y.marked) (sym (some_same x r here)) ∙ e
one_marked n k p x rs true e rest (suc j) r is none before here = rest k j r (is ∙ next n j) none (subst (λ (end : ℕ). p < behind k (unmarked (n + 1) rs) end) (next n (length rs)) before) here
  where
    next : (a b : ℕ) → a + suc b ≡ (a + 1) + b
    next a b = omega arith
one_marked n k p x rs false e rest zero r is none before here = absurd (true_false (n == p) (eq-eqb n p (sym (is ∙ plus_none n))) (or_parts (n == p) (list_any (λ i. i == p) (take k (unmarked (n + 1) rs))) none).0)
  where
    plus_none : (a : ℕ) → a + 0 ≡ a
    plus_none a = omega arith
one_marked n zero p x rs false e rest (suc j) r is none before here = absurd (omega (arith, is, before))
one_marked n (suc k) p x rs false e rest (suc j) r is none before here =
    rest k j r (is ∙ next n j) (or_parts (n == p) (list_any (λ i. i == p) (take (suc k) (unmarked (n + 1) rs))) none).1 (subst (λ (end : ℕ). p < behind k (unmarked (n + 1) rs) end) (next n (length rs)) before) here
  where
    next : (a b : ℕ) → a + suc b ≡ (a + 1) + b
    next a b = omega arith

is_marked_before : (n p : ℕ) (rs : List FileRecipient) (k : ℕ) → Marked n k p rs
is_marked_before n p [] k j r is none before here = absurd cc
is_marked_before n p (x ∷ rs) k j r is none before here = one_marked n k p x rs x.marked refl (λ i. is_marked_before (n + 1) p rs i) j r is none before here

-- ---- a message

get_behind : {A : Type 0} (c j : ℕ) (xs : List A) → slice_get (drop c xs) j ≡ slice_get xs (c + j)
get_behind zero j xs = ap (slice_get xs) (none_plus j)
  where
    none_plus : (n : ℕ) → n ≡ 0 + n
    none_plus n = omega arith
get_behind (suc c) j [] = sym (slice_get_past [] (suc c + j) (omega arith))
get_behind (suc c) j (x ∷ xs) = get_behind c j xs ∙ ap (slice_get (x ∷ xs)) (next c j)
  where
    next : (a b : ℕ) → suc (a + b) ≡ suc a + b
    next a b = omega arith

place_if : (m : FileMessage) (p : ℕ) (r : FileRecipient) (t : Bool) → slice_get m.recipients p ≡ Some r → r.marked ≡ t → mark_place m p ≡ (if t then None else Some (mark_at m p))
place_if m p r t here e =
    ap (λ (o : Option FileRecipient). option_map_or (λ (x : FileRecipient). if x.marked then None else Some (mark_at m p)) o None) here
    ∙ ap (λ (u : Bool). if u then None else Some (mark_at m p)) e

-- a recipient of the batch has the position
abbrev pub has : ℕ → List Taken → Option Taken
has p items = find (λ taken. taken.position == p) items

any_taken : (m : FileMessage) (p : ℕ) (is : List ℕ) → is_some (has p (map (taken_at m) is)) ≡ list_any (λ i. i == p) is
any_taken m p is = find-any (λ (taken : Taken). taken.position == p) (map (taken_at m) is) ∙ any-map (λ (taken : Taken). taken.position == p) (taken_at m) is

each_taken : (m : FileMessage) (is : List ℕ) → AllByRecursion (λ (taken : Taken). taken.mark_at ≡ mark_at m taken.position) (map (taken_at m) is)
each_taken m [] = tt
each_taken m (i ∷ is) = (refl, each_taken m is)

place_found : (m : FileMessage) (c max p : ℕ) (taken : Taken) → has p (taken_from m c max) ≡ Some taken → mark_place m p ≡ Some taken.mark_at
place_found m c max p taken e =
    let is = take max (unmarked_from m c) in
    let at : taken.position ≡ p = eqb-true taken.position p (find-passes (λ (x : Taken). x.position == p) (map (taken_at m) is) taken e) in
    let mark : taken.mark_at ≡ mark_at m p = find-has (λ (x : Taken). x.mark_at ≡ mark_at m x.position) (λ (x : Taken). x.position == p) (map (taken_at m) is) taken (each_taken m is) e ∙ ap (mark_at m) at in
    let there = is_there c p (drop c m.recipients) (any_of_take p max (unmarked_from m c) (sym (any_taken m p is) ∙ ap is_some e)) in
    place_if m p there.recipient false (ap (slice_get m.recipients) there.place ∙ sym (get_behind c there.behind m.recipients) ∙ there.here) there.pending
    ∙ ap (λ (n : ℕ). Some n) (sym mark)

none_by : (m : FileMessage) (p : ℕ) (o : Option FileRecipient) → slice_get m.recipients p ≡ o → ((r : FileRecipient) → o ≡ Some r → r.marked ≡ true) → mark_place m p ≡ None
none_by m p None here marked = ap (λ (o : Option FileRecipient). option_map_or (λ (x : FileRecipient). if x.marked then None else Some (mark_at m p)) o None) here
none_by m p (Some r) here marked = place_if m p r true here (marked r refl)

place_passed : (m : FileMessage) (c k p : ℕ) → has p (taken_from m c (suc k)) ≡ None → c ≤ p → p < behind k (unmarked_from m c) (length m.recipients) → c ≤ length m.recipients → mark_place m p ≡ None
place_passed m c k p none ahead before within =
    let rs = drop c m.recipients in
    let left : c + length rs ≡ length m.recipients = omega (arith, length-drop c m.recipients, within) in
    let at : p ≡ c + (p - c) = omega (arith, ahead) in
    none_by m p (slice_get m.recipients p) refl (λ r is. is_marked_before c p rs k (p - c) r at (sym (any_taken m p (take (suc k) (unmarked_from m c))) ∙ ap is_some none)
    (subst (λ (end : ℕ). p < behind k (unmarked_from m c) end) (sym left) before) (get_behind c (p - c) m.recipients ∙ ap (slice_get m.recipients) (sym at) ∙ is))

-- ---- the file, where there is one

-- at the first recipient
pub cursor-first : (o : Option (List ℕ)) (file : FileHead) (at : ℕ) → at ≡ file.first_at → IfSome o (λ bytes. HasHead bytes file) → IfSome o (λ bytes. HasCursor bytes file.recipients (record { position = 0; at = at }))
cursor-first None file at is h = tt
cursor-first (Some bytes) file at is h = record {
  message = h.message;
  reads = h.reads;
  count = ap (λ (f : FileHead). f.recipients) h.head;
  place = ap (λ (n : ℕ). record { position = 0; at = n }) (is ∙ ap (λ (f : FileHead). f.first_at) h.head ∙ plus_none (first_at h.message));
  within = omega arith;
}
  where
    plus_none : (n : ℕ) → n ≡ n + 0
    plus_none n = omega arith

-- no recipient has the position
pub place-none : (o : Option (List ℕ)) (file : FileHead) (p : ℕ) → IfSome o (λ bytes. HasHead bytes file) → file.recipients ≤ p → IfSome o (IsMarkPlace p None)
place-none None file p h past = tt
place-none (Some bytes) file p h past =
    let count : file.recipients ≡ length h.message.recipients = ap (λ (f : FileHead). f.recipients) h.head in
    subst (λ (x : Option FileMessage). IfSome x (λ m. None ≡ mark_place m p)) (sym h.reads) (sym (none_by h.message p None (slice_get_past h.message.recipients p (omega (arith, past, count))) (λ r e. absurd cc)))

-- the batch has it
pub place-found : (o : Option (List ℕ)) (count : ℕ) (c : Cursor) (p at : ℕ) (items : List Taken) → IfSome o (λ bytes. HasCursor bytes count c) → IfSome o (AreTaken c.position 256 items) → option_map (λ (taken : Taken). taken.mark_at) (has p items) ≡ Some at → IfSome o (IsMarkPlace p (Some at))
place-found None count c p at items h taken e = tt
place-found (Some bytes) count c p at items h taken e =
    let items_are = subst (λ (x : Option FileMessage). IfSome x (λ m. items ≡ taken_from m c.position 256)) h.reads taken in
    let read : option_map (λ (t : Taken). t.mark_at) (has p (taken_from h.message c.position 256)) ≡ Some at = ap (λ (ts : List Taken). option_map (λ (t : Taken). t.mark_at) (has p ts)) (sym items_are) ∙ e in
    subst (λ (x : Option FileMessage). IfSome x (λ m. Some at ≡ mark_place m p)) (sym h.reads) (by h.message (has p (taken_from h.message c.position 256)) refl read)
  where
    by : (m : FileMessage) (x : Option Taken) → has p (taken_from m c.position 256) ≡ x → option_map (λ (t : Taken). t.mark_at) x ≡ Some at → Some at ≡ mark_place m p
    by m None k r = absurd cc
    by m (Some t) k r = sym r ∙ sym (place_found m c.position 256 p t k)

none_found : (x : Option Taken) → option_map (λ (t : Taken). t.mark_at) x ≡ None → x ≡ None
none_found None e = refl
none_found (Some t) e = absurd cc

-- the batch hasn't, and goes past it
pub place-passed : (o : Option (List ℕ)) (count : ℕ) (c next : Cursor) (p : ℕ) (items : List Taken) → IfSome o (λ bytes. HasCursor bytes count c) → IfSome o (AreTaken c.position 256 items) → IfSome o (IsPlaceBehind c.position 256 next)
    → option_map (λ (taken : Taken). taken.mark_at) (has p items) ≡ None → c.position ≤ p → p < next.position → IfSome o (IsMarkPlace p None)
place-passed None count c next p items h taken behind e ahead past = tt
place-passed (Some bytes) count c next p items h taken behind e ahead past =
    let items_are = subst (λ (x : Option FileMessage). IfSome x (λ m. items ≡ taken_from m c.position 256)) h.reads taken in
    let next_is = subst (λ (x : Option FileMessage). IfSome x (λ m. next ≡ cursor_at m (position_behind m c.position 256))) h.reads behind in
    let none : has p (taken_from h.message c.position 256) ≡ None = ap (has p) (sym items_are) ∙ none_found (has p items) e in
    let before : p < position_behind h.message c.position 256 = subst (λ (x : Cursor). p < x.position) next_is past in
    subst (λ (x : Option FileMessage). IfSome x (λ m. None ≡ mark_place m p)) (sym h.reads) (sym (place_passed h.message c.position 255 p none ahead before h.within))

-- and stands before it still
pub cursor-on : (o : Option (List ℕ)) (count : ℕ) (c next : Cursor) (p : ℕ) → IfSome o (λ bytes. HasCursor bytes count c) → IfSome o (IsPlaceBehind c.position 256 next) → next.position ≤ p → p < count → IfSome o (λ bytes. HasCursor bytes count next)
cursor-on None count c next p h behind before within = tt
cursor-on (Some bytes) count c next p h behind before within =
    let next_is = subst (λ (x : Option FileMessage). IfSome x (λ m. next ≡ cursor_at m (position_behind m c.position 256))) h.reads behind in
    record {
      message = h.message;
      reads = h.reads;
      count = h.count;
      place = next_is ∙ ap (cursor_at h.message) (ap (λ (x : Cursor). x.position) (sym next_is));
      within = omega (arith, before, within, h.count);
    }

-- ---- the batch is searched

pub none-yet : (p : ℕ) (items : List Taken) (i : ℕ) (t : Taken) → has p (take i items) ≡ None → slice_get items i ≡ Some t → (t.position == p) ≡ false → has p (take (i + 1) items) ≡ None
none-yet p items i t none here differ = subst (λ (n : ℕ). has p (take n items) ≡ None) (next i) (by p items i t none here differ)
  where
    next : (n : ℕ) → suc n ≡ n + 1
    next n = omega arith

    skip : (q : ℕ) (x : Taken) (xs : List Taken) (u : Bool) → u ≡ false → (if u then Some x else has q xs) ≡ has q xs
    skip q x xs true e = absurd cc
    skip q x xs false e = refl

    first : (q : ℕ) (x : Taken) (xs : List Taken) (u : Bool) → (if u then Some x else has q xs) ≡ None → (u ≡ false) × (has q xs ≡ None)
    first q x xs true e = absurd cc
    first q x xs false e = (refl, e)

    by : (q : ℕ) (xs : List Taken) (n : ℕ) (y : Taken) → has q (take n xs) ≡ None → slice_get xs n ≡ Some y → (y.position == q) ≡ false → has q (take (suc n) xs) ≡ None
    by q [] n y e h k = refl
    by q (x ∷ xs) zero y e h k = skip q x [] (x.position == q) (ap (λ (z : Taken). z.position == q) (some_same x y h) ∙ k)
    by q (x ∷ xs) (suc n) y e h k =
        let two = first q x (take n xs) (x.position == q) e in
        skip q x (take (suc n) xs) (x.position == q) two.0 ∙ by q xs n y two.1 h k

pub found-now : (p : ℕ) (items : List Taken) (i : ℕ) (t : Taken) → has p (take i items) ≡ None → slice_get items i ≡ Some t → (t.position == p) ≡ true → has p items ≡ Some t
found-now p [] i t none here same = absurd cc
found-now p (x ∷ xs) zero t none here same = by x t (x.position == p) (some_same x t here) (ap (λ (z : Taken). z.position == p) (some_same x t here) ∙ same)
  where
    by : (a b : Taken) (u : Bool) → a ≡ b → u ≡ true → (if u then Some a else has p xs) ≡ Some b
    by a b true e k = ap (λ (z : Taken). Some z) e
    by a b false e k = absurd cc
found-now p (x ∷ xs) (suc i) t none here same = by x xs i (x.position == p) none (λ e. found-now p xs i t e here same)
  where
    by : (a : Taken) (ys : List Taken) (n : ℕ) (u : Bool) → (if u then Some a else has p (take n ys)) ≡ None → (has p (take n ys) ≡ None → has p ys ≡ Some t) → (if u then Some a else has p ys) ≡ Some t
    by a ys n true e rest = absurd cc
    by a ys n false e rest = rest e

-- ---- in the words of a book

-- the file of a message of the book reads as the message
pub finds-mark : (f : Files) (spot : Spot) (p : ℕ) (found : Option ℕ) → IfSome (f spot.area spot.name) (IsMarkPlace p found) → FindsMark f spot p found
finds-mark f spot p found is b id m h file =
    let old = Stands-message f b id m h file.found in
    let there : f spot.area spot.name ≡ Some old.0.bytes = ap (λ (s : Spot). f s.area s.name) file.spot ∙ sym (ap (file_at f m.place) old.1) ∙ old.0.there in
    let read : queue_file old.0.bytes ≡ Some (file_message m) = ap queue_file old.0.reads.written ∙ queue_file_again (file_message m) old.0.reads.marks old.0.reads.lawful old.0.reads.agree in
    subst (λ (x : Option FileMessage). IfSome x (λ k. found ≡ mark_place k p)) read (subst (λ (o : Option (List ℕ)). IfSome o (IsMarkPlace p found)) there is)

-- what is found is the place of the mark
pub mark-found : (m : Message) (p at : ℕ) → mark_place (file_message m) p ≡ Some at → IsMarkAt m p at
mark-found m p at e = by (slice_get (file_message m).recipients p) refl
  where
    some_none : {A : Type 0} (x : A) → None ≡ Some x → ⊥
    some_none x k = cc

    inside : (r : FileRecipient) (t : Bool) → slice_get (file_message m).recipients p ≡ Some r → r.marked ≡ t → IsMarkAt m p at
    inside r true here k = absurd (some_none at (sym (place_if (file_message m) p r true here k) ∙ e))
    inside r false here k = record {
      here = omega (arith, slice_get_within (file_message m).recipients p r here, length-map m.recipients file_recipient);
      offset = some_same at (mark_at (file_message m) p) (sym e ∙ place_if (file_message m) p r false here k);
    }

    by : (o : Option FileRecipient) → slice_get (file_message m).recipients p ≡ o → IsMarkAt m p at
    by None here = absurd (some_none at (sym (none_by (file_message m) p None here (λ r k. absurd cc)) ∙ e))
    by (Some r) here = inside r r.marked here refl

-- and a recipient without a mark is found
pub unmarked-found : (m : Message) (p : ℕ) → is_unmarked_at m p ≡ true → mark_place (file_message m) p ≡ Some (mark_at (file_message m) p)
unmarked-found m p h = by (slice_get m.recipients p) refl
  where
    by : (o : Option Recipient) → slice_get m.recipients p ≡ o → mark_place (file_message m) p ≡ Some (mark_at (file_message m) p)
    by None here = absurd (true_false (is_unmarked_at m p) h (ap (λ (o : Option Recipient). option_map_or (λ (r : Recipient). not (is_marked r.mark)) o false) here))
    by (Some r) here =
        let open_mark : is_marked r.mark ≡ false = not-true (is_marked r.mark) (sym (ap (λ (o : Option Recipient). option_map_or (λ (x : Recipient). not (is_marked x.mark)) o false) here) ∙ h) in
        place_if (file_message m) p (file_recipient r) false (slice_get-map file_recipient m.recipients p ∙ ap (option_map file_recipient) here) open_mark
