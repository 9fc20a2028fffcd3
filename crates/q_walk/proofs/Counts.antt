-- How many messages a listing has, and their recipients, while files stand for the book.
use Rattle.std.proofs.Common.{◌*◌, ◌+◌, ◌++◌, ◌<◌, ◌^◌, ◌≡◌, ◌≤◌, ◌∙◌, ◌∷◌, [], Bool, List, ap, arith, eqb-true, false, if◌then◌else◌, length, map, refl, subst, suc, true, ℕ}
use Rattle.std.specs.List.{AllByRecursion, IsDistinct, list_any}
use Rattle.std.specs.Prelude.{◌||◌, eqb, filter, not, sum_by}
use Rattle.std.proofs.lemmas.Bool.{and_parts, not-true, or_parts}
use Rattle.std.proofs.lemmas.List.{length-map}
use Rattle.std.proofs.lemmas.List.Sums.{sum_by-cons}
use Rattle.std.proofs.lemmas.Map.Keys.{IsDistinct-cons}
use Rattle.std.proofs.lemmas.Map.Steps.{length-le_from_distinct_below}
use Rattle.q_model.proofs.EachLaws.{each-append, each-same, none-each}
use Rattle.q_model.proofs.IdLaws.{id_eq-refl, same_id}
use Rattle.q_model.proofs.StandChanges.{distinct-front}
use Rattle.q_model.specs.Book.{Book}
use Rattle.q_model.specs.declared.id.Id.{Id}
use Rattle.q_model.specs.declared.rows.Place.{Place}
use Rattle.q_model.specs.declared.rows.Place.TheVariants as places
use Rattle.q_model.specs.FilesStand.{file_recipient, MessageStands, Stands}
use Rattle.q_model.specs.Ids.{are_distinct, id_eq}
use Rattle.q_model.specs.IdTexts.{IsId}
use Rattle.q_model.specs.Lists.{places_from}
use Rattle.q_model.specs.Marks.{is_marked}
use Rattle.q_model.specs.Message.{is_logged, Message, pending}
use Rattle.q_model.specs.QueueFile.{FileRecipient}
use Rattle.q_model.specs.Places.{is_active, is_corrupt, is_incoming}
use Rattle.q_model.specs.SpoolFiles.{Files}
use Rattle.q_model.specs.declared.queues.Queues.{Queues}
use Rattle.q_walk.specs.Listed.{all_queues, comes_before, is_deferred, is_held, listed, of_queue}
use Rattle.q_walk.specs.Orders.{in_order, put_in_order}
use Rattle.q_walk.specs.Queues.{held_in}
use Rattle.q_walk.specs.declared.queue.Queue.{Queue}
use Rattle.q_walk.specs.declared.queue.Queue.TheVariants as queues
use Rattle.q_walk.proofs.Held.{all_held, IsHeld}
use Rattle.q_walk.proofs.Ordered.{true_not_false}

-- ---- order

module _ (before : Message → Message → Bool) where
  put_by : (b : Bool) (x y : Message) (ys zs : List Message) → length zs ≡ suc (length ys) → length (if b then y ∷ zs else x ∷ y ∷ ys) ≡ suc (suc (length ys))
  put_by true x y ys zs h = ap suc h
  put_by false x y ys zs h = refl

  put_length : (x : Message) (ys : List Message) → length (put_in_order before x ys) ≡ suc (length ys)
  put_length x [] = refl
  put_length x (y ∷ ys) = put_by (before y x) x y ys (put_in_order before x ys) (put_length x ys)

  order_length : (xs : List Message) → length (in_order before xs) ≡ length xs
  order_length [] = refl
  order_length (x ∷ xs) = put_length x (in_order before xs) ∙ ap suc (order_length xs)

-- ---- queues

-- how many messages stand in a queue
abbrev in_queue : (Place → Bool) → List Message → ℕ
in_queue queue ms = length (filter (λ (m : Message). queue m.place) ms)

abbrev one : Bool → ℕ
one b = if b then 1 else 0

queue_by : (b : Bool) (m : Message) (ms : List Message) → length (if b then m ∷ ms else ms) ≡ one b + length ms
queue_by true m ms = omega arith
queue_by false m ms = omega arith

queue_cons : (queue : Place → Bool) (m : Message) (ms : List Message) → in_queue queue (m ∷ ms) ≡ one (queue m.place) + in_queue queue ms
queue_cons queue m ms = queue_by (queue m.place) m (filter (λ (x : Message). queue x.place) ms)

-- a place but corrupt is in just one queue
one_queue : (p : Place) → is_corrupt p ≡ false → (one (is_incoming p) + (one (is_active p) + (one (is_deferred p) + one (is_held p)))) ≡ 1
one_queue places.Incoming h = refl
one_queue places.Active h = refl
one_queue (places.Deferred due) h = refl
one_queue places.Hold h = refl
one_queue places.Corrupt h = cc

abbrev in_queues : List Message → ℕ
in_queues ms = in_queue is_incoming ms + (in_queue is_active ms + (in_queue is_deferred ms + in_queue is_held ms))

all_queued : (f : Files) (ms : List Message) → AllByRecursion (MessageStands f) ms → in_queues ms ≡ length ms
all_queued f [] h = refl
all_queued f (m ∷ ms) h =
    let i = queue_cons is_incoming m ms in
    let a = queue_cons is_active m ms in
    let d = queue_cons is_deferred m ms in
    let o = queue_cons is_held m ms in
    let all = one_queue m.place h.0.not_corrupt in
    let rest = all_queued f ms h.1 in
    omega (arith, i, a, d, o, all, rest)

append_length : (xs ys : List Message) → length (xs ++ ys) ≡ length xs + length ys
append_length [] ys = omega arith
append_length (x ∷ xs) ys = let e = append_length xs ys in omega (arith, e)

abbrev ordered : (Place → Bool) → List Message → List Message
ordered queue ms = in_order comes_before (filter (λ (m : Message). queue m.place) ms)

ordered_length : (queue : Place → Bool) (ms : List Message) → length (ordered queue ms) ≡ in_queue queue ms
ordered_length queue ms = order_length comes_before (filter (λ (m : Message). queue m.place) ms)

pub listed_length : (f : Files) (b : Book) → Stands f b → length (listed all_queues b) ≡ length b.messages
listed_length f b stands =
    let ms = b.messages in
    let i = ordered_length is_incoming ms in
    let a = ordered_length is_active ms in
    let d = ordered_length is_deferred ms in
    let o = ordered_length is_held ms in
    let first = append_length (ordered is_incoming ms) (ordered is_active ms ++ (ordered is_deferred ms ++ ordered is_held ms)) in
    let second = append_length (ordered is_active ms) (ordered is_deferred ms ++ ordered is_held ms) in
    let third = append_length (ordered is_deferred ms) (ordered is_held ms) in
    let all = all_queued f ms stands.messages in
    omega (arith, i, a, d, o, first, second, third, all)

-- fewer queues have no more

fewer_of_queue : (chosen : Bool) (queue : Place → Bool) (b : Book) → length (of_queue chosen queue b) ≤ length (of_queue true queue b)
fewer_of_queue true queue b = omega arith
fewer_of_queue false queue b = omega arith

fewer_listed : (b : Book) (q : Queues) → length (listed q b) ≤ length (listed all_queues b)
fewer_listed b q =
    let i = fewer_of_queue q.incoming is_incoming b in
    let a = fewer_of_queue q.active is_active b in
    let d = fewer_of_queue q.deferred is_deferred b in
    let o = fewer_of_queue q.hold is_held b in
    let some = parts q.incoming q.active q.deferred q.hold in
    let all = parts true true true true in
    omega (arith, i, a, d, o, some, all)
  where
    parts : (i a d o : Bool) → length (of_queue i is_incoming b ++ (of_queue a is_active b ++ (of_queue d is_deferred b ++ of_queue o is_held b)))
        ≡ length (of_queue i is_incoming b) + (length (of_queue a is_active b) + (length (of_queue d is_deferred b) + length (of_queue o is_held b)))
    parts i a d o = append_length (of_queue i is_incoming b) (of_queue a is_active b ++ (of_queue d is_deferred b ++ of_queue o is_held b))
        ∙ ap (λ (n : ℕ). length (of_queue i is_incoming b) + n) (append_length (of_queue a is_active b) (of_queue d is_deferred b ++ of_queue o is_held b)
        ∙ ap (λ (n : ℕ). length (of_queue a is_active b) + n) (append_length (of_queue d is_deferred b) (of_queue o is_held b)))

-- ---- ids

abbrev bit : Bool → ℕ
bit b = if b then 1 else 0

bit_fits : (b : Bool) → bit b ≤ 1
bit_fits true = omega arith
bit_fits false = omega arith

same_bit : (a b : Bool) → bit a ≡ bit b → a ≡ b
same_bit true true h = refl
same_bit false false h = refl
same_bit true false h = absurd (omega arith)
same_bit false true h = absurd (omega arith)

-- an id as one number
abbrev number_of : Id → ℕ
number_of a = a.generation * 2 ^ 33 + (a.serial * 2 + bit a.bounce)

number_fits : (a : Id) → IsId a → number_of a < 2 ^ 65
number_fits a h =
    let g = h.generation_fits in
    let s = h.serial_fits in
    let t = bit_fits a.bounce in
    omega (arith, g, s, t)

same_number : (a b : Id) → IsId a → IsId b → number_of a ≡ number_of b → a ≡ b
same_number a b h k same =
    let s = h.serial_fits in
    let t = bit_fits a.bounce in
    let u = k.serial_fits in
    let v = bit_fits b.bounce in
    let generation : a.generation ≡ b.generation = omega (arith, s, t, u, v, same) in
    let serial : a.serial ≡ b.serial = omega (arith, s, t, u, v, same, generation) in
    let bounce : bit a.bounce ≡ bit b.bounce = omega (arith, same, generation, serial) in
    same_id a b generation serial (same_bit a.bounce b.bounce bounce)

other_number : (a b : Id) → IsId a → IsId b → id_eq b a ≡ false → eqb (number_of a) (number_of b) ≡ false
other_number a b h k other = by (eqb (number_of a) (number_of b)) refl
  where
    by : (t : Bool) → eqb (number_of a) (number_of b) ≡ t → t ≡ false
    by true e =
        let same = same_number a b h k (eqb-true (number_of a) (number_of b) e) in
        absurd (true_not_false (id_eq b a) (subst (λ (x : Id). id_eq x a ≡ true) same (id_eq-refl a)) other)
    by false e = refl

-- ---- messages with different ids

abbrev numbers : List Message → List ℕ
numbers ms = map (λ (m : Message). number_of m.id) ms

module _ (f : Files) where
  numbers_apart : (m : Message) (ms : List Message) → MessageStands f m → AllByRecursion (MessageStands f) ms → list_any (λ i. id_eq i m.id) (map (λ (x : Message). x.id) ms) ≡ false
      → AllByRecursion (λ n. eqb (number_of m.id) n ≡ false) (numbers ms)
  numbers_apart m [] stands each none = tt
  numbers_apart m (x ∷ xs) stands each none =
      let other = none-each (λ i. id_eq i m.id) (map (λ (y : Message). y.id) (x ∷ xs)) none in
      (other_number m.id x.id stands.id each.0.id other.0, numbers_apart m xs stands each.1 (or_parts (id_eq x.id m.id) (list_any (λ i. id_eq i m.id) (map (λ (y : Message). y.id) xs)) none).1)

  numbers_distinct : (ms : List Message) → AllByRecursion (MessageStands f) ms → are_distinct (map (λ (m : Message). m.id) ms) ≡ true → IsDistinct eqb (numbers ms)
  unfolding IsDistinct
  numbers_distinct [] each h = tt
  numbers_distinct (m ∷ ms) each h =
      let none = list_any (λ i. id_eq i m.id) (map (λ (x : Message). x.id) ms) in
      let two = and_parts (not none) (are_distinct (map (λ (x : Message). x.id) ms)) h in
      IsDistinct-cons eqb (number_of m.id) (numbers ms) (numbers_apart m ms each.0 each.1 (not-true none two.0)) (numbers_distinct ms each.1 two.1)

  number_below : (q : ℕ) (ms : List Message) → AllByRecursion (MessageStands f) ms → list_any (eqb q) (numbers ms) ≡ true → q < 2 ^ 65
  number_below q [] each h = cc
  number_below q (m ∷ ms) each h = by (eqb q (number_of m.id)) refl h (number_below q ms each.1)
    where
      by : (t : Bool) → eqb q (number_of m.id) ≡ t → (t || list_any (eqb q) (numbers ms)) ≡ true → (list_any (eqb q) (numbers ms) ≡ true → q < 2 ^ 65) → q < 2 ^ 65
      by true e here rest =
          let same = eqb-true q (number_of m.id) e in
          let fits = number_fits m.id each.0.id in
          omega (arith, same, fits)
      by false e here rest = rest here

  numbers_length : (ms : List Message) → length (numbers ms) ≡ length ms
  numbers_length [] = refl
  numbers_length (m ∷ ms) = ap suc (numbers_length ms)

-- A book has no more messages than there are ids.
pub few_messages : (f : Files) (b : Book) → Stands f b → length b.messages ≤ 2 ^ 65
few_messages f b stands =
    let ms = b.messages in
    let apart = numbers_distinct f ms stands.messages (distinct-front (map (λ m. m.id) ms) (map (λ d. d.id) b.damaged) stands.distinct) in
    let few = length-le_from_distinct_below (numbers ms) (2 ^ 65) apart (λ q h. number_below f q ms stands.messages h) in
    let same = numbers_length f ms in
    omega (arith, few, same)

pub few_listed : (f : Files) (b : Book) (q : Queues) → Stands f b → length (listed q b) ≤ 2 ^ 65
few_listed f b q stands =
    let part = fewer_listed b q in
    let same = listed_length f b stands in
    let few = few_messages f b stands in
    omega (arith, part, same, few)

-- ---- recipients

few_places : {A : Type 0} (n : ℕ) (test : ℕ → A → Bool) (xs : List A) → length (places_from n test xs) ≤ length xs
few_places n test [] = omega arith
few_places n test (x ∷ xs) = by (test n x) (few_places (n + 1) test xs)
  where
    by : (t : Bool) → length (places_from (n + 1) test xs) ≤ length xs → length (if t then n ∷ places_from (n + 1) test xs else places_from (n + 1) test xs) ≤ suc (length xs)
    by true h = omega (arith, h)
    by false h = omega (arith, h)

few_pending : (f : Files) (m : Message) → MessageStands f m → length (pending m) ≤ 50000
few_pending f m stands =
    let places = few_places 0 (λ i r. not (is_marked r.mark || is_logged m i)) m.recipients in
    let few = stands.reads.lawful.few in
    let same = length-map {B = FileRecipient} m.recipients file_recipient in
    omega (arith, places, few, same)

few_in : (f : Files) (ms : List Message) → AllByRecursion (MessageStands f) ms → sum_by (λ m. length (pending m)) ms ≤ 50000 * length ms
few_in f [] each = omega arith
few_in f (m ∷ ms) each =
    let first = few_pending f m each.0 in
    let rest = few_in f ms each.1 in
    let sum = sum_by-cons (λ (x : Message). length (pending x)) m ms in
    omega (arith, first, rest, sum)

all_listed : (f : Files) (b : Book) (q : Queues) → Stands f b → AllByRecursion (MessageStands f) (listed q b)
all_listed f b q stands =
    let held = λ (queue : Queue). each-same (IsHeld f queue) (MessageStands f) (held_in q queue b) (λ m h. h.stands) (all_held f b stands q queue) in
    each-append (MessageStands f) (held_in q queues.Incoming b) (held_in q queues.Active b ++ (held_in q queues.Deferred b ++ held_in q queues.Hold b)) (held queues.Incoming)
    (each-append (MessageStands f) (held_in q queues.Active b) (held_in q queues.Deferred b ++ held_in q queues.Hold b) (held queues.Active)
    (each-append (MessageStands f) (held_in q queues.Deferred b) (held_in q queues.Hold b) (held queues.Deferred) (held queues.Hold)))

-- A listing has fewer pending recipients than a number of 128 bits can count.
pub few_recipients : (f : Files) (b : Book) (q : Queues) → Stands f b → sum_by (λ m. length (pending m)) (listed q b) < 2 ^ 128
few_recipients f b q stands =
    let sum = few_in f (listed q b) (all_listed f b q stands) in
    let few = few_listed f b q stands in
    omega (arith, sum, few)
