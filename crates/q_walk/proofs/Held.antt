-- The messages of a queue, and the files of its area.
use Rattle.std.proofs.Common.{◌≡◌, ◌∙◌, ◌⊎◌, ◌&&◌, ℕ, List, [], ◌∷◌, Bool, true, false, not, cond, filter, map, Option, Some, None, ap, sym, subst, refl, inl, inr, ⊎_elim, arith}
use Rattle.std.specs.List.{AllByRecursion, list_any}
use Rattle.std.proofs.lemmas.Bool.{and_parts, not-true, or_cases}
use Rattle.q_model.specs.declared.id.Id.{Id}
use Rattle.q_model.specs.declared.rows.Place.{Place}
use Rattle.q_model.specs.declared.rows.Place.TheVariants as places
use Rattle.q_model.specs.Book.{Book, Damaged}
use Rattle.q_model.specs.FilesStand.{DamagedStands, MessageStands, Stands}
use Rattle.q_model.specs.Ids.{are_distinct, id_eq}
use Rattle.q_model.specs.IdTexts.{IsId}
use Rattle.q_model.specs.Message.{Message}
use Rattle.q_model.specs.Places.{is_corrupt, place_eq}
use Rattle.q_model.specs.QueueFile.{FileMessage, queue_file}
use Rattle.q_model.specs.QueueFileBytes.{IsFileOf}
use Rattle.q_model.specs.SpoolFiles.{area_of, file_at, Files, IsPlace, name_at}
use Rattle.q_model.proofs.EachLaws.{any-map, each-both, each-same, none-each}
use Rattle.q_model.proofs.IdLaws.{id_eq-refl, id_eq-true}
use Rattle.q_model.proofs.QueueFileLaws.{queue_file_again}
use Rattle.q_model.proofs.SpotLaws.{place_eq-true, same_spot}
use Rattle.q_model.proofs.StandChanges.{distinct-front}
use Rattle.q_scan.specs.Walks.{IsWithin}
use Rattle.q_walk.specs.declared.queue.Queue.{Queue}
use Rattle.q_walk.specs.declared.queue.Queue.TheVariants as queues
use Rattle.q_walk.specs.Listed.{of_queue}
use Rattle.q_walk.specs.Queues.{held_in, is_chosen, is_in, queue_area}
use Rattle.q_walk.proofs.Ordered.{all_in_order, AreApart, AreInOrder, file_name, IsApart, IsOneOf, one_in_order, order_in_order, true_not_false}
use Rattle.q_model.specs.declared.queues.Queues.{Queues}

-- ---- places of a queue

pub in_area : (queue : Queue) (place : Place) → is_in queue place ≡ true → area_of place ≡ queue_area queue
in_area queues.Incoming places.Incoming h = refl
in_area queues.Active places.Active h = refl
in_area queues.Deferred (places.Deferred due) h = refl
in_area queues.Hold places.Hold h = refl
in_area queue place h = absurd cc

pub in_sound : (queue : Queue) (place : Place) → is_in queue place ≡ true → is_corrupt place ≡ false
in_sound queue places.Incoming h = refl
in_sound queue places.Active h = refl
in_sound queue (places.Deferred due) h = refl
in_sound queue places.Hold h = refl
in_sound queues.Incoming places.Corrupt h = absurd cc
in_sound queues.Active places.Corrupt h = absurd cc
in_sound queues.Deferred places.Corrupt h = absurd cc
in_sound queues.Hold places.Corrupt h = absurd cc

-- the name of a file of the queue is one that a walk by the last moment gives
pub in_within : (queue : Queue) (place : Place) (id : Id) → IsId id → IsPlace place → is_in queue place ≡ true → IsWithin (queue_area queue) 999999999999 (name_at place id)
in_within queues.Incoming place id form fits h = tt
in_within queues.Active place id form fits h = tt
in_within queues.Hold place id form fits h = tt
in_within queues.Deferred (places.Deferred due) id form fits h = (due, id, record { form = form; digits = fits; says = refl }, omega (arith, fits))
in_within queues.Deferred place id form fits h = absurd cc

-- ---- lists

all_filter : (p : Message → Bool) (P : Message → Type 0) (xs : List Message) → AllByRecursion (λ x. p x ≡ true → P x) xs → AllByRecursion P (filter p xs)
all_filter p P [] h = tt
all_filter p P (x ∷ xs) h = by (p x) refl (all_filter p P xs h.1)
  where
    by : (t : Bool) → p x ≡ t → AllByRecursion P (filter p xs) → AllByRecursion P (cond t (x ∷ filter p xs) (filter p xs))
    by true e more = (h.0 e, more)
    by false e more = more

one_filter : (p : Message → Bool) (z : Message) (xs : List Message) → IsOneOf z xs → p z ≡ true → IsOneOf z (filter p xs)
one_filter p z [] there h = absurd there
one_filter p z (x ∷ xs) there h = by (p x) refl there (λ behind. one_filter p z xs behind h)
  where
    by : (t : Bool) → p x ≡ t → (z ≡ x) ⊎ IsOneOf z xs → (IsOneOf z xs → IsOneOf z (filter p xs)) → IsOneOf z (cond t (x ∷ filter p xs) (filter p xs))
    by true e (inl here) more = inl here
    by true e (inr behind) more = inr (more behind)
    by false e (inl here) more = absurd (true_not_false (p x) (ap p (sym here) ∙ h) e)
    by false e (inr behind) more = more behind

any_one : (p : Message → Bool) (xs : List Message) → list_any p xs ≡ true → (x : Message) × IsOneOf x xs × (p x ≡ true)
any_one p [] h = absurd cc
any_one p (x ∷ xs) h = ⊎_elim (λ here. (x, inl refl, here)) (λ behind. let found = any_one p xs behind in (found.0, inr found.1, found.2)) (or_cases (p x) (list_any p xs) h)

any_damaged : (f : Files) (p : Damaged → Bool) (ds : List Damaged) → AllByRecursion (DamagedStands f) ds → list_any p ds ≡ true → (d : Damaged) × DamagedStands f d × (p d ≡ true)
any_damaged f p [] each h = absurd cc
any_damaged f p (d ∷ ds) each h = ⊎_elim (λ here. (d, each.0, here)) (λ behind. any_damaged f p ds each.1 behind) (or_cases (p d) (list_any p ds) h)

-- ---- the messages of a queue

-- the message stands in the queue
pub record IsHeld (f : Files) (queue : Queue) (m : Message) : Type 0 where
  pub stands : MessageStands f m
  pub inside : is_in queue m.place ≡ true

-- two of them have different names, where their ids differ
apart_names : (f : Files) (queue : Queue) (x y : Message) → IsHeld f queue x → IsHeld f queue y → id_eq y.id x.id ≡ false → file_name y ≡ file_name x → ⊥
apart_names f queue x y hx hy apart same =
    let spot = same_spot y.place x.place y.id x.id hy.stands.place hx.stands.place hy.stands.id hx.stands.id (in_area queue y.place hy.inside ∙ sym (in_area queue x.place hx.inside)) same in
    true_not_false (id_eq y.id x.id) (ap (id_eq y.id) (sym spot.1) ∙ id_eq-refl y.id) apart

module _ (f : Files) (queue : Queue) where
  abbrev inside : Message → Bool
  inside m = is_in queue m.place

  distinct_ids : (x : Message) (xs : List Message) → are_distinct (x.id ∷ map (λ m. m.id) xs) ≡ true → AllByRecursion (λ y. id_eq y.id x.id ≡ false) xs
  distinct_ids x xs h =
      let two = and_parts (not (list_any (λ i. id_eq i x.id) (map (λ (m : Message). m.id) xs))) (are_distinct (map (λ (m : Message). m.id) xs)) h in
      none-each (λ y. id_eq y.id x.id) xs (sym (any-map (λ i. id_eq i x.id) (λ (m : Message). m.id) xs) ∙ not-true (list_any (λ i. id_eq i x.id) (map (λ (m : Message). m.id) xs)) two.0)

  apart_rest : (x : Message) (xs : List Message) → MessageStands f x → inside x ≡ true → AllByRecursion (MessageStands f) xs → AllByRecursion (λ y. id_eq y.id x.id ≡ false) xs → IsApart x (filter inside xs)
  apart_rest x xs stands here each apart =
      all_filter inside (λ y. file_name y ≡ file_name x → ⊥) xs
      (each-same (λ y. MessageStands f y × (id_eq y.id x.id ≡ false)) (λ y. inside y ≡ true → file_name y ≡ file_name x → ⊥) xs
      (λ y k there same. apart_names f queue x y (record { stands = stands; inside = here }) (record { stands = k.0; inside = there }) k.1 same)
      (each-both (MessageStands f) (λ y. id_eq y.id x.id ≡ false) xs each apart))

  apart_all : (xs : List Message) → AllByRecursion (MessageStands f) xs → are_distinct (map (λ m. m.id) xs) ≡ true → AreApart (filter inside xs)
  apart_all [] each h = tt
  apart_all (x ∷ xs) each h = by (inside x) refl (apart_all xs each.1 (and_parts (not (list_any (λ i. id_eq i x.id) (map (λ (m : Message). m.id) xs))) (are_distinct (map (λ (m : Message). m.id) xs)) h).1)
    where
      by : (t : Bool) → inside x ≡ t → AreApart (filter inside xs) → AreApart (cond t (x ∷ filter inside xs) (filter inside xs))
      by true e more = (apart_rest x xs each.0 e each.1 (distinct_ids x xs h), more)
      by false e more = more

module _ (f : Files) (b : Book) (h : Stands f b) (chosen : Queues) (queue : Queue) where
  -- each of them stands in the queue
  pub all_held : AllByRecursion (IsHeld f queue) (held_in chosen queue b)
  all_held = by (is_chosen chosen queue)
    where
      each : AllByRecursion (IsHeld f queue) (filter (λ m. is_in queue m.place) b.messages)
      each = all_filter (λ m. is_in queue m.place) (IsHeld f queue) b.messages (each-same (MessageStands f) (λ m. is_in queue m.place ≡ true → IsHeld f queue m) b.messages (λ m stands inside. record { stands = stands; inside = inside }) h.messages)

      by : (t : Bool) → AllByRecursion (IsHeld f queue) (of_queue t (is_in queue) b)
      by true = all_in_order (IsHeld f queue) (filter (λ m. is_in queue m.place) b.messages) each
      by false = tt

  -- they are in the order of their names
  pub held_order : AreInOrder (held_in chosen queue b)
  held_order = by (is_chosen chosen queue)
    where
      by : (t : Bool) → AreInOrder (of_queue t (is_in queue) b)
      by true = order_in_order (filter (λ m. is_in queue m.place) b.messages) (apart_all f queue b.messages h.messages (distinct-front (map (λ m. m.id) b.messages) (map (λ d. d.id) b.damaged) h.distinct))
      by false = tt

  -- a message of the book that stands in the queue is one of them
  pub one_held : (m : Message) → is_chosen chosen queue ≡ true → IsOneOf m b.messages → is_in queue m.place ≡ true → IsOneOf m (held_in chosen queue b)
  one_held m is there inside = subst (λ (t : Bool). IsOneOf m (of_queue t (is_in queue) b)) (sym is) (one_in_order m (filter (λ x. is_in queue x.place) b.messages) (one_filter (λ x. is_in queue x.place) m b.messages there inside))

-- ---- what stands at a name

pub same_bytes : (x y : List ℕ) (o : Option (List ℕ)) → o ≡ Some x → o ≡ Some y → x ≡ y
same_bytes x y o e k = cc

pub not_none : (o : Option FileMessage) (x : FileMessage) → o ≡ None → o ≡ Some x → ⊥
not_none o x e k = cc

pub read_file : (bytes : List ℕ) (m : FileMessage) → IsFileOf bytes m → queue_file bytes ≡ Some m
read_file bytes m h = ap queue_file h.written ∙ queue_file_again m h.marks h.lawful h.agree

-- the message of the place and id is one of these
pub record IsThisOf (ms : List Message) (place : Place) (id : Id) (m : Message) : Type 0 where
  pub one : IsOneOf m ms
  pub same_id : m.id ≡ id
  pub same_place : m.place ≡ place

-- a queue file outside corrupt is that of a message of the book
pub message_there : (f : Files) (b : Book) → Stands f b → (place : Place) (id : Id) (bytes : List ℕ) (head : FileMessage) → IsId id → IsPlace place → is_corrupt place ≡ false
    → file_at f place id ≡ Some bytes → queue_file bytes ≡ Some head → (m : Message) × IsThisOf b.messages place id m
message_there f b h place id bytes head form fits sound there reads =
    ⊎_elim message damaged (or_cases (list_any (λ m. id_eq m.id id && place_eq place m.place) b.messages) (list_any (λ d. id_eq d.id id && place_eq place d.place) b.damaged) (h.nothing_else place id bytes form fits there))
  where
    message : list_any (λ m. id_eq m.id id && place_eq place m.place) b.messages ≡ true → (m : Message) × IsThisOf b.messages place id m
    message any =
        let found = any_one (λ m. id_eq m.id id && place_eq place m.place) b.messages any in
        let two = and_parts (id_eq found.0.id id) (place_eq place found.0.place) found.2 in
        (found.0, record { one = found.1; same_id = id_eq-true found.0.id id two.0; same_place = sym (place_eq-true place found.0.place two.1) })

    damaged : list_any (λ d. id_eq d.id id && place_eq place d.place) b.damaged ≡ true → (m : Message) × IsThisOf b.messages place id m
    damaged any =
        let found = any_damaged f (λ d. id_eq d.id id && place_eq place d.place) b.damaged h.damaged any in
        let two = and_parts (id_eq found.0.id id) (place_eq place found.0.place) found.2 in
        let same_id = id_eq-true found.0.id id two.0 in
        let same_place = place_eq-true place found.0.place two.1 in
        let here : file_at f place id ≡ Some found.1.bytes = ap (λ (p : Place). file_at f p id) same_place ∙ ap (λ (i : Id). file_at f found.0.place i) (sym same_id) ∙ found.1.there in
        let same : found.1.bytes ≡ bytes = same_bytes found.1.bytes bytes (file_at f place id) here there in
        absurd (not_none (queue_file bytes) head (ap queue_file (sym same) ∙ found.1.unread (ap is_corrupt (sym same_place) ∙ sound)) reads)
