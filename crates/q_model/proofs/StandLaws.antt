-- Files that stand for a book, when one message's file is added.
use Rattle.std.proofs.Common.{◌≡◌, ℕ, Bool, true, false, not, ◌&&◌, ◌||◌, List, [], ◌∷◌, ◌++◌, length, map, is_some, Some, None, refl, sym, ap, ◌∙◌, arith, append_assoc}
use Rattle.std.specs.List.{AllByRecursion, list_any}
use Rattle.std.proofs.lemmas.Bool.{and_from, and_parts, or_parts, or_from, false_from_ne_true, not_from_false, not-true}
use Rattle.std.proofs.lemmas.List.{map-append}
use Rattle.std.proofs.lemmas.List.Folds.{list_any-append}
use Rattle.q_model.specs.declared.id.Id.{Id}
use Rattle.q_model.specs.declared.rows.Place.{Place}
use Rattle.q_model.specs.declared.spot.Area.{Area}
use Rattle.q_model.specs.Book.{Book, Damaged, all_ids, damaged_of, empty_book, message_of, stands, stands_in}
use Rattle.q_model.specs.BookChanges.{add_message}
use Rattle.std.specs.Option.{option_map_or}
use Rattle.q_model.specs.FailureLog.{failures_of, log_records}
use Rattle.q_model.specs.FilesStand.{BootStands, DamagedStands, MessageStands, Stands}
use Rattle.q_model.specs.Ids.{are_distinct, id_eq}
use Rattle.q_model.specs.IdTexts.{id_text, IsId}
use Rattle.q_model.specs.Message.{Message}
use Rattle.q_model.specs.Orderly.{is_lawful}
use Rattle.q_model.specs.SpoolFiles.{area_of, file_at, Files, IsPlace, name_at}
use Rattle.q_model.specs.Places.{place_eq}
use Rattle.q_model.specs.Texts.{is_name}
use Rattle.q_model.specs.declared.spot.Area.TheVariants as areas
use Rattle.q_model.proofs.EachLaws.{any-map, each-append, each-both, each-same, find-any, none-each}
use Rattle.q_model.proofs.IdLaws.{id_eq-refl, id_eq-true}
use Rattle.q_model.proofs.SpotLaws.{area_of-IsQueue, place_eq-refl, same_spot}

-- ---- the empty book

pub empty_book-lawful : is_lawful empty_book ≡ true
empty_book-lawful = refl

pub Stands-empty : (f : Files) → ((n : List ℕ) → is_name n ≡ true → f areas.Boot n ≡ None) → ((place : Place) (id : Id) → IsId id → IsPlace place → file_at f place id ≡ None) → Stands f empty_book
Stands-empty f boot queues = record {
  boot = record { fits = omega arith; names = λ n h. ap is_some (boot n h) };
  distinct = refl;
  messages = tt;
  damaged = tt;
  nothing_else = λ place id bytes h k there. absurd (none_some bytes (sym (queues place id h k) ∙ there));
}
  where
    none_some : (x : List ℕ) → None ≡ Some x → ⊥
    none_some x e = cc

-- ---- files that changed at one place alone

-- the files outside Tmp are the same but at one place
abbrev pub IsSameBut : Area → List ℕ → Files → Files → Type 0
IsSameBut a n f g = (b : Area) (m : List ℕ) → (b ≡ areas.Tmp → ⊥) → ((b ≡ a) × (m ≡ n) → ⊥) → g b m ≡ f b m

-- a message whose file and log are as before
pub MessageStands-kept : (f g : Files) (m : Message) → file_at g m.place m.id ≡ file_at f m.place m.id → g areas.Bounce (id_text m.id) ≡ f areas.Bounce (id_text m.id) → MessageStands f m → MessageStands g m
MessageStands-kept f g m file log h = record {
  id = h.id;
  place = h.place;
  not_corrupt = h.not_corrupt;
  bytes = h.bytes;
  there = file ∙ h.there;
  reads = h.reads;
  failures = h.failures ∙ sym (ap (λ o. failures_of (length m.recipients) (option_map_or log_records o [])) log);
}

not_tmp : areas.Bounce ≡ areas.Tmp → ⊥
not_tmp e = cc

boot_not_tmp : areas.Boot ≡ areas.Tmp → ⊥
boot_not_tmp e = cc

-- messages and damaged files of other ids stand as before
pub MessageStands-other : (f g : Files) (p : Place) (id : Id) → IsPlace p → IsId id → IsSameBut (area_of p) (name_at p id) f g → (m : Message) → (m.id ≡ id → ⊥) → MessageStands f m → MessageStands g m
MessageStands-other f g p id hp hid same m apart h =
    MessageStands-kept f g m
    (same (area_of m.place) (name_at m.place m.id) (area_of-IsQueue m.place).not_tmp (λ e. apart (same_spot m.place p m.id id h.place hp h.id hid e.0 e.1).1))
    (same areas.Bounce (id_text m.id) not_tmp (λ e. (area_of-IsQueue p).not_bounce (sym e.0)))
    h

pub DamagedStands-other : (f g : Files) (p : Place) (id : Id) → IsPlace p → IsId id → IsSameBut (area_of p) (name_at p id) f g → (d : Damaged) → (d.id ≡ id → ⊥) → DamagedStands f d → DamagedStands g d
DamagedStands-other f g p id hp hid same d apart h = record {
  id = h.id;
  place = h.place;
  bytes = h.bytes;
  there = same (area_of d.place) (name_at d.place d.id) (area_of-IsQueue d.place).not_tmp (λ e. apart (same_spot d.place p d.id id h.place hp h.id hid e.0 e.1).1) ∙ h.there;
  unread = h.unread;
}

-- a damaged file that is as before
pub DamagedStands-kept : (f g : Files) (d : Damaged) → file_at g d.place d.id ≡ file_at f d.place d.id → DamagedStands f d → DamagedStands g d
DamagedStands-kept f g d file h = record { id = h.id; place = h.place; bytes = h.bytes; there = file ∙ h.there; unread = h.unread }

pub BootStands-kept : (f g : Files) (generation : ℕ) → ((n : List ℕ) → g areas.Boot n ≡ f areas.Boot n) → BootStands f generation → BootStands g generation
BootStands-kept f g generation same h = record { fits = h.fits; names = λ n k. ap is_some (same n) ∙ h.names n k }

-- ---- distinct ids

id_eq-turned : (i j : Id) → id_eq i j ≡ false → id_eq j i ≡ false
id_eq-turned i j h = false_from_ne_true (id_eq j i) (λ e. absurd (true_is_false (sym (id_eq-refl i) ∙ ap (id_eq i) (sym (id_eq-true j i e)) ∙ h)))
  where
    true_is_false : true ≡ false → ⊥
    true_is_false e = cc

-- an id that none has, put into the list
distinct-insert : (xs ys : List Id) (id : Id) → list_any (λ i. id_eq i id) (xs ++ ys) ≡ false → are_distinct (xs ++ ys) ≡ true → are_distinct (xs ++ id ∷ ys) ≡ true
distinct-insert [] ys id new h = and_from (not (list_any (λ i. id_eq i id) ys)) (are_distinct ys) (not_from_false (list_any (λ i. id_eq i id) ys) new) h
distinct-insert (x ∷ xs) ys id new h =
    let news = or_parts (id_eq x id) (list_any (λ i. id_eq i id) (xs ++ ys)) new in
    let olds = and_parts (not (list_any (λ i. id_eq i x) (xs ++ ys))) (are_distinct (xs ++ ys)) h in
    let none : (list_any (λ i. id_eq i x) xs || list_any (λ i. id_eq i x) ys) ≡ false = sym (list_any-append (λ i. id_eq i x) xs ys) ∙ not-true (list_any (λ i. id_eq i x) (xs ++ ys)) olds.0 in
    let parts = or_parts (list_any (λ i. id_eq i x) xs) (list_any (λ i. id_eq i x) ys) none in
    let more : list_any (λ i. id_eq i x) (xs ++ id ∷ ys) ≡ false =
    list_any-append (λ i. id_eq i x) xs (id ∷ ys)
    ∙ or_from (list_any (λ i. id_eq i x) xs) (id_eq id x || list_any (λ i. id_eq i x) ys) parts.0 (or_from (id_eq id x) (list_any (λ i. id_eq i x) ys) (id_eq-turned x id news.0) parts.1) in
    and_from (not (list_any (λ i. id_eq i x) (xs ++ id ∷ ys))) (are_distinct (xs ++ id ∷ ys)) (not_from_false (list_any (λ i. id_eq i x) (xs ++ id ∷ ys)) more) (distinct-insert xs ys id news.1 olds.1)

-- an id without a file is none of the book's
pub record IsNew (b : Book) (id : Id) : Type 0 where
  pub messages : list_any (λ m. id_eq m.id id) b.messages ≡ false
  pub damaged : list_any (λ d. id_eq d.id id) b.damaged ≡ false

pub IsNew-from_stands : (b : Book) (id : Id) → stands b id ≡ false → IsNew b id
IsNew-from_stands b id h =
    let two = or_parts (is_some (message_of b id)) (is_some (damaged_of b id)) h in
    record { messages = sym (find-any (λ m. id_eq m.id id) b.messages) ∙ two.0; damaged = sym (find-any (λ d. id_eq d.id id) b.damaged) ∙ two.1 }

new_ids : (b : Book) (id : Id) → IsNew b id → list_any (λ i. id_eq i id) (all_ids b) ≡ false
new_ids b id h =
    list_any-append (λ i. id_eq i id) (map (λ m. m.id) b.messages) (map (λ d. d.id) b.damaged)
    ∙ or_from (list_any (λ i. id_eq i id) (map (λ m. m.id) b.messages)) (list_any (λ i. id_eq i id) (map (λ d. d.id) b.damaged))
    (any-map (λ i. id_eq i id) (λ m. m.id) b.messages ∙ h.messages) (any-map (λ i. id_eq i id) (λ d. d.id) b.damaged ∙ h.damaged)

distinct-add : (b : Book) (m : Message) → IsNew b m.id → are_distinct (all_ids b) ≡ true → are_distinct (all_ids (add_message b m)) ≡ true
distinct-add b m new h =
    let ms = map (λ (x : Message). x.id) b.messages in
    let ds = map (λ (x : Damaged). x.id) b.damaged in
    ap are_distinct (ap (λ (is : List Id). is ++ ds) (map-append (λ (x : Message). x.id) b.messages (m ∷ [])) ∙ append_assoc ms (m.id ∷ []) ds)
    ∙ distinct-insert ms ds m.id (new_ids b m.id new) h

-- the ids of a list without this id aren't this id
pub not_same : (i j : Id) → id_eq i j ≡ false → i ≡ j → ⊥
not_same i j h e = absurd (true_is_false (sym (id_eq-refl i) ∙ ap (id_eq i) e ∙ h))
  where
    true_is_false : true ≡ false → ⊥
    true_is_false k = cc

-- ---- one message more

one_more : (old damaged t : Bool) → (t ≡ false → (old || damaged) ≡ true) → ((old || (t || false)) || damaged) ≡ true
one_more true damaged t h = refl
one_more false damaged true h = refl
one_more false damaged false h = h refl

-- what stands at a place, or was added to it
stands_more : (b : Book) (m : Message) (place : Place) (id : Id) → ((id_eq m.id id && place_eq place m.place) ≡ false → stands_in (place_eq place) b id ≡ true) → stands_in (place_eq place) (add_message b m) id ≡ true
stands_more b m place id rest =
    let there : List Damaged → Bool = list_any (λ (d : Damaged). id_eq d.id id && place_eq place d.place) in
    ap (λ (x : Bool). x || there b.damaged) (list_any-append (λ (x : Message). id_eq x.id id && place_eq place x.place) b.messages (m ∷ []))
    ∙ one_more (list_any (λ (x : Message). id_eq x.id id && place_eq place x.place) b.messages) (there b.damaged) (id_eq m.id id && place_eq place m.place) rest

pub same_test : (p q : Place) (i j : Id) → p ≡ q → i ≡ j → (id_eq j i && place_eq p q) ≡ true
same_test p q i j e k = and_from (id_eq j i) (place_eq p q) (ap (id_eq j) k ∙ id_eq-refl j) (ap (λ (x : Place). place_eq x q) e ∙ place_eq-refl q)

pub true_false : (t : Bool) → t ≡ true → t ≡ false → ⊥
true_false t h k = absurd (apart (sym h ∙ k))
  where
    apart : true ≡ false → ⊥
    apart e = cc

-- The file of a message whose id has no file yet was added: the files stand for the book with this message.
pub Stands-add : (f g : Files) (b : Book) (m : Message) → stands b m.id ≡ false → IsSameBut (area_of m.place) (name_at m.place m.id) f g → MessageStands g m → Stands f b → Stands g (add_message b m)
Stands-add f g b m fresh same new h =
    let none = IsNew-from_stands b m.id fresh in
    let others : AllByRecursion (λ x. MessageStands f x × (id_eq x.id m.id ≡ false)) b.messages = each-both (MessageStands f) (λ x. id_eq x.id m.id ≡ false) b.messages h.messages (none-each (λ x. id_eq x.id m.id) b.messages none.messages) in
    let damaged : AllByRecursion (λ x. DamagedStands f x × (id_eq x.id m.id ≡ false)) b.damaged = each-both (DamagedStands f) (λ x. id_eq x.id m.id ≡ false) b.damaged h.damaged (none-each (λ x. id_eq x.id m.id) b.damaged none.damaged) in
    record {
      boot = BootStands-kept f g b.generation (λ n. same areas.Boot n boot_not_tmp (λ e. (area_of-IsQueue m.place).not_boot (sym e.0))) h.boot;
      distinct = distinct-add b m none h.distinct;
      messages = each-append (MessageStands g) b.messages (m ∷ []) (each-same (λ x. MessageStands f x × (id_eq x.id m.id ≡ false)) (MessageStands g) b.messages (λ x k. MessageStands-other f g m.place m.id new.place new.id same x (not_same x.id m.id k.1) k.0) others) (new, tt);
      damaged = each-same (λ x. DamagedStands f x × (id_eq x.id m.id ≡ false)) (DamagedStands g) b.damaged (λ x k. DamagedStands-other f g m.place m.id new.place new.id same x (not_same x.id m.id k.1) k.0) damaged;
      nothing_else = λ place id bytes hid hp there. stands_more b m place id (λ apart. h.nothing_else place id bytes hid hp
          (sym (same (area_of place) (name_at place id) (area_of-IsQueue place).not_tmp (λ e.
          true_false (id_eq m.id id && place_eq place m.place) (same_test place m.place id m.id (same_spot place m.place id m.id hp new.place hid new.id e.0 e.1).0 (same_spot place m.place id m.id hp new.place hid new.id e.0 e.1).1) apart)) ∙ there));
    }
