-- Files that stand for a book, when a message's file moves or goes.
use Rattle.std.proofs.Common.{◌≡◌, ℕ, Bool, true, false, not, ◌&&◌, ◌||◌, List, [], ◌∷◌, ◌++◌, length, map, filter, is_some, Some, None, if◌then◌else◌, refl, sym, ap, subst, ◌∙◌, inl, inr}
use Rattle.std.specs.List.{AllByRecursion, list_any}
use Rattle.std.specs.Option.{option_map_or}
use Rattle.std.proofs.lemmas.Bool.{and_from, and_left, and_parts, not-true, not_from_false, or_cases, or_from, or_parts, or_left, or_right, false_from_ne_true}
use Rattle.std.proofs.lemmas.List.Folds.{list_any-append}
use Rattle.q_model.specs.declared.id.Id.{Id}
use Rattle.q_model.specs.declared.rows.Place.{Place}
use Rattle.q_model.specs.Book.{Book, Damaged, message_of, stands_in}
use Rattle.q_model.specs.BookChanges.{move_message, remove_message}
use Rattle.q_model.specs.FailureLog.{failures_of, log_records}
use Rattle.q_model.specs.FilesStand.{DamagedStands, file_message, MessageStands, Stands}
use Rattle.q_model.specs.QueueFileBytes.{IsFileOf}
use Rattle.q_model.specs.Ids.{are_distinct, id_eq}
use Rattle.q_model.specs.IdTexts.{id_text, IsId}
use Rattle.q_model.specs.Message.{Message}
use Rattle.q_model.specs.SpoolFiles.{file_at, Files, IsPlace}
use Rattle.q_model.specs.Places.{is_corrupt, place_eq}
use Rattle.q_model.specs.declared.spot.Area.TheVariants as areas
use Rattle.q_model.proofs.EachLaws.{any-map, each-both, each-map, each-same, each-unmap, find-any, none-each}
use Rattle.q_model.proofs.IdLaws.{id_eq-true}
use Rattle.q_model.proofs.SpotLaws.{place_eq-refl, place_eq-true}
use Rattle.q_model.proofs.StandChanges.{any-found, any-same, changed, distinct-behind, distinct-front, IsOnly, map-ids, only_one, Stands-message}
use Rattle.q_model.proofs.StandLaws.{BootStands-kept, DamagedStands-kept, MessageStands-kept, not_same, true_false}

-- only files of this id changed, among those that are looked at
pub record ChangesOnly (id : Id) (f g : Files) : Type 0 where
  pub boot : (n : List ℕ) → g areas.Boot n ≡ f areas.Boot n
  pub files : (place : Place) (i : Id) → IsPlace place → IsId i → (i ≡ id → ⊥) → file_at g place i ≡ file_at f place i
  pub logs : (i : Id) → IsId i → (i ≡ id → ⊥) → g areas.Bounce (id_text i) ≡ f areas.Bounce (id_text i)

pub other_message : (f g : Files) (id : Id) → ChangesOnly id f g → (m : Message) → (m.id ≡ id → ⊥) → MessageStands f m → MessageStands g m
other_message f g id only m apart h = MessageStands-kept f g m (only.files m.place m.id h.place h.id apart) (only.logs m.id h.id apart) h

pub other_damaged : (f g : Files) (id : Id) → ChangesOnly id f g → (d : Damaged) → (id_eq d.id id ≡ false) → DamagedStands f d → DamagedStands g d
other_damaged f g id only d apart h = DamagedStands-kept f g d (only.files d.place d.id h.place h.id (not_same d.id id apart)) h

damaged-kept : (f g : Files) (b : Book) (id : Id) (m : Message) → ChangesOnly id f g → message_of b id ≡ Some m → Stands f b → AllByRecursion (DamagedStands g) b.damaged
damaged-kept f g b id m only found h =
    let ms = map (λ (x : Message). x.id) b.messages in
    let ds = map (λ (x : Damaged). x.id) b.damaged in
    let none = distinct-behind ms ds id h.distinct (any-found b.messages id m found) in
    let others = each-both (DamagedStands f) (λ d. id_eq d.id id ≡ false) b.damaged h.damaged (each-unmap (λ i. id_eq i id ≡ false) (λ (d : Damaged). d.id) b.damaged (none-each (λ i. id_eq i id) ds none)) in
    each-same (λ d. DamagedStands f d × (id_eq d.id id ≡ false)) (DamagedStands g) b.damaged (λ d k. other_damaged f g id only d k.1 k.0) others

-- ---- a message goes

kept_only : {A : Type 0} (P Q : A → Type 0) (keep : A → Bool) (x : A) (xs : List A) (t : Bool) → keep x ≡ t → (keep x ≡ true → P x → Q x) → P x → AllByRecursion Q (filter keep xs) → AllByRecursion Q (if t then x ∷ filter keep xs else filter keep xs)
kept_only P Q keep x xs true e step h rest = (step e h, rest)
kept_only P Q keep x xs false e step h rest = rest

each-filter : {A : Type 0} (P Q : A → Type 0) (keep : A → Bool) (xs : List A) → ((x : A) → keep x ≡ true → P x → Q x) → AllByRecursion P xs → AllByRecursion Q (filter keep xs)
each-filter P Q keep [] step h = tt
each-filter P Q keep (x ∷ xs) step h = kept_only P Q keep x xs (keep x) refl (step x) h.0 (each-filter P Q keep xs step h.1)

one_left : {A : Type 0} (test keep : A → Bool) (x : A) (xs : List A) (t : Bool) → keep x ≡ t → (test x ≡ true → keep x ≡ true) → list_any test (filter keep xs) ≡ list_any test xs → list_any test (if t then x ∷ filter keep xs else filter keep xs) ≡ (test x || list_any test xs)
one_left test keep x xs true e step rest = ap (λ (t : Bool). test x || t) rest
one_left test keep x xs false e step rest =
    let no : test x ≡ false = false_from_ne_true (test x) (λ k. true_false (keep x) (step k) e) in
    rest ∙ sym (ap (λ (t : Bool). t || list_any test xs) no)

any-filter : {A : Type 0} (test keep : A → Bool) (xs : List A) → ((x : A) → test x ≡ true → keep x ≡ true) → list_any test (filter keep xs) ≡ list_any test xs
any-filter test keep [] step = refl
any-filter test keep (x ∷ xs) step = one_left test keep x xs (keep x) refl (step x) (any-filter test keep xs step)

none_left : (keep : Message → Bool) (id : Id) (x : Message) (xs : List Message) (t : Bool) → id_eq x.id id ≡ false → list_any (λ i. id_eq i id) (map (λ m. m.id) (filter keep xs)) ≡ false → list_any (λ i. id_eq i id) (map (λ m. m.id) (if t then x ∷ filter keep xs else filter keep xs)) ≡ false
none_left keep id x xs true apart rest = or_from (id_eq x.id id) (list_any (λ i. id_eq i id) (map (λ m. m.id) (filter keep xs))) apart rest
none_left keep id x xs false apart rest = rest

none-filter : (keep : Message → Bool) (id : Id) (xs : List Message) → list_any (λ i. id_eq i id) (map (λ m. m.id) xs) ≡ false → list_any (λ i. id_eq i id) (map (λ m. m.id) (filter keep xs)) ≡ false
none-filter keep id [] h = refl
none-filter keep id (x ∷ xs) h =
    let two = or_parts (id_eq x.id id) (list_any (λ i. id_eq i id) (map (λ (m : Message). m.id) xs)) h in
    none_left keep id x xs (keep x) two.0 (none-filter keep id xs two.1)

distinct_left : (keep : Message → Bool) (x : Message) (xs : List Message) (ds : List Id) (t : Bool) → list_any (λ i. id_eq i x.id) (map (λ m. m.id) (filter keep xs) ++ ds) ≡ false → are_distinct (map (λ m. m.id) (filter keep xs) ++ ds) ≡ true → are_distinct (map (λ m. m.id) (if t then x ∷ filter keep xs else filter keep xs) ++ ds) ≡ true
distinct_left keep x xs ds true none rest = and_from (not (list_any (λ i. id_eq i x.id) (map (λ m. m.id) (filter keep xs) ++ ds))) (are_distinct (map (λ m. m.id) (filter keep xs) ++ ds)) (not_from_false (list_any (λ i. id_eq i x.id) (map (λ m. m.id) (filter keep xs) ++ ds)) none) rest
distinct_left keep x xs ds false none rest = rest

distinct-filter : (keep : Message → Bool) (xs : List Message) (ds : List Id) → are_distinct (map (λ m. m.id) xs ++ ds) ≡ true → are_distinct (map (λ m. m.id) (filter keep xs) ++ ds) ≡ true
distinct-filter keep [] ds h = h
distinct-filter keep (x ∷ xs) ds h =
    let all = map (λ (m : Message). m.id) xs in
    let two = and_parts (not (list_any (λ i. id_eq i x.id) (all ++ ds))) (are_distinct (all ++ ds)) h in
    let none : (list_any (λ i. id_eq i x.id) all || list_any (λ i. id_eq i x.id) ds) ≡ false = sym (list_any-append (λ i. id_eq i x.id) all ds) ∙ not-true (list_any (λ i. id_eq i x.id) (all ++ ds)) two.0 in
    let parts = or_parts (list_any (λ i. id_eq i x.id) all) (list_any (λ i. id_eq i x.id) ds) none in
    let left = map (λ (m : Message). m.id) (filter keep xs) in
    let fewer : list_any (λ i. id_eq i x.id) (left ++ ds) ≡ false = list_any-append (λ i. id_eq i x.id) left ds ∙ or_from (list_any (λ i. id_eq i x.id) left) (list_any (λ i. id_eq i x.id) ds) (none-filter keep x.id xs parts.0) parts.1 in
    distinct_left keep x xs ds (keep x) fewer (distinct-filter keep xs ds two.1)

-- The file of a message is gone: the files stand for the book without the message. Its logs may stay, or be gone.
pub Stands-remove : (f g : Files) (b : Book) (id : Id) (m : Message) → message_of b id ≡ Some m → ChangesOnly id f g → ((place : Place) → IsPlace place → file_at g place id ≡ None) → Stands f b → Stands g (remove_message b id)
Stands-remove f g b id m found only gone h = record {
  boot = BootStands-kept f g b.generation only.boot h.boot;
  distinct = distinct-filter (λ x. not (id_eq x.id id)) b.messages (map (λ d. d.id) b.damaged) h.distinct;
  messages = each-filter (MessageStands f) (MessageStands g) (λ x. not (id_eq x.id id)) b.messages (λ x keep k. other_message f g id only x (not_same x.id id (not-true (id_eq x.id id) keep)) k) h.messages;
  damaged = damaged-kept f g b id m only found h;
  nothing_else = λ place i bytes hi hp there. by place i bytes hi hp there (id_eq i id) refl;
}
  where
    by : (place : Place) (i : Id) (bytes : List ℕ) → IsId i → IsPlace place → file_at g place i ≡ Some bytes → (t : Bool) → id_eq i id ≡ t → stands_in (place_eq place) (remove_message b id) i ≡ true
    by place i bytes hi hp there true e = absurd (none_some bytes (sym (gone place hp) ∙ ap (file_at g place) (sym (id_eq-true i id e)) ∙ there))
      where
        none_some : (x : List ℕ) → None ≡ Some x → ⊥
        none_some x k = cc
    by place i bytes hi hp there false e =
        let old = h.nothing_else place i bytes hi hp (sym (only.files place i hp hi (not_same i id e)) ∙ there) in
        ap (λ (t : Bool). t || list_any (λ (d : Damaged). id_eq d.id i && place_eq place d.place) b.damaged)
        (any-filter (λ (x : Message). id_eq x.id i && place_eq place x.place) (λ x. not (id_eq x.id id)) b.messages (λ x k.
        let here : x.id ≡ i = id_eq-true x.id i (and_parts (id_eq x.id i) (place_eq place x.place) k).0 in
        not_from_false (id_eq x.id id) (ap (λ (j : Id). id_eq j id) here ∙ e)))
        ∙ old

-- ---- a message moves

abbrev put_at : Place → Message → Message
put_at place m = record m { place = place }

-- who has this id and place: for other ids as before
same_elsewhere : (id i : Id) (q place : Place) (x : Message) (t : Bool) → id_eq i id ≡ false → id_eq x.id id ≡ t → (id_eq x.id i && place_eq place (if t then put_at q x else x).place) ≡ (id_eq x.id i && place_eq place x.place)
same_elsewhere id i q place x true apart e =
    let here : x.id ≡ id = id_eq-true x.id id e in
    let no : id_eq x.id i ≡ false = false_from_ne_true (id_eq x.id i) (λ k. true_false (id_eq i id) (ap (λ (j : Id). id_eq j id) (sym (id_eq-true x.id i k)) ∙ e) apart) in
    and_left (id_eq x.id i) (place_eq place q) no ∙ sym (and_left (id_eq x.id i) (place_eq place x.place) no)
same_elsewhere id i q place x false apart e = refl

moved_id : (id : Id) (q : Place) (x : Message) (t : Bool) → (if t then put_at q x else x).id ≡ x.id
moved_id id q x true = refl
moved_id id q x false = refl

moved-elsewhere : (id i : Id) (q place : Place) (x : Message) → id_eq i id ≡ false → (id_eq (changed id (put_at q) x).id i && place_eq place (changed id (put_at q) x).place) ≡ (id_eq x.id i && place_eq place x.place)
moved-elsewhere id i q place x apart = ap (λ (j : Id). id_eq j i && place_eq place (changed id (put_at q) x).place) (moved_id id q x (id_eq x.id id)) ∙ same_elsewhere id i q place x (id_eq x.id id) apart refl

-- the message that moved stands at its new place
arrived : (id : Id) (q : Place) (x : Message) (t : Bool) → id_eq x.id id ≡ t → t ≡ true → (id_eq (if t then put_at q x else x).id id && place_eq q (if t then put_at q x else x).place) ≡ true
arrived id q x true e k = and_from (id_eq x.id id) (place_eq q q) e (place_eq-refl q)
arrived id q x false e k = absurd (true_false false k refl)

pub found-any : {A : Type 0} (p q : A → Bool) (xs : List A) → ((x : A) → p x ≡ true → q x ≡ true) → list_any p xs ≡ true → list_any q xs ≡ true
found-any p q [] step h = h
found-any p q (x ∷ xs) step h =
    elim (or_cases (p x) (list_any p xs) h) [
      | inl here ↦ or_left (q x) (list_any q xs) (step x here)
      | inr later ↦ or_right (q x) (list_any q xs) (found-any p q xs step later)
    ]

one_moved : (f g : Files) (id : Id) (q : Place) (m x : Message) → ChangesOnly id f g → MessageStands g (put_at q m) → (t : Bool) → id_eq x.id id ≡ t → MessageStands f x → IsOnly id m x → MessageStands g (if t then put_at q x else x)
one_moved f g id q m x only new true e h is = subst (λ (y : Message). MessageStands g (put_at q y)) (sym (is e)) new
one_moved f g id q m x only new false e h is = other_message f g id only x (not_same x.id id e) h

-- the file of a message that moved, with its log as before
moved_message : (f g : Files) (id : Id) (q : Place) (m : Message) (bytes : List ℕ) → m.id ≡ id → IsPlace q → is_corrupt q ≡ false → file_at f m.place id ≡ Some bytes → file_at g q id ≡ Some bytes → g areas.Bounce (id_text id) ≡ f areas.Bounce (id_text id) → MessageStands f m → MessageStands g (put_at q m)
moved_message f g id q m bytes here hq sound was now log h =
    let same : h.bytes ≡ bytes = same_some h.bytes bytes (sym h.there ∙ ap (file_at f m.place) here ∙ was) in
    let logs : g areas.Bounce (id_text m.id) ≡ f areas.Bounce (id_text m.id) = ap (λ (i : Id). g areas.Bounce (id_text i)) here ∙ log ∙ ap (λ (i : Id). f areas.Bounce (id_text i)) (sym here) in
    record {
      id = h.id;
      place = hq;
      not_corrupt = sound;
      bytes = bytes;
      there = ap (file_at g q) here ∙ now;
      reads = subst (λ (xs : List ℕ). IsFileOf xs (file_message m)) same h.reads;
      failures = h.failures ∙ sym (ap (λ o. failures_of (length m.recipients) (option_map_or log_records o [])) logs);
    }
  where
    same_some : (x y : List ℕ) → Some x ≡ Some y → x ≡ y
    same_some x y e = cc

-- The file of a message stands at another place, and nowhere else: the files stand for the book in which it moved.
pub Stands-move : (f g : Files) (b : Book) (id : Id) (q : Place) (m : Message) (bytes : List ℕ) → message_of b id ≡ Some m → IsPlace q → is_corrupt q ≡ false → ChangesOnly id f g
    → file_at f m.place id ≡ Some bytes → file_at g q id ≡ Some bytes → ((place : Place) → IsPlace place → (place ≡ q → ⊥) → file_at g place id ≡ None) → g areas.Bounce (id_text id) ≡ f areas.Bounce (id_text id)
    → Stands f b → Stands g (move_message b id q)
Stands-move f g b id q m bytes found hq sound only was now gone log h =
    let old = Stands-message f b id m h found in
    let ms = map (λ (x : Message). x.id) b.messages in
    let ds = map (λ (x : Damaged). x.id) b.damaged in
    let new = moved_message f g id q m bytes old.1 hq sound was now log old.0 in
    let is = only_one b.messages id m (distinct-front ms ds h.distinct) found in
    record {
      boot = BootStands-kept f g b.generation only.boot h.boot;
      distinct = ap (λ (js : List Id). are_distinct (js ++ ds)) (map-ids id (put_at q) (λ x. refl) b.messages) ∙ h.distinct;
      messages = each-map (λ x. MessageStands f x × IsOnly id m x) (MessageStands g) (changed id (put_at q)) b.messages (λ x k. one_moved f g id q m x only new (id_eq x.id id) refl k.0 k.1) (each-both (MessageStands f) (IsOnly id m) b.messages h.messages is);
      damaged = damaged-kept f g b id m only found h;
      nothing_else = λ place i bytes hi hp there. by place i bytes hi hp there (id_eq i id) refl (place_eq place q) refl;
    }
  where
    by : (place : Place) (i : Id) (xs : List ℕ) → IsId i → IsPlace place → file_at g place i ≡ Some xs → (t : Bool) → id_eq i id ≡ t → (u : Bool) → place_eq place q ≡ u → stands_in (place_eq place) (move_message b id q) i ≡ true
    by place i xs hi hp there true e true k =
        let here : i ≡ id = id_eq-true i id e in
        let to : place ≡ q = place_eq-true place q k in
        let some : list_any (λ (x : Message). id_eq x.id id) b.messages ≡ true = sym (find-any (λ x. id_eq x.id id) b.messages) ∙ ap is_some found in
        let there_now : list_any (λ (x : Message). id_eq x.id id && place_eq q x.place) (map (changed id (put_at q)) b.messages) ≡ true =
        any-map (λ (x : Message). id_eq x.id id && place_eq q x.place) (changed id (put_at q)) b.messages
        ∙ found-any (λ x. id_eq x.id id) (λ x. id_eq (changed id (put_at q) x).id id && place_eq q (changed id (put_at q) x).place) b.messages (λ x j. arrived id q x (id_eq x.id id) refl j) some in
        subst (λ (j : Id). stands_in (place_eq place) (move_message b id q) j ≡ true) (sym here)
        (subst (λ (p : Place). stands_in (place_eq p) (move_message b id q) id ≡ true) (sym to)
        (or_left (list_any (λ (x : Message). id_eq x.id id && place_eq q x.place) (map (changed id (put_at q)) b.messages)) (list_any (λ (d : Damaged). id_eq d.id id && place_eq q d.place) b.damaged) there_now))
    by place i xs hi hp there true e false k =
        absurd (none_some xs (sym (gone place hp (λ same. true_false (place_eq place q) (ap (λ (p : Place). place_eq p q) same ∙ place_eq-refl q) k)) ∙ ap (file_at g place) (sym (id_eq-true i id e)) ∙ there))
      where
        none_some : (x : List ℕ) → None ≡ Some x → ⊥
        none_some x j = cc
    by place i xs hi hp there false e u k =
        ap (λ (t : Bool). t || list_any (λ (d : Damaged). id_eq d.id i && place_eq place d.place) b.damaged)
        (any-map (λ (x : Message). id_eq x.id i && place_eq place x.place) (changed id (put_at q)) b.messages
        ∙ any-same (λ (x : Message). id_eq (changed id (put_at q) x).id i && place_eq place (changed id (put_at q) x).place) (λ (x : Message). id_eq x.id i && place_eq place x.place) b.messages (λ x. moved-elsewhere id i q place x e))
        ∙ h.nothing_else place i xs hi hp (sym (only.files place i hp hi (not_same i id e)) ∙ there)
