-- What is found in a book of bare messages is what is found in the book.
use Rattle.std.proofs.Common.{◌≡◌, Bool, true, false, cond, List, [], ◌∷◌, map, ◌++◌, Option, Some, None, option_map, refl, ap, ◌∙◌}
use Rattle.std.specs.List.{cons_option, list_any}
use Rattle.std.specs.Option.{option_and_then, option_map_or}
use Rattle.std.specs.Prelude.{◌&&◌, ◌||◌, filter, filter_map, find, is_some}
use Rattle.q_bare.specs.Bare.{bare_book, bare_message}
use Rattle.q_model.specs.declared.id.Id.{Id}
use Rattle.q_model.specs.declared.rows.Place.{Place}
use Rattle.q_model.specs.Book.{Book, Damaged, damaged_of, ids_at, message_of, stands, stands_in}
use Rattle.q_model.specs.Ids.{id_eq}
use Rattle.q_model.specs.Message.{Message}
use Rattle.q_model.specs.Scans.{deferred_name, deferred_names}

find_step : (b : Bool) (x : Message) (o : Option Message) → cond b (Some (bare_message x)) (option_map bare_message o) ≡ option_map bare_message (cond b (Some x) o)
find_step true x o = refl
find_step false x o = refl

found : (id : Id) (ms : List Message) → find (λ m. id_eq m.id id) (map bare_message ms) ≡ option_map bare_message (find (λ m. id_eq m.id id) ms)
found id [] = refl
found id (m ∷ ms) = ap (cond (id_eq m.id id) (Some (bare_message m))) (found id ms) ∙ find_step (id_eq m.id id) m (find (λ x. id_eq x.id id) ms)

pub message_bare : (b : Book) (id : Id) → message_of (bare_book b) id ≡ option_map bare_message (message_of b id)
message_bare b id = found id b.messages

-- what is asked of a bare message
pub asked : {A : Type 0} (f g : Message → A) (d : A) → ((m : Message) → f (bare_message m) ≡ g m) → (b : Book) (id : Id) → option_map_or f (message_of (bare_book b) id) d ≡ option_map_or g (message_of b id) d
asked {A} f g d h b id = ap (λ o. option_map_or f o d) (message_bare b id) ∙ on (message_of b id)
  where
    on : (o : Option Message) → option_map_or f (option_map bare_message o) d ≡ option_map_or g o d
    on None = refl
    on (Some m) = h m

-- what is decided by a bare message
pub decided : {A : Type 0} (f g : Message → Option A) → ((m : Message) → f (bare_message m) ≡ g m) → (b : Book) (id : Id) → option_and_then f (message_of (bare_book b) id) ≡ option_and_then g (message_of b id)
decided {A} f g h b id = ap (option_and_then f) (message_bare b id) ∙ on (message_of b id)
  where
    on : (o : Option Message) → option_and_then f (option_map bare_message o) ≡ option_and_then g o
    on None = refl
    on (Some m) = h m

some_bare : (o : Option Message) → is_some (option_map bare_message o) ≡ is_some o
some_bare None = refl
some_bare (Some m) = refl

pub has_message_bare : (b : Book) (id : Id) → is_some (message_of (bare_book b) id) ≡ is_some (message_of b id)
has_message_bare b id = ap (λ o. is_some o) (message_bare b id) ∙ some_bare (message_of b id)

pub stands_bare : (b : Book) (id : Id) → stands (bare_book b) id ≡ stands b id
stands_bare b id = ap (λ there. there || is_some (damaged_of b id)) (has_message_bare b id)

any_bare : (p : Message → Bool) → ((m : Message) → p (bare_message m) ≡ p m) → (ms : List Message) → list_any p (map bare_message ms) ≡ list_any p ms
any_bare p h [] = refl
any_bare p h (m ∷ ms) = ap (λ b. b || list_any p (map bare_message ms)) (h m) ∙ ap (λ b. p m || b) (any_bare p h ms)

pub stands_in_bare : (place : Place → Bool) (b : Book) (id : Id) → stands_in place (bare_book b) id ≡ stands_in place b id
stands_in_bare place b id =
    ap (λ there. there || list_any (λ (d : Damaged). id_eq d.id id && place d.place) b.damaged)
    (any_bare (λ m. id_eq m.id id && place m.place) (λ m. refl) b.messages)

ids_step : (b : Bool) (m : Message) (xs ys : List Message) → map (λ (x : Message). x.id) xs ≡ map (λ (x : Message). x.id) ys → map (λ (x : Message). x.id) (cond b (bare_message m ∷ xs) xs) ≡ map (λ (x : Message). x.id) (cond b (m ∷ ys) ys)
ids_step true m xs ys h = ap (λ is. m.id ∷ is) h
ids_step false m xs ys h = h

ids_here : (place : Place → Bool) (ms : List Message) → map (λ (m : Message). m.id) (filter (λ m. place m.place) (map bare_message ms)) ≡ map (λ (m : Message). m.id) (filter (λ m. place m.place) ms)
ids_here place [] = refl
ids_here place (m ∷ ms) = ids_step (place m.place) m (filter (λ x. place x.place) (map bare_message ms)) (filter (λ x. place x.place) ms) (ids_here place ms)

pub ids_bare : (place : Place → Bool) (b : Book) → ids_at place (bare_book b) ≡ ids_at place b
ids_bare place b = ap (λ ids. ids ++ map (λ (d : Damaged). d.id) (filter (λ (d : Damaged). place d.place) b.damaged)) (ids_here place b.messages)

names_here : (ms : List Message) → filter_map (λ (m : Message). deferred_name m.place m.id) (map bare_message ms) ≡ filter_map (λ (m : Message). deferred_name m.place m.id) ms
names_here [] = refl
names_here (m ∷ ms) = ap (cons_option (deferred_name m.place m.id)) (names_here ms)

pub names_bare : (b : Book) → deferred_names (bare_book b) ≡ deferred_names b
names_bare b = ap (λ names. names ++ filter_map (λ (d : Damaged). deferred_name d.place d.id) b.damaged) (names_here b.messages)
