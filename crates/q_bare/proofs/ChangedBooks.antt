-- A book of bare messages changes as the book does.
use Rattle.std.proofs.Common.{◌≡◌, Bool, true, false, cond, not, List, [], ◌∷◌, map, ◌++◌, refl, sym, ap, ◌∙◌, if◌then◌else◌}
use Rattle.std.specs.Prelude.{filter}
use Rattle.q_bare.proofs.RecipientLaws.{message_twice}
use Rattle.q_bare.specs.Bare.{bare, bare_book, bare_message}
use Rattle.q_model.specs.declared.id.Id.{Id}
use Rattle.q_model.specs.declared.rows.Place.{Place}
use Rattle.q_model.specs.Book.{Book}
use Rattle.q_model.specs.BookChanges.{add_message, change_message, move_message, remove_message}
use Rattle.q_model.specs.Ids.{id_eq}
use Rattle.q_model.specs.Ledger.{Ledger}
use Rattle.q_model.specs.Lives.{firm_failures}
use Rattle.q_model.specs.Message.{Message}

-- the book with these messages
abbrev pub of_messages : Book → List Message → Book
of_messages b ms = record b { messages = ms }

messages_twice : (ms : List Message) → map bare_message (map bare_message ms) ≡ map bare_message ms
messages_twice [] = refl
messages_twice (m ∷ ms) =
    ap (λ x. x ∷ map bare_message (map bare_message ms)) (message_twice m)
    ∙ ap (λ xs. bare_message m ∷ xs) (messages_twice ms)

pub twice : (l : Ledger) → bare (bare l) ≡ bare l
twice l = ap (λ ms. record (bare l) { book = of_messages l.book ms }) (messages_twice l.book.messages)

changed_step : (b : Bool) (f : Message → Message) → ((m : Message) → f (bare_message m) ≡ bare_message (f m)) → (m : Message) → (if b then f (bare_message m) else bare_message m) ≡ bare_message (if b then f m else m)
changed_step true f h m = h m
changed_step false f h m = refl

changed : (id : Id) (f : Message → Message) → ((m : Message) → f (bare_message m) ≡ bare_message (f m)) → (ms : List Message) →
    map (λ (m : Message). if id_eq m.id id then f m else m) (map bare_message ms) ≡ map bare_message (map (λ (m : Message). if id_eq m.id id then f m else m) ms)
changed id f h [] = refl
changed id f h (m ∷ ms) =
    ap (λ x. x ∷ map (λ (y : Message). if id_eq y.id id then f y else y) (map bare_message ms)) (changed_step (id_eq m.id id) f h m)
    ∙ ap (λ xs. bare_message (if id_eq m.id id then f m else m) ∷ xs) (changed id f h ms)

pub change_bare : (b : Book) (id : Id) (f : Message → Message) → ((m : Message) → f (bare_message m) ≡ bare_message (f m)) → change_message (bare_book b) id f ≡ bare_book (change_message b id f)
change_bare b id f h = ap (of_messages b) (changed id f h b.messages)

pub move_bare : (b : Book) (id : Id) (place : Place) → move_message (bare_book b) id place ≡ bare_book (move_message b id place)
move_bare b id place = change_bare b id (λ (m : Message). record m { place = place }) (λ m. refl)

removed_step : (b : Bool) (m : Message) (xs ys : List Message) → xs ≡ map bare_message ys → cond b (bare_message m ∷ xs) xs ≡ map bare_message (cond b (m ∷ ys) ys)
removed_step true m xs ys h = ap (λ zs. bare_message m ∷ zs) h
removed_step false m xs ys h = h

removed : (id : Id) (ms : List Message) → filter (λ m. not (id_eq m.id id)) (map bare_message ms) ≡ map bare_message (filter (λ m. not (id_eq m.id id)) ms)
removed id [] = refl
removed id (m ∷ ms) = removed_step (not (id_eq m.id id)) m (filter (λ x. not (id_eq x.id id)) (map bare_message ms)) (filter (λ x. not (id_eq x.id id)) ms) (removed id ms)

pub remove_bare : (b : Book) (id : Id) → remove_message (bare_book b) id ≡ bare_book (remove_message b id)
remove_bare b id = ap (of_messages b) (removed id b.messages)

added : (ms : List Message) (m : Message) → map bare_message (ms ++ m ∷ []) ≡ map bare_message ms ++ bare_message m ∷ []
added [] m = refl
added (x ∷ xs) m = ap (λ ys. bare_message x ∷ ys) (added xs m)

-- of a message that is added only what its content leaves is kept
pub add_bare : (b : Book) (m n : Message) → bare_message m ≡ bare_message n → bare_book (add_message (bare_book b) m) ≡ bare_book (add_message b n)
add_bare b m n h = ap (of_messages b) (
    added (map bare_message b.messages) m
    ∙ ap (λ xs. xs ++ bare_message m ∷ []) (messages_twice b.messages)
    ∙ ap (λ x. map bare_message b.messages ++ x ∷ []) h
    ∙ sym (added b.messages n))

firm : (ms : List Message) → map firm_failures (map bare_message ms) ≡ map bare_message (map firm_failures ms)
firm [] = refl
firm (m ∷ ms) = ap (λ xs. bare_message (firm_failures m) ∷ xs) (firm ms)

pub firm_bare : (b : Book) → of_messages b (map firm_failures (map bare_message b.messages)) ≡ of_messages b (map bare_message (map firm_failures b.messages))
firm_bare b = ap (of_messages b) (firm b.messages)
