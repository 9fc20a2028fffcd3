-- What is found in a bare ledger is what is found in the ledger.
use Rattle.std.proofs.Common.{◌≡◌, ℕ, ◌-◌, List, [], ◌∷◌, length, map, Option, Some, None, option_map, refl, sym, ap, ◌∙◌}
use Rattle.std.proofs.Math.Path.{fun_ext}
use Rattle.std.proofs.lemmas.List.{length-map}
use Rattle.std.specs.Option.{option_map_or}
use Rattle.q_bare.specs.Bare.{bare, bare_book, bare_message, bare_recipient}
use Rattle.q_ledger.proofs.ListLaws.{find-map}
use Rattle.q_model.specs.declared.entry.Entry.{Entry}
use Rattle.q_model.specs.declared.id.Id.{Id}
use Rattle.q_model.specs.declared.rows.Admitted.{Admitted}
use Rattle.q_model.specs.Book.{Book, message_of}
use Rattle.q_model.specs.Ids.{id_eq}
use Rattle.q_model.specs.Ledger.{Ledger}
use Rattle.q_model.specs.Memory.{admitted_of, unread_count, unread_of}
use Rattle.q_model.specs.Message.{Message, Recipient}

pub message_bare : (b : Book) (id : Id) → message_of (bare_book b) id ≡ option_map bare_message (message_of b id)
message_bare b id = find-map (λ (m : Message). id_eq m.id id) bare_message b.messages

-- what is asked of a bare message
pub asked_bare : {A : Type 0} (f g : Message → A) (d : A) → ((m : Message) → f (bare_message m) ≡ g m) → (b : Book) (id : Id) → option_map_or f (message_of (bare_book b) id) d ≡ option_map_or g (message_of b id) d
asked_bare {A} f g d h b id = ap (λ o. option_map_or f o d) (message_bare b id) ∙ on (message_of b id)
  where
    on : (o : Option Message) → option_map_or f (option_map bare_message o) d ≡ option_map_or g o d
    on None = refl
    on (Some m) = h m

unread_count_bare : (l : Ledger) (a : Admitted) → unread_count (bare l) a ≡ unread_count l a
unread_count_bare l a = asked_bare (λ m. length m.recipients - a.unread) (λ m. length m.recipients - a.unread) 0 (λ m. ap (λ n. n - a.unread) (length-map m.recipients bare_recipient)) l.book a.id

pub unread_bare : (l : Ledger) (id : Id) → unread_of (bare l) id ≡ unread_of l id
unread_bare l id = ap (λ (f : Admitted → ℕ). option_map_or f (admitted_of l id) 0) (fun_ext (unread_count_bare l))

-- ---- a bare ledger is its own

recipients_twice : (rs : List Recipient) → map bare_recipient (map bare_recipient rs) ≡ map bare_recipient rs
recipients_twice [] = refl
recipients_twice (r ∷ rs) = ap (λ xs. bare_recipient r ∷ xs) (recipients_twice rs)

message_twice : (m : Message) → bare_message (bare_message m) ≡ bare_message m
message_twice m = ap (λ (rs : List Recipient). record (bare_message m) { recipients = rs }) (recipients_twice m.recipients)

messages_twice : (ms : List Message) → map bare_message (map bare_message ms) ≡ map bare_message ms
messages_twice [] = refl
messages_twice (m ∷ ms) = ap (λ x. x ∷ map bare_message (map bare_message ms)) (message_twice m) ∙ ap (λ xs. bare_message m ∷ xs) (messages_twice ms)

pub bare_twice : (l : Ledger) → bare (bare l) ≡ bare l
bare_twice l = ap (λ (ms : List Message). record (bare l) { book = record l.book { messages = ms } }) (messages_twice l.book.messages)

-- a ledger with the book and the past entries of a bare one is bare
pub bare_same : (b l : Ledger) → bare b ≡ b → l.book ≡ b.book → l.past ≡ b.past → bare l ≡ l
bare_same b l h book past =
    ap (λ (k : Book). record l { book = bare_book k; past = [] }) book
    ∙ ap (λ (k : Ledger). record l { book = k.book; past = k.past }) h
    ∙ ap (λ (k : Book). record l { book = k; past = b.past }) (sym book)
    ∙ ap (λ (es : List Entry). record l { past = es }) (sym past)

-- a ledger of bare messages without past entries is bare
pub bare_from : (l : Ledger) → map bare_message l.book.messages ≡ l.book.messages → [] ≡ l.past → bare l ≡ l
bare_from l messages past =
    ap (λ (ms : List Message). record l { book = record l.book { messages = ms }; past = [] }) messages ∙ ap (λ (es : List Entry). record l { past = es }) past
