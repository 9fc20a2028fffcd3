-- The records of a new message, one behind the other, are its queue file.
use Rattle.std.proofs.Common.{◌≡◌, ℕ, ◌≤◌, Bool, true, false, List, [], ◌∷◌, ◌++◌, length, map, replicate, flat_map, refl, sym, ap, ◌∙◌, arith}
use Rattle.std.specs.List.{list_all}
use Rattle.std.specs.Option.{option_map_or}
use Rattle.std.specs.Prelude.{◌&&◌, ◌==◌}
use Rattle.std.proofs.lemmas.Bool.{and_from, and_parts}
use Rattle.std.proofs.lemmas.List.{length-map}
use Rattle.q_model.specs.QueueFile.{FileRecipient}
use Rattle.q_model.specs.QueueFileBytes.{file_bytes, IsFileOf, is_recipient, recipients_bytes}
use Rattle.q_model.specs.Records.{record_bytes}
use Rattle.q_model.specs.Texts.{is_address}
use Rattle.q_model.specs.Values.{Head, Receiver}
use Rattle.q_message.specs.NewFile.{are_addresses, head_text, is_receiver, new_message, recipient_record}

-- a recipient to whom nothing was delivered
abbrev fresh : Receiver → FileRecipient
fresh r = record { address = r.address; original = r.original; marked = false }

pub fresh_records : (to : List Receiver) → flat_map recipient_record to ≡ recipients_bytes 2 (replicate (length to) 80) (map fresh to)
fresh_records [] = refl
fresh_records (r ∷ to) = ap (λ (xs : List ℕ). recipient_record r ++ xs) (fresh_records to)

fresh_marks : (to : List Receiver) → map (λ b. b == 68) (replicate (length to) 80) ≡ map (λ (r : FileRecipient). r.marked) (map fresh to)
fresh_marks [] = refl
fresh_marks (r ∷ to) = ap (λ (bs : List Bool). false ∷ bs) (fresh_marks to)

-- the form of the addresses, and that they are others, are what a file can say
both : (a b c : Bool) → a && b ≡ true → c ≡ true → a && (b && c) ≡ true
both true true true p q = refl
both true false c p q = absurd cc
both false b c p q = absurd cc
both true true false p q = absurd cc

fresh_addresses : (to : List Receiver) → list_all are_addresses to ≡ true → list_all is_receiver to ≡ true → list_all (is_recipient 2) (map fresh to) ≡ true
fresh_addresses [] forms others = refl
fresh_addresses (r ∷ to) forms others =
    let f = and_parts (are_addresses r) (list_all are_addresses to) forms in
    let o = and_parts (is_receiver r) (list_all is_receiver to) others in
    and_from (is_recipient 2 (fresh r)) (list_all (is_recipient 2) (map fresh to)) (both (is_address r.address) (option_map_or is_address r.original true) (is_receiver r) f.0 o.0) (fresh_addresses to f.1 o.1)

pub file_written : (head : Head) (to : List Receiver) (content out : List ℕ) → out ≡ head_text head (length to) (length content) ++ flat_map recipient_record to ++ record_bytes 78 content ++ record_bytes 69 [] → out ≡ file_bytes (new_message head to content) (replicate (length to) 80)
unfolding file_bytes
file_written head to content out e =
    let n = record_bytes 78 content in
    let end = record_bytes 69 [] in
    e
    ∙ ap (λ (k : ℕ). head_text head k (length content) ++ flat_map recipient_record to ++ n ++ end) (sym (length-map to fresh))
    ∙ ap (λ (r : List ℕ). head_text head (length (map fresh to)) (length content) ++ r ++ n ++ end) (fresh_records to)

pub file_reads : (head : Head) (to : List Receiver) (content out : List ℕ) → head.arrival ≤ 999990000000 → 1 ≤ length to → length to ≤ 50000 → length content ≤ 40000000
    → option_map_or is_address head.sender true ≡ true → list_all are_addresses to ≡ true → list_all is_receiver to ≡ true → out ≡ file_bytes (new_message head to content) (replicate (length to) 80) → IsFileOf out (new_message head to content)
file_reads head to content out arrival some few short sender forms others written = record {
  marks = replicate (length to) 80;
  lawful = record {
    version = refl;
    sender = sender;
    arrival = arrival;
    some = omega (arith, some, length-map to fresh);
    few = omega (arith, few, length-map to fresh);
    addresses = fresh_addresses to forms others;
    content = short;
  };
  agree = fresh_marks to;
  written = written;
}

-- the same of the steps in which it was written
pub file_of : (head : Head) (to : List Receiver) (content : List ℕ) (r n : ℕ) (o1 o2 o3 out : List ℕ) → r ≡ length to → n ≡ length content → o1 ≡ head_text head r n → o2 ≡ o1 ++ flat_map recipient_record to → o3 ≡ o2 ++ record_bytes 78 content ++ record_bytes 69 [] → out ≡ o3 → out ≡ file_bytes (new_message head to content) (replicate (length to) 80)
file_of head to content r n o1 o2 o3 out er en e1 e2 e3 e =
    let tail = λ (xs : List ℕ). xs ++ record_bytes 78 content ++ record_bytes 69 [] in
    let front : o1 ≡ head_text head (length to) (length content) = e1 ∙ ap (λ (k : ℕ). head_text head k n) er ∙ ap (head_text head (length to)) en in
    file_written head to content out (e ∙ e3 ∙ ap tail (e2 ∙ ap (λ (xs : List ℕ). xs ++ flat_map recipient_record to) front))
