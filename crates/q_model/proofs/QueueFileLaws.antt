-- A queue file says the message that it was written for.
use Rattle.std.proofs.Common.{◌≡◌, ℕ, suc, ◌^◌, ◌<◌, ◌≤◌, Bool, true, eqb, leb, List, [], ◌∷◌, ◌++◌, length, map, Option, Some, None, refl, ap, ◌∙◌, arith, append_assoc, append-nil, inl, inr, not, false, ◌&&◌, if◌then◌else◌}
use Rattle.std.specs.Int.{w64, to_be_bytes}
use Rattle.std.specs.List.{list_all}
use Rattle.std.specs.Option.{option_and_then, option_map_or}
use Rattle.std.specs.Prelude.{◌⊎◌, unwrap_or}
use Rattle.std.proofs.lemmas.Bool.{and_from, and_parts, eq-eqb, eqb-true, le-leb, leb-true, cond-true, or_cases}
use Rattle.std.proofs.lemmas.Nat.{from_be_bytes-to_be_bytes_4, from_be_bytes-to_be_bytes_8}
use Rattle.q_model.specs.QueueFile.{Counts, FileMessage, FileRecipient, queue_file, content_limit, counts_of, is_first, is_other, is_version, within_limits, arrival_of, original_of, sender_of, recipient_of, recipients_at, take_original, take_recipient, body_of}
use Rattle.q_model.specs.QueueFileBytes.{IsFileMessage, AreMarks, counts_body, file_bytes, is_original, is_recipient, original_bytes, recipient_bytes, recipients_bytes}
use Rattle.q_model.specs.Records.{read_record, record_bytes}
use Rattle.q_model.specs.Texts.{is_address}
use Rattle.q_model.proofs.RecordLaws.{found, read_again}

abbrev sizes : ℕ → ℕ → ℕ → Counts
sizes v r c = record { version = v; recipients = r; content = c }

within : (v r c : ℕ) → is_version v ≡ true → 1 ≤ r → r ≤ 50000 → c ≤ content_limit v → within_limits (sizes v r c) ≡ true
within v r c known some few short =
    and_from _ (leb c (content_limit v)) (and_from _ (leb r 50000) (and_from (is_version v) (leb 1 r) known (le-leb 1 r some)) (le-leb r 50000 few)) (le-leb c (content_limit v) short)

version_few : (v : ℕ) → is_version v ≡ true → v ≤ 2
version_few v h = which (or_cases (eqb v 1) (eqb v 2) h)
  where
    which : (eqb v 1 ≡ true) ⊎ (eqb v 2 ≡ true) → v ≤ 2
    which (inl e) = let a = eqb-true v 1 e in omega (arith, a)
    which (inr e) = let a = eqb-true v 2 e in omega (arith, a)

pub limit_few : (v : ℕ) → content_limit v ≤ 40000000
limit_few v = which (is_first v)
  where
    which : (b : Bool) → (if b then 20000000 else 40000000) ≤ 40000000
    which true = omega arith
    which false = omega arith

counts_again : (m : FileMessage) → IsFileMessage m → counts_of (counts_body m) ≡ Some (sizes m.version (length m.recipients) (length m.content))
counts_again m lawful =
    let short : length m.content ≤ 40000000 = omega (arith, lawful.content, limit_few m.version) in
    rw (from_be_bytes-to_be_bytes_4 m.version (omega (arith, version_few m.version lawful.version)), from_be_bytes-to_be_bytes_4 (length m.recipients) (omega (arith, lawful.few)), from_be_bytes-to_be_bytes_4 (length m.content) (omega (arith, short)), within m.version (length m.recipients) (length m.content) lawful.version lawful.some lawful.few lawful.content) refl

arrival_again : (a : ℕ) → a ≤ 999990000000 → arrival_of (to_be_bytes w64 a) ≡ Some a
arrival_again a early = rw (from_be_bytes-to_be_bytes_8 a (omega (arith, early)), le-leb a 999990000000 early) refl

sender_again : (s : Option (List ℕ)) → option_map_or is_address s true ≡ true → sender_of (unwrap_or s []) ≡ Some s
sender_again None h = refl
sender_again (Some []) h = absurd cc
sender_again (Some (b ∷ bytes)) h = cond-true (is_address (b ∷ bytes)) (Some (Some (b ∷ bytes))) None h

pub address_size : (a : List ℕ) → is_address a ≡ true → (3 ≤ length a) × (length a ≤ 254)
address_size a h =
    let four = and_parts _ _ h in
    let three = and_parts _ _ four.0 in
    let two = and_parts _ _ three.0 in
    let one = and_parts (leb 3 (length a)) (leb (length a) 254) two.0 in
    (leb-true 3 (length a) one.0, leb-true (length a) 254 one.1)

sender_size : (s : Option (List ℕ)) → option_map_or is_address s true ≡ true → length (unwrap_or s []) ≤ 254
sender_size None h = omega arith
sender_size (Some a) h = (address_size a h).1

recipient_again : (version mark : ℕ) (r : FileRecipient) → eqb mark 68 ≡ r.marked → is_recipient version r ≡ true → recipient_of r.original (mark ∷ r.address) ≡ Some r
recipient_again version mark r same form =
    let two = and_parts (is_address r.address) (is_original version r.address r.original) form in
    let other = (and_parts (option_map_or (λ a. not (is_first version) && is_address a) r.original true) (is_other r.address r.original) two.1).1 in
    cond-true (is_address r.address && is_other r.address r.original) (Some (record { address = r.address; original = r.original; marked = eqb mark 68 })) None (and_from (is_address r.address) (is_other r.address r.original) two.0 other)
    ∙ ap (λ (b : Bool). Some (record { address = r.address; original = r.original; marked = b })) same

-- an original address is read again
original_again : (version : ℕ) (o : Option (List ℕ)) (rest : List ℕ) → option_map_or (λ a. not (is_first version) && is_address a) o true ≡ true → take_original version (original_bytes version o ++ rest) ≡ found o rest
original_again version o rest form = which (is_first version) o form
  where
    forms : (s : Option (List ℕ)) → option_map_or (λ a. not false && is_address a) s true ≡ true → option_map_or is_address s true ≡ true
    forms None h = refl
    forms (Some a) h = h

    which : (b : Bool) (s : Option (List ℕ)) → option_map_or (λ a. not b && is_address a) s true ≡ true → (if b then Some (None, (if b then [] else record_bytes 79 (unwrap_or s [])) ++ rest) else read_record 79 original_of ((if b then [] else record_bytes 79 (unwrap_or s [])) ++ rest)) ≡ found s rest
    which true None h = refl
    which true (Some a) h = absurd cc
    which false s h = read_again 79 original_of (unwrap_or s []) rest s (omega (arith, sender_size s (forms s h))) (sender_again s (forms s h))

one_again : (version mark : ℕ) (r : FileRecipient) (rest : List ℕ) → eqb mark 68 ≡ r.marked → is_recipient version r ≡ true → take_recipient version (recipient_bytes version mark r ++ rest) ≡ found r rest
one_again version mark r rest same form =
    let two = and_parts (is_address r.address) (is_original version r.address r.original) form in
    let first = (and_parts (option_map_or (λ a. not (is_first version) && is_address a) r.original true) (is_other r.address r.original) two.1).0 in
    let short : length (mark ∷ r.address) < 2 ^ 32 = omega (arith, address_size r.address two.0) in
    ap (take_recipient version) (append_assoc (original_bytes version r.original) (record_bytes 82 (mark ∷ r.address)) rest)
    ∙ ap (option_and_then (λ (o : Option (List ℕ) × List ℕ). read_record 82 (recipient_of o.0) o.1)) (original_again version r.original (record_bytes 82 (mark ∷ r.address) ++ rest) first)
    ∙ read_again 82 (recipient_of r.original) (mark ∷ r.address) rest r short (recipient_again version mark r same form)

pub recipients_again : (version : ℕ) (rs : List FileRecipient) (marks rest : List ℕ) → map (λ b. eqb b 68) marks ≡ map (λ r. r.marked) rs → list_all (is_recipient version) rs ≡ true → recipients_at version (length rs) (recipients_bytes version marks rs ++ rest) ≡ found rs rest
recipients_again version [] [] rest same form = refl
recipients_again version [] (mark ∷ marks) rest same form = absurd cc
recipients_again version (r ∷ rs) [] rest same form = absurd cc
recipients_again version (r ∷ rs) (mark ∷ marks) rest same form =
    let forms = and_parts (is_recipient version r) (list_all (is_recipient version) rs) form in
    let first : eqb mark 68 ≡ r.marked = cc in
    let others : map (λ b. eqb b 68) marks ≡ map (λ (x : FileRecipient). x.marked) rs = cc in
    ap (recipients_at version (suc (length rs))) (append_assoc (recipient_bytes version mark r) (recipients_bytes version marks rs) rest)
    ∙ ap (option_and_then (λ (o : FileRecipient × List ℕ). option_and_then (λ (others : List FileRecipient × List ℕ). Some (o.0 ∷ others.0, others.1)) (recipients_at version (length rs) o.1))) (one_again version mark r (recipients_bytes version marks rs ++ rest) first forms.0)
    ∙ ap (option_and_then (λ (others : List FileRecipient × List ℕ). Some (r ∷ others.0, others.1))) (recipients_again version rs marks rest others forms.1)

regroup : (a b c d e f : List ℕ) → (a ++ b ++ c) ++ d ++ e ++ f ≡ a ++ (b ++ (c ++ (d ++ (e ++ (f ++ [])))))
regroup a b c d e f = simp (append_assoc, append-nil)

same_length : (n : ℕ) (body : List ℕ) → length body ≡ n → body_of n body ≡ Some body
same_length n body same = cond-true (eqb (length body) n) (Some body) None (eq-eqb (length body) n same)

-- the file of a message says this message, whichever bytes its marks have
pub queue_file_again : (m : FileMessage) (marks : List ℕ) → IsFileMessage m → AreMarks marks m → queue_file (file_bytes m marks) ≡ Some m
unfolding queue_file file_bytes
queue_file_again m marks lawful same =
    let c = counts_body m in
    let t = to_be_bytes w64 m.arrival in
    let s = unwrap_or m.sender [] in
    let end = record_bytes 69 [] ++ [] in
    let n = record_bytes 78 m.content ++ end in
    let r = recipients_bytes m.version marks m.recipients ++ n in
    let few : length (counts_body m) < 2 ^ 32 = omega arith in
    let eight : length t < 2 ^ 32 = omega arith in
    let short : length s < 2 ^ 32 = omega (arith, sender_size m.sender lawful.sender) in
    let most : length m.content < 2 ^ 32 = omega (arith, lawful.content, limit_few m.version) in
    ap queue_file (regroup (record_bytes 67 c) (record_bytes 84 t) (record_bytes 83 s) (recipients_bytes m.version marks m.recipients) (record_bytes 78 m.content) (record_bytes 69 []))
    ∙ rw (
      read_again 67 counts_of c (record_bytes 84 t ++ (record_bytes 83 s ++ r)) (sizes m.version (length m.recipients) (length m.content)) few (counts_again m lawful),
      read_again 84 arrival_of t (record_bytes 83 s ++ r) m.arrival eight (arrival_again m.arrival lawful.arrival),
      read_again 83 sender_of s r m.sender short (sender_again m.sender lawful.sender),
      recipients_again m.version m.recipients marks n same lawful.addresses,
      read_again 78 (body_of (length m.content)) m.content end m.content most (same_length (length m.content) m.content refl),
    ) refl
