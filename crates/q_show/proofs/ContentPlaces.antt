-- Where the content of a message stands in its file.
use Rattle.std.proofs.Common.{◌≡◌, ◌∙◌, ◌&&◌, ◌*◌, ◌+◌, ◌<◌, ◌≤◌, ◌^◌, ◌++◌, ◌∷◌, [], Bool, List, None, Option, Some, ℕ, ap, append_assoc, arith, drop, eqb, false, length, map, not, refl, suc, sum_by, sym, take, true}
use Rattle.std.specs.Int.{to_be_bytes, w32}
use Rattle.std.specs.List.{list_all}
use Rattle.std.specs.Option.{option_map_or}
use Rattle.std.specs.Prelude.{if◌then◌else◌, unwrap_or}
use Rattle.std.proofs.Math.Seq.{drop-append_seam}
use Rattle.std.proofs.lemmas.Bool.{and_parts}
use Rattle.std.proofs.lemmas.List.{length-append, take_all, take_at}
use Rattle.std.proofs.lemmas.List.Sums.{sum_by-cons}
use Rattle.q_model.specs.QueueFile.{content_limit, FileMessage, FileRecipient, is_first, is_other}
use Rattle.q_model.specs.QueueFileBytes.{AreMarks, content_at, file_bytes, first_at, head_bytes, IsFileMessage, IsFileOf, is_original, is_recipient, original_size, recipient_bytes, recipient_size, recipients_bytes}
use Rattle.q_model.specs.Records.{record_bytes}
use Rattle.q_model.specs.Texts.{is_address}
use Rattle.q_model.proofs.MarkLaws.{length-recipient}
use Rattle.q_model.proofs.QueueFileLaws.{address_size}

-- ---- sizes

records_size : (version : ℕ) (rs : List FileRecipient) (marks : List ℕ) → length marks ≡ length rs → length (recipients_bytes version marks rs) ≡ sum_by (recipient_size version) rs
records_size version [] [] len = refl
records_size version [] (mark ∷ marks) len = refl
records_size version (r ∷ rs) [] len = absurd (omega (arith, len))
records_size version (r ∷ rs) (mark ∷ marks) len =
    let others : length marks ≡ length rs = omega (arith, len) in
    omega (arith, one, sum_by-cons (recipient_size version) r rs, records_size version rs marks others)
  where
    one : length (recipients_bytes version (mark ∷ marks) (r ∷ rs)) ≡ recipient_size version r + length (recipients_bytes version marks rs)
    one = omega (arith, length-append (recipient_bytes version mark r) (recipients_bytes version marks rs), length-recipient version mark r)

short_original : (version : ℕ) (address : List ℕ) (o : Option (List ℕ)) → is_original version address o ≡ true → original_size version o ≤ 259
short_original version address o is = by (is_first version)
  where
    few : (o : Option (List ℕ)) → is_original version address o ≡ true → length (unwrap_or o []) ≤ 254
    few None h = omega arith
    few (Some a) h =
        let first = and_parts (not (is_first version) && is_address a) (is_other address (Some a)) h in
        (address_size a (and_parts (not (is_first version)) (is_address a) first.0).1).1

    by : (t : Bool) → (if t then 0 else 5 + length (unwrap_or o [])) ≤ 259
    by true = omega arith
    by false = omega (arith, few o is)

short_records : (version : ℕ) (rs : List FileRecipient) → list_all (is_recipient version) rs ≡ true → sum_by (recipient_size version) rs ≤ 519 * length rs
short_records version [] h = omega arith
short_records version (r ∷ rs) h =
    let two = and_parts (is_recipient version r) (list_all (is_recipient version) rs) h in
    let form = and_parts (is_address r.address) (is_original version r.address r.original) two.0 in
    omega (arith, sum_by-cons (recipient_size version) r rs, (address_size r.address form.0).1, short_original version r.address r.original form.1, short_records version rs two.1)

most_content : (version n : ℕ) → n ≤ content_limit version → n ≤ 40000000
most_content version n h = by (is_first version) h
  where
    by : (t : Bool) → n ≤ (if t then 20000000 else 40000000) → n ≤ 40000000
    by true h = omega (arith, h)
    by false h = h

all_records : (m : FileMessage) → content_at m ≡ first_at m + sum_by (recipient_size m.version) m.recipients + 5
all_records m = ap (λ (rs : List FileRecipient). first_at m + sum_by (recipient_size m.version) rs + 5) (take_all (length m.recipients) m.recipients (omega arith))

short_sender : (o : Option (List ℕ)) → option_map_or is_address o true ≡ true → length (unwrap_or o []) ≤ 254
short_sender None h = omega arith
short_sender (Some a) h = (address_size a h).1

-- the place of the content, and its end, are far from the last offset
pub content_near : (m : FileMessage) → IsFileMessage m → content_at m + length m.content < 2 ^ 64
content_near m is = omega (arith, all_records m, short_sender m.sender is.sender, is.few, short_records m.version m.recipients is.addresses, most_content m.version (length m.content) is.content)

-- ---- the place

marks_count : (marks : List ℕ) (m : FileMessage) → AreMarks marks m → length marks ≡ length m.recipients
marks_count marks m agree =
    sym (count (λ (b : ℕ). eqb b 68) marks) ∙ ap length agree ∙ count (λ (r : FileRecipient). r.marked) m.recipients
  where
    count : {X : Type 0} (h : X → Bool) (xs : List X) → length (map h xs) ≡ length xs
    count h [] = refl
    count h (x ∷ xs) = ap suc (count h xs)

regroup : (h r a c e : List ℕ) → h ++ r ++ (a ++ c) ++ e ≡ (h ++ (r ++ a)) ++ (c ++ e)
regroup h r a c e = simp append_assoc

head_size : (m : FileMessage) → length (head_bytes m) ≡ first_at m
head_size m = omega arith

content_bytes : (m : FileMessage) (marks : List ℕ) → length marks ≡ length m.recipients → drop (content_at m) (file_bytes m marks) ≡ m.content ++ record_bytes 69 []
unfolding file_bytes
content_bytes m marks len =
    let a : List ℕ = 78 ∷ to_be_bytes w32 (length m.content) in
    let rs = recipients_bytes m.version marks m.recipients in
    let front = head_bytes m ++ (rs ++ a) in
    let size : content_at m ≡ length front = omega (arith, all_records m, length-append (head_bytes m) (rs ++ a), length-append rs a, head_size m, records_size m.version m.recipients marks len) in
    ap (drop (content_at m)) (regroup (head_bytes m) rs a m.content (record_bytes 69 [])) ∙ ap (λ (n : ℕ). drop n (front ++ (m.content ++ record_bytes 69 []))) size
    ∙ drop-append_seam front (m.content ++ record_bytes 69 [])

-- the content of a file
pub content_is : (bytes : List ℕ) (m : FileMessage) → IsFileOf bytes m → take (length m.content) (drop (content_at m) bytes) ≡ m.content
content_is bytes m is =
    ap (λ (xs : List ℕ). take (length m.content) (drop (content_at m) xs)) is.written
    ∙ ap (take (length m.content)) (content_bytes m is.marks (marks_count is.marks m is.agree))
    ∙ take_at m.content (record_bytes 69 []) (length m.content) refl
