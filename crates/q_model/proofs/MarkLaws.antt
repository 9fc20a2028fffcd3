-- A byte written over a mark of a queue file changes this mark, and nothing else that the file says.
use Rattle.std.proofs.Common.{◌≡◌, ℕ, zero, suc, ◌+◌, ◌-◌, ◌<◌, Bool, true, false, eqb, List, [], ◌∷◌, ◌++◌, length, map, set, take, drop, Some, refl, sym, ap, ◌∙◌, arith, add-one, append_assoc, sum_by}
use Rattle.std.specs.List.{list_all}
use Rattle.std.specs.Option.{option_map_or}
use Rattle.std.specs.Prelude.{if◌then◌else◌, Option, slice_get, unwrap_or}
use Rattle.std.proofs.lemmas.List.{length-append, set-append_right, set_split}
use Rattle.std.proofs.lemmas.List.Sums.{sum_by-cons}
use Rattle.q_model.specs.QueueFile.{FileMessage, FileRecipient, is_first, queue_file}
use Rattle.q_model.specs.QueueFileBytes.{IsFileMessage, AreMarks, file_bytes, first_at, head_bytes, is_recipient, mark_at, mark_recipient, original_bytes, original_size, recipient_bytes, recipient_size, recipients_bytes, with_mark_byte}
use Rattle.q_model.specs.Records.{record_bytes}
use Rattle.q_model.proofs.QueueFileLaws.{queue_file_again}

abbrev pub record_size : ℕ → FileRecipient → ℕ
record_size version r = recipient_size version r

-- what stands before the record with a mark
abbrev before : ℕ → List FileRecipient → ℕ → ℕ
before version rs i = option_map_or (λ (r : FileRecipient). original_size version r.original) (slice_get rs i) 0

length-original : (version : ℕ) (o : Option (List ℕ)) → length (original_bytes version o) ≡ original_size version o
length-original version o = which (is_first version)
  where
    which : (b : Bool) → length (if b then [] else record_bytes 79 (unwrap_or o [])) ≡ (if b then 0 else 5 + length (unwrap_or o []))
    which true = refl
    which false = omega arith

pub length-recipient : (version mark : ℕ) (r : FileRecipient) → length (recipient_bytes version mark r) ≡ record_size version r
length-recipient version mark r = omega (arith, length-append (original_bytes version r.original) (record_bytes 82 (mark ∷ r.address)), length-original version r.original)

-- one byte written over another
pub written_byte : (xs : List ℕ) (at v : ℕ) → at < length xs → take at xs ++ (v ∷ []) ++ drop (at + 1) xs ≡ set xs at v
written_byte xs at v h = rw (add-one, append_assoc) (sym (set_split xs at v h))

-- a write behind a part leaves this part
set_behind : (xs ys : List ℕ) (place at v : ℕ) → place ≡ length xs + at → set (xs ++ ys) place v ≡ xs ++ set ys at v
set_behind xs ys place at v is =
    let behind : place - length xs ≡ at = omega arith in
    set-append_right xs ys (length xs) place v refl (omega arith) ∙ ap (λ (k : ℕ). xs ++ set ys k v) behind

four_parts : (a b c d : List ℕ) → ((a ++ b) ++ c) ++ d ≡ a ++ (b ++ (c ++ d))
four_parts a b c d = simp append_assoc

-- the mark byte of a recipient, among the records of the recipients
set_among : (version : ℕ) (rs : List FileRecipient) (marks rest : List ℕ) (i v : ℕ) → i < length rs → length marks ≡ length rs → set (recipients_bytes version marks rs ++ rest) ((sum_by (record_size version) (take i rs) + before version rs i) + 5) v ≡ recipients_bytes version (set marks i v) rs ++ rest
set_among version [] marks rest i v h len = absurd (omega arith)
set_among version (r ∷ rs) [] rest i v h len = absurd (omega arith)
set_among version (r ∷ rs) (mark ∷ marks) rest zero v h len =
    let o = original_bytes version r.original in
    let others = recipients_bytes version marks rs in
    let at = (sum_by (record_size version) (take zero (r ∷ rs)) + before version (r ∷ rs) zero) + 5 in
    let place : at ≡ length o + 5 = omega (arith, length-original version r.original) in
    ap (λ (xs : List ℕ). set xs at v) (four_parts o (record_bytes 82 (mark ∷ r.address)) others rest)
    ∙ set_behind o (record_bytes 82 (mark ∷ r.address) ++ (others ++ rest)) at 5 v place
    ∙ sym (four_parts o (record_bytes 82 (v ∷ r.address)) others rest)
set_among version (r ∷ rs) (mark ∷ marks) rest (suc i) v h len =
    let one = recipient_bytes version mark r in
    let sum = sum_by (record_size version) (take i rs) in
    let place : (sum_by (record_size version) (take (suc i) (r ∷ rs)) + before version rs i) + 5 ≡ length one + ((sum + before version rs i) + 5) = omega (arith, sum_by-cons (record_size version) r (take i rs), length-recipient version mark r) in
    ap (λ (xs : List ℕ). set xs ((sum_by (record_size version) (take (suc i) (r ∷ rs)) + before version rs i) + 5) v) (append_assoc one (recipients_bytes version marks rs) rest)
    ∙ set_behind one (recipients_bytes version marks rs ++ rest) ((sum_by (record_size version) (take (suc i) (r ∷ rs)) + before version rs i) + 5) ((sum + before version rs i) + 5) v place
    ∙ ap (λ (xs : List ℕ). one ++ xs) (set_among version rs marks rest i v (omega arith) (omega arith))
    ∙ sym (append_assoc one (recipients_bytes version (set marks i v) rs) rest)

head_size : (m : FileMessage) → length (head_bytes m) ≡ first_at m
head_size m = omega arith

split_head : (a b c d : List ℕ) → a ++ b ++ c ++ d ≡ a ++ (b ++ (c ++ d))
split_head a b c d = simp append_assoc

set_in_file : (m : FileMessage) (marks : List ℕ) (i v : ℕ) → i < length m.recipients → length marks ≡ length m.recipients → set (file_bytes m marks) (mark_at m i) v ≡ file_bytes m (set marks i v)
unfolding file_bytes
set_in_file m marks i v h len =
    let n = record_bytes 78 m.content in
    let e = record_bytes 69 [] in
    let sum = sum_by (record_size m.version) (take i m.recipients) in
    ap (λ (xs : List ℕ). set xs (mark_at m i) v) (split_head (head_bytes m) (recipients_bytes m.version marks m.recipients) n e)
    ∙ set_behind (head_bytes m) (recipients_bytes m.version marks m.recipients ++ (n ++ e)) (mark_at m i) ((sum + before m.version m.recipients i) + 5) v (omega (arith, head_size m))
    ∙ ap (λ (xs : List ℕ). head_bytes m ++ xs) (set_among m.version m.recipients marks (n ++ e) i v h len)
    ∙ sym (split_head (head_bytes m) (recipients_bytes m.version (set marks i v) m.recipients) n e)

within_records : (version : ℕ) (rs : List FileRecipient) (marks : List ℕ) (i : ℕ) → i < length rs → length marks ≡ length rs → (sum_by (record_size version) (take i rs) + before version rs i) + 5 < length (recipients_bytes version marks rs)
within_records version [] marks i h len = absurd (omega arith)
within_records version (r ∷ rs) [] i h len = absurd (omega arith)
within_records version (r ∷ rs) (mark ∷ marks) zero h len = omega (arith, length-append (recipient_bytes version mark r) (recipients_bytes version marks rs), length-recipient version mark r)
within_records version (r ∷ rs) (mark ∷ marks) (suc i) h len =
    omega (arith, length-append (recipient_bytes version mark r) (recipients_bytes version marks rs), length-recipient version mark r, sum_by-cons (record_size version) r (take i rs), within_records version rs marks i (omega arith) (omega arith))

-- a mark byte is within its file
pub mark_within : (m : FileMessage) (marks : List ℕ) (i : ℕ) → i < length m.recipients → length marks ≡ length m.recipients → mark_at m i < length (file_bytes m marks)
unfolding file_bytes
mark_within m marks i h len =
    let n = record_bytes 78 m.content in
    let e = record_bytes 69 [] in
    omega (arith, head_size m, within_records m.version m.recipients marks i h len, ap length (split_head (head_bytes m) (recipients_bytes m.version marks m.recipients) n e), length-append (head_bytes m) (recipients_bytes m.version marks m.recipients ++ (n ++ e)), length-append (recipients_bytes m.version marks m.recipients) (n ++ e))

-- a byte over a mark byte, as a write to the file leaves it
pub mark_written : (m : FileMessage) (marks : List ℕ) (i v : ℕ) → i < length m.recipients → length marks ≡ length m.recipients → take (mark_at m i) (file_bytes m marks) ++ (v ∷ []) ++ drop (mark_at m i + 1) (file_bytes m marks) ≡ file_bytes m (set marks i v)
mark_written m marks i v h len = written_byte (file_bytes m marks) (mark_at m i) v (mark_within m marks i h len) ∙ set_in_file m marks i v h len

-- ---- the message with another mark

marks_agree : (rs : List FileRecipient) (marks : List ℕ) (i v : ℕ) → map (λ b. eqb b 68) marks ≡ map (λ r. r.marked) rs → map (λ b. eqb b 68) (set marks i v) ≡ map (λ r. r.marked) (with_mark_byte rs i (eqb v 68))
marks_agree [] [] i v same = refl
marks_agree [] (mark ∷ marks) i v same = absurd cc
marks_agree (r ∷ rs) [] i v same = absurd cc
marks_agree (r ∷ rs) (mark ∷ marks) zero v same =
    let others : map (λ b. eqb b 68) marks ≡ map (λ (x : FileRecipient). x.marked) rs = cc in
    ap (λ (bs : List Bool). eqb v 68 ∷ bs) others
marks_agree (r ∷ rs) (mark ∷ marks) (suc i) v same =
    let first : eqb mark 68 ≡ r.marked = cc in
    let others : map (λ b. eqb b 68) marks ≡ map (λ (x : FileRecipient). x.marked) rs = cc in
    let more = marks_agree rs marks i v others in
    cc

pub AreMarks-set : (m : FileMessage) (marks : List ℕ) (i v : ℕ) → AreMarks marks m → AreMarks (set marks i v) (mark_recipient m i (eqb v 68))
AreMarks-set m marks i v same = marks_agree m.recipients marks i v same

with_mark-length : (rs : List FileRecipient) (i : ℕ) (b : Bool) → length (with_mark_byte rs i b) ≡ length rs
with_mark-length [] i b = refl
with_mark-length (r ∷ rs) zero b = refl
with_mark-length (r ∷ rs) (suc i) b = ap suc (with_mark-length rs i b)

with_mark-bytes : (version : ℕ) (rs : List FileRecipient) (marks : List ℕ) (i : ℕ) (b : Bool) → recipients_bytes version marks (with_mark_byte rs i b) ≡ recipients_bytes version marks rs
with_mark-bytes version [] marks i b = refl
with_mark-bytes version (r ∷ rs) [] i b = refl
with_mark-bytes version (r ∷ rs) (mark ∷ marks) zero b = refl
with_mark-bytes version (r ∷ rs) (mark ∷ marks) (suc i) b = ap (λ (xs : List ℕ). recipient_bytes version mark r ++ xs) (with_mark-bytes version rs marks i b)

with_mark-addresses : (version : ℕ) (rs : List FileRecipient) (i : ℕ) (b : Bool) → list_all (is_recipient version) (with_mark_byte rs i b) ≡ list_all (is_recipient version) rs
with_mark-addresses version [] i b = refl
with_mark-addresses version (r ∷ rs) zero b = refl
with_mark-addresses version (r ∷ rs) (suc i) b = rw (with_mark-addresses version rs i b) refl

-- what the records hold is the same, whichever marks are set
pub IsFileMessage-mark : (m : FileMessage) (i : ℕ) (b : Bool) → IsFileMessage m → IsFileMessage (mark_recipient m i b)
IsFileMessage-mark m i b h = record {
  version = h.version;
  sender = h.sender;
  arrival = h.arrival;
  some = omega (arith, h.some, with_mark-length m.recipients i b);
  few = omega (arith, h.few, with_mark-length m.recipients i b);
  addresses = with_mark-addresses m.version m.recipients i b ∙ h.addresses;
  content = h.content;
}

pub file_bytes-mark : (m : FileMessage) (marks : List ℕ) (i : ℕ) (b : Bool) → file_bytes (mark_recipient m i b) marks ≡ file_bytes m marks
unfolding file_bytes
file_bytes-mark m marks i b = rw (with_mark-length m.recipients i b, with_mark-bytes m.version m.recipients marks i b) refl

pub AreMarks-length : (m : FileMessage) (marks : List ℕ) → AreMarks marks m → length marks ≡ length m.recipients
AreMarks-length m marks same = lengths marks m.recipients same
  where
    lengths : (xs : List ℕ) (rs : List FileRecipient) → map (λ b. eqb b 68) xs ≡ map (λ r. r.marked) rs → length xs ≡ length rs
    lengths [] [] e = refl
    lengths [] (r ∷ rs) e = absurd cc
    lengths (x ∷ xs) [] e = absurd cc
    lengths (x ∷ xs) (r ∷ rs) e =
        let others : map (λ b. eqb b 68) xs ≡ map (λ (q : FileRecipient). q.marked) rs = cc in
        ap suc (lengths xs rs others)

-- a byte over a mark byte changes this mark alone: it is set where the byte is `D`
pub queue_file-marked : (m : FileMessage) (marks : List ℕ) (i v : ℕ) → IsFileMessage m → AreMarks marks m → i < length m.recipients →
    queue_file (take (mark_at m i) (file_bytes m marks) ++ (v ∷ []) ++ drop (mark_at m i + 1) (file_bytes m marks)) ≡ Some (mark_recipient m i (eqb v 68))
queue_file-marked m marks i v lawful same h =
    ap queue_file (mark_written m marks i v h (AreMarks-length m marks same) ∙ sym (file_bytes-mark m (set marks i v) i (eqb v 68)))
    ∙ queue_file_again (mark_recipient m i (eqb v 68)) (set marks i v) (IsFileMessage-mark m i (eqb v 68) lawful) (AreMarks-set m marks i v same)
