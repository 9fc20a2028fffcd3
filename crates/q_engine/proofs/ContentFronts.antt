-- The content of a message stands in its file behind its recipients.
use Rattle.std.proofs.Common.{◌≡◌, ◌+◌, ◌-◌, ◌≤◌, ◌++◌, ◌∷◌, ◌∙◌, [], append_assoc, ap, arith, drop, length, List, min, None, Option, refl, Some, subst, sum_by, sym, take, take-take, ℕ}
use Rattle.std.specs.Option.{IfSome, option_map}
use Rattle.std.proofs.Math.Seq.{drop-append-add, take-length}
use Rattle.std.proofs.lemmas.List.{length-append, length-drop, take-append-le, take_min}
use Rattle.std.proofs.lemmas.List.Sums.{sum_by-cons}
use Rattle.std.proofs.lemmas.Option.{same_Some}
use Rattle.q_host.specs.Reads.{IsRead}
use Rattle.q_message.specs.FileHeads.{head_of, IsHead}
use Rattle.q_model.specs.QueueFile.{FileMessage, FileRecipient, queue_file}
use Rattle.q_model.specs.QueueFileBytes.{content_at, file_bytes, first_at, head_bytes, IsFileOf, recipient_bytes, recipient_size, recipients_bytes}
use Rattle.q_model.specs.Records.{record_bytes}
use Rattle.q_model.specs.Values.{FileHead}
use Rattle.q_model.proofs.MarkLaws.{AreMarks-length, length-recipient}
use Rattle.q_model.proofs.QueueFileLaws.{queue_file_again}
use Rattle.q_engine.specs.BounceTexts.{IsContentFront}

records_size : (version : ℕ) (rs : List FileRecipient) (marks : List ℕ) → length marks ≡ length rs → length (recipients_bytes version marks rs) ≡ sum_by (recipient_size version) rs
records_size version [] [] len = refl
records_size version [] (mark ∷ marks) len = absurd (omega arith)
records_size version (r ∷ rs) [] len = absurd (omega arith)
records_size version (r ∷ rs) (mark ∷ marks) len =
    omega (arith, length-append (recipient_bytes version mark r) (recipients_bytes version marks rs), length-recipient version mark r, sum_by-cons (recipient_size version) r rs, records_size version rs marks (omega arith))

head_size : (m : FileMessage) → length (head_bytes m) ≡ first_at m
head_size m = omega arith

content_behind : (m : FileMessage) (marks : List ℕ) → length marks ≡ length m.recipients → drop (content_at m) (file_bytes m marks) ≡ m.content ++ record_bytes 69 []
unfolding file_bytes
content_behind m marks len =
    let front = head_bytes m ++ recipients_bytes m.version marks m.recipients in
    let n = record_bytes 78 m.content in
    let e = record_bytes 69 [] in
    let all : sum_by (recipient_size m.version) (take (length m.recipients) m.recipients) ≡ sum_by (recipient_size m.version) m.recipients = ap (sum_by (recipient_size m.version)) (take-length m.recipients) in
    let at : content_at m ≡ length front + 5 = omega (arith, all, length-append (head_bytes m) (recipients_bytes m.version marks m.recipients), head_size m, records_size m.version m.recipients marks len) in
    ap (drop (content_at m)) (append_assoc front n e)
    ∙ ap (λ (k : ℕ). drop k (front ++ (n ++ e))) at
    ∙ drop-append-add front (n ++ e) 5

-- the head that was read is that of the message
pub head_is : (bytes : List ℕ) (head : FileHead) (m : FileMessage) → IsHead head bytes → IsFileOf bytes m → head_of m ≡ head
head_is bytes head m is file =
    let read : queue_file bytes ≡ Some m = ap queue_file file.written ∙ queue_file_again m file.marks file.lawful file.agree in
    same_Some (head_of m) head (sym (ap (option_map head_of) read) ∙ is)

-- what was read at the content's place is its front
pub front_read : (bytes : List ℕ) (head : FileHead) (old new : List ℕ) (n : ℕ) (m : FileMessage) → IsHead head bytes → length old ≡ min head.content_len 50000 → IsRead bytes head.content_at old new n → IsFileOf bytes m → take n new ≡ take 50000 m.content
front_read bytes head old new n m is size read file =
    let same = head_is bytes head m is file in
    let place : content_at m ≡ head.content_at = ap (λ (x : FileHead). x.content_at) same in
    let long : length m.content ≡ head.content_len = ap (λ (x : FileHead). x.content_len) same in
    let rest : drop head.content_at bytes ≡ m.content ++ record_bytes 69 [] =
    ap (λ (k : ℕ). drop k bytes) (sym place) ∙ ap (drop (content_at m)) file.written ∙ content_behind m file.marks (AreMarks-length m file.marks file.agree) in
    let left : length bytes - head.content_at ≡ length m.content + length (record_bytes 69 []) = sym (length-drop head.content_at bytes) ∙ ap (λ (xs : List ℕ). length xs) rest ∙ length-append m.content (record_bytes 69 []) in
    let count : n ≡ min 50000 (length m.content) = grind (arith, read.count, left, size, long) in
    read.bytes ∙ ap (take n) rest ∙ take-append-le n m.content (record_bytes 69 []) (grind (arith, count)) ∙ ap (λ (k : ℕ). take k m.content) count ∙ take_min 50000 m.content

-- the same of a file that may be there
pub front_of : (o : Option (List ℕ)) (head : FileHead) (at : ℕ) (old new front : List ℕ) (n : ℕ) → at ≡ head.content_at → IfSome o (IsHead head) → IfSome o (λ file. IsRead file at old new n) → length old ≡ min head.content_len 50000 → front ≡ take n new → IfSome o (IsContentFront front)
front_of None head at old new front n place is read size e = tt
front_of (Some bytes) head at old new front n place is read size e = λ m file. e ∙ front_read bytes head old new n m is size (subst (λ (k : ℕ). IsRead bytes k old new n) place read) file

-- what was read into the front of a buffer
pub buffer_front : (n len : ℕ) (new rest : List ℕ) → n ≤ len → n ≤ length new → take n (take len (new ++ rest)) ≡ take n new
buffer_front n len new rest short within = take-take n len (new ++ rest) short ∙ take-append-le n new rest within
