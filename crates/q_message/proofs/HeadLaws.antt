-- What is found of a file's records is what the file says, and what breaks the form is where the form breaks.
use Rattle.std.proofs.Common.{◌≡◌, ℕ, zero, suc, ◌+◌, ◌-◌, ◌<◌, ◌≤◌, Bool, true, false, ◌&&◌, not, leb, if◌then◌else◌, List, [], ◌∷◌, ◌++◌, length, take, drop, sum_by, Option, Some, None, Result, Ok, Err, refl, sym, ap, subst, ◌∙◌, append_assoc, arith, count_by}
use Rattle.std.specs.Option.{IfSome, option_and_then, option_map, option_map_or}
use Rattle.std.specs.Prelude.{IfOk, unwrap_or}
use Rattle.std.proofs.lemmas.Bool.{and_from, and_parts, le-leb, leb-true, leb-false}
use Rattle.std.proofs.lemmas.List.{drop-drop, length-drop, length-take-le, take_all}
use Rattle.std.proofs.lemmas.List.Sums.{sum_by-cons}
use Rattle.q_model.specs.Lists.{has_none}
use Rattle.q_model.specs.QueueFile.{Counts, FileMessage, FileRecipient, arrival_of, body_of, counts_of, queue_file, recipients_at, sender_of}
use Rattle.q_model.specs.QueueFileBytes.{content_at, recipient_size}
use Rattle.q_model.specs.Records.{read_record}
use Rattle.q_model.specs.Values.{FileHead, Head}
use Rattle.q_model.proofs.RecordLaws.{found}
use Rattle.q_message.specs.declared.error.MessageError.{MessageError}
use Rattle.q_message.specs.declared.error.MessageError.TheVariants.{NotAMessage}
use Rattle.q_message.specs.Causes.{Gives}
use Rattle.q_message.specs.FileHeads.{Expected, behind, counts_first, fault_at, head_of, recipient_records, records_of}
use Rattle.q_message.specs.Fronts.{begins_record, front_body}
use Rattle.q_message.specs.Readings.{Start, content_from, end_from, fault_in, front_recipient, head_from, marks_counted, recipients_from, start_from, start_size, wanted_at, with_first, ◌>>=◌}
use Rattle.q_message.proofs.RecipientReads.{all_free, all_records, first_is, FirstIs, lacks_first}
use Rattle.q_message.proofs.RecordReads.{AreFree, arrival_size, begins_long, behind_more, behind_stop, counts_size, read_front, read_no_arrival, read_no_counts, read_no_sender, sender_bytes, sender_length, sized_none, sized_read, wanted}

-- the records behind the first, and behind the third
abbrev from_content : Counts → List Expected
from_content c = wanted 78 (body_of c.content) ∷ wanted 69 (body_of 0) ∷ []

abbrev from_recipients : Counts → List Expected
from_recipients c = all_records c.version c.recipients ++ from_content c

content_free : (c : Counts) → AreFree (from_content c)
content_free c before bytes = refl

recipients_free : (c : Counts) → AreFree (from_recipients c)
recipients_free c = all_free c.version c.recipients (from_content c) (content_free c)

-- ---- the records before those of the recipients

pub record IsStart (bytes : List ℕ) (s : Start) : Type 0 where
  pub counts : read_record 67 counts_of bytes ≡ found s.counts (drop 17 bytes)
  pub arrival : read_record 84 arrival_of (drop 17 bytes) ≡ found s.head.arrival (drop 30 bytes)
  pub sender : read_record 83 sender_of (drop 30 bytes) ≡ found s.head.sender (drop (start_size s.head) bytes)
  pub within : start_size s.head ≤ length bytes

-- no queue file, which breaks the form there
abbrev pub IsFault : List ℕ → ℕ → Type 0
IsFault bytes place = (queue_file bytes ≡ None) × (place ≡ fault_at bytes)

fault_is : (bytes : List ℕ) (c : Counts) (place : ℕ) → place ≤ length bytes → counts_first bytes ≡ c → behind [] (records_of c) bytes ≡ drop place bytes → place ≡ fault_at bytes
fault_is bytes c place within counts is =
    let left : length (behind [] (records_of (counts_first bytes)) bytes) ≡ length bytes - place = ap (λ (c : Counts). length (behind [] (records_of c) bytes)) counts ∙ ap length is ∙ length-drop place bytes in
    omega (arith, left)

no_counts : (bytes : List ℕ) → option_and_then counts_of (front_body 67 bytes) ≡ None → IsFault bytes 0
unfolding queue_file
no_counts bytes e =
    let none = read_no_counts bytes e in (
      rw none refl,
      fault_is bytes (counts_first bytes) 0 (omega arith) refl (behind_stop 67 counts_of (wanted 84 arrival_of ∷ wanted 83 sender_of ∷ from_recipients (counts_first bytes)) bytes none),
    )

pub record HasCounts (bytes : List ℕ) (c : Counts) : Type 0 where
  reads : read_record 67 counts_of bytes ≡ found c (drop 17 bytes)
  within : 17 ≤ length bytes
  behind_first : behind [] (records_of c) bytes ≡ behind [] (wanted 84 arrival_of ∷ wanted 83 sender_of ∷ from_recipients c) (drop 17 bytes)
  first : counts_first bytes ≡ c

has_counts : (bytes : List ℕ) (c : Counts) → option_and_then counts_of (front_body 67 bytes) ≡ Some c → HasCounts bytes c
has_counts bytes c e =
    let r = read_front 67 counts_of bytes c e in
    let size : length r.body ≡ 12 = counts_size r.body c r.means in
    let reads : read_record 67 counts_of bytes ≡ found c (drop 17 bytes) = r.reads ∙ ap (λ (n : ℕ). found c (drop (5 + n) bytes)) size in
    record {
      reads = reads;
      within = omega (arith, r.within, size);
      behind_first = behind_more 67 counts_of (wanted 84 arrival_of ∷ wanted 83 sender_of ∷ from_recipients c) bytes c (drop 17 bytes) (λ before bytes. refl) reads;
      first = ap (λ (o : Option (Counts × List ℕ)). option_map_or (λ (r : Counts × List ℕ). r.0) o (record { version = 1; recipients = 0; content = 0 })) reads;
    }

no_arrival : (bytes : List ℕ) (c : Counts) → HasCounts bytes c → option_and_then arrival_of (front_body 84 (drop 17 bytes)) ≡ None → IsFault bytes 17
unfolding queue_file
no_arrival bytes c h e =
    let none = read_no_arrival (drop 17 bytes) e in (
      rw (h.reads, none) refl,
      fault_is bytes c 17 h.within h.first (h.behind_first ∙ behind_stop 84 arrival_of (wanted 83 sender_of ∷ from_recipients c) (drop 17 bytes) none),
    )

pub record HasArrival (bytes : List ℕ) (c : Counts) (a : ℕ) : Type 0 where
  counts : HasCounts bytes c
  reads : read_record 84 arrival_of (drop 17 bytes) ≡ found a (drop 30 bytes)
  within : 30 ≤ length bytes
  behind_first : behind [] (records_of c) bytes ≡ behind [] (wanted 83 sender_of ∷ from_recipients c) (drop 30 bytes)

has_arrival : (bytes : List ℕ) (c : Counts) (a : ℕ) → HasCounts bytes c → option_and_then arrival_of (front_body 84 (drop 17 bytes)) ≡ Some a → HasArrival bytes c a
has_arrival bytes c a h e =
    let r = read_front 84 arrival_of (drop 17 bytes) a e in
    let size : length r.body ≡ 8 = arrival_size r.body a r.means in
    let reads : read_record 84 arrival_of (drop 17 bytes) ≡ found a (drop 30 bytes) = r.reads ∙ ap (λ (n : ℕ). found a (drop (5 + n) (drop 17 bytes))) size ∙ ap (found a) (drop-drop 13 17 bytes) in
    record {
      counts = h;
      reads = reads;
      within = omega (arith, r.within, size, length-drop 17 bytes);
      behind_first = h.behind_first ∙ behind_more 84 arrival_of (wanted 83 sender_of ∷ from_recipients c) (drop 17 bytes) a (drop 30 bytes) (λ before bytes. refl) reads;
    }

no_sender : (bytes : List ℕ) (c : Counts) (a : ℕ) → HasArrival bytes c a → option_and_then sender_of (front_body 83 (drop 30 bytes)) ≡ None → IsFault bytes 30
unfolding queue_file
no_sender bytes c a h e =
    let none = read_no_sender (drop 30 bytes) e in (
      rw (h.counts.reads, h.reads, none) refl,
      fault_is bytes c 30 h.within h.counts.first (h.behind_first ∙ behind_stop 83 sender_of (from_recipients c) (drop 30 bytes) none),
    )

-- the start of a file, and what is expected behind it
pub record HasStart (bytes : List ℕ) (s : Start) : Type 0 where
  pub arrival : HasArrival bytes s.counts s.head.arrival
  pub reads : read_record 83 sender_of (drop 30 bytes) ≡ found s.head.sender (drop (start_size s.head) bytes)
  pub within : start_size s.head ≤ length bytes
  pub behind_first : behind [] (records_of s.counts) bytes ≡ behind [] (from_recipients s.counts) (drop (start_size s.head) bytes)

has_sender : (bytes : List ℕ) (c : Counts) (a : ℕ) (s : Option (List ℕ)) → HasArrival bytes c a → option_and_then sender_of (front_body 83 (drop 30 bytes)) ≡ Some s → HasStart bytes (record { counts = c; head = record { sender = s; arrival = a } })
has_sender bytes c a s h e =
    let r = read_front 83 sender_of (drop 30 bytes) s e in
    let size : length r.body ≡ length (unwrap_or s []) = sender_length r.body s r.means ∙ sender_bytes s in
    let offset : 30 + (5 + length r.body) ≡ 35 + length (unwrap_or s []) = omega (arith, size) in
    let reads : read_record 83 sender_of (drop 30 bytes) ≡ found s (drop (35 + length (unwrap_or s [])) bytes) = r.reads ∙ ap (found s) (drop-drop (5 + length r.body) 30 bytes ∙ ap (λ (n : ℕ). drop n bytes) offset) in
    record {
      arrival = h;
      reads = reads;
      within = omega (arith, r.within, size, length-drop 30 bytes);
      behind_first = h.behind_first ∙ behind_more 83 sender_of (from_recipients c) (drop 30 bytes) s (drop (35 + length (unwrap_or s [])) bytes) (recipients_free c) reads;
    }

-- the start that is found, or the fault
abbrev pub StartIs : List ℕ → Result Start ℕ → Type 0
StartIs bytes (Ok s) = HasStart bytes s
StartIs bytes (Err place) = IsFault bytes place

abbrev then_sender : Counts → ℕ → Option (Option (List ℕ)) → Result Start ℕ
then_sender c a o = wanted_at 30 o >>= λ s. Ok (record { counts = c; head = record { sender = s; arrival = a } })

abbrev then_arrival : List ℕ → Counts → Option ℕ → Result Start ℕ
then_arrival bytes c o = wanted_at 17 o >>= λ a. then_sender c a (option_and_then sender_of (front_body 83 (drop 30 bytes)))

abbrev then_counts : List ℕ → Option Counts → Result Start ℕ
then_counts bytes o = wanted_at 0 o >>= λ c. then_arrival bytes c (option_and_then arrival_of (front_body 84 (drop 17 bytes)))

on_sender : (bytes : List ℕ) (c : Counts) (a : ℕ) (o : Option (Option (List ℕ))) → HasArrival bytes c a → option_and_then sender_of (front_body 83 (drop 30 bytes)) ≡ o → StartIs bytes (then_sender c a o)
on_sender bytes c a None h e = no_sender bytes c a h e
on_sender bytes c a (Some s) h e = has_sender bytes c a s h e

on_arrival : (bytes : List ℕ) (c : Counts) (o : Option ℕ) → HasCounts bytes c → option_and_then arrival_of (front_body 84 (drop 17 bytes)) ≡ o → StartIs bytes (then_arrival bytes c o)
on_arrival bytes c None h e = no_arrival bytes c h e
on_arrival bytes c (Some a) h e = on_sender bytes c a (option_and_then sender_of (front_body 83 (drop 30 bytes))) (has_arrival bytes c a h e) refl

on_counts : (bytes : List ℕ) (o : Option Counts) → option_and_then counts_of (front_body 67 bytes) ≡ o → StartIs bytes (then_counts bytes o)
on_counts bytes None e = no_counts bytes e
on_counts bytes (Some c) e = on_arrival bytes c (option_and_then arrival_of (front_body 84 (drop 17 bytes))) (has_counts bytes c e) refl

pub start_is : (bytes : List ℕ) → StartIs bytes (start_from bytes)
start_is bytes = on_counts bytes (option_and_then counts_of (front_body 67 bytes)) refl

-- ---- the recipients

-- so many recipients stand at the front, and where the next begins
pub record HasRecipients (version n at : ℕ) (bytes : List ℕ) (rs : List FileRecipient) (next : ℕ) : Type 0 where
  pub size : ℕ
  pub reads : recipients_at version n bytes ≡ found rs (drop size bytes)
  pub offset : next ≡ at + size
  pub sum : size ≡ sum_by (recipient_size version) rs
  pub within : size ≤ length bytes
  pub count : length rs ≡ n
  pub passed : (xs : List Expected) → AreFree xs → behind [] (all_records version n ++ xs) bytes ≡ behind [] xs (drop size bytes)

-- one of them is missing, and the form breaks at this offset
pub record LacksRecipient (version n at : ℕ) (bytes : List ℕ) (place : ℕ) : Type 0 where
  pub size : ℕ
  pub none : recipients_at version n bytes ≡ None
  pub offset : place ≡ at + size
  pub within : size ≤ length bytes
  pub stopped : (xs : List Expected) → AreFree xs → behind [] (all_records version n ++ xs) bytes ≡ drop size bytes

abbrev pub RecipientsAre : ℕ → ℕ → ℕ → List ℕ → Result (List FileRecipient × ℕ) ℕ → Type 0
RecipientsAre version n at bytes (Ok r) = HasRecipients version n at bytes r.0 r.1
RecipientsAre version n at bytes (Err place) = LacksRecipient version n at bytes place

-- the records of one recipient before those of others
one_before : (version n : ℕ) (bytes : List ℕ) (xs : List Expected) → behind [] (all_records version (suc n) ++ xs) bytes ≡ behind [] (recipient_records version ++ (all_records version n ++ xs)) bytes
one_before version n bytes xs = ap (λ (es : List Expected). behind [] es bytes) (append_assoc (recipient_records version) (all_records version n) xs)

no_first : (version n at : ℕ) (bytes : List ℕ) → front_recipient version bytes ≡ None → LacksRecipient version (suc n) at bytes (at + fault_in version bytes)
no_first version n at bytes e =
    let l = lacks_first version bytes e in
    record {
      size = fault_in version bytes;
      none = rw l.none refl;
      offset = refl;
      within = l.within;
      stopped = λ xs free. one_before version n bytes xs ∙ l.stopped (all_records version n ++ xs);
    }

one_more : (version n at : ℕ) (bytes : List ℕ) (r : FileRecipient) (q : Result (List FileRecipient × ℕ) ℕ) → FirstIs version bytes r
    → RecipientsAre version n (at + recipient_size version r) (drop (recipient_size version r) bytes) q → RecipientsAre version (suc n) at bytes (with_first r q)
one_more version n at bytes r (Ok (rs, next)) first h = record {
  size = recipient_size version r + h.size;
  reads = rw (first.reads, h.reads) (ap (found (r ∷ rs)) (drop-drop h.size (recipient_size version r) bytes));
  offset = omega (arith, h.offset);
  sum = omega (arith, h.sum, sum_by-cons (recipient_size version) r rs);
  within = omega (arith, h.within, first.within, length-drop (recipient_size version r) bytes);
  count = ap suc h.count;
  passed = λ xs free. one_before version n bytes xs ∙ first.passed (all_records version n ++ xs) (all_free version n xs free) ∙ h.passed xs free
      ∙ ap (behind [] xs) (drop-drop h.size (recipient_size version r) bytes);
}
one_more version n at bytes r (Err place) first h = record {
  size = recipient_size version r + h.size;
  none = rw (first.reads, h.none) refl;
  offset = omega (arith, h.offset);
  within = omega (arith, h.within, first.within, length-drop (recipient_size version r) bytes);
  stopped = λ xs free. one_before version n bytes xs ∙ first.passed (all_records version n ++ xs) (all_free version n xs free) ∙ h.stopped xs free
      ∙ drop-drop h.size (recipient_size version r) bytes;
}

on_first : (version n at : ℕ) (bytes : List ℕ) (o : Option FileRecipient) → front_recipient version bytes ≡ o → ((next : ℕ) (rest : List ℕ) → RecipientsAre version n next rest (recipients_from version n next rest))
    → RecipientsAre version (suc n) at bytes (option_map_or (λ r. with_first r (recipients_from version n (at + recipient_size version r) (drop (recipient_size version r) bytes))) o (Err (at + fault_in version bytes)))
on_first version n at bytes None e others = no_first version n at bytes e
on_first version n at bytes (Some r) e others =
    one_more version n at bytes r (recipients_from version n (at + recipient_size version r) (drop (recipient_size version r) bytes)) (first_is version bytes r e) (others (at + recipient_size version r) (drop (recipient_size version r) bytes))

pub recipients_are : (version n at : ℕ) (bytes : List ℕ) → RecipientsAre version n at bytes (recipients_from version n at bytes)
recipients_are version zero at bytes = record { size = 0; reads = refl; offset = omega arith; sum = refl; within = omega arith; count = refl; passed = λ xs free. refl }
recipients_are version (suc n) at bytes = on_first version n at bytes (front_recipient version bytes) refl (recipients_are version n)

-- ---- the content and the end

-- all recipients are read
record HasAll (bytes : List ℕ) (s : Start) (rs : List FileRecipient) (at : ℕ) : Type 0 where
  start : HasStart bytes s
  reads : recipients_at s.counts.version s.counts.recipients (drop (start_size s.head) bytes) ≡ found rs (drop at bytes)
  within : at ≤ length bytes
  offset : at ≡ start_size s.head + sum_by (recipient_size s.counts.version) rs
  count : length rs ≡ s.counts.recipients
  behind_first : behind [] (records_of s.counts) bytes ≡ behind [] (from_content s.counts) (drop at bytes)

has_all : (bytes : List ℕ) (s : Start) (rs : List FileRecipient) (at : ℕ) → HasStart bytes s → HasRecipients s.counts.version s.counts.recipients (start_size s.head) (drop (start_size s.head) bytes) rs at → HasAll bytes s rs at
has_all bytes s rs at start h =
    let same : drop h.size (drop (start_size s.head) bytes) ≡ drop at bytes = drop-drop h.size (start_size s.head) bytes ∙ ap (λ (n : ℕ). drop n bytes) (sym h.offset) in
    record {
      start = start;
      reads = h.reads ∙ ap (found rs) same;
      within = omega (arith, h.within, h.offset, start.within, length-drop (start_size s.head) bytes);
      offset = omega (arith, h.offset, h.sum);
      count = h.count;
      behind_first = start.behind_first ∙ h.passed (from_content s.counts) (content_free s.counts) ∙ ap (behind [] (from_content s.counts)) same;
    }

lacks_one : (bytes : List ℕ) (s : Start) (place : ℕ) → HasStart bytes s → LacksRecipient s.counts.version s.counts.recipients (start_size s.head) (drop (start_size s.head) bytes) place → IsFault bytes place
unfolding queue_file
lacks_one bytes s place start h =
    let same : drop h.size (drop (start_size s.head) bytes) ≡ drop place bytes = drop-drop h.size (start_size s.head) bytes ∙ ap (λ (n : ℕ). drop n bytes) (sym h.offset) in (
      rw (start.arrival.counts.reads, start.arrival.reads, start.reads, h.none) refl,
      fault_is bytes s.counts place (omega (arith, h.within, h.offset, start.within, length-drop (start_size s.head) bytes)) start.arrival.counts.first (start.behind_first ∙ h.stopped (from_content s.counts) (content_free s.counts) ∙ same),
    )

no_content : (bytes : List ℕ) (s : Start) (rs : List FileRecipient) (at : ℕ) → HasAll bytes s rs at → ((begins_record 78 s.counts.content (drop at bytes)) && leb (5 + s.counts.content) (length (drop at bytes))) ≡ false → IsFault bytes at
unfolding queue_file
no_content bytes s rs at h e =
    let none : read_record 78 (body_of s.counts.content) (drop at bytes) ≡ None = sized_none 78 s.counts.content (drop at bytes) (λ begins long. true_not (sym (and_from (begins_record 78 s.counts.content (drop at bytes)) (leb (5 + s.counts.content) (length (drop at bytes))) begins (le-leb (5 + s.counts.content) (length (drop at bytes)) long)) ∙ e)) in (
      rw (h.start.arrival.counts.reads, h.start.arrival.reads, h.start.reads, h.reads, none) refl,
      fault_is bytes s.counts at h.within h.start.arrival.counts.first (h.behind_first ∙ behind_stop 78 (body_of s.counts.content) (wanted 69 (body_of 0) ∷ []) (drop at bytes) none),
    )
  where
    true_not : true ≡ false → ⊥
    true_not t = cc

record HasContent (bytes : List ℕ) (s : Start) (rs : List FileRecipient) (at : ℕ) : Type 0 where
  all : HasAll bytes s rs at
  reads : read_record 78 (body_of s.counts.content) (drop at bytes) ≡ found (take s.counts.content (drop 5 (drop at bytes))) (drop (at + 5 + s.counts.content) bytes)
  within : at + 5 + s.counts.content ≤ length bytes
  behind_first : behind [] (records_of s.counts) bytes ≡ behind [] (wanted 69 (body_of 0) ∷ []) (drop (at + 5 + s.counts.content) bytes)

has_content : (bytes : List ℕ) (s : Start) (rs : List FileRecipient) (at : ℕ) → HasAll bytes s rs at → ((begins_record 78 s.counts.content (drop at bytes)) && leb (5 + s.counts.content) (length (drop at bytes))) ≡ true → HasContent bytes s rs at
has_content bytes s rs at h e =
    let n = s.counts.content in
    let both = and_parts (begins_record 78 s.counts.content (drop at bytes)) (leb (5 + s.counts.content) (length (drop at bytes))) e in
    let long : 5 + s.counts.content ≤ length (drop at bytes) = leb-true (5 + s.counts.content) (length (drop at bytes)) both.1 in
    let offset : at + (5 + s.counts.content) ≡ at + 5 + s.counts.content = omega arith in
    let same : drop (5 + s.counts.content) (drop at bytes) ≡ drop (at + 5 + s.counts.content) bytes = drop-drop (5 + s.counts.content) at bytes ∙ ap (λ (k : ℕ). drop k bytes) offset in
    let reads : read_record 78 (body_of s.counts.content) (drop at bytes) ≡ found (take s.counts.content (drop 5 (drop at bytes))) (drop (at + 5 + s.counts.content) bytes) = sized_read 78 n (drop at bytes) both.0 long ∙ ap (found (take n (drop 5 (drop at bytes)))) same in
    record {
      all = h;
      reads = reads;
      within = omega (arith, long, length-drop at bytes, h.within);
      behind_first = h.behind_first ∙ behind_more 78 (body_of n) (wanted 69 (body_of 0) ∷ []) (drop at bytes) (take n (drop 5 (drop at bytes))) (drop (at + 5 + n) bytes) (λ before bytes. refl) reads;
    }

no_end : (bytes : List ℕ) (s : Start) (rs : List FileRecipient) (at : ℕ) → HasContent bytes s rs at → begins_record 69 0 (drop (at + 5 + s.counts.content) bytes) ≡ false → IsFault bytes (at + 5 + s.counts.content)
unfolding queue_file
no_end bytes s rs at h e =
    let rest = drop (at + 5 + s.counts.content) bytes in
    let none : read_record 69 (body_of 0) (drop (at + 5 + s.counts.content) bytes) ≡ None = sized_none 69 0 rest (λ begins long. true_not (sym begins ∙ e)) in (
      rw (h.all.start.arrival.counts.reads, h.all.start.arrival.reads, h.all.start.reads, h.all.reads, h.reads, none) refl,
      fault_is bytes s.counts (at + 5 + s.counts.content) h.within h.all.start.arrival.counts.first (h.behind_first ∙ behind_stop 69 (body_of 0) [] rest none),
    )
  where
    true_not : true ≡ false → ⊥
    true_not t = cc

record HasEnd (bytes : List ℕ) (s : Start) (rs : List FileRecipient) (at : ℕ) : Type 0 where
  content : HasContent bytes s rs at
  reads : read_record 69 (body_of 0) (drop (at + 5 + s.counts.content) bytes) ≡ found [] (drop 5 (drop (at + 5 + s.counts.content) bytes))
  long : 5 ≤ length (drop (at + 5 + s.counts.content) bytes)
  behind_first : behind [] (records_of s.counts) bytes ≡ drop 5 (drop (at + 5 + s.counts.content) bytes)

has_end : (bytes : List ℕ) (s : Start) (rs : List FileRecipient) (at : ℕ) → HasContent bytes s rs at → begins_record 69 0 (drop (at + 5 + s.counts.content) bytes) ≡ true → HasEnd bytes s rs at
has_end bytes s rs at h begins =
    let rest = drop (at + 5 + s.counts.content) bytes in
    let long : 5 ≤ length (drop (at + 5 + s.counts.content) bytes) = begins_long 69 0 rest begins in
    let reads : read_record 69 (body_of 0) (drop (at + 5 + s.counts.content) bytes) ≡ found [] (drop 5 (drop (at + 5 + s.counts.content) bytes)) = sized_read 69 0 rest begins (omega (arith, long)) in
    record { content = h; reads = reads; long = long; behind_first = h.behind_first ∙ behind_more 69 (body_of 0) [] rest [] (drop 5 rest) (λ before bytes. refl) reads }

some_left : (xs : List ℕ) → 1 ≤ length xs → has_none xs ≡ false
some_left [] h = absurd (omega arith)
some_left (x ∷ xs) h = refl

none_left : (xs : List ℕ) → length xs ≤ 0 → has_none xs ≡ true
none_left [] h = refl
none_left (x ∷ xs) h = absurd (omega arith)

more_behind : (bytes : List ℕ) (s : Start) (rs : List FileRecipient) (at : ℕ) → HasEnd bytes s rs at → leb (length (drop (at + 5 + s.counts.content) bytes)) 5 ≡ false → IsFault bytes (at + 5 + s.counts.content + 5)
unfolding queue_file
more_behind bytes s rs at h e =
    let end = at + 5 + s.counts.content in
    let rest = drop (at + 5 + s.counts.content) bytes in
    let more : 5 < length (drop (at + 5 + s.counts.content) bytes) = leb-false (length rest) 5 e in
    let left : has_none (drop 5 (drop (at + 5 + s.counts.content) bytes)) ≡ false = some_left (drop 5 rest) (omega (arith, more, length-drop 5 rest)) in
    let start = h.content.all.start in (
      rw (start.arrival.counts.reads, start.arrival.reads, start.reads, h.content.all.reads, h.content.reads, h.reads, left) refl,
      fault_is bytes s.counts (at + 5 + s.counts.content + 5) (omega (arith, more, length-drop (at + 5 + s.counts.content) bytes)) start.arrival.counts.first (h.behind_first ∙ drop-drop 5 (at + 5 + s.counts.content) bytes),
    )

message_found : (bytes : List ℕ) (s : Start) (rs : List FileRecipient) (at : ℕ) → HasEnd bytes s rs at → leb (length (drop (at + 5 + s.counts.content) bytes)) 5 ≡ true
    → queue_file bytes ≡ Some (record { version = s.counts.version; sender = s.head.sender; arrival = s.head.arrival; content = take s.counts.content (drop 5 (drop at bytes)); recipients = rs })
unfolding queue_file
message_found bytes s rs at h e =
    let rest = drop (at + 5 + s.counts.content) bytes in
    let none : has_none (drop 5 (drop (at + 5 + s.counts.content) bytes)) ≡ true = none_left (drop 5 rest) (omega (arith, leb-true (length rest) 5 e, length-drop 5 rest)) in
    let start = h.content.all.start in
    rw (start.arrival.counts.reads, start.arrival.reads, start.reads, h.content.all.reads, h.content.reads, h.reads, none) refl

abbrev head_with : ℕ → Head → ℕ → ℕ → ℕ → ℕ → FileHead
head_with version head recipients marked content_at content_len = record {
  version = version;
  head = head;
  recipients = recipients;
  marked = marked;
  first_at = start_size head;
  content_at = content_at;
  content_len = content_len;
}

abbrev message_of : Start → List FileRecipient → List ℕ → FileMessage
message_of s rs content = record { version = s.counts.version; sender = s.head.sender; arrival = s.head.arrival; content = content; recipients = rs }

head_found : (bytes : List ℕ) (s : Start) (rs : List FileRecipient) (at : ℕ) → HasEnd bytes s rs at
    → head_of (message_of s rs (take s.counts.content (drop 5 (drop at bytes)))) ≡ head_with s.counts.version s.head s.counts.recipients (0 + count_by (λ r. r.marked) rs) (at + 5) s.counts.content
head_found bytes s rs at h =
    let n = s.counts.content in
    let content = take s.counts.content (drop 5 (drop at bytes)) in
    let m = message_of s rs content in
    let marked = count_by (λ (r : FileRecipient). r.marked) rs in
    let all : take (length rs) rs ≡ rs = take_all (length rs) rs (omega arith) in
    let offset : content_at (message_of s rs (take s.counts.content (drop 5 (drop at bytes)))) ≡ at + 5 =
    ap (λ (xs : List FileRecipient). start_size s.head + sum_by (recipient_size s.counts.version) xs + 5) all ∙ ap (λ (k : ℕ). k + 5) (sym h.content.all.offset) in
    let len : length (take s.counts.content (drop 5 (drop at bytes))) ≡ s.counts.content = length-take-le n (drop 5 (drop at bytes)) (omega (arith, h.content.within, length-drop 5 (drop at bytes), length-drop at bytes)) in
    let zero_more : count_by (λ (r : FileRecipient). r.marked) rs ≡ 0 + count_by (λ (r : FileRecipient). r.marked) rs = omega arith in
    ap (λ (k : ℕ). head_with s.counts.version s.head k marked (content_at m) (length content)) h.content.all.count
    ∙ ap (λ (k : ℕ). head_with s.counts.version s.head s.counts.recipients k (content_at m) (length content)) zero_more
    ∙ ap (λ (k : ℕ). head_with s.counts.version s.head s.counts.recipients (0 + marked) k (length content)) offset
    ∙ ap (λ (k : ℕ). head_with s.counts.version s.head s.counts.recipients (0 + marked) (at + 5) k) len

-- ---- the head, or the fault

abbrev pub HeadIs : List ℕ → Result FileHead ℕ → Type 0
HeadIs bytes (Ok head) = option_map head_of (queue_file bytes) ≡ Some head
HeadIs bytes (Err place) = IsFault bytes place

abbrev then_head : Start → ℕ → ℕ → Unit {0} → Result FileHead ℕ
then_head s marked at e = Ok (head_with s.counts.version s.head s.counts.recipients marked (at + 5) s.counts.content)

abbrev then_end : List ℕ → Start → ℕ → ℕ → ℕ → Result FileHead ℕ
then_end bytes s marked at n = end_from n (drop n bytes) >>= then_head s marked at

abbrev then_content : List ℕ → Start → ℕ → ℕ → Result FileHead ℕ
then_content bytes s marked at = content_from s.counts.content at (drop at bytes) >>= then_end bytes s marked at

abbrev then_recipients : List ℕ → Start → Result (List FileRecipient × ℕ) ℕ → Result FileHead ℕ
then_recipients bytes s q = marks_counted 0 q >>= λ r. then_content bytes s r.0 r.1

abbrev then_start : List ℕ → Result Start ℕ → Result FileHead ℕ
then_start bytes q = q >>= λ s. then_recipients bytes s (recipients_from s.counts.version s.counts.recipients (start_size s.head) (drop (start_size s.head) bytes))

on_more : (bytes : List ℕ) (s : Start) (rs : List FileRecipient) (at : ℕ) (t : Bool) → HasEnd bytes s rs at → leb (length (drop (at + 5 + s.counts.content) bytes)) 5 ≡ t
    → HeadIs bytes ((if t then Ok tt else Err (at + 5 + s.counts.content + 5)) >>= then_head s (0 + count_by (λ r. r.marked) rs) at)
on_more bytes s rs at true h e = ap (option_map head_of) (message_found bytes s rs at h e) ∙ ap (λ (f : FileHead). Some f) (head_found bytes s rs at h)
on_more bytes s rs at false h e = more_behind bytes s rs at h e

on_end : (bytes : List ℕ) (s : Start) (rs : List FileRecipient) (at : ℕ) (t : Bool) → HasContent bytes s rs at → begins_record 69 0 (drop (at + 5 + s.counts.content) bytes) ≡ t
    → HeadIs bytes ((if not t then Err (at + 5 + s.counts.content) else if leb (length (drop (at + 5 + s.counts.content) bytes)) 5 then Ok tt else Err (at + 5 + s.counts.content + 5)) >>= then_head s (0 + count_by (λ r. r.marked) rs) at)
on_end bytes s rs at true h e = on_more bytes s rs at (leb (length (drop (at + 5 + s.counts.content) bytes)) 5) (has_end bytes s rs at h e) refl
on_end bytes s rs at false h e = no_end bytes s rs at h e

on_content : (bytes : List ℕ) (s : Start) (rs : List FileRecipient) (at : ℕ) (t : Bool) → HasAll bytes s rs at → ((begins_record 78 s.counts.content (drop at bytes)) && leb (5 + s.counts.content) (length (drop at bytes))) ≡ t
    → HeadIs bytes ((if t then Ok (at + 5 + s.counts.content) else Err at) >>= then_end bytes s (0 + count_by (λ r. r.marked) rs) at)
on_content bytes s rs at true h e = on_end bytes s rs at (begins_record 69 0 (drop (at + 5 + s.counts.content) bytes)) (has_content bytes s rs at h e) refl
on_content bytes s rs at false h e = no_content bytes s rs at h e

on_recipients : (bytes : List ℕ) (s : Start) (q : Result (List FileRecipient × ℕ) ℕ) → HasStart bytes s → RecipientsAre s.counts.version s.counts.recipients (start_size s.head) (drop (start_size s.head) bytes) q → HeadIs bytes (then_recipients bytes s q)
on_recipients bytes s (Ok (rs, at)) start h = on_content bytes s rs at ((begins_record 78 s.counts.content (drop at bytes)) && leb (5 + s.counts.content) (length (drop at bytes))) (has_all bytes s rs at start h) refl
on_recipients bytes s (Err place) start h = lacks_one bytes s place start h

on_start : (bytes : List ℕ) (q : Result Start ℕ) → StartIs bytes q → HeadIs bytes (then_start bytes q)
on_start bytes (Ok s) h = on_recipients bytes s (recipients_from s.counts.version s.counts.recipients (start_size s.head) (drop (start_size s.head) bytes)) h (recipients_are s.counts.version s.counts.recipients (start_size s.head) (drop (start_size s.head) bytes))
on_start bytes (Err place) h = h

pub head_is : (bytes : List ℕ) → HeadIs bytes (head_from bytes)
head_is bytes = on_start bytes (start_from bytes) (start_is bytes)

-- the same of what was found
pub head_of_found : (bytes : List ℕ) (head : FileHead) → head_from bytes ≡ Ok head → option_map head_of (queue_file bytes) ≡ Some head
head_of_found bytes head e = subst (HeadIs bytes) e (head_is bytes)

pub fault_of_refused : (bytes : List ℕ) (place : ℕ) → head_from bytes ≡ Err place → IsFault bytes place
fault_of_refused bytes place e = subst (HeadIs bytes) e (head_is bytes)

-- ---- the answers of the call

module _ (T : Type 0) (r : Result FileHead MessageError) (o : Option (List ℕ)) (read : T → (file : List ℕ) → o ≡ Some file → Gives (λ (head : FileHead). head) r (head_from file)) where
  pub head_answered : IfOk r (λ head. T → IfSome o (λ file. option_map head_of (queue_file file) ≡ Some head))
  head_answered = by r refl o refl
    where
      by : (q : Result FileHead MessageError) → r ≡ q → (p : Option (List ℕ)) → o ≡ p → IfOk q (λ head. T → IfSome p (λ file. option_map head_of (queue_file file) ≡ Some head))
      by (Err e) is p there = tt
      by (Ok head) is None there = λ t. tt
      by (Ok head) is (Some file) there = λ t. head_of_found file head (subst (λ (q : Result FileHead MessageError). Gives (λ (head : FileHead). head) q (head_from file)) is (read t file there))

  pub fault_answered : (place : ℕ) → r ≡ Err (NotAMessage place) → T → IfSome o (λ file. IsFault file place)
  fault_answered place is t = by o refl
    where
      by : (p : Option (List ℕ)) → o ≡ p → IfSome p (λ file. IsFault file place)
      by None there = tt
      by (Some file) there = fault_of_refused file place (subst (λ (q : Result FileHead MessageError). Gives (λ (head : FileHead). head) q (head_from file)) is (read t file there))
