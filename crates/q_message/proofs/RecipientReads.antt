-- One recipient of a file of either version: where its records stand it is read and passed over, and where
-- they don't the form breaks at one of them.
use Rattle.std.proofs.Common.{◌≡◌, ℕ, zero, suc, ◌+◌, ◌≤◌, Bool, true, false, ◌&&◌, eqb, if◌then◌else◌, List, [], ◌∷◌, ◌++◌, length, slice_get, take, drop, flat_map, replicate, Option, Some, None, refl, sym, ap, ◌∙◌, arith}
use Rattle.std.specs.Option.{is_some, option_and_then, option_map_or}
use Rattle.std.specs.Prelude.{unwrap_or}
use Rattle.std.proofs.lemmas.Bool.{and_parts, eqb-true}
use Rattle.std.proofs.lemmas.Bool.Decides.{nat_tests}
use Rattle.std.proofs.lemmas.List.{drop-drop, length-drop}
use Rattle.std.proofs.lemmas.Option.{cond_some}
use Rattle.q_model.specs.QueueFile.{FileRecipient, is_first, is_version, original_of, recipient_of, take_recipient}
use Rattle.q_model.specs.QueueFileBytes.{original_size, recipient_size}
use Rattle.q_model.specs.Records.{is_whole, number, read_record, take_record}
use Rattle.q_model.proofs.RecordLaws.{bind_some, found}
use Rattle.q_message.specs.FileHeads.{Expected, behind, recipient_records}
use Rattle.q_message.specs.Fronts.{front_body}
use Rattle.q_record.specs.Kinds.{is_length}
use Rattle.q_message.specs.Readings.{fault_in, front_original, front_recipient, version_at}
use Rattle.q_message.proofs.RecordReads.{AreFree, behind_body, behind_more, behind_stop, original_front, read_front, read_leaves, read_no_original, read_no_recipient, recipient_front, recipient_length, recipient_original, recipient_short, sender_bytes, sender_length, sender_short, wanted}

-- ---- the definitions, by whether the file is of the first version

abbrev size_by : Bool → Option (List ℕ) → ℕ
size_by first original = if first then 0 else 5 + length (unwrap_or original [])

abbrev original_by : Bool → List ℕ → Option (Option (List ℕ))
original_by first bytes = if first then Some None else option_and_then original_of (front_body 79 bytes)

abbrev behind_by : Bool → List ℕ → Option (List ℕ) → Option FileRecipient
behind_by first bytes o = option_and_then (recipient_of o) (front_body 82 (drop (size_by first o) bytes))

abbrev fault_by : Bool → List ℕ → ℕ
fault_by first bytes = option_map_or (size_by first) (original_by first bytes) 0

abbrev take_by : Bool → List ℕ → Option (FileRecipient × List ℕ)
take_by first bytes = option_and_then (λ (o : Option (List ℕ) × List ℕ). read_record 82 (recipient_of o.0) o.1) (if first then Some (None, bytes) else read_record 79 original_of bytes)

-- the record of a recipient, behind one with this body
abbrev its_own : Bool → Expected
its_own first = record { kind = 82; allows = λ before body. is_some (recipient_of (if first then None else option_and_then (λ o. o) (original_of before)) body) }

abbrev records_by : Bool → List Expected
records_by first = (if first then [] else wanted 79 original_of ∷ []) ++ its_own first ∷ []

-- ---- what stands behind recipients doesn't depend on what stands before

-- the records of so many recipients
abbrev pub all_records : ℕ → ℕ → List Expected
all_records version n = flat_map (λ (x : List Expected). x) (replicate n (recipient_records version))

records_free : (first : Bool) (n : ℕ) (xs : List Expected) → AreFree xs → AreFree (flat_map (λ (x : List Expected). x) (replicate n (records_by first)) ++ xs)
records_free first zero xs free = free
records_free true (suc n) xs free = λ before bytes. refl
records_free false (suc n) xs free = λ before bytes. refl

pub all_free : (version n : ℕ) (xs : List Expected) → AreFree xs → AreFree (all_records version n ++ xs)
all_free version n xs free = records_free (is_first version) n xs free

-- ---- one that is found

-- its records are read and passed over
record IsRead (first : Bool) (bytes : List ℕ) (r : FileRecipient) : Type 0 where
  reads : take_by first bytes ≡ found r (drop (size_by first r.original + (6 + length r.address)) bytes)
  within : size_by first r.original + (6 + length r.address) ≤ length bytes
  passed : (xs : List Expected) → AreFree xs → behind [] (records_by first ++ xs) bytes ≡ behind [] xs (drop (size_by first r.original + (6 + length r.address)) bytes)

read_by : (first : Bool) (bytes : List ℕ) (r : FileRecipient) → option_and_then (behind_by first bytes) (original_by first bytes) ≡ Some r → IsRead first bytes r
read_by true bytes r e =
    let f = read_front 82 (recipient_of None) bytes r e in
    let size : 5 + length f.body ≡ 0 + (6 + length r.address) = omega (arith, recipient_length None f.body r f.means) in
    let reads : read_record 82 (recipient_of None) bytes ≡ found r (drop (0 + (6 + length r.address)) bytes) = f.reads ∙ ap (λ (n : ℕ). found r (drop n bytes)) size in
    record {
      reads = reads;
      within = omega (arith, f.within, size);
      passed = λ xs free. behind_more 82 (recipient_of None) xs bytes r (drop (0 + (6 + length r.address)) bytes) free reads;
    }
read_by false bytes r e =
    let o = bind_some (original_by false bytes) (behind_by false bytes) r e in
    let g = read_front 79 original_of bytes o.0 o.1 in
    let before : 5 + length g.body ≡ 5 + length (unwrap_or o.0 []) = ap (λ (n : ℕ). 5 + n) (sender_length g.body o.0 g.means ∙ sender_bytes o.0) in
    let rest = drop (size_by false o.0) bytes in
    let first_reads : read_record 79 original_of bytes ≡ found o.0 (drop (size_by false o.0) bytes) = g.reads ∙ ap (λ (n : ℕ). found o.0 (drop n bytes)) before in
    let f = read_front 82 (recipient_of o.0) rest r o.2 in
    let same : 5 + length (unwrap_or o.0 []) ≡ 5 + length (unwrap_or r.original []) = ap (size_by false) (recipient_original o.0 f.body r f.means) in
    let size : size_by false o.0 + (5 + length f.body) ≡ size_by false r.original + (6 + length r.address) = omega (arith, recipient_length o.0 f.body r f.means, same) in
    let end : drop (5 + length f.body) (drop (size_by false o.0) bytes) ≡ drop (size_by false r.original + (6 + length r.address)) bytes = drop-drop (5 + length f.body) (size_by false o.0) bytes ∙ ap (λ (n : ℕ). drop n bytes) size in
    let reads : read_record 82 (recipient_of o.0) (drop (size_by false o.0) bytes) ≡ found r (drop (size_by false r.original + (6 + length r.address)) bytes) = f.reads ∙ ap (found r) end in
    record {
      reads = ap (option_and_then (λ (o : Option (List ℕ) × List ℕ). read_record 82 (recipient_of o.0) o.1)) first_reads ∙ reads;
      within = omega (arith, f.within, g.within, before, size, length-drop (size_by false o.0) bytes);
      passed = λ xs free.
          let b = behind_body 79 original_of (its_own false ∷ xs) bytes o.0 rest first_reads in
          b.passed
          ∙ ap (λ (p : Option (Option (List ℕ))). behind [] (wanted 82 (recipient_of (option_and_then (λ (o : Option (List ℕ)). o) p)) ∷ xs) rest) b.means
          ∙ behind_more 82 (recipient_of o.0) xs rest r (drop (size_by false r.original + (6 + length r.address)) bytes) free reads;
    }

-- the same of a version
pub record FirstIs (version : ℕ) (bytes : List ℕ) (r : FileRecipient) : Type 0 where
  pub reads : take_recipient version bytes ≡ found r (drop (recipient_size version r) bytes)
  pub within : recipient_size version r ≤ length bytes
  pub passed : (xs : List Expected) → AreFree xs → behind [] (recipient_records version ++ xs) bytes ≡ behind [] xs (drop (recipient_size version r) bytes)

pub first_is : (version : ℕ) (bytes : List ℕ) (r : FileRecipient) → front_recipient version bytes ≡ Some r → FirstIs version bytes r
first_is version bytes r e =
    let h = read_by (is_first version) bytes r e in
    record { reads = h.reads; within = h.within; passed = h.passed }

-- ---- one that isn't found

record Lacks (first : Bool) (bytes : List ℕ) (place : ℕ) : Type 0 where
  none : take_by first bytes ≡ None
  within : place ≤ length bytes
  stopped : (xs : List Expected) → behind [] (records_by first ++ xs) bytes ≡ drop place bytes

no_second : (bytes : List ℕ) (o : Option (Option (List ℕ))) → option_and_then original_of (front_body 79 bytes) ≡ o → option_and_then (behind_by false bytes) o ≡ None → Lacks false bytes (option_map_or (size_by false) o 0)
no_second bytes None h e =
    let none = read_no_original bytes h in
    record {
      none = ap (option_and_then (λ (o : Option (List ℕ) × List ℕ). read_record 82 (recipient_of o.0) o.1)) none;
      within = omega arith;
      stopped = λ xs. behind_stop 79 original_of (its_own false ∷ xs) bytes none;
    }
no_second bytes (Some o) h e =
    let g = read_front 79 original_of bytes o h in
    let before : 5 + length g.body ≡ 5 + length (unwrap_or o []) = ap (λ (n : ℕ). 5 + n) (sender_length g.body o g.means ∙ sender_bytes o) in
    let rest = drop (size_by false o) bytes in
    let first_reads : read_record 79 original_of bytes ≡ found o (drop (size_by false o) bytes) = g.reads ∙ ap (λ (n : ℕ). found o (drop n bytes)) before in
    let none = read_no_recipient o rest e in
    record {
      none = ap (option_and_then (λ (o : Option (List ℕ) × List ℕ). read_record 82 (recipient_of o.0) o.1)) first_reads ∙ none;
      within = omega (arith, g.within, before);
      stopped = λ xs.
          let b = behind_body 79 original_of (its_own false ∷ xs) bytes o rest first_reads in
          b.passed
          ∙ ap (λ (p : Option (Option (List ℕ))). behind [] (wanted 82 (recipient_of (option_and_then (λ (o : Option (List ℕ)). o) p)) ∷ xs) rest) b.means
          ∙ behind_stop 82 (recipient_of o) xs rest none;
    }

lacks_by : (first : Bool) (bytes : List ℕ) → option_and_then (behind_by first bytes) (original_by first bytes) ≡ None → Lacks first bytes (fault_by first bytes)
lacks_by true bytes e =
    let none = read_no_recipient None bytes e in
    record { none = none; within = omega arith; stopped = λ xs. behind_stop 82 (recipient_of None) xs bytes none }
lacks_by false bytes e = no_second bytes (option_and_then original_of (front_body 79 bytes)) refl e

pub record LacksFirst (version : ℕ) (bytes : List ℕ) : Type 0 where
  pub none : take_recipient version bytes ≡ None
  pub within : fault_in version bytes ≤ length bytes
  pub stopped : (xs : List Expected) → behind [] (recipient_records version ++ xs) bytes ≡ drop (fault_in version bytes) bytes

pub lacks_first : (version : ℕ) (bytes : List ℕ) → front_recipient version bytes ≡ None → LacksFirst version bytes
lacks_first version bytes e =
    let h = lacks_by (is_first version) bytes e in
    record { none = h.none; within = h.within; stopped = h.stopped }

-- ---- one that is read is found

-- what was read lies at the front, and behind it begins what is left
pub record IsFound (version : ℕ) (bytes : List ℕ) (r : FileRecipient) (rest : List ℕ) : Type 0 where
  pub front : front_recipient version bytes ≡ Some r
  pub behind : rest ≡ drop (recipient_size version r) bytes
  pub few : recipient_size version r ≤ 519

record Finds (first : Bool) (bytes : List ℕ) (r : FileRecipient) (rest : List ℕ) : Type 0 where
  front : option_and_then (behind_by first bytes) (original_by first bytes) ≡ Some r
  behind : rest ≡ drop (size_by first r.original + (6 + length r.address)) bytes
  few : size_by first r.original + (6 + length r.address) ≤ 519

finds : (first : Bool) (bytes : List ℕ) (r : FileRecipient) (rest : List ℕ) → take_by first bytes ≡ found r rest → Finds first bytes r rest
finds true bytes r rest e =
    let f = read_leaves 82 (recipient_of None) bytes r rest e in
    let size : 5 + length f.body ≡ 0 + (6 + length r.address) = omega (arith, recipient_length None f.body r f.means) in
    record {
      front = recipient_front None bytes r rest e;
      behind = f.behind ∙ ap (λ (n : ℕ). drop n bytes) size;
      few = omega (arith, recipient_short None f.body r f.means);
    }
finds false bytes r rest e =
    let o = bind_some (read_record 79 original_of bytes) (λ (o : Option (List ℕ) × List ℕ). read_record 82 (recipient_of o.0) o.1) (r, rest) e in
    let g = read_leaves 79 original_of bytes o.0.0 o.0.1 o.1 in
    let before : 5 + length g.body ≡ size_by false o.0.0 = ap (λ (n : ℕ). 5 + n) (sender_length g.body o.0.0 g.means ∙ sender_bytes o.0.0) in
    let there : o.0.1 ≡ drop (size_by false o.0.0) bytes = g.behind ∙ ap (λ (n : ℕ). drop n bytes) before in
    let f = read_leaves 82 (recipient_of o.0.0) o.0.1 r rest o.2 in
    let same : 5 + length (unwrap_or o.0.0 []) ≡ 5 + length (unwrap_or r.original []) = ap (size_by false) (recipient_original o.0.0 f.body r f.means) in
    let size : size_by false o.0.0 + (5 + length f.body) ≡ size_by false r.original + (6 + length r.address) = omega (arith, recipient_length o.0.0 f.body r f.means, same) in
    record {
      front = ap (option_and_then (behind_by false bytes)) (original_front bytes o.0.0 o.0.1 o.1)
          ∙ ap (λ (xs : List ℕ). option_and_then (recipient_of o.0.0) (front_body 82 xs)) (sym there)
          ∙ recipient_front o.0.0 o.0.1 r rest o.2;
      behind = f.behind ∙ ap (drop (5 + length f.body)) there ∙ drop-drop (5 + length f.body) (size_by false o.0.0) bytes ∙ ap (λ (n : ℕ). drop n bytes) size;
      few = omega (arith, recipient_short o.0.0 f.body r f.means, sender_short g.body o.0.0 g.means, before, same);
    }

pub is_found : (version : ℕ) (bytes : List ℕ) (r : FileRecipient) (rest : List ℕ) → take_recipient version bytes ≡ found r rest → IsFound version bytes r rest
is_found version bytes r rest e =
    let h = finds (is_first version) bytes r rest e in
    record { front = h.front; behind = h.behind; few = h.few }

-- ---- the record before is short

original_short : (first : Bool) (bytes : List ℕ) (o : Option (List ℕ)) → original_by first bytes ≡ Some o → size_by first o ≤ 259
original_short true bytes o e = omega arith
original_short false bytes o e =
    let g = read_front 79 original_of bytes o e in
    omega (arith, sender_short g.body o g.means, sender_length g.body o g.means ∙ sender_bytes o)

pub original_near : (version : ℕ) (bytes : List ℕ) (o : Option (List ℕ)) → front_original version bytes ≡ Some o → original_size version o ≤ 259
original_near version bytes o e = original_short (is_first version) bytes o e

-- ---- the version is told by the first byte

-- a record that is found begins with its kind
begins_with : (kind : ℕ) (bytes body : List ℕ) → front_body kind bytes ≡ Some body → slice_get bytes 0 ≡ Some kind
begins_with kind bytes body e =
    let r = bind_some (take_record kind bytes) (λ (r : List ℕ × List ℕ). if is_length kind (length r.0) then Some r.0 else None) body e in
    takes_kind kind bytes r.0 r.1
  where
    takes_kind : (kind : ℕ) (bytes : List ℕ) (r : List ℕ × List ℕ) → take_record kind bytes ≡ Some r → slice_get bytes 0 ≡ Some kind
    takes_kind kind [] r e = absurd cc
    takes_kind kind (b ∷ bytes) r e =
        let c = cond_some {A = List ℕ × List ℕ} ((eqb b kind) && is_whole bytes) (take (number bytes) (drop 4 bytes), drop (number bytes) (drop 4 bytes)) r e in
        ap (λ (k : ℕ). Some k) (eqb-true b kind (and_parts (eqb b kind) (is_whole bytes) c.0).0)

told_by : (first : Bool) (bytes : List ℕ) (r : FileRecipient) → option_and_then (behind_by first bytes) (original_by first bytes) ≡ Some r → version_at bytes ≡ (if first then 1 else 2)
told_by true bytes r e =
    let b = bind_some (front_body 82 bytes) (recipient_of None) r e in
    ap (λ (o : Option ℕ). if option_map_or (λ (b : ℕ). eqb b 79) o false then 2 else 1) (begins_with 82 bytes b.0 b.1)
told_by false bytes r e =
    let o = bind_some (original_by false bytes) (behind_by false bytes) r e in
    let b = bind_some (front_body 79 bytes) original_of o.0 o.1 in
    ap (λ (o : Option ℕ). if option_map_or (λ (b : ℕ). eqb b 79) o false then 2 else 1) (begins_with 79 bytes b.0 b.1)

one_of_two : (version : ℕ) → is_version version ≡ true → (if is_first version then 1 else 2) ≡ version
one_of_two version h = grind (arith, nat_tests)

pub version_told : (version : ℕ) (bytes : List ℕ) (r : FileRecipient) → is_version version ≡ true → front_recipient version bytes ≡ Some r → version_at bytes ≡ version
version_told version bytes r known e = told_by (is_first version) bytes r e ∙ one_of_two version known
