-- A record that is found at the front is one that the form of a file reads, and one that isn't is none.
use Rattle.std.proofs.Common.{◌≡◌, ℕ, suc, ◌+◌, ◌≤◌, true, ◌&&◌, eqb, leb, if◌then◌else◌, List, [], ◌∷◌, length, take, drop, Option, Some, None, refl, sym, ap, subst, ◌∙◌, arith}
use Rattle.std.specs.Prelude.{unwrap_or}
use Rattle.std.specs.Int.{w64, from_be_bytes}
use Rattle.std.specs.Option.{is_some, option_and_then, option_map, option_map_or}
use Rattle.std.proofs.lemmas.Bool.{and_from, and_parts, cond-true, eq-eqb, eqb-true, leb-true, le-leb}
use Rattle.std.proofs.lemmas.Bool.Decides.{nat_tests}
use Rattle.std.proofs.lemmas.List.{drop-drop, length-drop, length-take-le}
use Rattle.std.proofs.lemmas.Option.{cond_some}
use Rattle.q_model.specs.QueueFile.{Counts, FileRecipient, arrival_of, body_of, content_limit, counts_in, counts_of, is_other, is_version, original_of, recipient_of, sender_of, within_limits}
use Rattle.q_model.specs.Records.{number, is_whole, read_record, take_record}
use Rattle.q_model.specs.Texts.{is_address}
use Rattle.q_model.proofs.QueueFileLaws.{address_size}
use Rattle.q_model.proofs.RecordLaws.{bind_some, found, map_some}
use Rattle.q_record.specs.Kinds.{is_length}
use Rattle.q_message.specs.FileHeads.{Expected, behind}
use Rattle.q_message.specs.Fronts.{begins_record, front_body}

drop_kind : (k b : ℕ) (bytes : List ℕ) → drop (4 + k) bytes ≡ drop (5 + k) (b ∷ bytes)
drop_kind k b bytes = ap (λ (n : ℕ). drop n (b ∷ bytes)) {x = suc (4 + k)} {y = 5 + k} (omega arith)

-- a record that was taken lies at the front, whole
record IsTaken (bytes body rest : List ℕ) : Type 0 where
  behind : rest ≡ drop (5 + length body) bytes
  within : 5 + length body ≤ length bytes

is_taken : (kind : ℕ) (bytes body rest : List ℕ) → take_record kind bytes ≡ found body rest → IsTaken bytes body rest
is_taken kind [] body rest e = absurd cc
is_taken kind (b ∷ bytes) body rest e =
    let n = number bytes in
    let c = cond_some {A = List ℕ × List ℕ} ((eqb b kind) && is_whole bytes) (take (number bytes) (drop 4 bytes), drop (number bytes) (drop 4 bytes)) (body, rest) e in
    let whole = and_parts (leb 4 (length bytes)) (leb (number bytes) (length (drop 4 bytes))) (and_parts (eqb b kind) (is_whole bytes) c.0).1 in
    let four : 4 ≤ length bytes = leb-true 4 (length bytes) whole.0 in
    let fits : number bytes ≤ length (drop 4 bytes) = leb-true (number bytes) (length (drop 4 bytes)) whole.1 in
    let len : length (take (number bytes) (drop 4 bytes)) ≡ number bytes = length-take-le (number bytes) (drop 4 bytes) fits in
    subst (λ (p : List ℕ × List ℕ). IsTaken (b ∷ bytes) p.0 p.1) c.1 (record {
      behind = drop-drop (number bytes) 4 bytes ∙ ap (λ (k : ℕ). drop (4 + k) bytes) (sym len) ∙ drop_kind (length (take (number bytes) (drop 4 bytes))) b bytes;
      within = omega (arith, length-drop 4 bytes);
    })

-- a body of this meaning has a length of its kind
abbrev pub Lawful : {A : Type 0} → ℕ → (List ℕ → Option A) → Type 0
Lawful {A} kind meaning = (body : List ℕ) (a : A) → meaning body ≡ Some a → is_length kind (length body) ≡ true

-- what is found is read
pub record IsRead {A : Type 0} (kind : ℕ) (meaning : List ℕ → Option A) (bytes : List ℕ) (a : A) : Type 0 where
  pub body : List ℕ
  pub reads : read_record kind meaning bytes ≡ found a (drop (5 + length body) bytes)
  pub means : meaning body ≡ Some a
  pub within : 5 + length body ≤ length bytes

none_some : {A : Type 0} {x : A} → None ≡ Some x → ⊥
none_some h = cc

pub read_front : {A : Type 0} (kind : ℕ) (meaning : List ℕ → Option A) (bytes : List ℕ) (a : A) → option_and_then meaning (front_body kind bytes) ≡ Some a → IsRead kind meaning bytes a
read_front {A} kind meaning bytes a e =
    let m = bind_some (front_body kind bytes) meaning a e in
    let r = bind_some (take_record kind bytes) (λ (r : List ℕ × List ℕ). if is_length kind (length r.0) then Some r.0 else None) m.0 m.1 in
    let body : r.0.0 ≡ m.0 = (cond_some {A = List ℕ} (is_length kind (length r.0.0)) r.0.0 m.0 r.2).1 in
    let means : meaning r.0.0 ≡ Some a = ap meaning body ∙ m.2 in
    let taken = is_taken kind bytes r.0.0 r.0.1 r.1 in
    record {
      body = r.0.0;
      reads = ap (option_and_then (λ (r : List ℕ × List ℕ). option_map (λ (x : A). (x, r.1)) (meaning r.0))) r.1
          ∙ ap (option_map (λ (x : A). (x, r.0.1))) means ∙ ap (found a) taken.behind;
      means = means;
      within = taken.within;
    }

-- what was read says where the bytes behind it begin
pub record Leaves {A : Type 0} (meaning : List ℕ → Option A) (bytes : List ℕ) (a : A) (rest : List ℕ) : Type 0 where
  pub body : List ℕ
  pub means : meaning body ≡ Some a
  pub behind : rest ≡ drop (5 + length body) bytes

pub read_leaves : {A : Type 0} (kind : ℕ) (meaning : List ℕ → Option A) (bytes : List ℕ) (a : A) (rest : List ℕ) → read_record kind meaning bytes ≡ found a rest → Leaves meaning bytes a rest
read_leaves {A} kind meaning bytes a rest e =
    let r = bind_some (take_record kind bytes) (λ (r : List ℕ × List ℕ). option_map (λ (x : A). (x, r.1)) (meaning r.0)) (a, rest) e in
    let m = map_some {A = A} {B = A × List ℕ} (λ (x : A). (x, r.0.1)) (meaning r.0.0) (a, rest) r.2 in
    record {
      body = r.0.0;
      means = m.1 ∙ ap (λ (p : A × List ℕ). Some p.0) m.2;
      behind = sym (ap (λ (p : A × List ℕ). p.1) m.2) ∙ (is_taken kind bytes r.0.0 r.0.1 r.1).behind;
    }

read_none_of : {A : Type 0} (kind : ℕ) (meaning : List ℕ → Option A) → Lawful kind meaning → (o : Option (List ℕ × List ℕ))
    → option_and_then meaning (option_and_then (λ (r : List ℕ × List ℕ). if is_length kind (length r.0) then Some r.0 else None) o) ≡ None
    → option_and_then {T = List ℕ × List ℕ} {U = A × List ℕ} (λ r. option_map (λ (a : A). (a, r.1)) (meaning r.0)) o ≡ None
read_none_of kind meaning lawful None e = refl
read_none_of {A} kind meaning lawful (Some (body, rest)) e = by (meaning body) refl
  where
    by : (o : Option A) → meaning body ≡ o → option_map {T = A} {U = A × List ℕ} (λ a. (a, rest)) (meaning body) ≡ None
    by None is = ap (option_map (λ (a : A). (a, rest))) is
    by (Some a) is =
        let passes : option_and_then meaning (if is_length kind (length body) then Some body else None) ≡ meaning body = ap (option_and_then meaning) (cond-true (is_length kind (length body)) (Some body) None (lawful body a is)) in
        absurd (none_some (sym e ∙ passes ∙ is))

-- what isn't found isn't read
pub read_none : {A : Type 0} (kind : ℕ) (meaning : List ℕ → Option A) (bytes : List ℕ) → Lawful kind meaning → option_and_then meaning (front_body kind bytes) ≡ None → read_record kind meaning bytes ≡ None
read_none kind meaning bytes lawful e = read_none_of kind meaning lawful (take_record kind bytes) e

-- ---- the records of the form

-- a record of this meaning
abbrev pub wanted : {A : Type 0} → ℕ → (List ℕ → Option A) → Expected
wanted kind meaning = record { kind = kind; allows = λ before body. is_some (meaning body) }

-- what stands behind them doesn't depend on the body of the record before
abbrev pub AreFree : List Expected → Type 0
AreFree xs = (before bytes : List ℕ) → behind before xs bytes ≡ behind [] xs bytes

-- one record is passed over, and its body is the one before the next
pub record Passes {A : Type 0} (kind : ℕ) (meaning : List ℕ → Option A) (xs : List Expected) (bytes : List ℕ) (a : A) (rest : List ℕ) : Type 0 where
  pub body : List ℕ
  pub means : meaning body ≡ Some a
  pub passed : behind [] (wanted kind meaning ∷ xs) bytes ≡ behind body xs rest

pub behind_body : {A : Type 0} (kind : ℕ) (meaning : List ℕ → Option A) (xs : List Expected) (bytes : List ℕ) (a : A) (rest : List ℕ) → read_record kind meaning bytes ≡ found a rest → Passes kind meaning xs bytes a rest
behind_body {A} kind meaning xs bytes a rest e =
    let r = bind_some (take_record kind bytes) (λ (r : List ℕ × List ℕ). option_map (λ (x : A). (x, r.1)) (meaning r.0)) (a, rest) e in
    let m = map_some {A = A} {B = A × List ℕ} (λ (x : A). (x, r.0.1)) (meaning r.0.0) (a, rest) r.2 in
    let allowed : is_some (meaning r.0.0) ≡ true = ap is_some m.1 in
    record {
      body = r.0.0;
      means = m.1 ∙ ap (λ (p : A × List ℕ). Some p.0) m.2;
      passed = ap (λ (o : Option (List ℕ × List ℕ)). option_map_or (λ (r : List ℕ × List ℕ). if is_some (meaning r.0) then behind r.0 xs r.1 else bytes) o bytes) r.1
          ∙ cond-true (is_some (meaning r.0.0)) (behind r.0.0 xs r.0.1) bytes allowed
          ∙ ap (behind r.0.0 xs) (ap (λ (p : A × List ℕ). p.1) m.2);
    }

pub behind_more : {A : Type 0} (kind : ℕ) (meaning : List ℕ → Option A) (xs : List Expected) (bytes : List ℕ) (a : A) (rest : List ℕ) → AreFree xs → read_record kind meaning bytes ≡ found a rest → behind [] (wanted kind meaning ∷ xs) bytes ≡ behind [] xs rest
behind_more kind meaning xs bytes a rest free e =
    let p = behind_body kind meaning xs bytes a rest e in
    p.passed ∙ free p.body rest

behind_stop_of : {A : Type 0} (meaning : List ℕ → Option A) (xs : List Expected) (bytes : List ℕ) (o : Option (List ℕ × List ℕ)) → option_and_then {T = List ℕ × List ℕ} {U = A × List ℕ} (λ r. option_map (λ (a : A). (a, r.1)) (meaning r.0)) o ≡ None
    → option_map_or (λ (r : List ℕ × List ℕ). if is_some (meaning r.0) then behind r.0 xs r.1 else bytes) o bytes ≡ bytes
behind_stop_of meaning xs bytes None e = refl
behind_stop_of {A} meaning xs bytes (Some (body, rest)) e = by (meaning body) refl
  where
    by : (o : Option A) → meaning body ≡ o → (if is_some (meaning body) then behind body xs rest else bytes) ≡ bytes
    by None is = ap (λ (o : Option A). if is_some o then behind body xs rest else bytes) is
    by (Some a) is = absurd (none_some (sym e ∙ ap (option_map (λ (a : A). (a, rest))) is))

pub behind_stop : {A : Type 0} (kind : ℕ) (meaning : List ℕ → Option A) (xs : List Expected) (bytes : List ℕ) → read_record kind meaning bytes ≡ None → behind [] (wanted kind meaning ∷ xs) bytes ≡ bytes
behind_stop kind meaning xs bytes e = behind_stop_of meaning xs bytes (take_record kind bytes) e

-- ---- the lengths of bodies

pub counts_size : (body : List ℕ) (c : Counts) → counts_of body ≡ Some c → length body ≡ 12
counts_size body c e =
    let g = cond_some ((eqb (length body) 12) && within_limits (counts_in body)) (counts_in body) c e in
    eqb-true (length body) 12 (and_parts (eqb (length body) 12) (within_limits (counts_in body)) g.0).0

pub arrival_size : (body : List ℕ) (a : ℕ) → arrival_of body ≡ Some a → length body ≡ 8
arrival_size body a e =
    let g = cond_some ((eqb (length body) 8) && leb (from_be_bytes w64 body) 999990000000) (from_be_bytes w64 body) a e in
    eqb-true (length body) 8 (and_parts (eqb (length body) 8) (leb (from_be_bytes w64 body) 999990000000) g.0).0

counts_lawful : Lawful 67 counts_of
counts_lawful body c e = eq-eqb (length body) 12 (counts_size body c e)

arrival_lawful : Lawful 84 arrival_of
arrival_lawful body a e = eq-eqb (length body) 8 (arrival_size body a e)

address_lawful : (n : ℕ) → 3 ≤ n → n ≤ 254 → is_length 83 n ≡ true
address_lawful n some few = grind (arith, nat_tests)

sender_lawful : Lawful 83 sender_of
sender_lawful [] s e = refl
sender_lawful (b ∷ bytes) s e =
    let size = address_size (b ∷ bytes) (cond_some (is_address (b ∷ bytes)) (Some (b ∷ bytes)) s e).0 in
    address_lawful (length (b ∷ bytes)) size.0 size.1

original_lawful_size : (n : ℕ) → 3 ≤ n → n ≤ 254 → is_length 79 n ≡ true
original_lawful_size n some few = grind (arith, nat_tests)

original_lawful : Lawful 79 original_of
original_lawful [] s e = refl
original_lawful (b ∷ bytes) s e =
    let size = address_size (b ∷ bytes) (cond_some (is_address (b ∷ bytes)) (Some (b ∷ bytes)) s e).0 in
    original_lawful_size (length (b ∷ bytes)) size.0 size.1

recipient_lawful_size : (n : ℕ) → 3 ≤ n → n ≤ 254 → is_length 82 (suc n) ≡ true
recipient_lawful_size n some few = grind (arith, nat_tests)

-- what the body of a recipient says
record IsBody (original : Option (List ℕ)) (mark : ℕ) (address : List ℕ) (r : FileRecipient) : Type 0 where
  form : is_address address ≡ true
  is : record { address = address; original = original; marked = eqb mark 68 } ≡ r

body_is : (original : Option (List ℕ)) (mark : ℕ) (address : List ℕ) (r : FileRecipient) → recipient_of original (mark ∷ address) ≡ Some r → IsBody original mark address r
body_is original mark address r e =
    let g = cond_some {A = FileRecipient} (is_address address && is_other address original) (record { address = address; original = original; marked = eqb mark 68 }) r e in
    record { form = (and_parts (is_address address) (is_other address original) g.0).0; is = g.1 }

recipient_lawful : (original : Option (List ℕ)) → Lawful 82 (recipient_of original)
recipient_lawful original [] r e = absurd cc
recipient_lawful original (mark ∷ address) r e =
    let size = address_size address (body_is original mark address r e).form in
    recipient_lawful_size (length address) size.0 size.1

pub read_no_counts : (bytes : List ℕ) → option_and_then counts_of (front_body 67 bytes) ≡ None → read_record 67 counts_of bytes ≡ None
read_no_counts bytes e = read_none 67 counts_of bytes counts_lawful e

pub read_no_arrival : (bytes : List ℕ) → option_and_then arrival_of (front_body 84 bytes) ≡ None → read_record 84 arrival_of bytes ≡ None
read_no_arrival bytes e = read_none 84 arrival_of bytes arrival_lawful e

pub read_no_sender : (bytes : List ℕ) → option_and_then sender_of (front_body 83 bytes) ≡ None → read_record 83 sender_of bytes ≡ None
read_no_sender bytes e = read_none 83 sender_of bytes sender_lawful e

pub read_no_original : (bytes : List ℕ) → option_and_then original_of (front_body 79 bytes) ≡ None → read_record 79 original_of bytes ≡ None
read_no_original bytes e = read_none 79 original_of bytes original_lawful e

pub read_no_recipient : (original : Option (List ℕ)) (bytes : List ℕ) → option_and_then (recipient_of original) (front_body 82 bytes) ≡ None → read_record 82 (recipient_of original) bytes ≡ None
read_no_recipient original bytes e = read_none 82 (recipient_of original) bytes (recipient_lawful original) e

pub recipient_length : (original : Option (List ℕ)) (body : List ℕ) (r : FileRecipient) → recipient_of original body ≡ Some r → length body ≡ 1 + length r.address
recipient_length original [] r e = absurd cc
recipient_length original (mark ∷ address) r e =
    let one : length (mark ∷ address) ≡ 1 + length address = omega arith in
    one ∙ ap (λ (x : FileRecipient). 1 + length x.address) (body_is original mark address r e).is

pub recipient_original : (original : Option (List ℕ)) (body : List ℕ) (r : FileRecipient) → recipient_of original body ≡ Some r → original ≡ r.original
recipient_original original [] r e = absurd cc
recipient_original original (mark ∷ address) r e = ap (λ (x : FileRecipient). x.original) (body_is original mark address r e).is

pub sender_length : (body : List ℕ) (s : Option (List ℕ)) → sender_of body ≡ Some s → length body ≡ option_map_or (λ (a : List ℕ). length a) s 0
sender_length [] s e =
    let none : None ≡ s = cc in
    ap (λ (o : Option (List ℕ)). option_map_or (λ (a : List ℕ). length a) o 0) none
sender_length (b ∷ bytes) s e =
    let g = cond_some (is_address (b ∷ bytes)) (Some (b ∷ bytes)) s e in
    ap (λ (o : Option (List ℕ)). option_map_or (λ (a : List ℕ). length a) o 0) g.1

pub sender_bytes : (s : Option (List ℕ)) → option_map_or (λ (a : List ℕ). length a) s 0 ≡ length (unwrap_or s [])
sender_bytes None = refl
sender_bytes (Some a) = refl

-- ---- a body of which only the length is said

pub sized_read : (kind n : ℕ) (bytes : List ℕ) → begins_record kind n bytes ≡ true → 5 + n ≤ length bytes → read_record kind (body_of n) bytes ≡ found (take n (drop 5 bytes)) (drop (5 + n) bytes)
sized_read kind n [] begins within = absurd cc
sized_read kind n (b ∷ bytes) begins within =
    let tests = and_parts ((eqb b kind) && leb 4 (length bytes)) (eqb (number bytes) n) begins in
    let head = and_parts (eqb b kind) (leb 4 (length bytes)) tests.0 in
    let same : number bytes ≡ n = eqb-true (number bytes) n tests.1 in
    let fits : n ≤ length (drop 4 bytes) = omega (arith, length-drop 4 bytes) in
    let whole : ((eqb b kind) && is_whole bytes) ≡ true = and_from (eqb b kind) (is_whole bytes) head.0 (and_from (leb 4 (length bytes)) (leb (number bytes) (length (drop 4 bytes))) head.1 (le-leb (number bytes) (length (drop 4 bytes)) (omega (arith, same, fits)))) in
    let len : length (take n (drop 4 bytes)) ≡ n = length-take-le n (drop 4 bytes) fits in
    let taken : take_record kind (b ∷ bytes) ≡ found (take n (drop 4 bytes)) (drop (4 + n) bytes) =
    cond-true ((eqb b kind) && is_whole bytes) (found (take (number bytes) (drop 4 bytes)) (drop (number bytes) (drop 4 bytes))) None whole
    ∙ ap (λ (k : ℕ). found (take k (drop 4 bytes)) (drop k (drop 4 bytes))) same ∙ ap (found (take n (drop 4 bytes))) (drop-drop n 4 bytes) in
    ap (option_and_then (λ (r : List ℕ × List ℕ). option_map (λ (x : List ℕ). (x, r.1)) (body_of n r.0))) taken
    ∙ ap (option_map (λ (x : List ℕ). (x, drop (4 + n) bytes))) (cond-true (eqb (length (take n (drop 4 bytes))) n) (Some (take n (drop 4 bytes))) None (eq-eqb (length (take n (drop 4 bytes))) n len))
    ∙ ap (found (take n (drop 4 bytes))) (drop_kind n b bytes)

-- what is read is whole, and of this length
pub sized_is : (kind n : ℕ) (bytes a rest : List ℕ) → read_record kind (body_of n) bytes ≡ found a rest → (begins_record kind n bytes ≡ true) × (5 + n ≤ length bytes)
sized_is kind n [] a rest e = absurd cc
sized_is kind n (b ∷ bytes) a rest e =
    let r = bind_some (take_record kind (b ∷ bytes)) (λ (r : List ℕ × List ℕ). option_map (λ (x : List ℕ). (x, r.1)) (body_of n r.0)) (a, rest) e in
    let m = map_some {A = List ℕ} {B = List ℕ × List ℕ} (λ (x : List ℕ). (x, r.0.1)) (body_of n r.0.0) (a, rest) r.2 in
    let size : length r.0.0 ≡ n = eqb-true (length r.0.0) n (cond_some {A = List ℕ} (eqb (length r.0.0) n) r.0.0 m.0 m.1).0 in
    let c = cond_some {A = List ℕ × List ℕ} ((eqb b kind) && is_whole bytes) (take (number bytes) (drop 4 bytes), drop (number bytes) (drop 4 bytes)) r.0 r.1 in
    let head = and_parts (eqb b kind) (is_whole bytes) c.0 in
    let whole = and_parts (leb 4 (length bytes)) (leb (number bytes) (length (drop 4 bytes))) head.1 in
    let fits : number bytes ≤ length (drop 4 bytes) = leb-true (number bytes) (length (drop 4 bytes)) whole.1 in
    let body : take (number bytes) (drop 4 bytes) ≡ r.0.0 = ap (λ (p : List ℕ × List ℕ). p.0) c.1 in
    let len : length (take (number bytes) (drop 4 bytes)) ≡ number bytes = length-take-le (number bytes) (drop 4 bytes) fits in
    let same : number bytes ≡ n = sym len ∙ ap length body ∙ size in
    let four : 4 ≤ length bytes = leb-true 4 (length bytes) whole.0 in (
      and_from ((eqb b kind) && leb 4 (length bytes)) (eqb (number bytes) n) (and_from (eqb b kind) (leb 4 (length bytes)) head.0 whole.0) (eq-eqb (number bytes) n same),
      omega (arith, length-drop 4 bytes, fits, same, four),
    )

pub sized_none : (kind n : ℕ) (bytes : List ℕ) → (begins_record kind n bytes ≡ true → 5 + n ≤ length bytes → ⊥) → read_record kind (body_of n) bytes ≡ None
sized_none kind n bytes never = by (read_record kind (body_of n) bytes) refl
  where
    by : (o : Option (List ℕ × List ℕ)) → read_record kind (body_of n) bytes ≡ o → o ≡ None
    by None e = refl
    by (Some (a, rest)) e = let is = sized_is kind n bytes a rest e in absurd (never is.0 is.1)

pub begins_long : (kind n : ℕ) (bytes : List ℕ) → begins_record kind n bytes ≡ true → 5 ≤ length bytes
begins_long kind n [] e = absurd cc
begins_long kind n (b ∷ bytes) e =
    let four : 4 ≤ length bytes = leb-true 4 (length bytes) (and_parts (eqb b kind) (leb 4 (length bytes)) (and_parts ((eqb b kind) && leb 4 (length bytes)) (eqb (number bytes) n) e).0).1 in
    omega (arith, four)

-- what is read is found at the front
pub front_of_read : {A : Type 0} (kind : ℕ) (meaning : List ℕ → Option A) (bytes : List ℕ) (a : A) (rest : List ℕ) → Lawful kind meaning → read_record kind meaning bytes ≡ found a rest → option_and_then meaning (front_body kind bytes) ≡ Some a
front_of_read {A} kind meaning bytes a rest lawful e = by (option_and_then meaning (front_body kind bytes)) refl
  where
    of_some : {x y : A × List ℕ} → Some x ≡ Some y → x ≡ y
    of_some h = cc

    same_first : {x y : A} {xs ys : List ℕ} → found x xs ≡ found y ys → Some x ≡ Some y
    same_first h = ap (λ (p : A × List ℕ). Some p.0) (of_some h)

    by : (o : Option A) → option_and_then meaning (front_body kind bytes) ≡ o → o ≡ Some a
    by None h = absurd (none_some (sym (read_none kind meaning bytes lawful h) ∙ e))
    by (Some q) h = same_first (sym (read_front kind meaning bytes q h).reads ∙ e)

pub original_front : (bytes : List ℕ) (o : Option (List ℕ)) (rest : List ℕ) → read_record 79 original_of bytes ≡ found o rest → option_and_then original_of (front_body 79 bytes) ≡ Some o
original_front bytes o rest e = front_of_read 79 original_of bytes o rest original_lawful e

pub recipient_front : (original : Option (List ℕ)) (bytes : List ℕ) (r : FileRecipient) (rest : List ℕ) → read_record 82 (recipient_of original) bytes ≡ found r rest → option_and_then (recipient_of original) (front_body 82 bytes) ≡ Some r
recipient_front original bytes r rest e = front_of_read 82 (recipient_of original) bytes r rest (recipient_lawful original) e

-- ---- the bounds of what is read

-- the limits that counts keep
pub record AreWithin (c : Counts) : Type 0 where
  pub some : 1 ≤ c.recipients
  pub few : c.recipients ≤ 50000
  pub version : is_version c.version ≡ true

pub counts_within : (body : List ℕ) (c : Counts) → counts_of body ≡ Some c → AreWithin c
counts_within body c e =
    let g = cond_some ((eqb (length body) 12) && within_limits (counts_in body)) (counts_in body) c e in
    let limits : within_limits (counts_in body) ≡ true = (and_parts (eqb (length body) 12) (within_limits (counts_in body)) g.0).1 in
    subst AreWithin g.1 (within (counts_in body) limits)
  where
    within : (c : Counts) → within_limits c ≡ true → AreWithin c
    within c h =
        let short = and_parts (is_version c.version && leb 1 c.recipients && leb c.recipients 50000) (leb c.content (content_limit c.version)) h in
        let few = and_parts (is_version c.version && leb 1 c.recipients) (leb c.recipients 50000) short.0 in
        let some = and_parts (is_version c.version) (leb 1 c.recipients) few.0 in
        record { some = leb-true 1 c.recipients some.1; few = leb-true c.recipients 50000 few.1; version = some.0 }

pub sender_short : (body : List ℕ) (s : Option (List ℕ)) → sender_of body ≡ Some s → length body ≤ 254
sender_short [] s e = omega arith
sender_short (b ∷ bytes) s e = (address_size (b ∷ bytes) (cond_some (is_address (b ∷ bytes)) (Some (b ∷ bytes)) s e).0).1

pub recipient_short : (original : Option (List ℕ)) (body : List ℕ) (r : FileRecipient) → recipient_of original body ≡ Some r → 6 + length r.address ≤ 260
recipient_short original [] r e = absurd cc
recipient_short original (mark ∷ address) r e =
    let b = body_is original mark address r e in
    let short : 6 + length address ≤ 260 = omega (arith, (address_size address b.form).1) in
    subst (λ (x : FileRecipient). 6 + length x.address ≤ 260) b.is short
