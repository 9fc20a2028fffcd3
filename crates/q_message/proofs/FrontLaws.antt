-- The record at the front of bytes is the same wherever they are cut off behind it.
use Rattle.std.proofs.Common.{◌≡◌, ℕ, zero, suc, ◌+◌, ◌-◌, ◌<◌, ◌≤◌, ◌^◌, ◌⊎◌, inl, inr, ⊎_elim, Bool, true, false, ◌&&◌, eqb, leb, if◌then◌else◌, List, [], ◌∷◌, ◌++◌, length, take, drop, Option, Some, None, refl, sym, ap, ◌∙◌, arith}
use Rattle.std.specs.Option.{option_and_then}
use Rattle.std.proofs.lemmas.Bool.{and_from, and_parts, and_right, cases_lt, cases_Bool, cond-true, cond-false, le-leb, leb-true, ne_eqb}
use Rattle.std.proofs.lemmas.Bool.Decides.{nat_tests}
use Rattle.std.proofs.lemmas.List.{drop-take, length-drop, length-take, length-take-le, take-take, take_all}
use Rattle.q_model.specs.Records.{number, is_whole, record_bytes, take_record}
use Rattle.q_model.proofs.RecordLaws.{AreBytes, bind_some, found, record_again, record_takes}
use Rattle.q_record.specs.declared.reading.Rec.{Rec}
use Rattle.q_record.specs.Kinds.{is_length}
use Rattle.q_record.specs.Reading.{IsRecord}
use Rattle.q_record.proofs.ReadingLaws.{length_short}
use Rattle.q_message.specs.Fronts.{begins_record, front_body}

-- ---- a record at the front, as `get` tells it

-- whether a record of this kind and of a lawful length stands here, whole
abbrev pub has_body : ℕ → ℕ → List ℕ → Bool
has_body kind b bytes = ((eqb b kind) && is_whole bytes) && is_length kind (number bytes)

body_of_whole : (kind : ℕ) (bytes : List ℕ) (whole : Bool) → (whole ≡ true → number bytes ≤ length (drop 4 bytes))
    → option_and_then (λ (r : List ℕ × List ℕ). if is_length kind (length r.0) then Some r.0 else None) (if whole then Some (take (number bytes) (drop 4 bytes), drop (number bytes) (drop 4 bytes)) else None)
    ≡ (if whole && is_length kind (number bytes) then Some (take (number bytes) (drop 4 bytes)) else None)
body_of_whole kind bytes false h = refl
body_of_whole kind bytes true h =
    let len : length (take (number bytes) (drop 4 bytes)) ≡ number bytes = length-take-le (number bytes) (drop 4 bytes) (h refl) in
    ap (λ (n : ℕ). if is_length kind n then Some (take (number bytes) (drop 4 bytes)) else None) len

whole_within : (b kind : ℕ) (bytes : List ℕ) → ((eqb b kind) && is_whole bytes) ≡ true → number bytes ≤ length (drop 4 bytes)
whole_within b kind bytes h =
    let whole = and_parts (leb 4 (length bytes)) (leb (number bytes) (length (drop 4 bytes))) (and_parts (eqb b kind) (is_whole bytes) h).1 in
    leb-true (number bytes) (length (drop 4 bytes)) whole.1

pub front_body_is : (kind b : ℕ) (bytes : List ℕ) → front_body kind (b ∷ bytes) ≡ (if has_body kind b bytes then Some (take (number bytes) (drop 4 bytes)) else None)
front_body_is kind b bytes = body_of_whole kind bytes ((eqb b kind) && is_whole bytes) (whole_within b kind bytes)

-- a record that was written is found
pub front_written : (kind : ℕ) (bytes body rest : List ℕ) → is_length kind (length body) ≡ true → bytes ≡ record_bytes kind body ++ rest → front_body kind bytes ≡ Some body
front_written kind bytes body rest lawful is =
    let small : length body < 2 ^ 32 = omega (arith, length_short kind (length body) lawful) in
    ap (front_body kind) is
    ∙ ap (option_and_then (λ (r : List ℕ × List ℕ). if is_length kind (length r.0) then Some r.0 else None)) (record_again kind body rest small)
    ∙ cond-true (is_length kind (length body)) (Some body) None lawful

pub front_found : (kind : ℕ) (bytes : List ℕ) (r : Rec) → IsRecord bytes 0 r → r.kind ≡ kind → Some (take (r.to - r.from) (drop r.from bytes)) ≡ front_body kind bytes
front_found kind bytes r found same =
    let body = take (r.to - r.from) (drop r.from bytes) in
    sym (front_written kind bytes body (drop r.to bytes) (ap (λ (k : ℕ). is_length k (length body)) (sym same) ∙ found.lawful)
    (found.written ∙ ap (λ (k : ℕ). record_bytes k body ++ drop r.to bytes) same))

-- what isn't found can't have been written
pub front_none : (kind : ℕ) (bytes : List ℕ) → AreBytes bytes → ((body rest : List ℕ) → is_length kind (length body) ≡ true → bytes ≡ record_bytes kind body ++ rest → ⊥) → front_body kind bytes ≡ None
front_none kind bytes fits never = by (front_body kind bytes) refl
  where
    by : (o : Option (List ℕ)) → front_body kind bytes ≡ o → o ≡ None
    by None e = refl
    by (Some body) e =
        let r = bind_some (take_record kind bytes) (λ (r : List ℕ × List ℕ). if is_length kind (length r.0) then Some r.0 else None) body e in
        let lawful = cases_Bool (is_length kind (length r.0.0)) in
        absurd (⊎_elim (λ yes. never r.0.0 r.0.1 yes (record_takes kind bytes r.0.0 r.0.1 fits r.1).parts)
        (λ no. none_some (sym (cond-false (is_length kind (length r.0.0)) (Some r.0.0) None no) ∙ r.2)) lawful)
      where
        none_some : {A : Type 0} {x : A} → None ≡ Some x → ⊥
        none_some h = cc

-- ---- bytes that are cut off

-- only a content is longer than 255 bytes
pub long_none : (kind n : ℕ) → (kind ≡ 78 → ⊥) → 255 < n → is_length kind n ≡ false
long_none kind n other long =
    let not_content : eqb kind 78 ≡ false = ne_eqb kind 78 other in
    grind (arith, nat_tests)

same_choice : {X : Type 0} (s t : Bool) (x y : X) → s ≡ t → (t ≡ true → x ≡ y) → (if s then Some x else None) ≡ (if t then Some y else None)
same_choice s true x y same is = ap (λ (b : Bool). if b then Some x else None) same ∙ ap (λ z. Some z) (is refl)
same_choice s false x y same is = ap (λ (b : Bool). if b then Some x else None) same

number_cut : (j : ℕ) (bytes : List ℕ) → 4 ≤ j → number (take j bytes) ≡ number bytes
number_cut j bytes h = rw (take-take 4 j bytes h) refl

pub drop_cut : (n j : ℕ) (bytes : List ℕ) → n ≤ j → drop n (take j bytes) ≡ take (j - n) (drop n bytes)
drop_cut n j bytes h =
    let sum : j ≡ n + (j - n) = omega (arith, h) in
    ap (λ (k : ℕ). drop n (take k bytes)) sum ∙ drop-take n (j - n) bytes

has_body_cut : (kind b j : ℕ) (bytes : List ℕ) → (kind ≡ 78 → ⊥) → 259 ≤ j → j ≤ length bytes → has_body kind b (take j bytes) ≡ has_body kind b bytes
has_body_cut kind b j bytes other far within =
    let same : number (take j bytes) ≡ number bytes = number_cut j bytes (omega arith) in
    let cut_len : length (take j bytes) ≡ j = length-take-le j bytes within in
    ⊎_elim
    (λ long.
    and_right ((eqb b kind) && is_whole (take j bytes)) (is_length kind (number (take j bytes))) (ap (is_length kind) same ∙ long_none kind (number bytes) other long)
    ∙ sym (and_right ((eqb b kind) && is_whole bytes) (is_length kind (number bytes)) (long_none kind (number bytes) other long)))
    (λ short.
    let cut_whole : is_whole (take j bytes) ≡ true = and_from (leb 4 (length (take j bytes))) (leb (number (take j bytes)) (length (drop 4 (take j bytes)))) (le-leb 4 (length (take j bytes)) (omega arith)) (le-leb (number (take j bytes)) (length (drop 4 (take j bytes))) (omega (arith, length-drop 4 (take j bytes)))) in
    let whole : is_whole bytes ≡ true = and_from (leb 4 (length bytes)) (leb (number bytes) (length (drop 4 bytes))) (le-leb 4 (length bytes) (omega arith)) (le-leb (number bytes) (length (drop 4 bytes)) (omega (arith, length-drop 4 bytes))) in
    ap (λ (w : Bool). ((eqb b kind) && w) && is_length kind (number (take j bytes))) (cut_whole ∙ sym whole)
    ∙ ap (λ (n : ℕ). ((eqb b kind) && is_whole bytes) && is_length kind n) same)
    (cases_lt 255 (number bytes))

-- a body that is found is no longer than 255 bytes
short_body : (kind n : ℕ) → (kind ≡ 78 → ⊥) → is_length kind n ≡ true → n ≤ 255
short_body kind n other h = ⊎_elim (λ long. absurd (true_not (sym h ∙ long_none kind n other long))) (λ short. short) (cases_lt 255 n)
  where
    true_not : true ≡ false → ⊥
    true_not e = cc

cut_inside : (kind n : ℕ) (bytes : List ℕ) → (kind ≡ 78 → ⊥) → 260 ≤ n → n < length bytes → front_body kind (take n bytes) ≡ front_body kind bytes
cut_inside kind n [] other far within = absurd (omega arith)
cut_inside kind zero (b ∷ bytes) other far within = absurd (omega arith)
cut_inside kind (suc j) (b ∷ bytes) other far within =
    let same : number (take j bytes) ≡ number bytes = number_cut j bytes (omega arith) in
    front_body_is kind b (take j bytes)
    ∙ same_choice (has_body kind b (take j bytes)) (has_body kind b bytes) (take (number (take j bytes)) (drop 4 (take j bytes))) (take (number bytes) (drop 4 bytes)) (has_body_cut kind b j bytes other (omega arith) (omega arith))
    (λ h.
    let short : number bytes ≤ 255 = short_body kind (number bytes) other (and_parts ((eqb b kind) && is_whole bytes) (is_length kind (number bytes)) h).1 in
    ap (λ (n : ℕ). take n (drop 4 (take j bytes))) same ∙ ap (take (number bytes)) (drop_cut 4 j bytes (omega arith)) ∙ take-take (number bytes) (j - 4) (drop 4 bytes) (omega (arith, short)))
    ∙ sym (front_body_is kind b bytes)

-- bytes that go so far, or are all
abbrev pub GoesOn : ℕ → ℕ → List ℕ → Type 0
GoesOn k n bytes = (k ≤ n) ⊎ (length bytes ≤ n)

pub front_cut : (kind n : ℕ) (bytes : List ℕ) → (kind ≡ 78 → ⊥) → GoesOn 260 n bytes → front_body kind (take n bytes) ≡ front_body kind bytes
front_cut kind n bytes other (inr all) = ap (front_body kind) (take_all n bytes all)
front_cut kind n bytes other (inl far) =
    ⊎_elim (λ within. cut_inside kind n bytes other far within) (λ all. ap (front_body kind) (take_all n bytes all)) (cases_lt n (length bytes))

-- the same behind an offset
pub front_cut_behind : (kind k n : ℕ) (bytes : List ℕ) → (kind ≡ 78 → ⊥) → k ≤ 700 → GoesOn 1024 n bytes → front_body kind (drop k (take n bytes)) ≡ front_body kind (drop k bytes)
front_cut_behind kind k n bytes other near (inr all) = ap (λ (xs : List ℕ). front_body kind (drop k xs)) (take_all n bytes all)
front_cut_behind kind k n bytes other near (inl far) =
    ap (front_body kind) (drop_cut k n bytes (omega arith)) ∙ front_cut kind (n - k) (drop k bytes) other (inl (omega arith))

begins_inside : (kind n k : ℕ) (bytes : List ℕ) → 5 ≤ k → begins_record kind n (take k bytes) ≡ begins_record kind n bytes
begins_inside kind n zero bytes far = absurd (omega arith)
begins_inside kind n (suc j) [] far = refl
begins_inside kind n (suc j) (b ∷ bytes) far =
    let same : number (take j bytes) ≡ number bytes = number_cut j bytes (omega arith) in
    let long : leb 4 (length (take j bytes)) ≡ leb 4 (length bytes) = ⊎_elim (λ some. le-leb 4 (length (take j bytes)) (omega (arith, length-take j bytes)) ∙ sym (le-leb 4 (length bytes) some))
    (λ few. ap (λ (xs : List ℕ). leb 4 (length xs)) (take_all j bytes (omega arith))) (some_or_few (cases_lt (length bytes) 4)) in
    ap (λ (t : Bool). ((eqb b kind) && t) && eqb (number (take j bytes)) n) long ∙ ap (λ (m : ℕ). ((eqb b kind) && leb 4 (length bytes)) && eqb m n) same
  where
    some_or_few : (length bytes < 4) ⊎ (4 ≤ length bytes) → (4 ≤ length bytes) ⊎ (length bytes < 4)
    some_or_few (inl few) = inr few
    some_or_few (inr some) = inl some

pub begins_cut : (kind n k : ℕ) (bytes : List ℕ) → GoesOn 1024 k bytes → begins_record kind n (take k bytes) ≡ begins_record kind n bytes
begins_cut kind n k bytes (inr all) = ap (begins_record kind n) (take_all k bytes all)
begins_cut kind n k bytes (inl far) = begins_inside kind n k bytes (omega arith)
