-- What is read from a failure log stands at its front, and what follows it is no record.
use Rattle.std.proofs.Common.{◌≡◌, ℕ, zero, suc, ◌/◌, ◌^◌, ◌<◌, ◌≤◌, Bool, true, false, eqb, List, [], ◌∷◌, ◌++◌, length, drop, flat_map, Option, Some, None, if◌then◌else◌, refl, sym, ap, subst, ◌∙◌, append_assoc, arith}
use Rattle.std.specs.Int.{w16, w32, from_be_bytes, to_be_bytes}
use Rattle.std.specs.List.{AllByRecursion}
use Rattle.std.specs.Option.{option_map, option_map_or}
use Rattle.std.proofs.lemmas.Bool.{and_parts, eqb-true}
use Rattle.std.proofs.lemmas.List.{length-drop}
use Rattle.std.proofs.lemmas.Nat.{be_bytes_2, be_bytes_4}
use Rattle.q_model.specs.declared.outcome.Failure.{Failure}
use Rattle.q_model.specs.declared.outcome.Why.{Why}
use Rattle.q_model.specs.declared.outcome.Why.TheVariants.{Expired, Refused}
use Rattle.q_model.specs.FailureLog.{failure_bytes, failure_in, IsFailure, is_log_code, is_open, log_records, records_with, why_byte, why_of}
use Rattle.q_model.proofs.FailureLogLaws.{no_record}
use Rattle.q_model.proofs.RecordLaws.{AreBytes, AreBytes-drop, map_some}

-- the records stand in front, and no record follows
pub record IsLogOf (bytes : List ℕ) (fs : List Failure) : Type 0 where
  pub rest : List ℕ
  pub parts : bytes ≡ flat_map failure_bytes fs ++ rest
  pub lawful : AllByRecursion IsFailure fs
  pub stops : log_records rest ≡ []

why_is : (b : ℕ) (w : Why) (r x : Bool) → eqb b 82 ≡ r → eqb b 88 ≡ x → (if r then Some Refused else if x then Some Expired else None) ≡ Some w → why_byte w ≡ b
why_is b w true x p q e =
    let same : Refused ≡ w = cc in
    ap why_byte (sym same) ∙ sym (eqb-true b 82 p)
why_is b w false true p q e =
    let same : Expired ≡ w = cc in
    ap why_byte (sym same) ∙ sym (eqb-true b 88 q)
why_is b w false false p q e = absurd cc

if_some : {A : Type 0} (t : Bool) (o : Option A) (y : A) → (if t then o else None) ≡ Some y → (t ≡ true) × (o ≡ Some y)
if_some true o y e = (refl, e)
if_some false o y e = absurd cc

-- eight bytes that are a record
eight : (a b c d e f g h : ℕ) (rest : List ℕ) (x : Failure) → AreBytes (a ∷ b ∷ c ∷ d ∷ e ∷ f ∷ g ∷ h ∷ rest) → failure_in (a ∷ b ∷ c ∷ d ∷ e ∷ f ∷ g ∷ h ∷ rest) ≡ Some x → ((a ∷ b ∷ c ∷ d ∷ e ∷ f ∷ g ∷ h ∷ rest) ≡ failure_bytes x ++ rest) × IsFailure x
eight a b c d e f g h rest x fits is =
    let bytes = a ∷ b ∷ c ∷ d ∷ e ∷ f ∷ g ∷ h ∷ rest in
    let code = from_be_bytes w16 (c ∷ d ∷ []) in
    let position = from_be_bytes w32 (e ∷ f ∷ g ∷ h ∷ []) in
    let two = if_some (is_open bytes) (option_map (λ why. record { position = position; why = why; code = code }) (why_of b)) x is in
    let gate = and_parts (eqb a 79) (is_log_code code) two.0 in
    let m = map_some (λ (why : Why). record { position = position; why = why; code = code }) (why_of b) x two.1 in
    let why : why_byte m.0 ≡ b = why_is b m.0 (eqb b 82) (eqb b 88) refl refl m.1 in
    let cells : to_be_bytes w16 code ≡ c ∷ d ∷ [] = be_bytes_2 (c ∷ d ∷ []) code refl (pair_fits fits) refl in
    let more : to_be_bytes w32 position ≡ e ∷ f ∷ g ∷ h ∷ [] = be_bytes_4 (e ∷ f ∷ g ∷ h ∷ []) position refl (four_fit fits) refl in
    let small : position < 2 ^ 32 = omega (arith, fits 4, fits 5, fits 6, fits 7) in
    let made : Failure = record { position = position; why = m.0; code = code } in
    let text : (a ∷ b ∷ c ∷ d ∷ e ∷ f ∷ g ∷ h ∷ rest) ≡ failure_bytes made ++ rest =
    ap (λ (v : ℕ). v ∷ b ∷ c ∷ d ∷ e ∷ f ∷ g ∷ h ∷ rest) (eqb-true a 79 gate.0)
    ∙ ap (λ (v : ℕ). 79 ∷ v ∷ c ∷ d ∷ e ∷ f ∷ g ∷ h ∷ rest) (sym why)
    ∙ ap (λ (vs : List ℕ). 79 ∷ why_byte m.0 ∷ (vs ++ (e ∷ f ∷ g ∷ h ∷ rest))) (sym cells)
    ∙ ap (λ (vs : List ℕ). 79 ∷ why_byte m.0 ∷ (to_be_bytes w16 code ++ (vs ++ rest))) (sym more) in
    subst (λ (y : Failure). ((a ∷ b ∷ c ∷ d ∷ e ∷ f ∷ g ∷ h ∷ rest) ≡ failure_bytes y ++ rest) × IsFailure y) m.2 (text, record { position = small; code = gate.1 })
  where
    pair_fits : AreBytes (a ∷ b ∷ c ∷ d ∷ e ∷ f ∷ g ∷ h ∷ rest) → AreBytes (c ∷ d ∷ [])
    pair_fits k zero = k 2
    pair_fits k (suc zero) = k 3
    pair_fits k (suc (suc i)) = omega arith

    four_fit : AreBytes (a ∷ b ∷ c ∷ d ∷ e ∷ f ∷ g ∷ h ∷ rest) → AreBytes (e ∷ f ∷ g ∷ h ∷ [])
    four_fit k zero = k 4
    four_fit k (suc zero) = k 5
    four_fit k (suc (suc zero)) = k 6
    four_fit k (suc (suc (suc zero))) = k 7
    four_fit k (suc (suc (suc (suc i)))) = omega arith

failure_is : (bytes : List ℕ) (x : Failure) → AreBytes bytes → 8 ≤ length bytes → failure_in bytes ≡ Some x → (bytes ≡ failure_bytes x ++ drop 8 bytes) × IsFailure x
failure_is (a ∷ b ∷ c ∷ d ∷ e ∷ f ∷ g ∷ h ∷ rest) x fits long is = eight a b c d e f g h rest x fits is
failure_is short x fits long is = absurd (omega arith)

one_read : (bytes : List ℕ) (n : ℕ) (o : Option Failure) → failure_in bytes ≡ o → AreBytes bytes → suc n ≡ length bytes / 8 → IsLogOf (drop 8 bytes) (records_with failure_in n (drop 8 bytes)) → IsLogOf bytes (option_map_or (λ x. x ∷ records_with failure_in n (drop 8 bytes)) o [])
unfolding log_records
one_read bytes n None is fits count later = record { rest = bytes; parts = refl; lawful = tt; stops = no_record failure_in (length bytes / 8) bytes is }
one_read bytes n (Some x) is fits count later =
    let first = failure_is bytes x fits (omega arith) is in
    record {
      rest = later.rest;
      parts = first.0 ∙ ap (λ (xs : List ℕ). failure_bytes x ++ xs) later.parts ∙ sym (append_assoc (failure_bytes x) (flat_map failure_bytes (records_with failure_in n (drop 8 bytes))) later.rest);
      lawful = (first.1, later.lawful);
      stops = later.stops;
    }

log_from : (n : ℕ) (bytes : List ℕ) → AreBytes bytes → n ≡ length bytes / 8 → IsLogOf bytes (records_with failure_in n bytes)
unfolding log_records
log_from zero bytes fits count = record { rest = bytes; parts = refl; lawful = tt; stops = ap (λ (n : ℕ). records_with failure_in n bytes) (sym count) }
log_from (suc n) bytes fits count = one_read bytes n (failure_in bytes) refl fits count (log_from n (drop 8 bytes) (AreBytes-drop 8 bytes fits) (omega (arith, length-drop 8 bytes)))

-- the records of bytes are the longest row of records in front
pub log_records-front : (bytes : List ℕ) → AreBytes bytes → IsLogOf bytes (log_records bytes)
unfolding log_records
log_records-front bytes fits = log_from (length bytes / 8) bytes fits refl
