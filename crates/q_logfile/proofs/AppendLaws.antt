-- Bytes behind the records of a log: a gate that is closed, and a record whose gate opens.
use Rattle.std.proofs.Common.{◌≡◌, ◌∙◌, ◌&&◌, ◌+◌, ◌^◌, if◌then◌else◌, not, ◌*◌, ◌<◌, ◌++◌, ◌∷◌, ℕ, zero, suc, Bool, true, false, eqb, List, [], length, take, drop, Option, Some, None, refl, sym, ap, arith, append-nil, append_assoc, take-append-drop, length-take-le}
use Rattle.std.specs.Prelude.{nat_lt, slice_index}
use Rattle.std.proofs.lemmas.Bool.{and_parts, ltb-false, ltb-true}
use Rattle.std.proofs.lemmas.List.{drop_at, length-take, take_at, take_more}
use Rattle.std.proofs.Math.Seq.{take-add}
use Rattle.q_model.specs.declared.outcome.Failure.{Failure}
use Rattle.q_model.specs.FailureLog.{failure_bytes, failure_in, IsFailure, log_records}
use Rattle.q_model.proofs.FailureLogLaws.{log_records-closed, log_records-cons}
use Rattle.q_host.specs.Files.{written}
use Rattle.q_logfile.specs.Appends.{appendable, appended, behind_gate, gate_of, is_closed_at, is_gated, prepared}
use Rattle.q_logfile.proofs.ReadingLaws.{records_all, records_more, records_stop}

-- ---- records stand in front of any bytes

record HasFirst (log : List ℕ) : Type 0 where
  first : Failure
  eight : length (take 8 log) ≡ 8
  is : failure_in (take 8 log) ≡ Some first
  all : log_records log ≡ first ∷ log_records (drop 8 log)

has_first : (c : ℕ) (log : List ℕ) → length (log_records log) ≡ suc c → HasFirst log
has_first c log count = by (nat_lt (length log) 8) refl (failure_in (take 8 log)) refl
  where
    some : [] ≡ log_records log → ⊥
    some none = omega (arith, count, ap length none)

    by : (t : Bool) → nat_lt (length log) 8 ≡ t → (o : Option Failure) → failure_in (take 8 log) ≡ o → HasFirst log
    by true short o is = absurd (some (records_all log log [] refl (ltb-true (length log) 8 short)))
    by false long None is = absurd (some (records_stop log log (take 8 log) (drop 8 log) [] refl (sym (take-append-drop 8 log)) (length-take-le 8 log (ltb-false (length log) 8 long)) is))
    by false long (Some f) is =
        let eight = length-take-le 8 log (ltb-false (length log) 8 long) in
        record { first = f; eight = eight; is = is; all = sym (records_more log log (take 8 log) (drop 8 log) [] f refl (sym (take-append-drop 8 log)) eight is) }

pub records_behind : (count : ℕ) (log rest : List ℕ) → length (log_records log) ≡ count → log_records (take (8 * count) log ++ rest) ≡ log_records log ++ log_records rest
records_behind zero log rest count = none (log_records log) count
  where
    none : (fs : List Failure) → length fs ≡ 0 → log_records rest ≡ fs ++ log_records rest
    none [] e = refl
    none (f ∷ fs) e = absurd (omega (arith, e))
records_behind (suc c) log rest count =
    let here = has_first c log count in
    let x = take 8 log in
    let left = drop 8 log in
    let behind = take (8 * c) left ++ rest in
    let fewer : length (log_records left) ≡ c = omega (arith, count, ap length here.all) in
    let cut : take (8 * suc c) log ≡ x ++ take (8 * c) left = ap (λ (k : ℕ). take k log) (eight_more c) ∙ take-add 8 (8 * c) log in
    ap (λ (xs : List ℕ). log_records (xs ++ rest)) cut
    ∙ ap log_records (append_assoc x (take (8 * c) left) rest)
    ∙ sym (records_more (x ++ behind) (x ++ behind) x behind [] here.first refl refl here.eight here.is)
    ∙ ap (λ (fs : List Failure). here.first ∷ fs) (records_behind c left rest fewer)
    ∙ ap (λ (fs : List Failure). fs ++ log_records rest) (sym here.all)
  where
    eight_more : (n : ℕ) → 8 * suc n ≡ 8 + 8 * n
    eight_more n = omega arith

-- ---- the gate behind the records

-- the log has so many records, and the gate behind them is there and closed
pub record IsGated (count : ℕ) (log : List ℕ) : Type 0 where
  pub records : length (log_records log) ≡ count
  pub within : gate_of log < length log
  pub closed : eqb (slice_index log (gate_of log)) 79 ≡ false

pub is_gated_by : (count : ℕ) (log : List ℕ) → appendable log ≡ Some count → IsGated count log
is_gated_by count log is = by (is_gated log) refl is
  where
    closed_gate : (t : Bool) → not t ≡ true → t ≡ false
    closed_gate true e = absurd cc
    closed_gate false e = refl

    by : (t : Bool) → is_gated log ≡ t → (if t then Some (length (log_records log)) else None) ≡ Some count → IsGated count log
    by true gated is =
        let all = and_parts (is_closed_at log (gate_of log)) (nat_lt 0 (length (log_records log)) && nat_lt (length (log_records log)) (2 ^ 32)) gated in
        let gate = and_parts (nat_lt (gate_of log) (length log)) (not (eqb (slice_index log (gate_of log)) 79)) all.0 in
        record { records = cc; within = ltb-true (gate_of log) (length log) gate.0; closed = closed_gate (eqb (slice_index log (gate_of log)) 79) gate.1 }
    by false none is = absurd cc

module _ (log : List ℕ) where
  -- what stands in front of the gate
  abbrev front : List ℕ
  front = take (gate_of log) log

  shut : (gate : ℕ) (rest : List ℕ) → eqb gate 79 ≡ false → log_records (front ++ gate ∷ rest) ≡ log_records log
  shut gate rest closed =
      records_behind (length (log_records log)) log (gate ∷ rest) refl
      ∙ ap (λ (fs : List Failure). log_records log ++ fs) (log_records-closed gate rest closed)
      ∙ append-nil (log_records log)

  opened : (f : Failure) (rest : List ℕ) → IsFailure f → log_records (front ++ (failure_bytes f ++ 0 ∷ rest)) ≡ log_records log ++ f ∷ []
  opened f rest fits =
      records_behind (length (log_records log)) log (failure_bytes f ++ 0 ∷ rest) refl
      ∙ ap (λ (fs : List Failure). log_records log ++ fs) (log_records-cons f (0 ∷ rest) fits ∙ ap (λ (fs : List Failure). f ∷ fs) (log_records-closed 0 rest refl))

  module _ (count : ℕ) (gated : IsGated count log) where
    -- bytes that are as the log up to its gate have its records
    pub same_records : (new : List ℕ) → take (gate_of log + 1) new ≡ take (gate_of log + 1) log → log_records new ≡ log_records log
    same_records new same =
        let rest = drop (gate_of log + 1) new in
        let gate = slice_index log (gate_of log) in
        ap log_records (sym (take-append-drop (gate_of log + 1) new)
        ∙ ap (λ (xs : List ℕ). xs ++ rest) (same ∙ take_more log (gate_of log) 0 gated.within)
        ∙ append_assoc front (gate ∷ []) rest)
        ∙ shut gate rest gated.closed

    up_to_gate : length (take (gate_of log + 1) log) ≡ gate_of log + 1
    up_to_gate = length-take-le (gate_of log + 1) log (omega (arith, gated.within))

    -- a write behind the gate leaves its front
    pub behind_same : (over : List ℕ) → take (gate_of log + 1) (written (gate_of log + 1) over log) ≡ take (gate_of log + 1) log
    behind_same over =
        let left = drop (gate_of log + 1 + length over) log in
        ap (take (gate_of log + 1)) (append_assoc (take (gate_of log + 1) log) over left)
        ∙ take_at (take (gate_of log + 1) log) (over ++ left) (gate_of log + 1) up_to_gate

    module _ (f : Failure) where
      abbrev rest : List ℕ
      rest = drop (gate_of log + 1 + 8) log

      -- the log with the record, and this gate
      pub gate_set : (gate : ℕ) → written (gate_of log) (gate ∷ []) (prepared f log) ≡ front ++ gate ∷ (behind_gate f ++ rest)
      gate_set gate =
          let short : length front ≡ gate_of log = length-take-le (gate_of log) log (omega (arith, gated.within)) in
          let whole : prepared f log ≡ take (gate_of log + 1) log ++ (behind_gate f ++ rest) = append_assoc (take (gate_of log + 1) log) (behind_gate f) rest in
          let ahead : take (gate_of log) (prepared f log) ≡ front =
          ap (take (gate_of log)) (whole
          ∙ ap (λ (xs : List ℕ). xs ++ (behind_gate f ++ rest)) (take_more log (gate_of log) 0 gated.within)
          ∙ append_assoc front (slice_index log (gate_of log) ∷ []) (behind_gate f ++ rest))
          ∙ take_at front (slice_index log (gate_of log) ∷ (behind_gate f ++ rest)) (gate_of log) short in
          let behind : drop (gate_of log + 1) (prepared f log) ≡ behind_gate f ++ rest =
          ap (drop (gate_of log + 1)) whole ∙ drop_at (take (gate_of log + 1) log) (behind_gate f ++ rest) (gate_of log + 1) up_to_gate in
          ap (λ (xs : List ℕ). (xs ++ gate ∷ []) ++ drop (gate_of log + 1) (prepared f log)) ahead
          ∙ ap (λ (xs : List ℕ). (front ++ gate ∷ []) ++ xs) behind
          ∙ append_assoc front (gate ∷ []) (behind_gate f ++ rest)

      -- closed, whatever it is, the records are the same; open, they are one more
      pub closed_records : (gate : ℕ) → eqb gate 79 ≡ false → log_records (written (gate_of log) (gate ∷ []) (prepared f log)) ≡ log_records log
      closed_records gate closed = ap log_records (gate_set gate) ∙ shut gate (behind_gate f ++ rest) closed

      pub one_more : IsFailure f → log_records (appended f log) ≡ log_records log ++ f ∷ []
      one_more fits = ap log_records (gate_set 79) ∙ opened f rest fits

      pub longer : gate_of log < length (prepared f log)
      longer = omega (arith, up_to_gate, ap length (behind_same (behind_gate f)), length-take (gate_of log + 1) (prepared f log))
