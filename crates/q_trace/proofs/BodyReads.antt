-- What stands behind the first word of a line, in both directions.
use Rattle.std.proofs.Common.{◌≡◌, ◌≤◌, ◌<◌, ◌^◌, ◌∙◌, ℕ, true, Option, Some, List, [], ◌∷◌, ◌++◌, map, ap, subst, arith}
use Rattle.std.specs.Prelude.{decimal, option_map}
use Rattle.q_numbers.specs.Numbers.{number32_of, number64_of, number_within}
use Rattle.q_text.specs.ValueForms.{FitsBits, IsListOf, IsOutcomeAt, IsSender}
use Rattle.q_text.specs.ValueTexts.{sender_of_text, state_of_text}
use Rattle.q_text.proofs.Exactness.{Exact, exact_last}
use Rattle.q_text.proofs.NumberReads.{exact_number, exact_number32, exact_number64}
use Rattle.q_text.proofs.WordReads.{exact_sender, exact_state}
use Rattle.q_model.proofs.RecordLaws.{map_some}
use Rattle.q_model.specs.declared.entry.Entry.{Entry}
use Rattle.q_model.specs.IdTexts.{id_text, IsId}
use Rattle.q_model.specs.TextParts.{why_text}
use Rattle.q_model.specs.Settings.{Table}
use Rattle.q_model.specs.Text.{joined, outcome_text, sender_text, state_text, transport_text, words}
use Rattle.q_model.specs.Texts.{is_hop}
use Rattle.q_trace.specs.Bounds.{IsEntry, IsTransport}
use Rattle.q_trace.specs.Parts.{then_read}
use Rattle.q_trace.specs.PartTexts.{addresses_of, hop_of, id_of, outcomes_of, positions_of, size_of, transport_of, why_of_text}
use Rattle.q_trace.proofs.Exactness.{exact_then}
use Rattle.q_trace.proofs.ListReads.{addresses, exact_outcomes, exact_positions, exact_to, IsTo}
use Rattle.q_trace.proofs.ValueReads.{exact_hop, exact_id, exact_size}
use Rattle.q_trace.proofs.WordReads.{exact_transport, exact_why}

pub exact_load : Exact (then_read id_of (λ _. then_read number32_of (λ _. number32_of))) (λ v. IsId v.0 × (FitsBits 32 v.1.0 × FitsBits 32 v.1.1))
    (λ v. id_text v.0 ++ 32 ∷ (decimal v.1.0 ++ 32 ∷ (decimal v.1.1 ++ [])))
exact_load = exact_then exact_id (λ _. exact_then exact_number32 (λ _. exact_last exact_number32.exact))

pub exact_mark : Exact (then_read id_of (λ _. number32_of)) (λ v. IsId v.0 × FitsBits 32 v.1) (λ v. id_text v.0 ++ 32 ∷ (decimal v.1 ++ []))
exact_mark = exact_then exact_id (λ _. exact_last exact_number32.exact)

pub exact_defer : Exact (then_read id_of (λ _. number_within 0 999999999999)) (λ v. IsId v.0 × (v.1 < 10 ^ 12)) (λ v. id_text v.0 ++ 32 ∷ (decimal v.1 ++ []))
exact_defer = exact_then exact_id (λ _. exact_last (exact_number 0 999999999999 (λ n. n < 10 ^ 12) (omega arith) (λ n a b. omega (arith, b)) (λ n h. (omega arith, omega (arith, h)))).exact)

pub exact_moment : Exact (number_within 0 999990000000) (λ n. n ≤ 999990000000) (λ n. decimal n ++ [])
exact_moment = exact_last (exact_number 0 999990000000 (λ n. n ≤ 999990000000) (omega arith) (λ n a b. b) (λ n h. (omega arith, h))).exact

pub exact_log : Exact (then_read id_of (λ _. then_read number32_of (λ _. then_read why_of_text (λ _. number_within 0 65535))))
    (λ v. IsId v.0 × (FitsBits 32 v.1.0 × (Unit {0} × FitsBits 16 v.1.1.1))) (λ v. id_text v.0 ++ 32 ∷ (decimal v.1.0 ++ 32 ∷ (why_text v.1.1.0 ++ 32 ∷ (decimal v.1.1.1 ++ []))))
exact_log =
    exact_then exact_id (λ _. exact_then exact_number32 (λ _. exact_then exact_why (λ _.
    exact_last (exact_number 0 65535 (FitsBits 16) (omega arith) (λ n a b. omega (arith, b)) (λ n h. (omega arith, omega (arith, h)))).exact)))

pub exact_preempt : (table : Table) → Exact (then_read id_of (λ _. then_read id_of (λ _. then_read (transport_of table) (λ _. number32_of))))
    (λ v. IsId v.0 × (IsId v.1.0 × (IsTransport table v.1.1.0 × FitsBits 32 v.1.1.1)))
    (λ v. id_text v.0 ++ 32 ∷ (id_text v.1.0 ++ 32 ∷ (transport_text table v.1.1.0 ++ 32 ∷ (decimal v.1.1.1 ++ []))))
exact_preempt table = exact_then exact_id (λ _. exact_then exact_id (λ _. exact_then (exact_transport table) (λ _. exact_last exact_number32.exact)))

pub exact_arrive : Exact (then_read id_of (λ _. then_read sender_of_text (λ _. then_read size_of (λ _. addresses_of))))
    (λ v. IsId v.0 × (IsSender v.1.0 × ((v.1.1.0 ≤ 10240000) × IsTo v.1.1.1)))
    (λ v. id_text v.0 ++ 32 ∷ (sender_text v.1.0 ++ 32 ∷ (decimal v.1.1.0 ++ 32 ∷ joined (addresses v.1.1.1))))
exact_arrive = exact_then exact_id (λ _. exact_then exact_sender (λ _. exact_then exact_size (λ _. exact_to)))

pub exact_skip : (table : Table) → Exact (then_read id_of (λ _. then_read (transport_of table) (λ _. then_read hop_of (λ _. positions_of))))
    (λ v. IsId v.0 × (IsTransport table v.1.0 × ((is_hop v.1.1.0 ≡ true) × IsListOf (FitsBits 32) v.1.1.1)))
    (λ v. id_text v.0 ++ 32 ∷ (transport_text table v.1.0 ++ 32 ∷ (v.1.1.0 ++ 32 ∷ joined (map decimal v.1.1.1))))
exact_skip table = exact_then exact_id (λ _. exact_then (exact_transport table) (λ _. exact_then exact_hop (λ _. exact_positions)))

pub exact_start : (table : Table)
    → Exact (then_read number64_of (λ _. then_read id_of (λ _. then_read (transport_of table) (λ _. then_read hop_of (λ _. positions_of)))))
    (λ v. FitsBits 64 v.0 × (IsId v.1.0 × (IsTransport table v.1.1.0 × ((is_hop v.1.1.1.0 ≡ true) × IsListOf (FitsBits 32) v.1.1.1.1))))
    (λ v. decimal v.0 ++ 32 ∷ (id_text v.1.0 ++ 32 ∷ (transport_text table v.1.1.0 ++ 32 ∷ (v.1.1.1.0 ++ 32 ∷ joined (map decimal v.1.1.1.1)))))
exact_start table = exact_then exact_number64 (λ _. exact_skip table)

pub exact_reply : Exact (then_read number64_of (λ _. then_read state_of_text outcomes_of)) (λ v. FitsBits 64 v.0 × (Unit {0} × IsListOf (IsOutcomeAt v.1.0) v.1.1))
    (λ v. decimal v.0 ++ 32 ∷ (state_text v.1.0 ++ 32 ∷ joined (map outcome_text v.1.1)))
exact_reply = exact_then exact_number64 (λ _. exact_then exact_state exact_outcomes)

-- what stands behind this word is read as an entry with this line
pub record IsBody (table : Table) (word : List ℕ) (read : List ℕ → Option Entry) : Type 0 where
  pub back : (text : List ℕ) (e : Entry) → read text ≡ Some e → IsEntry table e × (joined (words table e) ≡ word ++ 32 ∷ text)

pub body_from : {A : Type 0} {read : List ℕ → Option A} {is : A → Type 0} {write : A → List ℕ} (table : Table) (word : List ℕ) (make : A → Entry) → Exact read is write
    → ((a : A) → is a → IsEntry table (make a)) → ((a : A) → is a → joined (words table (make a)) ≡ word ++ 32 ∷ write a) → IsBody table word (λ text. option_map make (read text))
body_from {A} {read} {is} {write} table word make exact fits line = record {
  back = λ text e h.
      let (a, found, same) = map_some make (read text) e h in
      let (is_one, written) = exact.back text a found in
      subst (λ (e : Entry). IsEntry table e × (joined (words table e) ≡ word ++ 32 ∷ text)) same (fits a is_one, line a is_one ∙ ap (λ (x : List ℕ). word ++ 32 ∷ x) written);
}
