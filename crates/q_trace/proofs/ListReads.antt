-- The lists at the ends of lines, in both directions.
use Rattle.std.proofs.Common.{◌≡◌, ◌≤◌, ◌∙◌, ℕ, true, Option, Some, None, List, [], ◌∷◌, length, map, refl, sym, ap, subst, arith}
use Rattle.std.specs.List.{AllByRecursion}
use Rattle.std.specs.Prelude.{decimal, nat_le, option_map}
use Rattle.std.proofs.lemmas.Bool.{cond-true, le-leb, leb-true}
use Rattle.std.proofs.lemmas.List.{length-map}
use Rattle.q_model.specs.declared.outcome.SiteState.{SiteState}
use Rattle.q_model.specs.Text.{joined, outcome_text}
use Rattle.q_model.specs.Values.{Receiver}
use Rattle.q_model.proofs.RecordLaws.{map_some}
use Rattle.q_numbers.specs.Pieces.{one_or_more, words_in}
use Rattle.q_text.specs.ValueForms.{FitsBits, HasAddressForm, IsListOf, IsOutcomeAt}
use Rattle.q_text.specs.ValueTexts.{address_of, plain_of}
use Rattle.q_text.proofs.Exactness.{Exact, ExactPart}
use Rattle.q_text.proofs.NumberReads.{exact_address, exact_number32}
use Rattle.q_text.proofs.OutcomeReads.{exact_outcome}
use Rattle.q_text.proofs.WordReads.{guarded}
use Rattle.q_trace.specs.Bounds.{plain}
use Rattle.q_trace.specs.PartTexts.{addresses_of, outcomes_of, positions_of}
use Rattle.q_trace.proofs.Exactness.{exact_list, list_words}

pub exact_positions : Exact positions_of (IsListOf (FitsBits 32)) (λ xs. joined (map decimal xs))
exact_positions = exact_list exact_number32

pub exact_outcomes : (state : SiteState) → Exact (outcomes_of state) (IsListOf (IsOutcomeAt state)) (λ xs. joined (map outcome_text xs))
exact_outcomes state = exact_list (exact_outcome state)

-- a recipient that its address alone tells
abbrev IsPlain : Receiver → Type 0
IsPlain r = HasAddressForm r.address × (r.original ≡ None)

abbrev alone : List ℕ → Receiver
alone address = record { address = address; original = None }

exact_plain : ExactPart plain_of IsPlain (λ r. r.address)
exact_plain = record {
  exact = record {
    back = λ text r h.
        let (a, found, same) = map_some alone (address_of text) r h in
        let (is, written) = exact_address.exact.back text a found in
        let both : IsPlain (alone a) × (a ≡ text) = ((is, refl), written) in
        subst (λ (r : Receiver). IsPlain r × (r.address ≡ text)) same both;
    gives = λ r h. ap (option_map alone) (exact_address.exact.gives r.address h.0) ∙ ap (λ (o : Option (List ℕ)). Some (record { address = r.address; original = o })) (sym h.1);
  };
  solid = λ r h. exact_address.solid r.address h.0;
}

-- the words of recipients
abbrev pub addresses : List Receiver → List (List ℕ)
addresses to = map (λ r. r.address) to

-- at most 50,000 recipients
abbrev pub IsTo : List Receiver → Type 0
IsTo to = IsListOf IsPlain to × (length to ≤ 50000)

to_back : (text : List ℕ) (to : List Receiver) → addresses_of text ≡ Some to → IsTo to × (joined (addresses to) ≡ text)
to_back text to h =
    let (few, found) = guarded (nat_le (length (words_in text)) 50000) (one_or_more plain_of (words_in text)) to h in
    let (are, written) = (exact_list exact_plain).back text to found in
    let count : length (words_in text) ≡ length (addresses to) = ap length (ap words_in (sym written) ∙ list_words exact_plain to are) in
    ((are, omega (arith, leb-true (length (words_in text)) 50000 few, count, length-map to (λ (r : Receiver). r.address))), written)

to_gives : (to : List Receiver) → IsTo to → addresses_of (joined (addresses to)) ≡ Some to
to_gives to h =
    let same : words_in (joined (addresses to)) ≡ addresses to = list_words exact_plain to h.0 in
    let few : nat_le (length (words_in (joined (addresses to)))) 50000 ≡ true = le-leb (length (words_in (joined (addresses to)))) 50000 (omega (arith, ap length same, h.1, length-map to (λ (r : Receiver). r.address))) in
    cond-true (nat_le (length (words_in (joined (addresses to)))) 50000) (one_or_more plain_of (words_in (joined (addresses to)))) None few
    ∙ (exact_list exact_plain).gives to h.0

pub exact_to : Exact addresses_of IsTo (λ to. joined (addresses to))
exact_to = record { back = to_back; gives = to_gives }

-- ---- recipients and their addresses

forms_of : (to : List Receiver) → AllByRecursion IsPlain to → AllByRecursion HasAddressForm (addresses to)
forms_of [] h = tt
forms_of (r ∷ to) h = (h.0.0, forms_of to h.1)

pub to_forms : (to : List Receiver) → IsListOf IsPlain to → IsListOf HasAddressForm (addresses to)
to_forms to h = (omega (arith, h.0, length-map to (λ (r : Receiver). r.address)), forms_of to h.1)

plain_of_forms : (to : List Receiver) → AllByRecursion HasAddressForm (addresses to) → AllByRecursion IsPlain (map plain to)
plain_of_forms [] h = tt
plain_of_forms (r ∷ to) h = ((h.0, refl), plain_of_forms to h.1)

pub to_plain : (to : List Receiver) → IsListOf HasAddressForm (addresses to) → length to ≤ 50000 → IsTo (map plain to)
to_plain to h few =
    let count = length-map to plain in
    ((omega (arith, h.0, count, length-map to (λ (r : Receiver). r.address)), plain_of_forms to h.1), omega (arith, count, few))

-- their addresses are those that they had
pub plain_addresses : (to : List Receiver) → addresses to ≡ addresses (map plain to)
plain_addresses [] = refl
plain_addresses (r ∷ to) = ap (λ (ws : List (List ℕ)). r.address ∷ ws) (plain_addresses to)
