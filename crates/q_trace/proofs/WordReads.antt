-- What a part says, in both directions: causes of failure and transports.
use Rattle.std.proofs.Common.{◌≡◌, ◌<◌, ◌∙◌, ℕ, true, get_or, Option, Some, None, List, [], length, refl, sym, ap, arith}
use Rattle.std.specs.List.{list_all, position_or_len}
use Rattle.std.specs.Prelude.{bytes_eq, codes, nat_lt, position, unwrap_or}
use Rattle.std.proofs.lemmas.Bool.{cond-true, ltb-true}
use Rattle.std.proofs.lemmas.List.Sums.{passes_at_first}
use Rattle.std.proofs.lemmas.Option.{cond_some, unwrap_or-slice_get}
use Rattle.std.proofs.lemmas.Slice.Eq.{bytes_eq-Decides}
use Rattle.q_model.specs.declared.outcome.Why.{Why}
use Rattle.q_model.specs.declared.outcome.Why.TheVariants.{Expired, Refused}
use Rattle.q_model.specs.TextParts.{why_text}
use Rattle.q_model.specs.Settings.{Table}
use Rattle.q_model.specs.Text.{transport_text}
use Rattle.q_model.specs.Texts.{is_hop}
use Rattle.q_text.proofs.Exactness.{ExactPart}
use Rattle.q_text.proofs.SolidTexts.{hop_is_solid, is_solid}
use Rattle.q_text.proofs.WordReads.{guarded, no_words, word_or}
use Rattle.q_transport.specs.Names.{number_of}
use Rattle.q_trace.specs.Bounds.{IsTransport}
use Rattle.q_trace.specs.PartTexts.{transport_of, why_of_text}

why_back : (text : List ℕ) (why : Why) → why_of_text text ≡ Some why → Unit {0} × (why_text why ≡ text)
why_back text why h =
    word_or text (codes "refused") Refused why _ (Unit {0} × (why_text why ≡ text)) h (λ e same. (tt, ap why_text (sym same) ∙ sym e))
    (λ _ k. word_or text (codes "expired") Expired why None (Unit {0} × (why_text why ≡ text)) k (λ e same. (tt, ap why_text (sym same) ∙ sym e)) (λ _ n. no_words why _ n))

why_gives : (why : Why) → Unit {0} → why_of_text (why_text why) ≡ Some why
why_gives Refused h = refl
why_gives Expired h = refl

why_solid : (why : Why) → Unit {0} → list_all is_solid (why_text why) ≡ true
why_solid Refused h = refl
why_solid Expired h = refl

pub exact_why : ExactPart why_of_text (λ _. Unit {0}) why_text
exact_why = record { exact = record { back = why_back; gives = why_gives }; solid = why_solid }

-- the first transport of a name
transport_back : (table : Table) (text : List ℕ) (n : ℕ) → transport_of table text ≡ Some n → IsTransport table n × (transport_text table n ≡ text)
transport_back table text n h =
    let names = table.transports in
    let test = λ (name : List ℕ). bytes_eq name text in
    let (formed, found) = guarded (is_hop text) (position test names) n h in
    let (within, same) = cond_some (nat_lt (position_or_len test names) (length names)) (position_or_len test names) n found in
    let lt : position_or_len test names < length names = ltb-true (position_or_len test names) (length names) within in
    let passes : bytes_eq (get_or names n []) text ≡ true = ap (λ (k : ℕ). test (get_or names k [])) (sym same) ∙ passes_at_first test names [] lt in
    let written : transport_text table n ≡ text = unwrap_or-slice_get names n [] ∙ (bytes_eq-Decides (get_or names n []) text).0 passes in
    let first : number_of names (transport_text table n) ≡ n = ap (number_of names) written ∙ ap (λ (o : Option ℕ). unwrap_or o (length names)) found in
    ((omega (arith, lt, same), first, ap is_hop written ∙ formed), written)

placed : (o : Option ℕ) (len n : ℕ) → unwrap_or o len ≡ n → n < len → o ≡ Some n
placed None len n e lt = absurd (omega (arith, e, lt))
placed (Some k) len n e lt = ap Some e

transport_gives : (table : Table) (n : ℕ) → IsTransport table n → transport_of table (transport_text table n) ≡ Some n
transport_gives table n h =
    let names = table.transports in
    let name = transport_text table n in
    let o = position (λ (other : List ℕ). bytes_eq other name) names in
    cond-true (is_hop name) o None h.2 ∙ placed o (length names) n h.1 h.0

pub exact_transport : (table : Table) → ExactPart (transport_of table) (IsTransport table) (transport_text table)
exact_transport table = record {
  exact = record { back = transport_back table; gives = transport_gives table };
  solid = λ n h. hop_is_solid (transport_text table n) h.2;
}
