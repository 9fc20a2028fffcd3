-- The transport whose name a part of a line is.
use Rattle.std.proofs.Common.{◌≡◌, ◌<◌, ◌≤◌, ◌∙◌, ℕ, Bool, true, false, Option, Some, None, List, [], length, refl, ap, sym, arith}
use Rattle.std.specs.List.{position_or_len}
use Rattle.std.specs.Prelude.{bytes_eq, if◌then◌else◌, nat_lt, position}
use Rattle.std.proofs.lemmas.Bool.{lt-ltb, le-ltb}
use Rattle.std.proofs.lemmas.List.Sums.{position_or_len_is}
use Rattle.std.proofs.lemmas.Option.{unwrap_or-slice_get}
use Rattle.std.proofs.lemmas.Slice.Eq.{bytes_eq-Decides}
use Rattle.q_model.specs.Settings.{Table}
use Rattle.q_model.specs.Text.{transport_text}
use Rattle.q_model.specs.Texts.{is_hop}
use Rattle.q_trace.specs.PartTexts.{transport_of}

-- no transport below n has this name
abbrev pub IsNoneBelow : Table → List ℕ → ℕ → Type 0
IsNoneBelow table text n = (k : ℕ) → k < n → bytes_eq (transport_text table k) text ≡ false

place : (table : Table) (text : List ℕ) (n : ℕ) → n ≤ length table.transports → IsNoneBelow table text n
    → (n < length table.transports → bytes_eq (transport_text table n) text ≡ true) → position_or_len (λ name. bytes_eq name text) table.transports ≡ n
place table text n le none here =
    let names = table.transports in
    let test = λ (name : List ℕ). bytes_eq name text in
    position_or_len_is test names n [] le
    (λ k h. ap test (sym (unwrap_or-slice_get names k [])) ∙ none k h) (λ h. ap test (sym (unwrap_or-slice_get names n [])) ∙ here h)

pub found : (table : Table) (text : List ℕ) (n : ℕ) → n < length table.transports → IsNoneBelow table text n
    → bytes_eq (transport_text table n) text ≡ true → is_hop (transport_text table n) ≡ true → Some n ≡ transport_of table text
found table text n lt none here form =
    let formed : is_hop text ≡ true = ap is_hop (sym ((bytes_eq-Decides (transport_text table n) text).0 here)) ∙ form in
    rw (formed, place table text n (omega (arith, lt)) none (λ _. here), lt-ltb n (length table.transports) lt) refl

unless : (b : Bool) (o : Option ℕ) → None ≡ o → None ≡ (if b then o else None)
unless true o e = e
unless false o e = refl

pub none_found : (table : Table) (text : List ℕ) (n : ℕ) → n ≡ length table.transports → IsNoneBelow table text n → None ≡ transport_of table text
none_found table text n e none =
    let at : position_or_len (λ name. bytes_eq name text) table.transports ≡ n = place table text n (omega (arith, e)) none (λ lt. absurd (omega (arith, e, lt))) in
    let past : nat_lt n (length table.transports) ≡ false = le-ltb n (length table.transports) (omega (arith, e)) in
    unless (is_hop text) (position (λ name. bytes_eq name text) table.transports) (rw (at, past) refl)
