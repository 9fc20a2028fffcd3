-- The id that a part of a line says, in both directions.
use Rattle.std.proofs.Common.{◌≡◌, ◌≢◌, ◌+◌, ◌∙◌, ℕ, Bool, true, false, Option, Some, None, IfSome, IfNone, List, length, take, drop, refl, ap, sym, subst, arith}
use Rattle.std.specs.Prelude.{◌&&◌, bytes_eq, if◌then◌else◌, nat_lt}
use Rattle.std.specs.Str.Parse.{digits_value}
use Rattle.std.proofs.lemmas.Bool.{and_from, and_parts, cond-true, lt-ltb, ltb-true}
use Rattle.std.proofs.lemmas.List.{drop-drop}
use Rattle.std.proofs.lemmas.Option.{cond_some}
use Rattle.std.proofs.lemmas.Slice.Eq.{bytes_eq-Decides}
use Rattle.q_model.specs.declared.id.Id.{Id}
use Rattle.q_model.specs.IdTexts.{hex, id_text, IsId}
use Rattle.q_model.specs.Texts.{is_name}
use Rattle.q_model.proofs.IdLaws.{id_text-IdParts, is_name-id_text, length-id_text, same_id, tail_of}
use Rattle.q_model.proofs.NumberTexts.{hex-Spells, value-spell}
use Rattle.q_trace.specs.PartTexts.{id_like, id_of, is_id}

is_id-true : (id : Id) → is_id id ≡ true → IsId id
is_id-true id h =
    let (three, d) = and_parts (nat_lt 0 id.generation && nat_lt id.generation 4294967296 && nat_lt 0 id.serial) (nat_lt id.serial 4294967296) h in
    let (two, c) = and_parts (nat_lt 0 id.generation && nat_lt id.generation 4294967296) (nat_lt 0 id.serial) three in
    let (a, b) = and_parts (nat_lt 0 id.generation) (nat_lt id.generation 4294967296) two in
    record {
      generation = omega (arith, ltb-true 0 id.generation a);
      generation_fits = ltb-true id.generation 4294967296 b;
      serial = omega (arith, ltb-true 0 id.serial c);
      serial_fits = ltb-true id.serial 4294967296 d;
    }

is_id-from : (id : Id) → IsId id → is_id id ≡ true
is_id-from id h =
    and_from (nat_lt 0 id.generation && nat_lt id.generation 4294967296 && nat_lt 0 id.serial) (nat_lt id.serial 4294967296)
    (and_from (nat_lt 0 id.generation && nat_lt id.generation 4294967296) (nat_lt 0 id.serial)
    (and_from (nat_lt 0 id.generation) (nat_lt id.generation 4294967296) (lt-ltb 0 id.generation (omega (arith, h.generation))) (lt-ltb id.generation 4294967296 h.generation_fits))
    (lt-ltb 0 id.serial (omega (arith, h.serial)))) (lt-ltb id.serial 4294967296 h.serial_fits)

bounce_is : (n : ℕ) (b : Bool) → n ≡ 17 + length (tail_of b) → nat_lt 17 n ≡ b
bounce_is n true e = lt-ltb 17 n (omega (arith, e))
bounce_is n false e = ap (nat_lt 17) e

-- the digits in the text of an id are that id's
like_itself : (id : Id) → IsId id → id_like (id_text id) ≡ id
like_itself id h =
    let p = id_text-IdParts id in
    let text = id_text id in
    let serial : take 8 (drop 9 text) ≡ hex 8 id.serial = ap (take 8) (sym (drop-drop 1 8 text)) ∙ p.serial in
    same_id (id_like text) id
    (ap (digits_value 16) p.generation ∙ value-spell hex-Spells 8 id.generation h.generation_fits)
    (ap (digits_value 16) serial ∙ value-spell hex-Spells 8 id.serial h.serial_fits)
    (bounce_is (length text) id.bounce (length-id_text id))

pub id_back : (text : List ℕ) (id : Id) → id_of text ≡ Some id → IsId id × (id_text id ≡ text)
unfolding id_of
id_back text id h =
    let like = id_like text in
    let (passes, same) = cond_some (is_id like && bytes_eq (id_text like) text) like id h in
    let (lawful, equal) = and_parts (is_id like) (bytes_eq (id_text like) text) passes in
    (subst IsId same (is_id-true like lawful), ap id_text (sym same) ∙ (bytes_eq-Decides (id_text like) text).0 equal)

chosen : (like id : Id) (text : List ℕ) → like ≡ id → is_id id ≡ true → bytes_eq (id_text id) text ≡ true → (if is_id like && bytes_eq (id_text like) text then Some like else None) ≡ Some id
chosen like id text e a b = rw e (cond-true (is_id id && bytes_eq (id_text id) text) (Some id) None (and_from (is_id id) (bytes_eq (id_text id) text) a b))

pub id_gives : (id : Id) → IsId id → id_of (id_text id) ≡ Some id
unfolding id_of
id_gives id h =
    let text = id_text id in
    chosen (id_like text) id text (like_itself id h) (is_id-from id h) ((bytes_eq-Decides text text).1 refl)

none_is : (text : List ℕ) (o : Option Id) → o ≡ id_of text → ((id : Id) → IsId id → id_text id ≢ text) → None ≡ id_of text
none_is text None e h = e
none_is text (Some id) e h = let (is, same) = id_back text id (sym e) in absurd (h id is same)

-- what `q_model` says of a name is what a part says
pub id_answer : (text : List ℕ) (r : Option Id) → IfSome r (λ id. IsId id × (id_text id ≡ text)) → IfNone r ((id : Id) → IsId id → id_text id ≢ text) → r ≡ id_of text
id_answer text (Some id) some none = sym (ap id_of (sym some.1) ∙ id_gives id some.0)
id_answer text None some none = none_is text (id_of text) refl none

not_both : (b : Bool) (text : List ℕ) → None ≡ (if b then Some text else None) → b ≡ true → ⊥
not_both true text e h = cc
not_both false text e h = cc

-- what is no name is no id
pub no_name : (text : List ℕ) → None ≡ (if is_name text then Some text else None) → None ≡ id_of text
no_name text e = none_is text (id_of text) refl (λ id is same. not_both (is_name text) text e (ap is_name (sym same) ∙ is_name-id_text id))

pub name_is : (b : Bool) (name text : List ℕ) → Some name ≡ (if b then Some text else None) → name ≡ text
name_is true name text e = cc
name_is false name text e = absurd (cc)
