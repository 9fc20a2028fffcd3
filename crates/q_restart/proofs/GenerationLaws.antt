-- Names that spell generations.
use Rattle.std.proofs.Common.{◌≡◌, ◌≢◌, ◌+◌, ◌≤◌, ◌<◌, ◌^◌, ℕ, Bool, true, false, not, List, length, take, Option, Some, None, if◌then◌else◌, nat_eq, nat_lt, refl, sym, ap, ◌∙◌, arith}
use Rattle.std.specs.Prelude.{◌&&◌, bytes_eq, unwrap_or}
use Rattle.std.specs.Cmp.Lexicographic.{bytes_decides, pointwise}
use Rattle.std.specs.Str.Parse.{digits_value}
use Rattle.std.proofs.lemmas.Bool.{and_parts}
use Rattle.std.proofs.lemmas.Bool.Decides.{nat_tests}
use Rattle.std.proofs.lemmas.Slice.Eq.{bytes_eq-Decides}
use Rattle.q_model.specs.IdTexts.{hex, id_text}
use Rattle.q_model.specs.Texts.{is_name}
use Rattle.q_model.proofs.IdLaws.{id_text-IdParts, id_with, length-id_text}
use Rattle.q_model.proofs.NumberTexts.{bytes-spell, hex-Spells, length-spell, value-spell}
use Rattle.q_restart.specs.Generations.{generation_of}

pub is_name-hex : (g : ℕ) → is_name (hex 8 g) ≡ true
is_name-hex g = rw (length-spell hex-Spells 8 g, bytes-spell hex-Spells 8 g) refl

pub long_enough : (g : ℕ) (name bytes : List ℕ) → bytes ≡ name → name ≡ id_text (id_with g 1 false) → 8 ≤ length bytes
long_enough g name bytes same is = omega (arith, ap length same, ap length is, length-id_text (id_with g 1 false))

-- the front of an id's name is its generation's
pub front-hex : (g : ℕ) (name bytes front : List ℕ) (made : Option (List ℕ)) → bytes ≡ name → name ≡ id_text (id_with g 1 false) → front ≡ take 8 bytes → made ≡ (if is_name front then Some front else None) → unwrap_or made name ≡ hex 8 g
front-hex g name bytes front made same is cut new =
    let text : front ≡ hex 8 g = cut ∙ ap (take 8) (same ∙ is) ∙ (id_text-IdParts (id_with g 1 false)).generation in
    ap (λ (o : Option (List ℕ)). unwrap_or o name) (new ∙ ap (λ (x : List ℕ). if is_name x then Some x else None) text ∙ ap (λ (t : Bool). if t then Some (hex 8 g) else None) (is_name-hex g))

-- a generation is what its name spells
abbrev spelt : List ℕ → ℕ → Option ℕ
spelt name number = if nat_lt 0 number && nat_lt number (2 ^ 32) && bytes_eq name (hex 8 number) then Some number else None

tests : (a b c : Bool) (n : ℕ) → a ≡ true → b ≡ true → c ≡ true → (if a && b && c then Some n else None) ≡ Some n
tests true true true n ha hb hc = refl
tests false b c n ha hb hc = cc
tests a false c n ha hb hc = cc
tests a b false n ha hb hc = cc

pub generation_of-hex : (g : ℕ) → 0 < g → g < 2 ^ 32 → generation_of (hex 8 g) ≡ Some g
generation_of-hex g some fits =
    ap (spelt (hex 8 g)) (value-spell hex-Spells 8 g fits)
    ∙ tests (nat_lt 0 g) (nat_lt g (2 ^ 32)) (bytes_eq (hex 8 g) (hex 8 g)) g (grind (arith, nat_tests)) (grind (arith, nat_tests)) ((bytes_eq-Decides (hex 8 g) (hex 8 g)).1 refl)

pub record Spells (name : List ℕ) (g : ℕ) : Type 0 where
  pub some : 0 < g
  pub fits : g < 2 ^ 32
  pub is : name ≡ hex 8 g

spelt-by : (name : List ℕ) (number g : ℕ) (t : Bool) → (nat_lt 0 number && nat_lt number (2 ^ 32) && bytes_eq name (hex 8 number)) ≡ t → (if t then Some number else None) ≡ Some g → Spells name g
spelt-by name number g true e h =
    let same : number ≡ g = cc in
    let two = and_parts (nat_lt 0 number && nat_lt number (2 ^ 32)) (bytes_eq name (hex 8 number)) e in
    let one = and_parts (nat_lt 0 number) (nat_lt number (2 ^ 32)) two.0 in
    let a : 0 < number = grind (arith, nat_tests, one.0) in
    let b : number < 2 ^ 32 = grind (arith, nat_tests, one.1) in
    record { some = omega (arith, a, same); fits = omega (arith, b, same); is = (bytes_eq-Decides name (hex 8 number)).0 two.1 ∙ ap (hex 8) same }
spelt-by name number g false e h = absurd cc

pub spells : (name : List ℕ) (g : ℕ) → generation_of name ≡ Some g → Spells name g
spells name g h =
    let number = digits_value 16 name in
    spelt-by name number g (nat_lt 0 number && nat_lt number (2 ^ 32) && bytes_eq name (hex 8 number)) refl h

-- for the code: a number whose name this is
pub named : (g : ℕ) (name made : List ℕ) → (g ≡ 0 → ⊥) → g < 2 ^ 32 → made ≡ hex 8 g → not (pointwise nat_eq made name) ≡ false → Some g ≡ generation_of name
named g name made some fits is same =
    let eq : made ≡ name = (bytes_decides made name).0 (by (pointwise nat_eq made name) same) in
    sym (ap generation_of (sym eq ∙ is) ∙ generation_of-hex g (omega (arith, some)) fits)
  where
    by : (t : Bool) → not t ≡ false → t ≡ true
    by true e = refl
    by false e = cc

pub hex-same : (g h : ℕ) → g < 2 ^ 32 → h < 2 ^ 32 → hex 8 g ≡ hex 8 h → g ≡ h
hex-same g h hg hh e = sym (value-spell hex-Spells 8 g hg) ∙ ap (digits_value 16) e ∙ value-spell hex-Spells 8 h hh

pub next-differs : (g : ℕ) → g + 1 < 2 ^ 32 → hex 8 (g + 1) ≢ hex 8 g
next-differs g fits e = absurd (omega (arith, hex-same (g + 1) g fits (omega (arith, fits)) e))
