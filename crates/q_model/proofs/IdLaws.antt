-- The texts of ids: they are names, their parts, and that each is the text of one id alone.
use Rattle.std.proofs.Common.{◌≡◌, ◌≤◌, ◌<◌, ◌+◌, ◌^◌, ℕ, Bool, true, false, not, Option, Some, List, [], ◌∷◌, ◌++◌, length, take, drop, if◌then◌else◌, Decides, refl, ap, sym, subst, ◌∙◌, append_assoc, arith, length-append}
use Rattle.std.proofs.lemmas.Bool.{eq-eqb, eqb-true}
use Rattle.std.proofs.lemmas.Bool.Decides.{nat_tests}
use Rattle.std.proofs.lemmas.List.{take_at, drop_at}
use Rattle.std.proofs.lemmas.List.Folds.{list_all-append}
use Rattle.std.proofs.lemmas.Option.{same_Some}
use Rattle.std.proofs.lemmas.Slice.Eq.{bytes_eq-Decides}
use Rattle.std.specs.List.{list_all}
use Rattle.std.specs.Str.Parse.{digits_value}
use Rattle.std.specs.Prelude.{◌&&◌, ◌==◌, bytes_eq, nat_le}
use Rattle.q_model.specs.declared.id.Id.{Id}
use Rattle.q_model.specs.Sites.{site_eq}
use Rattle.q_model.specs.Ids.{bool_eq, id_eq}
use Rattle.q_model.specs.IdTexts.{decimals, due_text, hex, id_text, IsId}
use Rattle.q_model.specs.Texts.{is_name, is_name_byte}
use Rattle.q_model.specs.Values.{Site}
use Rattle.q_model.proofs.NumberTexts.{bytes-spell, decimals-Spells, hex-Spells, length-spell, value-spell}

-- what stands behind the serial
abbrev pub tail_of : Bool → List ℕ
tail_of bounce = if bounce then 98 ∷ [] else []

tail_bytes : (b : Bool) → list_all is_name_byte (tail_of b) ≡ true
tail_bytes true = refl
tail_bytes false = refl

length-tail : (b : Bool) → length (tail_of b) ≤ 1
length-tail true = omega arith
length-tail false = omega arith

tail_same : (a b : Bool) → tail_of a ≡ tail_of b → a ≡ b
tail_same true true e = refl
tail_same true false e = cc
tail_same false true e = cc
tail_same false false e = refl

-- the text of an id has 17 bytes, or 18
pub length-id_text : (id : Id) → length (id_text id) ≡ 17 + length (tail_of id.bounce)
length-id_text id =
    let g = hex 8 id.generation in
    let s = hex 8 id.serial in
    omega (arith, length-append (g ++ 45 ∷ s) (tail_of id.bounce), length-append g (45 ∷ s), length-spell hex-Spells 8 id.generation, length-spell hex-Spells 8 id.serial)

pub length-id_text-le : (id : Id) → length (id_text id) ≤ 18
length-id_text-le id = omega (arith, length-id_text id, length-tail id.bounce)

pub length-due_text : (due : ℕ) (id : Id) → length (due_text due id) ≡ 13 + length (id_text id)
length-due_text due id = omega (arith, length-append (decimals 12 due) (45 ∷ id_text id), length-spell decimals-Spells 12 due)

bytes-id_text : (id : Id) → list_all is_name_byte (id_text id) ≡ true
bytes-id_text id =
    let g = hex 8 id.generation in
    let s = hex 8 id.serial in
    list_all-append is_name_byte (g ++ 45 ∷ s) (tail_of id.bounce)
    ∙ rw (list_all-append is_name_byte g (45 ∷ s), bytes-spell hex-Spells 8 id.generation, bytes-spell hex-Spells 8 id.serial, tail_bytes id.bounce) refl

bytes-due_text : (due : ℕ) (id : Id) → list_all is_name_byte (due_text due id) ≡ true
bytes-due_text due id =
    list_all-append is_name_byte (decimals 12 due) (45 ∷ id_text id) ∙ rw (bytes-spell decimals-Spells 12 due, bytes-id_text id) refl

name_of : (n : ℕ) (b : Bool) → 1 ≤ n → n ≤ 40 → b ≡ true → (nat_le 1 n && nat_le n 40 && b) ≡ true
name_of n true h k e = grind (arith, nat_tests)
name_of n false h k e = cc

-- both texts are names of files
pub is_name-id_text : (id : Id) → is_name (id_text id) ≡ true
is_name-id_text id =
    name_of (length (id_text id)) (list_all is_name_byte (id_text id)) (omega (arith, length-id_text id)) (omega (arith, length-id_text-le id)) (bytes-id_text id)

pub is_name-due_text : (due : ℕ) (id : Id) → is_name (due_text due id) ≡ true
is_name-due_text due id =
    name_of (length (due_text due id)) (list_all is_name_byte (due_text due id))
    (omega (arith, length-due_text due id)) (omega (arith, length-due_text due id, length-id_text-le id)) (bytes-due_text due id)

-- where the parts of an id's text lie
pub record IdParts (id : Id) (text : List ℕ) : Type 0 where
  pub generation : take 8 text ≡ hex 8 id.generation
  pub serial : take 8 (drop 1 (drop 8 text)) ≡ hex 8 id.serial
  pub tail : drop 8 (drop 1 (drop 8 text)) ≡ tail_of id.bounce

pub id_text-IdParts : (id : Id) → IdParts id (id_text id)
id_text-IdParts id =
    let g = hex 8 id.generation in
    let s = hex 8 id.serial in
    let t = tail_of id.bounce in
    let whole : id_text id ≡ g ++ (45 ∷ (s ++ t)) = append_assoc g (45 ∷ s) t in
    let behind : drop 1 (drop 8 (id_text id)) ≡ s ++ t = ap (λ (x : List ℕ). drop 1 (drop 8 x)) whole ∙ ap (drop 1) (drop_at g (45 ∷ (s ++ t)) 8 (length-spell hex-Spells 8 id.generation)) in
    record {
      generation = ap (take 8) whole ∙ take_at g (45 ∷ (s ++ t)) 8 (length-spell hex-Spells 8 id.generation);
      serial = ap (take 8) behind ∙ take_at s t 8 (length-spell hex-Spells 8 id.serial);
      tail = ap (drop 8) behind ∙ drop_at s t 8 (length-spell hex-Spells 8 id.serial);
    }

abbrev pub id_with : ℕ → ℕ → Bool → Id
id_with g s b = record { generation = g; serial = s; bounce = b }

pub same_id : (a b : Id) → a.generation ≡ b.generation → a.serial ≡ b.serial → a.bounce ≡ b.bounce → a ≡ b
same_id a b g s t = ap (λ x. id_with x a.serial a.bounce) g ∙ ap (λ x. id_with b.generation x a.bounce) s ∙ ap (λ x. id_with b.generation b.serial x) t

-- what the pieces hold into which a text is cut that is an id's
pub hex_generation : (id : Id) (bytes generation : List ℕ) → id_text id ≡ bytes → generation ≡ take 8 bytes → hex 8 id.generation ≡ generation
hex_generation id bytes generation e g = sym (g ∙ ap (take 8) (sym e) ∙ (id_text-IdParts id).generation)

pub hex_serial : (id : Id) (bytes behind_generation behind_dash serial : List ℕ) → id_text id ≡ bytes → behind_generation ≡ drop 8 bytes → behind_dash ≡ drop 1 behind_generation
    → serial ≡ take 8 behind_dash → hex 8 id.serial ≡ serial
hex_serial id bytes behind_generation behind_dash serial e g d s =
    sym (s ∙ ap (take 8) (d ∙ ap (drop 1) (g ∙ ap (drop 8) (sym e))) ∙ (id_text-IdParts id).serial)

pub tail_piece : (id : Id) (bytes behind_generation behind_dash tail : List ℕ) → id_text id ≡ bytes → behind_generation ≡ drop 8 bytes → behind_dash ≡ drop 1 behind_generation
    → tail ≡ drop 8 behind_dash → tail ≡ tail_of id.bounce
tail_piece id bytes behind_generation behind_dash tail e g d t = t ∙ ap (drop 8) (d ∙ ap (drop 1) (g ∙ ap (drop 8) (sym e))) ∙ (id_text-IdParts id).tail

has_tail : (b : Bool) → not (length (tail_of b) == 0) ≡ b
has_tail true = refl
has_tail false = refl

-- an id that is read from the pieces is the id whose text they make
pub id_from_pieces : (id : Id) (generation serial : ℕ) (tail : List ℕ) (empty : Bool) → tail ≡ tail_of id.bounce → empty ≡ (length tail == 0) → Some generation ≡ Some id.generation → Some serial ≡ Some id.serial
    → Some (id_with generation serial (not empty)) ≡ Some id
id_from_pieces id generation serial tail empty e t g s =
    let bounce : not empty ≡ id.bounce = ap not (t ∙ ap (λ (x : List ℕ). length x == 0) e) ∙ has_tail id.bounce in
    ap Some (same_id (id_with generation serial (not empty)) id (same_Some generation id.generation g) (same_Some serial id.serial s) bounce)

hex_same : (m n : ℕ) → m < 2 ^ 32 → n < 2 ^ 32 → hex 8 m ≡ hex 8 n → m ≡ n
hex_same m n h k e = sym (value-spell hex-Spells 8 m h) ∙ ap (digits_value 16) e ∙ value-spell hex-Spells 8 n k

-- what the pieces hold into which a text is cut that is a due time's and an id's
pub decimals_due : (due : ℕ) (id : Id) (bytes digits : List ℕ) → due_text due id ≡ bytes → digits ≡ take 12 bytes → decimals 12 due ≡ digits
decimals_due due id bytes digits e d = sym (d ∙ ap (take 12) (sym e) ∙ take_at (decimals 12 due) (45 ∷ id_text id) 12 (length-spell decimals-Spells 12 due))

pub id_piece : (due : ℕ) (id : Id) (bytes behind_due behind_dash : List ℕ) → due_text due id ≡ bytes → behind_due ≡ drop 12 bytes → behind_dash ≡ drop 1 behind_due → id_text id ≡ behind_dash
id_piece due id bytes behind_due behind_dash e g d =
    sym (d ∙ ap (drop 1) (g ∙ ap (drop 12) (sym e) ∙ drop_at (decimals 12 due) (45 ∷ id_text id) 12 (length-spell decimals-Spells 12 due)))

pub due_from_pieces : (due n : ℕ) (id i : Id) → Some n ≡ Some due → Some i ≡ Some id → ◌≡◌ {A = Option (ℕ × Id)} (Some (n, i)) (Some (due, id))
due_from_pieces due n id i d e = cc

-- no two ids have the same text
pub id_text-injective : (a b : Id) → IsId a → IsId b → id_text a ≡ id_text b → a ≡ b
id_text-injective a b h k e =
    let p = id_text-IdParts a in
    let q = id_text-IdParts b in
    same_id a b
    (hex_same a.generation b.generation h.generation_fits k.generation_fits (sym p.generation ∙ ap (take 8) e ∙ q.generation))
    (hex_same a.serial b.serial h.serial_fits k.serial_fits (sym p.serial ∙ ap (λ (x : List ℕ). take 8 (drop 1 (drop 8 x))) e ∙ q.serial))
    (tail_same a.bounce b.bounce (sym p.tail ∙ ap (λ (x : List ℕ). drop 8 (drop 1 (drop 8 x))) e ∙ q.tail))

decimals_same : (m n : ℕ) → m < 10 ^ 12 → n < 10 ^ 12 → decimals 12 m ≡ decimals 12 n → m ≡ n
decimals_same m n h k e = sym (value-spell decimals-Spells 12 m h) ∙ ap (digits_value 10) e ∙ value-spell decimals-Spells 12 n k

-- no two pairs of a due time and an id have the same text
pub due_text-injective : (m n : ℕ) (a b : Id) → m < 10 ^ 12 → n < 10 ^ 12 → IsId a → IsId b → due_text m a ≡ due_text n b → (m ≡ n) × (a ≡ b)
due_text-injective m n a b h k p q e =
    let same_due : decimals 12 m ≡ decimals 12 n = decimals_due m a (due_text n b) (take 12 (due_text n b)) e refl ∙ sym (decimals_due n b (due_text n b) (take 12 (due_text n b)) refl refl) in
    let same_text : id_text a ≡ id_text b =
    id_piece m a (due_text n b) (drop 12 (due_text n b)) (drop 1 (drop 12 (due_text n b))) e refl refl
    ∙ sym (id_piece n b (due_text n b) (drop 12 (due_text n b)) (drop 1 (drop 12 (due_text n b))) refl refl refl) in
    (decimals_same m n h k same_due, id_text-injective a b p q same_text)

bool_same : (a b : Bool) → bool_eq a b ≡ true → a ≡ b
bool_same true true e = refl
bool_same true false e = cc
bool_same false true e = cc
bool_same false false e = refl

bool_eq-refl : (b : Bool) → bool_eq b b ≡ true
bool_eq-refl true = refl
bool_eq-refl false = refl

first : (a b : Bool) → (a && b) ≡ true → a ≡ true
first true b h = refl
first false b h = h

second : (a b : Bool) → (a && b) ≡ true → b ≡ true
second true b h = h
second false b h = cc

-- `id_eq` tells whether two ids are the same
pub id_eq-refl : (a : Id) → id_eq a a ≡ true
id_eq-refl a = rw (eq-eqb a.generation a.generation refl, eq-eqb a.serial a.serial refl, bool_eq-refl a.bounce) refl

pub id_eq-true : (a b : Id) → id_eq a b ≡ true → a ≡ b
id_eq-true a b h =
    let g = a.generation == b.generation in
    let s = a.serial == b.serial in
    let numbers : (g && s) ≡ true = first (g && s) (bool_eq a.bounce b.bounce) h in
    same_id a b (eqb-true a.generation b.generation (first g s numbers)) (eqb-true a.serial b.serial (second g s numbers))
    (bool_same a.bounce b.bounce (second (g && s) (bool_eq a.bounce b.bounce) h))

pub id_eq-Decides : (a b : Id) → Decides (id_eq a b) (a ≡ b)
id_eq-Decides a b = (id_eq-true a b, λ e. subst (λ (x : Id). id_eq a x ≡ true) e (id_eq-refl a))

-- `site_eq` tells whether two sites are the same
pub site_eq-refl : (a : Site) → site_eq a a ≡ true
site_eq-refl a = rw (eq-eqb a.transport a.transport refl, (bytes_eq-Decides a.hop a.hop).1 refl) refl

abbrev site_with : ℕ → List ℕ → Site
site_with t h = record { transport = t; hop = h }

pub site_eq-true : (a b : Site) → site_eq a b ≡ true → a ≡ b
site_eq-true a b h =
    let t = a.transport == b.transport in
    let same_hop = bytes_eq a.hop b.hop in
    ap (λ x. site_with x a.hop) (eqb-true a.transport b.transport (first t same_hop h)) ∙ ap (λ x. site_with b.transport x) ((bytes_eq-Decides a.hop b.hop).0 (second t same_hop h))

pub site_eq-Decides : (a b : Site) → Decides (site_eq a b) (a ≡ b)
site_eq-Decides a b = (site_eq-true a b, λ e. subst (λ (x : Site). site_eq a x ≡ true) e (site_eq-refl a))
