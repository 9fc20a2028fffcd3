-- The domain of an address is a next hop.
use Rattle.std.proofs.Common.{◌≡◌, ◌≤◌, ◌+◌, ℕ, suc, Bool, true, false, List, [], ◌∷◌, length, map, refl, ap, ◌∙◌, arith, if◌then◌else◌}
use Rattle.std.specs.Prelude.{◌&&◌, nat_le, nat_lt, ◌==◌}
use Rattle.std.specs.List.{list_all}
use Rattle.std.proofs.lemmas.Bool.Decides.{nat_tests}
use Rattle.q_model.specs.Texts.{is_address, is_address_byte, is_hop, is_hop_byte, domain_from, lower}

both : (a b : Bool) → a ≡ true → b ≡ true → (a && b) ≡ true
both true b h k = k
both false b h k = h

first : (a b : Bool) → (a && b) ≡ true → a ≡ true
first true b h = refl
first false b h = h

second : (a b : Bool) → (a && b) ≡ true → b ≡ true
second true b h = h
second false b h = cc

byte_of : (b : ℕ) → is_address_byte b ≡ true → is_hop_byte b ≡ true
byte_of b h = grind (arith, nat_tests)

lower_byte : (b : ℕ) → is_hop_byte b ≡ true → is_hop_byte (lower b) ≡ true
lower_byte b h = grind (arith, nat_tests)

bytes_of : (bs : List ℕ) → list_all is_address_byte bs ≡ true → list_all is_hop_byte bs ≡ true
bytes_of [] h = refl
bytes_of (b ∷ bs) h = both (is_hop_byte b) (list_all is_hop_byte bs) (byte_of b (first (is_address_byte b) (list_all is_address_byte bs) h)) (bytes_of bs (second (is_address_byte b) (list_all is_address_byte bs) h))

lower_bytes : (bs : List ℕ) → list_all is_hop_byte bs ≡ true → list_all is_hop_byte (map lower bs) ≡ true
lower_bytes [] h = refl
lower_bytes (b ∷ bs) h = both (is_hop_byte (lower b)) (list_all is_hop_byte (map lower bs)) (lower_byte b (first (is_hop_byte b) (list_all is_hop_byte bs) h)) (lower_bytes bs (second (is_hop_byte b) (list_all is_hop_byte bs) h))

chosen : (t : Bool) (xs ys : List ℕ) → list_all is_hop_byte xs ≡ true → list_all is_hop_byte ys ≡ true → list_all is_hop_byte (if t then xs else ys) ≡ true
chosen true xs ys h k = h
chosen false xs ys h k = k

domain_bytes : (bs found : List ℕ) → list_all is_address_byte bs ≡ true → list_all is_hop_byte found ≡ true → list_all is_hop_byte (domain_from bs found) ≡ true
domain_bytes [] found h k = k
domain_bytes (b ∷ bs) found h k =
    let rest = second (is_address_byte b) (list_all is_address_byte bs) h in
    domain_bytes bs (if b == 64 then bs else found) rest (chosen (b == 64) bs found (bytes_of bs rest) k)

length-lower : (xs : List ℕ) → length (map lower xs) ≡ length xs
length-lower [] = refl
length-lower (x ∷ xs) = ap suc (length-lower xs)

-- an address has printable bytes, at most 254 of them, and a domain
parts : (a : List ℕ) → is_address a ≡ true → (length a ≤ 254) × (list_all is_address_byte a ≡ true) × (1 ≤ length (domain_from a []))
parts a h =
    let long = nat_le 3 (length a) in
    let short = nat_le (length a) 254 in
    let all = list_all is_address_byte a in
    let some = nat_lt 0 (length (domain_from a [])) in
    let user = nat_lt (length (domain_from a []) + 1) (length a) in
    let four : (long && short && all && some) ≡ true = first (long && short && all && some) user h in
    let three : (long && short && all) ≡ true = first (long && short && all) some four in
    let two : (long && short) ≡ true = first (long && short) all three in
    (most (length a) 254 (second long short two), second (long && short) all three, filled (length (domain_from a [])) (second (long && short && all) some four))
  where
    most : (m n : ℕ) → nat_le m n ≡ true → m ≤ n
    most m n h = grind (arith, nat_tests)

    filled : (n : ℕ) → nat_lt 0 n ≡ true → 1 ≤ n
    filled n h = grind (arith, nat_tests)

within : (n : ℕ) (b : Bool) → 1 ≤ n → n ≤ 255 → b ≡ true → (nat_le 1 n && nat_le n 255 && b) ≡ true
within n true h k e = grind (arith, nat_tests)
within n false h k e = cc

pub domain_is_hop : (address bytes domain : List ℕ) → is_address address ≡ true → bytes ≡ address → domain ≡ domain_from bytes [] → length domain ≤ length bytes → is_hop (map lower domain) ≡ true
domain_is_hop address bytes domain h same e short =
    let whole : domain ≡ domain_from address [] = e ∙ ap (λ (x : List ℕ). domain_from x []) same in
    let (few, all, some) = parts address h in
    let lowered : list_all is_hop_byte (map lower domain) ≡ true = lower_bytes domain (rw whole (domain_bytes address [] all refl)) in
    let n = length-lower domain in
    within (length (map lower domain)) _ (omega (arith, some, n, ap length whole)) (omega (arith, few, n, short, ap length same)) lowered
