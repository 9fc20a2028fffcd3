-- The name of a transport is a next hop too.
use Rattle.std.proofs.Common.{◌≡◌, ℕ, true, List, [], ◌∷◌, length, Option, Some, None, refl, arith}
use Rattle.std.specs.Prelude.{◌&&◌, if◌then◌else◌, nat_le, nat_lt}
use Rattle.std.specs.List.{list_all}
use Rattle.std.proofs.lemmas.Bool.{and_from, and_parts, le-leb, leb-true}
use Rattle.std.proofs.lemmas.Bool.Decides.{nat_tests}
use Rattle.q_model.specs.Texts.{is_hop, is_hop_byte}
use Rattle.q_transport.specs.Texts.{is_transport_byte, is_transport}

byte_of : (b : ℕ) → is_transport_byte b ≡ true → is_hop_byte b ≡ true
byte_of b h = grind (arith, nat_tests)

bytes_of : (bs : List ℕ) → list_all is_transport_byte bs ≡ true → list_all is_hop_byte bs ≡ true
bytes_of [] h = refl
bytes_of (b ∷ bs) h =
    let (here, rest) = and_parts (is_transport_byte b) (list_all is_transport_byte bs) h in
    and_from (is_hop_byte b) (list_all is_hop_byte bs) (byte_of b here) (bytes_of bs rest)

pub transport_is_hop : (name : List ℕ) → is_transport name ≡ true → is_hop name ≡ true
transport_is_hop name h =
    let (sized, bytes) = and_parts (nat_lt 0 (length name) && nat_le (length name) 32) (list_all is_transport_byte name) h in
    let (filled, short) = and_parts (nat_lt 0 (length name)) (nat_le (length name) 32) sized in
    and_from (nat_lt 0 (length name) && nat_le (length name) 255) (list_all is_hop_byte name)
    (and_from (nat_lt 0 (length name)) (nat_le (length name) 255) filled (le-leb (length name) 255 (omega (arith, leb-true (length name) 32 short)))) (bytes_of name bytes)

-- a new next hop of these bytes
pub new_transport : (name : List ℕ) (r : Option (List ℕ)) → is_transport name ≡ true → r ≡ (if is_hop name then Some name else None) → r ≡ (if is_transport name then Some name else None)
new_transport name r h e = rw (e, h, transport_is_hop name h) refl
