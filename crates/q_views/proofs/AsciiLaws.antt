-- Names of files are ASCII.
use Rattle.std.proofs.Common.{◌≡◌, ◌<◌, [], ◌∷◌, arith, length, List, true, ℕ}
use Rattle.std.specs.List.{list_all}
use Rattle.std.specs.Prelude.{◌&&◌, nat_le}
use Rattle.std.specs.Str.{IsAscii}
use Rattle.std.proofs.lemmas.Bool.{and_parts}
use Rattle.std.proofs.lemmas.Bool.Decides.{nat_tests}
use Rattle.std.proofs.lemmas.Str.Ascii.{IsAscii-cons, IsAscii-nil}
use Rattle.q_model.specs.Texts.{is_name, is_name_byte}

small : (b : ℕ) → is_name_byte b ≡ true → b < 128
small b h = grind (arith, nat_tests)

bytes_ascii : (bs : List ℕ) → list_all is_name_byte bs ≡ true → IsAscii bs
bytes_ascii [] h = IsAscii-nil
bytes_ascii (b ∷ bs) h = let parts = and_parts (is_name_byte b) (list_all is_name_byte bs) h in IsAscii-cons b bs (small b parts.0) (bytes_ascii bs parts.1)

pub name_ascii : (bs : List ℕ) → is_name bs ≡ true → IsAscii bs
name_ascii bs h =
    bytes_ascii bs (and_parts (nat_le 1 (length bs) && nat_le (length bs) 40) (list_all is_name_byte bs) h).1
