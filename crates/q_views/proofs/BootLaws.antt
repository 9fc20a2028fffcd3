-- The generation that boot's names say is the book's.
use Rattle.std.proofs.Common.{◌≡◌, ◌∙◌, [], ◌∷◌, List, None, ℕ, suc, true, zero, arith, refl, sym}
use Rattle.std.specs.Prelude.{◌&&◌, ◌⊎◌, bytes_eq, Contains, nat_lt}
use Rattle.std.proofs.lemmas.Bool.{and_from, and_parts, lt-ltb}
use Rattle.std.proofs.lemmas.Slice.Eq.{bytes_eq-Decides}
use Rattle.std.proofs.Common.{inl, inr}
use Rattle.q_host.specs.Reads.{IsBehindAll, IsListing}
use Rattle.q_model.proofs.NumberTexts.{bytes-spell, hex-Spells, length-spell}
use Rattle.q_model.specs.FilesStand.{BootStands}
use Rattle.q_model.specs.declared.spot.Area.TheVariants as areas
use Rattle.q_model.specs.IdTexts.{hex}
use Rattle.q_model.specs.SpoolFiles.{Files}
use Rattle.q_model.specs.Texts.{is_name}
use Rattle.q_views.specs.Generations.{IsFirstGeneration}

is_name-hex : (g : ℕ) → is_name (hex 8 g) ≡ true
is_name-hex g = rw (length-spell hex-Spells 8 g, bytes-spell hex-Spells 8 g) refl

yes : (g : ℕ) (n : List ℕ) → n ≡ hex 8 (suc g) → (nat_lt 0 (suc g) && bytes_eq n (hex 8 (suc g))) ≡ true
yes g n e = and_from (nat_lt 0 (suc g)) (bytes_eq n (hex 8 (suc g))) (lt-ltb 0 (suc g) (omega arith)) ((bytes_eq-Decides n (hex 8 (suc g))).1 e)

none_listed : (n : List ℕ) → Contains [] n ⊎ IsBehindAll [] n → ⊥
none_listed n (inl c) = omega (arith, c.1)
none_listed n (inr b) = omega (arith, b.0)

pub generation_is : (f : Files) (g : ℕ) (names : List (List ℕ)) (r : ℕ) → BootStands f g → IsListing (f areas.Boot) None names → IsFirstGeneration names r → r ≡ g
generation_is f zero [] r boot listing is = is
generation_is f (suc g) [] r boot listing is =
    absurd (none_listed (hex 8 (suc g)) (listing.none_left_out (hex 8 (suc g)) (boot.names (hex 8 (suc g)) (is_name-hex (suc g)) ∙ yes g (hex 8 (suc g)) refl) tt))
generation_is f g (n ∷ ns) r boot listing is =
    let there = listing.there n (0, omega arith, refl) in
    let both = sym (boot.names n is.0) ∙ there in
    let same : n ≡ hex 8 g = (bytes_eq-Decides n (hex 8 g)).0 (and_parts (nat_lt 0 g) (bytes_eq n (hex 8 g)) both).1 in
    is.1 g boot.fits (sym same)
