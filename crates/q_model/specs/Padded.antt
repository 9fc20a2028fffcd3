-- A short text in an array of fixed length: its bytes, and zeros behind them.
use Rattle.std.proofs.Common.{ap, arith, sym, take-append-drop, ◌∙◌}
use Rattle.std.proofs.lemmas.List.{length-take-le}
use Rattle.std.specs.Prelude.{◌++◌, ◌-◌, drop, length, List, replicate, take, ℕ, ◌≡◌, ◌≤◌}

-- the bytes, and zeros up to the length
abbrev pub padded : ℕ → List ℕ → List ℕ
padded n bytes = bytes ++ replicate (n - length bytes) 0

-- an array of n bytes that is zero behind the first `len`
pub record IsPadded (n len : ℕ) (bytes : List ℕ) : Type 0 where
  pub whole : length bytes ≡ n
  pub within : len ≤ n
  pub zeros : drop len bytes ≡ replicate (n - len) 0

-- the length that is kept is that of the text
pub len_back : (n len : ℕ) (bytes : List ℕ) → IsPadded n len bytes → length (take len bytes) ≡ len
len_back n len bytes k = length-take-le len bytes (omega (arith, k.whole, k.within))

-- the text with its zeros is the array
pub bytes_back : (n len : ℕ) (bytes : List ℕ) → IsPadded n len bytes → padded n (take len bytes) ≡ bytes
bytes_back n len bytes k =
    ap (λ m. take len bytes ++ replicate (n - m) 0) (len_back n len bytes k)
    ∙ ap (λ (r : List ℕ). take len bytes ++ r) (sym k.zeros) ∙ take-append-drop len bytes
