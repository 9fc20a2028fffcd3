-- A file that is read at once.
use Rattle.std.proofs.Common.{◌≡◌, ◌≤◌, ◌++◌, ◌∙◌, ℕ, List, [], length, Option, Some, None, arith, sym, take, take_all}
use Rattle.std.proofs.lemmas.List.{take-append-le, take-take}
use Rattle.std.specs.Option.{IfSome, IsSome}
use Rattle.std.specs.Prelude.{unwrap_or}
use Rattle.q_host.specs.Reads.{IsRead}

-- a buffer of the file's size takes the whole file
pub all_read : (o : Option (List ℕ)) (old new : List ℕ) (size n : ℕ) → IsSome o → IfSome o (λ file. size ≡ length file)
    → length old ≡ size → IfSome o (λ file. IsRead file 0 old new n) → unwrap_or o [] ≡ take n new
all_read None old new size n there is long r = absurd cc
all_read (Some file) old new size n there is long r = sym (r.bytes ∙ take_all n file (omega (arith, r.count, is, long)))

-- what was read, once it is written back
pub read_back : (new rest : List ℕ) (size n : ℕ) → n ≤ length new → n ≤ size → take n (take size (new ++ rest)) ≡ take n new
read_back new rest size n short fits = take-take n size (new ++ rest) fits ∙ take-append-le n new rest short
