-- What a source gives at a call, and why it fails.
use Rattle.std.specs.Prelude.{◌≡◌, ℕ, ◌≤◌, List, [], ◌++◌, length, take, Option, option_map, IfSome}
use Rattle.std.specs.Io.KnownBytes.{Consumes, IsAtEnd, Keeps}
use Rattle.q_model.specs.FaultCounts.{Rose}
use Rattle.q_stream.specs.declared.source.Take.{Take}
use Rattle.q_stream.specs.declared.source.Take.TheVariants.{Took, End, Failed}

-- The taken bytes are the front of what was left. The end comes only where nothing is left; it and a fault
-- take nothing.
abbrev pub TakesFront : Option (List ℕ) → Option (List ℕ) → Take → List ℕ → Type 0
TakesFront old new (Took n) buf =
    (1 ≤ n) × (n ≤ length buf) × (old ≡ option_map (λ rest. take n buf ++ rest) new)
TakesFront old new End buf = (new ≡ old) × IfSome old (λ bytes. bytes ≡ [])
TakesFront old new Failed buf = new ≡ old

-- the same of a reader of std, where its bytes are known
abbrev pub TakesKnown : Option (List ℕ) → Option (List ℕ) → Take → List ℕ → Type 0
TakesKnown old new (Took n) buf = Consumes old new (take n buf)
TakesKnown old new End buf = Consumes old new [] × IsAtEnd new
TakesKnown old new Failed buf = Keeps old new

-- the count rises at a fault, and only there
abbrev pub HasCause : ℕ → ℕ → Take → Type 0
HasCause before now (Took n) = now ≡ before
HasCause before now End = now ≡ before
HasCause before now Failed = (before ≤ now) × Rose before now
