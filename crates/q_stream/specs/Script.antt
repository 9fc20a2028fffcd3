-- What a source in memory gives, call by call.
use Rattle.std.specs.Prelude.{ℕ, Bool, ◌+◌, ◌-◌, ◌^◌, ◌==◌, if◌then◌else◌, nat_lt, min, List, length, drop}
use Rattle.std.specs.List.{list_any}
use Rattle.q_stream.specs.declared.source.Take.{Take}
use Rattle.q_stream.specs.declared.source.Take.TheVariants.{Took, End, Failed}

-- the bytes that are left, how many come at most at a call, the numbers of the calls that fail, how many
-- calls there were, and how many failed
pub record Script : Type 0 where
  pub rest : List ℕ
  pub piece : ℕ
  pub fails : List ℕ
  pub calls : ℕ
  pub faults : ℕ

-- the script of these bytes before the first call
abbrev pub script_of : List ℕ → ℕ → List ℕ → Script
script_of bytes piece fails = record {
  rest = bytes;
  piece = piece;
  fails = fails;
  calls = 0;
  faults = 0;
}

-- a count one higher, which stops at its last value
abbrev pub counted : ℕ → ℕ
counted n = min (n + 1) (2 ^ 64 - 1)

-- whether the next call fails
abbrev pub script_fails_next : Script → Bool
script_fails_next s = list_any (λ k. k == counted s.calls) s.fails

-- how many bytes come, where the next call doesn't fail
abbrev pub share : Script → ℕ → ℕ
share s room = min s.piece (min room (length s.rest))

-- the answer of a call into a buffer of so many bytes
abbrev pub answer : Script → ℕ → Take
answer s room =
    if script_fails_next s then Failed else if nat_lt 0 (length s.rest) then Took (share s room) else End

-- the script after it
abbrev pub script_after : Script → ℕ → Script
script_after s room = record {
  rest = if script_fails_next s then s.rest else drop (share s room) s.rest;
  piece = s.piece;
  fails = s.fails;
  calls = counted s.calls;
  faults = if script_fails_next s then counted s.faults else s.faults;
}
