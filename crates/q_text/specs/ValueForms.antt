-- The forms of the values that stand in lines.
use Rattle.std.specs.List.{AllByRecursion}
use Rattle.std.specs.Prelude.{◌^◌, ◌+◌, ◌≡◌, ◌<◌, ◌≤◌, ◌⊎◌, length, List, None, Option, Some, true, ℕ}
use Rattle.q_model.specs.declared.outcome.Outcome.{Outcome}
use Rattle.q_model.specs.declared.outcome.SiteState.{SiteState}
use Rattle.q_model.specs.declared.outcome.SiteState.TheVariants.{Down, Up}
use Rattle.q_model.specs.Texts.{is_address}
use Rattle.q_model.specs.declared.outcome.Outcome.TheVariants as outcomes

-- a list of at least one item, each of which is such a one
abbrev pub IsListOf : {A : Type 0} → (A → Type 0) → List A → Type 0
IsListOf P xs = (1 ≤ length xs) × AllByRecursion P xs

-- a number that fits so many bits
abbrev pub FitsBits : ℕ → ℕ → Type 0
FitsBits bits n = n < 2 ^ bits

-- a text with the form of an address
abbrev pub HasAddressForm : List ℕ → Type 0
HasAddressForm address = is_address address ≡ true

-- an address, or the null sender
abbrev pub IsSender : Option (List ℕ) → Type 0
IsSender None = Unit {0}
IsSender (Some address) = HasAddressForm address

-- no code, or one of the hundred from low on (RFC 5321, section 4.2.1)
abbrev pub IsCode : ℕ → ℕ → Type 0
IsCode low code = (code ≡ 0) ⊎ ((low ≤ code) × (code < low + 100))

-- what becomes of a recipient at a site in this state: where the site is down, all are later
abbrev pub IsOutcomeAt : SiteState → Outcome → Type 0
IsOutcomeAt Up outcomes.Ok = Unit {0}
IsOutcomeAt Up (outcomes.Later code) = IsCode 400 code
IsOutcomeAt Up (outcomes.Never code) = IsCode 500 code
IsOutcomeAt Down outcomes.Ok = ⊥
IsOutcomeAt Down (outcomes.Later code) = IsCode 400 code
IsOutcomeAt Down (outcomes.Never code) = ⊥
