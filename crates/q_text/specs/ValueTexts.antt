-- What a word says: an address, a sender, the state of a site, an outcome, a trigger.
use Rattle.std.specs.List.{starts_with}
use Rattle.std.specs.Option.{option_and_then, option_map_or, option_or}
use Rattle.std.specs.Prelude.{bytes_eq, codes, drop, if◌then◌else◌, length, List, nat_eq, None, Option, option_map, Some, ℕ}
use Rattle.q_model.specs.declared.event.Trigger.{Trigger}
use Rattle.q_model.specs.declared.outcome.Outcome.{Outcome}
use Rattle.q_model.specs.declared.outcome.SiteState.{SiteState}
use Rattle.q_model.specs.declared.outcome.SiteState.TheVariants.{Down, Up}
use Rattle.q_model.specs.Texts.{is_address}
use Rattle.q_model.specs.Values.{Receiver}
use Rattle.q_numbers.specs.Numbers.{number_within}
use Rattle.q_numbers.specs.Pieces.{cut}
use Rattle.q_model.specs.declared.event.Trigger.TheVariants as triggers
use Rattle.q_model.specs.declared.outcome.Outcome.TheVariants as outcomes

-- an address
abbrev pub address_of : List ℕ → Option (List ℕ)
address_of text = if is_address text then Some text else None

-- a recipient by its address alone
abbrev pub plain_of : List ℕ → Option Receiver
plain_of text = option_map (λ address. record { address = address; original = None }) (address_of text)

-- a recipient with an original address, which is none where it is the address itself
abbrev pub mapped_from : List ℕ → List ℕ → Receiver
mapped_from original address =
    record { address = address; original = if bytes_eq original address then None else Some original }

-- two addresses, of which the second is the original one
abbrev pub mapped_of : List ℕ × List ℕ → Option Receiver
mapped_of parts =
    option_and_then (λ address. option_map (λ original. mapped_from original address) (address_of parts.1))
    (address_of parts.0)

-- a recipient: `ADDRESS` or `ADDRESS,ORIGINAL`
abbrev pub receiver_of : List ℕ → Option Receiver
receiver_of text = option_map_or mapped_of (cut 44 text) (plain_of text)

-- an address, or `<>` for the null sender
abbrev pub sender_of_text : List ℕ → Option (Option (List ℕ))
sender_of_text text =
    if bytes_eq text (codes "<>") then Some None
    else option_map (λ address. Some address) (address_of text)

-- `up` or `down`
abbrev pub state_of_text : List ℕ → Option SiteState
state_of_text text =
    if bytes_eq text (codes "up") then Some Up
    else if bytes_eq text (codes "down") then Some Down
    else None

-- `D`, `A` or `F`
abbrev pub trigger_of : List ℕ → Option Trigger
trigger_of text =
    if bytes_eq text (codes "D") then Some triggers.D
    else if bytes_eq text (codes "A") then Some triggers.A
    else if bytes_eq text (codes "F") then Some triggers.F
    else None

-- the code behind such a front
abbrev pub code_behind : List ℕ → ℕ → ℕ → List ℕ → Option ℕ
code_behind front low high text =
    if starts_with nat_eq text front then number_within low high (drop (length front) text)
    else None

-- `later`, or `later:` and a code
abbrev pub later_of : List ℕ → Option Outcome
later_of text =
    if bytes_eq text (codes "later") then Some (outcomes.Later 0)
    else option_map (λ code. outcomes.Later code) (code_behind (codes "later:") 400 499 text)

-- `never`, or `never:` and a code
abbrev pub never_of : List ℕ → Option Outcome
never_of text =
    if bytes_eq text (codes "never") then Some (outcomes.Never 0)
    else option_map (λ code. outcomes.Never code) (code_behind (codes "never:") 500 599 text)

-- an outcome at a site in this state: where the site is down, all are later
abbrev pub outcome_of : SiteState → List ℕ → Option Outcome
outcome_of Up text =
    if bytes_eq text (codes "ok") then Some outcomes.Ok
    else option_or (later_of text) (never_of text)
outcome_of Down text = later_of text
