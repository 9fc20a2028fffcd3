-- The form of what an event list gives: what the rules require of an event.
use Rattle.std.specs.List.{list_all}
use Rattle.std.specs.Option.{option_map_or}
use Rattle.std.specs.Prelude.{◌&&◌, ◌≡◌, ◌≤◌, Bool, length, List, Option, true, ℕ}
use Rattle.q_model.specs.declared.event.Event.{Event}
use Rattle.q_model.specs.declared.event.Event.TheVariants as events
use Rattle.q_model.specs.QueueFile.{new_version}
use Rattle.q_model.specs.QueueFileBytes.{is_original}
use Rattle.q_model.specs.Texts.{is_address}
use Rattle.q_model.specs.Values.{Receiver}
use Rattle.q_text.specs.ValueForms.{IsListOf, IsOutcomeAt}
use Rattle.q_events.specs.declared.list_item.ListItem.{ListItem}
use Rattle.q_events.specs.declared.list_item.ListItem.TheVariants as items

-- addresses of a recipient, of which the original one, if there is one, is another
abbrev pub is_receiver : Receiver → Bool
is_receiver r = is_address r.address && is_original new_version r.address r.original

-- the sender, unless it is the null sender, has the form of an address, and there is a recipient, each in form
abbrev pub IsMailInForm : Option (List ℕ) → List Receiver → Type 0
IsMailInForm sender to =
    (option_map_or is_address sender true ≡ true) × (list_all is_receiver to ≡ true) × (1 ≤ length to)

-- A moment in input is at most 999,990,000,000. A reply has an outcome, and each fits the state of the site
-- and has a code of its hundred or none: where the site is down, each is later.
abbrev pub IsInForm : Event → Type 0
IsInForm (events.At t) = t ≤ 999990000000
IsInForm (events.Mail sender to content) = IsMailInForm sender to
IsInForm (events.Reply number site outcomes) = IsListOf (IsOutcomeAt site) outcomes
IsInForm (events.Trigger kind) = Unit {0}

-- an item whose event, where it is one, is in form
abbrev pub IsItemInForm : ListItem → Type 0
IsItemInForm (items.Step event line) = IsInForm event
IsItemInForm items.Restart = Unit {0}
IsItemInForm items.End = Unit {0}
