-- What a line of an event list says.
use Rattle.std.specs.List.{starts_with}
use Rattle.std.specs.Prelude.{◌-◌, ◌==◌, ◌^◌, [], Bool, bytes_eq, codes, drop, if◌then◌else◌, length, List, nat_eq, None, Option, option_and_then, option_map, Some, ◌||◌, ℕ, ◌∷◌}
use Rattle.q_model.specs.declared.event.Event.TheVariants as events
use Rattle.q_model.specs.declared.outcome.Outcome.{Outcome}
use Rattle.q_model.specs.declared.outcome.SiteState.{SiteState}
use Rattle.q_numbers.specs.Numbers.{number_within}
use Rattle.q_numbers.specs.Pieces.{one_or_more, words_in}
use Rattle.q_text.specs.ValueTexts.{outcome_of, receiver_of, sender_of_text, state_of_text, trigger_of}
use Rattle.q_events.specs.declared.line.ListLine.{ListLine}
use Rattle.q_events.specs.declared.line.ListLine.TheVariants.{Body, Passed, Told}
use Rattle.q_events.specs.declared.line.Command.{Command}
use Rattle.q_events.specs.declared.line.Command.TheVariants as commands

-- the text has this front
abbrev pub has_front : List ℕ → List ℕ → Bool
has_front front text = starts_with nat_eq text front

-- `SENDER RECIPIENT ..`, at least one recipient, which is `ADDRESS` or `ADDRESS,ORIGINAL`
abbrev pub mail_in : List (List ℕ) → Option Command
mail_in [] = None
mail_in (sender ∷ to) =
    option_and_then (λ sender. option_map (commands.Mail sender) (one_or_more receiver_of to))
    (sender_of_text sender)

-- the reply to a delivery of a site in this state
abbrev pub reply_command : ℕ → SiteState → List Outcome → Command
reply_command number state outcomes = commands.Plain (events.Reply number state outcomes)

-- the state of the site, and at least one outcome that it allows
abbrev pub reply_to : ℕ → List (List ℕ) → Option Command
reply_to number [] = None
reply_to number (word ∷ words) =
    option_and_then (λ state. option_map (reply_command number state) (one_or_more (outcome_of state) words))
    (state_of_text word)

-- `NUMBER up OUTCOME ..` or `NUMBER down OUTCOME ..`
abbrev pub reply_in : List (List ℕ) → Option Command
reply_in [] = None
reply_in (number ∷ answer) =
    option_and_then (λ number. reply_to number answer) (number_within 0 (2 ^ 64 - 1) number)

-- a moment in input
abbrev pub moment_of : List ℕ → Option Command
moment_of text =
    option_map (λ moment. commands.Plain (events.At moment)) (number_within 0 999990000000 text)

-- a trigger in input
abbrev pub trigger_command : List ℕ → Option Command
trigger_command text = option_map (λ kind. commands.Plain (events.Trigger kind)) (trigger_of text)

-- the command of a line without a list
unfoldable pub single_of : List ℕ → Option Command
single_of line =
    if bytes_eq line (codes "restart") then Some commands.Restart
    else if bytes_eq line (codes "end") then Some commands.End
    else if has_front (codes "at ") line then moment_of (drop 3 line)
    else if has_front (codes "trigger ") line then trigger_command (drop 8 line)
    else None

-- the command of a line that is neither passed over nor one of content
unfoldable pub command_of : List ℕ → Option Command
command_of line =
    if has_front (codes "mail ") line then mail_in (words_in (drop 5 line))
    else if has_front (codes "reply ") line then reply_in (words_in (drop 6 line))
    else single_of line

-- empty lines and those that begin with `#` are passed over
abbrev pub is_passed : List ℕ → Bool
is_passed line = (length line == 0) || has_front (codes "#") line

-- `body` or `body TEXT`
abbrev pub is_body : List ℕ → Bool
is_body line = bytes_eq line (codes "body") || has_front (codes "body ") line

-- what a line says, if it is one of an event list
unfoldable pub meaning_of_line : List ℕ → Option ListLine
meaning_of_line line =
    if is_passed line then Some Passed
    else if is_body line then Some Body
    else option_map (λ command. Told command) (command_of line)
