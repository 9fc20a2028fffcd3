-- Which event of a generated load is due, by those heard so far behind the first, the last of them in
-- front, and by the ledger that their run leaves.
use Rattle.std.specs.Option.{option_or}
use Rattle.std.specs.Prelude.{◌%◌, ◌&&◌, ◌+◌, ◌==◌, ◌||◌, [], Bool, count_by, false, if◌then◌else◌, length, List, map, min, nat_lt, None, not, Option, option_and_then, option_map, replicate, Some, true, ℕ, ◌∷◌}
use Rattle.q_engine.specs.Heard.{is_moment}
use Rattle.q_load.specs.Mails.{mail}
use Rattle.q_load.specs.Numbers.{number_of}
use Rattle.q_model.specs.Deliveries.{flight_of}
use Rattle.q_model.specs.Ledger.{Ledger}
use Rattle.q_model.specs.Lists.{has_none, least}
use Rattle.q_model.specs.declared.event.Event.{Event}
use Rattle.q_model.specs.declared.event.Event.TheVariants as events
use Rattle.q_model.specs.declared.outcome.Outcome.{Outcome}
use Rattle.q_model.specs.declared.outcome.Outcome.TheVariants as outcomes
use Rattle.q_model.specs.declared.outcome.SiteState.TheVariants.{Up}

-- the event is a mail, a reply
abbrev pub is_mail : Event → Bool
is_mail (events.Mail sender to content) = true
is_mail _ = false

abbrev pub is_reply : Event → Bool
is_reply (events.Reply number state outcomes) = true
is_reply _ = false

-- a mail came last
abbrev pub is_fresh : List Event → Bool
is_fresh [] = false
is_fresh (e ∷ es) = is_mail e

-- each recipient of every tenth reply is put off, and all others are reached
abbrev pub outcome_of : ℕ → Outcome
outcome_of reply = if reply % 10 == 0 then outcomes.Later 450 else outcomes.Ok

-- the reply to a delivery in flight, by the reply's number and the delivery's
abbrev pub reply_to : ℕ → Ledger → ℕ → Option Event
reply_to reply l number = option_map
    (λ f. events.Reply number Up (replicate (length f.row.positions) (outcome_of reply)))
    (flight_of l number)

-- the next reply, to the least number in flight
abbrev pub next_reply : List Event → Ledger → Option Event
next_reply heard l = option_and_then (reply_to (count_by is_reply heard + 1) l)
    (least nat_lt (map (λ f. f.number) l.flights))

-- one reply comes behind each mail, and behind the last mail they all come
abbrev pub reply_due : ℕ → List Event → Ledger → Option Event
reply_due mails heard l =
    if is_fresh heard || not (nat_lt (count_by is_mail heard) mails) then next_reply heard l else None

-- the next of so many mails
abbrev pub mail_due : ℕ → List Event → Option Event
mail_due mails heard = if nat_lt (count_by is_mail heard) mails
    then Some (mail (number_of mails (count_by is_mail heard + 1))) else None

-- a moment, while a message is left and 200 moments weren't given; the clock has a last one
abbrev pub round_due : List Event → Ledger → Option Event
round_due heard l = if nat_lt (count_by is_moment heard) 200 && not (has_none l.book.messages)
    then Some (events.At (min (l.now + 4000) 999990000000)) else None

-- the next event of a load of so many mails
abbrev pub due : ℕ → List Event → Ledger → Option Event
due mails heard l =
    option_or (reply_due mails heard l) (option_or (mail_due mails heard) (round_due heard l))
