-- What a table of ages counts of a book (QSHAPE_README).
use Rattle.std.specs.Option.{option_map_or}
use Rattle.std.specs.Prelude.{◌∷◌, [], Bool, codes, flat_map, if◌then◌else◌, List, map, Option, ℕ}
use Rattle.q_model.specs.Book.{Book}
use Rattle.q_model.specs.Lists.{has_none}
use Rattle.q_model.specs.Message.{address_at, Message, pending}
use Rattle.q_model.specs.Texts.{domain_of}
use Rattle.q_model.specs.Times.{age_of}
use Rattle.q_shape.specs.Counts.{Count}
use Rattle.q_walk.specs.Listed.{listed}
use Rattle.q_model.specs.declared.queues.Queues.{Queues}

-- the domain of a sender; the null sender has a name of its own
abbrev pub sender_domain : Option (List ℕ) → List ℕ
sender_domain sender = option_map_or domain_of sender (codes "MAILER-DAEMON")

-- each pending recipient, under its domain
abbrev pub recipient_counts : ℕ → Message → List Count
recipient_counts now m = map (λ position. (domain_of (address_at m position), age_of now m, 1)) (pending m)

-- a message with a pending recipient, under its sender's domain
abbrev pub sender_counts : ℕ → Message → List Count
sender_counts now m =
    if has_none (pending m) then [] else (sender_domain m.sender, age_of now m, 1) ∷ []

-- what is counted of a message: its pending recipients, or itself
abbrev pub counts_of : Bool → ℕ → Message → List Count
counts_of senders now m = if senders then sender_counts now m else recipient_counts now m

-- what is counted of the messages in these queues
abbrev pub counted : Bool → ℕ → Queues → Book → List Count
counted senders now queues b = flat_map (counts_of senders now) (listed queues b)
