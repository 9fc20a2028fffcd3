-- The mails of a generated load, each by its number.
use Rattle.std.specs.List.{range_with_len}
use Rattle.std.specs.Prelude.{◌%◌, ◌+◌, ◌++◌, ◌/◌, [], codes, decimal, List, map, None, Some, sum_by, ℕ}
use Rattle.q_load.specs.Numbers.{number_of}
use Rattle.q_model.specs.declared.event.Event.{Event}
use Rattle.q_model.specs.declared.event.Event.TheVariants as events
use Rattle.q_model.specs.Values.{Receiver}

-- how many recipients it has
abbrev pub recipient_count : ℕ → ℕ
recipient_count x = 1 + x / 65536 % 20

-- the address of its recipient of this place, at one of forty domains
abbrev pub recipient : ℕ → ℕ → List ℕ
recipient x j = codes "u" ++ decimal j ++ codes "@d" ++ decimal ((x + j) % 40) ++ codes ".example"

-- the same as a recipient, without an original address
abbrev pub receiver : ℕ → ℕ → Receiver
receiver x j = record { address = recipient x j; original = None }

abbrev pub recipients : ℕ → List Receiver
recipients x = map (receiver x) (range_with_len 0 (recipient_count x))

-- a mail without content
abbrev pub mail : ℕ → Event
mail x = events.Mail (Some (codes "s@load.example")) (recipients x) []

-- how many recipients the mails of a load of so many have together
abbrev pub all_recipients : ℕ → ℕ
all_recipients mails = sum_by recipient_count (map (number_of mails) (range_with_len 1 mails))
