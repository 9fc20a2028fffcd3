-- What is kept beside a ledger, and when it is what the ledger's lists say.
use Rattle.std.specs.Option.{option_map_or}
use Rattle.std.specs.Prelude.{◌≡◌, ◌+◌, count_by, length, map, None, ℕ}
use Rattle.q_bare.specs.Bare.{bare}
use Rattle.q_bare.specs.Counts.{Counts, counts_of}
use Rattle.q_fronts.specs.Fitting.{IsFitting}
use Rattle.q_ledger.specs.Counted.{charged_in, starts_in}
use Rattle.q_ledger.specs.Slots.{row_of_slot}
use Rattle.q_ledger.specs.State.{State}
use Rattle.q_ledger.specs.declared.accounts.Accounts.{Accounts}
use Rattle.q_ledger.specs.declared.admitted.Slot.{Slot}
use Rattle.q_model.specs.Book.{message_of}
use Rattle.q_model.specs.Ids.{id_eq}
use Rattle.q_model.specs.Leftovers.{leftovers}
use Rattle.q_model.specs.Ledger.{Ledger}
use Rattle.q_model.specs.Settings.{World}
use Rattle.q_model.specs.declared.id.Id.{Id}

-- how many rows of the message wait, are in flight or are unsettled
abbrev pub rows_in : Ledger → Id → ℕ
rows_in l id = count_by (λ r. id_eq r.id id) l.waiting + count_by (λ f. id_eq f.row.id id) l.flights
    + count_by (λ u. id_eq u.id id) l.unsettled

-- how many recipients the message has
abbrev pub recipients_in : Ledger → Id → ℕ
recipients_in l id = option_map_or (λ m. length m.recipients) (message_of l.book id) 0

-- what is kept of a message in memory, with these counts
abbrev pub recounted : Ledger → Slot → Slot
recounted l s = record s { recipients = recipients_in l s.id; rows = rows_in l s.id }

-- the counts of each message in memory are those of the lists
pub record IsCounted (s : State) : Type 0 where
  pub admitted : s.ledger.admitted ≡ map row_of_slot s.slots
  pub slots : s.slots ≡ map (recounted s.ledger) s.slots

-- all that is kept beside the ledger is what its lists say
pub record IsBeside (s : State) : Type 0 where
  pub counted : IsCounted s
  pub leftovers : s.leftovers ≡ leftovers s.ledger
  pub left : s.left ≡ None

-- the accounts are those that are counted
pub record AreAccounts (a : Accounts) (c : Counts) : Type 0 where
  pub deliveries : a.starts ≡ c.deliveries
  pub messages : a.arrivals ≡ c.messages
  pub starts : (id : Id) (transport : ℕ) → starts_in a id transport ≡ c.deliveries_of id transport
  pub charged : (id : Id) (transport : ℕ) → charged_in a id transport ≡ c.charged_to id transport

-- a bare ledger and counts, of a ledger in which all fits
pub record IsOfLedger (w : World) (c : Counts) (b : Ledger) : Type 0 where
  pub ledger : Ledger
  pub fits : IsFitting w ledger
  pub counts : counts_of ledger ≡ c
  pub bare_ledger : bare ledger ≡ b
