-- What fits together in the ledger of a life: the book, and what is known of messages and recipients in
-- memory.
use Rattle.std.specs.List.{enumerate_from, flat_map, list_all, list_any}
use Rattle.std.specs.Option.{option_map_or}
use Rattle.std.specs.Prelude.{◌&&◌, ◌++◌, ◌==◌, ◌≡◌, ◌≤◌, [], Bool, false, if◌then◌else◌, length, List, map, nat_le, nat_lt, not, Option, slice_get, Some, true, ◌||◌, ℕ, ◌∷◌}
use Rattle.q_model.specs.declared.id.Id.{Id}
use Rattle.q_model.specs.declared.rows.Admitted.{Admitted}
use Rattle.q_model.specs.declared.rows.Delivery.{Delivery}
use Rattle.q_model.specs.declared.rows.Row.{Row}
use Rattle.q_model.specs.declared.rows.Unsettled.{Unsettled}
use Rattle.q_model.specs.Accounts.{charged, starts_of}
use Rattle.q_model.specs.Book.{all_ids, message_of}
use Rattle.q_model.specs.Finishing.{is_clean}
use Rattle.q_model.specs.Ids.{are_distinct, id_eq}
use Rattle.q_model.specs.Ledger.{Ledger}
use Rattle.q_model.specs.Leftovers.{is_leftover, next_leftover, was_synced}
use Rattle.q_model.specs.Lists.{has_none}
use Rattle.q_model.specs.Marking.{is_unmarked_at, needs_mark}
use Rattle.q_model.specs.Memory.{admitted_of, in_memory, is_admitted, unread_of}
use Rattle.q_model.specs.Message.{Message, is_logged, unmarked_logged}
use Rattle.q_model.specs.Orderly.{has_firm_failures, is_orderly}
use Rattle.q_model.specs.Past.{arrivals, starts}
use Rattle.q_model.specs.Places.{is_active}
use Rattle.q_model.specs.Settings.{World}
use Rattle.q_model.specs.Startable.{line_of}
use Rattle.q_model.specs.Step.{stays}

-- the settings let messages be read and marks be synced
pub record IsUsable (w : World) : Type 0 where
  pub recipient_minimum : 1 ≤ w.settings.recipient_minimum
  pub mark_sync_limit : 1 ≤ w.settings.mark_sync_limit

-- the id is of an earlier life, or of a message that arrived in this one
abbrev pub has_come : Ledger → Id → Bool
has_come l id = nat_lt id.generation l.book.generation || nat_le id.serial (arrivals l)

-- The book is orderly and has no id twice, and no failure in it may be lost. The id of the next message
-- isn't in it.
pub record IsBookConsistent (l : Ledger) : Type 0 where
  pub distinct : are_distinct (all_ids l.book) ≡ true
  pub orderly : is_orderly l.book ≡ true
  pub firm : list_all has_firm_failures l.book.messages ≡ true
  pub come : list_all (has_come l) (all_ids l.book) ≡ true

-- no number twice
abbrev pub are_once : List ℕ → Bool
are_once [] = true
are_once (n ∷ ns) = not (list_any (λ m. m == n) ns) && are_once ns

-- the positions of a message that wait
abbrev pub waiting_positions : Id → List Row → List ℕ
waiting_positions id rows = flat_map (λ r. if id_eq r.id id then r.positions else []) rows

-- those that are in flight
abbrev pub flight_positions : Id → List Delivery → List ℕ
flight_positions id flights = flat_map (λ f. if id_eq f.row.id id then f.row.positions else []) flights

-- those that are unsettled
abbrev pub unsettled_positions : Id → List Unsettled → List ℕ
unsettled_positions id us = flat_map (λ u. if id_eq u.id id then u.position ∷ [] else []) us

-- those in memory
abbrev pub memory_positions : Ledger → Id → List ℕ
memory_positions l id = waiting_positions id l.waiting ++ flight_positions id l.flights
    ++ unsettled_positions id l.unsettled

-- the position of an outcome that is logged and lacks its mark, where it is of this message
abbrev pub logged_of : Message → Option Unsettled → List ℕ
logged_of m o = option_map_or (λ u. if id_eq u.id m.id && needs_mark u.need && is_logged m u.position
    then u.position ∷ [] else []) o []

-- The recipients of a message in memory were read, are in memory once, and have no mark. Only that of
-- the first unsettled outcome may be logged.
pub record IsRemembered (l : Ledger) (a : Admitted) (m : Message) : Type 0 where
  pub read : list_all (λ p. nat_lt p a.unread) (memory_positions l a.id) ≡ true
  pub once : are_once (memory_positions l a.id) ≡ true
  pub unmarked : list_all (is_unmarked_at m) (memory_positions l a.id) ≡ true
  pub logged : unmarked_logged m ≡ logged_of m (slice_get l.unsettled 0)

-- the message stands in active
abbrev pub is_present : Ledger → Admitted → Bool
is_present l a = option_map_or (λ m. is_active m.place) (message_of l.book a.id) false

-- no more of it was read than there is
abbrev pub is_within : Ledger → Admitted → Bool
is_within l a = option_map_or (λ m. nat_le a.unread (length m.recipients)) (message_of l.book a.id) false

-- a leftover that was synced has each failure marked and each mark synced
abbrev pub is_synced_well : Ledger → Id → Bool
is_synced_well l id = not (is_leftover l id)
    || option_map_or (λ m. is_clean m && has_none (unmarked_logged m)) (message_of l.book id) true

-- a leftover that was synced in this life is the next to be cleared
abbrev pub IsSyncedNext : Ledger → Id → Type 0
IsSyncedNext l id = is_leftover l id ≡ true → was_synced l id ≡ true → next_leftover l ≡ Some id

-- an id that has something unread and isn't in the line has no account there
abbrev pub IsFresh : Ledger → Id → ℕ → Type 0
IsFresh l id transport = (unread_of l id == 0) ≡ false
    → list_any (id_eq id) (line_of l transport) ≡ false
    → (starts_of l id transport ≡ 0) × (charged l id transport ≡ 0)

-- the row has a recipient
abbrev pub is_filled : Row → Bool
is_filled r = nat_lt 0 (length r.positions)

-- Messages in memory stand in active, once each; recipients in memory are theirs. Both are within their
-- limits. No row that waits is empty. Deliveries have numbers of their own. No line has an id twice.
-- Only the next leftover may have been synced.
pub record IsMemoryConsistent (w : World) (l : Ledger) : Type 0 where
  pub admitted : are_distinct (map (λ a. a.id) l.admitted) ≡ true
  pub present : list_all (is_present l) l.admitted ≡ true
  pub within : list_all (is_within l) l.admitted ≡ true
  pub waiting : list_all (λ r. is_admitted l r.id) l.waiting ≡ true
  pub filled : list_all is_filled l.waiting ≡ true
  pub flights : list_all (λ f. is_admitted l f.row.id) l.flights ≡ true
  pub unsettled : list_all (λ u. is_admitted l u.id) l.unsettled ≡ true
  pub remembered : (a : Admitted) (m : Message) → admitted_of l a.id ≡ Some a
      → message_of l.book a.id ≡ Some m → IsRemembered l a m
  pub numbers : are_once (map (λ f. f.number) l.flights) ≡ true
  pub begun : list_all (λ f. nat_le f.number (starts l)) l.flights ≡ true
  pub single : list_all are_distinct l.lines ≡ true
  pub lines : list_all (λ (line : ℕ × List Id). list_all (stays l line.0) line.1) (enumerate_from 0 l.lines) ≡ true
  pub fresh : (id : Id) (transport : ℕ) → IsFresh l id transport
  pub synced : list_all (is_synced_well l) l.synced ≡ true
  pub synced_next : (id : Id) → IsSyncedNext l id
  pub messages : length l.admitted ≤ w.settings.active_limit
  pub recipients : in_memory l ≤ w.settings.recipient_limit

-- all that fits together
pub record IsConsistent (w : World) (l : Ledger) : Type 0 where
  pub usable : IsUsable w
  pub book : IsBookConsistent l
  pub memory : IsMemoryConsistent w l
