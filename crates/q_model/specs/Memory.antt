-- Which messages are in memory, and how many recipients (qmgr(8): the active queue is limited).
use Rattle.std.specs.List.{list_any}
use Rattle.std.specs.Option.{option_map_or}
use Rattle.std.specs.Prelude.{◌&&◌, ◌+◌, ◌-◌, ◌==◌, Bool, find, length, not, Option, sum_by, ◌||◌, ℕ}
use Rattle.q_model.specs.declared.id.Id.{Id}
use Rattle.q_model.specs.declared.rows.Admitted.{Admitted}
use Rattle.q_model.specs.Book.{message_of}
use Rattle.q_model.specs.Ids.{id_eq}
use Rattle.q_model.specs.Ledger.{Ledger}
use Rattle.q_model.specs.Settings.{World}

-- the message is in memory
abbrev pub is_admitted : Ledger → Id → Bool
is_admitted l id = list_any (λ a. id_eq a.id id) l.admitted

-- the message's row of those in memory
abbrev pub admitted_of : Ledger → Id → Option Admitted
admitted_of l id = find (λ a. id_eq a.id id) l.admitted

-- how many of its recipients were not read yet
abbrev pub unread_count : Ledger → Admitted → ℕ
unread_count l a = option_map_or (λ m. length m.recipients - a.unread) (message_of l.book a.id) 0

-- the same by id, 0 where the message is not in memory
abbrev pub unread_of : Ledger → Id → ℕ
unread_of l id = option_map_or (λ a. unread_count l a) (admitted_of l id) 0

-- the recipients in memory
abbrev pub in_memory : Ledger → ℕ
in_memory l =
    sum_by (λ r. length r.positions) l.waiting + sum_by (λ f. length f.row.positions) l.flights + length l.unsettled

-- how many more recipients may be in memory
abbrev pub free : World → Ledger → ℕ
free w l = w.settings.recipient_limit - in_memory l

-- the message has recipients that wait
abbrev pub has_waiting : Ledger → Id → Bool
has_waiting l id = list_any (λ r. id_eq r.id id) l.waiting

-- the message has recipients that wait, are in flight or are unsettled
abbrev pub has_rows : Ledger → Id → Bool
has_rows l id =
    has_waiting l id || list_any (λ f. id_eq f.row.id id) l.flights || list_any (λ u. id_eq u.id id) l.unsettled

-- the message is in memory and nothing of it is unread, waiting, in flight or unsettled
abbrev pub is_idle : Ledger → Id → Bool
is_idle l id = is_admitted l id && (unread_of l id == 0) && not (has_rows l id)
