-- When a message may leave active.
use Rattle.std.specs.Prelude.{◌&&◌, Bool, filter, is_none, List, not, ◌||◌}
use Rattle.q_model.specs.declared.id.Id.{Id}
use Rattle.q_model.specs.declared.rows.Admitted.{Admitted}
use Rattle.q_model.specs.Book.{stands_in}
use Rattle.q_model.specs.Ids.{bounce_of, id_eq}
use Rattle.q_model.specs.Ledger.{Ledger}
use Rattle.q_model.specs.Leftovers.{is_leftover, was_synced}
use Rattle.q_model.specs.Lists.{has_none}
use Rattle.q_model.specs.Memory.{is_idle}
use Rattle.q_model.specs.Message.{Message, pending, unmarked_logged, written_marks}
use Rattle.q_model.specs.Places.{is_incoming}

-- no mark is written only
abbrev pub is_clean : Message → Bool
is_clean m = has_none (written_marks m)

-- idle, or left by an earlier life and synced
abbrev pub is_at_rest : Ledger → Id → Bool
is_at_rest l id = is_idle l id || (is_leftover l id && was_synced l id)

-- each recipient is done, and no crash undoes it
abbrev pub is_done : Message → Bool
is_done m = has_none (pending m) && has_none (unmarked_logged m) && is_clean m

-- it has failures and a sender, and is no bounce itself
abbrev pub wants_bounce : Message → Bool
wants_bounce m = not (has_none m.failures) && not (is_none m.sender) && not m.id.bounce

-- its bounce stands in incoming
abbrev pub has_bounce : Ledger → Id → Bool
has_bounce l id = stands_in is_incoming l.book (bounce_of id)

-- the message is not in memory
abbrev pub without : Id → List Admitted → List Admitted
without id admitted = filter (λ a. not (id_eq a.id id)) admitted
