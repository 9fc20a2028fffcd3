-- What a contract sees of the schedule, and which message preempts.
use Rattle.std.specs.Prelude.{◌≡◌, ◌&&◌, ◌*◌, ◌+◌, ◌-◌, [], ◌∷◌, Bool, filter, find, if◌then◌else◌, List, nat_le, nat_lt, None, not, Option, ℕ}
use Rattle.q_dest.specs.declared.dest.Dest.{Dest}
use Rattle.q_jobs.specs.declared.job.Job.{Job}
use Rattle.q_model.specs.declared.id.Id.{Id}
use Rattle.q_model.specs.Ids.{id_eq}
use Rattle.q_model.specs.Lists.{least}
use Rattle.q_rounds.specs.declared.peer.Peer.{Peer}
use Rattle.q_rounds.specs.Rounds.{rows_left}
use Rattle.q_suspended.specs.declared.suspension.Suspension.{Suspension}
use Rattle.q_turns.specs.Turns.{is_able}
use Rattle.q_schedule.specs.declared.admitted.Admitted.{Admitted}
use Rattle.q_turns.specs.Filing.{is_fresh}

-- The jobs of each transport in their order, the peers, the sites that are suspended, the messages in
-- the order of their admission, how many jobs each line has room for, and how many peers, suspended
-- sites and messages have.
pub record Scheduling : Type 0 where
  pub lines : List (List Job)
  pub peers : List Peer
  pub suspended : List Suspension
  pub messages : List Admitted
  pub line_room : ℕ
  pub room : ℕ
  pub suspended_room : ℕ
  pub message_room : ℕ

-- the message has this id
abbrev pub is_message : Id → Admitted → Bool
is_message id m = id_eq m.id id

abbrev pub is_another : Id → Admitted → Bool
is_another id m = not (id_eq m.id id)

-- so many of its recipients weren't read, where it has this id
abbrev pub read_to : Id → ℕ → Admitted → Admitted
read_to id unread m = if id_eq m.id id then record m { unread = unread } else m

-- no two have one id
abbrev pub AreApart : List Admitted → Type 0
AreApart [] = Unit {0}
AreApart (m ∷ ms) = (find (is_message m.id) ms ≡ None) × AreApart ms

-- the deliveries that it has left at the transport, where each unread recipient counts as one
abbrev pub need_at : List Peer → ℕ → Admitted → ℕ
need_at ps transport m = rows_left m.id transport ps + m.unread

-- it has begun no delivery at the transport, can be sent there, needs no more than so many
-- deliveries, and isn't the one that is left out
abbrev pub may_preempt : List Dest → List (List Job) → List Peer → ℕ → ℕ → Id → Admitted → Bool
may_preempt ds lines ps transport most except m = is_fresh lines transport m.id
    && is_able ds ps transport m.id && nat_le (need_at ps transport m) most
    && not (id_eq m.id except)

-- how long ago it came; 0 where it came later than now
abbrev pub age_at : ℕ → Admitted → ℕ
age_at now m = now - m.arrival

-- (age + 1) / need is greater
abbrev pub is_better : List Peer → ℕ → ℕ → Admitted → Admitted → Bool
is_better ps transport now a b = nat_lt ((age_at now b + 1) * need_at ps transport a)
    ((age_at now a + 1) * need_at ps transport b)

-- the best of those that may preempt; among equals the first admitted
abbrev pub best_in : List Dest → List (List Job) → List Peer → ℕ → ℕ → ℕ → Id → List Admitted → Option Admitted
best_in ds lines ps transport most now except ms = least (is_better ps transport now)
    (filter (may_preempt ds lines ps transport most except) ms)
