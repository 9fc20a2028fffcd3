-- Which job may preempt the current one, by what is kept of jobs.
use Rattle.std.specs.List.{list_any}
use Rattle.std.specs.Prelude.{◌&&◌, ◌*◌, ◌+◌, ◌-◌, ◌==◌, Bool, filter, if◌then◌else◌, List, nat_le, nat_lt, None, Option, ℕ}
use Rattle.q_model.specs.Ids.{id_eq}
use Rattle.q_model.specs.Lists.{least}
use Rattle.q_model.specs.Startable.{can_start, line_of}
use Rattle.q_model.specs.Candidates.{age, ids_behind}
use Rattle.q_model.specs.declared.id.Id.{Id}
use Rattle.q_model.specs.Settings.{Settings}
use Rattle.q_ledger.specs.Counted.{charged_in, starts_in}
use Rattle.q_ledger.specs.Worlds.{Given, world_of}
use Rattle.q_ledger.specs.declared.accounts.Accounts.{Accounts}
use Rattle.q_ledger.specs.declared.admitted.Slot.{Slot}
use Rattle.q_ledger.specs.declared.candidates.Standing.{Standing}
use Rattle.q_ledger.specs.Held.{rest_in}
use Rattle.q_ledger.specs.State.{State}

-- a job with this need may preempt one that stands so
abbrev pub pays_with : Settings → Standing → ℕ → Bool
pays_with p s need =
    let cost = p.slot_cost in
    let owed = cost * s.charged in
    nat_le (need * (100 - p.slot_discount) * cost + 100 * owed) (100 * (s.begun + p.slot_loan * cost))
    && nat_le (cost * need + owed) (s.begun + s.left)
    && nat_le (cost * p.minimum_slots) (s.begun + s.left)

-- (age + 1) / need is greater
abbrev pub is_better_in : State → ℕ → Id → Id → Bool
is_better_in c transport a b = nat_lt ((age c.ledger b + 1) * rest_in c a transport) ((age c.ledger a + 1) * rest_in c b transport)

-- the same of what is kept of two messages
abbrev pub is_better_slot : State → ℕ → Slot → Slot → Bool
is_better_slot c transport a b = is_better_in c transport a.id b.id

-- how a job stands
abbrev pub standing_in : State → Accounts → Id → ℕ → Standing
standing_in c accounts id transport = record {
  begun = starts_in accounts id transport;
  charged = charged_in accounts id transport;
  left = rest_in c id transport;
}

-- the message is one of these jobs, has begun nothing, may preempt one that stands so, and can start
abbrev pub is_candidate_in : Given → State → Accounts → ℕ → List Id → Standing → Id → Bool
is_candidate_in g c accounts transport behind parent id = list_any (id_eq id) behind
    && (starts_in accounts id transport == 0)
    && pays_with g.settings parent (rest_in c id transport)
    && can_start (world_of g) c.ledger transport id

-- the same of what is kept of a message
abbrev pub is_candidate_slot : Given → State → Accounts → ℕ → List Id → Standing → Slot → Bool
is_candidate_slot g c accounts transport behind parent s = is_candidate_in g c accounts transport behind parent s.id

-- the best of those that may preempt the job; among equals the first admitted
abbrev pub best_in : Given → State → Accounts → ℕ → Id → Option Slot
best_in g c accounts transport parent =
    let behind = ids_behind parent (line_of c.ledger transport) in
    let standing = standing_in c accounts parent transport in
    if g.settings.slot_cost == 0 then None
    else least (is_better_slot c transport) (filter (is_candidate_slot g c accounts transport behind standing) c.slots)
