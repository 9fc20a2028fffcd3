-- Which job may preempt the current one (SCHEDULER_README, "Preemptive scheduling": slot cost,
-- loan, discount and minimum).
use Rattle.std.specs.List.{list_any}
use Rattle.std.specs.Option.{option_map_or}
use Rattle.std.specs.Prelude.{◌&&◌, ◌*◌, ◌+◌, ◌-◌, ◌==◌, [], Bool, filter, if◌then◌else◌, List, map, nat_le, nat_lt, not, Option, ℕ, ◌∷◌}
use Rattle.q_model.specs.declared.id.Id.{Id}
use Rattle.q_model.specs.Accounts.{charged, job_left, starts_of}
use Rattle.q_model.specs.Book.{message_of}
use Rattle.q_model.specs.Ids.{id_eq}
use Rattle.q_model.specs.Ledger.{Ledger}
use Rattle.q_model.specs.Lists.{least}
use Rattle.q_model.specs.Settings.{World}
use Rattle.q_model.specs.Startable.{can_start, line_of}
use Rattle.q_model.specs.Times.{age_of}

-- those behind the id
abbrev pub ids_behind : Id → List Id → List Id
ids_behind id [] = []
ids_behind id (x ∷ xs) = if id_eq x id then xs else ids_behind id xs

-- The job `id` with this need may preempt `parent`. The account is starts - cost * charged; what it
-- takes away stands on the other side here.
abbrev pub pays : World → Ledger → ℕ → Id → ℕ → Bool
pays w l transport parent need =
    let cost = w.settings.slot_cost in
    let begun = starts_of l parent transport in
    let owed = cost * charged l parent transport in
    let left = job_left l parent transport in
    nat_le (need * (100 - w.settings.slot_discount) * cost + 100 * owed) (100 * (begun + w.settings.slot_loan * cost))
    && nat_le (cost * need + owed) (begun + left)
    && nat_le (cost * w.settings.minimum_slots) (begun + left)

-- the job stands behind the current one, has begun nothing, can start, and may preempt
abbrev pub is_candidate : World → Ledger → ℕ → Id → Id → Bool
is_candidate w l transport parent id = not (w.settings.slot_cost == 0)
    && list_any (id_eq id) (ids_behind parent (line_of l transport))
    && (starts_of l id transport == 0)
    && can_start w l transport id
    && pays w l transport parent (job_left l id transport)

-- in the order of admission
abbrev pub candidates : World → Ledger → ℕ → Id → List Id
candidates w l transport parent = filter (is_candidate w l transport parent) (map (λ a. a.id) l.admitted)

-- the age of a message by its id
abbrev pub age : Ledger → Id → ℕ
age l id = option_map_or (λ m. age_of l.now m) (message_of l.book id) 0

-- (age + 1) / need is greater
abbrev pub is_better : Ledger → ℕ → Id → Id → Bool
is_better l transport a b = nat_lt ((age l b + 1) * job_left l a transport) ((age l a + 1) * job_left l b transport)

-- the best candidate; among equals the first admitted
abbrev pub best : World → Ledger → ℕ → Id → Option Id
best w l transport parent = least (is_better l transport) (candidates w l transport parent)
