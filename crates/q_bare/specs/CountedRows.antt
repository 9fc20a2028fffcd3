-- The rows of entries by counts: no past entry is looked at.
use Rattle.std.specs.List.{list_any}
use Rattle.std.specs.Option.{option_map_or}
use Rattle.std.specs.Prelude.{◌&&◌, ◌*◌, ◌+◌, ◌-◌, ◌==◌, ◌^◌, Bool, false, filter, List, map, nat_le, nat_lt, not, Option, ◌||◌, ℕ}
use Rattle.q_bare.specs.Counts.{Counts}
use Rattle.q_model.specs.declared.entry.Entry.{Entry}
use Rattle.q_model.specs.declared.event.Mode.{Mode}
use Rattle.q_model.specs.declared.id.Id.{Id}
use Rattle.q_model.specs.Accounts.{job_left}
use Rattle.q_model.specs.Candidates.{ids_behind, is_better}
use Rattle.q_model.specs.Ids.{id_eq}
use Rattle.q_model.specs.Ledger.{Ledger}
use Rattle.q_model.specs.Lists.{least}
use Rattle.q_model.specs.Lives.{mode_eq}
use Rattle.q_model.specs.Past.{is_life}
use Rattle.q_model.specs.Preemptions.{is_current}
use Rattle.q_model.specs.Settings.{World}
use Rattle.q_model.specs.Startable.{can_start, is_startable, line_of}
use Rattle.q_model.specs.Starts.{is_row}
use Rattle.q_model.specs.Step.{may}
use Rattle.q_model.specs.Values.{Site}
use Rattle.q_model.specs.declared.entry.Entry.TheVariants as entries

-- the generation is the next, and a restart keeps the mode
abbrev pub may_life_by : Counts → Ledger → ℕ → Mode → Bool
may_life_by c l generation mode =
    (generation == l.book.generation + 1) && nat_lt generation (2 ^ 32)
    && (not c.begun || mode_eq mode l.mode)

-- the id of the next message
abbrev pub next_id_by : Counts → Ledger → Id
next_id_by c l = record { generation = l.book.generation; serial = c.messages + 1; bounce = false }

-- an `at` came, and the id is the next
abbrev pub may_arrive_by : Counts → Ledger → Id → Bool
may_arrive_by c l id = l.timed && id_eq id (next_id_by c l)

-- the number is the next, and the row may be sent
abbrev pub may_start_by : Counts → World → Ledger → ℕ → Id → Site → List ℕ → Bool
may_start_by c w l number id site positions =
    (number == c.deliveries + 1) && list_any (λ r. is_row id site positions r && is_startable w l r) l.waiting

-- the parent's account pays for this need
abbrev pub pays_by : Counts → World → Ledger → ℕ → Id → ℕ → Bool
pays_by c w l transport parent need =
    let cost = w.settings.slot_cost in
    let begun = c.deliveries_of parent transport in
    let owed = cost * c.charged_to parent transport in
    let left = job_left l parent transport in
    nat_le (need * (100 - w.settings.slot_discount) * cost + 100 * owed) (100 * (begun + w.settings.slot_loan * cost))
    && nat_le (cost * need + owed) (begun + left)
    && nat_le (cost * w.settings.minimum_slots) (begun + left)

-- the job stands behind the current one, has begun nothing, can start, and may preempt
abbrev pub is_candidate_by : Counts → World → Ledger → ℕ → Id → Id → Bool
is_candidate_by c w l transport parent id = not (w.settings.slot_cost == 0)
    && list_any (id_eq id) (ids_behind parent (line_of l transport))
    && (c.deliveries_of id transport == 0)
    && can_start w l transport id
    && pays_by c w l transport parent (job_left l id transport)

-- in the order of admission
abbrev pub candidates_by : Counts → World → Ledger → ℕ → Id → List Id
candidates_by c w l transport parent =
    filter (is_candidate_by c w l transport parent) (map (λ a. a.id) l.admitted)

-- the best candidate; among equals the first admitted
abbrev pub best_by : Counts → World → Ledger → ℕ → Id → Option Id
best_by c w l transport parent = least (is_better l transport) (candidates_by c w l transport parent)

-- the id is the best candidate
abbrev pub is_best_by : Counts → World → Ledger → ℕ → Id → Id → Bool
is_best_by c w l transport parent id = option_map_or (λ b. id_eq b id) (best_by c w l transport parent) false

-- the best candidate preempts the current job, at its need
abbrev pub may_preempt_by : Counts → World → Ledger → Id → Id → ℕ → ℕ → Bool
may_preempt_by c w l child parent transport need =
    is_current w l transport parent && is_best_by c w l transport parent child
    && (need == job_left l child transport)

-- the rows; all others look at no past entry
abbrev pub may_by : Counts → World → Ledger → Entry → Bool
may_by c w l (entries.Life generation mode) = may_life_by c l generation mode
may_by c w l (entries.Arrive id sender to content) = may_arrive_by c l id
may_by c w l (entries.Start number id site positions) = may_start_by c w l number id site positions
may_by c w l (entries.Preempt child parent transport need) = may_preempt_by c w l child parent transport need
may_by c w l e = may w l e

-- The first entry is `life`, and none comes after `end`.
abbrev pub allowed_by : Counts → World → Ledger → Entry → Bool
allowed_by c w l e = (c.living || (is_life e && not c.begun)) && may_by c w l e
