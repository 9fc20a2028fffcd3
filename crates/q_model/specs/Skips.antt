-- Entry `skip`: recipients at a dead site are put off (SCHEDULER_README: the list of unreachable destinations).
use Rattle.std.specs.List.{list_any}
use Rattle.std.specs.Prelude.{◌&&◌, Bool, length, List, replicate, ℕ}
use Rattle.q_model.specs.declared.id.Id.{Id}
use Rattle.q_model.specs.Ledger.{Ledger}
use Rattle.q_model.specs.Lists.{drop_first}
use Rattle.q_model.specs.Settings.{World}
use Rattle.q_model.specs.Settling.{with_outcomes}
use Rattle.q_model.specs.SiteRecords.{is_dead_site}
use Rattle.q_model.specs.Starts.{is_row}
use Rattle.q_model.specs.Values.{Site}
use Rattle.q_model.specs.declared.outcome.Outcome.TheVariants as outcomes

-- the row waits and its site is dead
abbrev pub may_skip : Ledger → Id → Site → List ℕ → Bool
may_skip l id site positions = list_any (is_row id site positions) l.waiting && is_dead_site l site

-- the row waits no more
abbrev pub unqueued : Ledger → Id → Site → List ℕ → Ledger
unqueued l id site positions = record l { waiting = drop_first (is_row id site positions) l.waiting }

-- each of its recipients is put off without a code
abbrev pub after_skip : World → Ledger → Id → Site → List ℕ → Ledger
after_skip w l id site positions =
    with_outcomes w id positions (replicate (length positions) (outcomes.Later 0)) (unqueued l id site positions)
