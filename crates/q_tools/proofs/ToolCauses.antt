-- How a tool ends, by how its life and its act ended.
use Rattle.std.proofs.Common.{◌≡◌, ◌≤◌, ℕ, true, inl, inr, refl, subst}
use Rattle.std.specs.Prelude.{Err, IsErrOf, Ok}
use Rattle.q_books.specs.HostStands.{HostStands, TellsCrashes}
use Rattle.q_host.specs.View.{View}
use Rattle.q_host.specs.declared.error.HostError.{HostError}
use Rattle.q_host.specs.declared.error.HostError.TheVariants as faults
use Rattle.q_laws.specs.Consistency.{IsUsable}
use Rattle.q_model.specs.Book.{Book}
use Rattle.q_model.specs.Orderly.{is_orderly}
use Rattle.q_model.specs.Settings.{Settings, World}
use Rattle.q_settings.specs.Ranges.{IsInRange}
use Rattle.q_super.specs.Refusals.{EachFault}
use Rattle.q_super.specs.declared.error.SuperError.{SuperError}
use Rattle.q_super.specs.declared.error.SuperError.TheVariants as acts
use Rattle.q_tools.specs.Lives.{book_behind, IsRun}
use Rattle.q_tools.specs.Tasks.{OnOrderly, StopsWork, Works, WorksOthers}
use Rattle.q_tools.specs.ToolEnds.{deeds_behind, StopsBehind, ToolEnds}
use Rattle.q_tools.specs.declared.error.ToolError.TheVariants.{Act}
use Rattle.q_tools.specs.declared.task.Task.{Task}
use Rattle.q_tools.proofs.Behind.{halted_behind, played_behind, stands_end, stayed_behind}
use Rattle.q_tools.proofs.ToolLives.{end_orderly}

usable_by : (params : Settings) (w : World) → params ≡ w.settings → IsInRange params → IsUsable w
usable_by params w same range = record {
  recipient_minimum = subst (λ (s : Settings). 1 ≤ s.recipient_minimum) same range.recipient_minimum.0;
  mark_sync_limit = subst (λ (s : Settings). 1 ≤ s.mark_sync_limit) same range.mark_sync_limit.0;
}

module _ (params : Settings) (range : IsInRange params) (w : World) (same : params ≡ w.settings) (b : Book) (moment : ℕ) (task : Task) (u m v : View) (stands : HostStands u b) (orderly : is_orderly b ≡ true) (lawful : TellsCrashes m) (run : IsRun w b moment u m) where
  abbrev end : Book
  end = book_behind w b moment

  on_end : (P : Book → Type 0) → OnOrderly m P → P end
  on_end P h = h end (stands_end w b moment u m v run) (end_orderly w b moment (usable_by params w same range) (record { distinct = stands.reads.distinct; orderly = orderly }) run.fits)

  pub ends_done : OnOrderly m (λ k. Works task k m v) → ToolEnds w b moment task u v (Ok tt)
  ends_done h =
      let works = on_end (λ k. Works task k m v) h in
      (works.found, played_behind w b moment u m v run (deeds_behind w b moment task) works.may works.plays)

  stopped : (error : HostError) → StopsWork task end error m v → StopsBehind w b moment task error u v
  stopped error (inl stays) = inl (stayed_behind w b moment u m v run lawful stays)
  stopped error (inr halts) = inr (halted_behind w b moment u m v run (deeds_behind w b moment task) error halts.may halts.halts)

  pub ends_given_up : (why : SuperError) → EachFault {T = Unit {0}} (Err why) (λ error. OnOrderly m (λ k. StopsWork task k error m v)) → (IsErrOf {T = Unit {0}} (Err why) acts.Absent → OnOrderly m (λ k. WorksOthers task k m v))
      → ToolEnds w b moment task u v (Err (Act why))
  ends_given_up acts.Disk h none = stopped faults.Disk (on_end (λ k. StopsWork task k faults.Disk m v) (h faults.Disk refl))
  ends_given_up acts.Tell h none = stopped faults.Tell (on_end (λ k. StopsWork task k faults.Tell m v) (h faults.Tell refl))
  ends_given_up acts.NoMemory h none = stopped faults.NoMemory (on_end (λ k. StopsWork task k faults.NoMemory m v) (h faults.NoMemory refl))
  ends_given_up acts.Absent h none =
      let works = on_end (λ k. WorksOthers task k m v) (none refl) in
      (works.lacks, played_behind w b moment u m v run (deeds_behind w b moment task) works.may works.plays)
