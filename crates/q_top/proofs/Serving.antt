-- What a command does to a spool that stands for an orderly book.
use Rattle.std.proofs.Common.{◌≡◌, ◌≤◌, inl, inr, List, refl, ⊎_elim, subst, sym, true, ℕ}
use Rattle.std.specs.Prelude.{Result}
use Rattle.q_books.specs.HostStands.{HostStands, IsLeftOf, TellsCrashes}
use Rattle.q_books.proofs.Joining.{reads_keep}
use Rattle.q_conf.specs.Confs.{world_of}
use Rattle.q_conf.specs.declared.conf.Conf.{Conf}
use Rattle.q_drain.specs.Swept.{Outsides}
use Rattle.q_events.specs.Forms.{IsMailInForm}
use Rattle.q_host.specs.Calls.{Stays}
use Rattle.q_host.specs.View.{LeavesOnly, Remains, View}
use Rattle.q_laws.specs.Consistency.{IsUsable}
use Rattle.q_lives.specs.Lives.{IsOrderly}
use Rattle.q_listen.specs.ListenEnds.{ListenEnds, Outsides as AtDoor}
use Rattle.q_listen.specs.declared.listened.Listened.{Listened}
use Rattle.q_listen.specs.declared.listened.ListenError.{ListenError}
use Rattle.q_model.specs.Book.{Book}
use Rattle.q_model.specs.FilesStand.{Stands}
use Rattle.q_model.specs.Orderly.{is_orderly}
use Rattle.q_model.specs.Settings.{World}
use Rattle.q_model.specs.SpoolFiles.{Files}
use Rattle.q_model.specs.declared.event.Mode.TheVariants.{Intake}
use Rattle.q_replay.proofs.CallsLeft.{list_lives, submission_lives}
use Rattle.q_replay.proofs.DeliveriesLeft.{delivery_lives}
use Rattle.q_replay.proofs.LivesLeft.{lives_behind, still_lives}
use Rattle.q_replay.specs.AnyLists.{TakesList}
use Rattle.q_replay.specs.Deliveries.{DeliveryEnds}
use Rattle.q_replay.specs.ReplayEnds.{ForOrderly}
use Rattle.q_replay.specs.RunEnds.{RunEnds}
use Rattle.q_replay.specs.Spools.{OnlyLooks, Serves}
use Rattle.q_replay.specs.Submissions.{submitted}
use Rattle.q_replay.specs.declared.deliveries.Delivered.{Delivered}
use Rattle.q_replay.specs.declared.error.ReplayError.{ReplayError}
use Rattle.q_replay.specs.declared.letters.Letter.{Letter}
use Rattle.q_settings.specs.Ranges.{IsInRange}
use Rattle.q_telling.specs.Telling.{LeavesFiles, TellsMore}
use Rattle.q_tools.proofs.ToolLives.{tool_lives}
use Rattle.q_tools.specs.ToolEnds.{ToolEnds}
use Rattle.q_tools.specs.declared.error.ToolError.{ToolError}
use Rattle.q_tools.specs.declared.task.Task.{Task}
use Rattle.q_top.proofs.FirstRefusals.{settings_of, table_by}
use Rattle.q_top.proofs.ListensLeft.{listening_lives}
use Rattle.q_top.proofs.RunsBehind.{still_stands}
use Rattle.q_top.specs.Tellings.{EndsTelling}
use Rattle.q_top.specs.declared.status.Status.{Status}

good : (u : View) (b : Book) → HostStands u b → is_orderly b ≡ true → IsOrderly b
good u b h orderly = record { distinct = h.reads.distinct; orderly = orderly }

usable : (w : World) → IsInRange w.settings → IsUsable w
usable w range = record { recipient_minimum = range.recipient_minimum.0; mark_sync_limit = range.mark_sync_limit.0 }

-- ---- lives

-- nothing was done
pub still_serves : (u m : View) → TellsCrashes u → Stays u m → Serves true u m
still_serves u m lawful stays b h orderly = still_lives b (good u b h orderly) u m (reads_keep b b u m lawful stays h)

module _ (conf : Conf) (u m v : View) (lawful : TellsCrashes u) (stays : Stays u m) (range : IsInRange (world_of conf).settings) (r : Result (Unit {0}) ReplayError) where
  pub replay_serves : ForOrderly conf.params conf.table m (λ w b. TakesList w b m v r) → Serves true u v
  replay_serves lists b h orderly =
      let w = world_of conf in
      let so = good u b h orderly in
      let takes = lists b (still_stands u m lawful stays b h) orderly w (settings_of w conf refl) (table_by w conf refl) in
      lives_behind b so u m v (reads_keep b b u m lawful stays h) (list_lives w b m v r (usable w range) so takes)

  pub submission_serves : (moment : ℕ) (letter : Letter) → moment ≤ 999990000000 → IsMailInForm letter.sender letter.to → ForOrderly conf.params conf.table m (λ w b. RunEnds w Intake b (submitted w b moment letter) m v r) → Serves true u v
  submission_serves moment letter late form ends b h orderly =
      let w = world_of conf in
      let so = good u b h orderly in
      let run = ends b (still_stands u m lawful stays b h) orderly w (settings_of w conf refl) (table_by w conf refl) in
      lives_behind b so u m v (reads_keep b b u m lawful stays h) (submission_lives w b moment letter m v r late form (usable w range) so run)

-- a queue tool
module _ (conf : Conf) (u m v : View) (lawful : TellsCrashes u) (stays : Stays u m) (range : IsInRange (world_of conf).settings) (moment : ℕ) (task : Task) (r : Result (Unit {0}) ToolError) where
  pub tool_serves : moment ≤ 999990000000 → ForOrderly conf.params conf.table m (λ w b. ToolEnds w b moment task m v r) → Serves true u v
  tool_serves late ends b h orderly =
      let w = world_of conf in
      let so = good u b h orderly in
      let ended = ends b (still_stands u m lawful stays b h) orderly w (settings_of w conf refl) (table_by w conf refl) in
      lives_behind b so u m v (reads_keep b b u m lawful stays h) (tool_lives w b moment (usable w range) so task m v r late ended)

-- a drain
module _ (conf : Conf) (u m v : View) (lawful : TellsCrashes u) (stays : Stays u m) (range : IsInRange (world_of conf).settings) (o : Outsides) (r : Result Delivered ReplayError) where
  pub drain_serves : ForOrderly conf.params conf.table m (λ w b. DeliveryEnds w b o m v r) → Serves true u v
  drain_serves ends b h orderly =
      let w = world_of conf in
      let so = good u b h orderly in
      let ended = ends b (still_stands u m lawful stays b h) orderly w (settings_of w conf refl) (table_by w conf refl) in
      lives_behind b so u m v (reads_keep b b u m lawful stays h) (delivery_lives w b o (usable w range) so m v r ended)

-- a life that listens
module _ (conf : Conf) (u m v : View) (lawful : TellsCrashes u) (stays : Stays u m) (range : IsInRange (world_of conf).settings) (port count : ℕ) (o : AtDoor) (r : Result Listened ListenError) where
  pub listen_serves : ForOrderly conf.params conf.table m (λ w b. ListenEnds w b port count o m v r) → Serves true u v
  listen_serves ends b h orderly =
      let w = world_of conf in
      let so = good u b h orderly in
      let ended = ends b (still_stands u m lawful stays b h) orderly w (settings_of w conf refl) (table_by w conf refl) in
      lives_behind b so u m v (reads_keep b b u m lawful stays h) (listening_lives w b port count o (usable w range) so m v r ended)

-- ---- looks

left_by_files : (b : Book) (u : View) (c : Remains) → HostStands u b → LeavesFiles u c → IsLeftOf b c
left_by_files b u c h (d, may, same) =
    let left = h.crash d may in
    record { left = left.left; after = left.after; stands = subst (λ (f : Files). Stands f left.left) (sym same) left.stands }

looks_by : (b : Book) (u v : View) → LeavesOnly u v (LeavesFiles u) → HostStands u b → LeavesOnly u v (IsLeftOf b)
looks_by b u v moments h = record {
  later = moments.later;
  each = λ c left. left_by_files b u c h (moments.each c left);
  before = λ t c le left. ⊎_elim (λ was. inl was) (λ new. inr (left_by_files b u c h new)) (moments.before t c le left);
}

-- what was told changed no file
pub told_looks : (text : List ℕ) (b : Book) (u v : View) → HostStands u b → TellsMore text u v → OnlyLooks b u v
told_looks text b u v h told = record {
  at_end = record {
    reads = subst (λ (f : Files). Stands f b) (sym told.files) h.reads;
    crash = λ c may. left_by_files b u c h (told.crash c may);
  };
  moments = looks_by b u v told.moments h;
}

pub ends_looking : {All Part : Type 0} (s : Status) (b : Book) (u v : View) → (All → OnlyLooks b u v) → (Part → OnlyLooks b u v) → EndsTelling All Part s → OnlyLooks b u v
ends_looking s b u v all part (inl (done, h)) = all h
ends_looking s b u v all part (inr (up, h)) = part h
