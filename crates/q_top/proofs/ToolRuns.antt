-- A queue tool behind the files of conf.
use Rattle.std.proofs.Common.{◌≡◌, ◌∙◌, ◌≤◌, ◌≢◌, ◌⊎◌, ◌++◌, [], ap, Bool, false, inl, inr, List, Option, refl, subst, sym, take, true, ℕ}
use Rattle.std.specs.Prelude.{Err, IfErr, IsErrOf, IsTrue, Ok, Result}
use Rattle.q_books.specs.HostStands.{HostStands, TellsCrashes}
use Rattle.q_conf.specs.Confs.{conf_of, goes_by, IsConfFault, world_of}
use Rattle.q_conf.specs.declared.conf.Conf.{Conf}
use Rattle.q_conf.specs.declared.error.ConfError.{ConfError}
use Rattle.q_conf.specs.declared.error.ConfError.TheVariants as conf_errors
use Rattle.q_entries.proofs.Playing.{plays_given_up}
use Rattle.q_host.specs.Calls.{Stays}
use Rattle.q_host.specs.Faults.{Faults}
use Rattle.q_host.specs.View.{LeavesOnly, View}
use Rattle.q_host.specs.declared.error.HostError.{HostError}
use Rattle.q_host.specs.declared.error.HostError.TheVariants as faults
use Rattle.q_host.proofs.Moments.{leaves_on}
use Rattle.q_model.specs.Book.{Book}
use Rattle.q_model.specs.Ledger.{opening}
use Rattle.q_model.specs.Orderly.{is_orderly}
use Rattle.q_model.specs.Settings.{World}
use Rattle.q_model.specs.SpoolFiles.{Files}
use Rattle.q_model.specs.declared.event.Mode.TheVariants.{Intake}
use Rattle.q_model.specs.declared.limits.Bound.TheVariants as bounds
use Rattle.q_model.specs.declared.spot.Area.{Area}
use Rattle.q_replay.proofs.Submitting.{rose_later}
use Rattle.q_replay.specs.ReplayEnds.{ForOrderly}
use Rattle.q_replay.specs.declared.error.ReplayError.{ReplayError}
use Rattle.q_replay.specs.declared.error.ReplayError.TheVariants as errors
use Rattle.q_restart.specs.Damages.{IsDamage}
use Rattle.q_super.specs.Deeds.{Deed, lines_in}
use Rattle.q_super.specs.Plays.{next_line}
use Rattle.q_super.specs.declared.error.SuperError.TheVariants as acts
use Rattle.q_tools.specs.Lives.{life_taken, life_text, tool_entries}
use Rattle.q_tools.specs.Refusals.{CarryCause, FindsDamage as FindsEach, is_unreadable as is_tool_unreadable, IsToolRefusal, NamesOnlyDamage, RefusesDamage}
use Rattle.q_tools.specs.ToolEnds.{HaltsBehind, IsLeftOfTool, PlaysBehind, StopsBehind, ToolEnds}
use Rattle.q_tools.specs.declared.error.ToolError.{ToolError}
use Rattle.q_tools.specs.declared.error.ToolError.TheVariants.{Act, Life}
use Rattle.q_tools.specs.declared.task.Task.{Task}
use Rattle.q_top.proofs.FirstRefusals.{found_here, named_damage, same_world, says_both, settings_of, table_by, unread_first}
use Rattle.q_top.proofs.Readable.{error_readable}
use Rattle.q_top.proofs.RunsBehind.{halts_first, looked_first, run_behind, still_stands}
use Rattle.q_top.specs.Causes.{HasHostCause}
use Rattle.q_top.specs.Lives.{EndsTool, FindsDamage, WorksAt}
use Rattle.q_top.specs.Named.{IsNamed, MayLackFor}
use Rattle.q_top.specs.Statuses.{conf_status, is_unreadable, tool_status}
use Rattle.q_top.specs.declared.status.Status.TheVariants as status
use Rattle.q_words.specs.declared.request.Request.TheVariants.{Tool}
use Rattle.q_words.specs.declared.tool.ToolRequest.{ToolRequest}

-- ---- behind calls that only read

module _ (w : World) (b : Book) (moment : ℕ) (u m v : View) (lawful : TellsCrashes u) (stays : Stays u m) (h : HostStands u b) where
  told_same : m.told ≡ u.told
  told_same = stays.told

  moments_behind : (ds : List Deed) → LeavesOnly m v (IsLeftOfTool w b moment ds m.told) → LeavesOnly u v (IsLeftOfTool w b moment ds u.told)
  moments_behind ds p =
      leaves_on (IsLeftOfTool w b moment ds u.told) (plays_given_up w (opening Intake b) [] (tool_entries w b moment) faults.Disk u m (looked_first w Intake b u m lawful stays h)).moments p (λ c here. inl here) (λ c here. subst (λ (xs : List ℕ). IsLeftOfTool w b moment ds xs c) told_same here)

  played_on : (ds : List Deed) → PlaysBehind w b moment ds m v → PlaysBehind w b moment ds u v
  played_on ds p = record {
    fits = p.fits;
    may = p.may;
    told = p.told ∙ ap (λ (xs : List ℕ). (xs ++ life_text w b moment) ++ lines_in ds) told_same;
    stands = p.stands;
    moments = moments_behind ds p.moments;
  }

  halted_on : (ds : List Deed) (error : HostError) → HaltsBehind w b moment ds error m v → HaltsBehind w b moment ds error u v
  halted_on ds error p = record {
    fits = p.fits;
    may = p.may;
    done = p.done;
    rest = p.rest;
    all = p.all;
    part = p.part;
    short = p.short;
    told = p.told ∙ ap (λ (xs : List ℕ). ((xs ++ life_text w b moment) ++ lines_in p.done) ++ take p.part (next_line p.rest)) told_same;
    only_tell = p.only_tell;
    stands = p.stands;
    moments = moments_behind ds p.moments;
  }

  stopped_on : (task : Task) (error : HostError) → StopsBehind w b moment task error m v → StopsBehind w b moment task error u v
  stopped_on task error (inl p) = inl (played_on [] p)
  stopped_on task error (inr p) = inr (halted_on _ error p)

  pub tool_behind : (task : Task) (r : Result (Unit {0}) ToolError) → ToolEnds w b moment task m v r → ToolEnds w b moment task u v r
  tool_behind task (Ok done) e = (e.0, played_on _ e.1)
  tool_behind task (Err (Life error)) e = run_behind w Intake b u m lawful stays h v (life_taken w b moment) (Err error) e
  tool_behind task (Err (Act acts.Absent)) e = (e.0, played_on _ e.1)
  tool_behind task (Err (Act acts.Disk)) e = stopped_on task faults.Disk e
  tool_behind task (Err (Act acts.Tell)) e = stopped_on task faults.Tell e
  tool_behind task (Err (Act acts.NoMemory)) e = stopped_on task faults.NoMemory e

-- ---- conf can't be gone by

module _ (u m : View) (lawful : TellsCrashes u) (stays : Stays u m) (tells : Bool) (t : IsTrue tells) where
  pub unread_tool : (moment : ℕ) (task : Task) (error : ConfError) → IsConfFault tells (conf_of u.files) error → WorksAt moment task u m (conf_status error)
  unread_tool moment task error fault = record { refused = unread_first u m lawful stays tells t error fault; run = by error fault }
    where
      by : (error : ConfError) → IsConfFault tells (conf_of u.files) error → (w : World) → conf_of u.files ≡ goes_by w → (b : Book) → HostStands u b → is_orderly b ≡ true → EndsTool w b moment task u m (conf_status error)
      by conf_errors.Disk fault w is b h orderly = record { result = Err (Life errors.Disk); says = refl; ends = halts_first w Intake b u m lawful stays h (life_taken w b moment) faults.Disk }
      by conf_errors.NoMemory fault w is b h orderly = record { result = Err (Life errors.NoMemory); says = refl; ends = halts_first w Intake b u m lawful stays h (life_taken w b moment) faults.NoMemory }
      by (conf_errors.BadLine f n) fault w is b h orderly = absurd (says_both (conf_of u.files) w f n is (fault t))

-- ---- it can

module _ (conf : Conf) (u m v : View) (lawful : TellsCrashes u) (stays : Stays u m) (goes : conf_of u.files ≡ goes_by (world_of conf)) where
  found_by_tool : (r : Result (Unit {0}) ToolError) (area : Area) (name : List ℕ) → RefusesDamage area name m v r → FindsDamage area name u v (tool_status r)
  found_by_tool (Ok done) area name h = absurd h
  found_by_tool (Err (Life error)) area name h = found_here conf u m v lawful stays goes (Err error) area name h
  found_by_tool (Err (Act error)) area name h = absurd h

  damage_named : (r : Result (Unit {0}) ToolError) (area : Area) (name : List ℕ) → tool_status r ≡ status.Damaged area name → IsErrOf r (Life (errors.Damaged area name))
  damage_named (Ok done) area name is = absurd cc
  damage_named (Err (Act acts.Disk)) area name is = absurd cc
  damage_named (Err (Act acts.Tell)) area name is = absurd cc
  damage_named (Err (Act acts.NoMemory)) area name is = absurd cc
  damage_named (Err (Act acts.Absent)) area name is = absurd cc
  damage_named (Err (Life error)) area name is = by (named_damage conf u m v lawful stays goes (Err error) area name is)
    where
      by : IsErrOf {T = Unit {0}} (Err error) (errors.Damaged area name) → IsErrOf {T = Unit {0}} (Err (Life error)) (Life (errors.Damaged area name))
      by same = let inner : error ≡ errors.Damaged area name = cc in ap (λ (e : ReplayError). Err (Life e)) inner

  pub worked : (moment : ℕ) (task : Task) (r : Result (Unit {0}) ToolError) → FindsEach m v r → NamesOnlyDamage v r → ForOrderly conf.params conf.table m (λ w b. ToolEnds w b moment task m v r) → WorksAt moment task u v (tool_status r)
  worked moment task r damaged only ends = record {
    refused = record {
      conf = λ file line is. absurd (says_both (conf_of u.files) (world_of conf) file line goes is);
      damage = λ w is area name damage. found_by_tool r area name (damaged area name (subst (λ (f : Files). IsDamage f area name) (sym stays.files) damage));
      only_damage = λ area name is. only area name (damage_named r area name is);
    };
    run = λ w is b h orderly.
        let same = same_world w (world_of conf) (sym is ∙ goes) in
        record {
          result = r;
          says = refl;
          ends = tool_behind w b moment u m v lawful stays h task r
              (ends b (still_stands u m lawful stays b h) orderly w (settings_of w conf same) (table_by w conf same));
        };
  }

-- ---- statuses

pub tool_named : (task : Task) (tool : ToolRequest) (text : Option (List ℕ)) → MayLackFor tool task → (r : Result (Unit {0}) ToolError) → IfErr r (IsToolRefusal task) → IsNamed (λ x. x ≡ Tool tool) text (tool_status r)
tool_named task tool text lacks (Ok done) h = tt
tool_named task tool text lacks (Err (Act acts.Disk)) h = tt
tool_named task tool text lacks (Err (Act acts.Tell)) h = tt
tool_named task tool text lacks (Err (Act acts.NoMemory)) h = tt
tool_named task tool text lacks (Err (Act acts.Absent)) h = inl (tool, lacks h, refl)
tool_named task tool text lacks (Err (Life errors.Disk)) h = tt
tool_named task tool text lacks (Err (Life errors.Tell)) h = tt
tool_named task tool text lacks (Err (Life errors.Source)) h = absurd h
tool_named task tool text lacks (Err (Life errors.NoMemory)) h = tt
tool_named task tool text lacks (Err (Life (errors.BadEvent line))) h = absurd h
tool_named task tool text lacks (Err (Life (errors.Limit bounds.Content))) h = absurd h
tool_named task tool text lacks (Err (Life (errors.Limit bounds.Recipients))) h = absurd h
tool_named task tool text lacks (Err (Life (errors.Limit bounds.Generation))) h = h
tool_named task tool text lacks (Err (Life (errors.Limit bounds.Serial))) h = absurd h
tool_named task tool text lacks (Err (Life (errors.Limit bounds.Input))) h = absurd h
tool_named task tool text lacks (Err (Life (errors.Limit bounds.Deliveries))) h = absurd h
tool_named task tool text lacks (Err (Life (errors.Damaged area name))) h = h
tool_named task tool text lacks (Err (Life (errors.Unreadable area name))) h = tt

pub tool_readable : (r : Result (Unit {0}) ToolError) → IfErr r (λ error. is_tool_unreadable error ≡ false) → is_unreadable (tool_status r) ≡ false
tool_readable (Ok done) h = refl
tool_readable (Err (Life error)) h = error_readable error h
tool_readable (Err (Act acts.Disk)) h = refl
tool_readable (Err (Act acts.Tell)) h = refl
tool_readable (Err (Act acts.NoMemory)) h = refl
tool_readable (Err (Act acts.Absent)) h = refl

-- no tool blames the source
pub never_tool_source : (task : Task) (r : Result (Unit {0}) ToolError) → IfErr r (IsToolRefusal task) → tool_status r ≢ status.Source
never_tool_source task (Ok done) h is = cc
never_tool_source task (Err (Life errors.Source)) h is = h
never_tool_source task (Err (Life errors.Disk)) h is = cc
never_tool_source task (Err (Life errors.Tell)) h is = cc
never_tool_source task (Err (Life errors.NoMemory)) h is = cc
never_tool_source task (Err (Life (errors.BadEvent line))) h is = h
never_tool_source task (Err (Life (errors.Limit bound))) h is = cc
never_tool_source task (Err (Life (errors.Damaged area name))) h is = cc
never_tool_source task (Err (Life (errors.Unreadable area name))) h is = cc
never_tool_source task (Err (Act acts.Disk)) h is = cc
never_tool_source task (Err (Act acts.Tell)) h is = cc
never_tool_source task (Err (Act acts.NoMemory)) h is = cc
never_tool_source task (Err (Act acts.Absent)) h is = cc

-- a fault of the disk or of the output is that of the life or of the act
disk_of : (r : Result (Unit {0}) ToolError) → tool_status r ≡ status.Disk → IsErrOf r (Life errors.Disk) ⊎ IsErrOf r (Act acts.Disk)
disk_of (Ok done) is = absurd cc
disk_of (Err (Life errors.Disk)) is = inl refl
disk_of (Err (Act acts.Disk)) is = inr refl
disk_of (Err (Life errors.Tell)) is = absurd cc
disk_of (Err (Life errors.Source)) is = absurd cc
disk_of (Err (Life errors.NoMemory)) is = absurd cc
disk_of (Err (Life (errors.BadEvent line))) is = absurd cc
disk_of (Err (Life (errors.Limit bound))) is = absurd cc
disk_of (Err (Life (errors.Damaged area name))) is = absurd cc
disk_of (Err (Life (errors.Unreadable area name))) is = absurd cc
disk_of (Err (Act acts.Tell)) is = absurd cc
disk_of (Err (Act acts.NoMemory)) is = absurd cc
disk_of (Err (Act acts.Absent)) is = absurd cc

tell_of : (r : Result (Unit {0}) ToolError) → tool_status r ≡ status.Tell → IsErrOf r (Life errors.Tell) ⊎ IsErrOf r (Act acts.Tell)
tell_of (Ok done) is = absurd cc
tell_of (Err (Life errors.Tell)) is = inl refl
tell_of (Err (Act acts.Tell)) is = inr refl
tell_of (Err (Life errors.Disk)) is = absurd cc
tell_of (Err (Life errors.Source)) is = absurd cc
tell_of (Err (Life errors.NoMemory)) is = absurd cc
tell_of (Err (Life (errors.BadEvent line))) is = absurd cc
tell_of (Err (Life (errors.Limit bound))) is = absurd cc
tell_of (Err (Life (errors.Damaged area name))) is = absurd cc
tell_of (Err (Life (errors.Unreadable area name))) is = absurd cc
tell_of (Err (Act acts.Disk)) is = absurd cc
tell_of (Err (Act acts.NoMemory)) is = absurd cc
tell_of (Err (Act acts.Absent)) is = absurd cc

pub tool_cause : (a b c : Faults) (r : Result (Unit {0}) ToolError) → a.disk ≤ b.disk → a.tell ≤ b.tell → CarryCause b c r → HasHostCause a c (tool_status r)
tool_cause a b c r disk tell h = record {
  disk = λ is. rose_later a.disk b.disk c.disk disk (h.disk (disk_of r is));
  tell = λ is. rose_later a.tell b.tell c.tell tell (h.tell (tell_of r is));
}
