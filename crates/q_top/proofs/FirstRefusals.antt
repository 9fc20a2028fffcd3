-- What refuses a command before its first life, and how it ends by its conf.
use Rattle.std.proofs.Common.{◌≡◌, ◌∙◌, ap, Bool, inl, inr, List, None, Option, refl, Some, subst, sym, true, ℕ}
use Rattle.std.specs.Prelude.{Err, IfSome, IsErrOf, IsTrue, Ok, Result}
use Rattle.q_books.specs.HostStands.{HostStands, TellsCrashes}
use Rattle.q_conf.specs.Confs.{at_fault, conf_of, goes_by, IsConfFault, Sayings, world_of}
use Rattle.q_conf.specs.declared.conf.Conf.{Conf}
use Rattle.q_conf.specs.declared.error.ConfError.{ConfError}
use Rattle.q_conf.specs.declared.error.ConfError.TheVariants as conf_errors
use Rattle.q_conf.specs.declared.error.ConfFile.{ConfFile}
use Rattle.q_host.specs.Calls.{Stays}
use Rattle.q_host.specs.View.{View}
use Rattle.q_host.specs.declared.error.HostError.TheVariants as faults
use Rattle.q_model.specs.Book.{Book}
use Rattle.q_model.specs.Orderly.{is_orderly}
use Rattle.q_model.specs.Settings.{World}
use Rattle.q_model.specs.SpoolFiles.{Files}
use Rattle.q_model.specs.declared.event.Mode.TheVariants.{Deliver, Intake}
use Rattle.q_model.specs.declared.spot.Area.{Area}
use Rattle.q_replay.specs.DamagedSpools.{FindsDamage as FindsEach, NamesOnlyDamage, RefusesDamage}
use Rattle.q_replay.specs.AnyLists.{read_list, TakesList}
use Rattle.q_replay.specs.Listings.{bad}
use Rattle.q_replay.specs.Reading.{read_text}
use Rattle.q_replay.specs.ReplayEnds.{ForOrderly, ReplayEnds}
use Rattle.q_replay.specs.RunEnds.{RunEnds}
use Rattle.q_replay.specs.Submissions.{submitted}
use Rattle.q_replay.specs.declared.error.ReplayError.{ReplayError}
use Rattle.q_replay.specs.declared.error.ReplayError.TheVariants as errors
use Rattle.q_replay.specs.declared.letters.Letter.{Letter}
use Rattle.q_restart.specs.Damages.{IsDamage}
use Rattle.q_host.proofs.Stays.{stays_on}
use Rattle.q_transport.specs.Routing.{table_of}
use Rattle.q_top.specs.Courses.{Texts}
use Rattle.q_top.specs.Lives.{EndsList, EndsReplay, EndsSubmission, FindsDamage, IsGivenUp, RefusesFirst, Replays, SubmitsAt}
use Rattle.q_top.specs.Statuses.{conf_status, input_of, status_of}
use Rattle.q_top.specs.declared.status.Status.{Status}
use Rattle.q_top.specs.declared.status.Status.TheVariants as status
use Rattle.q_top.proofs.RunsBehind.{halts_first, list_behind, replay_behind, run_behind, still_stands}

-- ---- the files of conf can't be gone by

pub says_both : (c : Sayings) (w : World) (file : ConfFile) (line : ℕ) → c ≡ goes_by w → c ≡ at_fault file line → ⊥
says_both c w file line is at = let bad : goes_by w ≡ at_fault file line = sym is ∙ at in cc

pub same_fault : (f g : ConfFile) (n k : ℕ) → at_fault f n ≡ at_fault g k → status.BadInput (input_of f) n ≡ status.BadInput (input_of g) k
same_fault f g n k is =
    let file : f ≡ g = cc in
    let line : n ≡ k = cc in
    ap (λ x. status.BadInput (input_of x) n) file ∙ ap (λ y. status.BadInput (input_of g) y) line

for_each : (P : List ℕ → Type 0) → ((bytes : List ℕ) → P bytes) → (t : Option (List ℕ)) → IfSome t P
for_each P f None = tt
for_each P f (Some bytes) = f bytes

module _ (u m : View) (lawful : TellsCrashes u) (stays : Stays u m) where
  -- by a fault of the host, or for want of memory
  first_given_up : (s : Status) → IsGivenUp s → ((area : Area) (name : List ℕ) → s ≡ status.Damaged area name → ⊥) → RefusesFirst u m s
  first_given_up s up other = record {
    conf = λ file line is. record { names = inr up; stays = stays };
    damage = λ w is area name damage. record { names = inr up; stays = stays };
    only_damage = λ area name is. absurd (other area name is);
  }

  module _ (tells : Bool) (t : IsTrue tells) where
    pub unread_first : (error : ConfError) → IsConfFault tells (conf_of u.files) error → RefusesFirst u m (conf_status error)
    unread_first conf_errors.Disk fault = first_given_up status.Disk (inl refl) (λ area name is. cc)
    unread_first conf_errors.NoMemory fault = first_given_up status.NoMemory (inr (inr refl)) (λ area name is. cc)
    unread_first (conf_errors.BadLine f n) fault = record {
      conf = λ file line is. record { names = inl (same_fault f file n line (sym (fault t) ∙ is)); stays = stays };
      damage = λ w is area name damage. absurd (says_both (conf_of u.files) w f n is (fault t));
      only_damage = λ area name is. absurd cc;
    }

    pub unread_replay : (texts : Texts) (error : ConfError) → texts.after ≡ texts.before → IsConfFault tells (conf_of u.files) error → Replays texts u m (conf_status error)
    unread_replay texts error same fault = record { refused = unread_first error fault; unread = λ file line is. same; run = by error fault; lists = by_list error fault }
      where
        by_list : (error : ConfError) → IsConfFault tells (conf_of u.files) error → (w : World) → conf_of u.files ≡ goes_by w → (b : Book) → HostStands u b → is_orderly b ≡ true
            → EndsList w b u m (conf_status error)
        by_list conf_errors.Disk fault w is b h orderly = record {
          result = Err errors.Disk;
          says = refl;
          takes = record { said = bad 0; form = tt; ends = halts_first w Deliver b u m lawful stays h (read_list w b (bad 0)) faults.Disk };
        }
        by_list conf_errors.NoMemory fault w is b h orderly = record {
          result = Err errors.NoMemory;
          says = refl;
          takes = record { said = bad 0; form = tt; ends = halts_first w Deliver b u m lawful stays h (read_list w b (bad 0)) faults.NoMemory };
        }
        by_list (conf_errors.BadLine f n) fault w is b h orderly = absurd (says_both (conf_of u.files) w f n is (fault t))

        by : (error : ConfError) → IsConfFault tells (conf_of u.files) error → (w : World) → conf_of u.files ≡ goes_by w → (b : Book) → HostStands u b → is_orderly b ≡ true
            → IfSome texts.before (λ bytes. EndsReplay w b bytes texts.after u m (conf_status error))
        by conf_errors.Disk fault w is b h orderly = for_each _ (λ bytes. record { result = Err errors.Disk; says = refl; ends = halts_first w Deliver b u m lawful stays h (read_text w b bytes) faults.Disk }) texts.before
        by conf_errors.NoMemory fault w is b h orderly = for_each _ (λ bytes. record { result = Err errors.NoMemory; says = refl; ends = halts_first w Deliver b u m lawful stays h (read_text w b bytes) faults.NoMemory }) texts.before
        by (conf_errors.BadLine f n) fault w is b h orderly = absurd (says_both (conf_of u.files) w f n is (fault t))

    pub unread_submission : (moment : ℕ) (letter : Letter) (error : ConfError) → IsConfFault tells (conf_of u.files) error → SubmitsAt moment letter u m (conf_status error)
    unread_submission moment letter error fault = record { refused = unread_first error fault; run = by error fault }
      where
        by : (error : ConfError) → IsConfFault tells (conf_of u.files) error → (w : World) → conf_of u.files ≡ goes_by w → (b : Book) → HostStands u b → is_orderly b ≡ true
            → EndsSubmission w b moment letter u m (conf_status error)
        by conf_errors.Disk fault w is b h orderly = record { result = Err errors.Disk; says = refl; ends = halts_first w Intake b u m lawful stays h (submitted w b moment letter) faults.Disk }
        by conf_errors.NoMemory fault w is b h orderly = record { result = Err errors.NoMemory; says = refl; ends = halts_first w Intake b u m lawful stays h (submitted w b moment letter) faults.NoMemory }
        by (conf_errors.BadLine f n) fault w is b h orderly = absurd (says_both (conf_of u.files) w f n is (fault t))

-- ---- they can

pub same_world : (w k : World) → goes_by w ≡ goes_by k → w ≡ k
same_world w k is = cc

pub settings_of : (w : World) (conf : Conf) → w ≡ world_of conf → conf.params ≡ w.settings
unfolding world_of
settings_of w conf is = sym (ap (λ (k : World). k.settings) is)

pub table_by : (w : World) (conf : Conf) → w ≡ world_of conf → w.table ≡ table_of conf.table
unfolding world_of
table_by w conf is = ap (λ (k : World). k.table) is

module _ (conf : Conf) (u m v : View) (lawful : TellsCrashes u) (stays : Stays u m) (goes : conf_of u.files ≡ goes_by (world_of conf)) where
  pub found_here : (r : Result (Unit {0}) ReplayError) (area : Area) (name : List ℕ) → RefusesDamage area name m v r → FindsDamage area name u v (status_of r)
  found_here (Ok done) area name h = absurd h
  found_here (Err errors.Disk) area name h = record { names = inr (inl refl); stays = stays_on u m v stays h.1 }
  found_here (Err errors.Tell) area name h = record { names = inr (inr (inl refl)); stays = stays_on u m v stays h.1 }
  found_here (Err errors.NoMemory) area name h = record { names = inr (inr (inr refl)); stays = stays_on u m v stays h.1 }
  found_here (Err errors.Source) area name h = absurd h.0
  found_here (Err (errors.Unreadable a n)) area name h = absurd h.0
  found_here (Err (errors.BadEvent line)) area name h = absurd h.0
  found_here (Err (errors.Limit bound)) area name h = absurd h.0
  found_here (Err (errors.Damaged a n)) area name h = record {
    names = inl (ap (λ x. status.Damaged x n) h.0.0 ∙ ap (λ y. status.Damaged area y) h.0.1);
    stays = stays_on u m v stays h.1;
  }

  pub named_damage : (r : Result (Unit {0}) ReplayError) (area : Area) (name : List ℕ) → status_of r ≡ status.Damaged area name → IsErrOf r (errors.Damaged area name)
  named_damage (Ok done) area name is = absurd cc
  named_damage (Err errors.Disk) area name is = absurd cc
  named_damage (Err errors.Tell) area name is = absurd cc
  named_damage (Err errors.NoMemory) area name is = absurd cc
  named_damage (Err errors.Source) area name is = absurd cc
  named_damage (Err (errors.Unreadable a n)) area name is = absurd cc
  named_damage (Err (errors.BadEvent line)) area name is = absurd cc
  named_damage (Err (errors.Limit bound)) area name is = absurd cc
  named_damage (Err (errors.Damaged a n)) area name is =
      let same_area : a ≡ area = cc in
      let same_name : n ≡ name = cc in
      ap (λ x. Err (errors.Damaged x n)) same_area ∙ ap (λ y. Err (errors.Damaged area y)) same_name

  module _ (r : Result (Unit {0}) ReplayError) (damaged : FindsEach m v r) (only : NamesOnlyDamage v r) where
    run_first : RefusesFirst u v (status_of r)
    run_first = record {
      conf = λ file line is. absurd (says_both (conf_of u.files) (world_of conf) file line goes is);
      damage = λ w is area name damage. found_here r area name (damaged area name (subst (λ (f : Files). IsDamage f area name) (sym stays.files) damage));
      only_damage = λ area name is. only area name (named_damage r area name is);
    }

    pub replayed : (texts : Texts) → ForOrderly conf.params conf.table m (λ w b. IfSome texts.before (λ bytes. ReplayEnds w b bytes texts.after m v r)) → ForOrderly conf.params conf.table m (λ w b. TakesList w b m v r) → Replays texts u v (status_of r)
    replayed texts ends lists = record {
      refused = run_first;
      unread = λ file line is. absurd (says_both (conf_of u.files) (world_of conf) file line goes is);
      run = λ w is b h orderly.
          let same = same_world w (world_of conf) (sym is ∙ goes) in
          all_behind w b h texts.before (ends b (still_stands u m lawful stays b h) orderly w (settings_of w conf same) (table_by w conf same));
      lists = λ w is b h orderly.
          let same = same_world w (world_of conf) (sym is ∙ goes) in
          record {
            result = r;
            says = refl;
            takes = list_behind w b u m lawful stays h v r (lists b (still_stands u m lawful stays b h) orderly w (settings_of w conf same) (table_by w conf same));
          };
    }
      where
        all_behind : (w : World) (b : Book) → HostStands u b → (t : Option (List ℕ)) → IfSome t (λ bytes. ReplayEnds w b bytes texts.after m v r) → IfSome t (λ bytes. EndsReplay w b bytes texts.after u v (status_of r))
        all_behind w b h None e = tt
        all_behind w b h (Some bytes) e = record { result = r; says = refl; ends = replay_behind w b u m lawful stays h bytes texts.after v r e }

    pub submitted_so : (moment : ℕ) (letter : Letter) → ForOrderly conf.params conf.table m (λ w b. RunEnds w Intake b (submitted w b moment letter) m v r) → SubmitsAt moment letter u v (status_of r)
    submitted_so moment letter ends = record {
      refused = run_first;
      run = λ w is b h orderly.
          let same = same_world w (world_of conf) (sym is ∙ goes) in
          record {
            result = r;
            says = refl;
            ends = run_behind w Intake b u m lawful stays h v (submitted w b moment letter) r
                (ends b (still_stands u m lawful stays b h) orderly w (settings_of w conf same) (table_by w conf same));
          };
    }

-- where lives didn't end by a fault of the source, no status blames it
pub never_source : (r : Result (Unit {0}) ReplayError) → (IsErrOf r errors.Source → ⊥) → status_of r ≡ status.Source → ⊥
never_source (Ok done) never is = cc
never_source (Err errors.Source) never is = never refl
never_source (Err errors.Disk) never is = cc
never_source (Err errors.Tell) never is = cc
never_source (Err errors.NoMemory) never is = cc
never_source (Err (errors.BadEvent line)) never is = cc
never_source (Err (errors.Limit bound)) never is = cc
never_source (Err (errors.Damaged area name)) never is = cc
never_source (Err (errors.Unreadable area name)) never is = cc
