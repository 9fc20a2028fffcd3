-- A drain behind the files of conf.
use Rattle.std.proofs.Common.{◌≡◌, ◌∙◌, [], ap, Bool, inl, inr, List, refl, subst, sym, true, ℕ}
use Rattle.std.specs.Prelude.{Err, IsErrOf, IsTrue, Ok, Result}
use Rattle.q_books.specs.HostStands.{HostStands, TellsCrashes}
use Rattle.q_conf.specs.Confs.{conf_of, goes_by, IsConfFault, world_of}
use Rattle.q_conf.specs.declared.conf.Conf.{Conf}
use Rattle.q_conf.specs.declared.error.ConfError.{ConfError}
use Rattle.q_conf.specs.declared.error.ConfError.TheVariants as conf_errors
use Rattle.q_drain.proofs.GivingUp.{halts_after, none_after}
use Rattle.q_drain.specs.Standing.{Outside}
use Rattle.q_drain.specs.Swept.{Outsides}
use Rattle.q_entries.proofs.Playing.{plays_then}
use Rattle.q_entries.specs.Runs.{PlaysRun}
use Rattle.q_model.specs.declared.limits.Bound.TheVariants as bounds
use Rattle.q_host.specs.Calls.{Stays}
use Rattle.q_host.specs.View.{View}
use Rattle.q_host.specs.declared.error.HostError.{HostError}
use Rattle.q_host.specs.declared.error.HostError.TheVariants as faults
use Rattle.q_model.specs.Book.{Book}
use Rattle.q_model.specs.Ledger.{Ledger, opening}
use Rattle.q_model.specs.Orderly.{is_orderly}
use Rattle.q_model.specs.Settings.{World}
use Rattle.q_model.specs.SpoolFiles.{Files}
use Rattle.q_model.specs.declared.entry.Entry.{Entry}
use Rattle.q_model.specs.declared.event.Mode.TheVariants.{Deliver}
use Rattle.q_model.specs.declared.spot.Area.{Area}
use Rattle.q_replay.proofs.Delivering.{stops_before}
use Rattle.q_replay.proofs.RunSteps.{given_up}
use Rattle.q_replay.specs.DamagedSpools.{FindsDamage as FindsEach, NamesOnlyDamage, RefusesDamage}
use Rattle.q_replay.specs.Deliveries.{DeliveryEnds, HasNoNumber, life_told, StopsDelivering}
use Rattle.q_replay.specs.ReplayEnds.{ForOrderly}
use Rattle.q_replay.specs.RunEnds.{entries_on}
use Rattle.q_replay.specs.declared.deliveries.Delivered.{Delivered}
use Rattle.q_replay.specs.declared.deliveries.Delivered.TheVariants as deliveries
use Rattle.q_replay.specs.declared.error.ReplayError.{ReplayError}
use Rattle.q_replay.specs.declared.error.ReplayError.TheVariants as errors
use Rattle.q_host.proofs.Stays.{stays_on}
use Rattle.q_restart.specs.Damages.{IsDamage}
use Rattle.q_top.proofs.FirstRefusals.{same_world, says_both, settings_of, table_by, unread_first}
use Rattle.q_top.proofs.RunsBehind.{looked_first, none_yet, still_stands, told_behind}
use Rattle.q_top.specs.Lives.{DrainsSpool, EndsDelivery, FindsDamage}
use Rattle.q_top.specs.Statuses.{conf_status, delivery_status}
use Rattle.q_top.specs.declared.status.Status.TheVariants as status

-- ---- a life behind calls that only read

module _ (w : World) (b : Book) (o : Outsides) (u m v : View) (lawful : TellsCrashes u) (stays : Stays u m) (h : HostStands u b) where
  stops_behind : (fault : HostError) → StopsDelivering w b o fault m v → StopsDelivering w b o fault u v
  stops_behind fault d =
      let es : List Entry = entries_on w Deliver b d.items in
      let q = halts_after w (opening Deliver b) [] es es (opening Deliver b) fault u m v refl (sym (none_after w (opening Deliver b))) (looked_first w Deliver b u m lawful stays h) d.halts in
      record {
        story = d.story;
        items = d.items;
        fits = d.fits;
        halts = q.0;
        before = d.before;
        behind = d.behind;
        told = q.1 ∙ d.told;
        silent = d.silent;
        others = d.others;
        few = d.few;
        front = d.front;
        gave_up = d.gave_up;
      }

  full_behind : HasNoNumber w b o m v → HasNoNumber w b o u v
  full_behind d = record {
    story = d.story;
    fits = d.fits;
    plays = plays_then w (opening Deliver b) [] (entries_on w Deliver b (life_told d.story)) u m v (looked_first w Deliver b u m lawful stays h)
        (subst (λ (l : Ledger). PlaysRun w l (entries_on w Deliver b (life_told d.story)) m v) (sym (none_after w (opening Deliver b))) d.plays);
    full = d.full;
    clocked = d.clocked;
    connected = d.connected;
    gave_up = d.gave_up;
  }

  pub delivery_behind : (r : Result Delivered ReplayError) → DeliveryEnds w b o m v r → DeliveryEnds w b o u v r
  delivery_behind (Ok deliveries.All) d = record {
    story = d.story;
    fits = d.fits;
    told = told_behind w Deliver b u m lawful stays h v _ d.told;
    is = d.is;
    quiet = d.quiet;
  }
  delivery_behind (Ok (deliveries.Unfinished rests)) d = record {
    story = d.story;
    fits = d.fits;
    told = told_behind w Deliver b u m lawful stays h v _ d.told;
    is = d.is;
    flies = d.flies;
    rests_given = d.rests_given;
    waited = d.waited;
  }
  delivery_behind (Err errors.Disk) d = stops_behind faults.Disk d
  delivery_behind (Err errors.Tell) d = stops_behind faults.Tell d
  delivery_behind (Err errors.NoMemory) d = stops_behind faults.NoMemory d
  delivery_behind (Err errors.Source) d = absurd d
  delivery_behind (Err (errors.Unreadable area name)) d = absurd d
  delivery_behind (Err (errors.BadEvent line)) d = absurd d
  delivery_behind (Err (errors.Limit bounds.Generation)) d = (d.0, told_behind w Deliver b u m lawful stays h v [] d.1)
  delivery_behind (Err (errors.Limit bounds.Content)) d = (d.0, full_behind d.1)
  delivery_behind (Err (errors.Limit bounds.Recipients)) d = (d.0, full_behind d.1)
  delivery_behind (Err (errors.Limit bounds.Serial)) d = (d.0, full_behind d.1)
  delivery_behind (Err (errors.Limit bounds.Input)) d = (d.0, full_behind d.1)
  delivery_behind (Err (errors.Limit bounds.Deliveries)) d = (d.0, full_behind d.1)
  delivery_behind (Err (errors.Damaged area name)) d = (told_behind w Deliver b u m lawful stays h v [] d.0, d.1)

-- ---- the files of conf can't be gone by

pub unread_drain : (u m : View) → TellsCrashes u → Stays u m → (tells : Bool) → IsTrue tells → (a : Outside) (error : ConfError) → IsConfFault tells (conf_of u.files) error
    → DrainsSpool (record { before = a; behind = a }) u m (conf_status error)
unread_drain u m lawful stays tells t a error fault = record { refused = unread_first u m lawful stays tells t error fault; run = by error fault }
  where
    stopped : (w : World) (b : Book) (host : HostError) → HostStands u b → StopsDelivering w b (record { before = a; behind = a }) host u m
    stopped w b host h = stops_before w b u m a host (given_up w Deliver b [] host u m (none_yet w Deliver b u m lawful stays h))

    by : (error : ConfError) → IsConfFault tells (conf_of u.files) error → (w : World) → conf_of u.files ≡ goes_by w → (b : Book) → HostStands u b → is_orderly b ≡ true
        → EndsDelivery w b (record { before = a; behind = a }) u m (conf_status error)
    by conf_errors.Disk fault w is b h orderly = record { result = Err errors.Disk; says = refl; ends = stopped w b faults.Disk h }
    by conf_errors.NoMemory fault w is b h orderly = record { result = Err errors.NoMemory; says = refl; ends = stopped w b faults.NoMemory h }
    by (conf_errors.BadLine f n) fault w is b h orderly = absurd (says_both (conf_of u.files) w f n is (fault t))

-- ---- they can

module _ (conf : Conf) (u m v : View) (lawful : TellsCrashes u) (stays : Stays u m) (goes : conf_of u.files ≡ goes_by (world_of conf)) where
  found_here : (r : Result Delivered ReplayError) (area : Area) (name : List ℕ) → RefusesDamage area name m v r → FindsDamage area name u v (delivery_status r)
  found_here (Ok done) area name h = absurd h
  found_here (Err errors.Disk) area name h = record { names = inr (inl refl); stays = stays_on u m v stays h.1 }
  found_here (Err errors.Tell) area name h = record { names = inr (inr (inl refl)); stays = stays_on u m v stays h.1 }
  found_here (Err errors.NoMemory) area name h = record { names = inr (inr (inr refl)); stays = stays_on u m v stays h.1 }
  found_here (Err errors.Source) area name h = absurd h.0
  found_here (Err (errors.Unreadable a n)) area name h = absurd h.0
  found_here (Err (errors.BadEvent line)) area name h = absurd h.0
  found_here (Err (errors.Limit bound)) area name h = absurd h.0
  found_here (Err (errors.Damaged a n)) area name h = record {
    names = inl (ap (λ x. status.Damaged x n) h.0.0 ∙ ap (λ y. status.Damaged area y) h.0.1);
    stays = stays_on u m v stays h.1;
  }

  named_damage : (r : Result Delivered ReplayError) (area : Area) (name : List ℕ) → delivery_status r ≡ status.Damaged area name → IsErrOf r (errors.Damaged area name)
  named_damage (Ok deliveries.All) area name is = absurd cc
  named_damage (Ok (deliveries.Unfinished rests)) area name is = absurd cc
  named_damage (Err errors.Disk) area name is = absurd cc
  named_damage (Err errors.Tell) area name is = absurd cc
  named_damage (Err errors.NoMemory) area name is = absurd cc
  named_damage (Err errors.Source) area name is = absurd cc
  named_damage (Err (errors.Unreadable a n)) area name is = absurd cc
  named_damage (Err (errors.BadEvent line)) area name is = absurd cc
  named_damage (Err (errors.Limit bound)) area name is = absurd cc
  named_damage (Err (errors.Damaged a n)) area name is =
      let same_area : a ≡ area = cc in
      let same_name : n ≡ name = cc in
      ap (λ x. Err (errors.Damaged x n)) same_area ∙ ap (λ y. Err (errors.Damaged area y)) same_name

  pub drained : (o : Outsides) (r : Result Delivered ReplayError) → FindsEach m v r → NamesOnlyDamage v r → ForOrderly conf.params conf.table m (λ w b. DeliveryEnds w b o m v r) → DrainsSpool o u v (delivery_status r)
  drained o r damaged only ends = record {
    refused = record {
      conf = λ file line is. absurd (says_both (conf_of u.files) (world_of conf) file line goes is);
      damage = λ w is area name damage. found_here r area name (damaged area name (subst (λ (f : Files). IsDamage f area name) (sym stays.files) damage));
      only_damage = λ area name is. only area name (named_damage r area name is);
    };
    run = λ w is b h orderly.
        let same = same_world w (world_of conf) (sym is ∙ goes) in
        record {
          result = r;
          says = refl;
          ends = delivery_behind w b o u m v lawful stays h r (ends b (still_stands u m lawful stays b h) orderly w (settings_of w conf same) (table_by w conf same));
        };
  }

-- where it didn't end by a fault of the source, no status blames it
pub never_of_source : (r : Result Delivered ReplayError) → (IsErrOf r errors.Source → ⊥) → delivery_status r ≡ status.Source → ⊥
never_of_source (Ok deliveries.All) never is = cc
never_of_source (Ok (deliveries.Unfinished rests)) never is = cc
never_of_source (Err errors.Source) never is = never refl
never_of_source (Err errors.Disk) never is = cc
never_of_source (Err errors.Tell) never is = cc
never_of_source (Err errors.NoMemory) never is = cc
never_of_source (Err (errors.BadEvent line)) never is = cc
never_of_source (Err (errors.Limit bound)) never is = cc
never_of_source (Err (errors.Damaged area name)) never is = cc
never_of_source (Err (errors.Unreadable area name)) never is = cc
