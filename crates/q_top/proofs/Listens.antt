-- A life that listens, behind the files of conf.
use Rattle.std.proofs.Common.{◌≡◌, ◌∙◌, ◌++◌, ◌∷◌, [], ap, arith, append-nil, Bool, inl, inr, List, refl, subst, sym, true, ℕ}
use Rattle.std.specs.Prelude.{Err, IsErrOf, IsTrue, Ok, Result}
use Rattle.q_books.specs.HostStands.{HostStands, TellsCrashes}
use Rattle.q_conf.specs.Confs.{conf_of, goes_by, IsConfFault, world_of}
use Rattle.q_conf.specs.declared.conf.Conf.{Conf}
use Rattle.q_conf.specs.declared.error.ConfError.{ConfError}
use Rattle.q_conf.specs.declared.error.ConfError.TheVariants as conf_errors
use Rattle.q_drain.proofs.GivingUp.{halts_after, none_after}
use Rattle.q_host.proofs.Stays.{stays_on}
use Rattle.q_host.specs.Calls.{Stays}
use Rattle.q_host.specs.View.{View}
use Rattle.q_host.specs.declared.error.HostError.{HostError}
use Rattle.q_host.specs.declared.error.HostError.TheVariants as faults
use Rattle.q_listen.specs.ListenEnds.{HasNoSerial, IsStoryOf, ListenEnds, Outside, Outsides, StopsBehind, StopsWithin}
use Rattle.q_listen.specs.Listens.{ServesSome}
use Rattle.q_listen.specs.Refusals.{FindsDamage as FindsEach, NamesOnlyDamage, RefusesDamage}
use Rattle.q_listen.specs.Stories.{Story}
use Rattle.q_listen.specs.Told.{life_told}
use Rattle.q_listen.specs.declared.listened.ListenError.{ListenError}
use Rattle.q_listen.specs.declared.listened.ListenError.TheVariants as errors
use Rattle.q_listen.specs.declared.listened.Listened.{Listened}
use Rattle.q_listen.specs.declared.listened.Listened.TheVariants.{All, Unfinished}
use Rattle.q_model.specs.Book.{Book}
use Rattle.q_model.specs.Ledger.{opening}
use Rattle.q_model.specs.Orderly.{is_orderly}
use Rattle.q_model.specs.Settings.{World}
use Rattle.q_model.specs.SpoolFiles.{Files}
use Rattle.q_model.specs.declared.entry.Entry.{Entry}
use Rattle.q_model.specs.declared.event.Mode.TheVariants.{Intake}
use Rattle.q_model.specs.declared.limits.Bound.TheVariants as bounds
use Rattle.q_model.specs.declared.spot.Area.{Area}
use Rattle.q_replay.proofs.Readings.{entries_none}
use Rattle.q_replay.proofs.RunSteps.{given_up}
use Rattle.q_replay.specs.ReplayEnds.{ForOrderly}
use Rattle.q_replay.specs.RunEnds.{entries_on, IsToldInPart}
use Rattle.q_restart.specs.Damages.{IsDamage}
use Rattle.q_top.proofs.FirstRefusals.{same_world, says_both, settings_of, table_by, unread_first}
use Rattle.q_top.proofs.RunsBehind.{looked_first, none_yet, still_stands, told_behind}
use Rattle.q_top.specs.Lives.{EndsListening, FindsDamage, ListensOnSpool}
use Rattle.q_top.specs.Statuses.{conf_status, listen_status}
use Rattle.q_top.specs.declared.status.Status.TheVariants as status

-- ---- a life behind calls that only read

module _ (w : World) (b : Book) (port count : ℕ) (o : Outsides) (u m v : View) (lawful : TellsCrashes u) (stays : Stays u m) (h : HostStands u b) where
  within_behind : (fault : HostError) → StopsWithin w b count o fault m v → StopsWithin w b count o fault u v
  within_behind fault d =
      let es : List Entry = entries_on w Intake b d.items in
      let q = halts_after w (opening Intake b) [] es es (opening Intake b) fault u m v refl (sym (none_after w (opening Intake b))) (looked_first w Intake b u m lawful stays h) d.halts in
      record {
        story = d.story;
        items = d.items;
        fits = d.fits;
        halts = q.0;
        told = q.1 ∙ d.told;
        others = d.others;
        few = d.few;
        front = d.front;
        clocked = d.clocked;
        is = d.is;
      }

  stops_behind : StopsBehind w b count o m v → StopsBehind w b count o u v
  stops_behind d = record {
    story = d.story;
    fits = d.fits;
    told = told_behind w Intake b u m lawful stays h v (life_told (d.story).told) d.told;
    clocked = d.clocked;
    is = d.is;
  }

  no_serial_behind : HasNoSerial w b count o m v → HasNoSerial w b count o u v
  no_serial_behind d = record {
    story = d.story;
    fits = d.fits;
    told = told_behind w Intake b u m lawful stays h v (life_told (d.story).told) d.told;
    full = d.full;
    clocked = d.clocked;
    is = d.is;
  }

  pub listening_behind : (r : Result Listened ListenError) → ListenEnds w b port count o m v r → ListenEnds w b port count o u v r
  listening_behind (Ok All) d = record {
    story = d.story;
    fits = d.fits;
    told = told_behind w Intake b u m lawful stays h v _ d.told;
    clocked = d.clocked;
    is = d.is;
  }
  listening_behind (Ok (Unfinished rests)) d = record {
    story = d.story;
    fits = d.fits;
    told = told_behind w Intake b u m lawful stays h v _ d.told;
    clocked = d.clocked;
    is = d.is;
    rests_given = d.rests_given;
  }
  listening_behind (Err errors.Disk) d = within_behind faults.Disk d
  listening_behind (Err errors.Tell) d = within_behind faults.Tell d
  listening_behind (Err errors.NoMemory) d = within_behind faults.NoMemory d
  listening_behind (Err errors.Door) d = stops_behind d
  listening_behind (Err (errors.Limit bounds.Generation)) d = (d.0, told_behind w Intake b u m lawful stays h v [] d.1)
  listening_behind (Err (errors.Limit bounds.Content)) d = (d.0, no_serial_behind d.1)
  listening_behind (Err (errors.Limit bounds.Recipients)) d = (d.0, no_serial_behind d.1)
  listening_behind (Err (errors.Limit bounds.Serial)) d = (d.0, no_serial_behind d.1)
  listening_behind (Err (errors.Limit bounds.Input)) d = (d.0, no_serial_behind d.1)
  listening_behind (Err (errors.Limit bounds.Deliveries)) d = (d.0, no_serial_behind d.1)
  listening_behind (Err (errors.Damaged area name)) d = (told_behind w Intake b u m lawful stays h v [] d.0, d.1)
  listening_behind (Err (errors.Unreadable area name)) d = absurd d

-- ---- the files of conf can't be gone by

-- nothing was done
abbrev nothing : Story
nothing = record { told = []; moments = []; binds = 0; ports = []; accepts = 0; rests = 0; records = [] }

serves_none : (count : ℕ) → ServesSome count nothing
serves_none count = record {
  cases = [];
  last = [];
  unrecorded = [];
  records = refl;
  mails = refl;
  each = tt;
  is_last = inr (refl, refl);
  within = record { binds = omega arith; accepts = omega arith; accepted = omega arith; rested = omega arith };
}

none_done : (count : ℕ) (a : Outside) → IsStoryOf (record { before = a; behind = a }) nothing (ServesSome count nothing)
none_done count a = record {
  given = λ given is. (given, is, sym (append-nil given));
  done = λ now is. (
    now,
    is,
    record {
      binds = omega arith;
      ports = sym (append-nil now.ports);
      accepts = omega arith;
      rests = omega arith;
      records = sym (append-nil now.records);
    },
    serves_none count,
  );
}

no_front : (xs ys : List Entry) → [] ≡ xs ++ ys → xs ≡ []
no_front [] ys is = refl
no_front (x ∷ xs) ys is = absurd cc

stops_before : (w : World) (b : Book) (count : ℕ) (u x : View) (a : Outside) (fault : HostError) → IsToldInPart w Intake b [] fault u x → StopsWithin w b count (record { before = a; behind = a }) fault u x
stops_before w b count u x a fault halts = record {
  story = nothing;
  items = [];
  fits = tt;
  halts = halts;
  told = no_front halts.done halts.rest (sym (entries_none w Intake b) ∙ halts.all);
  others = [];
  few = omega arith;
  front = (life_told [] ++ [], refl);
  clocked = ([], refl);
  is = none_done count a;
}

module _ (port count : ℕ) where
  pub unread_listen : (u m : View) → TellsCrashes u → Stays u m → (tells : Bool) → IsTrue tells → (a : Outside) (error : ConfError) → IsConfFault tells (conf_of u.files) error
      → ListensOnSpool port count (record { before = a; behind = a }) u m (conf_status error)
  unread_listen u m lawful stays tells t a error fault = record { refused = unread_first u m lawful stays tells t error fault; run = by error fault }
    where
      stopped : (w : World) (b : Book) (host : HostError) → HostStands u b → StopsWithin w b count (record { before = a; behind = a }) host u m
      stopped w b host h = stops_before w b count u m a host (given_up w Intake b [] host u m (none_yet w Intake b u m lawful stays h))

      by : (error : ConfError) → IsConfFault tells (conf_of u.files) error → (w : World) → conf_of u.files ≡ goes_by w → (b : Book) → HostStands u b → is_orderly b ≡ true
          → EndsListening w b port count (record { before = a; behind = a }) u m (conf_status error)
      by conf_errors.Disk fault w is b h orderly = record { result = Err errors.Disk; says = refl; ends = stopped w b faults.Disk h }
      by conf_errors.NoMemory fault w is b h orderly = record { result = Err errors.NoMemory; says = refl; ends = stopped w b faults.NoMemory h }
      by (conf_errors.BadLine f n) fault w is b h orderly = absurd (says_both (conf_of u.files) w f n is (fault t))

-- ---- they can

module _ (conf : Conf) (u m v : View) (lawful : TellsCrashes u) (stays : Stays u m) (goes : conf_of u.files ≡ goes_by (world_of conf)) where
  found_here : (r : Result Listened ListenError) (area : Area) (name : List ℕ) → RefusesDamage area name m v r → FindsDamage area name u v (listen_status r)
  found_here (Ok done) area name h = absurd h
  found_here (Err errors.Disk) area name h = record { names = inr (inl refl); stays = stays_on u m v stays h.1 }
  found_here (Err errors.Tell) area name h = record { names = inr (inr (inl refl)); stays = stays_on u m v stays h.1 }
  found_here (Err errors.NoMemory) area name h = record { names = inr (inr (inr refl)); stays = stays_on u m v stays h.1 }
  found_here (Err errors.Door) area name h = absurd h.0
  found_here (Err (errors.Unreadable a n)) area name h = absurd h.0
  found_here (Err (errors.Limit bound)) area name h = absurd h.0
  found_here (Err (errors.Damaged a n)) area name h = record {
    names = inl (ap (λ x. status.Damaged x n) h.0.0 ∙ ap (λ y. status.Damaged area y) h.0.1);
    stays = stays_on u m v stays h.1;
  }

  named_damage : (r : Result Listened ListenError) (area : Area) (name : List ℕ) → listen_status r ≡ status.Damaged area name → IsErrOf r (errors.Damaged area name)
  named_damage (Ok All) area name is = absurd cc
  named_damage (Ok (Unfinished rests)) area name is = absurd cc
  named_damage (Err errors.Disk) area name is = absurd cc
  named_damage (Err errors.Tell) area name is = absurd cc
  named_damage (Err errors.NoMemory) area name is = absurd cc
  named_damage (Err errors.Door) area name is = absurd cc
  named_damage (Err (errors.Unreadable a n)) area name is = absurd cc
  named_damage (Err (errors.Limit bound)) area name is = absurd cc
  named_damage (Err (errors.Damaged a n)) area name is =
      let same_area : a ≡ area = cc in
      let same_name : n ≡ name = cc in
      ap (λ x. Err (errors.Damaged x n)) same_area ∙ ap (λ y. Err (errors.Damaged area y)) same_name

  pub listened : (port count : ℕ) (o : Outsides) (r : Result Listened ListenError) → FindsEach m v r → NamesOnlyDamage v r → ForOrderly conf.params conf.table m (λ w b. ListenEnds w b port count o m v r)
      → ListensOnSpool port count o u v (listen_status r)
  listened port count o r damaged only ends = record {
    refused = record {
      conf = λ file line is. absurd (says_both (conf_of u.files) (world_of conf) file line goes is);
      damage = λ w is area name damage. found_here r area name (damaged area name (subst (λ (f : Files). IsDamage f area name) (sym stays.files) damage));
      only_damage = λ area name is. only area name (named_damage r area name is);
    };
    run = λ w is b h orderly.
        let same = same_world w (world_of conf) (sym is ∙ goes) in
        record {
          result = r;
          says = refl;
          ends = listening_behind w b port count o u m v lawful stays h r (ends b (still_stands u m lawful stays b h) orderly w (settings_of w conf same) (table_by w conf same));
        };
  }
