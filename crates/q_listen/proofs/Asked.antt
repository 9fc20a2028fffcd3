-- What a life that listens did with room for nothing more than one message is what the settings of the spool
-- ask for.
use Rattle.std.proofs.Common.{◌≡◌, ℕ, ◌⊎◌, inl, inr, ⊎_elim, true, List, [], ◌∷◌, ◌++◌, refl, sym, ap, subst, ◌∙◌}
use Rattle.std.specs.Prelude.{Err, Ok, Result}
use Rattle.q_books.specs.HostStands.{HostStands, IsLeftOf}
use Rattle.q_entries.specs.Entries.{StandsAround}
use Rattle.q_entries.specs.Runs.{HaltsRun, IsLeftOfRun, next_book, StandsAroundNext}
use Rattle.q_host.specs.View.{LeavesOnly, Remains, View}
use Rattle.q_host.specs.declared.error.HostError.{HostError}
use Rattle.q_host.specs.declared.error.HostError.TheVariants as faults
use Rattle.q_laws.specs.Traces.{AreAllowed}
use Rattle.q_listen.specs.ListenEnds.{HasNoSerial, ListenEnds, Outsides, StopsBehind, StopsWithin}
use Rattle.q_listen.specs.Told.{life_told}
use Rattle.q_listen.specs.declared.listened.ListenError.{ListenError}
use Rattle.q_listen.specs.declared.listened.ListenError.TheVariants as errors
use Rattle.q_listen.specs.declared.listened.Listened.{Listened}
use Rattle.q_listen.specs.declared.listened.Listened.TheVariants.{All, Unfinished}
use Rattle.q_model.specs.Book.{Book}
use Rattle.q_model.specs.Ledger.{Ledger, opening}
use Rattle.q_model.specs.Run.{entry_of, turn}
use Rattle.q_model.specs.Settings.{World}
use Rattle.q_model.specs.Step.{after, after_all, allowed}
use Rattle.q_model.specs.declared.entry.Entry.{Entry}
use Rattle.q_model.specs.declared.event.Event.TheVariants as events
use Rattle.q_model.specs.declared.event.LifeEvent.{LifeEvent}
use Rattle.q_model.specs.declared.event.LifeEvent.TheVariants.{Begin, Finish, Heard}
use Rattle.q_model.specs.declared.event.Mode.TheVariants.{Intake}
use Rattle.q_model.specs.declared.limits.Bound.TheVariants as bounds
use Rattle.q_replay.proofs.IntakeEnds.{ends_same}
use Rattle.q_replay.proofs.IntakeEntries.{after_same, HoldsNothing, intake_world, opening_holds}
use Rattle.q_replay.proofs.IntakeRuns.{all_hold, all_same, BringNothing, parts_bring, run_brings, run_same, turn_holds, turn_leads}
use Rattle.q_replay.proofs.LivesLeft.{leaves_wider}
use Rattle.q_replay.specs.Reading.{ended, items_in}
use Rattle.q_replay.specs.RunEnds.{entries_on, IsTold, IsToldInPart}

-- ---- items that are allowed

allowed_item : (w : World) (l : Ledger) (item : LifeEvent) → allowed (intake_world w) l (entry_of l item) ≡ true → allowed w l (entry_of l item) ≡ true
unfolding allowed
allowed_item w l Begin h = h
allowed_item w l (Heard (events.At t)) h = h
allowed_item w l (Heard (events.Mail sender to content)) h = h
allowed_item w l (Heard (events.Reply number state outcomes)) h = h
allowed_item w l (Heard (events.Trigger kind)) h = h
allowed_item w l Finish h = h

allowed_same : (w : World) (l : Ledger) (items : List LifeEvent) → HoldsNothing l → AreAllowed (intake_world w) l items → AreAllowed w l items
allowed_same w l [] none h = tt
allowed_same w l (item ∷ items) none h =
    (allowed_item w l item h.0, allowed_same w (after_all w l (turn w l item)) items (turn_holds w l item none) (subst (λ (k : Ledger). AreAllowed (intake_world w) k items) (turn_leads w l item none) h.1))

-- ---- entries that were carried out in part

around_same : (v w : World) (l m : Ledger) (es : List Entry) (error : HostError) (x : View) → l.book ≡ m.book → next_book v l es ≡ next_book w m es → StandsAroundNext v l es error x → StandsAroundNext w m es error x
around_same v w l m [] error x here next h = subst (HostStands x) here h
around_same v w l m (e ∷ es) error x here next h =
    subst (λ (b : Book). StandsAround e b (after w m e).book error x) here (subst (λ (k : Book). StandsAround e l.book k error x) next h)

next_book_same : (w : World) (l : Ledger) (es : List Entry) → HoldsNothing l → BringNothing es → next_book (intake_world w) l es ≡ next_book w l es
next_book_same w l [] none k = refl
next_book_same w l (e ∷ es) none k = ap (λ (x : Ledger). x.book) (after_same w l none e k.0)

module _ (w : World) (l : Ledger) (none : HoldsNothing l) (es : List Entry) (k : BringNothing es) where
  -- the book behind the first of these entries, and that behind the next
  module _ (done rest : List Entry) (all : es ≡ done ++ rest) where
    behind_same : after_all (intake_world w) l done ≡ after_all w l done
    behind_same = all_same w l done none (parts_bring done rest (subst BringNothing all k)).0

    beyond_same : next_book (intake_world w) (after_all (intake_world w) l done) rest ≡ next_book w (after_all w l done) rest
    beyond_same =
        let both = parts_bring done rest (subst BringNothing all k) in
        ap (λ (m : Ledger). next_book (intake_world w) m rest) behind_same
        ∙ next_book_same w (after_all w l done) rest (all_hold w l done none both.0) both.1

    either_same : (P : Book → Type 0) → P (after_all (intake_world w) l done).book ⊎ P (next_book (intake_world w) (after_all (intake_world w) l done) rest)
        → P (after_all w l done).book ⊎ P (next_book w (after_all w l done) rest)
    either_same P = ⊎_elim (λ here. inl (subst (λ (m : Ledger). P m.book) behind_same here)) (λ next. inr (subst P beyond_same next))

  left_same : (before : List ℕ) (c : Remains) → IsLeftOfRun (intake_world w) l es before c → IsLeftOfRun w l es before c
  left_same before c a = record {
    done = a.done;
    rest = a.rest;
    all = a.all;
    part = a.part;
    short = a.short;
    told = a.told;
    book = either_same a.done a.rest a.all (λ b. IsLeftOf b c) a.book;
    disk_first = λ some. subst (λ (b : Book). IsLeftOf b c) (beyond_same a.done a.rest a.all) (a.disk_first some);
  }

  -- what was told of it is the same
  halts_same : (error : HostError) (u v : View) → (p : HaltsRun (intake_world w) l es error u v) → (q : HaltsRun w l es error u v) × (q.done ≡ p.done)
  halts_same error u v p = (
    record {
      done = p.done;
      rest = p.rest;
      all = p.all;
      part = p.part;
      short = p.short;
      told = p.told;
      only_tell = p.only_tell;
      stands = around_same (intake_world w) w (after_all (intake_world w) l p.done) (after_all w l p.done) p.rest error v
          (ap (λ (m : Ledger). m.book) (behind_same p.done p.rest p.all)) (beyond_same p.done p.rest p.all) p.stands;
      disk_first = λ some. subst (λ (b : Book). HostStands v b) (beyond_same p.done p.rest p.all) (p.disk_first some);
      moments = leaves_wider (IsLeftOfRun (intake_world w) l es u.told) (IsLeftOfRun w l es u.told) p.moments (left_same u.told);
    },
    refl,
  )

-- ---- how it ends

-- the entries alone may be given otherwise
pub halts_as : (w : World) (l : Ledger) (es fs : List Entry) (error : HostError) (u v : View) → es ≡ fs → (p : HaltsRun w l es error u v) → (q : HaltsRun w l fs error u v) × (q.done ≡ p.done)
halts_as w l es fs error u v is p = (
  record {
    done = p.done;
    rest = p.rest;
    all = sym is ∙ p.all;
    part = p.part;
    short = p.short;
    told = p.told;
    only_tell = p.only_tell;
    stands = p.stands;
    disk_first = p.disk_first;
    moments = subst (λ (xs : List Entry). LeavesOnly u v (IsLeftOfRun w l xs u.told)) is p.moments;
  },
  refl,
)

same_ended : (items others : List LifeEvent) → ended items ≡ ended others → others ≡ items
same_ended items others is = sym (ap items_in is)

module _ (w : World) (b : Book) (o : Outsides) (u v : View) where
  told_same : (items : List LifeEvent) → IsTold (intake_world w) Intake b items u v → IsTold w Intake b items u v
  told_same items t =
      let h = ends_same w b u v (ended items) (Ok tt) (items, refl, t) in
      subst (λ (xs : List LifeEvent). IsTold w Intake b xs u v) (same_ended items h.0 h.1) h.2

  fits_same : (items : List LifeEvent) → AreAllowed (intake_world w) (opening Intake b) items → AreAllowed w (opening Intake b) items
  fits_same items h = allowed_same w (opening Intake b) items (opening_holds b) h

  part_same : (items : List LifeEvent) (fault : HostError) → (p : IsToldInPart (intake_world w) Intake b items fault u v) → (q : IsToldInPart w Intake b items fault u v) × (q.done ≡ p.done)
  part_same items fault p =
      let l = opening Intake b in
      let is = run_same w l items (opening_holds b) in
      let same = halts_as (intake_world w) l (entries_on (intake_world w) Intake b items) (entries_on w Intake b items) fault u v is p in
      let own = halts_same w l (opening_holds b) (entries_on w Intake b items) (run_brings w l items (opening_holds b)) fault u v same.0 in
      (own.0, own.1 ∙ same.1)

  module _ (port count : ℕ) where
    stops_within_same : (fault : HostError) → StopsWithin (intake_world w) b count o fault u v → StopsWithin w b count o fault u v
    stops_within_same fault h =
        let p = part_same h.items fault h.halts in
        record {
          story = h.story;
          items = h.items;
          fits = fits_same h.items h.fits;
          halts = p.0;
          told = p.1 ∙ h.told;
          others = h.others;
          few = h.few;
          front = h.front;
          clocked = h.clocked;
          is = h.is;
        }

    stops_behind_same : StopsBehind (intake_world w) b count o u v → StopsBehind w b count o u v
    stops_behind_same h = record { story = h.story; fits = fits_same (life_told (h.story).told) h.fits; told = told_same (life_told (h.story).told) h.told; clocked = h.clocked; is = h.is }

    no_serial_same : HasNoSerial (intake_world w) b count o u v → HasNoSerial w b count o u v
    no_serial_same h = record { story = h.story; fits = fits_same (life_told (h.story).told) h.fits; told = told_same (life_told (h.story).told) h.told; full = h.full; clocked = h.clocked; is = h.is }

    -- what it did in that world is what this one asks for
    pub listen_same : (r : Result Listened ListenError) → ListenEnds (intake_world w) b port count o u v r → ListenEnds w b port count o u v r
    listen_same (Ok All) h = record { story = h.story; fits = fits_same (life_told (h.story).told ++ Finish ∷ []) h.fits; told = told_same (life_told (h.story).told ++ Finish ∷ []) h.told; clocked = h.clocked; is = h.is }
    listen_same (Ok (Unfinished rests)) h = record { story = h.story; fits = fits_same (life_told (h.story).told) h.fits; told = told_same (life_told (h.story).told) h.told; clocked = h.clocked; is = h.is; rests_given = h.rests_given }
    listen_same (Err errors.Disk) h = stops_within_same faults.Disk h
    listen_same (Err errors.Tell) h = stops_within_same faults.Tell h
    listen_same (Err errors.NoMemory) h = stops_within_same faults.NoMemory h
    listen_same (Err errors.Door) h = stops_behind_same h
    listen_same (Err (errors.Limit bounds.Generation)) h = (h.0, told_same [] h.1)
    listen_same (Err (errors.Limit bounds.Content)) h = (h.0, no_serial_same h.1)
    listen_same (Err (errors.Limit bounds.Recipients)) h = (h.0, no_serial_same h.1)
    listen_same (Err (errors.Limit bounds.Serial)) h = (h.0, no_serial_same h.1)
    listen_same (Err (errors.Limit bounds.Input)) h = (h.0, no_serial_same h.1)
    listen_same (Err (errors.Limit bounds.Deliveries)) h = (h.0, no_serial_same h.1)
    listen_same (Err (errors.Damaged area name)) h = (told_same [] h.0, h.1)
    listen_same (Err (errors.Unreadable area name)) h = absurd h
