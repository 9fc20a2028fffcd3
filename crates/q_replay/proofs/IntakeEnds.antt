-- What an intake life carried out and told, with room for nothing more than one message, is what the settings of
-- the spool ask for.
use Rattle.std.proofs.Common.{◌≡◌, ℕ, ◌⊎◌, inl, inr, ⊎_elim, Bool, true, false, List, [], ◌∷◌, ◌++◌, refl, ap, subst, ◌∙◌}
use Rattle.std.specs.Option.{option_map_or}
use Rattle.std.specs.Prelude.{◌&&◌, Err, not, Ok, Result}
use Rattle.q_books.specs.HostStands.{HostStands, IsLeftOf, OwnLogs}
use Rattle.q_engine.specs.KeptNotes.{admitted_after, next_admitted, was_admitted}
use Rattle.q_entries.specs.Entries.{StandsAround}
use Rattle.q_entries.specs.Runs.{HaltsRun, IsLeftOfRun, next_book, PlaysRun, StandsAroundNext}
use Rattle.q_host.specs.View.{Remains, View}
use Rattle.q_host.specs.declared.error.HostError.{HostError}
use Rattle.q_model.specs.Book.{Book}
use Rattle.q_model.specs.Ids.{id_eq}
use Rattle.q_model.specs.Ledger.{Ledger, opening}
use Rattle.q_model.specs.Orderly.{is_orderly}
use Rattle.q_model.specs.Run.{turn}
use Rattle.q_model.specs.Settings.{Settings, World}
use Rattle.q_model.specs.SpoolFiles.{Files}
use Rattle.q_model.specs.Step.{after, after_all}
use Rattle.q_model.specs.declared.entry.Entry.{Entry}
use Rattle.q_model.specs.declared.entry.Entry.TheVariants as entries
use Rattle.q_model.specs.declared.event.LifeEvent.{LifeEvent}
use Rattle.q_model.specs.declared.event.Mode.TheVariants.{Intake}
use Rattle.q_model.specs.declared.id.Id.{Id}
use Rattle.q_replay.proofs.IntakeEntries.{after_same, brings_nothing, HoldsNothing, intake_world, opening_holds}
use Rattle.q_replay.proofs.IntakeRuns.{all_hold, all_same, BringNothing, parts_bring, run_brings, run_same, turn_holds, turn_leads}
use Rattle.q_replay.proofs.LivesLeft.{leaves_wider}
use Rattle.q_replay.proofs.Replaying.{IsGivenTo}
use Rattle.q_replay.specs.Listings.{bad, gives, Listing, past_limit}
use Rattle.q_replay.specs.IntakeSettings.{intake_settings}
use Rattle.q_replay.specs.Reading.{behind_item, event_of, read_items, refusal_at, refused_in, TakenItems}
use Rattle.q_replay.specs.RunEnds.{entries_on, HaltsIn, IsTold, IsToldInPart, NotesStand, RunEnds}
use Rattle.q_replay.specs.Submissions.{submission, submitted}
use Rattle.q_replay.specs.declared.letters.Letter.{Letter}
use Rattle.q_replay.specs.declared.error.ReplayError.{ReplayError}
use Rattle.q_replay.specs.declared.error.ReplayError.TheVariants as errors
use Rattle.q_transport.specs.Contents.{Contents}
use Rattle.q_transport.specs.Routing.{table_of}

-- ---- which items are taken

-- the same are taken in both worlds
pub read_same : (w : World) (l : Ledger) (items : Listing) → HoldsNothing l → read_items (intake_world w) l items ≡ read_items w l items
unfolding read_items
read_same w l (gives item n more) h =
    ap (λ (taken : TakenItems). option_map_or (refused_in n) (refusal_at l item) (behind_item item taken))
    (ap (λ (k : Ledger). read_items (intake_world w) k more) (turn_leads w l (event_of item) h)
    ∙ read_same w (after_all w l (turn w l (event_of item))) more (turn_holds w l (event_of item) h))
read_same w l (bad n) h = refl
read_same w l past_limit h = refl

-- ---- entries that were carried out

-- by the books before and behind the next entry
around_same : (v w : World) (l m : Ledger) (es : List Entry) (error : HostError) (x : View) → l.book ≡ m.book → next_book v l es ≡ next_book w m es → StandsAroundNext v l es error x → StandsAroundNext w m es error x
around_same v w l m [] error x here next h = subst (HostStands x) here h
around_same v w l m (e ∷ es) error x here next h =
    subst (λ (b : Book). StandsAround e b (after w m e).book error x) here (subst (λ (k : Book). StandsAround e l.book k error x) next h)

module _ (w : World) (l : Ledger) (h : HoldsNothing l) where
  next_book_same : (es : List Entry) → BringNothing es → next_book (intake_world w) l es ≡ next_book w l es
  next_book_same [] k = refl
  next_book_same (e ∷ es) k = ap (λ (x : Ledger). x.book) (after_same w l h e k.0)

module _ (w : World) (l : Ledger) (h : HoldsNothing l) (es : List Entry) (k : BringNothing es) where
  -- the book behind the first of these entries, and that behind the next
  module _ (done rest : List Entry) (all : es ≡ done ++ rest) where
    behind_same : after_all (intake_world w) l done ≡ after_all w l done
    behind_same = all_same w l done h (parts_bring done rest (subst BringNothing all k)).0

    beyond_same : next_book (intake_world w) (after_all (intake_world w) l done) rest ≡ next_book w (after_all w l done) rest
    beyond_same =
        let both = parts_bring done rest (subst BringNothing all k) in
        ap (λ (m : Ledger). next_book (intake_world w) m rest) behind_same
        ∙ next_book_same w (after_all w l done) (all_hold w l done h both.0) rest both.1

    either_same : (P : Book → Type 0) → P (after_all (intake_world w) l done).book ⊎ P (next_book (intake_world w) (after_all (intake_world w) l done) rest)
        → P (after_all w l done).book ⊎ P (next_book w (after_all w l done) rest)
    either_same P = ⊎_elim (λ here. inl (subst (λ (m : Ledger). P m.book) behind_same here)) (λ next. inr (subst P beyond_same next))

  left_same : (before : List ℕ) (c : Remains) → IsLeftOfRun (intake_world w) l es before c → IsLeftOfRun w l es before c
  left_same before c a = record {
    done = a.done;
    rest = a.rest;
    all = a.all;
    part = a.part;
    short = a.short;
    told = a.told;
    book = either_same a.done a.rest a.all (λ b. IsLeftOf b c) a.book;
    disk_first = λ some. subst (λ (b : Book). IsLeftOf b c) (beyond_same a.done a.rest a.all) (a.disk_first some);
  }

  plays_same : (u v : View) → PlaysRun (intake_world w) l es u v → PlaysRun w l es u v
  plays_same u v p =
      let same : after_all (intake_world w) l es ≡ after_all w l es = all_same w l es h k in
      record {
        told = p.told;
        stands = subst (λ (m : Ledger). HostStands v m.book) same p.stands;
        logs = subst (λ (m : Ledger). OwnLogs u.files l.book → OwnLogs v.files m.book) same p.logs;
        moments = leaves_wider (IsLeftOfRun (intake_world w) l es u.told) (IsLeftOfRun w l es u.told) p.moments (left_same u.told);
      }

  halts_same : (error : HostError) (u v : View) → HaltsRun (intake_world w) l es error u v → HaltsRun w l es error u v
  halts_same error u v p = record {
    done = p.done;
    rest = p.rest;
    all = p.all;
    part = p.part;
    short = p.short;
    told = p.told;
    only_tell = p.only_tell;
    stands = around_same (intake_world w) w (after_all (intake_world w) l p.done) (after_all w l p.done) p.rest error v
        (ap (λ (m : Ledger). m.book) (behind_same p.done p.rest p.all)) (beyond_same p.done p.rest p.all) p.stands;
    disk_first = λ some. subst (λ (b : Book). HostStands v b) (beyond_same p.done p.rest p.all) (p.disk_first some);
    moments = leaves_wider (IsLeftOfRun (intake_world w) l es u.told) (IsLeftOfRun w l es u.told) p.moments (left_same u.told);
  }

-- ---- deferral logs

never_so : (b : Bool) → (b && false) ≡ false
never_so true = refl
never_so false = refl

none_more : (e : Entry) (id : Id) → brings_nothing e ≡ true → next_admitted e id false ≡ false
none_more (entries.Admit other) id k = absurd cc
none_more (entries.Remove other) id k = never_so (not (id_eq other id))
none_more _ id k = refl

none_admitted : (es : List Entry) (id : Id) → BringNothing es → admitted_after es id false ≡ false
none_admitted [] id k = refl
none_admitted (e ∷ es) id k = ap (admitted_after es id) (none_more e id k.0) ∙ none_admitted es id k.1

-- no message is admitted, so none has notes
none_noted : (w : World) (l : Ledger) (es : List Entry) (f : Files) → BringNothing es → NotesStand w l es f
none_noted w l es f k id is was = let never : was_admitted es id ≡ false = none_admitted es id k in absurd cc

-- ---- how a command ends

module _ (w : World) (b : Book) (u v : View) where
  told_same : (items : List LifeEvent) → IsTold (intake_world w) Intake b items u v → IsTold w Intake b items u v
  told_same items t =
      let l = opening Intake b in
      let k = run_brings w l items (opening_holds b) in
      record {
        plays = plays_same w l (opening_holds b) (entries_on w Intake b items) k u v (subst (λ (es : List Entry). PlaysRun (intake_world w) l es u v) (run_same w l items (opening_holds b)) t.plays);
        notes = none_noted w l (entries_on w Intake b items) v.files k;
      }

  told_in_part_same : (items : List LifeEvent) (fault : HostError) → IsToldInPart (intake_world w) Intake b items fault u v → IsToldInPart w Intake b items fault u v
  told_in_part_same items fault t =
      let l = opening Intake b in
      halts_same w l (opening_holds b) (entries_on w Intake b items) (run_brings w l items (opening_holds b)) fault u v (subst (λ (es : List Entry). HaltsRun (intake_world w) l es fault u v) (run_same w l items (opening_holds b)) t)

  halts_in_same : (taken : TakenItems) (fault : HostError) → HaltsIn (intake_world w) Intake b taken fault u v → HaltsIn w Intake b taken fault u v
  halts_in_same taken fault (items, front, t) = (items, front, told_in_part_same items fault t)

  -- what an intake life did in that world is what this one asks for
  pub ends_same : (taken : TakenItems) (r : Result (Unit {0}) ReplayError) → RunEnds (intake_world w) Intake b taken u v r → RunEnds w Intake b taken u v r
  ends_same taken (Ok done) (items, is, t) = (items, is, told_same items t)
  ends_same taken (Err (errors.BadEvent line)) (items, is, t) = (items, is, told_same items t)
  ends_same taken (Err (errors.Limit bound)) (items, is, t) = (items, is, told_same items t)
  ends_same taken (Err errors.Disk) h = halts_in_same taken _ h
  ends_same taken (Err errors.Tell) h = halts_in_same taken _ h
  ends_same taken (Err errors.NoMemory) h = halts_in_same taken _ h
  ends_same taken (Err errors.Source) h = h
  ends_same taken (Err (errors.Unreadable area name)) h = h
  ends_same taken (Err (errors.Damaged area name)) (items, front, t, damage) = (items, front, told_same items t, damage)

-- ---- a submission

-- a life may begin on the spool by its own settings, in a world of its own
pub given_intake : (params own : Settings) (table : Contents) (w : World) (b : Book) (u : View) → own ≡ intake_settings params → HostStands u b → is_orderly b ≡ true → params ≡ w.settings → w.table ≡ table_of table → IsGivenTo own table (intake_world w) b u
given_intake params own table w b u exact h orderly settings table_is = record { host = h; orderly = orderly; settings = exact ∙ ap intake_settings settings; table_is = table_is }

-- what a submission did in that world is what the world asks for
pub submitted_ends : (w : World) (b : Book) (moment : ℕ) (letter : Letter) (u v : View) (r : Result (Unit {0}) ReplayError) → RunEnds (intake_world w) Intake b (submitted (intake_world w) b moment letter) u v r → RunEnds w Intake b (submitted w b moment letter) u v r
submitted_ends w b moment letter u v r h =
    ends_same w b u v (submitted w b moment letter) r
    (subst (λ (taken : TakenItems). RunEnds (intake_world w) Intake b taken u v r) (read_same w (opening Intake b) (submission moment letter) (opening_holds b)) h)
