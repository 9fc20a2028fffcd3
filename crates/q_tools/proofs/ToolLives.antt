-- What a tool leaves is what a life leaves, with its steps behind it.
use Rattle.std.proofs.Common.{◌≡◌, ◌≤◌, ◌⊎◌, ◌∙◌, ◌++◌, ◌∷◌, [], ℕ, true, List, length, take, inl, inr, ⊎_elim, refl, sym, ap, subst, append-nil, append_assoc}
use Rattle.std.proofs.Math.Seq.{take-length}
use Rattle.std.proofs.lemmas.Bool.{and_from, and_parts}
use Rattle.std.specs.Prelude.{Err, Ok, Result}
use Rattle.q_entries.specs.Runs.{IsLeftOfRun}
use Rattle.q_events.specs.declared.list_item.ListItem.TheVariants.{End, Step}
use Rattle.q_host.specs.View.{Remains, View}
use Rattle.q_host.specs.declared.error.HostError.{HostError}
use Rattle.q_host.specs.declared.error.HostError.TheVariants as faults
use Rattle.q_laws.specs.Consistency.{IsUsable}
use Rattle.q_laws.specs.Traces.{AreAllowed}
use Rattle.q_lives.specs.Lives.{IsLeftBy, IsLife, IsOrderly, Life, life_entries}
use Rattle.q_lives.specs.Tools.{after_cut_steps}
use Rattle.q_lives.proofs.Throughout.{lives_orderly}
use Rattle.q_model.specs.Book.{Book}
use Rattle.q_model.specs.Crashes.{IsCrashOf}
use Rattle.q_model.specs.Ledger.{opening}
use Rattle.q_model.specs.Orderly.{is_orderly}
use Rattle.q_model.specs.Run.{run_of}
use Rattle.q_model.specs.Settings.{World}
use Rattle.q_model.specs.Step.{after_all}
use Rattle.q_model.specs.Text.{text}
use Rattle.q_model.specs.ToolSteps.{after_step, after_steps, may_step, may_steps, ToolStep}
use Rattle.q_model.specs.declared.entry.Entry.{Entry}
use Rattle.q_model.specs.declared.event.Event.TheVariants as events
use Rattle.q_model.specs.declared.event.LifeEvent.TheVariants.{Finish, Heard}
use Rattle.q_model.specs.declared.event.Mode.TheVariants.{Intake}
use Rattle.q_replay.proofs.AllowedItems.{list_allowed, list_begins}
use Rattle.q_replay.proofs.CallsLeft.{run_lives}
use Rattle.q_replay.proofs.LivesLeft.{by_life, crash_left, crash_of, leaves_wider}
use Rattle.q_replay.specs.Listings.{bad, gives, Listing}
use Rattle.q_replay.specs.LivesLeft.{IsLeft, LeavesLives, LeftAt}
use Rattle.q_super.specs.Deeds.{Deed, lines_in, steps_in}
use Rattle.q_super.specs.Plays.{after_cut_deeds, after_deeds, IsLeftOfDeeds, next_line}
use Rattle.q_super.specs.declared.error.SuperError.TheVariants as acts
use Rattle.q_super.proofs.Playing.{steps_in-append}
use Rattle.q_tools.specs.Lives.{book_behind, life_taken, life_text, tool_entries, tool_items}
use Rattle.q_tools.specs.ToolEnds.{deeds_behind, HaltsBehind, IsLeftOfTool, PlaysBehind, StopsBehind, ToolEnds}
use Rattle.q_tools.specs.declared.error.ToolError.{ToolError}
use Rattle.q_tools.specs.declared.error.ToolError.TheVariants.{Act, Life as OfLife}
use Rattle.q_tools.specs.declared.task.Task.{Task}
use Rattle.q_tools.proofs.ToldDeeds.{task_tells, TellsDone, told_front}

-- a book, or what a crash makes of it
abbrev IsOf : Book → Book → Type 0
IsOf k left = (left ≡ k) ⊎ IsCrashOf k left

-- ---- the first steps

may_front : (b : Book) (ss ts : List ToolStep) → may_steps b (ss ++ ts) ≡ true → may_steps b ss ≡ true
may_front b [] ts h = refl
may_front b (s ∷ ss) ts h =
    let two = and_parts (may_step b s) (may_steps (after_step b s) (ss ++ ts)) h in
    and_from (may_step b s) (may_steps (after_step b s) ss) two.0 (may_front (after_step b s) ss ts two.1)

may_done : (b : Book) (ds done rest : List Deed) → ds ≡ done ++ rest → may_steps b (steps_in ds) ≡ true → may_steps b (steps_in done) ≡ true
may_done b ds done rest all h = may_front b (steps_in done) (steps_in rest) (ap (may_steps b) (sym (ap steps_in all ∙ steps_in-append done rest)) ∙ h)

module _ (w : World) (b : Book) (moment : ℕ) (usable : IsUsable w) (orderly : IsOrderly b) where
  abbrev es : List Entry
  es = tool_entries w b moment

  abbrev end : Book
  end = book_behind w b moment

  -- ---- the life

  abbrev life_with : List ToolStep → Book → Life
  life_with steps left = record { world = w; mode = Intake; items = Heard (events.At moment) ∷ Finish ∷ []; count = length es; steps = steps; left = left }

  entries_all : (steps : List ToolStep) (left : Book) → life_entries b (life_with steps left) ≡ es
  unfolding run_of
  entries_all steps left = take-length es

  module _ (fits : AreAllowed w (opening Intake b) (tool_items moment)) (ds : List Deed) (may : may_steps end (steps_in ds) ≡ true) (tells : TellsDone [] ds) (before : List ℕ) where
    is_life : (done rest : List Deed) (worked left : Book) → ds ≡ done ++ rest → (worked ≡ after_steps end (steps_in done)) ⊎ (worked ≡ after_cut_steps end (steps_in done)) → IsOf worked left → IsLife b (life_with (steps_in done) left)
    is_life done rest worked left all works of = record {
      usable = usable;
      fits = fits;
      left = subst (λ (xs : List Entry). IsLeftBy (after_all w (opening Intake b) xs) (steps_in done) left) (sym (entries_all (steps_in done) left)) (record {
        end = end;
        ends = inl refl;
        may = may_done end ds done rest all may;
        worked = worked;
        works = works;
        leaves = of;
      });
    }

    -- the first deeds were done, and some first part of the next line was told
    left_done : (done rest : List Deed) (part : ℕ) (worked left : Book) (told : List ℕ) → ds ≡ done ++ rest → told ≡ ((before ++ life_text w b moment) ++ lines_in done) ++ take part (next_line rest)
        → (worked ≡ after_steps end (steps_in done)) ⊎ (worked ≡ after_cut_steps end (steps_in done)) → IsOf worked left → IsLeft b before told left
    left_done done rest part worked left told all told_is works of =
        let life = life_with (steps_in done) left in
        by_life b orderly before life told (is_life done rest worked left all works of) (inr (record {
          by_tools = lines_in done ++ take part (next_line rest);
          tools = told_front [] done rest part (subst (TellsDone []) all tells);
          told_is = told_is ∙ append_assoc (before ++ life_text w b moment) (lines_in done) (take part (next_line rest))
              ∙ ap (λ (xs : List Entry). (before ++ text w.table xs) ++ (lines_in done ++ take part (next_line rest))) (sym (entries_all (steps_in done) left));
        }))

    deeds_crash : (c : Remains) → IsLeftOfDeeds end ds (before ++ life_text w b moment) c → LeftAt b before c
    deeds_crash c a = crash_of b before c (after_deeds end a.done) a.book (λ left of. left_done a.done a.rest a.part (after_deeds end a.done) left c.told a.all a.told (inl refl) of)

    tool_crash : (c : Remains) → IsLeftOfTool w b moment ds before c → LeftAt b before c
    tool_crash c h = ⊎_elim (λ (of_life : IsLeftOfRun w (opening Intake b) es before c). crash_left w Intake b orderly usable (Heard (events.At moment) ∷ Finish ∷ []) fits before c of_life) (λ of_deeds. deeds_crash c of_deeds) h

  -- the book that the life leaves
  pub end_orderly : AreAllowed w (opening Intake b) (tool_items moment) → is_orderly end ≡ true
  end_orderly fits = (lives_orderly b (life_with [] end ∷ []) orderly (is_life fits [] refl tt [] [] [] end end refl (inl refl) (inl refl), tt)).orderly

  -- ---- by how it ended

  played_lives : (ds : List Deed) (u v : View) → TellsDone [] ds → PlaysBehind w b moment ds u v → LeavesLives b u v
  played_lives ds u v tells p =
      let told = p.told ∙ sym (append-nil ((u.told ++ life_text w b moment) ++ lines_in ds)) in
      record {
        at_end = (after_deeds end ds, p.stands, left_done p.fits ds p.may tells u.told ds [] 0 (after_deeds end ds) (after_deeds end ds) v.told (sym (append-nil ds)) told (inl refl) (inl refl));
        moments = leaves_wider (IsLeftOfTool w b moment ds u.told) (LeftAt b u.told) p.moments (tool_crash p.fits ds p.may tells u.told);
      }

  halted_lives : (ds : List Deed) (error : HostError) (u v : View) → TellsDone [] ds → HaltsBehind w b moment ds error u v → LeavesLives b u v
  halted_lives ds error u v tells p = record {
    at_end = ⊎_elim
        (λ stands. (after_deeds end p.done, stands, left_done p.fits ds p.may tells u.told p.done p.rest p.part (after_deeds end p.done) (after_deeds end p.done) v.told p.all p.told (inl refl) (inl refl)))
        (λ loose. (after_cut_deeds end p.done, loose.1, left_done p.fits ds p.may tells u.told p.done p.rest p.part (after_cut_deeds end p.done) (after_cut_deeds end p.done) v.told p.all p.told (inr refl) (inl refl)))
        p.stands;
    moments = leaves_wider (IsLeftOfTool w b moment ds u.told) (LeftAt b u.told) p.moments (tool_crash p.fits ds p.may tells u.told);
  }

  stopped_lives : (task : Task) (error : HostError) (u v : View) → StopsBehind w b moment task error u v → LeavesLives b u v
  stopped_lives task error u v (inl none) = played_lives [] u v tt none
  stopped_lives task error u v (inr some) = halted_lives (deeds_behind w b moment task) error u v (task_tells task end) some

  pub tool_lives : (task : Task) (u v : View) (r : Result (Unit {0}) ToolError) → moment ≤ 999990000000 → ToolEnds w b moment task u v r → LeavesLives b u v
  tool_lives task u v (Ok done) late h = played_lives (deeds_behind w b moment task) u v (task_tells task end) h.1
  tool_lives task u v (Err (Act acts.Absent)) late h = played_lives (deeds_behind w b moment task) u v (task_tells task end) h.1
  tool_lives task u v (Err (Act acts.Disk)) late h = stopped_lives task faults.Disk u v h
  tool_lives task u v (Err (Act acts.Tell)) late h = stopped_lives task faults.Tell u v h
  tool_lives task u v (Err (Act acts.NoMemory)) late h = stopped_lives task faults.NoMemory u v h
  tool_lives task u v (Err (OfLife error)) late h =
      let said : Listing = gives (Step (events.At moment) 1) 1 (gives End 2 (bad 3)) in
      run_lives w Intake b usable orderly (life_taken w b moment) (list_allowed w Intake b said (late, (tt, tt))) (list_begins w Intake b said) u v (Err error) h
