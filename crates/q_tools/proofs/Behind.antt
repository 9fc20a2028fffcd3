-- Deeds behind the end of a life.
use Rattle.std.proofs.Common.{◌≡◌, ◌∙◌, ◌++◌, [], ℕ, true, List, inl, inr, refl, ap, subst}
use Rattle.q_books.specs.HostStands.{HostStands, TellsCrashes}
use Rattle.q_host.proofs.Moments.{leaves_on}
use Rattle.q_host.specs.Calls.{Stays}
use Rattle.q_host.specs.View.{Remains, View}
use Rattle.q_host.specs.declared.error.HostError.{HostError}
use Rattle.q_model.specs.Book.{Book}
use Rattle.q_model.specs.Settings.{World}
use Rattle.q_model.specs.ToolSteps.{may_steps}
use Rattle.q_super.specs.Deeds.{Deed, lines_in, steps_in}
use Rattle.q_super.specs.Plays.{HaltsDeeds, IsLeftOfDeeds, next_line, PlaysDeeds}
use Rattle.q_super.proofs.Playing.{reads_play}
use Rattle.std.specs.Prelude.{take}
use Rattle.q_tools.specs.Lives.{book_behind, IsRun, life_text}
use Rattle.q_tools.specs.ToolEnds.{HaltsBehind, IsLeftOfTool, PlaysBehind}

module _ (w : World) (b : Book) (moment : ℕ) (u m v : View) (run : IsRun w b moment u m) where
  abbrev end : Book
  end = book_behind w b moment

  told_before : m.told ≡ u.told ++ life_text w b moment
  told_before = (run.told).plays.told

  pub stands_end : HostStands m end
  stands_end = (run.told).plays.stands

  left_behind : (ds : List Deed) (c : Remains) → IsLeftOfDeeds end ds m.told c → IsLeftOfTool w b moment ds u.told c
  left_behind ds c h = inr (subst (λ (xs : List ℕ). IsLeftOfDeeds end ds xs c) told_before h)

  pub played_behind : (ds : List Deed) → may_steps end (steps_in ds) ≡ true → PlaysDeeds end ds m v → PlaysBehind w b moment ds u v
  played_behind ds may p = record {
    fits = run.fits;
    may = may;
    told = p.told ∙ ap (λ (xs : List ℕ). xs ++ lines_in ds) told_before;
    stands = p.stands;
    moments = leaves_on (IsLeftOfTool w b moment ds u.told) (run.told).plays.moments p.moments (λ c h. inl h) (left_behind ds);
  }

  pub halted_behind : (ds : List Deed) (error : HostError) → may_steps end (steps_in ds) ≡ true → HaltsDeeds end ds error m v → HaltsBehind w b moment ds error u v
  halted_behind ds error may p = record {
    fits = run.fits;
    may = may;
    done = p.done;
    rest = p.rest;
    all = p.all;
    part = p.part;
    short = p.short;
    told = p.told ∙ ap (λ (xs : List ℕ). (xs ++ lines_in p.done) ++ take p.part (next_line p.rest)) told_before;
    only_tell = p.only_tell;
    stands = p.stands;
    moments = leaves_on (IsLeftOfTool w b moment ds u.told) (run.told).plays.moments p.moments (λ c h. inl h) (left_behind ds);
  }

  -- nothing was done
  pub stayed_behind : TellsCrashes m → Stays m v → PlaysBehind w b moment [] u v
  stayed_behind lawful stays = played_behind [] refl (reads_play end m v lawful stays stands_end)
