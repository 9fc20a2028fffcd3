-- An event's own entry, and the decisions behind it.
use Rattle.std.proofs.Common.{◌≡◌, [], ◌∷◌, refl, sym, ap, ◌∙◌}
use Rattle.std.specs.Prelude.{Err, IsErrOf}
use Rattle.q_model.specs.declared.entry.Entry.{Entry}
use Rattle.q_model.specs.declared.event.Event.{Event}
use Rattle.q_model.specs.declared.event.LifeEvent.TheVariants as life_events
use Rattle.q_model.specs.Ledger.{Ledger}
use Rattle.q_model.specs.Run.{decisions, entry_of, turn}
use Rattle.q_model.specs.Settings.{World}
use Rattle.q_model.specs.Step.{after, after_all}
use Rattle.q_host.specs.View.{View}
use Rattle.q_host.specs.declared.error.HostError.{HostError}
use Rattle.q_host.specs.declared.error.HostError.TheVariants.{Disk, NoMemory, Tell}
use Rattle.q_books.specs.HostStands.{HostStands, TellsCrashes}
use Rattle.q_entries.specs.Entries.{DoesEntry, StopsEntry}
use Rattle.q_entries.specs.Runs.{HaltsRun, PlaysRun}
use Rattle.q_entries.proofs.Playing.{halts_behind, halts_more, plays_halts, plays_more, plays_none, plays_then}
use Rattle.q_engine.specs.KeptNotes.{StoresNotes}
use Rattle.q_engine.specs.Refusals.{refusal_of}
use Rattle.q_engine.specs.Steps.{TookTurn, WentQuiet}
use Rattle.q_engine.specs.declared.engine.Engine.{Engine}
use Rattle.q_engine.specs.declared.error.EngineError.{EngineError}
use Rattle.q_engine.proofs.StoredNotes.{stores_first}

module _ (w : World) (l : Ledger) (event : Event) where
  abbrev own : Entry
  own = entry_of l (life_events.Heard event)

  -- one entry, and nothing before it
  plays_one : (u v : View) → TellsCrashes u → HostStands u l.book → DoesEntry w.table own l.book (after w l own).book u v → PlaysRun w l (own ∷ []) u v
  unfolding after_all
  plays_one u v lawful h d = plays_more w l [] own (after w l own).book u u v refl (plays_none w l u lawful h) d

  halts_one : (error : HostError) (u v : View) → TellsCrashes u → HostStands u l.book → StopsEntry w.table own l.book (after w l own).book error u v → HaltsRun w l (own ∷ []) error u v
  unfolding after_all
  halts_one error u v lawful h d = plays_halts w l [] own [] (after w l own).book error u u v refl (plays_none w l u lawful h) d

  -- the decisions behind the event's own entry
  pub took_turn : (engine : Engine) (u v x : View) → TellsCrashes u → HostStands u l.book → DoesEntry w.table own l.book (after w l own).book u v → StoresNotes w l own u.files v.files → WentQuiet w (after w l own) engine v x → TookTurn w l event engine u x
  unfolding after_all turn
  took_turn engine u v x lawful h d stores rest = record {
    plays = plays_then w l (own ∷ []) (decisions w (after w l own)) u v x (plays_one u v lawful h d) rest.plays;
    stands = rest.stands;
    quiet = rest.quiet;
    notes = stores_first w l own (decisions w (after w l own)) u.files v.files x.files stores rest.notes;
  }

  pub halts_deciding : (error : HostError) (u v x : View) → TellsCrashes u → HostStands u l.book → DoesEntry w.table own l.book (after w l own).book u v → HaltsRun w (after w l own) (decisions w (after w l own)) error v x → HaltsRun w l (turn w l (life_events.Heard event)) error u x
  unfolding after_all turn
  halts_deciding error u v x lawful h d rest = halts_behind w l (own ∷ []) (decisions w (after w l own)) error u v x (plays_one u v lawful h d) rest

  pub halts_hearing : (error : HostError) (u x : View) → TellsCrashes u → HostStands u l.book → StopsEntry w.table own l.book (after w l own).book error u x → HaltsRun w l (turn w l (life_events.Heard event)) error u x
  unfolding turn
  halts_hearing error u x lawful h d = halts_more w l (own ∷ []) (decisions w (after w l own)) error u x (halts_one error u x lawful h d)

-- each refusal is of one fault
pub refusal_of-injective : (e f : HostError) → refusal_of e ≡ refusal_of f → e ≡ f
refusal_of-injective Disk Disk h = refl
refusal_of-injective Tell Tell h = refl
refusal_of-injective NoMemory NoMemory h = refl
refusal_of-injective e f h = absurd cc

some_error : {T : Type 0} (e f : EngineError) → IsErrOf {T = T} (Err e) f → e ≡ f
some_error e f h = cc

pub passed_on : {T S : Type 0} (result error : HostError) (c : EngineError) → c ≡ refusal_of result → IsErrOf {T = T} (Err c) (refusal_of error) → IsErrOf {T = S} (Err result) error
passed_on result error c is of = ap (λ (e : HostError). Err e) (refusal_of-injective result error (sym is ∙ some_error c (refusal_of error) of))
