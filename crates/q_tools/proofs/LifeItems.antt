-- The items of the life of a tool: where it came to its end, all three were taken.
use Rattle.std.proofs.Common.{◌≡◌, ◌∙◌, ◌≤◌, ◌∷◌, [], ℕ, List, Some, None, Option, refl, sym, ap, subst}
use Rattle.std.specs.Option.{option_map_or}
use Rattle.std.specs.Prelude.{Ok}
use Rattle.q_engine.specs.declared.error.EngineError.{EngineError}
use Rattle.q_engine.specs.declared.error.EngineError.TheVariants as engine_errors
use Rattle.q_events.specs.declared.list_item.ListItem.TheVariants.{End, Restart, Step}
use Rattle.q_host.specs.View.{View}
use Rattle.q_laws.specs.Traces.{AreAllowed}
use Rattle.q_model.specs.Book.{Book}
use Rattle.q_model.specs.Ledger.{Ledger, opening}
use Rattle.q_model.specs.Run.{turn}
use Rattle.q_model.specs.Settings.{World}
use Rattle.q_model.specs.Step.{after_all}
use Rattle.q_model.specs.declared.event.Event.TheVariants as events
use Rattle.q_model.specs.declared.event.LifeEvent.{LifeEvent}
use Rattle.q_model.specs.declared.event.LifeEvent.TheVariants.{Begin, Finish, Heard}
use Rattle.q_model.specs.declared.event.Mode.TheVariants.{Intake}
use Rattle.q_replay.proofs.AllowedItems.{list_allowed}
use Rattle.q_replay.specs.Listings.{bad, gives, Listing}
use Rattle.q_replay.specs.Reading.{ended, faulty, items_in, limited, read_items, reading_behind, refusal_at, refused_in, TakenItems}
use Rattle.q_replay.specs.RunEnds.{IsTold, RunEnds}
use Rattle.q_tools.specs.Lives.{IsRun, life_taken, tool_items}

refused_ends : (n : ℕ) (why : EngineError) (items : List LifeEvent) → refused_in n why ≡ ended items → ⊥
refused_ends n engine_errors.Disk items h = cc
refused_ends n engine_errors.Tell items h = cc
refused_ends n engine_errors.NoMemory items h = cc
refused_ends n (engine_errors.Unknown number) items h = cc
refused_ends n (engine_errors.WrongCount number want got) items h = cc
refused_ends n engine_errors.Untimed items h = cc
refused_ends n (engine_errors.Limit bound) items h = cc
refused_ends n (engine_errors.Damaged area name) items h = cc
refused_ends n (engine_errors.Unreadable area name) items h = cc

-- these follow one item that was taken
pub record Follows (first : LifeEvent) (rest : TakenItems) (items : List LifeEvent) : Type 0 where
  pub more : List LifeEvent
  pub rest_is : rest ≡ ended more
  pub items_is : items ≡ first ∷ more

behind_ends : (first : LifeEvent) (rest : TakenItems) (items : List LifeEvent) → reading_behind (first ∷ []) rest ≡ ended items → Follows first rest items
behind_ends first (ended more) items h = record { more = more; rest_is = refl; items_is = let same : first ∷ more ≡ items = cc in sym same }
behind_ends first (faulty more n) items h = absurd cc
behind_ends first (limited more bound) items h = absurd cc

step_ends : (n : ℕ) (o : Option EngineError) (first : LifeEvent) (rest : TakenItems) (items : List LifeEvent) → option_map_or (refused_in n) o (reading_behind (first ∷ []) rest) ≡ ended items → Follows first rest items
step_ends n None first rest items h = behind_ends first rest items h
step_ends n (Some why) first rest items h = absurd (refused_ends n why items h)

same_items : (xs ys : List LifeEvent) → ended xs ≡ ended ys → ys ≡ xs
same_items xs ys h = let same : xs ≡ ys = cc in sym same

module _ (w : World) (b : Book) (moment : ℕ) where
  abbrev first : Ledger
  first = opening Intake b

  abbrev rest : Listing
  rest = gives End 2 (bad 3)

  began : (items : List LifeEvent) → life_taken w b moment ≡ ended items → Follows Begin (read_items w (after_all w first (turn w first Begin)) (gives (Step (events.At moment) 1) 1 rest)) items
  unfolding read_items
  began items h = step_ends 0 (refusal_at first Restart) Begin (read_items w (after_all w first (turn w first Begin)) (gives (Step (events.At moment) 1) 1 rest)) items h

  timed : (l : Ledger) (items : List LifeEvent) → read_items w l (gives (Step (events.At moment) 1) 1 rest) ≡ ended items → Follows (Heard (events.At moment)) (read_items w (after_all w l (turn w l (Heard (events.At moment)))) rest) items
  unfolding read_items
  timed l items h = step_ends 1 (refusal_at l (Step (events.At moment) 1)) (Heard (events.At moment)) (read_items w (after_all w l (turn w l (Heard (events.At moment)))) rest) items h

  finished : (l : Ledger) (items : List LifeEvent) → read_items w l rest ≡ ended items → items ≡ Finish ∷ []
  unfolding read_items
  finished l items h = same_items (Finish ∷ []) items h

  pub all_taken : (items : List LifeEvent) → life_taken w b moment ≡ ended items → items ≡ tool_items moment
  all_taken items h =
      let one = began items h in
      let two = timed (after_all w first (turn w first Begin)) one.more one.rest_is in
      let l = after_all w first (turn w first Begin) in
      let three = finished (after_all w l (turn w l (Heard (events.At moment)))) two.more two.rest_is in
      one.items_is ∙ ap (λ (xs : List LifeEvent). Begin ∷ xs) (two.items_is ∙ ap (λ (xs : List LifeEvent). Heard (events.At moment) ∷ xs) three)

  pub is_run : moment ≤ 999990000000 → (u v : View) → RunEnds w Intake b (life_taken w b moment) u v (Ok tt) → IsRun w b moment u v
  is_run late u v (items, is, told) =
      let same = all_taken items is in
      let allowed = list_allowed w Intake b (gives (Step (events.At moment) 1) 1 rest) (late, (tt, tt)) in
      record {
        fits = subst (AreAllowed w first) (ap items_in is ∙ same) allowed;
        told = subst (λ (xs : List LifeEvent). IsTold w Intake b xs u v) same told;
      }
