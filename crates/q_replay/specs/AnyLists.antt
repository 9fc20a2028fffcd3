-- How a replay ends, whatever its source tells of its bytes: by the items of some event list.
use Rattle.std.specs.Prelude.{◌≡◌, Err, List, Result, ℕ}
use Rattle.q_events.specs.Forms.{IsItemInForm}
use Rattle.q_events.specs.declared.list_item.ListItem.TheVariants.{Restart}
use Rattle.q_host.specs.View.{View}
use Rattle.q_model.specs.Book.{Book}
use Rattle.q_model.specs.Ledger.{opening}
use Rattle.q_model.specs.Settings.{World}
use Rattle.q_model.specs.declared.event.LifeEvent.{LifeEvent}
use Rattle.q_model.specs.declared.event.Mode.TheVariants.{Deliver}
use Rattle.q_replay.specs.Listings.{bad, gives, Listing, past_limit}
use Rattle.q_replay.specs.Reading.{faulty, read_items, TakenItems}
use Rattle.q_replay.specs.RunEnds.{IsTold, RunEnds}
use Rattle.q_replay.specs.declared.error.ReplayError.{ReplayError}
use Rattle.q_replay.specs.declared.error.ReplayError.TheVariants as errors

-- each item of the list has the form that the grammar gives it
abbrev pub IsListInForm : Listing → Type 0
IsListInForm (gives item n more) = IsItemInForm item × IsListInForm more
IsListInForm (bad n) = Unit {0}
IsListInForm past_limit = Unit {0}

-- Which items of a list are taken, where the spool stands for the book: first a life begins.
abbrev pub read_list : World → Book → Listing → TakenItems
read_list w b said = read_items w (opening Deliver b) (gives Restart 0 said)

-- Where the source failed, the items before its fault were taken.
abbrev pub ListEnds : World → Book → Listing → View → View → Result (Unit {0}) ReplayError → Type 0
ListEnds w b said u v (Err errors.Source) = (items : List LifeEvent) × (line : ℕ)
    × (read_list w b said ≡ faulty items line) × IsTold w Deliver b items u v
ListEnds w b said u v result = RunEnds w Deliver b (read_list w b said) u v result

-- There is a list in form of which these items were taken.
pub record TakesList (w : World) (b : Book) (u v : View) (result : Result (Unit {0}) ReplayError)
    : Type 0 where
  pub said : Listing
  pub form : IsListInForm said
  pub ends : ListEnds w b said u v result
