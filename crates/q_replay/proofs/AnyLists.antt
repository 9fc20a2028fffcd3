-- A replay takes the items of some event list, whatever its source tells.
use Rattle.std.proofs.Common.{◌≡◌, ℕ, ◌++◌, true, false, List, [], ◌∷◌, refl, sym, ap, ◌∙◌, append-nil, None, Option, subst}
use Rattle.std.specs.List.{AllByRecursion}
use Rattle.std.specs.Prelude.{Err, Ok, Result}
use Rattle.q_events.specs.Forms.{IsItemInForm}
use Rattle.q_events.specs.Readings.{GivesItem, is_list_end}
use Rattle.q_events.specs.States.{EventsState}
use Rattle.q_events.specs.declared.list_item.ListItem.{ListItem}
use Rattle.q_events.specs.declared.list_item.ListItem.TheVariants.{Restart}
use Rattle.q_events.specs.declared.error.EventError.{EventError}
use Rattle.q_events.specs.declared.error.EventError.TheVariants as event_errors
use Rattle.q_host.specs.View.{View}
use Rattle.q_host.specs.declared.error.HostError.TheVariants as faults
use Rattle.q_model.specs.Book.{Book}
use Rattle.q_model.specs.Ledger.{opening}
use Rattle.q_model.specs.Settings.{World}
use Rattle.q_model.specs.declared.event.LifeEvent.{LifeEvent}
use Rattle.q_model.specs.declared.event.LifeEvent.TheVariants.{Begin}
use Rattle.q_model.specs.declared.event.Mode.TheVariants.{Deliver}
use Rattle.q_model.specs.declared.limits.Bound.{Bound}
use Rattle.q_model.specs.declared.limits.Bound.TheVariants.{Input}
use Rattle.q_books.specs.HostStands.{HostStands, TellsCrashes}
use Rattle.q_replay.specs.AnyLists.{IsListInForm, ListEnds, read_list, TakesList}
use Rattle.q_replay.specs.Listings.{bad, gives, Listing, past_limit}
use Rattle.q_replay.specs.Reading.{ended, event_of, faulty, items_in, limited, read_items, reading_behind, refusal_at, TakenItems}
use Rattle.q_replay.specs.RunEnds.{IsFrontOf, IsTold, RunEnds}
use Rattle.q_replay.specs.Takings.{list_error, NotTaken, TookItem}
use Rattle.q_replay.specs.declared.error.ReplayError.{ReplayError}
use Rattle.q_replay.specs.declared.error.ReplayError.TheVariants as errors
use Rattle.q_replay.proofs.Readings.{ledger_none, ledger_on}
use Rattle.q_replay.proofs.RunSteps.{at_first, given_up, IsAt, last_ends, none_told, taken_next, untaken_ends}

-- an item and the number of its line
abbrev pub Placed : Type 0
Placed = ListItem × ℕ

-- these items, and what a list says behind them
abbrev pub before : List Placed → Listing → Listing
before [] more = more
before (p ∷ ps) more = gives p.0 p.1 (before ps more)

before_both : (ps qs : List Placed) (more : Listing) → before (ps ++ qs) more ≡ before ps (before qs more)
before_both [] qs more = refl
before_both (p ∷ ps) qs more = ap (gives p.0 p.1) (before_both ps qs more)

abbrev pub AreInForm : List Placed → Type 0
AreInForm ps = AllByRecursion (λ p. IsItemInForm p.0) ps

forms_both : (ps qs : List Placed) → AreInForm ps → AreInForm qs → AreInForm (ps ++ qs)
forms_both [] qs f g = g
forms_both (p ∷ ps) qs f g = (f.0, forms_both ps qs f.1 g)

form_before : (ps : List Placed) (more : Listing) → AreInForm ps → IsListInForm more → IsListInForm (before ps more)
form_before [] more f g = g
form_before (p ∷ ps) more f g = (f.0, form_before ps more f.1 g)

-- of an answer that isn't the source's it is the same
any_ends : (w : World) (b : Book) (said : Listing) (u v : View) (error : ReplayError) → RunEnds w Deliver b (read_list w b said) u v (Err error) → ListEnds w b said u v (Err error)
any_ends w b said u v errors.Source e = absurd e
any_ends w b said u v errors.Disk e = e
any_ends w b said u v errors.Tell e = e
any_ends w b said u v errors.NoMemory e = e
any_ends w b said u v (errors.BadEvent line) e = e
any_ends w b said u v (errors.Limit bound) e = e
any_ends w b said u v (errors.Damaged area name) e = e
any_ends w b said u v (errors.Unreadable area name) e = e

-- a reader comes to one limit alone
abbrev pub HasBound : EventError → Type 0
HasBound (event_errors.Limit bound) = bound ≡ Input
HasBound error = Unit {0}

pub has_bound : (e : EventsState) (old : Option (List ℕ)) (e' : EventsState) (new source : Option (List ℕ)) (error : EventError) → GivesItem e old e' new source (Err error) → HasBound error
has_bound e old e' new source (event_errors.Limit bound) h = h.0
has_bound e old e' new source event_errors.NoMemory h = tt
has_bound e old e' new source event_errors.Source h = tt
has_bound e old e' new source (event_errors.BadEvent line) h = tt

-- these items were taken of a list, whatever stands behind them
pub record IsListed (w : World) (b : Book) (items : List LifeEvent) : Type 0 where
  pub front : List Placed
  pub form : AreInForm front
  pub read : (more : Listing)
      → read_list w b (before front more) ≡ reading_behind items (read_items w (ledger_on w Deliver b items) more)

pub listed_begins : (w : World) (b : Book) → refusal_at (opening Deliver b) Restart ≡ None → IsListed w b (Begin ∷ [])
listed_begins w b accepted = record {
  front = [];
  form = tt;
  read = λ more. taken_next w Deliver b (read_list w b more) [] Restart 0 more (at_first w Deliver b Restart 0 more) refl
      (ap (λ l. refusal_at l Restart) (ledger_none w Deliver b) ∙ accepted);
}

module _ (w : World) (b : Book) (items : List LifeEvent) (listed : IsListed w b items) where
  at_item : (item : ListItem) (n : ℕ) (more : Listing) → IsAt w Deliver b (read_list w b (before listed.front (gives item n more))) items item n more
  at_item item n more = record { is = listed.read (gives item n more) }

  pub listed_on : (item : ListItem) (n : ℕ) → IsItemInForm item → is_list_end item ≡ false → refusal_at (ledger_on w Deliver b items) item ≡ None → IsListed w b (items ++ event_of item ∷ [])
  listed_on item n form going accepted = record {
    front = listed.front ++ (item, n) ∷ [];
    form = forms_both listed.front ((item, n) ∷ []) listed.form (form, tt);
    read = λ more. ap (read_list w b) (before_both listed.front ((item, n) ∷ []) more)
        ∙ taken_next w Deliver b (read_list w b (before listed.front (gives item n more))) items item n more (at_item item n more) going accepted;
  }

  -- ---- how it ends

  module _ (u v : View) (told : IsTold w Deliver b items u v) where
    -- the list says this behind the items
    says : (more : Listing) → IsListInForm more → (result : Result (Unit {0}) ReplayError) → ListEnds w b (before listed.front more) u v result → TakesList w b u v result
    says more form result ends = record {
      said = before listed.front more;
      form = form_before listed.front more listed.form form;
      ends = ends;
    }

    items_behind : (xs : List LifeEvent) (x : TakenItems) → items_in (reading_behind xs x) ≡ xs ++ items_in x
    items_behind xs (ended more) = refl
    items_behind xs (faulty more n) = refl
    items_behind xs (limited more bound) = refl

    at_fault : (n : ℕ) → read_list w b (before listed.front (bad n)) ≡ faulty items n
    unfolding read_items
    at_fault n = listed.read (bad n) ∙ ap (λ (x : List LifeEvent). faulty x n) (append-nil items)

    at_limit : read_list w b (before listed.front past_limit) ≡ limited items Input
    unfolding read_items
    at_limit = listed.read past_limit ∙ ap (λ (x : List LifeEvent). limited x Input) (append-nil items)

    front_of : IsFrontOf (read_list w b (before listed.front (bad 0))) items
    front_of =
        let others = read_items w (ledger_on w Deliver b items) (bad 0) in
        (items_in others, ap items_in (listed.read (bad 0)) ∙ items_behind items others)

    pub list_unread : (error : EventError) → HasBound error → TakesList w b u v (Err (list_error error))
    list_unread event_errors.NoMemory h = says (bad 0) tt (Err errors.NoMemory) (items, front_of, given_up w Deliver b items faults.NoMemory u v told)
    list_unread event_errors.Source h = says (bad 0) tt (Err errors.Source) (items, 0, at_fault 0, told)
    list_unread (event_errors.BadEvent n) h = says (bad n) tt (Err (errors.BadEvent n)) (items, at_fault n, told)
    list_unread (event_errors.Limit bound) h = says past_limit tt (Err (errors.Limit bound)) (items, at_limit ∙ ap (λ (n : Bound). limited items n) (sym h), told)

  pub list_untaken : (u v x : View) (told : IsTold w Deliver b items u v) (item : ListItem) (n : ℕ) (error : ReplayError) → IsItemInForm item → NotTaken w (ledger_on w Deliver b items) item n error v x → TakesList w b u x (Err error)
  list_untaken u v x told item n error form r =
      record {
        said = before listed.front (gives item n (bad 0));
        form = form_before listed.front (gives item n (bad 0)) listed.form (form, tt);
        ends = any_ends w b (before listed.front (gives item n (bad 0))) u x error (untaken_ends w Deliver b (read_list w b (before listed.front (gives item n (bad 0)))) items item n (bad 0) (at_item item n (bad 0)) u v told x error r);
      }

  pub list_done : (u v x : View) (told : IsTold w Deliver b items u v) (item : ListItem) (n : ℕ) (done : Unit {0}) → IsItemInForm item → is_list_end item ≡ true → TookItem w (ledger_on w Deliver b items) item None v x → TakesList w b u x (Ok done)
  list_done u v x told item n done form last took = record {
    said = before listed.front (gives item n (bad 0));
    form = form_before listed.front (gives item n (bad 0)) listed.form (form, tt);
    ends = last_ends w Deliver b (read_list w b (before listed.front (gives item n (bad 0)))) items item n (bad 0) (at_item item n (bad 0)) u v told x done last took;
  }

-- it never begins
pub list_unbegun : (w : World) (b : Book) (u x : View) (lawful : TellsCrashes u) (h : HostStands u b) (error : ReplayError) → NotTaken w (opening Deliver b) Restart 0 error u x → TakesList w b u x (Err error)
list_unbegun w b u x lawful h error r = record {
  said = bad 0;
  form = tt;
  ends = any_ends w b (bad 0) u x error (untaken_ends w Deliver b (read_list w b (bad 0)) [] Restart 0 (bad 0) (at_first w Deliver b Restart 0 (bad 0)) u u (none_told w Deliver b u lawful h) x error (subst (λ l. NotTaken w l Restart 0 error u x) (sym (ledger_none w Deliver b)) r));
}
