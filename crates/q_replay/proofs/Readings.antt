-- A list is read item by item.
use Rattle.std.proofs.Common.{◌≡◌, ℕ, ◌+◌, true, false, List, [], ◌∷◌, ◌++◌, length, refl, sym, ap, ◌∙◌, append_assoc, append-nil, arith, if◌then◌else◌, length-append, Option, None, Some}
use Rattle.std.specs.List.{list_all}
use Rattle.std.specs.Option.{option_map_or}
use Rattle.q_engine.specs.declared.error.EngineError.{EngineError}
use Rattle.q_model.specs.declared.event.LifeEvent.{LifeEvent}
use Rattle.q_model.specs.declared.event.LifeEvent.TheVariants.{Begin}
use Rattle.q_model.specs.declared.event.Mode.{Mode}
use Rattle.q_model.specs.declared.event.Mode.TheVariants.{Deliver}
use Rattle.q_model.specs.Book.{Book}
use Rattle.q_model.specs.Ledger.{Ledger, opening}
use Rattle.q_model.specs.Run.{run, turn}
use Rattle.q_model.specs.Settings.{World}
use Rattle.q_model.specs.Step.{after_all}
use Rattle.q_model.proofs.RunLaws.{after_all-append, run-turn}
use Rattle.q_events.specs.EventList.{found, first_item, leads, bad as bad_line, past_limit as at_limit}
use Rattle.q_events.specs.Readings.{is_list_end, reading}
use Rattle.q_events.specs.States.{EventsState}
use Rattle.q_lines.specs.TextLines.{lines_from}
use Rattle.q_model.specs.declared.limits.Bound.TheVariants.{Input}
use Rattle.q_events.specs.declared.list_item.ListItem.{ListItem}
use Rattle.q_events.specs.declared.list_item.ListItem.TheVariants.{End, Restart}
use Rattle.q_replay.specs.Listings.{Listing, gives, bad, past_limit, lines_of, listing}
use Rattle.q_replay.specs.Reading.{TakenItems, behind_item, ended, event_of, faulty, items_in, limited, read_items, read_text, reading_behind, refusal_at, refused_in}
use Rattle.q_replay.specs.RunEnds.{entries_on}
use Rattle.q_replay.proofs.Listings.{Lines, listed, lines_lack, said, up_to}

pub behind_none : (r : TakenItems) → reading_behind [] r ≡ r
behind_none (ended items) = refl
behind_none (faulty items n) = refl
behind_none (limited items bound) = refl

pub behind_both : (xs ys : List LifeEvent) (r : TakenItems) → reading_behind xs (reading_behind ys r) ≡ reading_behind (xs ++ ys) r
behind_both xs ys (ended items) = ap ended (sym (append_assoc xs ys items))
behind_both xs ys (faulty items n) = ap (λ (x : List LifeEvent). faulty x n) (sym (append_assoc xs ys items))
behind_both xs ys (limited items bound) = ap (λ (x : List LifeEvent). limited x bound) (sym (append_assoc xs ys items))

-- the ledger after these items
abbrev pub ledger_on : World → Mode → Book → List LifeEvent → Ledger
ledger_on w mode b items = after_all w (opening mode b) (entries_on w mode b items)

pub entries_more : (w : World) (mode : Mode) (b : Book) (items : List LifeEvent) (item : LifeEvent) → entries_on w mode b (items ++ item ∷ []) ≡ entries_on w mode b items ++ turn w (ledger_on w mode b items) item
entries_more w mode b items item = run-turn w (opening mode b) items item

pub ledger_more : (w : World) (mode : Mode) (b : Book) (items : List LifeEvent) (item : LifeEvent) → ledger_on w mode b (items ++ item ∷ []) ≡ after_all w (ledger_on w mode b items) (turn w (ledger_on w mode b items) item)
ledger_more w mode b items item = ap (after_all w (opening mode b)) (entries_more w mode b items item) ∙ after_all-append w (opening mode b) (entries_on w mode b items) (turn w (ledger_on w mode b items) item)

pub ledger_none : (w : World) (mode : Mode) (b : Book) → ledger_on w mode b [] ≡ opening mode b
unfolding run after_all
ledger_none w mode b = refl

pub entries_none : (w : World) (mode : Mode) (b : Book) → entries_on w mode b [] ≡ []
unfolding run
entries_none w mode b = refl

-- a reader that hasn't met the `end` gives the first item
pub reading_first : (events : EventsState) (rest : List ℕ) → events.ended ≡ false → reading events rest ≡ first_item (events.lines + 1) (lines_from events.budget rest)
reading_first events rest going = ap (λ b. if b then found End events.lines (lines_from events.budget rest) else first_item (events.lines + 1) (lines_from events.budget rest)) going

-- ---- one item

module _ (w : World) (l : Ledger) (item : ListItem) (n : ℕ) (more : Listing) where
  abbrev pub on : TakenItems
  on = behind_item item (read_items w (after_all w l (turn w l (event_of item))) more)

  pub refused_item : (why : EngineError) → refusal_at l item ≡ Some why → read_items w l (gives item n more) ≡ refused_in n why
  unfolding read_items
  refused_item why h = ap (λ (o : Option EngineError). option_map_or (refused_in n) o on) h

  pub taken_item : refusal_at l item ≡ None → read_items w l (gives item n more) ≡ on
  unfolding read_items
  taken_item h = ap (λ (o : Option EngineError). option_map_or (refused_in n) o on) h

  pub goes_on : is_list_end item ≡ false → on ≡ reading_behind (event_of item ∷ []) (read_items w (after_all w l (turn w l (event_of item))) more)
  goes_on h = ap (λ b. if b then ended (event_of item ∷ []) else reading_behind (event_of item ∷ []) (read_items w (after_all w l (turn w l (event_of item))) more)) h

  pub comes_to_end : is_list_end item ≡ true → on ≡ ended (event_of item ∷ [])
  comes_to_end h = ap (λ b. if b then ended (event_of item ∷ []) else reading_behind (event_of item ∷ []) (read_items w (after_all w l (turn w l (event_of item))) more)) h

-- ---- the first life

-- what these lines say, behind the life that begins first
abbrev pub begun_listing : Lines → Listing
begun_listing lines = gives Restart 0 (listing [] 1 lines)

-- the lines of a text that were read, so many, their items, which were taken, and what is left of the text
pub record IsReading (w : World) (b : Book) (bytes : List ℕ) (lines : Lines) (items : List LifeEvent) (limit : ℕ) (rest : List ℕ) (count : ℕ) : Type 0 where
  pub read : (others : Lines) → read_items w (opening Deliver b) (begun_listing (lines ++ others)) ≡ reading_behind items (read_items w (ledger_on w Deliver b items) (listing [] (count + 1) others))
  pub all : lines_of bytes ≡ lines ++ lines_from limit rest
  pub number : count ≡ length lines

-- the life began
pub reading_begins : (w : World) (b : Book) (bytes : List ℕ) → refusal_at (opening Deliver b) Restart ≡ None → IsReading w b bytes [] (Begin ∷ []) 1099511627776 bytes 0
unfolding lines_of
reading_begins w b bytes h = record {
  read = λ others.
      let l = opening Deliver b in
      let next : after_all w l (turn w l Begin) ≡ ledger_on w Deliver b (Begin ∷ []) = sym (ledger_more w Deliver b [] Begin ∙ ap (λ (k : Ledger). after_all w k (turn w k Begin)) (ledger_none w Deliver b)) in
      taken_item w l Restart 0 (listing [] 1 others) h
      ∙ goes_on w l Restart 0 (listing [] 1 others) refl
      ∙ ap (λ (k : Ledger). reading_behind (Begin ∷ []) (read_items w k (listing [] 1 others))) next;
  all = refl;
  number = refl;
}

-- ---- what the rest of the text leads to

module _ (w : World) (b : Book) (bytes : List ℕ) (lines : Lines) (items : List LifeEvent) (limit : ℕ) (rest : List ℕ) (count : ℕ) (r : IsReading w b bytes lines items limit rest count) where
  abbrev now : Ledger
  now = ledger_on w Deliver b items

  onward : read_text w b bytes ≡ reading_behind items (read_items w now (listing [] (count + 1) (lines_from limit rest)))
  onward = ap (λ (x : Lines). read_items w (opening Deliver b) (begun_listing x)) r.all ∙ r.read (lines_from limit rest)

  then_says : (answer : Listing) → listing [] (count + 1) (lines_from limit rest) ≡ answer → read_text w b bytes ≡ reading_behind items (read_items w now answer)
  then_says answer h = onward ∙ ap (λ x. reading_behind items (read_items w now x)) h

  -- an item is found
  up : (item : ListItem) (k : ℕ) (more : Lines) → first_item (count + 1) (lines_from limit rest) ≡ found item k more → listing [] (count + 1) (lines_from limit rest) ≡ gives item k (listing [] (k + 1) more)
  up item k more h = listed (count + 1) (lines_from limit rest) ∙ ap said h

  pub reading_takes : (item : ListItem) (k later : ℕ) (others : List ℕ) → is_list_end item ≡ false → first_item (count + 1) (lines_from limit rest) ≡ found item k (lines_from later others) → refusal_at now item ≡ None
      → (front : Lines) × IsReading w b bytes (lines ++ front) (items ++ event_of item ∷ []) later others k
  reading_takes item k later others going h accepted =
      let u = up_to (count + 1) (lines_from limit rest) item k (lines_from later others) h in (
        u.front,
        record {
          read = λ more.
              let behind = listing [] (k + 1) more in
              ap (λ (x : Lines). read_items w (opening Deliver b) (begun_listing x)) (append_assoc lines u.front more) ∙ r.read (u.front ++ more)
              ∙ ap (λ x. reading_behind items (read_items w now x)) (u.gives more)
              ∙ ap (reading_behind items) (taken_item w now item k behind accepted ∙ goes_on w now item k behind going)
              ∙ behind_both items (event_of item ∷ []) (read_items w (after_all w now (turn w now (event_of item))) behind)
              ∙ ap (λ (l : Ledger). reading_behind (items ++ event_of item ∷ []) (read_items w l behind)) (sym (ledger_more w Deliver b items (event_of item)));
          all = r.all ∙ ap (λ (x : Lines). lines ++ x) u.all ∙ sym (append_assoc lines u.front (lines_from later others));
          number = omega (arith, r.number, u.number, length-append lines u.front);
        },
      )

  -- it stands next in the list
  pub reading_at : (item : ListItem) (k : ℕ) (more : Lines) → first_item (count + 1) (lines_from limit rest) ≡ found item k more → read_text w b bytes ≡ reading_behind items (read_items w now (gives item k (listing [] (k + 1) more)))
  reading_at item k more h = then_says _ (up item k more h)

  at_fault : (n : ℕ) → reading_behind items (faulty [] n) ≡ faulty items n
  at_fault n = ap (λ (x : List LifeEvent). faulty x n) (append-nil items)

  pub reading_breaks : (n : ℕ) → first_item (count + 1) (lines_from limit rest) ≡ bad_line n → read_text w b bytes ≡ faulty items n
  unfolding read_items
  reading_breaks n h = then_says (bad n) (listed (count + 1) (lines_from limit rest) ∙ ap said h) ∙ at_fault n

  pub reading_passes_limit : first_item (count + 1) (lines_from limit rest) ≡ at_limit → read_text w b bytes ≡ limited items Input
  unfolding read_items
  reading_passes_limit h = then_says past_limit (listed (count + 1) (lines_from limit rest) ∙ ap said h) ∙ ap (λ (x : List LifeEvent). limited x Input) (append-nil items)

  -- lines more, which give no item, and none behind them
  pub reading_lacks : (more : Lines) → list_all leads more ≡ true → read_items w (opening Deliver b) (begun_listing (lines ++ more)) ≡ faulty items (length (lines ++ more) + 1)
  unfolding read_items
  reading_lacks more h =
      let number : (count + 1) + length more ≡ length (lines ++ more) + 1 = omega (arith, r.number, length-append lines more) in
      r.read more ∙ ap (λ x. reading_behind items (read_items w now x)) (lines_lack (count + 1) more h) ∙ at_fault ((count + 1) + length more) ∙ ap (faulty items) number

  -- the items so far are the first of those that are taken
  pub reading_front : (more : List LifeEvent) × (items_in (read_text w b bytes) ≡ items ++ more)
  reading_front =
      let others = read_items w now (listing [] (count + 1) (lines_from limit rest)) in
      (items_in others, ap items_in onward ∙ items_behind others)
    where
      items_behind : (x : TakenItems) → items_in (reading_behind items x) ≡ items ++ items_in x
      items_behind (ended more) = refl
      items_behind (faulty more n) = refl
      items_behind (limited more bound) = refl
