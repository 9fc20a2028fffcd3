-- A replay goes on item by item, and ends.
use Rattle.std.proofs.Common.{◌≡◌, ℕ, ◌+◌, true, false, List, [], ◌∷◌, ◌++◌, inl, inr, append_assoc, Option, Some, None, refl, sym, ap, ◌∙◌, subst}
use Rattle.std.specs.Result.{IsErrAnd}
use Rattle.std.specs.Prelude.{Err, IfSome, Ok, Result}
use Rattle.q_books.specs.HostStands.{HostStands, TellsCrashes}
use Rattle.q_engine.specs.KeptNotes.{AddsAllNotes}
use Rattle.q_engine.specs.Stands.{EngineStands}
use Rattle.q_engine.specs.declared.engine.Engine.{Engine}
use Rattle.q_entries.specs.Runs.{PlaysRun}
use Rattle.q_events.specs.EventList.{bad, first_item, found, past_limit}
use Rattle.q_events.specs.Forms.{IsItemInForm}
use Rattle.q_events.specs.Readings.{GivesItem, is_list_end, reading}
use Rattle.q_events.specs.States.{EventsState, unread_list}
use Rattle.q_lines.specs.States.{text_left}
use Rattle.q_lines.specs.TextLines.{lines_from}
use Rattle.q_model.specs.declared.limits.Bound.{Bound}
use Rattle.q_events.specs.declared.error.EventError.{EventError}
use Rattle.q_events.specs.declared.error.EventError.TheVariants as event_errors
use Rattle.q_events.specs.declared.list_item.ListItem.{ListItem}
use Rattle.q_events.specs.declared.list_item.ListItem.TheVariants.{Restart}
use Rattle.q_host.specs.View.{View}
use Rattle.q_host.specs.declared.error.HostError.TheVariants as faults
use Rattle.q_model.specs.Book.{Book}
use Rattle.q_model.specs.Ledger.{Ledger, opening}
use Rattle.q_model.specs.Orderly.{is_orderly}
use Rattle.q_model.specs.Run.{turn}
use Rattle.q_model.specs.Settings.{Settings, World}
use Rattle.q_model.specs.Step.{after_all}
use Rattle.q_model.specs.declared.event.LifeEvent.{LifeEvent}
use Rattle.q_model.specs.declared.event.LifeEvent.TheVariants.{Begin}
use Rattle.q_model.specs.declared.event.Mode.{Mode}
use Rattle.q_model.specs.declared.event.Mode.TheVariants.{Deliver}
use Rattle.q_replay.specs.Listings.{Listing, listing, listing_of}
use Rattle.q_replay.specs.Reading.{event_of, limited, read_text, refusal_at}
use Rattle.q_replay.specs.ReplayEnds.{IsFitSpool, ReplayEnds}
use Rattle.q_replay.specs.RunEnds.{IsFrontOf, IsTold, RunEnds}
use Rattle.q_replay.specs.Takings.{list_error, MayBegin, NotTaken, TookItem}
use Rattle.q_replay.specs.declared.error.ReplayError.{ReplayError}
use Rattle.q_replay.specs.declared.error.ReplayError.TheVariants as errors
use Rattle.q_replay.proofs.AnyLists.{IsListed, listed_begins, listed_on}
use Rattle.q_replay.proofs.Listings.{Lines}
use Rattle.q_replay.proofs.Modes.{run_mode}
use Rattle.q_replay.proofs.Readings.{IsReading, ledger_more, ledger_none, ledger_on, reading_at, reading_begins, reading_breaks, reading_first, reading_front, reading_lacks, reading_passes_limit, reading_takes}
use Rattle.q_replay.proofs.RunSteps.{at_first, given_up, IsAt, last_ends, none_told, told_more, untaken_ends}
use Rattle.q_restart.specs.Damages.{IsUndamaged}
use Rattle.q_transport.specs.Contents.{Contents}
use Rattle.q_transport.specs.Routing.{table_of}

-- ---- a replay that goes on

-- what is read of a text so far, and what the source has left of it
abbrev pub IsReadSo : World → Book → List ℕ → Option (List ℕ) → EventsState → List LifeEvent → Type 0
IsReadSo w b bytes left events items =
    (lines : Lines) × (rest : List ℕ) × (left ≡ Some rest) × IsReading w b bytes lines items events.budget rest events.lines

abbrev pub ReadSo : World → Book → Option (List ℕ) → Option (List ℕ) → EventsState → List LifeEvent → Type 0
ReadSo w b text left events items = IfSome text (λ bytes. IsReadSo w b bytes left events items)

-- these items were carried out and told, and the life stands for what they led to
pub record Went (w : World) (b : Book) (text left : Option (List ℕ)) (events : EventsState) (engine : Engine) (u v : View) : Type 0 where
  pub items : List LifeEvent
  pub told : IsTold w Deliver b items u v
  pub stands : EngineStands w engine v (ledger_on w Deliver b items)
  pub reading : ReadSo w b text left events items
  pub listed : IsListed w b items

-- an item is given of what is left
abbrev pub ItemGiven : EventsState → Option (List ℕ) → EventsState → Option (List ℕ) → ListItem → Type 0
ItemGiven events left events' left' item =
    IfSome left (λ bytes. (rest : List ℕ) × (left' ≡ Some rest) × (reading events bytes ≡ found item events'.lines (lines_from events'.budget rest)))

-- a life that goes on delivers
pub delivers : (w : World) (b : Book) (items : List LifeEvent) → (ledger_on w Deliver b items).mode ≡ Deliver
delivers w b items = run_mode w (opening Deliver b) items

-- ---- the first life

-- the world of the settings and the table, and an orderly book that the host stands for
pub record IsGivenTo (params : Settings) (table : Contents) (w : World) (b : Book) (u : View) : Type 0 where
  pub host : HostStands u b
  pub orderly : is_orderly b ≡ true
  pub settings : params ≡ w.settings
  pub table_is : w.table ≡ table_of table

-- the spool that was opened is one of these
pub some_given : (params : Settings) (table : Contents) (u : View) → IsFitSpool u → IsUndamaged u.files → (w : World) × (b : Book) × IsGivenTo params table w b u
some_given params table u (inl (b, h, orderly)) undamaged = (record { settings = params; table = table_of table }, b, record { host = h; orderly = orderly; settings = refl; table_is = refl })
some_given params table u (inr (area, name, damage)) undamaged = absurd (undamaged area name damage)

-- it may begin
pub may_begin : (params : Settings) (table : Contents) (mode : Mode) (w : World) (b : Book) (u : View) → IsGivenTo params table w b u → MayBegin params table mode w (opening mode b) u
may_begin params table mode w b u h = record { host = h.host; orderly = h.orderly; mode_is = refl; settings = h.settings; table_is = h.table_is }

module _ (w : World) (b : Book) (u : View) (lawful : TellsCrashes u) (h : HostStands u b) where
  begun_reading : (t : Option (List ℕ)) → refusal_at (opening Deliver b) Restart ≡ None → ReadSo w b t (text_left [] t) unread_list (Begin ∷ [])
  begun_reading None accepted = tt
  begun_reading (Some bytes) accepted = ([], bytes, refl, reading_begins w b bytes accepted)

  first_told : (x : View) → PlaysRun w (opening Deliver b) (turn w (opening Deliver b) Begin) u x → AddsAllNotes w (opening Deliver b) (turn w (opening Deliver b) Begin) u.files x.files → IsTold w Deliver b (Begin ∷ []) u x
  first_told x p adds =
      told_more w Deliver b [] Begin u u x (none_told w Deliver b u lawful h) (subst (λ (l : Ledger). PlaysRun w l (turn w l Begin) u x) (sym (ledger_none w Deliver b)) p)
      (subst (λ (l : Ledger). AddsAllNotes w l (turn w l Begin) u.files x.files) (sym (ledger_none w Deliver b)) adds)

  pub went_begins : (text : Option (List ℕ)) (events : EventsState) (engine : Engine) (x : View) → events ≡ unread_list → TookItem w (opening Deliver b) Restart (Some engine) u x → Went w b text (text_left events.buffered text) events engine u x
  went_begins text events engine x new took =
      subst (λ (e : EventsState). Went w b text (text_left e.buffered text) e engine u x) (sym new) (record {
        items = Begin ∷ [];
        told = first_told x took.plays took.notes;
        stands = subst (EngineStands w engine x) (sym (ledger_more w Deliver b [] Begin ∙ ap (λ (l : Ledger). after_all w l (turn w l Begin)) (ledger_none w Deliver b))) took.stands;
        reading = begun_reading text took.accepted;
        listed = listed_begins w b took.accepted;
      })

  -- it never begins
  pub ends_unbegun : (bytes : List ℕ) (left : Option (List ℕ)) (x : View) (error : ReplayError) → NotTaken w (opening Deliver b) Restart 0 error u x → ReplayEnds w b bytes left u x (Err error)
  ends_unbegun bytes left x error r = by error (untaken_ends w Deliver b (read_text w b bytes) [] Restart 0 (listing_of bytes) (at_first w Deliver b Restart 0 (listing_of bytes)) u u (none_told w Deliver b u lawful h) x error (subst (λ (l : Ledger). NotTaken w l Restart 0 error u x) (sym (ledger_none w Deliver b)) r))
    where
      by : (error : ReplayError) → RunEnds w Deliver b (read_text w b bytes) u x (Err error) → ReplayEnds w b bytes left u x (Err error)
      by errors.Source e = absurd e
      by errors.Disk e = e
      by errors.Tell e = e
      by errors.NoMemory e = e
      by (errors.BadEvent line) e = e
      by (errors.Limit bound) e = e
      by (errors.Damaged area name) e = e
      by (errors.Unreadable area name) e = e

-- ---- the items behind it

module _ (w : World) (b : Book) (left : Option (List ℕ)) (events : EventsState) (going : events.ended ≡ false) (engine : Engine) (u v : View) where
  first : (rest : List ℕ) → reading events rest ≡ first_item (events.lines + 1) (lines_from events.budget rest)
  first rest = reading_first events rest going

  taken_reading : (t left' : Option (List ℕ)) (events' : EventsState) (items : List LifeEvent) (item : ListItem) → ItemGiven events left events' left' item → is_list_end item ≡ false → refusal_at (ledger_on w Deliver b items) item ≡ None → ReadSo w b t left events items → ReadSo w b t left' events' (items ++ event_of item ∷ [])
  taken_reading None left' events' items item given more accepted r = tt
  taken_reading (Some bytes) left' events' items item given more accepted (lines, rest, is, r) =
      let (others, next, found_it) : ItemGiven events (Some rest) events' left' item = rw is at given in
      let (front, on) = reading_takes w b bytes lines items events.budget rest events.lines r item events'.lines events'.budget others more (sym (first rest) ∙ found_it) accepted in
      (lines ++ front, others, next, on)

  pub went_on : (text left' : Option (List ℕ)) (events' : EventsState) (next : Engine) (x : View) (item : ListItem) (form : IsItemInForm item) (went : Went w b text left events engine u v) → ItemGiven events left events' left' item → is_list_end item ≡ false → TookItem w (ledger_on w Deliver b went.items) item (Some next) v x → Went w b text left' events' next u x
  went_on text left' events' next x item form went given more took = record {
    items = went.items ++ event_of item ∷ [];
    told = told_more w Deliver b went.items (event_of item) u v x went.told took.plays took.notes;
    stands = subst (EngineStands w next x) (sym (ledger_more w Deliver b went.items (event_of item))) took.stands;
    reading = taken_reading text left' events' went.items item given more took.accepted went.reading;
    listed = listed_on w b went.items went.listed item events'.lines form more took.accepted;
  }

  -- ---- how it ends

  module _ (bytes : List ℕ) (items : List LifeEvent) (told : IsTold w Deliver b items u v) (so : IsReadSo w b bytes left events items) where
    abbrev l : Ledger
    l = ledger_on w Deliver b items

    abbrev rest_is : left ≡ Some so.1
    rest_is = so.2

    abbrev r : IsReading w b bytes so.0 items events.budget so.1 events.lines
    r = so.3

    front_so_far : IsFrontOf (read_text w b bytes) items
    front_so_far = reading_front w b bytes so.0 items events.budget so.1 events.lines r

    found_at : (left' : Option (List ℕ)) (events' : EventsState) (item : ListItem) → ItemGiven events left events' left' item → (others : List ℕ) × (left' ≡ Some others) × (first_item (events.lines + 1) (lines_from events.budget so.1) ≡ found item events'.lines (lines_from events'.budget others))
    found_at left' events' item given = let (others, next, is) : ItemGiven events (Some so.1) events' left' item = rw rest_is at given in (others, next, sym (first so.1) ∙ is)

    -- there is no next item
    pub ends_unread : (events' : EventsState) (left' source : Option (List ℕ)) (error : EventError) → GivesItem events left events' left' source (Err error) → ReplayEnds w b bytes source u v (Err (list_error error))
    ends_unread events' left' source event_errors.NoMemory gives = (items, front_so_far, given_up w Deliver b items faults.NoMemory u v told)
    ends_unread events' left' source event_errors.Source gives =
        let (more, budget, part, others, there, cut, lead, open_line) : GivesItem events (Some so.1) events' left' source (Err event_errors.Source) = rw rest_is at gives in (
          items,
          record {
            lines = so.0 ++ more;
            limit = budget;
            part = part;
            rest = others;
            all = r.all ∙ ap (λ (x : Lines). so.0 ++ x) cut ∙ sym (append_assoc so.0 more (lines_from budget (part ++ others)));
            open_line = open_line;
            there = there;
            lacks = reading_lacks w b bytes so.0 items events.budget so.1 events.lines r more lead;
          },
          told,
        )
    ends_unread events' left' source (event_errors.BadEvent n) gives =
        let is : reading events so.1 ≡ bad n = rw rest_is at gives in
        (items, reading_breaks w b bytes so.0 items events.budget so.1 events.lines r n (sym (first so.1) ∙ is), told)
    ends_unread events' left' source (event_errors.Limit bound) (is_input, gives) =
        let is : reading events so.1 ≡ past_limit = rw rest_is at gives in
        (items, reading_passes_limit w b bytes so.0 items events.budget so.1 events.lines r (sym (first so.1) ∙ is) ∙ ap (λ (n : Bound). limited items n) (sym is_input), told)

    -- the item that is found stands in the list
    item_at : (left' : Option (List ℕ)) (events' : EventsState) (item : ListItem) → ItemGiven events left events' left' item → (more : Listing) × IsAt w Deliver b (read_text w b bytes) items item events'.lines more
    item_at left' events' item given =
        let at = found_at left' events' item given in
        let more = lines_from events'.budget at.0 in
        (listing [] (events'.lines + 1) more, record { is = reading_at w b bytes so.0 items events.budget so.1 events.lines r item events'.lines more at.2 })

    -- the item wasn't taken
    pub ends_untaken : (left' source : Option (List ℕ)) (events' : EventsState) (item : ListItem) (x : View) (error : ReplayError) → ItemGiven events left events' left' item → NotTaken w l item events'.lines error v x → ReplayEnds w b bytes source u x (Err error)
    ends_untaken left' source events' item x error given r =
        let at = item_at left' events' item given in
        by error (untaken_ends w Deliver b (read_text w b bytes) items item events'.lines at.0 at.1 u v told x error r)
      where
        by : (error : ReplayError) → RunEnds w Deliver b (read_text w b bytes) u x (Err error) → ReplayEnds w b bytes source u x (Err error)
        by errors.Source e = absurd e
        by errors.Disk e = e
        by errors.Tell e = e
        by errors.NoMemory e = e
        by (errors.BadEvent line) e = e
        by (errors.Limit bound) e = e
        by (errors.Damaged area name) e = e
        by (errors.Unreadable area name) e = e

    -- the list ends as it should
    pub ends_done : (left' source : Option (List ℕ)) (events' : EventsState) (item : ListItem) (x : View) (done : Unit {0}) → ItemGiven events left events' left' item → is_list_end item ≡ true → TookItem w l item None v x → ReplayEnds w b bytes source u x (Ok done)
    ends_done left' source events' item x done given last took =
        let at = item_at left' events' item given in
        last_ends w Deliver b (read_text w b bytes) items item events'.lines at.0 at.1 u v told x done last took

-- of each text of the source
pub for_text : (w : World) (b : Book) (text left : Option (List ℕ)) (events : EventsState) (engine : Engine) (u v : View) (P : List ℕ → Type 0) (went : Went w b text left events engine u v)
    → ((bytes : List ℕ) → IsReadSo w b bytes left events went.items → P bytes) → IfSome text P
for_text w b text left events engine u v P went f = by text went.reading
  where
    by : (t : Option (List ℕ)) → ReadSo w b t left events went.items → IfSome t P
    by None h = tt
    by (Some bytes) h = f bytes h

pub for_each : (P : List ℕ → Type 0) → ((bytes : List ℕ) → P bytes) → (t : Option (List ℕ)) → IfSome t P
for_each P f None = tt
for_each P f (Some bytes) = f bytes

pub same_new : {E : Type 0} (r : Result EventsState E) (events : EventsState) → r ≡ Ok events → r ≡ Ok unread_list → events ≡ unread_list
same_new r events is new = cc

-- what holds of an answer that a `?` passes on
pub passed_as : {T : Type 0} (r : Result T ReplayError) (inner : ReplayError) (P : Result T ReplayError → Type 0) → IsErrAnd r (λ x. x ≡ inner) → P (Err inner) → P r
passed_as (Ok x) inner P is p = absurd is
passed_as (Err x) inner P is p = subst (λ (e : ReplayError). P (Err e)) (sym is) p
