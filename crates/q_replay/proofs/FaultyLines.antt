-- The line of a bad event is one of the text, and so is what passes a limit.
use Rattle.std.proofs.Common.{◌≡◌, ℕ, ◌+◌, Bool, true, false, if◌then◌else◌, length, List, [], inl, inr, None, Option, Some, refl, sym, ap, ◌∙◌, subst, ltb-true}
use Rattle.std.specs.Prelude.{◌==◌, ◌^◌, ◌-◌, Err, IfSome, nat_lt, Ok}
use Rattle.q_engine.specs.Heard.{is_moment}
use Rattle.q_engine.specs.Refusals.{is_early, kind_refused_by, refused_by, refused_mail, refused_reply, told_count}
use Rattle.q_engine.specs.declared.engine.Engine.{Engine}
use Rattle.q_engine.specs.declared.error.EngineError.{EngineError}
use Rattle.q_engine.specs.declared.error.EngineError.TheVariants as engine_errors
use Rattle.q_events.specs.EventList.{bad, found, past_limit}
use Rattle.q_events.specs.Readings.{GivesItem, reading}
use Rattle.q_events.specs.States.{EventsState, unread_list}
use Rattle.q_lines.specs.States.{text_left}
use Rattle.q_lines.specs.TextLines.{lines_from}
use Rattle.q_events.specs.declared.error.EventError.{EventError}
use Rattle.q_events.specs.declared.error.EventError.TheVariants as event_errors
use Rattle.q_events.specs.declared.list_item.ListItem.{ListItem}
use Rattle.q_events.specs.declared.list_item.ListItem.TheVariants.{Restart, Step}
use Rattle.q_model.specs.declared.event.Event.{Event}
use Rattle.q_model.specs.declared.event.Event.TheVariants as events
use Rattle.q_model.specs.declared.limits.Bound.{Bound}
use Rattle.q_model.specs.declared.limits.Bound.TheVariants as bounds
use Rattle.q_model.specs.declared.outcome.Outcome.{Outcome}
use Rattle.q_model.specs.declared.outcome.SiteState.{SiteState}
use Rattle.q_model.specs.declared.rows.Delivery.{Delivery}
use Rattle.q_model.specs.Values.{Receiver}
use Rattle.q_replay.specs.Listings.{gives, Listing, lines_of, listing, listing_of}
use Rattle.q_replay.specs.Named.{BlamesItem, BlamesList, is_of_host, IsAtFault, IsRefusedBy, IsUnbegun, ListPasses, MayBeRefused, Passes}
use Rattle.q_replay.specs.Takings.{list_error, replay_error}
use Rattle.q_replay.specs.declared.error.ReplayError.{ReplayError}
use Rattle.q_replay.specs.declared.error.ReplayError.TheVariants as errors
use Rattle.q_replay.proofs.Listings.{listed, said}
use Rattle.q_replay.proofs.Readings.{reading_first}

-- ---- an item that is refused

of_host_blamed : (item : ListItem) (line : ℕ) (error : ReplayError) → is_of_host error ≡ true → BlamesItem item line error
of_host_blamed item line errors.Disk h = tt
of_host_blamed item line errors.Tell h = tt
of_host_blamed item line errors.NoMemory h = tt
of_host_blamed item line (errors.Unreadable area name) h = tt
of_host_blamed item line errors.Source h = tt
of_host_blamed item line (errors.BadEvent n) h = absurd cc
of_host_blamed item line (errors.Limit bound) h = absurd cc
of_host_blamed item line (errors.Damaged area name) h = tt

-- a moment is never refused
other_refused : (engine : Engine) (event : Event) (why : EngineError) → refused_by engine event ≡ Some why → is_moment event ≡ false
other_refused engine (events.At moment) why is = absurd cc
other_refused engine (events.Mail sender to content) why is = refl
other_refused engine (events.Reply number site os) why is = refl
other_refused engine (events.Trigger kind) why is = refl

-- who refuses it for a limit says that it passes it
abbrev PassesIfLimit : Event → EngineError → Type 0
PassesIfLimit event engine_errors.Disk = Unit {0}
PassesIfLimit event engine_errors.Tell = Unit {0}
PassesIfLimit event engine_errors.NoMemory = Unit {0}
PassesIfLimit event (engine_errors.Unknown n) = Unit {0}
PassesIfLimit event (engine_errors.WrongCount n want got) = Unit {0}
PassesIfLimit event engine_errors.Untimed = Unit {0}
PassesIfLimit event (engine_errors.Limit bound) = Passes event bound
PassesIfLimit event (engine_errors.Damaged area name) = Unit {0}
PassesIfLimit event (engine_errors.Unreadable area name) = Unit {0}

mail_passes : (arrived : ℕ) (sender : Option (List ℕ)) (to : List Receiver) (content : List ℕ) (why : EngineError) → refused_mail arrived to content ≡ Some why → PassesIfLimit (events.Mail sender to content) why
mail_passes arrived sender to content why is = long (nat_lt 10240000 (length content)) refl is
  where
    serial : (b : Bool) → (if b then None else Some (engine_errors.Limit bounds.Serial)) ≡ Some why → PassesIfLimit (events.Mail sender to content) why
    serial true h = cc
    serial false h = let same : engine_errors.Limit bounds.Serial ≡ why = cc in subst (PassesIfLimit (events.Mail sender to content)) same tt

    many : (b : Bool) → nat_lt 50000 (length to) ≡ b → (if b then Some (engine_errors.Limit bounds.Recipients) else (if nat_lt arrived (2 ^ 32 - 1) then None else Some (engine_errors.Limit bounds.Serial))) ≡ Some why
        → PassesIfLimit (events.Mail sender to content) why
    many true over h = let same : engine_errors.Limit bounds.Recipients ≡ why = cc in subst (PassesIfLimit (events.Mail sender to content)) same (ltb-true 50000 (length to) over)
    many false over h = serial (nat_lt arrived (2 ^ 32 - 1)) h

    long : (b : Bool) → nat_lt 10240000 (length content) ≡ b
        → (if b then Some (engine_errors.Limit bounds.Content) else (if nat_lt 50000 (length to) then Some (engine_errors.Limit bounds.Recipients) else (if nat_lt arrived (2 ^ 32 - 1) then None else Some (engine_errors.Limit bounds.Serial)))) ≡ Some why
        → PassesIfLimit (events.Mail sender to content) why
    long true over h = let same : engine_errors.Limit bounds.Content ≡ why = cc in subst (PassesIfLimit (events.Mail sender to content)) same (ltb-true 10240000 (length content) over)
    long false over h = many (nat_lt 50000 (length to)) refl h

reply_passes : (number : ℕ) (site : SiteState) (os : List Outcome) (o : Option Delivery) (why : EngineError) → refused_reply number os o ≡ Some why → PassesIfLimit (events.Reply number site os) why
reply_passes number site os None why is = let same : engine_errors.Unknown number ≡ why = cc in subst (PassesIfLimit (events.Reply number site os)) same tt
reply_passes number site os (Some f) why is = fits (length os == length f.row.positions) is
  where
    fits : (b : Bool) → (if b then None else Some (engine_errors.WrongCount number (told_count (length f.row.positions)) (told_count (length os)))) ≡ Some why → PassesIfLimit (events.Reply number site os) why
    fits true h = cc
    fits false h =
        let same : engine_errors.WrongCount number (told_count (length f.row.positions)) (told_count (length os)) ≡ why = cc in
        subst (PassesIfLimit (events.Reply number site os)) same tt

kind_passes : (engine : Engine) (event : Event) (why : EngineError) → kind_refused_by engine event ≡ Some why → PassesIfLimit event why
kind_passes engine (events.At moment) why is = cc
kind_passes engine (events.Mail sender to content) why is = mail_passes engine.arrivals sender to content why is
kind_passes engine (events.Reply number site os) why is = reply_passes number site os _ why is
kind_passes engine (events.Trigger kind) why is = cc

event_passes : (engine : Engine) (event : Event) (why : EngineError) → refused_by engine event ≡ Some why → PassesIfLimit event why
event_passes engine event why is = early (is_early engine.core.value.timed event) is
  where
    early : (b : Bool) → (if b then Some engine_errors.Untimed else kind_refused_by engine event) ≡ Some why → PassesIfLimit event why
    early true h = let same : engine_errors.Untimed ≡ why = cc in subst (PassesIfLimit event) same tt
    early false h = kind_passes engine event why h

own_blamed : (event : Event) (at line : ℕ) (why : EngineError) → MayBeRefused (Step event at) → PassesIfLimit event why → BlamesItem (Step event at) line (replay_error line why)
own_blamed event at line engine_errors.Disk may passes = tt
own_blamed event at line engine_errors.Tell may passes = tt
own_blamed event at line engine_errors.NoMemory may passes = tt
own_blamed event at line (engine_errors.Unknown n) may passes = (refl, may)
own_blamed event at line (engine_errors.WrongCount n want got) may passes = (refl, may)
own_blamed event at line engine_errors.Untimed may passes = (refl, may)
own_blamed event at line (engine_errors.Limit bound) may passes = passes
own_blamed event at line (engine_errors.Damaged area name) may passes = tt
own_blamed event at line (engine_errors.Unreadable area name) may passes = tt

pub step_blamed : (item : ListItem) (event : Event) (at line : ℕ) (engine : Engine) (error : ReplayError) → item ≡ Step event at → IsRefusedBy line engine event error → BlamesItem item line error
step_blamed item event at line engine error is (inl host) = of_host_blamed item line error host
step_blamed item event at line engine error is (inr (why, refused, made)) =
    subst (λ (i : ListItem). BlamesItem i line error) (sym is)
    (subst (BlamesItem (Step event at) line) (sym made) (own_blamed event at line why (other_refused engine event why refused) (event_passes engine event why refused)))

pub restart_blamed : (item : ListItem) (line : ℕ) (error : ReplayError) → item ≡ Restart → IsUnbegun error → BlamesItem item line error
restart_blamed item line error is (inl host) = of_host_blamed item line error host
restart_blamed item line error is (inr (inl (area, name, damaged, some))) = subst (BlamesItem item line) (sym damaged) tt
restart_blamed item line error is (inr (inr (spent, some))) =
    subst (λ (i : ListItem). BlamesItem i line error) (sym is) (subst (BlamesItem Restart line) (sym spent) refl)

pub end_blamed : (item : ListItem) (line : ℕ) (error : ReplayError) → is_of_host error ≡ true → BlamesItem item line error
end_blamed item line error host = of_host_blamed item line error host

-- ---- the text

-- what the lines say that are left
abbrev said_of : EventsState → List ℕ → Listing
said_of e rest = listing [] (e.lines + 1) (lines_from e.budget rest)

-- what lines say is a part of what others do: each fault and each limit that is passed is one of those
pub record IsPartOf (said more : Listing) : Type 0 where
  pub faults : (n : ℕ) → IsAtFault n said → IsAtFault n more
  pub limits : (bound : Bound) → ListPasses said bound → ListPasses more bound

-- what is left of a text says a part of what the text says
pub record IsRestOf (bytes : List ℕ) (e : EventsState) (left : Option (List ℕ)) : Type 0 where
  pub rest : List ℕ
  pub left_is : left ≡ Some rest
  pub part : IsPartOf (said_of e rest) (listing_of bytes)

pub all_left : (e : EventsState) (text : Option (List ℕ)) → e ≡ unread_list → IfSome text (λ bytes. IsRestOf bytes e (text_left e.buffered text))
unfolding lines_of
all_left e None new = tt
all_left e (Some bytes) new = subst (λ (x : EventsState). IsRestOf bytes x (text_left x.buffered (Some bytes))) (sym new) (record { rest = bytes; left_is = refl; part = record { faults = λ n h. h; limits = λ n h. h } })

-- what they say first is what is read
reads_first : (e : EventsState) (rest : List ℕ) → e.ended ≡ false → said_of e rest ≡ said (reading e rest)
reads_first e rest going = listed (e.lines + 1) (lines_from e.budget rest) ∙ ap said (sym (reading_first e rest going))

same_rest : (bytes rest : List ℕ) → ◌≡◌ {A = Option (List ℕ)} (Some bytes) (Some rest) → bytes ≡ rest
same_rest bytes rest is = cc

module _ (bytes : List ℕ) (e : EventsState) (left : Option (List ℕ)) (going : e.ended ≡ false) (e' : EventsState) (next source : Option (List ℕ)) where
  -- an item was read
  item_read : (item : ListItem) → GivesItem e left e' next source (Ok item) → IsRestOf bytes e left
      → (rest : List ℕ) × (next ≡ Some rest) × IsPartOf (gives item e'.lines (said_of e' rest)) (listing_of bytes)
  item_read item gives_it h =
      let got : IfSome (Some h.rest) (λ b. (rest : List ℕ) × (next ≡ Some rest) × (reading e b ≡ found item e'.lines (lines_from e'.budget rest))) =
      subst (λ (o : Option (List ℕ)). IfSome o (λ b. (rest : List ℕ) × (next ≡ Some rest) × (reading e b ≡ found item e'.lines (lines_from e'.budget rest)))) h.left_is gives_it in
      (got.0, got.1, subst (λ (l : Listing). IsPartOf l (listing_of bytes)) (reads_first e h.rest going ∙ ap said got.2) h.part)

  pub rest_on : (item : ListItem) → GivesItem e left e' next source (Ok item) → IsRestOf bytes e left → IsRestOf bytes e' next
  rest_on item gives_it h =
      let r = item_read item gives_it h in
      record {
        rest = r.0;
        left_is = r.1;
        part = record { faults = λ n at. r.2.faults n (inr at); limits = λ bound at. r.2.limits bound (inr at) };
      }

  -- the item is refused
  pub line_refused : (item : ListItem) (error : ReplayError) → GivesItem e left e' next source (Ok item) → IsRestOf bytes e left → BlamesItem item e'.lines error → BlamesList (listing_of bytes) error
  line_refused item (errors.BadEvent n) gives_it h blamed = let r = item_read item gives_it h in r.2.faults n (inl blamed)
  line_refused item (errors.Limit bound) gives_it h blamed = let r = item_read item gives_it h in inr (r.2.limits bound (inl blamed))
  line_refused item errors.Disk gives_it h blamed = tt
  line_refused item errors.Tell gives_it h blamed = tt
  line_refused item errors.Source gives_it h blamed = tt
  line_refused item errors.NoMemory gives_it h blamed = tt
  line_refused item (errors.Damaged area name) gives_it h blamed = tt
  line_refused item (errors.Unreadable area name) gives_it h blamed = tt

  -- the line is none that may stand there, or the list is too long
  pub line_bad : (error : EventError) → GivesItem e left e' next source (Err error) → IsRestOf bytes e left → BlamesList (listing_of bytes) (list_error error)
  line_bad event_errors.NoMemory gives_it h = tt
  line_bad event_errors.Source gives_it h = tt
  line_bad (event_errors.Limit bound) gives_it h =
      let got : reading e h.rest ≡ past_limit = subst (λ (o : Option (List ℕ)). IfSome o (λ b. reading e b ≡ past_limit)) h.left_is gives_it.1 in
      inr (h.part.limits bound (subst (λ (l : Listing). ListPasses l bound) (sym (reads_first e h.rest going ∙ ap said got)) gives_it.0))
  line_bad (event_errors.BadEvent line) gives_it h =
      let got : reading e h.rest ≡ bad line = subst (λ (o : Option (List ℕ)). IfSome o (λ b. reading e b ≡ bad line)) h.left_is gives_it in
      h.part.faults line (subst (IsAtFault line) (sym (reads_first e h.rest going ∙ ap said got)) refl)

-- a life that doesn't begin blames no line
pub line_unbegun : (text : Option (List ℕ)) (error : ReplayError) → IsUnbegun error → IfSome text (λ bytes. BlamesList (listing_of bytes) error)
line_unbegun None error h = tt
line_unbegun (Some bytes) error (inl host) = on error host
  where
    on : (e : ReplayError) → is_of_host e ≡ true → BlamesList (listing_of bytes) e
    on errors.Disk h = tt
    on errors.Tell h = tt
    on errors.NoMemory h = tt
    on (errors.Unreadable area name) h = tt
    on errors.Source h = tt
    on (errors.BadEvent n) h = absurd cc
    on (errors.Limit bound) h = absurd cc
    on (errors.Damaged area name) h = tt
line_unbegun (Some bytes) error (inr (inl (area, name, is, some))) = subst (BlamesList (listing_of bytes)) (sym is) tt
line_unbegun (Some bytes) error (inr (inr (is, some))) = subst (BlamesList (listing_of bytes)) (sym is) (inl refl)

-- what holds of each text
pub each_text : (P Q : List ℕ → Type 0) (text : Option (List ℕ)) → ((bytes : List ℕ) → P bytes → Q bytes) → IfSome text P → IfSome text Q
each_text P Q None f h = tt
each_text P Q (Some bytes) f h = f bytes h
