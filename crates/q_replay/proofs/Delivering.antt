-- A life that delivers by SMTP, from its beginning through its sweeps to its end.
use native.Mathlib.Omega.{arith}
use Rattle.std.proofs.Common.{◌≡◌, ◌+◌, ℕ, Bool, true, false, List, [], ◌∷◌, ◌++◌, ◌⊎◌, inl, inr, if◌then◌else◌, length, map, Some, None, refl, sym, ap, ◌∙◌, subst, append-nil, append_assoc}
use Rattle.std.proofs.lemmas.List.{length-map, map-append}
use Rattle.std.proofs.lemmas.Option.{same_Some}
use Rattle.std.specs.Prelude.{Err}
use Rattle.q_books.specs.HostStands.{HostStands, TellsCrashes}
use Rattle.q_drain.proofs.Ending.{cases_deliver, drives_cut}
use Rattle.q_drain.proofs.GivingUp.{events_added, halts_after}
use Rattle.q_drain.proofs.Rooming.{told_allowed}
use Rattle.q_drain.proofs.Starting.{cases_nothing, drives_nothing, nothing}
use Rattle.q_drain.specs.Drained.{DrainEnds, IsDrainError}
use Rattle.q_drain.specs.Drains.{IsCut, IsOwnRun, IsWhole}
use Rattle.q_drain.specs.Exits.{EndsEarly, EndsFull, EndsQuiet, EndsUnfinished, EndsWhole, IsAtStart}
use Rattle.q_drain.specs.Opened.{GaveUp}
use Rattle.q_drain.specs.Rooms.{HadRoom}
use Rattle.q_drain.specs.Standing.{Outside}
use Rattle.q_drain.specs.Stories.{Story}
use Rattle.q_drain.specs.Told.{Begun, begun, events_of, heard_of, moments_of}
use Rattle.q_drain.specs.Swept.{Outsides}
use Rattle.q_engine.specs.KeptNotes.{AddsAllNotes}
use Rattle.q_engine.specs.Stands.{EngineStands}
use Rattle.q_engine.specs.declared.engine.Engine.{Engine}
use Rattle.q_entries.proofs.Playing.{plays_then}
use Rattle.q_engine.specs.declared.error.EngineError.{EngineError}
use Rattle.q_engine.specs.declared.error.EngineError.TheVariants as engine_errors
use Rattle.q_entries.specs.Runs.{PlaysRun}
use Rattle.q_model.specs.declared.limits.Bound.{Bound}
use Rattle.q_model.specs.declared.limits.Bound.TheVariants.{Content, Deliveries, Generation, Input, Recipients, Serial}
use Rattle.q_events.specs.declared.list_item.ListItem.TheVariants.{End, Restart}
use Rattle.q_host.specs.View.{View}
use Rattle.q_host.specs.declared.error.HostError.{HostError}
use Rattle.q_host.specs.declared.error.HostError.TheVariants as faults
use Rattle.q_laws.proofs.Tidied.{tidy_scan_is}
use Rattle.q_laws.specs.Traces.{AreAllowed}
use Rattle.q_link.specs.Views.{Told}
use Rattle.q_model.proofs.RunLaws.{after_all-append}
use Rattle.q_model.specs.Book.{Book}
use Rattle.q_model.specs.Ledger.{Ledger, opening}
use Rattle.q_model.specs.Past.{starts}
use Rattle.q_model.specs.Run.{run, turn}
use Rattle.q_model.specs.Settings.{World}
use Rattle.q_model.specs.Step.{after, after_all, change, noted}
use Rattle.q_model.specs.declared.entry.Entry.{Entry}
use Rattle.q_model.specs.declared.entry.Entry.TheVariants as entries
use Rattle.q_model.specs.declared.event.Event.{Event}
use Rattle.q_model.specs.declared.event.LifeEvent.{LifeEvent}
use Rattle.q_model.specs.declared.event.LifeEvent.TheVariants.{Begin, Finish, Heard}
use Rattle.q_model.specs.declared.event.Mode.TheVariants.{Deliver}
use Rattle.q_replay.proofs.AllowedItems.{allowed_front, allowed_more, item_allowed, list_allowed}
use Rattle.q_replay.proofs.Modes.{begun_timed, untimed_quiet}
use Rattle.q_replay.proofs.Readings.{entries_more, entries_none, goes_on, ledger_more, ledger_none, ledger_on, refused_item, taken_item}
use Rattle.q_replay.proofs.RunNotes.{notes_then}
use Rattle.q_replay.proofs.RunSteps.{at_first, none_told, told_more, told_still, untaken_ends}
use Rattle.q_replay.specs.Deliveries.{begun_on, DeliversAll, DeliveryEnds, HasNoNumber, LeavesSome, life_of, life_told, StopsDelivering}
use Rattle.q_replay.specs.Listings.{bad, gives}
use Rattle.q_replay.specs.Reading.{faulty, is_spent, items_in, read_items, reading_behind, TakenItems}
use Rattle.q_replay.specs.RunEnds.{entries_on, HaltsIn, IsTold, IsToldInPart, NotesStand, RunEnds}
use Rattle.q_replay.specs.Takings.{HaltsItem, NotTaken, replay_error, TookItem}
use Rattle.q_replay.specs.declared.error.ReplayError.{ReplayError}
use Rattle.q_replay.specs.declared.error.ReplayError.TheVariants as errors

-- ---- runs of many items

run_append : (w : World) (l : Ledger) (items more : List LifeEvent) → run w l (items ++ more) ≡ run w l items ++ run w (after_all w l (run w l items)) more
unfolding run after_all
run_append w l [] more = refl
run_append w l (item ∷ items) more =
    let es = turn w l item in
    let k = after_all w l es in
    ap (λ (xs : List Entry). es ++ xs) (run_append w k items more)
    ∙ sym (append_assoc es (run w k items) (run w (after_all w k (run w k items)) more))
    ∙ ap (λ (m : Ledger). (es ++ run w k items) ++ run w m more) (sym (after_all-append w l es (run w k items)))

module _ (w : World) (b : Book) (items more : List LifeEvent) where
  all_entries : entries_on w Deliver b (items ++ more) ≡ entries_on w Deliver b items ++ run w (ledger_on w Deliver b items) more
  all_entries = run_append w (opening Deliver b) items more

  pub told_many : (u v x : View) → IsTold w Deliver b items u v → PlaysRun w (ledger_on w Deliver b items) (run w (ledger_on w Deliver b items) more) v x
      → AddsAllNotes w (ledger_on w Deliver b items) (run w (ledger_on w Deliver b items) more) v.files x.files → IsTold w Deliver b (items ++ more) u x
  told_many u v x p q adds =
      let es = entries_on w Deliver b items in
      let fs = run w (ledger_on w Deliver b items) more in
      record {
        plays = subst (λ (xs : List Entry). PlaysRun w (opening Deliver b) xs u x) (sym all_entries) (plays_then w (opening Deliver b) es fs u v x p.plays q);
        notes = subst (λ (xs : List Entry). NotesStand w (opening Deliver b) xs x.files) (sym all_entries) (notes_then w (opening Deliver b) es fs v.files x.files p.notes adds);
      }

  ledger_many : ledger_on w Deliver b (items ++ more) ≡ after_all w (ledger_on w Deliver b items) (run w (ledger_on w Deliver b items) more)
  ledger_many = ap (after_all w (opening Deliver b)) all_entries ∙ after_all-append w (opening Deliver b) (entries_on w Deliver b items) (run w (ledger_on w Deliver b items) more)

-- ---- the beginning

begin_turn : (w : World) (b : Book) → turn w (opening Deliver b) Begin ≡ entries.Life (b.generation + 1) Deliver ∷ []
unfolding turn
begin_turn w b = ap (λ (ds : List Entry). entries.Life (b.generation + 1) Deliver ∷ ds) (untimed_quiet w (after w (opening Deliver b) (entries.Life (b.generation + 1) Deliver)) (begun_timed w Deliver b))

begun_is : (w : World) (b : Book) → begun_on w b ≡ after w (opening Deliver b) (entries.Life (b.generation + 1) Deliver)
unfolding after_all
begun_is w b = ledger_more w Deliver b [] Begin ∙ ap (λ (l : Ledger). after_all w l (turn w l Begin)) (ledger_none w Deliver b) ∙ ap (after_all w (opening Deliver b)) (begin_turn w b)

life_at_start : (w : World) (b : Book) → IsAtStart (after w (opening Deliver b) (entries.Life (b.generation + 1) Deliver))
unfolding after
life_at_start w b =
    let t = tidy_scan_is (noted (entries.Life (b.generation + 1) Deliver) (change w (opening Deliver b) (entries.Life (b.generation + 1) Deliver))) in
    record { now = ap (λ (x : Ledger). x.now) t.2; flights = ap (λ (x : Ledger). x.flights) t.2; starts = ap starts t.2 }

pub at_start : (w : World) (b : Book) → IsAtStart (begun_on w b)
at_start w b = subst IsAtStart (sym (begun_is w b)) (life_at_start w b)

-- it was told, and the engine stands for what it led to
module _ (w : World) (b : Book) (engine : Engine) (u v : View) (lawful : TellsCrashes u) (h : HostStands u b) (took : TookItem w (opening Deliver b) Restart (Some engine) u v) where
  life_begun : TookItem w (ledger_on w Deliver b []) Restart (Some engine) u v
  life_begun = subst (λ (l : Ledger). TookItem w l Restart (Some engine) u v) (sym (ledger_none w Deliver b)) took

  pub begun_told : IsTold w Deliver b (Begin ∷ []) u v
  begun_told = told_more w Deliver b [] Begin u u v (none_told w Deliver b u lawful h) life_begun.plays life_begun.notes

  pub begun_stands : EngineStands w engine v (begun_on w b)
  begun_stands = subst (EngineStands w engine v) (sym (ledger_more w Deliver b [] Begin)) life_begun.stands

-- its entries name no event
first_silent : (w : World) (b : Book) → events_of (entries_on w Deliver b (Begin ∷ [])) ≡ []
unfolding run
first_silent w b = ap events_of (append-nil (turn w (opening Deliver b) Begin) ∙ begin_turn w b)

-- nothing was done
pub nothing_done : (w : World) (b : Book) (a : Outside) → GaveUp w (begun_on w b) a a nothing
nothing_done w b a =
    let start = at_start w b in
    let Tells : Begun → Told → Type 0 = λ begun told. Unit {0} in
    record {
      given = λ given is. (given, is, sym (append-nil given));
      cut = drives_cut w (begun_on w b) Tells [] [] [] [] nothing (drives_nothing w (begun_on w b) Tells start.now start.flights start.starts);
      room = tt;
      records = λ now told. (
        now,
        told,
        record { connects = omega arith; hops = sym (append-nil now.hops); rests = omega arith; records = sym (append-nil now.records) },
        cases_deliver w (begun_on w b) now.connects a.hops.connect_faults a.hops.connect_faults [] [] nothing (cases_nothing w (begun_on w b) now.connects a.hops.connect_faults),
      );
    }

-- ---- fronts

append_none : {A : Type 0} (xs ys : List A) → xs ++ ys ≡ [] → xs ≡ []
append_none [] ys h = refl
append_none (x ∷ xs) ys h = cc

none_named : (es front rest : List Entry) → es ≡ front ++ rest → events_of es ≡ [] → events_of front ≡ []
none_named es front rest parts none = append_none (events_of front) (events_of rest) (sym (ap events_of parts ∙ events_added front rest) ∙ none)

end_silent : (w : World) (k : Ledger) → events_of (turn w k Finish) ≡ []
unfolding turn
end_silent w k = refl

whole_cut : (w : World) (l : Ledger) (s : Story) → IsWhole w l s → IsCut s
whole_cut w l s h =
    let connects = h.connected.connects in
    let few = ap length h.connected.hops ∙ length-map (begun s.told) (λ (b : Begun). b.site.hop) in
    record {
      clocked = ([], sym (append-nil (moments_of s.told) ∙ h.clocked));
      connected = record {
        connects = omega (arith, connects);
        few = omega (arith, few, connects);
        hops = ([], sym h.connected.hops ∙ sym (append-nil s.hops));
      };
    }

-- ---- its sweeps, and its end

module _ (w : World) (b : Book) (o : Outsides) (u v : View) (first : IsTold w Deliver b (Begin ∷ []) u v) (begins : AreAllowed w (opening Deliver b) (Begin ∷ [])) where
  abbrev l : Ledger
  l = begun_on w b

  begun_same : l ≡ after_all w (opening Deliver b) (turn w (opening Deliver b) Begin)
  unfolding run
  begun_same = ap (after_all w (opening Deliver b)) (append-nil (turn w (opening Deliver b) Begin))

  -- the items of a life that heard what was allowed
  life_allowed : (heard : List LifeEvent) → AreAllowed w l heard → AreAllowed w (opening Deliver b) (Begin ∷ heard)
  life_allowed heard fits = (begins.0, subst (λ (k : Ledger). AreAllowed w k heard) begun_same fits)

  story_allowed : (story : Story) → IsOwnRun w l story.told → HadRoom w l story.told → AreAllowed w (opening Deliver b) (life_told story)
  story_allowed story own room = life_allowed (heard_of story.told) (told_allowed w l story.told own room)

  told_entries : (story : Story) → IsOwnRun w l story.told → entries_on w Deliver b (life_told story) ≡ entries_on w Deliver b (Begin ∷ []) ++ story.told
  told_entries story own = all_entries w b (Begin ∷ []) (heard_of story.told) ∙ ap (λ (xs : List Entry). entries_on w Deliver b (Begin ∷ []) ++ xs) (sym own)

  ledger_told : (story : Story) → IsOwnRun w l story.told → ledger_on w Deliver b (life_told story) ≡ after_all w l story.told
  ledger_told story own = ledger_many w b (Begin ∷ []) (heard_of story.told) ∙ ap (after_all w l) (sym own)

  told_sweeps : (x : View) → (e : EndsWhole w l o v x) → IsTold w Deliver b (life_told e.story) u x
  told_sweeps x e = told_many w b (Begin ∷ []) (heard_of (e.story).told) u v x first
      (subst (λ (xs : List Entry). PlaysRun w l xs v x) (e.whole).told e.plays)
      (subst (λ (xs : List Entry). AddsAllNotes w l xs v.files x.files) (e.whole).told e.adds)

  pub leaves_some : (x : View) (rests : ℕ) → EndsUnfinished w l o v x rests → LeavesSome w b o rests u x
  leaves_some x rests e = record {
    story = (e.ends).story;
    fits = story_allowed (e.ends).story ((e.ends).whole).told ((e.ends).whole).room;
    told = told_sweeps x e.ends;
    is = record { whole = (e.ends).whole; given = (e.ends).given; delivered = (e.ends).delivered };
    flies = e.flies;
    rests_given = e.rests_given;
    waited = e.waited;
  }

  pub has_no_number : (x : View) → EndsFull w l o v x → HasNoNumber w b o u x
  has_no_number x e = record {
    story = e.story;
    fits = story_allowed e.story e.own (e.gave_up).room;
    plays = subst (λ (xs : List Entry). PlaysRun w (opening Deliver b) xs u x) (sym (told_entries e.story e.own))
        (plays_then w (opening Deliver b) (entries_on w Deliver b (Begin ∷ [])) (e.story).told u v x first.plays e.plays);
    full = e.full;
    clocked = e.clocked;
    connected = e.connected;
    gave_up = e.gave_up;
  }

  -- it was given up in a sweep
  pub stops_early : (x : View) (fault : HostError) → EndsEarly w l o v x fault → StopsDelivering w b o fault u x
  stops_early x fault e =
      let es = entries_on w Deliver b (Begin ∷ []) in
      let parts : entries_on w Deliver b (life_of e.heard) ≡ es ++ e.entries_due = all_entries w b (Begin ∷ []) (map Heard e.heard) ∙ ap (λ (xs : List Entry). es ++ xs) (sym e.due) in
      let h = halts_after w (opening Deliver b) es e.entries_due (entries_on w Deliver b (life_of e.heard)) l fault u v x parts refl first.plays e.halts in
      let few = e.few in
      let count = length-map e.others Heard in
      record {
        story = e.story;
        items = life_of e.heard;
        fits = life_allowed (map Heard e.heard) e.fits;
        halts = h.0;
        before = es;
        behind = [];
        told = h.1 ∙ ap (λ (xs : List Entry). es ++ xs) (sym e.told ∙ sym (append-nil (e.story).told));
        silent = append-nil (events_of es) ∙ first_silent w b;
        others = map Heard e.others;
        few = omega (arith, few, count);
        front = (
          [],
          ap (λ (xs : List LifeEvent). Begin ∷ xs) (sym (map-append Heard (events_of (e.story).told) e.others) ∙ ap (map Heard) (sym e.names)) ∙ sym (append-nil (life_of e.heard)),
        );
        gave_up = e.gave_up;
      }

  -- or a fault or a bound ended it
  pub drain_failed : (x : View) (error : EngineError) → IsDrainError error → DrainEnds w l o v x (Err error) → DeliveryEnds w b o u x (Err (replay_error 0 error))
  drain_failed x engine_errors.Disk kind e = stops_early x faults.Disk e
  drain_failed x engine_errors.Tell kind e = stops_early x faults.Tell e
  drain_failed x engine_errors.NoMemory kind e = stops_early x faults.NoMemory e
  drain_failed x (engine_errors.Limit Deliveries) kind e = (refl, has_no_number x e)
  drain_failed x (engine_errors.Limit Generation) (inl h) e = absurd cc
  drain_failed x (engine_errors.Limit Generation) (inr (inl h)) e = absurd cc
  drain_failed x (engine_errors.Limit Generation) (inr (inr h)) e = absurd cc
  drain_failed x (engine_errors.Limit Content) (inl h) e = absurd cc
  drain_failed x (engine_errors.Limit Content) (inr (inl h)) e = absurd cc
  drain_failed x (engine_errors.Limit Content) (inr (inr h)) e = absurd cc
  drain_failed x (engine_errors.Limit Recipients) (inl h) e = absurd cc
  drain_failed x (engine_errors.Limit Recipients) (inr (inl h)) e = absurd cc
  drain_failed x (engine_errors.Limit Recipients) (inr (inr h)) e = absurd cc
  drain_failed x (engine_errors.Limit Serial) (inl h) e = absurd cc
  drain_failed x (engine_errors.Limit Serial) (inr (inl h)) e = absurd cc
  drain_failed x (engine_errors.Limit Serial) (inr (inr h)) e = absurd cc
  drain_failed x (engine_errors.Limit Input) (inl h) e = absurd cc
  drain_failed x (engine_errors.Limit Input) (inr (inl h)) e = absurd cc
  drain_failed x (engine_errors.Limit Input) (inr (inr h)) e = absurd cc
  drain_failed x (engine_errors.Unknown n) (inl h) e = absurd cc
  drain_failed x (engine_errors.Unknown n) (inr (inl h)) e = absurd cc
  drain_failed x (engine_errors.Unknown n) (inr (inr h)) e = absurd cc
  drain_failed x (engine_errors.WrongCount n want got) (inl h) e = absurd cc
  drain_failed x (engine_errors.WrongCount n want got) (inr (inl h)) e = absurd cc
  drain_failed x (engine_errors.WrongCount n want got) (inr (inr h)) e = absurd cc
  drain_failed x engine_errors.Untimed (inl h) e = absurd cc
  drain_failed x engine_errors.Untimed (inr (inl h)) e = absurd cc
  drain_failed x engine_errors.Untimed (inr (inr h)) e = absurd cc
  drain_failed x (engine_errors.Damaged area name) (inl h) e = absurd cc
  drain_failed x (engine_errors.Damaged area name) (inr (inl h)) e = absurd cc
  drain_failed x (engine_errors.Damaged area name) (inr (inr h)) e = absurd cc
  drain_failed x (engine_errors.Unreadable area name) kind e = absurd e

  module _ (x : View) (engine : Engine) (e : EndsQuiet w l o v x engine) where
    abbrev story : Story
    story = (e.ends).story

    abbrev k : Ledger
    k = ledger_on w Deliver b (life_told story)

    pub stands_quiet : EngineStands w engine x k
    stands_quiet = subst (EngineStands w engine x) (sym (ledger_told story (e.ends).whole.told)) e.stands

    all_allowed : AreAllowed w (opening Deliver b) (life_told story ++ Finish ∷ [])
    all_allowed = allowed_more w (opening Deliver b) (life_told story) Finish (story_allowed story ((e.ends).whole).told ((e.ends).whole).room)
        (item_allowed w k End stands_quiet.core.living tt refl)

    -- it ended
    pub delivers_all : (y : View) → TookItem w k End None x y → DeliversAll w b o u y
    delivers_all y took = record {
      story = story;
      fits = all_allowed;
      told = told_more w Deliver b (life_told story) Finish u x y (told_sweeps x e.ends) took.plays took.notes;
      is = record { whole = (e.ends).whole; given = (e.ends).given; delivered = (e.ends).delivered };
      quiet = e.quiet;
    }

    -- or its end was given up
    pub stops_ending : (y : View) (fault : HostError) → HaltsItem w k End fault x y → StopsDelivering w b o fault u y
    stops_ending y fault q =
        let es = entries_on w Deliver b (life_told story) in
        let before = entries_on w Deliver b (Begin ∷ []) in
        let h = halts_after w (opening Deliver b) es (turn w k Finish) (entries_on w Deliver b (life_told story ++ Finish ∷ [])) k fault u x y (entries_more w Deliver b (life_told story) Finish) refl (told_sweeps x e.ends).plays q in
        let silent : events_of q.done ≡ [] = none_named (turn w k Finish) q.done q.rest q.all (end_silent w k) in
        record {
          story = story;
          items = life_told story ++ Finish ∷ [];
          fits = all_allowed;
          halts = h.0;
          before = before;
          behind = q.done;
          told = h.1 ∙ ap (λ (xs : List Entry). xs ++ q.done) (told_entries story (e.ends).whole.told) ∙ append_assoc before story.told q.done;
          silent = ap (λ (xs : List Event). xs ++ events_of q.done) (first_silent w b) ∙ silent;
          others = Finish ∷ [];
          few = omega arith;
          front = ([], sym (append-nil (life_told story ++ Finish ∷ [])));
          gave_up = record { given = (e.ends).given; cut = whole_cut w l story (e.ends).whole; room = ((e.ends).whole).room; records = (e.ends).delivered };
        }

    pub never_ended : (y : View) (error : ReplayError) → NotTaken w k End 0 error x y → DeliveryEnds w b o u y (Err error)
    never_ended y errors.Disk r = stops_ending y faults.Disk r
    never_ended y errors.Tell r = stops_ending y faults.Tell r
    never_ended y errors.NoMemory r = stops_ending y faults.NoMemory r
    never_ended y errors.Source r = absurd r
    never_ended y (errors.Unreadable area name) r = absurd r
    never_ended y (errors.BadEvent line) r = let no : None ≡ Some r.why = r.refused in absurd cc
    never_ended y (errors.Limit bound) r = let no : None ≡ Some r.why = r.refused in absurd cc
    never_ended y (errors.Damaged area name) r = let no : None ≡ Some r.refused.0 = r.refused.1 in absurd cc

-- ---- a life that never begins

-- nothing was told, and no item was taken
pub stops_before : (w : World) (b : Book) (u x : View) (a : Outside) (fault : HostError) → IsToldInPart w Deliver b [] fault u x → StopsDelivering w b (record { before = a; behind = a }) fault u x
stops_before w b u x a fault halts = record {
  story = nothing;
  items = [];
  fits = tt;
  halts = halts;
  before = halts.done;
  behind = [];
  told = sym (append-nil halts.done);
  silent = append-nil (events_of halts.done) ∙ none_named (entries_on w Deliver b []) halts.done halts.rest halts.all (ap events_of (entries_none w Deliver b));
  others = [];
  few = omega arith;
  front = (Begin ∷ [], refl);
  gave_up = nothing_done w b a;
}

module _ (w : World) (b : Book) (u x : View) (lawful : TellsCrashes u) (host : HostStands u b) where
  abbrev only : TakenItems
  only = read_items w (opening Deliver b) (gives Restart 0 (bad 1))

  none_bad : (k : Ledger) → read_items w k (bad 1) ≡ faulty [] 1
  unfolding read_items
  none_bad k = refl

  -- the items are none, or its first
  only_first : (items_in only ≡ []) ⊎ (items_in only ≡ Begin ∷ [])
  only_first = on (is_spent (opening Deliver b)) refl
    where
      on : (s : Bool) → is_spent (opening Deliver b) ≡ s → (items_in only ≡ []) ⊎ (items_in only ≡ Begin ∷ [])
      on true is = inl (ap items_in (refused_item w (opening Deliver b) Restart 0 (bad 1) (engine_errors.Limit Generation) (ap (λ (s : Bool). if s then Some (engine_errors.Limit Generation) else None) is)))
      on false is = inr (ap items_in (taken_item w (opening Deliver b) Restart 0 (bad 1) (ap (λ (s : Bool). if s then Some (engine_errors.Limit Generation) else None) is)
          ∙ goes_on w (opening Deliver b) Restart 0 (bad 1) refl
          ∙ ap (reading_behind (Begin ∷ [])) (none_bad (after_all w (opening Deliver b) (turn w (opening Deliver b) Begin)))))

  front_of : (items more : List LifeEvent) → items_in only ≡ items ++ more → (rest : List LifeEvent) × (life_told nothing ++ [] ≡ items ++ rest)
  front_of items more is = on only_first
    where
      on : (items_in only ≡ []) ⊎ (items_in only ≡ Begin ∷ []) → (rest : List LifeEvent) × (life_told nothing ++ [] ≡ items ++ rest)
      on (inl none) =
          let no : items ≡ [] = append_none items more (sym is ∙ none) in
          (Begin ∷ [], ap (λ (xs : List LifeEvent). xs ++ Begin ∷ []) (sym no))
      on (inr one) = (more, sym one ∙ is)

  items_silent : (items more : List LifeEvent) → items_in only ≡ items ++ more → events_of (entries_on w Deliver b items) ≡ []
  items_silent items more is = on only_first
    where
      first : (items more : List LifeEvent) → Begin ∷ [] ≡ items ++ more → events_of (entries_on w Deliver b items) ≡ []
      first [] more is = ap events_of (entries_none w Deliver b)
      first (item ∷ items) more is =
          let same : Begin ≡ item = cc in
          let rest : [] ≡ items ++ more = cc in
          ap (λ (xs : List LifeEvent). events_of (entries_on w Deliver b (item ∷ xs))) (append_none items more (sym rest))
          ∙ ap (λ (i : LifeEvent). events_of (entries_on w Deliver b (i ∷ []))) (sym same) ∙ first_silent w b

      on : (items_in only ≡ []) ⊎ (items_in only ≡ Begin ∷ []) → events_of (entries_on w Deliver b items) ≡ []
      on (inl none) = ap (λ (xs : List LifeEvent). events_of (entries_on w Deliver b xs)) (append_none items more (sym is ∙ none)) ∙ ap events_of (entries_none w Deliver b)
      on (inr one) = first items more (sym one ∙ is)

  halted_first : (a : Outside) (fault : HostError) → HaltsIn w Deliver b only fault u x → StopsDelivering w b (record { before = a; behind = a }) fault u x
  halted_first a fault (items, (more, is), halts) = record {
    story = nothing;
    items = items;
    fits = allowed_front w (opening Deliver b) items more (subst (AreAllowed w (opening Deliver b)) is (list_allowed w Deliver b (bad 1) tt));
    halts = halts;
    before = halts.done;
    behind = [];
    told = sym (append-nil halts.done);
    silent = append-nil (events_of halts.done) ∙ none_named (entries_on w Deliver b items) halts.done halts.rest halts.all (items_silent items more is);
    others = [];
    few = omega arith;
    front = front_of items more is;
    gave_up = nothing_done w b a;
  }

  none_taken : PlaysRun w (opening Deliver b) [] u x → x.files ≡ u.files → IsTold w Deliver b [] u x
  none_taken plays files = told_still w Deliver b [] u u x (none_told w Deliver b u lawful host) (subst (λ (l : Ledger). PlaysRun w l [] u x) (sym (ledger_none w Deliver b)) plays) files

  spent_by : (s : Bool) (why : EngineError) → (if s then Some (engine_errors.Limit Generation) else None) ≡ Some why → (s ≡ true) × (engine_errors.Limit Generation ≡ why)
  spent_by true why is = (refl, same_Some (engine_errors.Limit Generation) why is)
  spent_by false why is = cc

  pub never_delivers : (a : Outside) (error : ReplayError) → NotTaken w (opening Deliver b) Restart 0 error u x → DeliveryEnds w b (record { before = a; behind = a }) u x (Err error)
  never_delivers a error r = by error r (untaken_ends w Deliver b only [] Restart 0 (bad 1) (at_first w Deliver b Restart 0 (bad 1)) u u (none_told w Deliver b u lawful host) x error (subst (λ (l : Ledger). NotTaken w l Restart 0 error u x) (sym (ledger_none w Deliver b)) r))
    where
      by : (error : ReplayError) → NotTaken w (opening Deliver b) Restart 0 error u x → RunEnds w Deliver b only u x (Err error) → DeliveryEnds w b (record { before = a; behind = a }) u x (Err error)
      by errors.Disk r e = halted_first a faults.Disk e
      by errors.Tell r e = halted_first a faults.Tell e
      by errors.NoMemory r e = halted_first a faults.NoMemory e
      by errors.Source r e = absurd r
      by (errors.Unreadable area name) r e = absurd r
      by (errors.BadEvent line) r e =
          let s = spent_by (is_spent (opening Deliver b)) r.why r.refused in
          let names : errors.BadEvent line ≡ errors.Limit Generation = r.names ∙ ap (replay_error 0) (sym s.1) in
          cc
      by (errors.Limit bound) r e =
          let s = spent_by (is_spent (opening Deliver b)) r.why r.refused in
          let names : errors.Limit bound ≡ errors.Limit Generation = r.names ∙ ap (replay_error 0) (sym s.1) in
          let same : bound ≡ Generation = cc in
          subst (λ (n : Bound). DeliveryEnds w b (record { before = a; behind = a }) u x (Err (errors.Limit n))) (sym same) (s.0, none_taken r.stays r.files)
      by (errors.Damaged area name) r e = (none_taken r.stays r.files, r.damage)
