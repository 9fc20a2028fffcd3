-- A drain through the next poll of its agent, and what follows it.
use native.Mathlib.Omega.{arith}
use Rattle.q_drain.proofs.Rooming.{room_front, room_more, room_reply}
use Rattle.q_drain.specs.Rooms.{HadRoom, MayBeginMore}
use Rattle.std.proofs.Common.{◌≡◌, ◌≤◌, ◌+◌, inl, inr, ℕ, Bool, true, false, List, [], ◌∷◌, ◌++◌, length, length-append, Option, Some, None, refl, sym, ap, ◌∙◌, subst, append-nil, ◌<◌}
use Rattle.std.specs.List.{AllByRecursion, list_all}
use Rattle.q_core.specs.Hearing.{has_log_code}
use Rattle.std.specs.Prelude.{◌^◌, if◌then◌else◌, IfSome, nat_lt}
use Rattle.q_agent.specs.Answers.{HasFile, IsStanding, PollsNext}
use Rattle.q_agent.specs.Requests.{active_spot}
use Rattle.q_agent.specs.Sessions.{OpenSession, Sessions, Work, after_end, after_poll, next_polled, replaced, unpolled}
use Rattle.q_agent.specs.NextPoll.{Ends, IsReportOf, IsWorking}
use Rattle.q_agent.specs.declared.report.Report.{Report}
use Rattle.q_books.proofs.Joining.{reads_keep}
use Rattle.q_books.specs.HostStands.{Takes, TellsCrashes}
use Rattle.q_drain.proofs.Adding.{begun_added, ended_added}
use Rattle.q_drain.proofs.Concluding.{GoesOnBehind, concludes_under_way, reply_allowed}
use Rattle.q_drain.proofs.GivingUp.{gives_up_looking, gives_up_part, gives_up_whole, halts_after, none_after, plays_between, plays_looked}
use Rattle.q_drain.proofs.Moments.{begun_behind}
use Rattle.q_drain.proofs.Naming.{reply_names_turn, reply_turn}
use Rattle.q_drain.proofs.Polling.{HasItsFile}
use Rattle.q_drain.proofs.Parting.{GonePart, gone_clocked, gone_part}
use Rattle.q_drain.proofs.Polls.{polled_on, polled_over, polling_less, polling_on, same_on, still_waits}
use Rattle.q_drain.proofs.ReplyTurns.{codes_logged, counts_fit}
use Rattle.q_drain.proofs.Reports.{after_reply}
use Rattle.q_drain.proofs.Requested.{gives_up}
use Rattle.q_drain.proofs.Serving.{looked_under_way, polled_under_way}
use Rattle.q_drain.proofs.Sessions.{open_files}
use Rattle.q_drain.proofs.Silent.{decisions_inside, no_replies}
use Rattle.q_drain.proofs.Turning.{course_reply, reply_entries, run_reply}
use Rattle.q_drain.proofs.Waiting.{done, sweeps_busy, sweeps_more}
use Rattle.q_drain.specs.Drains.{Delivers, IsOwnRun}
use Rattle.q_drain.specs.Flights.{without_flight}
use Rattle.q_drain.specs.GivenUp.{GivesUp}
use Rattle.q_drain.specs.Opened.{FailsToOpenAll, GaveUp, IsServing, Looks, MayOpenAll, OpensAll}
use Rattle.q_drain.specs.Polling.{IsPolling, KeepsSame}
use Rattle.q_drain.specs.Replied.{entries_replied, HaltsReply, HasReplied, Replies, reply_event}
use Rattle.q_drain.specs.Reported.{GivesUpReport, HearsReport}
use Rattle.q_drain.specs.Served.{FilledUp, ServedOn}
use Rattle.q_drain.specs.Standing.{IsUnderWay, Outside, counts_of}
use Rattle.q_drain.specs.Stories.{Did, Story}
use Rattle.q_drain.specs.Told.{Begun, Ended, begun, begun_from, ended, moment_after}
use Rattle.q_drain.specs.Waits.{Sweeps, idle}
use Rattle.q_drain.specs.Works.{IsLinkOf, IsSessionOf, IsWorkOf, Pairs, mail_of}
use Rattle.q_drain.specs.declared.poll.Served.{Served}
use Rattle.q_engine.proofs.StoredNotes.{stores_none}
use Rattle.q_engine.specs.KeptNotes.{AddsAllNotes}
use Rattle.q_engine.specs.Refusals.{ForAgreed}
use Rattle.q_engine.specs.Stands.{EngineStands}
use Rattle.q_engine.specs.declared.engine.Engine.{Engine}
use Rattle.q_entries.specs.Runs.{HaltsRun, PlaysRun}
use Rattle.q_host.specs.Calls.{Stays}
use Rattle.q_host.specs.View.{View as HostView}
use Rattle.q_host.specs.declared.error.HostError.{HostError}
use Rattle.q_laws.proofs.Members.{IsIn, find_in}
use Rattle.q_link.specs.Records.{HopsView, StaysOpen, ToldHops}
use Rattle.q_link.specs.Views.{Told}
use Rattle.q_model.proofs.RunLaws.{after_all-append}
use Rattle.q_model.specs.declared.entry.Entry.{Entry}
use Rattle.q_model.specs.declared.entry.Entry.TheVariants as entries
use Rattle.q_model.specs.declared.event.LifeEvent.TheVariants.{Heard}
use Rattle.q_model.specs.declared.outcome.Outcome.{Outcome}
use Rattle.q_model.specs.declared.outcome.SiteState.{SiteState}
use Rattle.q_model.specs.declared.rows.Delivery.{Delivery}
use Rattle.q_model.specs.Book.{Book}
use Rattle.q_model.specs.Ledger.{Ledger}
use Rattle.q_model.specs.Past.{starts}
use Rattle.q_model.specs.Replies.{fits_state, may_reply}
use Rattle.q_model.specs.Run.{decisions, turn}
use Rattle.q_model.specs.Settings.{World}
use Rattle.q_model.specs.SpoolFiles.{Files}
use Rattle.q_model.specs.Step.{after, after_all}
use Rattle.q_session.specs.Mails.{StandsAt}

-- ---- notes

pub adds_looked : (w : World) (k : Ledger) (u v : HostView) → v.files ≡ u.files → AddsAllNotes w k [] u.files v.files
adds_looked w k u v same = subst (λ (f : Files). AddsAllNotes w k [] u.files f) (sym same) (stores_none w k u.files).adds

pub adds_between : (w : World) (k : Ledger) (es : List Entry) (u v x y : HostView) → v.files ≡ u.files → AddsAllNotes w k es v.files x.files → y.files ≡ x.files → AddsAllNotes w k es u.files y.files
adds_between w k es u v x y before h behind = subst (λ (f : Files). AddsAllNotes w k es f y.files) before (subst (λ (f : Files). AddsAllNotes w k es v.files f) (sym behind) h)

-- ---- the files of open sessions

standing_one : (host : HostView) (book : Book) (told : List Entry) (Tells : Begun → Told → Type 0) (f : Delivery) (o : OpenSession) → HasItsFile host book f → IsSessionOf book told Tells f o → IsStanding true host o
standing_one host book told Tells f o file h = on o.work h.work
  where
    on : (work : Option Work) → IfSome work (IsWorkOf Tells h.start h.message) → HasFile true host work
    on None p = tt
    on (Some w) p = (mail_of h.message, subst (λ spot. StandsAt true host spot (mail_of h.message)) (ap (λ (g : Delivery). active_spot g.row.id) h.is ∙ sym p.spot) (file h.message h.stands))

standing_all : (host : HostView) (book : Book) (told : List Entry) (Tells : Begun → Told → Type 0) (fs : List Delivery) (os : List OpenSession) → AllByRecursion (HasItsFile host book) fs → Pairs (IsSessionOf book told Tells) fs os → AllByRecursion (IsStanding true host) os
standing_all host book told Tells [] [] files h = tt
standing_all host book told Tells [] (o ∷ os) files h = absurd h
standing_all host book told Tells (f ∷ fs) [] files h = absurd h
standing_all host book told Tells (f ∷ fs) (o ∷ os) files h = (standing_one host book told Tells f o files.0 h.0, standing_all host book told Tells fs os files.1 h.1)

-- each may be polled
pub may_poll : (w : World) (l : Ledger) (a z : Outside) (v : HostView) (engine : Engine) (agent : Sessions) (early waiting : List Begun) (fs : List Delivery) (s : Story) → IsServing w l a z v engine agent early waiting fs s → AllByRecursion (IsStanding true v) agent.listed
may_poll w l a z v engine agent early waiting fs s h =
    let u = h.under_way in
    let k : Ledger = after_all w l s.told in
    let Tells : Begun → Told → Type 0 = IsLinkOf (counts_of a s agent.polled) in
    standing_all v k.book s.told Tells fs agent.listed (open_files w l v s Tells early waiting fs agent.listed u.stands.core.consistent u.stands.host u.driving.opened) u.driving.opened.sessions

-- ---- a session that goes on

in_up_to : (n : ℕ) (o : OpenSession) (os : List OpenSession) → AllByRecursion (λ (x : OpenSession). x.number ≤ n) os → IsIn o os → o.number ≤ n
in_up_to n o [] below h = absurd h
in_up_to n o (x ∷ os) below (inl is) = subst (λ (y : OpenSession). y.number ≤ n) is below.0
in_up_to n o (x ∷ os) below (inr h) = in_up_to n o os below.1 h

-- the one that is polled next has had its connect
polled_low : (w : World) (l : Ledger) (a z : Outside) (v : HostView) (engine : Engine) (agent : Sessions) (early waiting : List Begun) (fs : List Delivery) (s : Story) (o : OpenSession) → unpolled agent ≡ Some o → IsServing w l a z v engine agent early waiting fs s → o.number ≤ length early
polled_low w l a z v engine agent early waiting fs s o first h = in_up_to (length early) o agent.listed h.under_way.driving.opened.below (find_in (λ (q : OpenSession). nat_lt agent.polled q.number) o agent.listed first).0

pub served_same : (w : World) (l : Ledger) (a : Outside) (clock : Option (List ℕ)) (u v : HostView) (hops next_hops : HopsView) (early : List Begun) (fs : List Delivery) (s : Story) (served : Served) (agent new : Sessions) (now : ℕ) (o p : OpenSession)
    → TellsCrashes u → Stays u v → unpolled agent ≡ Some o → IsWorking true u now o p → new ≡ after_poll p agent → next_hops ≡ hops
    → length early ≡ served.known → Sweeps (idle served.busy) s → IsServing w l a (record { clock = clock; hops = hops }) u served.engine agent early [] fs s
    → ServedOn w l a (record { clock = clock; hops = next_hops }) u v served new [] s
served_same w l a clock u v hops next_hops early fs s served agent new now o p lawful stays first works made same known sweeps h =
    let k : Ledger = after_all w l s.told in
    let z : Outside = record { clock = clock; hops = hops } in
    let polled = polled_under_way w l a z u served.engine early [] fs agent.listed s agent.polled now o p h.under_way first works in
    let looked = looked_under_way w l a z u (IsLinkOf (counts_of a s o.number)) served.engine early [] fs (replaced p agent.listed) s v lawful stays polled in
    let number : p.number ≡ o.number = works.same.number in
    let serving : IsServing w l a z v served.engine (after_poll p agent) early [] fs s = record {
      under_way = subst (λ n. IsUnderWay w l a z v (IsLinkOf (counts_of a s n)) served.engine early [] fs (replaced p agent.listed) s) (sym number) looked;
      polled = subst (λ n. n ≤ length early) (sym number) (polled_low w l a z u served.engine agent early [] fs s o first h);
      some = h.some;
    } in
    record {
      entries_told = [];
      early = early;
      flights = fs;
      story = s;
      told = sym (append-nil s.told);
      moments = sym (append-nil s.moments);
      rests = refl;
      plays = plays_looked w k u v lawful h.under_way.stands.host (reads_keep k.book k.book u v lawful stays h.under_way.stands.host);
      adds = adds_looked w k u v stays.files;
      known_is = known;
      sweeps = sweeps;
      serving = subst (λ (x : HopsView). IsServing w l a (record { clock = clock; hops = x }) v served.engine new early [] fs s) (sym same)
          (subst (λ (n : Sessions). IsServing w l a z v served.engine n early [] fs s) (sym made) serving);
    }

-- ---- a poll that fails

-- no link was closed
stays_open : (w : World) (l : Ledger) (a : Outside) (clock : Option (List ℕ)) (hops next : HopsView) (s : Story) → StaysOpen hops next → GaveUp w l a (record { clock = clock; hops = hops }) s → GaveUp w l a (record { clock = clock; hops = next }) s
stays_open w l a clock hops next s h g = record {
  given = g.given;
  cut = g.cut;
  room = g.room;
  records = λ now told.
      let c = h.0 now told in
      let r = g.records c.0 c.1 in (
        r.0,
        r.1,
        subst (λ (t : ToldHops). Did r.0 t s) (sym c.2) r.2,
        subst (λ n. Delivers w l (r.0).connects a.hops.connect_faults n s) (ap (λ (x : HopsView). x.connect_faults) (sym h.1)) r.3,
      );
}

pub poll_fails : (w : World) (l : Ledger) (a : Outside) (clock : Option (List ℕ)) (u v : HostView) (hops next : HopsView) (early : List Begun) (fs : List Delivery) (s : Story) (engine : Engine) (agent : Sessions) (error : HostError)
    → TellsCrashes u → Stays u v → StaysOpen hops next → IsServing w l a (record { clock = clock; hops = hops }) u engine agent early [] fs s → GivesUp w l a (record { clock = clock; hops = next }) u v error s
poll_fails w l a clock u v hops next early fs s engine agent error lawful stays open_links h =
    let k : Ledger = after_all w l s.told in
    let z : Outside = record { clock = clock; hops = hops } in
    gives_up_looking w l a (record { clock = clock; hops = next }) u v error s s h.under_way.driving.course.run lawful h.under_way.stands.host
    (reads_keep k.book k.book u v lawful stays h.under_way.stands.host) refl (stays_open w l a clock hops next s open_links (gives_up w l a z u engine agent early [] fs s h))

-- ---- a session that is over

-- it was polled last, and its link was closed
pub record EndsPoll (w : World) (l : Ledger) (a : Outside) (clock : Option (List ℕ)) (u v : HostView) (hops next : HopsView) (engine : Engine) (agent : Sessions) (early : List Begun) (fs : List Delivery) (s : Story) (o : OpenSession) (r : Report) : Type 0 where
  pub lawful : TellsCrashes u
  pub stays : Stays u v
  pub first : unpolled agent ≡ Some o
  pub report : IsReportOf true u (moment_after 0 s.told) o r hops next
  pub serving : IsServing w l a (record { clock = clock; hops = hops }) u engine agent early [] fs s

ends_faults : (host : HostView) (now : ℕ) (work : Option Work) (site : SiteState) (outcomes : List Outcome) (old new : HopsView) → Ends true host now work site outcomes old new → new.connect_faults ≡ old.connect_faults
ends_faults host now None site outcomes old new h = ap (λ (x : HopsView). x.connect_faults) h.1
ends_faults host now (Some w) site outcomes old new h = ap (λ (x : HopsView). x.connect_faults) h.closes.1

-- more ended
pub more_ended : (s k : Story) (es : List Entry) → k.told ≡ s.told ++ es → length (ended s.told) ≤ length (ended k.told)
more_ended s k es told =
    let ends = ap (λ (xs : List Entry). length (ended xs)) told in
    let split = ap length (ended_added s.told es) in
    let sum = length-append (ended s.told) (ended es) in
    omega (arith, ends, split, sum)

-- what more entries began and ended
pub more_done : (s k : Story) (es : List Entry) (n : ℕ) → k.told ≡ s.told ++ es → length (ended es) ≡ n → done s + n ≤ done k
more_done s k es n told count =
    let ends = ap (λ (xs : List Entry). length (ended xs)) told in
    let split = ap length (ended_added s.told es) in
    let sum = length-append (ended s.told) (ended es) in
    let begins = ap (λ (xs : List Entry). length (begun xs)) told in
    let parts = ap length (begun_added 0 s.told es) in
    let more = length-append (begun s.told) (begun_from (moment_after 0 s.told) es) in
    omega (arith, ends, split, sum, begins, parts, more, count)

sweeps_replied : (busy : Bool) (s k : Story) → Sweeps (idle busy) s → k.moments ≡ s.moments → k.rests ≡ s.rests → done s + 1 ≤ done k → Sweeps 0 k
sweeps_replied true s k p moments rests more = sweeps_more 0 s k p moments rests (omega (arith, more))
sweeps_replied false s k p moments rests more = sweeps_busy s k p moments rests more

module _ (w : World) (l : Ledger) (a : Outside) (clock : Option (List ℕ)) (u v : HostView) (hops next : HopsView) (engine : Engine) (agent : Sessions) (early : List Begun) (fs : List Delivery) (s : Story) (o : OpenSession) (r : Report)
    (e : EndsPoll w l a clock u v hops next engine agent early fs s o r) where
  abbrev k : Ledger
  k = after_all w l s.told

  abbrev z : Outside
  z = record { clock = clock; hops = hops }

  abbrev y : Outside
  y = record { clock = clock; hops = next }

  abbrev es : List Entry
  es = reply_entries w k o.number r.site r.outcomes

  faults : next.connect_faults ≡ hops.connect_faults
  faults = ends_faults u (moment_after 0 s.told) o.work r.site r.outcomes hops next e.report.ends

  takes : Takes k.book k.book u v
  takes = reads_keep k.book k.book u v e.lawful e.stays e.serving.under_way.stands.host

  -- engine and host stand for the ledger still
  pub stands_still : EngineStands w engine v k
  stands_still = (looked_under_way w l a z u (IsLinkOf (counts_of a s agent.polled)) engine early [] fs agent.listed s v e.lawful e.stays e.serving.under_way).stands

  turn_is : turn w k (Heard (reply_event r)) ≡ es
  turn_is = reply_turn w k r.number r.site r.outcomes ∙ ap (λ n. reply_entries w k n r.site r.outcomes) e.report.number

  own : IsOwnRun w l (s.told ++ es)
  own = run_reply w l s o.number r.site r.outcomes e.serving.under_way.driving.course.run

  gone : (front rest : List Entry) → es ≡ front ++ rest → HadRoom w k front → GonePart w l a y s front
  gone front rest parts room = gone_part w l a z u next engine early fs agent.listed s agent.polled o r front rest e.serving.under_way e.first e.report faults parts room

  -- there are no numbers left
  pub fills_up : (last : ℕ) → ForAgreed engine (λ w l. last ≡ starts l) → 2 ^ 48 ≤ last → FilledUp w l a y u v s
  fills_up last says full =
      let g = gone [] es refl tt in
      let h = e.serving.under_way in
      let c = gone_clocked w l a z u (IsLinkOf (counts_of a s agent.polled)) engine early fs agent.listed s y h g in
      let same : g.story.told ≡ s.told = c.2 in
      let count : last ≡ starts (after_all w l g.story.told) = says w k h.stands.core h.stands.counts ∙ ap (λ (told : List Entry). starts (after_all w l told)) (sym same) in
      record {
        entries_told = [];
        plays = plays_looked w k u v e.lawful h.stands.host takes;
        story = g.story;
        told = g.told;
        own = subst (IsOwnRun w l) (sym same) h.driving.course.run;
        full = omega (arith, full, count);
        clocked = c.0;
        connected = c.1;
        gave_up = g.gave_up;
      }

  -- where more deliveries may begin
  module _ (few : MayBeginMore k) where
    -- its reply was given up
    reply_halts : (x : HostView) (error : HostError) → may_reply k r.number r.site r.outcomes ≡ true → HaltsRun w k (turn w k (Heard (reply_event r))) error v x → GivesUp w l a y u x error s
    reply_halts x error may q =
        let turn_es : List Entry = turn w k (Heard (reply_event r)) in
        let course = e.serving.under_way.driving.course in
        let living = e.serving.under_way.stands.core.living in
        let fits = reply_allowed w k o.number r.site r.outcomes living (ap (λ n. may_reply k n r.site r.outcomes) (sym e.report.number) ∙ may) in
        let heard : HadRoom w k es = room_reply w k o.number r.site r.outcomes fits few in
        let h = halts_after w k [] turn_es turn_es k error u v x refl (sym (none_after w k)) (plays_looked w k u v e.lawful e.serving.under_way.stands.host takes) q in
        let parts = sym turn_is ∙ (h.0).all in
        let g = gone (h.0).done (h.0).rest parts (room_front w k (h.0).done (h.0).rest (subst (HadRoom w k) parts heard)) in
        let names = ap length (reply_names_turn w k r.number r.site r.outcomes) in
        gives_up_part w l a y u x error s g.story turn_es (subst (λ (xs : List Entry). IsOwnRun w l (s.told ++ xs)) (sym turn_is) own)
        (room_more w l s.told turn_es course.room (subst (HadRoom w k) (sym turn_is) heard)) (omega (arith, names)) h.0 g.told g.gave_up

    no_parts : (done rest : List Entry) → [] ≡ done ++ rest → done ≡ []
    no_parts [] rest is = refl
    no_parts (f ∷ done) rest is = absurd cc

    -- nothing of it was told
    reply_halts_first : (x : HostView) (error : HostError) → HaltsRun w k [] error v x → GivesUp w l a y u x error s
    reply_halts_first x error q =
        let course = e.serving.under_way.driving.course in
        let h = halts_after w k [] [] [] k error u v x refl (sym (none_after w k)) (plays_looked w k u v e.lawful e.serving.under_way.stands.host takes) q in
        let g = gone [] es refl tt in
        let none : (h.0).done ≡ [] = no_parts (h.0).done (h.0).rest (h.0).all in
        let same = sym (append-nil s.told) in
        gives_up_part w l a y u x error s g.story [] (subst (IsOwnRun w l) same course.run) (subst (HadRoom w l) same course.room) (omega arith) h.0
        (g.told ∙ ap (λ (xs : List Entry). s.told ++ xs) (sym none)) g.gave_up

    pub reply_fails : (x : HostView) (error : HostError) → HaltsReply r engine error v x → GivesUp w l a y u x error s
    reply_fails x error halts = by (may_reply k r.number r.site r.outcomes) refl (halts w k stands_still)
      where
        by : (b : Bool) → may_reply k r.number r.site r.outcomes ≡ b → HaltsRun w k (entries_replied w k r) error v x → GivesUp w l a y u x error s
        by true may q = reply_halts x error may (subst (λ (b : Bool). HaltsRun w k (if b then turn w k (Heard (reply_event r)) else []) error v x) may q)
        by false may q = reply_halts_first x error (subst (λ (b : Bool). HaltsRun w k (if b then turn w k (Heard (reply_event r)) else []) error v x) may q)

    -- its reply was told
    module _ (x : HostView) (new : Engine) (mid : Sessions) (made : mid ≡ after_end o agent) (replies : Replies r engine new v x) where
      replied : HasReplied w k r new v x
      replied = replies w k stands_still

      abbrev waiting : List Begun
      waiting = begun_behind w l s (entries.Reply o.number r.site r.outcomes) (moment_after 0 s.told)

      behind : GoesOnBehind w l a z x next new early fs agent.listed s o r
      behind = concludes_under_way w l a z u x next engine new early fs agent.listed s agent.polled o r e.serving.under_way e.first e.report faults
          (ap (λ n. may_reply k n r.site r.outcomes) (sym e.report.number) ∙ replied.may) few
          (subst (λ (xs : List Entry). EngineStands w new x (after_all w k xs)) turn_is replied.took.stands)

      abbrev story : Story
      story = after_reply w l s o.number r.site r.outcomes behind.recorded

      serving : IsServing w l a y x new mid early waiting (without_flight o.number fs) story
      serving = subst (λ (n : Sessions). IsServing w l a y x new n early waiting (without_flight o.number fs) story) (sym made)
          (record { under_way = behind.goes_on; polled = polled_low w l a z u engine agent early [] fs s o e.first e.serving; some = e.serving.some })

      plays : (b : HostView) → Looks w l story x b → PlaysRun w k es u b
      plays b looks = plays_between w k es u v x b e.lawful e.serving.under_way.stands.host takes
          (subst (λ (xs : List Entry). PlaysRun w k xs v x) turn_is replied.took.plays)
          (subst (λ (m : Ledger). Takes m.book m.book x b) (after_all-append w l s.told es) looks.takes)

      pub may_open_more : (known : ℕ) → length early ≡ known → MayOpenAll clock x next new mid known
      may_open_more known is = record { world = w; ledger = l; first = a; early = early; waiting = waiting; flights = without_flight o.number fs; story = story; serving = serving; known_is = is }

      -- and a session couldn't be opened
      pub opening_fails : (b : HostView) (after_hops : HopsView) (known : ℕ) (error : HostError) → length early ≡ known → FailsToOpenAll new x b next after_hops mid known → GivesUp w l a (record { clock = clock; hops = after_hops }) u b error s
      opening_fails b after_hops known error is fails =
          let g = fails w l a clock early waiting (without_flight o.number fs) story is serving in
          gives_up_whole w l a (record { clock = clock; hops = after_hops }) u b error s g.0 es own (plays b g.3) g.1 g.2

      -- or all were
      pub served_replied : (b : HostView) (after_hops : HopsView) (sessions : Sessions) (known last : ℕ) (busy : Bool) → length early ≡ known → Sweeps (idle busy) s → OpensAll new x b next after_hops mid sessions known last
          → ServedOn w l a (record { clock = clock; hops = after_hops }) u b (record { engine = new; known = last; busy = true }) sessions [] s
      served_replied b after_hops sessions known last busy is sweeps opens =
          let g = opens w l a clock early waiting (without_flight o.number fs) story is serving in
          let ds : List Entry = decisions w (after w k (entries.Reply o.number r.site r.outcomes)) in
          let one : length (ended es) ≡ 1 = ap (λ (xs : List Ended). length (record { number = o.number; site = r.site; outcomes = r.outcomes } ∷ xs)) (no_replies ds (decisions_inside w (after w k (entries.Reply o.number r.site r.outcomes)))) in
          record {
            entries_told = es;
            early = early ++ waiting;
            flights = (g.0).flights;
            story = (g.0).story;
            told = (g.0).told;
            moments = (g.0).moments ∙ sym (append-nil s.moments);
            rests = (g.0).rests;
            plays = plays b g.1;
            adds = adds_between w k es u v x b e.stays.files (subst (λ (xs : List Entry). AddsAllNotes w k xs v.files x.files) turn_is replied.took.notes.adds) (g.1).files;
            known_is = sym g.2;
            sweeps = sweeps_replied busy s (g.0).story sweeps (g.0).moments (g.0).rests (more_done s (g.0).story es 1 (g.0).told one);
            serving = (g.0).serving;
          }

    -- the reply was given up, or a session couldn't be opened behind it
    pub report_fails : {H : Type 0} (view : H → HostView) (before b : H) → view before ≡ v → (mid : Sessions) (made : mid ≡ after_end o agent) (after_hops : HopsView) (known : ℕ) (error : HostError) → length early ≡ known
        → GivesUpReport view r engine error before b next after_hops mid known → GivesUp w l a (record { clock = clock; hops = after_hops }) u (view b) error s
    report_fails view before b at mid made after_hops known error is (inl (halts, same)) =
        subst (λ (x : HopsView). GivesUp w l a (record { clock = clock; hops = x }) u (view b) error s) (sym same) (reply_fails (view b) error (subst (λ (x : HostView). HaltsReply r engine error x (view b)) at halts))
    report_fails view before b at mid made after_hops known error is (inr f) =
        opening_fails (view f.between) f.next mid made (subst (λ (x : HostView). Replies r engine f.next x (view f.between)) at f.replied) (view b) after_hops known error is f.fails

    as_busy : (next : Served) → next.busy ≡ true → record { engine = next.engine; known = next.known; busy = true } ≡ next
    as_busy n is = ap (λ (b : Bool). record { engine = n.engine; known = n.known; busy = b }) (sym is)

    -- it was told, and all were
    pub served_by_report : {H : Type 0} (view : H → HostView) (before b : H) → view before ≡ v → (mid : Sessions) (made : mid ≡ after_end o agent) (after_hops : HopsView) (sessions : Sessions) (known : ℕ) (served : Served) (busy : Bool) → length early ≡ known
        → Sweeps (idle busy) s → served.busy ≡ true → HearsReport view r engine served before b next after_hops mid sessions known → ServedOn w l a (record { clock = clock; hops = after_hops }) u (view b) served sessions [] s
    served_by_report view before b at mid made after_hops sessions known served busy is sweeps own heard =
        subst (λ (n : Served). ServedOn w l a (record { clock = clock; hops = after_hops }) u (view b) n sessions [] s) (as_busy served own)
        (served_replied (view heard.between) served.engine mid made (subst (λ (x : HostView). Replies r engine served.engine x (view heard.between)) at heard.replied) (view b) after_hops sessions known served.known busy is sweeps heard.opened)

-- ---- by the answer of the agent

now_is : (w : World) (l : Ledger) (a z : Outside) (v : HostView) (engine : Engine) (agent : Sessions) (early waiting : List Begun) (fs : List Delivery) (s : Story) (now : ℕ) → ForAgreed engine (λ w l. now ≡ l.now) → IsServing w l a z v engine agent early waiting fs s → now ≡ moment_after 0 s.told
now_is w l a z v engine agent early waiting fs s now says h = says w (after_all w l s.told) h.under_way.stands.core h.under_way.stands.counts ∙ h.under_way.driving.course.now

-- so many have begun
pub begins_fewer : (w : World) (l : Ledger) (a z : Outside) (v : HostView) (engine : Engine) (agent : Sessions) (early waiting : List Begun) (fs : List Delivery) (s : Story) (last : ℕ) → ForAgreed engine (λ w l. last ≡ starts l) → last < 2 ^ 48 → IsServing w l a z v engine agent early waiting fs s → MayBeginMore (after_all w l s.told)
begins_fewer w l a z v engine agent early waiting fs s last says few h =
    let count = says w (after_all w l s.told) h.under_way.stands.core h.under_way.stands.counts in
    omega (arith, few, count)

-- the session that was polled is over
pub ends_poll : (w : World) (l : Ledger) (a : Outside) (clock : Option (List ℕ)) (u v : HostView) (hops next : HopsView) (engine : Engine) (agent mid : Sessions) (early : List Begun) (fs : List Delivery) (s : Story) (tells : Bool) (now : ℕ) (o : OpenSession) (r : Report)
    → TellsCrashes u → Stays u v → unpolled agent ≡ Some o → tells ≡ true → ForAgreed engine (λ w l. now ≡ l.now) → PollsNext tells u now hops next (next_polled agent) (Some r) agent mid
    → IsServing w l a (record { clock = clock; hops = hops }) u engine agent early [] fs s → EndsPoll w l a clock u v hops next engine agent early fs s o r
ends_poll w l a clock u v hops next engine agent mid early fs s tells now o r lawful stays first t says was_polled h =
    let one = polled_over tells u now hops next agent mid o r first was_polled in
    record {
      lawful = lawful;
      stays = stays;
      first = first;
      report = subst (λ n. IsReportOf true u n o r hops next) (now_is w l a (record { clock = clock; hops = hops }) u engine agent early [] fs s now says h) (subst (λ b. IsReportOf b u now o r hops next) t one.0);
      serving = h;
    }

-- or goes on
pub served_on : (w : World) (l : Ledger) (a : Outside) (clock : Option (List ℕ)) (u v : HostView) (hops next : HopsView) (early : List Begun) (fs : List Delivery) (s : Story) (served : Served) (agent new : Sessions) (tells : Bool) (now : ℕ) (o : OpenSession)
    → TellsCrashes u → Stays u v → unpolled agent ≡ Some o → tells ≡ true → PollsNext tells u now hops next (next_polled agent) None agent new
    → length early ≡ served.known → Sweeps (idle served.busy) s → IsServing w l a (record { clock = clock; hops = hops }) u served.engine agent early [] fs s
    → ServedOn w l a (record { clock = clock; hops = next }) u v served new [] s
served_on w l a clock u v hops next early fs s served agent new tells now o lawful stays first t was_polled known sweeps h =
    let one = polled_on tells u now hops next agent new o first was_polled in
    served_same w l a clock u v hops next early fs s served agent new now o one.0 lawful stays first (subst (λ b. IsWorking b u now o one.0) t one.1) one.2 one.3 known sweeps h

-- whatever host and hops tell
pub polls_on : (number : ℕ) (tells : Bool) (u : HostView) (now : ℕ) (hops next : HopsView) (agent new : Sessions) (o : OpenSession) → unpolled agent ≡ Some o → PollsNext tells u now hops next (next_polled agent) None agent new → IsPolling agent number → IsPolling new number
polls_on number tells u now hops next agent new o first was_polled h =
    let one = polled_on tells u now hops next agent new o first was_polled in
    subst (λ (n : Sessions). IsPolling n number) (sym one.2) (polling_on agent number o one.0 first one.1.same.number (still_waits tells u now o.work (one.0).work one.1.work) h)

pub polls_less : (number : ℕ) (tells : Bool) (u : HostView) (now : ℕ) (hops next : HopsView) (agent new : Sessions) (o : OpenSession) (r : Report) → unpolled agent ≡ Some o → PollsNext tells u now hops next (next_polled agent) (Some r) agent new → IsPolling agent number → IsPolling new number
polls_less number tells u now hops next agent new o r first was_polled h =
    let one = polled_over tells u now hops next agent new o r first was_polled in
    subst (λ (n : Sessions). IsPolling n number) (sym one.1) (polling_less agent number o first h)

pub keeps_same : (busy : Bool) (known : ℕ) (tells : Bool) (u : HostView) (now : ℕ) (hops next : HopsView) (agent new : Sessions) (o : OpenSession) → unpolled agent ≡ Some o → PollsNext tells u now hops next (next_polled agent) None agent new → KeepsSame busy busy known known agent new
keeps_same busy known tells u now hops next agent new o first was_polled =
    let one = polled_on tells u now hops next agent new o first was_polled in
    subst (λ (n : Sessions). KeepsSame busy busy known known agent n) (sym one.2) (same_on busy known agent one.0)

pub reply_fits : (tells : Bool) (u : HostView) (now : ℕ) (hops next : HopsView) (agent new : Sessions) (o : OpenSession) (r : Report) → unpolled agent ≡ Some o → PollsNext tells u now hops next (next_polled agent) (Some r) agent new → fits_state r.site r.outcomes ≡ true
reply_fits tells u now hops next agent new o r first was_polled =
    let one = polled_over tells u now hops next agent new o r first was_polled in
    counts_fit r.site o.recipients r.outcomes one.0.counts

-- and logs can hold the codes of its outcomes
pub reply_codes : (tells : Bool) (u : HostView) (now : ℕ) (hops next : HopsView) (agent new : Sessions) (o : OpenSession) (r : Report) → unpolled agent ≡ Some o → PollsNext tells u now hops next (next_polled agent) (Some r) agent new → list_all has_log_code r.outcomes ≡ true
reply_codes tells u now hops next agent new o r first was_polled =
    let one = polled_over tells u now hops next agent new o r first was_polled in
    codes_logged r.outcomes one.0.codes

-- where the engine's record says that a delivery ended, nothing is asked of sessions
pub busy_keeps : (was busy : Bool) (known last : ℕ) (old new : Sessions) → busy ≡ true → KeepsSame was busy known last old new
busy_keeps was busy known last old new is idle = let bad : true ≡ false = sym is ∙ idle in cc
