-- A session is over, and its reply is told in part, or not at all.
use native.Mathlib.Omega.{arith}
use Rattle.q_drain.proofs.Rooming.{room_more}
use Rattle.q_drain.specs.Rooms.{HadRoom}
use Rattle.std.proofs.Common.{◌≡◌, ℕ, List, [], ◌∷◌, ◌++◌, length, map, Option, Some, refl, sym, ap, ◌∙◌, subst, le_refl, append-nil}
use Rattle.std.specs.Option.{is_some}
use Rattle.q_agent.specs.Sessions.{OpenSession, Rises, without}
use Rattle.q_agent.specs.NextPoll.{IsReportOf}
use Rattle.q_agent.specs.declared.report.Report.{Report}
use Rattle.q_drain.proofs.Closing.{all_later, delivery_behind}
use Rattle.q_drain.proofs.Cutting.{cut_turn, front_replies}
use Rattle.q_drain.proofs.CuttingOff.{IsPair, cut_without}
use Rattle.q_drain.proofs.Ending.{all_connected, few_failed}
use Rattle.q_drain.proofs.Recorded.{has_record}
use Rattle.q_drain.proofs.Replying.{all_cases, case_added, longer, untold_case, with_more}
use Rattle.q_drain.proofs.Reports.{case_of, each_more, fails_cut, few_ended}
use Rattle.q_drain.proofs.Silent.{decisions_inside, no_replies}
use Rattle.q_drain.proofs.Turning.{course_reply, reply_entries, clocked_reply}
use Rattle.q_drain.specs.AllTold.{IsTold}
use Rattle.q_drain.specs.Cases.{AreCases, Case, IsPlace, records_of, replies_of}
use Rattle.q_drain.specs.Causes.{IsDelivery}
use Rattle.q_drain.specs.Drains.{Delivers}
use Rattle.q_drain.specs.Driving.{HasCases}
use Rattle.q_drain.specs.Flights.{without_flight}
use Rattle.q_drain.specs.Opened.{GaveUp}
use Rattle.q_drain.specs.Standing.{IsUnderWay, Outside, counts_of}
use Rattle.q_drain.specs.Stories.{Story}
use Rattle.q_drain.specs.Told.{Begun, begun, ended_of, moment_after, moments_of}
use Rattle.q_drain.specs.Sweeps.{AllConnected, IsClocked, rising}
use Rattle.q_drain.specs.Works.{IsLinkOf, IsSessionOf, Pairs}
use Rattle.q_engine.specs.declared.engine.Engine.{Engine}
use Rattle.q_host.specs.View.{View as HostView}
use Rattle.q_link.specs.Records.{Closed, HopsView}
use Rattle.q_link.specs.Views.{Told}
use Rattle.q_model.specs.declared.entry.Entry.{Entry}
use Rattle.q_model.specs.declared.entry.Entry.TheVariants as entries
use Rattle.q_model.specs.declared.outcome.Outcome.{Outcome}
use Rattle.q_model.specs.declared.outcome.SiteState.{SiteState}
use Rattle.q_model.specs.declared.rows.Delivery.{Delivery}
use Rattle.q_model.specs.Book.{message_of}
use Rattle.q_model.specs.Ledger.{Ledger}
use Rattle.q_model.specs.Run.{decisions}
use Rattle.q_model.specs.Settings.{World}
use Rattle.q_model.specs.Step.{after, after_all}
use Rattle.std.specs.Prelude.{find, nat_lt, true}

-- ---- the cases

module _ (w : World) (l : Ledger) (connects first last : ℕ) (Tells : Begun → Told → Type 0) (fs : List Delivery) (os : List OpenSession) (s : Story) (f : Delivery) (o : OpenSession) (site : SiteState) (outcomes : List Outcome) (link : Option Closed)
    (h : IsSessionOf (after_all w l s.told).book s.told Tells f o) (pair : IsPair f o fs os) (pairs : Pairs (IsSessionOf (after_all w l s.told).book s.told Tells) fs os) (rises : Rises (map (λ (x : OpenSession). x.number) os))
    (linked : is_some link ≡ is_some o.work) (is : IsDelivery s connects (case_of w l s h.start h.message o.number site outcomes link)) (d : HasCases w l connects first last fs os s) where
  abbrev k : Ledger
  k = after_all w l s.told

  -- the case, where this was told behind it
  abbrev part : List Entry → Case
  part done = record (case_of w l s h.start h.message o.number site outcomes link) { behind = done }

  -- the story with it
  abbrev parted : List Entry → Story
  parted done = record s { told = s.told ++ done; records = s.records ++ records_of (part done ∷ []) }

  delivers : (done : List Entry) → AreCases w l (parted done) (map (longer done) d.cases ++ part done ∷ []) → Delivers w l connects first last (parted done)
  delivers done are =
      let c : Case = part done in
      record {
        cases = map (longer done) d.cases ++ c ∷ [];
        are = are;
        each = each_more (IsDelivery (parted done) connects) (map (longer done) d.cases) c (all_later s (parted done) connects done (le_refl (length s.moments)) d.cases d.each)
            (delivery_behind s (parted done) connects (case_of w l s h.start h.message o.number site outcomes link) done (le_refl (length s.moments)) is);
        failed = few_failed (map (longer done) d.cases ++ c ∷ []) (without_flight o.number fs) (without o.number os) first last
            (few_ended d.cases c f o done fs (without_flight o.number fs) os (without o.number os) first last
            (cut_without (IsSessionOf k.book s.told Tells) (λ g x p. p.number) f o fs os rises pairs pair) (fails_cut c f o linked h.is) d.failed);
      }

  number : o.number ≡ h.start.number
  number = h.number ∙ ap (λ (g : Delivery). g.number) h.is

  message : message_of k.book h.start.id ≡ Some h.message
  message = subst (λ (g : Delivery). message_of k.book g.row.id ≡ Some h.message) h.is h.stands

  pub cases_part : (done rest : List Entry) → reply_entries w k o.number site outcomes ≡ done ++ rest → Delivers w l connects first last (parted done)
  cases_part [] rest parts =
      let place : IsPlace w l (with_more s [] (records_of (part [] ∷ []))) (replies_of d.cases) (part []) = record {
        told = refl;
        replies = d.all.replies;
        next = tt;
        number = number;
        begins = h.begins;
        message = message;
        moment = refl;
      } in
      delivers [] (untold_case w l s d.cases (part []) d.all place)
  cases_part (e ∷ es) rest parts =
      let ds : List Entry = decisions w (after w k (entries.Reply o.number site outcomes)) in
      let line : entries.Reply o.number site outcomes ≡ e = cc in
      let behind : ds ≡ es ++ rest = cc in
      let c : Case = part (e ∷ es) in
      let reply : ended_of e ≡ c.reply ∷ [] = ap ended_of (sym line) in
      let place : IsTold w l (with_more s (e ∷ es) (records_of (c ∷ []))) (replies_of d.cases) c = record {
        place = record {
          told = refl;
          replies = d.all.replies;
          next = reply;
          number = number;
          begins = h.begins;
          message = message;
          moment = refl;
        };
        told = λ none. cc;
      } in
      delivers (e ∷ es) (all_cases w l (parted (e ∷ es)) (map (longer (e ∷ es)) d.cases ++ c ∷ [])
      (case_added w l s d.cases e es c d.all reply (front_replies ds es rest behind (no_replies ds (decisions_inside w (after w k (entries.Reply o.number site outcomes))))) place))

-- ---- the story

-- what is left of a session whose link was closed, where this much of its reply's turn was told
pub record GonePart (w : World) (l : Ledger) (a z : Outside) (s : Story) (done : List Entry) : Type 0 where
  pub story : Story
  pub told : story.told ≡ s.told ++ done
  pub moments : story.moments ≡ s.moments
  pub connects : story.connects ≡ s.connects
  pub hops : story.hops ≡ s.hops
  pub gave_up : GaveUp w l a z story

pub gone_part : (w : World) (l : Ledger) (a z : Outside) (v : HostView) (hops : HopsView) (engine : Engine) (early : List Begun) (fs : List Delivery) (os : List OpenSession) (s : Story) (polled : ℕ) (o : OpenSession) (r : Report) (done rest : List Entry)
    → IsUnderWay w l a z v (IsLinkOf (counts_of a s polled)) engine early [] fs os s
    → find (λ (q : OpenSession). nat_lt polled q.number) os ≡ Some o
    → IsReportOf true v (moment_after 0 s.told) o r z.hops hops
    → hops.connect_faults ≡ z.hops.connect_faults
    → reply_entries w (after_all w l s.told) o.number r.site r.outcomes ≡ done ++ rest
    → HadRoom w (after_all w l s.told) done
    → GonePart w l a (record { clock = z.clock; hops = hops }) s done
gone_part w l a z v hops engine early fs os s polled o r done rest h first report faults parts room =
    let t = has_record w l a z v hops engine early fs os s polled o r h first report in
    let d = h.driving in
    let es : List Entry = reply_entries w (after_all w l s.told) o.number r.site r.outcomes in
    let p : Story = record s { told = s.told ++ done; records = s.records ++ t.recorded } in
    record {
      story = p;
      told = refl;
      moments = refl;
      connects = refl;
      hops = refl;
      gave_up = record {
        given = h.given;
        cut = cut_turn s p early es done rest parts (clocked_reply w l s o.number r.site r.outcomes d.course.clocked) refl refl refl d.connected;
        room = room_more w l s.told done d.course.room room;
        records = λ now told.
            let c = t.tells now told in (
              c.before,
              c.told,
              record { connects = c.did.connects; hops = c.did.hops; rests = c.did.rests; records = c.did.records },
              subst (λ (n : ℕ). Delivers w l c.before.connects a.hops.connect_faults n p) (sym faults)
                  (subst (λ (rs : List Closed). Delivers w l c.before.connects a.hops.connect_faults z.hops.connect_faults (record s { told = s.told ++ done; records = s.records ++ rs })) (sym c.is)
                  (cases_part w l c.before.connects a.hops.connect_faults z.hops.connect_faults (IsLinkOf (counts_of a s polled)) fs os s t.flies o r.site r.outcomes c.link t.session t.pair d.opened.sessions d.opened.rises c.linked c.delivery c.cases done rest parts)),
            );
      };
    }

-- where nothing of it was, all else holds as before
pub gone_clocked : (w : World) (l : Ledger) (a z : Outside) (v : HostView) (Tells : Begun → Told → Type 0) (engine : Engine) (early : List Begun) (fs : List Delivery) (os : List OpenSession) (s : Story) (y : Outside) → IsUnderWay w l a z v Tells engine early [] fs os s
    → (g : GonePart w l a y s []) → IsClocked g.story × AllConnected g.story × (g.story.told ≡ s.told)
gone_clocked w l a z v Tells engine early fs os s y h g =
    let same : g.story.told ≡ s.told = g.told ∙ append-nil s.told in
    let c = all_connected s early h.driving.connected in
    let begins = ap (λ (es : List Entry). length (begun es)) same in
    let connects = c.connects in
    let made = g.connects in (
      ap moments_of same ∙ h.driving.course.clocked ∙ ap rising (sym g.moments),
      record { connects = omega (arith, made, connects, begins); hops = g.hops ∙ c.hops ∙ ap (λ (es : List Entry). map (λ (b : Begun). b.site.hop) (begun es)) (sym same) },
      same,
    )
