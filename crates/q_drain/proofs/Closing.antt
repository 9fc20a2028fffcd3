-- A session that is over gives its case: what its link's record says is what is told of the delivery.
use Rattle.std.proofs.Common.{◌++◌, ◌≡◌, ◌≤◌, ◌<◌, ◌+◌, ◌-◌, ◌⊎◌, inl, inr, ℕ, Bool, true, false, List, [], ◌∷◌, length, map, Option, Some, None, refl, sym, ap, ◌∙◌, subst}
use native.Mathlib.Omega.{arith}
use Rattle.std.specs.Prelude.{IfSome, nat_le}
use Rattle.std.proofs.lemmas.Option.{same_Some}
use Rattle.q_agent.specs.Sessions.{Work}
use Rattle.q_agent.specs.NextPoll.{Concludes, Counts}
use Rattle.q_drain.proofs.Replying.{longer}
use Rattle.q_drain.proofs.Waiting.{waits_closed}
use Rattle.q_model.specs.declared.entry.Entry.{Entry}
use Rattle.std.specs.List.{AllByRecursion}
use Rattle.q_drain.specs.Cases.{Case, exchange, transaction}
use Rattle.q_drain.specs.Causes.{HasCause, IsDelivery, IsDown, IsLink, IsPatient, IsReply, IsSent}
use Rattle.q_drain.specs.Stories.{Story}
use Rattle.q_drain.specs.Told.{begun}
use Rattle.q_drain.specs.Waits.{Waits}
use Rattle.q_drain.specs.Works.{Counts as Progress, IsLinkOf, IsWorkOf, mail_of}
use Rattle.q_host.specs.View.{View as HostView}
use Rattle.q_link.specs.Reads.{Rose}
use Rattle.q_link.specs.Routes.{has_route}
use Rattle.q_link.specs.Records.{Closed, HopsView, ToldHops, closed, with_record}
use Rattle.q_link.specs.Views.{Told, View}
use Rattle.q_model.specs.declared.outcome.Outcome.{Outcome}
use Rattle.q_model.specs.declared.outcome.SiteState.{SiteState}
use Rattle.q_model.specs.declared.outcome.SiteState.TheVariants.{Down, Up}
use Rattle.q_model.specs.Message.{address_at}
use Rattle.q_session.specs.Mails.{StandsAt, exchange_of}
use Rattle.q_session.specs.Polls.{IsOver, Passes, TakesLeave}
use Rattle.q_session.specs.Steps.{BeginsWith, IsLost}
use Rattle.q_session.specs.declared.delivery.Delivery.{Delivery}
use Rattle.q_session.specs.declared.polled.Polled.TheVariants.{Over}
use Rattle.q_smtp.specs.Codes.{put_off}
use Rattle.q_smtp.specs.Dialogue.{Exchange, Settled, Transaction, dialogue}
use Rattle.q_smtp.specs.Replies.{reply_codes}
use Rattle.q_smtp.specs.WholeDialogues.{Says, whole_codes}
use Rattle.q_smtp.proofs.Endings.{dialogue_ends}
use Rattle.q_smtp.proofs.Wholes.{dialogue_whole}

-- the dialogue of the case is that of the session
same_exchange : (c : Case) (to : List (List ℕ)) (r : Closed) → to ≡ map (address_at c.message) c.start.positions → exchange_of (mail_of c.message) to r.received ≡ exchange c r
same_exchange c to r h = ap (λ (xs : List (List ℕ)). exchange_of (mail_of c.message) xs r.received) h

-- a whole list of codes settles the dialogue
settles : (t : Transaction) (codes : List ℕ) (said : List Outcome) → Says (length t.to) codes said → (dialogue t codes).ending ≡ Settled said
settles t codes said s = ap (λ (cs : List ℕ). (dialogue t cs).ending) s.begins ∙ (dialogue_ends t).whole (whole_codes s.whole) s.more _ (dialogue_whole t s.whole s.form) ∙ ap Settled (sym s.outcomes)

rose_some : (old new : ℕ) → Rose old new → 0 < new
rose_some old new (inl h) = omega (arith, h)
rose_some old new (inr h) = omega (arith, h)

-- why it is down, by the record
by_record : (c : Case) (opened : ℕ) (old new : View) (t : Told) (hops : ToldHops) → opened ≡ c.start.moment
    → (opened + 600 ≤ c.moment) ⊎ IsLost true (exchange c (closed new t hops)) t.sent old new → IsDown c (closed new t hops)
by_record c opened old new t hops is (inl late) = inr (inr (subst (λ n. n + 600 ≤ c.moment) is late))
by_record c opened old new t hops is (inr (inl broken)) = inl broken
by_record c opened old new t hops is (inr (inr (inl (early, inl h)))) = inr (inl (early, inl h))
by_record c opened old new t hops is (inr (inr (inl (early, inr h)))) = inr (inl (early, inr (rose_some old.faults new.faults h)))
by_record c opened old new t hops is (inr (inr (inr h))) = absurd (h refl)

up_down : Up ≡ Down → ⊥
up_down e = cc

-- the delivery is that of the case
record IsCaseOf (c : Case) (d : Delivery) : Type 0 where
  outcomes : d.outcomes ≡ c.reply.outcomes
  opened : d.opened ≡ c.start.moment
  to : d.to ≡ map (address_at c.message) c.start.positions

-- what a session says that is over
record IsSaid (c : Case) (r : Closed) : Type 0 where
  reply : IsReply c
  cause : HasCause c
  sent : IsSent c r

is_said : (site : SiteState) (c : Case) (d : Delivery) (old new : View) (t : Told) (hops : ToldHops) → c.reply.site ≡ site → c.link ≡ Some (closed new t hops) → IsCaseOf c d
    → (site ≡ Down → c.reply.outcomes ≡ put_off (length c.start.positions)) → IsOver true site c.moment (mail_of c.message) d t old new → IsSaid c (closed new t hops)
is_said Up c d old new t hops site link is down h =
    let r : Closed = closed new t hops in
    let same : exchange_of (mail_of c.message) d.to t.received ≡ exchange c r = same_exchange c d.to r is.to in
    let left : TakesLeave (exchange c r) t = subst (λ (x : Exchange). TakesLeave x t) same (h.1 refl) in
    let says : Says (length (transaction c).to) (reply_codes t.received) c.reply.outcomes =
    subst (λ (to : List (List ℕ)). Says (length to) (reply_codes t.received) c.reply.outcomes) is.to (subst (λ (os : List Outcome). Says (length d.to) (reply_codes t.received) os) is.outcomes h.0) in
    record {
      reply = record { up = λ x. (r, link, settles (transaction c) (reply_codes t.received) c.reply.outcomes says); down = λ x. absurd (up_down (sym site ∙ x)) };
      cause = λ x. absurd (up_down (sym site ∙ x));
      sent = record { front = λ x. absurd (up_down (sym site ∙ x)); all = λ x. left };
    }
is_said Down c d old new t hops site link is down h =
    let r : Closed = closed new t hops in
    let same : exchange_of (mail_of c.message) d.to t.received ≡ exchange c r = same_exchange c d.to r is.to in
    let front : BeginsWith (exchange c r).due t.sent = subst (λ (x : Exchange). BeginsWith x.due t.sent) same (h.1 refl) in
    let lost : (d.opened + 600 ≤ c.moment) ⊎ IsLost true (exchange c r) t.sent old new = subst (λ (x : Exchange). (d.opened + 600 ≤ c.moment) ⊎ IsLost true x t.sent old new) same h.0 in
    record {
      reply = record { up = λ x. absurd (up_down (sym x ∙ site)); down = λ x. down refl };
      cause = λ x. subst (λ (o : Option Closed). IfSome o (IsDown c)) (sym link) (by_record c d.opened old new t hops is.opened lost);
      sent = record { front = λ x. front; all = λ x. absurd (up_down (sym x ∙ site)) };
    }

-- how often the link answered `NotYet` in the last poll
few_more : (site : SiteState) (old new : View) (t : Told) → Passes (Over site) old new → new.told ≡ Some t
    → (before : Told) × (old.told ≡ Some before) × (t.hop ≡ before.hop) × (t.rests_before ≡ before.rests_before) × (before.not_yets ≤ t.not_yets) × (t.not_yets ≤ before.not_yets + 1)
few_more Up old new t p told =
    let one = p.1 t told in
    let answered : (t.hop ≡ (one.0).hop) × (t.rests_before ≡ (one.0).rests_before) × ((one.0).not_yets ≤ t.not_yets) × (t.not_yets ≤ (one.0).not_yets + 1) = elim one.2 [
      | inl a ↦ let n = a.not_yets in (a.hop, a.rests_before, omega (arith, n), omega (arith, n))
      | inr a ↦ let n = a.not_yets in (a.hop, a.rests_before, omega (arith, n), omega (arith, n))
    ] in
    (one.0, one.1, answered.0, answered.1, answered.2, answered.3)
few_more Down old new t p told =
    let one = p t told in
    let n = (one.2).not_yets in
    (one.0, one.1, (one.2).hop, (one.2).rests_before, omega (arith, n), omega (arith, n))

-- the record that was added for a session that is over
abbrev pub record_by : {host : HostView} {moment : ℕ} {w : Work} {site : SiteState} {outcomes : List Outcome} {old new : HopsView} → Concludes true host moment w site outcomes old new
    → (now : ToldHops) → new.told ≡ Some now → Closed
record_by k now told = closed k.last.link (k.closes.0 now told).1 (k.closes.0 now told).0

linked : (P : Closed → Type 0) (o : Option Closed) (r : Closed) → o ≡ Some r → P r → IfSome o P
linked P o r is h = subst (λ (x : Option Closed). IfSome x P) (sym is) h

-- The case of a session that is over, where the hops told `cur` before.
pub closes_case : (s : Story) (connects : ℕ) (c : Case) (w : Work) (host : HostView) (old new : HopsView) (cur now : ToldHops) (n : Progress)
    → IsWorkOf (IsLinkOf n) c.start c.message w
    → nat_le c.start.number n.polled ≡ false
    → n.moments ≡ length s.moments
    → cur.rests ≡ n.rests
    → cur.connects ≡ connects + length (begun c.before)
    → old.told ≡ Some cur
    → Counts c.reply.site (length c.start.positions) c.reply.outcomes
    → StandsAt true host w.session.content.spot (mail_of c.message)
    → (k : Concludes true host c.moment w c.reply.site c.reply.outcomes old new)
    → (told : new.told ≡ Some now)
    → c.link ≡ Some (record_by k now told)
    → IsDelivery s connects c × (now ≡ with_record (record_by k now told) cur)
closes_case s connects c w host old new cur now n work unpolled moments rests made was counts stands k told link =
    let a = k.closes.0 now told in
    let before : ToldHops = a.0 in
    let same : before ≡ cur = same_Some before cur (sym a.2 ∙ was) in
    let t : Told = a.1 in
    let r : Closed = record_by k now told in
    let p = few_more c.reply.site w.link k.last.link t k.polled.passes a.3 in
    let first : IsLinkOf n c.start p.0 = work.link p.0 p.1 in
    let over : IsOver true c.reply.site c.moment (mail_of c.message) k.last.session t w.link k.last.link = k.polled.comes (mail_of c.message) stands work.serves t a.3 in
    let is : IsCaseOf c k.last.session = record { outcomes = k.outcomes_are; opened = k.polled.keeps.opened ∙ work.opened; to = k.polled.keeps.to ∙ work.to } in
    let down : c.reply.site ≡ Down → c.reply.outcomes ≡ put_off (length c.start.positions) = λ x. subst (λ (site : SiteState). Counts site (length c.start.positions) c.reply.outcomes) x counts in
    let said : IsSaid c r = is_said c.reply.site c k.last.session w.link k.last.link t before refl link is down over in
    let begun_waits : Waits n.rests n.moments (p.0).rests_before (p.0).not_yets false = subst (λ (b : Bool). Waits n.rests n.moments (p.0).rests_before (p.0).not_yets b) unpolled first.waits in
    let waits : Waits n.rests (length s.moments) (p.0).rests_before (p.0).not_yets false = subst (λ m. Waits n.rests m (p.0).rests_before (p.0).not_yets false) moments begun_waits in
    let rested : r.rests ≡ n.rests - (p.0).rests_before = ap (λ (h : ToldHops). h.rests - t.rests_before) same ∙ ap (λ m. m - t.rests_before) rests ∙ ap (λ m. n.rests - m) p.3 in
    let hop : r.hop ≡ c.start.site.hop = p.2 ∙ first.hop in
    let way : IsLink connects c r = record { hop = hop; route = ap has_route hop ∙ work.route; connects_before = ap (λ (h : ToldHops). h.connects) same ∙ made } in (
      record {
        reply = said.reply;
        cause = said.cause;
        sent = linked (IsSent c) c.link r link said.sent;
        link = linked (IsLink connects c) c.link r link way;
        patient = linked (IsPatient s) c.link r link (waits_closed s r n.rests (p.0).rests_before (p.0).not_yets waits rested p.4 p.5);
      },
      a.4 ∙ ap (λ (h : ToldHops). with_record r h) same,
    )

-- The case of a session that was over since it had no link.
pub unlinked_case : (s : Story) (connects : ℕ) (c : Case) → c.link ≡ None → c.reply.site ≡ Down → Counts c.reply.site (length c.start.positions) c.reply.outcomes → IsDelivery s connects c
unlinked_case s connects c none down counts =
    let no : (P : Closed → Type 0) → IfSome c.link P = λ P. subst (λ (o : Option Closed). IfSome o P) (sym none) tt in
    record {
      reply = record { up = λ x. absurd (up_down (sym x ∙ down)); down = λ x. subst (λ (site : SiteState). Counts site (length c.start.positions) c.reply.outcomes) x counts };
      cause = λ x. no (IsDown c);
      sent = no (IsSent c);
      link = no (IsLink connects c);
      patient = no (IsPatient s);
    }

-- ---- later

pub some_later : (P Q : Closed → Type 0) → ((r : Closed) → P r → Q r) → (o : Option Closed) → IfSome o P → IfSome o Q
some_later P Q f None h = tt
some_later P Q f (Some r) h = f r h

-- a case keeps what holds of it where the clock goes on, whatever is told behind it
pub delivery_behind : (s k : Story) (connects : ℕ) (c : Case) (behind : List Entry) → length s.moments ≤ length k.moments → IsDelivery s connects c → IsDelivery k connects (record c { behind = behind })
delivery_behind s k connects c behind later d =
    let e : Case = record c { behind = behind } in
    record {
      reply = record { up = d.reply.up; down = d.reply.down };
      cause = d.cause;
      sent = some_later (IsSent c) (IsSent e) (λ r h. record { front = h.front; all = h.all }) c.link d.sent;
      link = some_later (IsLink connects c) (IsLink connects e) (λ r h. record { hop = h.hop; route = h.route; connects_before = h.connects_before }) c.link d.link;
      patient = some_later (IsPatient s) (IsPatient k) (λ r h. let moments = h.moments in record { rests = h.rests; moments = omega (arith, moments, later) }) c.link d.patient;
    }

pub all_later : (s k : Story) (connects : ℕ) (es : List Entry) → length s.moments ≤ length k.moments → (cs : List Case) → AllByRecursion (IsDelivery s connects) cs → AllByRecursion (IsDelivery k connects) (map (longer es) cs)
all_later s k connects es later [] h = tt
all_later s k connects es later (c ∷ cs) h = (delivery_behind s k connects c (c.behind ++ es) later h.0, all_later s k connects es later cs h.1)
