-- A request opens the session of the first delivery that waits for it.
use Rattle.std.proofs.Common.{◌≡◌, ◌≤◌, ◌<◌, ◌+◌, ℕ, Bool, true, false, if◌then◌else◌, List, [], ◌∷◌, ◌++◌, length, length-append, map, Option, Some, None, refl, sym, ap, ◌∙◌, subst, append_assoc, ltb-true}
use native.Mathlib.Omega.{arith}
use Rattle.std.proofs.lemmas.List.{map-append}
use Rattle.std.specs.List.{AllByRecursion}
use Rattle.std.specs.Prelude.{IfSome, nat_le, nat_lt}
use Rattle.q_agent.specs.Sessions.{OpenSession, Rises, Work, inserted}
use Rattle.q_agent.specs.Requests.{BeginsWork, Opens, active_spot}
use Rattle.q_drain.proofs.Pairing.{pairs_more}
use Rattle.q_drain.proofs.Waiting.{waits_first}
use Rattle.q_drain.proofs.Working.{addresses_are}
use Rattle.q_drain.specs.Driving.{AreConnected, AreOpen}
use Rattle.q_drain.specs.Flights.{flight}
use Rattle.q_drain.specs.Waits.{Waits}
use Rattle.q_drain.specs.Works.{Counts, IsLinkOf, IsSessionOf, IsWorkOf, mail_of}
use Rattle.q_host.specs.View.{View as HostView}
use Rattle.q_link.specs.Records.{HopsView, ToldHops}
use Rattle.q_link.specs.Views.{Told}
use Rattle.q_model.specs.declared.entry.Entry.{Entry}
use Rattle.q_model.specs.declared.rows.Delivery.{Delivery}
use Rattle.q_model.specs.Book.{Book, message_of}
use Rattle.q_model.specs.Ledger.{Ledger}
use Rattle.q_model.specs.Message.{Message}
use Rattle.q_model.specs.Settings.{World}
use Rattle.q_model.specs.Step.{after_all}
use Rattle.q_session.specs.Mails.{StandsAt}
use Rattle.q_drain.specs.Flights.{AreNumbered}
use Rattle.q_drain.specs.Stories.{Story, with_request}
use Rattle.q_drain.specs.Told.{Begun, begun}

-- ---- connects

pub connected_more : (s : Story) (early : List Begun) (b : Begun) (waiting : List Begun) → AreConnected s early (b ∷ waiting) → AreConnected (with_request s b.site.hop) (early ++ b ∷ []) waiting
connected_more s early b waiting h =
    let one = length-append early (b ∷ []) in
    let connects = h.connects in
    record {
      begins = h.begins ∙ sym (append_assoc early (b ∷ []) waiting);
      numbers = subst (λ n. AreNumbered n waiting) (sym one) h.numbers.1;
      current = h.current.1;
      connects = omega (arith, connects, one);
      hops = ap (λ (xs : List (List ℕ)). xs ++ b.site.hop ∷ []) h.hops ∙ sym (map-append (λ (x : Begun). x.site.hop) early (b ∷ []));
    }

-- ---- the order of sessions

abbrev pub AreUpTo : ℕ → List OpenSession → Type 0
AreUpTo n os = AllByRecursion (λ (o : OpenSession). o.number ≤ n) os

put_behind : (o p : OpenSession) (ps : List OpenSession) (b : Bool) → nat_lt o.number p.number ≡ b → p.number < o.number → inserted o ps ≡ ps ++ o ∷ [] → (if b then o ∷ p ∷ ps else p ∷ inserted o ps) ≡ p ∷ (ps ++ o ∷ [])
put_behind o p ps true is h rest = let less = ltb-true o.number p.number is in absurd (omega (arith, less, h))
put_behind o p ps false is h rest = ap (λ (os : List OpenSession). p ∷ os) rest

-- one with a greater number stands behind all
pub inserted_last : (n : ℕ) (o : OpenSession) (os : List OpenSession) → o.number ≡ n + 1 → AreUpTo n os → inserted o os ≡ os ++ o ∷ []
inserted_last n o [] is h = refl
inserted_last n o (p ∷ ps) is h = let below = h.0 in put_behind o p ps (nat_lt o.number p.number) refl (omega (arith, below, is)) (inserted_last n o ps is h.1)

pub below_more : (n : ℕ) (o : OpenSession) (os : List OpenSession) → o.number ≡ n + 1 → AreUpTo n os → AreUpTo (n + 1) (os ++ o ∷ [])
below_more n o [] is h = (omega (arith, is), tt)
below_more n o (p ∷ ps) is h = let below = h.0 in (omega (arith, below), below_more n o ps is h.1)

all_below : (m : ℕ) (o : OpenSession) (os : List OpenSession) → m < o.number → AllByRecursion (λ k. m < k) (map (λ (p : OpenSession). p.number) os) → AllByRecursion (λ k. m < k) (map (λ (p : OpenSession). p.number) (os ++ o ∷ []))
all_below m o [] late h = (late, tt)
all_below m o (p ∷ ps) late h = (h.0, all_below m o ps late h.1)

pub rises_more : (n : ℕ) (o : OpenSession) (os : List OpenSession) → o.number ≡ n + 1 → AreUpTo n os → Rises (map (λ (p : OpenSession). p.number) os) → Rises (map (λ (p : OpenSession). p.number) (os ++ o ∷ []))
rises_more n o [] is h r = (tt, tt)
rises_more n o (p ∷ ps) is h r = let below = h.0 in (all_below p.number o ps (omega (arith, below, is)) r.0, rises_more n o ps is h.1 r.1)

-- ---- the session

-- one more session stands for the delivery
pub open_more : (w : World) (l : Ledger) (s : Story) (Tells : Begun → Told → Type 0) (early : List Begun) (b : Begun) (waiting : List Begun) (fs : List Delivery) (os : List OpenSession) (o : OpenSession)
    → AreConnected s early (b ∷ waiting) → AreOpen w l s Tells early (b ∷ waiting) fs os → IsSessionOf (after_all w l s.told).book s.told Tells (flight b) o
    → AreOpen w l (with_request s b.site.hop) Tells (early ++ b ∷ []) waiting (fs ++ flight b ∷ []) (inserted o os)
open_more w l s Tells early b waiting fs os o c h is =
    let one = length-append early (b ∷ []) in
    let more = length-append os (o ∷ []) in
    let counted = h.counted in
    let number : o.number ≡ length early + 1 = is.number ∙ c.numbers.0 in
    let last : inserted o os ≡ os ++ o ∷ [] = inserted_last (length early) o os number h.below in
    let k : AreOpen w l (with_request s b.site.hop) Tells (early ++ b ∷ []) waiting (fs ++ flight b ∷ []) (os ++ o ∷ []) = record {
      flights = h.flights ∙ sym (append_assoc fs (flight b ∷ []) (map flight waiting));
      sessions = pairs_more (IsSessionOf (after_all w l s.told).book s.told Tells) fs os (flight b) o h.sessions is;
      rises = rises_more (length early) o os number h.below h.rises;
      below = subst (λ m. AreUpTo m (os ++ o ∷ [])) (sym one) (below_more (length early) o os number h.below);
      counted = omega (arith, one, more, counted);
    } in
    subst (λ xs. AreOpen w l (with_request s b.site.hop) Tells (early ++ b ∷ []) waiting (fs ++ flight b ∷ []) xs) (sym last) k

-- what a request opens is the session of its delivery
pub record IsReadyFor (host : HostView) (book : Book) (told : List Entry) (n : Counts) (b : Begun) (m : Message) : Type 0 where
  pub begins : (more others : List Begun) × (begun told ≡ more ++ b ∷ others)
  pub stands : message_of book b.id ≡ Some m
  pub file : StandsAt true host (active_spot b.id) (mail_of m)
  pub late : nat_le b.number n.polled ≡ false
  pub some : 1 ≤ n.moments
  pub positive : 1 ≤ b.number

begun_work : (host : HostView) (book : Book) (told : List Entry) (n : Counts) (b : Begun) (m : Message) (old new : HopsView) (o : Option Work) → IsReadyFor host book told n b m
    → ((now : ToldHops) → new.told ≡ Some now → now.rests ≡ n.rests) → BeginsWork true host (active_spot b.id) b.site.hop b.positions b.moment old new o → IfSome o (IsWorkOf (IsLinkOf n) b m)
begun_work host book told n b m old new None r rests h = tt
begun_work host book told n b m old new (Some w) r rests h = record {
  spot = h.session.spot_is;
  to = h.addresses (mail_of m) r.file refl ∙ addresses_are m b.positions;
  opened = h.session.opened_is;
  route = h.route;
  serves = h.serves (mail_of m) r.file;
  link = λ t told.
      let fresh = h.link.told t told in
      record {
        hop = ap (λ (x : Told). x.hop) fresh.2;
        waits =
            let start : Waits n.rests n.moments n.rests 0 false = waits_first n.rests n.moments r.some in
            let before : n.rests ≡ t.rests_before = sym (rests fresh.0 fresh.1) ∙ ap (λ (x : Told). x.rests_before) (sym fresh.2) in
            let none : 0 ≡ t.not_yets = ap (λ (x : Told). x.not_yets) (sym fresh.2) in
            subst (λ y. Waits n.rests n.moments t.rests_before y (nat_le b.number n.polled)) none
            (subst (λ x. Waits n.rests n.moments x 0 (nat_le b.number n.polled)) before
            (subst (λ p. Waits n.rests n.moments n.rests 0 p) (sym r.late) start));
      };
}

pub opened_session : (host : HostView) (book : Book) (told : List Entry) (n : Counts) (b : Begun) (m : Message) (old new : HopsView) (o : OpenSession) → IsReadyFor host book told n b m
    → ((now : ToldHops) → new.told ≡ Some now → now.rests ≡ n.rests) → Opens true host (active_spot b.id) b.number b.site.hop b.positions b.moment old new o → IsSessionOf book told (IsLinkOf n) (flight b) o
opened_session host book told n b m old new o r rests h = record {
  number = h.number_is;
  positive = r.positive;
  recipients = h.recipients;
  start = b;
  is = refl;
  begins = r.begins;
  message = m;
  stands = r.stands;
  work = begun_work host book told n b m old new o.work r rests h.work;
}
