-- The sessions of a sweep through polls, rests and the next moment.
use Rattle.std.proofs.Common.{◌≡◌, ◌≤◌, ◌<◌, ◌+◌, ℕ, Bool, true, false, if◌then◌else◌, List, [], ◌∷◌, find, map, Option, Some, None, refl, sym, ap, ◌∙◌, subst, ltb-true, le_refl, eq-eqb}
use Rattle.std.proofs.lemmas.Bool.{le-leb, lt-leb, ltb-false, ne_eqb}
use Rattle.q_laws.proofs.Members.{find_in}
use native.Mathlib.Omega.{arith}
use Rattle.std.proofs.lemmas.Option.{same_Some}
use Rattle.std.specs.List.{AllByRecursion}
use Rattle.std.specs.Prelude.{◌==◌, IfSome, nat_le, nat_lt}
use Rattle.q_agent.specs.Requests.{active_spot}
use Rattle.q_agent.specs.Sessions.{OpenSession, Rises, Work, replaced}
use Rattle.q_agent.specs.NextPoll.{GoesOn, IsPolled, IsWorking}
use Rattle.q_drain.proofs.Waiting.{waits_between, waits_moment, waits_poll, waits_rest}
use Rattle.q_drain.specs.Told.{Begun}
use Rattle.q_drain.specs.Waits.{Waits}
use Rattle.q_drain.specs.Works.{Counts, IsLinkBetween, IsLinkOf, IsSessionOf, IsWorkOf, Pairs, mail_of}
use Rattle.q_host.specs.View.{View as HostView}
use Rattle.q_link.specs.Views.{Told}
use Rattle.q_model.specs.declared.entry.Entry.{Entry}
use Rattle.q_model.specs.declared.rows.Delivery.{Delivery}
use Rattle.q_model.specs.Book.{Book, message_of}
use Rattle.q_model.specs.Message.{Message}
use Rattle.q_session.specs.Mails.{StandsAt}
use Rattle.q_session.specs.declared.polled.Polled.TheVariants.{Working}

-- ---- what links tell

pub some_work : (P Q : Work → Type 0) → ((w : Work) → P w → Q w) → (o : Option Work) → IfSome o P → IfSome o Q
some_work P Q f None h = tt
some_work P Q f (Some w) h = f w h

-- where each link tells this, it tells that
pub retold : (book : Book) (told : List Entry) (P Q : Begun → Told → Type 0) (f : Delivery) (o : OpenSession) → ((start : Begun) (t : Told) → start.number ≡ f.number → P start t → Q start t) → IsSessionOf book told P f o → IsSessionOf book told Q f o
retold book told P Q f o change h = record {
  number = h.number;
  positive = h.positive;
  recipients = h.recipients;
  start = h.start;
  is = h.is;
  begins = h.begins;
  message = h.message;
  stands = h.stands;
  work = some_work (IsWorkOf P h.start h.message) (IsWorkOf Q h.start h.message)
      (λ w k. record { spot = k.spot; to = k.to; opened = k.opened; route = k.route; serves = k.serves; link = λ t is. change h.start t (ap (λ (g : Delivery). g.number) (sym h.is)) (k.link t is) })
      o.work h.work;
}

pub same_flag : (n k : Counts) (start : Begun) (t : Told) → k.rests ≡ n.rests → k.moments ≡ n.moments → nat_le start.number k.polled ≡ nat_le start.number n.polled → IsLinkOf n start t → IsLinkOf k start t
same_flag n k start t rests moments flag h = record {
  hop = h.hop;
  waits = subst (λ r. Waits r k.moments t.rests_before t.not_yets (nat_le start.number k.polled)) (sym rests)
      (subst (λ m. Waits n.rests m t.rests_before t.not_yets (nat_le start.number k.polled)) (sym moments)
      (subst (Waits n.rests n.moments t.rests_before t.not_yets) (sym flag) h.waits));
}

-- ---- sweeps

-- a sweep is over
pub link_between : (n : Counts) (start : Begun) (t : Told) → IsLinkOf n start t → IsLinkBetween n.rests n.moments start t
link_between n start t h = record { hop = h.hop; waits = waits_between n.rests n.moments t.rests_before t.not_yets (nat_le start.number n.polled) h.waits }

-- it polled all sessions, and a rest was given
pub link_rest : (n : Counts) (start : Begun) (t : Told) → nat_le start.number n.polled ≡ true → IsLinkOf n start t → IsLinkBetween (n.rests + 1) n.moments start t
link_rest n start t flag h = record { hop = h.hop; waits = waits_rest n.rests n.moments t.rests_before t.not_yets (subst (Waits n.rests n.moments t.rests_before t.not_yets) flag h.waits) }

none_polled : (number : ℕ) → 1 ≤ number → nat_le number 0 ≡ false
none_polled number h = lt-leb number 0 (omega (arith, h))

-- the clock gave the moment of the next sweep
pub link_moment : (rests moments : ℕ) (start : Begun) (t : Told) → 1 ≤ start.number → IsLinkBetween rests moments start t → IsLinkOf (record { rests = rests; moments = moments + 1; polled = 0 }) start t
link_moment rests moments start t positive h = record { hop = h.hop; waits = subst (Waits rests (moments + 1) t.rests_before t.not_yets) (sym (none_polled start.number positive)) (waits_moment rests moments t.rests_before t.not_yets h.waits) }

-- ---- a poll

-- a session that goes on
work_polled : (n : Counts) (host : HostView) (now : ℕ) (start : Begun) (m : Message) (w v : Work) → IsWorkOf (IsLinkOf n) start m w → nat_le start.number n.polled ≡ false
    → StandsAt true host (active_spot start.id) (mail_of m) → IsPolled true host now Working w v → IsWorkOf (IsLinkOf (record n { polled = start.number })) start m v
work_polled n host now start m w v k flag file p =
    let there : StandsAt true host w.session.content.spot (mail_of m) = subst (λ spot. StandsAt true host spot (mail_of m)) (sym k.spot) file in
    record {
      spot = p.keeps.spot ∙ k.spot;
      to = p.keeps.to ∙ k.to;
      opened = p.keeps.opened ∙ k.opened;
      route = k.route;
      serves = (p.comes (mail_of m) there k.serves).0;
      link = λ t is.
          let a = p.passes.2 t is in
          let before : Told = a.0 in
          let first : IsLinkOf n start before = k.link before a.1 in
          let waits : Waits n.rests n.moments before.rests_before (before.not_yets + 1) true = waits_poll n.rests n.moments before.rests_before before.not_yets (subst (Waits n.rests n.moments before.rests_before before.not_yets) flag first.waits) in
          record {
            hop = (a.2).hop ∙ first.hop;
            waits = subst (λ x. Waits n.rests n.moments x t.not_yets (nat_le start.number start.number)) (sym (a.2).rests_before)
                (subst (λ x. Waits n.rests n.moments before.rests_before x (nat_le start.number start.number)) (sym (a.2).not_yets)
                (subst (Waits n.rests n.moments before.rests_before (before.not_yets + 1)) (sym (le-leb start.number start.number (le_refl start.number))) waits));
          };
    }

goes_on : (n : Counts) (host : HostView) (now : ℕ) (start : Begun) (m : Message) (o p : Option Work) → IfSome o (IsWorkOf (IsLinkOf n) start m) → nat_le start.number n.polled ≡ false
    → StandsAt true host (active_spot start.id) (mail_of m) → GoesOn true host now o p → IfSome p (IsWorkOf (IsLinkOf (record n { polled = start.number })) start m)
goes_on n host now start m (Some w) (Some v) k flag file h = work_polled n host now start m w v k flag file h
goes_on n host now start m None p k flag file h = absurd h
goes_on n host now start m (Some w) None k flag file h = absurd h

-- the delivery's message stands at its file
abbrev pub HasItsFile : HostView → Book → Delivery → Type 0
HasItsFile host book f = (m : Message) → message_of book f.row.id ≡ Some m → StandsAt true host (active_spot f.row.id) (mail_of m)

session_polled : (book : Book) (told : List Entry) (n : Counts) (host : HostView) (now : ℕ) (f : Delivery) (o p : OpenSession) → IsSessionOf book told (IsLinkOf n) f o → nat_le o.number n.polled ≡ false
    → HasItsFile host book f → IsWorking true host now o p → IsSessionOf book told (IsLinkOf (record n { polled = o.number })) f p
session_polled book told n host now f o p h flag file w =
    let start : h.start.number ≡ o.number = ap (λ (g : Delivery). g.number) (sym h.is) ∙ sym h.number in
    let there : StandsAt true host (active_spot h.start.id) (mail_of h.message) = subst (λ (g : Delivery). StandsAt true host (active_spot g.row.id) (mail_of h.message)) h.is (file h.message h.stands) in
    let unpolled : nat_le h.start.number n.polled ≡ false = ap (λ x. nat_le x n.polled) start ∙ flag in
    record {
      number = w.same.number ∙ h.number;
      positive = h.positive;
      recipients = w.same.recipients ∙ h.recipients;
      start = h.start;
      is = h.is;
      begins = h.begins;
      message = h.message;
      stands = h.stands;
      work = subst (λ x. IfSome p.work (IsWorkOf (IsLinkOf (record n { polled = x })) h.start h.message)) start (goes_on n host now h.start h.message o.work p.work h.work unpolled there w.work);
    }

-- one that isn't the one polled: where its number is on the same side of both
other_polled : (book : Book) (told : List Entry) (n : Counts) (polled : ℕ) (f : Delivery) (o : OpenSession) → nat_le o.number polled ≡ nat_le o.number n.polled → IsSessionOf book told (IsLinkOf n) f o → IsSessionOf book told (IsLinkOf (record n { polled = polled })) f o
other_polled book told n polled f o flag h =
    retold book told (IsLinkOf n) (IsLinkOf (record n { polled = polled })) f o
    (λ start t is. same_flag n (record n { polled = polled }) start t refl refl (ap (λ x. nat_le x polled) (is ∙ sym h.number) ∙ flag ∙ ap (λ x. nat_le x n.polled) (sym (is ∙ sym h.number)))) h

-- those behind it
behind_polled : (book : Book) (told : List Entry) (n : Counts) (p : OpenSession) (fs : List Delivery) (os : List OpenSession) → n.polled < p.number → AllByRecursion (λ k. p.number < k) (map (λ (o : OpenSession). o.number) os)
    → Pairs (IsSessionOf book told (IsLinkOf n)) fs os → Pairs (IsSessionOf book told (IsLinkOf (record n { polled = p.number }))) fs (replaced p os)
behind_polled book told n p [] [] late above h = tt
behind_polled book told n p [] (o ∷ os) late above h = absurd h
behind_polled book told n p (f ∷ fs) [] late above h = absurd h
behind_polled book told n p (f ∷ fs) (o ∷ os) late above h =
    let more = above.0 in
    let other : (o.number == p.number) ≡ false = ne_eqb o.number p.number (λ e. omega (arith, more, e)) in
    let flag : nat_le o.number p.number ≡ nat_le o.number n.polled = lt-leb o.number p.number more ∙ sym (lt-leb o.number n.polled (omega (arith, more, late))) in (
      subst (λ (b : Bool). IsSessionOf book told (IsLinkOf (record n { polled = p.number })) f (if b then p else o)) (sym other) (other_polled book told n p.number f o flag h.0),
      behind_polled book told n p fs os late above.1 h.1,
    )

-- it stands before all others that weren't polled
first_polled : (book : Book) (told : List Entry) (n : Counts) (host : HostView) (now : ℕ) (f : Delivery) (fs : List Delivery) (q : OpenSession) (os : List OpenSession) (p : OpenSession)
    → AllByRecursion (λ k. q.number < k) (map (λ (o : OpenSession). o.number) os) → nat_lt n.polled q.number ≡ true → HasItsFile host book f → IsWorking true host now q p
    → Pairs (IsSessionOf book told (IsLinkOf n)) (f ∷ fs) (q ∷ os) → Pairs (IsSessionOf book told (IsLinkOf (record n { polled = q.number }))) (f ∷ fs) (replaced p (q ∷ os))
first_polled book told n host now f fs q os p above is file w h =
    let late : n.polled < q.number = ltb-true n.polled q.number is in
    let number : p.number ≡ q.number = w.same.number in
    let tail : Pairs (IsSessionOf book told (IsLinkOf (record n { polled = p.number }))) fs (replaced p os) =
    behind_polled book told n p fs os (omega (arith, late, number)) (subst (λ x. AllByRecursion (λ k. x < k) (map (λ (o : OpenSession). o.number) os)) (sym number) above) h.1 in (
      subst (λ (b : Bool). IsSessionOf book told (IsLinkOf (record n { polled = q.number })) f (if b then p else q)) (sym (eq-eqb q.number p.number (sym number)))
          (session_polled book told n host now f q p h.0 (lt-leb q.number n.polled late) file w),
      subst (λ x. Pairs (IsSessionOf book told (IsLinkOf (record n { polled = x }))) fs (replaced p os)) number tail,
    )

-- or behind one that was
next_polled : (book : Book) (told : List Entry) (n : Counts) (f : Delivery) (fs : List Delivery) (q : OpenSession) (os : List OpenSession) (o p : OpenSession)
    → nat_lt n.polled q.number ≡ false → n.polled < o.number → p.number ≡ o.number → IsSessionOf book told (IsLinkOf n) f q
    → Pairs (IsSessionOf book told (IsLinkOf (record n { polled = o.number }))) fs (replaced p os) → Pairs (IsSessionOf book told (IsLinkOf (record n { polled = o.number }))) (f ∷ fs) (replaced p (q ∷ os))
next_polled book told n f fs q os o p is late number h rest =
    let low : q.number ≤ n.polled = ltb-false n.polled q.number is in
    let other : (q.number == p.number) ≡ false = ne_eqb q.number p.number (λ e. omega (arith, low, late, number, e)) in
    let flag : nat_le q.number o.number ≡ nat_le q.number n.polled = le-leb q.number o.number (omega (arith, low, late)) ∙ sym (le-leb q.number n.polled low) in
    (subst (λ (b : Bool). IsSessionOf book told (IsLinkOf (record n { polled = o.number })) f (if b then p else q)) (sym other) (other_polled book told n o.number f q flag h), rest)

either_polled : (book : Book) (told : List Entry) (n : Counts) (host : HostView) (now : ℕ) (f : Delivery) (fs : List Delivery) (q : OpenSession) (os : List OpenSession) (o p : OpenSession) (b : Bool) (found : Option OpenSession)
    → nat_lt n.polled q.number ≡ b → (if b then Some q else found) ≡ Some o → n.polled < o.number
    → AllByRecursion (λ k. q.number < k) (map (λ (x : OpenSession). x.number) os) → HasItsFile host book f → IsWorking true host now o p
    → Pairs (IsSessionOf book told (IsLinkOf n)) (f ∷ fs) (q ∷ os)
    → (found ≡ Some o → Pairs (IsSessionOf book told (IsLinkOf (record n { polled = o.number }))) fs (replaced p os))
    → Pairs (IsSessionOf book told (IsLinkOf (record n { polled = o.number }))) (f ∷ fs) (replaced p (q ∷ os))
either_polled book told n host now f fs q os o p true found is first late above file w h rest =
    let same : q ≡ o = same_Some q o first in
    subst (λ (x : OpenSession). Pairs (IsSessionOf book told (IsLinkOf (record n { polled = x.number }))) (f ∷ fs) (replaced p (q ∷ os))) same
    (first_polled book told n host now f fs q os p above is file (subst (λ (x : OpenSession). IsWorking true host now x p) (sym same) w) h)
either_polled book told n host now f fs q os o p false found is first late above file w h rest = next_polled book told n f fs q os o p is late w.same.number h.0 (rest first)

-- the first that wasn't polled in this sweep was polled, and goes on
pub pairs_polled : (book : Book) (told : List Entry) (n : Counts) (host : HostView) (now : ℕ) (fs : List Delivery) (os : List OpenSession) (o p : OpenSession) → Rises (map (λ (q : OpenSession). q.number) os)
    → find (λ (q : OpenSession). nat_lt n.polled q.number) os ≡ Some o → AllByRecursion (HasItsFile host book) fs → IsWorking true host now o p
    → Pairs (IsSessionOf book told (IsLinkOf n)) fs os → Pairs (IsSessionOf book told (IsLinkOf (record n { polled = o.number }))) fs (replaced p os)
pairs_polled book told n host now [] [] o p rises first files w h = tt
pairs_polled book told n host now [] (q ∷ os) o p rises first files w h = absurd h
pairs_polled book told n host now (f ∷ fs) [] o p rises first files w h = absurd h
pairs_polled book told n host now (f ∷ fs) (q ∷ os) o p rises first files w h =
    let late : n.polled < o.number = ltb-true n.polled o.number (find_in (λ (x : OpenSession). nat_lt n.polled x.number) o (q ∷ os) first).1 in
    either_polled book told n host now f fs q os o p (nat_lt n.polled q.number) (find (λ (x : OpenSession). nat_lt n.polled x.number) os) refl first late rises.0 files.0 w h
    (λ found. pairs_polled book told n host now fs os o p rises.1 found files.1 w h.1)
