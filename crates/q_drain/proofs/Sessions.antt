-- A drain opens a session, polls one that goes on, and gives a rest.
use native.Mathlib.Omega.{arith}
use Rattle.std.proofs.Common.{◌≡◌, ◌≤◌, ◌<◌, ◌+◌, ◌⊎◌, inl, inr, ℕ, Bool, true, false, if◌then◌else◌, List, [], ◌∷◌, ◌++◌, find, length, length-append, map, Option, Some, None, refl, sym, ap, ◌∙◌, subst, eqb-true, le_refl}
use Rattle.std.proofs.lemmas.List.{length-map}
use Rattle.std.specs.List.{AllByRecursion}
use Rattle.std.specs.Option.{is_some}
use Rattle.std.specs.Prelude.{◌&&◌, ◌==◌, IfSome, nat_lt, not}
use Rattle.q_agent.specs.Requests.{BeginsWork}
use Rattle.q_agent.specs.Rests.{IsRestedSession, RestsOne, RestsWork}
use Rattle.q_agent.specs.Sessions.{OpenSession, Rises, Sessions, Work, inserted, replaced}
use Rattle.q_agent.specs.NextPoll.{IsWorking}
use Rattle.q_books.specs.HostStands.{HostStands}
use Rattle.q_drain.proofs.CuttingOff.{cut_more, cut_replaced, same_cut, still_linked}
use Rattle.q_drain.proofs.Moments.{all_same, each_same}
use Rattle.q_drain.proofs.Connecting.{connected_more, inserted_last, open_more}
use Rattle.q_drain.proofs.Polling.{HasItsFile, pairs_polled}
use Rattle.q_drain.proofs.Starting.{has_file}
use Rattle.q_drain.specs.Cases.{Case}
use Rattle.q_drain.specs.Driving.{AreOpen, Driving, FewCutOff, HasCases, cut_off, is_cut_off}
use Rattle.q_drain.specs.Flights.{flight}
use Rattle.q_drain.specs.Stories.{Story, with_request}
use Rattle.q_drain.specs.Told.{Begun}
use Rattle.q_drain.specs.Works.{Counts, IsLinkOf, IsSessionOf, IsWorkOf, Pairs}
use Rattle.q_host.specs.View.{View as HostView}
use Rattle.q_laws.proofs.Members.{IsIn, in_left}
use Rattle.q_laws.specs.Consistency.{IsConsistent}
use Rattle.q_link.specs.Reads.{Rose}
use Rattle.q_link.specs.Records.{HopsView}
use Rattle.q_link.specs.Routes.{has_route}
use Rattle.q_link.specs.Views.{Told}
use Rattle.q_model.specs.declared.entry.Entry.{Entry}
use Rattle.q_model.specs.declared.rows.Delivery.{Delivery}
use Rattle.q_model.specs.Book.{Book}
use Rattle.q_model.specs.Ledger.{Ledger}
use Rattle.q_model.specs.Message.{Message}
use Rattle.q_model.specs.Settings.{World}
use Rattle.q_model.specs.Step.{after_all}
use Rattle.q_model.specs.Values.{Spot}

-- ---- a request

-- the first delivery that waits has its session
pub drives_request : (w : World) (l : Ledger) (Tells : Begun → Told → Type 0) (early : List Begun) (fs : List Delivery) (os : List OpenSession) (s : Story) (b : Begun) (rest : List Begun) (o : OpenSession)
    → Driving w l Tells early (b ∷ rest) fs os s → IsSessionOf (after_all w l s.told).book s.told Tells (flight b) o → Driving w l Tells (early ++ b ∷ []) rest (fs ++ flight b ∷ []) (inserted o os) (with_request s b.site.hop)
drives_request w l Tells early fs os s b rest o d is =
    let course = d.course in
    record {
      course = record { run = course.run; room = course.room; clocked = course.clocked; now = course.now; starts = course.starts };
      connected = connected_more s early b rest d.connected;
      opened = open_more w l s Tells early b rest fs os o d.connected d.opened is;
    }

abbrev by_route : Bool → Bool → ℕ
by_route linked route = if not linked && route then 1 else 0

-- one that is cut off is counted
pub cut_rose : (host : HostView) (f : Delivery) (o : OpenSession) (spot : Spot) (positions : List ℕ) (now : ℕ) (old new : HopsView) (work : Option Work) → o.work ≡ work
    → BeginsWork true host spot f.row.site.hop positions now old new work → (is_cut_off f o ≡ 0) ⊎ ((is_cut_off f o ≡ 1) × Rose old.connect_faults new.connect_faults)
cut_rose host f o spot positions now old new (Some w) is h = inl (ap (λ (x : Option Work). by_route (is_some x) (has_route f.row.site.hop)) is)
cut_rose host f o spot positions now old new None is (inl none) = inl (ap (λ (x : Option Work). by_route (is_some x) (has_route f.row.site.hop)) is ∙ ap (by_route false) none)
cut_rose host f o spot positions now old new None is (inr (inl rose)) = on (has_route f.row.site.hop) (ap (λ (x : Option Work). by_route (is_some x) (has_route f.row.site.hop)) is)
  where
    on : (b : Bool) → is_cut_off f o ≡ by_route false b → (is_cut_off f o ≡ 0) ⊎ ((is_cut_off f o ≡ 1) × Rose old.connect_faults new.connect_faults)
    on true e = inr (e, rose)
    on false e = inl e
cut_rose host f o spot positions now old new None is (inr (inr silent)) = absurd (silent refl)

few_more_cut : (cs : List Case) (fs gs : List Delivery) (os ps : List OpenSession) (f : Delivery) (o : OpenSession) (first old new : ℕ)
    → cut_off gs ps ≡ cut_off fs os + is_cut_off f o → old ≤ new → (is_cut_off f o ≡ 0) ⊎ ((is_cut_off f o ≡ 1) × Rose old new) → FewCutOff cs fs os first old → FewCutOff cs gs ps first new
few_more_cut cs fs gs os ps f o first old new sum later (inl none) (inl h) = inl (omega (arith, sum, later, none, h))
few_more_cut cs fs gs os ps f o first old new sum later (inr (one, inl rose)) (inl h) = inl (omega (arith, sum, later, one, rose, h))
few_more_cut cs fs gs os ps f o first old new sum later (inr (one, inr last)) (inl h) = inr last
few_more_cut cs fs gs os ps f o first old new sum later rose (inr h) = inr (omega (arith, later, h))

pub cases_request : (w : World) (l : Ledger) (connects first old new : ℕ) (Tells : Begun → Told → Type 0) (early : List Begun) (fs : List Delivery) (os : List OpenSession) (s : Story) (b : Begun) (rest : List Begun) (o : OpenSession)
    → Driving w l Tells early (b ∷ rest) fs os s → IsSessionOf (after_all w l s.told).book s.told Tells (flight b) o
    → old ≤ new → (is_cut_off (flight b) o ≡ 0) ⊎ ((is_cut_off (flight b) o ≡ 1) × Rose old new)
    → HasCases w l connects first old fs os s → HasCases w l connects first new (fs ++ flight b ∷ []) (inserted o os) (with_request s b.site.hop)
cases_request w l connects first old new Tells early fs os s b rest o d is later rose h =
    let number : o.number ≡ length early + 1 = is.number ∙ d.connected.numbers.0 in
    let last : inserted o os ≡ os ++ o ∷ [] = inserted_last (length early) o os number d.opened.below in
    let sum = ap (cut_off (fs ++ flight b ∷ [])) last ∙ cut_more (IsSessionOf (after_all w l s.told).book s.told Tells) fs os (flight b) o d.opened.sessions in
    record {
      cases = h.cases;
      all = all_same w l s (with_request s b.site.hop) h.cases refl refl h.all;
      each = each_same s (with_request s b.site.hop) connects h.cases (le_refl (length s.moments)) h.each;
      failed = few_more_cut h.cases fs (fs ++ flight b ∷ []) os (inserted o os) (flight b) o first old new sum later rose h.failed;
    }

-- ---- a poll

-- all deliveries of the open sessions have their files
files_there : (w : World) (l : Ledger) (v : HostView) (fs : List Delivery) → IsConsistent w l → HostStands v l.book → ((f : Delivery) → IsIn f fs → IsIn f l.flights) → AllByRecursion (HasItsFile v l.book) fs
files_there w l v [] c h within = tt
files_there w l v (f ∷ fs) c h within = (has_file w l v f c h (within f (inl refl)), files_there w l v fs c h (λ g k. within g (inr k)))

pub open_files : (w : World) (l : Ledger) (v : HostView) (s : Story) (Tells : Begun → Told → Type 0) (early waiting : List Begun) (fs : List Delivery) (os : List OpenSession) → IsConsistent w (after_all w l s.told) → HostStands v (after_all w l s.told).book
    → AreOpen w l s Tells early waiting fs os → AllByRecursion (HasItsFile v (after_all w l s.told).book) fs
open_files w l v s Tells early waiting fs os c h a = files_there w (after_all w l s.told) v fs c h (λ f k. subst (IsIn f) (sym a.flights) (in_left f fs (map flight waiting) k))

-- who is replaced has the number
pub replaced_numbers : (p : OpenSession) (os : List OpenSession) → map (λ (x : OpenSession). x.number) (replaced p os) ≡ map (λ (x : OpenSession). x.number) os
replaced_numbers p [] = refl
replaced_numbers p (x ∷ os) = ap (λ (n : ℕ). n ∷ map (λ (y : OpenSession). y.number) (replaced p os)) (one (x.number == p.number) refl) ∙ ap (λ (ns : List ℕ). x.number ∷ ns) (replaced_numbers p os)
  where
    one : (b : Bool) → x.number == p.number ≡ b → (if b then p else x).number ≡ x.number
    one true e = sym (eqb-true x.number p.number e)
    one false e = refl

-- numbers that are below, by the list of them
below_by : (n : ℕ) (os : List OpenSession) → AllByRecursion (λ k. k ≤ n) (map (λ (x : OpenSession). x.number) os) → AllByRecursion (λ (o : OpenSession). o.number ≤ n) os
below_by n [] h = tt
below_by n (o ∷ os) h = (h.0, below_by n os h.1)

by_below : (n : ℕ) (os : List OpenSession) → AllByRecursion (λ (o : OpenSession). o.number ≤ n) os → AllByRecursion (λ k. k ≤ n) (map (λ (x : OpenSession). x.number) os)
by_below n [] h = tt
by_below n (o ∷ os) h = (h.0, by_below n os h.1)

-- sessions of the same numbers are below the same
pub still_below : (n : ℕ) (os ps : List OpenSession) → map (λ (x : OpenSession). x.number) ps ≡ map (λ (x : OpenSession). x.number) os → AllByRecursion (λ (o : OpenSession). o.number ≤ n) os → AllByRecursion (λ (o : OpenSession). o.number ≤ n) ps
still_below n os ps same h = below_by n ps (subst (λ ns. AllByRecursion (λ k. k ≤ n) ns) (sym same) (by_below n os h))

pub in_above : (n : ℕ) (o : OpenSession) (os : List OpenSession) → AllByRecursion (λ k. n < k) (map (λ (x : OpenSession). x.number) os) → IsIn o os → n < o.number
in_above n o [] above h = absurd h
in_above n o (x ∷ os) above (inl is) = subst (λ (y : OpenSession). n < y.number) is above.0
in_above n o (x ∷ os) above (inr h) = in_above n o os above.1 h

none_else : (n : ℕ) (os : List OpenSession) (P : OpenSession → Type 0) → AllByRecursion (λ k. n < k) (map (λ (x : OpenSession). x.number) os) → AllByRecursion (λ (x : OpenSession). x.number ≡ n → P x) os
none_else n [] P above = tt
none_else n (x ∷ os) P above = (λ is. let more = above.0 in absurd (omega (arith, more, is)), none_else n os P above.1)

-- a number is that of one session alone
pub alone : (o : OpenSession) (os : List OpenSession) (P : OpenSession → Type 0) → Rises (map (λ (x : OpenSession). x.number) os) → IsIn o os → P o → AllByRecursion (λ (x : OpenSession). x.number ≡ o.number → P x) os
alone o [] P rises h p = absurd h
alone o (x ∷ os) P rises (inl is) p = (λ same. subst P (sym is) p, none_else o.number os P (subst (λ (y : OpenSession). AllByRecursion (λ k. y.number < k) (map (λ (z : OpenSession). z.number) os)) is rises.0))
alone o (x ∷ os) P rises (inr h) p = (λ same. let less = in_above x.number o os rises.0 h in absurd (omega (arith, less, same)), alone o os P rises.1 h p)

-- the first session that this sweep hasn't polled was polled, and goes on
pub drives_polled : (w : World) (l : Ledger) (n : Counts) (early waiting : List Begun) (fs : List Delivery) (os : List OpenSession) (s : Story) (host : HostView) (now : ℕ) (o p : OpenSession)
    → Driving w l (IsLinkOf n) early waiting fs os s → IsConsistent w (after_all w l s.told) → HostStands host (after_all w l s.told).book
    → find (λ (q : OpenSession). nat_lt n.polled q.number) os ≡ Some o → IsWorking true host now o p
    → Driving w l (IsLinkOf (record n { polled = o.number })) early waiting fs (replaced p os) s
drives_polled w l n early waiting fs os s host now o p d c stands first works =
    let a = d.opened in
    let same = replaced_numbers p os in
    let files = open_files w l host s (IsLinkOf n) early waiting fs os c stands a in
    let counted = a.counted in
    let count = length-map os (λ (x : OpenSession). if x.number == p.number then p else x) in
    record {
      course = d.course;
      connected = d.connected;
      opened = record {
        flights = a.flights;
        sessions = pairs_polled (after_all w l s.told).book s.told n host now fs os o p a.rises first files works a.sessions;
        rises = subst Rises (sym same) a.rises;
        below = still_below (length early) os (replaced p os) same a.below;
        counted = omega (arith, counted, count);
      };
    }

cut_where : (o p : OpenSession) (os : List OpenSession) → p.number ≡ o.number → AllByRecursion (λ (x : OpenSession). x.number ≡ o.number → is_some p.work ≡ is_some x.work) os → AllByRecursion (λ (x : OpenSession). (x.number == p.number) ≡ true → is_some p.work ≡ is_some x.work) os
cut_where o p [] number h = tt
cut_where o p (x ∷ os) number h = (λ e. h.0 (eqb-true x.number p.number e ∙ number), cut_where o p os number h.1)

few_where : (cs : List Case) (fs : List Delivery) (os ps : List OpenSession) (old new : ℕ) → cut_off fs ps ≡ cut_off fs os → FewCutOff cs fs os old new → FewCutOff cs fs ps old new
few_where cs fs os ps old new same (inl h) = inl (omega (arith, same, h))
few_where cs fs os ps old new same (inr h) = inr h

pub cases_polled : (w : World) (l : Ledger) (connects old new : ℕ) (fs : List Delivery) (os : List OpenSession) (s : Story) (host : HostView) (now : ℕ) (o p : OpenSession)
    → Rises (map (λ (x : OpenSession). x.number) os) → IsIn o os → IsWorking true host now o p → HasCases w l connects old new fs os s → HasCases w l connects old new fs (replaced p os) s
cases_polled w l connects old new fs os s host now o p rises there works h =
    let linked : is_some p.work ≡ is_some o.work = still_linked host now o.work p.work works.work in
    let own = alone o os (λ (x : OpenSession). is_some p.work ≡ is_some x.work) rises there linked in
    let same = cut_replaced p fs os (cut_where o p os works.same.number own) in
    record { cases = h.cases; all = h.all; each = h.each; failed = few_where h.cases fs os (replaced p os) old new same h.failed }

-- ---- a rest

work_rested : (Tells : Begun → Told → Type 0) (start : Begun) (m : Message) (old new : Option Work) → RestsWork old new → IfSome old (IsWorkOf Tells start m) → IfSome new (IsWorkOf Tells start m)
work_rested Tells start m old new r h =
    let k : IsWorkOf Tells start m r.work = subst (λ (x : Option Work). IfSome x (IsWorkOf Tells start m)) r.has h in
    let told = r.link_rested.told in
    subst (λ (x : Option Work). IfSome x (IsWorkOf Tells start m)) (sym r.rest) (record {
      spot = k.spot;
      to = k.to;
      opened = k.opened;
      route = k.route;
      serves = λ t is. k.serves t (sym told ∙ is);
      link = λ t is. k.link t (sym told ∙ is);
    })

session_rested : (book : Book) (told : List Entry) (Tells : Begun → Told → Type 0) (f : Delivery) (o p : OpenSession) → IsRestedSession o p → IsSessionOf book told Tells f o → IsSessionOf book told Tells f p
session_rested book told Tells f o p r h = subst (IsSessionOf book told Tells f) (sym r.rest) (record {
  number = h.number;
  positive = h.positive;
  recipients = h.recipients;
  start = h.start;
  is = h.is;
  begins = h.begins;
  message = h.message;
  stands = h.stands;
  work = work_rested Tells h.start h.message o.work p.work r.work h.work;
})

pairs_rested : (book : Book) (told : List Entry) (Tells : Begun → Told → Type 0) (o p : OpenSession) (behind : List OpenSession) → IsRestedSession o p → (fs : List Delivery) (before : List OpenSession)
    → Pairs (IsSessionOf book told Tells) fs (before ++ o ∷ behind) → Pairs (IsSessionOf book told Tells) fs (before ++ p ∷ behind)
pairs_rested book told Tells o p behind r [] [] h = absurd h
pairs_rested book told Tells o p behind r [] (x ∷ before) h = absurd h
pairs_rested book told Tells o p behind r (f ∷ fs) [] h = (session_rested book told Tells f o p r h.0, h.1)
pairs_rested book told Tells o p behind r (f ∷ fs) (x ∷ before) h = (h.0, pairs_rested book told Tells o p behind r fs before h.1)

rested_numbers : (o p : OpenSession) (before behind : List OpenSession) → IsRestedSession o p → map (λ (x : OpenSession). x.number) (before ++ p ∷ behind) ≡ map (λ (x : OpenSession). x.number) (before ++ o ∷ behind)
rested_numbers o p [] behind r = ap (λ (x : OpenSession). x.number ∷ map (λ (y : OpenSession). y.number) behind) r.rest
rested_numbers o p (x ∷ before) behind r = ap (λ (ns : List ℕ). x.number ∷ ns) (rested_numbers o p before behind r)

rested_length : (o p : OpenSession) (before behind : List OpenSession) → length (before ++ p ∷ behind) ≡ length (before ++ o ∷ behind)
rested_length o p before behind =
    let a = length-append before (p ∷ behind) in
    let b = length-append before (o ∷ behind) in
    omega (arith, a, b)

rested_cut : (o p : OpenSession) (fs : List Delivery) (before behind : List OpenSession) → is_some p.work ≡ is_some o.work → cut_off fs (before ++ p ∷ behind) ≡ cut_off fs (before ++ o ∷ behind)
rested_cut o p [] [] behind h = refl
rested_cut o p [] (x ∷ before) behind h = refl
rested_cut o p (f ∷ fs) [] behind h = ap (λ n. n + cut_off fs behind) (same_cut f o p h)
rested_cut o p (f ∷ fs) (x ∷ before) behind h = ap (λ n. is_cut_off f x + n) (rested_cut o p fs before behind h)

-- one link was given the rest
pub drives_rest : (w : World) (l : Ledger) (Tells : Begun → Told → Type 0) (early waiting : List Begun) (fs : List Delivery) (old new : Sessions) (s : Story) → RestsOne old new → Driving w l Tells early waiting fs old.listed s → Driving w l Tells early waiting fs new.listed (record s { rests = s.rests + 1 })
drives_rest w l Tells early waiting fs old new s r d =
    let a = d.opened in
    let c = d.connected in
    let course = d.course in
    let book : Book = (after_all w l s.told).book in
    let same = rested_numbers r.waited r.rested r.before r.behind r.session in
    let listed : new.listed ≡ r.before ++ r.rested ∷ r.behind = ap (λ (x : Sessions). x.listed) r.rest in
    let numbers : map (λ (x : OpenSession). x.number) new.listed ≡ map (λ (x : OpenSession). x.number) old.listed = ap (map (λ (x : OpenSession). x.number)) listed ∙ same ∙ ap (map (λ (x : OpenSession). x.number)) (sym r.sessions) in
    let count : length new.listed ≡ length old.listed = ap length listed ∙ rested_length r.waited r.rested r.before r.behind ∙ ap length (sym r.sessions) in
    let counted = a.counted in
    record {
      course = record { run = course.run; room = course.room; clocked = course.clocked; now = course.now; starts = course.starts };
      connected = record { begins = c.begins; numbers = c.numbers; current = c.current; connects = c.connects; hops = c.hops };
      opened = record {
        flights = a.flights;
        sessions = subst (λ os. Pairs (IsSessionOf book s.told Tells) fs os) (sym listed)
            (pairs_rested book s.told Tells r.waited r.rested r.behind r.session fs r.before
            (subst (λ os. Pairs (IsSessionOf book s.told Tells) fs os) r.sessions a.sessions));
        rises = subst Rises (sym numbers) a.rises;
        below = still_below (length early) old.listed new.listed numbers a.below;
        counted = omega (arith, counted, count);
      };
    }

still_some : (old new : Option Work) → RestsWork old new → is_some new ≡ is_some old
still_some old new r = ap is_some r.rest ∙ sym (ap is_some r.has)

pub cases_rest : (w : World) (l : Ledger) (connects first last : ℕ) (fs : List Delivery) (old new : Sessions) (s : Story) → RestsOne old new → HasCases w l connects first last fs old.listed s → HasCases w l connects first last fs new.listed (record s { rests = s.rests + 1 })
cases_rest w l connects first last fs old new s r h =
    let k : Story = record s { rests = s.rests + 1 } in
    let cut = ap (cut_off fs) (ap (λ (x : Sessions). x.listed) r.rest) ∙ rested_cut r.waited r.rested fs r.before r.behind (still_some r.waited.work r.rested.work r.session.work) ∙ ap (cut_off fs) (sym r.sessions) in
    record {
      cases = h.cases;
      all = all_same w l s k h.cases refl refl h.all;
      each = each_same s k connects h.cases (le_refl (length s.moments)) h.each;
      failed = few_where h.cases fs old.listed new.listed first last cut h.failed;
    }
