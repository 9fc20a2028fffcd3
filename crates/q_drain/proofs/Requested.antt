-- What a request for the session of the next delivery may ask, and what comes of it.
use native.Mathlib.Omega.{arith}
use Rattle.std.proofs.Common.{◌≡◌, ◌≤◌, ◌<◌, ◌+◌, inl, inr, ℕ, Bool, true, false, if◌then◌else◌, List, [], ◌∷◌, ◌++◌, find, length, length-append, map, not, Option, Some, None, option_map, refl, sym, ap, ◌∙◌, subst, eq-eqb, append-nil, append_assoc, add-zero, le_refl}
use Rattle.std.proofs.lemmas.Bool.{ne_eqb}
use Rattle.std.proofs.lemmas.List.{length-map, map-append}
use Rattle.std.proofs.lemmas.List.Folds.{find-append}
use Rattle.std.proofs.lemmas.Option.{same_Some, slice_get_within}
use Rattle.std.specs.List.{AllByRecursion, list_all}
use Rattle.std.specs.Option.{option_map_or, option_or}
use Rattle.std.specs.Prelude.{◌==◌, ◌||◌, Err, OnErr, Ok, Result, slice_get}
use Rattle.q_books.specs.HostStands.{TellsCrashes}
use Rattle.q_agent.specs.Requests.{IsReadable, Opens, TriesConnect, active_spot}
use Rattle.q_agent.specs.Sessions.{OpenSession, Sessions, has_number, inserted, with_session}
use Rattle.q_drain.proofs.Ending.{all_begun, cases_deliver, drives_cut}
use Rattle.q_drain.proofs.Moments.{cases_same}
use Rattle.q_drain.proofs.Pairing.{HasNumber}
use Rattle.q_drain.proofs.Serving.{looked_under_way, ready, request_under_way}
use Rattle.q_drain.specs.Causes.{FewFailed}
use Rattle.q_drain.specs.Drains.{Delivers}
use Rattle.q_drain.specs.Flights.{flight}
use Rattle.q_drain.specs.Polling.{AreBelow}
use Rattle.q_drain.specs.Opened.{FailsToOpen, GaveUp, IsServing, MayOpen, OpensFirst}
use Rattle.q_drain.specs.Standing.{Outside, counts_of}
use Rattle.q_drain.specs.Stories.{Story, with_request}
use Rattle.q_drain.specs.Told.{Begun}
use Rattle.q_drain.specs.Works.{IsLinkOf, IsSessionOf, Pairs, mail_of}
use Rattle.q_core.specs.Queries.{Flight, flight_shown}
use Rattle.q_engine.specs.Refusals.{ForAgreed}
use Rattle.q_engine.specs.declared.engine.Engine.{Engine}
use Rattle.q_host.specs.Calls.{Stays}
use Rattle.q_host.specs.View.{View as HostView}
use Rattle.q_laws.proofs.Members.{IsIn, all_at, in_left, in_right}
use Rattle.q_laws.proofs.Synced.{found_admitted}
use Rattle.q_laws.specs.Consistency.{IsConsistent, flight_positions, memory_positions, unsettled_positions, waiting_positions}
use Rattle.q_link.specs.Records.{AddsHops, Connects, HopsView, ToldHops, with_connect, with_hop}
use Rattle.q_model.proofs.IdLaws.{id_eq-refl}
use Rattle.q_model.specs.declared.id.Id.{Id}
use Rattle.q_model.specs.declared.rows.Delivery.{Delivery}
use Rattle.q_model.specs.Book.{message_of}
use Rattle.q_model.specs.Deliveries.{flight_of}
use Rattle.q_model.specs.Ids.{id_eq}
use Rattle.q_model.specs.Ledger.{Ledger}
use Rattle.q_model.specs.Marking.{is_unmarked_at}
use Rattle.q_model.specs.Marks.{is_marked}
use Rattle.q_model.specs.Memory.{is_admitted}
use Rattle.q_model.specs.Message.{Message, Recipient}
use Rattle.q_model.specs.Settings.{World}
use Rattle.q_model.specs.Step.{after_all}
use Rattle.q_model.specs.Values.{Site}
use Rattle.q_session.specs.Mails.{Mail, StandsAt}

-- ---- positions

in_flights : (p : ℕ) (f : Delivery) (fs : List Delivery) → IsIn f fs → IsIn p f.row.positions → IsIn p (flight_positions f.row.id fs)
in_flights p f [] h k = absurd h
in_flights p f (g ∷ fs) (inl is) k = in_left p (if id_eq g.row.id f.row.id then g.row.positions else []) (flight_positions f.row.id fs)
    (subst (λ (x : Delivery). IsIn p (if id_eq x.row.id f.row.id then x.row.positions else [])) (sym is) (subst (λ (b : Bool). IsIn p (if b then f.row.positions else [])) (sym (id_eq-refl f.row.id)) k))
in_flights p f (g ∷ fs) (inr h) k = in_right p (if id_eq g.row.id f.row.id then g.row.positions else []) (flight_positions f.row.id fs) (in_flights p f fs h k)

below_by : (m : Message) (p : ℕ) (o : Option Recipient) → slice_get m.recipients p ≡ o → option_map_or (λ (r : Recipient). not (is_marked r.mark)) o false ≡ true → p < length m.recipients
below_by m p None is h = cc
below_by m p (Some r) is h = slice_get_within m.recipients p r is

all_below : (m : Message) (all ps : List ℕ) → list_all (is_unmarked_at m) all ≡ true → ((p : ℕ) → IsIn p ps → IsIn p all) → AllByRecursion (λ p. p < length (mail_of m).addresses) ps
all_below m all [] h within = tt
all_below m all (p ∷ ps) h within = (
  subst (λ n. p < n) (sym (length-map m.recipients (λ (r : Recipient). r.address))) (below_by m p (slice_get m.recipients p) refl (all_at (is_unmarked_at m) p all h (within p (inl refl)))),
  all_below m all ps h (λ q k. within q (inr k)),
)

-- the positions of a delivery in flight are those of recipients
pub flight_readable : (w : World) (k : Ledger) (f : Delivery) (m : Message) → IsConsistent w k → IsIn f k.flights → message_of k.book f.row.id ≡ Some m → IsReadable (mail_of m) f.row.positions
flight_readable w k f m c flies there =
    let found = found_admitted w k f.row.id c (all_at (λ (g : Delivery). is_admitted k g.row.id) f k.flights c.memory.flights flies) in
    let same : (found.0).id ≡ f.row.id = found.2 in
    let remembered = c.memory.remembered found.0 m found.1 (ap (λ (i : Id). message_of k.book i) same ∙ there) in
    all_below m (memory_positions k f.row.id) f.row.positions (subst (λ (i : Id). list_all (is_unmarked_at m) (memory_positions k i) ≡ true) same remembered.unmarked)
    (λ p h. in_left p (waiting_positions f.row.id k.waiting ++ flight_positions f.row.id k.flights) (unsettled_positions f.row.id k.unsettled)
    (in_right p (waiting_positions f.row.id k.waiting) (flight_positions f.row.id k.flights) (in_flights p f k.flights flies h)))

-- ---- the delivery of the number

none_numbered : (P : Delivery → OpenSession → Type 0) → HasNumber P → (number : ℕ) (fs : List Delivery) (os : List OpenSession) → AreBelow number os → Pairs P fs os → find (λ (f : Delivery). f.number == number) fs ≡ None
none_numbered P same number [] [] below h = refl
none_numbered P same number [] (o ∷ os) below h = absurd h
none_numbered P same number (f ∷ fs) [] below h = absurd h
none_numbered P same number (f ∷ fs) (o ∷ os) below h =
    let low = below.0 in
    let is : o.number ≡ f.number = same f o h.0 in
    ap (λ (b : Bool). if b then Some f else find (λ (g : Delivery). g.number == number) fs) (ne_eqb f.number number (λ e. omega (arith, low, is, e)))
    ∙ none_numbered P same number fs os below.1 h.1

-- that of the first that waits
pub first_flight : (w : World) (l : Ledger) (a z : Outside) (v : HostView) (engine : Engine) (agent : Sessions) (early : List Begun) (b : Begun) (rest : List Begun) (fs : List Delivery) (s : Story)
    → AreBelow b.number agent.listed → IsServing w l a z v engine agent early (b ∷ rest) fs s → flight_of (after_all w l s.told) b.number ≡ Some (flight b)
first_flight w l a z v engine agent early b rest fs s below h =
    let d = h.under_way.driving in
    let k : Ledger = after_all w l s.told in
    let n = counts_of a s agent.polled in
    ap (find (λ (f : Delivery). f.number == b.number)) d.opened.flights
    ∙ find-append (λ (f : Delivery). f.number == b.number) fs (map flight (b ∷ rest))
    ∙ ap (λ (o : Option Delivery). option_or o (find (λ (f : Delivery). f.number == b.number) (map flight (b ∷ rest)))) (none_numbered (IsSessionOf k.book s.told (IsLinkOf n)) (λ f o p. p.number) b.number fs agent.listed below d.opened.sessions)
    ∙ ap (λ (x : Bool). if x then Some (flight b) else find (λ (f : Delivery). f.number == b.number) (map flight rest)) (eq-eqb b.number b.number refl)

-- none of these sessions has the number
pub none_has : (number : ℕ) (os : List OpenSession) → AreBelow number os → has_number number os ≡ false
none_has number [] h = refl
none_has number (o ∷ os) h =
    let low = h.0 in
    ap (λ (b : Bool). b || has_number number os) (ne_eqb o.number number (λ e. omega (arith, low, e))) ∙ none_has number os h.1

-- Where none of its number is in flight, it isn't one that waits.
pub opens_never : (engine : Engine) (u x : HostView) (hops_old hops_new : HopsView) (old new : Sessions) (number : ℕ) → AreBelow number old.listed → ForAgreed engine (λ w l. flight_of l number ≡ None) → OpensFirst engine u x hops_old hops_new old new number
opens_never engine u x hops_old hops_new old new number below never w l a clock early waiting fs s b rest waits number_is h =
    let k : Ledger = after_all w l s.told in
    let same : number ≡ b.number = number_is ∙ sym h.under_way.driving.connected.numbers.0 in
    let found : flight_of k number ≡ Some (flight b) = ap (flight_of k) same ∙ first_flight w l a (record { clock = clock; hops = hops_old }) u engine old early b rest fs s (subst (λ n. AreBelow n old.listed) same below) h in
    let none : flight_of k number ≡ None = never w k h.under_way.stands.core h.under_way.stands.counts in
    let bad : Some (flight b) ≡ None = sym found ∙ none in
    absurd cc

pub none_shown : (o : Option Delivery) → option_map flight_shown o ≡ None → o ≡ None
none_shown None h = refl
none_shown (Some f) h = cc

pub none_placed : (o : Option Delivery) → option_map (λ (f : Delivery). f.row.positions) o ≡ None → o ≡ None
none_placed None h = refl
none_placed (Some f) h = cc

-- a delivery is shown
pub some_shown : (o : Option Delivery) (x : Flight) → Some x ≡ option_map flight_shown o → (f : Delivery) × (o ≡ Some f)
some_shown None x h = cc
some_shown (Some f) x h = (f, refl)

-- ---- where it is given up

-- more connects may have failed
more_faults : (w : World) (l : Ledger) (connects old new newer : ℕ) (s : Story) → new ≤ newer → Delivers w l connects old new s → Delivers w l connects old newer s
more_faults w l connects old new newer s more d = record { cases = d.cases; are = d.are; each = d.each; failed = few d.failed }
  where
    few : FewFailed d.cases old new → FewFailed d.cases old newer
    few (inl h) = inl (omega (arith, h, more))
    few (inr h) = inr (omega (arith, h, more))

-- before anything was done
pub gives_up : (w : World) (l : Ledger) (a z : Outside) (v : HostView) (engine : Engine) (agent : Sessions) (early waiting : List Begun) (fs : List Delivery) (s : Story) → IsServing w l a z v engine agent early waiting fs s → GaveUp w l a z s
gives_up w l a z v engine agent early waiting fs s h =
    let u = h.under_way in
    record {
      given = u.given;
      cut = drives_cut w l (IsLinkOf (counts_of a s agent.polled)) early waiting fs agent.listed s u.driving;
      room = u.driving.course.room;
      records = λ now told. let r = u.records now told in (r.before, r.told, r.did, cases_deliver w l r.before.connects a.hops.connect_faults z.hops.connect_faults fs agent.listed s r.cases);
    }

-- ---- what is asked

-- what the engine says of the delivery of a number
pub record Asked (engine : Engine) (number : ℕ) (id : Id) (site : Site) (positions : List ℕ) (now : ℕ) : Type 0 where
  pub flight : ForAgreed engine (λ w l. Some (record { id = id; site = site }) ≡ option_map flight_shown (flight_of l number))
  pub positions_are : ForAgreed engine (λ w l. Some positions ≡ option_map (λ f. f.row.positions) (flight_of l number))
  pub now_is : ForAgreed engine (λ w l. now ≡ l.now)

-- it is the first that waits
pub record IsAskedOf (id : Id) (site : Site) (positions : List ℕ) (now : ℕ) (b : Begun) : Type 0 where
  pub id_is : id ≡ b.id
  pub site_is : site ≡ b.site
  pub positions_are : positions ≡ b.positions
  pub now_is : now ≡ b.moment

pub asks_first : (w : World) (l : Ledger) (a z : Outside) (v : HostView) (engine : Engine) (agent : Sessions) (early : List Begun) (b : Begun) (rest : List Begun) (fs : List Delivery) (s : Story) (number : ℕ) (id : Id) (site : Site) (positions : List ℕ) (now : ℕ)
    → number ≡ length early + 1 → AreBelow number agent.listed → IsServing w l a z v engine agent early (b ∷ rest) fs s → Asked engine number id site positions now → IsAskedOf id site positions now b
asks_first w l a z v engine agent early b rest fs s number id site positions now is below h asked =
    let k : Ledger = after_all w l s.told in
    let u = h.under_way in
    let same : number ≡ b.number = is ∙ sym u.driving.connected.numbers.0 in
    let found : flight_of k number ≡ Some (flight b) = ap (flight_of k) same ∙ first_flight w l a z v engine agent early b rest fs s (subst (λ n. AreBelow n agent.listed) same below) h in
    let shown = same_Some (record { id = id; site = site }) (flight_shown (flight b)) (asked.flight w k u.stands.core u.stands.counts ∙ ap (option_map flight_shown) found) in
    record {
      id_is = ap (λ (f : Flight). f.id) shown;
      site_is = ap (λ (f : Flight). f.site) shown;
      positions_are = same_Some positions b.positions (asked.positions_are w k u.stands.core u.stands.counts ∙ ap (option_map (λ (f : Delivery). f.row.positions)) found);
      now_is = asked.now_is w k u.stands.core u.stands.counts ∙ u.driving.course.now ∙ sym u.driving.connected.current.0;
    }

-- its file is there, and says its recipients
pub asks_there : (clock : Option (List ℕ)) (v : HostView) (hops : HopsView) (engine : Engine) (agent : Sessions) (number : ℕ) (id : Id) (site : Site) (positions : List ℕ) (now : ℕ) (tells : Bool)
    → AreBelow number agent.listed → Asked engine number id site positions now → MayOpen clock v hops engine agent number → (mail : Mail) × StandsAt tells v (active_spot id) mail × IsReadable mail positions
asks_there clock v hops engine agent number id site positions now tells below asked may =
    let w = may.world in
    let l = may.ledger in
    let s = may.story in
    let b = may.begun in
    let h = may.serving in
    let k : Ledger = after_all w l s.told in
    let is : IsAskedOf id site positions now b = asks_first w l may.first (record { clock = clock; hops = hops }) v engine agent may.early b may.rest may.flights s number id site positions now may.number_is below h asked in
    let r = ready w l may.first (record { clock = clock; hops = hops }) v (IsLinkOf (counts_of may.first s agent.polled)) engine may.early b may.rest may.flights agent.listed s agent.polled h.under_way h.polled h.some in
    let flies : IsIn (flight b) k.flights = subst (IsIn (flight b)) (sym h.under_way.driving.opened.flights) (in_right (flight b) may.flights (map flight (b ∷ may.rest)) (inl refl)) in (
      mail_of r.0,
      (λ t. subst (λ i. StandsAt true v (active_spot i) (mail_of r.0)) (sym is.id_is) (r.1).file refl),
      subst (IsReadable (mail_of r.0)) (sym is.positions_are) (flight_readable w k (flight b) r.0 h.under_way.stands.core.consistent flies (r.1).stands),
    )

-- ---- its session is open

-- the first that waited has its session, and nothing else changed
pub opens_first : (engine : Engine) (u x : HostView) (hops_old hops_new : HopsView) (old new : Sessions) (number : ℕ) (id : Id) (site : Site) (positions : List ℕ) (now : ℕ) (o : OpenSession)
    → AreBelow number old.listed → Asked engine number id site positions now → TellsCrashes u → Stays u x → new ≡ with_session o old
    → Opens true u (active_spot id) number site.hop positions now hops_old hops_new o → AddsHops (with_hop site.hop) hops_old hops_new → Connects hops_old hops_new
    → OpensFirst engine u x hops_old hops_new old new number
opens_first engine u x hops_old hops_new old new number id site positions now o below asked lawful stays made opens adds counts w l a clock early waiting fs s b rest waits number_is h =
    let z : Outside = record { clock = clock; hops = hops_old } in
    let y : Outside = record { clock = clock; hops = hops_new } in
    let r : Story = with_request s b.site.hop in
    let is : IsAskedOf id site positions now b = asks_first w l a z u engine old early b rest fs s number id site positions now number_is below h asked in
    let same : number ≡ b.number = number_is ∙ sym h.under_way.driving.connected.numbers.0 in
    let opened : Opens true u (active_spot b.id) b.number b.site.hop b.positions b.moment hops_old hops_new o =
    subst (λ i. Opens true u (active_spot i) b.number b.site.hop b.positions b.moment hops_old hops_new o) is.id_is
    (subst (λ n. Opens true u (active_spot id) n b.site.hop b.positions b.moment hops_old hops_new o) same
    (subst (λ (y : Site). Opens true u (active_spot id) number y.hop b.positions b.moment hops_old hops_new o) is.site_is
    (subst (λ ps. Opens true u (active_spot id) number site.hop ps b.moment hops_old hops_new o) is.positions_are
    (subst (λ t. Opens true u (active_spot id) number site.hop positions t hops_old hops_new o) is.now_is opens)))) in
    let added : AddsHops (with_hop b.site.hop) hops_old hops_new = subst (λ (y : Site). AddsHops (with_hop y.hop) hops_old hops_new) is.site_is adds in
    let all = request_under_way w l a z u engine early b rest fs old.listed s old.polled o hops_new h.under_way h.polled h.some opened added counts in
    let looked = looked_under_way w l a y u (IsLinkOf (counts_of a r old.polled)) engine (early ++ b ∷ []) rest (fs ++ flight b ∷ []) (inserted o old.listed) r x lawful stays all in
    let more = length-append early (b ∷ []) in
    let polled = h.polled in
    subst (λ (n : Sessions). IsServing w l a y x engine n (early ++ b ∷ []) rest (fs ++ flight b ∷ []) r) (sym made)
    (record { under_way = looked; polled = omega (arith, more, polled); some = h.some })

-- ---- it has none

-- nothing was done
pub fails_before : (engine : Engine) (u : HostView) (hops : HopsView) (old : Sessions) (number : ℕ) → FailsToOpen engine u hops hops old number
fails_before engine u hops old number w l a clock early waiting fs s b rest waits number_is h = (s, refl, gives_up w l a (record { clock = clock; hops = hops }) u engine old early (b ∷ rest) fs s h)

-- a connect was made perhaps, and no session
tried : (w : World) (l : Ledger) (a : Outside) (clock : Option (List ℕ)) (u : HostView) (engine : Engine) (hops_old hops_new : HopsView) (old : Sessions) (early : List Begun) (b : Begun) (rest : List Begun) (fs : List Delivery) (s : Story)
    → IsServing w l a (record { clock = clock; hops = hops_old }) u engine old early (b ∷ rest) fs s → Connects hops_old hops_new → (n : ℕ) (more : List (List ℕ)) → n ≤ 1 → length more ≤ n → ((others : List (List ℕ)) × (b.site.hop ∷ [] ≡ more ++ others))
    → AddsHops (λ t. record t { connects = t.connects + n; hops = t.hops ++ more }) hops_old hops_new
    → (t : Story) × (t.told ≡ s.told) × GaveUp w l a (record { clock = clock; hops = hops_new }) t
tried w l a clock u engine hops_old hops_new old early b rest fs s h counts n more one few front adds =
    let z : Outside = record { clock = clock; hops = hops_old } in
    let t : Story = record s { connects = s.connects + n; hops = s.hops ++ more } in
    let g = gives_up w l a z u engine old early (b ∷ rest) fs s h in
    let d = h.under_way.driving in
    let c = d.connected in
    let all = all_begun s early (b ∷ rest) c in
    let made = c.connects in
    let listed = ap length c.hops ∙ length-map early (λ (x : Begun). x.site.hop) in
    let sum = length-append s.hops more in
    let hop : Begun → List ℕ = λ x. x.site.hop in (
      t,
      refl,
      record {
        given = g.given;
        cut = record {
          clocked = g.cut.clocked;
          connected = record {
            connects = omega (arith, all, made, one);
            few = omega (arith, listed, sum, made, few);
            hops = (
              front.0 ++ map hop rest,
              ap (map hop) c.begins ∙ map-append hop early (b ∷ rest)
                  ∙ ap (λ (xs : List (List ℕ)). xs ++ (b.site.hop ∷ map hop rest)) (sym c.hops)
                  ∙ ap (λ (xs : List (List ℕ)). s.hops ++ (xs ++ map hop rest)) front.1
                  ∙ ap (λ (xs : List (List ℕ)). s.hops ++ xs) (append_assoc more front.0 (map hop rest))
                  ∙ sym (append_assoc s.hops more (front.0 ++ map hop rest)),
            );
          };
        };
        room = g.room;
        records = λ now told.
            let x = adds now told in
            let r = h.under_way.records x.0 x.1 in
            let before = r.did.connects in
            let next = ap (λ (y : ToldHops). y.connects) x.2 in
            let cs = cases_same w l r.before.connects a.hops.connect_faults hops_old.connect_faults fs old.listed s t refl refl (le_refl (length s.moments)) r.cases in (
              r.before,
              r.told,
              record {
                connects = omega (arith, before, next);
                hops = ap (λ (y : ToldHops). y.hops) x.2 ∙ ap (λ (xs : List (List ℕ)). xs ++ more) r.did.hops ∙ append_assoc (r.before).hops s.hops more;
                rests = ap (λ (y : ToldHops). y.rests) x.2 ∙ r.did.rests;
                records = ap (λ (y : ToldHops). y.records) x.2 ∙ r.did.records;
              },
              more_faults w l r.before.connects a.hops.connect_faults hops_old.connect_faults hops_new.connect_faults t counts.connect_faults (cases_deliver w l r.before.connects a.hops.connect_faults hops_old.connect_faults fs old.listed t cs),
            );
      },
    )

same_adds : (f g : ToldHops → ToldHops) (old new : HopsView) → ((t : ToldHops) → f t ≡ g t) → AddsHops f old new → AddsHops g old new
same_adds f g old new same h now told = let x = h now told in (x.0, x.1, x.2 ∙ same x.0)

pub fails_tried : (engine : Engine) (u : HostView) (hops_old hops_new : HopsView) (old : Sessions) (number : ℕ) (id : Id) (site : Site) (positions : List ℕ) (now : ℕ) → AreBelow number old.listed → Asked engine number id site positions now
    → Connects hops_old hops_new → TriesConnect site.hop hops_old hops_new → FailsToOpen engine u hops_old hops_new old number
fails_tried engine u hops_old hops_new old number id site positions now below asked counts tries w l a clock early waiting fs s b rest waits number_is h = on tries
  where
    is : IsAskedOf id site positions now b
    is = asks_first w l a (record { clock = clock; hops = hops_old }) u engine old early b rest fs s number id site positions now number_is below h asked

    on : TriesConnect site.hop hops_old hops_new → (t : Story) × (t.told ≡ s.told) × GaveUp w l a (record { clock = clock; hops = hops_new }) t
    on (inl none) = tried w l a clock u engine hops_old hops_new old early b rest fs s h counts 0 [] (omega arith) (omega arith) (b.site.hop ∷ [], refl)
        (same_adds (λ t. t) (λ t. record t { connects = t.connects + 0; hops = t.hops ++ [] }) hops_old hops_new (λ t. ap (λ n. record t { connects = n }) (sym (add-zero t.connects)) ∙ ap (λ xs. record t { connects = t.connects + 0; hops = xs }) (sym (append-nil t.hops))) none)
    on (inr (inl one)) = tried w l a clock u engine hops_old hops_new old early b rest fs s h counts 1 [] (omega arith) (omega arith) (b.site.hop ∷ [], refl)
        (same_adds with_connect (λ t. record t { connects = t.connects + 1; hops = t.hops ++ [] }) hops_old hops_new (λ t. ap (λ xs. record t { connects = t.connects + 1; hops = xs }) (sym (append-nil t.hops))) one)
    on (inr (inr one)) = tried w l a clock u engine hops_old hops_new old early b rest fs s h counts 1 (b.site.hop ∷ []) (omega arith) (omega arith) ([], refl)
        (subst (λ (y : Site). AddsHops (with_hop y.hop) hops_old hops_new) is.site_is one)

-- whatever comes of a call, what holds in any case holds then
pub always_err : {T E : Type 0} (r : Result T E) (P : Type 0) → P → OnErr r P
always_err (Ok x) P p = tt
always_err (Err e) P p = p
