-- A drain goes on to the next moment of its clock.
use native.Mathlib.Omega.{arith}
use Rattle.std.proofs.Common.{◌≡◌, ◌≤◌, ◌+◌, inl, inr, ℕ, List, [], ◌∷◌, ◌++◌, length, length-append, map, refl, sym, ap, ◌∙◌, subst}
use Rattle.std.proofs.lemmas.List.{append-nil}
use Rattle.std.specs.List.{AllByRecursion}
use Rattle.q_agent.specs.Sessions.{OpenSession}
use Rattle.q_drain.proofs.Adding.{begun_added, ended_added, moment_added}
use Rattle.q_drain.proofs.Closing.{all_later, some_later}
use Rattle.q_drain.proofs.Continuing.{IsTurn, open_turn}
use Rattle.q_drain.proofs.CuttingOff.{failed_longer}
use Rattle.q_laws.proofs.Deciding.{decisions_are}
use Rattle.q_drain.proofs.Ending.{all_begun}
use Rattle.q_drain.proofs.Flying.{at_flights}
use Rattle.q_drain.proofs.Numbering.{entry_starts}
use Rattle.q_drain.proofs.Polling.{retold}
use Rattle.q_drain.proofs.Replying.{each_behind_map, longer, none_added, with_more}
use Rattle.q_drain.proofs.Silent.{decisions_inside, no_replies, same_moment}
use Rattle.q_drain.proofs.Turning.{at_entries, connected_turn, with_moment}
use Rattle.q_drain.specs.AllTold.{AllTold, IsTold}
use Rattle.q_drain.specs.Cases.{Case}
use Rattle.q_drain.specs.Causes.{IsDelivery, IsPatient}
use Rattle.q_drain.specs.Driving.{AreOpen, Driving, FewCutOff, HasCases, IsOnCourse}
use Rattle.q_drain.specs.Stories.{Story}
use Rattle.q_drain.specs.Told.{Begun, begun_from, ended}
use Rattle.q_drain.specs.Works.{IsSessionOf, Pairs}
use Rattle.q_laws.specs.Consistency.{IsConsistent}
use Rattle.q_laws.specs.Traces.{IsEntryOf}
use Rattle.q_link.specs.Views.{Told}
use Rattle.q_model.specs.declared.entry.Entry.{Entry}
use Rattle.q_model.specs.declared.entry.Entry.TheVariants as entries
use Rattle.q_model.specs.declared.rows.Delivery.{Delivery}
use Rattle.q_model.specs.Book.{Book}
use Rattle.q_model.specs.Ledger.{Ledger}
use Rattle.q_model.specs.Past.{starts}
use Rattle.q_model.specs.Run.{decisions}
use Rattle.q_model.specs.Settings.{World}
use Rattle.q_model.specs.Step.{after, after_all}

-- ---- cases

-- the same was told and recorded
pub all_same : (w : World) (l : Ledger) (s k : Story) (cs : List Case) → k.told ≡ s.told → k.records ≡ s.records → AllTold w l s cs → AllTold w l k cs
all_same w l s k cs told records a = record {
  replies = ap ended told ∙ a.replies;
  records = records ∙ a.records;
  places = each_behind_map (IsTold w l s) (IsTold w l k)
      (λ earlier c h. let p = h.place in record {
        place = record { told = told ∙ p.told; replies = p.replies; next = p.next; number = p.number; begins = p.begins; message = p.message; moment = p.moment };
        told = h.told;
      })
      [] cs a.places;
}

pub few_longer : (es : List Entry) (cs : List Case) (fs : List Delivery) (os : List OpenSession) (old new : ℕ) → FewCutOff cs fs os old new → FewCutOff (map (longer es) cs) fs os old new
few_longer es cs fs os old new (inl h) = let same = failed_longer es cs in inl (omega (arith, h, same))
few_longer es cs fs os old new (inr h) = inr h

-- a turn without a reply is told
pub cases_longer : (w : World) (l : Ledger) (s r : Story) (cs : List Case) (es : List Entry) → r.told ≡ s.told ++ es → r.records ≡ s.records → ended es ≡ [] → AllTold w l s cs → AllTold w l r (map (longer es) cs)
cases_longer w l s r cs es told records none a = all_same w l (with_more s es []) r (map (longer es) cs) told (records ∙ sym (append-nil s.records)) (none_added w l s cs es a none)

-- ---- a moment that is told

pub open_before : (w : World) (l : Ledger) (s : Story) (Tells : Begun → Told → Type 0) (early : List Begun) (fs : List Delivery) (os : List OpenSession) → AreOpen w l s Tells early [] fs os → (after_all w l s.told).flights ≡ fs
open_before w l s Tells early fs os h = h.flights ∙ append-nil fs

-- what begins behind an event
abbrev pub begun_behind : World → Ledger → Story → Entry → ℕ → List Begun
begun_behind w l s e m = begun_from m (decisions w (after w (after_all w l s.told) e))

none_ended : (told : List Entry) (es : List Entry) → ended es ≡ [] → ended (told ++ es) ≡ ended told
none_ended told es none = ended_added told es ∙ ap (λ xs. ended told ++ xs) none ∙ append-nil (ended told)

pub drives_at : (w : World) (l : Ledger) (Tells : Begun → Told → Type 0) (early : List Begun) (fs : List Delivery) (os : List OpenSession) (s : Story) (t : ℕ)
    → Driving w l Tells early [] fs os s
    → IsOnCourse w l (with_moment w l s t)
    → IsConsistent w (after_all w l s.told)
    → IsEntryOf w (after_all w l s.told) (entries.At t)
    → Driving w l Tells early (begun_behind w l s (entries.At t) t) fs os (with_moment w l s t)
drives_at w l Tells early fs os s t d course c entry =
    let k : Ledger = after_all w l s.told in
    let e : Entry = entries.At t in
    let ds : List Entry = decisions w (after w k e) in
    let r : Story = with_moment w l s t in
    let inside = decisions_inside w (after w k e) in
    let turn : IsTurn w k e ds = (entry, decisions_are w (after w k e)) in
    let quiet : ended (e ∷ ds) ≡ [] = no_replies ds inside in
    let same = ap length (none_ended s.told (e ∷ ds) quiet) in
    let all = all_begun s early [] d.connected in
    let one : starts (after w k e) ≡ starts k + 0 = entry_starts w k t e refl in
    let before = d.course.starts in
    let counted = d.opened.counted in
    record {
      course = course;
      connected = connected_turn w (after w k e) s r early t ds d.connected refl refl
          (begun_added 0 s.told (e ∷ ds)) (moment_added 0 s.told (e ∷ ds) ∙ same_moment t ds inside) turn.1 inside (omega (arith, one, before, all));
      opened = open_turn w l s r Tells early fs os t e ds refl c turn
          (at_flights w k t ∙ open_before w l s Tells early fs os d.opened)
          d.opened.sessions d.opened.rises d.opened.below (omega (arith, counted, same));
    }

pub cases_at : (w : World) (l : Ledger) (connects old new : ℕ) (fs : List Delivery) (os : List OpenSession) (s : Story) (t : ℕ) → HasCases w l connects old new fs os s → HasCases w l connects old new fs os (with_moment w l s t)
cases_at w l connects old new fs os s t d =
    let es : List Entry = at_entries w (after_all w l s.told) t in
    let some = length-append s.moments (t ∷ []) in
    record {
      cases = map (longer es) d.cases;
      all = cases_longer w l s (with_moment w l s t) d.cases es refl refl (no_replies (decisions w (after w (after_all w l s.told) (entries.At t))) (decisions_inside w (after w (after_all w l s.told) (entries.At t)))) d.all;
      each = all_later s (with_moment w l s t) connects es (omega (arith, some)) d.cases d.each;
      failed = few_longer es d.cases fs os old new d.failed;
    }

-- ---- a moment that isn't told

pub delivery_same : (s k : Story) (connects : ℕ) (c : Case) → length s.moments ≤ length k.moments → IsDelivery s connects c → IsDelivery k connects c
delivery_same s k connects c later d = record {
  reply = d.reply;
  cause = d.cause;
  sent = d.sent;
  link = d.link;
  patient = some_later (IsPatient s) (IsPatient k) (λ r h. let moments = h.moments in record { rests = h.rests; moments = omega (arith, moments, later) }) c.link d.patient;
}

pub each_same : (s k : Story) (connects : ℕ) (cs : List Case) → length s.moments ≤ length k.moments → AllByRecursion (IsDelivery s connects) cs → AllByRecursion (IsDelivery k connects) cs
each_same s k connects [] later h = tt
each_same s k connects (c ∷ cs) later h = (delivery_same s k connects c later h.0, each_same s k connects cs later h.1)

pub drives_later : (w : World) (l : Ledger) (Tells : Begun → Told → Type 0) (early waiting : List Begun) (fs : List Delivery) (os : List OpenSession) (s : Story) (t : ℕ)
    → Driving w l Tells early waiting fs os s
    → IsOnCourse w l (record s { moments = s.moments ++ t ∷ [] })
    → Driving w l Tells early waiting fs os (record s { moments = s.moments ++ t ∷ [] })
drives_later w l Tells early waiting fs os s t d course =
    let c = d.connected in
    let o = d.opened in
    record {
      course = course;
      connected = record { begins = c.begins; numbers = c.numbers; current = c.current; connects = c.connects; hops = c.hops };
      opened = record { flights = o.flights; sessions = o.sessions; rises = o.rises; below = o.below; counted = o.counted };
    }

-- what was told and recorded stays
pub cases_same : (w : World) (l : Ledger) (connects old new : ℕ) (fs : List Delivery) (os : List OpenSession) (s k : Story) → k.told ≡ s.told → k.records ≡ s.records → length s.moments ≤ length k.moments
    → HasCases w l connects old new fs os s → HasCases w l connects old new fs os k
cases_same w l connects old new fs os s k told records later d = record {
  cases = d.cases;
  all = all_same w l s k d.cases told records d.all;
  each = each_same s k connects d.cases later d.each;
  failed = d.failed;
}

-- ---- what the links tell

pairs_retold : (book : Book) (told : List Entry) (P Q : Begun → Told → Type 0) (R : OpenSession → Type 0) → ((o : OpenSession) (start : Begun) (t : Told) → R o → start.number ≡ o.number → 1 ≤ start.number → P start t → Q start t)
    → (fs : List Delivery) (os : List OpenSession) → AllByRecursion R os → Pairs (IsSessionOf book told P) fs os → Pairs (IsSessionOf book told Q) fs os
pairs_retold book told P Q R change [] [] each h = tt
pairs_retold book told P Q R change [] (o ∷ os) each h = absurd h
pairs_retold book told P Q R change (f ∷ fs) [] each h = absurd h
pairs_retold book told P Q R change (f ∷ fs) (o ∷ os) each h = (
  retold book told P Q f o (λ start t is p. change o start t each.0 (is ∙ sym h.0.number) (subst (λ n. 1 ≤ n) (sym is) h.0.positive) p) h.0,
  pairs_retold book told P Q R change fs os each.1 h.1,
)

-- Of sessions of which this holds, each link that told the one tells the other.
pub drives_retold : (w : World) (l : Ledger) (P Q : Begun → Told → Type 0) (R : OpenSession → Type 0) (early waiting : List Begun) (fs : List Delivery) (os : List OpenSession) (s : Story)
    → ((o : OpenSession) (start : Begun) (t : Told) → R o → start.number ≡ o.number → 1 ≤ start.number → P start t → Q start t)
    → AllByRecursion R os → Driving w l P early waiting fs os s → Driving w l Q early waiting fs os s
drives_retold w l P Q R early waiting fs os s change each d =
    let o = d.opened in
    record {
      course = d.course;
      connected = d.connected;
      opened = record {
        flights = o.flights;
        sessions = pairs_retold (after_all w l s.told).book s.told P Q R change fs os each o.sessions;
        rises = o.rises;
        below = o.below;
        counted = o.counted;
      };
    }
