-- What a poll does at the slot of the session that is next.
use Rattle.std.proofs.Common.{◌≡◌, ℕ, Bool, List, map, take, drop, slice_get, Option, Some, None, Result, Ok, Err, OnErr, refl, sym, ap, subst, ◌∙◌}
use Rattle.std.specs.List.{AllByRecursion}
use Rattle.std.specs.Prelude.{is_some, remove}
use Rattle.slab.proofs.SlabLemmas.{Updates-with_value}
use Rattle.slab.specs.Slab.{get, Slab, Updates, with_value}
use Rattle.q_host.specs.View.{View as HostView}
use Rattle.q_link.specs.Records.{HopsView}
use Rattle.q_link.specs.Views.{View}
use Rattle.q_model.proofs.EachLaws.{each-unmap}
use Rattle.q_agent.specs.Answers.{IsStanding, PollsNext, Stopped}
use Rattle.q_agent.specs.Places.{IsNext}
use Rattle.q_agent.specs.Polling.{Went}
use Rattle.q_agent.specs.Rests.{RestsOne, RestsWork}
use Rattle.q_agent.specs.Sessions.{IsSound, IsSoundWork, OpenSession, Sessions, Work, next_polled, replaced, without}
use Rattle.q_agent.specs.Slots.{Holds, shown, shown_at, work_of}
use Rattle.q_agent.specs.declared.delivery_session.DeliverySession.{DeliverySession}
use Rattle.q_agent.specs.declared.report.Report.{Report}
use Rattle.q_agent.specs.declared.slot.Slot.{Slot}
use Rattle.q_agent.proofs.Kept.{each_some, next_shown, sound_at, there_at}
use Rattle.q_agent.proofs.SlotLaws.{shown_there}
use Rattle.q_agent.proofs.SlotChanges.{Becomes, changed, gone, shown_at_parts, updates_both}

pub on_err : {T E : Type 0} (r : Result T E) (P : Type 0) → P → OnErr r P
on_err (Ok x) P p = tt
on_err (Err e) P p = p

module _ {L : Type 0} (view : L → View) where
  abbrev sessions_of : Slab (DeliverySession L) → List Slot → ℕ → Sessions
  sessions_of slab slots polled = record { listed = map (shown_at view slab) slots; polled = polled }

  -- the agent holds these sessions, and at this slot stands the one that is next
  pub record AtNext (slab : Slab (DeliverySession L)) (slots : List Slot) (polled : ℕ) (place : ℕ) (e : Slot) (h : DeliverySession L) : Type 0 where
    pub holds : Holds view slab slots
    pub next : IsNext polled slots place e
    pub there : get slab e.key ≡ Some h

  pub at_next : (slab : Slab (DeliverySession L)) (slots ss : List Slot) (polled place : ℕ) (e : Slot) (h : DeliverySession L) → Holds view slab slots → ss ≡ slots → IsNext polled ss place e → Some h ≡ get slab e.key → AtNext slab slots polled place e h
  at_next slab slots ss polled place e h holds same next there = record { holds = holds; next = subst (λ (xs : List Slot). IsNext polled xs place e) same next; there = sym there }

  pub never_vacant : (slab : Slab (DeliverySession L)) (slots ss : List Slot) (polled place : ℕ) (e : Slot) → Holds view slab slots → ss ≡ slots → IsNext polled ss place e → None ≡ get slab e.key → ⊥
  never_vacant slab slots ss polled place e holds same next vacant =
      let is = there_at view slab slots place e holds (subst (λ (xs : List Slot). IsNext polled xs place e) same next).stands in
      let none = ap is_some vacant in
      absurd cc

  module _ (slab : Slab (DeliverySession L)) (slots : List Slot) (polled place : ℕ) (e : Slot) (h : DeliverySession L) (a : AtNext slab slots polled place e h) where
    next_is : next_polled (sessions_of slab slots polled) ≡ Some (shown view e.number h)
    next_is = next_shown view slab slots polled place e h (sessions_of slab slots polled) refl a.next a.there

    pub sound_next : IsSound (shown view e.number h)
    sound_next = sound_at view slab slots place e h a.holds a.next.stands a.there

    pub file_next : (tells : Bool) (host : HostView) (s : Sessions) → sessions_of slab slots polled ≡ s → AllByRecursion (IsStanding tells host) s.listed → IsStanding tells host (shown view e.number h)
    file_next tells host s is each =
        let all = subst (λ (x : Sessions). AllByRecursion (IsStanding tells host) x.listed) (sym is) each in
        subst (IsStanding tells host) (shown_there view slab e h a.there)
        (each_some (λ (s : Slot). IsStanding tells host (shown_at view slab s)) slots place e (each-unmap (IsStanding tells host) (shown_at view slab) slots all) a.next.stands)

    writes : (new : DeliverySession L) → Updates slab (with_value slab e.key new) e.key (Some new)
    writes new = Updates-with_value slab e.key new (there_at view slab slots place e a.holds a.next.stands)

    pub written : (new : DeliverySession L) → IsSound (shown view e.number new) → Becomes view (with_value slab e.key new) slots (replaced (shown view e.number new) (map (shown_at view slab) slots))
    written new sound = changed view slab (with_value slab e.key new) slots place e new a.holds a.next.stands (writes new) sound

    pub stopped : (s : Sessions) (new : DeliverySession L) → sessions_of slab slots polled ≡ s → new.recipients ≡ h.recipients → IsSound (shown view e.number new) → Stopped (next_polled s) s (sessions_of (with_value slab e.key new) slots polled)
    stopped s new is same sound =
        subst (λ (x : Sessions). Stopped (next_polled x) x (sessions_of (with_value slab e.key new) slots polled)) is
        (subst (λ (o : Option OpenSession). Stopped o (sessions_of slab slots polled) (sessions_of (with_value slab e.key new) slots polled)) (sym next_is)
        (shown view e.number new, record { number = refl; recipients = same }, ap (λ (os : List OpenSession). record { listed = os; polled = polled }) (written new sound).shows))

    pub polled_on : (tells : Bool) (host : HostView) (now : ℕ) (before after : HopsView) (s : Sessions) (new : DeliverySession L) (r : Option Report) → sessions_of slab slots polled ≡ s → r ≡ None → Went tells host now before after r (shown view e.number h) (shown view e.number new) → IsSound (shown view e.number new)
        → PollsNext tells host now before after (next_polled s) None s (sessions_of (with_value slab e.key new) slots e.number)
    polled_on tells host now before after s new r is none went sound =
        let on = subst (λ (x : Option Report). Went tells host now before after x (shown view e.number h) (shown view e.number new)) none went in
        subst (λ (x : Sessions). PollsNext tells host now before after (next_polled x) None x (sessions_of (with_value slab e.key new) slots e.number)) is
        (subst (λ (o : Option OpenSession). PollsNext tells host now before after o None (sessions_of slab slots polled) (sessions_of (with_value slab e.key new) slots e.number)) (sym next_is)
        (shown view e.number new, on.0, ap (λ (os : List OpenSession). record { listed = os; polled = e.number }) (written new sound).shows, on.1))

    pub taken_out : (new : DeliverySession L) (last : Slab (DeliverySession L)) → Updates (with_value slab e.key new) last e.key None → Becomes view last (remove slots place) (without e.number (map (shown_at view slab) slots))
    taken_out new last u = gone view slab last slots place e a.holds a.next.stands (updates_both slab (with_value slab e.key new) last e.key (Some new) None (writes new) u)

    pub out_holds : (new : DeliverySession L) (last : Slab (DeliverySession L)) (left : List Slot) → Updates (with_value slab e.key new) last e.key None → left ≡ remove slots place → Holds view last left
    out_holds new last left u is = subst (Holds view last) (sym is) (taken_out new last u).holds

    pub polled_over : (tells : Bool) (host : HostView) (now : ℕ) (before after : HopsView) (s : Sessions) (new : DeliverySession L) (r : Option Report) (report : Report) (last : Slab (DeliverySession L)) (left : List Slot)
        → sessions_of slab slots polled ≡ s → r ≡ Some report → Went tells host now before after r (shown view e.number h) (shown view e.number new) → Updates (with_value slab e.key new) last e.key None → left ≡ remove slots place
        → PollsNext tells host now before after (next_polled s) (Some report) s (sessions_of last left e.number)
    polled_over tells host now before after s new r report last left is some went u gone_is =
        let over = subst (λ (x : Option Report). Went tells host now before after x (shown view e.number h) (shown view e.number new)) some went in
        subst (λ (x : Sessions). PollsNext tells host now before after (next_polled x) (Some report) x (sessions_of last left e.number)) is
        (subst (λ (o : Option OpenSession). PollsNext tells host now before after o (Some report) (sessions_of slab slots polled) (sessions_of last left e.number)) (sym next_is)
        (over, ap (λ (os : List OpenSession). record { listed = os; polled = e.number }) (ap (map (shown_at view last)) gone_is ∙ (taken_out new last u).shows)))

  -- ---- a rest

  rested_sound : (n : ℕ) (old new : Option Work) → IsSoundWork n old → RestsWork old new → IsSoundWork n new
  rested_sound n old new sound r =
      let was = subst (IsSoundWork n) r.has sound in
      subst (IsSoundWork n) (sym r.rest) (record { goes_on = was.goes_on; linked = r.link_rested.ended ∙ was.linked; usable = r.link_rested.usage ∙ was.usable; addresses = was.addresses })

  pub rested_next : (e : Slot) (h new : DeliverySession L) → IsSound (shown view e.number h) → new.recipients ≡ h.recipients → RestsWork (work_of view h) (work_of view new) → IsSound (shown view e.number new)
  rested_next e h new sound same r = subst (λ (n : ℕ). IsSoundWork n (work_of view new)) (sym same) (rested_sound h.recipients (work_of view h) (work_of view new) sound r)

  pub rested_first : (slab : Slab (DeliverySession L)) (slots : List Slot) (polled : ℕ) (e : Slot) (h new : DeliverySession L) (s : Sessions) → Holds view slab slots → slice_get slots 0 ≡ Some e → get slab e.key ≡ Some h → sessions_of slab slots polled ≡ s
      → new.recipients ≡ h.recipients → RestsWork (work_of view h) (work_of view new) → RestsOne s (sessions_of (with_value slab e.key new) slots polled)
  rested_first slab slots polled e h new s holds at there is same r =
      let u = Updates-with_value slab e.key new (there_at view slab slots 0 e holds at) in
      let parts = shown_at_parts view slab (with_value slab e.key new) slots 0 e h new holds at there u in
      subst (λ (x : Sessions). RestsOne x (sessions_of (with_value slab e.key new) slots polled)) is
      (record {
        before = map (shown_at view slab) (take 0 slots);
        behind = map (shown_at view slab) (drop 1 slots);
        waited = shown view e.number h;
        rested = shown view e.number new;
        session = record { work = r; rest = ap (λ (n : ℕ). record { number = e.number; recipients = n; work = work_of view new }) same };
        sessions = parts.0;
        rest = ap (λ (os : List OpenSession). record { listed = os; polled = polled }) parts.1;
      })

  pub rest_holds : (slab : Slab (DeliverySession L)) (slots : List Slot) (e : Slot) (h new : DeliverySession L) → Holds view slab slots → slice_get slots 0 ≡ Some e → get slab e.key ≡ Some h → new.recipients ≡ h.recipients → RestsWork (work_of view h) (work_of view new) → Holds view (with_value slab e.key new) slots
  rest_holds slab slots e h new holds at there same r =
      (changed view slab (with_value slab e.key new) slots 0 e new holds at (Updates-with_value slab e.key new (there_at view slab slots 0 e holds at)) (rested_next e h new (sound_at view slab slots 0 e h holds at there) same r)).holds
