-- What a drain asks of its engine isn't refused: the reply of an open session is awaited.
use native.Mathlib.Omega.{arith}
use Rattle.std.proofs.Common.{◌≡◌, ◌≢◌, ◌∙◌, ℕ, Bool, true, false, if◌then◌else◌, List, [], ◌∷◌, find, length, map, Option, Some, None, refl, sym, ap, subst, inl, inr, eq-eqb}
use Rattle.std.proofs.lemmas.Bool.{ne_eqb}
use Rattle.std.proofs.lemmas.List.{length-replicate}
use Rattle.std.specs.Option.{is_some}
use Rattle.std.specs.Prelude.{◌==◌, ◌||◌, nat_lt, not}
use Rattle.q_agent.specs.NextPoll.{Counts}
use Rattle.q_agent.specs.Sessions.{OpenSession, Rises, Sessions, unpolled}
use Rattle.q_agent.specs.declared.report.Report.{Report}
use Rattle.q_drain.proofs.Pairing.{HasNumber}
use Rattle.q_drain.proofs.Sessions.{in_above}
use Rattle.q_drain.proofs.Moments.{open_before}
use Rattle.q_core.specs.Agrees.{Agrees}
use Rattle.q_core.specs.Queries.{flight_in}
use Rattle.q_drain.specs.Opened.{IsServing}
use Rattle.q_drain.specs.Replied.{IsAwaited, reply_event}
use Rattle.q_drain.specs.Standing.{Outside, counts_of}
use Rattle.q_drain.specs.Stories.{Story}
use Rattle.q_drain.specs.Told.{Begun}
use Rattle.q_drain.specs.Works.{IsLinkOf, IsSessionOf, Pairs}
use Rattle.q_engine.specs.Refusals.{ForAgreed, is_of_event, is_of_host, is_unreadable, refused_by, refused_reply, told_count}
use Rattle.q_engine.specs.Stands.{HasCounts}
use Rattle.q_engine.specs.declared.engine.Engine.{Engine}
use Rattle.q_engine.specs.declared.error.EngineError.{EngineError}
use Rattle.q_engine.specs.declared.error.EngineError.TheVariants as errors
use Rattle.q_host.specs.View.{View as HostView}
use Rattle.q_laws.proofs.Members.{IsIn, find_in}
use Rattle.q_model.specs.declared.event.Event.TheVariants as events
use Rattle.q_model.specs.declared.outcome.Outcome.{Outcome}
use Rattle.q_model.specs.declared.outcome.Outcome.TheVariants as outcomes
use Rattle.q_model.specs.declared.outcome.SiteState.{SiteState}
use Rattle.q_model.specs.declared.outcome.SiteState.TheVariants.{Down, Up}
use Rattle.q_model.specs.declared.rows.Delivery.{Delivery}
use Rattle.q_model.specs.Deliveries.{flight_of}
use Rattle.q_model.specs.Ledger.{Ledger}
use Rattle.q_model.specs.Settings.{World}
use Rattle.q_model.specs.Step.{after_all}

-- ---- the delivery of a session

-- it is the first of its number
found_pair : (P : Delivery → OpenSession → Type 0) → HasNumber P → (o : OpenSession) (fs : List Delivery) (os : List OpenSession) → Pairs P fs os → Rises (map (λ (x : OpenSession). x.number) os) → IsIn o os
    → (f : Delivery) × P f o × (find (λ (g : Delivery). g.number == o.number) fs ≡ Some f)
found_pair P same o [] [] h rises there = absurd there
found_pair P same o [] (x ∷ os) h rises there = absurd h
found_pair P same o (f ∷ fs) [] h rises there = absurd h
found_pair P same o (f ∷ fs) (x ∷ os) h rises (inl is) =
    let number : f.number ≡ o.number = sym (same f x h.0) ∙ ap (λ (y : OpenSession). y.number) is in
    (f, subst (P f) is h.0, ap (λ (b : Bool). if b then Some f else find (λ (g : Delivery). g.number == o.number) fs) (eq-eqb f.number o.number number))
found_pair P same o (f ∷ fs) (x ∷ os) h rises (inr k) =
    let late = in_above x.number o os rises.0 k in
    let is : x.number ≡ f.number = same f x h.0 in
    let rest = found_pair P same o fs os h.1 rises.1 k in
    (rest.0, rest.1, ap (λ (b : Bool). if b then Some f else find (λ (g : Delivery). g.number == o.number) fs) (ne_eqb f.number o.number (λ e. omega (arith, late, is, e))) ∙ rest.2)

-- a report has one outcome for each recipient, whatever its site
counted : (site : SiteState) (n : ℕ) (os : List Outcome) → Counts site n os → length os ≡ n
counted Up n os h = h
counted Down n os h = ap length h ∙ length-replicate n (outcomes.Later 0)

-- so many outcomes fit that delivery
fitting : (number : ℕ) (os : List Outcome) (f : Delivery) → length os ≡ length f.row.positions → refused_reply number os (Some f) ≡ None
fitting number os f same = ap (λ (b : Bool). if b then None else Some (errors.WrongCount number (told_count (length f.row.positions)) (told_count (length os)))) (eq-eqb (length os) (length f.row.positions) same)

-- The reply of an open session isn't refused by the ledger.
pub reply_awaited : (w : World) (l : Ledger) (a z : Outside) (v : HostView) (engine : Engine) (agent : Sessions) (early : List Begun) (fs : List Delivery) (s : Story) (o : OpenSession) (r : Report)
    → IsServing w l a z v engine agent early [] fs s → unpolled agent ≡ Some o → r.number ≡ o.number → Counts r.site o.recipients r.outcomes
    → refused_reply r.number r.outcomes (flight_of (after_all w l s.told) r.number) ≡ None
reply_awaited w l a z v engine agent early fs s o r h first number counts =
    let k : Ledger = after_all w l s.told in
    let d = h.under_way.driving in
    let Tells = IsLinkOf (counts_of a s agent.polled) in
    let there : IsIn o agent.listed = (find_in (λ (p : OpenSession). nat_lt agent.polled p.number) o agent.listed first).0 in
    let got = found_pair (IsSessionOf k.book s.told Tells) (λ f x p. p.number) o fs agent.listed d.opened.sessions d.opened.rises there in
    let flies : flight_of k r.number ≡ Some got.0 = ap (flight_of k) number ∙ ap (find (λ (g : Delivery). g.number == o.number)) (open_before w l s Tells early fs agent.listed d.opened) ∙ got.2 in
    let many : length r.outcomes ≡ length (got.0).row.positions = counted r.site o.recipients r.outcomes counts ∙ (got.1).recipients in
    ap (refused_reply r.number r.outcomes) flies ∙ fitting r.number r.outcomes got.0 many

-- so an engine that stands for it doesn't refuse it
pub refuses_none : (engine : Engine) (number : ℕ) (os : List Outcome) (refuses : Bool) (w : World) (k : Ledger) → Agrees w engine.core.value k → HasCounts engine k
    → ForAgreed engine (λ w l. refuses ≡ is_some (refused_reply number os (flight_of l number))) → refused_reply number os (flight_of k number) ≡ None → refuses ≡ false
refuses_none engine number os refuses w k agrees counts says none = says w k agrees counts ∙ ap is_some none

-- ---- refusals

-- what isn't of an event is of the host, or an unreadable file
pub unless_event : (why : EngineError) → (is_of_host why || (is_of_event why || is_unreadable why)) ≡ true → (is_of_event why ≡ true → ⊥) → (is_of_host why || is_unreadable why) ≡ true
unless_event errors.Disk kinds never = refl
unless_event errors.Tell kinds never = refl
unless_event errors.NoMemory kinds never = refl
unless_event (errors.Unreadable area name) kinds never = refl
unless_event (errors.Unknown n) kinds never = absurd (never refl)
unless_event (errors.WrongCount n want got) kinds never = absurd (never refl)
unless_event errors.Untimed kinds never = absurd (never refl)
unless_event (errors.Limit bound) kinds never = absurd (never refl)
unless_event (errors.Damaged area name) kinds never = cc

-- a moment is never refused
pub at_unrefused : (engine : Engine) (moment : ℕ) (why : EngineError) → refused_by engine (events.At moment) ≡ Some why → ⊥
at_unrefused engine moment why is = cc

-- nor is a reply that is awaited, once a moment came
pub reply_unrefused : (engine : Engine) (r : Report) (why : EngineError) → engine.core.value.timed ≡ true → IsAwaited engine r → refused_by engine (reply_event r) ≡ Some why → ⊥
reply_unrefused engine r why timed awaited is =
    let none : refused_by engine (reply_event r) ≡ None = ap (λ (b : Bool). if not b then Some errors.Untimed else refused_reply r.number r.outcomes (flight_in engine.core.value r.number)) timed ∙ awaited in
    let bad : Some why ≡ None = sym is ∙ none in
    cc

-- nothing is refused
pub not_some : (o : Option EngineError) (b : Bool) → b ≡ is_some o → b ≡ false → o ≡ None
not_some None b is none = refl
not_some (Some why) b is none = cc
