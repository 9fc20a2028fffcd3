-- The open sessions behind a turn: more is told, and what begins waits to be opened.
use Rattle.std.proofs.Common.{◌≡◌, ◌≤◌, ◌+◌, inl, inr, ℕ, List, [], ◌∷◌, ◌++◌, length, map, Some, refl, sym, ap, ◌∙◌, subst}
use Rattle.std.specs.List.{AllByRecursion}
use Rattle.q_agent.specs.Sessions.{OpenSession, Rises}
use Rattle.q_laws.proofs.Deciding.{AreDecisions}
use Rattle.q_drain.proofs.Flying.{decided_flights}
use Rattle.q_drain.proofs.InFlight.{decided_like, entry_like, like_like}
use Rattle.q_drain.proofs.Silent.{are_inside}
use Rattle.q_drain.proofs.Turning.{session_longer}
use Rattle.q_drain.specs.Driving.{AreOpen}
use Rattle.q_drain.specs.Flights.{flight}
use Rattle.q_drain.specs.Stories.{Story}
use Rattle.q_drain.specs.Told.{Begun, begun_from, ended}
use Rattle.q_drain.specs.Works.{IsSessionOf, Pairs}
use Rattle.q_laws.proofs.Kept.{entry_consistent}
use Rattle.q_laws.proofs.Members.{IsIn}
use Rattle.q_laws.specs.Consistency.{IsConsistent}
use Rattle.q_laws.specs.Traces.{IsEntryOf}
use Rattle.q_link.specs.Views.{Told}
use Rattle.q_lives.proofs.AsArrived.{HasLike}
use Rattle.q_model.proofs.RunLaws.{after_all-append}
use Rattle.q_model.specs.declared.entry.Entry.{Entry}
use Rattle.q_model.specs.declared.rows.Delivery.{Delivery}
use Rattle.q_model.specs.Book.{message_of}
use Rattle.q_model.specs.Ledger.{Ledger}
use Rattle.q_model.specs.Message.{Message}
use Rattle.q_model.specs.Settings.{World}
use Rattle.q_model.specs.Step.{after, after_all}

-- what holds of each pair whose delivery is among these
pairs_in : (P Q : Delivery → OpenSession → Type 0) (all : List Delivery) → ((f : Delivery) (o : OpenSession) → IsIn f all → P f o → Q f o)
    → (fs : List Delivery) (os : List OpenSession) → ((f : Delivery) → IsIn f fs → IsIn f all) → Pairs P fs os → Pairs Q fs os
pairs_in P Q all change [] [] within h = tt
pairs_in P Q all change [] (o ∷ os) within h = absurd h
pairs_in P Q all change (f ∷ fs) [] within h = absurd h
pairs_in P Q all change (f ∷ fs) (o ∷ os) within h = (change f o (within f (inl refl)) h.0, pairs_in P Q all change fs os (λ g k. within g (inr k)) h.1)

-- an entry and the decisions behind it
abbrev pub IsTurn : World → Ledger → Entry → List Entry → Type 0
IsTurn w k e ds = IsEntryOf w k e × AreDecisions w (after w k e) ds

-- a message like that of a delivery that is still in flight stands behind a turn
turn_like : (w : World) (k : Ledger) (e : Entry) (ds : List Entry) (f : Delivery) (m : Message) → IsConsistent w k → IsTurn w k e ds → IsIn f (after w k e).flights → message_of k.book f.row.id ≡ Some m → HasLike m (after_all w k (e ∷ ds)).book f.row.id
unfolding after_all
turn_like w k e ds f m c turn flies there =
    let next : IsConsistent w (after w k e) = entry_consistent w k e c turn.0 in
    let one : HasLike m (after w k e).book f.row.id = entry_like w k e f m c next flies there in
    let all : HasLike one.0 (after_all w (after w k e) ds).book f.row.id = decided_like w (after w k e) ds f one.0 next turn.1 flies one.1 in
    (all.0, all.1, like_like m one.0 all.0 one.2 all.2)

turn_flights : (w : World) (k : Ledger) (m : ℕ) (e : Entry) (ds : List Entry) (gs : List Delivery) → IsTurn w k e ds → (after w k e).flights ≡ gs → (after_all w k (e ∷ ds)).flights ≡ gs ++ map flight (begun_from m ds)
unfolding after_all
turn_flights w k m e ds gs turn is =
    decided_flights w (after w k e) m ds (are_inside w (after w k e) ds turn.1)
    ∙ ap (λ (fs : List Delivery). fs ++ map flight (begun_from m ds)) is

-- These pairs are left by the event.
pub open_turn : (w : World) (l : Ledger) (s r : Story) (Tells : Begun → Told → Type 0) (early : List Begun) (gs : List Delivery) (ps : List OpenSession) (m : ℕ) (e : Entry) (ds : List Entry)
    → r.told ≡ s.told ++ e ∷ ds
    → IsConsistent w (after_all w l s.told)
    → IsTurn w (after_all w l s.told) e ds
    → (after w (after_all w l s.told) e).flights ≡ gs
    → Pairs (IsSessionOf (after_all w l s.told).book s.told Tells) gs ps
    → Rises (map (λ (o : OpenSession). o.number) ps)
    → AllByRecursion (λ (o : OpenSession). o.number ≤ length early) ps
    → length early ≡ length (ended r.told) + length ps
    → AreOpen w l r Tells early (begun_from m ds) gs ps
open_turn w l s r Tells early gs ps m e ds told c turn flights pairs rises below counted =
    let k : Ledger = after_all w l s.told in
    let es : List Entry = e ∷ ds in
    let join : after_all w l r.told ≡ after_all w k es = ap (after_all w l) told ∙ after_all-append w l s.told es in
    let like : (f : Delivery) (o : OpenSession) → IsIn f gs → IsSessionOf k.book s.told Tells f o → IsSessionOf (after_all w k es).book (s.told ++ es) Tells f o =
    λ f o there h. session_longer k.book (after_all w k es).book s.told es Tells f o (λ n is. turn_like w k e ds f n c turn (subst (IsIn f) (sym flights) there) is) h in
    let later : Pairs (IsSessionOf (after_all w k es).book (s.told ++ es) Tells) gs ps =
    pairs_in (IsSessionOf k.book s.told Tells) (IsSessionOf (after_all w k es).book (s.told ++ es) Tells) gs like gs ps (λ f h. h) pairs in
    record {
      flights = ap (λ (x : Ledger). x.flights) join ∙ turn_flights w k m e ds gs turn flights;
      sessions = subst (λ (x : Ledger). Pairs (IsSessionOf x.book r.told Tells) gs ps) (sym join)
          (subst (λ (told : List Entry). Pairs (IsSessionOf (after_all w k es).book told Tells) gs ps) (sym told) later);
      rises = rises;
      below = below;
      counted = counted;
    }
