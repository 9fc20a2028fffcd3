-- Deliveries in flight and open sessions, in pairs.
use Rattle.std.proofs.Common.{◌≡◌, ℕ, Bool, true, false, if◌then◌else◌, not, List, [], ◌∷◌, ◌++◌, ap}
use Rattle.std.specs.Prelude.{◌==◌, ◌≢◌}
use Rattle.q_agent.specs.Sessions.{OpenSession, without}
use Rattle.q_drain.specs.Flights.{without_flight}
use Rattle.q_drain.specs.Works.{Pairs}
use Rattle.q_model.specs.declared.rows.Delivery.{Delivery}

-- a pair has one number
abbrev pub HasNumber : (Delivery → OpenSession → Type 0) → Type 0
HasNumber P = (f : Delivery) (o : OpenSession) → P f o → o.number ≡ f.number

-- what holds of each pair
pub pairs_map : (P Q : Delivery → OpenSession → Type 0) → ((f : Delivery) (o : OpenSession) → P f o → Q f o) → (fs : List Delivery) (os : List OpenSession) → Pairs P fs os → Pairs Q fs os
pairs_map P Q h [] [] p = tt
pairs_map P Q h [] (o ∷ os) p = absurd p
pairs_map P Q h (f ∷ fs) [] p = absurd p
pairs_map P Q h (f ∷ fs) (o ∷ os) p = (h f o p.0, pairs_map P Q h fs os p.1)

-- one more pair at the end
pub pairs_more : (P : Delivery → OpenSession → Type 0) (fs : List Delivery) (os : List OpenSession) (f : Delivery) (o : OpenSession) → Pairs P fs os → P f o → Pairs P (fs ++ f ∷ []) (os ++ o ∷ [])
pairs_more P [] [] f o p q = (q, tt)
pairs_more P [] (x ∷ os) f o p q = absurd p
pairs_more P (g ∷ fs) [] f o p q = absurd p
pairs_more P (g ∷ fs) (x ∷ os) f o p q = (p.0, pairs_more P fs os f o p.1 q)

keep : (P : Delivery → OpenSession → Type 0) (f : Delivery) (o : OpenSession) (fs : List Delivery) (os : List OpenSession) (b c : Bool) → c ≡ b → P f o → Pairs P fs os → Pairs P (if b then f ∷ fs else fs) (if c then o ∷ os else os)
keep P f o fs os true true e p q = (p, q)
keep P f o fs os false false e p q = q
keep P f o fs os true false e p q = cc
keep P f o fs os false true e p q = cc

-- the delivery of a number is over, and so is its session
pub pairs_without : (P : Delivery → OpenSession → Type 0) → HasNumber P → (number : ℕ) (fs : List Delivery) (os : List OpenSession) → Pairs P fs os → Pairs P (without_flight number fs) (without number os)
pairs_without P same number [] [] p = tt
pairs_without P same number [] (o ∷ os) p = absurd p
pairs_without P same number (f ∷ fs) [] p = absurd p
pairs_without P same number (f ∷ fs) (o ∷ os) p = keep P f o (without_flight number fs) (without number os) (not (f.number == number)) (not (o.number == number)) (ap (λ n. not (n == number)) (same f o p.0)) p.0 (pairs_without P same number fs os p.1)

-- no session is open: no delivery is in flight
pub pairs_none : (P : Delivery → OpenSession → Type 0) (fs : List Delivery) → Pairs P fs [] → fs ≡ []
pairs_none P [] p = λ i. []
pairs_none P (f ∷ fs) p = absurd p

-- a session is open: a delivery is in flight
pub pairs_some : (P : Delivery → OpenSession → Type 0) (fs : List Delivery) (os : List OpenSession) → Pairs P fs os → os ≢ [] → fs ≢ []
pairs_some P [] [] p h = λ e. h (λ i. [])
pairs_some P [] (o ∷ os) p h = absurd p
pairs_some P (f ∷ fs) os p h = λ e. cc
