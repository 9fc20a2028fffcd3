-- A parent that can't pay for a need of 1 is preempted by none.
use Rattle.std.proofs.Common.{◌≡◌, ℕ, ◌+◌, ◌-◌, ◌*◌, ◌≤◌, Bool, true, false, List, [], ◌∷◌, refl, sym, ap, ◌∙◌, arith, None, Option, if◌then◌else◌}
use Rattle.std.proofs.lemmas.Grind.{common_steps}
use Rattle.std.proofs.Math.Nat.{mul-le-mul_left, mul-le-mul_right}
use Rattle.std.specs.List.{list_any}
use Rattle.std.specs.Prelude.{◌&&◌, ◌==◌, ◌||◌, count_by, filter, nat_le}
use Rattle.q_ledger.proofs.ListLaws.{filter_none}
use Rattle.q_ledger.specs.Counted.{starts_in}
use Rattle.q_ledger.specs.Held.{rest_in}
use Rattle.q_ledger.specs.Preempting.{best_in, is_better_slot, is_candidate_slot, pays_with, standing_in}
use Rattle.q_ledger.specs.State.{State}
use Rattle.q_ledger.specs.Worlds.{Given, world_of}
use Rattle.q_ledger.specs.declared.accounts.Accounts.{Accounts}
use Rattle.q_ledger.specs.declared.admitted.Slot.{Slot}
use Rattle.q_ledger.specs.declared.candidates.Standing.{Standing}
use Rattle.q_model.specs.Candidates.{ids_behind}
use Rattle.q_model.specs.Ids.{id_eq}
use Rattle.q_model.specs.Lists.{least}
use Rattle.q_model.specs.Settings.{Settings, World}
use Rattle.q_model.specs.Startable.{can_start, is_startable, line_of}
use Rattle.q_model.specs.declared.id.Id.{Id}

any_step : {X : Type 0} (p q : X → Bool) (x : X) (xs : List X) (a b : Bool) → p x ≡ a → q x ≡ b → (a ≡ true → b ≡ true) → (a || list_any p xs) ≡ true → (list_any p xs ≡ true → 1 ≤ count_by q xs) → 1 ≤ count_by q (x ∷ xs)
any_step p q x xs a true e f h any rest = grind (arith, common_steps, f)
any_step p q x xs false false e f h any rest = grind (arith, common_steps, f, rest any)
any_step p q x xs true false e f h any rest = let bad = h refl in cc

-- where some pass a narrower test, at least one passes the wider
any_counted : {X : Type 0} (p q : X → Bool) → ((x : X) → p x ≡ true → q x ≡ true) → (xs : List X) → list_any p xs ≡ true → 1 ≤ count_by q xs
any_counted p q h [] any = cc
any_counted p q h (x ∷ xs) any = any_step p q x xs (p x) (q x) refl refl (h x) any (any_counted p q h xs)

front : (a b p : Bool) → (a && b && p) ≡ true → (a && b) ≡ true
front true true p h = refl
front false b p h = h
front true false p h = h

-- a message that can start has something left
some_left : (w : World) (c : State) (transport : ℕ) (id : Id) → can_start w c.ledger transport id ≡ true → 1 ≤ rest_in c id transport
some_left w c transport id h =
    let one = any_counted (λ r. id_eq r.id id && (r.site.transport == transport) && is_startable w c.ledger r) (λ r. id_eq r.id id && (r.site.transport == transport)) (λ r. front (id_eq r.id id) (r.site.transport == transport) (is_startable w c.ledger r)) c.ledger.waiting h in
    omega (arith, one)

le_true : (a b : ℕ) → nat_le a b ≡ true → a ≤ b
le_true a b h = grind (arith, common_steps, h)

true_le : (a b : ℕ) → a ≤ b → nat_le a b ≡ true
true_le a b h = grind (arith, common_steps, h)

both : (a b c : Bool) → (a && b && c) ≡ true → (a ≡ true) × (b ≡ true) × (c ≡ true)
both true true true h = (refl, refl, refl)
both true true false h = cc
both true false c h = cc
both false b c h = cc

all_three : (a b c : Bool) → a ≡ true → b ≡ true → c ≡ true → (a && b && c) ≡ true
all_three true true true h k l = refl
all_three true true false h k l = l
all_three true false c h k l = k
all_three false b c h k l = h

scaled : (a b k : ℕ) → a ≤ b → a * k ≤ b * k
scaled a b k h = mul-le-mul_right k h

scaled_behind : (a b k : ℕ) → a ≤ b → k * a ≤ k * b
scaled_behind a b k h = mul-le-mul_left k h

weaker : (price owed credit less : ℕ) → less ≤ price → nat_le (price + owed) credit ≡ true → nat_le (less + owed) credit ≡ true
weaker price owed credit less m h = true_le (less + owed) credit (omega (arith, le_true (price + owed) credit h, m))

-- who pays for a need pays for 1
pays_falls : (p : Settings) (parent : Standing) (need : ℕ) → 1 ≤ need → pays_with p parent need ≡ true → pays_with p parent 1 ≡ true
pays_falls p parent need some h =
    let k = both _ _ _ h in
    let price = scaled (1 * (100 - p.slot_discount)) (need * (100 - p.slot_discount)) p.slot_cost (scaled 1 need (100 - p.slot_discount) some) in
    let worth = scaled_behind 1 need p.slot_cost some in
    let owed = p.slot_cost * parent.charged in
    all_three _ _ _
    (weaker (need * (100 - p.slot_discount) * p.slot_cost) (100 * owed) (100 * (parent.begun + p.slot_loan * p.slot_cost)) (1 * (100 - p.slot_discount) * p.slot_cost) price k.0)
    (weaker (p.slot_cost * need) owed (parent.begun + parent.left) (p.slot_cost * 1) worth k.1)
    k.2

not_paid : (p : Settings) (parent : Standing) (need : ℕ) → 1 ≤ need → pays_with p parent 1 ≡ false → (b : Bool) → pays_with p parent need ≡ b → b ≡ false
not_paid p parent need some h true e = let bad : true ≡ false = sym (pays_falls p parent need some e) ∙ h in cc
not_paid p parent need some h false e = refl

fails : (a b d e : Bool) → (e ≡ true → d ≡ false) → (a && b && d && e) ≡ false
fails true true true true h = let bad = h refl in cc
fails true true true false h = refl
fails true true false e h = refl
fails true false d e h = refl
fails false b d e h = refl

-- no message may preempt it
no_candidate : (g : Given) (c : State) (accounts : Accounts) (transport : ℕ) (behind : List Id) (parent : Standing) → pays_with g.settings parent 1 ≡ false → (s : Slot) →
    is_candidate_slot g c accounts transport behind parent s ≡ false
no_candidate g c accounts transport behind parent h s =
    fails (list_any (id_eq s.id) behind) (starts_in accounts s.id transport == 0) (pays_with g.settings parent (rest_in c s.id transport)) (can_start (world_of g) c.ledger transport s.id)
    (λ can. not_paid g.settings parent (rest_in c s.id transport) (some_left (world_of g) c transport s.id can) h (pays_with g.settings parent (rest_in c s.id transport)) refl)

pub none_pays : (g : Given) (c : State) (accounts : Accounts) (transport : ℕ) (behind : List Id) (parent : Standing) → pays_with g.settings parent 1 ≡ false →
    filter (is_candidate_slot g c accounts transport behind parent) c.slots ≡ []
none_pays g c accounts transport behind parent h = filter_none (is_candidate_slot g c accounts transport behind parent) (no_candidate g c accounts transport behind parent h) c.slots

either_none : {A : Type 0} (b : Bool) (o : Option A) → o ≡ None → (if b then None else o) ≡ None
either_none true o h = refl
either_none false o h = h

-- so there is no best
pub none_best : (g : Given) (c : State) (accounts : Accounts) (transport : ℕ) (parent : Id) → pays_with g.settings (standing_in c accounts parent transport) 1 ≡ false → best_in g c accounts transport parent ≡ None
none_best g c accounts transport parent h =
    let behind = ids_behind parent (line_of c.ledger transport) in
    let standing = standing_in c accounts parent transport in
    either_none (g.settings.slot_cost == 0) (least (is_better_slot c transport) (filter (is_candidate_slot g c accounts transport behind standing) c.slots))
    (ap (least (is_better_slot c transport)) (none_pays g c accounts transport behind standing h))
