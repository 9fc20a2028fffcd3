-- The best candidate by what is kept of jobs is the best by the ledger and the counts.
use Rattle.std.proofs.Common.{◌≡◌, ℕ, ◌+◌, ◌*◌, Bool, true, false, List, [], ◌∷◌, map, refl, sym, ap, ◌∙◌, Option, Some, None, option_map, not, if◌then◌else◌}
use Rattle.std.specs.List.{list_any}
use Rattle.std.specs.Option.{option_map_or}
use Rattle.std.specs.Prelude.{◌&&◌, ◌==◌, filter, nat_lt}
use Rattle.q_bare.specs.CountedRows.{best_by, is_candidate_by, pays_by}
use Rattle.q_bare.specs.Counts.{Counts}
use Rattle.q_ledger.proofs.SlotLaws.{rest_same}
use Rattle.q_ledger.proofs.ListLaws.{filter-map, filter-same, filter_none}
use Rattle.q_ledger.specs.Beside.{AreAccounts, IsCounted}
use Rattle.q_ledger.specs.Counted.{charged_in}
use Rattle.q_ledger.specs.Held.{rest_in}
use Rattle.q_ledger.specs.Preempting.{best_in, is_better_slot, is_candidate_slot, pays_with, standing_in}
use Rattle.q_ledger.specs.Slots.{row_of_slot}
use Rattle.q_ledger.specs.State.{State}
use Rattle.q_ledger.specs.Worlds.{Given, world_of}
use Rattle.q_ledger.specs.declared.accounts.Accounts.{Accounts}
use Rattle.q_ledger.specs.declared.admitted.Slot.{Slot}
use Rattle.q_model.specs.Accounts.{job_left}
use Rattle.q_model.specs.Candidates.{age, ids_behind, is_better}
use Rattle.q_model.specs.Ids.{id_eq}
use Rattle.q_model.specs.Lists.{least}
use Rattle.q_model.specs.Startable.{can_start, line_of}
use Rattle.q_model.specs.declared.id.Id.{Id}
use Rattle.q_model.specs.declared.rows.Admitted.{Admitted}

-- ---- the least of mapped elements

least_of : {A : Type 0} → (A → A → Bool) → A → Option A → Option A
least_of before x o = Some (option_map_or (λ y. if before y x then y else x) o x)

picked : {A B : Type 0} (f : A → B) (b : Bool) (y x : A) → (if b then f y else f x) ≡ f (if b then y else x)
picked f true y x = refl
picked f false y x = refl

least_step : {A B : Type 0} (before : B → B → Bool) (f : A → B) (x : A) (o : Option A) →
    Some (option_map_or (λ y. if before y (f x) then y else f x) (option_map f o) (f x)) ≡ option_map f (Some (option_map_or (λ y. if before (f y) (f x) then y else x) o x))
least_step before f x None = refl
least_step before f x (Some y) = ap Some (picked f (before (f y) (f x)) y x)

least-map : {A B : Type 0} (before : B → B → Bool) (f : A → B) (xs : List A) → least before (map f xs) ≡ option_map f (least (λ a b. before (f a) (f b)) xs)
least-map before f [] = refl
least-map before f (x ∷ xs) =
    ap (λ o. Some (option_map_or (λ y. if before y (f x) then y else f x) o (f x))) (least-map before f xs)
    ∙ least_step before f x (least (λ a b. before (f a) (f b)) xs)

alike_step : {A : Type 0} (before after : A → A → Bool) → ((a b : A) → before a b ≡ after a b) → (x : A) (o : Option A) →
    Some (option_map_or (λ y. if before y x then y else x) o x) ≡ Some (option_map_or (λ y. if after y x then y else x) o x)
alike_step before after h x None = refl
alike_step before after h x (Some y) = ap (λ b. Some (if b then y else x)) (h y x)

least-same : {A : Type 0} (before after : A → A → Bool) → ((a b : A) → before a b ≡ after a b) → (xs : List A) → least before xs ≡ least after xs
least-same before after h [] = refl
least-same before after h (x ∷ xs) =
    ap (λ o. Some (option_map_or (λ y. if before y x then y else x) o x)) (least-same before after h xs)
    ∙ alike_step before after h x (least after xs)

names_same : (xs : List Slot) → map (λ (a : Admitted). a.id) (map row_of_slot xs) ≡ map (λ (x : Slot). x.id) xs
names_same [] = refl
names_same (x ∷ xs) = ap (λ ids. x.id ∷ ids) (names_same xs)

-- ---- which is better, and which pays

better_same : (s : State) → IsCounted s → (transport : ℕ) (x y : Slot) → is_better_slot s transport x y ≡ is_better s.ledger transport x.id y.id
better_same s k transport x y =
    ap (λ n. nat_lt ((age s.ledger y.id + 1) * n) ((age s.ledger x.id + 1) * rest_in s y.id transport)) (rest_same s k x.id transport)
    ∙ ap (λ n. nat_lt ((age s.ledger y.id + 1) * job_left s.ledger x.id transport) ((age s.ledger x.id + 1) * n)) (rest_same s k y.id transport)

pays_same : (g : Given) (s : State) (a : Accounts) (c : Counts) → IsCounted s → AreAccounts a c → (transport : ℕ) (parent : Id) (need : ℕ) →
    pays_with g.settings (standing_in s a parent transport) need ≡ pays_by c (world_of g) s.ledger transport parent need
pays_same g s a c k h transport parent need =
    let p = g.settings in
    let paid : ℕ → ℕ → ℕ → Bool = λ begun charged left. pays_with p (record { begun = begun; charged = charged; left = left }) need in
    ap (λ n. paid n (charged_in a parent transport) (rest_in s parent transport)) (h.starts parent transport)
    ∙ ap (λ n. paid (c.deliveries_of parent transport) n (rest_in s parent transport)) (h.charged parent transport)
    ∙ ap (paid (c.deliveries_of parent transport) (c.charged_to parent transport)) (rest_same s k parent transport)

last_two : (a b p q : Bool) → (a && b && p && q) ≡ (a && b && q && p)
last_two true true true true = refl
last_two true true true false = refl
last_two true true false true = refl
last_two true true false false = refl
last_two true false p q = refl
last_two false b p q = refl

candidate_same : (g : Given) (s : State) (a : Accounts) (c : Counts) → IsCounted s → AreAccounts a c → (transport : ℕ) (parent : Id) → (g.settings.slot_cost == 0) ≡ false → (x : Slot) →
    is_candidate_slot g s a transport (ids_behind parent (line_of s.ledger transport)) (standing_in s a parent transport) x ≡ is_candidate_by c (world_of g) s.ledger transport parent x.id
candidate_same g s a c k h transport parent cost x =
    let w = world_of g in
    let l = s.ledger in
    let behind = list_any (id_eq x.id) (ids_behind parent (line_of l transport)) in
    let can = can_start w l transport x.id in
    let standing = standing_in s a parent transport in
    ap (λ n. behind && (n == 0) && pays_with g.settings standing (rest_in s x.id transport) && can) (h.starts x.id transport)
    ∙ ap (λ n. behind && (c.deliveries_of x.id transport == 0) && pays_with g.settings standing n && can) (rest_same s k x.id transport)
    ∙ ap (λ b. behind && (c.deliveries_of x.id transport == 0) && b && can) (pays_same g s a c k h transport parent (job_left l x.id transport))
    ∙ last_two behind (c.deliveries_of x.id transport == 0) (pays_by c w l transport parent (job_left l x.id transport)) can
    ∙ sym (ap (λ b. not b && behind && (c.deliveries_of x.id transport == 0) && can && pays_by c w l transport parent (job_left l x.id transport)) cost)

-- ---- the best

-- by the messages in memory
best_slots : (g : Given) (s : State) (c : Counts) → IsCounted s → (transport : ℕ) (parent : Id) →
    best_by c (world_of g) s.ledger transport parent
    ≡ option_map (λ (x : Slot). x.id) (least (λ x y. is_better s.ledger transport x.id y.id) (filter (λ x. is_candidate_by c (world_of g) s.ledger transport parent x.id) s.slots))
best_slots g s c k transport parent =
    let w = world_of g in
    let l = s.ledger in
    ap (λ ids. least (is_better l transport) (filter (is_candidate_by c w l transport parent) ids)) (ap (map (λ (a : Admitted). a.id)) k.admitted ∙ names_same s.slots)
    ∙ ap (least (is_better l transport)) (filter-map (is_candidate_by c w l transport parent) (λ (x : Slot). x.id) s.slots)
    ∙ least-map (is_better l transport) (λ (x : Slot). x.id) (filter (λ x. is_candidate_by c w l transport parent x.id) s.slots)

best_where : (g : Given) (s : State) (a : Accounts) (c : Counts) → IsCounted s → AreAccounts a c → (transport : ℕ) (parent : Id) (b : Bool) → (g.settings.slot_cost == 0) ≡ b →
    option_map (λ (x : Slot). x.id) (if b then None else least (is_better_slot s transport) (filter (is_candidate_slot g s a transport (ids_behind parent (line_of s.ledger transport)) (standing_in s a parent transport)) s.slots))
    ≡ option_map (λ (x : Slot). x.id) (least (λ x y. is_better s.ledger transport x.id y.id) (filter (λ x. is_candidate_by c (world_of g) s.ledger transport parent x.id) s.slots))
best_where g s a c k h transport parent true e =
    let w = world_of g in
    let l = s.ledger in
    sym (ap (λ xs. option_map (λ (x : Slot). x.id) (least (λ x y. is_better l transport x.id y.id) xs)) (filter_none (λ (x : Slot). is_candidate_by c w l transport parent x.id)
    (λ x. ap (λ b. not b && list_any (id_eq x.id) (ids_behind parent (line_of l transport)) && (c.deliveries_of x.id transport == 0) && can_start w l transport x.id && pays_by c w l transport parent (job_left l x.id transport)) e)
    s.slots))
best_where g s a c k h transport parent false e =
    let w = world_of g in
    let l = s.ledger in
    let kept : Slot → Bool = is_candidate_slot g s a transport (ids_behind parent (line_of l transport)) (standing_in s a parent transport) in
    ap (option_map (λ (x : Slot). x.id)) (least-same (is_better_slot s transport) (λ x y. is_better l transport x.id y.id) (better_same s k transport) (filter kept s.slots)
    ∙ ap (least (λ x y. is_better l transport x.id y.id)) (filter-same kept (λ x. is_candidate_by c w l transport parent x.id) (candidate_same g s a c k h transport parent e) s.slots))

pub best_same : (g : Given) (s : State) (a : Accounts) (c : Counts) → IsCounted s → AreAccounts a c → (transport : ℕ) (parent : Id) →
    option_map (λ (x : Slot). x.id) (best_in g s a transport parent) ≡ best_by c (world_of g) s.ledger transport parent
best_same g s a c k h transport parent =
    best_where g s a c k h transport parent (g.settings.slot_cost == 0) refl ∙ sym (best_slots g s c k transport parent)
