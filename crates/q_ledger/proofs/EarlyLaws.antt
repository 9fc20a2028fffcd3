-- What is known before any row is looked at.
use Rattle.std.proofs.Common.{◌≡◌, ℕ, Bool, true, false, cond, List, [], ◌∷◌, refl, ap, ◌∙◌, arith, Some, None}
use Rattle.std.proofs.lemmas.Grind.{common_steps}
use Rattle.std.specs.List.{list_any}
use Rattle.std.specs.Option.{option_map_or}
use Rattle.std.specs.Prelude.{◌&&◌, ◌==◌, ◌||◌, find, nat_lt}
use Rattle.q_model.specs.Deliveries.{busy, flights_of}
use Rattle.q_model.specs.Ids.{id_eq}
use Rattle.q_model.specs.Ledger.{Ledger}
use Rattle.q_model.specs.Settings.{World}
use Rattle.q_model.specs.SiteRecords.{is_awake, record_of}
use Rattle.q_model.specs.Startable.{can_start, current, is_startable, line_of}
use Rattle.q_model.specs.declared.id.Id.{Id}
use Rattle.q_model.specs.declared.rows.Row.{Row}

any_of_none : {X : Type 0} (p : X → Bool) → ((x : X) → p x ≡ false) → (xs : List X) → list_any p xs ≡ false
any_of_none p h [] = refl
any_of_none p h (x ∷ xs) = ap (λ b. b || list_any p xs) (h x) ∙ any_of_none p h xs

find_of_none : {X : Type 0} (p : X → Bool) → ((x : X) → p x ≡ false) → (xs : List X) → find p xs ≡ None
find_of_none p h [] = refl
find_of_none p h (x ∷ xs) = ap (λ b. cond b (Some x) (find p xs)) (h x) ∙ find_of_none p h xs

no_row : (a b p q : Bool) → (b ≡ true → p ≡ false) → (a && b && (p && q)) ≡ false
no_row false b p q h = refl
no_row true false p q h = refl
no_row true true false q h = refl
no_row true true true q h = let bad = h refl in cc

-- no row is startable where the transport has no process left
no_process_row : (w : World) (l : Ledger) (transport : ℕ) (id : Id) → nat_lt (flights_of l transport) w.settings.process_limit ≡ false → (r : Row) →
    (id_eq r.id id && (r.site.transport == transport) && is_startable w l r) ≡ false
no_process_row w l transport id h r =
    no_row (id_eq r.id id) (r.site.transport == transport) (nat_lt (flights_of l r.site.transport) w.settings.process_limit)
    (option_map_or (λ s. is_awake s && nat_lt (busy l r.site) s.window) (record_of l r.site) false)
    (λ at. let same : r.site.transport ≡ transport = grind (arith, common_steps, at) in ap (λ t. nat_lt (flights_of l t) w.settings.process_limit) same ∙ h)

-- and there is no current job
pub no_process : (w : World) (l : Ledger) (transport : ℕ) → nat_lt (flights_of l transport) w.settings.process_limit ≡ false → current w l transport ≡ None
no_process w l transport h = find_of_none (can_start w l transport) (λ id. any_of_none _ (no_process_row w l transport id h) l.waiting) (line_of l transport)
