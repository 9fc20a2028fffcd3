-- What is known before any row is looked at.
use Rattle.std.proofs.Common.{◌≡◌, ℕ, Bool, true, false, cond, List, [], ◌∷◌, refl, sym, ap, ◌∙◌, arith, Option, Some, None, not}
use Rattle.std.proofs.lemmas.Bool.{and_from}
use Rattle.std.proofs.lemmas.Grind.{common_steps}
use Rattle.std.specs.List.{list_any}
use Rattle.std.specs.Option.{option_map_or}
use Rattle.std.specs.Prelude.{◌&&◌, ◌==◌, ◌||◌, find, nat_lt}
use Rattle.q_core.proofs.Firsts.{least_none}
use Rattle.q_core.proofs.ListLaws.{find-any, find-passes}
use Rattle.q_core.specs.Choosing.{current_in, jobs_at}
use Rattle.q_core.specs.Held.{record_in, is_dead_in}
use Rattle.q_core.specs.Starting.{can_start_in, flights_at, has_room_in, last_start_in, next_row_in, rows_for}
use Rattle.q_jobs.specs.declared.job.Job.{Job}
use Rattle.q_core.specs.declared.state.Core.{Core}
use Rattle.q_core.specs.UsedSites.{is_dead_with, waits_at_in}
use Rattle.q_model.proofs.IdLaws.{site_eq-refl, site_eq-true}
use Rattle.q_model.specs.declared.id.Id.{Id}
use Rattle.q_model.specs.declared.rows.Row.{Row}
use Rattle.q_model.specs.Sites.{site_eq}
use Rattle.q_model.specs.Ids.{id_eq}
use Rattle.q_model.specs.SiteRecords.{is_alive}
use Rattle.q_model.specs.Values.{SiteRecord}

any_of_none : {X : Type 0} (p : X → Bool) → ((x : X) → p x ≡ false) → (xs : List X) → list_any p xs ≡ false
any_of_none p h [] = refl
any_of_none p h (x ∷ xs) = ap (λ b. b || list_any p xs) (h x) ∙ any_of_none p h xs

find_of_none : {X : Type 0} (p : X → Bool) → ((x : X) → p x ≡ false) → (xs : List X) → find p xs ≡ None
find_of_none p h [] = refl
find_of_none p h (x ∷ xs) = ap (λ b. cond b (Some x) (find p xs)) (h x) ∙ find_of_none p h xs

no_row : (a b p q : Bool) → (b ≡ true → p ≡ false) → (a && b && (p && q)) ≡ false
no_row false b p q h = refl
no_row true false p q h = refl
no_row true true false q h = refl
no_row true true true q h = let bad = h refl in cc

-- no row is startable where the transport has no process left
no_process_row : (c : Core) (transport : ℕ) (id : Id) → nat_lt (flights_at c transport) c.params.process_limit ≡ false → (r : Row) → rows_for c id transport r ≡ false
no_process_row c transport id h r = no_row (id_eq r.id id) (r.site.transport == transport) (nat_lt (flights_at c r.site.transport) c.params.process_limit) (has_room_in c r.site)
    (λ at. let same : r.site.transport ≡ transport = grind (arith, common_steps, at) in ap (λ t. nat_lt (flights_at c t) c.params.process_limit) same ∙ h)

pub no_start : (c : Core) (transport : ℕ) (id : Id) → nat_lt (flights_at c transport) c.params.process_limit ≡ false → can_start_in c transport id ≡ false
no_start c transport id h = any_of_none (rows_for c id transport) (no_process_row c transport id h) c.waiting

pub no_next_row : (c : Core) (transport : ℕ) (id : Id) → nat_lt (flights_at c transport) c.params.process_limit ≡ false → next_row_in c transport id ≡ None
no_next_row c transport id h = least_none (last_start_in c) (rows_for c id transport) c.waiting (find_of_none (rows_for c id transport) (no_process_row c transport id h) c.waiting)

-- and there is no current job
pub no_process : (c : Core) (transport : ℕ) → nat_lt (flights_at c transport) c.params.process_limit ≡ false → current_in c transport ≡ None
no_process c transport h = find_of_none (λ (j : Job). can_start_in c transport j.id) (λ j. any_of_none (rows_for c j.id transport) (no_process_row c transport j.id h) c.waiting) (jobs_at c transport)

dead_step : (c : Core) (r : Row) (o : Option SiteRecord) (b : Bool) → find (λ (x : Row). is_dead_in c x.site) c.waiting ≡ Some r → record_in c r.site ≡ o → option_map_or (λ d. not (is_alive d.health)) o false ≡ b →
    list_any (is_dead_with c.waiting) c.sites ≡ false → b ≡ false
dead_step c r None b there e k h = sym k
dead_step c r (Some d) false there e k h = refl
dead_step c r (Some d) true there e k h =
    let same : d.site ≡ r.site = site_eq-true d.site r.site (find-passes (λ (d : SiteRecord). site_eq d.site r.site) c.sites d e) in
    let waits : waits_at_in c.waiting d.site ≡ true =
    find-any (λ (x : Row). is_dead_in c x.site) (λ (x : Row). site_eq x.site d.site) c.waiting r there (ap (site_eq r.site) same ∙ site_eq-refl r.site) in
    let bad : true ≡ false = sym (find-any (λ (d : SiteRecord). site_eq d.site r.site) (is_dead_with c.waiting) c.sites d e (and_from (not (is_alive d.health)) (waits_at_in c.waiting d.site) k waits)) ∙ h in cc

-- no row is at a dead site where none waits at one
pub no_dead_row : (c : Core) → list_any (is_dead_with c.waiting) c.sites ≡ false → find (λ (r : Row). is_dead_in c r.site) c.waiting ≡ None
no_dead_row c h = on (find (λ (r : Row). is_dead_in c r.site) c.waiting) refl
  where
    on : (o : Option Row) → find (λ (r : Row). is_dead_in c r.site) c.waiting ≡ o → find (λ (r : Row). is_dead_in c r.site) c.waiting ≡ None
    on None e = e
    on (Some r) e =
        let dead = find-passes (λ (r : Row). is_dead_in c r.site) c.waiting r e in
        let live = dead_step c r (record_in c r.site) (is_dead_in c r.site) e refl refl h in
        let bad : true ≡ false = sym dead ∙ live in cc
