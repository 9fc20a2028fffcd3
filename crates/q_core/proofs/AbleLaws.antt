-- Which messages can start, by the peers and the sites that are known.
use Rattle.std.proofs.Common.{◌≡◌, ◌∙◌, ap, Bool, cond, false, find, List, [], ◌∷◌, refl, Some, true, ℕ}
use Rattle.std.proofs.lemmas.Grind.{common_steps}
use Rattle.std.proofs.Common.{arith}
use Rattle.std.specs.List.{list_any}
use Rattle.std.specs.Prelude.{◌&&◌, ◌==◌, ◌||◌, nat_lt}
use Rattle.q_core.proofs.PeerTies.{any_peer}
use Rattle.q_core.proofs.SiteViews.{room_known}
use Rattle.q_core.specs.Choosing.{current_in}
use Rattle.q_core.specs.declared.state.Core.TheInside.{Inside}
use Rattle.q_core.specs.Starting.{can_start_in, flights_at, has_room_in, rows_for}
use Rattle.q_core.specs.Ties.{ArePeersTied, AreSitesTied}
use Rattle.q_core.specs.View.{state_of}
use Rattle.q_jobs.specs.declared.job.Job.{Job}
use Rattle.q_model.specs.declared.id.Id.{Id}
use Rattle.q_model.specs.declared.rows.Row.{Row}
use Rattle.q_model.specs.Ids.{id_eq}
use Rattle.q_held.specs.Held.{rows_of}
use Rattle.q_rounds.specs.declared.peer.PeerKey.{PeerKey}
use Rattle.q_rounds.specs.Rounds.{has_space_at}
use Rattle.q_turns.specs.Turns.{AreApart, HaveJobs, is_able, line_at}

any_same : {X : Type 0} (p q : X → Bool) → ((x : X) → p x ≡ q x) → (xs : List X) → list_any p xs ≡ list_any q xs
any_same p q same [] = refl
any_same p q same (x ∷ xs) = ap (λ b. b || list_any p xs) (same x) ∙ ap (λ b. q x || b) (any_same p q same xs)

pub find_same : {X : Type 0} (p q : X → Bool) → ((x : X) → p x ≡ q x) → (xs : List X) → find p xs ≡ find q xs
find_same p q same [] = refl
find_same p q same (x ∷ xs) = ap (λ b. cond b (Some x) (find p xs)) (same x) ∙ ap (λ o. cond (q x) (Some x) o) (find_same p q same xs)

row_same : (a b n s h : Bool) → (b ≡ true → n ≡ true) → s ≡ h → ((a && b) && s) ≡ (a && b && (n && h))
row_same false b n s h process room = refl
row_same true false n s h process room = refl
row_same true true true s h process room = room
row_same true true false s h process room = let some = process refl in cc

-- Of the parts of a core.
module _ (a : Inside) (sites : AreSitesTied a.sites.items (rows_of a.waiting.items) a.flights.items) (peers : ArePeersTied a.schedule.peers (rows_of a.waiting.items)) (apart : AreApart a.schedule.peers) (jobs : HaveJobs a.schedule.lines a.schedule.peers)
    (t : ℕ) (process : nat_lt (flights_at (state_of a) t) (state_of a).params.process_limit ≡ true) where
  has_process : (r : Row) → (r.site.transport == t) ≡ true → nat_lt (flights_at (state_of a) r.site.transport) (state_of a).params.process_limit ≡ true
  has_process r at = let same : r.site.transport ≡ t = grind (arith, common_steps, at) in ap (λ u. nat_lt (flights_at (state_of a) u) (state_of a).params.process_limit) same ∙ process

  pub row_known : (id : Id) (r : Row) → ((id_eq r.id id && (r.site.transport == t)) && has_space_at a.sites.items r.site) ≡ rows_for (state_of a) id t r
  row_known id r =
      row_same (id_eq r.id id) (r.site.transport == t) (nat_lt (flights_at (state_of a) r.site.transport) (state_of a).params.process_limit) (has_space_at a.sites.items r.site) (has_room_in (state_of a) r.site) (has_process r)
      (room_known a.flights.items r.site a.sites.items sites.busy)

  pub able_known : (id : Id) → is_able a.sites.items a.schedule.peers t id ≡ can_start_in (state_of a) t id
  able_known id =
      any_peer a.schedule.lines a.schedule.peers (rows_of a.waiting.items) apart jobs peers (λ (k : PeerKey). (id_eq k.id id && (k.site.transport == t)) && has_space_at a.sites.items k.site)
      ∙ any_same (λ (r : Row). (id_eq r.id id && (r.site.transport == t)) && has_space_at a.sites.items r.site) (rows_for (state_of a) id t) (row_known id) (rows_of a.waiting.items)

  pub current_known : find (λ (j : Job). is_able a.sites.items a.schedule.peers t j.id) (line_at t a.schedule.lines) ≡ current_in (state_of a) t
  current_known = find_same (λ (j : Job). is_able a.sites.items a.schedule.peers t j.id) (λ (j : Job). can_start_in (state_of a) t j.id) (λ j. able_known j.id) (line_at t a.schedule.lines)
