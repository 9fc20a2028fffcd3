-- The row of a message that starts next is the first of the peer that is next.
use Rattle.std.proofs.Common.{◌≡◌, ◌∙◌, ap, Bool, cond, false, filter, find, List, [], ◌∷◌, None, Option, refl, Some, sym, true, ℕ}
use Rattle.std.specs.List.{list_any}
use Rattle.std.specs.Option.{option_map_or}
use Rattle.std.specs.Prelude.{nat_lt}
use Rattle.q_core.proofs.AbleLaws.{row_known}
use Rattle.q_core.proofs.PeerTies.{name_of}
use Rattle.q_core.proofs.RowTurns.{filter_same, last_key, may_start, next_is, next_none, next_of_rows, sooner}
use Rattle.q_core.proofs.ServedLaws.{last_served}
use Rattle.q_core.specs.declared.state.Core.TheInside.{Inside}
use Rattle.q_core.specs.Starting.{flights_at, last_start_in, next_row_in, rows_for, sent_before}
use Rattle.q_core.specs.Ties.{AreSitesTied, AreTurnsTied, is_row_of}
use Rattle.q_core.specs.View.{state_of}
use Rattle.q_model.specs.declared.id.Id.{Id}
use Rattle.q_model.specs.declared.rows.Row.{Row}
use Rattle.q_model.specs.Lists.{least}
use Rattle.q_held.specs.Held.{rows_of}
use Rattle.q_rounds.specs.declared.peer.Peer.{Peer}
use Rattle.q_rounds.specs.Rounds.{AreStartsApart, is_passed, next_in}
use Rattle.q_turns.specs.Turns.{AreApart, HaveJobs}

least_step : {X : Type 0} (f g : X → X → Bool) → ((x y : X) → f x y ≡ g x y) → (x : X) (o : Option X) → Some (option_map_or (λ y. cond (f y x) y x) o x) ≡ Some (option_map_or (λ y. cond (g y x) y x) o x)
least_step f g same x None = refl
least_step f g same x (Some y) = ap (λ b. Some (cond b y x)) (same y x)

least_same : {X : Type 0} (f g : X → X → Bool) → ((x y : X) → f x y ≡ g x y) → (xs : List X) → least f xs ≡ least g xs
least_same f g same [] = refl
least_same f g same (x ∷ xs) = ap (λ o. Some (option_map_or (λ y. cond (f y x) y x) o x)) (least_same f g same xs) ∙ least_step f g same x (least g xs)

-- Of the parts of a core.
module _ (a : Inside) (sites : AreSitesTied a.sites.items (rows_of a.waiting.items) a.flights.items) (tie : AreTurnsTied a.schedule.peers (rows_of a.waiting.items) a.starts) (apart : AreApart a.schedule.peers) (jobs : HaveJobs a.schedule.lines a.schedule.peers)
    (t : ℕ) (process : nat_lt (flights_at (state_of a) t) (state_of a).params.process_limit ≡ true) (id : Id) where
  abbrev rows : List Row
  rows = rows_of a.waiting.items

  abbrev by_peers : Option Row
  by_peers = next_of_rows a.sites.items a.schedule.lines a.schedule.peers rows a.starts apart jobs tie t id

  last_known : (r : Row) → last_key a.sites.items a.schedule.lines a.schedule.peers rows a.starts apart jobs tie t id (name_of r) ≡ last_start_in (state_of a) r
  last_known r = sym (last_served r.id r.site a.schedule.peers apart)

  next_known : by_peers ≡ next_row_in (state_of a) t id
  next_known =
      ap (least (sooner a.sites.items a.schedule.lines a.schedule.peers rows a.starts apart jobs tie t id))
      (filter_same (λ r. may_start a.sites.items a.schedule.lines a.schedule.peers rows a.starts apart jobs tie t id (name_of r)) (rows_for (state_of a) id t) (row_known a sites tie.counts apart jobs t process id) rows)
      ∙ least_same (sooner a.sites.items a.schedule.lines a.schedule.peers rows a.starts apart jobs tie t id) (sent_before (state_of a))
      (λ x y. ap (λ n. nat_lt n (last_key a.sites.items a.schedule.lines a.schedule.peers rows a.starts apart jobs tie t id (name_of y))) (last_known x) ∙ ap (nat_lt (last_start_in (state_of a) x)) (last_known y))
      (filter (rows_for (state_of a) id t) rows)

  pub row_chosen : AreStartsApart a.schedule.peers → list_any is_passed a.schedule.peers ≡ false → (p : Peer) → next_in a.sites.items t id a.schedule.peers ≡ Some p → find (is_row_of p) rows ≡ next_row_in (state_of a) t id
  row_chosen starts unpassed p next = sym (next_is a.sites.items a.schedule.lines a.schedule.peers rows a.starts apart jobs tie t id starts unpassed p next) ∙ next_known

  pub none_chosen : next_in a.sites.items t id a.schedule.peers ≡ None → next_row_in (state_of a) t id ≡ None
  none_chosen none = sym next_known ∙ next_none a.sites.items a.schedule.lines a.schedule.peers rows a.starts apart jobs tie t id none
