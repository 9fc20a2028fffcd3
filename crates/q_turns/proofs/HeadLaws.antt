-- The ticket of a peer in the lane of its site.
use Rattle.std.proofs.Common.{◌≡◌, ◌∙◌, ◌∷◌, ◌<◌, ◌≤◌, [], ap, arith, Bool, false, length, List, None, Option, option_map, refl, Some, subst, suc, sym, true, zero, ℕ}
use Rattle.std.proofs.lemmas.Bool.{both_ways, eq-eqb}
use Rattle.std.specs.List.{list_any}
use Rattle.std.specs.Prelude.{◌==◌, find, IfSome, option_and_then, slice_get}
use Rattle.q_heads.proofs.Standing.{none_found}
use Rattle.q_heads.specs.Lanes.{class_of, Lanes, stands}
use Rattle.q_jobs.specs.Jobs.{Jobs, rank_of}
use Rattle.q_keyed.proofs.Values.{held_item}
use Rattle.q_keyed.specs.Numbered.{AreApart, item_at, Numbered}
use Rattle.q_model.proofs.IdLaws.{site_eq-true}
use Rattle.q_model.specs.Values.{Site}
use Rattle.q_sorted.specs.declared.ticket.Ticket.{Ticket}
use Rattle.q_sorted.specs.Tickets.{is_of}
use Rattle.q_suspended.specs.Suspensions.{is_at}
use Rattle.q_suspended.specs.declared.suspension.Suspension.{Suspension}
use Rattle.q_turns.specs.declared.lane.Lane.{Lane}
use Rattle.q_rounds.specs.declared.peer.Peer.{Peer}
use Rattle.q_turns.specs.Heading.{head_at, head_in, head_with, is_lane_of, lane_of, rank_by}
use Rattle.q_turns.specs.Sound.{AreLaned, AreLanes}
use Rattle.q_turns.specs.Suspending.{class_at, class_in, transport_of}

-- what a ticket tells of its peer
pub record HeadOf (rank : Peer → Option ℕ) (lanes : List (Numbered Lane)) (number : ℕ) (p : Peer) (e : Ticket) : Type 0 where
  pub item : e.item ≡ number
  pub lane : lane_of p.site lanes ≡ Some e.group
  pub ranked : rank p ≡ Some e.key

ranked_step : (rank : Peer → Option ℕ) (lanes : List (Numbered Lane)) (number lane : ℕ) (p : Peer) (e : Ticket) (o : Option ℕ) → rank p ≡ o → lane_of p.site lanes ≡ Some lane → option_map (λ r. head_with lane number r) o ≡ Some e → HeadOf rank lanes number p e
ranked_step rank lanes number lane p e None r l h = absurd cc
ranked_step rank lanes number lane p e (Some k) r l h =
    let same : head_with lane number k ≡ e = cc in
    record {
      item = ap (λ (x : Ticket). x.item) (sym same);
      lane = l ∙ ap (λ (x : Ticket). Some x.group) same;
      ranked = r ∙ ap (λ (x : Ticket). Some x.key) same;
    }

laned_step : (rank : Peer → Option ℕ) (lanes : List (Numbered Lane)) (number : ℕ) (p : Peer) (e : Ticket) (o : Option ℕ) → lane_of p.site lanes ≡ o → option_and_then (λ lane. option_map (λ r. head_with lane number r) (rank p)) o ≡ Some e → HeadOf rank lanes number p e
laned_step rank lanes number p e None l h = absurd cc
laned_step rank lanes number p e (Some lane) l h = ranked_step rank lanes number lane p e (rank p) refl l h

pub head_tells : (rank : Peer → Option ℕ) (lanes : List (Numbered Lane)) (number : ℕ) (p : Peer) (e : Ticket) → head_in rank lanes number p ≡ Some e → HeadOf rank lanes number p e
head_tells rank lanes number p e h = laned_step rank lanes number p e (lane_of p.site lanes) refl h

pub head_made : (rank : Peer → Option ℕ) (lanes : List (Numbered Lane)) (number lane r : ℕ) (p : Peer) → lane_of p.site lanes ≡ Some lane → rank p ≡ Some r → head_in rank lanes number p ≡ Some (head_with lane number r)
head_made rank lanes number lane r p l k =
    ap (option_and_then (λ lane. option_map (λ r. head_with lane number r) (rank p))) l ∙ ap (option_map (λ r. head_with lane number r)) k

none_step : (number : ℕ) (o : Option ℕ) → option_and_then (λ lane. option_map (λ r. head_with lane number r) None) o ≡ None
none_step number None = refl
none_step number (Some lane) = refl

-- without a rank there is none
pub no_rank : (rank : Peer → Option ℕ) (lanes : List (Numbered Lane)) (number : ℕ) (p : Peer) → rank p ≡ None → head_in rank lanes number p ≡ None
no_rank rank lanes number p none =
    ap (λ o. option_and_then (λ lane. option_map (λ r. head_with lane number r) o) (lane_of p.site lanes)) none ∙ none_step number (lane_of p.site lanes)

pub no_lane : (rank : Peer → Option ℕ) (lanes : List (Numbered Lane)) (number : ℕ) (p : Peer) → lane_of p.site lanes ≡ None → head_in rank lanes number p ≡ None
no_lane rank lanes number p none = ap (option_and_then (λ lane. option_map (λ r. head_with lane number r) (rank p))) none

-- one lane and one rank make one ticket
pub head_same : (rank other : Peer → Option ℕ) (lanes others : List (Numbered Lane)) (number : ℕ) (p q : Peer) → lane_of q.site others ≡ lane_of p.site lanes → other q ≡ rank p → head_in other others number q ≡ head_in rank lanes number p
head_same rank other lanes others number p q l r =
    ap (option_and_then (λ lane. option_map (λ r. head_with lane number r) (other q))) l
    ∙ ap (λ o. option_and_then (λ lane. option_map (λ r. head_with lane number r) o) (lane_of p.site lanes)) r

-- The peer under the number of a ticket.
pub record HeadAt (rank : Peer → Option ℕ) (lanes : List (Numbered Lane)) (peers : List (Numbered Peer)) (number : ℕ) (e : Ticket) : Type 0 where
  pub peer : Peer
  pub there : item_at number peers ≡ Some peer
  pub head : HeadOf rank lanes number peer e

at_step : (rank : Peer → Option ℕ) (lanes : List (Numbered Lane)) (peers : List (Numbered Peer)) (number : ℕ) (e : Ticket) (o : Option Peer) → item_at number peers ≡ o → option_and_then (head_in rank lanes number) o ≡ Some e → HeadAt rank lanes peers number e
at_step rank lanes peers number e None there h = absurd cc
at_step rank lanes peers number e (Some p) there h = record { peer = p; there = there; head = head_tells rank lanes number p e h }

pub at_tells : (rank : Peer → Option ℕ) (lanes : List (Numbered Lane)) (peers : List (Numbered Peer)) (number : ℕ) (e : Ticket) → head_at rank lanes peers number ≡ Some e → HeadAt rank lanes peers number e
at_tells rank lanes peers number e h = at_step rank lanes peers number e (item_at number peers) refl h

pub at_is : (rank : Peer → Option ℕ) (lanes : List (Numbered Lane)) (peers : List (Numbered Peer)) (number : ℕ) (o : Option Peer) → item_at number peers ≡ o → head_at rank lanes peers number ≡ option_and_then (head_in rank lanes number) o
at_is rank lanes peers number o there = ap (option_and_then (head_in rank lanes number)) there

each_step : (f g : Peer → Option Ticket) (o : Option Peer) → ((p : Peer) → o ≡ Some p → g p ≡ f p) → option_and_then g o ≡ option_and_then f o
each_step f g None h = refl
each_step f g (Some p) h = h p refl

-- the tickets stay where those of all peers do
pub at_same : (rank other : Peer → Option ℕ) (lanes others : List (Numbered Lane)) (peers : List (Numbered Peer)) (number : ℕ) → ((p : Peer) → item_at number peers ≡ Some p → head_in other others number p ≡ head_in rank lanes number p) →
    head_at other others peers number ≡ head_at rank lanes peers number
at_same rank other lanes others peers number h = each_step (head_in rank lanes number) (head_in other others number) (item_at number peers) h

-- The lane of a site.
lane_at_step : (site : Site) (lane : ℕ) (lanes : List (Numbered Lane)) (y l : Lane) → item_at lane lanes ≡ Some y → is_lane_of site y ≡ true → item_at lane lanes ≡ Some l → l.site ≡ site
lane_at_step site lane lanes y l there is h =
    let some : Some y ≡ Some l = sym there ∙ h in
    let same : y ≡ l = cc in
    ap (λ (x : Lane). x.site) (sym same) ∙ site_eq-true y.site site is

pub lane_named : (site : Site) (lane : ℕ) (lanes : List (Numbered Lane)) (l : Lane) → AreApart lanes → lane_of site lanes ≡ Some lane → item_at lane lanes ≡ Some l → l.site ≡ site
lane_named site lane lanes l apart found h =
    let it = held_item (is_lane_of site) lane lanes apart found in lane_at_step site lane lanes it.0 l it.1 it.2 h

-- the class of a ticket's lane is that of its peer's site
pub lane_class : (class : Site → ℕ) (rank : Peer → Option ℕ) (lanes : List (Numbered Lane)) (peers : List (Numbered Peer)) (heads : Lanes) (number : ℕ) (p : Peer) (e : Ticket) → AreApart lanes → AreLanes class lanes peers heads → HeadOf rank lanes number p e → class_of e.group heads.classes ≡ class p.site
lane_class class rank lanes peers heads number p e apart are head =
    let it = held_item (is_lane_of p.site) e.group lanes apart head.lane in
    (are e.group it.0 it.1).classed ∙ ap class (site_eq-true it.0.site p.site it.2)

-- which is one of its transport
pub lane_transport : (rank : Peer → Option ℕ) (lanes : List (Numbered Lane)) (heads : Lanes) (number : ℕ) (p : Peer) (e : Ticket) → AreApart lanes → AreLaned lanes heads → HeadOf rank lanes number p e → transport_of (class_of e.group heads.classes) ≡ p.site.transport
lane_transport rank lanes heads number p e apart are head =
    let it = held_item (is_lane_of p.site) e.group lanes apart head.lane in
    (are e.group it.0 it.1).1 ∙ ap (λ (s : Site). s.transport) (site_eq-true it.0.site p.site it.2)

class_step : (suspended : Bool) (transport : ℕ) → transport_of (class_in suspended transport) ≡ transport
class_step true transport = omega arith
class_step false transport = omega arith

pub lanes_laned : (suspended : List Suspension) (lanes : List (Numbered Lane)) (peers : List (Numbered Peer)) (heads : Lanes) → AreLanes (class_at suspended) lanes peers heads → AreLaned lanes heads
lanes_laned suspended lanes peers heads are j l h =
    let is = are j l h in (is.below, ap transport_of is.classed ∙ class_step (list_any (is_at l.site) suspended) l.site.transport)

pub head_below : (rank : Peer → Option ℕ) (lanes : List (Numbered Lane)) (heads : Lanes) (number : ℕ) (p : Peer) (e : Ticket) → AreApart lanes → AreLaned lanes heads → head_in rank lanes number p ≡ Some e → e.group < heads.lanes
head_below rank lanes heads number p e apart are h =
    let it = held_item (is_lane_of p.site) e.group lanes apart (head_tells rank lanes number p e h).lane in
    (are e.group it.0 it.1).0

below_step : (rank : Peer → Option ℕ) (lanes : List (Numbered Lane)) (heads : Lanes) (number : ℕ) (p : Peer) (o : Option Ticket) → AreApart lanes → AreLaned lanes heads → head_in rank lanes number p ≡ o → IfSome o (λ e. e.group < heads.lanes)
below_step rank lanes heads number p None apart are h = tt
below_step rank lanes heads number p (Some e) apart are h = head_below rank lanes heads number p e apart are h

pub heads_below : (rank : Peer → Option ℕ) (lanes : List (Numbered Lane)) (heads : Lanes) (number : ℕ) (p : Peer) (o : Option Ticket) → AreApart lanes → AreLaned lanes heads → o ≡ head_in rank lanes number p → IfSome o (λ e. e.group < heads.lanes)
heads_below rank lanes heads number p o apart are is = below_step rank lanes heads number p o apart are (sym is)

pub if_some : (o : Option Ticket) (P : Type 0) → P → IfSome o (λ e. P)
if_some None P h = tt
if_some (Some e) P h = h

-- lanes look at classes alone
pub lanes_alike : (class : Site → ℕ) (lanes : List (Numbered Lane)) (ks : List (Numbered Peer)) (before after : Lanes) → after.lanes ≡ before.lanes → after.classes ≡ before.classes → AreLanes class lanes ks before → AreLanes class lanes ks after
lanes_alike class lanes ks before after count classes are j l h =
    let is = are j l h in
    record { below = subst (λ m. j < m) (sym count) is.below; classed = ap (class_of j) classes ∙ is.classed; used = is.used }

pub laned_alike : (lanes : List (Numbered Lane)) (before after : Lanes) → after.lanes ≡ before.lanes → after.classes ≡ before.classes → AreLaned lanes before → AreLaned lanes after
laned_alike lanes before after count classes are j l h =
    let is = are j l h in (subst (λ m. j < m) (sym count) is.0, ap (λ cs. transport_of (class_of j cs)) classes ∙ is.1)

-- a lane with a ticket isn't empty
pub not_empty : (e : Ticket) (lane : ℕ) (items : List Ticket) → stands e items ≡ true → e.group ≡ lane → find (is_of lane) items ≡ None → ⊥
not_empty e lane items there same none = both_ways (e.group == lane) (none_found (is_of lane) e items none there) (eq-eqb e.group lane same)

-- Ranks.
pub past_lines : (t : ℕ) (ls : List Jobs) → length ls ≤ t → slice_get ls t ≡ None
past_lines t [] h = refl
past_lines zero (l ∷ ls) h = absurd (omega (arith, h))
past_lines (suc t) (l ∷ ls) h = past_lines t ls (omega (arith, h))

pub no_line : (ls : List Jobs) (p : Peer) → length ls ≤ p.site.transport → rank_by ls p ≡ None
no_line ls p h = ap (option_and_then (λ (l : Jobs). rank_of p.id l.jobs l.ranks)) (past_lines p.site.transport ls h)
