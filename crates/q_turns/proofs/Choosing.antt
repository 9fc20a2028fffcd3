-- The head whose peer may be sent is that of the first job that can be.
use Rattle.std.proofs.Common.{◌≡◌, ◌∙◌, ◌∷◌, ◌+◌, ◌*◌, ◌<◌, ◌≤◌, [], ap, arith, Bool, cond, false, inl, inr, length, List, None, Option, option_map, refl, Some, subst, sym, true, ℕ}
use Rattle.std.proofs.lemmas.Bool.{and_from, and_parts, both_ways, eq-eqb, eqb-true, false_from_ne_true, or_cases, or_left, or_right}
use Rattle.std.proofs.lemmas.Bool.Decides.{nat_tests}
use Rattle.std.specs.List.{list_any}
use Rattle.std.specs.Option.{is_some, MatchOption, option_map_or}
use Rattle.std.specs.Prelude.{◌==◌, ◌&&◌, filter, find, option_and_then, slice_get}
use Rattle.q_dest.specs.declared.dest.Dest.{Dest}
use Rattle.q_heads.proofs.Foremost.{ahead_along, head_stands, not_ahead_of_itself}
use Rattle.q_heads.proofs.Standing.{found}
use Rattle.q_heads.proofs.Walk.{fail_ahead_of_first, fail_ahead_of_next, first_is_head, has_head, next_is_head, no_head, none_passes, not_ahead_of_head}
use Rattle.q_heads.specs.Lanes.{class_of, foremost, goes_ahead, heads_behind, heads_of, Lanes, stands}
use Rattle.q_heads.specs.Walking.{FailAhead, IsHeadOf}
use Rattle.q_jobs.proofs.LineRanks.{ranked_with_job}
use Rattle.q_jobs.proofs.RankedChoice.{found_own, least_is_first}
use Rattle.q_jobs.specs.declared.job.Job.{Job}
use Rattle.q_jobs.specs.Jobs.{AreOfOthers, AreRising, is_job_of, Jobs, rank_of}
use Rattle.q_keyed.proofs.Values.{held_item}
use Rattle.q_keyed.specs.Numbered.{AreApart, has_number, item_at, Numbered, values_of}
use Rattle.q_model.proofs.EachLaws.{find-passes}
use Rattle.q_model.proofs.IdLaws.{id_eq-refl, id_eq-true, site_eq-true}
use Rattle.q_model.specs.declared.id.Id.{Id}
use Rattle.q_model.specs.Ids.{id_eq}
use Rattle.q_model.specs.Values.{Site}
use Rattle.q_sorted.specs.declared.ticket.Ticket.{Ticket}
use Rattle.q_sorted.specs.Tickets.{is_of, Rises}
use Rattle.q_suspended.specs.declared.suspension.Suspension.{Suspension}
use Rattle.q_turns.specs.declared.lane.Lane.{Lane}
use Rattle.q_rounds.specs.declared.peer.Peer.{Peer}
use Rattle.q_turns.specs.Heading.{head_at, head_with, is_lane_of, lane_of, rank_at, rank_by, sent_in}
use Rattle.q_turns.specs.Sound.{ArePlaced}
use Rattle.q_turns.specs.Suspending.{class_at, class_in, HaveNoSpace, transport_of}
use Rattle.q_rounds.specs.Rounds.{has_space_at, is_peer_for}
use Rattle.q_turns.specs.Turns.{is_able}
use Rattle.q_rounds.proofs.Fewer.{fewer_pass}
use Rattle.q_rounds.proofs.Entered.{entered, ticket_own}
use Rattle.q_turns.proofs.HeadLaws.{at_is, at_tells, head_made, HeadAt, lane_class, lane_transport, lanes_laned}
use Rattle.q_turns.proofs.LaneLaws.{some_from}
use Rattle.q_turns.proofs.SuspensionLaws.{not_suspended}
use Rattle.q_rounds.proofs.Lookups.{here_at, later_at}

-- A peer that passes a test, under its number.
pub record HasPeer (q : Peer → Bool) (ks : List (Numbered Peer)) : Type 0 where
  pub number : ℕ
  pub peer : Peer
  pub there : item_at number ks ≡ Some peer
  pub passes : q peer ≡ true

has_peer : (q : Peer → Bool) (ks : List (Numbered Peer)) → AreApart ks → list_any q (values_of ks) ≡ true → HasPeer q ks
has_peer q [] apart h = absurd cc
has_peer q (k ∷ ks) apart h =
    elim (or_cases (q k.item) (list_any q (values_of ks)) h) [
      | inl here ↦ record { number = k.number; peer = k.item; there = here_at k ks; passes = here }
      | inr later ↦
          let it = has_peer q ks apart.1 later in
          record { number = it.number; peer = it.peer; there = later_at it.number it.peer k ks apart.0 it.there; passes = it.passes }
    ]

any_step : (q : Peer → Bool) (m : ℕ) (p : Peer) (k : Numbered Peer) (ks : List (Numbered Peer)) (t : Bool) → option_map (λ (k : Numbered Peer). k.item) (cond t (Some k) (find (has_number m) ks)) ≡ Some p → q p ≡ true → (item_at m ks ≡ Some p → list_any q (values_of ks) ≡ true) → list_any q (values_of (k ∷ ks)) ≡ true
any_step q m p k ks true there passes rest = let same : k.item ≡ p = cc in or_left (q k.item) (list_any q (values_of ks)) (ap q same ∙ passes)
any_step q m p k ks false there passes rest = or_right (q k.item) (list_any q (values_of ks)) (rest there)

pub any_peer : (q : Peer → Bool) (m : ℕ) (p : Peer) (ks : List (Numbered Peer)) → item_at m ks ≡ Some p → q p ≡ true → list_any q (values_of ks) ≡ true
any_peer q m p [] there passes = absurd cc
any_peer q m p (k ∷ ks) there passes = any_step q m p k ks (k.number == m) there passes (λ h. any_peer q m p ks h passes)

sent_step : (ds : List Dest) (p : Peer) (id : Id) (t : Bool) → has_space_at ds p.site ≡ t → cond t (Some p.id) None ≡ Some id → (has_space_at ds p.site ≡ true) × (p.id ≡ id)
sent_step ds p id true e h = let same : p.id ≡ id = cc in (e, same)
sent_step ds p id false e h = absurd cc

-- the peer of a ticket may be sent
abbrev pub sends : List Dest → List (Numbered Peer) → Ticket → Bool
sends ds ks x = is_some (sent_in ds x.item ks)

-- the transport of a class that is walked along
open_transport : (t : ℕ) → transport_of (t * 2) ≡ t
open_transport t = omega arith

abbrev is_sent : List Dest → Id → ℕ → Peer → Bool
is_sent ds id t p = is_peer_for id t p && has_space_at ds p.site

module _ (ds : List Dest) (lines : List Jobs) (t : ℕ) (l : Jobs) (at_line : slice_get lines t ≡ Some l) (below : t < length lines) (apart : AreOfOthers l.jobs) (each : length l.ranks ≡ length l.jobs) (rise : AreRising l.ranks)
    (lanes : List (Numbered Lane)) (lanes_apart : AreApart lanes) (ks : List (Numbered Peer)) (peers_apart : AreApart ks) (s : Lanes) (rising : Rises s.items) (suspended : List Suspension) (shut : HaveNoSpace ds suspended) (places : ArePlaced (class_at suspended) (rank_by lines) (length lines) lanes ks s) where
  abbrev passes : Ticket → Bool
  passes x = sends ds ks x

  abbrev able : Job → Bool
  able j = is_able ds (values_of ks) t j.id

  line_rank : (id : Id) → rank_at lines t id ≡ rank_of id l.jobs l.ranks
  line_rank id = ap (option_and_then (λ (l : Jobs). rank_of id l.jobs l.ranks)) at_line

  own : (x : Ticket) → stands x s.items ≡ true → HeadAt (rank_by lines) lanes ks x.item x
  own x there = at_tells (rank_by lines) lanes ks x.item x (ticket_own (head_at (rank_by lines) lanes ks) s.items x places.placed there)

  passes_from : (x : Ticket) (p : Peer) → item_at x.item ks ≡ Some p → has_space_at ds p.site ≡ true → passes x ≡ true
  passes_from x p there space =
      ap (λ o. is_some (option_and_then (λ (p : Peer). cond (has_space_at ds p.site) (Some p.id) None) o)) there
      ∙ ap (λ b. is_some (cond b (Some p.id) None)) space

  one_site : (a b : Site) (lane : ℕ) → lane_of a lanes ≡ Some lane → lane_of b lanes ≡ Some lane → a ≡ b
  one_site a b lane h k =
      let it = held_item (is_lane_of a) lane lanes lanes_apart h in
      let other = held_item (is_lane_of b) lane lanes lanes_apart k in
      let some : Some it.0 ≡ Some other.0 = sym it.1 ∙ other.1 in
      let same : it.0 ≡ other.0 = cc in
      sym (site_eq-true it.0.site a it.2) ∙ ap (λ (y : Lane). y.site) same ∙ site_eq-true other.0.site b other.2

  -- the class of a lane whose site has space
  open_class : (site : Site) → has_space_at ds site ≡ true → class_at suspended site ≡ site.transport * 2
  open_class site space = ap (λ b. class_in b site.transport) (not_suspended ds site space suspended shut)

  -- a head that passes, of no greater rank
  record HasAble (r : ℕ) : Type 0 where
    head : Ticket
    is : IsHeadOf (t * 2) s head
    sends : passes head ≡ true
    low : head.key ≤ r

  behind_key : (e h : Ticket) → goes_ahead e h ≡ false → h.key ≤ e.key
  behind_key e h k = grind (arith, nat_tests)

  able_of : (m r lane : ℕ) (q : Peer) → item_at m ks ≡ Some q → q.site.transport ≡ t → has_space_at ds q.site ≡ true → rank_by lines q ≡ Some r → lane_of q.site lanes ≡ Some lane → HasAble r
  able_of m r lane q there at space rank laned =
      let e = head_with lane m r in
      let stood = entered (head_at (rank_by lines) lanes ks) s.items m e places.placed (at_is (rank_by lines) lanes ks m (Some q) there ∙ head_made (rank_by lines) lanes m lane r q laned rank) refl in
      let mine = own e stood in
      let of : class_of lane s.classes ≡ t * 2 = lane_class (class_at suspended) (rank_by lines) lanes ks s m q e lanes_apart places.lanes_are (record { item = refl; lane = laned; ranked = rank }) ∙ open_class q.site space ∙ ap (λ n. n * 2) at in
      let has = has_head (t * 2) s e of rising stood in
      let its = own has.head (found (is_of has.head.group) has.head s.items has.is.first).0 in
      let site : its.peer.site ≡ q.site = one_site its.peer.site q.site lane (its.head.lane ∙ ap Some has.lane) laned in
      record {
        head = has.head;
        is = has.is;
        sends = passes_from has.head its.peer its.there (ap (has_space_at ds) site ∙ space);
        low = behind_key e has.head (not_ahead_of_head (t * 2) s e has);
      }

  -- where a message can be sent, whose job has this rank
  able_from : (id : Id) (r : ℕ) → is_able ds (values_of ks) t id ≡ true → rank_of id l.jobs l.ranks ≡ Some r → HasAble r
  able_from id r h rank =
      let it = has_peer (is_sent ds id t) ks peers_apart h in
      let outer = and_parts (is_peer_for id t it.peer) (has_space_at ds it.peer.site) it.passes in
      let inner = and_parts (id_eq it.peer.id id) (it.peer.site.transport == t) outer.0 in
      let at : it.peer.site.transport ≡ t = eqb-true it.peer.site.transport t inner.1 in
      let ranked : rank_by lines it.peer ≡ Some r = ap (λ n. rank_at lines n it.peer.id) at ∙ ap (rank_at lines t) (id_eq-true it.peer.id id inner.0) ∙ line_rank id ∙ rank in
      let lane = some_from (lane_of it.peer.site lanes) (places.laned it.number it.peer it.there (subst (λ n. n < length lines) (sym at) below)) in
      able_of it.number r lane.0 it.peer it.there at outer.1 ranked lane.1

  job_rank : (id : Id) (j : Job) → find (is_job_of id) l.jobs ≡ Some j → (r : ℕ) × (rank_of id l.jobs l.ranks ≡ Some r)
  job_rank id j h = some_from (rank_of id l.jobs l.ranks) (ranked_with_job id l.jobs l.ranks each ∙ ap is_some h)

  -- no head passes, so no job can be sent anything
  none_step : (o : Option Job) → find able l.jobs ≡ o → ((x : Ticket) → IsHeadOf (t * 2) s x → passes x ≡ false) → o ≡ None
  none_step None h fails = refl
  none_step (Some j) h fails =
      let rank = job_rank j.id j (found_own able j l.jobs apart h) in
      let has = able_from j.id rank.0 (find-passes able l.jobs j h) rank.1 in
      absurd (both_ways (passes has.head) (fails has.head has.is) has.sends)

  pub none_able : ((x : Ticket) → IsHeadOf (t * 2) s x → passes x ≡ false) → find able l.jobs ≡ None
  none_able fails = none_step (find able l.jobs) refl fails

  -- The head passes, and none ahead of it does.
  module _ (h : Ticket) (is : IsHeadOf (t * 2) s h) (fail : FailAhead (t * 2) s passes h) (id : Id) (sent : sent_in ds h.item ks ≡ Some id) where
    mine : HeadAt (rank_by lines) lanes ks h.item h
    mine = own h (found (is_of h.group) h s.items is.first).0

    parts : (has_space_at ds mine.peer.site ≡ true) × (mine.peer.id ≡ id)
    parts =
        sent_step ds mine.peer id (has_space_at ds mine.peer.site) refl
        (ap (option_and_then (λ (p : Peer). cond (has_space_at ds p.site) (Some p.id) None)) (sym mine.there) ∙ sent)

    its_transport : mine.peer.site.transport ≡ t
    its_transport =
        sym (lane_transport (rank_by lines) lanes s h.item mine.peer h lanes_apart (lanes_laned suspended lanes ks s places.lanes_are) mine.head)
        ∙ ap transport_of is.of_class ∙ open_transport t

    rank : rank_of id l.jobs l.ranks ≡ Some h.key
    rank = sym (ap (λ n. rank_at lines n mine.peer.id) its_transport ∙ ap (rank_at lines t) parts.1 ∙ line_rank id) ∙ mine.head.ranked

    can : is_able ds (values_of ks) t id ≡ true
    can = any_peer (is_sent ds id t) h.item mine.peer ks mine.there
        (and_from (is_peer_for id t mine.peer) (has_space_at ds mine.peer.site)
        (and_from (id_eq mine.peer.id id) (mine.peer.site.transport == t) (ap (λ i. id_eq i id) parts.1 ∙ id_eq-refl id) (eq-eqb mine.peer.site.transport t its_transport)) parts.0)

    lowest : (r : ℕ) → HasAble r → h.key ≤ r
    lowest r has =
        let not_ahead = false_from_ne_true (goes_ahead has.head h) (λ ahead. both_ways (passes has.head) (fail.fails has.head has.is ahead) has.sends) in
        let key = behind_key has.head h not_ahead in omega (arith, key, has.low)

    first_step : (o : Option Job) → find (is_job_of id) l.jobs ≡ o → is_some o ≡ true → o ≡ find able l.jobs
    first_step None found there = absurd cc
    first_step (Some j) found there =
        let own : j.id ≡ id = id_eq-true j.id id (find-passes (is_job_of id) l.jobs j found) in
        sym (least_is_first able j h.key l.jobs l.ranks apart rise
        (ap (λ i. find (is_job_of i) l.jobs) own ∙ found)
        (ap (is_able ds (values_of ks) t) own ∙ can)
        (ap (λ i. rank_of i l.jobs l.ranks) own ∙ rank)
        (λ k r there passes ranked. lowest r (able_from k.id r passes ranked)))

    -- its message's job is the first that can be sent something
    pub job_first : find (is_job_of id) l.jobs ≡ find able l.jobs
    job_first = first_step (find (is_job_of id) l.jobs) refl (sym (ranked_with_job id l.jobs l.ranks each) ∙ ap is_some rank)

-- A walk along the heads.
abbrev pub AllFail : ℕ → Lanes → (Ticket → Bool) → Type 0
AllFail t s test = (x : Ticket) → IsHeadOf t s x → test x ≡ false

abbrev pub WalksAt : ℕ → Lanes → (Ticket → Bool) → Option Ticket → Type 0
WalksAt t s test at = MatchOption at (AllFail t s test) (λ h. IsHeadOf t s h × FailAhead t s test h)

begin_step : (t : ℕ) (s : Lanes) (test : Ticket → Bool) (o : Option Ticket) → foremost (heads_of t s) ≡ o → WalksAt t s test o
begin_step t s test None first = λ x is. absurd (no_head t s x first is)
begin_step t s test (Some h) first = (first_is_head t s h first, fail_ahead_of_first t s test h first)

pub walk_begins : (t : ℕ) (s : Lanes) (test : Ticket → Bool) (at : Option Ticket) → at ≡ foremost (heads_of t s) → WalksAt t s test at
walk_begins t s test at is = begin_step t s test at (sym is)

goes_step : (t : ℕ) (s : Lanes) (test : Ticket → Bool) (h : Ticket) (o : Option Ticket) → IsHeadOf t s h → FailAhead t s test h → test h ≡ false → foremost (heads_behind h s) ≡ o → WalksAt t s test o
goes_step t s test h None is fail fails next = λ x own. none_passes t s test h is fail x fails next own
goes_step t s test h (Some e) is fail fails next = ((next_is_head t s h is.of_class e next).0, fail_ahead_of_next t s test h is fail e fails next)

pub at_head : (t : ℕ) (s : Lanes) (test : Ticket → Bool) (h : Ticket) (at : Option Ticket) → at ≡ Some h → WalksAt t s test at → IsHeadOf t s h × FailAhead t s test h
at_head t s test h at here walk = subst (WalksAt t s test) here walk

pub walk_goes : (t : ℕ) (s : Lanes) (test : Ticket → Bool) (h : Ticket) (at next : Option Ticket) → at ≡ Some h → WalksAt t s test at → test h ≡ false → next ≡ foremost (heads_behind h s) → WalksAt t s test next
walk_goes t s test h at next here walk fails is = let both = at_head t s test h at here walk in goes_step t s test h next both.0 both.1 fails (sym is)

-- how many heads are left
abbrev pub heads_left : ℕ → Lanes → Option Ticket → ℕ
heads_left t s at = option_map_or (λ h. length (filter (goes_ahead h) (heads_of t s)) + 1) at 0

left_step : (t : ℕ) (s : Lanes) (h : Ticket) (o : Option Ticket) → class_of h.group s.classes ≡ t → foremost (heads_behind h s) ≡ o → heads_left t s o < length (filter (goes_ahead h) (heads_of t s)) + 1
left_step t s h None of next = omega arith
left_step t s h (Some e) of next =
    let is = next_is_head t s h of e next in
    let fewer = fewer_pass (goes_ahead h) (goes_ahead e) e (heads_of t s) (λ x ahead. ahead_along h e x is.1 ahead) (head_stands t s e is.0) is.1 (not_ahead_of_itself e) in
    omega (arith, fewer)

pub walk_smaller : (t : ℕ) (s : Lanes) (test : Ticket → Bool) (h : Ticket) (at next : Option Ticket) → at ≡ Some h → WalksAt t s test at → next ≡ foremost (heads_behind h s) → heads_left t s next < heads_left t s at
walk_smaller t s test h at next here walk is =
    let both = at_head t s test h at here walk in
    subst (λ o. heads_left t s next < heads_left t s o) (sym here) (left_step t s h next both.0.of_class (sym is))
