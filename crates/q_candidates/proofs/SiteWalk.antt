-- A walk along the lanes of a site, which are set one after another.
use Rattle.std.proofs.Common.{◌≡◌, ◌≢◌, ◌∙◌, ap, Bool, false, inl, inr, List, None, Option, option_map, refl, Some, subst, sym, true, ℕ, ◌⊎◌}
use Rattle.std.proofs.lemmas.Bool.{and_from, and_parts, both_ways, cases_eq, eq-eqb, false_from_ne_true}
use Rattle.std.specs.Option.{option_map_or}
use Rattle.std.specs.Prelude.{◌&&◌, cond, find, not}
use Rattle.q_heads.specs.Lanes.{stands}
use Rattle.q_keyed.specs.Numbered.{item_at, Numbered}
use Rattle.q_model.proofs.IdLaws.{site_eq-true}
use Rattle.q_model.specs.Sites.{site_eq}
use Rattle.q_model.specs.Values.{Site}
use Rattle.q_peers.specs.Buckets.{site_hash}
use Rattle.q_rounds.proofs.Entered.{entered}
use Rattle.q_rounds.proofs.TicketWalk.{begins, ends, StandFrom, walks}
use Rattle.q_rounds.specs.Listing.{AreTickets}
use Rattle.q_sorted.specs.declared.ticket.Ticket.{Ticket}
use Rattle.q_sorted.specs.Tickets.{goes_before, is_of, Rises}
use Rattle.q_candidates.specs.declared.lane.Lane.{Lane}
use Rattle.q_candidates.specs.Filing.{AreFrom, site_at, site_ticket}
use Rattle.q_candidates.specs.Suspending.{AreSet, differs, differs_at, IsSetAt}

fewer_from : (p q : Ticket → Bool) (bucket : ℕ) (items : List Ticket) → ((x : Ticket) → q x ≡ true → p x ≡ true) → (o : Option Ticket) → StandFrom p bucket items o → StandFrom q bucket items o
fewer_from p q bucket items fewer None from = λ x there. false_from_ne_true (q x) (λ h. both_ways (p x) (from x there) (fewer x h))
fewer_from p q bucket items fewer (Some a) from = record { there = from.there; past = from.past; first = λ x there passes. from.first x there (fewer x passes) }

module _ (site : Site) (suspended : Bool) where
  -- the lane of a ticket is still to be set
  abbrev is_left : List (Numbered Lane) → Ticket → Bool
  is_left lanes x = differs_at site suspended lanes x.item

  -- all lanes that are to be set stand from here on
  abbrev pub WalksAt : List (Numbered Lane) → ℕ → List Ticket → Option Ticket → Type 0
  WalksAt lanes bucket items at = StandFrom (λ x. is_of bucket x && is_left lanes x) bucket items at

  pub walk_begins : (lanes : List (Numbered Lane)) (bucket : ℕ) (items : List Ticket) (at : Option Ticket) → Rises items → at ≡ find (is_of bucket) items → WalksAt lanes bucket items at
  walk_begins lanes bucket items at rising is = begins (is_left lanes) bucket items rising at is

  module _ (old new : List (Numbered Lane)) (n : ℕ) (set : IsSetAt site suspended n old new) where
    left_step : (m : ℕ) → (m ≡ n) ⊎ (m ≢ n) → differs_at site suspended new m ≡ true → differs_at site suspended old m ≡ true
    left_step m (inl same) h = absurd (both_ways (differs_at site suspended new n) set.own (ap (differs_at site suspended new) (sym same) ∙ h))
    left_step m (inr other) h = ap (λ o. option_map_or (differs site suspended) o false) (sym (set.others m other)) ∙ h

    fewer_left : (bucket : ℕ) (x : Ticket) → (is_of bucket x && is_left new x) ≡ true → (is_of bucket x && is_left old x) ≡ true
    fewer_left bucket x h =
        let parts = and_parts (is_of bucket x) (is_left new x) h in
        and_from (is_of bucket x) (is_left old x) parts.0 (left_step x.item (cases_eq x.item n) parts.1)

    pub from_goes : (first : List (Numbered Lane)) → AreFrom site suspended first old → AreFrom site suspended first new
    from_goes first from m l h = step (set.from m l h)
      where
        step : (item_at m old ≡ Some l) ⊎ ((l.site ≡ site) × (l.suspended ≡ suspended)) → (item_at m first ≡ Some l) ⊎ ((l.site ≡ site) × (l.suspended ≡ suspended))
        step (inl stood) = from m l stood
        step (inr made) = inr made

  pub walk_goes : (old new : List (Numbered Lane)) (bucket : ℕ) (items : List Ticket) (a : Ticket) (at next : Option Ticket) → Rises items → at ≡ Some a → WalksAt old bucket items at → IsSetAt site suspended a.item old new → next ≡ find (goes_before a) items → WalksAt new bucket items next
  walk_goes old new bucket items a at next rising here walk set is =
      walks (is_left new) bucket items rising at a here (fewer_from (λ x. is_of bucket x && is_left old x) (λ x. is_of bucket x && is_left new x) bucket items (fewer_left old new a.item set bucket) at walk) set.own next is

  -- In the end.
  module _ (lanes : List (Numbered Lane)) (items : List Ticket) (bucket : ℕ) (is : bucket ≡ site_hash site) (listed : AreTickets (site_at lanes) items) where
    lane_step : (n : ℕ) (l : Lane) (t : Bool) → item_at n lanes ≡ Some l → differs site suspended l ≡ t → ((x : Ticket) → stands x items ≡ true → (is_of bucket x && is_left lanes x) ≡ false) → t ≡ false
    lane_step n l false there e none = refl
    lane_step n l true there e none =
        let x = site_ticket n l in
        let stood = entered (site_at lanes) items n x listed (ap (option_map (site_ticket n)) there) refl in
        let at : l.site ≡ site = site_eq-true l.site site (and_parts (site_eq l.site site) (cond suspended (not l.suspended) l.suspended) e).0 in
        absurd (both_ways (is_of bucket x && is_left lanes x) (none x stood)
        (and_from (is_of bucket x) (is_left lanes x) (eq-eqb (site_hash l.site) bucket (ap site_hash at ∙ sym is)) (ap (λ o. option_map_or (differs site suspended) o false) there ∙ e)))

    all_step : (n : ℕ) (o : Option Lane) → item_at n lanes ≡ o → ((x : Ticket) → stands x items ≡ true → (is_of bucket x && is_left lanes x) ≡ false) → option_map_or (differs site suspended) o false ≡ false
    all_step n None there none = refl
    all_step n (Some l) there none = lane_step n l (differs site suspended l) there refl none

    pub walk_ends : (first : List (Numbered Lane)) (at : Option Ticket) → at ≡ None → WalksAt lanes bucket items at → AreFrom site suspended first lanes → AreSet site suspended first lanes
    walk_ends first at done walk from = record { own = λ n. all_step n (item_at n lanes) refl (subst (WalksAt lanes bucket items) done walk); from = from }

    pub walk_past : (first : List (Numbered Lane)) (at : Option Ticket) (a : Ticket) → Rises items → at ≡ Some a → (a.group ≡ bucket → ⊥) → WalksAt lanes bucket items at → AreFrom site suspended first lanes → AreSet site suspended first lanes
    walk_past first at a rising here other walk from = record { own = λ n. all_step n (item_at n lanes) refl (ends (is_left lanes) bucket items rising at a here walk other); from = from }
