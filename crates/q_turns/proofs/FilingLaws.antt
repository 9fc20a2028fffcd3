-- How the candidates of a message are filed as the walk goes along its peers.
use Rattle.std.proofs.Common.{◌≡◌, ◌≢◌, ◌∙◌, ap, Bool, cond, false, List, None, not, Option, option_map, refl, Some, sym, true, ℕ}
use Rattle.std.proofs.lemmas.Bool.{and_parts, both_ways}
use Rattle.std.specs.List.{list_any}
use Rattle.std.specs.Option.{is_some, option_map_or}
use Rattle.std.specs.Prelude.{◌&&◌, ◌||◌, find, IfSome, option_and_then}
use Rattle.q_heads.specs.Lanes.{stands}
use Rattle.q_jobs.specs.declared.job.Job.{Job}
use Rattle.q_keyed.proofs.Values.{find_none, held_item, item_found, none_passes}
use Rattle.q_keyed.specs.Numbered.{AreApart, AreKeysApart, first_such, item_at, Numbered, values_of}
use Rattle.q_model.proofs.EachLaws.{find-any}
use Rattle.q_model.proofs.IdLaws.{id_eq-refl, id_eq-true, site_eq-refl, site_eq-true}
use Rattle.q_model.specs.declared.id.Id.{Id}
use Rattle.q_model.specs.Ids.{id_eq}
use Rattle.q_model.specs.Sites.{site_eq}
use Rattle.q_model.specs.Values.{Site}
use Rattle.q_sorted.specs.declared.ticket.Ticket.{Ticket}
use Rattle.q_sorted.specs.Tickets.{goes_before, Rises}
use Rattle.q_rounds.specs.declared.peer.Peer.{Peer}
use Rattle.q_rounds.specs.KeyLaws.{key_eq-refl, key_eq-true}
use Rattle.q_rounds.specs.Listing.{AreTickets}
use Rattle.q_rounds.specs.Rounds.{is_peer, key_eq, key_of}
use Rattle.q_candidates.proofs.Keys.{own_found}
use Rattle.q_candidates.specs.declared.candidate.Candidate.{Candidate}
use Rattle.q_candidates.specs.Candidates.{is_of}
use Rattle.q_turns.specs.declared.filing.Facts.{Facts}
use Rattle.q_turns.specs.Filing.{AreOfPeers, candidate_at, candidate_of, is_fresh, is_the_site, IsFiled, IsFiledAt, site_in}
use Rattle.q_turns.specs.Heading.{is_of_message, least_of, message_at}
use Rattle.q_turns.proofs.MessageWalk.{begin_step, is_left, left_same, own_past}

-- the walk has passed a peer of the message at the site
abbrev pub is_done : Id → List (Numbered Peer) → Option Ticket → Id → Site → Bool
is_done id ks at i s =
    id_eq i id && option_map_or (λ n. not (is_left (least_of id) at n)) (first_such (is_peer i s) ks) false

-- those that were passed are filed, and the others stay
abbrev pub IsFiledTo : Id → List (Numbered Peer) → List (List Job) → Option Facts → Option Ticket → List Candidate → List Candidate → Type 0
IsFiledTo id ks lines facts at old new = (i : Id) (s : Site) →
    find (is_of i s) new ≡ cond (is_done id ks at i s) (candidate_at lines (values_of ks) facts i s) (find (is_of i s) old)

-- What is filed is of peers.
candidate_peer : (lines : List (List Job)) (ps : List Peer) (facts : Option Facts) (i : Id) (s : Site) (t : Bool) → list_any (is_peer i s) ps ≡ t →
    is_some (cond (t && is_fresh lines s.transport i) (option_map (candidate_of ps i s) facts) None) ≡ true → t ≡ true
candidate_peer lines ps facts i s true e h = refl
candidate_peer lines ps facts i s false e h = absurd cc

of_step : (lines : List (List Job)) (ps : List Peer) (facts : Option Facts) (i : Id) (s : Site) (o : Option Candidate) (t : Bool) → (is_some o ≡ true → list_any (is_peer i s) ps ≡ true) →
    is_some (cond t (candidate_at lines ps facts i s) o) ≡ true → list_any (is_peer i s) ps ≡ true
of_step lines ps facts i s o true was h = candidate_peer lines ps facts i s (list_any (is_peer i s) ps) refl h
of_step lines ps facts i s o false was h = was h

pub of_peers : (id : Id) (ks : List (Numbered Peer)) (lines : List (List Job)) (facts : Option Facts) (at : Option Ticket) (old new : List Candidate) → AreOfPeers (values_of ks) old → IsFiledTo id ks lines facts at old new → AreOfPeers (values_of ks) new
of_peers id ks lines facts at old new was filed = λ i s h.
    of_step lines (values_of ks) facts i s (find (is_of i s) old) (is_done id ks at i s) (was i s) (sym (ap is_some (filed i s)) ∙ h)

module _ (id : Id) (ks : List (Numbered Peer)) (apart : AreApart ks) (keys : AreKeysApart key_eq key_of ks) where
  held_id : (i : Id) (s : Site) (q : Peer) → is_peer i s q ≡ true → q.id ≡ i
  held_id i s q h = id_eq-true q.id i (and_parts (id_eq q.id i) (site_eq q.site s) h).0

  held_site : (i : Id) (s : Site) (q : Peer) → is_peer i s q ≡ true → q.site ≡ s
  held_site i s q h = site_eq-true q.site s (and_parts (id_eq q.id i) (site_eq q.site s) h).1

  found_own : (n : ℕ) (p : Peer) → item_at n ks ≡ Some p → first_such (is_peer p.id p.site) ks ≡ Some n
  found_own n p there = own_found key_eq key_of key_eq-true key_eq-refl n p ks keys there

  any_step : (i : Id) (s : Site) (o : Option ℕ) → first_such (is_peer i s) ks ≡ o → is_some o ≡ list_any (is_peer i s) (values_of ks)
  any_step i s None none = sym (ap is_some (find_none (is_peer i s) (values_of ks) (none_passes (is_peer i s) ks none))) ∙ find-any (is_peer i s) (values_of ks)
  any_step i s (Some n) found =
      let it = held_item (is_peer i s) n ks apart found in
      sym (ap is_some (sym (item_found (is_peer i s) n ks apart found) ∙ it.1)) ∙ find-any (is_peer i s) (values_of ks)

  -- a peer has a number
  has_number : (i : Id) (s : Site) → is_some (first_such (is_peer i s) ks) ≡ list_any (is_peer i s) (values_of ks)
  has_number i s = any_step i s (first_such (is_peer i s) ks) refl

  -- The walk begins.
  module _ (items : List Ticket) (listed : AreTickets (message_at ks) items) (rising : Rises items) (lines : List (List Job)) (facts : Option Facts) where
    none_done : (at : Option Ticket) (i : Id) (s : Site) (t : Bool) (o : Option ℕ) → at ≡ find (λ x. not (goes_before x (least_of id))) items → id_eq i id ≡ t → first_such (is_peer i s) ks ≡ o →
        (t && option_map_or (λ n. not (is_left (least_of id) at n)) o false) ≡ false
    none_done at i s false o first e found = refl
    none_done at i s true None first e found = refl
    none_done at i s true (Some n) first e found =
        let it = held_item (is_peer i s) n ks apart found in
        let own = held_id i s it.0 it.2 ∙ id_eq-true i id e in
        ap not (begin_step id ks items listed rising n it.0 at it.1 own (sym first))

    pub filing_begins : (at : Option Ticket) (old : List Candidate) → at ≡ find (λ x. not (goes_before x (least_of id))) items → IsFiledTo id ks lines facts at old old
    filing_begins at old first = λ i s.
        sym (ap (λ t. cond t (candidate_at lines (values_of ks) facts i s) (find (is_of i s) old)) (none_done at i s (id_eq i id) (first_such (is_peer i s) ks) first refl refl))

    -- One step.
    module _ (e : Ticket) (at next : Option Ticket) (here : at ≡ Some e) (stood : stands e items ≡ true) (of : is_of_message (least_of id) e ≡ true) (is : next ≡ find (goes_before e) items) where
      abbrev site : Option Site
      site = site_in id ks e.item

      pick_step : (t : Bool) (p : Peer) (s : Site) → id_eq p.id id ≡ t → is_the_site (cond t (Some p.site) None) s ≡ true → (p.id ≡ id) × (p.site ≡ s)
      pick_step true p s own h = (id_eq-true p.id id own, sym (site_eq-true s p.site h))
      pick_step false p s own h = absurd cc

      site_step : (o : Option Peer) (s : Site) → item_at e.item ks ≡ o → is_the_site (option_and_then (λ (p : Peer). cond (id_eq p.id id) (Some p.site) None) o) s ≡ true → (p : Peer) × (item_at e.item ks ≡ Some p) × (p.id ≡ id) × (p.site ≡ s)
      site_step None s there h = absurd cc
      site_step (Some p) s there h = let own = pick_step (id_eq p.id id) p s refl h in (p, there, own.0, own.1)

      -- it is the site of the message's peer here
      its_number : (i : Id) (s : Site) → id_eq i id ≡ true → is_the_site site s ≡ true → first_such (is_peer i s) ks ≡ Some e.item
      its_number i s own h =
          let p = site_step (item_at e.item ks) s refl h in
          ap (λ j. first_such (is_peer j s) ks) (id_eq-true i id own ∙ sym p.2) ∙ ap (λ t. first_such (is_peer p.0.id t) ks) (sym p.3) ∙ found_own e.item p.0 p.1

      its_site : (i : Id) (s : Site) → id_eq i id ≡ true → first_such (is_peer i s) ks ≡ Some e.item → is_the_site site s ≡ true
      its_site i s own found =
          let it = held_item (is_peer i s) e.item ks apart found in
          let same : it.0.id ≡ id = held_id i s it.0 it.2 ∙ id_eq-true i id own in
          ap (λ o. is_the_site (option_and_then (λ (p : Peer). cond (id_eq p.id id) (Some p.site) None) o) s) it.1
          ∙ ap (λ t. is_the_site (cond t (Some it.0.site) None) s) (ap (λ j. id_eq j id) same ∙ id_eq-refl id)
          ∙ ap (site_eq s) (held_site i s it.0 it.2) ∙ site_eq-refl s

      done_other : (i : Id) (s : Site) (o : Option ℕ) → id_eq i id ≡ true → first_such (is_peer i s) ks ≡ o → is_the_site site s ≡ false →
          option_map_or (λ n. not (is_left (least_of id) next n)) o false ≡ option_map_or (λ n. not (is_left (least_of id) at n)) o false
      done_other i s None own found not_here = refl
      done_other i s (Some n) own found not_here =
          let it = held_item (is_peer i s) n ks apart found in
          let other : n ≢ e.item = λ same. both_ways (is_the_site site s) not_here (its_site i s own (found ∙ ap Some same)) in
          ap not (left_same id ks items listed rising e at next here stood of is n it.0 it.1 (held_id i s it.0 it.2 ∙ id_eq-true i id own) other)

      done_step : (i : Id) (s : Site) (t u : Bool) → id_eq i id ≡ t → is_the_site site s ≡ u →
          (t && option_map_or (λ n. not (is_left (least_of id) next n)) (first_such (is_peer i s) ks) false) ≡ ((t && u) || (t && option_map_or (λ n. not (is_left (least_of id) at n)) (first_such (is_peer i s) ks) false))
      done_step i s false u own e = refl
      done_step i s true true own h =
          ap (λ o. option_map_or (λ n. not (is_left (least_of id) next n)) o false) (its_number i s own h) ∙ ap not (own_past id ks items listed rising e at next here stood of is)
      done_step i s true false own h = done_other i s (first_such (is_peer i s) ks) own refl h

      both_step : (t u : Bool) (a b : Option Candidate) → cond t a (cond u a b) ≡ cond (t || u) a b
      both_step true u a b = refl
      both_step false u a b = refl

      pub filing_goes : (old mid new : List Candidate) → IsFiledTo id ks lines facts at old mid → IsFiledAt lines (values_of ks) id site facts mid new → IsFiledTo id ks lines facts next old new
      filing_goes old mid new was filed = λ i s.
          let own = candidate_at lines (values_of ks) facts i s in
          let so = find (is_of i s) old in
          filed i s ∙ ap (cond (id_eq i id && is_the_site site s) own) (was i s)
          ∙ both_step (id_eq i id && is_the_site site s) (is_done id ks at i s) own so
          ∙ ap (λ t. cond t own so) (sym (done_step i s (id_eq i id) (is_the_site site s) refl refl))

      -- rows of the message wait there
      pub waits_there : IfSome site (λ s. list_any (is_peer id s) (values_of ks) ≡ true)
      waits_there = step site refl
        where
          step : (o : Option Site) → site ≡ o → IfSome o (λ s. list_any (is_peer id s) (values_of ks) ≡ true)
          step None is = tt
          step (Some s) is = sym (has_number id s) ∙ ap is_some (its_number id s (id_eq-refl id) (ap (λ o. is_the_site o s) is ∙ site_eq-refl s))

  -- It ends.
  end_step : (at : Option Ticket) (i : Id) (s : Site) (t : Bool) (o : Option ℕ) → ((m : ℕ) → is_left (least_of id) at m ≡ false) → (t && option_map_or (λ n. not (is_left (least_of id) at n)) o false) ≡ (t && is_some o)
  end_step at i s false o none = refl
  end_step at i s true None none = refl
  end_step at i s true (Some n) none = ap not (none n)

  pub filing_ends : (lines : List (List Job)) (facts : Option Facts) (at : Option Ticket) (old new : List Candidate) → ((m : ℕ) → is_left (least_of id) at m ≡ false) → IsFiledTo id ks lines facts at old new → IsFiled lines (values_of ks) id facts old new
  filing_ends lines facts at old new none filed = λ i s.
      filed i s
      ∙ ap (λ t. cond t (candidate_at lines (values_of ks) facts i s) (find (is_of i s) old))
      (end_step at i s (id_eq i id) (first_such (is_peer i s) ks) none ∙ ap (λ b. id_eq i id && b) (has_number i s))
