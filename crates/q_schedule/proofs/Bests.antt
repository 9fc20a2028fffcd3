-- The best candidate is that of the message that preempts.
use Rattle.std.proofs.Common.{◌≡◌, ◌∙◌, ◌∷◌, ◌+◌, ◌≤◌, [], ap, arith, Bool, cond, false, List, None, not, Option, option_map, refl, Some, subst, sym, true, ℕ}
use Rattle.std.proofs.lemmas.Bool.{and_from, and_parts, both_ways, eq-eqb, eqb-true, ltb-true}
use Rattle.std.specs.List.{AllByRecursion, list_any}
use Rattle.std.specs.Prelude.{◌&&◌, ◌||◌, ◌==◌, find, nat_le}
use Rattle.q_candidates.specs.Candidates.{goes_first, is_of, IsTheBest}
use Rattle.q_candidates.specs.Candidates.{may_preempt as may_preempt_at}
use Rattle.q_candidates.specs.declared.candidate.Candidate.{Candidate}
use Rattle.q_dest.specs.declared.dest.Dest.{Dest}
use Rattle.q_jobs.specs.declared.job.Job.{Job}
use Rattle.q_model.proofs.EachLaws.{find-passes}
use Rattle.q_model.proofs.IdLaws.{id_eq-true, site_eq-refl, site_eq-true}
use Rattle.q_model.specs.declared.id.Id.{Id}
use Rattle.q_model.specs.Ids.{id_eq}
use Rattle.q_model.specs.Sites.{site_eq}
use Rattle.q_model.specs.Values.{Site}
use Rattle.q_rounds.specs.declared.peer.Peer.{Peer}
use Rattle.q_rounds.specs.Rounds.{has_space_at, is_peer, is_peer_for, rows_left, waits}
use Rattle.q_turns.specs.Turns.{is_able}
use Rattle.q_schedule.specs.Best.{as_candidate}
use Rattle.q_schedule.specs.declared.ranked.Ranked.{Ranked}
use Rattle.q_schedule.specs.Schedule.{may_preempt, need_at}
use Rattle.q_schedule.specs.Sound.{AreKept, facts_at, facts_of, is_ranked, is_stale}
use Rattle.q_turns.specs.Filing.{candidate_at, candidate_of, is_fresh}

found_step : {X : Type 0} (P : X → Type 0) (q r : X) (t : Bool) (o : Option X) → P q → (o ≡ Some r → P r) → cond t (Some q) o ≡ Some r → P r
found_step P q r true o own rest h = let same : q ≡ r = cc in subst P same own
found_step P q r false o own rest h = rest h

-- what holds of all holds of the one that is found
pub found_holds : {X : Type 0} (P : X → Type 0) (test : X → Bool) (r : X) (xs : List X) → AllByRecursion P xs → find test xs ≡ Some r → P r
found_holds P test r [] all h = absurd cc
found_holds P test r (q ∷ xs) all h = found_step P q r (test q) (find test xs) all.0 (found_holds P test r xs all.1) h

-- A site at which rows of the message wait, and which has space.
pub record HasPeer (ds : List Dest) (ps : List Peer) (t : ℕ) (id : Id) : Type 0 where
  pub peer : Peer
  pub own : is_peer_for id t peer ≡ true
  pub space : has_space_at ds peer.site ≡ true
  pub there : list_any (is_peer id peer.site) ps ≡ true
  pub rows : 1 ≤ rows_left id t ps

self_peer : (id : Id) (t : ℕ) (p : Peer) → is_peer_for id t p ≡ true → is_peer id p.site p ≡ true
self_peer id t p h = and_from (id_eq p.id id) (site_eq p.site p.site) (and_parts (id_eq p.id id) (p.site.transport == t) h).0 (site_eq-refl p.site)

more_rows : (id : Id) (t n : ℕ) (p : Peer) (b : Bool) → 1 ≤ n → 1 ≤ cond b p.waiting 0 + n
more_rows id t n p true h = omega (arith, h)
more_rows id t n p false h = omega (arith, h)

own_rows : (id : Id) (t n : ℕ) (p : Peer) → is_peer_for id t p ≡ true → waits p ≡ true → 1 ≤ cond (is_peer_for id t p) p.waiting 0 + n
own_rows id t n p own w =
    let some = ltb-true 0 p.waiting w in
    subst (λ b. 1 ≤ cond b p.waiting 0 + n) (sym own) (omega (arith, some))

or_right : (a b : Bool) → b ≡ true → (a || b) ≡ true
or_right true b h = refl
or_right false b h = h

peer_step : (ds : List Dest) (t : ℕ) (id : Id) (p : Peer) (ps : List Peer) (b : Bool) → (is_peer_for id t p && has_space_at ds p.site) ≡ b → (b || is_able ds ps t id) ≡ true → waits p ≡ true → (is_able ds ps t id ≡ true → HasPeer ds ps t id) → HasPeer ds (p ∷ ps) t id
peer_step ds t id p ps true is h w rest =
    let parts = and_parts (is_peer_for id t p) (has_space_at ds p.site) is in
    record {
      peer = p;
      own = parts.0;
      space = parts.1;
      there = ap (λ b. b || list_any (is_peer id p.site) ps) (self_peer id t p parts.0);
      rows = own_rows id t (rows_left id t ps) p parts.0 w;
    }
peer_step ds t id p ps false is h w rest =
    let it = rest h in
    record {
      peer = it.peer;
      own = it.own;
      space = it.space;
      there = or_right (is_peer id it.peer.site p) (list_any (is_peer id it.peer.site) ps) it.there;
      rows = more_rows id t (rows_left id t ps) p (is_peer_for id t p) it.rows;
    }

pub has_peer : (ds : List Dest) (t : ℕ) (id : Id) (ps : List Peer) → AllByRecursion (λ p. waits p ≡ true) ps → is_able ds ps t id ≡ true → HasPeer ds ps t id
has_peer ds t id [] all h = absurd cc
has_peer ds t id (p ∷ ps) all h = peer_step ds t id p ps (is_peer_for id t p && has_space_at ds p.site) refl h all.0 (has_peer ds t id ps all.1)

able_step : (ds : List Dest) (id : Id) (s : Site) (p : Peer) (ps : List Peer) (b : Bool) → is_peer id s p ≡ b → (b || list_any (is_peer id s) ps) ≡ true → has_space_at ds s ≡ true → (list_any (is_peer id s) ps ≡ true → is_able ds ps s.transport id ≡ true) → is_able ds (p ∷ ps) s.transport id ≡ true
able_step ds id s p ps true is h space rest =
    let parts = and_parts (id_eq p.id id) (site_eq p.site s) is in
    let at : p.site ≡ s = site_eq-true p.site s parts.1 in
    ap (λ b. b || is_able ds ps s.transport id)
    (and_from (is_peer_for id s.transport p) (has_space_at ds p.site)
    (and_from (id_eq p.id id) (p.site.transport == s.transport) parts.0 (eq-eqb p.site.transport s.transport (ap (λ (x : Site). x.transport) at)))
    (ap (has_space_at ds) at ∙ space))
able_step ds id s p ps false is h space rest = or_right (is_peer_for id s.transport p && has_space_at ds p.site) (is_able ds ps s.transport id) (rest h)

able_from : (ds : List Dest) (id : Id) (s : Site) (ps : List Peer) → list_any (is_peer id s) ps ≡ true → has_space_at ds s ≡ true → is_able ds ps s.transport id ≡ true
able_from ds id s [] h space = absurd cc
able_from ds id s (p ∷ ps) h space = able_step ds id s p ps (is_peer id s p) refl h space (λ k. able_from ds id s ps k space)

-- the parts of what may preempt
pub record MayParts (ds : List Dest) (lines : List (List Job)) (ps : List Peer) (transport most : ℕ) (except : Id) (r : Ranked) : Type 0 where
  pub fresh : is_fresh lines transport r.message.id ≡ true
  pub able : is_able ds ps transport r.message.id ≡ true
  pub low : nat_le (need_at ps transport r.message) most ≡ true
  pub other : not (id_eq r.message.id except) ≡ true

pub may_parts : (ds : List Dest) (lines : List (List Job)) (ps : List Peer) (transport most : ℕ) (except : Id) (r : Ranked) → may_preempt ds lines ps transport most except r.message ≡ true → MayParts ds lines ps transport most except r
may_parts ds lines ps transport most except r h =
    let c = and_parts (is_fresh lines transport r.message.id && is_able ds ps transport r.message.id && nat_le (need_at ps transport r.message) most) (not (id_eq r.message.id except)) h in
    let b = and_parts (is_fresh lines transport r.message.id && is_able ds ps transport r.message.id) (nat_le (need_at ps transport r.message) most) c.0 in
    let a = and_parts (is_fresh lines transport r.message.id) (is_able ds ps transport r.message.id) b.0 in
    record { fresh = a.0; able = a.1; low = b.1; other = c.1 }

module _ (ds : List Dest) (lines : List (List Job)) (ps : List Peer) (rs : List Ranked) (stale : Option Id) (cs : List Candidate) (transport most now : ℕ) (except : Id) (kept : AreKept lines ps rs stale cs) (wait : AllByRecursion (λ p. waits p ≡ true) ps) where
  abbrev passes : Ranked → Type 0
  passes q = may_preempt ds lines ps transport most except q.message ≡ true

  -- The candidate of a message at a site with space.
  module _ (q : Ranked) (there : find (is_ranked q.message.id) rs ≡ Some q) (current : is_stale stale q.message.id ≡ false) (may : passes q) where
    part : MayParts ds lines ps transport most except q
    part = may_parts ds lines ps transport most except q may

    at : HasPeer ds ps transport q.message.id
    at = has_peer ds transport q.message.id ps wait part.able

    at_transport : at.peer.site.transport ≡ transport
    at_transport = eqb-true at.peer.site.transport transport (and_parts (id_eq at.peer.id q.message.id) (at.peer.site.transport == transport) at.own).1

    abbrev its : Candidate
    its = candidate_of ps q.message.id at.peer.site (facts_of q)

    its_there : find (is_of q.message.id at.peer.site) cs ≡ Some its
    its_there =
        kept q.message.id at.peer.site
        ∙ ap (λ b. cond b None (candidate_at lines ps (facts_at rs q.message.id) q.message.id at.peer.site)) current
        ∙ ap (λ o. candidate_at lines ps (option_map facts_of o) q.message.id at.peer.site) there
        ∙ ap (λ b. cond (b && is_fresh lines at.peer.site.transport q.message.id) (Some its) None) at.there
        ∙ ap (λ t. cond (is_fresh lines t q.message.id) (Some its) None) at_transport
        ∙ ap (λ b. cond b (Some its) None) part.fresh

    its_may : may_preempt_at ds transport most except its ≡ true
    its_may =
        and_from ((at.peer.site.transport == transport) && nat_le its.need most && not (id_eq q.message.id except)) (has_space_at ds at.peer.site)
        (and_from ((at.peer.site.transport == transport) && nat_le its.need most) (not (id_eq q.message.id except))
        (and_from (at.peer.site.transport == transport) (nat_le its.need most) (eq-eqb at.peer.site.transport transport at_transport)
        (ap (λ t. nat_le (rows_left q.message.id t ps + q.message.unread) most) at_transport ∙ part.low)) part.other) at.space

    first_step : (f : Candidate) (s : Site) → goes_first now its f ≡ false → goes_first now (as_candidate s ps transport q) f ≡ false
    first_step f s h = subst (λ t. goes_first now (record { id = q.message.id; site = s; need = rows_left q.message.id t ps + q.message.unread; arrival = q.message.arrival; rank = q.rank }) f ≡ false) at_transport h

    pub not_first : (f : Candidate) (s : Site) → IsTheBest (may_preempt_at ds transport most except) now cs f → goes_first now (as_candidate s ps transport q) f ≡ false
    not_first f s best = first_step f s (found_holds (λ c. may_preempt_at ds transport most except c ≡ true → goes_first now c f ≡ false) (is_of q.message.id at.peer.site) its cs best.first its_there its_may)

    pub none_may : AllByRecursion (λ c. may_preempt_at ds transport most except c ≡ false) cs → ⊥
    none_may all = both_ways (may_preempt_at ds transport most except its) (found_holds (λ c. may_preempt_at ds transport most except c ≡ false) (is_of q.message.id at.peer.site) its cs all its_there) its_may

  -- The best of those that are kept.
  module _ (f : Candidate) (best : IsTheBest (may_preempt_at ds transport most except) now cs f) where
    pub record IsMessageOf : Type 0 where
      pub message : Ranked
      pub there : find (is_ranked f.id) rs ≡ Some message
      pub current : is_stale stale f.id ≡ false
      pub passes_it : may_preempt ds lines ps transport most except message.message ≡ true
      pub is : as_candidate f.site ps transport message ≡ f

    -- the parts of what may preempt at its site
    at_all : (((f.site.transport == transport) && nat_le f.need most && not (id_eq f.id except)) ≡ true) × (has_space_at ds f.site ≡ true)
    at_all = and_parts ((f.site.transport == transport) && nat_le f.need most && not (id_eq f.id except)) (has_space_at ds f.site) best.passes

    at_two : (((f.site.transport == transport) && nat_le f.need most) ≡ true) × (not (id_eq f.id except) ≡ true)
    at_two = and_parts ((f.site.transport == transport) && nat_le f.need most) (not (id_eq f.id except)) at_all.0

    at_one : ((f.site.transport == transport) ≡ true) × (nat_le f.need most ≡ true)
    at_one = and_parts (f.site.transport == transport) (nat_le f.need most) at_two.0

    f_transport : f.site.transport ≡ transport
    f_transport = eqb-true f.site.transport transport at_one.0

    known_step : (o : Option Ranked) → find (is_ranked f.id) rs ≡ o → (there : list_any (is_peer f.id f.site) ps ≡ true) → (fresh : is_fresh lines f.site.transport f.id ≡ true) → is_stale stale f.id ≡ false → option_map (λ (r : Ranked). candidate_of ps f.id f.site (facts_of r)) o ≡ Some f → IsMessageOf
    known_step None h there fresh current same = absurd cc
    known_step (Some r) h there fresh current same =
        let id : r.message.id ≡ f.id = id_eq-true r.message.id f.id (find-passes (is_ranked f.id) rs r h) in
        let whole : candidate_of ps f.id f.site (facts_of r) ≡ f = cc in
        let is : as_candidate f.site ps transport r ≡ f =
        ap (λ i. record { id = i; site = f.site; need = rows_left i transport ps + r.message.unread; arrival = r.message.arrival; rank = r.rank }) id
        ∙ ap (λ t. record { id = f.id; site = f.site; need = rows_left f.id t ps + r.message.unread; arrival = r.message.arrival; rank = r.rank }) (sym f_transport)
        ∙ whole in
        record {
          message = r;
          there = h;
          current = current;
          passes_it =
              and_from (is_fresh lines transport r.message.id && is_able ds ps transport r.message.id && nat_le (need_at ps transport r.message) most) (not (id_eq r.message.id except))
              (and_from (is_fresh lines transport r.message.id && is_able ds ps transport r.message.id) (nat_le (need_at ps transport r.message) most)
              (and_from (is_fresh lines transport r.message.id) (is_able ds ps transport r.message.id)
              (ap (is_fresh lines transport) id ∙ ap (λ t. is_fresh lines t f.id) (sym f_transport) ∙ fresh)
              (ap (is_able ds ps transport) id ∙ ap (λ t. is_able ds ps t f.id) (sym f_transport) ∙ able_from ds f.id f.site ps there at_all.1))
              (ap (λ (c : Candidate). nat_le c.need most) is ∙ at_one.1)) (ap (λ i. not (id_eq i except)) id ∙ at_two.1);
          is = is;
        }

    parts_step : (b c d : Bool) → is_stale stale f.id ≡ d → list_any (is_peer f.id f.site) ps ≡ b → is_fresh lines f.site.transport f.id ≡ c → cond d None (cond (b && c) (option_map (candidate_of ps f.id f.site) (facts_at rs f.id)) None) ≡ Some f → IsMessageOf
    parts_step b c true e there fresh h = absurd cc
    parts_step true true false e there fresh h = known_step (find (is_ranked f.id) rs) refl there fresh e (twice (find (is_ranked f.id) rs) ∙ h)
      where
        twice : (o : Option Ranked) → option_map (λ (r : Ranked). candidate_of ps f.id f.site (facts_of r)) o ≡ option_map (candidate_of ps f.id f.site) (option_map facts_of o)
        twice None = refl
        twice (Some r) = refl
    parts_step true false false e there fresh h = absurd cc
    parts_step false c false e there fresh h = absurd cc

    pub message_of : IsMessageOf
    message_of = parts_step (list_any (is_peer f.id f.site) ps) (is_fresh lines f.site.transport f.id) (is_stale stale f.id) refl refl refl (sym (kept f.id f.site) ∙ best.there)
