-- Candidates of other jobs stay, as rows of a message come, are sent and go.
use Rattle.std.proofs.Common.{◌≡◌, ◌∙◌, ◌∷◌, ◌++◌, ◌+◌, ◌≤◌, [], ap, arith, Bool, cond, false, List, None, Option, option_map, refl, sym, true, ℕ}
use Rattle.std.proofs.lemmas.Bool.{and_from, and_parts, both_ways, eq-eqb, eqb-true, ltb-false}
use Rattle.std.specs.List.{AllByRecursion, list_any}
use Rattle.std.specs.Prelude.{◌&&◌, ◌||◌, ◌==◌, filter, map}
use Rattle.q_candidates.specs.declared.candidate.Candidate.{Candidate}
use Rattle.q_jobs.specs.declared.job.Job.{Job}
use Rattle.q_model.proofs.IdLaws.{id_eq-refl, id_eq-true, site_eq-true}
use Rattle.q_model.specs.declared.id.Id.{Id}
use Rattle.q_model.specs.Ids.{id_eq}
use Rattle.q_model.specs.Sites.{site_eq}
use Rattle.q_model.specs.Values.{Site}
use Rattle.q_rounds.specs.declared.peer.Peer.{Peer}
use Rattle.q_rounds.specs.Rounds.{gained, is_peer, is_peer_for, lost, new_peer, rows_left, started, waits}
use Rattle.q_turns.specs.Turns.{changed_at, gained_at, lost_at, started_at}
use Rattle.q_turns.specs.Filing.{candidate_at, candidate_of, is_fresh}
use Rattle.q_turns.specs.declared.filing.Facts.{Facts}

-- By whether there is a peer, and how many rows are left.
abbrev candidate_with : List (List Job) → Option Facts → Id → Site → Bool → ℕ → Option Candidate
candidate_with lines facts i s there rows =
    cond (there && is_fresh lines s.transport i) (option_map (λ (f : Facts). record { id = i; site = s; need = rows + f.unread; arrival = f.arrival; rank = f.rank }) facts) None

pub candidate_same : (lines : List (List Job)) (ps qs : List Peer) (facts : Option Facts) (i : Id) (s : Site) → list_any (is_peer i s) qs ≡ list_any (is_peer i s) ps → rows_left i s.transport qs ≡ rows_left i s.transport ps →
    candidate_at lines qs facts i s ≡ candidate_at lines ps facts i s
candidate_same lines ps qs facts i s any rows =
    ap (λ b. candidate_with lines facts i s b (rows_left i s.transport qs)) any
    ∙ ap (candidate_with lines facts i s (list_any (is_peer i s) ps)) rows

not_step : (o : Option Candidate) (b : Bool) → cond (b && false) o None ≡ None
not_step o true = refl
not_step o false = refl

-- a job that began something has none
pub candidate_none : (lines : List (List Job)) (ps : List Peer) (facts : Option Facts) (i : Id) (s : Site) → is_fresh lines s.transport i ≡ false → candidate_at lines ps facts i s ≡ None
candidate_none lines ps facts i s started =
    ap (λ f. cond (list_any (is_peer i s) ps && f) (option_map (candidate_of ps i s) facts) None) started
    ∙ not_step (option_map (candidate_of ps i s) facts) (list_any (is_peer i s) ps)

module _ (id : Id) (site : Site) where
  -- it is the job of the message at the site's transport
  abbrev pub is_own_job : Id → ℕ → Bool
  is_own_job i t = id_eq i id && (t == site.transport)

  own_is : (i : Id) (t : ℕ) → i ≡ id → t ≡ site.transport → is_own_job i t ≡ true
  own_is i t e f = and_from (id_eq i id) (t == site.transport) (ap (λ x. id_eq x id) e ∙ id_eq-refl id) (eq-eqb t site.transport f)

  -- a peer of another job is none of the message at the site
  other_peer : (i : Id) (t : ℕ) (p : Peer) → is_own_job i t ≡ false → is_peer_for i t p ≡ true → is_peer id site p ≡ true → ⊥
  other_peer i t p other mine its =
      let a = and_parts (id_eq p.id i) (p.site.transport == t) mine in
      let b = and_parts (id_eq p.id id) (site_eq p.site site) its in
      both_ways (is_own_job i t) other (own_is i t (sym (id_eq-true p.id i a.0) ∙ id_eq-true p.id id b.0) (sym (eqb-true p.site.transport t a.1) ∙ ap (λ (s : Site). s.transport) (site_eq-true p.site site b.1)))

  at_site : (i : Id) (s : Site) (p : Peer) → is_peer i s p ≡ true → is_peer_for i s.transport p ≡ true
  at_site i s p h =
      let a = and_parts (id_eq p.id i) (site_eq p.site s) h in
      and_from (id_eq p.id i) (p.site.transport == s.transport) a.0 (eq-eqb p.site.transport s.transport (ap (λ (x : Site). x.transport) (site_eq-true p.site s a.1)))

  module _ (f : Peer → Peer) (ids : (p : Peer) → (f p).id ≡ p.id) (sites : (p : Peer) → (f p).site ≡ p.site) where
    peer_step : (i : Id) (s : Site) (p : Peer) (b : Bool) → is_peer i s (cond b (f p) p) ≡ is_peer i s p
    peer_step i s p true = ap (λ x. id_eq x i && site_eq (f p).site s) (ids p) ∙ ap (λ x. id_eq p.id i && site_eq x s) (sites p)
    peer_step i s p false = refl

    pub any_changed : (i : Id) (s : Site) (ps : List Peer) → list_any (is_peer i s) (map (changed_at id site f) ps) ≡ list_any (is_peer i s) ps
    any_changed i s [] = refl
    any_changed i s (p ∷ ps) =
        ap (λ b. b || list_any (is_peer i s) (map (changed_at id site f) ps)) (peer_step i s p (is_peer id site p)) ∙ ap (λ b. is_peer i s p || b) (any_changed i s ps)

    for_same : (i : Id) (t : ℕ) (p : Peer) → is_peer_for i t (f p) ≡ is_peer_for i t p
    for_same i t p = ap (λ x. id_eq x i && ((f p).site.transport == t)) (ids p) ∙ ap (λ (x : Site). id_eq p.id i && (x.transport == t)) (sites p)

    none_own : (i : Id) (t : ℕ) (p : Peer) (b : Bool) → is_peer_for i t p ≡ b → is_own_job i t ≡ false → is_peer id site p ≡ true → cond b (f p).waiting 0 ≡ cond b p.waiting 0
    none_own i t p true mine other its = absurd (other_peer i t p other mine its)
    none_own i t p false mine other its = refl

    rows_step : (i : Id) (t : ℕ) (p : Peer) (b : Bool) → is_peer id site p ≡ b → is_own_job i t ≡ false → cond (is_peer_for i t (cond b (f p) p)) (cond b (f p) p).waiting 0 ≡ cond (is_peer_for i t p) p.waiting 0
    rows_step i t p true its other = ap (λ c. cond c (f p).waiting 0) (for_same i t p) ∙ none_own i t p (is_peer_for i t p) refl other its
    rows_step i t p false its other = refl

    pub rows_changed : (i : Id) (t : ℕ) → is_own_job i t ≡ false → (ps : List Peer) → rows_left i t (map (changed_at id site f) ps) ≡ rows_left i t ps
    rows_changed i t other [] = refl
    rows_changed i t other (p ∷ ps) =
        ap (λ n. n + rows_left i t (map (changed_at id site f) ps)) (rows_step i t p (is_peer id site p) refl other)
        ∙ ap (λ n. cond (is_peer_for i t p) p.waiting 0 + n) (rows_changed i t other ps)

  -- A delivery starts.
  start_step : (last i_t : ℕ) (i : Id) (p : Peer) (b : Bool) → cond (is_peer_for i i_t (cond b (started last p) p)) (cond b (started last p) p).waiting 0 ≡ cond (is_peer_for i i_t p) p.waiting 0
  start_step last t i p true = refl
  start_step last t i p false = refl

  rows_started : (last : ℕ) (i : Id) (t : ℕ) (ps : List Peer) → rows_left i t (started_at id site last ps) ≡ rows_left i t ps
  rows_started last i t [] = refl
  rows_started last i t (p ∷ ps) =
      ap (λ n. n + rows_left i t (started_at id site last ps)) (start_step last t i p (is_peer id site p))
      ∙ ap (λ n. cond (is_peer_for i t p) p.waiting 0 + n) (rows_started last i t ps)

  pub started_same : (lines : List (List Job)) (last : ℕ) (ps : List Peer) (facts : Option Facts) (i : Id) (s : Site) → candidate_at lines (started_at id site last ps) facts i s ≡ candidate_at lines ps facts i s
  started_same lines last ps facts i s =
      candidate_same lines ps (started_at id site last ps) facts i s (any_changed (started last) (λ p. refl) (λ p. refl) i s ps) (rows_started last i s.transport ps)

  -- A row comes.
  any_more : (i : Id) (s : Site) (p : Peer) (ps : List Peer) → is_peer i s p ≡ false → list_any (is_peer i s) (ps ++ p ∷ []) ≡ list_any (is_peer i s) ps
  any_more i s p [] none = ap (λ b. b || false) none
  any_more i s p (q ∷ ps) none = ap (λ b. is_peer i s q || b) (any_more i s p ps none)

  rows_more : (i : Id) (t : ℕ) (p : Peer) (ps : List Peer) → is_peer_for i t p ≡ false → rows_left i t (ps ++ p ∷ []) ≡ rows_left i t ps
  rows_more i t p [] none = ap (λ b. cond b p.waiting 0 + 0) none
  rows_more i t p (q ∷ ps) none = ap (λ n. cond (is_peer_for i t q) q.waiting 0 + n) (rows_more i t p ps none)

  false_for : (i : Id) (t : ℕ) (b : Bool) → is_peer_for i t (new_peer id site 0) ≡ b → is_own_job i t ≡ false → b ≡ false
  false_for i t true is other =
      let a = and_parts (id_eq id i) (site.transport == t) is in
      absurd (both_ways (is_own_job i t) other (own_is i t (sym (id_eq-true id i a.0)) (sym (eqb-true site.transport t a.1))))
  false_for i t false is other = refl

  false_at : (i : Id) (s : Site) (b : Bool) → is_peer i s (new_peer id site 0) ≡ b → is_own_job i s.transport ≡ false → b ≡ false
  false_at i s true is other =
      absurd (both_ways (is_peer_for i s.transport (new_peer id site 0)) (false_for i s.transport (is_peer_for i s.transport (new_peer id site 0)) refl other) (at_site i s (new_peer id site 0) is))
  false_at i s false is other = refl

  gained_step : (lines : List (List Job)) (ps : List Peer) (facts : Option Facts) (i : Id) (s : Site) (b : Bool) → is_own_job i s.transport ≡ false →
      candidate_at lines (cond b (map (changed_at id site gained) ps) (ps ++ new_peer id site 0 ∷ [])) facts i s ≡ candidate_at lines ps facts i s
  gained_step lines ps facts i s true other =
      candidate_same lines ps (map (changed_at id site gained) ps) facts i s (any_changed gained (λ p. refl) (λ p. refl) i s ps) (rows_changed gained (λ p. refl) (λ p. refl) i s.transport other ps)
  gained_step lines ps facts i s false other =
      candidate_same lines ps (ps ++ new_peer id site 0 ∷ []) facts i s (any_more i s (new_peer id site 0) ps (false_at i s (is_peer i s (new_peer id site 0)) refl other))
      (rows_more i s.transport (new_peer id site 0) ps (false_for i s.transport (is_peer_for i s.transport (new_peer id site 0)) refl other))

  pub gained_same : (lines : List (List Job)) (ps : List Peer) (facts : Option Facts) (i : Id) (s : Site) → is_own_job i s.transport ≡ false → candidate_at lines (gained_at id site ps) facts i s ≡ candidate_at lines ps facts i s
  gained_same lines ps facts i s other = gained_step lines ps facts i s (list_any (is_peer id site) ps) other

  -- A row goes.
  rows_kept : (i : Id) (t : ℕ) (p : Peer) (qs : List Peer) (b : Bool) → waits p ≡ b → rows_left i t (cond b (p ∷ qs) qs) ≡ cond (is_peer_for i t p) p.waiting 0 + rows_left i t qs
  rows_kept i t p qs true is = refl
  rows_kept i t p qs false is = none (is_peer_for i t p)
    where
      none : (c : Bool) → rows_left i t qs ≡ cond c p.waiting 0 + rows_left i t qs
      none true = let low : p.waiting ≤ 0 = ltb-false 0 p.waiting is in omega (arith, low)
      none false = omega arith

  rows_waiting : (i : Id) (t : ℕ) (qs : List Peer) → rows_left i t (filter waits qs) ≡ rows_left i t qs
  rows_waiting i t [] = refl
  rows_waiting i t (p ∷ qs) = rows_kept i t p (filter waits qs) (waits p) refl ∙ ap (λ n. cond (is_peer_for i t p) p.waiting 0 + n) (rows_waiting i t qs)

  -- one of another job waits as it did
  waits_step : (i : Id) (s : Site) (p : Peer) (b : Bool) → is_peer id site p ≡ b → is_own_job i s.transport ≡ false → waits p ≡ true → is_peer i s (cond b (lost p) p) ≡ true → waits (cond b (lost p) p) ≡ true
  waits_step i s p true its other own mine = absurd (other_peer i s.transport p other (at_site i s p mine) its)
  waits_step i s p false its other own mine = own

  any_kept : (i : Id) (s : Site) (p : Peer) (qs : List Peer) (b c : Bool) → waits p ≡ b → is_peer i s p ≡ c → (is_peer i s p ≡ true → waits p ≡ true) → list_any (is_peer i s) (cond b (p ∷ qs) qs) ≡ (is_peer i s p || list_any (is_peer i s) qs)
  any_kept i s p qs true c w is h = refl
  any_kept i s p qs false true w is h = absurd (both_ways (waits p) w (h is))
  any_kept i s p qs false false w is h = sym (ap (λ x. x || list_any (is_peer i s) qs) is)

  any_lost : (i : Id) (s : Site) → is_own_job i s.transport ≡ false → (ps : List Peer) → AllByRecursion (λ p. waits p ≡ true) ps → list_any (is_peer i s) (lost_at id site ps) ≡ list_any (is_peer i s) ps
  any_lost i s other [] all = refl
  any_lost i s other (p ∷ ps) all =
      let q = changed_at id site lost p in
      any_kept i s q (lost_at id site ps) (waits q) (is_peer i s q) refl refl (waits_step i s p (is_peer id site p) refl other all.0)
      ∙ ap (λ b. b || list_any (is_peer i s) (lost_at id site ps)) (peer_step lost (λ p. refl) (λ p. refl) i s p (is_peer id site p))
      ∙ ap (λ b. is_peer i s p || b) (any_lost i s other ps all.1)

  pub lost_same : (lines : List (List Job)) (ps : List Peer) (facts : Option Facts) (i : Id) (s : Site) → is_own_job i s.transport ≡ false → AllByRecursion (λ p. waits p ≡ true) ps → candidate_at lines (lost_at id site ps) facts i s ≡ candidate_at lines ps facts i s
  lost_same lines ps facts i s other all =
      candidate_same lines ps (lost_at id site ps) facts i s (any_lost i s other ps all)
      (rows_waiting i s.transport (map (changed_at id site lost) ps) ∙ rows_changed lost (λ p. refl) (λ p. refl) i s.transport other ps)
