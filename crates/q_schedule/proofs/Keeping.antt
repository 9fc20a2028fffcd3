-- The candidates of all messages but one, as one is filed and another is taken.
use Rattle.std.proofs.Common.{◌≡◌, ◌∙◌, ap, Bool, cond, false, List, None, Option, option_map, refl, Some, sym, true}
use Rattle.std.proofs.lemmas.Bool.{both_ways}
use Rattle.std.specs.List.{list_any}
use Rattle.std.specs.Option.{is_some}
use Rattle.std.specs.Prelude.{◌&&◌, find}
use Rattle.q_candidates.specs.Candidates.{is_of}
use Rattle.q_candidates.specs.declared.candidate.Candidate.{Candidate}
use Rattle.q_jobs.specs.declared.job.Job.{Job}
use Rattle.q_jobs.proofs.LineWalks.{flipped}
use Rattle.q_model.proofs.IdLaws.{id_eq-true}
use Rattle.q_model.specs.declared.id.Id.{Id}
use Rattle.q_model.specs.Ids.{id_eq}
use Rattle.q_model.specs.Values.{Site}
use Rattle.q_rounds.specs.declared.peer.Peer.{Peer}
use Rattle.q_rounds.specs.Rounds.{is_peer}
use Rattle.q_schedule.specs.declared.ranked.Ranked.{Ranked}
use Rattle.q_schedule.specs.Sound.{AreKept, facts_at, is_stale}
use Rattle.q_turns.specs.Filing.{AreOfPeers, candidate_at, candidate_of, IsFiled, is_fresh}
use Rattle.q_turns.specs.declared.filing.Facts.{Facts}

-- without a peer there is no candidate
no_peer : (lines : List (List Job)) (ps : List Peer) (facts : Option Facts) (i : Id) (s : Site) → list_any (is_peer i s) ps ≡ false → candidate_at lines ps facts i s ≡ None
no_peer lines ps facts i s none = ap (λ b. cond (b && is_fresh lines s.transport i) (option_map (candidate_of ps i s) facts) None) none

none_either : (ps : List Peer) (i : Id) (s : Site) (b : Bool) → cond b (option_map (candidate_of ps i s) None) None ≡ None
none_either ps i s true = refl
none_either ps i s false = refl

-- nothing is known of it
no_facts : (lines : List (List Job)) (ps : List Peer) (i : Id) (s : Site) → candidate_at lines ps None i s ≡ None
no_facts lines ps i s = none_either ps i s (list_any (is_peer i s) ps && is_fresh lines s.transport i)

module _ (lines : List (List Job)) (ps : List Peer) (rs : List Ranked) where
  peers_step : (i : Id) (s : Site) (stale b : Bool) → list_any (is_peer i s) ps ≡ b → is_some (cond stale None (candidate_at lines ps (facts_at rs i) i s)) ≡ true → list_any (is_peer i s) ps ≡ true
  peers_step i s true b is h = absurd cc
  peers_step i s false true is h = is
  peers_step i s false false is h =
      let none = no_peer lines ps (facts_at rs i) i s is in
      absurd (both_ways (is_some (candidate_at lines ps (facts_at rs i) i s)) (ap is_some none) h)

  pub of_peers : (stale : Option Id) (cs : List Candidate) → AreKept lines ps rs stale cs → AreOfPeers ps cs
  of_peers stale cs kept i s h =
      peers_step i s (is_stale stale i) (list_any (is_peer i s) ps) refl (ap is_some (sym (kept i s)) ∙ h)

  settle_step : (i other : Id) (s : Site) (old : Option Candidate) (b p : Bool) → id_eq i other ≡ b → list_any (is_peer i s) ps ≡ p → id_eq other i ≡ b → old ≡ cond (id_eq other i) None (candidate_at lines ps (facts_at rs i) i s) →
      cond (b && p) (candidate_at lines ps (facts_at rs other) i s) old ≡ candidate_at lines ps (facts_at rs i) i s
  settle_step i other s old true true same peer back was = ap (λ x. candidate_at lines ps (facts_at rs x) i s) (sym (id_eq-true i other same))
  settle_step i other s old true false same peer back was =
      was ∙ ap (λ b. cond b None (candidate_at lines ps (facts_at rs i) i s)) back ∙ sym (no_peer lines ps (facts_at rs i) i s peer)
  settle_step i other s old false p same peer back was = was ∙ ap (λ b. cond b None (candidate_at lines ps (facts_at rs i) i s)) back

  -- those of the message that had none are filed
  pub settled : (other : Id) (old new : List Candidate) → AreKept lines ps rs (Some other) old → IsFiled lines ps other (facts_at rs other) old new → AreKept lines ps rs None new
  settled other old new kept filed i s =
      filed i s
      ∙ settle_step i other s (find (is_of i s) old) (id_eq i other) (list_any (is_peer i s) ps) refl refl (flipped other i) (kept i s)

  taken_step : (i id : Id) (s : Site) (old : Option Candidate) (b p : Bool) → id_eq i id ≡ b → list_any (is_peer i s) ps ≡ p → old ≡ candidate_at lines ps (facts_at rs i) i s →
      cond (b && p) (candidate_at lines ps None i s) old ≡ cond b None (candidate_at lines ps (facts_at rs i) i s)
  taken_step i id s old true true same peer was = no_facts lines ps i s
  taken_step i id s old true false same peer was = was ∙ no_peer lines ps (facts_at rs i) i s peer
  taken_step i id s old false p same peer was = was

  -- those of the message are taken
  pub taken : (id : Id) (old new : List Candidate) → AreKept lines ps rs None old → IsFiled lines ps id None old new → AreKept lines ps rs (Some id) new
  taken id old new kept filed i s =
      filed i s
      ∙ taken_step i id s (find (is_of i s) old) (id_eq i id) (list_any (is_peer i s) ps) refl refl (kept i s)
      ∙ ap (λ b. cond b None (candidate_at lines ps (facts_at rs i) i s)) (flipped i id)

  module _ (later : List (List Job)) (qs : List Peer) (ts : List Ranked) (cs : List Candidate) where
    -- the candidates stay, but those of one message
    abbrev pub AreSameBut : Id → Type 0
    AreSameBut id = (i : Id) (s : Site) → id_eq id i ≡ false → candidate_at later qs (facts_at ts i) i s ≡ candidate_at lines ps (facts_at rs i) i s

    others_step : (id i : Id) (s : Site) (b : Bool) → id_eq id i ≡ b → AreSameBut id → cond b None (candidate_at lines ps (facts_at rs i) i s) ≡ cond b None (candidate_at later qs (facts_at ts i) i s)
    others_step id i s true is same = refl
    others_step id i s false is same = sym (same i s is)

    pub others_stay : (id : Id) → AreKept lines ps rs (Some id) cs → AreSameBut id → AreKept later qs ts (Some id) cs
    others_stay id kept same i s = kept i s ∙ others_step id i s (id_eq id i) refl same

    where_step : (stale : Option Id) (i : Id) (s : Site) (b : Bool) → is_stale stale i ≡ b → ((i : Id) (s : Site) → is_stale stale i ≡ false → candidate_at later qs (facts_at ts i) i s ≡ candidate_at lines ps (facts_at rs i) i s) →
        cond b None (candidate_at lines ps (facts_at rs i) i s) ≡ cond b None (candidate_at later qs (facts_at ts i) i s)
    where_step stale i s true is same = refl
    where_step stale i s false is same = sym (same i s is)

    -- those that are kept stay
    pub kept_stay : (stale : Option Id) → AreKept lines ps rs stale cs → ((i : Id) (s : Site) → is_stale stale i ≡ false → candidate_at later qs (facts_at ts i) i s ≡ candidate_at lines ps (facts_at rs i) i s) → AreKept later qs ts stale cs
    kept_stay stale kept same i s = kept i s ∙ where_step stale i s (is_stale stale i) refl same

    -- all stay
    pub all_stay : (stale : Option Id) → AreKept lines ps rs stale cs → ((i : Id) (s : Site) → candidate_at later qs (facts_at ts i) i s ≡ candidate_at lines ps (facts_at rs i) i s) → AreKept later qs ts stale cs
    all_stay stale kept same i s = kept i s ∙ ap (cond (is_stale stale i) None) (sym (same i s))
