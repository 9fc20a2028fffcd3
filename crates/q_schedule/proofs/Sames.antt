-- Candidates stay where a row goes, or another account comes, of a job that isn't fresh.
use Rattle.std.proofs.Common.{◌≡◌, ◌∙◌, ap, Bool, false, List, map, Option, refl, Some, sym, true, ℕ}
use Rattle.std.proofs.lemmas.Bool.{and_parts, both_ways, eqb-true}
use Rattle.std.specs.List.{AllByRecursion}
use Rattle.std.specs.Prelude.{◌||◌, ◌==◌}
use Rattle.q_jobs.specs.declared.job.Job.{Job}
use Rattle.q_jobs.specs.Jobs.{account_in}
use Rattle.q_model.proofs.IdLaws.{id_eq-refl, id_eq-true}
use Rattle.q_model.specs.declared.id.Id.{Id}
use Rattle.q_model.specs.Ids.{id_eq}
use Rattle.q_model.specs.Values.{Site}
use Rattle.q_rounds.specs.declared.peer.Peer.{Peer}
use Rattle.q_rounds.specs.Rounds.{waits}
use Rattle.q_schedule.proofs.LineSames.{candidate_lined, find_account, fresh_account, fresh_same}
use Rattle.q_schedule.proofs.PeerSames.{candidate_none, is_own_job, lost_same}
use Rattle.q_schedule.specs.Sound.{is_stale}
use Rattle.q_turns.specs.declared.filing.Facts.{Facts}
use Rattle.q_turns.specs.Filing.{candidate_at, is_fresh}
use Rattle.q_turns.specs.Turns.{lost_at, with_line}

module _ (lines : List (List Job)) (ps : List Peer) (now : Option Id) (facts : Option Facts) (i : Id) (s : Site) (current : is_stale now i ≡ false) where
  -- a row of the message goes, which is stale where its job there is fresh
  module _ (id : Id) (site : Site) (wait : AllByRecursion (λ p. waits p ≡ true) ps) (changed : Bool) (is : changed ≡ is_fresh lines site.transport id) (stale : changed ≡ true → now ≡ Some id) where
    fresh_not : (b : Bool) → changed ≡ b → i ≡ id → s.transport ≡ site.transport → is_fresh lines s.transport i ≡ false
    fresh_not true h own at =
        let its : is_stale now i ≡ true = ap (λ o. is_stale o i) (stale h) ∙ ap (id_eq id) own ∙ id_eq-refl id in
        absurd (both_ways (is_stale now i) current its)
    fresh_not false h own at = ap (is_fresh lines s.transport) own ∙ ap (λ t. is_fresh lines t id) at ∙ sym is ∙ h

    lost_step : (b : Bool) → is_own_job id site i s.transport ≡ b → candidate_at lines (lost_at id site ps) facts i s ≡ candidate_at lines ps facts i s
    lost_step true own =
        let parts = and_parts (id_eq i id) (s.transport == site.transport) own in
        let none = fresh_not changed refl (id_eq-true i id parts.0) (eqb-true s.transport site.transport parts.1) in
        candidate_none lines (lost_at id site ps) facts i s none ∙ sym (candidate_none lines ps facts i s none)
    lost_step false other = lost_same id site lines ps facts i s other wait

    pub row_lost : candidate_at lines (lost_at id site ps) facts i s ≡ candidate_at lines ps facts i s
    row_lost = lost_step (is_own_job id site i s.transport) refl

  -- another account of the message, which is stale where one of both is fresh
  module _ (t : ℕ) (job : Job) (changed : Bool) (is : changed ≡ (is_fresh lines t job.id || (job.starts == 0))) (stale : changed ≡ true → now ≡ Some job.id) where
    or_none : (a b : Bool) → (a || b) ≡ false → (a ≡ false) × (b ≡ false)
    or_none true b h = absurd cc
    or_none false b h = (refl, h)

    put_step : (b : Bool) → changed ≡ b → is_fresh (with_line t (map (account_in job)) lines) s.transport i ≡ is_fresh lines s.transport i
    put_step true h =
        fresh_same i (map (account_in job))
        (find_account job.id i (ap (λ o. is_stale o i) (sym (stale h)) ∙ current) job refl) t s.transport lines
    put_step false h =
        let parts = or_none (is_fresh lines t job.id) (job.starts == 0) (sym is ∙ h) in
        fresh_account job i (id_eq-refl job.id) parts.1 t s.transport lines parts.0

    pub account_put : candidate_at (with_line t (map (account_in job)) lines) ps facts i s ≡ candidate_at lines ps facts i s
    account_put = candidate_lined lines (with_line t (map (account_in job)) lines) ps facts i s (put_step changed refl)
