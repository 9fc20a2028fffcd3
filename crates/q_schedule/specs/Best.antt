-- The candidate of the message whose candidates aren't kept.
use Rattle.std.specs.Prelude.{◌≡◌, false, find, if◌then◌else◌, List, None, Option, Some, true, ℕ}
use Rattle.q_candidates.specs.Candidates.{goes_first}
use Rattle.q_candidates.specs.declared.candidate.Candidate.{Candidate}
use Rattle.q_dest.specs.declared.dest.Dest.{Dest}
use Rattle.q_jobs.specs.declared.job.Job.{Job}
use Rattle.q_model.specs.declared.id.Id.{Id}
use Rattle.q_model.specs.Values.{Site}
use Rattle.q_rounds.specs.declared.peer.Peer.{Peer}
use Rattle.q_schedule.specs.declared.ranked.Ranked.{Ranked}
use Rattle.q_schedule.specs.Schedule.{may_preempt, need_at}
use Rattle.q_schedule.specs.Sound.{is_ranked, is_stale}

-- a message as a candidate at a site
abbrev pub as_candidate : Site → List Peer → ℕ → Ranked → Candidate
as_candidate site ps transport r = record {
  id = r.message.id;
  site = site;
  need = need_at ps transport r.message;
  arrival = r.message.arrival;
  rank = r.rank;
}

-- the one that goes first
abbrev pub sooner : ℕ → Option Candidate → Option Candidate → Option Candidate
sooner now None b = b
sooner now (Some a) None = Some a
sooner now (Some a) (Some b) = if goes_first now b a then Some b else Some a

-- it is the candidate of the stale message, which may preempt
pub record IsOwnOf (ds : List Dest) (lines : List (List Job)) (ps : List Peer) (rs : List Ranked) (stale : Option Id) (transport most : ℕ) (except : Id) (c : Candidate) : Type 0 where
  pub message : Ranked
  pub there : find (is_ranked c.id) rs ≡ Some message
  pub stale_is : is_stale stale c.id ≡ true
  pub passes : may_preempt ds lines ps transport most except message.message ≡ true
  pub is : as_candidate c.site ps transport message ≡ c

-- or there is none, since a message that is stale may not preempt
abbrev pub IsOwn : List Dest → List (List Job) → List Peer → List Ranked → Option Id → ℕ → ℕ → Id → Option Candidate → Type 0
IsOwn ds lines ps rs stale transport most except None = (q : Ranked)
    → find (is_ranked q.message.id) rs ≡ Some q → is_stale stale q.message.id ≡ true
    → may_preempt ds lines ps transport most except q.message ≡ false
IsOwn ds lines ps rs stale transport most except (Some c) =
    IsOwnOf ds lines ps rs stale transport most except c
