-- What always holds of the schedule.
use Rattle.std.specs.List.{AllByRecursion}
use Rattle.std.specs.Option.{option_map_or}
use Rattle.std.specs.Prelude.{◌≡◌, ◌<◌, ◌^◌, [], ◌∷◌, Bool, false, find, if◌then◌else◌, List, map, None, Option, option_map, ℕ}
use Rattle.q_candidates.specs.Candidates.{is_of, Listed}
use Rattle.q_candidates.specs.declared.candidate.Candidate.{Candidate}
use Rattle.q_jobs.specs.declared.job.Job.{Job}
use Rattle.q_keyed.specs.Numbered.{Items, values_of}
use Rattle.q_model.specs.declared.id.Id.{Id}
use Rattle.q_model.specs.Ids.{id_eq}
use Rattle.q_model.specs.Values.{Site}
use Rattle.q_rounds.specs.declared.peer.Peer.{Peer}
use Rattle.q_turns.specs.Turns.{Turning}
use Rattle.q_schedule.specs.declared.admitted.Admitted.{Admitted}
use Rattle.q_schedule.specs.declared.ranked.Ranked.{Ranked}
use Rattle.q_turns.specs.Filing.{candidate_at}
use Rattle.q_turns.specs.Suspending.{AreTied}
use Rattle.q_turns.specs.declared.filing.Facts.{Facts}

-- the messages without their ranks
abbrev pub messages_of : List Ranked → List Admitted
messages_of rs = map (λ r. r.message) rs

abbrev pub is_ranked : Id → Ranked → Bool
is_ranked id r = id_eq r.message.id id

abbrev pub facts_of : Ranked → Facts
facts_of r = record { arrival = r.message.arrival; rank = r.rank; unread = r.message.unread }

-- what is known of the message
abbrev pub facts_at : List Ranked → Id → Option Facts
facts_at rs id = option_map facts_of (find (is_ranked id) rs)

-- its candidates aren't kept
abbrev pub is_stale : Option Id → Id → Bool
is_stale stale id = option_map_or (λ s. id_eq s id) stale false

-- the candidate that is kept of the message at the site
abbrev pub kept_at : List (List Job) → List Peer → List Ranked → Option Id → Id → Site → Option Candidate
kept_at lines ps rs stale id site =
    if is_stale stale id then None else candidate_at lines ps (facts_at rs id) id site

-- so it is with the candidates of all messages
abbrev pub AreKept : List (List Job) → List Peer → List Ranked → Option Id → List Candidate → Type 0
AreKept lines ps rs stale cs = (i : Id) (s : Site)
    → find (is_of i s) cs ≡ kept_at lines ps rs stale i s

-- ranks rise in the order of admission, and all are below the next one
abbrev pub AreRanked : ℕ → List Ranked → Type 0
AreRanked next [] = Unit {0}
AreRanked next (r ∷ rs) = (r.rank < next) × AllByRecursion (λ q. r.rank < q.rank) rs
    × AreRanked next rs

pub record IsSound (turns : Turning) (messages : Items Ranked) (candidates : Listed) (stale : Option Id) (next : ℕ) : Type 0 where
  pub kept : AreKept turns.lines turns.peers (values_of messages.items) stale candidates.items
  pub ranked : AreRanked next (values_of messages.items)
  pub few : AllByRecursion (λ r. r.message.unread < 2 ^ 32) (values_of messages.items)
  pub room : candidates.room ≡ turns.room
  pub tied : AreTied turns.suspended candidates.suspended
