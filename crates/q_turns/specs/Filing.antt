-- Which candidates a message has.
use Rattle.std.specs.List.{list_any}
use Rattle.std.specs.Option.{is_some, option_map_or}
use Rattle.std.specs.Prelude.{◌≡◌, ◌&&◌, ◌+◌, ◌==◌, Bool, false, find, if◌then◌else◌, List, None, Option, option_and_then, option_map, Some, true, ℕ}
use Rattle.q_jobs.specs.declared.job.Job.{Job}
use Rattle.q_jobs.specs.Jobs.{is_job_of}
use Rattle.q_keyed.specs.Numbered.{item_at, Numbered}
use Rattle.q_model.specs.declared.id.Id.{Id}
use Rattle.q_model.specs.Ids.{id_eq}
use Rattle.q_model.specs.Sites.{site_eq}
use Rattle.q_model.specs.Values.{Site}
use Rattle.q_rounds.specs.declared.peer.Peer.{Peer}
use Rattle.q_rounds.specs.Rounds.{is_peer, rows_left}
use Rattle.q_candidates.specs.declared.candidate.Candidate.{Candidate}
use Rattle.q_candidates.specs.Candidates.{is_of}
use Rattle.q_turns.specs.declared.filing.Facts.{Facts}
use Rattle.q_turns.specs.Turns.{line_at}

-- the message has a job at the transport that began nothing
abbrev pub is_fresh : List (List Job) → ℕ → Id → Bool
is_fresh lines transport id =
    option_map_or (λ j. j.starts == 0) (find (is_job_of id) (line_at transport lines)) false

-- its candidate needs its rows that wait at the transport, and what is unread
abbrev pub candidate_of : List Peer → Id → Site → Facts → Candidate
candidate_of ps id site f = record {
  id = id;
  site = site;
  need = rows_left id site.transport ps + f.unread;
  arrival = f.arrival;
  rank = f.rank;
}

-- the candidate of the message at the site, where rows of it wait there and its job is fresh
abbrev pub candidate_at : List (List Job) → List Peer → Option Facts → Id → Site → Option Candidate
candidate_at lines ps facts id site =
    if list_any (is_peer id site) ps && is_fresh lines site.transport id
    then option_map (candidate_of ps id site) facts else None

-- each candidate is of a peer
abbrev pub AreOfPeers : List Peer → List Candidate → Type 0
AreOfPeers ps cs = (i : Id) (s : Site) → is_some (find (is_of i s) cs) ≡ true
    → list_any (is_peer i s) ps ≡ true

-- what is found of a message at a site: of this one anew, of others what was
abbrev pub filed_at : List (List Job) → List Peer → Id → Option Facts → List Candidate → Id → Site → Option Candidate
filed_at lines ps id facts old i s = if id_eq i id && list_any (is_peer i s) ps
    then candidate_at lines ps facts i s else find (is_of i s) old

-- those of the message are as they should be, and the others stay
abbrev pub IsFiled : List (List Job) → List Peer → Id → Option Facts → List Candidate → List Candidate → Type 0
IsFiled lines ps id facts old new = (i : Id) (s : Site)
    → find (is_of i s) new ≡ filed_at lines ps id facts old i s

-- it is this site
abbrev pub is_the_site : Option Site → Site → Bool
is_the_site o s = option_map_or (site_eq s) o false

-- that of the message at the site is as it should be, and the others stay
abbrev pub IsFiledAt : List (List Job) → List Peer → Id → Option Site → Option Facts → List Candidate → List Candidate → Type 0
IsFiledAt lines ps id site facts old new = (i : Id) (s : Site) → find (is_of i s) new
    ≡ (if id_eq i id && is_the_site site s then candidate_at lines ps facts i s
    else find (is_of i s) old)

-- the site of the peer under a number, where it is of the message
abbrev pub site_in : Id → List (Numbered Peer) → ℕ → Option Site
site_in id peers number = option_and_then
    (λ p. if id_eq p.id id then Some p.site else None) (item_at number peers)
