-- What a contract sees of the jobs of all transports and of their peers.
use Rattle.std.specs.List.{list_any}
use Rattle.std.specs.Option.{option_map_or}
use Rattle.std.specs.Prelude.{◌≡◌, ◌&&◌, ◌++◌, [], ◌∷◌, Bool, filter, find, if◌then◌else◌, length, List, map, nat_lt, None, not, slice_get, suc, true, zero, ◌||◌, ℕ}
use Rattle.q_dest.specs.declared.dest.Dest.{Dest}
use Rattle.q_jobs.specs.declared.job.Job.{Job}
use Rattle.q_jobs.specs.Jobs.{AreOfOthers, is_job_of}
use Rattle.q_model.specs.declared.id.Id.{Id}
use Rattle.q_model.specs.Values.{Site}
use Rattle.q_rounds.specs.declared.peer.Peer.{Peer}
use Rattle.q_rounds.specs.Rounds.{gained, has_space_at, is_peer, is_peer_for, lost, new_peer, started, waits}
use Rattle.q_suspended.specs.declared.suspension.Suspension.{Suspension}

-- the jobs of each transport in their order, the peers, the sites that are suspended, how many jobs
-- each line has room for, and how many peers and how many suspended sites have
pub record Turning : Type 0 where
  pub lines : List (List Job)
  pub peers : List Peer
  pub suspended : List Suspension
  pub line_room : ℕ
  pub room : ℕ
  pub suspended_room : ℕ

-- the jobs of a transport
abbrev pub line_at : ℕ → List (List Job) → List Job
line_at transport lines = option_map_or (λ jobs. jobs) (slice_get lines transport) []

-- the jobs of a transport are changed
abbrev pub with_line : ℕ → (List Job → List Job) → List (List Job) → List (List Job)
with_line transport change [] = []
with_line zero change (jobs ∷ lines) = change jobs ∷ lines
with_line (suc transport) change (jobs ∷ lines) = jobs ∷ with_line transport change lines

-- no message has two jobs in a line
abbrev pub AreLinesApart : List (List Job) → Type 0
AreLinesApart [] = Unit {0}
AreLinesApart (jobs ∷ lines) = AreOfOthers jobs × AreLinesApart lines

-- how many rows of the message wait for the site
abbrev pub waiting_for : Id → Site → List Peer → ℕ
waiting_for id site ps = option_map_or (λ p. p.waiting) (find (is_peer id site) ps) 0

-- the number of the delivery in which the message was last sent to the site, or 0
abbrev pub last_for : Id → Site → List Peer → ℕ
last_for id site ps = option_map_or (λ p. p.last) (find (is_peer id site) ps) 0

-- changed where it is this peer
abbrev pub changed_at : Id → Site → (Peer → Peer) → Peer → Peer
changed_at id site change p = if is_peer id site p then change p else p

-- one row more of the message waits for the site; a peer that comes was never sent to
abbrev pub gained_at : Id → Site → List Peer → List Peer
gained_at id site ps = if list_any (is_peer id site) ps then map (changed_at id site gained) ps
    else ps ++ new_peer id site 0 ∷ []

-- one row less; a peer for which none waits goes
abbrev pub lost_at : Id → Site → List Peer → List Peer
lost_at id site ps = filter waits (map (changed_at id site lost) ps)

-- the message was last sent to the site in the delivery of this number
abbrev pub started_at : Id → Site → ℕ → List Peer → List Peer
started_at id site last ps = map (changed_at id site (started last)) ps

-- the message has a row at the transport that may be sent
abbrev pub is_able : List Dest → List Peer → ℕ → Id → Bool
is_able ds ps transport id =
    list_any (λ p. is_peer_for id transport p && has_space_at ds p.site) ps

-- no two are of one message and site
abbrev pub AreApart : List Peer → Type 0
AreApart [] = Unit {0}
AreApart (p ∷ ps) = (find (is_peer p.id p.site) ps ≡ None) × AreApart ps

-- the message has a job at the transport
abbrev pub has_job : List (List Job) → ℕ → Id → Bool
has_job lines transport id = list_any (is_job_of id) (line_at transport lines)

-- it has one, where the transport has a line
abbrev pub may_wait : List (List Job) → ℕ → Id → Bool
may_wait lines transport id = not (nat_lt transport (length lines)) || has_job lines transport id

-- a row waits for each, and its message has a job at its transport, where that has a line
abbrev pub HaveJobs : List (List Job) → List Peer → Type 0
HaveJobs lines [] = Unit {0}
HaveJobs lines (p ∷ ps) = (waits p ≡ true) × (may_wait lines p.site.transport p.id ≡ true)
    × HaveJobs lines ps
