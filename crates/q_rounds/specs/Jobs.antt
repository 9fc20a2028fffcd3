-- The rounds of jobs, which are messages at a transport, and how many rows of each job wait.
use Rattle.std.specs.Option.{is_some, option_map_or}
use Rattle.std.specs.Prelude.{◌≡◌, ◌≤◌, ◌<◌, ◌%◌, ◌*◌, ◌&&◌, ◌+◌, ◌==◌, [], ◌∷◌, Bool, false, if◌then◌else◌, List, None, Option, Some, true, ℕ}
use Rattle.q_keyed.specs.Numbered.{first_such, item_at, Numbered}
use Rattle.q_model.specs.declared.id.Id.{Id}
use Rattle.q_model.specs.Ids.{id_eq}
use Rattle.q_rounds.specs.declared.peer.Peer.{Peer}
use Rattle.q_rounds.specs.declared.round.Round.{Round}
use Rattle.q_rounds.specs.declared.round.RoundKey.{RoundKey}
use Rattle.q_rounds.specs.Rounds.{is_peer_for, rows_left}

abbrev pub key_of_round : Round → RoundKey
key_of_round r = record { id = r.id; transport = r.transport }

abbrev pub round_eq : RoundKey → RoundKey → Bool
round_eq a b = id_eq a.id b.id && (a.transport == b.transport)

-- a number that is taken from both
abbrev pub round_hash : RoundKey → ℕ
round_hash k = (k.id.serial * 31 + k.transport % 2147483647) % 2147483647

-- the round of the message at the transport
abbrev pub is_round : Id → ℕ → Round → Bool
is_round id transport r = id_eq r.id id && (r.transport == transport)

-- its number
abbrev pub round_at : Id → ℕ → List (Numbered Round) → Option ℕ
round_at id transport rounds = first_such (is_round id transport) rounds

-- the number of a peer's round
abbrev pub round_of : List (Numbered Round) → Peer → Option ℕ
round_of rounds p = round_at p.id p.site.transport rounds

-- how many rows wait in the round of a number
abbrev pub rows_at : List (Numbered Round) → Option ℕ → ℕ
rows_at rounds None = 0
rows_at rounds (Some n) = option_map_or (λ r. r.waiting) (item_at n rounds) 0

-- how many rows of the message wait at the transport, as its round says
abbrev pub rows_in : Id → ℕ → List (Numbered Round) → ℕ
rows_in id transport rounds = rows_at rounds (round_at id transport rounds)

-- both are one job
abbrev pub same_job : Id → ℕ → Id → ℕ → Bool
same_job id transport i t = id_eq id i && (transport == t)

-- a round's number is below the room, and rows wait in it
pub record IsRound (room number : ℕ) (r : Round) : Type 0 where
  pub below : number < room
  pub some : 1 ≤ r.waiting

abbrev pub AreEachRound : ℕ → List (Numbered Round) → Type 0
AreEachRound room rounds = (n : ℕ) (r : Round) → item_at n rounds ≡ Some r → IsRound room n r

-- so many rows of the job wait now, and all other rounds stay, with their numbers
pub record HasSet (id : Id) (transport rows room : ℕ) (old new : List (Numbered Round)) : Type 0 where
  pub own : rows_in id transport new ≡ rows
  pub kept : is_some (round_at id transport old) ≡ true → is_some (round_at id transport new) ≡ true
      → round_at id transport new ≡ round_at id transport old
  pub others : (i : Id) (t : ℕ) → same_job id transport i t ≡ false
      → round_at i t new ≡ round_at i t old
  pub rows_others : (i : Id) (t : ℕ) → same_job id transport i t ≡ false
      → rows_in i t new ≡ rows_in i t old
  pub each : AreEachRound room old → AreEachRound room new

-- the rounds count the rows of these peers
pub record AreRounds (room : ℕ) (rounds : List (Numbered Round)) (ps : List Peer) : Type 0 where
  pub rows : (i : Id) (t : ℕ) → rows_in i t rounds ≡ rows_left i t ps
  pub each : AreEachRound room rounds

-- a sum over peers
abbrev pub total : (Peer → ℕ) → List Peer → ℕ
total f [] = 0
total f (p ∷ ps) = f p + total f ps

-- the rows of a peer, where it is of the message at the transport
abbrev pub rows_of : Id → ℕ → Peer → ℕ
rows_of id transport p = if is_peer_for id transport p then p.waiting else 0

abbrev pub one_passed : Peer → ℕ
one_passed p = if p.passed then 1 else 0
