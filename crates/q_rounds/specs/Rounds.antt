-- What a contract sees of peers in their rounds.
use Rattle.std.specs.Option.{option_map_or}
use Rattle.std.specs.Prelude.{◌≡◌, ◌&&◌, ◌||◌, ◌+◌, ◌-◌, ◌==◌, [], ◌∷◌, Bool, false, filter, find, if◌then◌else◌, List, nat_lt, None, not, Option, ℕ}
use Rattle.q_dest.specs.declared.dest.Dest.{Dest}
use Rattle.q_dest.specs.Dests.{has_space, is_at}
use Rattle.q_keyed.specs.Numbered.{Numbered}
use Rattle.q_model.specs.declared.id.Id.{Id}
use Rattle.q_model.specs.Ids.{id_eq}
use Rattle.q_model.specs.Lists.{least}
use Rattle.q_model.specs.Sites.{site_eq}
use Rattle.q_model.specs.Values.{Site}
use Rattle.q_peers.specs.Buckets.{peer_hash}
use Rattle.q_rounds.specs.declared.peer.Peer.{Peer}
use Rattle.q_rounds.specs.declared.peer.PeerKey.{PeerKey}

abbrev pub key_of : Peer → PeerKey
key_of p = record { id = p.id; site = p.site }

abbrev pub key_eq : PeerKey → PeerKey → Bool
key_eq a b = id_eq a.id b.id && site_eq a.site b.site

-- a number that is taken from both
abbrev pub key_hash : PeerKey → ℕ
key_hash k = peer_hash k.id k.site

-- the peer of the message at the site
abbrev pub is_peer : Id → Site → Peer → Bool
is_peer id site p = id_eq p.id id && site_eq p.site site

-- it is of the message, at the transport
abbrev pub is_peer_for : Id → ℕ → Peer → Bool
is_peer_for id transport p = id_eq p.id id && (p.site.transport == transport)

-- a row waits
abbrev pub waits : Peer → Bool
waits p = nat_lt 0 p.waiting

-- the message was sent to the site
abbrev pub is_started : Peer → Bool
is_started p = nat_lt 0 p.last

-- one row more waits
abbrev pub gained : Peer → Peer
gained p = record p { waiting = p.waiting + 1 }

-- one row less; where the message wasn't sent to the site, rows that came behind this one may have
-- come before those that are left
abbrev pub lost : Peer → Peer
lost p = record p { waiting = p.waiting - 1; passed = p.passed || not (is_started p) }

-- a delivery of this number is the last
abbrev pub started : ℕ → Peer → Peer
started number p = record p { last = number; passed = false }

-- a peer that comes to be, for which one row waits, and which was last sent to with this number
abbrev pub new_peer : Id → Site → ℕ → Peer
new_peer id site last = record { id = id; site = site; waiting = 1; last = last; passed = false }

-- changed where it has this number
abbrev pub changed_number : ℕ → (Peer → Peer) → Numbered Peer → Numbered Peer
changed_number n change k = if k.number == n then record k { item = change k.item } else k

-- a peer was last sent to with this number, which isn't 0
abbrev pub has_last : ℕ → Peer → Bool
has_last number p = nat_lt 0 number && (p.last == number)

-- no two peers were last sent to with one number
abbrev pub AreStartsApart : List Peer → Type 0
AreStartsApart [] = Unit {0}
AreStartsApart (p ∷ ps) = (find (has_last p.last) ps ≡ None) × AreStartsApart ps

-- how many rows of the message wait at the transport
abbrev pub rows_left : Id → ℕ → List Peer → ℕ
rows_left id transport [] = 0
rows_left id transport (p ∷ ps) =
    (if is_peer_for id transport p then p.waiting else 0) + rows_left id transport ps

-- more deliveries to the site may be in flight
abbrev pub has_space_at : List Dest → Site → Bool
has_space_at ds site = option_map_or has_space (find (is_at site) ds) false

-- the peer is of the message at the transport, and its site has space
abbrev pub may_send : List Dest → ℕ → Id → Peer → Bool
may_send ds transport id p = is_peer_for id transport p && has_space_at ds p.site

-- it was sent to before another
abbrev pub sent_before : Peer → Peer → Bool
sent_before a b = nat_lt a.last b.last

-- The peer that is sent to next: of those at a site that has space the one that was sent to longest
-- ago, before it those that never were; among these the first that came.
abbrev pub next_in : List Dest → ℕ → Id → List Peer → Option Peer
next_in ds transport id ps = least sent_before (filter (may_send ds transport id) ps)

-- the rows of a peer left in another order than that in which they came
abbrev pub is_passed : Peer → Bool
is_passed p = p.passed
