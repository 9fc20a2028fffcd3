-- What always holds of the parts of a core.
use Rattle.std.specs.List.{AllByRecursion}
use Rattle.std.specs.Option.{option_map_or}
use Rattle.std.specs.Prelude.{◌≡◌, ◌≤◌, ◌<◌, ◌+◌, ◌&&◌, ◌||◌, [], Bool, count_by, false, find, List, map, not, true, ℕ, ◌∷◌}
use Rattle.q_core.specs.Known.{site_of}
use Rattle.q_dest.specs.declared.dest.Dest.{Dest}
use Rattle.q_dest.specs.Dests.{is_at, is_dead}
use Rattle.q_model.specs.Sites.{site_eq}
use Rattle.q_model.specs.declared.id.Id.{Id}
use Rattle.q_model.specs.declared.rows.Delivery.{Delivery}
use Rattle.q_model.specs.declared.rows.Row.{Row}
use Rattle.q_model.specs.declared.rows.Unsettled.{Unsettled}
use Rattle.q_model.specs.Ids.{id_eq}
use Rattle.q_model.specs.Settings.{Settings}
use Rattle.q_model.specs.Values.{Site}
use Rattle.q_pool.specs.Pooled.{Pooled}
use Rattle.q_pool.specs.Kept.{unread_of}
use Rattle.q_pool.specs.declared.kept.Kept.{Kept}
use Rattle.q_pool.specs.declared.slot.Slot.{Slot}
use Rattle.q_rounds.specs.declared.peer.Peer.{Peer}
use Rattle.q_rounds.specs.Rounds.{is_started, key_eq, key_of}
use Rattle.q_schedule.specs.declared.admitted.Admitted.{Admitted}
use Rattle.q_schedule.specs.Schedule.{Scheduling}
use Rattle.q_suspended.specs.declared.suspension.Suspension.{Suspension}

module _ {K D : Type 0} (eq : K → K → Bool) (key : D → K) where
  -- what is kept under the key, 0 where nothing is
  abbrev pub tally_of : (D → ℕ) → List D → K → ℕ
  tally_of g ds k = option_map_or g (find (λ d. eq (key d) k) ds) 0

  -- under each key so many are kept as there are; where nothing is kept there is none
  abbrev pub AreTallied : {X : Type 0} → (D → ℕ) → (X → K) → List D → List X → Type 0
  AreTallied g name ds xs = (k : K) → tally_of g ds k ≡ count_by (λ x. eq (name x) k) xs

-- each of these is under the key
abbrev pub AreNamed : {K X : Type 0} → (X → K) → K → List X → Type 0
AreNamed name k [] = Unit {0}
AreNamed name k (x ∷ xs) = (name x ≡ k) × AreNamed name k xs

-- so many of these are of the message
abbrev pub count_of : {X : Type 0} → (X → Id) → Id → List X → ℕ
count_of name id xs = count_by (λ x. id_eq (name x) id) xs

abbrev pub message_of : Kept → Id
message_of k = k.slot.id

-- what is kept of the message, 0 where it isn't in memory
abbrev pub kept_of : (Kept → ℕ) → List Kept → Id → ℕ
kept_of = tally_of id_eq message_of

-- of each message so many are kept as there are; of one that isn't in memory there is none
abbrev pub AreCounted : {X : Type 0} → (Kept → ℕ) → (X → Id) → List Kept → List X → Type 0
AreCounted = AreTallied id_eq message_of

-- no delivery has a greater number than the last start
abbrev pub AreNumbered : ℕ → List Delivery → Type 0
AreNumbered starts fs = AllByRecursion (λ f. f.number ≤ starts) fs

-- the messages are of these settings
pub record IsPoolFor (p : Settings) (m : Pooled) : Type 0 where
  pub room : m.room ≡ p.active_limit
  pub sync_limit : m.sync_limit ≡ p.mark_sync_limit
  pub minimum : m.minimum ≡ p.recipient_minimum

pub record AreTied (p : Settings) (m : Pooled) (rows : List Row) (fs : List Delivery)
    (us : List Unsettled) (starts : ℕ) : Type 0 where
  pub numbers : AreNumbered starts fs
  pub pool : IsPoolFor p m
  pub waiting : AreCounted (λ k. k.waiting) (λ (r : Row). r.id) m.items rows
  pub flights : AreCounted (λ k. k.flying) (λ (f : Delivery). f.row.id) m.items fs
  pub unsettled : AreCounted (λ k. k.unsettled) (λ (u : Unsettled). u.id) m.items us

-- of each site so many rows wait as are kept; where it has no record none waits
abbrev pub AreWaitingTied : List Dest → List Row → Type 0
AreWaitingTied ds rows = AreTallied site_eq site_of (λ d. d.waiting) (λ (r : Row). r.site) ds rows

-- so it is with the deliveries in flight
abbrev pub AreBusyTied : List Dest → List Delivery → Type 0
AreBusyTied ds fs = AreTallied site_eq site_of (λ d. d.busy) (λ (f : Delivery). f.row.site) ds fs

-- of each message so many rows wait at each site as its peer there says
abbrev pub ArePeersTied : List Peer → List Row → Type 0
ArePeersTied ps rows =
    AreTallied key_eq key_of (λ p. p.waiting) (λ (r : Row). record { id = r.id; site = r.site }) ps rows

-- the row is of the peer
abbrev pub is_row_of : Peer → Row → Bool
is_row_of p r = key_eq (record { id = r.id; site = r.site }) (key_of p)

-- the message wasn't sent to the site, and no row of it there was put off
abbrev pub is_fresh : Peer → Bool
is_fresh p = not (is_started p) && not p.passed

-- where both are fresh, the first row of the one came before each of the other
abbrev pub ComesBefore : List Row → Peer → Peer → Type 0
ComesBefore rows p d = is_fresh p ≡ true → is_fresh d ≡ true
    → find (λ r. is_row_of p r || is_row_of d r) rows ≡ find (is_row_of p) rows

-- fresh peers stand in the order in which their first rows came
abbrev pub AreInOrder : List Row → List Peer → Type 0
AreInOrder rows [] = Unit {0}
AreInOrder rows (p ∷ ps) = AllByRecursion (ComesBefore rows p) ps × AreInOrder rows ps

-- peers count the rows, stand in their order, and were last sent to in starts that were
pub record AreTurnsTied (ps : List Peer) (rows : List Row) (starts : ℕ) : Type 0 where
  pub counts : ArePeersTied ps rows
  pub order : AreInOrder rows ps
  pub known : AllByRecursion (λ p. p.last ≤ starts) ps

-- one more than the moment up to which it rests, 0 where it doesn't rest
abbrev pub rest_of : Dest → ℕ
rest_of d = option_map_or (λ t. t + 1) d.known.rest 0

-- that of the site, 0 where it has no record
abbrev pub rest_at : List Dest → Site → ℕ
rest_at ds site = tally_of site_eq site_of rest_of ds site

-- each site that is suspended rests at least until it is resumed
abbrev pub AreSuspended : List Dest → List Suspension → Type 0
AreSuspended ds suspended = AllByRecursion (λ s. s.until < rest_at ds s.site) suspended

-- the row goes to a site that is dead
abbrev pub goes_to_dead : List Dest → Row → Bool
goes_to_dead ds r = option_map_or is_dead (find (is_at r.site) ds) false

pub record AreSitesTied (ds : List Dest) (rows : List Row) (fs : List Delivery) : Type 0 where
  pub waiting : AreWaitingTied ds rows
  pub busy : AreBusyTied ds fs

-- what the schedule knows of a message
abbrev pub admitted_of : Slot → Admitted
admitted_of s = record { id = s.id; arrival = s.arrival; unread = unread_of s }

-- the schedule knows the messages in memory in their order, and has room for as many
pub record AreMessagesTied (p : Settings) (s : Scheduling) (slots : List Slot) : Type 0 where
  pub known : s.messages ≡ map admitted_of slots
  pub room : s.message_room ≡ p.active_limit
