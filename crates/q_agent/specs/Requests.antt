-- What a request opens.
use Rattle.std.specs.List.{AllByRecursion}
use Rattle.std.specs.Prelude.{◌<◌, ◌≡◌, ◌⊎◌, [], Bool, false, IsTrue, length, List, map, None, Option, slice_get, Some, true, unwrap_or, ℕ}
use Rattle.q_host.specs.View.{View as HostView}
use Rattle.q_link.specs.Reads.{Rose}
use Rattle.q_link.specs.Records.{AddsHops, HopsView, IsFresh, with_connect, with_hop}
use Rattle.q_link.specs.Routes.{has_route}
use Rattle.q_model.specs.IdTexts.{id_text}
use Rattle.q_model.specs.Values.{Spot}
use Rattle.q_model.specs.declared.id.Id.{Id}
use Rattle.q_model.specs.declared.spot.Area.TheVariants.{Active}
use Rattle.q_session.specs.Deliveries.{Serves}
use Rattle.q_session.specs.Mails.{Mail, StandsAt}
use Rattle.q_session.specs.Polls.{IsNew}
use Rattle.q_agent.specs.Sessions.{OpenSession, Work}

-- the file of an id in active
abbrev pub active_spot : Id → Spot
active_spot id = record { area = Active; name = id_text id }

-- each position is that of a recipient
abbrev pub IsReadable : Mail → List ℕ → Type 0
IsReadable mail positions = AllByRecursion (λ position. position < length mail.addresses) positions

-- the addresses at these positions
abbrev pub addresses_at : Mail → List ℕ → List (List ℕ)
addresses_at mail positions = map (λ position. unwrap_or (slice_get mail.addresses position) []) positions

-- It was connected, and delivers to the recipients at these positions.
pub record Begins (tells : Bool) (host : HostView) (spot : Spot) (hop positions : List ℕ) (now : ℕ) (hops : HopsView) (w : Work) : Type 0 where
  pub link : IsFresh hop hops w.link
  pub route : has_route hop ≡ true
  pub session : IsNew spot w.session.to now w.session
  pub addresses : (mail : Mail) → StandsAt tells host spot mail → IsTrue tells → w.session.to ≡ addresses_at mail positions
  pub serves : (mail : Mail) → StandsAt tells host spot mail → Serves tells mail w.session w.link

-- Without a link: no route, a connect that failed, or a host that doesn't tell its files.
abbrev pub IsUnconnected : Bool → List ℕ → HopsView → HopsView → Type 0
IsUnconnected tells hop old new = (has_route hop ≡ false) ⊎ (Rose old.connect_faults new.connect_faults ⊎ (IsTrue tells → ⊥))

abbrev pub BeginsWork : Bool → HostView → Spot → List ℕ → List ℕ → ℕ → HopsView → HopsView → Option Work → Type 0
BeginsWork tells host spot hop positions now old new None = IsUnconnected tells hop old new
BeginsWork tells host spot hop positions now old new (Some w) = Begins tells host spot hop positions now new w

-- a session is open for these positions
pub record Opens (tells : Bool) (host : HostView) (spot : Spot) (number : ℕ) (hop positions : List ℕ) (now : ℕ) (old new : HopsView) (o : OpenSession) : Type 0 where
  pub number_is : o.number ≡ number
  pub recipients : o.recipients ≡ length positions
  pub work : BeginsWork tells host spot hop positions now old new o.work

-- one connect at most was made
abbrev pub TriesConnect : List ℕ → HopsView → HopsView → Type 0
TriesConnect hop old new = AddsHops (λ t. t) old new ⊎ (AddsHops with_connect old new ⊎ AddsHops (with_hop hop) old new)
