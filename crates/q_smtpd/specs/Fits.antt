-- Forms and limits of the messages that come.
use Rattle.std.specs.List.{list_all}
use Rattle.std.specs.Option.{is_none, option_map_or}
use Rattle.std.specs.Prelude.{◌&&◌, ◌≡◌, ◌≤◌, [], Bool, length, List, None, Option, Some, true, ℕ, ◌∷◌}
use Rattle.q_model.specs.Texts.{is_address}
use Rattle.q_model.specs.Values.{Receiver}
use Rattle.q_smtpd.specs.Places.{Came, Envelope, Mail, Place, Reply, commands, contents, left}

-- a recipient that was mapped to no other address
abbrev pub is_plain : Receiver → Bool
is_plain r = is_address r.address && is_none r.original

-- the sender is the null sender or has the form of an address, and each recipient has it
pub record AreAddresses (sender : Option (List ℕ)) (to : List Receiver) : Type 0 where
  pub from : option_map_or is_address sender true ≡ true
  pub each : list_all is_plain to ≡ true

-- addresses in form, 1 to 50,000 recipients, and at most 10,240,000 bytes
pub record IsFit (l : Mail) : Type 0 where
  pub addresses : AreAddresses l.sender l.to
  pub some : 1 ≤ length l.to
  pub few : length l.to ≤ 50000
  pub short : length l.content ≤ 10240000

abbrev pub FitsEnvelope : Option Envelope → Type 0
FitsEnvelope None = Unit {0}
FitsEnvelope (Some e) = AreAddresses e.sender e.to × (length e.to ≤ 50000)

abbrev pub FitsAt : Place → Type 0
FitsAt (commands c line) = FitsEnvelope c.envelope
FitsAt (contents e text line) = AreAddresses e.sender e.to × (1 ≤ length e.to) × (length e.to ≤ 50000)
FitsAt left = Unit {0}

abbrev pub FitsMail : Option Mail → Type 0
FitsMail None = Unit {0}
FitsMail (Some mail) = IsFit mail

abbrev pub AllFit : List Reply → Type 0
AllFit [] = Unit {0}
AllFit (r ∷ rs) = FitsMail r.mail × AllFit rs

-- a byte leads to a place within the limits, and to messages within them
abbrev pub FitsCame : Came → Type 0
FitsCame came = FitsAt came.place × AllFit came.replies
