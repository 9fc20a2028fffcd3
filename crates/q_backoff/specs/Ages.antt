-- What the age of a message says, in each world with these settings.
use Rattle.std.specs.Prelude.{◌≡◌, Bool, is_none, ℕ}
use Rattle.q_model.specs.Message.{Message}
use Rattle.q_model.specs.Settings.{Settings, World}
use Rattle.q_model.specs.Times.{due, is_expired}

-- a message of this arrival that is deferred now is due then
abbrev pub IsDue : Settings → ℕ → ℕ → ℕ → Type 0
IsDue settings arrival seconds then = (w : World) → (m : Message) → w.settings ≡ settings
    → m.arrival ≡ arrival → then ≡ due w seconds m

-- a message of this arrival and with or without a sender has reached its lifetime now, or hasn't
abbrev pub IsExpiry : Settings → ℕ → Bool → ℕ → Bool → Type 0
IsExpiry settings arrival null_sender seconds answer = (w : World) → (m : Message)
    → w.settings ≡ settings → m.arrival ≡ arrival → is_none m.sender ≡ null_sender
    → answer ≡ is_expired w seconds m
