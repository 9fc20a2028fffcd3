-- When a deferred message is due again, and when a message is given up (postconf(5):
-- minimal_backoff_time, maximal_backoff_time, maximal_queue_lifetime, bounce_queue_lifetime).
use Rattle.std.specs.Prelude.{◌+◌, ◌-◌, Bool, if◌then◌else◌, is_none, max, min, nat_le, ℕ}
use Rattle.q_model.specs.Message.{Message}
use Rattle.q_model.specs.Settings.{World}

-- how long ago the message arrived
abbrev pub age_of : ℕ → Message → ℕ
age_of now m = now - m.arrival

-- when the message is due again: as far ahead as its age, within the bounds of the back-off
abbrev pub due : World → ℕ → Message → ℕ
due w now m = now + max w.settings.minimal_backoff (min w.settings.maximal_backoff (age_of now m))

-- the message has reached its lifetime; bounces have one of their own
abbrev pub is_expired : World → ℕ → Message → Bool
is_expired w now m =
    nat_le (if is_none m.sender then w.settings.bounce_lifetime else w.settings.lifetime) (age_of now m)
