-- What a drain hears is allowed, and it hears no reply where a life has begun as many deliveries as it may.
use Rattle.std.specs.Prelude.{◌<◌, ◌^◌, ◌≡◌, ◌≢◌, [], List, true, ◌∷◌}
use Rattle.q_drain.specs.Told.{ended_of}
use Rattle.q_laws.specs.Traces.{is_outside}
use Rattle.q_model.specs.declared.entry.Entry.{Entry}
use Rattle.q_model.specs.Ledger.{Ledger}
use Rattle.q_model.specs.Past.{starts}
use Rattle.q_model.specs.Settings.{World}
use Rattle.q_model.specs.Step.{after, allowed}

-- fewer deliveries have begun than may begin in a life
abbrev pub MayBeginMore : Ledger → Type 0
MayBeginMore l = starts l < 2 ^ 48

-- what comes from outside is allowed, and of a reply more deliveries may begin
abbrev pub MayHear : World → Ledger → Entry → Type 0
MayHear w l e = (is_outside e ≡ true → allowed w l e ≡ true) × (ended_of e ≢ [] → MayBeginMore l)

-- so it was of each entry
abbrev pub HadRoom : World → Ledger → List Entry → Type 0
HadRoom w l [] = Unit {0}
HadRoom w l (e ∷ es) = MayHear w l e × HadRoom w (after w l e) es
