-- What is read of a queue file before its delivery begins.
use Rattle.std.specs.Prelude.{◌≡◌, Bool, IsTrue, Err, length, List, map, None, Ok, Option, Result, Some, ℕ}
use Rattle.q_host.specs.View.{View as HostView}
use Rattle.q_host.specs.declared.error.HostError.{HostError}
use Rattle.q_host.specs.declared.error.HostError.TheVariants as faults
use Rattle.q_message.specs.declared.error.MessageError.{MessageError}
use Rattle.q_message.specs.declared.error.MessageError.TheVariants as errors
use Rattle.q_model.specs.Values.{Spot}
use Rattle.q_session.specs.Mails.{IsHeadOf, Mail, StandsAt}
use Rattle.q_agent.specs.Requests.{addresses_at}
use Rattle.q_agent.specs.declared.reading.Letter.{Letter}

-- what was read, or nothing where it has no such form
abbrev pub readable : {T : Type 0} → Result T MessageError → Result (Option T) HostError
readable (Ok x) = Ok (Some x)
readable (Err errors.Disk) = Err faults.Disk
readable (Err errors.NoMemory) = Err faults.NoMemory
readable (Err (errors.NotAMessage place)) = Ok None

-- the head of a mail, and the addresses at these positions of it
pub record IsLetter (tells : Bool) (host : HostView) (spot : Spot) (positions : List ℕ) (l : Letter) : Type 0 where
  pub count : length l.to ≡ length positions
  pub head : (mail : Mail) → StandsAt tells host spot mail → IsTrue tells → IsHeadOf mail l.file
  pub addresses : (mail : Mail) → StandsAt tells host spot mail → IsTrue tells → map (λ r. r.address) l.to ≡ addresses_at mail positions
