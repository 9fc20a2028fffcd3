-- A message's file says the same where no file changed.
use Rattle.std.proofs.Common.{◌≡◌, Bool, IsTrue, ap, ◌∙◌}
use Rattle.std.specs.Option.{option_and_then, option_map}
use Rattle.q_host.specs.Calls.{Stays}
use Rattle.q_host.specs.View.{View}
use Rattle.q_model.specs.QueueFile.{queue_file}
use Rattle.q_model.specs.SpoolFiles.{Files}
use Rattle.q_model.specs.Values.{Spot}
use Rattle.q_session.specs.Mails.{Mail, mail_of, StandsAt}

pub stands_still : (tells : Bool) (v w : View) (s t : Spot) (mail : Mail) → (IsTrue tells → Stays v w) → t ≡ s → StandsAt tells v s mail → StandsAt tells w t mail
stands_still tells v w s t mail stays same h = λ is.
    ap (λ (f : Files). option_map mail_of (option_and_then queue_file (f t.area t.name))) (stays is).files
    ∙ ap (λ (x : Spot). option_map mail_of (option_and_then queue_file (v.files x.area x.name))) same ∙ h is
