-- A worked notice to the sender, of a recipient with an original address.
use Rattle.q_model.proofs.RowWords.{id, lines}
use Rattle.q_model.specs.IdTexts.{hex}
use Rattle.q_model.specs.Message.{Message}
use Rattle.q_model.specs.Notices.{notice}
use Rattle.q_model.specs.declared.outcome.Why.TheVariants.{Refused}
use Rattle.q_model.specs.declared.rows.Mark.TheVariants as marks
use Rattle.q_model.specs.declared.rows.Place.TheVariants as places
use Rattle.std.proofs.Common.{refl}
use Rattle.std.specs.Fmt.{digits}
use Rattle.std.specs.Prelude.{[], codes, length, List, None, Option, Some, true, ℕ, ◌∷◌, ◌≡◌}

-- a message that was refused, with this original address
abbrev refused : Option (List ℕ) → Message
refused original = record {
  id = id 1;
  version = 2;
  sender = Some (codes "a@x.example");
  arrival = 1000;
  content = [];
  recipients = record { address = codes "b@y.example"; original = original; mark = marks.Synced } ∷ [];
  failures = record { failure = record { position = 0; why = Refused; code = 550 }; firm = true } ∷ [];
  place = places.Active;
}

told_for_original : notice (refused (Some (codes "info@x.example"))) ≡ lines (
    codes "From: MAILER-DAEMON"
    ∷ codes "To: a@x.example"
    ∷ codes "Subject: Undelivered Mail Returned to Sender"
    ∷ []
    ∷ codes "These recipients of message 00000001-00000001 were not reached:"
    ∷ []
    ∷ codes "b@y.example (for info@x.example): refused 550"
    ∷ []
    ∷ codes "The message had 0 bytes. Its first 0 bytes follow."
    ∷ []
    ∷ [])
unfolding digits hex
told_for_original = refl

sizes : (length (notice (refused (Some (codes "info@x.example")))) ≡ 246) × (length (notice (refused None)) ≡ 225)
unfolding digits hex
sizes = (refl, refl)
