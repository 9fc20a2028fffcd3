-- The pending positions of a message are those that aren't marked and have no flag of the log.
use Rattle.std.proofs.Common.{◌≡◌, ◌∙◌, ℕ, ◌<◌, ◌&&◌, ◌||◌, Bool, true, false, not, eqb, List, length, filter, refl, sym, ap, arith}
use Rattle.q_laws.proofs.Places.{places_mapped}
use Rattle.q_logfile.proofs.FlagLaws.{failures_have}
use Rattle.q_laws.proofs.Places.{filter_places, places_within}
use Rattle.q_logfile.specs.Flags.{AreFlags, flag_at}
use Rattle.q_message.specs.Pending.{unmarked_from}
use Rattle.q_model.proofs.EachLaws.{any-map}
use Rattle.q_model.proofs.FailuresLaws.{has_position}
use Rattle.q_model.specs.declared.outcome.Failure.{Failure}
use Rattle.q_model.specs.FilesStand.{file_message, file_recipient, MessageStands}
use Rattle.q_model.specs.Marks.{is_marked}
use Rattle.q_model.specs.Message.{is_logged, Logged, Message, pending, Recipient}
use Rattle.q_model.specs.QueueFile.{FileRecipient}
use Rattle.q_model.specs.SpoolFiles.{Files, logged_in}

-- a position is logged where its flag is set
logged_is : (f : Files) (m : Message) (flags : List Bool) → MessageStands f m → AreFlags (length m.recipients) (logged_in f m.id) flags → (i : ℕ) → i < length m.recipients → is_logged m i ≡ flag_at flags i
logged_is f m flags stands are i here =
    sym (any-map (λ (g : Failure). eqb g.position i) (λ (l : Logged). l.failure) m.failures)
    ∙ ap (has_position i) stands.failures
    ∙ failures_have (length m.recipients) i (logged_in f m.id) here
    ∙ sym (are.each i here)

-- neither the one nor the other
neither : (a b c : Bool) → b ≡ c → not (a || b) ≡ (not a && not c)
neither true b c same = refl
neither false b c same = ap not same

pub pending_is : (f : Files) (m : Message) (flags : List Bool) → MessageStands f m → AreFlags (length m.recipients) (logged_in f m.id) flags → pending m ≡ filter (λ i. not (flag_at flags i)) (unmarked_from (file_message m) 0)
pending_is f m flags stands are =
    places_within (λ i (r : Recipient). not (is_marked r.mark || is_logged m i)) (λ i (r : Recipient). not (is_marked r.mark) && not (flag_at flags i)) 0 m.recipients
    (λ i r here. neither (is_marked r.mark) (is_logged m i) (flag_at flags i) (logged_is f m flags stands are i (omega (arith, here))))
    ∙ sym (ap (filter (λ i. not (flag_at flags i))) (places_mapped (λ i (r : FileRecipient). not r.marked) file_recipient 0 m.recipients)
    ∙ filter_places (λ i (r : Recipient). not (is_marked r.mark)) (λ i. not (flag_at flags i)) 0 m.recipients)
