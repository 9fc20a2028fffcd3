use Rattle.std.proofs.Common.{◌≡◌, ◌≤◌, List, length, subst, sym, true}
use Rattle.std.specs.List.{list_all}
use Rattle.q_message.specs.NewFile.{is_receiver}
use Rattle.q_model.specs.Values.{Receiver}
use Rattle.q_load.proofs.Counting.{no_others, some_recipients}
use Rattle.q_load.proofs.mails.mail.Goals as goal

pub returns-clause-form : goal.returns-clause-form
returns-clause-form c = subst (λ (to : List Receiver). (list_all is_receiver to ≡ true) × (1 ≤ length to)) (sym c.in_ok-to.ensures) (no_others c.args.number, some_recipients c.args.number)
