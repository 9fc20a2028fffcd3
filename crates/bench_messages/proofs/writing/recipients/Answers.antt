use Rattle.std.proofs.Common.{◌≡◌, ◌∙◌, List, refl, subst, sym, true}
use Rattle.std.proofs.lemmas.Bool.{and_from}
use Rattle.std.proofs.lemmas.List.Folds.{list_all-append}
use Rattle.std.specs.List.{list_all}
use Rattle.q_message.specs.NewFile.{is_receiver}
use Rattle.q_model.specs.Values.{Receiver}
use Rattle.bench_messages.proofs.writing.recipients.Goals as goal

pub loop-i-preserved : goal.loop-i-preserved
loop-i-preserved c =
    subst (λ (to : List Receiver). list_all is_receiver to ≡ true) (sym c.in_ok-push.ensures.ok)
    (list_all-append is_receiver c.loop-i.to _ ∙ and_from (list_all is_receiver c.loop-i.to) true c.loop-i.invariant refl)
