use Rattle.q_drain.proofs.Naming.{at_names_turn, reply_names_turn}
use Rattle.q_drain.proofs.Running.{run_longer}
use Rattle.q_drain.proofs.names_its_events.Goals as goal
use Rattle.q_model.specs.Step.{after_all}
use Rattle.q_model.specs.declared.event.Event.TheVariants as events

pub returns-clause-reply : goal.returns-clause-reply
returns-clause-reply c = λ w l told number site outcomes is. run_longer w l told (events.Reply number site outcomes) is (reply_names_turn w (after_all w l told) number site outcomes)

pub returns-clause-moment : goal.returns-clause-moment
returns-clause-moment c = λ w l told t late is. run_longer w l told (events.At t) is (at_names_turn w (after_all w l told) t late)
