use Rattle.std.proofs.Common.{◌<◌, ◌^◌, subst}
use Rattle.std.specs.List.{AllByRecursion}
use Rattle.q_keyed.specs.Numbered.{values_of}
use Rattle.q_schedule.proofs.Knowing.{few_messages}
use Rattle.q_schedule.proofs.MessageLaws.{apart_messages}
use Rattle.q_schedule.specs.declared.admitted.Admitted.{Admitted}
use Rattle.q_schedule.specs.Schedule.{AreApart, Scheduling}
use Rattle.q_schedule.proofs.schedule.Schedule.stand_apart.Goals as goal

pub returns-clause-messages : goal.returns-clause-messages
returns-clause-messages c = subst (λ (v : Scheduling). AreApart v.messages) c.self.view_is (apart_messages c.self.inside.messages.items c.stand_apart-2.ensures.keys)

pub returns-clause-few_unread : goal.returns-clause-few_unread
returns-clause-few_unread c =
    subst (λ (v : Scheduling). AllByRecursion (λ (m : Admitted). m.unread < 2 ^ 32) v.messages) c.self.view_is (few_messages (values_of c.self.inside.messages.items) c.self.invariant.few)
