use Rattle.std.proofs.Common.{◌∙◌, ap, find, option_map, sym}
use Rattle.std.specs.Option.{option_copied}
use Rattle.q_keyed.specs.Numbered.{values_of}
use Rattle.q_schedule.proofs.MessageLaws.{find_message, none_message}
use Rattle.q_schedule.specs.declared.admitted.Admitted.{Admitted}
use Rattle.q_schedule.specs.declared.ranked.Ranked.{Ranked}
use Rattle.q_schedule.specs.Schedule.{is_message, Scheduling}
use Rattle.q_schedule.proofs.schedule.Schedule.unread.Goals as goal

pub returns-in_err-ranked : goal.returns-in_err-ranked
returns-in_err-ranked c =
    let rs = values_of c.self.inside.messages.items in
    c.from_residual.ensures
    ∙ sym (ap (λ (v : Scheduling). option_map (λ (m : Admitted). m.unread) (find (is_message c.args.id) v.messages)) (sym c.self.view_is)
    ∙ ap (option_map (λ (m : Admitted). m.unread)) (none_message c.args.id rs (sym c.message.ensures ∙ ap option_copied c.in_err-ranked.was)))

pub returns : goal.returns
returns c =
    let rs = values_of c.self.inside.messages.items in
    sym (ap (λ (v : Scheduling). option_map (λ (m : Admitted). m.unread) (find (is_message c.args.id) v.messages)) (sym c.self.view_is)
    ∙ ap (option_map (λ (m : Admitted). m.unread)) (find_message c.args.id rs ∙ ap (option_map (λ (r : Ranked). r.message)) (sym c.message.ensures ∙ ap option_copied c.in_ok-ranked.was)))
