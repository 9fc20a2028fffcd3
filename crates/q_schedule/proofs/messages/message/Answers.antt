use Rattle.std.proofs.Common.{◌∙◌, ap, sym}
use Rattle.std.specs.Option.{option_copied}
use Rattle.q_keyed.proofs.Values.{find_none, item_found, none_passes}
use Rattle.q_keyed.specs.Numbered.{values_of}
use Rattle.q_schedule.specs.Sound.{is_ranked}
use Rattle.q_schedule.proofs.messages.message.Goals as goal

pub returns-in_err-number : goal.returns-in_err-number
returns-in_err-number c =
    let ks = c.args.messages.now.items in
    ap option_copied c.from_residual.ensures
    ∙ sym (find_none (is_ranked c.args.id) (values_of ks) (none_passes (is_ranked c.args.id) ks (sym c.find.ensures.is ∙ c.in_err-number.was)))

pub returns : goal.returns
returns c =
    c.get.ensures ∙ item_found (is_ranked c.args.id) c.in_ok-number.number c.args.messages.now.items c.find.ensures.apart (sym c.find.ensures.is ∙ c.in_ok-number.was)
