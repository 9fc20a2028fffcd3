use Rattle.std.proofs.Common.{sym}
use Rattle.q_model.specs.Texts.{is_name}
use Rattle.q_trace.proofs.IdReads.{id_answer, name_is, no_name}
use Rattle.q_input.proofs.ids.id_named.Goals as goal

pub returns-in_err-new : goal.returns-in_err-new
returns-in_err-new c = rw c.from_residual.ensures (no_name c.args.text.now c.in_err-new.ensures)

pub returns : goal.returns
returns c =
    let same = name_is (is_name c.args.text.now) c.in_ok-new.field-0 c.args.text.now c.in_ok-new.ensures in
    rw (sym same) (id_answer c.in_ok-new.field-0 c.id_of.result c.id_of.ensures.some c.id_of.ensures.none)
