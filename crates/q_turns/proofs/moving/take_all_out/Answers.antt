use Rattle.std.proofs.Common.{◌∙◌, ap}
use Rattle.std.specs.Prelude.{◌==◌, ◌&&◌, not}
use Rattle.q_heads.specs.Lanes.{class_of, stands}
use Rattle.q_turns.proofs.TakenOut.{rest_goes, transport_taken}
use Rattle.q_turns.proofs.moving.take_all_out.Goals as goal

pub returns-clause-gone : goal.returns-clause-gone
returns-clause-gone c =
    let first = c.args.heads.now in
    let next = c.take_class_out.new.heads in
    transport_taken c.args.transport first next c.take_class_out-2.new.heads c.take_class_out.ensures.rest
    (λ x. c.take_class_out.ensures.gone x ∙ ap (λ n. stands x first.items && not (class_of x.group first.classes == n)) c.class_in.ensures)
    (λ x. c.take_class_out-2.ensures.gone x ∙ ap (λ n. stands x next.items && not (class_of x.group next.classes == n)) c.class_in-2.ensures)

pub returns-clause-rest : goal.returns-clause-rest
returns-clause-rest c = rest_goes c.args.heads.now c.take_class_out.new.heads c.take_class_out-2.new.heads _ c.take_class_out-2.ensures.rest c.take_class_out.ensures.rest
