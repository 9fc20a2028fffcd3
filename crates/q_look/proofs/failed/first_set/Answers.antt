use Rattle.std.proofs.Common.{ap, sym, ◌∙◌, ◌≡◌, map, slice_get, Some}
use Rattle.q_model.specs.Values.{Taken}
use Rattle.q_logfile.specs.Flags.{flag_at}
use Rattle.q_look.proofs.UnmarkedLaws.{find_here, find_none, position_at}
use Rattle.q_look.proofs.failed.first_set.Goals as goal

pub returns-then-is_set : goal.returns-then-is_set
returns-then-is_set c =
    let items = map (λ (t : Taken). t.position) c.args.batch.now.items in
    let same : c.position.inside.position ≡ c.get.result.position = ap (λ (t : Taken). t.position) c.position.view_is in
    let here : slice_get items c.loop-i.i ≡ Some c.position.inside.position = position_at c.args.batch.now.items c.loop-i.i c.get.result c.get.ensures ∙ ap Some (sym same) in
    find_here (flag_at c.args.set.now) items c.loop-i.i c.position.inside.position here (sym c.is_set.ensures ∙ c.if-is_set.true) c.loop-i.invariant.none

pub loop-i-preserved : goal.loop-i-preserved
loop-i-preserved c =
    let items = map (λ (t : Taken). t.position) c.args.batch.now.items in
    let same : c.position.inside.position ≡ c.get.result.position = ap (λ (t : Taken). t.position) c.position.view_is in
    let here : slice_get items c.loop-i.i ≡ Some c.position.inside.position = position_at c.args.batch.now.items c.loop-i.i c.get.result c.get.ensures ∙ ap Some (sym same) in
    record { none = find_none (flag_at c.args.set.now) items c.loop-i.i c.position.inside.position here (sym c.is_set.ensures ∙ c.if-is_set.false) c.loop-i.invariant.none }
