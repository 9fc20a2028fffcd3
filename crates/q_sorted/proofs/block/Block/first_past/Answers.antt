use Rattle.std.proofs.Common.{ap, find, slice_get, sym, ◌∙◌}
use Rattle.std.proofs.lemmas.List.Folds.{find_at}
use Rattle.q_sorted.specs.Blocks.{is_past}
use Rattle.q_sorted.proofs.block.Block.first_past.Goals as goal

pub returns : goal.returns
returns c =
    let past = is_past c.args.cut.now in
    let xs = c.as_slice-tickets.result.now in
    c.ticket_at.ensures ∙ ap (slice_get xs) c.place_of.ensures.is ∙ sym (find_at past xs) ∙ ap (find past) (c.as_slice-tickets.ensures.value ∙ c.self.view_is)
