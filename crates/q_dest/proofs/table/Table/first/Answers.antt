use Rattle.std.proofs.Common.{◌∙◌, ap, sym}
use Rattle.std.specs.Prelude.{option_and_then}
use Rattle.q_keyed.proofs.Values.{first_held}
use Rattle.q_keyed.specs.Numbered.{item_at}
use Rattle.q_dest.specs.Dests.{Dests, first_dest}
use Rattle.q_dest.proofs.table.Table.first.Goals as goal

pub returns : goal.returns
returns c =
    let ks = c.self.inside.dests.items in
    c.copied.ensures ∙ c.get.ensures
    ∙ ap (option_and_then (λ m. item_at m ks)) (sym c.in_ok-number.was ∙ c.first.ensures)
    ∙ first_held ks
    ∙ ap (λ (p : Dests). first_dest p.items) c.self.view_is
