use Rattle.std.proofs.Common.{◌∙◌, ap, sym}
use Rattle.std.specs.Prelude.{find}
use Rattle.q_keyed.proofs.Values.{item_found}
use Rattle.q_dest.proofs.Numbered.{not_found}
use Rattle.q_dest.specs.Dests.{Dests, is_at}
use Rattle.q_dest.proofs.table.Table.get.Goals as goal

pub returns-in_err-number : goal.returns-in_err-number
returns-in_err-number c =
    c.from_residual.ensures
    ∙ sym (not_found c.args.site.now c.self.inside.dests.items (sym c.find.ensures.is ∙ c.in_err-number.was))
    ∙ ap (λ (p : Dests). find (is_at c.args.site.now) p.items) c.self.view_is

pub returns : goal.returns
returns c =
    c.copied.ensures ∙ c.get.ensures
    ∙ item_found (is_at c.args.site.now) c.in_ok-number.number c.self.inside.dests.items c.find.ensures.apart (sym c.find.ensures.is ∙ c.in_ok-number.was)
    ∙ ap (λ (p : Dests). find (is_at c.args.site.now) p.items) c.self.view_is
