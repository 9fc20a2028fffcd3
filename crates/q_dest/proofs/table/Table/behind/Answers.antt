use Rattle.std.proofs.Common.{◌∙◌, ap, sym}
use Rattle.std.specs.Prelude.{option_and_then}
use Rattle.q_keyed.proofs.Values.{behind_held}
use Rattle.q_keyed.specs.Numbered.{item_at, values_of}
use Rattle.q_dest.proofs.Numbered.{behind_is, nothing_behind}
use Rattle.q_dest.specs.Dests.{behind_dests, Dests, first_dest, is_at}
use Rattle.q_dest.proofs.table.Table.behind.Goals as goal

pub returns-in_err-number : goal.returns-in_err-number
returns-in_err-number c =
    c.from_residual.ensures
    ∙ sym (ap first_dest (nothing_behind c.args.site.now c.self.inside.dests.items (sym c.find.ensures.is ∙ c.in_err-number.was)))
    ∙ ap (λ (p : Dests). first_dest (behind_dests c.args.site.now p.items)) c.self.view_is

pub returns-in_err-next : goal.returns-in_err-next
returns-in_err-next c =
    let ks = c.self.inside.dests.items in
    c.from_residual-in_err-next.ensures
    ∙ ap (option_and_then (λ m. item_at m ks)) (sym c.in_err-next.was ∙ c.next.ensures)
    ∙ behind_held (is_at c.args.site.now) c.in_ok-number.number ks c.find.ensures.apart (sym c.find.ensures.is ∙ c.in_ok-number.was)
    ∙ ap first_dest (behind_is c.args.site.now (values_of ks))
    ∙ ap (λ (p : Dests). first_dest (behind_dests c.args.site.now p.items)) c.self.view_is

pub returns : goal.returns
returns c =
    let ks = c.self.inside.dests.items in
    c.copied.ensures ∙ c.get.ensures
    ∙ ap (option_and_then (λ m. item_at m ks)) (sym c.in_ok-next.was ∙ c.next.ensures)
    ∙ behind_held (is_at c.args.site.now) c.in_ok-number.number ks c.find.ensures.apart (sym c.find.ensures.is ∙ c.in_ok-number.was)
    ∙ ap first_dest (behind_is c.args.site.now (values_of ks))
    ∙ ap (λ (p : Dests). first_dest (behind_dests c.args.site.now p.items)) c.self.view_is
