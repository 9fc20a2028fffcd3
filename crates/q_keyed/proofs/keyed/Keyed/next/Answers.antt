use Rattle.std.proofs.Common.{◌∙◌, ap, sym}
use Rattle.std.specs.Option.{option_copied}
use Rattle.q_keyed.specs.Numbered.{Items, next_number}
use Rattle.q_keyed.proofs.Standing.{next, no_next}
use Rattle.q_keyed.proofs.keyed.Keyed.next.Goals as goal

pub returns-in_err-_item : goal.returns-in_err-_item
returns-in_err-_item g c =
    let a = c.self.inside in
    let n = c.args.number in
    c.from_residual.ensures
    ∙ sym (no_next g.T.HasKey.eq g.T.HasKey.key_of g.T.HasKey.hash g.met.T.HasKey.is_same g.met.T.HasKey.is_own a.items.items a.order a.by_key a.live a.room c.self.invariant.0 n (sym c.item_at.ensures ∙ ap option_copied c.in_err-_item.was))
    ∙ ap (λ (v : Items g.row.T.Denot). next_number n v.items) c.self.view_is

pub returns : goal.returns
returns g c =
    let a = c.self.inside in
    let n = c.args.number in
    c.next.ensures.is
    ∙ sym (next g.T.HasKey.eq g.T.HasKey.key_of g.T.HasKey.hash g.met.T.HasKey.is_same g.met.T.HasKey.is_own a.items.items a.order a.by_key a.live a.room c.self.invariant.0 c.next.ensures.once n c.in_ok-_item._item.now (sym c.item_at.ensures ∙ ap option_copied c.in_ok-_item.was))
    ∙ ap (λ (v : Items g.row.T.Denot). next_number n v.items) c.self.view_is
