use Rattle.std.proofs.Common.{◌∙◌, ap, find, option_map}
use Rattle.q_held.proofs.Views.{first_marked}
use Rattle.q_held.specs.Held.{Held, HeldRow}
use Rattle.q_marked.specs.Marks.{is_marked}
use Rattle.q_held.proofs.rows.Rows.first_held.Goals as goal

pub returns : goal.returns
returns c =
    let a = c.self.inside in
    c.first.ensures
    ∙ ap (find (λ n. is_marked n a.marks.marks)) c.self.invariant.order
    ∙ first_marked a.marks.marks a.waiting.items
    ∙ ap (λ (v : Held). option_map (λ (h : HeldRow). h.number) (find (λ h. h.held) v.items)) c.self.view_is
