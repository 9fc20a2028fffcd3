use Rattle.std.proofs.Common.{◌∙◌, ap, find, List, map, sym}
use Rattle.q_held.proofs.Releasing.{all_freed}
use Rattle.q_held.specs.Held.{Held, HeldRow, released}
use Rattle.q_marked.specs.Marks.{is_marked}
use Rattle.q_held.proofs.rows.Rows.release_all.Goals as goal

pub returns : goal.returns
returns c =
    let a = c.self.inside in
    let marks = c.unmark_all.new.marks.marks in
    let none = ap (find (λ n. is_marked n marks)) (sym c.self.invariant.order) ∙ c.unmark_all.ensures.none in
    ap (λ (hs : List HeldRow). record { items = hs; room = a.waiting.room; most = a.waiting.most }) (all_freed marks a.marks.marks a.waiting.items none)
    ∙ ap (λ (v : Held). record v { items = map released v.items }) c.self.view_is
