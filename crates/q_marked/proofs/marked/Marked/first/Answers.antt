use Rattle.std.proofs.Common.{◌∙◌, ap, find}
use Rattle.q_marked.proofs.FirstMarked.{first_is}
use Rattle.q_marked.specs.Marks.{is_marked, Marks}
use Rattle.q_marked.proofs.marked.Marked.first.Goals as goal

pub returns : goal.returns
returns c =
    let a = c.self.inside in
    let s = c.stand_ranked.ensures in
    first_is a.order a.keys a.numbers c.self.invariant s.rise s.below c.first.result c.first.ensures.none c.first.ensures.least c.first.ensures.keyed
    ∙ ap (λ (s : Marks). find (λ n. is_marked n s.marks) s.order) c.self.view_is
