use Rattle.std.proofs.Common.{◌∙◌, ◌<◌, ap, false, set, subst, sym}
use Rattle.std.proofs.lemmas.List.{map-set}
use Rattle.q_chains.specs.Lists.{without}
use Rattle.q_least.specs.Keys.{no_key}
use Rattle.q_marked.proofs.Keying.{sound_less}
use Rattle.q_marked.specs.Marks.{Marks}
use Rattle.q_marked.specs.Sound.{are_keyed, is_keyed, IsSound}
use Rattle.q_ranks.specs.Ranking.{Ranking}
use Rattle.q_marked.proofs.marked.Marked.remove.Goals as goal

pub invariant_of-self : goal.invariant_of-self
invariant_of-self c =
    let a = c.self.inside in
    subst (λ (o : Ranking). IsSound o c.set.new.self a.numbers) (sym c.remove.ensures)
    (subst (λ ks. IsSound (record a.order { order = without c.args.number a.order.order }) ks a.numbers) (sym c.set.ensures) (sound_less a.order a.keys a.numbers c.args.number (subst (λ (s : Marks). c.args.number < s.numbers) (sym c.self.view_is) c.requires) c.self.invariant))

pub returns : goal.returns
returns c =
    let a = c.self.inside in
    let n = c.args.number in
    ap (λ (o : Ranking). record { order = o.order; marks = are_keyed c.set.new.self; numbers = a.numbers }) c.remove.ensures
    ∙ ap (λ ks. record { order = without n a.order.order; marks = are_keyed ks; numbers = a.numbers }) c.set.ensures
    ∙ ap (λ ms. record { order = without n a.order.order; marks = ms; numbers = a.numbers }) (map-set is_keyed a.keys n no_key)
    ∙ ap (λ (s : Marks). record s { order = without n s.order; marks = set s.marks n false }) c.self.view_is
