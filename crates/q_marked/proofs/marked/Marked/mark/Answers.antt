use Rattle.std.proofs.Common.{◌≡◌, ◌∙◌, ap, cond, get_or, set, subst, sym, true}
use Rattle.q_chains.specs.Lists.{is_in}
use Rattle.q_marked.proofs.Keying.{marks_set, sound_mark}
use Rattle.q_marked.specs.Marks.{marked_where, Marks}
use Rattle.q_marked.specs.Sound.{are_keyed, IsSound}
use Rattle.q_marked.proofs.marked.Marked.mark.Goals as goal

pub invariant_of-self : goal.invariant_of-self
invariant_of-self c =
    let a = c.self.inside in
    let there : is_in c.args.number a.order.order ≡ true = sym c.contains.ensures ∙ c.if-contains.true in
    subst (λ ks. IsSound a.order ks a.numbers) (sym c.set_mark.ensures) (sound_mark a.order a.keys a.numbers c.self.invariant c.args.number c.args.marked there)

pub returns-then-contains : goal.returns-then-contains
returns-then-contains c =
    let a = c.self.inside in
    let n = c.args.number in
    let there : is_in n a.order.order ≡ true = sym c.contains.ensures ∙ c.if-contains.true in
    ap (λ ks. record { order = a.order.order; marks = are_keyed ks; numbers = a.numbers }) c.set_mark.ensures
    ∙ ap (λ ms. record { order = a.order.order; marks = ms; numbers = a.numbers })
    (marks_set a.keys n (get_or a.order.ranks n 0) c.args.marked (c.stand_ranked.ensures.low n)
    ∙ ap (λ b. cond b (set (are_keyed a.keys) n c.args.marked) (are_keyed a.keys)) (sym there))
    ∙ ap (λ (s : Marks). record s { marks = marked_where n c.args.marked s.order s.marks }) c.self.view_is

pub returns-else-contains : goal.returns-else-contains
returns-else-contains c =
    let a = c.self.inside in
    let n = c.args.number in
    let away = sym c.contains.ensures ∙ c.if-contains.false in
    sym c.self.view_is
    ∙ ap (λ b. record { order = a.order.order; marks = cond b (set (are_keyed a.keys) n c.args.marked) (are_keyed a.keys); numbers = a.numbers }) (sym away)
    ∙ ap (λ (s : Marks). record s { marks = marked_where n c.args.marked s.order s.marks }) c.self.view_is
