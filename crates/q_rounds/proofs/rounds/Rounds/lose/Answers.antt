use Rattle.std.proofs.Common.{◌∙◌, ap, List, map, subst, sym}
use Rattle.q_keyed.specs.Numbered.{AreApart, item_at, Items, Numbered, put_at}
use Rattle.q_rounds.specs.declared.peer.Peer.{Peer}
use Rattle.q_rounds.specs.Rounds.{lost}
use Rattle.q_rounds.proofs.Changed.{changed_none, changed_put}
use Rattle.q_rounds.proofs.rounds.Rounds.lose.Goals as goal

pub returns-in_default : goal.returns-in_default
returns-in_default c =
    let now = c.args.self.now in
    let none = sym (ap (λ (v : Items Peer). item_at c.args.number v.items) c.self.view_is) ∙ sym (c.copied.ensures ∙ c.get.ensures) ∙ c.in_default.is in
    ap (λ (ks : List (Numbered Peer)). record now { items = ks }) (sym (changed_none c.args.number lost now.items none))

pub returns : goal.returns
returns c =
    let now = c.args.self.now in
    let n = c.args.number in
    let there = sym (ap (λ (v : Items Peer). item_at n v.items) c.self.view_is) ∙ sym (c.copied.ensures ∙ c.get.ensures) ∙ c.in-Some.is in
    c.put_rows.ensures
    ∙ ap (λ (x : Peer). record now { items = map (put_at n x) now.items }) c.lost.ensures
    ∙ ap (λ (ks : List (Numbered Peer)). record now { items = ks })
    (changed_put n lost c.in-Some.peer now.items (subst (λ (v : Items Peer). AreApart v.items) c.self.view_is c.stand_apart.ensures.apart) there)
