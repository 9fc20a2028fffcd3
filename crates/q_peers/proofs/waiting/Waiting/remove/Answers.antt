use Rattle.std.proofs.Common.{◌≡◌, ◌∙◌, [], ap, false, get_or, List, None, not, Option, option_map, refl, Some, subst, sym, true}
use Rattle.std.specs.Option.{is_some}
use Rattle.std.specs.Prelude.{filter}
use Rattle.q_chains.specs.Lists.{Lists, pushed, stands}
use Rattle.q_model.specs.declared.rows.Row.{Row}
use Rattle.q_positions.specs.Rows.{row_shown, Slots}
use Rattle.q_positions.specs.declared.row_ref.RowRef.{RowRef}
use Rattle.q_peers.specs.Numbered.{AreApart, has_number, Items, Numbered, row_at, rows_of}
use Rattle.q_peers.specs.Slots.{items_of}
use Rattle.q_peers.proofs.Changes.{items_go, items_stay, sound_go}
use Rattle.q_chains.proofs.Chained.{gone_from_all, moved}
use Rattle.q_peers.proofs.Peers.{drops}
use Rattle.q_peers.proofs.Standing.{apart, row}
use Rattle.q_peers.proofs.waiting.Waiting.remove.Goals as goal

shown : (o : Option RowRef) → is_some (option_map row_shown o) ≡ is_some o
shown None = refl
shown (Some r) = refl

pub returns-then-is_none-clause-taken : goal.returns-then-is_none-clause-taken
returns-then-is_none-clause-taken c =
    let a = c.self.inside in
    let n = c.args.number in
    let empty : is_some (get_or a.rows.rows n None) ≡ false = ap is_some (sym c.get.ensures) ∙ shown c.get.result ∙ c.is_none.ensures ∙ ap not c.if-is_none.true in
    sym empty
    ∙ ap is_some (sym (row a.rows.rows a.order a.by_peer a.by_site a.live a.room c.self.invariant n))
    ∙ ap (λ (v : Items). is_some (row_at n v.items)) c.self.view_is

pub returns-then-is_none-clause-items : goal.returns-then-is_none-clause-items
returns-then-is_none-clause-items c =
    let a = c.self.inside in
    let n = c.args.number in
    let empty : is_some (get_or a.rows.rows n None) ≡ false = ap is_some (sym c.get.ensures) ∙ shown c.get.result ∙ c.is_none.ensures ∙ ap not c.if-is_none.true in
    sym c.self.view_is
    ∙ ap (λ (ks : List Numbered). record { items = ks; room = a.room; most = a.rows.most }) (sym (items_stay a.rows.rows a.order a.by_peer a.by_site a.live a.room c.self.invariant n empty))
    ∙ ap (λ (v : Items). record v { items = filter (λ k. not (has_number n k)) v.items }) c.self.view_is

pub returns-then-is_none-clause-rows : goal.returns-then-is_none-clause-rows
returns-then-is_none-clause-rows c = λ p h.
    let a = c.self.inside in
    let alone = subst (λ (v : Items). AreApart v.items) c.self.view_is (apart a.rows.rows a.order a.by_peer a.by_site a.live a.room c.self.invariant c.stand_once.ensures) in
    ap (λ (v : Items). rows_of v.items) (returns-then-is_none-clause-items c) ∙ drops p c.args.number c.args.self.now.items alone h

pub push-requires-clause-free : goal.push-requires-clause-free
push-requires-clause-free c =
    ap (λ (s : Lists). stands c.args.number s.lists) c.remove.ensures ∙ gone_from_all c.args.number c.self.inside.order.lists

-- a row waits under the number
there : (c : goal.After-self-1) → is_some (get_or c.self.inside.rows.rows c.args.number None) ≡ true
there c = ap is_some (sym c.get.ensures) ∙ shown c.get.result ∙ c.is_none.ensures ∙ ap not c.if-is_none.false

-- where the number stands then
placed : (c : goal.After-self-1) → c.push.new.self ≡ moved 1 c.args.number c.self.inside.order
placed c = c.push.ensures ∙ ap (λ (s : Lists). record s { lists = pushed 1 c.args.number s.lists }) c.remove.ensures

pub invariant_of-self : goal.invariant_of-self
invariant_of-self c =
    let a = c.self.inside in
    let rows = ap (λ (s : Slots). s.rows) c.clear.ensures in
    let order = placed c in
    rw (rows, order, c.remove-2.ensures, c.remove-3.ensures)
    (sound_go a.rows.rows a.order a.by_peer a.by_site a.live a.room c.self.invariant c.stand_once.ensures c.args.number (there c))

pub returns-clause-taken : goal.returns-clause-taken
returns-clause-taken c =
    let a = c.self.inside in
    sym (there c)
    ∙ ap is_some (sym (row a.rows.rows a.order a.by_peer a.by_site a.live a.room c.self.invariant c.args.number))
    ∙ ap (λ (v : Items). is_some (row_at c.args.number v.items)) c.self.view_is

pub returns-clause-items : goal.returns-clause-items
returns-clause-items c =
    let a = c.self.inside in
    let n = c.args.number in
    ap (λ (s : Lists). record { items = items_of c.clear.new.self.rows (get_or s.lists 0 []); room = a.room; most = c.clear.new.self.most }) (placed c)
    ∙ ap (λ (s : Slots). record { items = items_of s.rows (get_or (moved 1 n a.order).lists 0 []); room = a.room; most = s.most }) c.clear.ensures
    ∙ ap (λ (ks : List Numbered). record { items = ks; room = a.room; most = a.rows.most }) (items_go a.rows.rows a.order a.by_peer a.by_site a.live a.room c.self.invariant c.stand_once.ensures n (there c))
    ∙ ap (λ (v : Items). record v { items = filter (λ k. not (has_number n k)) v.items }) c.self.view_is

pub returns-clause-rows : goal.returns-clause-rows
returns-clause-rows c = λ p h.
    let a = c.self.inside in
    let alone = subst (λ (v : Items). AreApart v.items) c.self.view_is (apart a.rows.rows a.order a.by_peer a.by_site a.live a.room c.self.invariant c.stand_once.ensures) in
    ap (λ (v : Items). rows_of v.items) (returns-clause-items c) ∙ drops p c.args.number c.args.self.now.items alone h
