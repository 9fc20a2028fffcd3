use Rattle.std.proofs.Common.{◌≡◌, ◌∙◌, [], ap, arith, false, get_or, List, None, not, Option, refl, Some, sym}
use Rattle.std.specs.Borrow.{Bor}
use Rattle.std.specs.Option.{is_some, option_copied}
use Rattle.q_chains.specs.Lists.{Lists, pushed, stands}
use Rattle.q_chains.proofs.Chained.{gone_from_all, moved}
use Rattle.q_keyed.specs.Numbered.{item_at, Items, Numbered, without_number}
use Rattle.q_keyed.specs.Slots.{items_of}
use Rattle.q_keyed.proofs.Changes.{items_go, items_stay, some_of, sound_go}
use Rattle.q_keyed.proofs.Places.{got_within}
use Rattle.q_keyed.proofs.Standing.{item}
use Rattle.q_keyed.proofs.keyed.Keyed.remove.Goals as goal

copied : {X : Type 0} → (o : Option (Bor X)) → is_some (option_copied o) ≡ is_some o
copied None = refl
copied (Some x) = refl

none : {X : Type 0} → (o : Option X) → is_some o ≡ false → o ≡ None
none None h = refl
none (Some x) h = cc

pub returns-then-is_none-clause-taken : goal.returns-then-is_none-clause-taken
returns-then-is_none-clause-taken g c =
    let a = c.self.inside in
    sym (none (get_or a.items.items c.args.number None) (ap is_some (sym c.item_at.ensures) ∙ copied c.item_at.result ∙ c.is_none.ensures ∙ ap not c.if-is_none.true))
    ∙ sym (item g.T.HasKey.eq g.T.HasKey.key_of g.T.HasKey.hash g.met.T.HasKey.is_same g.met.T.HasKey.is_own a.items.items a.order a.by_key a.live a.room c.self.invariant.0 c.args.number)
    ∙ ap (λ (v : Items g.row.T.Denot). item_at c.args.number v.items) c.self.view_is

pub returns-then-is_none-clause-items : goal.returns-then-is_none-clause-items
returns-then-is_none-clause-items g c =
    let a = c.self.inside in
    let empty = none (get_or a.items.items c.args.number None) (ap is_some (sym c.item_at.ensures) ∙ copied c.item_at.result ∙ c.is_none.ensures ∙ ap not c.if-is_none.true) in
    sym c.self.view_is
    ∙ ap (λ (ks : List (Numbered g.row.T.Denot)). record { items = ks; room = a.room }) (sym (items_stay g.T.HasKey.eq g.T.HasKey.key_of g.T.HasKey.hash g.met.T.HasKey.is_same g.met.T.HasKey.is_own a.items.items a.order a.by_key a.live a.room c.self.invariant.0 c.stand_once.ensures c.args.number empty))
    ∙ ap (λ (v : Items g.row.T.Denot). record v { items = without_number c.args.number v.items }) c.self.view_is

pub push-requires-clause-free : goal.push-requires-clause-free
push-requires-clause-free g c =
    ap (λ (s : Lists). stands c.args.number s.lists) c.remove.ensures ∙ gone_from_all c.args.number c.self.inside.order.lists

pub invariant_of-self : goal.invariant_of-self
invariant_of-self g c =
    let a = c.self.inside in
    let there = some_of (get_or a.items.items c.args.number None) (ap is_some (sym c.item_at.ensures) ∙ copied c.item_at.result ∙ c.is_none.ensures ∙ ap not c.if-is_none.false) in
    let order : c.push.new.self ≡ moved 1 c.args.number a.order = c.push.ensures ∙ ap (λ (s : Lists). record s { lists = pushed 1 c.args.number s.lists }) c.remove.ensures in
    (rw (c.take_item.ensures.items, order, c.remove-2.ensures) (sound_go g.T.HasKey.eq g.T.HasKey.key_of g.T.HasKey.hash g.met.T.HasKey.is_same g.met.T.HasKey.is_own a.items.items a.order a.by_key a.live a.room c.self.invariant.0 c.stand_once.ensures c.args.number there.0 there.1), omega (arith, c.take_item.ensures.capacity, c.self.invariant.1))

pub returns-clause-taken : goal.returns-clause-taken
returns-clause-taken g c =
    let a = c.self.inside in
    c.take_item.ensures.taken
    ∙ sym (item g.T.HasKey.eq g.T.HasKey.key_of g.T.HasKey.hash g.met.T.HasKey.is_same g.met.T.HasKey.is_own a.items.items a.order a.by_key a.live a.room c.self.invariant.0 c.args.number)
    ∙ ap (λ (v : Items g.row.T.Denot). item_at c.args.number v.items) c.self.view_is

pub returns-clause-items : goal.returns-clause-items
returns-clause-items g c =
    let a = c.self.inside in
    let there = some_of (get_or a.items.items c.args.number None) (ap is_some (sym c.item_at.ensures) ∙ copied c.item_at.result ∙ c.is_none.ensures ∙ ap not c.if-is_none.false) in
    let order : c.push.new.self ≡ moved 1 c.args.number a.order = c.push.ensures ∙ ap (λ (s : Lists). record s { lists = pushed 1 c.args.number s.lists }) c.remove.ensures in
    ap (λ (s : Lists). record { items = items_of c.take_item.new.items.items (get_or s.lists 0 []); room = a.room }) order
    ∙ ap (λ items. record { items = items_of items (get_or (moved 1 c.args.number a.order).lists 0 []); room = a.room }) c.take_item.ensures.items
    ∙ ap (λ (ks : List (Numbered g.row.T.Denot)). record { items = ks; room = a.room }) (items_go g.T.HasKey.eq g.T.HasKey.key_of g.T.HasKey.hash g.met.T.HasKey.is_same g.met.T.HasKey.is_own a.items.items a.order a.by_key a.live a.room c.self.invariant.0 c.stand_once.ensures c.args.number there.0 there.1)
    ∙ ap (λ (v : Items g.row.T.Denot). record v { items = without_number c.args.number v.items }) c.self.view_is

pub take_item-requires : goal.take_item-requires
take_item-requires g c =
    let a = c.self.inside in
    let there = some_of (get_or a.items.items c.args.number None) (ap is_some (sym c.item_at.ensures) ∙ copied c.item_at.result ∙ c.is_none.ensures ∙ ap not c.if-is_none.false) in
    got_within a.items.items c.args.number there.0 there.1
