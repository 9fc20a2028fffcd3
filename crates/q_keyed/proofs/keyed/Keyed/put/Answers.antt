use Rattle.std.proofs.Common.{◌≡◌, ◌∙◌, [], ap, arith, false, get_or, List, map, None, Option, refl, Some, subst, sym}
use Rattle.std.specs.Borrow.{Bor}
use Rattle.std.specs.Option.{is_some, option_copied}
use Rattle.std.specs.Prelude.{IfSome}
use Rattle.q_keyed.specs.Numbered.{item_at, Items, Numbered, put_at}
use Rattle.q_keyed.specs.Slots.{items_of}
use Rattle.q_keyed.proofs.Changes.{items_put_in, put_stay, some_of, sound_put}
use Rattle.q_keyed.proofs.Places.{got_within}
use Rattle.q_keyed.proofs.Standing.{item}
use Rattle.q_keyed.proofs.keyed.Keyed.put.Goals as goal

copied : {X : Type 0} → (o : Option (Bor X)) → is_some (option_copied o) ≡ is_some o
copied None = refl
copied (Some x) = refl

none : {X : Type 0} → (o : Option X) → is_some o ≡ false → o ≡ None
none None h = refl
none (Some x) h = cc

pub invariant_of-self : goal.invariant_of-self
invariant_of-self g c =
    let a = c.self.inside in
    let there = some_of (get_or a.items.items c.args.number None) (ap is_some (sym c.item_at.ensures) ∙ copied c.item_at.result ∙ sym c.is_some.ensures ∙ c.if-is_some.true) in
    let like : g.T.HasKey.key_of there.0 ≡ g.T.HasKey.key_of c.args.item =
    subst (λ (o : Option g.row.T.Denot). IfSome o (λ t. g.T.HasKey.key_of t ≡ g.T.HasKey.key_of c.args.item))
    (sym (ap (λ (v : Items g.row.T.Denot). item_at c.args.number v.items) c.self.view_is) ∙ item g.T.HasKey.eq g.T.HasKey.key_of g.T.HasKey.hash g.met.T.HasKey.is_same g.met.T.HasKey.is_own a.items.items a.order a.by_key a.live a.room c.self.invariant.0 c.args.number ∙ there.1) c.requires in
    (rw c.put_item.ensures.items (sound_put g.T.HasKey.eq g.T.HasKey.key_of g.T.HasKey.hash g.met.T.HasKey.is_same g.met.T.HasKey.is_own a.items.items a.order a.by_key a.live a.room c.self.invariant.0 c.stand_once.ensures c.args.number there.0 there.1 c.args.item like), omega (arith, c.put_item.ensures.capacity, c.self.invariant.1))

pub returns-then-is_some : goal.returns-then-is_some
returns-then-is_some g c =
    let a = c.self.inside in
    let there = some_of (get_or a.items.items c.args.number None) (ap is_some (sym c.item_at.ensures) ∙ copied c.item_at.result ∙ sym c.is_some.ensures ∙ c.if-is_some.true) in
    let like : g.T.HasKey.key_of there.0 ≡ g.T.HasKey.key_of c.args.item =
    subst (λ (o : Option g.row.T.Denot). IfSome o (λ t. g.T.HasKey.key_of t ≡ g.T.HasKey.key_of c.args.item))
    (sym (ap (λ (v : Items g.row.T.Denot). item_at c.args.number v.items) c.self.view_is) ∙ item g.T.HasKey.eq g.T.HasKey.key_of g.T.HasKey.hash g.met.T.HasKey.is_same g.met.T.HasKey.is_own a.items.items a.order a.by_key a.live a.room c.self.invariant.0 c.args.number ∙ there.1) c.requires in
    ap (λ items. record { items = items_of items (get_or a.order.lists 0 []); room = a.room }) c.put_item.ensures.items
    ∙ ap (λ (ks : List (Numbered g.row.T.Denot)). record { items = ks; room = a.room }) (items_put_in g.T.HasKey.eq g.T.HasKey.key_of g.T.HasKey.hash g.met.T.HasKey.is_same g.met.T.HasKey.is_own a.items.items a.order a.by_key a.live a.room c.self.invariant.0 c.stand_once.ensures c.args.number there.0 there.1 c.args.item like)
    ∙ ap (λ (v : Items g.row.T.Denot). record v { items = map (put_at c.args.number c.args.item) v.items }) c.self.view_is

pub returns-else-is_some : goal.returns-else-is_some
returns-else-is_some g c =
    let a = c.self.inside in
    let empty = none (get_or a.items.items c.args.number None) (ap is_some (sym c.item_at.ensures) ∙ copied c.item_at.result ∙ sym c.is_some.ensures ∙ c.if-is_some.false) in
    sym c.self.view_is
    ∙ ap (λ (ks : List (Numbered g.row.T.Denot)). record { items = ks; room = a.room }) (sym (put_stay g.T.HasKey.eq g.T.HasKey.key_of g.T.HasKey.hash g.met.T.HasKey.is_same g.met.T.HasKey.is_own a.items.items a.order a.by_key a.live a.room c.self.invariant.0 c.stand_once.ensures c.args.number empty c.args.item))
    ∙ ap (λ (v : Items g.row.T.Denot). record v { items = map (put_at c.args.number c.args.item) v.items }) c.self.view_is

pub put_item-requires : goal.put_item-requires
put_item-requires g c =
    let a = c.self.inside in
    let there = some_of (get_or a.items.items c.args.number None) (ap is_some (sym c.item_at.ensures) ∙ copied c.item_at.result ∙ sym c.is_some.ensures ∙ c.if-is_some.true) in
    got_within a.items.items c.args.number there.0 there.1
