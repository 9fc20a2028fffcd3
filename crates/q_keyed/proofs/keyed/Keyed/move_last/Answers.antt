use Rattle.std.proofs.Common.{◌≡◌, ◌∙◌, [], ap, false, get_or, List, None, Option, refl, Some, sym}
use Rattle.std.specs.Borrow.{Bor}
use Rattle.std.specs.Option.{is_some, option_copied}
use Rattle.q_chains.specs.Lists.{Lists, pushed, stands}
use Rattle.q_chains.proofs.Chained.{gone_from_all, moved}
use Rattle.q_keyed.specs.Numbered.{Items, moved_last, Numbered}
use Rattle.q_keyed.specs.Slots.{items_of}
use Rattle.q_keyed.proofs.Changes.{items_moved, moved_stay, some_of, sound_moved}
use Rattle.q_keyed.proofs.keyed.Keyed.move_last.Goals as goal

copied : {X : Type 0} → (o : Option (Bor X)) → is_some (option_copied o) ≡ is_some o
copied None = refl
copied (Some x) = refl

none : {X : Type 0} → (o : Option X) → is_some o ≡ false → o ≡ None
none None h = refl
none (Some x) h = cc

pub push-requires-clause-free : goal.push-requires-clause-free
push-requires-clause-free g c =
    ap (λ (s : Lists). stands c.args.number s.lists) c.remove.ensures ∙ gone_from_all c.args.number c.self.inside.order.lists

pub invariant_of-self : goal.invariant_of-self
invariant_of-self g c =
    let a = c.self.inside in
    let there = some_of (get_or a.items.items c.args.number None) (ap is_some (sym c.item_at.ensures) ∙ copied c.item_at.result ∙ sym c.is_some.ensures ∙ c.if-is_some.true) in
    let order : c.push.new.self ≡ moved 0 c.args.number a.order = c.push.ensures ∙ ap (λ (s : Lists). record s { lists = pushed 0 c.args.number s.lists }) c.remove.ensures in
    (rw order (sound_moved g.T.HasKey.eq g.T.HasKey.key_of g.T.HasKey.hash g.met.T.HasKey.is_same g.met.T.HasKey.is_own a.items.items a.order a.by_key a.live a.room c.self.invariant.0 c.stand_once.ensures c.args.number there.0 there.1), c.self.invariant.1)

pub returns-then-is_some : goal.returns-then-is_some
returns-then-is_some g c =
    let a = c.self.inside in
    let there = some_of (get_or a.items.items c.args.number None) (ap is_some (sym c.item_at.ensures) ∙ copied c.item_at.result ∙ sym c.is_some.ensures ∙ c.if-is_some.true) in
    let order : c.push.new.self ≡ moved 0 c.args.number a.order = c.push.ensures ∙ ap (λ (s : Lists). record s { lists = pushed 0 c.args.number s.lists }) c.remove.ensures in
    ap (λ (s : Lists). record { items = items_of a.items.items (get_or s.lists 0 []); room = a.room }) order
    ∙ ap (λ (ks : List (Numbered g.row.T.Denot)). record { items = ks; room = a.room }) (items_moved g.T.HasKey.eq g.T.HasKey.key_of g.T.HasKey.hash g.met.T.HasKey.is_same g.met.T.HasKey.is_own a.items.items a.order a.by_key a.live a.room c.self.invariant.0 c.stand_once.ensures c.args.number there.0 there.1)
    ∙ ap (λ (v : Items g.row.T.Denot). record v { items = moved_last c.args.number v.items }) c.self.view_is

pub returns-else-is_some : goal.returns-else-is_some
returns-else-is_some g c =
    let a = c.self.inside in
    let empty = none (get_or a.items.items c.args.number None) (ap is_some (sym c.item_at.ensures) ∙ copied c.item_at.result ∙ sym c.is_some.ensures ∙ c.if-is_some.false) in
    sym c.self.view_is
    ∙ ap (λ (ks : List (Numbered g.row.T.Denot)). record { items = ks; room = a.room }) (sym (moved_stay g.T.HasKey.eq g.T.HasKey.key_of g.T.HasKey.hash g.met.T.HasKey.is_same g.met.T.HasKey.is_own a.items.items a.order a.by_key a.live a.room c.self.invariant.0 c.stand_once.ensures c.args.number empty))
    ∙ ap (λ (v : Items g.row.T.Denot). record v { items = moved_last c.args.number v.items }) c.self.view_is
