use Rattle.std.proofs.Common.{◌≡◌, ◌∙◌, ◌%◌, ◌<◌, [], ap, arith, get_or, length, List, map, None, subst, sym, true, Option, Some, set, ◌+◌, ◌-◌}
use Rattle.std.specs.Option.{is_some}
use Rattle.std.specs.Prelude.{find}
use Rattle.q_chains.specs.Lists.{Lists, inserted, stands}
use Rattle.q_chains.proofs.Chained.{gone_from_all}
use Rattle.q_keyed.specs.Numbered.{first_such, has_number, inserted_at, item_at, Items, Numbered}
use Rattle.q_keyed.specs.Slots.{items_of, with_places}
use Rattle.q_keyed.proofs.Places.{got_more, inside_more, items_more_places, sound_more}
use Rattle.q_keyed.proofs.Changes.{empty, has_free, items_before, known, lacks, placed, sound_before}
use Rattle.q_keyed.proofs.Filed.{lacks_filed}
use Rattle.q_keyed.proofs.Items.{absent_item}
use Rattle.q_keyed.proofs.Standing.{item, stands_at}
use Rattle.q_keyed.proofs.keyed.Keyed.insert_before.Goals as goal

-- some number is free
pub unreachable-requires : goal.unreachable-requires
unreachable-requires g c =
    let a = c.self.inside in
    has_free g.T.HasKey.eq g.T.HasKey.key_of g.T.HasKey.hash g.met.T.HasKey.is_same g.met.T.HasKey.is_own a.items.items a.order a.by_key a.live a.room c.self.invariant.0 c.last.ensures.once
    (subst (λ (v : Items g.row.T.Denot). length v.items < v.room) (sym c.self.view_is) c.requires.room) (sym c.last.ensures.is ∙ c.in_default.is)

pub remove-requires : goal.remove-requires
remove-requires g c =
    let a = c.self.inside in
    let below = known g.T.HasKey.eq g.T.HasKey.key_of g.T.HasKey.hash g.met.T.HasKey.is_same g.met.T.HasKey.is_own a.items.items a.order a.by_key a.live a.room c.self.invariant.0 c.last.ensures.once c.in-Some.number (sym c.last.ensures.is ∙ c.in-Some.is) in
    omega (arith, below, c.self.invariant.0.known)

pub insert_before-requires-clause-known : goal.insert_before-requires-clause-known
insert_before-requires-clause-known g c =
    let a = c.self.inside in
    let below = known g.T.HasKey.eq g.T.HasKey.key_of g.T.HasKey.hash g.met.T.HasKey.is_same g.met.T.HasKey.is_own a.items.items a.order a.by_key a.live a.room c.self.invariant.0 c.last.ensures.once c.in-Some.number (sym c.last.ensures.is ∙ c.in-Some.is) in
    let same = ap (λ (s : Lists). s.numbers) c.remove.ensures in
    omega (arith, below, same, c.self.invariant.0.known)

pub insert_before-requires-clause-free : goal.insert_before-requires-clause-free
insert_before-requires-clause-free g c =
    ap (λ (s : Lists). stands c.in-Some.number s.lists) c.remove.ensures ∙ gone_from_all c.in-Some.number c.self.inside.order.lists

pub insert_before-requires-clause-there : goal.insert_before-requires-clause-there
insert_before-requires-clause-there g c =
    let a = c.self.inside in
    let there : is_some (get_or a.items.items c.args.at None) ≡ true = ap is_some (sym (item g.T.HasKey.eq g.T.HasKey.key_of g.T.HasKey.hash g.met.T.HasKey.is_same g.met.T.HasKey.is_own a.items.items a.order a.by_key a.live a.room c.self.invariant.0 c.args.at)) ∙ ap (λ (v : Items g.row.T.Denot). is_some (item_at c.args.at v.items)) c.self.view_is ∙ c.requires.there in
    ap (λ (s : Lists). stands c.args.at s.lists) c.remove.ensures
    ∙ stands_at g.T.HasKey.eq g.T.HasKey.key_of g.T.HasKey.hash g.met.T.HasKey.is_same g.met.T.HasKey.is_own a.items.items a.order a.by_key a.live a.room c.self.invariant.0 c.args.at c.in-Some.number there (lacks g.T.HasKey.eq g.T.HasKey.key_of g.T.HasKey.hash g.met.T.HasKey.is_same g.met.T.HasKey.is_own a.items.items a.order a.by_key a.live a.room c.self.invariant.0 c.last.ensures.once c.in-Some.number (sym c.last.ensures.is ∙ c.in-Some.is))

pub push-requires-clause-known : goal.push-requires-clause-known
push-requires-clause-known g c =
    let a = c.self.inside in
    let below = known g.T.HasKey.eq g.T.HasKey.key_of g.T.HasKey.hash g.met.T.HasKey.is_same g.met.T.HasKey.is_own a.items.items a.order a.by_key a.live a.room c.self.invariant.0 c.last.ensures.once c.in-Some.number (sym c.last.ensures.is ∙ c.in-Some.is) in
    omega (arith, below, c.self.invariant.0.filed.numbers)

pub push-requires-clause-free : goal.push-requires-clause-free
push-requires-clause-free g c =
    let a = c.self.inside in
    lacks_filed (λ t. g.T.HasKey.hash (g.T.HasKey.key_of t)) a.items.items a.room a.by_key c.self.invariant.0.filed c.in-Some.number (empty g.T.HasKey.eq g.T.HasKey.key_of g.T.HasKey.hash g.met.T.HasKey.is_same g.met.T.HasKey.is_own a.items.items a.order a.by_key a.live a.room c.self.invariant.0 c.last.ensures.once c.in-Some.number (sym c.last.ensures.is ∙ c.in-Some.is))

pub put_item-requires : goal.put_item-requires
put_item-requires g c =
    let a = c.self.inside in
    let n = c.in-Some.number in
    let here = sym c.last.ensures.is ∙ c.in-Some.is in
    let below = known g.T.HasKey.eq g.T.HasKey.key_of g.T.HasKey.hash g.met.T.HasKey.is_same g.met.T.HasKey.is_own a.items.items a.order a.by_key a.live a.room c.self.invariant.0 c.last.ensures.once n here in
    let inside = inside_more g.T.HasKey.eq g.T.HasKey.key_of g.T.HasKey.hash a.items.items a.order a.by_key a.live a.room c.self.invariant.0 n below in
    subst (λ (xs : List (Option g.row.T.Denot)). n < length xs) (sym c.make_place.ensures.items) inside

pub make_place-requires-clause-below : goal.make_place-requires-clause-below
make_place-requires-clause-below g c =
    let a = c.self.inside in
    known g.T.HasKey.eq g.T.HasKey.key_of g.T.HasKey.hash g.met.T.HasKey.is_same g.met.T.HasKey.is_own a.items.items a.order a.by_key a.live a.room c.self.invariant.0 c.last.ensures.once c.in-Some.number (sym c.last.ensures.is ∙ c.in-Some.is)

pub invariant_of-self : goal.invariant_of-self
invariant_of-self g c =
    let a = c.self.inside in
    let n = c.in-Some.number in
    let here = sym c.last.ensures.is ∙ c.in-Some.is in
    let below = known g.T.HasKey.eq g.T.HasKey.key_of g.T.HasKey.hash g.met.T.HasKey.is_same g.met.T.HasKey.is_own a.items.items a.order a.by_key a.live a.room c.self.invariant.0 c.last.ensures.once n here in
    let more : List (Option g.row.T.Denot) = with_places n a.items.items in
    let sound = sound_more g.T.HasKey.eq g.T.HasKey.key_of g.T.HasKey.hash a.items.items a.order a.by_key a.live a.room c.self.invariant.0 n below in
    let inside = inside_more g.T.HasKey.eq g.T.HasKey.key_of g.T.HasKey.hash a.items.items a.order a.by_key a.live a.room c.self.invariant.0 n below in
    let same = items_more_places g.T.HasKey.eq g.T.HasKey.key_of g.T.HasKey.hash a.items.items a.order a.by_key a.live a.room c.self.invariant.0 n below (get_or a.order.lists 0 []) in
    let put : c.put_item.new.items.items ≡ set more n (Some c.args.item) = c.put_item.ensures.items ∙ ap (λ xs. set xs n (Some c.args.item)) c.make_place.ensures.items in
    let there : is_some (get_or a.items.items c.args.at None) ≡ true = ap is_some (sym (item g.T.HasKey.eq g.T.HasKey.key_of g.T.HasKey.hash g.met.T.HasKey.is_same g.met.T.HasKey.is_own a.items.items a.order a.by_key a.live a.room c.self.invariant.0 c.args.at)) ∙ ap (λ (v : Items g.row.T.Denot). is_some (item_at c.args.at v.items)) c.self.view_is ∙ c.requires.there in
    let stays : is_some (get_or more c.args.at None) ≡ true = ap is_some (got_more a.items.items (n + 1 - length a.items.items) c.args.at) ∙ there in
    let law = sound_before g.T.HasKey.eq g.T.HasKey.key_of g.T.HasKey.hash g.met.T.HasKey.is_same g.met.T.HasKey.is_own more a.order a.by_key a.live a.room sound c.last.ensures.once n here inside c.args.at stays c.args.item c.bucket-key.result
    (ap (λ ks. first_such (λ t. g.T.HasKey.eq (g.T.HasKey.key_of t) (g.T.HasKey.key_of c.args.item)) ks) same
    ∙ ap (λ (v : Items g.row.T.Denot). first_such (λ t. g.T.HasKey.eq (g.T.HasKey.key_of t) (g.T.HasKey.key_of c.args.item)) v.items) c.self.view_is ∙ c.requires.absent)
    (c.bucket-key.ensures.is ∙ ap (λ h. h % a.room) c.hash.ensures) c.bucket-key.ensures.below in
    let order : c.insert_before.new.self ≡ placed n c.args.at a.order = c.insert_before.ensures ∙ ap (λ (s : Lists). record s { lists = map (inserted n c.args.at) s.lists }) c.remove.ensures in (
      rw (put, order, c.push.ensures) law,
      omega (arith, c.put_item.ensures.capacity, c.make_place.ensures.capacity, c.self.invariant.1),
    )

pub returns-clause-items : goal.returns-clause-items
returns-clause-items g c =
    let a = c.self.inside in
    let n = c.in-Some.number in
    let here = sym c.last.ensures.is ∙ c.in-Some.is in
    let below = known g.T.HasKey.eq g.T.HasKey.key_of g.T.HasKey.hash g.met.T.HasKey.is_same g.met.T.HasKey.is_own a.items.items a.order a.by_key a.live a.room c.self.invariant.0 c.last.ensures.once n here in
    let more : List (Option g.row.T.Denot) = with_places n a.items.items in
    let sound = sound_more g.T.HasKey.eq g.T.HasKey.key_of g.T.HasKey.hash a.items.items a.order a.by_key a.live a.room c.self.invariant.0 n below in
    let inside = inside_more g.T.HasKey.eq g.T.HasKey.key_of g.T.HasKey.hash a.items.items a.order a.by_key a.live a.room c.self.invariant.0 n below in
    let same = items_more_places g.T.HasKey.eq g.T.HasKey.key_of g.T.HasKey.hash a.items.items a.order a.by_key a.live a.room c.self.invariant.0 n below (get_or a.order.lists 0 []) in
    let put : c.put_item.new.items.items ≡ set more n (Some c.args.item) = c.put_item.ensures.items ∙ ap (λ xs. set xs n (Some c.args.item)) c.make_place.ensures.items in
    let there : is_some (get_or a.items.items c.args.at None) ≡ true = ap is_some (sym (item g.T.HasKey.eq g.T.HasKey.key_of g.T.HasKey.hash g.met.T.HasKey.is_same g.met.T.HasKey.is_own a.items.items a.order a.by_key a.live a.room c.self.invariant.0 c.args.at)) ∙ ap (λ (v : Items g.row.T.Denot). is_some (item_at c.args.at v.items)) c.self.view_is ∙ c.requires.there in
    let stays : is_some (get_or more c.args.at None) ≡ true = ap is_some (got_more a.items.items (n + 1 - length a.items.items) c.args.at) ∙ there in
    let order : c.insert_before.new.self ≡ placed n c.args.at a.order = c.insert_before.ensures ∙ ap (λ (s : Lists). record s { lists = map (inserted n c.args.at) s.lists }) c.remove.ensures in
    ap (λ (ks : List (Numbered g.row.T.Denot)). record { items = ks; room = a.room })
    (ap (λ (s : Lists). items_of c.put_item.new.items.items (get_or s.lists 0 [])) order
    ∙ ap (λ items. items_of items (get_or (placed n c.args.at a.order).lists 0 [])) put
    ∙ items_before g.T.HasKey.eq g.T.HasKey.key_of g.T.HasKey.hash g.met.T.HasKey.is_same g.met.T.HasKey.is_own more a.order a.by_key a.live a.room sound c.last.ensures.once n here inside c.args.at stays c.args.item
    ∙ ap (inserted_at c.args.at (record { number = n; item = c.args.item })) same
    ∙ ap (λ (v : Items g.row.T.Denot). inserted_at c.args.at (record { number = n; item = c.args.item }) v.items) c.self.view_is)
    ∙ ap (λ (v : Items g.row.T.Denot). record { items = inserted_at c.args.at (record { number = n; item = c.args.item }) c.args.self.now.items; room = v.room }) c.self.view_is

pub returns-clause-fresh : goal.returns-clause-fresh
returns-clause-fresh g c =
    let a = c.self.inside in
    let n = c.in-Some.number in
    sym (ap (λ (v : Items g.row.T.Denot). find (has_number n) v.items) c.self.view_is)
    ∙ absent_item n a.items.items (get_or a.order.lists 0 []) (lacks g.T.HasKey.eq g.T.HasKey.key_of g.T.HasKey.hash g.met.T.HasKey.is_same g.met.T.HasKey.is_own a.items.items a.order a.by_key a.live a.room c.self.invariant.0 c.last.ensures.once c.in-Some.number (sym c.last.ensures.is ∙ c.in-Some.is))

pub returns-clause-below : goal.returns-clause-below
returns-clause-below g c =
    let a = c.self.inside in
    let below = known g.T.HasKey.eq g.T.HasKey.key_of g.T.HasKey.hash g.met.T.HasKey.is_same g.met.T.HasKey.is_own a.items.items a.order a.by_key a.live a.room c.self.invariant.0 c.last.ensures.once c.in-Some.number (sym c.last.ensures.is ∙ c.in-Some.is) in
    subst (λ (v : Items g.row.T.Denot). c.in-Some.number < v.room) c.self.view_is below
