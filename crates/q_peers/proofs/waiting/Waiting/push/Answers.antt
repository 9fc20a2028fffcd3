use Rattle.std.proofs.Common.{◌≡◌, ◌∙◌, ◌∷◌, ◌++◌, ◌<◌, [], ap, arith, get_or, length, List, subst, sym}
use Rattle.std.proofs.lemmas.List.{map-append}
use Rattle.std.specs.Prelude.{find}
use Rattle.q_chains.specs.Lists.{Lists, pushed, stands}
use Rattle.q_positions.specs.Rows.{row_shown, Slots}
use Rattle.q_peers.specs.Buckets.{peer_key, site_key}
use Rattle.q_peers.specs.Numbered.{has_number, Items, Numbered, rows_of}
use Rattle.q_peers.specs.Slots.{items_of}
use Rattle.q_peers.proofs.Changes.{has_free, items_come, known, lacks, sound_come}
use Rattle.q_chains.proofs.Chained.{gone_from_all, moved}
use Rattle.q_peers.proofs.Filed.{lacks_filed}
use Rattle.q_peers.proofs.Items.{absent_item}
use Rattle.q_peers.proofs.waiting.Waiting.push.Goals as goal

-- some number is free
pub unreachable-requires : goal.unreachable-requires
unreachable-requires c =
    let a = c.self.inside in
    has_free a.rows.rows a.order a.by_peer a.by_site a.live a.room c.self.invariant
    (subst (λ (v : Items). length v.items < v.room) (sym c.self.view_is) c.requires.room) (sym c.first.ensures.is ∙ c.in_default.is)

pub remove-requires : goal.remove-requires
remove-requires c =
    let a = c.self.inside in
    let below = known a.rows.rows a.order a.by_peer a.by_site a.live a.room c.self.invariant c.first.ensures.once c.in-Some.number (sym c.first.ensures.is ∙ c.in-Some.is) in
    omega (arith, below, c.self.invariant.known)

pub push-requires-clause-known : goal.push-requires-clause-known
push-requires-clause-known c =
    let a = c.self.inside in
    let below = known a.rows.rows a.order a.by_peer a.by_site a.live a.room c.self.invariant c.first.ensures.once c.in-Some.number (sym c.first.ensures.is ∙ c.in-Some.is) in
    let same = ap (λ (s : Lists). s.numbers) c.remove.ensures in
    omega (arith, below, same, c.self.invariant.known)

pub push-requires-clause-free : goal.push-requires-clause-free
push-requires-clause-free c =
    ap (λ (s : Lists). stands c.in-Some.number s.lists) c.remove.ensures ∙ gone_from_all c.in-Some.number c.self.inside.order.lists

pub push-requires-2-clause-known : goal.push-requires-2-clause-known
push-requires-2-clause-known c =
    let a = c.self.inside in
    let below = known a.rows.rows a.order a.by_peer a.by_site a.live a.room c.self.invariant c.first.ensures.once c.in-Some.number (sym c.first.ensures.is ∙ c.in-Some.is) in
    omega (arith, below, c.self.invariant.by_peer.numbers)

pub push-requires-2-clause-free : goal.push-requires-2-clause-free
push-requires-2-clause-free c =
    let a = c.self.inside in
    lacks_filed peer_key a.rows.rows (get_or a.order.lists 0 []) a.room a.by_peer c.self.invariant.by_peer c.in-Some.number
    (lacks a.rows.rows a.order a.by_peer a.by_site a.live a.room c.self.invariant c.first.ensures.once c.in-Some.number (sym c.first.ensures.is ∙ c.in-Some.is))

pub push-requires-3-clause-known : goal.push-requires-3-clause-known
push-requires-3-clause-known c =
    let a = c.self.inside in
    let below = known a.rows.rows a.order a.by_peer a.by_site a.live a.room c.self.invariant c.first.ensures.once c.in-Some.number (sym c.first.ensures.is ∙ c.in-Some.is) in
    omega (arith, below, c.self.invariant.by_site.numbers)

pub push-requires-3-clause-free : goal.push-requires-3-clause-free
push-requires-3-clause-free c =
    let a = c.self.inside in
    lacks_filed site_key a.rows.rows (get_or a.order.lists 0 []) a.room a.by_site c.self.invariant.by_site c.in-Some.number
    (lacks a.rows.rows a.order a.by_peer a.by_site a.live a.room c.self.invariant c.first.ensures.once c.in-Some.number (sym c.first.ensures.is ∙ c.in-Some.is))

pub put-requires-clause-known : goal.put-requires-clause-known
put-requires-clause-known c =
    let a = c.self.inside in
    let below = known a.rows.rows a.order a.by_peer a.by_site a.live a.room c.self.invariant c.first.ensures.once c.in-Some.number (sym c.first.ensures.is ∙ c.in-Some.is) in
    omega (arith, below, c.self.invariant.slots)

-- where the number stands then
placed : (c : goal.After-self-1) → c.push.new.self ≡ moved 0 c.in-Some.number c.self.inside.order
placed c = c.push.ensures ∙ ap (λ (s : Lists). record s { lists = pushed 0 c.in-Some.number s.lists }) c.remove.ensures

pub invariant_of-self : goal.invariant_of-self
invariant_of-self c =
    let a = c.self.inside in
    let law = sound_come a.rows.rows a.order a.by_peer a.by_site a.live a.room c.self.invariant c.first.ensures.once c.in-Some.number (sym c.first.ensures.is ∙ c.in-Some.is)
    (row_shown c.args.row) c.peer_bucket-peer.result c.site_bucket-site.result
    c.peer_bucket-peer.ensures.is c.peer_bucket-peer.ensures.below c.site_bucket-site.ensures.is c.site_bucket-site.ensures.below in
    let rows = ap (λ (s : Slots). s.rows) c.put.ensures in
    let order = placed c in
    rw (rows, order, c.push-2.ensures, c.push-3.ensures) law

-- the rows then
items : (c : goal.After-self-1) → items_of c.put.new.self.rows (get_or c.push.new.self.lists 0 []) ≡ c.args.self.now.items ++ record { number = c.in-Some.number; row = row_shown c.args.row } ∷ []
items c =
    let a = c.self.inside in
    ap (λ (s : Lists). items_of c.put.new.self.rows (get_or s.lists 0 [])) (placed c)
    ∙ ap (λ (s : Slots). items_of s.rows (get_or (moved 0 c.in-Some.number a.order).lists 0 [])) c.put.ensures
    ∙ items_come a.rows.rows a.order a.by_peer a.by_site a.live a.room c.self.invariant c.first.ensures.once c.in-Some.number (sym c.first.ensures.is ∙ c.in-Some.is) (row_shown c.args.row)
    ∙ ap (λ (v : Items). v.items ++ record { number = c.in-Some.number; row = row_shown c.args.row } ∷ []) c.self.view_is

pub returns-clause-items : goal.returns-clause-items
returns-clause-items c =
    let a = c.self.inside in
    ap (λ (ks : List Numbered). record { items = ks; room = a.room; most = c.put.new.self.most }) (items c)
    ∙ ap (λ (s : Slots). record { items = c.args.self.now.items ++ record { number = c.in-Some.number; row = row_shown c.args.row } ∷ []; room = a.room; most = s.most }) c.put.ensures
    ∙ ap (λ (v : Items). record { items = c.args.self.now.items ++ record { number = c.in-Some.number; row = row_shown c.args.row } ∷ []; room = v.room; most = v.most }) c.self.view_is

pub returns-clause-rows : goal.returns-clause-rows
returns-clause-rows c = ap rows_of (items c) ∙ map-append (λ (k : Numbered). k.row) c.args.self.now.items (record { number = c.in-Some.number; row = row_shown c.args.row } ∷ [])

pub returns-clause-fresh : goal.returns-clause-fresh
returns-clause-fresh c =
    let a = c.self.inside in
    let n = c.in-Some.number in
    sym (ap (λ (v : Items). find (has_number n) v.items) c.self.view_is)
    ∙ absent_item n a.rows.rows (get_or a.order.lists 0 [])
    (lacks a.rows.rows a.order a.by_peer a.by_site a.live a.room c.self.invariant c.first.ensures.once n (sym c.first.ensures.is ∙ c.in-Some.is))

pub returns-clause-below : goal.returns-clause-below
returns-clause-below c =
    let a = c.self.inside in
    let below = known a.rows.rows a.order a.by_peer a.by_site a.live a.room c.self.invariant c.first.ensures.once c.in-Some.number (sym c.first.ensures.is ∙ c.in-Some.is) in
    let room = ap (λ (v : Items). v.room) c.self.view_is in
    omega (arith, below, c.self.invariant.known, room)
