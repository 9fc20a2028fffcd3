use Rattle.std.proofs.Common.{◌≡◌, ◌∙◌, ◌<◌, ap, map, Some, subst, sym}
use Rattle.std.specs.Prelude.{filter, find}
use Rattle.q_dest.proofs.Changes.{found_passes}
use Rattle.q_dest.proofs.Revivals.{all_changed, found_own, rest_fewer, rest_same}
use Rattle.q_dest.proofs.Hearing.{woken_not_due}
use Rattle.q_dest.specs.Counting.{count_of}
use Rattle.q_dest.specs.Dests.{changed_at, Dests, is_at, is_due_at, is_kept, woken, woken_when_due}
use Rattle.q_model.specs.Values.{Site}
use Rattle.q_dest.proofs.sites.Sites.wake_due.Goals as goal

pub renew-requires-clause-found : goal.renew-requires-clause-found
renew-requires-clause-found c =
    let cur = c.loop-found.self in
    ap (λ (s : Site). find (is_at s) cur.items) c.site.ensures
    ∙ found_own (is_due_at c.args.moment) c.in-Some.found cur.items c.stand_apart.ensures.apart (ap (λ (p : Dests). find (is_due_at c.args.moment) p.items) (sym c.self.view_is) ∙ sym c.first_due.ensures ∙ c.in-Some.is)

pub loop-found-smaller : goal.loop-found-smaller
loop-found-smaller c =
    let cur = c.loop-found.self in
    let s = c.stand_apart.ensures in
    let d = c.in-Some.found in
    let f = woken c.args.params.now c.args.moment in
    let found : find (is_due_at c.args.moment) cur.items ≡ Some d = ap (λ (p : Dests). find (is_due_at c.args.moment) p.items) (sym c.self.view_is) ∙ sym c.first_due.ensures ∙ c.in-Some.is in
    let next = c.renew.ensures f (sym c.woken.ensures) ∙ ap (λ (s : Site). record cur { items = filter is_kept (map (changed_at s f) cur.items) }) c.site.ensures in
    subst (λ (p : Dests). count_of (is_due_at c.args.moment) p.items < count_of (is_due_at c.args.moment) cur.items) (sym next)
    (rest_fewer (is_due_at c.args.moment) f d.known.site d (found_passes (is_due_at c.args.moment) d cur.items found) (woken_not_due c.args.params.now c.args.moment d) cur.items s.apart (found_own (is_due_at c.args.moment) d cur.items s.apart found))

pub loop-found-preserved : goal.loop-found-preserved
loop-found-preserved c =
    let cur = c.loop-found.self in
    let s = c.stand_apart.ensures in
    let d = c.in-Some.found in
    let f = woken c.args.params.now c.args.moment in
    let found : find (is_due_at c.args.moment) cur.items ≡ Some d = ap (λ (p : Dests). find (is_due_at c.args.moment) p.items) (sym c.self.view_is) ∙ sym c.first_due.ensures ∙ c.in-Some.is in
    let next = c.renew.ensures f (sym c.woken.ensures) ∙ ap (λ (s : Site). record cur { items = filter is_kept (map (changed_at s f) cur.items) }) c.site.ensures in
    record {
      room = ap (λ (p : Dests). p.room) next ∙ c.loop-found.invariant.room;
      rest = ap (λ (p : Dests). filter is_kept (map (woken_when_due c.args.params.now c.args.moment) p.items)) next
          ∙ rest_same (is_due_at c.args.moment) f d.known.site d (found_passes (is_due_at c.args.moment) d cur.items found) (woken_not_due c.args.params.now c.args.moment d) cur.items s.apart s.kept (found_own (is_due_at c.args.moment) d cur.items s.apart found)
          ∙ c.loop-found.invariant.rest;
    }

pub returns : goal.returns
returns c =
    let cur = c.loop-found.self in
    ap (λ ds. record { items = ds; room = cur.room })
    (all_changed (is_due_at c.args.moment) (woken c.args.params.now c.args.moment) cur.items c.stand_apart-2.ensures.kept
    (ap (λ (p : Dests). find (is_due_at c.args.moment) p.items) (sym c.self.view_is) ∙ sym c.first_due.ensures ∙ c.in_default.is) ∙ c.loop-found.invariant.rest)
    ∙ ap (λ n. record { items = filter is_kept (map (woken_when_due c.args.params.now c.args.moment) c.args.self.now.items); room = n }) c.loop-found.invariant.room
