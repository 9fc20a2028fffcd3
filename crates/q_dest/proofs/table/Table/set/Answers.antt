use Rattle.std.proofs.Common.{◌≡◌, ◌∙◌, ap, map, Some, subst, sym}
use Rattle.std.specs.Prelude.{find}
use Rattle.q_keyed.proofs.Values.{item_found}
use Rattle.q_keyed.specs.Numbered.{first_such, Items, values_of}
use Rattle.q_dest.proofs.Bounds.{bounded_set}
use Rattle.q_dest.proofs.Numbered.{own, put_nowhere, put_there}
use Rattle.q_dest.proofs.Registers.{put_own, set, unset}
use Rattle.q_dest.specs.declared.dest.Dest.{Dest}
use Rattle.q_dest.specs.Dests.{AreBounded, changed_at, Dests, is_at}
use Rattle.q_dest.specs.Ranks.{dead_rank, remembered_rank, time_rank}
use Rattle.q_dest.specs.Sound.{numbers_by}
use Rattle.q_model.specs.Values.{Site}
use Rattle.q_dest.proofs.table.Table.set.Goals as goal

pub put-requires : goal.put-requires
put-requires c =
    let s = c.find.ensures in
    let ks = c.self.inside.dests.items in
    own c.args.dest.known.site c.in-Some.number ks s.apart s.keys (ap (λ (s : Site). first_such (is_at s) ks) (sym c.site.ensures) ∙ sym c.find.ensures.is ∙ c.in-Some.is)

pub rank_at-requires : goal.rank_at-requires
rank_at-requires c =
    let a = c.self.inside in
    let s = c.find.ensures in
    let n = c.in-Some.number in
    let site = c.args.dest.known.site in
    let found : first_such (is_at site) a.dests.items ≡ Some n = ap (λ (s : Site). first_such (is_at s) a.dests.items) (sym c.site.ensures) ∙ sym c.find.ensures.is ∙ c.in-Some.is in
    unset time_rank a.dests a.times c.self.invariant.times_are n c.args.found.now _ c.time_rank.ensures
    (put_own n c.args.found.now a.dests.items s.apart (item_found (is_at site) n a.dests.items s.apart found ∙ ap (λ (p : Dests). find (is_at site) p.items) c.self.view_is ∙ c.requires))

pub rank_at-requires-in-Some : goal.rank_at-requires-in-Some
rank_at-requires-in-Some c =
    let a = c.self.inside in
    let s = c.find.ensures in
    let n = c.in-Some.number in
    let site = c.args.dest.known.site in
    let found : first_such (is_at site) a.dests.items ≡ Some n = ap (λ (s : Site). first_such (is_at s) a.dests.items) (sym c.site.ensures) ∙ sym c.find.ensures.is ∙ c.in-Some.is in
    unset dead_rank a.dests a.dead c.self.invariant.dead_are n c.args.found.now _ c.dead_rank.ensures
    (put_own n c.args.found.now a.dests.items s.apart (item_found (is_at site) n a.dests.items s.apart found ∙ ap (λ (p : Dests). find (is_at site) p.items) c.self.view_is ∙ c.requires))

pub rank_at-requires-in-Some-2 : goal.rank_at-requires-in-Some-2
rank_at-requires-in-Some-2 c =
    let a = c.self.inside in
    let s = c.find.ensures in
    let n = c.in-Some.number in
    let site = c.args.dest.known.site in
    let found : first_such (is_at site) a.dests.items ≡ Some n = ap (λ (s : Site). first_such (is_at s) a.dests.items) (sym c.site.ensures) ∙ sym c.find.ensures.is ∙ c.in-Some.is in
    unset remembered_rank a.dests a.remembered c.self.invariant.remembered_are n c.args.found.now _ c.remembered_rank.ensures
    (put_own n c.args.found.now a.dests.items s.apart (item_found (is_at site) n a.dests.items s.apart found ∙ ap (λ (p : Dests). find (is_at site) p.items) c.self.view_is ∙ c.requires))

pub invariant_of-self : goal.invariant_of-self
invariant_of-self c =
    let a = c.self.inside in
    let s = c.find.ensures in
    let n = c.in-Some.number in
    let site = c.args.dest.known.site in
    let next = sym c.put.ensures in
    let found : first_such (is_at site) a.dests.items ≡ Some n = ap (λ (s : Site). first_such (is_at s) a.dests.items) (sym c.site.ensures) ∙ sym c.find.ensures.is ∙ c.in-Some.is in
    record {
      times_are = c.rank_at.ensures ∙ set time_rank a.dests a.times c.self.invariant.times_are n c.args.dest _ c.time_rank-in-Some.ensures ∙ ap (numbers_by time_rank) next;
      dead_are = c.rank_at-in-Some.ensures ∙ set dead_rank a.dests a.dead c.self.invariant.dead_are n c.args.dest _ c.dead_rank-in-Some.ensures ∙ ap (numbers_by dead_rank) next;
      remembered_are = c.rank_at-in-Some-2.ensures ∙ set remembered_rank a.dests a.remembered c.self.invariant.remembered_are n c.args.dest _ c.remembered_rank-in-Some.ensures ∙ ap (numbers_by remembered_rank) next;
      bounded = subst (λ (x : Items Dest). AreBounded (values_of x.items)) next
          (subst AreBounded (sym (put_there site n a.dests.items s.apart s.keys found c.args.dest))
          (bounded_set site c.args.dest (values_of a.dests.items) c.stay_bounded.ensures c.self.invariant.bounded));
    }

pub returns-in-Some : goal.returns-in-Some
returns-in-Some c =
    let s = c.find.ensures in
    let site = c.args.dest.known.site in
    let ks = c.self.inside.dests.items in
    ap (λ (v : Items Dest). record { items = values_of v.items; room = v.room }) c.put.ensures
    ∙ ap (λ ds. record { items = ds; room = c.self.inside.dests.room }) (put_there site c.in-Some.number ks s.apart s.keys (ap (λ (s : Site). first_such (is_at s) ks) (sym c.site.ensures) ∙ sym c.find.ensures.is ∙ c.in-Some.is) c.args.dest)
    ∙ ap (λ (p : Dests). record p { items = map (changed_at site (λ (d : Dest). c.args.dest)) p.items }) c.self.view_is

pub returns-in_default : goal.returns-in_default
returns-in_default c =
    let site = c.args.dest.known.site in
    let ks = c.self.inside.dests.items in
    sym c.self.view_is
    ∙ ap (λ ds. record { items = ds; room = c.self.inside.dests.room }) (sym (put_nowhere site ks (ap (λ (s : Site). first_such (is_at s) ks) (sym c.site.ensures) ∙ sym c.find.ensures.is ∙ c.in_default.is) c.args.dest))
    ∙ ap (λ (p : Dests). record p { items = map (changed_at site (λ (d : Dest). c.args.dest)) p.items }) c.self.view_is
