use Rattle.std.proofs.Common.{◌∙◌, ap, subst, sym}
use Rattle.std.specs.Prelude.{filter}
use Rattle.q_keyed.specs.Numbered.{Items, values_of}
use Rattle.q_dest.proofs.Bounds.{bounded_left}
use Rattle.q_dest.proofs.Changes.{is_else}
use Rattle.q_dest.proofs.Numbered.{left_nowhere, left_there}
use Rattle.q_dest.proofs.Registers.{less}
use Rattle.q_dest.specs.declared.dest.Dest.{Dest}
use Rattle.q_dest.specs.Dests.{AreBounded, Dests}
use Rattle.q_dest.specs.Ranks.{dead_rank, remembered_rank, time_rank}
use Rattle.q_dest.specs.Sound.{numbers_by}
use Rattle.q_dest.proofs.table.Table.remove.Goals as goal

pub invariant_of-self : goal.invariant_of-self
invariant_of-self c =
    let a = c.self.inside in
    let s = c.find.ensures in
    let n = c.in-Some.number in
    let next = sym c.remove-dest.ensures.items in
    record {
      times_are = c.remove-time.ensures.items ∙ less time_rank a.dests a.times c.self.invariant.times_are n ∙ ap (numbers_by time_rank) next;
      dead_are = c.remove-dead.ensures.items ∙ less dead_rank a.dests a.dead c.self.invariant.dead_are n ∙ ap (numbers_by dead_rank) next;
      remembered_are = c.remove-remembered.ensures.items ∙ less remembered_rank a.dests a.remembered c.self.invariant.remembered_are n ∙ ap (numbers_by remembered_rank) next;
      bounded = subst (λ (x : Items Dest). AreBounded (values_of x.items)) next
          (subst AreBounded (sym (left_there c.args.site.now n a.dests.items s.apart s.keys (sym c.find.ensures.is ∙ c.in-Some.is)))
          (bounded_left (is_else c.args.site.now) (values_of a.dests.items) c.self.invariant.bounded));
    }

pub returns-in-Some : goal.returns-in-Some
returns-in-Some c =
    let s = c.find.ensures in
    ap (λ (v : Items Dest). record { items = values_of v.items; room = v.room }) c.remove-dest.ensures.items
    ∙ ap (λ ds. record { items = ds; room = c.self.inside.dests.room }) (left_there c.args.site.now c.in-Some.number c.self.inside.dests.items s.apart s.keys (sym c.find.ensures.is ∙ c.in-Some.is))
    ∙ ap (λ (p : Dests). record p { items = filter (is_else c.args.site.now) p.items }) c.self.view_is

pub returns-in_default : goal.returns-in_default
returns-in_default c =
    sym c.self.view_is
    ∙ ap (λ ds. record { items = ds; room = c.self.inside.dests.room }) (sym (left_nowhere c.args.site.now c.self.inside.dests.items (sym c.find.ensures.is ∙ c.in_default.is)))
    ∙ ap (λ (p : Dests). record p { items = filter (is_else c.args.site.now) p.items }) c.self.view_is
