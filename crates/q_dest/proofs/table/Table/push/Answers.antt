use Rattle.std.proofs.Common.{◌∙◌, ◌∷◌, [], ap, subst, sym}
use Rattle.std.proofs.lemmas.List.{map-append}
use Rattle.std.specs.Prelude.{find}
use Rattle.q_keyed.proofs.Values.{none_sought}
use Rattle.q_keyed.specs.Numbered.{Items, Numbered, values_of}
use Rattle.q_dest.proofs.Bounds.{bounded_more}
use Rattle.q_dest.proofs.Registers.{absent, E, more, same_number}
use Rattle.q_dest.specs.declared.dest.Dest.{Dest}
use Rattle.q_dest.specs.Dests.{AreBounded, Dests, is_at}
use Rattle.q_dest.specs.Ranks.{dead_rank, remembered_rank, time_rank}
use Rattle.q_dest.specs.Sound.{numbers_by}
use Rattle.q_register.specs.Members.{has_key}
use Rattle.q_dest.proofs.table.Table.push.Goals as goal

pub push-number-requires-clause-absent : goal.push-number-requires-clause-absent
push-number-requires-clause-absent c =
    none_sought (is_at c.args.dest.known.site) c.self.inside.dests.items
    (ap (λ (p : Dests). find (is_at c.args.dest.known.site) p.items) c.self.view_is ∙ c.requires.absent)

pub push-requires-clause-absent : goal.push-requires-clause-absent
push-requires-clause-absent c =
    let a = c.self.inside in
    ap (λ (e : E). find (has_key same_number e.key) a.times.items) c.member.ensures
    ∙ absent time_rank a.dests a.times c.self.invariant.times_are c.push-number.result c.push-number.ensures.fresh

pub push-requires-2-clause-absent : goal.push-requires-2-clause-absent
push-requires-2-clause-absent c =
    let a = c.self.inside in
    ap (λ (e : E). find (has_key same_number e.key) a.dead.items) c.member-2.ensures
    ∙ absent dead_rank a.dests a.dead c.self.invariant.dead_are c.push-number.result c.push-number.ensures.fresh

pub push-requires-3-clause-absent : goal.push-requires-3-clause-absent
push-requires-3-clause-absent c =
    let a = c.self.inside in
    ap (λ (e : E). find (has_key same_number e.key) a.remembered.items) c.member-3.ensures
    ∙ absent remembered_rank a.dests a.remembered c.self.invariant.remembered_are c.push-number.result c.push-number.ensures.fresh

pub invariant_of-self : goal.invariant_of-self
invariant_of-self c =
    let a = c.self.inside in
    let n = c.push-number.result in
    let next = sym c.push-number.ensures.items in
    record {
      times_are = c.push.ensures
          ∙ more time_rank a.dests a.times c.self.invariant.times_are n c.args.dest c.member.result (c.member.ensures ∙ ap (λ r. record { key = n; value = tt; rank = r }) c.time_rank-time_rank.ensures)
          ∙ ap (numbers_by time_rank) next;
      dead_are = c.push-2.ensures
          ∙ more dead_rank a.dests a.dead c.self.invariant.dead_are n c.args.dest c.member-2.result (c.member-2.ensures ∙ ap (λ r. record { key = n; value = tt; rank = r }) c.dead_rank-dead_rank.ensures)
          ∙ ap (numbers_by dead_rank) next;
      remembered_are = c.push-3.ensures
          ∙ more remembered_rank a.dests a.remembered c.self.invariant.remembered_are n c.args.dest c.member-3.result (c.member-3.ensures ∙ ap (λ r. record { key = n; value = tt; rank = r }) c.remembered_rank-remembered_rank.ensures)
          ∙ ap (numbers_by remembered_rank) next;
      bounded = subst (λ (x : Items Dest). AreBounded (values_of x.items)) next
          (subst AreBounded (sym (map-append (λ (k : Numbered Dest). k.item) a.dests.items (record { number = n; item = c.args.dest } ∷ [])))
          (bounded_more (values_of a.dests.items) c.args.dest c.self.invariant.bounded c.stay_bounded.ensures));
    }
