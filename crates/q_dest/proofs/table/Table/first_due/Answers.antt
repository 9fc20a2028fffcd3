use Rattle.std.proofs.Common.{◌∙◌, ap, option_map, sym}
use Rattle.std.specs.Option.{option_copied}
use Rattle.std.specs.Prelude.{find}
use Rattle.q_dest.proofs.Firsts.{due_nowhere, due_there}
use Rattle.q_dest.proofs.Registers.{E, first_number}
use Rattle.q_dest.specs.Dests.{Dests, is_due_at}
use Rattle.q_dest.specs.Ranks.{time_rank}
use Rattle.q_dest.proofs.table.Table.first_due.Goals as goal

pub returns-in_err-member : goal.returns-in_err-member
returns-in_err-member c =
    let a = c.self.inside in
    c.from_residual.ensures
    ∙ sym (due_nowhere a.dests.items c.args.moment c.requires (sym (first_number time_rank a.dests a.times c.self.invariant.times_are c.args.moment) ∙ ap (option_map (λ (e : E). e.key)) (sym c.first_within.ensures ∙ ap option_copied c.in_err-member.was)))
    ∙ ap (λ (p : Dests). find (is_due_at c.args.moment) p.items) c.self.view_is

pub returns : goal.returns
returns c =
    let a = c.self.inside in
    c.copied.ensures ∙ c.get.ensures
    ∙ due_there a.dests.items c.args.moment c.in_ok-member.member.now.key c.requires c.stand_apart.ensures.apart (sym (first_number time_rank a.dests a.times c.self.invariant.times_are c.args.moment) ∙ ap (option_map (λ (e : E). e.key)) (sym c.first_within.ensures ∙ ap option_copied c.in_ok-member.was))
    ∙ ap (λ (p : Dests). find (is_due_at c.args.moment) p.items) c.self.view_is
