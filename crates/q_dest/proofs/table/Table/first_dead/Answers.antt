use Rattle.std.proofs.Common.{◌∙◌, ap, option_map, sym}
use Rattle.std.specs.Option.{option_copied}
use Rattle.std.specs.Prelude.{find}
use Rattle.q_dest.proofs.Firsts.{dead_nowhere, dead_there}
use Rattle.q_dest.proofs.Registers.{E, first_number}
use Rattle.q_dest.specs.Dests.{Dests, is_dead}
use Rattle.q_dest.specs.Ranks.{dead_rank}
use Rattle.q_dest.proofs.table.Table.first_dead.Goals as goal

pub returns-in_err-member : goal.returns-in_err-member
returns-in_err-member c =
    let a = c.self.inside in
    c.from_residual.ensures
    ∙ sym (dead_nowhere a.dests.items (sym (first_number dead_rank a.dests a.dead c.self.invariant.dead_are 0) ∙ ap (option_map (λ (e : E). e.key)) (sym c.first_within.ensures ∙ ap option_copied c.in_err-member.was)))
    ∙ ap (λ (p : Dests). find is_dead p.items) c.self.view_is

pub returns : goal.returns
returns c =
    let a = c.self.inside in
    c.copied.ensures ∙ c.get.ensures
    ∙ dead_there a.dests.items c.in_ok-member.member.now.key c.stand_apart.ensures.apart (sym (first_number dead_rank a.dests a.dead c.self.invariant.dead_are 0) ∙ ap (option_map (λ (e : E). e.key)) (sym c.first_within.ensures ∙ ap option_copied c.in_ok-member.was))
    ∙ ap (λ (p : Dests). find is_dead p.items) c.self.view_is
