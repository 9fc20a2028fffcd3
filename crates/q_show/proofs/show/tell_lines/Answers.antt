use Rattle.q_host.proofs.Stays.{stays_here}
use Rattle.q_telling.proofs.TellingLaws.{only_none}
use Rattle.q_show.proofs.show.tell_lines.Goals as goal

pub returns-in_err-add_damage-clause-only : goal.returns-in_err-add_damage-clause-only
returns-in_err-add_damage-clause-only g c t =
    let u = g.H.Host.view c.args.host.now in
    only_none u u (g.met.H.Host.only_now c.args.host.now) (stays_here u)
