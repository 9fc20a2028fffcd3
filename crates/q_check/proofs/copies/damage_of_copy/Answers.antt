use Rattle.std.proofs.Common.{subst, sym}
use Rattle.q_restart.specs.Openings.{IsAccepted}
use Rattle.q_check.proofs.DamageLaws.{damage-found, damage-some}
use Rattle.q_check.proofs.copies.damage_of_copy.Goals as goal

pub returns-in-Err-clause-damage : goal.returns-in-Err-clause-damage
returns-in-Err-clause-damage g c =
    damage-found g.M.Host.tells (g.M.Host.view c.args.copy.now).files c.open_spool.result c.in-Err.error c.damage_in.result c.in-Err.is c.open_spool.ensures.damaged c.open_spool.ensures.undamaged c.damage_in.ensures

pub returns-in-Err-clause-some : goal.returns-in-Err-clause-some
returns-in-Err-clause-some g c = damage-some c.open_spool.result c.in-Err.error c.damage_in.result c.in-Err.is c.open_spool.ensures.some c.damage_in.ensures

pub returns-in-Ok-clause-damage : goal.returns-in-Ok-clause-damage
returns-in-Ok-clause-damage g c t = c.open_spool.ensures.undamaged t (subst IsAccepted (sym c.in-Ok.is) tt)
