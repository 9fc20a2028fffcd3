use Rattle.std.proofs.Common.{refl}
use Rattle.q_mem_host.specs.Left.{view_of}
use Rattle.q_check.proofs.CopyLaws.{copied-damage, no-files}
use Rattle.q_check.proofs.copies.damage_of.Goals as goal

pub copy_areas-requires : goal.copy_areas-requires
copy_areas-requires g c t = no-files (view_of c.new-copy.result.history) c.new-copy.ensures.empty

pub returns-clause-damage : goal.returns-clause-damage
returns-clause-damage g c t =
    copied-damage (g.H.Host.view c.args.host.now).files (view_of c.copy_areas.new.copy.history).files (c.in_ok-copy_areas.ensures.copied t refl) c.in_ok-damage.damage (c.in_ok-damage.ensures.damage refl)
