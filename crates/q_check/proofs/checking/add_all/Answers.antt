use Rattle.std.proofs.Common.{subst, sym}
use Rattle.q_model.specs.SpoolFiles.{Files}
use Rattle.q_check.specs.SpoolDamages.{IsDamageIn}
use Rattle.q_check.specs.Worst.{IsFoundIn, IsFoundOfSome}
use Rattle.q_check.specs.declared.found.Found.{Found}
use Rattle.q_check.proofs.ConfTexts.{check-added}
use Rattle.q_check.proofs.FaultLaws.{worst_in, worst_named}
use Rattle.q_check.proofs.checking.add_all.Goals as goal

pub returns-clause-text : goal.returns-clause-text
returns-clause-text g c t =
    let view = g.H.Host.view in
    let files = c.in_ok-damage.ensures.added t in
    check-added (view c.args.host.now).files (view c.add_conf_files.new.host).files c.in_ok-damage.damage c.args.text.now.items c.add_conf_files.new.text.items c.add_files.new.text.items files.0
    (c.in_ok-lines.ensures.stays t).files c.requires (c.in_ok-lines.ensures.added t) files.1 files.2

pub returns-clause-found : goal.returns-clause-found
returns-clause-found g c t =
    let view = g.H.Host.view in
    let f = (view c.args.host.now).files in
    let is_damage = subst (λ (x : Files). IsDamageIn x c.in_ok-damage.damage) (c.in_ok-lines.ensures.stays t).files (c.in_ok-damage.ensures.added t).1.is_damage in
    subst (λ (x : Found). IsFoundIn f x) (sym c.worst_of.ensures) (worst_in f c.in_ok-damage.damage is_damage c.in_ok-lines.lines.params c.in_ok-lines.lines.table (c.in_ok-lines.ensures.faults t))

pub returns-clause-named : goal.returns-clause-named
returns-clause-named g c =
    subst IsFoundOfSome (sym c.worst_of.ensures) (worst_named c.in_ok-damage.damage c.in_ok-damage.ensures.some c.in_ok-lines.lines.params c.in_ok-lines.lines.table c.in_ok-lines.ensures.some)
