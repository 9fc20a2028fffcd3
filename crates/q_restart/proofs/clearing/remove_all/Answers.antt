use Rattle.std.proofs.Common.{◌+◌, arith, drop, List, subst, ℕ}
use Rattle.q_model.specs.declared.spot.Area.TheVariants as areas
use Rattle.q_model.specs.SpoolFiles.{Files}
use Rattle.q_host.specs.Files.{without_file}
use Rattle.q_restart.specs.Clearings.{ChangesTmp}
use Rattle.q_restart.specs.Walks.{AreAllNames}
use Rattle.q_restart.proofs.Clears.{by-change, by-may, by-on, names-rest, next_name, tmp-here, tmp-on, tmp-remove}
use Rattle.q_restart.proofs.clearing.remove_all.Goals as goal

pub returns-in_err-remove-clause-goes : goal.returns-in_err-remove-clause-goes
returns-in_err-remove-clause-goes g c t =
    let view = g.H.Host.view in
    by-on ChangesTmp tmp-on (view c.args.host.now) (view c.loop-name.host) (view c.remove.new.self) (c.loop-name.invariant.goes t)
    (by-may ChangesTmp tmp-here (λ (f : Files). without_file f areas.Tmp c.name-item.result) (tmp-remove c.name-item.result) (view c.loop-name.host) (view c.remove.new.self) (c.in_err-remove.ensures.err t))

pub loop-name-preserved : goal.loop-name-preserved
loop-name-preserved g c =
    let view = g.H.Host.view in
    let so_far = c.loop-name.invariant in
    let names = c.args.names.now in
    record {
      listed = λ t. names-rest (view c.loop-name.host).files (view c.remove.new.self).files areas.Tmp c.name-item.result (drop (c.loop-name.name-index + 1) names) (c.in_ok-remove.ensures.ok t).files
          (subst (λ (xs : List (List ℕ)). AreAllNames ((view c.loop-name.host).files areas.Tmp) xs) (next_name names c.loop-name.name-index c.name-item.result c.loop-name-test.true c.name-item.is) (so_far.listed t));
      goes = λ t. by-on ChangesTmp tmp-on (view c.args.host.now) (view c.loop-name.host) (view c.remove.new.self) (so_far.goes t)
          (by-change ChangesTmp (λ (f : Files). without_file f areas.Tmp c.name-item.result) (tmp-remove c.name-item.result) (view c.loop-name.host) (view c.remove.new.self) (c.in_ok-remove.ensures.ok t));
      disk_later = omega (arith, so_far.disk_later, c.remove.ensures.cause.disk_later);
      tell_later = omega (arith, so_far.tell_later, c.remove.ensures.cause.tell_later);
    }
