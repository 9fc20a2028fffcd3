use Rattle.std.proofs.Common.{inl, refl, subst}
use Rattle.q_host.proofs.Moments.{leaves_only}
use Rattle.q_model.specs.Values.{Spot}
use Rattle.std.specs.Prelude.{OnErr}
use Rattle.q_host.specs.View.{Told}
use Rattle.q_logfile.specs.StoredLogs.{MayGoLog, MayHoldLog}
use Rattle.q_logfile.proofs.writing.replace.Goals as goal

pub returns-clause-any_moment : goal.returns-clause-any_moment
returns-clause-any_moment g c t =
    let view = g.H.Host.view in
    let goes = subst (λ (s : Spot). MayGoLog s.area s.name c.args.failures.now (view c.args.host.now) (view c.store_log.new.host)) c.spot.view_is (c.store_log.ensures.goes t) in
    leaves_only (g.met.H.Host.only_now c.args.host.now) (λ x. record { files = inl (λ a m other. refl); told = refl }) goes

pub returns-clause-err : goal.returns-clause-err
returns-clause-err g c =
    let to = c.store_log.new.host in
    subst (λ (s : Spot). OnErr c.store_log.result (Told g.H.Host.tells g.H.Host.view c.args.host.now to (MayHoldLog s.area s.name c.args.failures.now))) c.spot.view_is c.store_log.ensures.err
