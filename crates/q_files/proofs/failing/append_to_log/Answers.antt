use Rattle.std.proofs.Common.{arith}
use Rattle.q_model.specs.CutOff.{cut_off}
use Rattle.q_model.specs.declared.entry.Entry.TheVariants as entries
use Rattle.q_model.specs.FailureLog.{IsFailure}
use Rattle.q_books.specs.HostStands.{TellsCrashes}
use Rattle.q_books.proofs.Joining.{reads_try, tries_loosely}
use Rattle.q_files.proofs.LogAppends.{appends_failure, appends_no_notes, may_append_failure, may_append_no_notes}
use Rattle.q_files.proofs.Outcomes.{always_err}
use Rattle.q_files.proofs.failing.append_to_log.Goals as goal

pub returns-in_err-sync-clause-err : goal.returns-in_err-sync-clause-err
returns-in_err-sync-clause-err g c = always_err c.from_residual.result (λ t b k h ch.
    let u = g.H.Host.view c.args.host.now in
    let v = g.H.Host.view c.sync.new.self in
    let lawful : TellsCrashes u = (record { only = g.met.H.Host.only_now c.args.host.now; told = g.met.H.Host.told_stays c.args.host.now }) in
    tries_loosely b k (cut_off (entries.Log c.args.id c.args.failure) k) u v (reads_try b k u v lawful (c.in_err-sync.ensures.err t) h))

pub returns-in_err-append-clause-err : goal.returns-in_err-append-clause-err
returns-in_err-append-clause-err g c = always_err c.from_residual-in_err-append.result (λ t b k h ch.
    let u = g.H.Host.view c.args.host.now in
    let v = g.H.Host.view c.sync.new.self in
    let lawful : TellsCrashes u = (record { only = g.met.H.Host.only_now c.args.host.now; told = g.met.H.Host.told_stays c.args.host.now }) in
    let then_lawful : TellsCrashes v = (record { only = g.met.H.Host.only_now c.sync.new.self; told = g.met.H.Host.told_stays c.sync.new.self }) in
    let fits : IsFailure c.args.failure = record { position = omega arith; code = c.requires.code } in
    may_append_failure c.args.id c.args.failure u v (g.H.Host.view c.append.new.host) c.id_name-name.result c.id_name-name.ensures c.args.count (c.requires.appended t) (c.in_ok-sync.ensures.ok t)
    b k ch lawful then_lawful h fits (c.in_err-append.ensures.err t))

pub returns-in_err-append-clause-notes : goal.returns-in_err-append-clause-notes
returns-in_err-append-clause-notes g c t =
    may_append_no_notes c.args.id c.args.failure (g.H.Host.view c.args.host.now) (g.H.Host.view c.sync.new.self) (g.H.Host.view c.append.new.host) c.id_name-name.result c.id_name-name.ensures c.args.count (c.requires.appended t) (c.in_ok-sync.ensures.ok t) (c.in_err-append.ensures.err t)

pub returns-clause-ok : goal.returns-clause-ok
returns-clause-ok g c t b k h ch =
    let u = g.H.Host.view c.args.host.now in
    let v = g.H.Host.view c.sync.new.self in
    let lawful : TellsCrashes u = (record { only = g.met.H.Host.only_now c.args.host.now; told = g.met.H.Host.told_stays c.args.host.now }) in
    let then_lawful : TellsCrashes v = (record { only = g.met.H.Host.only_now c.sync.new.self; told = g.met.H.Host.told_stays c.sync.new.self }) in
    let fits : IsFailure c.args.failure = record { position = omega arith; code = c.requires.code } in
    appends_failure c.args.id c.args.failure u v (g.H.Host.view c.append.new.host) c.id_name-name.result c.id_name-name.ensures c.args.count (c.requires.appended t) (c.in_ok-sync.ensures.ok t)
    b k ch lawful then_lawful h fits (c.in_ok-append.ensures.ok t)

pub returns-clause-notes : goal.returns-clause-notes
returns-clause-notes g c t =
    appends_no_notes c.args.id c.args.failure (g.H.Host.view c.args.host.now) (g.H.Host.view c.sync.new.self) (g.H.Host.view c.append.new.host) c.id_name-name.result c.id_name-name.ensures c.args.count (c.requires.appended t) (c.in_ok-sync.ensures.ok t) (c.in_ok-append.ensures.ok t)
