use Rattle.q_model.specs.CutOff.{cut_off}
use Rattle.q_model.specs.declared.entry.Entry.TheVariants as entries
use Rattle.q_books.specs.HostStands.{TellsCrashes}
use Rattle.q_books.proofs.Joining.{kept_takes, kept_tries_loosely, reads_keep, reads_try, tries_loosely}
use Rattle.q_books.proofs.Results.{on_err, on_ok}
use Rattle.q_files.proofs.Outcomes.{always_err}
use Rattle.q_files.proofs.failing.store_failure.Goals as goal

pub returns-in_err-log-clause-err : goal.returns-in_err-log-clause-err
returns-in_err-log-clause-err g c = always_err c.from_residual.result (λ t b k h ch.
    let u = g.H.Host.view c.args.host.now in
    let v = g.H.Host.view c.read_file.new.host in
    let lawful : TellsCrashes u = (record { only = g.met.H.Host.only_now c.args.host.now; told = g.met.H.Host.told_stays c.args.host.now }) in
    tries_loosely b k (cut_off (entries.Log c.args.id c.args.failure) k) u v (reads_try b k u v lawful (c.read_file.ensures.stays t) h))

pub returns-in_err-count-clause-err : goal.returns-in_err-count-clause-err
returns-in_err-count-clause-err g c = always_err c.from_residual-in_err-count.result (λ t b k h ch.
    let u = g.H.Host.view c.args.host.now in
    let v = g.H.Host.view c.read_file.new.host in
    let lawful : TellsCrashes u = (record { only = g.met.H.Host.only_now c.args.host.now; told = g.met.H.Host.told_stays c.args.host.now }) in
    tries_loosely b k (cut_off (entries.Log c.args.id c.args.failure) k) u v (reads_try b k u v lawful (c.read_file.ensures.stays t) h))

pub returns-in_default-clause-ok : goal.returns-in_default-clause-ok
returns-in_default-clause-ok g c = on_ok c.replace_log.result (λ d t b k h ch.
    let u = g.H.Host.view c.args.host.now in
    let v = g.H.Host.view c.read_file.new.host in
    let lawful : TellsCrashes u = (record { only = g.met.H.Host.only_now c.args.host.now; told = g.met.H.Host.told_stays c.args.host.now }) in
    let first = reads_keep b b u v lawful (c.read_file.ensures.stays t) h in
    kept_takes b k u v (g.H.Host.view c.replace_log.new.host) first (d t b k first.stands ch)) c.replace_log.ensures.ok

pub returns-in_default-clause-err : goal.returns-in_default-clause-err
returns-in_default-clause-err g c = on_err c.replace_log.result (λ d t b k h ch.
    let u = g.H.Host.view c.args.host.now in
    let v = g.H.Host.view c.read_file.new.host in
    let w = g.H.Host.view c.replace_log.new.host in
    let lawful : TellsCrashes u = (record { only = g.met.H.Host.only_now c.args.host.now; told = g.met.H.Host.told_stays c.args.host.now }) in
    let first = reads_keep b b u v lawful (c.read_file.ensures.stays t) h in
    let cut = cut_off (entries.Log c.args.id c.args.failure) k in
    kept_tries_loosely b k u v w cut first (tries_loosely b k cut v w (d t b k first.stands ch))) c.replace_log.ensures.err

pub returns-clause-ok : goal.returns-clause-ok
returns-clause-ok g c = on_ok c.append_to_log.result (λ d t b k h ch.
    let u = g.H.Host.view c.args.host.now in
    let v = g.H.Host.view c.read_file.new.host in
    let lawful : TellsCrashes u = (record { only = g.met.H.Host.only_now c.args.host.now; told = g.met.H.Host.told_stays c.args.host.now }) in
    let first = reads_keep b b u v lawful (c.read_file.ensures.stays t) h in
    kept_takes b k u v (g.H.Host.view c.append_to_log.new.host) first (d t b k first.stands ch)) c.append_to_log.ensures.ok

pub returns-clause-err : goal.returns-clause-err
returns-clause-err g c = on_err c.append_to_log.result (λ d t b k h ch.
    let u = g.H.Host.view c.args.host.now in
    let v = g.H.Host.view c.read_file.new.host in
    let lawful : TellsCrashes u = (record { only = g.met.H.Host.only_now c.args.host.now; told = g.met.H.Host.told_stays c.args.host.now }) in
    let first = reads_keep b b u v lawful (c.read_file.ensures.stays t) h in
    kept_tries_loosely b k u v (g.H.Host.view c.append_to_log.new.host) (cut_off (entries.Log c.args.id c.args.failure) k) first (d t b k first.stands ch)) c.append_to_log.ensures.err
