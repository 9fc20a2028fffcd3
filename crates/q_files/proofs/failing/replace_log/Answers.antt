use Rattle.std.proofs.Common.{List, ℕ, inr, sym, ap, ◌∙◌, ◌++◌, ◌∷◌, [], Some}
use Rattle.std.specs.Option.{option_map}
use Rattle.std.specs.Prelude.{unwrap_or}
use Rattle.q_model.specs.declared.outcome.Failure.{Failure}
use Rattle.q_model.specs.declared.spot.Area.TheVariants as areas
use Rattle.q_model.specs.FailureLog.{log_bytes, log_records}
use Rattle.q_host.proofs.Stays.{stays_here}
use Rattle.q_logfile.specs.TmpNames.{tmp_name}
use Rattle.q_books.specs.HostStands.{TellsCrashes}
use Rattle.q_books.proofs.Joining.{reads_try}
use Rattle.q_books.proofs.Results.{on_err, on_ok}
use Rattle.q_files.proofs.LogStores.{fails, may_fail, records_there}
use Rattle.q_files.proofs.MessageStores.{stores_no_notes}
use Rattle.q_files.proofs.Outcomes.{always_err, either}
use Rattle.q_files.proofs.failing.replace_log.Goals as goal

pub returns-in_err-records-clause-err : goal.returns-in_err-records-clause-err
returns-in_err-records-clause-err g c = always_err c.from_residual.result (λ t b k h ch.
    let v = g.H.Host.view c.args.host.now in
    let lawful : TellsCrashes v = (record { only = g.met.H.Host.only_now c.args.host.now; told = g.met.H.Host.told_stays c.args.host.now }) in
    reads_try b k v v lawful (stays_here v) h)

pub returns-clause-ok : goal.returns-clause-ok
returns-clause-ok g c = on_ok c.replace.result (λ d t b k h ch.
    let v = g.H.Host.view c.args.host.now in
    let name = c.id_name-name.result in
    let fs = c.in_ok-records.records in
    let lawful : TellsCrashes v = (record { only = g.met.H.Host.only_now c.args.host.now; told = g.met.H.Host.told_stays c.args.host.now }) in
    let read = c.in_ok-records.ensures.records ∙ ap (λ (rs : List Failure). rs ++ c.args.failure ∷ []) (records_there v.files c.args.id name c.args.log.now c.id_name-name.ensures (c.requires.read t ∙ ap (λ (n : List ℕ). unwrap_or (v.files areas.Bounce n) []) (sym c.id_name-name.ensures))) in
    fails (tmp_name areas.Bounce name) name c.args.id c.args.failure fs b k ch v (g.H.Host.view c.replace.new.host) lawful c.id_name-name.ensures read c.in_ok-records.ensures.lawful h (d t)) c.replace.ensures.ok

pub returns-clause-err : goal.returns-clause-err
returns-clause-err g c = on_err c.replace.result (λ d t b k h ch.
    let v = g.H.Host.view c.args.host.now in
    let name = c.id_name-name.result in
    let fs = c.in_ok-records.records in
    let lawful : TellsCrashes v = (record { only = g.met.H.Host.only_now c.args.host.now; told = g.met.H.Host.told_stays c.args.host.now }) in
    let read = c.in_ok-records.ensures.records ∙ ap (λ (rs : List Failure). rs ++ c.args.failure ∷ []) (records_there v.files c.args.id name c.args.log.now c.id_name-name.ensures (c.requires.read t ∙ ap (λ (n : List ℕ). unwrap_or (v.files areas.Bounce n) []) (sym c.id_name-name.ensures))) in
    may_fail (tmp_name areas.Bounce name) name c.args.id c.args.failure fs b k ch v (g.H.Host.view c.replace.new.host) lawful c.id_name-name.ensures read c.in_ok-records.ensures.lawful h (d t)) c.replace.ensures.err

pub returns-clause-records : goal.returns-clause-records
returns-clause-records g c = on_ok c.replace.result (λ d t.
    let v = g.H.Host.view c.args.host.now in
    let w = g.H.Host.view c.replace.new.host in
    let name = c.id_name-name.result in
    let read = c.in_ok-records.ensures.records ∙ ap (λ (rs : List Failure). rs ++ c.args.failure ∷ []) (records_there v.files c.args.id name c.args.log.now c.id_name-name.ensures (c.requires.read t ∙ ap (λ (n : List ℕ). unwrap_or (v.files areas.Bounce n) []) (sym c.id_name-name.ensures))) in
    ap (λ (n : List ℕ). option_map log_records (w.files areas.Bounce n)) (sym c.id_name-name.ensures) ∙ d t ∙ ap (λ (rs : List Failure). Some rs) read) c.replace.ensures.again

pub returns-clause-notes : goal.returns-clause-notes
returns-clause-notes g c t n =
    let v = g.H.Host.view c.args.host.now in
    let w = g.H.Host.view c.replace.new.host in
    let name = c.id_name-name.result in
    let keep = stores_no_notes (tmp_name areas.Bounce name) areas.Bounce name (log_bytes c.in_ok-records.records) v w (λ e. cc) in
    either c.replace.result (λ d. keep (inr (d t)) n) (λ d. keep (d t) n) c.replace.ensures.ok c.replace.ensures.err
