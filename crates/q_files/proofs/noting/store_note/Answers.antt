use Rattle.std.proofs.Common.{◌∙◌}
use Rattle.q_model.specs.IdTexts.{id_text}
use Rattle.q_books.specs.HostStands.{TellsCrashes}
use Rattle.q_books.proofs.Results.{on_ok}
use Rattle.q_files.proofs.KeptFiles.{kept_by_notes}
use Rattle.q_files.proofs.NoteLogs.{noted_at}
use Rattle.q_files.proofs.noting.store_note.Goals as goal

pub returns-clause-noted : goal.returns-clause-noted
returns-clause-noted g c = on_ok c.append.result (λ d t notes old.
    let u = g.H.Host.view c.args.host.now in
    let w = g.H.Host.view c.append.new.host in
    noted_at u.files w.files c.id_name.result (id_text c.args.id) c.deref.result.now notes c.args.note (record { position = c.in_ok-bytes.ensures.fits; code = c.requires }) c.id_name.ensures (c.deref.ensures.value ∙ c.in_ok-bytes.ensures.written) (d t) old) c.append.ensures.written

pub returns-clause-book : goal.returns-clause-book
returns-clause-book g c t b h =
    let v = g.H.Host.view c.args.host.now in
    let w = g.H.Host.view c.append.new.host in
    let lawful : TellsCrashes v = (record { only = g.met.H.Host.only_now c.args.host.now; told = g.met.H.Host.told_stays c.args.host.now }) in
    kept_by_notes b v w c.id_name.result lawful (c.append.ensures.reads t) (c.append.ensures.goes t) h
