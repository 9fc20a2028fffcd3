use Rattle.std.proofs.Common.{List, ℕ, subst}
use Rattle.q_model.specs.declared.spot.Area.TheVariants as areas
use Rattle.q_model.specs.IdTexts.{id_text}
use Rattle.q_host.specs.Calls.{MayRemove}
use Rattle.q_books.specs.HostStands.{TellsCrashes}
use Rattle.q_files.proofs.KeptFiles.{drops_others, kept_without_notes}
use Rattle.q_files.proofs.noting.drop_notes.Goals as goal

pub returns-clause-book : goal.returns-clause-book
returns-clause-book g c t b h =
    let v = g.H.Host.view c.args.host.now in
    let w = g.H.Host.view c.drop_file.new.host in
    let lawful : TellsCrashes v = (record { only = g.met.H.Host.only_now c.args.host.now; told = g.met.H.Host.told_stays c.args.host.now }) in
    kept_without_notes b v w c.id_name.result lawful (c.drop_file.ensures.change t) h

pub returns-clause-others : goal.returns-clause-others
returns-clause-others g c t =
    let v = g.H.Host.view c.args.host.now in
    let w = g.H.Host.view c.drop_file.new.host in
    drops_others areas.Defer (id_text c.args.id) v w (subst (λ (n : List ℕ). MayRemove areas.Defer n v w) c.id_name.ensures (c.drop_file.ensures.change t))

pub returns-clause-notes : goal.returns-clause-notes
returns-clause-notes g c t n = returns-clause-others g c t areas.Defer n
