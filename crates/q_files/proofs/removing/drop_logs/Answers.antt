use Rattle.std.proofs.Common.{List, ℕ, ap, subst, sym, ◌∙◌}
use Rattle.q_model.specs.declared.spot.Area.TheVariants as areas
use Rattle.q_model.specs.IdTexts.{id_text}
use Rattle.q_host.specs.Calls.{MayRemove}
use Rattle.q_host.proofs.Puts.{other_area}
use Rattle.q_books.specs.HostStands.{TellsCrashes}
use Rattle.q_books.proofs.Joining.{kept_takes}
use Rattle.q_files.proofs.KeptFiles.{drops_others, kept_without_log, kept_without_notes}
use Rattle.q_files.proofs.Outcomes.{always_ok}
use Rattle.q_files.proofs.Removals.{drops_both}
use Rattle.q_files.proofs.removing.drop_logs.Goals as goal

pub returns-in_err-drop_file-clause-book : goal.returns-in_err-drop_file-clause-book
returns-in_err-drop_file-clause-book g c t b hid none h =
    let u = g.H.Host.view c.args.host.now in
    let v = g.H.Host.view c.drop_file.new.host in
    let lawful : TellsCrashes u = (record { only = g.met.H.Host.only_now c.args.host.now; told = g.met.H.Host.told_stays c.args.host.now }) in
    kept_without_log b u v c.args.id hid none lawful (subst (λ (n : List ℕ). MayRemove areas.Bounce n u v) c.id_name-name.ensures (c.drop_file.ensures.change t)) h

pub returns-in_err-drop_file-clause-others : goal.returns-in_err-drop_file-clause-others
returns-in_err-drop_file-clause-others g c t a n one two =
    let u = g.H.Host.view c.args.host.now in
    let v = g.H.Host.view c.drop_file.new.host in
    drops_others areas.Bounce (id_text c.args.id) u v (subst (λ (k : List ℕ). MayRemove areas.Bounce k u v) c.id_name-name.ensures (c.drop_file.ensures.change t)) a n one

pub returns-clause-book : goal.returns-clause-book
returns-clause-book g c t b hid none h =
    let u = g.H.Host.view c.args.host.now in
    let v = g.H.Host.view c.drop_file.new.host in
    let w = g.H.Host.view c.drop_file-2.new.host in
    let lawful : TellsCrashes u = (record { only = g.met.H.Host.only_now c.args.host.now; told = g.met.H.Host.told_stays c.args.host.now }) in
    let then_lawful : TellsCrashes v = (record { only = g.met.H.Host.only_now c.drop_file.new.host; told = g.met.H.Host.told_stays c.drop_file.new.host }) in
    let first = kept_without_log b u v c.args.id hid none lawful (subst (λ (n : List ℕ). MayRemove areas.Bounce n u v) c.id_name-name.ensures (c.drop_file.ensures.change t)) h in
    kept_takes b b u v w first (kept_without_notes b v w c.id_name-name.result then_lawful (c.drop_file-2.ensures.change t) first.stands)

pub returns-clause-bounce : goal.returns-clause-bounce
returns-clause-bounce g c = always_ok c.drop_file-2.result (λ t.
    let v = g.H.Host.view c.drop_file.new.host in
    let w = g.H.Host.view c.drop_file-2.new.host in
    drops_others areas.Defer c.id_name-name.result v w (c.drop_file-2.ensures.change t) areas.Bounce (id_text c.args.id) (other_area areas.Defer c.id_name-name.result areas.Bounce (id_text c.args.id) (λ e. cc))
    ∙ ap (v.files areas.Bounce) (sym c.id_name-name.ensures) ∙ c.in_ok-drop_file.ensures.gone t)

pub returns-clause-others : goal.returns-clause-others
returns-clause-others g c t =
    let u = g.H.Host.view c.args.host.now in
    let v = g.H.Host.view c.drop_file.new.host in
    let w = g.H.Host.view c.drop_file-2.new.host in
    drops_both (id_text c.args.id) u v w (subst (λ (k : List ℕ). MayRemove areas.Bounce k u v) c.id_name-name.ensures (c.drop_file.ensures.change t)) (subst (λ (k : List ℕ). MayRemove areas.Defer k v w) c.id_name-name.ensures (c.drop_file-2.ensures.change t))
