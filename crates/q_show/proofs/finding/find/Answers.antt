use Rattle.std.proofs.Common.{◌∙◌, ap, Option, subst, sym, true≢false}
use Rattle.std.specs.Option.{IfSome}
use Rattle.std.proofs.lemmas.Result.{IfOk-weaker}
use Rattle.q_model.specs.declared.rows.Place.{Place}
use Rattle.q_model.specs.SpoolFiles.{file_at, Files, IsPlace}
use Rattle.q_show.specs.Finding.{IsFoundAt}
use Rattle.q_show.proofs.Sought.{sought_nowhere, sought_there, sought_unnamed}
use Rattle.q_show.proofs.finding.find.Goals as goal

pub returns-then-not-names_file-clause-sought : goal.returns-then-not-names_file-clause-sought
returns-then-not-names_file-clause-sought g c t b stands =
    sought_unnamed (g.H.Host.view c.args.host.now).files b c.args.id stands (λ form. true≢false (sym (c.names_file.ensures.1 form) ∙ c.if-not-names_file.true))

pub returns-in-Some-clause-sought : goal.returns-in-Some-clause-sought
returns-in-Some-clause-sought g c =
    let u = g.H.Host.view c.args.host.now in
    let place = c.in-Some.place in
    let id = c.args.id in
    IfOk-weaker c.sought_at.result _ _ (λ s says t b stands.
    sought_there u.files b id place stands (c.names_file.ensures.0 c.if-not-names_file.false)
    (subst (λ (o : Option Place). IfSome o IsPlace) c.in-Some.is c.in_ok-place.ensures.fits)
    (subst (IsFoundAt u.files id) c.in-Some.is (c.in_ok-place.ensures.found t)) s
    (λ bytes here. says t bytes (ap (λ (f : Files). file_at f place id) (c.in_ok-place.ensures.stays t).files ∙ here))) c.sought_at.ensures.says

pub returns-in-None-clause-sought : goal.returns-in-None-clause-sought
returns-in-None-clause-sought g c t b stands =
    let u = g.H.Host.view c.args.host.now in
    sought_nowhere u.files b c.args.id stands (subst (IsFoundAt u.files c.args.id) c.in-None.is (c.in_ok-place.ensures.found t))
