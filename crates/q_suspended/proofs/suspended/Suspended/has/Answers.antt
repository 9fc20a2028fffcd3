use Rattle.std.proofs.Common.{◌∙◌, ap}
use Rattle.std.specs.List.{list_any}
use Rattle.std.specs.Option.{is_some}
use Rattle.q_suspended.proofs.Sites.{such_there}
use Rattle.q_suspended.specs.Suspensions.{is_at, Suspensions}
use Rattle.q_suspended.proofs.suspended.Suspended.has.Goals as goal

pub returns : goal.returns
returns c =
    let test = is_at c.args.site.now in
    c.is_some.ensures ∙ ap is_some c.find.ensures.is ∙ such_there test c.self.inside.sites.items
    ∙ ap (λ (s : Suspensions). list_any test s.items) c.self.view_is
