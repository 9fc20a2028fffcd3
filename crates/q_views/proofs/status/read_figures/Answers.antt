use Rattle.std.proofs.Common.{◌∙◌}
use Rattle.q_views.proofs.TallyLaws.{figures_whole, stands_still}
use Rattle.q_views.proofs.status.read_figures.Goals as goal

pub returns-clause-figures : goal.returns-clause-figures
returns-clause-figures g c t b stands =
    let f = (g.H.Host.view c.args.host.now).files in
    let view = g.H.Host.view in
    let first = (c.in_ok-incoming.ensures.stays t).files in
    let second = (c.in_ok-active.ensures.stays t).files ∙ first in
    let third = (c.in_ok-deferred.ensures.stays t).files ∙ second in
    let fourth = (c.in_ok-hold.ensures.stays t).files ∙ third in
    figures_whole b c.in_ok-incoming.incoming c.in_ok-active.active c.in_ok-deferred.deferred c.in_ok-hold.hold c.in_ok-generation.generation
    (c.in_ok-incoming.ensures.tally t b stands)
    (c.in_ok-active.ensures.tally t b (stands_still f (view c.tally.new.host).files b first stands))
    (c.in_ok-deferred.ensures.tally t b (stands_still f (view c.tally-2.new.host).files b second stands))
    (c.in_ok-hold.ensures.tally t b (stands_still f (view c.tally-3.new.host).files b third stands))
    (c.in_ok-generation.ensures.generation t b (stands_still f (view c.tally-4.new.host).files b fourth stands))
