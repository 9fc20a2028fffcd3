use Rattle.std.proofs.Common.{◌≡◌, ◌∙◌, ap, filter, subst, sym, true}
use Rattle.std.specs.List.{AllByRecursion}
use Rattle.q_books.proofs.Results.{if_ok}
use Rattle.q_host.proofs.Stays.{stays_on}
use Rattle.q_model.specs.FilesStand.{Stands}
use Rattle.q_model.specs.SpoolFiles.{Files}
use Rattle.q_super.specs.Deeds.{is_file_for}
use Rattle.q_super.specs.Moves.{stands_there}
use Rattle.q_super.specs.Names.{AreSources}
use Rattle.q_super.specs.declared.acts.Act.TheVariants as acts
use Rattle.q_super.specs.declared.standing.Standing.{Standing}
use Rattle.q_super.proofs.Taken.{taken_there}
use Rattle.q_super.proofs.flushing.flushed.Goals as goal

pub select-requires : goal.select-requires
select-requires g c = subst (AreSources acts.Requeue) (sym c.as_slice.ensures.value) c.in_ok-deferred.ensures.sources

pub returns-clause-flushed : goal.returns-clause-flushed
returns-clause-flushed g c = if_ok c.select.result (λ found k t b h.
    let f = (g.H.Host.view c.args.host.now).files in
    let all = c.as_slice.ensures.value ∙ c.in_ok-deferred.ensures.taken t b h in
    let there = subst (AllByRecursion (λ (s : Standing). stands_there b s ≡ true)) (sym all) (taken_there f b h acts.Requeue).there in
    k t b (subst (λ (fs : Files). Stands fs b) (sym (c.in_ok-deferred.ensures.stays t).files) h) there ∙ ap (filter (is_file_for c.args.domain.now b)) all) c.select.ensures.selected

pub returns-clause-stays : goal.returns-clause-stays
returns-clause-stays g c t = stays_on (g.H.Host.view c.args.host.now) (g.H.Host.view c.taken.new.host) (g.H.Host.view c.select.new.host) (c.in_ok-deferred.ensures.stays t) (c.select.ensures.stays t)
