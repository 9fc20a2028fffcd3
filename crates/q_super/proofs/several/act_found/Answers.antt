use Rattle.std.proofs.Common.{◌∙◌, ap, List, not, subst, sym}
use Rattle.q_books.proofs.Results.{if_ok}
use Rattle.q_books.specs.HostStands.{TellsCrashes}
use Rattle.q_model.specs.Lists.{has_none}
use Rattle.q_super.specs.Deeds.{Deed}
use Rattle.q_super.specs.Plays.{PlaysDeeds}
use Rattle.q_super.proofs.EachFound.{idle_deeds}
use Rattle.q_super.proofs.FoundPlaces.{finds_next, sources_left}
use Rattle.q_super.proofs.Playing.{plays_none}
use Rattle.q_super.proofs.several.act_found.Goals as goal

pub act_on-requires : goal.act_on-requires
act_on-requires g c = c.requires c.args.id c.in-Some.place (sym c.remove.ensures.value ∙ c.in-Some.is)

pub returns-in_default-clause-sources : goal.returns-in_default-clause-sources
returns-in_default-clause-sources g c = sources_left c.args.act c.args.id c.args.places.now c.remove.new.self c.remove.ensures.updates c.requires

pub returns-in_default-clause-finds : goal.returns-in_default-clause-finds
returns-in_default-clause-finds g c = finds_next c.args.act c.args.id c.args.places.now c.remove.new.self c.remove.ensures.updates

pub returns-in_default-clause-ok : goal.returns-in_default-clause-ok
returns-in_default-clause-ok g c t b h rest finds =
    let u = g.H.Host.view c.args.host.now in
    let lawful : TellsCrashes u = (record { only = g.met.H.Host.only_now c.args.host.now; told = g.met.H.Host.told_stays c.args.host.now }) in
    let none = idle_deeds c.args.act b c.args.id (finds.idle c.args.id (sym c.remove.ensures.value ∙ c.in_default.is)) in
    (sym (ap (λ (ds : List Deed). not (has_none ds)) none), subst (λ (ds : List Deed). PlaysDeeds b ds u u) (sym none) (plays_none b u lawful h))

pub returns-clause-sources : goal.returns-clause-sources
returns-clause-sources g c = sources_left c.args.act c.args.id c.args.places.now c.remove.new.self c.remove.ensures.updates c.requires

pub returns-clause-finds : goal.returns-clause-finds
returns-clause-finds g c = finds_next c.args.act c.args.id c.args.places.now c.remove.new.self c.remove.ensures.updates

pub returns-clause-ok : goal.returns-clause-ok
returns-clause-ok g c = if_ok c.act_on.result (λ done k t b h rest finds. k t b h rest (finds.there c.args.id c.in-Some.place (sym c.remove.ensures.value ∙ c.in-Some.is))) c.act_on.ensures.ok

pub returns-clause-err : goal.returns-clause-err
returns-clause-err g c error is t b h rest finds =
    c.act_on.ensures.err error is t b h rest (finds.there c.args.id c.in-Some.place (sym c.remove.ensures.value ∙ c.in-Some.is))
