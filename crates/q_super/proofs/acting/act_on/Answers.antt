use Rattle.std.proofs.Common.{◌∙◌, ap, List, not, subst, sym, ℕ}
use Rattle.q_books.proofs.Results.{if_ok}
use Rattle.q_model.specs.Lists.{has_none}
use Rattle.q_model.specs.declared.rows.Place.{Place}
use Rattle.q_super.specs.Acts.{word_of}
use Rattle.q_super.specs.Deeds.{Deed, moving}
use Rattle.q_super.specs.Finding.{IsSource}
use Rattle.q_super.specs.Moves.{MayMove}
use Rattle.q_super.specs.Plays.{HaltsDeeds, PlaysDeeds}
use Rattle.q_super.specs.declared.acts.Act.{Act}
use Rattle.q_super.proofs.ExpiredMessages.{expire_deeds, expired_counts, moving_deeds}
use Rattle.q_super.proofs.MaySteps.{takes_moves}
use Rattle.q_super.proofs.acting.act_on.Goals as goal

pub expire-requires : goal.expire-requires
expire-requires g c = subst (λ (a : Act). IsSource a c.args.file.id c.args.file.place) c.in-Expire.is c.requires

pub move_told-requires : goal.move_told-requires
move_told-requires g c = subst (λ (to : Place). MayMove c.args.file to) (sym c.goal_of.ensures) (record { form = c.requires.form; place = c.requires.fits; allowed = takes_moves c.args.act c.args.file.place c.requires.from })

pub returns-in-Expire-clause-ok : goal.returns-in-Expire-clause-ok
returns-in-Expire-clause-ok g c = if_ok c.expire.result (λ done k t b h rest there.
    let e = expire_deeds c.args.act b c.args.file c.in-Expire.is c.requires.from there in
    let both = k t b h rest there in
    (both.0 ∙ expired_counts b c.args.file.id ∙ sym (ap (λ (ds : List Deed). not (has_none ds)) e), subst (λ (ds : List Deed). PlaysDeeds b ds (g.H.Host.view c.args.host.now) (g.H.Host.view c.expire.new.host)) (sym e) both.1)) c.expire.ensures.ok

pub returns-in-Expire-clause-err : goal.returns-in-Expire-clause-err
returns-in-Expire-clause-err g c error is t b h rest there =
    subst (λ (ds : List Deed). HaltsDeeds b ds error (g.H.Host.view c.args.host.now) (g.H.Host.view c.expire.new.host)) (sym (expire_deeds c.args.act b c.args.file c.in-Expire.is c.requires.from there)) (c.expire.ensures.err error is t b h rest there)

pub returns-in_default-clause-ok : goal.returns-in_default-clause-ok
returns-in_default-clause-ok g c = if_ok c.move_told.result (λ moved k t b h rest there.
    let u = g.H.Host.view c.args.host.now in
    let w = g.H.Host.view c.move_told.new.host in
    let id = c.args.file.id in
    let e = moving_deeds c.args.act b c.args.file c.in_default.not-Expire c.requires.from there in
    let both = k t b h there in
    let plays = subst (λ (word : List ℕ). PlaysDeeds b (moving word c.goal_of.result id) u w) c.word_of.ensures both.1 in
    (both.0 ∙ sym (ap (λ (ds : List Deed). not (has_none ds)) e), subst (λ (ds : List Deed). PlaysDeeds b ds u w) (sym e) (subst (λ (to : Place). PlaysDeeds b (moving (word_of c.args.act) to id) u w) c.goal_of.ensures plays))) c.move_told.ensures.ok

pub returns-in_default-clause-none : goal.returns-in_default-clause-none
returns-in_default-clause-none g c = if_ok c.move_told.result (λ moved k no t. (k no t).1) c.move_told.ensures.gone

pub returns-in_default-clause-err : goal.returns-in_default-clause-err
returns-in_default-clause-err g c error is t b h rest there =
    let u = g.H.Host.view c.args.host.now in
    let w = g.H.Host.view c.move_told.new.host in
    let id = c.args.file.id in
    let e = moving_deeds c.args.act b c.args.file c.in_default.not-Expire c.requires.from there in
    let halts = subst (λ (word : List ℕ). HaltsDeeds b (moving word c.goal_of.result id) error u w) c.word_of.ensures (c.move_told.ensures.err error is t b h there) in
    subst (λ (ds : List Deed). HaltsDeeds b ds error u w) (sym e) (subst (λ (to : Place). HaltsDeeds b (moving (word_of c.args.act) to id) error u w) c.goal_of.ensures halts)
