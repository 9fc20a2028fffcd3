use Rattle.std.proofs.Common.{[], ap, List, not, Option, subst, sym}
use Rattle.std.specs.Prelude.{IfSome}
use Rattle.q_books.proofs.Joining.{reads_keep}
use Rattle.q_books.proofs.Results.{if_ok}
use Rattle.q_books.specs.HostStands.{TellsCrashes}
use Rattle.q_host.proofs.Stays.{stays_on}
use Rattle.q_model.specs.Lists.{has_none}
use Rattle.q_model.specs.declared.rows.Place.{Place}
use Rattle.q_super.specs.Deeds.{Deed, deeds_of}
use Rattle.q_super.specs.Finding.{IsFoundAt, IsSource, standing}
use Rattle.q_super.specs.Plays.{PlaysDeeds}
use Rattle.q_super.proofs.ExpiredMessages.{nothing_done}
use Rattle.q_super.proofs.Playing.{halts_behind, plays_then, reads_halt, reads_play}
use Rattle.q_super.proofs.Taken.{file_of_book}
use Rattle.q_super.proofs.acting.act_by_id.Goals as goal

pub act_on-requires : goal.act_on-requires
act_on-requires g c = subst (λ (o : Option Place). IfSome o (IsSource c.args.act c.args.id)) c.in-Some.is c.in_ok-place.ensures.source

pub returns-in_err-place-clause-err : goal.returns-in_err-place-clause-err
returns-in_err-place-clause-err g c error is t b h rest =
    let u = g.H.Host.view c.args.host.now in
    let lawful : TellsCrashes u = (record { only = g.met.H.Host.only_now c.args.host.now; told = g.met.H.Host.told_stays c.args.host.now }) in
    reads_halt b (deeds_of c.args.act c.args.id b) error u (g.H.Host.view c.place_of.new.host) lawful (c.place_of.ensures.stays t) h

pub returns-in_default-clause-ok : goal.returns-in_default-clause-ok
returns-in_default-clause-ok g c t b h rest =
    let u = g.H.Host.view c.args.host.now in
    let v = g.H.Host.view c.place_of.new.host in
    let lawful : TellsCrashes u = (record { only = g.met.H.Host.only_now c.args.host.now; told = g.met.H.Host.told_stays c.args.host.now }) in
    let found = subst (λ (o : Option Place). IsFoundAt u.files c.args.act c.args.id o) c.in_default.is (c.in_ok-place.ensures.found t) in
    let none = nothing_done u.files c.args.act b c.args.id h.reads found in
    (sym (ap (λ (ds : List Deed). not (has_none ds)) none), subst (λ (ds : List Deed). PlaysDeeds b ds u v) (sym none) (reads_play b u v lawful (c.in_ok-place.ensures.stays t) h))

pub returns-clause-ok : goal.returns-clause-ok
returns-clause-ok g c = if_ok c.act_on.result (λ done k t b h rest.
    let u = g.H.Host.view c.args.host.now in
    let v = g.H.Host.view c.place_of.new.host in
    let w = g.H.Host.view c.act_on.new.host in
    let lawful : TellsCrashes u = (record { only = g.met.H.Host.only_now c.args.host.now; told = g.met.H.Host.told_stays c.args.host.now }) in
    let st = c.in_ok-place.ensures.stays t in
    let place = c.in-Some.place in
    let source = subst (λ (o : Option Place). IfSome o (IsSource c.args.act c.args.id)) c.in-Some.is c.in_ok-place.ensures.source in
    let found = subst (λ (o : Option Place). IsFoundAt u.files c.args.act c.args.id o) c.in-Some.is (c.in_ok-place.ensures.found t) in
    let there = file_of_book u.files b h.reads (standing c.args.id place) source.form source.fits found in
    let both = k t b (reads_keep b b u v lawful st h).stands rest there in
    (both.0, plays_then b [] (deeds_of c.args.act c.args.id b) u v w (reads_play b u v lawful st h) both.1)) c.act_on.ensures.ok

pub returns-clause-none : goal.returns-clause-none
returns-clause-none g c = if_ok c.act_on.result (λ done k no t. stays_on (g.H.Host.view c.args.host.now) (g.H.Host.view c.place_of.new.host) (g.H.Host.view c.act_on.new.host) (c.in_ok-place.ensures.stays t) (k no t)) c.act_on.ensures.none

pub returns-clause-err : goal.returns-clause-err
returns-clause-err g c error is t b h rest =
    let u = g.H.Host.view c.args.host.now in
    let v = g.H.Host.view c.place_of.new.host in
    let w = g.H.Host.view c.act_on.new.host in
    let lawful : TellsCrashes u = (record { only = g.met.H.Host.only_now c.args.host.now; told = g.met.H.Host.told_stays c.args.host.now }) in
    let st = c.in_ok-place.ensures.stays t in
    let place = c.in-Some.place in
    let source = subst (λ (o : Option Place). IfSome o (IsSource c.args.act c.args.id)) c.in-Some.is c.in_ok-place.ensures.source in
    let found = subst (λ (o : Option Place). IsFoundAt u.files c.args.act c.args.id o) c.in-Some.is (c.in_ok-place.ensures.found t) in
    let there = file_of_book u.files b h.reads (standing c.args.id place) source.form source.fits found in
    halts_behind b [] (deeds_of c.args.act c.args.id b) error u v w (reads_play b u v lawful st h) (c.act_on.ensures.err error is t b (reads_keep b b u v lawful st h).stands rest there)
