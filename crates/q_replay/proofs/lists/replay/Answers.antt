use Rattle.q_host.proofs.Stays.{stays_here}
use Rattle.std.proofs.Common.{◌≡◌, ◌∙◌, ap, arith, false, refl, None, Option, Some, subst, sym, true, ℕ}
use Rattle.std.specs.Prelude.{Err, is_none, Result, IfErr, IfSome}
use Rattle.q_books.specs.HostStands.{TellsCrashes}
use Rattle.q_engine.specs.declared.engine.Engine.{Engine}
use Rattle.q_events.specs.Readings.{is_list_end}
use Rattle.q_events.specs.declared.error.EventError.{EventError}
use Rattle.q_events.specs.States.{EventsState, unread_list}
use Rattle.q_lines.specs.States.{text_left}
use Rattle.q_model.specs.FaultCounts.{Rose}
use Rattle.q_model.specs.Ledger.{opening}
use Rattle.q_model.specs.declared.event.Mode.TheVariants.{Deliver}
use Rattle.q_replay.specs.Named.{BlamesItem, BlamesList, IsNamed}
use Rattle.q_replay.specs.Listings.{listing_of}
use Rattle.q_replay.specs.ReplayEnds.{ReplayEnds}
use Rattle.q_replay.specs.Takings.{list_error, NotTaken, ReplayCause, TookItem, is_unreadable}
use Rattle.q_replay.specs.declared.error.ReplayError.{ReplayError}
use Rattle.q_replay.specs.declared.error.ReplayError.TheVariants as errors
use Rattle.q_replay.specs.AnyLists.{TakesList}
use Rattle.q_replay.proofs.AnyLists.{has_bound, list_done, list_unbegun, list_unread, list_untaken}
use Rattle.q_replay.proofs.FaultyLines.{all_left, each_text, IsRestOf, line_bad, line_refused, line_unbegun, rest_on}
use Rattle.q_replay.proofs.Named.{list_named, named_begins}
use Rattle.q_replay.proofs.Readings.{ledger_on}
use Rattle.q_replay.proofs.Replaying.{delivers, ends_done, ends_unbegun, ends_unread, ends_untaken, for_each, for_text, IsGivenTo, may_begin, passed_as, same_new, some_given, went_begins, went_on}
use Rattle.q_replay.proofs.Submitting.{cause_on, own_error}
use Rattle.q_replay.proofs.DamagedSpools.{none_only, only_passed, refused_passed, unread_only, untaken_only}
use Rattle.q_replay.proofs.Readable.{list_readable}
use Rattle.q_replay.proofs.lists.replay.Goals as goal

pub loop-item-init : goal.loop-item-init
loop-item-init g c =
    let u = g.H.Host.view c.args.host.now in
    let text = g.S.Source.left c.args.source.now in
    let new : c.in-Ok.events ≡ unread_list = same_new c.new.result c.in-Ok.events c.in-Ok.is c.new.ensures in
    let lawful : TellsCrashes u = record { only = g.met.H.Host.only_now c.args.host.now; told = g.met.H.Host.told_stays c.args.host.now } in
    record {
      went = λ t w b given. went_begins w b u lawful given.host text c.in-Ok.events c.in_ok-engine.engine (g.H.Host.view c.begin_life.new.host) new (c.in_ok-engine.ensures.ok t w (opening Deliver b) (may_begin c.args.params c.args.table Deliver w b u given));
      rest = all_left c.in-Ok.events text new;
      some = λ t. some_given c.args.params c.args.table u (c.requires.spool t) (c.in_ok-engine.ensures.undamaged t);
      whole = c.in_ok-engine.ensures.undamaged;
      ready = c.in_ok-engine.ensures.ready;
      going = ap (λ (e : EventsState). e.ended) new;
      disk_later = omega (arith, c.begin_life.ensures.cause.disk_later);
      tell_later = omega (arith, c.begin_life.ensures.cause.tell_later);
      faultless = refl;
    }

pub take-requires-clause-stands : goal.take-requires-clause-stands
take-requires-clause-stands g c t =
    let old = c.loop-item in
    let (w, b, given) = old.invariant.some t in
    let went = old.invariant.went t w b given in
    (w, ledger_on w Deliver b went.items, went.stands)

pub loop-item-preserved : goal.loop-item-preserved
loop-item-preserved g c =
    let old = c.loop-item in
    let view = g.H.Host.view in
    let left = g.S.Source.left in
    let item = c.in-Ok-read_event.item in
    let more : is_list_end item ≡ false = sym c.in_ok-next.ensures.ended ∙ ap is_none c.in-Some.is in
    record {
      went = λ t w b given.
          let went = old.invariant.went t w b given in
          let l = ledger_on w Deliver b went.items in
          let took : TookItem w l item (Some c.in-Some.next) (view old.host) (view c.take.new.host) =
          subst (λ (o : Option Engine). TookItem w l item o (view old.host) (view c.take.new.host)) c.in-Some.is (c.in_ok-next.ensures.ok t w l went.stands given.settings (delivers w b went.items)) in
          went_on w b (text_left old.events.buffered (left old.source)) old.events old.invariant.going old.engine (view c.args.host.now) (view old.host) (left c.args.source.now)
          (text_left c.read_event.new.self.buffered (left c.read_event.new.source)) c.read_event.new.self c.in-Some.next (view c.take.new.host) item c.in-Ok-read_event.ensures.form went c.in-Ok-read_event.ensures.exact more took;
      rest = each_text (λ bytes. IsRestOf bytes old.events (text_left old.events.buffered (left old.source))) (λ bytes. IsRestOf bytes c.read_event.new.self (text_left c.read_event.new.self.buffered (left c.read_event.new.source))) (left c.args.source.now)
          (λ bytes h. rest_on bytes old.events (text_left old.events.buffered (left old.source)) old.invariant.going c.read_event.new.self (text_left c.read_event.new.self.buffered (left c.read_event.new.source)) (left c.read_event.new.source) item c.in-Ok-read_event.ensures.exact h) old.invariant.rest;
      some = old.invariant.some;
      whole = old.invariant.whole;
      ready = rw c.in-Some.is at c.in_ok-next.ensures.ready;
      going = c.in-Ok-read_event.ensures.ended ∙ more;
      disk_later = omega (arith, old.invariant.disk_later, c.take.ensures.cause.disk_later);
      tell_later = omega (arith, old.invariant.tell_later, c.take.ensures.cause.tell_later);
      faultless = c.in-Ok-read_event.ensures.faultless ∙ old.invariant.faultless;
    }

pub returns-in_err-engine-clause-ends : goal.returns-in_err-engine-clause-ends
returns-in_err-engine-clause-ends g c t b h orderly w settings table_is =
    let u = g.H.Host.view c.args.host.now in
    let x = g.H.Host.view c.begin_life.new.host in
    let left = g.S.Source.left c.args.source.now in
    let given : IsGivenTo c.args.params c.args.table w b u = record { host = h; orderly = orderly; settings = settings; table_is = table_is } in
    let lawful : TellsCrashes u = record { only = g.met.H.Host.only_now c.args.host.now; told = g.met.H.Host.told_stays c.args.host.now } in
    for_each _ (λ bytes. passed_as c.from_residual.result c.in_err-engine.field-0.0 (ReplayEnds w b bytes left u x) c.from_residual.ensures.1
    (ends_unbegun w b u lawful h bytes left x c.in_err-engine.field-0.0 (c.in_err-engine.ensures.err t w (opening Deliver b) (may_begin c.args.params c.args.table Deliver w b u given)))) left

pub returns-in_err-engine-clause-lists : goal.returns-in_err-engine-clause-lists
returns-in_err-engine-clause-lists g c t b h orderly w settings table_is =
    let u = g.H.Host.view c.args.host.now in
    let x = g.H.Host.view c.begin_life.new.host in
    let given : IsGivenTo c.args.params c.args.table w b u = record { host = h; orderly = orderly; settings = settings; table_is = table_is } in
    let lawful : TellsCrashes u = record { only = g.met.H.Host.only_now c.args.host.now; told = g.met.H.Host.told_stays c.args.host.now } in
    passed_as c.from_residual.result c.in_err-engine.field-0.0 (TakesList w b u x) c.from_residual.ensures.1
    (list_unbegun w b u x lawful h c.in_err-engine.field-0.0 (c.in_err-engine.ensures.err t w (opening Deliver b) (may_begin c.args.params c.args.table Deliver w b u given)))

pub returns-in-Err-clause-lists : goal.returns-in-Err-clause-lists
returns-in-Err-clause-lists g c t b h orderly w settings table_is =
    let old = c.loop-item in
    let view = g.H.Host.view in
    let u = view c.args.host.now in
    let given : IsGivenTo c.args.params c.args.table w b u = record { host = h; orderly = orderly; settings = settings; table_is = table_is } in
    let went = old.invariant.went t w b given in
    let bound = has_bound old.events (text_left old.events.buffered (g.S.Source.left old.source)) c.read_event.new.self (text_left c.read_event.new.self.buffered (g.S.Source.left c.read_event.new.source)) (g.S.Source.left c.read_event.new.source) c.in-Err.error c.in-Err.ensures.exact in
    rw c.list_error.ensures.exact (list_unread w b went.items went.listed u (view old.host) went.told c.in-Err.error bound)

pub returns-in_err-next-clause-lists : goal.returns-in_err-next-clause-lists
returns-in_err-next-clause-lists g c t b h orderly w settings table_is =
    let old = c.loop-item in
    let view = g.H.Host.view in
    let u = view c.args.host.now in
    let given : IsGivenTo c.args.params c.args.table w b u = record { host = h; orderly = orderly; settings = settings; table_is = table_is } in
    let went = old.invariant.went t w b given in
    let l = ledger_on w Deliver b went.items in
    let error = c.in_err-next.field-0.0 in
    let up : NotTaken w l c.in-Ok-read_event.item c.lines.result error (view old.host) (view c.take.new.host) = c.in_err-next.ensures.err t w l went.stands given.settings (delivers w b went.items) in
    passed_as c.from_residual-in_err-next.result error (TakesList w b u (view c.take.new.host)) c.from_residual-in_err-next.ensures.1
    (list_untaken w b went.items went.listed u (view old.host) (view c.take.new.host) went.told c.in-Ok-read_event.item c.lines.result error c.in-Ok-read_event.ensures.form up)

pub returns-in-None-clause-lists : goal.returns-in-None-clause-lists
returns-in-None-clause-lists g c t b h orderly w settings table_is =
    let old = c.loop-item in
    let view = g.H.Host.view in
    let u = view c.args.host.now in
    let item = c.in-Ok-read_event.item in
    let given : IsGivenTo c.args.params c.args.table w b u = record { host = h; orderly = orderly; settings = settings; table_is = table_is } in
    let went = old.invariant.went t w b given in
    let l = ledger_on w Deliver b went.items in
    let last : is_list_end item ≡ true = sym c.in_ok-next.ensures.ended ∙ ap is_none c.in-None.is in
    let took : TookItem w l item None (view old.host) (view c.take.new.host) =
    subst (λ (o : Option Engine). TookItem w l item o (view old.host) (view c.take.new.host)) c.in-None.is (c.in_ok-next.ensures.ok t w l went.stands given.settings (delivers w b went.items)) in
    list_done w b went.items went.listed u (view old.host) (view c.take.new.host) went.told item 0 tt c.in-Ok-read_event.ensures.form last took

pub returns-in-Err-clause-ends : goal.returns-in-Err-clause-ends
returns-in-Err-clause-ends g c t b h orderly w settings table_is =
    let old = c.loop-item in
    let view = g.H.Host.view in
    let left = g.S.Source.left in
    let u = view c.args.host.now in
    let given : IsGivenTo c.args.params c.args.table w b u = record { host = h; orderly = orderly; settings = settings; table_is = table_is } in
    let went = old.invariant.went t w b given in
    let at = text_left old.events.buffered (left old.source) in
    for_text w b (left c.args.source.now) at old.events old.engine u (view old.host) _ went (λ bytes so.
    rw c.list_error.ensures.exact (ends_unread w b at old.events old.invariant.going old.engine u (view old.host) bytes went.items went.told so c.read_event.new.self (text_left c.read_event.new.self.buffered (left c.read_event.new.source)) (left c.read_event.new.source)
    c.in-Err.error c.in-Err.ensures.exact))

pub returns-in_err-next-clause-ends : goal.returns-in_err-next-clause-ends
returns-in_err-next-clause-ends g c t b h orderly w settings table_is =
    let old = c.loop-item in
    let view = g.H.Host.view in
    let left = g.S.Source.left in
    let u = view c.args.host.now in
    let given : IsGivenTo c.args.params c.args.table w b u = record { host = h; orderly = orderly; settings = settings; table_is = table_is } in
    let went = old.invariant.went t w b given in
    let at = text_left old.events.buffered (left old.source) in
    let l = ledger_on w Deliver b went.items in
    let error = c.in_err-next.field-0.0 in
    let events' = c.read_event.new.self in
    let up : NotTaken w l c.in-Ok-read_event.item events'.lines error (view old.host) (view c.take.new.host) =
    subst (λ n. NotTaken w l c.in-Ok-read_event.item n error (view old.host) (view c.take.new.host)) c.lines.ensures (c.in_err-next.ensures.err t w l went.stands given.settings (delivers w b went.items)) in
    for_text w b (left c.args.source.now) at old.events old.engine u (view old.host) _ went (λ bytes so.
    passed_as c.from_residual-in_err-next.result error (ReplayEnds w b bytes (left c.read_event.new.source) u (view c.take.new.host)) c.from_residual-in_err-next.ensures.1
    (ends_untaken w b at old.events old.invariant.going old.engine u (view old.host) bytes went.items went.told so (text_left events'.buffered (left c.read_event.new.source)) (left c.read_event.new.source) events' c.in-Ok-read_event.item (view c.take.new.host) error c.in-Ok-read_event.ensures.exact up))

pub returns-in-None-clause-ends : goal.returns-in-None-clause-ends
returns-in-None-clause-ends g c t b h orderly w settings table_is =
    let old = c.loop-item in
    let view = g.H.Host.view in
    let left = g.S.Source.left in
    let u = view c.args.host.now in
    let item = c.in-Ok-read_event.item in
    let given : IsGivenTo c.args.params c.args.table w b u = record { host = h; orderly = orderly; settings = settings; table_is = table_is } in
    let went = old.invariant.went t w b given in
    let at = text_left old.events.buffered (left old.source) in
    let l = ledger_on w Deliver b went.items in
    let events' = c.read_event.new.self in
    let last : is_list_end item ≡ true = sym c.in_ok-next.ensures.ended ∙ ap is_none c.in-None.is in
    let took : TookItem w l item None (view old.host) (view c.take.new.host) =
    subst (λ (o : Option Engine). TookItem w l item o (view old.host) (view c.take.new.host)) c.in-None.is (c.in_ok-next.ensures.ok t w l went.stands given.settings (delivers w b went.items)) in
    for_text w b (left c.args.source.now) at old.events old.engine u (view old.host) _ went (λ bytes so.
    ends_done w b at old.events old.invariant.going old.engine u (view old.host) bytes went.items went.told so (text_left events'.buffered (left c.read_event.new.source)) (left c.read_event.new.source) events' item (view c.take.new.host) tt c.in-Ok-read_event.ensures.exact last took)

pub returns-in-Err-clause-cause : goal.returns-in-Err-clause-cause
returns-in-Err-clause-cause g c =
    let old = c.loop-item in
    record {
      disk_later = old.invariant.disk_later;
      tell_later = old.invariant.tell_later;
      disk = λ is. absurd (c.list_error.ensures.no_disk (own_error c.list_error.result errors.Disk is));
      tell = λ is. absurd (c.list_error.ensures.no_tell (own_error c.list_error.result errors.Tell is));
    }

pub returns-in_default-clause-damaged : goal.returns-in_default-clause-damaged
returns-in_default-clause-damaged g c t area name damage = (tt, stays_here (g.H.Host.view c.args.host.now))

pub returns-in_err-engine-clause-damaged : goal.returns-in_err-engine-clause-damaged
returns-in_err-engine-clause-damaged g c t area name damage =
    let v = g.H.Host.view c.args.host.now in
    refused_passed v (g.H.Host.view c.begin_life.new.host) area name c.from_residual.result c.in_err-engine.field-0.0 c.from_residual.ensures.1 (c.in_err-engine.ensures.damaged t area name damage)

pub returns-in_err-engine-clause-only_damaged : goal.returns-in_err-engine-clause-only_damaged
returns-in_err-engine-clause-only_damaged g c t =
    only_passed (g.H.Host.view c.begin_life.new.host) c.from_residual.result c.in_err-engine.field-0.0 c.from_residual.ensures.1 (c.in_err-engine.ensures.only_damaged t)

pub returns-in-Err-clause-damaged : goal.returns-in-Err-clause-damaged
returns-in-Err-clause-damaged g c t area name damage = absurd (c.loop-item.invariant.whole t area name damage)

pub returns-in-Err-clause-only_damaged : goal.returns-in-Err-clause-only_damaged
returns-in-Err-clause-only_damaged g c t = rw c.list_error.ensures.exact (unread_only (g.H.Host.view c.loop-item.host) c.in-Err.error)

pub returns-in_err-next-clause-damaged : goal.returns-in_err-next-clause-damaged
returns-in_err-next-clause-damaged g c t area name damage = absurd (c.loop-item.invariant.whole t area name damage)

pub returns-in_err-next-clause-only_damaged : goal.returns-in_err-next-clause-only_damaged
returns-in_err-next-clause-only_damaged g c t =
    let old = c.loop-item in
    let (w, b, given) = old.invariant.some t in
    let went = old.invariant.went t w b given in
    let error = c.in_err-next.field-0.0 in
    only_passed {S = Unit {0}} (g.H.Host.view c.take.new.host) c.from_residual-in_err-next.result error c.from_residual-in_err-next.ensures.1
    (untaken_only {T = Unit {0}} w (ledger_on w Deliver b went.items) c.in-Ok-read_event.item c.lines.result error (g.H.Host.view old.host) (g.H.Host.view c.take.new.host) (c.in_err-next.ensures.err t w (ledger_on w Deliver b went.items) went.stands given.settings (delivers w b went.items)))

pub returns-in-None-clause-damaged : goal.returns-in-None-clause-damaged
returns-in-None-clause-damaged g c t area name damage = absurd (c.loop-item.invariant.whole t area name damage)

pub returns-in-None-clause-only_damaged : goal.returns-in-None-clause-only_damaged
returns-in-None-clause-only_damaged g c t = none_only (g.H.Host.view c.take.new.host) tt

pub returns-in-Err-clause-source : goal.returns-in-Err-clause-source
returns-in-Err-clause-source g c is =
    let old = c.loop-item in
    let same = own_error c.list_error.result errors.Source is in
    subst (λ (n : ℕ). Rose n (g.S.Source.faults c.read_event.new.source)) old.invariant.faultless
    (c.in-Err.ensures.source (ap (λ (e : EventError). Err e) (c.list_error.ensures.source same)))

pub returns-in_err-next-clause-cause : goal.returns-in_err-next-clause-cause
returns-in_err-next-clause-cause g c =
    let old = c.loop-item in
    let a = g.H.Host.faults c.args.host.now in
    let d = g.H.Host.faults c.take.new.host in
    let error = c.in_err-next.field-0.0 in
    passed_as c.from_residual-in_err-next.result error (λ (r : Result (Unit {0}) ReplayError). ReplayCause a d r) c.from_residual-in_err-next.ensures.1
    (cause_on a (g.H.Host.faults old.host) d error old.invariant.disk_later old.invariant.tell_later c.in_err-next.ensures.cause)

pub returns-in_err-engine-clause-readable : goal.returns-in_err-engine-clause-readable
returns-in_err-engine-clause-readable g c t =
    passed_as c.from_residual.result c.in_err-engine.field-0.0 (λ (r : Result (Unit {0}) ReplayError). IfErr r (λ error. is_unreadable error ≡ false)) c.from_residual.ensures.1 (c.in_err-engine.ensures.readable t)

pub returns-in_err-next-clause-readable : goal.returns-in_err-next-clause-readable
returns-in_err-next-clause-readable g c t =
    passed_as c.from_residual-in_err-next.result c.in_err-next.field-0.0 (λ (r : Result (Unit {0}) ReplayError). IfErr r (λ error. is_unreadable error ≡ false)) c.from_residual-in_err-next.ensures.1 (c.in_err-next.ensures.readable t)

pub returns-in-Err-clause-readable : goal.returns-in-Err-clause-readable
returns-in-Err-clause-readable g c t = rw c.list_error.ensures.exact (list_readable c.in-Err.error)

pub returns-in_err-engine-clause-named : goal.returns-in_err-engine-clause-named
returns-in_err-engine-clause-named g c =
    passed_as c.from_residual.result c.in_err-engine.field-0.0 (λ (r : Result (Unit {0}) ReplayError). IfErr r IsNamed) c.from_residual.ensures.1 (named_begins c.in_err-engine.field-0.0 c.in_err-engine.ensures.named)

pub returns-in_err-next-clause-named : goal.returns-in_err-next-clause-named
returns-in_err-next-clause-named g c =
    passed_as c.from_residual-in_err-next.result c.in_err-next.field-0.0 (λ (r : Result (Unit {0}) ReplayError). IfErr r IsNamed) c.from_residual-in_err-next.ensures.1 (c.in_err-next.ensures.named)

pub returns-in-Err-clause-named : goal.returns-in-Err-clause-named
returns-in-Err-clause-named g c =
    let old = c.loop-item in
    let bound = has_bound old.events (text_left old.events.buffered (g.S.Source.left old.source)) c.read_event.new.self (text_left c.read_event.new.self.buffered (g.S.Source.left c.read_event.new.source)) (g.S.Source.left c.read_event.new.source) c.in-Err.error c.in-Err.ensures.exact in
    rw c.list_error.ensures.exact (list_named c.in-Err.error bound)

pub returns-in_err-engine-clause-line : goal.returns-in_err-engine-clause-line
returns-in_err-engine-clause-line g c =
    let text = g.S.Source.left c.args.source.now in
    passed_as c.from_residual.result c.in_err-engine.field-0.0 (λ (r : Result (Unit {0}) ReplayError). IfErr r (λ error. IfSome text (λ bytes. BlamesList (listing_of bytes) error))) c.from_residual.ensures.1
    (line_unbegun text c.in_err-engine.field-0.0 c.in_err-engine.ensures.named)

pub returns-in_err-next-clause-line : goal.returns-in_err-next-clause-line
returns-in_err-next-clause-line g c =
    let old = c.loop-item in
    let left = g.S.Source.left in
    let text = left c.args.source.now in
    let error = c.in_err-next.field-0.0 in
    let item = c.in-Ok-read_event.item in
    let blamed = subst (λ (n : ℕ). BlamesItem item n error) c.lines.ensures c.in_err-next.ensures.bad in
    passed_as c.from_residual-in_err-next.result error (λ (r : Result (Unit {0}) ReplayError). IfErr r (λ error. IfSome text (λ bytes. BlamesList (listing_of bytes) error))) c.from_residual-in_err-next.ensures.1
    (each_text (λ bytes. IsRestOf bytes old.events (text_left old.events.buffered (left old.source))) (λ bytes. BlamesList (listing_of bytes) error) text
    (λ bytes h. line_refused bytes old.events (text_left old.events.buffered (left old.source)) old.invariant.going c.read_event.new.self (text_left c.read_event.new.self.buffered (left c.read_event.new.source)) (left c.read_event.new.source) item error c.in-Ok-read_event.ensures.exact h blamed) old.invariant.rest)

pub returns-in-Err-clause-line : goal.returns-in-Err-clause-line
returns-in-Err-clause-line g c =
    let old = c.loop-item in
    let left = g.S.Source.left in
    let text = left c.args.source.now in
    let error = c.in-Err.error in
    rw c.list_error.ensures.exact (each_text (λ bytes. IsRestOf bytes old.events (text_left old.events.buffered (left old.source))) (λ bytes. BlamesList (listing_of bytes) (list_error error)) text
    (λ bytes h. line_bad bytes old.events (text_left old.events.buffered (left old.source)) old.invariant.going c.read_event.new.self (text_left c.read_event.new.self.buffered (left c.read_event.new.source)) (left c.read_event.new.source) error c.in-Err.ensures.exact h) old.invariant.rest)

pub returns-in-None-clause-faultless : goal.returns-in-None-clause-faultless
returns-in-None-clause-faultless g c = c.in-Ok-read_event.ensures.faultless ∙ c.loop-item.invariant.faultless
