use Rattle.std.proofs.Common.{◌≡◌, None, Option, subst}
use Rattle.std.specs.Prelude.{IfNone}
use Rattle.q_message.specs.Told.{TellsOf}
use Rattle.q_message.specs.declared.error.MessageError.TheVariants.{NotAMessage}
use Rattle.q_model.specs.QueueFile.{queue_file}
use Rattle.q_model.specs.Values.{FileHead}
use Rattle.q_engine.proofs.OutcomeArms.{bare_found, found_offset}
use Rattle.q_engine.proofs.Unread.{err_same, if_none, not_unread, unless_none}
use Rattle.q_engine.proofs.marking.mark_offset.Goals as goal

pub returns-in_default-2-clause-found : goal.returns-in_default-2-clause-found
returns-in_default-2-clause-found g c t =
    let v = g.H.Host.view c.args.host.now in
    let has = c.requires.bare t in
    let none = subst (λ (o : Option FileHead). IfNone o (TellsOf g.H.Host.tells v c.args.spot (λ bytes. queue_file bytes ≡ None))) c.in_default-2.is c.in_ok-head.ensures.none in
    not_unread v has.book has.id has.message c.args.spot has.host has.file (none t)

pub returns-in-Ok-clause-offset : goal.returns-in-Ok-clause-offset
returns-in-Ok-clause-offset g c =
    let v = g.H.Host.view c.args.host.now in
    let m = g.H.Host.view c.head_at.new.host in
    found_offset g.H.Host.tells c.args.kept v m.files c.args.spot c.args.position c.in-Ok.found (λ t. (c.in_ok-head.ensures.stays t).files) c.in-Ok.ensures.mark

pub returns-in-Ok-clause-found : goal.returns-in-Ok-clause-found
returns-in-Ok-clause-found g c =
    let v = g.H.Host.view c.args.host.now in
    let m = g.H.Host.view c.head_at.new.host in
    if_none c.in-Ok.found _ (λ none t. bare_found v m.files c.args.spot c.args.position c.in-Ok.found (c.in_ok-head.ensures.stays t).files (c.requires.bare t) (c.in-Ok.ensures.mark t) none)

pub returns-in-Err-clause-offset : goal.returns-in-Err-clause-offset
returns-in-Err-clause-offset g c = unless_none c.unless_damaged.result c.in-Err.error _ c.unless_damaged.ensures (λ place is. tt)

pub returns-in-Err-clause-found : goal.returns-in-Err-clause-found
returns-in-Err-clause-found g c =
    unless_none c.unless_damaged.result c.in-Err.error _ c.unless_damaged.ensures (λ place is. c.mark_place.ensures.no_message place (err_same c.mark_place.result c.in-Err.error (NotAMessage place) c.in-Err.is is))
