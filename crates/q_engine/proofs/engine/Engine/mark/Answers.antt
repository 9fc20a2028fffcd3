use Rattle.std.proofs.Common.{◌≤◌, IsTrue, Option, arith, length, refl, subst, sym, ℕ}
use Rattle.std.specs.Option.{IsSomeAnd}
use Rattle.std.specs.Prelude.{IfNone}
use Rattle.q_books.proofs.Joining.{kept_takes, kept_tries, reads_keep, reads_try}
use Rattle.q_books.specs.HostStands.{TellsCrashes}
use Rattle.q_core.specs.declared.decision.Decision.TheVariants as decisions
use Rattle.q_model.specs.SpoolFiles.{Files}
use Rattle.q_model.specs.Step.{change}
use Rattle.q_model.specs.declared.entry.Entry.TheVariants as entries
use Rattle.q_model.specs.declared.entry.Entry.{Entry}
use Rattle.q_model.specs.declared.rows.Place.TheVariants as places
use Rattle.q_engine.specs.Stands.{HasDecided}
use Rattle.q_engine.proofs.CarriedOut.{carried_behind, decided_fewer, given_up_behind, refused}
use Rattle.q_engine.proofs.OutcomeArms.{mark_changes, mark_fits, mark_has_bare, mark_is_at, mark_there, offset_at}
use Rattle.q_engine.proofs.Stopping.{disk_stopped, host_readable, ok_stop, same_host, stop_later, tell_stopped, unreadable_apart, unreadable_stop}
use Rattle.q_engine.proofs.StoredNotes.{files_keep, keeps_then, no_log_spot, plain_told}
use Rattle.q_engine.proofs.engine.Engine.mark.Goals as goal

pub mark_offset-requires-clause-there : goal.mark_offset-requires-clause-there
mark_offset-requires-clause-there g c t =
    let (w, l, n) = c.requires t in
    let engine = c.args.self.now in
    let v = g.H.Host.view c.args.host.now in
    let h = subst (λ (x : Entry). HasDecided w l (decisions.Mark c.args.id c.args.position) x engine v) n.1.of n.1 in
    mark_there w l c.args.id c.args.position engine v h c.file_spot-spot.result c.file_spot-spot.ensures

pub mark_offset-requires-clause-bare : goal.mark_offset-requires-clause-bare
mark_offset-requires-clause-bare g c t =
    let (w, l, n) = c.requires t in
    let engine = c.args.self.now in
    let v = g.H.Host.view c.args.host.now in
    let h = subst (λ (x : Entry). HasDecided w l (decisions.Mark c.args.id c.args.position) x engine v) n.1.of n.1 in
    mark_has_bare w l c.args.id c.args.position engine v h c.file_spot-spot.result c.file_spot-spot.ensures

pub returns-in_err-at-clause-err : goal.returns-in_err-at-clause-err
returns-in_err-at-clause-err g c error is t w l n =
    let d = decisions.Mark c.args.id c.args.position in
    let e = entries.Mark c.args.id c.args.position in
    let engine = c.args.self.now in
    let v = g.H.Host.view c.args.host.now in
    let m = g.H.Host.view c.mark_offset.new.host in
    let h = subst (λ (x : Entry). HasDecided w l d x engine v) n.1.of n.1 in
    let k = (change w l e).book in
    let lawful : TellsCrashes v = record { only = g.met.H.Host.only_now c.args.host.now; told = g.met.H.Host.told_stays c.args.host.now } in
    refused w l d e engine v h k error m refl (reads_try l.book k v m lawful (c.in_err-at.ensures.stays t) h.host)

pub mark-requires : goal.mark-requires
mark-requires g c t =
    let (w, l, n) = c.requires t in
    let engine = c.args.self.now in
    let v = g.H.Host.view c.args.host.now in
    let h = subst (λ (x : Entry). HasDecided w l (decisions.Mark c.args.id c.args.position) x engine v) n.1.of n.1 in
    let s = c.file_spot-spot.result in
    let at = c.in-Some.at in
    subst (λ (f : Files). IsSomeAnd (f s.area s.name) (λ file. at ≤ length file)) (sym (c.in_ok-at.ensures.stays t).files) (mark_fits w l c.args.id c.args.position engine v h s c.file_spot-spot.ensures at (mark_is_at w l c.args.id c.args.position engine v h c.file_spot-spot.result c.file_spot-spot.ensures g.H.Host.tells c.take_mark-kept.result c.in-Some.at t c.take_mark-kept.ensures.offset (offset_at g.H.Host.tells c.take_mark-kept.result (g.H.Host.view c.args.host.now) c.file_spot-spot.result c.args.position _ c.in-Some.at c.in-Some.is c.in_ok-at.ensures.offset)))

pub returns-in_err-mark-clause-err : goal.returns-in_err-mark-clause-err
returns-in_err-mark-clause-err g c error is t w l n =
    let d = decisions.Mark c.args.id c.args.position in
    let e = entries.Mark c.args.id c.args.position in
    let engine = c.args.self.now in
    let v = g.H.Host.view c.args.host.now in
    let m = g.H.Host.view c.mark_offset.new.host in
    let h = subst (λ (x : Entry). HasDecided w l d x engine v) n.1.of n.1 in
    let k = (change w l e).book in
    let lawful : TellsCrashes v = record { only = g.met.H.Host.only_now c.args.host.now; told = g.met.H.Host.told_stays c.args.host.now } in
    let keeps = reads_keep l.book l.book v m lawful (c.in_ok-at.ensures.stays t) h.host in
    let changes = mark_changes w l c.args.id c.args.position engine v h c.file_spot-spot.result c.file_spot-spot.ensures c.in-Some.at (mark_is_at w l c.args.id c.args.position engine v h c.file_spot-spot.result c.file_spot-spot.ensures g.H.Host.tells c.take_mark-kept.result c.in-Some.at t c.take_mark-kept.ensures.offset (offset_at g.H.Host.tells c.take_mark-kept.result (g.H.Host.view c.args.host.now) c.file_spot-spot.result c.args.position _ c.in-Some.at c.in-Some.is c.in_ok-at.ensures.offset)) in
    let x = g.H.Host.view c.mark.new.host in
    refused w l d e engine v h k error x refl (kept_tries l.book k v m x keeps (c.in_err-mark.ensures.err t l.book k keeps.stands changes))

pub returns-clause-ok : goal.returns-clause-ok
returns-clause-ok g c t w l n =
    let d = decisions.Mark c.args.id c.args.position in
    let e = entries.Mark c.args.id c.args.position in
    let engine = c.args.self.now in
    let v = g.H.Host.view c.args.host.now in
    let m = g.H.Host.view c.mark_offset.new.host in
    let h = subst (λ (x : Entry). HasDecided w l d x engine v) n.1.of n.1 in
    let k = (change w l e).book in
    let lawful : TellsCrashes v = record { only = g.met.H.Host.only_now c.args.host.now; told = g.met.H.Host.told_stays c.args.host.now } in
    let keeps = reads_keep l.book l.book v m lawful (c.in_ok-at.ensures.stays t) h.host in
    let changes = mark_changes w l c.args.id c.args.position engine v h c.file_spot-spot.result c.file_spot-spot.ensures c.in-Some.at (mark_is_at w l c.args.id c.args.position engine v h c.file_spot-spot.result c.file_spot-spot.ensures g.H.Host.tells c.take_mark-kept.result c.in-Some.at t c.take_mark-kept.ensures.offset (offset_at g.H.Host.tells c.take_mark-kept.result (g.H.Host.view c.args.host.now) c.file_spot-spot.result c.args.position _ c.in-Some.at c.in-Some.is c.in_ok-at.ensures.offset)) in
    let x = g.H.Host.view c.mark.new.host in
    let takes = kept_takes l.book k v m x keeps (c.in_ok-mark.ensures.ok t l.book k keeps.stands changes) in
    carried_behind w l d e (record engine { places = c.take_mark-kept.new.self }) v (decided_fewer w l d e engine v c.take_mark-kept.new.self c.take_mark-kept.ensures.rest h) k x (g.H.Host.view c.tell.new.host) (record { life = refl; arrive = refl; preempt = refl; stays = λ id. refl }) refl takes (c.in_ok-tell.ensures.ok t k takes.stands)
    (plain_told w l e v x (g.H.Host.view c.tell.new.host) refl (keeps_then v m x (files_keep v m (c.in_ok-at.ensures.stays t).files) (c.in_ok-mark.ensures.notes t (no_log_spot c.file_spot-spot.result places.Active c.args.id c.file_spot-spot.ensures))) (c.in_ok-tell.ensures.files t))

pub returns-in_err-tell-clause-err : goal.returns-in_err-tell-clause-err
returns-in_err-tell-clause-err g c error is t w l n =
    let d = decisions.Mark c.args.id c.args.position in
    let e = entries.Mark c.args.id c.args.position in
    let engine = c.args.self.now in
    let v = g.H.Host.view c.args.host.now in
    let m = g.H.Host.view c.mark_offset.new.host in
    let h = subst (λ (x : Entry). HasDecided w l d x engine v) n.1.of n.1 in
    let k = (change w l e).book in
    let lawful : TellsCrashes v = record { only = g.met.H.Host.only_now c.args.host.now; told = g.met.H.Host.told_stays c.args.host.now } in
    let keeps = reads_keep l.book l.book v m lawful (c.in_ok-at.ensures.stays t) h.host in
    let changes = mark_changes w l c.args.id c.args.position engine v h c.file_spot-spot.result c.file_spot-spot.ensures c.in-Some.at (mark_is_at w l c.args.id c.args.position engine v h c.file_spot-spot.result c.file_spot-spot.ensures g.H.Host.tells c.take_mark-kept.result c.in-Some.at t c.take_mark-kept.ensures.offset (offset_at g.H.Host.tells c.take_mark-kept.result (g.H.Host.view c.args.host.now) c.file_spot-spot.result c.args.position _ c.in-Some.at c.in-Some.is c.in_ok-at.ensures.offset)) in
    let x = g.H.Host.view c.mark.new.host in
    let takes = kept_takes l.book k v m x keeps (c.in_ok-mark.ensures.ok t l.book k keeps.stands changes) in
    given_up_behind w l d e engine v h k error x (g.H.Host.view c.tell.new.host) refl takes (c.in_err-tell.ensures.err error (same_host c.from_residual-in_err-tell.result c.in_err-tell.field-0.0 error c.from_residual-in_err-tell.ensures.1 is) t k takes.stands)

pub returns-in_err-at-clause-readable : goal.returns-in_err-at-clause-readable
returns-in_err-at-clause-readable g c = host_readable g.H.Host.tells c.from_residual.result c.in_err-at.field-0.0 c.from_residual.ensures.1

pub returns-in_err-at-clause-cause : goal.returns-in_err-at-clause-cause
returns-in_err-at-clause-cause g c = disk_stopped (g.H.Host.faults c.args.host.now) (g.H.Host.faults c.mark_offset.new.host) c.from_residual.result c.in_err-at.field-0.0 c.from_residual.ensures.1 c.in_err-at.ensures.cause

pub returns-in_default-clause-err : goal.returns-in_default-clause-err
returns-in_default-clause-err g c error is = absurd (unreadable_apart c.file_spot-spot.result c.unreadable.result error c.unreadable.ensures is)

pub returns-in_default-clause-readable : goal.returns-in_default-clause-readable
returns-in_default-clause-readable g c t area name is =
    subst (λ (o : Option ℕ). IfNone o (IsTrue g.H.Host.tells → ⊥)) c.in_default.is c.in_ok-at.ensures.found t

pub returns-in_default-clause-cause : goal.returns-in_default-clause-cause
returns-in_default-clause-cause g c =
    let read = c.in_ok-at.ensures.cause in
    unreadable_stop (g.H.Host.faults c.args.host.now) (g.H.Host.faults c.mark_offset.new.host) c.file_spot-spot.result c.unreadable.result c.unreadable.ensures read.disk_later read.tell_later

pub returns-in_err-mark-clause-readable : goal.returns-in_err-mark-clause-readable
returns-in_err-mark-clause-readable g c = host_readable g.H.Host.tells c.from_residual-in_err-mark.result c.in_err-mark.field-0.0 c.from_residual-in_err-mark.ensures.1

pub returns-in_err-mark-clause-cause : goal.returns-in_err-mark-clause-cause
returns-in_err-mark-clause-cause g c =
    let b = g.H.Host.faults c.mark_offset.new.host in
    let z = g.H.Host.faults c.mark.new.host in
    let read = c.in_ok-at.ensures.cause in
    let r = c.from_residual-in_err-mark.result in
    stop_later (g.H.Host.faults c.args.host.now) b z r read.disk_later read.tell_later (disk_stopped b z r c.in_err-mark.field-0.0 c.from_residual-in_err-mark.ensures.1 c.in_err-mark.ensures.cause)

pub returns-in_err-tell-clause-readable : goal.returns-in_err-tell-clause-readable
returns-in_err-tell-clause-readable g c = host_readable g.H.Host.tells c.from_residual-in_err-tell.result c.in_err-tell.field-0.0 c.from_residual-in_err-tell.ensures.1

pub returns-in_err-tell-clause-cause : goal.returns-in_err-tell-clause-cause
returns-in_err-tell-clause-cause g c =
    let b = g.H.Host.faults c.mark.new.host in
    let z = g.H.Host.faults c.tell.new.host in
    let read = c.in_ok-at.ensures.cause in
    let written = c.in_ok-mark.ensures.cause in
    let r = c.from_residual-in_err-tell.result in
    stop_later (g.H.Host.faults c.args.host.now) b z r (omega (arith, read.disk_later, written.disk_later)) (omega (arith, read.tell_later, written.tell_later)) (tell_stopped b z r c.in_err-tell.field-0.0 c.from_residual-in_err-tell.ensures.1 c.in_err-tell.ensures.cause)

pub returns-clause-cause : goal.returns-clause-cause
returns-clause-cause g c =
    let read = c.in_ok-at.ensures.cause in
    let written = c.in_ok-mark.ensures.cause in
    let told = c.in_ok-tell.ensures.cause in
    ok_stop (g.H.Host.faults c.args.host.now) (g.H.Host.faults c.tell.new.host) _ (omega (arith, read.disk_later, written.disk_later, told.disk_later)) (omega (arith, read.tell_later, written.tell_later, told.tell_later))
