use Rattle.std.proofs.Common.{◌≡◌, ◌∷◌, [], ℕ, ap, is_some, IsTrue, List, refl, subst, sym, true}
use Rattle.std.specs.Prelude.{IfSome}
use Rattle.q_books.proofs.Joining.{reads_keep}
use Rattle.q_books.specs.HostStands.{TellsCrashes}
use Rattle.q_host.specs.declared.error.HostError.{HostError}
use Rattle.q_model.specs.SpoolFiles.{Files}
use Rattle.q_model.specs.ToolSteps.{after_step, moves}
use Rattle.q_model.specs.declared.rows.Place.TheVariants as places
use Rattle.q_super.specs.Deeds.{Deed, expired, failing, line_of, tells}
use Rattle.q_super.specs.GivingUp.{IsQueueFile}
use Rattle.q_super.specs.Moves.{is_file}
use Rattle.q_super.specs.Plays.{after_deeds, HaltsDeeds, PlaysDeeds}
use Rattle.q_super.specs.declared.acts.Act.TheVariants as acts
use Rattle.q_super.proofs.ExpiredMessages.{expired_none, gave_up, none_read, not_failed, not_taken, not_told, was_read}
use Rattle.q_super.proofs.MaySteps.{takes_moves}
use Rattle.q_super.proofs.Playing.{reads_halt, reads_play}
use Rattle.q_super.proofs.ToldMoves.{same_error}
use Rattle.q_super.proofs.expiring.expire.Goals as goal

pub move_file-requires-clause-allowed : goal.move_file-requires-clause-allowed
move_file-requires-clause-allowed g c = record { form = c.requires.form; place = c.requires.fits; allowed = takes_moves acts.Expire c.args.file.place c.requires.from }

pub move_file-requires-clause-there : goal.move_file-requires-clause-there
move_file-requires-clause-there g c t =
    let u = g.H.Host.view c.args.host.now in
    subst (λ (f : Files). is_file f c.args.file ≡ true) (sym (c.in_ok-positions.ensures.stays t).files)
    ((subst (λ o. IfSome o (λ _. IsTrue g.H.Host.tells → is_file u.files c.args.file ≡ true)) c.in-Some.is c.in_ok-positions.ensures.there) t)

pub returns-in_err-positions-clause-err : goal.returns-in_err-positions-clause-err
returns-in_err-positions-clause-err g c error is t b h rest there =
    let u = g.H.Host.view c.args.host.now in
    let lawful : TellsCrashes u = (record { only = g.met.H.Host.only_now c.args.host.now; told = g.met.H.Host.told_stays c.args.host.now }) in
    reads_halt b (expired b c.args.file.id) error u (g.H.Host.view c.pending_positions.new.host) lawful (c.pending_positions.ensures.stays t) h

pub returns-in_default-clause-ok : goal.returns-in_default-clause-ok
returns-in_default-clause-ok g c t b h rest there =
    let u = g.H.Host.view c.args.host.now in
    let v = g.H.Host.view c.pending_positions.new.host in
    let lawful : TellsCrashes u = (record { only = g.met.H.Host.only_now c.args.host.now; told = g.met.H.Host.told_stays c.args.host.now }) in
    let none = none_read u.files b c.args.file c.in_ok-positions.field-0 h.reads there (c.in_ok-positions.ensures.positions t) c.in_default.is in
    (sym (ap is_some none), subst (λ (ds : List Deed). PlaysDeeds b ds u v) (sym (expired_none b c.args.file.id none)) (reads_play b u v lawful (c.in_ok-positions.ensures.stays t) h))

pub returns-in_err-move_file-clause-err : goal.returns-in_err-move_file-clause-err
returns-in_err-move_file-clause-err g c error is t b h rest there =
    let id = c.args.file.id in
    let ps = c.in-Some.positions in
    let u = g.H.Host.view c.args.host.now in
    let v = g.H.Host.view c.pending_positions.new.host in
    let w = g.H.Host.view c.move_file.new.host in
    let lawful : TellsCrashes u = (record { only = g.met.H.Host.only_now c.args.host.now; told = g.met.H.Host.told_stays c.args.host.now }) in
    let st = c.in_ok-positions.ensures.stays t in
    let k = after_step b (moves id places.Active) in
    let queue = (subst (λ o. IfSome o (λ _. IsTrue g.H.Host.tells → IsQueueFile u.files c.args.file)) c.in-Some.is c.in_ok-positions.ensures.message) t in
    let read = was_read u.files b c.args.file c.in_ok-positions.field-0 c.in-Some.positions ps h.reads rest there c.requires.from queue (c.in_ok-positions.ensures.positions t) c.in-Some.is refl in
    let tries = c.in_err-move_file.ensures.err t b k (reads_keep b b u v lawful st h).stands (record { there = there; changed = refl }) in
    subst (λ (ds : List Deed). HaltsDeeds b ds error u w) (sym read.deeds) (not_taken b id ps u v lawful st h error w tries)

pub returns-in_err-give_up-clause-err : goal.returns-in_err-give_up-clause-err
returns-in_err-give_up-clause-err g c error is t b h rest there =
    let id = c.args.file.id in
    let ps = c.as_slice.result.now in
    let u = g.H.Host.view c.args.host.now in
    let v = g.H.Host.view c.pending_positions.new.host in
    let w = g.H.Host.view c.move_file.new.host in
    let lawful : TellsCrashes u = (record { only = g.met.H.Host.only_now c.args.host.now; told = g.met.H.Host.told_stays c.args.host.now }) in
    let st = c.in_ok-positions.ensures.stays t in
    let k = after_step b (moves id places.Active) in
    let queue = (subst (λ o. IfSome o (λ _. IsTrue g.H.Host.tells → IsQueueFile u.files c.args.file)) c.in-Some.is c.in_ok-positions.ensures.message) t in
    let read = was_read u.files b c.args.file c.in_ok-positions.field-0 c.in-Some.positions ps h.reads rest there c.requires.from queue (c.in_ok-positions.ensures.positions t) c.in-Some.is c.as_slice.ensures in
    let x = g.H.Host.view c.give_up.new.host in
    let takes = c.in_ok-move_file.ensures.ok t b k (reads_keep b b u v lawful st h).stands (record { there = there; changed = refl }) in
    let inner = c.in_err-give_up.field-0.0 in
    let same = same_error c.from_residual-in_err-give_up.result inner error c.from_residual-in_err-give_up.ensures.1 is in
    subst (λ (e : HostError). HaltsDeeds b (expired b id) e u x) same
    (subst (λ (ds : List Deed). HaltsDeeds b ds inner u x) (sym read.deeds) (not_failed b id ps u v lawful st h inner w x takes (c.in_err-give_up.ensures.err inner refl t k takes.stands read.may)))

pub returns-in_err-tell_line-clause-err : goal.returns-in_err-tell_line-clause-err
returns-in_err-tell_line-clause-err g c error is t b h rest there =
    let id = c.args.file.id in
    let ps = c.as_slice.result.now in
    let u = g.H.Host.view c.args.host.now in
    let v = g.H.Host.view c.pending_positions.new.host in
    let w = g.H.Host.view c.move_file.new.host in
    let lawful : TellsCrashes u = (record { only = g.met.H.Host.only_now c.args.host.now; told = g.met.H.Host.told_stays c.args.host.now }) in
    let st = c.in_ok-positions.ensures.stays t in
    let k = after_step b (moves id places.Active) in
    let queue = (subst (λ o. IfSome o (λ _. IsTrue g.H.Host.tells → IsQueueFile u.files c.args.file)) c.in-Some.is c.in_ok-positions.ensures.message) t in
    let read = was_read u.files b c.args.file c.in_ok-positions.field-0 c.in-Some.positions ps h.reads rest there c.requires.from queue (c.in_ok-positions.ensures.positions t) c.in-Some.is c.as_slice.ensures in
    let x = g.H.Host.view c.give_up.new.host in
    let y = g.H.Host.view c.tell_line.new.host in
    let takes = c.in_ok-move_file.ensures.ok t b k (reads_keep b b u v lawful st h).stands (record { there = there; changed = refl }) in
    let gave = c.in_ok-give_up.ensures.ok t k takes.stands read.may in
    let inner = c.in_err-tell_line.field-0.0 in
    let same = same_error c.from_residual-in_err-tell_line.result inner error c.from_residual-in_err-tell_line.ensures.1 is in
    let stops = subst (λ (word : List ℕ). HaltsDeeds (after_deeds k (failing id ps)) (tells (line_of word id) ∷ []) inner x y) c.word_of.ensures (c.in_err-tell_line.ensures.err inner refl t (after_deeds k (failing id ps)) gave.stands) in
    subst (λ (e : HostError). HaltsDeeds b (expired b id) e u y) same
    (subst (λ (ds : List Deed). HaltsDeeds b ds inner u y) (sym read.deeds) (not_told b id ps u v lawful st h inner w x y takes gave stops))

pub returns-clause-ok : goal.returns-clause-ok
returns-clause-ok g c t b h rest there =
    let id = c.args.file.id in
    let ps = c.as_slice.result.now in
    let u = g.H.Host.view c.args.host.now in
    let v = g.H.Host.view c.pending_positions.new.host in
    let w = g.H.Host.view c.move_file.new.host in
    let lawful : TellsCrashes u = (record { only = g.met.H.Host.only_now c.args.host.now; told = g.met.H.Host.told_stays c.args.host.now }) in
    let st = c.in_ok-positions.ensures.stays t in
    let k = after_step b (moves id places.Active) in
    let queue = (subst (λ o. IfSome o (λ _. IsTrue g.H.Host.tells → IsQueueFile u.files c.args.file)) c.in-Some.is c.in_ok-positions.ensures.message) t in
    let read = was_read u.files b c.args.file c.in_ok-positions.field-0 c.in-Some.positions ps h.reads rest there c.requires.from queue (c.in_ok-positions.ensures.positions t) c.in-Some.is c.as_slice.ensures in
    let x = g.H.Host.view c.give_up.new.host in
    let y = g.H.Host.view c.tell_line.new.host in
    let takes = c.in_ok-move_file.ensures.ok t b k (reads_keep b b u v lawful st h).stands (record { there = there; changed = refl }) in
    let gave = c.in_ok-give_up.ensures.ok t k takes.stands read.may in
    let told = subst (λ (word : List ℕ). PlaysDeeds (after_deeds k (failing id ps)) (tells (line_of word id) ∷ []) x y) c.word_of.ensures (c.in_ok-tell_line.ensures.ok t (after_deeds k (failing id ps)) gave.stands) in
    (sym (ap is_some read.found), subst (λ (ds : List Deed). PlaysDeeds b ds u y) (sym read.deeds) (gave_up b id ps u v lawful st h w x y takes gave told))
