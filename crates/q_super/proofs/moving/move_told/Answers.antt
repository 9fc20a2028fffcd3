use Rattle.std.proofs.Common.{◌∙◌, refl, subst}
use Rattle.q_books.proofs.Joining.{reads_keep}
use Rattle.q_books.specs.HostStands.{TellsCrashes}
use Rattle.q_host.specs.declared.error.HostError.{HostError}
use Rattle.q_model.specs.ToolSteps.{after_step, moves}
use Rattle.q_super.specs.Deeds.{moving}
use Rattle.q_super.specs.Plays.{HaltsDeeds}
use Rattle.q_super.proofs.Playing.{reads_halt}
use Rattle.q_super.proofs.ToldMoves.{moved_told, moved_untold, not_moved, same_error, surely_there}
use Rattle.q_super.proofs.moving.move_told.Goals as goal

pub returns-in_err-is_there-clause-err : goal.returns-in_err-is_there-clause-err
returns-in_err-is_there-clause-err g c error is t b h there =
    let v = g.H.Host.view c.args.host.now in
    let lawful : TellsCrashes v = (record { only = g.met.H.Host.only_now c.args.host.now; told = g.met.H.Host.told_stays c.args.host.now }) in
    reads_halt b (moving c.args.word.now c.args.to c.args.from.id) error v (g.H.Host.view c.is_there.new.host) lawful (c.is_there.ensures.stays t) h

pub returns-then-not-branch-clause-ok : goal.returns-then-not-branch-clause-ok
returns-then-not-branch-clause-ok g c t b h there =
    absurd (surely_there (g.H.Host.view c.args.host.now).files b c.args.from h.reads there (c.in_ok-is_there.ensures.there t ∙ c.if-not-branch.true))

pub returns-in_err-move_file-clause-err : goal.returns-in_err-move_file-clause-err
returns-in_err-move_file-clause-err g c error is t b h there =
    let u = g.H.Host.view c.args.host.now in
    let v = g.H.Host.view c.is_there.new.host in
    let lawful : TellsCrashes u = (record { only = g.met.H.Host.only_now c.args.host.now; told = g.met.H.Host.told_stays c.args.host.now }) in
    let st = c.is_there.ensures.stays t in
    let k = after_step b (moves c.args.from.id c.args.to) in
    not_moved b c.args.word.now c.args.from c.args.to u v lawful st h error (g.H.Host.view c.move_file.new.host)
    (c.in_err-move_file.ensures.err t b k (reads_keep b b u v lawful st h).stands (record { there = there; changed = refl }))

pub returns-in_err-tell_line-clause-err : goal.returns-in_err-tell_line-clause-err
returns-in_err-tell_line-clause-err g c error is t b h there =
    let u = g.H.Host.view c.args.host.now in
    let v = g.H.Host.view c.is_there.new.host in
    let w = g.H.Host.view c.move_file.new.host in
    let x = g.H.Host.view c.tell_line.new.host in
    let lawful : TellsCrashes u = (record { only = g.met.H.Host.only_now c.args.host.now; told = g.met.H.Host.told_stays c.args.host.now }) in
    let st = c.is_there.ensures.stays t in
    let k = after_step b (moves c.args.from.id c.args.to) in
    let takes = c.in_ok-move_file.ensures.ok t b k (reads_keep b b u v lawful st h).stands (record { there = there; changed = refl }) in
    let inner = c.in_err-tell_line.field-0.0 in
    let same = same_error c.from_residual-in_err-tell_line.result inner error c.from_residual-in_err-tell_line.ensures.1 is in
    subst (λ (e : HostError). HaltsDeeds b (moving c.args.word.now c.args.to c.args.from.id) e u x) same
    (moved_untold b c.args.word.now c.args.from c.args.to u v lawful st h inner w x takes (c.in_err-tell_line.ensures.err inner refl t k takes.stands))

pub returns-clause-ok : goal.returns-clause-ok
returns-clause-ok g c t b h there =
    let u = g.H.Host.view c.args.host.now in
    let v = g.H.Host.view c.is_there.new.host in
    let lawful : TellsCrashes u = (record { only = g.met.H.Host.only_now c.args.host.now; told = g.met.H.Host.told_stays c.args.host.now }) in
    let st = c.is_there.ensures.stays t in
    let k = after_step b (moves c.args.from.id c.args.to) in
    let takes = c.in_ok-move_file.ensures.ok t b k (reads_keep b b u v lawful st h).stands (record { there = there; changed = refl }) in
    (refl, moved_told b c.args.word.now c.args.from c.args.to u v lawful st h (g.H.Host.view c.move_file.new.host) (g.H.Host.view c.tell_line.new.host) takes (c.in_ok-tell_line.ensures.ok t k takes.stands))
