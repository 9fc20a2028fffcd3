use Rattle.q_books.proofs.Results.{if_ok}
use Rattle.q_look.proofs.LookLaws.{nothing_deferred, said_deferred}
use Rattle.q_look.proofs.looks.look_behind.Goals as goal

pub returns-in_default-clause-found : goal.returns-in_default-clause-found
returns-in_default-clause-found g c t l h orderly place behind = nothing_deferred (g.H.Host.view c.args.host.now).files l h place c.args.until c.args.after c.in_ok-file.field-0 behind c.in_default.is (c.in_ok-file.ensures.first t)

pub returns-clause-found : goal.returns-clause-found
returns-clause-found g c =
    let before = g.H.Host.view c.args.host.now in
    let mid = g.H.Host.view c.first_name.new.host in
    if_ok c.found_at.result (λ found reads t l h orderly place behind. said_deferred before.files mid.files l (c.in_ok-file.ensures.stays t).files h orderly place c.args.until c.args.after c.in_ok-file.field-0 c.in-Some.file c.file_spot-spot.result found behind c.in-Some.is (c.in_ok-file.ensures.first t) c.file_spot-spot.ensures (reads t)) c.found_at.ensures.found
