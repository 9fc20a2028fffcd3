use Rattle.q_books.proofs.Results.{if_ok}
use Rattle.q_look.proofs.LookLaws.{nothing_active, said_active}
use Rattle.q_look.proofs.looks.look_active.Goals as goal

pub returns-in_default-clause-found : goal.returns-in_default-clause-found
returns-in_default-clause-found g c t w l h agrees = nothing_active (g.H.Host.view c.args.host.now).files l h w c.args.core.now c.in_ok-file.field-0 agrees c.in_default.is (c.in_ok-file.ensures.first t)

pub returns-clause-found : goal.returns-clause-found
returns-clause-found g c =
    let before = g.H.Host.view c.args.host.now in
    let mid = g.H.Host.view c.first_name.new.host in
    if_ok c.found_at.result (λ found reads t w l h agrees. said_active before.files mid.files l (c.in_ok-file.ensures.stays t).files h agrees.consistent.book.orderly w c.args.core.now c.in_ok-file.field-0 c.in-Some.file c.file_spot.result found agrees c.in-Some.is (c.in_ok-file.ensures.first t) c.file_spot.ensures (reads t)) c.found_at.ensures.found
