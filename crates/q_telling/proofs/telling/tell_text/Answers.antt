use Rattle.std.proofs.lemmas.Result.{on_err_weaker, on_ok_weaker}
use Rattle.q_telling.proofs.TellingLaws.{only_some, tells_all, tells_some}
use Rattle.q_telling.proofs.telling.tell_text.Goals as goal

pub returns-clause-told : goal.returns-clause-told
returns-clause-told g c =
    let host = c.args.host.now in
    on_ok_weaker c.tell.result (λ told t. tells_all (g.H.Host.view host) (g.H.Host.view c.tell.new.self) c.args.text.now (g.met.H.Host.only_now host) (told t)) c.tell.ensures.ok

pub returns-clause-front : goal.returns-clause-front
returns-clause-front g c =
    let host = c.args.host.now in
    on_err_weaker c.tell.result (λ told t. let some = told t in
    tells_some (g.H.Host.view host) (g.H.Host.view c.tell.new.self) c.args.text.now some.0 (g.met.H.Host.only_now host) some.2) c.tell.ensures.err

pub returns-clause-only : goal.returns-clause-only
returns-clause-only g c =
    only_some g.H.Host.tells c.args.text.now (g.H.Host.view c.args.host.now) (g.H.Host.view c.tell.new.self) c.tell.result (returns-clause-told g c) (returns-clause-front g c)
