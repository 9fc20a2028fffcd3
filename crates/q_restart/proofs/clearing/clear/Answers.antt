use Rattle.q_books.proofs.Results.{on_ok}
use Rattle.q_restart.specs.Places.{is_placed}
use Rattle.q_restart.proofs.Clears.{is-clean}
use Rattle.q_restart.proofs.clearing.clear.Goals as goal

pub returns-clause-clean : goal.returns-clause-clean
returns-clause-clean g c =
    let view = g.H.Host.view in
    on_ok c.clear_logs-2.result (λ notes t. is-clean (is_placed c.args.places.now) (view c.empty_tmp.new.host) (view c.clear_logs.new.host) (view c.clear_logs-2.new.host)
    (c.in_ok-empty_tmp.ensures.empty t) (c.clear_logs.ensures.goes t) (c.in_ok-clear_logs.ensures.handled t) (c.clear_logs-2.ensures.goes t) (notes t)) c.clear_logs-2.ensures.handled
