use Rattle.q_load.proofs.Places.{ok_weaker}
use Rattle.q_top.proofs.loading.load_text.Goals as goal

pub returns : goal.returns
returns c = ok_weaker c.text.result (λ text says. record { summary = c.in_ok-summary.summary; is = c.in_ok-summary.ensures; says = says }) c.text.ensures
