use Rattle.std.proofs.Common.{◌∙◌, [], ap, arith}
use Rattle.q_model.specs.Settings.{Settings}
use Rattle.q_open_rows.specs.Opened.{Opened}
use Rattle.q_core.proofs.beginning.loads.Goals as goal

pub returns : goal.returns
returns c =
    let limit = ap (λ (p : Settings). p.recipient_limit) c.params.view_is in
    record {
      rows = c.in_ok-rows.ensures ∙ ap (λ (p : Settings). record { rows = []; room = p.recipient_limit; most = p.entry_limit }) c.params.view_is;
      places = ap (λ (x : Opened). x.room) c.in_ok-open_rows.ensures ∙ limit;
      named = c.in_ok-named.ensures.items;
      name_room = omega (arith, limit, c.in_ok-named.ensures.capacity);
    }
