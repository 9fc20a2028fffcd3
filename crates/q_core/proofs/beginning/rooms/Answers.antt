use Rattle.std.proofs.Common.{◌∙◌, ◌∷◌, [], ap}
use Rattle.q_model.specs.Settings.{Settings}
use Rattle.q_core.proofs.beginning.rooms.Goals as goal

pub returns : goal.returns
returns c = record {
  waiting = c.in_ok-waiting.ensures ∙ ap (λ (p : Settings). record { items = []; room = p.recipient_limit; most = p.entry_limit }) c.params.view_is;
  flights = c.in_ok-flights.ensures ∙ ap (λ (p : Settings). record { items = []; room = c.args.deliveries; most = p.entry_limit }) c.params.view_is;
  unsettled = c.in_ok-unsettled.ensures ∙ ap (λ (p : Settings). record { items = []; room = p.recipient_limit }) c.params.view_is;
  skipped = c.in_ok-skipped.ensures ∙ ap (λ (p : Settings). record { lists = [] ∷ []; most = p.entry_limit }) c.params.view_is;
}
