use Rattle.std.proofs.Common.{◌∙◌, ap}
use Rattle.q_model.specs.Batches.{join_rows}
use Rattle.q_model.specs.Values.{Site}
use Rattle.q_transport.specs.Routing.{table_of}
use Rattle.q_ledger.specs.Grouping.{joined}
use Rattle.q_ledger.specs.Worlds.{Given, world_of}
use Rattle.q_ledger.specs.declared.world.World.TheInside.{Inside}
use Rattle.q_ledger.proofs.batches.join_address.Goals as goal

pub returns : goal.returns
returns c =
    let rows = c.args.rows.now.items in
    c.in_ok-join_row.ensures
    ∙ ap (λ (s : Site). join_rows c.world-inside.inside.0.0.default_destination_recipient_limit c.args.id s c.args.position rows) c.route-site.ensures.exact
    ∙ ap (λ (k : Inside). join_rows k.params.entry_limit c.args.id ((table_of k.table).route c.args.address.now) c.args.position rows) c.world-inside.view_is
    ∙ ap (λ (g : Given). joined (world_of g) c.args.id c.args.address.now c.args.position rows) c.world.view_is
