use Rattle.std.proofs.Common.{◌≡◌, List, subst, ℕ}
use Rattle.std.specs.Prelude.{Result}
use Rattle.q_conf_texts.specs.declared.error.LookError.{LookError}
use Rattle.q_host.specs.View.{View}
use Rattle.q_conf.specs.declared.error.ConfFile.TheVariants.{Table}
use Rattle.q_conf_texts.specs.Routes.{routes_text}
use Rattle.q_conf_texts.specs.Tellings.{routes_said, table_bytes, TellsRoutes}
use Rattle.q_top.proofs.ConfLooks.{look_cause, look_readable, routes_named, said_looks}
use Rattle.q_top.proofs.looking.tell_ways.Goals as goal

-- of the same addresses
routed : (u v : View) (xs ys : List (List ℕ)) (r : Result (Unit {0}) LookError) → xs ≡ ys → TellsRoutes xs u v r → TellsRoutes ys u v r
routed u v xs ys r same told = subst (λ (zs : List (List ℕ)). TellsRoutes zs u v r) same told

pub returns-clause-tells : goal.returns-clause-tells
returns-clause-tells g c t = record { result = c.tell_routes.result; is = c.look_status.ensures.exact; says = routed (g.H.Host.view c.args.host.now) (g.H.Host.view c.tell_routes.new.host) c.as_slice.result.now c.args.addresses.now c.tell_routes.result c.as_slice.ensures (c.tell_routes.ensures.told t) }

pub returns-clause-serves : goal.returns-clause-serves
returns-clause-serves g c t b h orderly =
    let u = g.H.Host.view c.args.host.now in
    let v = g.H.Host.view c.tell_routes.new.host in
    said_looks Table (routes_said (table_bytes u)) (λ x. routes_text x (table_bytes u) c.args.addresses.now) b u v h c.tell_routes.result (routed u v c.as_slice.result.now c.args.addresses.now c.tell_routes.result c.as_slice.ensures (c.tell_routes.ensures.told t))

pub returns-clause-readable : goal.returns-clause-readable
returns-clause-readable g c = rw c.look_status.ensures.exact (look_readable c.tell_routes.result)

pub returns-clause-named : goal.returns-clause-named
returns-clause-named g c text = rw c.look_status.ensures.exact (routes_named (λ r. ⊥) text c.tell_routes.result c.tell_routes.ensures.named)

pub returns-clause-host : goal.returns-clause-host
returns-clause-host g c = rw c.look_status.ensures.exact (look_cause (g.H.Host.faults c.args.host.now) (g.H.Host.faults c.tell_routes.new.host) c.tell_routes.result c.tell_routes.ensures.cause)
