use Rattle.std.proofs.Common.{◌≡◌, flat_map, take}
use Rattle.q_conf_texts.specs.Routes.{route_line}
use Rattle.q_conf_texts.proofs.routes.routes_text.Given as goal

-- a line for each address so far
abbrev pub invariant-loop-address : goal.invariant-loop-address
invariant-loop-address l = l.text.items ≡ flat_map (route_line l.table l.bytes) (take l.address-index l.addresses)
