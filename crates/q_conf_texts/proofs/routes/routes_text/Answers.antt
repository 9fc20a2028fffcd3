use Rattle.std.proofs.Common.{◌∙◌, ◌++◌, ap, arith}
use Rattle.q_conf_texts.specs.Routes.{route_line}
use Rattle.q_conf_texts.proofs.EndLaws.{next_text}
use Rattle.q_conf_texts.proofs.routes.routes_text.Goals as goal

pub loop-address-preserved : goal.loop-address-preserved
loop-address-preserved c =
    let loop = c.loop-address in
    let line = route_line c.args.table.now c.args.bytes.now in
    next_text line c.args.addresses.now loop.address-index c.address-item.result loop.text.items _ (omega (arith, c.loop-address-test.true)) loop.invariant
    (c.in_ok-add_route.ensures ∙ ap (λ x. loop.text.items ++ line x) c.address-item.is)
