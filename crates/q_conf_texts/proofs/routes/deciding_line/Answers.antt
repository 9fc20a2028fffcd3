use Rattle.std.proofs.Common.{None, refl, Some}
use Rattle.q_conf_texts.proofs.LookupLaws.{decided}
use Rattle.q_conf_texts.proofs.routes.deciding_line.Goals as goal

pub returns-in-Some-line_of_domain : goal.returns-in-Some-line_of_domain
returns-in-Some-line_of_domain c =
    let whole = rw c.bytes.ensures.same at c.in_default.ensures in
    let host = rw c.bytes-2.ensures.same at c.in-Some-line_of_domain.ensures in
    decided c.args.bytes.now c.args.address.now c.split_domain-domain.result None (Some c.in-Some-line_of_domain.found) _ c.split_domain-domain.ensures whole host refl

pub returns : goal.returns
returns c =
    let whole = rw c.bytes.ensures.same at c.in_default.ensures in
    let host = rw c.bytes-2.ensures.same at c.in_default-line_of_domain.ensures in
    decided c.args.bytes.now c.args.address.now c.split_domain-domain.result None None _ c.split_domain-domain.ensures whole host c.line_of-2.ensures
