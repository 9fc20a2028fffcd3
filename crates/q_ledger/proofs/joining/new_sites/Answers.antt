use Rattle.std.proofs.Common.{◌∙◌, [], ap, sym, add-one, take}
use Rattle.q_ledger.proofs.JoinLaws.{sites_more}
use Rattle.q_ledger.specs.Loading.{new_sites, with_site}
use Rattle.q_ledger.proofs.joining.new_sites.Goals as goal

pub loop-i-preserved : goal.loop-i-preserved
loop-i-preserved c =
    let i = c.loop-i.i in
    let site = c.site_of-site.result in
    c.in_ok-add_site.ensures
    ∙ ap (with_site c.args.params.now c.args.records.now site) c.loop-i.invariant
    ∙ sym (sites_more c.args.params.now c.args.records.now i [] c.args.rows.now site c.loop-i-test.true c.site_of-site.ensures)
    ∙ ap (λ n. new_sites c.args.params.now c.args.records.now [] (take n c.args.rows.now)) (sym (add-one i))
