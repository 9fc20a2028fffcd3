use Rattle.std.proofs.Common.{◌+◌, List, [], ◌∷◌, ℕ, length, length-append, ap, arith, sym, subst, ◌∙◌}
use Rattle.q_mem_host.proofs.Listings.{all_listed_there, area_listed, AreListed, more_listed}
use Rattle.q_mem_host.proofs.listing.list_names.Goals as goal

pub returns-then-number-clause-ok : goal.returns-then-number-clause-ok
returns-then-number-clause-ok c =
    area_listed c.args.files.now c.loop-i.i c.args.area c.args.after c.loop-i.out c.loop-i.invariant.listed c.requires c.index-files-i.result (omega arith) c.index-files-i.is (λ same. c.if-number.true (c.number.ensures ∙ same ∙ sym c.number-in-loop-i.ensures))

pub loop-i-preserved : goal.loop-i-preserved
loop-i-preserved c = record {
  listed = subst (λ (names : List (List ℕ)). AreListed c.args.files.now (c.loop-i.i + 1) c.args.area c.args.after names) (sym c.in_ok-push.ensures.ok)
      (more_listed c.args.files.now c.loop-i.i c.args.area c.args.after c.loop-i.out c.loop-i.invariant.listed c.requires c.index-files-i.result (omega arith) c.index-files-i.is (sym c.number.ensures ∙ c.if-number.false ∙ c.number-in-loop-i.ensures));
  count = omega (arith, ap length c.in_ok-push.ensures.ok, length-append c.loop-i.out (c.index-files-i.result.name ∷ []), c.loop-i.invariant.count);
}

pub returns-clause-ok : goal.returns-clause-ok
returns-clause-ok c = all_listed_there c.args.files.now c.loop-i.i c.args.area c.args.after c.loop-i.out c.loop-i.invariant.listed _ _ c.first_past-start.ensures.within c.min-count.ensures c.loop-i-test.false c.loop-i.invariant.count
