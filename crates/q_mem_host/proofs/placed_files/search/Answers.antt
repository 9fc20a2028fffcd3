use Rattle.std.proofs.Common.{of_calls, rules}
use Rattle.std.proofs.lemmas.Fn.{always_returns_same}
use Rattle.q_mem_host.specs.Order.{placed_cmp}
use Rattle.q_mem_host.proofs.Searches.{found, missing}
use Rattle.q_mem_host.proofs.placed_files.search.Goals as goal

pub returns-clause-found : goal.returns-clause-found
returns-clause-found c =
    let compared = c.binary_search_by.ensures.position (placed_cmp c.args.area c.args.name.now) (always_returns_same _ _ _ (λ x r f called. search (rules, of_calls))) in
    found c.args.area c.args.name.now c.args.files.now c.binary_search_by.result c.binary_search_by.ensures.bound compared

pub returns-clause-missing : goal.returns-clause-missing
returns-clause-missing c =
    let compared = c.binary_search_by.ensures.position (placed_cmp c.args.area c.args.name.now) (always_returns_same _ _ _ (λ x r f called. search (rules, of_calls))) in
    missing c.args.area c.args.name.now c.args.files.now c.binary_search_by.result c.requires c.binary_search_by.ensures.bound compared
