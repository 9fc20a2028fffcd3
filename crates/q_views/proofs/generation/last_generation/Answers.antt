use Rattle.std.proofs.Common.{List, subst, ℕ}
use Rattle.q_views.proofs.BootLaws.{generation_is}
use Rattle.q_views.specs.Generations.{IsFirstGeneration}
use Rattle.q_views.proofs.generation.last_generation.Goals as goal

pub returns-clause-generation : goal.returns-clause-generation
returns-clause-generation g c t b stands =
    generation_is (g.H.Host.view c.args.host.now).files b.generation c.list_after.new.out c.first_generation.result stands.boot (c.in_ok-list_after.ensures.names t)
    (subst (λ (names : List (List ℕ)). IsFirstGeneration names c.first_generation.result) c.as_slice.ensures c.first_generation.ensures)
