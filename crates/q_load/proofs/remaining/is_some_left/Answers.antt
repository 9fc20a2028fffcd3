use Rattle.std.proofs.Common.{Option, subst}
use Rattle.q_load.proofs.Places.{none_left, some_left}
use Rattle.q_mem_host.specs.Left.{view_of}
use Rattle.q_walk.specs.Listed.{all_queues, listed}
use Rattle.q_walk.specs.Walks.{GivesNext}
use Rattle.q_walk.specs.declared.walk.Found.{Found}
use Rattle.q_load.proofs.remaining.is_some_left.Goals as goal

pub returns-in-Some-clause-exact : goal.returns-in-Some-clause-exact
returns-in-Some-clause-exact c b stands =
    let f = (view_of c.args.host.now).files in
    let all = listed all_queues b in
    let given = subst (λ (o : Option Found). GivesNext f b c.next_found.new.walk all o) c.in-Some.is (c.in_ok-next_found.ensures.next b all stands (c.in_ok-walk.ensures f b stands)) in
    some_left f b given.0 given.1 stands given.2

pub returns-clause-exact : goal.returns-clause-exact
returns-clause-exact c b stands =
    let f = (view_of c.args.host.now).files in
    let all = listed all_queues b in
    none_left f b stands (subst (λ (o : Option Found). GivesNext f b c.next_found.new.walk all o) c.in-None.is (c.in_ok-next_found.ensures.next b all stands (c.in_ok-walk.ensures f b stands)))
