use Rattle.std.proofs.Common.{◌<◌, Option, subst}
use Rattle.std.specs.Prelude.{IfSome}
use Rattle.q_walk.specs.declared.walk.Found.{Found}
use Rattle.q_walk.specs.Walks.{walk_left}
use Rattle.q_host.proofs.Stays.{stays_on}
use Rattle.q_mem_host.specs.Left.{view_of}
use Rattle.q_load.proofs.Places.{all_counted, gives_on, one_counted}
use Rattle.q_load.proofs.remaining.count_messages.Goals as goal

pub returns-in_err-next_found-clause-stays : goal.returns-in_err-next_found-clause-stays
returns-in_err-next_found-clause-stays c = stays_on (view_of c.args.host.now) (view_of c.loop-count.host) (view_of c.next_found.new.host) c.loop-count.invariant.stays c.next_found.ensures.stays

pub returns-in_default-clause-stays : goal.returns-in_default-clause-stays
returns-in_default-clause-stays c = stays_on (view_of c.args.host.now) (view_of c.loop-count.host) (view_of c.next_found.new.host) c.loop-count.invariant.stays c.next_found.ensures.stays

pub returns-in_default-clause-exact : goal.returns-in_default-clause-exact
returns-in_default-clause-exact c b ms stands ahead =
    let f = (view_of c.args.host.now).files in
    let loop = c.loop-count in
    let o = c.in_ok-next_found.field-0 in
    all_counted f b loop.walk c.next_found.new.walk loop.count ms (loop.invariant.counted b ms stands ahead) o
    (gives_on f (view_of loop.host).files b loop.walk c.next_found.new.walk o loop.invariant.stays.files stands (λ rest s a. c.in_ok-next_found.ensures.next b rest s a)) c.in_default.is

pub loop-count-preserved : goal.loop-count-preserved
loop-count-preserved c =
    let f = (view_of c.args.host.now).files in
    let loop = c.loop-count in
    let o = c.in_ok-next_found.field-0 in
    record {
      stays = stays_on (view_of c.args.host.now) (view_of loop.host) (view_of c.next_found.new.host) loop.invariant.stays c.in_ok-next_found.ensures.stays;
      counted = λ b ms stands ahead.
          one_counted f b loop.walk c.next_found.new.walk loop.count ms (loop.invariant.counted b ms stands ahead) o
          (gives_on f (view_of loop.host).files b loop.walk c.next_found.new.walk o loop.invariant.stays.files stands (λ rest s a. c.in_ok-next_found.ensures.next b rest s a)) c.saturating_add-count.result c.in-Some.field-0 c.saturating_add-count.ensures c.in-Some.is;
    }

pub loop-count-smaller : goal.loop-count-smaller
loop-count-smaller c = subst (λ (o : Option Found). IfSome o (λ _. walk_left c.next_found.new.walk < walk_left c.loop-count.walk)) c.in-Some.is c.in_ok-next_found.ensures.fewer
