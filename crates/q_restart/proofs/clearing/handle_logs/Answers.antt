use Rattle.std.proofs.Common.{◌≡◌, ⊎_elim, arith, List, Option, subst, sym, take, take_all, ℕ}
use Rattle.std.specs.List.{Contains}
use Rattle.std.specs.Option.{IsSome}
use Rattle.std.proofs.lemmas.List.Elements.{Contains-push_cases}
use Rattle.q_restart.specs.Clearings.{DropsStrays, IsHandled}
use Rattle.q_restart.specs.Places.{is_placed}
use Rattle.q_restart.proofs.Clears.{all-handled, by-on, drops-on, handled-on, later_apart, later_there, more_names, other_name}
use Rattle.q_restart.proofs.clearing.handle_logs.Goals as goal

pub loop-name-preserved : goal.loop-name-preserved
loop-name-preserved g c =
    let view = g.H.Host.view in
    let keeps = is_placed c.args.places.now in
    let so_far = c.loop-name.invariant in
    let names = c.args.names.now in
    let i = c.loop-name.name-index in
    let name = c.name-item.result in
    record {
      left = λ t n k.
          let apart = later_apart names i name n c.loop-name-test.true c.name-item.is (c.requires.listed t).sorted k in
          subst (λ (o : Option (List ℕ)). IsSome o) (sym (c.handle_log.ensures.others t c.args.area n (other_name c.args.area name n apart))) (so_far.left t n (later_there names i name n c.loop-name-test.true c.name-item.is k));
      done = λ t n k. ⊎_elim
          (λ before. handled-on keeps c.args.area n (view c.loop-name.host) (view c.handle_log.new.host) (c.handle_log.ensures.goes t) (so_far.done t n before))
          (λ (here : name ≡ n). subst (IsHandled keeps (view c.handle_log.new.host) c.args.area) here (c.in_ok-handle_log.ensures.handled t))
          (Contains-push_cases (take i names) name n (subst (λ (xs : List (List ℕ)). Contains xs n) (more_names names i name c.loop-name-test.true c.name-item.is) k));
      goes = λ t. by-on (DropsStrays keeps) (drops-on keeps) (view c.args.host.now) (view c.loop-name.host) (view c.handle_log.new.host) (so_far.goes t) (c.handle_log.ensures.goes t);
      disk_later = omega (arith, so_far.disk_later, c.handle_log.ensures.cause.disk_later);
      tell_later = omega (arith, so_far.tell_later, c.handle_log.ensures.cause.tell_later);
    }

pub returns-clause-handled : goal.returns-clause-handled
returns-clause-handled g c t =
    let view = g.H.Host.view in
    let so_far = c.loop-name.invariant in
    all-handled (is_placed c.args.places.now) c.args.area c.args.names.now (view c.args.host.now) (view c.loop-name.host) (λ r may. g.met.H.Host.names_stay c.loop-name.host r may) (c.requires.listed t) (so_far.goes t)
    (λ n k. so_far.done t n (subst (λ (xs : List (List ℕ)). Contains xs n) (sym (take_all c.loop-name.name-index c.args.names.now c.loop-name-test.false)) k))
