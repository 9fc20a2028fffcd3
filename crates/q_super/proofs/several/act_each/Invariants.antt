use Rattle.std.proofs.Common.{◌≤◌, IsTrue}
use Rattle.q_super.specs.FoundPlaces.{AreSourcePlaces}
use Rattle.q_super.specs.Plays.{OnBook}
use Rattle.q_super.proofs.EachActs.{FrontDone}
use Rattle.q_super.proofs.several.act_each.Given as goal

-- the first ids had their turn
abbrev pub invariant-loop-id : goal.invariant-loop-id
invariant-loop-id g l =
    let view = g.H.Host.view in
    let faults = g.H.Host.faults in
    record {
      sources : AreSourcePlaces l.act l.places;
      front : IsTrue g.H.Host.tells → OnBook (view l.fn.host) (λ b. FrontDone b l.act l.ids l.id-index l.lacks l.places (view l.fn.host) (view l.host));
      disk_later : (faults l.fn.host).disk ≤ (faults l.host).disk;
      tell_later : (faults l.fn.host).tell ≤ (faults l.host).tell;
    }
