use Rattle.std.proofs.Common.{◌≤◌, IsTrue, List, map, ℕ}
use Rattle.std.specs.BTreeMap.{get}
use Rattle.std.specs.Ordering.{nat_cmp}
use Rattle.q_host.specs.Calls.{Stays}
use Rattle.q_model.specs.Message.{Message}
use Rattle.q_pending.specs.Readings.{IsPendingAhead, IsReading, pending_left}
use Rattle.q_listing.proofs.GoneLaws.{IsGoneTo}
use Rattle.q_views.proofs.JsonLaws.{AreMade}
use Rattle.serde_json.specs.View.{view as view_of}
use Rattle.q_views.proofs.json.each_object.Given as goal

abbrev pub invariant-loop-objects : goal.invariant-loop-objects
invariant-loop-objects g l =
    let view = g.H.Host.view in
    let faults = g.H.Host.faults in
    record {
      reading : IsTrue g.H.Host.tells → IsReading (view l.host).files l.reader;
      made : IsTrue g.H.Host.tells → (m : Message) → (positions : List ℕ) → IsPendingAhead (view l.fn.host).files m l.fn.reader positions
          → IsGoneTo positions (IsPendingAhead (view l.fn.host).files m l.reader) (AreMade (get nat_cmp l.codes) m (map view_of l.objects.items));
      stays : IsTrue g.H.Host.tells → Stays (view l.fn.host) (view l.host);
      disk_later : (faults l.fn.host).disk ≤ (faults l.host).disk;
      tell_later : (faults l.fn.host).tell ≤ (faults l.host).tell;
    }

-- each that is made leaves fewer
abbrev pub decreases-loop-objects : goal.decreases-loop-objects
decreases-loop-objects g l = pending_left l.reader
