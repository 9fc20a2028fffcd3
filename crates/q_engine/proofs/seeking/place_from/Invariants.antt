use Rattle.std.proofs.Common.{◌≡◌, ◌-◌, ◌≤◌, IsTrue}
use Rattle.std.specs.Option.{IfSome}
use Rattle.q_host.specs.Calls.{Stays}
use Rattle.q_message.specs.Pending.{HasCursor}
use Rattle.q_message.specs.Told.{bytes_at}
use Rattle.q_engine.proofs.OpenRecipients.{PassesBelow}
use Rattle.q_engine.proofs.seeking.place_from.Given as goal

-- only recipients below the position were passed over
abbrev pub invariant-loop-batch : goal.invariant-loop-batch
invariant-loop-batch g l =
    let view = g.H.Host.view in
    let faults = g.H.Host.faults in
    record {
      room : l.batch.room ≡ 256;
      reading : IsTrue g.H.Host.tells → IfSome (bytes_at (view l.fn.host) l.spot) (λ bytes. HasCursor bytes l.file.recipients l.cursor);
      below : IsTrue g.H.Host.tells → IfSome (bytes_at (view l.fn.host) l.spot) (PassesBelow l.from l.cursor.position);
      stays : IsTrue g.H.Host.tells → Stays (view l.fn.host) (view l.host);
      disk_later : (faults l.fn.host).disk ≤ (faults l.host).disk;
      tell_later : (faults l.fn.host).tell ≤ (faults l.host).tell;
    }

-- some of the recipients are passed each time
abbrev pub decreases-loop-batch : goal.decreases-loop-batch
decreases-loop-batch g l = l.file.recipients - l.cursor.position
