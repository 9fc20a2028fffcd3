use Rattle.std.proofs.Common.{◌≡◌, ◌-◌, ◌≤◌, IsTrue}
use Rattle.std.specs.Option.{IfSome}
use Rattle.q_host.specs.Calls.{Stays}
use Rattle.q_message.specs.Pending.{HasCursor}
use Rattle.q_message.specs.Told.{bytes_at}
use Rattle.q_files.proofs.places.mark_place.Given as goal

-- the cursor stands at a recipient of the file, and not behind the position
abbrev pub invariant-loop-batch : goal.invariant-loop-batch
invariant-loop-batch g l =
    let view = g.H.Host.view in
    let faults = g.H.Host.faults in
    record {
      room : l.batch.room ≡ 256;
      before : IsTrue g.H.Host.tells → l.cursor.position ≤ l.position;
      reading : IsTrue g.H.Host.tells → IfSome (bytes_at (view l.fn.host) l.spot) (λ bytes. HasCursor bytes l.file.recipients l.cursor);
      stays : IsTrue g.H.Host.tells → Stays (view l.fn.host) (view l.host);
      disk_later : (faults l.fn.host).disk ≤ (faults l.host).disk;
      tell_later : (faults l.fn.host).tell ≤ (faults l.host).tell;
    }

-- each batch passes some of the recipients
abbrev pub decreases-loop-batch : goal.decreases-loop-batch
decreases-loop-batch g l = l.file.recipients - l.cursor.position
