use Rattle.std.proofs.Common.{◌≡◌, ◌+◌, ◌-◌, ◌<◌, ◌≤◌, ◌^◌, drop, IsTrue, List, Some, take, ℕ}
use Rattle.q_message.specs.Told.{bytes_at}
use Rattle.q_telling.specs.Telling.{OnlyTells, TellsMore}
use Rattle.q_show.proofs.content.tell_bytes.Given as goal

abbrev pub invariant-loop-done : goal.invariant-loop-done
invariant-loop-done g l =
    let view = g.H.Host.view in
    let faults = g.H.Host.faults in
    record {
      within : l.done ≤ l.size;
      told : IsTrue g.H.Host.tells → l.at + l.size < 2 ^ 64 → (file : List ℕ) → bytes_at (view l.fn.host) l.fn.spot ≡ Some file → TellsMore (take l.done (drop l.at file)) (view l.fn.host) (view l.host);
      files : IsTrue g.H.Host.tells → (view l.host).files ≡ (view l.fn.host).files;
      only : IsTrue g.H.Host.tells → OnlyTells (view l.fn.host) (view l.host);
      disk_later : (faults l.fn.host).disk ≤ (faults l.host).disk;
      tell_later : (faults l.fn.host).tell ≤ (faults l.host).tell;
    }

-- each piece that is told leaves less
abbrev pub decreases-loop-done : goal.decreases-loop-done
decreases-loop-done g l = l.size - l.done
