use Rattle.std.proofs.Common.{◌≡◌, ◌≤◌, IsTrue, true}
use Rattle.q_model.specs.Ledger.{Ledger}
use Rattle.q_model.specs.Settings.{World}
use Rattle.q_books.specs.HostStands.{KeepsNotes, Takes}
use Rattle.q_core.specs.Deciding.{is_answered}
use Rattle.q_core.specs.Looking.{looks_left}
use Rattle.q_engine.specs.Stands.{EngineStands}
use Rattle.q_engine.proofs.engine.Engine.look_ahead.Given as goal

-- nothing but looks was done
abbrev pub invariant-scan : goal.invariant-scan
invariant-scan g l =
    let view = g.H.Host.view in
    let faults = g.H.Host.faults in
    record {
      answered : is_answered l.self.core.value.question ≡ true;
      timed : l.self.core.value.timed ≡ true;
      rest : l.self ≡ record l.fn.self { core = l.self.core };
      stands : IsTrue g.H.Host.tells → (w : World) (k : Ledger) → EngineStands w l.fn.self (view l.fn.host) k → EngineStands w l.self (view l.host) k × Takes k.book k.book (view l.fn.host) (view l.host);
      notes : IsTrue g.H.Host.tells → KeepsNotes (view l.fn.host) (view l.host);
      disk_later : (faults l.fn.host).disk ≤ (faults l.host).disk;
      tell_later : (faults l.fn.host).tell ≤ (faults l.host).tell;
    }

-- each answer leaves fewer looks
abbrev pub decreases-scan : goal.decreases-scan
decreases-scan g l = looks_left l.self.core.value
