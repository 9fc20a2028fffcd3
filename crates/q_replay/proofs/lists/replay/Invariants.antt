use Rattle.std.proofs.Common.{◌≤◌, ◌≡◌, false, IsTrue}
use Rattle.std.specs.Prelude.{IfSome}
use Rattle.q_engine.specs.Stands.{IsReady}
use Rattle.q_lines.specs.States.{text_left}
use Rattle.q_model.specs.Book.{Book}
use Rattle.q_model.specs.Settings.{World}
use Rattle.q_replay.proofs.FaultyLines.{IsRestOf}
use Rattle.q_replay.proofs.Replaying.{IsGivenTo, Went}
use Rattle.q_restart.specs.Damages.{IsUndamaged}
use Rattle.q_replay.proofs.lists.replay.Given as goal

abbrev pub invariant-loop-item : goal.invariant-loop-item
invariant-loop-item g l =
    let view = g.H.Host.view in
    let faults = g.H.Host.faults in
    let left = g.S.Source.left in
    let failed = g.S.Source.faults in
    record {
      went : IsTrue g.H.Host.tells → (w : World) → (b : Book) → IsGivenTo l.params l.fn.table w b (view l.fn.host)
          → Went w b (left l.fn.source) (text_left l.events.buffered (left l.source)) l.events l.engine (view l.fn.host) (view l.host);
      rest : IfSome (left l.fn.source) (λ bytes. IsRestOf bytes l.events (text_left l.events.buffered (left l.source)));
      some : IsTrue g.H.Host.tells → (w : World) × (b : Book) × IsGivenTo l.params l.fn.table w b (view l.fn.host);
      whole : IsTrue g.H.Host.tells → IsUndamaged (view l.fn.host).files;
      ready : IsReady l.engine;
      going : l.events.ended ≡ false;
      disk_later : (faults l.fn.host).disk ≤ (faults l.host).disk;
      tell_later : (faults l.fn.host).tell ≤ (faults l.host).tell;
      faultless : failed l.source ≡ failed l.fn.source;
    }

abbrev pub decreases-loop-item : goal.decreases-loop-item
decreases-loop-item g l = l.events.budget
