use Rattle.std.proofs.Common.{◌≡◌, ◌≤◌, ◌++◌, IsTrue, true, List, take}
use Rattle.std.specs.List.{list_all}
use Rattle.q_books.specs.HostStands.{HostStands, KeepsOtherNotes, Takes}
use Rattle.q_books.specs.Notes.{HasNotes}
use Rattle.q_model.specs.Book.{Book}
use Rattle.q_model.specs.FailureLog.{is_log_code}
use Rattle.q_model.specs.IdTexts.{id_text}
use Rattle.q_model.specs.declared.outcome.Note.{Note}
use Rattle.q_model.specs.declared.spot.Area.TheVariants as areas
use Rattle.q_engine.proofs.noting.note_all.Given as goal

abbrev pub invariant-loop-note : goal.invariant-loop-note
invariant-loop-note g l =
    let view = g.H.Host.view in
    let faults = g.H.Host.faults in
    record {
      noted : IsTrue g.H.Host.tells → list_all (λ (n : Note). is_log_code n.code) l.notes ≡ true → (before : List Note) → HasNotes before ((view l.fn.host).files areas.Defer (id_text l.fn.id)) → HasNotes (before ++ take l.note-index l.notes) ((view l.host).files areas.Defer (id_text l.fn.id));
      book : IsTrue g.H.Host.tells → (b : Book) → HostStands (view l.fn.host) b → Takes b b (view l.fn.host) (view l.host);
      others : IsTrue g.H.Host.tells → KeepsOtherNotes (id_text l.fn.id) (view l.fn.host) (view l.host);
      disk_later : (faults l.fn.host).disk ≤ (faults l.host).disk;
      tell_later : (faults l.fn.host).tell ≤ (faults l.host).tell;
    }
