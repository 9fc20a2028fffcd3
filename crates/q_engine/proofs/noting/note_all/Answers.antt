use Rattle.std.proofs.Common.{◌++◌, ◌∙◌, subst, arith, take, List, take_all}
use Rattle.q_books.proofs.Joining.{takes_kept}
use Rattle.q_books.specs.Notes.{HasNotes}
use Rattle.q_model.specs.IdTexts.{id_text}
use Rattle.q_model.specs.declared.outcome.Note.{Note}
use Rattle.q_model.specs.declared.spot.Area.TheVariants as areas
use Rattle.q_engine.proofs.NoteLists.{all_code, noted_more}
use Rattle.q_engine.proofs.noting.note_all.Goals as goal

pub loop-note-preserved : goal.loop-note-preserved
loop-note-preserved g c = record {
  noted = λ t codes before has. noted_more before c.args.notes.now c.loop-note.note-index (record { position = 0; code = 0 }) ((g.H.Host.view c.note_one.new.host).files areas.Defer (id_text c.args.id)) (omega (arith, c.loop-note-test.true))
      (c.in_ok-note_one.ensures.noted t (all_code c.args.notes.now c.loop-note.note-index (record { position = 0; code = 0 }) (omega (arith, c.loop-note-test.true)) codes) (before ++ take c.loop-note.note-index c.args.notes.now) (c.loop-note.invariant.noted t codes before has));
  book = λ t b h. let so_far = c.loop-note.invariant.book t b h in takes_kept b b _ _ _ so_far (c.in_ok-note_one.ensures.book t b so_far.stands);
  others = λ t n differ. c.in_ok-note_one.ensures.others t n differ ∙ c.loop-note.invariant.others t n differ;
  disk_later = omega (arith, c.loop-note.invariant.disk_later, c.in_ok-note_one.ensures.cause.disk_later);
  tell_later = omega (arith, c.loop-note.invariant.tell_later, c.in_ok-note_one.ensures.cause.tell_later);
}

pub returns-clause-noted : goal.returns-clause-noted
returns-clause-noted g c t codes before has =
    subst (λ (xs : List Note). HasNotes (before ++ xs) ((g.H.Host.view c.loop-note.host).files areas.Defer (id_text c.args.id)))
    (take_all c.loop-note.note-index c.args.notes.now (omega (arith, c.loop-note-test.false))) (c.loop-note.invariant.noted t codes before has)
