use Rattle.std.proofs.Common.{◌++◌, ◌∙◌, ap, sym, arith, take, List, ℕ, take_all, [], slice_index_or}
use Rattle.std.specs.List.{cons_option}
use Rattle.q_engine.specs.Delays.{note_of, notes_for}
use Rattle.q_model.specs.declared.outcome.Note.{Note}
use Rattle.q_model.specs.declared.outcome.Outcome.TheVariants as outcomes
use Rattle.q_engine.proofs.NoteLists.{notes_more}
use Rattle.q_engine.proofs.noting.reply_notes.Goals as goal

pub loop-i-preserved : goal.loop-i-preserved
loop-i-preserved c = c.in_ok-add_note.ensures ∙ ap (λ (ns : List Note). ns ++ cons_option (note_of (slice_index_or c.args.positions.now c.loop-i.i 0) (slice_index_or c.args.outcomes.now c.loop-i.i outcomes.Ok)) []) c.loop-i.invariant ∙ sym (notes_more c.args.positions.now c.args.outcomes.now c.loop-i.i 0 outcomes.Ok (omega (arith, c.loop-i-test.true)) c.requires)

pub returns : goal.returns
returns c = c.loop-i.invariant ∙ ap (λ (ps : List ℕ). notes_for ps (take c.loop-i.i c.args.outcomes.now)) (take_all c.loop-i.i c.args.positions.now (omega (arith, c.loop-i-test.false)))
    ∙ ap (notes_for c.args.positions.now) (take_all c.loop-i.i c.args.outcomes.now (omega (arith, c.loop-i-test.false, c.requires)))
