use Rattle.std.proofs.Common.{◌≡◌, ◌+◌, ◌++◌, ◌∷◌, [], List, arith, subst, sym, take, ℕ}
use Rattle.std.proofs.lemmas.List.{take_more}
use Rattle.std.specs.BTreeMap.{get}
use Rattle.std.specs.Ordering.{nat_cmp}
use Rattle.std.specs.Prelude.{slice_index_or}
use Rattle.q_model.specs.declared.outcome.Note.{Note}
use Rattle.q_listing.specs.Listings.{last_code}
use Rattle.q_listing.proofs.CodeLaws.{code_more}
use Rattle.q_listing.proofs.codes.last_codes.Goals as goal

pub loop-note-preserved : goal.loop-note-preserved
loop-note-preserved c =
    let notes = c.args.notes.now in
    let i = c.loop-note.note-index in
    let n : Note = slice_index_or notes i (record { position = 0; code = 0 }) in
    let more : take (i + 1) notes ≡ take i notes ++ n ∷ [] = take_more notes i (record { position = 0; code = 0 }) (omega (arith, c.loop-note-test.true)) in
    subst (λ (ns : List Note). (q : ℕ) → get nat_cmp c.insert.new.self q ≡ last_code ns q) (sym more)
    (code_more (take i notes) n c.loop-note.codes c.insert.new.self (c.in_ok-insert.ensures.updates.0) c.loop-note.invariant)
