-- Lists of notes, one more at a time.
use Rattle.std.proofs.Common.{◌≡◌, ◌<◌, ◌+◌, ◌++◌, ℕ, Bool, true, List, [], ◌∷◌, take, length, Option, sym, subst, ap, ◌∙◌, append_assoc, arith, slice_index_or, zero, suc, refl, Some, None}
use Rattle.std.specs.List.{cons_option, list_all}
use Rattle.std.proofs.lemmas.Bool.{and_parts}
use Rattle.std.proofs.lemmas.List.{take_more}
use Rattle.q_books.specs.Notes.{HasNotes}
use Rattle.q_model.specs.FailureLog.{is_log_code}
use Rattle.q_engine.specs.Delays.{note_of, notes_for}
use Rattle.q_model.specs.declared.outcome.Note.{Note}
use Rattle.q_model.specs.declared.outcome.Outcome.{Outcome}

abbrev coded : Note → Bool
coded n = is_log_code n.code

pub all_code : (notes : List Note) (i : ℕ) (d : Note) → i < length notes → list_all coded notes ≡ true → is_log_code (slice_index_or notes i d).code ≡ true
all_code [] i d below all = absurd (omega (arith, below))
all_code (n ∷ ns) zero d below all = (and_parts (coded n) (list_all coded ns) all).0
all_code (n ∷ ns) (suc i) d below all = all_code ns i d (omega (arith, below)) (and_parts (coded n) (list_all coded ns) all).1

-- one more note behind those so far
pub noted_more : (before notes : List Note) (i : ℕ) (d : Note) (log : Option (List ℕ)) → i < length notes → HasNotes ((before ++ take i notes) ++ slice_index_or notes i d ∷ []) log → HasNotes (before ++ take (i + 1) notes) log
noted_more before notes i d log below has = subst (λ (xs : List Note). HasNotes xs log) (append_assoc before (take i notes) (slice_index_or notes i d ∷ []) ∙ ap (λ (xs : List Note). before ++ xs) (sym (take_more notes i d below))) has

notes_suc : (ps : List ℕ) (os : List Outcome) (i d : ℕ) (e : Outcome) → i < length ps → length ps ≡ length os → notes_for (take (suc i) ps) (take (suc i) os) ≡ notes_for (take i ps) (take i os) ++ cons_option (note_of (slice_index_or ps i d) (slice_index_or os i e)) []
notes_suc [] os i d e below same = absurd (omega (arith, below))
notes_suc (p ∷ ps) [] i d e below same = absurd (omega (arith, same))
notes_suc (p ∷ ps) (o ∷ os) zero d e below same = refl
notes_suc (p ∷ ps) (o ∷ os) (suc i) d e below same = ap (cons_option (note_of p o)) (notes_suc ps os i d e (omega (arith, below)) (omega (arith, same))) ∙ cons_behind (note_of p o) (notes_for (take i ps) (take i os)) (cons_option (note_of (slice_index_or ps i d) (slice_index_or os i e)) [])
  where
    cons_behind : (n : Option Note) (xs ys : List Note) → cons_option n (xs ++ ys) ≡ cons_option n xs ++ ys
    cons_behind None xs ys = refl
    cons_behind (Some n) xs ys = refl

pub notes_more : (ps : List ℕ) (os : List Outcome) (i d : ℕ) (e : Outcome) → i < length ps → length ps ≡ length os → notes_for (take (i + 1) ps) (take (i + 1) os) ≡ notes_for (take i ps) (take i os) ++ cons_option (note_of (slice_index_or ps i d) (slice_index_or os i e)) []
notes_more ps os i d e below same =
    let next : suc i ≡ i + 1 = omega arith in
    subst (λ (n : ℕ). notes_for (take n ps) (take n os) ≡ notes_for (take i ps) (take i os) ++ cons_option (note_of (slice_index_or ps i d) (slice_index_or os i e)) []) next (notes_suc ps os i d e below same)
