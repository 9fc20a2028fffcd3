-- A deferral log with one note more, written over its closed gate.
use Rattle.std.proofs.Common.{◌≡◌, ◌∙◌, ◌+◌, ◌-◌, ◌/◌, ◌<◌, ◌≤◌, ◌^◌, ℕ, suc, true, List, [], ◌∷◌, ◌++◌, length, drop, flat_map, Option, Some, None, refl, sym, ap, subst, append_assoc, append-nil, arith, length-append}
use Rattle.std.specs.Option.{option_map_or}
use Rattle.std.specs.Prelude.{unwrap_or}
use Rattle.std.proofs.lemmas.List.{drop_all, take_at}
use Rattle.q_model.specs.declared.outcome.Note.{Note}
use Rattle.q_model.specs.declared.spot.Area.TheVariants as areas
use Rattle.q_model.specs.FailureLog.{is_log_code, log_notes, note_bytes, note_in, records_with}
use Rattle.q_model.specs.SpoolFiles.{Files}
use Rattle.q_model.proofs.FailureLogLaws.{log_notes-closed, log_notes-cons}
use Rattle.q_host.specs.Files.{written}
use Rattle.q_books.specs.Notes.{HasNotes, IsNoteLog}

one_read : (n : Note) (ns later : List Note) (o : Option Note) → option_map_or (λ (a : Note). a ∷ later) o [] ≡ n ∷ ns → (o ≡ Some n) × (later ≡ ns)
one_read n ns later None e = absurd cc
one_read n ns later (Some a) e = (ap (λ (x : Note). Some x) (head e), tail e)
  where
    head : a ∷ later ≡ n ∷ ns → a ≡ n
    head k = cc

    tail : a ∷ later ≡ n ∷ ns → later ≡ ns
    tail k = cc

-- what stands in front of such bytes, and what is behind it
first_read : (n : Note) (ns : List Note) (rest : List ℕ) → log_notes (note_bytes n ++ rest) ≡ n ∷ ns → (note_in (note_bytes n ++ rest) ≡ Some n) × (log_notes rest ≡ ns)
unfolding log_notes
first_read n ns rest e =
    let count : length (note_bytes n ++ rest) / 8 ≡ suc (length rest / 8) = omega arith in
    one_read n ns (records_with note_in (length rest / 8) rest) (note_in (note_bytes n ++ rest)) (sym (ap (λ (i : ℕ). records_with note_in i (note_bytes n ++ rest)) count) ∙ e)

one_more : (n : Note) (rest : List ℕ) → note_in (note_bytes n ++ rest) ≡ Some n → log_notes (note_bytes n ++ rest) ≡ n ∷ log_notes rest
unfolding log_notes
one_more n rest is =
    let count : length (note_bytes n ++ rest) / 8 ≡ suc (length rest / 8) = omega arith in
    ap (λ (i : ℕ). records_with note_in i (note_bytes n ++ rest)) count ∙ ap (λ (o : Option Note). option_map_or (λ (a : Note). a ∷ records_with note_in (length rest / 8) rest) o []) is

-- what is read of a log in front of a closed gate is read in front of other bytes
read_on : (ns : List Note) (gate rest : List ℕ) → log_notes gate ≡ [] → log_notes (flat_map note_bytes ns ++ gate) ≡ ns → log_notes (flat_map note_bytes ns ++ rest) ≡ ns ++ log_notes rest
read_on [] gate rest none e = refl
read_on (n ∷ ns) gate rest none e =
    let first = first_read n ns (flat_map note_bytes ns ++ gate) (sym (ap log_notes (append_assoc (note_bytes n) (flat_map note_bytes ns) gate)) ∙ e) in
    ap log_notes (append_assoc (note_bytes n) (flat_map note_bytes ns) rest)
    ∙ one_more n (flat_map note_bytes ns ++ rest) first.0
    ∙ ap (λ (xs : List Note). n ∷ xs) (read_on ns gate rest none first.1)

flat_more : (ns : List Note) (n : Note) → flat_map note_bytes (ns ++ n ∷ []) ≡ flat_map note_bytes ns ++ note_bytes n
flat_more [] n = append-nil (note_bytes n)
flat_more (m ∷ ns) n = ap (λ (xs : List ℕ). note_bytes m ++ xs) (flat_more ns n) ∙ sym (append_assoc (note_bytes m) (flat_map note_bytes ns) (note_bytes n))

-- the new record and gate stand behind the front, where they are written over the gate
over_gate : (front over : List ℕ) (gate : ℕ) → 1 ≤ length over → written (length (front ++ gate ∷ []) - 1) over (front ++ gate ∷ []) ≡ front ++ over
over_gate front over gate some =
    let bytes = front ++ gate ∷ [] in
    let here : length bytes - 1 ≡ length front = omega (arith, length-append front (gate ∷ [])) in
    let past : length bytes ≤ length front + length over = omega (arith, some, length-append front (gate ∷ [])) in
    ap (λ (k : ℕ). written k over bytes) here
    ∙ ap (λ (xs : List ℕ). (xs ++ over) ++ drop (length front + length over) bytes) (take_at front (gate ∷ []) (length front) refl)
    ∙ ap (λ (xs : List ℕ). (front ++ over) ++ xs) (drop_all (length front + length over) bytes past)
    ∙ append-nil (front ++ over)

pub record IsFit (note : Note) : Type 0 where
  pub position : note.position < 2 ^ 32
  pub code : is_log_code note.code ≡ true

is_log : (ns : List Note) (note : Note) (gate bytes : List ℕ) → IsFit note → log_notes gate ≡ [] → log_notes (flat_map note_bytes ns ++ gate) ≡ ns → bytes ≡ flat_map note_bytes ns ++ (note_bytes note ++ 0 ∷ []) → IsNoteLog (ns ++ note ∷ []) bytes
is_log ns note gate bytes fit none read is = record {
  gate = 0;
  closed = refl;
  written = is ∙ sym (append_assoc (flat_map note_bytes ns) (note_bytes note) (0 ∷ [])) ∙ ap (λ (xs : List ℕ). xs ++ 0 ∷ []) (sym (flat_more ns note));
  read = ap log_notes is ∙ read_on ns gate (note_bytes note ++ 0 ∷ []) none read
      ∙ ap (λ (xs : List Note). ns ++ xs) (log_notes-cons note (0 ∷ []) fit.position fit.code ∙ ap (λ (xs : List Note). note ∷ xs) (log_notes-closed 0 [] refl));
}

-- The log has one note more, and is of its form again.
pub noted : (o : Option (List ℕ)) (ns : List Note) (note : Note) → IsFit note → HasNotes ns o → IsNoteLog (ns ++ note ∷ []) (written (length (unwrap_or o []) - 1) (note_bytes note ++ 0 ∷ []) (unwrap_or o []))
noted None ns note fit none =
    subst (λ (xs : List Note). IsNoteLog (xs ++ note ∷ []) (written 0 (note_bytes note ++ 0 ∷ []) [])) (sym none)
    (is_log [] note (0 ∷ []) (written 0 (note_bytes note ++ 0 ∷ []) []) fit (log_notes-closed 0 [] refl) (log_notes-closed 0 [] refl) refl)
noted (Some bytes) ns note fit log =
    let front = flat_map note_bytes ns in
    is_log ns note (log.gate ∷ []) (written (length bytes - 1) (note_bytes note ++ 0 ∷ []) bytes) fit (log_notes-closed log.gate [] log.closed) (sym (ap log_notes log.written) ∙ log.read)
    (ap (λ (xs : List ℕ). written (length xs - 1) (note_bytes note ++ 0 ∷ []) xs) log.written ∙ over_gate front (note_bytes note ++ 0 ∷ []) log.gate (omega arith))

-- the same where the bytes that were written over are named
pub noted_at : (f g : Files) (name text bytes : List ℕ) (ns : List Note) (note : Note) → IsFit note → name ≡ text → bytes ≡ note_bytes note ++ 0 ∷ []
    → g areas.Defer name ≡ Some (written (length (unwrap_or (f areas.Defer name) []) - 1) bytes (unwrap_or (f areas.Defer name) [])) → HasNotes ns (f areas.Defer text) → HasNotes (ns ++ note ∷ []) (g areas.Defer text)
noted_at f g name text bytes ns note fit is made there old =
    let here : g areas.Defer text ≡ Some (written (length (unwrap_or (f areas.Defer text) []) - 1) (note_bytes note ++ 0 ∷ []) (unwrap_or (f areas.Defer text) [])) =
    subst (λ (n : List ℕ). g areas.Defer n ≡ Some (written (length (unwrap_or (f areas.Defer n) []) - 1) (note_bytes note ++ 0 ∷ []) (unwrap_or (f areas.Defer n) []))) is
    (subst (λ (xs : List ℕ). g areas.Defer name ≡ Some (written (length (unwrap_or (f areas.Defer name) []) - 1) xs (unwrap_or (f areas.Defer name) []))) made there) in
    subst (HasNotes (ns ++ note ∷ [])) (sym here) (noted (f areas.Defer text) ns note fit old)
