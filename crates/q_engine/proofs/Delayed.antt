-- The notes that are made of outcomes are those that the age of the message says.
use Rattle.std.proofs.Common.{◌≡◌, ◌∙◌, ◌++◌, ℕ, Bool, true, false, List, [], ◌∷◌, Option, Some, None, map, refl, sym, ap, subst, if◌then◌else◌, append-nil}
use Rattle.std.specs.List.{cons_option, list_all}
use Rattle.std.specs.Option.{option_map_or}
use Rattle.std.proofs.lemmas.Bool.{and_from, and_parts}
use Rattle.q_model.specs.declared.id.Id.{Id}
use Rattle.q_model.specs.declared.outcome.Note.{Note}
use Rattle.q_model.specs.declared.outcome.Outcome.{Outcome}
use Rattle.q_model.specs.declared.outcome.Outcome.TheVariants as outcomes
use Rattle.q_model.specs.declared.spot.Area.TheVariants as areas
use Rattle.q_model.specs.Book.{Book, message_of}
use Rattle.q_model.specs.FailureLog.{is_log_code}
use Rattle.q_model.specs.IdTexts.{id_text}
use Rattle.q_model.specs.Ledger.{Ledger}
use Rattle.q_model.specs.Memory.{is_admitted}
use Rattle.q_model.specs.Message.{Message}
use Rattle.q_model.specs.Settings.{World}
use Rattle.q_model.specs.SpoolFiles.{Files}
use Rattle.q_model.specs.Times.{is_expired}
use Rattle.q_laws.proofs.Synced.{admitted_active}
use Rattle.q_books.specs.Notes.{delay_of, delays, delays_at, HasNotes}
use Rattle.q_core.specs.Agrees.{ForLedgers}
use Rattle.q_core.specs.declared.state.Core.{Core}
use Rattle.q_engine.specs.Delays.{AddsDelays, note_of, notes_for, row_note, row_outcomes}
use Rattle.q_core.specs.Hearing.{has_log_code}

abbrev coded : Note → Bool
coded n = is_log_code n.code

-- ---- the code that a log can hold

notes_coded : (ps : List ℕ) (os : List Outcome) → list_all has_log_code os ≡ true → list_all coded (notes_for ps os) ≡ true
notes_coded [] os h = refl
notes_coded (p ∷ ps) [] h = refl
notes_coded (p ∷ ps) (o ∷ os) h = one o (and_parts (has_log_code o) (list_all has_log_code os) h).0 (notes_coded ps os (and_parts (has_log_code o) (list_all has_log_code os) h).1)
  where
    one : (o : Outcome) → has_log_code o ≡ true → list_all coded (notes_for ps os) ≡ true → list_all coded (cons_option (note_of p o) (notes_for ps os)) ≡ true
    one outcomes.Ok k rest = rest
    one (outcomes.Never code) k rest = rest
    one (outcomes.Later code) k rest = and_from (is_log_code code) (list_all coded (notes_for ps os)) k rest

rows_coded : (ps : List ℕ) → list_all coded (map row_note ps) ≡ true
rows_coded [] = refl
rows_coded (p ∷ ps) = rows_coded ps

rows_for : (ps : List ℕ) → notes_for ps (row_outcomes ps) ≡ map row_note ps
rows_for [] = refl
rows_for (p ∷ ps) = ap (λ (ns : List Note). row_note p ∷ ns) (rows_for ps)

-- ---- by the age of the message

module _ (w : World) (time : ℕ) (m : Message) where
  young_one : (p : ℕ) (o : Outcome) → is_expired w time m ≡ false → delay_of w time m p o ≡ note_of p o
  young_one p outcomes.Ok h = refl
  young_one p (outcomes.Never code) h = refl
  young_one p (outcomes.Later code) h = ap (λ (b : Bool). if b then None else Some (record { position = p; code = code })) h

  old_one : (p : ℕ) (o : Outcome) → is_expired w time m ≡ true → delay_of w time m p o ≡ None
  old_one p outcomes.Ok h = refl
  old_one p (outcomes.Never code) h = refl
  old_one p (outcomes.Later code) h = ap (λ (b : Bool). if b then None else Some (record { position = p; code = code })) h

  young : (ps : List ℕ) (os : List Outcome) → is_expired w time m ≡ false → delays w time m ps os ≡ notes_for ps os
  young [] os h = refl
  young (p ∷ ps) [] h = refl
  young (p ∷ ps) (o ∷ os) h = ap (λ (n : Option Note). cons_option n (delays w time m ps os)) (young_one p o h) ∙ ap (cons_option (note_of p o)) (young ps os h)

  old : (ps : List ℕ) (os : List Outcome) → is_expired w time m ≡ true → delays w time m ps os ≡ []
  old [] os h = refl
  old (p ∷ ps) [] h = refl
  old (p ∷ ps) (o ∷ os) h = ap (λ (n : Option Note). cons_option n (delays w time m ps os)) (old_one p o h) ∙ old ps os h

-- the code tells whether the message is too old
abbrev pub TellsAge : Core → Id → Bool → Type 0
TellsAge c id expired = ForLedgers c (λ w l. (m : Message) → message_of l.book id ≡ Some m → is_admitted l id ≡ true → expired ≡ is_expired w l.now m)

module _ (c : Core) (id : Id) (ps : List ℕ) (os : List Outcome) (f g : Files) (expired : Bool) (tells : TellsAge c id expired) where
  -- nothing is noted of one that is too old
  pub adds_none : expired ≡ true → (f ≡ g) → AddsDelays c id ps os f g
  adds_none is same w l a here notes has =
      let (m, active) = admitted_active w l id a.consistent here in
      let age : is_expired w l.now m ≡ true = sym (tells w l a m active.there here) ∙ is in
      let none : delays_at w l id ps os ≡ [] = ap (λ (o : Option Message). option_map_or (λ (x : Message). delays w l.now x ps os) o []) active.there ∙ old w l.now m ps os age in
      subst (λ (ns : List Note). HasNotes ns (g areas.Defer (id_text id))) (sym (ap (λ (ns : List Note). notes ++ ns) none ∙ append-nil notes))
      (subst (λ (h : Files). HasNotes notes (h areas.Defer (id_text id))) same has)

  -- and these of another
  pub adds_notes : (made : List Note) → expired ≡ false → made ≡ notes_for ps os → ((notes : List Note) → HasNotes notes (f areas.Defer (id_text id)) → HasNotes (notes ++ made) (g areas.Defer (id_text id))) → AddsDelays c id ps os f g
  adds_notes made is are noted w l a here notes has =
      let (m, active) = admitted_active w l id a.consistent here in
      let age : is_expired w l.now m ≡ false = sym (tells w l a m active.there here) ∙ is in
      let all : delays_at w l id ps os ≡ made = ap (λ (o : Option Message). option_map_or (λ (x : Message). delays w l.now x ps os) o []) active.there ∙ young w l.now m ps os age ∙ sym are in
      subst (λ (ns : List Note). HasNotes (notes ++ ns) (g areas.Defer (id_text id))) (sym all) (noted notes has)

-- the notes of a row
pub made_rows : (ps : List ℕ) (made : List Note) → made ≡ map row_note ps → made ≡ notes_for ps (row_outcomes ps)
made_rows ps made is = is ∙ sym (rows_for ps)

-- what is put off is the same where book and clock are
pub delays_same : (w : World) (l k : Ledger) (id : Id) (ps : List ℕ) (os : List Outcome) → k.book ≡ l.book → k.now ≡ l.now → delays_at w k id ps os ≡ delays_at w l id ps os
delays_same w l k id ps os book now =
    ap (λ (b : Book). option_map_or (λ (m : Message). delays w k.now m ps os) (message_of b id) []) book
    ∙ ap (λ (t : ℕ). option_map_or (λ (m : Message). delays w t m ps os) (message_of l.book id) []) now

-- the codes of the notes that were made
pub row_codes : (ps : List ℕ) (made : List Note) → made ≡ map row_note ps → list_all coded made ≡ true
row_codes ps made is = ap (list_all coded) is ∙ rows_coded ps

pub reply_codes : (ps : List ℕ) (os : List Outcome) (made : List Note) → made ≡ notes_for ps os → list_all has_log_code os ≡ true → list_all coded made ≡ true
reply_codes ps os made is codes = ap (list_all coded) is ∙ notes_coded ps os codes
