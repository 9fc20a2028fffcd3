-- A message that comes: its id is new, and its file makes the book that of its entry.
use Rattle.std.proofs.Common.{◌≡◌, ◌<◌, ◌+◌, ◌^◌, ◌-◌, ℕ, Bool, true, false, List, [], ◌∷◌, map, Option, Some, None, is_some, sym, subst, refl, ap, ◌∙◌, arith, inl, inr}
use Rattle.std.specs.Prelude.{find, if◌then◌else◌}
use Rattle.std.proofs.lemmas.Bool.{and_from, or_from}
use Rattle.q_model.specs.Arrivals.{next_id}
use Rattle.q_model.specs.Book.{all_ids, Book, Damaged, damaged_of, message_of, stands}
use Rattle.q_model.specs.BookChanges.{add_message}
use Rattle.q_model.specs.Ids.{id_eq}
use Rattle.q_model.specs.IdTexts.{IsId}
use Rattle.q_model.specs.Ledger.{Ledger}
use Rattle.q_model.specs.Message.{Message}
use Rattle.q_model.specs.Settings.{World}
use Rattle.q_model.specs.SpoolFiles.{Files}
use Rattle.q_model.specs.Step.{change}
use Rattle.q_model.specs.Values.{Head, Receiver}
use Rattle.q_model.specs.declared.entry.Entry.TheVariants as entries
use Rattle.q_model.specs.declared.id.Id.{Id}
use Rattle.q_model.proofs.IdLaws.{id_eq-refl, id_eq-true}
use Rattle.q_host.specs.View.{View}
use Rattle.q_laws.proofs.Arrived.{new_addable}
use Rattle.q_laws.proofs.Books.{message_in}
use Rattle.q_laws.proofs.Members.{in_left, in_map, in_right, IsIn}
use Rattle.q_files.specs.Submissions.{AddsMessage, submitted}
use Rattle.q_model.specs.Step.{allowed}
use Rattle.q_engine.specs.Stands.{EngineStands}
use Rattle.q_engine.proofs.HeardEvents.{allowed_by}
use Rattle.q_engine.specs.declared.engine.Engine.{Engine}

-- who isn't among the ids doesn't stand in the book
first_or : (x : Damaged) (xs : List Damaged) (id : Id) (d : Damaged) → (find (λ (y : Damaged). id_eq y.id id) xs ≡ Some d → IsIn id (map (λ (y : Damaged). y.id) xs))
    → (t : Bool) → id_eq x.id id ≡ t → (if t then Some x else find (λ (y : Damaged). id_eq y.id id) xs) ≡ Some d → IsIn id (x.id ∷ map (λ (y : Damaged). y.id) xs)
first_or x xs id d rest true same k = inl (id_eq-true x.id id same)
first_or x xs id d rest false same k = inr (rest k)

damaged_in : (ds : List Damaged) (id : Id) (d : Damaged) → find (λ (x : Damaged). id_eq x.id id) ds ≡ Some d → IsIn id (map (λ (x : Damaged). x.id) ds)
damaged_in [] id d h = absurd cc
damaged_in (x ∷ xs) id d h = first_or x xs id d (damaged_in xs id d) (id_eq x.id id) refl h

pub not_standing : (b : Book) (id : Id) → (IsIn id (all_ids b) → ⊥) → stands b id ≡ false
not_standing b id absent = or_from (is_some (message_of b id)) (is_some (damaged_of b id)) (no_message (message_of b id) refl) (no_damaged (damaged_of b id) refl)
  where
    no_message : (o : Option Message) → message_of b id ≡ o → is_some o ≡ false
    no_message None e = refl
    no_message (Some m) e = let inside = message_in b id m e in
        absurd (absent (in_left id (map (λ (x : Message). x.id) b.messages) (map (λ (x : Damaged). x.id) b.damaged) (subst (λ i. IsIn i (map (λ (x : Message). x.id) b.messages)) inside.1 (in_map (λ (x : Message). x.id) m b.messages inside.0))))

    no_damaged : (o : Option Damaged) → damaged_of b id ≡ o → is_some o ≡ false
    no_damaged None e = refl
    no_damaged (Some d) e = absurd (absent (in_right id (map (λ (x : Message). x.id) b.messages) (map (λ (x : Damaged). x.id) b.damaged) (damaged_in b.damaged id d e)))

-- the same by other names of the head and the content
pub adds_as : (f : Files) (i : Id) (head other : Head) (to : List Receiver) (content bytes : List ℕ) (b k : Book) → other ≡ head → bytes ≡ content → AddsMessage f i head to content b k → AddsMessage f i other to bytes b k
adds_as f i head other to content bytes b k same is h = subst (λ (x : Head). AddsMessage f i x to bytes b k) (sym same) (subst (λ (x : List ℕ). AddsMessage f i head to x b k) (sym is) h)

module _ (w : World) (l : Ledger) (engine : Engine) (v : View) (h : EngineStands w engine v l) where
  -- the id that the engine gives it
  abbrev pub mail_id : Id
  mail_id = record { generation = engine.generation; serial = engine.arrivals + 1; bounce = false }

  pub mail_next : mail_id ≡ next_id l
  mail_next = ap (λ (g : ℕ). record { generation = g; serial = engine.arrivals + 1; bounce = false }) h.counts.generation ∙ ap (λ (n : ℕ). record { generation = l.book.generation; serial = n + 1; bounce = false }) h.counts.arrivals

  module _ (sender : Option (List ℕ)) (to : List Receiver) (content : List ℕ) where
    pub mail_allowed : engine.core.value.timed ≡ true → allowed w l (entries.Arrive mail_id sender to content) ≡ true
    mail_allowed timed = allowed_by w l (entries.Arrive mail_id sender to content) h.core.living
        (and_from l.timed (id_eq mail_id (next_id l)) (sym h.core.matches.parts.timed ∙ timed) (subst (λ (i : Id). id_eq mail_id i ≡ true) mail_next (id_eq-refl mail_id)))

    -- the message's file makes the book that of its entry
    pub mail_adds : (arrival : ℕ) → arrival ≡ l.now → engine.generation < 2 ^ 32 → engine.arrivals < 2 ^ 32 - 1 → AddsMessage v.files mail_id (record { sender = sender; arrival = arrival }) to content l.book (change w l (entries.Arrive mail_id sender to content)).book
    mail_adds arrival same fits few =
        let form : IsId mail_id = (record { generation = h.counts.begun; generation_fits = fits; serial = omega arith; serial_fits = omega (arith, few) }) in
        let fresh : stands l.book mail_id ≡ false = ap (stands l.book) mail_next ∙ not_standing l.book (next_id l) (new_addable l sender to content h.core.consistent.book).new in
        record { form = form; fresh = fresh; no_log = h.logs mail_id form fresh; changed = ap (λ (t : ℕ). add_message l.book (submitted mail_id (record { sender = sender; arrival = t }) to content)) (sym same) }
