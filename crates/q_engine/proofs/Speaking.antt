-- What a decision says of its message, and where that stands.
use Rattle.std.proofs.Common.{◌≡◌, ◌<◌, ◌&&◌, ◌||◌, ◌==◌, ⊎_elim, ℕ, zero, suc, Bool, true, false, not, List, [], ◌∷◌, length, Option, Some, None, refl, sym, ap, subst, ◌∙◌, arith}
use Rattle.std.specs.Prelude.{slice_get}
use Rattle.std.specs.List.{list_all}
use Rattle.std.specs.Option.{IsSome, option_map_or}
use Rattle.std.proofs.lemmas.Bool.{and_parts, eqb-true}
use Rattle.q_model.specs.declared.entry.Entry.TheVariants as entries
use Rattle.q_model.specs.declared.id.Id.{Id}
use Rattle.q_model.specs.declared.rows.Place.{Place}
use Rattle.q_model.specs.declared.rows.Place.TheVariants as places
use Rattle.q_model.specs.declared.rows.Unsettled.{Unsettled}
use Rattle.q_model.specs.Book.{Book, message_of}
use Rattle.q_model.specs.Finishing.{is_clean}
use Rattle.q_model.specs.Ids.{id_eq}
use Rattle.q_model.specs.Ledger.{Ledger}
use Rattle.q_model.specs.Leftovers.{is_leftover, was_synced}
use Rattle.q_model.specs.Lists.{has_none}
use Rattle.q_model.specs.Marking.{is_unmarked_at, needs_mark}
use Rattle.q_model.specs.Memory.{is_admitted}
use Rattle.q_model.specs.Message.{is_logged, Message, pending, Recipient, unmarked_logged, written_marks}
use Rattle.q_model.specs.Next.{next}
use Rattle.q_model.specs.Places.{is_active}
use Rattle.q_model.specs.Settings.{World}
use Rattle.q_model.specs.SpoolFiles.{file_at}
use Rattle.q_model.specs.Values.{Spot}
use Rattle.q_model.proofs.IdLaws.{id_eq-true}
use Rattle.q_model.proofs.StandChanges.{Stands-message}
use Rattle.q_host.specs.View.{View}
use Rattle.q_laws.specs.Consistency.{IsConsistent, memory_positions}
use Rattle.q_laws.proofs.Books.{left_active}
use Rattle.q_laws.proofs.Decisions.{next_decided}
use Rattle.q_laws.proofs.First.{first_positions}
use Rattle.q_laws.proofs.Members.{all_at, IsIn}
use Rattle.q_laws.proofs.Synced.{admitted_active, found_admitted, IsActiveMessage}
use Rattle.q_laws.proofs.Unmarked.{bare}
use Rattle.q_books.specs.HostStands.{HostStands}
use Rattle.q_books.specs.Spots.{IsFileAt, spot_of}

active_place : (p : Place) → is_active p ≡ true → p ≡ places.Active
active_place places.Active h = refl
active_place places.Incoming h = absurd cc
active_place (places.Deferred due) h = absurd cc
active_place places.Hold h = absurd cc
active_place places.Corrupt h = absurd cc

-- where the file of a message in active stands
pub in_active : (l : Ledger) (id : Id) (m : Message) → IsActiveMessage l id m → (s : Spot) → s ≡ spot_of places.Active id → IsFileAt l.book id m s
in_active l id m a s is = record { found = a.there; spot = is ∙ ap (λ (p : Place). spot_of p id) (sym (active_place m.place a.active)) }

-- the file of a message stands where the book says
pub file_there : (v : View) (b : Book) (id : Id) (m : Message) (s : Spot) → HostStands v b → IsFileAt b id m s → IsSome (v.files s.area s.name)
file_there v b id m s h file =
    let old = Stands-message v.files b id m h.reads file.found in
    let here : file_at v.files m.place id ≡ Some old.0.bytes = sym (ap (file_at v.files m.place) old.1) ∙ old.0.there in
    subst (λ (o : Option (List ℕ)). IsSome o) (sym (ap (λ (t : Spot). v.files t.area t.name) file.spot ∙ here)) refl

active_front : (l : Ledger) (id : Id) (test : Message → Bool) (o : Option Message) → message_of l.book id ≡ o → option_map_or (λ (m : Message). is_active m.place && test m) o false ≡ true → (m : Message) × IsActiveMessage l id m
active_front l id test None e h = absurd cc
active_front l id test (Some m) e h = (m, record { there = e; active = (and_parts (is_active m.place) (test m) h).0 })

found_front : (test : Message → Bool) (o : Option Message) → option_map_or test o false ≡ true → (m : Message) × (o ≡ Some m) × (test m ≡ true)
found_front test None h = absurd cc
found_front test (Some m) h = (m, refl, h)

pub sync_speaks : (w : World) (l : Ledger) (id : Id) → IsConsistent w l → next w l ≡ Some (entries.Sync id) → (m : Message) × IsActiveMessage l id m
sync_speaks w l id c h = active_front l id (λ m. is_leftover l id || not (has_none (written_marks m))) (message_of l.book id) refl (next_decided w l (entries.Sync id) c h).0

pub back_speaks : (w : World) (l : Ledger) (id : Id) → IsConsistent w l → next w l ≡ Some (entries.Back id) → (m : Message) × IsActiveMessage l id m
back_speaks w l id c h =
    let rest : Bool = option_map_or (λ (m : Message). has_none (unmarked_logged m) && is_clean m && not (has_none (pending m))) (message_of l.book id) false in
    let two = and_parts (is_leftover l id && was_synced l id) rest (next_decided w l (entries.Back id) c h).0 in
    let some = found_front (λ m. has_none (unmarked_logged m) && is_clean m && not (has_none (pending m))) (message_of l.book id) two.1 in
    (some.0, record { there = some.1; active = left_active l c.book.distinct id some.0 (and_parts (is_leftover l id) (was_synced l id) two.0).0 some.1 })

-- ---- a mark

short : (rs : List Recipient) (p : ℕ) (r : Recipient) → slice_get rs p ≡ Some r → p < length rs
short [] p r h = absurd cc
short (x ∷ xs) zero r h = omega arith
short (x ∷ xs) (suc p) r h = omega (arith, short xs p r h)

pub unmarked_short : (m : Message) (p : ℕ) → is_unmarked_at m p ≡ true → p < length m.recipients
unmarked_short m p h = let b = bare m p h in short m.recipients p b.recipient b.there

first_speaks : (w : World) (l : Ledger) (id : Id) (p : ℕ) (us : List Unsettled) → IsConsistent w l → l.unsettled ≡ us → option_map_or (λ (u : Unsettled). id_eq u.id id && (u.position == p) && needs_mark u.need) (slice_get us 0) false ≡ true
    → (m : Message) × IsActiveMessage l id m × (p < length m.recipients)
first_speaks w l id p [] c e h = absurd cc
first_speaks w l id p (u ∷ rest) c e h =
    let two = and_parts (id_eq u.id id && (u.position == p)) (needs_mark u.need) h in
    let one = and_parts (id_eq u.id id) (u.position == p) two.0 in
    let here : u.id ≡ id = id_eq-true u.id id one.0 in
    let place : u.position ≡ p = eqb-true u.position p one.1 in
    let head : list_all (λ (x : Unsettled). is_admitted l x.id) (u ∷ rest) ≡ true = subst (λ (xs : List Unsettled). list_all (λ (x : Unsettled). is_admitted l x.id) xs ≡ true) e c.memory.unsettled in
    let admitted : is_admitted l id ≡ true = subst (λ (i : Id). is_admitted l i ≡ true) here (and_parts (is_admitted l u.id) (list_all (λ (x : Unsettled). is_admitted l x.id) rest) head).0 in
    let active = admitted_active w l id c admitted in
    let found = found_admitted w l id c admitted in
    let a = found.0 in
    let remembered = c.memory.remembered a active.0 found.1 (subst (λ (i : Id). message_of l.book i ≡ Some active.0) (sym found.2) active.1.there) in
    let within : IsIn u.position (memory_positions l a.id) = subst (λ (i : Id). IsIn u.position (memory_positions l i)) (sym found.2) (first_positions u rest l id e here) in
    (active.0, active.1, subst (λ (n : ℕ). n < length active.0.recipients) place (unmarked_short active.0 u.position (all_at (is_unmarked_at active.0) u.position (memory_positions l a.id) remembered.unmarked within)))

pub mark_speaks : (w : World) (l : Ledger) (id : Id) (p : ℕ) → IsConsistent w l → next w l ≡ Some (entries.Mark id p) → (m : Message) × IsActiveMessage l id m × (p < length m.recipients)
mark_speaks w l id p c h = ⊎_elim (λ first. first_speaks w l id p l.unsettled c refl first) (λ left.
    let two = and_parts (is_leftover l id) (option_map_or (λ (m : Message). is_logged m p && is_unmarked_at m p) (message_of l.book id) false) left.1 in
    let some = found_front (λ m. is_logged m p && is_unmarked_at m p) (message_of l.book id) two.1 in
    (some.0, record { there = some.1; active = left_active l c.book.distinct id some.0 two.0 some.1 }, unmarked_short some.0 p (and_parts (is_logged some.0 p) (is_unmarked_at some.0 p) some.2).1)) (next_decided w l (entries.Mark id p) c h).1
