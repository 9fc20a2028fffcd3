-- A life begins on each orderly book, and nothing is in memory.
use Rattle.std.proofs.Common.{◌≡◌, ℕ, zero, suc, ◌+◌, ◌≤◌, Bool, true, false, [], map, length, replicate, refl, ap, ◌∙◌, subst, arith, leb-true, lt-ltb}
use Rattle.std.proofs.lemmas.Bool.{and_from, and_parts, or_left}
use Rattle.std.specs.List.{list_all}
use Rattle.std.specs.Prelude.{◌&&◌, ◌||◌, nat_le, nat_lt}
use Rattle.q_laws.proofs.Mapped.{KeepsOrder, all_ids_mapped, mapped, orderly_mapped}
use Rattle.q_laws.proofs.Members.{all_from, all_weaker, in_unmap}
use Rattle.q_laws.proofs.Messages.{firm_is, sealed_firm, sound_firm}
use Rattle.q_laws.proofs.Tidied.{IsReady, after_consistent}
use Rattle.q_laws.specs.Consistency.{IsBookConsistent, IsConsistent, IsUsable, has_come}
use Rattle.q_model.specs.Book.{Book, all_ids}
use Rattle.q_model.specs.Ids.{are_distinct}
use Rattle.q_model.specs.Ledger.{Ledger, opening}
use Rattle.q_model.specs.Lives.{after_life, firm_failures}
use Rattle.q_model.specs.Message.{Message}
use Rattle.q_model.specs.Orderly.{has_firm_failures, is_orderly, is_paired, is_sealed, is_sound}
use Rattle.q_model.specs.Places.{is_active}
use Rattle.q_model.specs.Settings.{World}
use Rattle.q_model.specs.Step.{after, noted}
use Rattle.q_model.specs.declared.event.Mode.{Mode}
use Rattle.q_model.specs.declared.id.Id.{Id}
use Rattle.q_model.specs.declared.entry.Entry.TheVariants as entries

firm_keeps : (b : Book) → KeepsOrder b firm_failures
firm_keeps b = record {
  name = λ m. refl;
  cause = λ m there h. let two = and_parts (is_active m.place) (is_sealed m) h in and_from (is_active m.place) (is_sealed (firm_failures m)) two.0 (sealed_firm m two.1);
  incoming = λ m there h bounce stands. h;
  sound = λ m there h. sound_one (is_active m.place) m h;
}
  where
    sound_one : (a : Bool) (m : Message) → (a || is_sound m) ≡ true → (a || is_sound (firm_failures m)) ≡ true
    sound_one true m h = refl
    sound_one false m h = sound_firm m h

-- an id of a book is of an earlier life than the next
before_next : (b : Book) → is_orderly b ≡ true → list_all (λ (id : Id). nat_le id.generation b.generation) (all_ids b) ≡ true
before_next b h =
    let test : Id → Bool = λ id. nat_le id.generation b.generation && is_paired b id in
    all_weaker test (λ id. nat_le id.generation b.generation) (all_ids b) (λ id there e. (and_parts (nat_le id.generation b.generation) (is_paired b id) e).0)
    (and_parts (list_all test (all_ids b)) (list_all (λ (m : Message). is_active m.place || is_sound m) b.messages) h).0

all_empty : (n : ℕ) → list_all are_distinct (replicate n []) ≡ true
all_empty zero = refl
all_empty (suc n) = all_empty n

begun_book : (w : World) (l : Ledger) (mode : Mode) → are_distinct (all_ids l.book) ≡ true → is_orderly l.book ≡ true → IsBookConsistent (noted (entries.Life (l.book.generation + 1) mode) (after_life w l (l.book.generation + 1) mode))
begun_book w l mode distinct orderly =
    let b = l.book in
    let g = b.generation + 1 in
    let begun = noted (entries.Life g mode) (after_life w l g mode) in
    let same : all_ids (mapped b g firm_failures) ≡ all_ids b = all_ids_mapped b g firm_failures (λ m. refl) in
    record {
      distinct = ap are_distinct same ∙ distinct;
      orderly = orderly_mapped b g firm_failures (omega arith) (firm_keeps b) orderly;
      firm = all_from has_firm_failures (map firm_failures b.messages) (λ m there. let one = in_unmap firm_failures m b.messages there in subst (λ x. has_firm_failures x ≡ true) one.2 (firm_is one.0));
      come = ap (list_all (has_come begun)) same ∙ all_weaker (λ (id : Id). nat_le id.generation b.generation) (has_come begun) (all_ids b) (λ id there e. earlier id e) (before_next b orderly);
    }
  where
    earlier : (id : Id) → nat_le id.generation l.book.generation ≡ true → has_come (noted (entries.Life (l.book.generation + 1) mode) (after_life w l (l.book.generation + 1) mode)) id ≡ true
    earlier id e =
        let below : id.generation ≤ l.book.generation = leb-true id.generation l.book.generation e in
        or_left (nat_lt id.generation (l.book.generation + 1)) (nat_le id.serial 0) (lt-ltb id.generation (l.book.generation + 1) (omega (arith, below)))

begun_ready : (w : World) (l : Ledger) (mode : Mode) → IsUsable w → are_distinct (all_ids l.book) ≡ true → is_orderly l.book ≡ true → IsReady w (noted (entries.Life (l.book.generation + 1) mode) (after_life w l (l.book.generation + 1) mode))
begun_ready w l mode usable distinct orderly = record {
  usable = usable;
  book = begun_book w l mode distinct orderly;
  memory = record {
    admitted = refl;
    present = refl;
    within = refl;
    waiting = refl;
    filled = refl;
    flights = refl;
    unsettled = refl;
    remembered = λ a m e f. absurd cc;
    numbers = refl;
    begun = refl;
    single = all_empty (length w.table.transports);
    fresh = λ id t some gone. absurd cc;
    synced = refl;
    synced_next = λ id left was. absurd cc;
    messages = omega arith;
    recipients = omega arith;
  };
}

-- the first life on a book, and each later one
pub life_consistent : (w : World) (l : Ledger) (mode : Mode) → IsUsable w → are_distinct (all_ids l.book) ≡ true → is_orderly l.book ≡ true → IsConsistent w (after w l (entries.Life (l.book.generation + 1) mode))
life_consistent w l mode usable distinct orderly = after_consistent w l (entries.Life (l.book.generation + 1) mode) (begun_ready w l mode usable distinct orderly)

-- a life that begins on a spool's book is consistent
pub begins_consistent : (w : World) (mode : Mode) (book : Book) → IsUsable w → are_distinct (all_ids book) ≡ true → is_orderly book ≡ true → IsConsistent w (after w (opening mode book) (entries.Life (book.generation + 1) mode))
begins_consistent w mode book usable distinct orderly = life_consistent w (opening mode book) mode usable distinct orderly

-- a restart is consistent
pub restarts_consistent : (w : World) (l : Ledger) → IsUsable w → IsBookConsistent l → IsConsistent w (after w l (entries.Life (l.book.generation + 1) l.mode))
restarts_consistent w l usable h = life_consistent w l l.mode usable h.distinct h.orderly
