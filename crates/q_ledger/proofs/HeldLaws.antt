-- What holds of the bare ledger of a recount, since the ledger that it is of fits together.
use Rattle.std.proofs.Common.{◌≡◌, Bool, true, false, List, [], ◌∷◌, ◌++◌, map, refl, sym, ap, ◌∙◌, subst}
use Rattle.std.proofs.lemmas.Bool.{and_parts}
use Rattle.std.specs.List.{list_all}
use Rattle.q_bare.specs.Bare.{bare, bare_message}
use Rattle.q_bare.specs.Counts.{Counts}
use Rattle.q_laws.proofs.Books.{damaged_names}
use Rattle.q_laws.proofs.Leaving.{HasNoRows, absent_rows}
use Rattle.q_laws.proofs.Mapped.{names_mapped}
use Rattle.q_laws.proofs.Members.{all_weaker}
use Rattle.q_laws.specs.Consistency.{is_present}
use Rattle.q_ledger.proofs.BareLaws.{asked_bare, bare_twice}
use Rattle.q_ledger.specs.Beside.{IsOfLedger}
use Rattle.q_model.specs.declared.id.Id.{Id}
use Rattle.q_model.specs.Book.{all_ids}
use Rattle.q_model.specs.Ids.{are_distinct}
use Rattle.q_model.specs.Ledger.{Ledger}
use Rattle.q_model.specs.Lives.{firm_failures}
use Rattle.q_model.specs.Memory.{is_admitted}
use Rattle.q_model.specs.Message.{Logged, Message}
use Rattle.q_model.specs.Orderly.{has_firm_failures}
use Rattle.q_model.specs.Places.{is_active}
use Rattle.q_model.specs.Settings.{World}

-- it is bare
pub held_bare : (w : World) (c : Counts) (b : Ledger) → IsOfLedger w c b → bare b ≡ b
held_bare w c b h = subst (λ (l : Ledger). bare l ≡ l) h.bare_ledger (bare_twice h.ledger)

pub held_messages : (w : World) (c : Counts) (b : Ledger) → IsOfLedger w c b → map bare_message b.book.messages ≡ b.book.messages
held_messages w c b h = ap (λ (l : Ledger). l.book.messages) (held_bare w c b h)

pub held_past : (w : World) (c : Counts) (b : Ledger) → IsOfLedger w c b → [] ≡ b.past
held_past w c b h = ap (λ (l : Ledger). l.past) (held_bare w c b h)

-- no id stands twice
pub held_distinct : (w : World) (c : Counts) (b : Ledger) → IsOfLedger w c b → are_distinct (all_ids b.book) ≡ true
held_distinct w c b h = subst (λ (l : Ledger). are_distinct (all_ids l.book) ≡ true) h.bare_ledger
    (ap (λ (ids : List Id). are_distinct (ids ++ damaged_names h.ledger.book)) (names_mapped bare_message (λ m. refl) h.ledger.book.messages) ∙ h.fits.consistent.book.distinct)

-- a message in memory stands in active
pub held_present : (w : World) (c : Counts) (b : Ledger) → IsOfLedger w c b → list_all (is_present b) b.admitted ≡ true
held_present w c b h = subst (λ (l : Ledger). list_all (is_present l) l.admitted ≡ true) h.bare_ledger
    (all_weaker (is_present h.ledger) (is_present (bare h.ledger)) h.ledger.admitted
    (λ a inside there. asked_bare (λ m. is_active m.place) (λ m. is_active m.place) false (λ m. refl) h.ledger.book a.id ∙ there) h.fits.consistent.memory.present)

-- of a message that isn't in memory there are no rows
pub held_absent : (w : World) (c : Counts) (b : Ledger) (id : Id) → IsOfLedger w c b → is_admitted b id ≡ false → HasNoRows b id
held_absent w c b id h = subst (λ (l : Ledger). is_admitted l id ≡ false → HasNoRows l id) h.bare_ledger
    (λ out. let none = absent_rows w h.ledger id h.fits.consistent out in record { waiting = none.waiting; flights = none.flights; unsettled = none.unsettled })

-- ---- each failure is firm

firm_list : (fs : List Logged) → list_all (λ (f : Logged). f.firm) fs ≡ true → map (λ (f : Logged). record f { firm = true }) fs ≡ fs
firm_list [] h = refl
firm_list (f ∷ fs) h =
    let two = and_parts f.firm (list_all (λ (x : Logged). x.firm) fs) h in
    ap (λ (b : Bool). record f { firm = b } ∷ map (λ (x : Logged). record x { firm = true }) fs) (sym two.0)
    ∙ ap (λ (xs : List Logged). f ∷ xs) (firm_list fs two.1)

firm_messages : (ms : List Message) → list_all has_firm_failures ms ≡ true → map firm_failures (map bare_message ms) ≡ map bare_message ms
firm_messages [] h = refl
firm_messages (m ∷ ms) h =
    let two = and_parts (has_firm_failures m) (list_all has_firm_failures ms) h in
    ap (λ (fs : List Logged). record (bare_message m) { failures = fs } ∷ map firm_failures (map bare_message ms)) (firm_list m.failures two.0)
    ∙ ap (λ (xs : List Message). bare_message m ∷ xs) (firm_messages ms two.1)

pub held_firm : (w : World) (c : Counts) (b : Ledger) → IsOfLedger w c b → map firm_failures b.book.messages ≡ b.book.messages
held_firm w c b h = subst (λ (l : Ledger). map firm_failures l.book.messages ≡ l.book.messages) h.bare_ledger (firm_messages h.ledger.book.messages h.fits.consistent.book.firm)
