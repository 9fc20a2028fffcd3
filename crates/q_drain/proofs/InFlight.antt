-- While a delivery is in flight, its message stands in active and keeps its sender, recipients and content.
use Rattle.std.proofs.Common.{◌≡◌, true, List, [], ◌∷◌, map, Some, None, inl, inr, refl, sym, ap, ◌∙◌, subst}
use Rattle.q_laws.proofs.Deciding.{AreDecisions, IsDecision}
use Rattle.q_drain.proofs.Flying.{inside_flights}
use Rattle.q_drain.proofs.Silent.{is_inside}
use Rattle.q_drain.specs.Flights.{flight}
use Rattle.q_drain.specs.Told.{begun_of}
use Rattle.q_laws.proofs.Kept.{entry_consistent}
use Rattle.q_laws.proofs.Members.{IsIn, all_at, in_left}
use Rattle.q_laws.proofs.Moved.{removed_none}
use Rattle.q_laws.proofs.Synced.{admitted_active}
use Rattle.q_laws.specs.Consistency.{IsConsistent}
use Rattle.q_lives.proofs.AsArrived.{HasLike, IsLike, StaysLike, after_like}
use Rattle.q_lives.proofs.Books.{after_is}
use Rattle.q_lives.specs.Standing.{is_remove_of}
use Rattle.q_model.proofs.IdLaws.{id_eq-true}
use Rattle.q_model.specs.declared.entry.Entry.{Entry}
use Rattle.q_model.specs.declared.entry.Entry.TheVariants as entries
use Rattle.q_model.specs.declared.id.Id.{Id}
use Rattle.q_model.specs.declared.rows.Delivery.{Delivery}
use Rattle.q_model.specs.Book.{Book, message_of}
use Rattle.q_model.specs.BookChanges.{remove_message}
use Rattle.q_model.specs.Ledger.{Ledger}
use Rattle.q_model.specs.Memory.{is_admitted}
use Rattle.q_model.specs.Message.{Message}
use Rattle.q_model.specs.Settings.{World}
use Rattle.q_model.specs.Step.{after, after_all}

-- its message is in memory
in_memory : (w : World) (l : Ledger) (f : Delivery) → IsConsistent w l → IsIn f l.flights → is_admitted l f.row.id ≡ true
in_memory w l f c h = all_at (λ (g : Delivery). is_admitted l g.row.id) f l.flights c.memory.flights h

pub flight_message : (w : World) (l : Ledger) (f : Delivery) → IsConsistent w l → IsIn f l.flights → (m : Message) × (message_of l.book f.row.id ≡ Some m)
flight_message w l f c h = let one = admitted_active w l f.row.id c (in_memory w l f c h) in (one.0, (one.1).there)

-- what was removed doesn't stand
removed : (w : World) (l : Ledger) (e : Entry) (id : Id) → is_remove_of id e ≡ true → message_of (after w l e).book id ≡ None
removed w l (entries.Remove i) id h = ap (λ (b : Book). message_of b id) (after_is w l (entries.Remove i)).book ∙ ap (λ (j : Id). message_of (remove_message l.book j) id) (id_eq-true i id h) ∙ removed_none l.book id
removed w l entries.End id h = cc
removed w l (entries.Life generation mode) id h = cc
removed w l (entries.At now) id h = cc
removed w l (entries.Arrive i sender to content) id h = cc
removed w l (entries.Reply number site os) id h = cc
removed w l (entries.Trigger kind) id h = cc
removed w l (entries.Start number i site positions) id h = cc
removed w l (entries.Back i) id h = cc
removed w l (entries.Admit i) id h = cc
removed w l (entries.Load i from to) id h = cc
removed w l (entries.Preempt child parent transport need) id h = cc
removed w l (entries.Skip i site positions) id h = cc
removed w l (entries.Log i failure) id h = cc
removed w l (entries.Mark i position) id h = cc
removed w l (entries.Sync i) id h = cc
removed w l (entries.Defer i due) id h = cc
removed w l (entries.Bounce i) id h = cc
removed w l (entries.Corrupt i) id h = cc

-- a message like it
found_like : (w : World) (l : Ledger) (e : Entry) (f : Delivery) (m : Message) → IsConsistent w (after w l e) → IsIn f (after w l e).flights → StaysLike m f.row.id e (after w l e).book → HasLike m (after w l e).book f.row.id
found_like w l e f m c h (inr like) = like
found_like w l e f m c h (inl gone) =
    let there = flight_message w (after w l e) f c h in
    let none : Some there.0 ≡ None = sym there.1 ∙ removed w l e f.row.id gone in
    cc

pub entry_like : (w : World) (l : Ledger) (e : Entry) (f : Delivery) (m : Message) → IsConsistent w l → IsConsistent w (after w l e) → IsIn f (after w l e).flights → message_of l.book f.row.id ≡ Some m → HasLike m (after w l e).book f.row.id
entry_like w l e f m c k h there = found_like w l e f m k h (after_like w l e f.row.id m c there)

-- ---- decisions

pub like_like : (a b c : Message) → IsLike a b → IsLike b c → IsLike a c
like_like a b c h k = record { version = k.version ∙ h.version; sender = k.sender ∙ h.sender; arrival = k.arrival ∙ h.arrival; recipients = k.recipients ∙ h.recipients; content = k.content ∙ h.content }

decision_flights : (w : World) (l : Ledger) (e : Entry) (f : Delivery) → IsDecision l e → IsIn f l.flights → IsIn f (after w l e).flights
decision_flights w l e f d h = subst (IsIn f) (sym (inside_flights w l 0 e (is_inside l e d))) (in_left f l.flights (map flight (begun_of 0 e)) h)

-- behind decisions a message like it stands
pub decided_like : (w : World) (l : Ledger) (es : List Entry) (f : Delivery) (m : Message) → IsConsistent w l → AreDecisions w l es → IsIn f l.flights → message_of l.book f.row.id ≡ Some m → HasLike m (after_all w l es).book f.row.id
unfolding after_all
decided_like w l [] f m c d h there = (m, there, record { version = refl; sender = refl; arrival = refl; recipients = refl; content = refl })
decided_like w l (e ∷ es) f m c d h there =
    let k : Ledger = after w l e in
    let ck : IsConsistent w k = entry_consistent w l e c (inr d.0) in
    let hk : IsIn f k.flights = decision_flights w l e f d.1 h in
    let one : HasLike m k.book f.row.id = entry_like w l e f m c ck hk there in
    let rest : HasLike one.0 (after_all w k es).book f.row.id = decided_like w k es f one.0 ck d.2 hk one.1 in
    (rest.0, rest.1, like_like m one.0 rest.0 one.2 rest.2)

-- behind decisions the ledger is consistent
pub decided_consistent : (w : World) (l : Ledger) (es : List Entry) → IsConsistent w l → AreDecisions w l es → IsConsistent w (after_all w l es)
unfolding after_all
decided_consistent w l [] c d = c
decided_consistent w l (e ∷ es) c d = decided_consistent w (after w l e) es (entry_consistent w l e c (inr d.0)) d.2
