-- Where a message stands that is done.
use Rattle.std.proofs.Common.{◌≡◌, ◌&&◌, ◌||◌, true, false, not, Option, Some, None, refl}
use Rattle.std.specs.Option.{option_map_or}
use Rattle.std.proofs.lemmas.Bool.{and_parts}
use Rattle.q_model.specs.declared.entry.Entry.TheVariants as entries
use Rattle.q_model.specs.declared.id.Id.{Id}
use Rattle.q_model.specs.Book.{message_of}
use Rattle.q_model.specs.Finishing.{has_bounce, is_at_rest, is_done, wants_bounce}
use Rattle.q_model.specs.Ledger.{Ledger}
use Rattle.q_model.specs.Message.{Message}
use Rattle.q_model.specs.Next.{next}
use Rattle.q_model.specs.Places.{is_active}
use Rattle.q_model.specs.Settings.{World}
use Rattle.q_laws.specs.Consistency.{IsConsistent}
use Rattle.q_laws.proofs.Decisions.{next_decided}
use Rattle.q_laws.proofs.Synced.{IsActiveMessage}

removed : (l : Ledger) (id : Id) (o : Option Message) → message_of l.book id ≡ o
    → option_map_or (λ (m : Message). is_active m.place && is_at_rest l id && is_done m && (not (wants_bounce m) || has_bounce l id)) o false ≡ true
    → (m : Message) × IsActiveMessage l id m
removed l id None e h = absurd cc
removed l id (Some m) e h =
    let three = and_parts (is_active m.place && is_at_rest l id && is_done m) (not (wants_bounce m) || has_bounce l id) h in
    let two = and_parts (is_active m.place && is_at_rest l id) (is_done m) three.0 in
    (m, record { there = e; active = (and_parts (is_active m.place) (is_at_rest l id) two.0).0 })

-- a message that is removed stands in active
pub remove_speaks : (w : World) (l : Ledger) (id : Id) → IsConsistent w l → next w l ≡ Some (entries.Remove id) → (m : Message) × IsActiveMessage l id m
remove_speaks w l id c h = removed l id (message_of l.book id) refl (next_decided w l (entries.Remove id) c h).0
