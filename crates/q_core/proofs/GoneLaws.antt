-- A message that may leave has no rows, and one of which recipients are read is in memory.
use Rattle.std.proofs.Common.{◌≡◌, ◌∙◌, Bool, false, None, Option, refl, Some, true, ℕ}
use Rattle.std.specs.List.{list_any}
use Rattle.std.specs.Option.{option_map_or}
use Rattle.std.specs.Prelude.{◌&&◌, ◌||◌, not}
use Rattle.q_core.proofs.AgreesLaws.{same_admitted, same_rows}
use Rattle.q_core.proofs.NameLaws.{and_true_parts}
use Rattle.q_core.proofs.PoolTies.{any_found}
use Rattle.q_core.specs.Agrees.{AgreesButScan}
use Rattle.q_core.specs.Held.{has_rows_in, is_admitted_in}
use Rattle.q_core.specs.declared.state.Core.{Core}
use Rattle.q_laws.proofs.Finished.{rest_rows}
use Rattle.q_laws.proofs.Leaving.{HasNoRows}
use Rattle.q_laws.specs.Consistency.{IsConsistent}
use Rattle.q_model.specs.Book.{message_of}
use Rattle.q_model.specs.Finishing.{has_bounce, is_at_rest, is_done, wants_bounce}
use Rattle.q_model.specs.Leaving.{may_defer, may_remove}
use Rattle.q_model.specs.Ledger.{Ledger}
use Rattle.q_model.specs.Loads.{may_load, may_load_of}
use Rattle.q_model.specs.Memory.{admitted_of, is_idle}
use Rattle.q_model.specs.Message.{Message}
use Rattle.q_model.specs.Places.{is_active}
use Rattle.q_model.specs.Settings.{World}
use Rattle.q_model.specs.declared.id.Id.{Id}
use Rattle.q_model.specs.declared.rows.Admitted.{Admitted}
use Rattle.q_model.specs.declared.rows.Delivery.{Delivery}
use Rattle.q_model.specs.declared.rows.Row.{Row}
use Rattle.q_model.specs.declared.rows.Unsettled.{Unsettled}
use Rattle.q_model.specs.Ids.{id_eq}

none_left : (a b c : Bool) → a ≡ false → b ≡ false → c ≡ false → (a || b || c) ≡ false
none_left true b c h g e = cc
none_left false true c h g e = cc
none_left false false c h g e = e

pub no_rows_held : {w : World} {c : Core} {l : Ledger} → AgreesButScan w c l → (id : Id) → HasNoRows l id → has_rows_in c id ≡ false
no_rows_held {l = l} h id none =
    same_rows h id ∙ none_left (list_any (λ (r : Row). id_eq r.id id) l.waiting) (list_any (λ (f : Delivery). id_eq f.row.id id) l.flights) (list_any (λ (u : Unsettled). id_eq u.id id) l.unsettled) none.waiting none.flights none.unsettled

left_true : (a b : Bool) → a ≡ true → (a || b) ≡ true
left_true true b h = refl
left_true false b h = cc

-- a message that may be deferred
pub deferred_rows : {w : World} {c : Core} {l : Ledger} → AgreesButScan w c l → IsConsistent w l → (id : Id) (due : ℕ) → may_defer w l id due ≡ true → has_rows_in c id ≡ false
deferred_rows {w = w} {l = l} h k id due may =
    let idle = (and_true_parts (is_idle l id) _ may).0 in
    no_rows_held h id (rest_rows w l id k (left_true (is_idle l id) _ idle))

rest_of : (l : Ledger) (id : Id) (o : Option Message) → option_map_or (λ m. is_active m.place && is_at_rest l id && is_done m && (not (wants_bounce m) || has_bounce l id)) o false ≡ true → is_at_rest l id ≡ true
rest_of l id None may = absurd cc
rest_of l id (Some m) may =
    let three = and_true_parts (is_active m.place && is_at_rest l id && is_done m) (not (wants_bounce m) || has_bounce l id) may in
    let two = and_true_parts (is_active m.place && is_at_rest l id) (is_done m) three.0 in
    (and_true_parts (is_active m.place) (is_at_rest l id) two.0).1

-- a message that may be removed
pub removed_rows : {w : World} {c : Core} {l : Ledger} → AgreesButScan w c l → IsConsistent w l → (id : Id) → may_remove l id ≡ true → has_rows_in c id ≡ false
removed_rows {w = w} {l = l} h k id may = no_rows_held h id (rest_rows w l id k (rest_of l id (message_of l.book id) may))

loads_one : (w : World) (l : Ledger) (id : Id) (from to : ℕ) (o : Option Admitted) → option_map_or (may_load_of w l id from to) o false ≡ true → option_map_or (λ (a : Admitted). true) o false ≡ true
loads_one w l id from to None h = cc
loads_one w l id from to (Some a) h = refl

-- a message of which recipients may be read
pub loaded_there : {w : World} {c : Core} {l : Ledger} → AgreesButScan w c l → (id : Id) (from to : ℕ) → may_load w l id from to ≡ true → is_admitted_in c id ≡ true
loaded_there {w = w} {l = l} h id from to may =
    same_admitted h id ∙ any_found (λ (a : Admitted). id_eq a.id id) l.admitted ∙ loads_one w l id from to (admitted_of l id) may
