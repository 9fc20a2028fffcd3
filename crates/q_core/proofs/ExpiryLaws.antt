-- When an admitted message is too old.
use Rattle.std.proofs.Common.{◌≡◌, ℕ, Bool, [], ◌-◌, true, false, List, refl, sym, ap, ◌∙◌, Option, Some, None, option_map}
use Rattle.std.specs.Option.{option_map_or}
use Rattle.std.specs.Prelude.{find, is_none, nat_le, if◌then◌else◌}
use Rattle.q_core.proofs.AgreesLaws.{same_admitted}
use Rattle.q_core.proofs.ListLaws.{find-map, find-none, find-passes}
use Rattle.q_core.proofs.NameLaws.{id_eq-true}
use Rattle.q_core.specs.Agrees.{AgreesButScan, slot_from, slot_of}
use Rattle.q_core.specs.Held.{is_admitted_in}
use Rattle.q_core.specs.Queries.{expired_in, slot_expired_in}
use Rattle.q_pool.specs.declared.slot.Slot.{Slot}
use Rattle.q_core.specs.declared.state.Core.{Core}
use Rattle.q_model.specs.Book.{message_of}
use Rattle.q_model.specs.Finishing.{has_bounce}
use Rattle.q_model.specs.Ids.{id_eq}
use Rattle.q_model.specs.Ledger.{Ledger}
use Rattle.q_model.specs.Memory.{is_admitted}
use Rattle.q_model.specs.Message.{Message}
use Rattle.q_model.specs.Settings.{Settings, World}
use Rattle.q_model.specs.Times.{is_expired}
use Rattle.q_model.specs.declared.id.Id.{Id}
use Rattle.q_model.specs.declared.rows.Admitted.{Admitted}

abbrev expired_on : Core → Option Slot → Bool
expired_on c o = option_map_or (λ s. slot_expired_in c s) o false

-- by the message itself
age_law : {w : World} {c : Core} {l : Ledger} → AgreesButScan w c l → (x : Admitted) (m : Message) → message_of l.book x.id ≡ Some m → slot_expired_in c (slot_of l x) ≡ is_expired w l.now m
age_law {c = c} {l = l} h x m e =
    ap (λ o. slot_expired_in c (slot_from x (has_bounce l x.id) o)) e
    ∙ ap (λ n. nat_le (if is_none m.sender then c.params.bounce_lifetime else c.params.lifetime) (n - m.arrival)) h.clock
    ∙ ap (λ (s : Settings). nat_le (if is_none m.sender then s.bounce_lifetime else s.lifetime) (l.now - m.arrival)) h.settings

expiry_found : {w : World} {c : Core} {l : Ledger} → AgreesButScan w c l → (id : Id) (m : Message) → is_admitted l id ≡ true → message_of l.book id ≡ Some m → (o : Option Admitted) → find (λ x. id_eq x.id id) l.admitted ≡ o →
    expired_on c (option_map (slot_of l) o) ≡ is_expired w l.now m
expiry_found {l = l} h id m there e None f = let bad : false ≡ true = sym (find-none (λ (x : Admitted). id_eq x.id id) l.admitted f) ∙ there in cc
expiry_found {l = l} h id m there e (Some x) f =
    age_law h x m (ap (message_of l.book) (id_eq-true x.id id (find-passes (λ y. id_eq y.id id) l.admitted x f)) ∙ e)

pub expiry_law : {w : World} {c : Core} {l : Ledger} → AgreesButScan w c l → (id : Id) (m : Message) → is_admitted_in c id ≡ true → message_of l.book id ≡ Some m → expired_in c id ≡ is_expired w l.now m
expiry_law {c = c} {l = l} h id m there e =
    ap (λ (ss : List Slot). expired_on c (find (λ s. id_eq s.id id) ss)) h.admitted
    ∙ ap (expired_on c) (find-map (λ (s : Slot). id_eq s.id id) (slot_of l) l.admitted)
    ∙ expiry_found h id m (sym (same_admitted h id) ∙ there) e (find (λ x. id_eq x.id id) l.admitted) refl

-- a null sender, or another
abbrev pub sender_for : Bool → Option (List ℕ)
sender_for true = None
sender_for false = Some []

pub sender_is : (b : Bool) → is_none (sender_for b) ≡ b
sender_is true = refl
sender_is false = refl

-- a message of that sender is expired as the row says
pub expired_as : (c : Core) (s : Slot) → nat_le (if is_none (sender_for s.null_sender) then c.params.bounce_lifetime else c.params.lifetime) (c.clock.seconds - s.arrival) ≡ slot_expired_in c s
expired_as c s = ap (λ b. nat_le (if b then c.params.bounce_lifetime else c.params.lifetime) (c.clock.seconds - s.arrival)) (sender_is s.null_sender)
