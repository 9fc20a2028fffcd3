-- What the core says of messages and sites is what the ledger says.
use Rattle.std.proofs.Common.{◌≡◌, ℕ, ◌-◌, false, List, length, refl, ap, ◌∙◌, arith, Option, Some, None, option_map}
use Rattle.std.specs.Prelude.{find, not, ◌&&◌, ◌||◌, ◌==◌}
use Rattle.std.specs.List.{list_any}
use Rattle.std.specs.Option.{option_map_or}
use Rattle.q_core.proofs.ListLaws.{find-map, list_any-map}
use Rattle.q_core.specs.Agrees.{AgreesButScan, slot_of}
use Rattle.q_core.specs.Held.{has_flight_in, has_rows_in, has_unsettled_in, has_waiting_in, is_admitted_in, is_dead_in, is_idle_in, unread_in}
use Rattle.q_pool.specs.declared.slot.Slot.{Slot}
use Rattle.q_core.specs.declared.state.Core.{Core}
use Rattle.q_model.specs.Book.{message_of}
use Rattle.q_model.specs.Sites.{site_eq}
use Rattle.q_model.specs.Ids.{id_eq}
use Rattle.q_model.specs.Ledger.{Ledger}
use Rattle.q_model.specs.Memory.{has_rows, has_waiting, is_admitted, is_idle, unread_count, unread_of}
use Rattle.q_model.specs.Message.{Message}
use Rattle.q_model.specs.Settings.{World}
use Rattle.q_model.specs.SiteRecords.{is_alive, is_dead_site}
use Rattle.q_model.specs.Values.{Site, SiteRecord}
use Rattle.q_model.specs.declared.id.Id.{Id}
use Rattle.q_model.specs.declared.rows.Admitted.{Admitted}
use Rattle.q_model.specs.declared.rows.Delivery.{Delivery}
use Rattle.q_model.specs.declared.rows.Row.{Row}
use Rattle.q_model.specs.declared.rows.Unsettled.{Unsettled}

pub same_dead : {w : World} {c : Core} {l : Ledger} → AgreesButScan w c l → (site : Site) → is_dead_in c site ≡ is_dead_site l site
same_dead a site = ap (λ (ds : List SiteRecord). option_map_or (λ (d : SiteRecord). not (is_alive d.health)) (find (λ d. site_eq d.site site) ds) false) a.sites

pub same_admitted : {w : World} {c : Core} {l : Ledger} → AgreesButScan w c l → (id : Id) → is_admitted_in c id ≡ is_admitted l id
same_admitted {l = l} a id = ap (list_any (λ s. id_eq s.id id)) a.admitted ∙ list_any-map (λ s. id_eq s.id id) (slot_of l) l.admitted

abbrev pub recipients_on : Option Message → ℕ
recipients_on o = option_map_or (λ m. length m.recipients) o 0

abbrev pub unread_on : ℕ → Option Message → ℕ
unread_on n o = option_map_or (λ m. length m.recipients - n) o 0

pub unread_same : (o : Option Message) (n : ℕ) → recipients_on o - n ≡ unread_on n o
unread_same None n = omega arith
unread_same (Some m) n = refl

abbrev unread_slot : Option Slot → ℕ
unread_slot o = option_map_or (λ s. s.recipients - s.unread) o 0

abbrev unread_admitted : Ledger → Option Admitted → ℕ
unread_admitted l o = option_map_or (λ a. unread_count l a) o 0

unread_found : (l : Ledger) (o : Option Admitted) → unread_slot (option_map (slot_of l) o) ≡ unread_admitted l o
unread_found l None = refl
unread_found l (Some a) = unread_same (message_of l.book a.id) a.unread

pub same_unread : {w : World} {c : Core} {l : Ledger} → AgreesButScan w c l → (id : Id) → unread_in c id ≡ unread_of l id
same_unread {l = l} a id =
    ap (λ (ss : List Slot). unread_slot (find (λ s. id_eq s.id id) ss)) a.admitted
    ∙ ap unread_slot (find-map (λ s. id_eq s.id id) (slot_of l) l.admitted)
    ∙ unread_found l (find (λ x. id_eq x.id id) l.admitted)

pub same_waiting : {w : World} {c : Core} {l : Ledger} → AgreesButScan w c l → (id : Id) → has_waiting_in c id ≡ has_waiting l id
same_waiting a id = ap (list_any (λ (r : Row). id_eq r.id id)) a.waiting

pub same_rows : {w : World} {c : Core} {l : Ledger} → AgreesButScan w c l → (id : Id) → has_rows_in c id ≡ has_rows l id
same_rows {c = c} {l = l} a id =
    ap (λ (rs : List Row). list_any (λ r. id_eq r.id id) rs || has_flight_in c id || has_unsettled_in c id) a.waiting
    ∙ ap (λ (fs : List Delivery). has_waiting l id || list_any (λ f. id_eq f.row.id id) fs || has_unsettled_in c id) a.flights
    ∙ ap (λ (us : List Unsettled). has_waiting l id || list_any (λ f. id_eq f.row.id id) l.flights || list_any (λ u. id_eq u.id id) us) a.unsettled

pub same_idle : {w : World} {c : Core} {l : Ledger} → AgreesButScan w c l → (id : Id) → is_idle_in c id ≡ is_idle l id
same_idle {c = c} {l = l} a id =
    ap (λ b. b && (unread_in c id == 0) && not (has_rows_in c id)) (same_admitted a id)
    ∙ ap (λ n. is_admitted l id && (n == 0) && not (has_rows_in c id)) (same_unread a id)
    ∙ ap (λ b. is_admitted l id && (unread_of l id == 0) && not b) (same_rows a id)
