-- How agreement goes on where a message changes, or outcomes are settled.
use Rattle.std.proofs.Common.{◌≡◌, Bool, true, false, List, [], ◌∷◌, map, refl, sym, ap, ◌∙◌, subst, Option, Some, None}
use Rattle.std.specs.List.{list_all, list_any}
use Rattle.std.specs.Option.{option_map_or}
use Rattle.std.specs.Prelude.{◌||◌}
use Rattle.q_core.proofs.ChangeLaws.{IsBookChange, active_changed, changed_ledger, incoming_changed, seen_same, slots_apart, slots_changed, still_changed}
use Rattle.q_core.proofs.NameLaws.{and_true_parts, id_eq-true}
use Rattle.q_core.proofs.SyncedLaws.{all_left, leftovers_changed, synced_fewer}
use Rattle.q_core.proofs.StepLaws.{HoldsRaw, IsStillSeen}
use Rattle.q_core.specs.Agrees.{AgreesButScan, found_active, found_incoming, slot_from}
use Rattle.q_core.specs.Changes.{IsSlotChange, IsUnsettledChange}
use Rattle.q_pool.specs.Slots.{changed_at}
use Rattle.q_pool.specs.declared.slot.Slot.{Slot}
use Rattle.q_core.specs.declared.state.Core.{Core}
use Rattle.q_core.specs.declared.state.Seen.{Seen}
use Rattle.q_core.specs.declared.state.Seen.TheVariants.{Known, Unknown}
use Rattle.q_laws.specs.Consistency.{IsConsistent, is_present}
use Rattle.q_model.specs.Book.{message_of}
use Rattle.q_model.specs.Ids.{id_eq}
use Rattle.q_model.specs.Ledger.{Ledger}
use Rattle.q_model.specs.Memory.{in_memory, is_admitted}
use Rattle.q_model.specs.Message.{Message}
use Rattle.q_model.specs.Places.{is_active}
use Rattle.q_model.specs.Settings.{World}
use Rattle.q_model.specs.declared.id.Id.{Id}
use Rattle.q_model.specs.declared.rows.Admitted.{Admitted}
use Rattle.q_model.specs.declared.rows.Unsettled.{Unsettled}

-- a message in memory stands in active
pub record IsThere (l : Ledger) (id : Id) : Type 0 where
  pub message : Message
  pub there : message_of l.book id ≡ Some message
  pub active : is_active message.place ≡ true

there_one : (l : Ledger) (id : Id) (o : Option Message) → message_of l.book id ≡ o → option_map_or (λ m. is_active m.place) o false ≡ true → IsThere l id
there_one l id None e h = cc
there_one l id (Some m) e h = record { message = m; there = e; active = h }

there_in : (l : Ledger) (id : Id) (a : Admitted) (xs : List Admitted) (b : Bool) → id_eq a.id id ≡ b → is_present l a ≡ true → (list_any (λ (x : Admitted). id_eq x.id id) xs ≡ true → IsThere l id) →
    (b || list_any (λ (x : Admitted). id_eq x.id id) xs) ≡ true → IsThere l id
there_in l id a xs true e p rest h =
    there_one l id (message_of l.book id) refl (sym (ap (λ i. option_map_or (λ m. is_active m.place) (message_of l.book i) false) (id_eq-true a.id id e)) ∙ p)
there_in l id a xs false e p rest h = rest h

there_among : (l : Ledger) (id : Id) (xs : List Admitted) → list_all (is_present l) xs ≡ true → list_any (λ (x : Admitted). id_eq x.id id) xs ≡ true → IsThere l id
there_among l id [] all any = cc
there_among l id (a ∷ xs) all any =
    let parts = and_true_parts (is_present l a) (list_all (is_present l) xs) all in
    there_in l id a xs (id_eq a.id id) refl parts.0 (there_among l id xs parts.1) any

pub is_there : {w : World} {l : Ledger} → IsConsistent w l → (id : Id) → is_admitted l id ≡ true → IsThere l id
is_there {l = l} k id adm = there_among l id l.admitted k.memory.present adm

-- a message in memory changes, and its slot with it
pub slot_law : {w : World} {c d : Core} {l : Ledger} (id : Id) (f : Message → Message) (m : Message) (g : Slot → Slot) → HoldsRaw w c l → IsBookChange l id f m → is_admitted l id ≡ true →
    ((a : Admitted) (bounced : Bool) → slot_from a bounced (Some (f m)) ≡ g (slot_from a bounced (Some m))) → IsSlotChange c d id g → HoldsRaw w d (changed_ledger l id f)
slot_law {w = w} {c = c} {d = d} {l = l} id f m g r k adm same s =
    let h = r.parts in
    let next : Ledger = changed_ledger l id f in
    let kept : AgreesButScan w (record c { admitted = d.admitted }) next = record {
      settings = h.settings;
      count = h.count;
      transports = h.transports;
      mode = h.mode;
      clock = h.clock;
      timed = h.timed;
      next_run = h.next_run;
      ignores = h.ignores;
      deferred_follows = h.deferred_follows;
      admitted = (s.admitted ∙ ap (map (changed_at id g)) h.admitted ∙ slots_changed l id f m g k same l.admitted);
      waiting = h.waiting;
      flights = h.flights;
      memory = h.memory;
      served = h.served;
      unsettled = h.unsettled;
      lines = h.lines;
      sites = h.sites;
      synced = synced_fewer c.synced l next (all_left l next (leftovers_changed l id f k.keeps)) refl h.synced;
      starts = h.starts;
      active = (seen_same c.active (found_active next) (found_active l) (active_changed l id f m k adm) h.active);
      incoming = (seen_same c.incoming (found_incoming next) (found_incoming l) (incoming_changed l id f m k) h.incoming);
    } in
    let raw : HoldsRaw w (record c { admitted = d.admitted }) next = record { parts = kept; scan = r.scan; asked = r.asked; seen = still_changed c.deferred l id f m k r.seen } in
    subst (λ x. HoldsRaw w x next) (sym s.rest) raw

-- a message that isn't in memory changes, and active is to be looked at anew
pub apart_law : {w : World} {c : Core} {l : Ledger} (id : Id) (f : Message → Message) (m : Message) → HoldsRaw w c l → IsBookChange l id f m → is_admitted l id ≡ false →
    HoldsRaw w (record c { active = Unknown }) (changed_ledger l id f)
apart_law {w = w} {c = c} {l = l} id f m r k gone =
    let h = r.parts in
    let next : Ledger = changed_ledger l id f in
    let kept : AgreesButScan w (record c { active = Unknown }) next = record {
      settings = h.settings;
      count = h.count;
      transports = h.transports;
      mode = h.mode;
      clock = h.clock;
      timed = h.timed;
      next_run = h.next_run;
      ignores = h.ignores;
      deferred_follows = h.deferred_follows;
      admitted = (h.admitted ∙ slots_apart l id f k.keeps l.admitted gone);
      waiting = h.waiting;
      flights = h.flights;
      memory = h.memory;
      served = h.served;
      unsettled = h.unsettled;
      lines = h.lines;
      sites = h.sites;
      synced = synced_fewer c.synced l next (all_left l next (leftovers_changed l id f k.keeps)) refl h.synced;
      starts = h.starts;
      active = tt;
      incoming = (seen_same c.incoming (found_incoming next) (found_incoming l) (incoming_changed l id f m k) h.incoming);
    } in
    record { parts = kept; scan = r.scan; asked = r.asked; seen = still_changed c.deferred l id f m k r.seen }

still_unsettled : (seen : Seen) (l : Ledger) (us : List Unsettled) → IsStillSeen seen l → IsStillSeen seen (record l { unsettled = us })
still_unsettled Unknown l us h = tt
still_unsettled (Known found) l us h = h

-- outcomes come to be settled
pub unsettled_law : {w : World} {c d : Core} {l : Ledger} (us : List Unsettled) → HoldsRaw w c l → IsUnsettledChange c d us → d.in_memory ≡ in_memory (record l { unsettled = us }) → HoldsRaw w d (record l { unsettled = us })
unsettled_law {w = w} {c = c} {d = d} {l = l} us r s memory =
    let h = r.parts in
    let next : Ledger = record l { unsettled = us } in
    let kept : AgreesButScan w (record c { unsettled = d.unsettled; in_memory = d.in_memory }) next = record {
      settings = h.settings;
      count = h.count;
      transports = h.transports;
      mode = h.mode;
      clock = h.clock;
      timed = h.timed;
      next_run = h.next_run;
      ignores = h.ignores;
      deferred_follows = h.deferred_follows;
      admitted = h.admitted;
      waiting = h.waiting;
      flights = h.flights;
      memory = memory;
      served = h.served;
      unsettled = s.unsettled;
      lines = h.lines;
      sites = h.sites;
      synced = h.synced;
      starts = h.starts;
      active = h.active;
      incoming = h.incoming;
    } in
    let raw : HoldsRaw w (record c { unsettled = d.unsettled; in_memory = d.in_memory }) next = record { parts = kept; scan = r.scan; asked = r.asked; seen = still_unsettled c.deferred l us r.seen } in
    subst (λ x. HoldsRaw w x next) (sym s.rest) raw
