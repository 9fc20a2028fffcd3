-- What fits together still does as the marks of a message are synced.
use Rattle.std.proofs.Common.{◌≡◌, Bool, true, false, not, List, [], ◌∷◌, length, Option, Some, None, option_map, inl, inr, refl, sym, ap, ◌∙◌, subst, if◌then◌else◌, le_refl}
use Rattle.std.proofs.lemmas.Bool.{and_from, and_parts, or_cases, or_right}
use Rattle.std.specs.List.{list_all, list_any}
use Rattle.std.specs.Option.{option_map_or}
use Rattle.std.specs.Prelude.{◌&&◌, ◌||◌}
use Rattle.q_laws.proofs.Books.{message_in}
use Rattle.q_laws.proofs.Decided.{Says}
use Rattle.q_laws.proofs.Distinct.{find_named, id_cases, id_same}
use Rattle.std.proofs.lemmas.List.{length-map}
use Rattle.q_laws.proofs.Mapped.{find_mapped}
use Rattle.q_laws.proofs.InPlace.{KeepsShape, admitted_not_left, change_ready, changed, changed_ledger, changed_name, changed_other, changed_same, keeps_active, well_kept, well_other}
use Rattle.q_laws.proofs.Members.{all_at, all_weaker, any_in}
use Rattle.q_laws.proofs.Messages.{sealed_sync, unmarked_sync, written_sync}
use Rattle.q_laws.proofs.Tidied.{IsReady, after_consistent}
use Rattle.q_laws.proofs.Unmarked.{bare_sync}
use Rattle.q_laws.specs.Consistency.{IsConsistent, IsRemembered, IsSyncedNext, is_present, is_synced_well, memory_positions}
use Rattle.q_model.proofs.IdLaws.{id_eq-true}
use Rattle.q_model.specs.Book.{message_of}
use Rattle.q_model.specs.BookChanges.{change_message}
use Rattle.q_model.specs.Finishing.{is_clean}
use Rattle.q_model.specs.Ids.{id_eq}
use Rattle.q_model.specs.Ledger.{Ledger}
use Rattle.q_model.specs.Leftovers.{is_leftover, next_leftover}
use Rattle.q_model.specs.Lists.{has_none}
use Rattle.q_model.specs.Marking.{is_unmarked_at}
use Rattle.q_model.specs.Memory.{admitted_of, is_admitted}
use Rattle.q_model.specs.Message.{Message, unmarked_logged, written_marks}
use Rattle.q_model.specs.Orderly.{has_firm_failures}
use Rattle.q_model.specs.Places.{is_active}
use Rattle.q_model.specs.Settings.{World}
use Rattle.q_model.specs.Step.{after, noted}
use Rattle.q_model.specs.Syncs.{after_sync, may_sync, sync_all}
use Rattle.q_model.specs.declared.entry.Entry.{Entry}
use Rattle.q_model.specs.declared.id.Id.{Id}
use Rattle.q_model.specs.declared.rows.Admitted.{Admitted}
use Rattle.q_model.specs.declared.rows.Unsettled.{Unsettled}
use Rattle.q_model.specs.declared.entry.Entry.TheVariants as entries

-- ---- the message that an entry is of

-- the message stands in active
pub record IsActiveMessage (l : Ledger) (id : Id) (m : Message) : Type 0 where
  pub there : message_of l.book id ≡ Some m
  pub active : is_active m.place ≡ true

active_on : (l : Ledger) (id : Id) (o : Option Message) → message_of l.book id ≡ o → option_map_or (λ (m : Message). is_active m.place) o false ≡ true → (m : Message) × IsActiveMessage l id m
active_on l id None e h = absurd cc
active_on l id (Some m) e h = (m, record { there = e; active = h })

-- a message in memory stands in active
pub admitted_active : (w : World) (l : Ledger) (id : Id) → IsConsistent w l → is_admitted l id ≡ true → (m : Message) × IsActiveMessage l id m
admitted_active w l id c h =
    let one = any_in (λ (a : Admitted). id_eq a.id id) l.admitted h in
    let same : (one.0).id ≡ id = id_eq-true (one.0).id id one.2 in
    active_on l id (message_of l.book id) refl (subst (λ i. option_map_or (λ (m : Message). is_active m.place) (message_of l.book i) false ≡ true) same (all_at (is_present l) one.0 l.admitted c.memory.present one.1))

-- a changed message is the one of this id or another
pub mine_or_not : (id : Id) (f : Message → Message) (m : Message) (P : Message → Type 0) → (m.id ≡ id → P (f m)) → (id_eq m.id id ≡ false → P m) → P (changed id f m)
mine_or_not id f m P mine other = elim (id_cases m.id id) [
  | inl same ↦ subst P (sym (changed_same id f m same.1)) (mine same.0)
  | inr not ↦ subst P (sym (changed_other id f m not)) (other not)
]

-- ---- sync

sync_shape : KeepsShape sync_all
sync_shape = record { name = λ m. refl; place = λ m. refl; count = λ m. length-map m.recipients _ }

abbrev synced_ids : Ledger → Id → List Id
synced_ids l id = if is_leftover l id then id ∷ l.synced else l.synced

synced_well : (l : Ledger) (id : Id) (us : List Unsettled) (ss : List Id) (m : Message) → message_of l.book id ≡ Some m → unmarked_logged m ≡ [] → is_synced_well (changed_ledger l id sync_all us ss (entries.Sync id)) id ≡ true
synced_well l id us ss m there none =
    let mine : m.id ≡ id = (message_in l.book id m there).1 in
    or_right (not (is_leftover (changed_ledger l id sync_all us ss (entries.Sync id)) id)) (option_map_or (λ x. is_clean x && has_none (unmarked_logged x)) (message_of (change_message l.book id sync_all) id) true)
    (ap (λ o. option_map_or (λ x. is_clean x && has_none (unmarked_logged x)) o true) (find_mapped (changed id sync_all) (changed_name id sync_all (λ x. refl)) id l.book.messages ∙ ap (option_map (changed id sync_all)) there)
    ∙ ap (λ x. is_clean x && has_none (unmarked_logged x)) (changed_same id sync_all m (id_same m.id id mine))
    ∙ and_from (is_clean (sync_all m)) (has_none (unmarked_logged (sync_all m))) (ap has_none (written_sync m)) (ap has_none (unmarked_sync m ∙ none)))

sync_well : (w : World) (l : Ledger) (id : Id) (us : List Unsettled) (ss : List Id) → IsConsistent w l → Says l (entries.Sync id) → (b : Bool) → is_leftover l id ≡ b → list_all (is_synced_well (changed_ledger l id sync_all us ss (entries.Sync id))) (if b then id ∷ l.synced else l.synced) ≡ true
sync_well w l id us ss c (inl adm) true e = let bad : true ≡ false = sym e ∙ admitted_not_left l id adm in absurd cc
sync_well w l id us ss c (inl adm) false e = well_kept l id sync_all us ss (entries.Sync id) sync_shape adm c.memory.synced
sync_well w l id us ss c (inr one) b e =
    let k = changed_ledger l id sync_all us ss (entries.Sync id) in
    let mine : is_synced_well k id ≡ true = synced_well l id us ss one.0 one.1 one.2 in
    let rest : list_all (is_synced_well k) l.synced ≡ true = all_weaker (is_synced_well l) (is_synced_well k) l.synced (λ i there well. elim (id_cases i id) [
      | inl same ↦ subst (λ j. is_synced_well k j ≡ true) (sym same.0) mine
      | inr other ↦ well_other l id sync_all us ss (entries.Sync id) sync_shape i other well
    ]) c.memory.synced in
    more b mine rest
  where
    more : (b : Bool) → is_synced_well (changed_ledger l id sync_all us ss (entries.Sync id)) id ≡ true → list_all (is_synced_well (changed_ledger l id sync_all us ss (entries.Sync id))) l.synced ≡ true →
        list_all (is_synced_well (changed_ledger l id sync_all us ss (entries.Sync id))) (if b then id ∷ l.synced else l.synced) ≡ true
    more true mine rest = and_from (is_synced_well (changed_ledger l id sync_all us ss (entries.Sync id)) id) (list_all (is_synced_well (changed_ledger l id sync_all us ss (entries.Sync id))) l.synced) mine rest
    more false mine rest = rest

-- who was synced already is the next leftover, and so is who is synced now
sync_next : (l : Ledger) (id i : Id) → ((j : Id) → IsSyncedNext l j) → Says l (entries.Sync id) → (b : Bool) → is_leftover l id ≡ b → is_leftover l i ≡ true → list_any (id_eq i) (if b then id ∷ l.synced else l.synced) ≡ true → next_leftover l ≡ Some i
sync_next l id i h says false e left was = h i left was
sync_next l id i h (inl adm) true e left was = let bad : true ≡ false = sym e ∙ admitted_not_left l id adm in absurd cc
sync_next l id i h (inr one) true e left was = elim (or_cases (id_eq i id) (list_any (id_eq i) l.synced) was) [
  | inl same ↦ one.3 ∙ ap Some (sym (id_eq-true i id same))
  | inr old ↦ h i left old
]

sync_remembered : (l : Ledger) (id : Id) (ss : List Id) (e : Entry) (a : Admitted) (m : Message) → IsRemembered l a m → IsRemembered (changed_ledger l id sync_all l.unsettled ss e) a (changed id sync_all m)
sync_remembered l id ss e a m h = mine_or_not id sync_all m (λ x. IsRemembered (changed_ledger l id sync_all l.unsettled ss e) a x)
    (λ same. record {
      read = h.read;
      once = h.once;
      unmarked = all_weaker (is_unmarked_at m) (is_unmarked_at (sync_all m)) (memory_positions l a.id) (λ p there k. bare_sync m p ∙ k) h.unmarked;
      logged = unmarked_sync m ∙ h.logged;
    })
    (λ other. record { read = h.read; once = h.once; unmarked = h.unmarked; logged = h.logged })

sync_on : (w : World) (l : Ledger) (id : Id) (o : Option Message) → message_of l.book id ≡ o → IsConsistent w l → Says l (entries.Sync id) → option_map_or (λ (m : Message). is_active m.place && (is_leftover l id || not (has_none (written_marks m)))) o false ≡ true → IsReady w (noted (entries.Sync id) (after_sync l id))
sync_on w l id None there c says may = absurd cc
sync_on w l id (Some m) there c says may =
    change_ready w l id sync_all l.unsettled (synced_ids l id) (entries.Sync id) c sync_shape
    (keeps_active l.book id sync_all m c.book.distinct there sync_shape (and_parts (is_active m.place) (is_leftover l id || not (has_none (written_marks m))) may).0 (sealed_sync m))
    (λ x inside firm. mine_or_not id sync_all x (λ y. has_firm_failures y ≡ true) (λ same. firm) (λ other. firm))
    (λ i t. record { admit = refl; start = refl; charge = refl })
    c.memory.unsettled (le_refl (length l.unsettled)) (λ a x mine here. sync_remembered l id (synced_ids l id) (entries.Sync id) a x (c.memory.remembered a x mine here))
    (sync_well w l id l.unsettled (synced_ids l id) c says (is_leftover l id) refl)
    (λ i left was. sync_next l id i c.memory.synced_next says (is_leftover l id) refl left was)

-- the marks of a message are synced
pub sync_consistent : (w : World) (l : Ledger) (id : Id) → IsConsistent w l → may_sync l id ≡ true → Says l (entries.Sync id) → IsConsistent w (after w l (entries.Sync id))
sync_consistent w l id c may says = after_consistent w l (entries.Sync id) (sync_on w l id (message_of l.book id) refl c says may)

-- the row of a message in memory is found by its id
pub found_admitted : (w : World) (l : Ledger) (id : Id) → IsConsistent w l → is_admitted l id ≡ true → (a : Admitted) × (admitted_of l a.id ≡ Some a) × (a.id ≡ id)
found_admitted w l id c h =
    let one = any_in (λ (a : Admitted). id_eq a.id id) l.admitted h in
    (one.0, find_named (λ (a : Admitted). a.id) one.0 l.admitted c.memory.admitted one.1, id_eq-true (one.0).id id one.2)
