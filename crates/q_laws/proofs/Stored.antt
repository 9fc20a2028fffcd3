-- What fits together still does as a failure is stored.
use Rattle.std.proofs.Common.{◌≡◌, ℕ, true, false, List, [], ◌∷◌, ◌++◌, length, Some, inl, refl, sym, ap, ◌∙◌, subst, arith}
use Rattle.std.specs.List.{list_all}
use Rattle.std.specs.Prelude.{nat_lt, slice_get}
use Rattle.q_laws.proofs.Books.{message_in}
use Rattle.q_laws.proofs.Distinct.{id_eq-sym}
use Rattle.q_laws.proofs.InPlace.{KeepsShape, change_ready, changed, changed_ledger, keeps_active, well_kept}
use Rattle.q_laws.proofs.Members.{IsIn, all_at}
use Rattle.q_laws.proofs.Tidied.{after_consistent}
use Rattle.q_laws.proofs.Unmarked.{firm_more, logged_alone, logged_itself, sealed_more}
use Rattle.q_laws.specs.Consistency.{are_once, IsConsistent, IsRemembered, flight_positions, memory_positions, logged_of, unsettled_positions, waiting_positions}
use Rattle.q_model.specs.Ids.{id_eq}
use Rattle.q_model.specs.Ledger.{Ledger}
use Rattle.q_model.specs.Logs.{first_logged, may_log, needs_log, with_failure}
use Rattle.q_model.specs.Marking.{is_unmarked_at, needs_mark}
use Rattle.q_model.specs.Memory.{is_admitted}
use Rattle.q_model.specs.Message.{Message, is_logged, unmarked_logged}
use Rattle.q_model.specs.Orderly.{has_firm_failures}
use Rattle.q_model.specs.Settings.{World}
use Rattle.q_model.specs.Step.{after}
use Rattle.q_model.specs.declared.id.Id.{Id}
use Rattle.q_model.specs.declared.outcome.Failure.{Failure}
use Rattle.q_model.specs.declared.rows.Admitted.{Admitted}
use Rattle.q_model.specs.declared.rows.Need.{Need}
use Rattle.q_model.specs.declared.rows.Unsettled.{Unsettled}
use Rattle.q_model.specs.declared.entry.Entry.TheVariants as entries
use Rattle.q_model.specs.declared.rows.Need.TheVariants as needs
use Rattle.q_laws.proofs.First.{first_on, first_positions, not_logged_yet, other_logged, same_logged}
use Rattle.q_laws.proofs.Synced.{admitted_active, mine_or_not}

log_shape : (f : Failure) → KeepsShape (with_failure f)
log_shape f = record { name = λ m. refl; place = λ m. refl; count = λ m. refl }

log_no_mark : (f : Failure) (n : Need) → needs_log f n ≡ true → needs_mark n ≡ false
log_no_mark f (needs.Log why code) h = refl
log_no_mark f needs.Mark h = absurd cc

same_positions : (id : Id) (us : List Unsettled) → unsettled_positions id (first_logged us) ≡ unsettled_positions id us
same_positions id [] = refl
same_positions id (u ∷ us) = refl

same_length : (us : List Unsettled) → length (first_logged us) ≡ length us
same_length [] = refl
same_length (u ∷ us) = refl

same_owners : (l : Ledger) (us : List Unsettled) → list_all (λ (u : Unsettled). is_admitted l u.id) us ≡ true → list_all (λ (u : Unsettled). is_admitted l u.id) (first_logged us) ≡ true
same_owners l [] h = h
same_owners l (u ∷ us) h = h

log_remembered : (l : Ledger) (id : Id) (f : Failure) (u : Unsettled) (rest : List Unsettled) (a : Admitted) (m : Message) → l.unsettled ≡ u ∷ rest → u.id ≡ id → u.position ≡ f.position → needs_log f u.need ≡ true → m.id ≡ a.id → IsRemembered l a m →
    IsRemembered (changed_ledger l id (with_failure f) (first_logged l.unsettled) l.synced (entries.Log id f)) a (changed id (with_failure f) m)
log_remembered l id f u rest a m e mine at need name h =
    let k = changed_ledger l id (with_failure f) (first_logged l.unsettled) l.synced (entries.Log id f) in
    let same : memory_positions k a.id ≡ memory_positions l a.id = ap (λ (ps : List ℕ). waiting_positions a.id l.waiting ++ flight_positions a.id l.flights ++ ps) (same_positions a.id l.unsettled) in
    let none : unmarked_logged m ≡ [] = h.logged ∙ not_logged_yet m u (slice_get l.unsettled 0) (log_no_mark f u.need need) (ap (λ (us : List Unsettled). slice_get us 0) e) in
    let first : slice_get (first_logged l.unsettled) 0 ≡ Some (record u { need = needs.Mark }) = ap (λ (us : List Unsettled). slice_get (first_logged us) 0) e in
    let reads = ap (list_all (λ p. nat_lt p a.unread)) same ∙ h.read in
    let once = ap are_once same ∙ h.once in
    let bare = ap (list_all (is_unmarked_at m)) same ∙ h.unmarked in
    mine_or_not id (with_failure f) m (λ x. IsRemembered k a x)
    (λ it.
    let there : IsIn u.position (memory_positions l a.id) = first_positions u rest l a.id e (mine ∙ sym it ∙ name) in
    let here : is_unmarked_at m f.position ≡ true = subst (λ p. is_unmarked_at m p ≡ true) at (all_at (is_unmarked_at m) u.position (memory_positions l a.id) h.unmarked there) in
    record {
      read = reads;
      once = once;
      unmarked = bare;
      logged = logged_alone f m none here ∙ ap (λ p. p ∷ []) (sym at)
          ∙ sym (ap (logged_of (with_failure f m)) first ∙ same_logged (with_failure f m) (record u { need = needs.Mark }) (mine ∙ sym it) refl (ap (is_logged (with_failure f m)) at ∙ logged_itself f m));
    })
    (λ other. record {
      read = reads;
      once = once;
      unmarked = bare;
      logged = none ∙ sym (ap (logged_of m) first ∙ other_logged m (record u { need = needs.Mark }) (ap (λ i. id_eq i m.id) mine ∙ id_eq-sym m.id id other));
    })

-- the failure of the first unsettled outcome is stored
pub log_consistent : (w : World) (l : Ledger) (id : Id) (f : Failure) → IsConsistent w l → may_log l id f ≡ true → IsConsistent w (after w l (entries.Log id f))
log_consistent w l id f c may =
    let one = first_on l id f.position (needs_log f) l.unsettled refl may in
    let u = one.0 in
    let adm : is_admitted l id ≡ true = subst (λ i. is_admitted l i ≡ true) one.3 (all_at (λ (x : Unsettled). is_admitted l x.id) u l.unsettled c.memory.unsettled (subst (λ us. IsIn u us) (sym one.2) (inl refl))) in
    let mine = admitted_active w l id c adm in
    after_consistent w l (entries.Log id f)
    (change_ready w l id (with_failure f) (first_logged l.unsettled) l.synced (entries.Log id f) c (log_shape f)
    (keeps_active l.book id (with_failure f) mine.0 c.book.distinct mine.1.there (log_shape f) mine.1.active (sealed_more f mine.0))
    (λ x inside firm. mine_or_not id (with_failure f) x (λ y. has_firm_failures y ≡ true) (λ same. firm_more f x firm) (λ other. firm))
    (λ i t. record { admit = refl; start = refl; charge = refl })
    (same_owners l l.unsettled c.memory.unsettled) (let n : length (first_logged l.unsettled) ≡ length l.unsettled = same_length l.unsettled in omega (arith, n))
    (λ a x here there. log_remembered l id f u one.1 a x one.2 one.3 one.4 one.5 (message_in l.book a.id x there).1 (c.memory.remembered a x here there))
    (well_kept l id (with_failure f) (first_logged l.unsettled) l.synced (entries.Log id f) (log_shape f) adm c.memory.synced)
    c.memory.synced_next)
