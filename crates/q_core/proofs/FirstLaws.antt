-- What is known of the first unsettled outcome.
use Rattle.std.proofs.Common.{◌≡◌, ℕ, Bool, true, List, [], ◌∷◌, ◌++◌, refl, sym, ap, ◌∙◌, Option, Some, None, option_map}
use Rattle.std.specs.List.{list_all}
use Rattle.std.specs.Prelude.{find, if◌then◌else◌, is_some, slice_get}
use Rattle.q_model.proofs.EachLaws.{find-any}
use Rattle.q_core.proofs.HeldLaws.{is_there}
use Rattle.q_core.proofs.ListLaws.{find-passes}
use Rattle.q_core.proofs.NameLaws.{and_true_parts, id_eq-same, id_eq-true}
use Rattle.q_laws.specs.Consistency.{IsConsistent, IsRemembered, flight_positions, logged_of, memory_positions, unsettled_positions, waiting_positions}
use Rattle.q_model.specs.Book.{message_of}
use Rattle.q_model.specs.Ids.{id_eq}
use Rattle.q_model.specs.Ledger.{Ledger}
use Rattle.q_model.specs.Marking.{is_unmarked_at}
use Rattle.q_model.specs.Memory.{admitted_of, is_admitted}
use Rattle.q_model.specs.Message.{Message, unmarked_logged}
use Rattle.q_model.specs.Next.{needed, settling_rule}
use Rattle.q_model.specs.Places.{is_active}
use Rattle.q_model.specs.Settings.{World}
use Rattle.q_model.specs.declared.entry.Entry.{Entry}
use Rattle.q_model.specs.declared.entry.Entry.TheVariants as entries
use Rattle.q_model.specs.declared.id.Id.{Id}
use Rattle.q_model.specs.declared.outcome.Failure.{Failure}
use Rattle.q_model.specs.declared.rows.Admitted.{Admitted}
use Rattle.q_model.specs.declared.rows.Need.{Need}
use Rattle.q_model.specs.declared.rows.Need.TheVariants as needs
use Rattle.q_model.specs.declared.rows.Unsettled.{Unsettled}

-- the first outcome is of this recipient, and needs this
pub record IsFirst (l : Ledger) (id : Id) (position : ℕ) (need : Need) : Type 0 where
  pub rest : List Unsettled
  pub first : l.unsettled ≡ record { id = id; position = position; need = need } ∷ rest

abbrev needed_by : Option Unsettled → Option Entry
needed_by o = option_map (λ (u : Unsettled). needed u.id u.position u.need) o

log_need : (l : Ledger) (id k : Id) (f : Failure) (p : ℕ) (n : Need) (us : List Unsettled) → l.unsettled ≡ record { id = k; position = p; need = n } ∷ us → needed k p n ≡ entries.Log id f → IsFirst l id f.position (needs.Log f.why f.code)
log_need l id k f p (needs.Log why code) us e h =
    let same : k ≡ id = cc in
    let logged : Failure = record { position = p; why = why; code = code } in
    let failure : logged ≡ f = cc in
    record {
      rest = us;
      first = e
          ∙ ap (λ (i : Id). record { id = i; position = p; need = needs.Log why code } ∷ us) same
          ∙ ap (λ (g : Failure). record { id = id; position = g.position; need = needs.Log g.why g.code } ∷ us) failure;
    }
log_need l id k f p needs.Mark us e h = cc

log_list : (l : Ledger) (id : Id) (f : Failure) (us : List Unsettled) → l.unsettled ≡ us → needed_by (slice_get us 0) ≡ Some (entries.Log id f) → IsFirst l id f.position (needs.Log f.why f.code)
log_list l id f [] e h = cc
log_list l id f (u ∷ us) e h = log_need l id u.id f u.position u.need us e cc

pub first_log : (l : Ledger) (id : Id) (f : Failure) → settling_rule l ≡ Some (entries.Log id f) → IsFirst l id f.position (needs.Log f.why f.code)
first_log l id f h = log_list l id f l.unsettled refl h

mark_need : (l : Ledger) (id k : Id) (p q : ℕ) (n : Need) (us : List Unsettled) → l.unsettled ≡ record { id = k; position = q; need = n } ∷ us → needed k q n ≡ entries.Mark id p → IsFirst l id p needs.Mark
mark_need l id k p q (needs.Log why code) us e h = cc
mark_need l id k p q needs.Mark us e h =
    let same : k ≡ id = cc in
    let place : q ≡ p = cc in
    record {
      rest = us;
      first = e ∙ ap (λ (i : Id). record { id = i; position = q; need = needs.Mark } ∷ us) same ∙ ap (λ n. record { id = id; position = n; need = needs.Mark } ∷ us) place;
    }

mark_list : (l : Ledger) (id : Id) (p : ℕ) (us : List Unsettled) → l.unsettled ≡ us → needed_by (slice_get us 0) ≡ Some (entries.Mark id p) → IsFirst l id p needs.Mark
mark_list l id p [] e h = cc
mark_list l id p (u ∷ us) e h = mark_need l id u.id p u.position u.need us e cc

pub first_mark : (l : Ledger) (id : Id) (p : ℕ) → settling_rule l ≡ Some (entries.Mark id p) → IsFirst l id p needs.Mark
first_mark l id p h = mark_list l id p l.unsettled refl h

-- its message is in memory, and its recipient has no mark
pub record IsFirstOf (l : Ledger) (id : Id) (position : ℕ) (need : Need) (m : Message) : Type 0 where
  pub admitted : is_admitted l id ≡ true
  pub there : message_of l.book id ≡ Some m
  pub name : m.id ≡ id
  pub active : is_active m.place ≡ true
  pub unmarked : is_unmarked_at m position ≡ true
  pub logged : unmarked_logged m ≡ logged_of m (Some (record { id = id; position = position; need = need }))

found_some : {A : Type 0} (o : Option A) → is_some o ≡ true → (x : A) × (o ≡ Some x)
found_some None e = cc
found_some (Some x) e = (x, refl)

append_last : (q : ℕ → Bool) (xs ys : List ℕ) → list_all q (xs ++ ys) ≡ true → list_all q ys ≡ true
append_last q [] ys h = h
append_last q (x ∷ xs) ys h = append_last q xs ys (and_true_parts (q x) (list_all q (xs ++ ys)) h).1

remembered_first : (l : Ledger) (id : Id) (q : ℕ → Bool) (position : ℕ) (need : Need) (us : List Unsettled) → l.unsettled ≡ record { id = id; position = position; need = need } ∷ us →
    list_all q (memory_positions l id) ≡ true → q position ≡ true
remembered_first l id q position need us e h =
    let last = append_last q (waiting_positions id l.waiting ++ flight_positions id l.flights) (unsettled_positions id l.unsettled) h in
    let shown : list_all q ((if id_eq id id then position ∷ [] else []) ++ unsettled_positions id us) ≡ true = ap (λ vs. list_all q (unsettled_positions id vs)) (sym e) ∙ last in
    (and_true_parts (q position) (list_all q (unsettled_positions id us)) (ap (λ b. list_all q ((if b then position ∷ [] else []) ++ unsettled_positions id us)) (sym (id_eq-same id)) ∙ shown)).0

first_in : (l : Ledger) (id : Id) (position : ℕ) (need : Need) (us : List Unsettled) → l.unsettled ≡ record { id = id; position = position; need = need } ∷ us → list_all (λ (u : Unsettled). is_admitted l u.id) l.unsettled ≡ true → is_admitted l id ≡ true
first_in l id position need us e h = (and_true_parts (is_admitted l id) (list_all (λ (u : Unsettled). is_admitted l u.id) us) (ap (list_all (λ (u : Unsettled). is_admitted l u.id)) (sym e) ∙ h)).0

pub first_of_message : {w : World} {l : Ledger} → IsConsistent w l → (id : Id) (position : ℕ) (need : Need) → IsFirst l id position need → (m : Message) × IsFirstOf l id position need m
first_of_message {l = l} k id position need f =
    let adm : is_admitted l id ≡ true = first_in l id position need f.rest f.first k.memory.unsettled in
    let t = is_there k id adm in
    let found = found_some (find (λ (a : Admitted). id_eq a.id id) l.admitted) (find-any (λ (a : Admitted). id_eq a.id id) l.admitted ∙ adm) in
    let same : found.0.id ≡ id = id_eq-true found.0.id id (find-passes (λ (a : Admitted). id_eq a.id id) l.admitted found.0 found.1) in
    let remembered : IsRemembered l found.0 t.message = k.memory.remembered found.0 t.message (ap (admitted_of l) same ∙ found.1) (ap (message_of l.book) same ∙ t.there) in (
      t.message,
      record {
        admitted = adm;
        there = t.there;
        name = id_eq-true t.message.id id (find-passes (λ (x : Message). id_eq x.id id) l.book.messages t.message t.there);
        active = t.active;
        unmarked = remembered_first l id (is_unmarked_at t.message) position need f.rest f.first (ap (λ i. list_all (is_unmarked_at t.message) (memory_positions l i)) (sym same) ∙ remembered.unmarked);
        logged = remembered.logged ∙ ap (λ (us : List Unsettled). logged_of t.message (slice_get us 0)) f.first;
      },
    )
