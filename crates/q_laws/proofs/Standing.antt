-- Where the file of an id stands: the next of incoming, the next name of deferred, the next leftover.
use Rattle.std.proofs.Common.{◌≡◌, Bool, true, false, cond, List, [], ◌∷◌, Option, Some, None, option_map, is_some, inl, inr, ◌⊎◌, refl, sym, ap, ◌∙◌, filter}
use Rattle.std.specs.List.{filter_map}
use Rattle.std.specs.Prelude.{find, map, not, option_and_then}
use Rattle.q_laws.proofs.Books.{in_ids_at, message_in, not_damaged, only_message}
use Rattle.q_laws.proofs.Distinct.{distinct_parts, id_same, same_named}
use Rattle.q_laws.proofs.Members.{IsIn, find_in, in_either, in_filtered, least_in}
use Rattle.q_laws.proofs.Picked.{in_given}
use Rattle.q_model.proofs.IdLaws.{id_eq-true}
use Rattle.q_model.specs.Book.{Book, Damaged, all_ids, damaged_of, ids_at, message_of}
use Rattle.q_model.specs.Ids.{are_distinct, id_before, id_eq}
use Rattle.q_model.specs.Ledger.{Ledger}
use Rattle.q_model.specs.Leftovers.{leftovers, next_leftover}
use Rattle.q_model.specs.Memory.{is_admitted}
use Rattle.q_model.specs.Message.{Message}
use Rattle.q_model.specs.Places.{is_active, is_incoming}
use Rattle.q_model.specs.Scans.{deferred_name, deferred_names, is_ahead, name_before, scan_next}
use Rattle.q_model.specs.Alternation.{deferred_next, incoming_next}
use Rattle.q_model.specs.declared.id.Id.{Id}
use Rattle.q_model.specs.declared.rows.DeferredName.{DeferredName}
use Rattle.q_model.specs.declared.rows.Place.{Place}
use Rattle.q_model.specs.declared.rows.Place.TheVariants as places
use Rattle.q_model.specs.declared.rows.Scan.{Scan}

-- a message or a damaged file of this id stands at the place
abbrev pub IsHere : Book → Id → Place → Type 0
IsHere b id place = ((m : Message) × IsIn m b.messages × (m.id ≡ id) × (m.place ≡ place)) ⊎ ((d : Damaged) × IsIn d b.damaged × (d.id ≡ id) × (d.place ≡ place))

some_kept : {A : Type 0} (x : A) (o : Option A) (b : Bool) → is_some o ≡ true → is_some (cond b (Some x) o) ≡ true
some_kept x o true h = refl
some_kept x o false h = h

find_some : {A : Type 0} (p : A → Bool) (x : A) (xs : List A) → IsIn x xs → p x ≡ true → is_some (find p xs) ≡ true
find_some p x [] h e = absurd h
find_some p x (y ∷ ys) (inl same) e = ap (λ b. is_some (cond b (Some y) (find p ys))) (ap p same ∙ e)
find_some p x (y ∷ ys) (inr h) e = some_kept y (find p ys) (p y) (find_some p x ys h e)

-- the message of the id stands there
pub whole_here : (b : Book) → are_distinct (all_ids b) ≡ true → (id : Id) (place : Place) (m : Message) → IsHere b id place → message_of b id ≡ Some m → m.place ≡ place
whole_here b distinct id place m (inl h) there =
    let mine = message_in b id m there in
    ap (λ (x : Message). x.place) (only_message b distinct m h.0 mine.0 h.1 (mine.1 ∙ sym h.2)) ∙ h.3
whole_here b distinct id place m (inr h) there =
    let mine = message_in b id m there in
    absurd (not_damaged b distinct m h.0 mine.0 h.1 (mine.1 ∙ sym h.2))

damaged_is : (b : Book) → are_distinct (all_ids b) ≡ true → (id : Id) (d : Damaged) → IsIn d b.damaged → d.id ≡ id → (o : Option Damaged) → damaged_of b id ≡ o → option_map (λ (x : Damaged). x.place) o ≡ Some d.place
damaged_is b distinct id d inside same None e =
    let some = find_some (λ (x : Damaged). id_eq x.id id) d b.damaged inside (id_same d.id id same) in
    let bad : true ≡ false = sym some ∙ ap is_some e in
    absurd cc
damaged_is b distinct id d inside same (Some k) e =
    let one = find_in (λ (x : Damaged). id_eq x.id id) k b.damaged e in
    ap (λ (x : Damaged). Some x.place) (same_named (λ (x : Damaged). x.id) k d b.damaged (distinct_parts (map (λ (m : Message). m.id) b.messages) (map (λ (x : Damaged). x.id) b.damaged) distinct).1 one.0 inside (id_eq-true k.id id one.1 ∙ sym same))

-- where it has none, its damaged file stands there
pub broken_here : (b : Book) → are_distinct (all_ids b) ≡ true → (id : Id) (place : Place) → IsHere b id place → message_of b id ≡ None → option_map (λ (d : Damaged). d.place) (damaged_of b id) ≡ Some place
broken_here b distinct id place (inl h) none =
    let some = find_some (λ (x : Message). id_eq x.id id) h.0 b.messages h.1 (id_same (h.0).id id h.2) in
    let bad : true ≡ false = sym some ∙ ap is_some none in
    absurd cc
broken_here b distinct id place (inr h) none = damaged_is b distinct id h.0 h.1 h.2 (damaged_of b id) refl ∙ ap Some h.3

-- ---- the three nexts

listed_here : (test : Place → Bool) (b : Book) (id : Id) (place : Place) → ((q : Place) → test q ≡ true → q ≡ place) → IsIn id (ids_at test b) → IsHere b id place
listed_here test b id place only h = elim (in_ids_at test b id h) [
  | inl m ↦ inl (m.0, m.1, m.2, only (m.0).place m.3)
  | inr d ↦ inr (d.0, d.1, d.2, only (d.0).place d.3)
]

only_incoming : (q : Place) → is_incoming q ≡ true → q ≡ places.Incoming
only_incoming places.Incoming h = refl
only_incoming places.Active h = cc
only_incoming (places.Deferred due) h = cc
only_incoming places.Hold h = cc
only_incoming places.Corrupt h = cc

only_active : (q : Place) → is_active q ≡ true → q ≡ places.Active
only_active places.Active h = refl
only_active places.Incoming h = cc
only_active (places.Deferred due) h = cc
only_active places.Hold h = cc
only_active places.Corrupt h = cc

pub incoming_here : (l : Ledger) (id : Id) → incoming_next l ≡ Some id → IsHere l.book id places.Incoming
incoming_here l id h = listed_here is_incoming l.book id places.Incoming only_incoming (least_in id_before id (ids_at is_incoming l.book) h)

pub leftover_here : (l : Ledger) (id : Id) → next_leftover l ≡ Some id → IsHere l.book id places.Active
leftover_here l id h =
    listed_here is_active l.book id places.Active only_active
    (in_filtered (λ x. not (is_admitted l x)) id (ids_at is_active l.book) (least_in id_before id (leftovers l) h)).0

named_place : (place : Place) (id : Id) (n : DeferredName) → deferred_name place id ≡ Some n → (id ≡ n.id) × (place ≡ places.Deferred n.due)
named_place places.Incoming id n h = cc
named_place places.Active id n h = cc
named_place (places.Deferred due) id n h = let same : record { due = due; id = id } ≡ n = cc in (ap (λ (x : DeferredName). x.id) same, ap (λ (x : DeferredName). places.Deferred x.due) same)
named_place places.Hold id n h = cc
named_place places.Corrupt id n h = cc

name_here : (b : Book) (n : DeferredName) → IsIn n (deferred_names b) → IsHere b n.id (places.Deferred n.due)
name_here b n h =
    elim (in_either n (filter_map (λ (x : Message). deferred_name x.place x.id) b.messages) (filter_map (λ (d : Damaged). deferred_name d.place d.id) b.damaged) h) [
      | inl whole ↦
          let one = in_given (λ (x : Message). deferred_name x.place x.id) n b.messages whole in
          let is = named_place (one.0).place (one.0).id n one.2 in
          inl (one.0, one.1, is.0, is.1)
      | inr broken ↦
          let one = in_given (λ (d : Damaged). deferred_name d.place d.id) n b.damaged broken in
          let is = named_place (one.0).place (one.0).id n one.2 in
          inr (one.0, one.1, is.0, is.1)
    ]

scan_here : (b : Book) (o : Option Scan) (n : DeferredName) → option_and_then (λ s. scan_next b s) o ≡ Some n → IsHere b n.id (places.Deferred n.due)
scan_here b None n h = cc
scan_here b (Some s) n h = name_here b n (in_filtered (is_ahead s) n (deferred_names b) (least_in name_before n (filter (is_ahead s) (deferred_names b)) h)).0

pub deferred_here : (l : Ledger) (n : DeferredName) → deferred_next l ≡ Some n → IsHere l.book n.id (places.Deferred n.due)
deferred_here l n h = scan_here l.book l.scan n h
