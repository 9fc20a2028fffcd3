-- A message comes into memory.
use Rattle.std.proofs.Common.{◌≡◌, ℕ, ◌+◌, Bool, true, false, cond, not, List, [], ◌∷◌, ◌++◌, map, filter, find, Option, Some, None, option_map, ◌⊎◌, inl, inr, refl, sym, ap, ◌∙◌, subst, arith, is_some, if◌then◌else◌}
use Rattle.std.proofs.lemmas.Bool.{and_parts, or_parts}
use Rattle.std.proofs.lemmas.List.{map-append}
use Rattle.std.proofs.lemmas.List.Folds.{find-append, list_any-append}
use Rattle.std.proofs.lemmas.List.Sums.{sum_by-cons}
use Rattle.std.specs.List.{list_any}
use Rattle.std.specs.Option.{option_map_or, option_or}
use Rattle.std.specs.Prelude.{◌-◌, ◌&&◌, ◌||◌, ◌==◌, count_by}
use Rattle.q_bare.specs.Bare.{bare}
use Rattle.q_bare.specs.Counts.{Counts}
use Rattle.q_laws.proofs.Books.{message_in, only_message}
use Rattle.q_laws.proofs.Distinct.{id_eq-sym}
use Rattle.q_laws.proofs.Leaving.{HasNoRows}
use Rattle.q_laws.proofs.Members.{IsIn, any_in, in_either}
use Rattle.q_laws.proofs.Picked.{picked_out}
use Rattle.q_ledger.proofs.ActiveLaws.{active_ids, damaged_active, other_damaged}
use Rattle.q_ledger.proofs.BareLaws.{bare_from}
use Rattle.q_ledger.proofs.HeldLaws.{held_absent, held_distinct, held_past, held_present}
use Rattle.q_ledger.proofs.LeavingLaws.{count_moved, moved_messages}
use Rattle.q_ledger.proofs.QuietLaws.{bare_tidy, left_tidy, tidy_still}
use Rattle.q_ledger.proofs.RecountLaws.{admitted_stands, fixed_at, fixed_from, recounted_same, unread_counted}
use Rattle.q_ledger.specs.Beside.{IsBeside, IsCounted, IsOfLedger, recipients_in, recounted, rows_in}
use Rattle.q_ledger.specs.Changed.{entered, moved, new_slot, stood_at, with_ledger}
use Rattle.q_ledger.specs.Slots.{row_of_slot}
use Rattle.q_ledger.specs.State.{State}
use Rattle.q_ledger.specs.Taking.{IsChanged}
use Rattle.q_ledger.specs.declared.admitted.Slot.{Slot}
use Rattle.q_model.proofs.IdLaws.{id_eq-refl, id_eq-true}
use Rattle.q_model.specs.declared.entry.Entry.TheVariants as entries
use Rattle.q_model.specs.declared.id.Id.{Id}
use Rattle.q_model.specs.declared.rows.Admitted.{Admitted}
use Rattle.q_model.specs.declared.rows.Delivery.{Delivery}
use Rattle.q_model.specs.declared.rows.Place.TheVariants as places
use Rattle.q_model.specs.declared.rows.Row.{Row}
use Rattle.q_model.specs.declared.rows.Scan.{Scan}
use Rattle.q_model.specs.declared.rows.Unsettled.{Unsettled}
use Rattle.q_model.specs.Admissions.{after_admit, cause_gone, has_room, may_admit}
use Rattle.q_model.specs.Alternation.{after_pick, is_pick, passed, pick, Pick}
use Rattle.q_model.specs.Alternation.Pick.{from_deferred, from_incoming}
use Rattle.q_model.specs.Book.{message_of}
use Rattle.q_model.specs.BookChanges.{move_message}
use Rattle.q_model.specs.Ids.{id_eq}
use Rattle.q_model.specs.Ledger.{Ledger}
use Rattle.q_model.specs.Memory.{admitted_of, is_admitted, unread_count, unread_of}
use Rattle.q_model.specs.Message.{Message}
use Rattle.q_model.specs.Places.{is_active}
use Rattle.q_model.specs.Settings.{World}

-- ---- the message that is picked

-- it stands outside active, and isn't in memory
record IsOutside (b : Ledger) (id : Id) : Type 0 where
  message : Message
  there : message_of b.book id ≡ Some message
  out : is_active message.place ≡ false
  absent : is_admitted b id ≡ false

some_message : (o : Option Message) → is_some o ≡ true → (m : Message) × (o ≡ Some m)
some_message None h = absurd cc
some_message (Some m) h = (m, refl)

outside : (w : World) (c : Counts) (b : Ledger) (id : Id) → IsOfLedger w c b → may_admit w b id ≡ true → IsOutside b id
outside w c b id held may =
    let two = and_parts (has_room w b && is_pick b id && is_some (message_of b.book id)) (cause_gone b.book id) may in
    let one = and_parts (has_room w b && is_pick b id) (is_some (message_of b.book id)) two.0 in
    let it = some_message (message_of b.book id) one.1 in
    let out : is_active (it.0).place ≡ false = picked_out b id it.0 (held_distinct w c b held) (and_parts (has_room w b) (is_pick b id) one.0).1 it.1 in
    record { message = it.0; there = it.1; out = out; absent = which (is_admitted b id) refl it.0 it.1 out }
  where
    which : (t : Bool) → is_admitted b id ≡ t → (m : Message) → message_of b.book id ≡ Some m → is_active m.place ≡ false → t ≡ false
    which false e m there out = refl
    which true e m there out =
        let a = any_in (λ (x : Admitted). id_eq x.id id) b.admitted e in
        let one = admitted_stands b a.0 (held_present w c b held) a.1 in
        let both : Some one.0 ≡ Some m = sym one.1 ∙ ap (message_of b.book) (id_eq-true (a.0).id id a.2) ∙ there in
        let same : one.0 ≡ m = cc in
        let bad : true ≡ false = sym one.2 ∙ ap (λ (x : Message). is_active x.place) same ∙ out in
        absurd cc

-- ---- what is picked next

-- which queue follows and the scan, whoever is in memory
picked : (l : Ledger) → (follows : Bool) × (scan : Option Scan) × ((rows : List Admitted) → after_pick (record l { admitted = rows }) ≡ record l { admitted = rows; deferred_follows = follows; scan = scan })
picked l = on (pick l)
  where
    on : (o : Option Pick) → (follows : Bool) × (scan : Option Scan) × ((rows : List Admitted) → option_map_or (λ p. passed p (record l { admitted = rows })) o (record l { admitted = rows }) ≡ record l { admitted = rows; deferred_follows = follows; scan = scan })
    on None = (l.deferred_follows, l.scan, λ rows. refl)
    on (Some (from_incoming id)) = (true, l.scan, λ rows. refl)
    on (Some (from_deferred name)) = (false, option_map (λ (s : Scan). record s { place = Some name }) l.scan, λ rows. refl)

-- ---- leftovers

in_step : (id : Id) (p q : Id → Bool) (m : Message) (ms : List Message) (ds : List Id) → ((i : Id) → id_eq i id ≡ false → q i ≡ p i) → ((i : Id) → id_eq i id ≡ true → q i ≡ false) →
    (id_eq m.id id ≡ true → is_active m.place ≡ false) → filter p (active_ids ms ++ ds) ≡ filter q (active_ids (map (stood_at id places.Active) ms) ++ ds) → (t : Bool) → id_eq m.id id ≡ t →
    filter p (active_ids (m ∷ ms) ++ ds) ≡ filter q (active_ids ((if t then record m { place = places.Active } else m) ∷ map (stood_at id places.Active) ms) ++ ds)
in_step id p q m ms ds others own out rest true e =
    let more = active_ids (map (stood_at id places.Active) ms) ++ ds in
    ap (λ b. filter p (map (λ (x : Message). x.id) (cond b (m ∷ filter (λ (x : Message). is_active x.place) ms) (filter (λ (x : Message). is_active x.place) ms)) ++ ds)) (out e)
    ∙ rest ∙ sym (ap (λ b. cond b (m.id ∷ filter q more) (filter q more)) (own m.id e))
in_step id p q m ms ds others own out rest false e = which (is_active m.place)
  where
    which : (a : Bool) → filter p (map (λ (x : Message). x.id) (cond a (m ∷ filter (λ (x : Message). is_active x.place) ms) (filter (λ (x : Message). is_active x.place) ms)) ++ ds)
        ≡ filter q (map (λ (x : Message). x.id) (cond a (m ∷ filter (λ (x : Message). is_active x.place) (map (stood_at id places.Active) ms)) (filter (λ (x : Message). is_active x.place) (map (stood_at id places.Active) ms))) ++ ds)
    which true =
        ap (λ b. cond b (m.id ∷ filter p (active_ids ms ++ ds)) (filter p (active_ids ms ++ ds))) (sym (others m.id e))
        ∙ ap (λ (ids : List Id). cond (q m.id) (m.id ∷ ids) ids) rest
    which false = rest

damaged_in : (p q : Id → Bool) (ds : List Id) → ((i : Id) → IsIn i ds → q i ≡ p i) → filter p ds ≡ filter q ds
damaged_in p q [] h = refl
damaged_in p q (d ∷ ds) h =
    ap (λ b. cond b (d ∷ filter p ds) (filter p ds)) (sym (h d (inl refl))) ∙ ap (λ (ids : List Id). cond (q d) (d ∷ ids) ids) (damaged_in p q ds (λ i k. h i (inr k)))

-- the message is in active and in memory now, so those that are left are the same
entered_left : (id : Id) (p q : Id → Bool) (ms : List Message) (ds : List Id) → ((i : Id) → id_eq i id ≡ false → q i ≡ p i) → ((i : Id) → id_eq i id ≡ true → q i ≡ false) →
    ((m : Message) → IsIn m ms → id_eq m.id id ≡ true → is_active m.place ≡ false) → ((i : Id) → IsIn i ds → id_eq i id ≡ false) →
    filter p (active_ids ms ++ ds) ≡ filter q (active_ids (map (stood_at id places.Active) ms) ++ ds)
entered_left id p q [] ds others own out apart = damaged_in p q ds (λ i k. others i (apart i k))
entered_left id p q (m ∷ ms) ds others own out apart =
    in_step id p q m ms ds others own (out m (inl refl)) (entered_left id p q ms ds others own (λ x k. out x (inr k)) apart) (id_eq m.id id) refl

-- ---- counts

count_none : {A : Type 0} (p : A → Bool) (xs : List A) → list_any p xs ≡ false → count_by p xs ≡ 0
count_none p [] h = refl
count_none p (x ∷ xs) h =
    let two = or_parts (p x) (list_any p xs) h in
    sum_by-cons (λ y. cond (p y) 1 0) x xs ∙ ap (λ b. cond b 1 0 + count_by p xs) two.0 ∙ ap (λ n. 0 + n) (count_none p xs two.1)

no_rows : (b : Ledger) (id : Id) → HasNoRows b id → rows_in b id ≡ 0
no_rows b id h = omega (
  arith,
  count_none (λ (r : Row). id_eq r.id id) b.waiting h.waiting,
  count_none (λ (f : Delivery). id_eq f.row.id id) b.flights h.flights,
  count_none (λ (u : Unsettled). id_eq u.id id) b.unsettled h.unsettled,
)

-- what was unread still is, where a message comes last
still_read : (b l : Ledger) (a : Admitted) → l.admitted ≡ b.admitted ++ a ∷ [] → ((i : Id) → recipients_in l i ≡ recipients_in b i) → (i : Id) → not (unread_of b i == 0) ≡ true → not (unread_of l i == 0) ≡ true
still_read b l a more count i some = on (admitted_of b i) refl
  where
    on : (o : Option Admitted) → admitted_of b i ≡ o → not (unread_of l i == 0) ≡ true
    on None e =
        let bad : false ≡ true = sym (ap (λ (x : Option Admitted). not (option_map_or (λ (y : Admitted). unread_count b y) x 0 == 0)) e) ∙ some in
        absurd cc
    on (Some x) e =
        let found : admitted_of l i ≡ Some x = ap (find (λ (y : Admitted). id_eq y.id i)) more ∙ find-append (λ (y : Admitted). id_eq y.id i) b.admitted (a ∷ []) ∙ ap (λ (y : Option Admitted). option_or y (find (λ (z : Admitted). id_eq z.id i) (a ∷ []))) e in
        let same : unread_of l i ≡ unread_of b i =
        ap (λ (y : Option Admitted). option_map_or (λ (z : Admitted). unread_count l z) y 0) found ∙ unread_counted l x ∙ ap (λ n. n - x.unread) (count x.id) ∙ sym (unread_counted b x)
        ∙ sym (ap (λ (y : Option Admitted). option_map_or (λ (z : Admitted). unread_count b z) y 0) e) in
        ap (λ n. not (n == 0)) same ∙ some

-- ---- the ledger

abbrev entered_ledger : Ledger → Id → Bool → Option Scan → List Admitted → Ledger
entered_ledger b id follows scan rows = record b { book = move_message b.book id places.Active; deferred_follows = follows; scan = scan; admitted = rows }

abbrev entered_state : State → Id → Bool → Option Scan → State
entered_state s id follows scan = record s {
  ledger = entered_ledger s.ledger id follows scan (map row_of_slot (s.slots ++ new_slot s.ledger id ∷ []));
  slots = s.slots ++ new_slot s.ledger id ∷ [];
}

entered_counts : (s : State) (id : Id) (follows : Bool) (scan : Option Scan) → IsCounted s → HasNoRows s.ledger id → (x : Slot) → IsIn x (s.slots ++ new_slot s.ledger id ∷ []) →
    recounted (entered_state s id follows scan).ledger x ≡ x
entered_counts s id follows scan c none x inside = on (in_either x s.slots (new_slot s.ledger id ∷ []) inside)
  where
    on : IsIn x s.slots ⊎ IsIn x (new_slot s.ledger id ∷ []) → recounted (entered_state s id follows scan).ledger x ≡ x
    on (inl old) =
        recounted_same s.ledger (entered_state s id follows scan).ledger x (record { waiting = refl; flights = refl; unsettled = refl; served = refl }) (count_moved s.ledger.book id places.Active x.id)
        ∙ fixed_at (recounted s.ledger) x s.slots c.slots old
    on (inr (inl it)) = subst (λ (y : Slot). recounted (entered_state s id follows scan).ledger y ≡ y) it
        (ap (λ (n : ℕ). record (new_slot s.ledger id) { recipients = n; rows = rows_in s.ledger id }) (count_moved s.ledger.book id places.Active id)
        ∙ ap (λ (n : ℕ). record (new_slot s.ledger id) { rows = n }) (no_rows s.ledger id none))
    on (inr (inr it)) = absurd it

in_memory_now : (s : State) (id : Id) (l : Ledger) → l.admitted ≡ s.ledger.admitted ++ row_of_slot (new_slot s.ledger id) ∷ [] → (i : Id) → is_admitted l i ≡ (is_admitted s.ledger i || (id_eq id i || false))
in_memory_now s id l more i = ap (list_any (λ (a : Admitted). id_eq a.id i)) more ∙ list_any-append (λ (a : Admitted). id_eq a.id i) s.ledger.admitted (row_of_slot (new_slot s.ledger id) ∷ [])

entered_law : (w : World) (c : Counts) (s : State) (id : Id) (follows : Bool) (scan : Option Scan) → IsOfLedger w c s.ledger → IsBeside s → IsOutside s.ledger id →
    after_pick s.ledger ≡ record s.ledger { deferred_follows = follows; scan = scan } → IsChanged w s.ledger (entries.Admit id) (entered_state s id follows scan)
entered_law w c s id follows scan held beside it pass =
    let b = s.ledger in
    let x = new_slot b id in
    let t = entered_state s id follows scan in
    let l = t.ledger in
    let ds = damaged_active b.book in
    let more : b.admitted ++ row_of_slot x ∷ [] ≡ l.admitted = ap (λ (ys : List Admitted). ys ++ row_of_slot x ∷ []) beside.counted.admitted ∙ sym (map-append row_of_slot s.slots (x ∷ [])) in
    let count : (i : Id) → recipients_in l i ≡ recipients_in b i = count_moved b.book id places.Active in
    let same : bare (after_admit b id) ≡ l =
    ap (λ (k : Ledger). bare (record k { book = move_message b.book id places.Active; admitted = b.admitted ++ row_of_slot x ∷ [] })) pass
    ∙ ap (λ (ys : List Admitted). bare (entered_ledger b id follows scan ys)) more
    ∙ bare_from l (moved_messages w c b id places.Active held) (held_past w c b held) in
    let now = in_memory_now s id l (sym more) in
    record {
      ledger = left_tidy (after_admit b id) l same (tidy_still b l (bare_tidy w c b held) refl refl refl (still_read b l (row_of_slot x) (sym more) count));
      counted = record {
        admitted = refl;
        slots = fixed_from (recounted l) t.slots (entered_counts s id follows scan beside.counted (held_absent w c b id held it.absent));
      };
      leftovers = beside.leftovers ∙ entered_left id (λ i. not (is_admitted b i)) (λ i. not (is_admitted l i)) b.book.messages ds
          (λ i other. ap not (now i ∙ either (is_admitted b i) (id_eq id i) (id_eq-sym i id other)))
          (λ i own. ap not (now i ∙ ap (λ (j : Id). is_admitted b i || (id_eq j i || false)) (sym (id_eq-true i id own)) ∙ mine i))
          (λ m inside own. not_active m inside (id_eq-true m.id id own))
          (other_damaged b.book id it.message (held_distinct w c b held) it.there);
      left = beside.left;
    }
  where
    either : (a e : Bool) → e ≡ false → (a || (e || false)) ≡ a
    either true false h = refl
    either false false h = refl
    either a true h = absurd cc

    own_last : (a e : Bool) → e ≡ true → (a || (e || false)) ≡ true
    own_last true e h = refl
    own_last false true h = refl
    own_last false false h = absurd cc

    mine : (i : Id) → (is_admitted s.ledger i || (id_eq i i || false)) ≡ true
    mine i = own_last (is_admitted s.ledger i) (id_eq i i) (id_eq-refl i)

    not_active : (m : Message) → IsIn m s.ledger.book.messages → m.id ≡ id → is_active m.place ≡ false
    not_active m inside name =
        let here = message_in s.ledger.book id it.message it.there in
        ap (λ (y : Message). is_active y.place) (only_message s.ledger.book (held_distinct w c s.ledger held) m it.message inside here.0 (name ∙ sym here.1)) ∙ it.out

pub admit_law : (w : World) (c : Counts) (s : State) (id : Id) → IsOfLedger w c s.ledger → IsBeside s → may_admit w s.ledger id ≡ true →
    IsChanged w s.ledger (entries.Admit id) (moved id places.Active (with_ledger (entered id s) (after_pick (entered id s).ledger)))
admit_law w c s id held beside may =
    let p = picked s.ledger in
    subst (λ (k : Ledger). IsChanged w s.ledger (entries.Admit id) (moved id places.Active (with_ledger (entered id s) k))) (sym (p.2 (map row_of_slot (s.slots ++ new_slot s.ledger id ∷ []))))
    (entered_law w c s id p.0 p.1 held beside (outside w c s.ledger id held may) (p.2 s.ledger.admitted))
