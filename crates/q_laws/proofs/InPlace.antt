-- One message changes where it stands: its id, its place and how many recipients it has stay.
use Rattle.std.proofs.Common.{◌≡◌, ◌-◌, ◌≤◌, Bool, true, false, cond, not, List, [], ◌∷◌, ◌++◌, map, filter, Option, Some, None, option_map, inl, inr, refl, sym, ap, ◌∙◌, subst, length, arith, if◌then◌else◌, le_trans, le_refl}
use Rattle.std.proofs.lemmas.Bool.{and_from, and_parts, or_left}
use Rattle.std.proofs.lemmas.Option.{same_Some}
use Rattle.std.specs.List.{list_all, list_any}
use Rattle.std.specs.Option.{option_map_or}
use Rattle.std.specs.Prelude.{◌==◌, ◌||◌, ◌&&◌, nat_le}
use Rattle.q_laws.proofs.Books.{left_parts, message_in, only_message}
use Rattle.q_laws.proofs.Distinct.{id_cases}
use Rattle.q_laws.proofs.Mapped.{KeepsOrder, all_ids_mapped, find_mapped, orderly_mapped}
use Rattle.q_laws.proofs.Members.{IsIn, all_at, all_from, all_weaker, in_unmap}
use Rattle.q_laws.proofs.Quiet.{IsQuiet, account_kept, begun_noted, still_come}
use Rattle.q_laws.proofs.Tidied.{IsReady}
use Rattle.q_laws.specs.Consistency.{IsBookConsistent, IsConsistent, IsRemembered, has_come, is_present, is_synced_well, is_within}
use Rattle.q_model.specs.Book.{Book, Damaged, all_ids, ids_at, message_of}
use Rattle.q_model.specs.BookChanges.{change_message}
use Rattle.q_model.specs.Finishing.{is_clean}
use Rattle.q_model.specs.Ids.{are_distinct, id_before, id_eq}
use Rattle.q_model.specs.Ledger.{Ledger}
use Rattle.q_model.specs.Leftovers.{is_leftover, next_leftover}
use Rattle.q_model.specs.Lists.{has_none, least}
use Rattle.q_model.specs.Memory.{admitted_of, is_admitted, unread_count, unread_of}
use Rattle.q_model.specs.Message.{Message, unmarked_logged}
use Rattle.q_model.specs.Orderly.{has_firm_failures, is_sealed, is_sound}
use Rattle.q_model.specs.Places.{is_active, is_incoming}
use Rattle.q_model.specs.Settings.{World}
use Rattle.q_model.specs.declared.entry.Entry.{Entry}
use Rattle.q_model.specs.declared.id.Id.{Id}
use Rattle.q_model.specs.declared.rows.Admitted.{Admitted}
use Rattle.q_model.specs.declared.rows.Place.{Place}
use Rattle.q_model.specs.declared.rows.Unsettled.{Unsettled}

-- the change keeps the id, the place and the number of recipients
pub record KeepsShape (f : Message → Message) : Type 0 where
  pub name : (m : Message) → (f m).id ≡ m.id
  pub place : (m : Message) → (f m).place ≡ m.place
  pub count : (m : Message) → length (f m).recipients ≡ length m.recipients

-- the message changed, where it is the one of this id
abbrev pub changed : Id → (Message → Message) → Message → Message
changed id f m = if id_eq m.id id then f m else m

pub changed_same : (id : Id) (f : Message → Message) (m : Message) → id_eq m.id id ≡ true → changed id f m ≡ f m
changed_same id f m e = ap (λ b. if b then f m else m) e

pub changed_other : (id : Id) (f : Message → Message) (m : Message) → id_eq m.id id ≡ false → changed id f m ≡ m
changed_other id f m e = ap (λ b. if b then f m else m) e

kept_by : {A : Type 0} (g : Message → A) (f : Message → Message) (b : Bool) (m : Message) → g (f m) ≡ g m → g (if b then f m else m) ≡ g m
kept_by g f true m h = h
kept_by g f false m h = refl

pub changed_name : (id : Id) (f : Message → Message) → ((m : Message) → (f m).id ≡ m.id) → (m : Message) → (changed id f m).id ≡ m.id
changed_name id f h m = kept_by (λ x. x.id) f (id_eq m.id id) m (h m)

-- ---- what isn't changed of it

on_option : {A : Type 0} (d : A) (g : Message → A) (c : Message → Message) → ((m : Message) → g (c m) ≡ g m) → (o : Option Message) → option_map_or g (option_map c o) d ≡ option_map_or g o d
on_option d g c h None = refl
on_option d g c h (Some m) = h m

pub on_change : {A : Type 0} (d : A) (g : Message → A) (id : Id) (f : Message → Message) → ((m : Message) → (f m).id ≡ m.id) → ((m : Message) → g (f m) ≡ g m) → (b : Book) (i : Id) →
    option_map_or g (message_of (change_message b id f) i) d ≡ option_map_or g (message_of b i) d
on_change d g id f name h b i =
    ap (λ o. option_map_or g o d) (find_mapped (changed id f) (changed_name id f name) i b.messages)
    ∙ on_option d g (changed id f) (λ m. kept_by g f (id_eq m.id id) m (h m)) (message_of b i)

kept_names : (c : Message → Message) (place : Place → Bool) (few all : List Message) (m : Message) (a b : Bool) → a ≡ b → (c m).id ≡ m.id → map (λ (x : Message). x.id) few ≡ map (λ (x : Message). x.id) all →
    map (λ (x : Message). x.id) (cond a (c m ∷ few) few) ≡ map (λ (x : Message). x.id) (cond b (m ∷ all) all)
kept_names c place few all m true true e n h = ap (λ (i : Id). i ∷ map (λ (x : Message). x.id) few) n ∙ ap (λ (is : List Id). m.id ∷ is) h
kept_names c place few all m false false e n h = h
kept_names c place few all m true false e n h = absurd cc
kept_names c place few all m false true e n h = absurd cc

placed_names : (c : Message → Message) → ((m : Message) → (c m).id ≡ m.id) → ((m : Message) → (c m).place ≡ m.place) → (place : Place → Bool) (ms : List Message) →
    map (λ (x : Message). x.id) (filter (λ (x : Message). place x.place) (map c ms)) ≡ map (λ (x : Message). x.id) (filter (λ (x : Message). place x.place) ms)
placed_names c n p place [] = refl
placed_names c n p place (m ∷ ms) = kept_names c place (filter (λ (x : Message). place x.place) (map c ms)) (filter (λ (x : Message). place x.place) ms) m (place (c m).place) (place m.place) (ap place (p m)) (n m) (placed_names c n p place ms)

pub ids_at_change : (place : Place → Bool) (b : Book) (id : Id) (f : Message → Message) → KeepsShape f → ids_at place (change_message b id f) ≡ ids_at place b
ids_at_change place b id f s =
    ap (λ (is : List Id). is ++ map (λ (d : Damaged). d.id) (filter (λ (d : Damaged). place d.place) b.damaged))
    (placed_names (changed id f) (changed_name id f s.name) (λ m. kept_by (λ x. x.place) f (id_eq m.id id) m (s.place m)) place b.messages)

-- ---- the ledger after the change

abbrev pub changed_ledger : Ledger → Id → (Message → Message) → List Unsettled → List Id → Entry → Ledger
changed_ledger l id f us ss e = record l { book = change_message l.book id f; unsettled = us; synced = ss; past = e ∷ l.past }

pub left_change : (l : Ledger) (id : Id) (f : Message → Message) (us : List Unsettled) (ss : List Id) (e : Entry) → KeepsShape f → (i : Id) → is_leftover (changed_ledger l id f us ss e) i ≡ is_leftover l i
left_change l id f us ss e s i = ap (λ (is : List Id). list_any (id_eq i) (filter (λ x. not (is_admitted l x)) is)) (ids_at_change is_active l.book id f s)

next_change : (l : Ledger) (id : Id) (f : Message → Message) (us : List Unsettled) (ss : List Id) (e : Entry) → KeepsShape f → next_leftover (changed_ledger l id f us ss e) ≡ next_leftover l
next_change l id f us ss e s = ap (λ (is : List Id). least id_before (filter (λ x. not (is_admitted l x)) is)) (ids_at_change is_active l.book id f s)

well_from : (n x y : Bool) → (x ≡ true → y ≡ true) → (n || x) ≡ true → (n || y) ≡ true
well_from true x y h e = refl
well_from false x y h e = h e

-- another leftover is synced as well as it was
pub well_other : (l : Ledger) (id : Id) (f : Message → Message) (us : List Unsettled) (ss : List Id) (e : Entry) → KeepsShape f → (i : Id) → id_eq i id ≡ false → is_synced_well l i ≡ true → is_synced_well (changed_ledger l id f us ss e) i ≡ true
well_other l id f us ss e s i other h =
    ap (λ b. not b || option_map_or (λ m. is_clean m && has_none (unmarked_logged m)) (message_of (change_message l.book id f) i) true) (left_change l id f us ss e s i)
    ∙ ap (λ o. not (is_leftover l i) || option_map_or (λ m. is_clean m && has_none (unmarked_logged m)) o true) (find_mapped (changed id f) (changed_name id f s.name) i l.book.messages)
    ∙ well_from (not (is_leftover l i)) (option_map_or (λ m. is_clean m && has_none (unmarked_logged m)) (message_of l.book i) true) (option_map_or (λ m. is_clean m && has_none (unmarked_logged m)) (option_map (changed id f) (message_of l.book i)) true)
    (λ k. same (message_of l.book i) refl k) h
  where
    same : (o : Option Message) → message_of l.book i ≡ o → option_map_or (λ m. is_clean m && has_none (unmarked_logged m)) o true ≡ true → option_map_or (λ m. is_clean m && has_none (unmarked_logged m)) (option_map (changed id f) o) true ≡ true
    same None there k = refl
    same (Some m) there k =
        let mine : m.id ≡ i = (message_in l.book i m there).1 in
        ap (λ x. is_clean x && has_none (unmarked_logged x)) (changed_other id f m (ap (λ (j : Id). id_eq j id) mine ∙ other)) ∙ k

not_left : (l : Ledger) (id : Id) → is_admitted l id ≡ true → (b : Bool) → is_leftover l id ≡ b → b ≡ false
not_left l id adm true e = let bad : false ≡ true = sym (ap not adm) ∙ (left_parts l id e).1 in cc
not_left l id adm false e = refl

pub admitted_not_left : (l : Ledger) (id : Id) → is_admitted l id ≡ true → is_leftover l id ≡ false
admitted_not_left l id h = not_left l id h (is_leftover l id) refl

-- a message in memory is no leftover
pub well_admitted : (l : Ledger) (id : Id) (f : Message → Message) (us : List Unsettled) (ss : List Id) (e : Entry) → KeepsShape f → is_admitted l id ≡ true → is_synced_well (changed_ledger l id f us ss e) id ≡ true
well_admitted l id f us ss e s h =
    or_left (not (is_leftover (changed_ledger l id f us ss e) id)) (option_map_or (λ m. is_clean m && has_none (unmarked_logged m)) (message_of (change_message l.book id f) id) true)
    (ap not (left_change l id f us ss e s id ∙ admitted_not_left l id h))

-- where a message in memory changes, all that were synced well still are
pub well_kept : (l : Ledger) (id : Id) (f : Message → Message) (us : List Unsettled) (ss : List Id) (e : Entry) → KeepsShape f → is_admitted l id ≡ true → list_all (is_synced_well l) l.synced ≡ true → list_all (is_synced_well (changed_ledger l id f us ss e)) l.synced ≡ true
well_kept l id f us ss e s h k = all_weaker (is_synced_well l) (is_synced_well (changed_ledger l id f us ss e)) l.synced (λ i there well. elim (id_cases i id) [
  | inl same ↦ subst (λ j. is_synced_well (changed_ledger l id f us ss e) j ≡ true) (sym same.0) (well_admitted l id f us ss e s h)
  | inr other ↦ well_other l id f us ss e s i other well
]) k

unread_on : (l : Ledger) (id : Id) (f : Message → Message) → KeepsShape f → (o : Option Admitted) →
    option_map_or (λ (a : Admitted). option_map_or (λ m. length m.recipients - a.unread) (message_of (change_message l.book id f) a.id) 0) o 0 ≡ option_map_or (λ (a : Admitted). unread_count l a) o 0
unread_on l id f s None = refl
unread_on l id f s (Some a) = on_change 0 (λ m. length m.recipients - a.unread) id f s.name (λ m. ap (λ n. n - a.unread) (s.count m)) l.book a.id

pub unread_change : (l : Ledger) (id : Id) (f : Message → Message) (us : List Unsettled) (ss : List Id) (e : Entry) → KeepsShape f → (i : Id) → unread_of (changed_ledger l id f us ss e) i ≡ unread_of l i
unread_change l id f us ss e s i = unread_on l id f s (admitted_of l i)

-- ---- the order of the book

-- what one message has of itself as it changes, and each other has of itself
pub keeps_one : (b : Book) (id : Id) (f : Message → Message) (P : Message → Message → Type 0) (m : Message) → are_distinct (all_ids b) ≡ true → message_of b id ≡ Some m → P m (f m) → ((x : Message) → P x x) →
    (x : Message) → IsIn x b.messages → P x (changed id f x)
keeps_one b id f P m distinct there here rest x h = elim (id_cases x.id id) [
  | inl same ↦
      let mine = message_in b id m there in
      let one : m ≡ x = only_message b distinct m x mine.0 h (mine.1 ∙ sym same.0) in
      subst (λ y. P x y) (sym (changed_same id f x same.1)) (subst (λ y. P y (f y)) one here)
  | inr other ↦ subst (λ y. P x y) (sym (changed_other id f x other)) (rest x)
]

-- a message in active that stays sealed if it was
pub keeps_active : (b : Book) (id : Id) (f : Message → Message) (m : Message) → are_distinct (all_ids b) ≡ true → message_of b id ≡ Some m → KeepsShape f → is_active m.place ≡ true → (is_sealed m ≡ true → is_sealed (f m) ≡ true) → KeepsOrder b (changed id f)
keeps_active b id f m distinct there s active sealed = record {
  name = changed_name id f s.name;
  cause = keeps_one b id f (λ x y. (is_active x.place && is_sealed x) ≡ true → (is_active y.place && is_sealed y) ≡ true) m distinct there
      (λ h. let two = and_parts (is_active m.place) (is_sealed m) h in and_from (is_active (f m).place) (is_sealed (f m)) (ap is_active (s.place m) ∙ active) (sealed two.1)) (λ x h. h);
  incoming = λ x h e bounce stands. ap is_incoming (kept_by (λ y. y.place) f (id_eq x.id id) x (s.place x)) ∙ e;
  sound = keeps_one b id f (λ x y. (is_active x.place || is_sound x) ≡ true → (is_active y.place || is_sound y) ≡ true) m distinct there
      (λ h. or_left (is_active (f m).place) (is_sound (f m)) (ap is_active (s.place m) ∙ active)) (λ x h. h);
}

pub change_book : (l : Ledger) (id : Id) (f : Message → Message) (us : List Unsettled) (ss : List Id) (e : Entry) → IsBookConsistent l → KeepsOrder l.book (changed id f) → ((m : Message) → IsIn m l.book.messages → has_firm_failures m ≡ true → has_firm_failures (changed id f m) ≡ true) → IsBookConsistent (changed_ledger l id f us ss e)
change_book l id f us ss e h o firm =
    let b = l.book in
    let k = changed_ledger l id f us ss e in
    let same : all_ids (change_message b id f) ≡ all_ids b = all_ids_mapped b b.generation (changed id f) o.name in
    record {
      distinct = ap are_distinct same ∙ h.distinct;
      orderly = orderly_mapped b b.generation (changed id f) (le_refl b.generation) o h.orderly;
      firm = all_from has_firm_failures (map (changed id f) b.messages) (λ x there.
          let one = in_unmap (changed id f) x b.messages there in
          subst (λ y. has_firm_failures y ≡ true) one.2 (firm one.0 one.1 (all_at has_firm_failures one.0 b.messages h.firm one.1)));
      come = ap (list_all (has_come k)) same ∙ all_weaker (has_come l) (has_come k) (all_ids b) (λ i there c. still_come l e i c) h.come;
    }

pub remembered_on : (c : Message → Message) (o : Option Message) (n : Message) → option_map c o ≡ Some n → (m : Message) × (o ≡ Some m) × (c m ≡ n)
remembered_on c None n h = absurd cc
remembered_on c (Some m) n h = (m, refl, same_Some (c m) n h)

-- the ledger is ready after such a change
pub change_ready : (w : World) (l : Ledger) (id : Id) (f : Message → Message) (us : List Unsettled) (ss : List Id) (e : Entry) → IsConsistent w l → KeepsShape f → KeepsOrder l.book (changed id f) →
    ((m : Message) → IsIn m l.book.messages → has_firm_failures m ≡ true → has_firm_failures (changed id f m) ≡ true) → IsQuiet e →
    list_all (λ (u : Unsettled). is_admitted l u.id) us ≡ true → length us ≤ length l.unsettled →
    ((a : Admitted) (m : Message) → admitted_of l a.id ≡ Some a → message_of l.book a.id ≡ Some m → IsRemembered (changed_ledger l id f us ss e) a (changed id f m)) →
    list_all (is_synced_well (changed_ledger l id f us ss e)) ss ≡ true → ((i : Id) → is_leftover l i ≡ true → list_any (id_eq i) ss ≡ true → next_leftover l ≡ Some i) → IsReady w (changed_ledger l id f us ss e)
change_ready w l id f us ss e c s o firm q theirs fewer remembered synced next =
    let m = c.memory in
    let k = changed_ledger l id f us ss e in
    record {
      usable = c.usable;
      book = change_book l id f us ss e c.book o firm;
      memory = record {
        admitted = m.admitted;
        present = all_weaker (is_present l) (is_present k) l.admitted (λ a there h. on_change false (λ x. is_active x.place) id f s.name (λ x. ap is_active (s.place x)) l.book a.id ∙ h) m.present;
        within = all_weaker (is_within l) (is_within k) l.admitted (λ a there h. on_change false (λ x. nat_le a.unread (length x.recipients)) id f s.name (λ x. ap (nat_le a.unread) (s.count x)) l.book a.id ∙ h) m.within;
        waiting = m.waiting;
        filled = m.filled;
        flights = m.flights;
        unsettled = theirs;
        remembered = λ a n mine there.
            let one = remembered_on (changed id f) (message_of l.book a.id) n (sym (find_mapped (changed id f) (changed_name id f s.name) a.id l.book.messages) ∙ there) in
            subst (λ x. IsRemembered k a x) one.2 (remembered a one.0 mine one.1);
        numbers = m.numbers;
        begun = begun_noted l e m.begun;
        single = m.single;
        fresh = λ i t some gone. account_kept l e i t (q i t) (m.fresh i t (sym (ap (λ n. n == 0) (unread_change l id f us ss e s i)) ∙ some) gone);
        synced = synced;
        synced_next = λ i left was. next_change l id f us ss e s ∙ next i (sym (left_change l id f us ss e s i) ∙ left) was;
        messages = m.messages;
        recipients = le_trans (omega (arith, fewer)) m.recipients;
      };
    }
