-- What a job has left, and its account, as entries are noted and ledgers tidied.
use Rattle.std.proofs.Common.{◌≡◌, ℕ, ◌+◌, ◌-◌, ◌≤◌, Bool, true, false, cond, not, List, [], ◌∷◌, ◌++◌, find, length, Option, Some, None, count_by, sum_by, inl, inr, refl, sym, ap, ◌∙◌, arith, if◌then◌else◌}
use Rattle.std.proofs.lemmas.Bool.{not-true}
use Rattle.std.proofs.lemmas.List.Sums.{sum_by-append, sum_by-cons, take_while-cons}
use Rattle.std.specs.List.{list_any}
use Rattle.std.specs.Option.{option_map_or}
use Rattle.std.specs.Prelude.{◌==◌, ◌&&◌, ◌||◌}
use Rattle.q_laws.proofs.Distinct.{id_cases}
use Rattle.q_laws.proofs.InPlace.{on_change}
use Rattle.q_laws.proofs.Members.{IsIn, find_in, find_none_from, in_filtered}
use Rattle.q_laws.proofs.Tidied.{tidy_scan_is}
use Rattle.q_model.proofs.IdLaws.{id_eq-true}
use Rattle.q_model.specs.Accounts.{charge_of, charged, is_admit_of, is_start_of, job_left, since_admit, starts_of}
use Rattle.q_model.specs.Book.{Book, message_of}
use Rattle.q_model.specs.BookChanges.{change_message}
use Rattle.q_model.specs.Finishing.{without}
use Rattle.q_model.specs.Ids.{id_eq}
use Rattle.q_model.specs.Ledger.{Ledger}
use Rattle.q_model.specs.Lists.{drop_first}
use Rattle.q_model.specs.Message.{Message}
use Rattle.q_model.specs.Settings.{World}
use Rattle.q_model.specs.Step.{after, change, noted, tidied}
use Rattle.q_model.specs.declared.entry.Entry.{Entry}
use Rattle.q_model.specs.declared.id.Id.{Id}
use Rattle.q_model.specs.declared.rows.Admitted.{Admitted}
use Rattle.q_model.specs.declared.rows.Row.{Row}

-- ---- what is unread

-- what is unread of a message, by those in memory and the book
abbrev pub unread_in : List Admitted → Book → Id → ℕ
unread_in rows b id = option_map_or (λ (a : Admitted). option_map_or (λ (m : Message). length m.recipients - a.unread) (message_of b a.id) 0) (find (λ (a : Admitted). id_eq a.id id) rows) 0

abbrev left_of : Book → Admitted → ℕ
left_of b a = option_map_or (λ (m : Message). length m.recipients - a.unread) (message_of b a.id) 0

-- another book in which the messages in memory are the same
pub unread_same : (rows : List Admitted) (b c : Book) (id : Id) → ((a : Admitted) → IsIn a rows → message_of c a.id ≡ message_of b a.id) → unread_in rows c id ≡ unread_in rows b id
unread_same rows b c id same = on (find (λ (a : Admitted). id_eq a.id id) rows) refl
  where
    on : (o : Option Admitted) → find (λ (a : Admitted). id_eq a.id id) rows ≡ o → option_map_or (left_of c) o 0 ≡ option_map_or (left_of b) o 0
    on None f = refl
    on (Some a) f = ap (λ (o : Option Message). option_map_or (λ (m : Message). length m.recipients - a.unread) o 0) (same a (find_in (λ (x : Admitted). id_eq x.id id) a rows f).0)

-- a change of one message that keeps the number of its recipients
pub unread_changed : (rows : List Admitted) (b : Book) (i : Id) (f : Message → Message) (id : Id) → ((m : Message) → (f m).id ≡ m.id) → ((m : Message) → length (f m).recipients ≡ length m.recipients) → unread_in rows (change_message b i f) id ≡ unread_in rows b id
unread_changed rows b i f id name count = on (find (λ (a : Admitted). id_eq a.id id) rows)
  where
    on : (o : Option Admitted) → option_map_or (left_of (change_message b i f)) o 0 ≡ option_map_or (left_of b) o 0
    on None = refl
    on (Some a) = on_change 0 (λ m. length m.recipients - a.unread) i f name (λ m. ap (λ n. n - a.unread) (count m)) b a.id

find_without : (i id : Id) (rows : List Admitted) → id_eq id i ≡ false → find (λ (a : Admitted). id_eq a.id id) (without i rows) ≡ find (λ (a : Admitted). id_eq a.id id) rows
find_without i id [] other = refl
find_without i id (a ∷ rows) other = on (id_eq a.id i) refl (find_without i id rows other)
  where
    on : (t : Bool) → id_eq a.id i ≡ t → find (λ (x : Admitted). id_eq x.id id) (without i rows) ≡ find (λ (x : Admitted). id_eq x.id id) rows →
        find (λ (x : Admitted). id_eq x.id id) (cond (not t) (a ∷ without i rows) (without i rows)) ≡ cond (id_eq a.id id) (Some a) (find (λ (x : Admitted). id_eq x.id id) rows)
    on false e r = ap (cond (id_eq a.id id) (Some a)) r
    on true e r =
        let same : a.id ≡ i = id_eq-true a.id i e in
        let out : id_eq a.id id ≡ false = elim (id_cases a.id id) [
          | inl s ↦ (let bad : true ≡ false = sym e ∙ ap (λ (j : Id). id_eq j i) s.0 ∙ other in absurd cc)
          | inr o ↦ o
        ] in
        r ∙ sym (ap (λ b. cond b (Some a) (find (λ (x : Admitted). id_eq x.id id) rows)) out)

gone_without : (id : Id) (rows : List Admitted) → find (λ (a : Admitted). id_eq a.id id) (without id rows) ≡ None
gone_without id rows = find_none_from (λ (a : Admitted). id_eq a.id id) (without id rows) (λ a inside. not-true (id_eq a.id id) (in_filtered (λ (x : Admitted). not (id_eq x.id id)) a rows inside).1)

-- a message leaves memory, and all others are the same in the book
pub unread_without : (rows : List Admitted) (b c : Book) (i id : Id) → ((j : Id) → id_eq j i ≡ false → message_of c j ≡ message_of b j) → unread_in (without i rows) c id ≤ unread_in rows b id
unread_without rows b c i id same = elim (id_cases id i) [
  | inl mine ↦
      let none : unread_in (without i rows) c id ≡ 0 = ap (λ (o : Option Admitted). option_map_or (left_of c) o 0) (ap (λ (j : Id). find (λ (a : Admitted). id_eq a.id j) (without i rows)) mine.0 ∙ gone_without i rows) in
      omega (arith, none)
  | inr other ↦
      let found : unread_in (without i rows) c id ≡ unread_in rows c id = ap (λ (o : Option Admitted). option_map_or (left_of c) o 0) (find_without i id rows other) in
      let as_was : unread_in rows c id ≡ unread_in rows b id = on other (find (λ (a : Admitted). id_eq a.id id) rows) refl in
      omega (arith, found, as_was)
]
  where
    on : id_eq id i ≡ false → (o : Option Admitted) → find (λ (a : Admitted). id_eq a.id id) rows ≡ o → option_map_or (left_of c) o 0 ≡ option_map_or (left_of b) o 0
    on other None f = refl
    on other (Some a) f =
        let name : a.id ≡ id = id_eq-true a.id id (find_in (λ (x : Admitted). id_eq x.id id) a rows f).1 in
        ap (λ (o : Option Message). option_map_or (λ (m : Message). length m.recipients - a.unread) o 0) (same a.id (ap (λ (j : Id). id_eq j i) name ∙ other))

-- ---- rows that wait

-- the rows of a job
abbrev pub is_of : Id → ℕ → Row → Bool
is_of id t r = id_eq r.id id && (r.site.transport == t)

abbrev pub waiting_of : Id → ℕ → List Row → ℕ
waiting_of id t rows = count_by (is_of id t) rows

pub count_more : {A : Type 0} (p : A → Bool) (x : A) (xs : List A) → count_by p (x ∷ xs) ≡ cond (p x) 1 0 + count_by p xs
count_more p x xs = sum_by-cons (λ y. cond (p y) 1 0) x xs

pub count_append : {A : Type 0} (p : A → Bool) (xs ys : List A) → count_by p (xs ++ ys) ≡ count_by p xs + count_by p ys
count_append p xs ys = sum_by-append (λ y. cond (p y) 1 0) xs ys

pub count_none : {A : Type 0} (p : A → Bool) (xs : List A) → ((x : A) → IsIn x xs → p x ≡ false) → count_by p xs ≡ 0
count_none p [] h = refl
count_none p (x ∷ xs) h =
    let more : count_by p (x ∷ xs) ≡ 0 + count_by p xs = count_more p x xs ∙ ap (λ b. cond b 1 0 + count_by p xs) (h x (inl refl)) in
    let none : count_by p xs ≡ 0 = count_none p xs (λ y k. h y (inr k)) in
    omega (arith, more, none)

dropped_one : (p c : Row → Bool) (b : Bool) (r : Row) (rs : List Row) (t : Bool) → p r ≡ t → ((x : Row) → p x ≡ true → c x ≡ b) → (t ≡ false → cond b 1 0 + count_by c (drop_first p rs) ≤ count_by c rs) →
    cond b 1 0 + count_by c (if t then rs else r ∷ drop_first p rs) ≤ count_by c (r ∷ rs)
dropped_one p c b r rs true e like step =
    let more : count_by c (r ∷ rs) ≡ cond (c r) 1 0 + count_by c rs = count_more c r rs in
    let same : cond (c r) 1 0 + count_by c rs ≡ cond b 1 0 + count_by c rs = ap (λ x. cond x 1 0 + count_by c rs) (like r e) in
    omega (arith, more, same)
dropped_one p c b r rs false e like step =
    let more : count_by c (r ∷ rs) ≡ cond (c r) 1 0 + count_by c rs = count_more c r rs in
    let fewer : count_by c (r ∷ drop_first p rs) ≡ cond (c r) 1 0 + count_by c (drop_first p rs) = count_more c r (drop_first p rs) in
    let k : cond b 1 0 + count_by c (drop_first p rs) ≤ count_by c rs = step refl in
    omega (arith, more, fewer, k)

later_passes : (p : Row → Bool) (r : Row) (rs : List Row) (t : Bool) → p r ≡ t → t ≡ false → (p r || list_any p rs) ≡ true → list_any p rs ≡ true
later_passes p r rs t e f h = ap (λ x. x || list_any p rs) (sym (e ∙ f)) ∙ h

-- the first row that passes is after_pick, and those that pass count alike
pub count_dropped : (p c : Row → Bool) (b : Bool) (rs : List Row) → list_any p rs ≡ true → ((x : Row) → p x ≡ true → c x ≡ b) → cond b 1 0 + count_by c (drop_first p rs) ≤ count_by c rs
count_dropped p c b [] h like = absurd cc
count_dropped p c b (r ∷ rs) h like = dropped_one p c b r rs (p r) refl like (λ f. count_dropped p c b rs (later_passes p r rs (p r) refl f h) like)

-- ---- entries noted

since_more : (l : Ledger) (e : Entry) (id : Id) → is_admit_of id e ≡ false → since_admit (noted e l) id ≡ e ∷ since_admit l id
since_more l e id h = take_while-cons (λ x. not (is_admit_of id x)) e l.past ∙ ap (λ b. cond (not b) (e ∷ since_admit l id) []) h

pub starts_more : (l : Ledger) (e : Entry) (id : Id) (t : ℕ) → is_admit_of id e ≡ false → starts_of (noted e l) id t ≡ cond (is_start_of id t e) 1 0 + starts_of l id t
starts_more l e id t h = ap (count_by (is_start_of id t)) (since_more l e id h) ∙ count_more (is_start_of id t) e (since_admit l id)

pub charged_more : (l : Ledger) (e : Entry) (id : Id) (t : ℕ) → is_admit_of id e ≡ false → charged (noted e l) id t ≡ charge_of id t e + charged l id t
charged_more l e id t h = ap (sum_by (charge_of id t)) (since_more l e id h) ∙ sum_by-cons (charge_of id t) e (since_admit l id)

-- ---- ledgers tidied

-- what a job has, and what happened, are as they were
pub record IsSame (l k : Ledger) (id : Id) (t : ℕ) : Type 0 where
  pub past : k.past ≡ l.past
  pub job_left : job_left k id t ≡ job_left l id t
  pub book : k.book ≡ l.book
  pub admitted : k.admitted ≡ l.admitted

pub tidied_same : (w : World) (before k : Ledger) (id : Id) (t : ℕ) → IsSame k (tidied w before k) id t
tidied_same w before k id t =
    let scan = tidy_scan_is k in
    record {
      past = ap (λ (x : Ledger). x.past) scan.2;
      job_left = ap (λ (x : Ledger). job_left x id t) scan.2;
      book = ap (λ (x : Ledger). x.book) scan.2;
      admitted = ap (λ (x : Ledger). x.admitted) scan.2;
    }

pub after_same : (w : World) (l : Ledger) (e : Entry) (id : Id) (t : ℕ) → IsSame (noted e (change w l e)) (after w l e) id t
unfolding after
after_same w l e id t = tidied_same w l (noted e (change w l e)) id t
