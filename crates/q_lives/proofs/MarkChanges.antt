-- What becomes of the marks of a message as a book changes.
use Rattle.std.proofs.Common.{◌≡◌, ℕ, zero, suc, ◌+◌, Bool, true, false, not, List, [], ◌∷◌, map, Option, Some, None, option_map, ◌⊎◌, inl, inr, refl, sym, ap, ◌∙◌, subst, if◌then◌else◌, eqb-true, eq-eqb, arith}
use Rattle.std.proofs.lemmas.Option.{same_Some}
use Rattle.std.specs.List.{enumerate_from}
use Rattle.std.specs.Option.{option_map_or}
use Rattle.std.specs.Prelude.{◌==◌, slice_get}
use Rattle.q_laws.proofs.Books.{message_in}
use Rattle.q_laws.proofs.Distinct.{id_cases, id_same}
use Rattle.q_laws.proofs.InPlace.{changed, changed_name, changed_other, changed_same}
use Rattle.q_laws.proofs.Mapped.{find_mapped}
use Rattle.q_lives.proofs.Done.{got_mapped}
use Rattle.q_lives.specs.Causes.{is_marked_at}
use Rattle.q_model.specs.Book.{Book, message_of}
use Rattle.q_model.specs.BookChanges.{change_message}
use Rattle.q_model.specs.Marking.{is_unmarked_at, mark_one, with_mark}
use Rattle.q_model.specs.Marks.{is_marked, sync_mark}
use Rattle.q_model.specs.Message.{Message, Recipient}
use Rattle.q_model.specs.Syncs.{sync_all}
use Rattle.q_model.specs.declared.id.Id.{Id}
use Rattle.q_model.specs.declared.rows.Mark.{Mark}
use Rattle.q_model.specs.declared.rows.Mark.TheVariants as marks

-- the mark is set, and no crash undoes it
abbrev pub is_sure : Mark → Bool
is_sure marks.Unmarked = false
is_sure marks.Written = false
is_sure marks.Synced = true

-- the recipient's mark is so
abbrev pub is_sure_at : Message → ℕ → Bool
is_sure_at m p = option_map_or (λ (r : Recipient). is_sure r.mark) (slice_get m.recipients p) false

-- the second message has the marks of the first, and those that are sure are sure
pub record KeepsMarks (m n : Message) : Type 0 where
  pub marked : (p : ℕ) → is_marked_at m p ≡ true → is_marked_at n p ≡ true
  pub sure : (p : ℕ) → is_sure_at m p ≡ true → is_sure_at n p ≡ true

pub same_marks : (m n : Message) → n.recipients ≡ m.recipients → KeepsMarks m n
same_marks m n h = record {
  marked = λ p k. ap (λ (rs : List Recipient). option_map_or (λ (r : Recipient). is_marked r.mark) (slice_get rs p) false) h ∙ k;
  sure = λ p k. ap (λ (rs : List Recipient). option_map_or (λ (r : Recipient). is_sure r.mark) (slice_get rs p) false) h ∙ k;
}

-- a sure mark is a mark
pub sure_marked : (m : Message) (p : ℕ) → is_sure_at m p ≡ true → is_marked_at m p ≡ true
sure_marked m p h = on (slice_get m.recipients p) h
  where
    one : (k : Mark) → is_sure k ≡ true → is_marked k ≡ true
    one marks.Unmarked e = e
    one marks.Written e = refl
    one marks.Synced e = refl

    on : (o : Option Recipient) → option_map_or (λ (r : Recipient). is_sure r.mark) o false ≡ true → option_map_or (λ (r : Recipient). is_marked r.mark) o false ≡ true
    on None e = e
    on (Some r) e = one r.mark e

-- no recipient is marked and unmarked
pub marked_not_bare : (m : Message) (p : ℕ) → is_marked_at m p ≡ true → is_unmarked_at m p ≡ true → ⊥
marked_not_bare m p h k = on (slice_get m.recipients p) h k
  where
    one : (b : Bool) → b ≡ true → not b ≡ true → ⊥
    one true e f = absurd cc
    one false e f = absurd cc

    on : (o : Option Recipient) → option_map_or (λ (r : Recipient). is_marked r.mark) o false ≡ true → option_map_or (λ (r : Recipient). not (is_marked r.mark)) o false ≡ true → ⊥
    on None e f = absurd cc
    on (Some r) e f = one (is_marked r.mark) e f

-- ---- sync

sync_recipient : Recipient → Recipient
sync_recipient r = record r { mark = sync_mark r.mark }

synced_marked : (k : Mark) → is_marked k ≡ true → is_marked (sync_mark k) ≡ true
synced_marked marks.Unmarked h = h
synced_marked marks.Written h = refl
synced_marked marks.Synced h = refl

synced_sure : (k : Mark) → is_marked k ≡ true → is_sure (sync_mark k) ≡ true
synced_sure marks.Unmarked h = h
synced_sure marks.Written h = refl
synced_sure marks.Synced h = refl

pub sync_marked_at : (m : Message) (p : ℕ) → is_marked_at m p ≡ true → is_marked_at (sync_all m) p ≡ true
sync_marked_at m p h = ap (λ (o : Option Recipient). option_map_or (λ (r : Recipient). is_marked r.mark) o false) (got_mapped (λ (r : Recipient). record r { mark = sync_mark r.mark }) m.recipients p) ∙ on (slice_get m.recipients p) h
  where
    on : (o : Option Recipient) → option_map_or (λ (r : Recipient). is_marked r.mark) o false ≡ true → option_map_or (λ (r : Recipient). is_marked r.mark) (option_map (λ (r : Recipient). record r { mark = sync_mark r.mark }) o) false ≡ true
    on None e = e
    on (Some r) e = synced_marked r.mark e

-- a mark that is synced is sure
pub sync_sure_at : (m : Message) (p : ℕ) → is_marked_at m p ≡ true → is_sure_at (sync_all m) p ≡ true
sync_sure_at m p h = ap (λ (o : Option Recipient). option_map_or (λ (r : Recipient). is_sure r.mark) o false) (got_mapped (λ (r : Recipient). record r { mark = sync_mark r.mark }) m.recipients p) ∙ on (slice_get m.recipients p) h
  where
    on : (o : Option Recipient) → option_map_or (λ (r : Recipient). is_marked r.mark) o false ≡ true → option_map_or (λ (r : Recipient). is_sure r.mark) (option_map (λ (r : Recipient). record r { mark = sync_mark r.mark }) o) false ≡ true
    on None e = e
    on (Some r) e = synced_sure r.mark e

pub sync_keeps : (m : Message) → KeepsMarks m (sync_all m)
sync_keeps m = record { marked = sync_marked_at m; sure = λ p h. sync_sure_at m p (sure_marked m p h) }

-- ---- a mark

marked_still : (r : Recipient) (b : Bool) → is_marked r.mark ≡ true → is_marked (if b then record r { mark = marks.Written } else r).mark ≡ true
marked_still r true h = refl
marked_still r false h = h

marked_from : (q n : ℕ) (rs : List Recipient) (p : ℕ) → option_map_or (λ (r : Recipient). is_marked r.mark) (slice_get rs p) false ≡ true →
    option_map_or (λ (r : Recipient). is_marked r.mark) (slice_get (map (mark_one q) (enumerate_from n rs)) p) false ≡ true
marked_from q n [] p h = absurd cc
marked_from q n (r ∷ rs) zero h = marked_still r (n == q) h
marked_from q n (r ∷ rs) (suc p) h = marked_from q (n + 1) rs p h

sure_still : (q n : ℕ) (r : Recipient) (b : Bool) → (n == q) ≡ b → (n + 0 ≡ q → ⊥) → is_sure r.mark ≡ true → is_sure (if b then record r { mark = marks.Written } else r).mark ≡ true
sure_still q n r true e other h = absurd (other (let k : n ≡ q = eqb-true n q e in omega (arith, k)))
sure_still q n r false e other h = h

sure_from : (q n : ℕ) (rs : List Recipient) (p : ℕ) → (n + p ≡ q → ⊥) → option_map_or (λ (r : Recipient). is_sure r.mark) (slice_get rs p) false ≡ true →
    option_map_or (λ (r : Recipient). is_sure r.mark) (slice_get (map (mark_one q) (enumerate_from n rs)) p) false ≡ true
sure_from q n [] p other h = absurd cc
sure_from q n (r ∷ rs) zero other h = sure_still q n r (n == q) refl other h
sure_from q n (r ∷ rs) (suc p) other h = sure_from q (n + 1) rs p (λ k. other (omega (arith, k))) h

marked_now : (q n : ℕ) (rs : List Recipient) (p : ℕ) → n + p ≡ q → option_map_or (λ (r : Recipient). not (is_marked r.mark)) (slice_get rs p) false ≡ true →
    option_map_or (λ (r : Recipient). is_marked r.mark) (slice_get (map (mark_one q) (enumerate_from n rs)) p) false ≡ true
marked_now q n [] p same h = absurd cc
marked_now q n (r ∷ rs) zero same h = ap (λ b. is_marked (if b then record r { mark = marks.Written } else r).mark) (eq-eqb n q (omega (arith, same)))
marked_now q n (r ∷ rs) (suc p) same h = marked_now q (n + 1) rs p (omega (arith, same)) h

-- a mark where none was keeps the others
pub mark_keeps : (q : ℕ) (m : Message) → is_unmarked_at m q ≡ true → KeepsMarks m (with_mark q m)
mark_keeps q m bare = record {
  marked = λ p h. marked_from q 0 m.recipients p h;
  sure = λ p h. sure_from q 0 m.recipients p (λ k. marked_not_bare m q (subst (λ i. is_marked_at m i ≡ true) (let e : p ≡ q = omega (arith, k) in e) (sure_marked m p h)) bare) h;
}

pub mark_marks : (q : ℕ) (m : Message) → is_unmarked_at m q ≡ true → is_marked_at (with_mark q m) q ≡ true
mark_marks q m bare = marked_now q 0 m.recipients q (omega arith) bare

-- ---- books

-- a message that stands afterwards stood before, with its marks
abbrev pub IsFromBefore : Book → Book → Id → Type 0
IsFromBefore b c id = (n : Message) → message_of c id ≡ Some n → (m : Message) × (message_of b id ≡ Some m) × KeepsMarks m n

pub same_before : (b c : Book) (id : Id) → message_of c id ≡ message_of b id → IsFromBefore b c id
same_before b c id same n h = (n, sym same ∙ h, same_marks n n refl)

changed_on : (b : Book) (i : Id) (f : Message → Message) (id : Id) (n : Message) (o : Option Message) → message_of b id ≡ o → option_map (changed i f) o ≡ Some n →
    (m : Message) × (message_of b id ≡ Some m) × ((n ≡ m) ⊎ ((id ≡ i) × (n ≡ f m)))
changed_on b i f id n None e h = absurd cc
changed_on b i f id n (Some m) e h = elim (id_cases m.id i) [
  | inl same ↦ (m, e, inr (sym (message_in b id m e).1 ∙ same.0, sym (same_Some (changed i f m) n h) ∙ changed_same i f m same.1))
  | inr other ↦ (m, e, inl (sym (same_Some (changed i f m) n h) ∙ changed_other i f m other))
]

-- where one message changed
pub changed_before : (b : Book) (i : Id) (f : Message → Message) (id : Id) → ((m : Message) → (f m).id ≡ m.id) → ((m : Message) → message_of b i ≡ Some m → KeepsMarks m (f m)) → IsFromBefore b (change_message b i f) id
changed_before b i f id name keeps n h =
    let one = changed_on b i f id n (message_of b id) refl (sym (find_mapped (changed i f) (changed_name i f name) id b.messages) ∙ h) in (
      one.0,
      one.1,
      elim one.2 [
        | inl same ↦ subst (KeepsMarks one.0) (sym same) (same_marks one.0 one.0 refl)
        | inr mine ↦ subst (KeepsMarks one.0) (sym mine.1) (keeps one.0 (ap (message_of b) (sym mine.0) ∙ one.1))
      ],
    )

-- the message itself
pub changed_itself : (b : Book) (i : Id) (f : Message → Message) (n : Message) → ((m : Message) → (f m).id ≡ m.id) → message_of (change_message b i f) i ≡ Some n → (m : Message) × (message_of b i ≡ Some m) × (n ≡ f m)
changed_itself b i f n name h = on (message_of b i) refl (sym (find_mapped (changed i f) (changed_name i f name) i b.messages) ∙ h)
  where
    on : (o : Option Message) → message_of b i ≡ o → option_map (changed i f) o ≡ Some n → (m : Message) × (message_of b i ≡ Some m) × (n ≡ f m)
    on None e k = absurd cc
    on (Some m) e k = (m, e, sym (same_Some (changed i f m) n k) ∙ changed_same i f m (id_same m.id i (message_in b i m e).1))
