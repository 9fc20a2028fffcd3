-- Which positions have no mark, and which of these are logged, as a message changes.
use Rattle.std.proofs.Common.{◌≡◌, ℕ, Bool, true, false, not, List, [], ◌∷◌, ◌++◌, Option, Some, None, option_map, inl, inr, refl, sym, ap, ◌∙◌, subst, if◌then◌else◌, arith, eq-eqb, eqb-true}
use Rattle.std.proofs.lemmas.Bool.{and_from, and_parts, or_cases, or_left, or_parts, or_right, not-true, not_from_false}
use Rattle.std.specs.List.{list_all, list_any}
use Rattle.std.specs.Option.{option_map_or}
use Rattle.std.specs.Prelude.{◌&&◌, ◌||◌, ◌==◌, slice_get}
use Rattle.q_model.proofs.IdLaws.{id_eq-true}
use Rattle.q_laws.proofs.Members.{IsIn, all_at, all_from, in_either}
use Rattle.q_laws.proofs.Messages.{synced_marked}
use Rattle.q_laws.proofs.Places.{got_in, got_mapped, got_numbered, in_got, is_place, none_in, nothing_in, only_place, place_is}
use Rattle.q_laws.specs.Consistency.{logged_of}
use Rattle.q_model.specs.Finishing.{is_done}
use Rattle.q_model.specs.Lists.{has_none}
use Rattle.q_model.specs.Logs.{with_failure}
use Rattle.q_model.specs.Marking.{is_unmarked_at, mark_one, needs_mark, with_mark}
use Rattle.q_model.specs.Marks.{is_marked, is_written, sync_mark}
use Rattle.q_model.specs.Message.{Logged, Message, Recipient, is_logged, pending, unmarked_logged, written_marks}
use Rattle.q_model.specs.Orderly.{has_firm_failures, is_sealed}
use Rattle.q_model.specs.Syncs.{sync_all}
use Rattle.q_model.specs.Ids.{id_eq}
use Rattle.q_model.specs.declared.outcome.Failure.{Failure}
use Rattle.q_model.specs.declared.rows.Mark.{Mark}
use Rattle.q_model.specs.declared.rows.Unsettled.{Unsettled}
use Rattle.q_model.specs.declared.rows.Mark.TheVariants as marks

-- a recipient without a mark
pub record IsBare (m : Message) (p : ℕ) : Type 0 where
  pub recipient : Recipient
  pub there : slice_get m.recipients p ≡ Some recipient
  pub bare : is_marked recipient.mark ≡ false

bare_on : (m : Message) (p : ℕ) (o : Option Recipient) → slice_get m.recipients p ≡ o → option_map_or (λ (r : Recipient). not (is_marked r.mark)) o false ≡ true → IsBare m p
bare_on m p None e h = absurd cc
bare_on m p (Some r) e h = record { recipient = r; there = e; bare = not-true (is_marked r.mark) h }

pub bare : (m : Message) (p : ℕ) → is_unmarked_at m p ≡ true → IsBare m p
bare m p h = bare_on m p (slice_get m.recipients p) refl h

pub unmarked_from : (m : Message) (p : ℕ) → IsBare m p → is_unmarked_at m p ≡ true
unmarked_from m p h = ap (λ (o : Option Recipient). option_map_or (λ (r : Recipient). not (is_marked r.mark)) o false) h.there ∙ not_from_false (is_marked h.recipient.mark) h.bare

-- ---- positions that are logged and bare

pub logged_bare : (m : Message) (p : ℕ) → IsIn p (unmarked_logged m) → (is_unmarked_at m p ≡ true) × (is_logged m p ≡ true)
logged_bare m p h =
    let one = place_is 0 (λ i (r : Recipient). not (is_marked r.mark) && is_logged m i) m.recipients p h in
    let at : one.index ≡ p = omega (arith, one.is) in
    let two = and_parts (not (is_marked one.item.mark)) (is_logged m p) one.passes in
    (unmarked_from m p (record { recipient = one.item; there = ap (slice_get m.recipients) (sym at) ∙ one.there; bare = not-true (is_marked one.item.mark) two.0 }), two.1)

pub bare_logged : (m : Message) (p : ℕ) → is_unmarked_at m p ≡ true → is_logged m p ≡ true → IsIn p (unmarked_logged m)
bare_logged m p h k =
    let b = bare m p h in
    is_place 0 (λ i (r : Recipient). not (is_marked r.mark) && is_logged m i) m.recipients p p b.recipient (omega arith) b.there
    (and_from (not (is_marked b.recipient.mark)) (is_logged m p) (not_from_false (is_marked b.recipient.mark) b.bare) k)

-- where no bare position is logged, the first unsettled outcome isn't
pub none_logged : (m : Message) (o : Option Unsettled) → unmarked_logged m ≡ [] → ((u : Unsettled) → o ≡ Some u → u.id ≡ m.id → is_unmarked_at m u.position ≡ true) → logged_of m o ≡ []
none_logged m None none h = refl
none_logged m (Some u) none h = which (id_eq u.id m.id && needs_mark u.need && is_logged m u.position) refl
  where
    which : (b : Bool) → (id_eq u.id m.id && needs_mark u.need && is_logged m u.position) ≡ b → (if b then u.position ∷ [] else []) ≡ []
    which false e = refl
    which true e =
        let two = and_parts (id_eq u.id m.id && needs_mark u.need) (is_logged m u.position) e in
        let same = id_eq-true u.id m.id (and_parts (id_eq u.id m.id) (needs_mark u.need) two.0).0 in
        absurd (subst (λ ps. IsIn u.position ps) none (bare_logged m u.position (h u refl same) two.1))

-- ---- a sync

bare_mapped : (o : Option Recipient) → option_map_or (λ (r : Recipient). not (is_marked r.mark)) (option_map (λ (r : Recipient). record r { mark = sync_mark r.mark }) o) false ≡ option_map_or (λ (r : Recipient). not (is_marked r.mark)) o false
bare_mapped None = refl
bare_mapped (Some r) = ap not (synced_marked r.mark)

pub bare_sync : (m : Message) (p : ℕ) → is_unmarked_at (sync_all m) p ≡ is_unmarked_at m p
bare_sync m p = ap (λ o. option_map_or (λ (r : Recipient). not (is_marked r.mark)) o false) (got_mapped (λ (r : Recipient). record r { mark = sync_mark r.mark }) m.recipients p) ∙ bare_mapped (slice_get m.recipients p)

-- ---- a failure more

any_join : {A : Type 0} (p : A → Bool) (xs ys : List A) → list_any p (xs ++ ys) ≡ (list_any p xs || list_any p ys)
any_join p [] ys = refl
any_join p (x ∷ xs) ys = ap (λ b. p x || b) (any_join p xs ys) ∙ group (p x) (list_any p xs) (list_any p ys)
  where
    group : (a b c : Bool) → (a || (b || c)) ≡ ((a || b) || c)
    group true b c = refl
    group false b c = refl

logged_more : (f : Failure) (m : Message) (p : ℕ) → is_logged (with_failure f m) p ≡ (is_logged m p || ((f.position == p) || false))
logged_more f m p = any_join (λ (x : Logged). x.failure.position == p) m.failures (record { failure = f; firm = true } ∷ [])

pub logged_itself : (f : Failure) (m : Message) → is_logged (with_failure f m) f.position ≡ true
logged_itself f m = logged_more f m f.position ∙ or_right (is_logged m f.position) ((f.position == f.position) || false) (or_left (f.position == f.position) false (eq-eqb f.position f.position refl))

-- where no bare position was logged, the one whose failure is stored is the only one
pub logged_alone : (f : Failure) (m : Message) → unmarked_logged m ≡ [] → is_unmarked_at m f.position ≡ true → unmarked_logged (with_failure f m) ≡ f.position ∷ []
logged_alone f m none h =
    only_place 0 f.position (λ i (r : Recipient). not (is_marked r.mark) && is_logged (with_failure f m) i) m.recipients
    (bare_logged (with_failure f m) f.position h (logged_itself f m)) (λ q k. which q (logged_bare (with_failure f m) q k))
  where
    which : (q : ℕ) → (is_unmarked_at m q ≡ true) × (is_logged (with_failure f m) q ≡ true) → q ≡ f.position
    which q k = elim (or_cases (is_logged m q) ((f.position == q) || false) (sym (logged_more f m q) ∙ k.1)) [
      | inl before ↦ absurd (subst (λ ps. IsIn q ps) none (bare_logged m q k.0 before))
      | inr now ↦ elim (or_cases (f.position == q) false now) [
        | inl same ↦ sym (eqb-true f.position q same)
        | inr bad ↦ absurd cc
      ]
    ]

all_join : {A : Type 0} (p : A → Bool) (xs : List A) (y : A) → list_all p xs ≡ true → p y ≡ true → list_all p (xs ++ y ∷ []) ≡ true
all_join {A = A} p xs y h k = all_from p (xs ++ y ∷ []) (λ x there. elim (in_either x xs (y ∷ []) there) [
  | inl old ↦ all_at p x xs h old
  | inr new ↦ one x new
])
  where
    one : (x : A) → IsIn x (y ∷ []) → p x ≡ true
    one x (inl e) = ap p (sym e) ∙ k
    one x (inr e) = absurd e

pub firm_more : (f : Failure) (m : Message) → has_firm_failures m ≡ true → has_firm_failures (with_failure f m) ≡ true
firm_more f m h = all_join (λ (x : Logged). x.firm) m.failures (record { failure = f; firm = true }) h refl

pub sealed_more : (f : Failure) (m : Message) → is_sealed m ≡ true → is_sealed (with_failure f m) ≡ true
sealed_more f m h =
    let marked : Bool = list_all (λ (r : Recipient). is_marked r.mark && not (is_written r.mark)) m.recipients in
    let two = and_parts marked (has_firm_failures m) h in
    and_from marked (has_firm_failures (with_failure f m)) two.0 (firm_more f m two.1)

-- ---- a mark more

marked_at : (p q : ℕ) (m : Message) → slice_get (with_mark p m).recipients q ≡ option_map (λ (r : Recipient). mark_one p (q, r)) (slice_get m.recipients q)
marked_at p q m = got_numbered (mark_one p) 0 q q m.recipients (omega arith)

bare_one : (o : Option Recipient) (b : Bool) → b ≡ false → option_map_or (λ (r : Recipient). not (is_marked r.mark)) (option_map (λ (r : Recipient). if b then record r { mark = marks.Written } else r) o) false ≡ option_map_or (λ (r : Recipient). not (is_marked r.mark)) o false
bare_one None b e = refl
bare_one (Some r) b e = ap (λ c. not (is_marked (if c then record r { mark = marks.Written } else r).mark)) e

-- other positions stay as bare as they were
pub bare_mark : (p q : ℕ) (m : Message) → (q == p) ≡ false → is_unmarked_at (with_mark p m) q ≡ is_unmarked_at m q
bare_mark p q m e = ap (λ o. option_map_or (λ (r : Recipient). not (is_marked r.mark)) o false) (marked_at p q m) ∙ bare_one (slice_get m.recipients q) (q == p) e

marked_one : (o : Option Recipient) (b : Bool) → b ≡ true → option_map_or (λ (r : Recipient). not (is_marked r.mark)) (option_map (λ (r : Recipient). if b then record r { mark = marks.Written } else r) o) false ≡ false
marked_one None b e = refl
marked_one (Some r) b e = ap (λ c. not (is_marked (if c then record r { mark = marks.Written } else r).mark)) e

-- the position that is marked isn't bare
pub not_bare : (p : ℕ) (m : Message) → is_unmarked_at (with_mark p m) p ≡ false
not_bare p m = ap (λ o. option_map_or (λ (r : Recipient). not (is_marked r.mark)) o false) (marked_at p p m) ∙ marked_one (slice_get m.recipients p) (p == p) (eq-eqb p p refl)

-- where no other position is logged without its mark, none is any more
pub none_more : (p : ℕ) (m : Message) → ((q : ℕ) → IsIn q (unmarked_logged m) → q ≡ p) → unmarked_logged (with_mark p m) ≡ []
none_more p m only = nothing_in (unmarked_logged (with_mark p m)) (λ q k. which q (logged_bare (with_mark p m) q k) (q == p) refl)
  where
    which : (q : ℕ) → (is_unmarked_at (with_mark p m) q ≡ true) × (is_logged m q ≡ true) → (b : Bool) → (q == p) ≡ b → ⊥
    which q k true e =
        let bad : true ≡ false = sym k.0 ∙ ap (is_unmarked_at (with_mark p m)) (eqb-true q p e) ∙ not_bare p m in
        cc
    which q k false e =
        let same : q ≡ p = only q (bare_logged m q (sym (bare_mark p q m e) ∙ k.0) k.1) in
        let bad : false ≡ true = sym e ∙ eq-eqb q p same in
        cc

-- a message with a bare position isn't sealed
pub bare_not_sealed : (m : Message) (p : ℕ) → is_unmarked_at m p ≡ true → is_sealed m ≡ true → ⊥
bare_not_sealed m p h k =
    let b = bare m p h in
    let all = (and_parts (list_all (λ (r : Recipient). is_marked r.mark && not (is_written r.mark)) m.recipients) (has_firm_failures m) k).0 in
    let one = and_parts (is_marked b.recipient.mark) (not (is_written b.recipient.mark)) (all_at (λ (r : Recipient). is_marked r.mark && not (is_written r.mark)) b.recipient m.recipients all (got_in b.recipient m.recipients p b.there)) in
    let bad : false ≡ true = sym b.bare ∙ one.0 in
    absurd cc

-- ---- a message that is done

sealed_mark : (k : Mark) → is_marked k ≡ true → is_written k ≡ false → (is_marked k && not (is_written k)) ≡ true
sealed_mark marks.Unmarked h e = absurd cc
sealed_mark marks.Written h e = absurd cc
sealed_mark marks.Synced h e = refl

-- nothing pending, nothing logged without its mark and no mark that may be lost: all is sealed
pub done_sealed : (m : Message) → is_done m ≡ true → has_firm_failures m ≡ true → is_sealed m ≡ true
done_sealed m done firm =
    let two = and_parts (has_none (pending m) && has_none (unmarked_logged m)) (has_none (written_marks m)) done in
    let one = and_parts (has_none (pending m)) (has_none (unmarked_logged m)) two.0 in
    and_from (list_all (λ (r : Recipient). is_marked r.mark && not (is_written r.mark)) m.recipients) (has_firm_failures m)
    (all_from (λ (r : Recipient). is_marked r.mark && not (is_written r.mark)) m.recipients (λ r there.
    let at = in_got r m.recipients there in
    sealed_mark r.mark (marked one.0 one.1 r at.0 at.1 (is_marked r.mark) refl (is_logged m at.0) refl) (unwritten two.1 r at.0 at.1 (is_written r.mark) refl))) firm
  where
    marked : has_none (pending m) ≡ true → has_none (unmarked_logged m) ≡ true → (r : Recipient) (i : ℕ) → slice_get m.recipients i ≡ Some r → (b : Bool) → is_marked r.mark ≡ b → (c : Bool) → is_logged m i ≡ c → b ≡ true
    marked none half r i there true e c k = refl
    marked none half r i there false e false k =
        absurd (none_in i (pending m) none (is_place 0 (λ j (x : Recipient). not (is_marked x.mark || is_logged m j)) m.recipients i i r (omega arith) there (ap (λ z. not (z || is_logged m i)) e ∙ ap not k)))
    marked none half r i there false e true k =
        absurd (none_in i (unmarked_logged m) half (is_place 0 (λ j (x : Recipient). not (is_marked x.mark) && is_logged m j) m.recipients i i r (omega arith) there (ap (λ z. not z && is_logged m i) e ∙ k)))

    unwritten : has_none (written_marks m) ≡ true → (r : Recipient) (i : ℕ) → slice_get m.recipients i ≡ Some r → (b : Bool) → is_written r.mark ≡ b → b ≡ false
    unwritten none r i there false e = refl
    unwritten none r i there true e = absurd (none_in i (written_marks m) none (is_place 0 (λ j (x : Recipient). is_written x.mark) m.recipients i i r (omega arith) there e))

-- a pending position has no mark
pub pending_bare : (m : Message) (p : ℕ) → IsIn p (pending m) → is_unmarked_at m p ≡ true
pending_bare m p h =
    let one = place_is 0 (λ i (r : Recipient). not (is_marked r.mark || is_logged m i)) m.recipients p h in
    let at : one.index ≡ p = omega (arith, one.is) in
    let neither = or_parts (is_marked one.item.mark) (is_logged m p) (not-true (is_marked one.item.mark || is_logged m p) one.passes) in
    unmarked_from m p (record { recipient = one.item; there = ap (slice_get m.recipients) (sym at) ∙ one.there; bare = neither.0 })

some_in : {A : Type 0} (xs : List A) → not (has_none xs) ≡ true → (x : A) × IsIn x xs
some_in [] h = absurd cc
some_in (x ∷ xs) h = (x, inl refl)

-- a message with a pending recipient isn't sealed
pub pending_not_sealed : (m : Message) → not (has_none (pending m)) ≡ true → is_sealed m ≡ true → ⊥
pending_not_sealed m h k = let one = some_in (pending m) h in bare_not_sealed m one.0 (pending_bare m one.0 one.1) k
