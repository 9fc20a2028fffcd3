-- What is known of each item, as one comes, changes or goes.
use Rattle.std.proofs.Common.{◌≡◌, ◌≢◌, ◌∙◌, ◌∷◌, ◌++◌, ◌<◌, [], ap, arith, false, inl, inr, List, map, None, Option, option_map, refl, Some, subst, sym, true, ℕ, ◌⊎◌, Bool, cond}
use Rattle.std.proofs.lemmas.Bool.{and_from, and_parts, both_ways, cases_eq, eq-eqb, eqb-true, false_from_ne_true, lt-ltb, ltb-true}
use Rattle.std.specs.List.{AllByRecursion}
use Rattle.std.specs.Option.{is_some}
use Rattle.std.specs.Prelude.{◌==◌, find, nat_lt}
use Rattle.q_keyed.specs.Numbered.{AreApart, has_number, item_at, Numbered, put_at, values_of, without_number}
use Rattle.q_rounds.specs.declared.peer.Peer.{Peer}
use Rattle.q_rounds.specs.Rounds.{AreStartsApart, has_last, waits}
use Rattle.q_rounds.specs.Sound.{AreFit, HaveOwnStarts, IsFit}
use Rattle.q_rounds.proofs.Lookups.{here_at, later_at, none_at, none_pass, other_left, other_more, other_put, own_left, own_more, own_put}
use Rattle.q_rounds.proofs.Splits.{one}

pub unless_none : {A : Type 0} (o : Option A) (x : A) → o ≡ None → o ≡ Some x → ⊥
unless_none {A} o x none some = let both : ◌≡◌ {A = Option A} None (Some x) = sym none ∙ some in absurd cc

module _ {T : Type 0} where
  -- one item is this now, and the others stay
  pub record IsSet (n : ℕ) (x : T) (ks new : List (Numbered T)) : Type 0 where
    pub own : item_at n new ≡ Some x
    pub others : (m : ℕ) → m ≢ n → item_at m new ≡ item_at m ks

  -- one is none of these now
  pub record IsLess (n : ℕ) (ks new : List (Numbered T)) : Type 0 where
    pub own : item_at n new ≡ None
    pub others : (m : ℕ) → m ≢ n → item_at m new ≡ item_at m ks

  pub more_is : (n : ℕ) (x : T) (ks : List (Numbered T)) → find (has_number n) ks ≡ None → IsSet n x ks (ks ++ one n x ∷ [])
  more_is n x ks free = record { own = own_more n x ks free; others = λ m other. other_more n m x ks other }

  pub put_is : (n : ℕ) (p x : T) (ks : List (Numbered T)) → item_at n ks ≡ Some p → IsSet n x ks (map (put_at n x) ks)
  put_is n p x ks there = record { own = own_put n x ks (ap is_some there); others = λ m other. other_put n m x ks other }

  pub less_is : (n : ℕ) (ks : List (Numbered T)) → IsLess n ks (without_number n ks)
  less_is n ks = record { own = own_left n ks; others = λ m other. other_left n m ks other }

  pub free_item : (n : ℕ) (ks : List (Numbered T)) → find (has_number n) ks ≡ None → item_at n ks ≡ None
  free_item n ks free = ap (option_map (λ (k : Numbered T). k.item)) free

  -- an item of the new ones is this one, or stood before
  pub set_cases : (n : ℕ) (x : T) (ks new : List (Numbered T)) (m : ℕ) (q : T) → IsSet n x ks new → item_at m new ≡ Some q → ((m ≡ n) × (q ≡ x)) ⊎ ((m ≢ n) × (item_at m ks ≡ Some q))
  set_cases n x ks new m q is h = step (cases_eq m n)
    where
      step : (m ≡ n) ⊎ (m ≢ n) → ((m ≡ n) × (q ≡ x)) ⊎ ((m ≢ n) × (item_at m ks ≡ Some q))
      step (inl same) =
          let both : Some q ≡ Some x = sym h ∙ ap (λ i. item_at i new) same ∙ is.own in
          let its : q ≡ x = cc in
          inl (same, its)
      step (inr other) = inr (other, sym (is.others m other) ∙ h)

  pub less_was : (n : ℕ) (ks new : List (Numbered T)) (m : ℕ) (q : T) → IsLess n ks new → item_at m new ≡ Some q → (m ≢ n) × (item_at m ks ≡ Some q)
  less_was n ks new m q is h =
      let other : m ≢ n = λ same. unless_none (item_at n new) q is.own (ap (λ i. item_at i new) (sym same) ∙ h) in
      (other, sym (is.others m other) ∙ h)

  -- each of a list
  pub each_of : (P : T → Type 0) (ks : List (Numbered T)) → AreApart ks → ((m : ℕ) (q : T) → item_at m ks ≡ Some q → P q) → AllByRecursion P (values_of ks)
  each_of P [] apart h = tt
  each_of P (k ∷ ks) apart h = (h k.number k.item (here_at k ks), each_of P ks apart.1 (λ m q there. h m q (later_at m q k ks apart.0 there)))

-- Rows that wait, and numbers below the room.
pub fit_set : (room n : ℕ) (x : Peer) (ks new : List (Numbered Peer)) → IsSet n x ks new → IsFit room n x → AreFit room ks → AreFit room new
fit_set room n x ks new is own old m q h =
    elim (set_cases n x ks new m q is h) [
      | inl here ↦ subst (λ i. IsFit room i q) (sym here.0) (subst (λ (y : Peer). IsFit room n y) (sym here.1) own)
      | inr there ↦ old m q there.1
    ]

pub fit_less : (room n : ℕ) (ks new : List (Numbered Peer)) → IsLess n ks new → AreFit room ks → AreFit room new
fit_less room n ks new is old m q h = old m q (less_was n ks new m q is h).1

pub all_wait : (room : ℕ) (ks : List (Numbered Peer)) → AreApart ks → AreFit room ks → AllByRecursion (λ p. waits p ≡ true) (values_of ks)
all_wait room ks apart fit = each_of (λ p. waits p ≡ true) ks apart (λ m q h. let some = (fit m q h).some in lt-ltb 0 q.waiting (omega (arith, some)))

-- Starts.
not_last : (l : ℕ) (ks : List (Numbered Peer)) (m : ℕ) (q : Peer) → find (has_last l) (values_of ks) ≡ None → item_at m ks ≡ Some q → 0 < l → q.last ≡ l → ⊥
not_last l ks m q own there some same =
    both_ways (has_last l q) (none_at (has_last l) m q ks (none_pass (has_last l) (values_of ks) own) there) (and_from (nat_lt 0 l) (q.last == l) (lt-ltb 0 l some) (eq-eqb q.last l same))

pub starts_set : (n : ℕ) (x : Peer) (ks new : List (Numbered Peer)) → IsSet n x ks new → find (has_last x.last) (values_of ks) ≡ None → HaveOwnStarts ks → HaveOwnStarts new
starts_set n x ks new is own old i j q r a b some same =
    elim (set_cases n x ks new i q is a) [
      | inl here ↦ elim (set_cases n x ks new j r is b) [
        | inl both ↦ here.0 ∙ sym both.0
        | inr there ↦
            let last : q.last ≡ x.last = ap (λ (y : Peer). y.last) here.1 in
            absurd (not_last x.last ks j r own there.1 (subst (λ l. 0 < l) last some) (sym same ∙ last))
      ]
      | inr here ↦ elim (set_cases n x ks new j r is b) [
        | inl both ↦
            let last : q.last ≡ x.last = same ∙ ap (λ (y : Peer). y.last) both.1 in
            absurd (not_last x.last ks i q own here.1 (subst (λ l. 0 < l) last some) last)
        | inr there ↦ old i j q r here.1 there.1 some same
      ]
    ]

-- where each has the number that it had
abbrev WereLast : List (Numbered Peer) → List (Numbered Peer) → Type 0
WereLast ks new = (m : ℕ) (q : Peer) → item_at m new ≡ Some q → (y : Peer) × (item_at m ks ≡ Some y) × (y.last ≡ q.last)

starts_were : (ks new : List (Numbered Peer)) → WereLast ks new → HaveOwnStarts ks → HaveOwnStarts new
starts_were ks new were old i j q r a b some same =
    let x = were i q a in
    let y = were j r b in
    old i j x.0 y.0 x.1 y.1 (subst (λ l. 0 < l) (sym x.2) some) (x.2 ∙ same ∙ sym y.2)

pub starts_kept : (n : ℕ) (p x : Peer) (ks new : List (Numbered Peer)) → IsSet n x ks new → item_at n ks ≡ Some p → x.last ≡ p.last → HaveOwnStarts ks → HaveOwnStarts new
starts_kept n p x ks new is there last old = starts_were ks new were old
  where
    were : WereLast ks new
    were m q h =
        elim (set_cases n x ks new m q is h) [
          | inl here ↦ (p, ap (λ i. item_at i ks) here.0 ∙ there, sym last ∙ ap (λ (y : Peer). y.last) (sym here.1))
          | inr stays ↦ (q, stays.1, refl)
        ]

pub starts_less : (n : ℕ) (ks new : List (Numbered Peer)) → IsLess n ks new → HaveOwnStarts ks → HaveOwnStarts new
starts_less n ks new is old = starts_were ks new (λ m q h. (q, (less_was n ks new m q is h).1, refl)) old

none_found : (p : Peer → Bool) (ks : List (Numbered Peer)) → AreApart ks → ((m : ℕ) (q : Peer) → item_at m ks ≡ Some q → p q ≡ false) → find p (values_of ks) ≡ None
none_found p [] apart h = refl
none_found p (k ∷ ks) apart h =
    ap (λ t. cond t (Some k.item) (find p (values_of ks))) (h k.number k.item (here_at k ks)) ∙ none_found p ks apart.1 (λ m q there. h m q (later_at m q k ks apart.0 there))

pub starts_apart : (ks : List (Numbered Peer)) → AreApart ks → HaveOwnStarts ks → AreStartsApart (values_of ks)
starts_apart [] apart own = tt
starts_apart (k ∷ ks) apart own = (
  none_found (has_last k.item.last) ks apart.1
      (λ m q there.
      false_from_ne_true (has_last k.item.last q)
      (λ h.
      let parts = and_parts (nat_lt 0 k.item.last) (q.last == k.item.last) h in
      let same = own k.number m k.item q (here_at k ks) (later_at m q k ks apart.0 there) (ltb-true 0 k.item.last parts.0) (sym (eqb-true q.last k.item.last parts.1)) in
      unless_none (item_at k.number ks) q (free_item k.number ks apart.0) (ap (λ i. item_at i ks) same ∙ there))),
  starts_apart ks apart.1 (λ i j q r a b some same. own i j q r (later_at i q k ks apart.0 a) (later_at j r k ks apart.0 b) some same),
)
