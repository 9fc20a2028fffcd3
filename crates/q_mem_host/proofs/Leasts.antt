-- The least name after another, and lists of them.
use Rattle.std.proofs.Common.{◌≡◌, ◌≢◌, ◌⊎◌, inl, inr, ⊎_elim, ℕ, ◌≤◌, List, [], ◌∷◌, ◌++◌, length, Option, Some, None, refl, sym, ◌∙◌, ap, subst, arith, true≢false}
use Rattle.std.specs.Option.{IsSome}
use Rattle.std.specs.List.{Contains}
use Rattle.std.specs.Ordering.{nat_cmp, is_eq}
use Rattle.std.specs.declared.cmp.Ordering.{Ordering}
use Rattle.std.specs.declared.cmp.Ordering.TheVariants.{Less, Equal, Greater}
use Rattle.std.specs.Cmp.Lexicographic.{slice_cmp, nat_list_cmp_total, texts_ties, bytes_decides}
use Rattle.std.proofs.lemmas.List.Elements.{Contains-append_left, Contains-push, Contains-push_cases}
use Rattle.q_model.specs.declared.spot.Area.{Area}
use Rattle.q_host.specs.Files.{Placed}
use Rattle.q_host.specs.Reads.{IsAfter, Rise, IsListing}
use Rattle.q_mem_host.specs.Kept.{Kept}
use Rattle.q_mem_host.specs.Left.{read_of, files_of}

-- ---- the order of names

abbrev cmp : List ℕ → List ℕ → Ordering
cmp = slice_cmp nat_cmp

pub same_name : (x y : List ℕ) → cmp x y ≡ Equal → x ≡ y
same_name x y e = (bytes_decides x y).0 (texts_ties x y ∙ ap is_eq e)

pub turned : (x y : List ℕ) → cmp x y ≡ Greater → cmp y x ≡ Less
turned x y e = by (cmp x y) (cmp y x) e (nat_list_cmp_total.antisymm y x)
  where
    by : (o p : Ordering) → o ≡ Greater → p ≡ Rattle.std.specs.Ordering.ordering_reverse o → p ≡ Less
    by Less p e h = cc
    by Equal p e h = cc
    by Greater p e h = h

-- No name of the area stands after one, or the least that does is this.
abbrev pub IsLeastAfter : {X : Type 0} → (List ℕ → Option X) → Option (List ℕ) → Option (List ℕ) → Type 0
IsLeastAfter f after None = (m : List ℕ) → IsSome (f m) → IsAfter after m → ⊥
IsLeastAfter f after (Some n) =
    IsSome (f n) × IsAfter after n × ((m : List ℕ) → IsSome (f m) → IsAfter after m → cmp m n ≢ Less)

-- ---- lists of names

-- the last of the names, or else the one before them
abbrev pub last_name : Option (List ℕ) → List (List ℕ) → Option (List ℕ)
last_name after [] = after
last_name after (n ∷ ns) = last_name (Some n) ns

pub last-push : (after : Option (List ℕ)) (ns : List (List ℕ)) (n : List ℕ) → last_name after (ns ++ n ∷ []) ≡ Some n
last-push after [] n = refl
last-push after (m ∷ ns) n = last-push (Some m) ns n

pub rise-push : (after : Option (List ℕ)) (ns : List (List ℕ)) (n : List ℕ) → Rise after ns → IsAfter (last_name after ns) n → Rise after (ns ++ n ∷ [])
rise-push after [] n rise late = (late, tt)
rise-push after (m ∷ ns) n rise late = (rise.0, rise-push (Some m) ns n rise.1 late)

-- The names so far: in order, all there, and what isn't among them stands behind the last of them.
pub record SoFar {X : Type 0} (f : List ℕ → Option X) (after last : Option (List ℕ)) (names : List (List ℕ)) : Type 0 where
  pub rise : Rise after names
  pub last_is : last ≡ last_name after names
  pub there : (n : List ℕ) → Contains names n → IsSome (f n)
  pub others : (n : List ℕ) → IsSome (f n) → IsAfter after n → Contains names n ⊎ IsAfter last n
  pub behind : (m n : List ℕ) → Contains names m → IsAfter last n → cmp m n ≡ Less

module _ {X : Type 0} (f : List ℕ → Option X) where
  pub none_so_far : (after : Option (List ℕ)) (names : List (List ℕ)) → names ≡ [] → SoFar f after after names
  none_so_far after names e = subst (λ (l : List (List ℕ)). SoFar f after after l) (sym e) (record {
    rise = tt;
    last_is = refl;
    there = λ n c. absurd (omega (arith, c.1));
    others = λ n some late. inr late;
    behind = λ m n c late. absurd (omega (arith, c.1));
  })

  pub one_more : (after last : Option (List ℕ)) (names : List (List ℕ)) (n : List ℕ) → SoFar f after last names → IsLeastAfter f last (Some n) → SoFar f after (Some n) (names ++ n ∷ [])
  one_more after last names n s least = record {
    rise = rise-push after names n s.rise (subst (λ (o : Option (List ℕ)). IsAfter o n) s.last_is least.1);
    last_is = sym (last-push after names n);
    there = λ m c. ⊎_elim (s.there m) (λ e. subst (λ (l : List ℕ). IsSome (f l)) e least.0) (Contains-push_cases names n m c);
    others = λ m some late. ⊎_elim (λ c. inl (Contains-append_left names (n ∷ []) m c)) (λ later. by m (cmp m n) refl some later) (s.others m some late);
    behind = λ m p c late. ⊎_elim (λ old. nat_list_cmp_total.trans m n p (s.behind m n old least.1) late) (λ e. subst (λ (l : List ℕ). cmp l p ≡ Less) e late) (Contains-push_cases names n m c);
  }
    where
      by : (m : List ℕ) (o : Ordering) → cmp m n ≡ o → IsSome (f m) → IsAfter last m → Contains (names ++ n ∷ []) m ⊎ IsAfter (Some n) m
      by m Less e some later = absurd (least.2 m some later e)
      by m Equal e some later = inl (subst (λ (l : List ℕ). Contains (names ++ n ∷ []) l) (sym (same_name m n e)) (Contains-push names n))
      by m Greater e some later = inr (turned m n e)

  pub all_listed : (after last : Option (List ℕ)) (names : List (List ℕ)) → SoFar f after last names → IsLeastAfter f last None → IsListing f after names
  all_listed after last names s none = record { rise = s.rise; there = s.there; none_left_out = λ n some late. ⊎_elim (λ c. inl c) (λ later. absurd (none n some later)) (s.others n some late) }

  pub many_listed : (after last : Option (List ℕ)) (names : List (List ℕ)) → SoFar f after last names → 64 ≤ length names → IsListing f after names
  many_listed after last names s long = record { rise = s.rise; there = s.there; none_left_out = λ n some late. ⊎_elim (λ c. inl c) (λ later. inr (long, λ m c. s.behind m n c later)) (s.others n some late) }

-- reads see the same names
pub listing_read : (disk : Placed Kept) (a : Area) (after : Option (List ℕ)) (names : List (List ℕ)) → IsListing (disk a) after names → IsListing (files_of disk a) after names
listing_read disk a after names l = record { rise = l.rise; there = λ n c. some_read (disk a n) (l.there n c); none_left_out = λ n some late. l.none_left_out n (read_some (disk a n) some) late }
  where
    some_read : (o : Option Kept) → IsSome o → IsSome (read_of o)
    some_read (Some k) h = refl
    some_read None h = absurd (true≢false (sym h))

    read_some : (o : Option Kept) → IsSome (read_of o) → IsSome o
    read_some (Some k) h = refl
    read_some None h = absurd (true≢false (sym h))
