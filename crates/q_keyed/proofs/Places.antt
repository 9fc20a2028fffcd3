-- Numbers have places as far as they were used.
use Rattle.std.proofs.Common.{◌≡◌, ◌∙◌, ◌++◌, ◌∷◌, ◌+◌, ◌-◌, ◌<◌, ◌≤◌, [], ap, arith, eq-eqb, get_or, inl, inr, length, List, None, Option, refl, replicate, Some, subst, suc, sym, true, zero, ℕ}
use Rattle.std.proofs.lemmas.List.{length-append, length-replicate}
use Rattle.std.proofs.lemmas.Map.Keys.{any_passes_from_place}
use Rattle.std.proofs.lemmas.Option.{slice_get_cases}
use Rattle.std.specs.Prelude.{Bool, nat_eq, slice_get}
use Rattle.q_chains.specs.Lists.{is_in, last_of, Lists}
use Rattle.q_keyed.proofs.Items.{items_alike}
use Rattle.std.specs.Option.{is_some}
use Rattle.q_chains.specs.Slots.{is_in_bucket, passes_in}
use Rattle.q_keyed.specs.Slots.{items_of, with_places}
use Rattle.q_keyed.specs.Sound.{IsSound}

-- ---- the number at the end of a list

pub last_none : (xs : List ℕ) → last_of xs ≡ None → length xs ≡ 0
last_none [] h = refl
last_none (x ∷ xs) h = elim (slice_get_cases (x ∷ xs) (length (x ∷ xs) - 1)).1 [
  | inl f ↦ let bad : None ≡ Some f.0 = sym h ∙ f.2 in cc
  | inr past ↦ absurd (omega (arith, past.0))
]

pub last_in : (n : ℕ) (xs : List ℕ) → last_of xs ≡ Some n → is_in n xs ≡ true
last_in n xs h = any_passes_from_place (nat_eq n) xs (length xs - 1) n h (eq-eqb n n refl)

-- ---- a place that is there

pub got_within : {X : Type 0} (xs : List (Option X)) (n : ℕ) (y : X) → get_or xs n None ≡ Some y → n < length xs
got_within [] n y h = cc
got_within (x ∷ xs) zero y h = omega arith
got_within (x ∷ xs) (suc n) y h = let rest = got_within xs n y h in omega (arith, rest)

-- ---- more places

none_there : {X : Type 0} (k m : ℕ) → get_or (replicate {A = Option X} k None) m None ≡ None
none_there zero m = refl
none_there (suc k) zero = refl
none_there (suc k) (suc m) = none_there k m

pub got_more : {X : Type 0} (xs : List (Option X)) (k m : ℕ) → get_or (xs ++ replicate k None) m None ≡ get_or xs m None
got_more [] k m = none_there k m
got_more (x ∷ xs) k zero = refl
got_more (x ∷ xs) k (suc m) = got_more xs k m

module _ {K T : Type 0} (eq : K → K → Bool) (key : T → K) (hash : K → ℕ) (items : List (Option T)) (order buckets : Lists) (live room : ℕ) (sound : IsSound eq key hash items order buckets live room) (n : ℕ) (below : n < room) where
  abbrev more : List (Option T)
  more = with_places n items

  got : (m : ℕ) → get_or more m None ≡ get_or items m None
  got m = got_more items (n + 1 - length items) m

  many : length more ≡ length items + (n + 1 - length items)
  many = length-append items (replicate (n + 1 - length items) None) ∙ ap (λ k. length items + k) (length-replicate (n + 1 - length items) None)

  pub inside_more : n < length more
  inside_more = let all = many in omega (arith, all)

  pub sound_more : IsSound eq key hash more order buckets live room
  sound_more = record {
    some = sound.some;
    few = sound.few;
    slots = (let all = many in omega (arith, all, below, sound.slots));
    two = sound.two;
    known = sound.known;
    filled = λ m. sound.filled m ∙ ap is_some (sym (got m));
    all = sound.all;
    count = sound.count;
    filed = record {
      numbers = sound.filed.numbers;
      count = sound.filed.count;
      each = λ b m less. sound.filed.each b m less ∙ ap (passes_in (is_in_bucket (λ t. hash (key t)) room b)) (sym (got m));
    };
    unlike = λ m k t u at there like. sound.unlike m k t u (sym (got m) ∙ at) (sym (got k) ∙ there) like;
  }

  pub items_more_places : (ms : List ℕ) → items_of more ms ≡ items_of items ms
  items_more_places ms = items_alike more items ms (λ m k. got m)
