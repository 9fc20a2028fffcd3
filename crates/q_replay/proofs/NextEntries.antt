-- What holds of the next entry, where there is one, as the rules of decisions are put together.
use Rattle.std.proofs.Common.{◌≡◌, Bool, true, false, List, [], ◌∷◌, Option, Some, None, subst, if◌then◌else◌}
use Rattle.std.specs.List.{AllByRecursion, cons_option, filter_map}
use Rattle.std.specs.Option.{option_map_or, option_or}
use Rattle.std.specs.Prelude.{option_and_then, option_map, slice_get}
use Rattle.q_model.specs.Lists.{first_of, first_some}
use Rattle.q_model.specs.declared.entry.Entry.{Entry}

-- the entry, where there is one, has the property
abbrev pub Has : (Entry → Type 0) → Option Entry → Type 0
Has P o = (e : Entry) → o ≡ Some e → P e

module _ (P : Entry → Type 0) where
  pub one : (x : Entry) → P x → Has P (Some x)
  one x h e is = let same : x ≡ e = cc in subst P same h

  pub none : Has P None
  none e is = absurd cc

  pub mapped : {A : Type 0} (f : A → Entry) → ((x : A) → P (f x)) → (o : Option A) → Has P (option_map f o)
  mapped f h None = none
  mapped f h (Some x) = one (f x) (h x)

  pub and_then : {A : Type 0} (f : A → Option Entry) → ((x : A) → Has P (f x)) → (o : Option A) → Has P (option_and_then f o)
  and_then f h None = none
  and_then f h (Some x) = h x

  pub map_or : {A : Type 0} (f : A → Option Entry) (d : Option Entry) → ((x : A) → Has P (f x)) → Has P d → (o : Option A) → Has P (option_map_or f o d)
  map_or f d h k None = k
  map_or f d h k (Some x) = h x

  pub or_else : (o q : Option Entry) → Has P o → Has P q → Has P (option_or o q)
  or_else None q h k = k
  or_else (Some x) q h k = h

  pub choose : (cs : List (Bool × Entry)) → AllByRecursion (λ (c : Bool × Entry). P c.1) cs → Has P (first_of cs)
  choose [] h = none
  choose ((true, x) ∷ cs) h = one x h.0
  choose ((false, x) ∷ cs) h = choose cs h.1

  pub if_so : (b : Bool) (o : Option Entry) → Has P o → Has P (if b then o else None)
  if_so true o h = h
  if_so false o h = none

  given_on : (o : Option Entry) (rest : List Entry) → Has P o → Has P (slice_get rest 0) → Has P (slice_get (cons_option o rest) 0)
  given_on None rest h k = k
  given_on (Some y) rest h k = h

  pub given : {A : Type 0} (f : A → Option Entry) → ((x : A) → Has P (f x)) → (xs : List A) → Has P (first_some f xs)
  given f h [] = none
  given f h (x ∷ xs) = given_on (f x) (filter_map f xs) (h x) (given f h xs)
