-- The file of a place, found, changed, taken out and put in.
use Rattle.std.proofs.Common.{◌≡◌, ℕ, ◌<◌, ◌≤◌, ◌+◌, true, false, List, ◌∷◌, ◌++◌, length, take, drop, get_or, slice_set, if◌then◌else◌, Option, Some, None, sym, ◌∙◌, ap, subst, take-append-drop}
use Rattle.std.proofs.lemmas.List.{drop_more, take-set, drop-set}
use Rattle.std.specs.List.{insert}
use Rattle.std.specs.Option.{IsSomeAnd, option_map}
use Rattle.std.specs.declared.cmp.Ordering.TheVariants.{Equal, Greater, Less}
use Rattle.q_model.specs.declared.spot.Area.{Area}
use Rattle.q_model.proofs.EachLaws.{each-same}
use Rattle.q_host.specs.Files.{put, same_place}
use Rattle.q_host.proofs.Puts.{put-is, put-same, same_place-refl}
use Rattle.q_mem_host.specs.Kept.{Kept}
use Rattle.q_mem_host.specs.Data.{kept, table}
use Rattle.q_mem_host.specs.Order.{InOrder, IsAt, IsGap, placed_cmp}
use Rattle.q_mem_host.specs.declared.placed_files.PlacedFile.{PlacedFile}
use Rattle.q_mem_host.proofs.Order.{before_at, before_differs, before_it, behind_at, behind_differs, behind_it, behind_turned, equal_same, GoesBefore, joined, renewed, without}
use Rattle.q_mem_host.proofs.Tables.{IsElsewhere, or_else, table-append, elsewhere, none_there}

-- the same list
pub at_in : (xs es : List PlacedFile) (i : ℕ) (a : Area) (n : List ℕ) → xs ≡ es → IsAt xs i a n → IsAt es i a n
at_in xs es i a n same at = subst (λ (l : List PlacedFile). IsAt l i a n) same at

pub gap_in : (xs es : List PlacedFile) (i : ℕ) (a : Area) (n : List ℕ) → xs ≡ es → IsGap xs i a n → IsGap es i a n
gap_in xs es i a n same gap = subst (λ (l : List PlacedFile). IsGap l i a n) same gap

pub order_in : (xs es : List PlacedFile) → xs ≡ es → InOrder es → InOrder xs
order_in xs es same order = subst (λ (l : List PlacedFile). InOrder l) (sym same) order

pub nothing_taken : (xs es : List PlacedFile) (a : Area) (n : List ℕ) → xs ≡ es → table xs a n ≡ None → table es ≡ put (table es) a n None
nothing_taken xs es a n same none = sym (put-same (table es) a n None (ap (λ (l : List PlacedFile). table l a n) (sym same) ∙ none))

-- ---- between two lists

module _ (xs ys : List PlacedFile) (e : PlacedFile) (a : Area) (n : List ℕ) (none : table xs a n ≡ None) (here : same_place e.area e.name a n ≡ true) where
  found_here : table (xs ++ e ∷ ys) a n ≡ Some (kept e.file)
  found_here = table-append xs (e ∷ ys) a n ∙ ap (λ (o : Option Kept). or_else o (table (e ∷ ys) a n)) none ∙ ap (λ t. if t then Some (kept e.file) else table ys a n) here

  -- other places see nothing of it
  apart : (b : Area) (m : List ℕ) → same_place a n b m ≡ false → table (xs ++ e ∷ ys) b m ≡ table (xs ++ ys) b m
  apart b m differ =
      table-append xs (e ∷ ys) b m ∙ ap (λ t. or_else (table xs b m) (if t then Some (kept e.file) else table ys b m)) (elsewhere e a n b m here differ)
      ∙ sym (table-append xs ys b m)

  came : table (xs ++ e ∷ ys) ≡ put (table (xs ++ ys)) a n (Some (kept e.file))
  came = put-is (table (xs ++ ys)) (table (xs ++ e ∷ ys)) a n (Some (kept e.file)) found_here apart

  went : table ys a n ≡ None → table (xs ++ ys) ≡ put (table (xs ++ e ∷ ys)) a n None
  went rest = put-is (table (xs ++ e ∷ ys)) (table (xs ++ ys)) a n None (table-append xs ys a n ∙ ap (λ (o : Option Kept). or_else o (table ys a n)) none ∙ rest) (λ b m differ. sym (apart b m differ))

-- one in the place of another
replaced : (xs ys : List PlacedFile) (e new : PlacedFile) (a : Area) (n : List ℕ) → table xs a n ≡ None → same_place e.area e.name a n ≡ true → new.area ≡ e.area → new.name ≡ e.name
    → table (xs ++ new ∷ ys) ≡ put (table (xs ++ e ∷ ys)) a n (Some (kept new.file))
replaced xs ys e new a n none here area name = put-is (table (xs ++ e ∷ ys)) (table (xs ++ new ∷ ys)) a n (Some (kept new.file)) (found_here xs ys new a n none there)
    (λ b m differ. apart xs ys new a n none there b m differ ∙ sym (apart xs ys e a n none here b m differ))
  where
    there : same_place new.area new.name a n ≡ true
    there = ap (λ b. same_place b new.name a n) area ∙ ap (λ m. same_place e.area m a n) name ∙ here

-- ---- a file that is there

-- the list around one file
around : (es : List PlacedFile) (i : ℕ) (e : PlacedFile) → i < length es → e ≡ get_or es i e → take i es ++ e ∷ drop (i + 1) es ≡ es
around es i e lt is =
    ap (λ (x : PlacedFile). take i es ++ x ∷ drop (i + 1) es) is ∙ ap (λ (l : List PlacedFile). take i es ++ l) (sym (drop_more es i e lt)) ∙ take-append-drop i es

around_set : (es : List PlacedFile) (i : ℕ) (new : PlacedFile) → i < length es → slice_set es i new ≡ take i es ++ new ∷ drop (i + 1) es
around_set es i new lt =
    sym (take-append-drop i (slice_set es i new)) ∙ ap (λ (l : List PlacedFile). l ++ drop i (slice_set es i new)) (take-set es i new) ∙ ap (λ (l : List PlacedFile). take i es ++ l) (drop-set es i new lt)

pub order_around : (es : List PlacedFile) (i : ℕ) (e : PlacedFile) → InOrder es → i < length es → e ≡ get_or es i e → InOrder (take i es ++ e ∷ drop (i + 1) es)
order_around es i e order lt is = subst (λ (l : List PlacedFile). InOrder l) (sym (around es i e lt is)) order

-- in order with the same places
pub order_set : (es : List PlacedFile) (i : ℕ) (e new : PlacedFile) → InOrder es → i < length es → e ≡ get_or es i e → new.area ≡ e.area → new.name ≡ e.name → InOrder (slice_set es i new)
order_set es i e new order lt is area name = subst (λ (l : List PlacedFile). InOrder l) (sym (around_set es i new lt))
    (renewed (take i es) e new (drop (i + 1) es) area name (order_around es i e order lt is))

module _ (es : List PlacedFile) (i : ℕ) (a : Area) (n : List ℕ) (order : InOrder es) (at : IsAt es i a n) (e : PlacedFile) (is : e ≡ get_or es i e) where
  equal : placed_cmp a n e ≡ Equal
  equal = subst (λ (x : PlacedFile). placed_cmp a n x ≡ Equal) (sym is) (at.here e)

  at_place : same_place e.area e.name a n ≡ true
  at_place = equal_same e.area e.name a n equal

  whole : take i es ++ e ∷ drop (i + 1) es ≡ es
  whole = around es i e at.within is

  ordered : InOrder (take i es ++ e ∷ drop (i + 1) es)
  ordered = order_around es i e order at.within is

  front_none : table (take i es) a n ≡ None
  front_none = none_there (take i es) a n (each-same (λ x. GoesBefore x e) (IsElsewhere a n) (take i es) (λ x h. before_differs x.area x.name a n (before_at x e h a n equal)) (before_it (take i es) e (drop (i + 1) es) ordered))

  rest_none : table (drop (i + 1) es) a n ≡ None
  rest_none = none_there (drop (i + 1) es) a n (each-same (λ y. GoesBefore e y) (IsElsewhere a n) (drop (i + 1) es) (λ y h. behind_differs y.area y.name a n (behind_at e y h a n at_place)) (behind_it (take i es) e (drop (i + 1) es) ordered))

  -- its file is that of the place
  pub file_there : table es a n ≡ Some (kept e.file)
  file_there = ap (λ (l : List PlacedFile). table l a n) (sym whole) ∙ found_here (take i es) (drop (i + 1) es) e a n front_none at_place

  -- a place whose file reaches so far
  pub file_reaches : (at : ℕ) → IsSomeAnd (table es a n) (λ k. at ≤ length k.bytes) → at ≤ length e.file.bytes.items
  file_reaches at reaches = subst (λ (o : Option Kept). IsSomeAnd o (λ k. at ≤ length k.bytes)) file_there reaches

  -- with another file
  pub file_set : (new : PlacedFile) → new.area ≡ e.area → new.name ≡ e.name → table (slice_set es i new) ≡ put (table es) a n (Some (kept new.file))
  file_set new area name =
      ap (λ (l : List PlacedFile). table l) (around_set es i new at.within) ∙ replaced (take i es) (drop (i + 1) es) e new a n front_none at_place area name
      ∙ ap (λ (l : List PlacedFile). put (table l) a n (Some (kept new.file))) whole

  -- with its file changed
  pub file_by : (f : Kept → Kept) (new : PlacedFile) → new.area ≡ e.area → new.name ≡ e.name → kept new.file ≡ f (kept e.file) → table (slice_set es i new) ≡ put (table es) a n (option_map f (table es a n))
  file_by f new area name file =
      file_set new area name ∙ ap (λ (k : Kept). put (table es) a n (Some k)) file ∙ ap (λ (o : Option Kept). put (table es) a n (option_map f o)) (sym file_there)

  -- with its file as it was
  pub file_same : (new : PlacedFile) → new.area ≡ e.area → new.name ≡ e.name → kept new.file ≡ kept e.file → table (slice_set es i new) ≡ table es
  file_same new area name file = file_set new area name ∙ put-same (table es) a n (Some (kept new.file)) (file_there ∙ ap (λ (k : Kept). Some k) (sym file))

  -- taken out
  pub taken_out : table (take i es ++ drop (i + 1) es) ≡ put (table es) a n None
  taken_out = went (take i es) (drop (i + 1) es) e a n front_none at_place rest_none ∙ ap (λ (l : List PlacedFile). put (table l) a n None) whole

  pub taken_order : InOrder (take i es ++ drop (i + 1) es)
  taken_order = without (take i es) e (drop (i + 1) es) ordered

-- ---- a file that isn't there

module _ (es : List PlacedFile) (i : ℕ) (a : Area) (n : List ℕ) (gap : IsGap es i a n) where
  front_apart : table (take i es) a n ≡ None
  front_apart = none_there (take i es) a n (each-same (λ x. placed_cmp a n x ≡ Less) (IsElsewhere a n) (take i es) (λ x h. before_differs x.area x.name a n h) gap.front)

  rest_apart : table (drop i es) a n ≡ None
  rest_apart = none_there (drop i es) a n (each-same (λ y. placed_cmp a n y ≡ Greater) (IsElsewhere a n) (drop i es) (λ y h. behind_differs y.area y.name a n h) gap.rest)

  pub gap_empty : table es a n ≡ None
  gap_empty =
      ap (λ (l : List PlacedFile). table l a n) (sym (take-append-drop i es)) ∙ table-append (take i es) (drop i es) a n ∙ ap (λ (o : Option Kept). or_else o (table (drop i es) a n)) front_apart ∙ rest_apart

  module _ (new : PlacedFile) (area : new.area ≡ a) (name : new.name ≡ n) where
    there : same_place new.area new.name a n ≡ true
    there = ap (λ b. same_place b new.name a n) area ∙ ap (λ m. same_place a m a n) name ∙ same_place-refl a n

    pub put_in : table (insert es i new) ≡ put (table es) a n (Some (kept new.file))
    put_in = came (take i es) (drop i es) new a n front_apart there ∙ ap (λ (l : List PlacedFile). put (table l) a n (Some (kept new.file))) (take-append-drop i es)

    pub put_order : InOrder es → InOrder (insert es i new)
    put_order order = joined (take i es) new (drop i es) (subst (λ (l : List PlacedFile). InOrder l) (sym (take-append-drop i es)) order)
        (each-same (λ x. placed_cmp a n x ≡ Less) (λ x. GoesBefore x new) (take i es) (λ x h. to_new (λ b m. placed_cmp b m x ≡ Less) h) gap.front)
        (each-same (λ y. placed_cmp a n y ≡ Greater) (λ y. GoesBefore new y) (drop i es) (λ y h. behind_turned y.area y.name new.area new.name (to_new (λ b m. placed_cmp b m y ≡ Greater) h)) gap.rest)
      where
        to_new : (P : Area → List ℕ → Type 0) → P a n → P new.area new.name
        to_new P h = subst (λ m. P new.area m) (sym name) (subst (λ b. P b n) (sym area) h)
