-- Texts that grow by lines, and the order of the lines.
use Rattle.std.proofs.Common.{◌≡◌, ◌+◌, ◌<◌, ◌++◌, ℕ, List, [], ◌∷◌, ap, sym, refl, ◌∙◌, map, take, length, flat_map, append_assoc, append-nil, arith, suc, zero, zero-add}
use Rattle.std.specs.Borrow.{Bor}
use Rattle.std.specs.declared.cmp.Reverse.{Reverse}
use Rattle.std.specs.Cmp.Lexicographic.{slice_cmp}
use Rattle.std.specs.List.{range_with_len}
use Rattle.std.specs.List.Sorted.{IsSorted, IsSortedBy}
use Rattle.std.specs.Ordering.{is_lt, nat_cmp, ordering_then}
use Rattle.std.specs.Prelude.{Err, IfOk, Ok, Result, slice_index_or, Vec}
use Rattle.std.proofs.lemmas.List.{flat_map_more, get_or-map, length-map, map-append, take_more}
use Rattle.q_shape.specs.declared.numbers.Numbers.{Numbers}
use Rattle.q_shape.specs.declared.options.ShapeOptions.{ShapeOptions}
use Rattle.q_shape.specs.Counted.{AreNumbers}
use Rattle.q_shape.specs.Counts.{Count, domains, of_domain}
use Rattle.q_shape.specs.Rows.{names_of, numbers_at, rank_at, rank_seen}
use Rattle.q_shape.specs.Tables.{rank_cmp, rank_lines, rank_of, row_line}

range-more : (a n : ℕ) → range_with_len a (n + 1) ≡ range_with_len a n ++ (a + n) ∷ []
range-more a zero = let e : a ≡ a + 0 = omega arith in ap (λ m. m ∷ []) e
range-more a (suc n) =
    let e : suc n + 1 ≡ suc (n + 1) = omega arith in
    let f : a + 1 + n ≡ a + suc n = omega arith in
    ap (range_with_len a) e ∙ ap (λ ns. a ∷ ns) (range-more (a + 1) n) ∙ ap (λ m. (a ∷ range_with_len (a + 1) n) ++ m ∷ []) f

-- one cell more
pub cell-more : (f : ℕ → List ℕ) (n : ℕ) (base mid new : List ℕ) → mid ≡ base ++ flat_map f (range_with_len 0 n) → new ≡ mid ++ f n → new ≡ base ++ flat_map f (range_with_len 0 (n + 1))
cell-more f n base mid new before pushed =
    pushed ∙ ap (λ t. t ++ f n) before ∙ flat_map_more f base (range_with_len 0 n) n ∙ ap (λ ns. base ++ flat_map f ns) (sym (range-more 0 n ∙ ap (λ m. range_with_len 0 n ++ m ∷ []) (zero-add n)))

-- one item more
pub line-more : {X : Type 0} (f : X → List ℕ) (xs : List X) (i : ℕ) (d : X) (base mid new : List ℕ) → i < length xs → mid ≡ base ++ flat_map f (take i xs) → new ≡ mid ++ f (slice_index_or xs i d) → new ≡ base ++ flat_map f (take (i + 1) xs)
line-more f xs i d base mid new within before pushed =
    pushed ∙ ap (λ t. t ++ f (slice_index_or xs i d)) before ∙ flat_map_more f base (take i xs) (slice_index_or xs i d) ∙ ap (λ ys. base ++ flat_map f ys) (sym (take_more xs i d within))

abbrev pub Seen : Type 0
Seen = Reverse ℕ × Bor (List ℕ)

-- what is in order as the code has it is in order
pub seen-in-order : (xs : List Seen) → IsSortedBy (λ (x y : Seen). is_lt (ordering_then (nat_cmp y.0.0 x.0.0) (slice_cmp nat_cmp x.1.now y.1.now))) xs → IsSorted rank_cmp (map rank_seen xs)
seen-in-order [] h = λ k d low high. absurd (omega (arith, high))
seen-in-order (x ∷ xs) h = λ k d low high.
    let within : k + 1 < length (x ∷ xs) = omega (arith, high, length-map (x ∷ xs) rank_seen) in
    ap (λ a. is_lt (rank_cmp a (slice_index_or (map rank_seen (x ∷ xs)) k d))) (get_or-map rank_seen (x ∷ xs) (k + 1) x d within)
    ∙ ap (λ a. is_lt (rank_cmp (rank_seen (slice_index_or (x ∷ xs) (k + 1) x)) a)) (get_or-map rank_seen (x ∷ xs) k x d (omega (arith, within)))
    ∙ h k x low within

map-same : {X Y : Type 0} (f g : X → Y) → ((x : X) → f x ≡ g x) → (xs : List X) → map f xs ≡ map g xs
map-same f g h [] = refl
map-same f g h (x ∷ xs) = ap (λ y. y ∷ map f xs) (h x) ∙ ap (λ ys. g x ∷ ys) (map-same f g h xs)

-- the ranks of the rows are those of what was counted
pub ranks-of : {A : Type 0} (o : ShapeOptions) (cs : List Count) (rows : List (Vec ℕ A × Numbers)) → names_of rows ≡ domains cs → ((name : List ℕ) → AreNumbers o (numbers_at rows name) (of_domain name cs))
    → map (rank_at rows) (names_of rows) ≡ map (rank_of cs) (domains cs)
ranks-of o cs rows names each = map-same (rank_at rows) (rank_of cs) (λ name. ap (λ n. (n, name)) ((each name).all)) (names_of rows) ∙ ap (map (rank_of cs)) names

-- ---- a walk over the names of the rows

module _ {A : Type 0} (f : List ℕ → ℕ × List ℕ) where
  pub ranks-start : (ks left : List (Vec ℕ A)) (xs : List Seen) → xs ≡ [] → left ≡ ks → map rank_seen xs ++ map (λ key. f key.items) left ≡ map f (map (λ key. key.items) ks)
  ranks-start ks left xs none all = ap (λ ys. map rank_seen ys ++ map (λ key. f key.items) left) none ∙ ap (map (λ (key : Vec ℕ A). f key.items)) all ∙ two ks
    where
      two : (ks : List (Vec ℕ A)) → map (λ key. f key.items) ks ≡ map f (map (λ key. key.items) ks)
      two [] = refl
      two (k ∷ ks) = ap (λ ys. f k.items ∷ ys) (two ks)

  pub ranks-more : (left rest : List (Vec ℕ A)) (x : Vec ℕ A) (y : Seen) (xs new : List Seen) (all : List (ℕ × List ℕ)) → map rank_seen xs ++ map (λ key. f key.items) left ≡ all → left ≡ x ∷ rest → new ≡ xs ++ y ∷ [] → rank_seen y ≡ f x.items
      → map rank_seen new ++ map (λ key. f key.items) rest ≡ all
  ranks-more left rest x y xs new all before next pushed is =
      ap (λ zs. map rank_seen zs ++ map (λ (key : Vec ℕ A). f key.items) rest) pushed ∙ ap (λ zs. zs ++ map (λ (key : Vec ℕ A). f key.items) rest) (map-append rank_seen xs (y ∷ []))
      ∙ append_assoc (map rank_seen xs) (rank_seen y ∷ []) (map (λ (key : Vec ℕ A). f key.items) rest) ∙ ap (λ r. map rank_seen xs ++ r ∷ map (λ (key : Vec ℕ A). f key.items) rest) is
      ∙ ap (λ ks. map rank_seen xs ++ map (λ (key : Vec ℕ A). f key.items) ks) (sym next) ∙ before

  pub ranks-end : (left : List (Vec ℕ A)) (xs : List Seen) (all : List (ℕ × List ℕ)) → map rank_seen xs ++ map (λ key. f key.items) left ≡ all → left ≡ [] → map rank_seen xs ≡ all
  ranks-end left xs all before none = sym (ap (λ ks. map rank_seen xs ++ map (λ (key : Vec ℕ A). f key.items) ks) none ∙ append-nil (map rank_seen xs)) ∙ before

-- the line of a rank
abbrev pub seen_line : ShapeOptions → List Count → Seen → List ℕ
seen_line o cs x = row_line o x.1.now (of_domain x.1.now cs)

pub lines-seen : (o : ShapeOptions) (cs : List Count) (xs : List Seen) → flat_map (seen_line o cs) xs ≡ rank_lines o cs (map rank_seen xs)
lines-seen o cs [] = refl
lines-seen o cs (x ∷ xs) = ap (λ t. seen_line o cs x ++ t) (lines-seen o cs xs)

pub if_ok : {T E : Type 0} {P Q : T → Type 0} (r : Result T E) → ((t : T) → P t → Q t) → IfOk r P → IfOk r Q
if_ok (Ok t) f h = f t h
if_ok (Err e) f h = h
