-- What a crash makes of the files.
use Rattle.std.proofs.Common.{◌≡◌, ℕ, zero, suc, ◌≤◌, ◌<◌, ◌+◌, Bool, true, false, if◌then◌else◌, List, [], ◌∷◌, ◌++◌, length, take, drop, get_or, slice_set, Option, Some, None, refl, sym, ◌∙◌, ap, arith, drop-drop, take_all}
use Rattle.std.proofs.Math.Path.{fun_ext}
use Rattle.std.proofs.lemmas.List.{take_more, take_more_set, drop-set-lt, get_or-drop, ext_get_or}
use Rattle.std.specs.Option.{option_map}
use Rattle.q_model.specs.declared.spot.Area.{Area}
use Rattle.q_host.specs.Files.{Placed, same_place}
use Rattle.q_mem_host.specs.declared.rot.Rot.{Rot}
use Rattle.q_mem_host.specs.Kept.{Kept, is_soft, rotten, fallen}
use Rattle.q_mem_host.specs.Data.{kept, table}
use Rattle.q_mem_host.specs.declared.placed_files.PlacedFile.{PlacedFile}
use Rattle.q_mem_host.proofs.Tables.{table-push, or_else}

-- ---- rotten bytes

pub length-rotten : (b : ℕ) (soft : List (ℕ × ℕ)) (o : ℕ) (xs : List ℕ) → length (rotten b soft o xs) ≡ length xs
length-rotten b soft o [] = refl
length-rotten b soft o (x ∷ xs) = ap suc (length-rotten b soft (o + 1) xs)

pub get_or-rotten : (b : ℕ) (soft : List (ℕ × ℕ)) (o : ℕ) (xs : List ℕ) (k : ℕ) → k < length xs → get_or (rotten b soft o xs) k 0 ≡ (if is_soft soft (o + k) then b else get_or xs k 0)
get_or-rotten b soft o [] k h = absurd (omega arith)
get_or-rotten b soft o (x ∷ xs) zero h = ap (λ i. if is_soft soft i then b else x) (let e : o ≡ o + 0 = omega arith in e)
get_or-rotten b soft o (x ∷ xs) (suc k) h = get_or-rotten b soft (o + 1) xs k (omega arith) ∙ ap (λ i. if is_soft soft i then b else get_or xs k 0) (let e : o + 1 + k ≡ o + suc k = omega arith in e)

pub is_rotten : (b : ℕ) (soft : List (ℕ × ℕ)) (xs ys : List ℕ) → length ys ≡ length xs → ((k : ℕ) → k < length xs → get_or ys k 0 ≡ (if is_soft soft k then b else get_or xs k 0)) → ys ≡ rotten b soft 0 xs
is_rotten b soft xs ys long each = ext_get_or 0 ys (rotten b soft 0 xs) (long ∙ sym (length-rotten b soft 0 xs))
    (λ k h. let lt : k < length xs = omega (arith, long) in each k lt ∙ sym (get_or-rotten b soft 0 xs k lt ∙ ap (λ i. if is_soft soft i then b else get_or xs k 0) (let e : 0 + k ≡ k = omega arith in e)))

-- ---- one file after another

abbrev pub fall_of : Rot → Placed Kept → Placed Kept
fall_of rot t = λ a n. option_map (fallen rot) (t a n)

last_drop : (i : ℕ) (xs : List PlacedFile) → drop (i + 1) xs ≡ drop 1 (drop i xs)
last_drop i xs = sym (drop-drop 1 i xs)

fall_push : (rot : Rot) (xs ys : List PlacedFile) (e new : PlacedFile) → table xs ≡ fall_of rot (table ys) → new.area ≡ e.area → new.name ≡ e.name → kept new.file ≡ fallen rot (kept e.file)
    → table (xs ++ new ∷ []) ≡ fall_of rot (table (ys ++ e ∷ []))
fall_push rot xs ys e new so_far area name file = fun_ext (λ a. fun_ext (λ n.
    table-push xs new a n ∙ ap (λ (t : Placed Kept). or_else (t a n) (table (new ∷ []) a n)) so_far
    ∙ ap (λ (o : Option Kept). or_else (option_map (fallen rot) (table ys a n)) o) (single a n)
    ∙ both (table ys a n) (table (e ∷ []) a n) ∙ ap (option_map (fallen rot)) (sym (table-push ys e a n))))
  where
    single : (a : Area) (n : List ℕ) → table (new ∷ []) a n ≡ option_map (fallen rot) (table (e ∷ []) a n)
    single a n = ap (λ x. if same_place x new.name a n then Some (kept new.file) else None) area ∙ ap (λ x. if same_place e.area x a n then Some (kept new.file) else None) name
        ∙ ap (λ x. if same_place e.area e.name a n then Some x else None) file ∙ by (same_place e.area e.name a n)
      where
        by : (t : Bool) → (if t then Some (fallen rot (kept e.file)) else None) ≡ option_map (fallen rot) (if t then Some (kept e.file) else None)
        by true = refl
        by false = refl

    both : (o p : Option Kept) → or_else (option_map (fallen rot) o) (option_map (fallen rot) p) ≡ option_map (fallen rot) (or_else o p)
    both None p = refl
    both (Some k) p = refl

pub fall_more : (rot : Rot) (xs ys : List PlacedFile) (i : ℕ) (d new : PlacedFile) → i < length xs → length xs ≡ length ys → drop i xs ≡ drop i ys → table (take i xs) ≡ fall_of rot (table (take i ys))
    → new.area ≡ (get_or xs i d).area → new.name ≡ (get_or xs i d).name → kept new.file ≡ fallen rot (kept (get_or xs i d).file) → table (take (i + 1) (slice_set xs i new)) ≡ fall_of rot (table (take (i + 1) ys))
fall_more rot xs ys i d new lt long rest so_far area name file =
    ap (λ (l : List PlacedFile). table l) (take_more_set xs i new lt) ∙ fall_push rot (take i xs) (take i ys) (get_or xs i d) new so_far area name file
    ∙ ap (λ (l : List PlacedFile). fall_of rot (table l)) (sym (take_more ys i d (omega (arith, long)) ∙ ap (λ (x : PlacedFile). take i ys ++ x ∷ []) same))
  where
    at_rest : (l : List PlacedFile) → get_or (drop i l) 0 d ≡ get_or l i d
    at_rest l = get_or-drop i l 0 d ∙ ap (λ n. get_or l n d) (let q : i + 0 ≡ i = omega arith in q)

    same : get_or ys i d ≡ get_or xs i d
    same = sym (at_rest ys) ∙ ap (λ (l : List PlacedFile). get_or l 0 d) (sym rest) ∙ at_rest xs

pub rest_more : (xs ys : List PlacedFile) (i : ℕ) (new : PlacedFile) → drop i xs ≡ drop i ys → drop (i + 1) (slice_set xs i new) ≡ drop (i + 1) ys
rest_more xs ys i new rest = drop-set-lt (i + 1) xs i new (omega arith) ∙ last_drop i xs ∙ ap (λ (l : List PlacedFile). drop 1 l) rest ∙ sym (last_drop i ys)

pub all_fallen : (rot : Rot) (xs ys : List PlacedFile) (i : ℕ) → length xs ≤ i → length xs ≡ length ys → table (take i xs) ≡ fall_of rot (table (take i ys)) → table xs ≡ fall_of rot (table ys)
all_fallen rot xs ys i le long h = ap (λ (l : List PlacedFile). table l) (sym (take_all i xs le)) ∙ h ∙ ap (λ (l : List PlacedFile). fall_of rot (table l)) (take_all i ys (omega (arith, long)))
