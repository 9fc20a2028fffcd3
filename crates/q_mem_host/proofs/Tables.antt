-- Lists of files as tables.
use Rattle.std.proofs.Common.{◌≡◌, ℕ, Bool, true, false, List, [], ◌∷◌, ◌++◌, if◌then◌else◌, Option, Some, None, IsSome, refl, sym, ◌∙◌, ap, subst, true≢false}
use Rattle.std.specs.List.{AllByRecursion}
use Rattle.q_model.specs.declared.spot.Area.{Area}
use Rattle.q_host.specs.Files.{same_place}
use Rattle.q_host.proofs.Puts.{same_place-true}
use Rattle.q_mem_host.specs.Kept.{Kept}
use Rattle.q_mem_host.specs.Data.{kept, table}
use Rattle.q_mem_host.specs.declared.placed_files.PlacedFile.{PlacedFile}

abbrev pub or_else : Option Kept → Option Kept → Option Kept
or_else None y = y
or_else (Some x) y = Some x

-- the first file of two lists counts
pub table-append : (xs ys : List PlacedFile) (b : Area) (m : List ℕ) → table (xs ++ ys) b m ≡ or_else (table xs b m) (table ys b m)
table-append [] ys b m = refl
table-append (x ∷ xs) ys b m = by (same_place x.area x.name b m) _ _ _ (table-append xs ys b m)
  where
    by : (t : Bool) (u v w : Option Kept) → u ≡ or_else v w → (if t then Some (kept x.file) else u) ≡ or_else (if t then Some (kept x.file) else v) w
    by true u v w h = refl
    by false u v w h = h

pub table-push : (es : List PlacedFile) (e : PlacedFile) (b : Area) (m : List ℕ) → table (es ++ e ∷ []) b m ≡ or_else (table es b m) (table (e ∷ []) b m)
table-push es e b m = table-append es (e ∷ []) b m

-- a file of one place is at no other
pub elsewhere : (e : PlacedFile) (a : Area) (n : List ℕ) (b : Area) (m : List ℕ) → same_place e.area e.name a n ≡ true → same_place a n b m ≡ false → same_place e.area e.name b m ≡ false
elsewhere e a n b m here differ =
    let both = same_place-true e.area e.name a n here in
    subst (λ a'. same_place a' e.name b m ≡ false) (sym both.0) (subst (λ n'. same_place a n' b m ≡ false) (sym both.1) differ)

-- the file is at another place
abbrev pub IsElsewhere : Area → List ℕ → PlacedFile → Type 0
IsElsewhere a n e = same_place e.area e.name a n ≡ false

pub none_there : (es : List PlacedFile) (a : Area) (n : List ℕ) → AllByRecursion (IsElsewhere a n) es → table es a n ≡ None
none_there [] a n h = refl
none_there (e ∷ es) a n h = ap (λ t. if t then Some (kept e.file) else table es a n) h.0 ∙ none_there es a n h.1

among_step : (P : PlacedFile → Type 0) (e : PlacedFile) (a : Area) (n : List ℕ) (rest : Option Kept) (t : Bool) → same_place e.area e.name a n ≡ t → P e → IsSome (if t then Some (kept e.file) else rest)
    → (IsSome rest → (x : PlacedFile) × P x × (same_place x.area x.name a n ≡ true)) → (x : PlacedFile) × P x × (same_place x.area x.name a n ≡ true)
among_step P e a n rest true here p some others = (e, p, here)
among_step P e a n rest false here p some others = others some

-- the file of a place, with what holds of each file
pub among : (P : PlacedFile → Type 0) (es : List PlacedFile) (a : Area) (n : List ℕ) → AllByRecursion P es → IsSome (table es a n) → (x : PlacedFile) × P x × (same_place x.area x.name a n ≡ true)
among P [] a n h some = absurd (true≢false (sym some))
among P (e ∷ es) a n h some = among_step P e a n (table es a n) (same_place e.area e.name a n) refl h.0 some (λ rest. among P es a n h.1 rest)
