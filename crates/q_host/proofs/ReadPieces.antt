-- A file is read piece by piece.
use Rattle.std.proofs.Common.{◌≡◌, ◌≤◌, ◌<◌, ℕ, List, [], ◌∷◌, ◌++◌, length, take, drop, Option, Some, None, sym, ap, ◌∙◌, append_assoc, append-nil, arith, length-append, refl}
use Rattle.std.specs.Option.{IfSome, IsSome}
use Rattle.std.specs.Prelude.{unwrap_or}
use Rattle.std.proofs.Math.Seq.{drop-append_seam}
use Rattle.std.proofs.lemmas.List.{take-append-drop}
use Rattle.q_host.specs.Reads.{IsRead}

-- these bytes are the first of the file
abbrev pub IsFront : Option (List ℕ) → List ℕ → Type 0
IsFront o bytes = IfSome o (λ file. (rest : List ℕ) × (file ≡ bytes ++ rest))

pub front_none : (o : Option (List ℕ)) (bytes : List ℕ) → bytes ≡ [] → IsFront o bytes
front_none None bytes h = tt
front_none (Some file) bytes h = (file, sym (ap (λ (x : List ℕ). x ++ file) h))

pub front_more : (o : Option (List ℕ)) (bytes more old new : List ℕ) (n : ℕ) → IfSome o (λ file. IsRead file (length bytes) old new n) → more ≡ take n new → IsFront o bytes → IsFront o (bytes ++ more)
front_more None bytes more old new n r is so = tt
front_more (Some file) bytes more old new n r is (rest, all) =
    let reading_behind : drop (length bytes) file ≡ rest = ap (drop (length bytes)) all ∙ drop-append_seam bytes rest in
    let same : more ≡ take n rest = is ∙ r.bytes ∙ ap (take n) reading_behind in
    (drop n rest, all ∙ ap (λ (x : List ℕ). bytes ++ x) (sym (take-append-drop n rest)) ∙ sym (append_assoc bytes (take n rest) (drop n rest)) ∙ ap (λ (x : List ℕ). (bytes ++ x) ++ drop n rest) (sym same))

nothing_left : (bytes rest file : List ℕ) (size : ℕ) → file ≡ bytes ++ rest → size ≡ length file → size ≤ length bytes → rest ≡ []
nothing_left bytes [] file size all is le = refl
nothing_left bytes (b ∷ rest) file size all is le = absurd (omega (arith, is, le, ap length all, length-append bytes (b ∷ rest)))

pub front_all : (o : Option (List ℕ)) (bytes : List ℕ) (size : ℕ) → IsSome o → IfSome o (λ file. size ≡ length file) → size ≤ length bytes → IsFront o bytes → bytes ≡ unwrap_or o []
front_all None bytes size there is le so = absurd cc
front_all (Some file) bytes size there is le (rest, all) = sym (all ∙ ap (λ (x : List ℕ). bytes ++ x) (nothing_left bytes rest file size all is le) ∙ append-nil bytes)

pub front_stuck : (o : Option (List ℕ)) (bytes old new : List ℕ) (size n : ℕ) → IsSome o → IfSome o (λ file. size ≡ length file) → length bytes < size → 0 < length old → n ≡ 0 → IfSome o (λ file. IsRead file (length bytes) old new n) → ⊥
front_stuck None bytes old new size n there is less some none r = cc
front_stuck (Some file) bytes old new size n there is less some none r = omega (arith, is, less, some, none, r.count)
