-- The text of a report, piece by piece.
use Rattle.std.proofs.Common.{◌≡◌, ◌++◌, ◌∷◌, ◌∙◌, [], codes, ℕ, List, map, refl, ap}
use Rattle.std.specs.Prelude.{decimal, flat_map}
use Rattle.q_audit.specs.ReportTexts.{job_line, lawful_text}
use Rattle.q_audit.specs.Tallied.{delay_of, Job}
use Rattle.q_model.specs.Settings.{Table}
use Rattle.q_model.specs.Text.{joined}
use Rattle.q_model.specs.TextParts.{text_line}

mapped : {A B : Type 0} (f : A → B) (g : B → List ℕ) (xs : List A) → flat_map (λ x. g (f x)) xs ≡ flat_map g (map f xs)
mapped f g [] = refl
mapped f g (x ∷ xs) = ap (λ (ys : List ℕ). g (f x) ++ ys) (mapped f g xs)

abbrev counts : ℕ → List ℕ
counts n = text_line (joined (codes "lawful" ∷ decimal n ∷ []))

pub lawful_told : (none first all : List ℕ) (table : Table) (n : ℕ) (js : List Job) → none ≡ [] → first ≡ none ++ text_line (joined (codes "lawful" ∷ decimal n ∷ []))
    → all ≡ first ++ flat_map (λ j. job_line table (delay_of j)) js → all ≡ lawful_text table n (map delay_of js)
lawful_told none first all table n js empty counted told =
    told
    ∙ ap (λ (x : List ℕ). x ++ flat_map (λ j. job_line table (delay_of j)) js) (counted ∙ ap (λ (x : List ℕ). x ++ counts n) empty)
    ∙ ap (λ (x : List ℕ). counts n ++ x) (mapped delay_of (job_line table) js)
