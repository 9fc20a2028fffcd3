-- Where each job of another message stays, tidying of lines is a matter of one message.
use Rattle.std.proofs.Common.{◌≡◌, ℕ, ◌+◌, true, not, List, [], ◌∷◌, map, refl, sym, ap, ◌∙◌}
use Rattle.std.proofs.lemmas.Bool.{and_parts}
use Rattle.std.specs.List.{enumerate_from, list_all}
use Rattle.std.specs.Prelude.{◌||◌, ◌==◌, Bool}
use Rattle.q_laws.proofs.Members.{all_at}
use Rattle.q_ledger.proofs.TidiedRows.{left_but, stays_own}
use Rattle.q_ledger.specs.LinesLeft.{line_by, rows_of, stays_by}
use Rattle.q_model.proofs.IdLaws.{id_eq-true}
use Rattle.q_model.specs.Ids.{id_eq}
use Rattle.q_model.specs.Ledger.{Ledger}
use Rattle.q_model.specs.Memory.{unread_of}
use Rattle.q_model.specs.Step.{stays, tidy_line}
use Rattle.q_model.specs.declared.id.Id.{Id}

-- each job of another message stays in these lines, numbered from n on
abbrev pub others_stay : Ledger → Id → ℕ → List (List Id) → Bool
others_stay l id n lines = list_all (λ (line : ℕ × List Id). list_all (λ i. id_eq i id || stays l line.0 i) line.1) (enumerate_from n lines)

own_line : (l : Ledger) (id : Id) (n : ℕ) (ids : List Id) → list_all (λ i. id_eq i id || stays l n i) ids ≡ true →
    tidy_line l (n, ids) ≡ line_by (rows_of l id) (not (unread_of l id == 0)) id (n, ids)
own_line l id n ids h =
    left_but (stays l n) (λ i. id_eq i id) (stays_by (rows_of l id) (not (unread_of l id == 0)) n) ids
    (λ i inside apart. sym (ap (λ b. b || stays l n i) apart) ∙ all_at (λ x. id_eq x id || stays l n x) i ids h inside)
    (λ i same. ap (stays l n) (id_eq-true i id same) ∙ stays_own l n id)

pub lines_own : (l : Ledger) (id : Id) (n : ℕ) (lines : List (List Id)) → others_stay l id n lines ≡ true →
    map (tidy_line l) (enumerate_from n lines) ≡ map (line_by (rows_of l id) (not (unread_of l id == 0)) id) (enumerate_from n lines)
lines_own l id n [] h = refl
lines_own l id n (ids ∷ lines) h =
    let two = and_parts (list_all (λ i. id_eq i id || stays l n i) ids) (others_stay l id (n + 1) lines) h in
    ap (λ line. line ∷ map (tidy_line l) (enumerate_from (n + 1) lines)) (own_line l id n ids two.0)
    ∙ ap (λ rest. line_by (rows_of l id) (not (unread_of l id == 0)) id (n, ids) ∷ rest) (lines_own l id (n + 1) lines two.1)
