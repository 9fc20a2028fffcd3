-- What is left of a whole list of codes in each state of a dialogue, and what it says of the recipients.
use Rattle.std.proofs.Common.{◌≡◌, ℕ, List, [], ◌∷◌, ◌++◌, ◌==◌, length, replicate}
use Rattle.std.specs.Bool.{MatchBool}
use Rattle.std.specs.List.{list_any}
use Rattle.std.specs.Prelude.{map}
use Rattle.q_model.specs.declared.outcome.Outcome.{Outcome}
use Rattle.q_smtp.specs.Codes.{is_answer, is_done, is_never, is_refusal, outcome_by, outcome_of}
use Rattle.q_smtp.specs.Dialogue.{Transaction}

-- no code is left, and this is said
abbrev pub Over : List Outcome → List ℕ → List Outcome → Type 0
Over all w said = (w ≡ []) × (said ≡ all)

abbrev pub OfContent : List ℕ → List ℕ → List Outcome → Type 0
OfContent to [] said = ⊥
OfContent to (c ∷ w) said = MatchBool (is_answer c) (Over (map (outcome_by c) to) w said) ⊥

abbrev pub OfData : List ℕ → List ℕ → List Outcome → Type 0
OfData to [] said = ⊥
OfData to (c ∷ w) said = MatchBool (c == 354) (OfContent to w said) (MatchBool (is_refusal c) (Over (map (outcome_by c) to) w said) ⊥)

abbrev pub OfRcpts : List (List ℕ) → List ℕ → List ℕ → List Outcome → Type 0
OfRcpts [] to w said = MatchBool (list_any is_done to) (OfData to w said) (Over (map outcome_of to) w said)
OfRcpts (address ∷ left) to [] said = ⊥
OfRcpts (address ∷ left) to (c ∷ w) said = MatchBool (is_answer c) (OfRcpts left (to ++ c ∷ []) w said) ⊥

abbrev pub OfMail : Transaction → List ℕ → List Outcome → Type 0
OfMail e [] said = ⊥
OfMail e (c ∷ w) said = MatchBool (is_done c) (OfRcpts e.to [] w said) (MatchBool (is_refusal c) (Over (replicate (length e.to) (outcome_of c)) w said) ⊥)

abbrev pub OfHelo : Transaction → List ℕ → List Outcome → Type 0
OfHelo e [] said = ⊥
OfHelo e (c ∷ w) said = MatchBool (is_done c) (OfMail e w said) ⊥

abbrev pub OfEhlo : Transaction → List ℕ → List Outcome → Type 0
OfEhlo e [] said = ⊥
OfEhlo e (c ∷ w) said = MatchBool (is_done c) (OfMail e w said) (MatchBool (is_never c) (OfHelo e w said) ⊥)

abbrev pub OfDialogue : Transaction → List ℕ → List Outcome → Type 0
OfDialogue e [] said = ⊥
OfDialogue e (c ∷ w) said = MatchBool (c == 220) (OfEhlo e w said) ⊥
