-- The two definitions of a dialogue's end say the same.
use Rattle.std.proofs.Common.{◌≡◌, ℕ, List, ◌++◌, length, ap, ◌∙◌}
use Rattle.q_model.specs.declared.outcome.Outcome.{Outcome}
use Rattle.q_smtp.specs.Dialogue.{dialogue, Settled, Transaction}
use Rattle.q_smtp.specs.WholeDialogues.{Says}
use Rattle.q_smtp.proofs.Endings.{dialogue_ends}
use Rattle.q_smtp.proofs.Wholes.{dialogue_form}

-- a dialogue that is settled has heard a whole list
pub settled_says : (t : Transaction) (codes : List ℕ) (said : List Outcome) → (dialogue t codes).ending ≡ Settled said → Says (length t.to) codes said
settled_says t codes said e =
    let r = (dialogue_ends t).settled codes said e in
    let w = dialogue_form t r.0 said r.2 in
    record { whole = w.0; more = r.1; form = w.1; begins = r.3 ∙ ap (λ (xs : List ℕ). xs ++ r.1) w.2; outcomes = w.3 }
