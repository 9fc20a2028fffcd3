-- Parts of texts that the program writes.
use Rattle.std.specs.Prelude.{◌++◌, [], codes, List, ℕ, ◌∷◌}
use Rattle.q_model.specs.declared.outcome.Why.{Why}
use Rattle.q_model.specs.declared.outcome.Why.TheVariants.{Expired, Refused}

-- the word for a cause of failure
abbrev pub why_text : Why → List ℕ
why_text Refused = codes "refused"
why_text Expired = codes "expired"

-- a line with its LF
abbrev pub text_line : List ℕ → List ℕ
text_line text = text ++ 10 ∷ []
