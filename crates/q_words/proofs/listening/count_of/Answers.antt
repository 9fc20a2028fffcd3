use Rattle.std.proofs.Common.{◌∙◌, IfSome, Option, subst, ℕ}
use Rattle.std.specs.Prelude.{codes}
use Rattle.std.specs.Str.Parse.{ExplainsUnsignedError, HasUnsignedDigitsIfOk, ParsesUnsigned}
use Rattle.clap.specs.Words.{found_of, rows_of}
use Rattle.clap.proofs.WalkLemmas.{one_text-rows}
use Rattle.q_words.proofs.WordLaws.{number-of}
use Rattle.q_words.specs.Requests.{IsNumber}
use Rattle.q_words.proofs.listening.count_of.Goals as goal

pub returns-clause-number : goal.returns-clause-number
returns-clause-number c =
    let f = found_of c.args.matches.now in
    let same = one_text-rows f (codes "count") in
    subst (λ (o : Option ℕ). IfSome o (IsNumber (rows_of f) (codes "count"))) c.unwrap.ensures
    (number-of 32 (λ bs r. ParsesUnsigned 32 10 bs r × ExplainsUnsignedError 10 bs r × HasUnsignedDigitsIfOk bs r) (λ bs p g. g.0) (rows_of f) (codes "count") c.get_one.result (λ e. c.get_one.ensures.none (same ∙ e)) (λ t e. c.get_one.ensures.value t (same ∙ e)))
