use Rattle.std.proofs.Common.{◌∙◌, IfSome, Option, subst, ℕ}
use Rattle.std.specs.Prelude.{codes}
use Rattle.std.specs.Str.Parse.{ExplainsUnsignedError, HasUnsignedDigitsIfOk, ParsesUnsigned}
use Rattle.clap.specs.Words.{found_of, rows_of}
use Rattle.clap.proofs.WalkLemmas.{one_text-rows}
use Rattle.q_words.proofs.WordLaws.{number-of}
use Rattle.q_words.specs.Requests.{IsNumber}
use Rattle.q_words.proofs.arguments.rests_of.Goals as goal

pub returns : goal.returns
returns c =
    let f = found_of c.args.matches.now in
    let same = one_text-rows f (codes "rests") in
    subst (λ (o : Option ℕ). IfSome o (IsNumber (rows_of f) (codes "rests"))) c.unwrap.ensures
    (number-of 32 (λ bs r. ParsesUnsigned 32 10 bs r × ExplainsUnsignedError 10 bs r × HasUnsignedDigitsIfOk bs r) (λ bs p g. g.0) (rows_of f) (codes "rests") c.get_one.result (λ e. c.get_one.ensures.none (same ∙ e)) (λ t e. c.get_one.ensures.value t (same ∙ e)))
