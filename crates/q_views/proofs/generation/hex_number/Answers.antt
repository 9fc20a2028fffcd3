use Rattle.std.proofs.Common.{ap, sym, ◌∙◌, subst, arith}
use Rattle.std.specs.Result.{result_ok}
use Rattle.std.specs.Str.{IsUtf8}
use Rattle.q_model.proofs.NumberTexts.{hex-Spells, parse-spell, utf8-spell}
use Rattle.q_views.proofs.generation.hex_number.Goals as goal

pub returns-in_default : goal.returns-in_default
returns-in_default c = λ n small same. absurd (c.in_default.ensures.cases.0 (subst IsUtf8 same (utf8-spell hex-Spells 8 n)))

pub returns : goal.returns
returns c = λ n small same.
    c.ok.ensures.value ∙ ap result_ok (parse-spell hex-Spells 32 8 n _ _ (same ∙ sym c.in-Ok.ensures.cases.0) (omega arith) small (omega arith) c.from_str_radix.ensures.value)
