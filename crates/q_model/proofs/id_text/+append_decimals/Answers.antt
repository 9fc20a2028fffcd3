use Rattle.std.proofs.Common.{◌≡◌, ◌-◌, suc, refl, arith}
use Rattle.q_model.proofs.NumberTexts.{decimals-Spells, append-spell_none, append-spell_more}
use Rattle.q_model.proofs.id_text.+append_decimals.Goals as goal

pub returns-then-count-eq0-clause-text : goal.returns-then-count-eq0-clause-text
returns-then-count-eq0-clause-text t c = append-spell_none decimals-Spells c.args.count c.args.number c.args.text.now c.if-count-eq0.true

pub returns-clause-text : goal.returns-clause-text
returns-clause-text t c =
    let one_more : c.args.count ≡ suc (c.args.count - 1) = omega arith in
    append-spell_more decimals-Spells c.args.count (c.args.count - 1) c.args.number _ c.args.text.now c.append_decimals.new.text _ one_more c.append_decimals.ensures.text refl c.append.ensures
