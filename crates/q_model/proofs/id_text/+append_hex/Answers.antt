use Rattle.std.proofs.Common.{◌≡◌, ◌-◌, suc, arith}
use Rattle.q_model.proofs.NumberTexts.{hex-Spells, append-spell_none, append-spell_more}
use Rattle.q_model.proofs.id_text.+append_hex.Goals as goal

pub returns-then-count-eq0-clause-text : goal.returns-then-count-eq0-clause-text
returns-then-count-eq0-clause-text t c = append-spell_none hex-Spells c.args.count c.args.number c.args.text.now c.if-count-eq0.true

pub returns-clause-text : goal.returns-clause-text
returns-clause-text t c =
    let one_more : c.args.count ≡ suc (c.args.count - 1) = omega arith in
    append-spell_more hex-Spells c.args.count (c.args.count - 1) c.args.number _ c.args.text.now c.append_hex.new.text _ one_more c.append_hex.ensures.text c.hex_digit.ensures c.append.ensures
