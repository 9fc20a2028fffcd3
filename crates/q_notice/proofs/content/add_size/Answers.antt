use Rattle.std.proofs.Common.{◌++◌, ◌∙◌, ap, arith, ℕ}
use Rattle.std.specs.Prelude.{decimal}
use Rattle.q_notice.proofs.NoticeLengths.{size_within}
use Rattle.q_notice.proofs.TextPieces.{on_ok, size-pieces}
use Rattle.q_notice.proofs.content.add_size.Goals as goal

pub returns-clause-text : goal.returns-clause-text
returns-clause-text c = on_ok c.add-3.result (λ last. size-pieces c.args.size c.args.text.now.items c.add.new.text.items c.add_number.new.text.items c.add-2.new.text.items c.add_number-2.new.text.items c.add-3.new.text.items
    c.in_ok-add.ensures c.in_ok-add_number.ensures c.in_ok-add-2.ensures
    (c.in_ok-add_number-2.ensures ∙ ap (λ (n : ℕ). c.add-2.new.text.items ++ decimal n) c.front_size-front.ensures) last) c.add-3.ensures

pub returns-clause-short : goal.returns-clause-short
returns-clause-short c = on_ok c.add-3.result (λ last. size_within c.args.size c.args.text.now.items c.add-3.new.text.items (omega arith) (size-pieces c.args.size c.args.text.now.items c.add.new.text.items c.add_number.new.text.items c.add-2.new.text.items c.add_number-2.new.text.items c.add-3.new.text.items
    c.in_ok-add.ensures c.in_ok-add_number.ensures c.in_ok-add-2.ensures
    (c.in_ok-add_number-2.ensures ∙ ap (λ (n : ℕ). c.add-2.new.text.items ++ decimal n) c.front_size-front.ensures) last)) c.add-3.ensures
