use Rattle.std.proofs.Common.{◌++◌, ◌∙◌, ap, List, ℕ}
use Rattle.q_notice.proofs.NoticeLengths.{head_within}
use Rattle.q_notice.proofs.TextPieces.{head-pieces, on_ok}
use Rattle.q_notice.proofs.content.add_head.Goals as goal

pub returns-clause-text : goal.returns-clause-text
returns-clause-text c = on_ok c.add-5.result (λ last. head-pieces c.args.id c.args.sender.now c.args.text.now.items c.add.new.text.items c.add-2.new.text.items c.add-3.new.text.items c.add-4.new.text.items c.add-5.new.text.items
    c.in_ok-add.ensures (c.in_ok-add-2.ensures ∙ ap (λ (x : List ℕ). c.add.new.text.items ++ x) c.bytes.ensures.same) c.in_ok-add-3.ensures
    (c.in_ok-add-4.ensures ∙ ap (λ (x : List ℕ). c.add-3.new.text.items ++ x) (c.bytes-2.ensures.same ∙ c.id_name.ensures)) last) c.add-5.ensures

pub returns-clause-short : goal.returns-clause-short
returns-clause-short c = on_ok c.add-5.result (λ last. head_within c.args.id c.args.sender.now c.args.text.now.items c.add-5.new.text.items c.bytes.ensures.form (head-pieces c.args.id c.args.sender.now c.args.text.now.items c.add.new.text.items c.add-2.new.text.items c.add-3.new.text.items c.add-4.new.text.items c.add-5.new.text.items
    c.in_ok-add.ensures (c.in_ok-add-2.ensures ∙ ap (λ (x : List ℕ). c.add.new.text.items ++ x) c.bytes.ensures.same) c.in_ok-add-3.ensures
    (c.in_ok-add-4.ensures ∙ ap (λ (x : List ℕ). c.add-3.new.text.items ++ x) (c.bytes-2.ensures.same ∙ c.id_name.ensures)) last)) c.add-5.ensures
