use Rattle.std.proofs.Common.{◌++◌, ◌∙◌, ◌≤◌, ◌+◌, ◌*◌, ap, length, List, subst, sym, ℕ}
use Rattle.q_model.specs.Values.{Receiver}
use Rattle.q_model.specs.declared.outcome.Failure.{Failure}
use Rattle.q_notice.specs.NoticeTexts.{head_lines, named_failures, size_lines}
use Rattle.q_notice.proofs.NoticeLengths.{notice_fits}
use Rattle.q_notice.proofs.TextPieces.{built, notice-is}
use Rattle.q_notice.proofs.content.notice.Goals as goal

pub returns-clause-notice : goal.returns-clause-notice
returns-clause-notice c m told =
    c.from_vec.ensures
    ∙ built (head_lines c.args.id c.args.sender.now) (named_failures c.args.failures.now c.args.names.now) (size_lines c.args.size) c.args.front.now
    c.new-text.result.items c.add_head.new.text.items c.add_failures.new.text.items c.add_size.new.text.items c.add.new.text.items
    c.new-text.ensures.items c.in_ok-add_head.ensures.text
    (c.in_ok-add_failures.ensures.text ∙ ap (λ (fs : List Failure). c.add_head.new.text.items ++ named_failures fs c.as_slice-2.result.now) c.as_slice.ensures
    ∙ ap (λ (ns : List Receiver). c.add_head.new.text.items ++ named_failures c.args.failures.now ns) c.as_slice-2.ensures)
    c.in_ok-add_size.ensures.text c.in_ok-add.ensures
    ∙ notice-is m c.args.id c.args.sender.now c.args.failures.now c.args.names.now c.args.size c.args.front.now told

pub returns-clause-room : goal.returns-clause-room
returns-clause-room c few =
    let named = subst (λ (fs : List Failure). length c.add_failures.new.text.items ≤ length c.add_head.new.text.items + 541 * length fs) c.as_slice.ensures c.in_ok-add_failures.ensures.short in
    subst (λ (x : List ℕ). length x ≤ 40000000) (sym c.from_vec.ensures)
    (notice_fits (length c.args.failures.now) c.new-text.result.items c.add_head.new.text.items c.add_failures.new.text.items c.add_size.new.text.items c.add.new.text.items c.args.front.now
    c.new-text.ensures.items c.in_ok-add_head.ensures.short named c.in_ok-add_size.ensures.short c.in_ok-add.ensures c.requires.short few)
