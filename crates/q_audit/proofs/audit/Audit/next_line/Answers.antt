use Rattle.std.proofs.Common.{◌≡◌, ◌+◌, ◌-◌, ◌^◌, ◌∙◌, ◌∷◌, [], ap, arith, min, subst, ℕ}
use Rattle.q_audit.proofs.EndLaws.{at_end, at_fault, line_refused, on_refusal, read_more, short_part, too_long}
use Rattle.q_audit.specs.Reading.{AuditState}
use Rattle.q_lines.specs.LineReadings.{GivesNextLine, Spends}
use Rattle.q_lines.specs.TextLines.{unended}
use Rattle.q_lines.specs.declared.line_reader.NextLine.{NextLine}
use Rattle.q_audit.proofs.audit.Audit.next_line.Goals as goal

pub returns-in_err-take_line-in-Line-clause-reads : goal.returns-in_err-take_line-in-Line-clause-reads
returns-in_err-take_line-in-Line-clause-reads g c w start h =
    let left = g.S.Source.left c.args.source.now in
    let left' = g.S.Source.left c.read_line.new.source in
    let gives = subst (λ (x : NextLine). GivesNextLine c.args.reader.now left c.read_line.new.self left' x) c.in-Line.is c.in_ok-line.ensures.line in
    let error = c.in_err-take_line-in-Line.field-0.0 in
    on_refusal w start c.take_line.new.self c.read_line.new.self left' c.from_residual-in_err-take_line-in-Line.result error c.from_residual-in_err-take_line-in-Line.ensures.1
    (line_refused w start c.args.self.now c.args.reader.now c.read_line.new.self left left' c.in-Line.line.items c.take_line.result error h gives c.take_line.ensures.bad c.take_line.ensures.no_source c.take_line.ensures.no_limit c.in_err-take_line-in-Line.was)

pub returns-in-Line-clause-reads : goal.returns-in-Line-clause-reads
returns-in-Line-clause-reads g c w start h =
    let left = g.S.Source.left c.args.source.now in
    let left' = g.S.Source.left c.read_line.new.source in
    let gives = subst (λ (x : NextLine). GivesNextLine c.args.reader.now left c.read_line.new.self left' x) c.in-Line.is c.in_ok-line.ensures.line in
    let spends = subst (λ (x : NextLine). Spends c.args.reader.now c.read_line.new.self x) c.in-Line.is c.in_ok-line.ensures.progress in
    read_more w start c.args.self.now c.take_line.new.self c.args.reader.now c.read_line.new.self left left' c.in-Line.line.items h gives spends.0 spends.1
    (c.in_ok-take_line-in-Line.ensures.reads w h.entries h.reads (omega (arith, h.few)))

pub returns-in-Unended-clause-reads : goal.returns-in-Unended-clause-reads
returns-in-Unended-clause-reads g c w start h =
    let left = g.S.Source.left c.args.source.now in
    let left' = g.S.Source.left c.read_line.new.source in
    let line = c.in-Unended.field-0.items in
    let gives = subst (λ (x : NextLine). GivesNextLine c.args.reader.now left c.read_line.new.self left' x) c.in-Unended.is c.in_ok-line.ensures.line in
    let short = subst (λ (x : NextLine). Spends c.args.reader.now c.read_line.new.self x) c.in-Unended.is c.in_ok-line.ensures.progress in
    at_end w start c.args.self.now c.args.reader.now c.read_line.new.self left left' (unended line ∷ []) h (short_part line short.1) gives

pub returns-in-TooLong-clause-reads : goal.returns-in-TooLong-clause-reads
returns-in-TooLong-clause-reads g c w start h =
    let left = g.S.Source.left c.args.source.now in
    let left' = g.S.Source.left c.read_line.new.source in
    let gives = subst (λ (x : NextLine). GivesNextLine c.args.reader.now left c.read_line.new.self left' x) c.in-TooLong.is c.in_ok-line.ensures.line in
    let here : c.saturating_add.result ≡ min (c.args.self.now.lines + 1) (2 ^ 64 - 1) = c.saturating_add.ensures ∙ ap (λ (n : ℕ). min (n + 1) (2 ^ 64 - 1)) (ap (λ (a : AuditState). a.lines) c.self.view_is) in
    at_fault w start c.args.self.now c.args.reader.now left c.saturating_add.result h here (too_long w.table c.args.reader.now.budget _ gives)

pub returns-clause-reads : goal.returns-clause-reads
returns-clause-reads g c w start h =
    let left = g.S.Source.left c.args.source.now in
    let left' = g.S.Source.left c.read_line.new.source in
    let gives = subst (λ (x : NextLine). GivesNextLine c.args.reader.now left c.read_line.new.self left' x) c.in-End.is c.in_ok-line.ensures.line in
    at_end w start c.args.self.now c.args.reader.now c.read_line.new.self left left' [] h tt gives
