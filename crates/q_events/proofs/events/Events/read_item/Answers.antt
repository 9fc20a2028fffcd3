use Rattle.std.proofs.Common.{◌≡◌, ◌∙◌, ◌++◌, ℕ, List, Some, ap, sym, arith}
use Rattle.std.proofs.lemmas.Result.{err_from_is_err_and}
use Rattle.q_events.specs.EventLines.{meaning_of_line}
use Rattle.q_events.specs.EventList.{content_by}
use Rattle.q_events.specs.States.{EventsState}
use Rattle.q_lines.specs.States.{text_left}
use Rattle.q_events.proofs.ItemForms.{item_in_form}
use Rattle.q_events.proofs.Leading.{bad_line, is_told, line_fails, line_led, told_gives}
use Rattle.q_events.proofs.events.Events.read_item.Goals as goal

pub returns-in_err-text-clause-exact : goal.returns-in_err-text-clause-exact
returns-in_err-text-clause-exact g c =
    let left = g.S.Source.left in
    let p = err_from_is_err_and c.from_residual.result c.from_residual.ensures.1 in
    rw (p.1, p.2)
    (line_fails c.args.self.now c.loop-content.self c.next_line.new.self (text_left c.args.self.now.buffered (left c.args.source.now)) (text_left c.loop-content.self.buffered (left c.loop-content.source))
    (text_left c.next_line.new.self.buffered (left c.next_line.new.source)) (left c.next_line.new.source) c.loop-content.content.items _ c.loop-content.invariant.led c.in_err-text.ensures.line)

pub returns-in_default-clause-exact : goal.returns-in_default-clause-exact
returns-in_default-clause-exact g c =
    let left = g.S.Source.left in
    let lines : c.self.inside.lines ≡ c.next_line.new.self.lines = ap (λ (s : EventsState). s.lines) c.self.view_is in
    let said = sym (ap meaning_of_line c.as_slice.ensures.value) ∙ sym c.in_ok-said.ensures ∙ c.in_default.is in
    rw lines
    (bad_line c.args.self.now c.loop-content.self c.next_line.new.self (text_left c.args.self.now.buffered (left c.args.source.now)) (text_left c.loop-content.self.buffered (left c.loop-content.source))
    (text_left c.next_line.new.self.buffered (left c.next_line.new.source)) c.loop-content.content.items c.in_ok-text.text.items c.loop-content.invariant.led
    c.in_ok-text.ensures.line.1 c.in_ok-text.ensures.line.0 said c.in_ok-text.ensures.count)

pub returns-in-Some-2-clause-exact : goal.returns-in-Some-2-clause-exact
returns-in-Some-2-clause-exact g c =
    let left = g.S.Source.left in
    let lines : c.self.inside.lines ≡ c.next_line.new.self.lines = ap (λ (s : EventsState). s.lines) c.self.view_is in
    let said = sym (ap meaning_of_line c.as_slice.ensures.value) ∙ sym c.in_ok-said.ensures ∙ c.in-Some.is in
    let content = c.in_ok-command.ensures.content ∙ ap (λ (x : List ℕ). c.loop-content.content.items ++ content_by x (Some c.in-Some.said)) c.as_slice-in-loop-content.ensures.value in
    rw (c.ok_or.ensures.value, lines)
    (told_gives c.args.self.now c.loop-content.self c.next_line.new.self (text_left c.args.self.now.buffered (left c.args.source.now)) (text_left c.loop-content.self.buffered (left c.loop-content.source))
    (text_left c.next_line.new.self.buffered (left c.next_line.new.source)) (left c.next_line.new.source) c.loop-content.content.items c.add_line.new.content.items c.in_ok-text.text.items c.in-Some.said c.in-Some-2.command
    c.item.result c.loop-content.invariant.led c.in_ok-text.ensures.line.1 c.in_ok-text.ensures.line.0 said (sym c.in_ok-command.ensures.command ∙ c.in-Some-2.is) content (rw lines at c.item.ensures) c.in_ok-text.ensures.count)

pub returns-in-Some-2-clause-form : goal.returns-in-Some-2-clause-form
returns-in-Some-2-clause-form g c =
    let said = sym (ap meaning_of_line c.as_slice.ensures.value) ∙ sym c.in_ok-said.ensures ∙ c.in-Some.is in
    rw c.ok_or.ensures.value
    (item_in_form c.in_ok-text.text.items c.add_line.new.content.items _ c.in-Some.said c.in-Some-2.command c.item.result _ said (is_told c.in-Some.said c.in-Some-2.command (sym c.in_ok-command.ensures.command ∙ c.in-Some-2.is)) c.item.ensures)

pub loop-content-preserved : goal.loop-content-preserved
loop-content-preserved g c =
    let left = g.S.Source.left in
    let said = sym (ap meaning_of_line c.as_slice.ensures.value) ∙ sym c.in_ok-said.ensures ∙ c.in-Some.is in
    let content = c.in_ok-command.ensures.content ∙ ap (λ (x : List ℕ). c.loop-content.content.items ++ content_by x (Some c.in-Some.said)) c.as_slice-in-loop-content.ensures.value in
    record {
      led = line_led c.args.self.now c.loop-content.self c.next_line.new.self (text_left c.args.self.now.buffered (left c.args.source.now)) (text_left c.loop-content.self.buffered (left c.loop-content.source))
          (text_left c.next_line.new.self.buffered (left c.next_line.new.source)) c.loop-content.content.items c.add_line.new.content.items c.in_ok-text.text.items c.in-Some.said
          c.loop-content.invariant.led c.in_ok-text.ensures.line.1 c.in_ok-text.ensures.line.0 said (sym c.in_ok-command.ensures.command ∙ c.in_default-2.is) content c.in_ok-text.ensures.count;
      going = c.next_line.ensures.going ∙ c.loop-content.invariant.going;
      budget = omega (arith, c.loop-content.invariant.budget, c.in_ok-text.ensures.progress);
      later = omega (arith, c.loop-content.invariant.later, c.in_ok-text.ensures.later);
      faultless = c.in_ok-text.ensures.faultless ∙ c.loop-content.invariant.faultless;
    }
