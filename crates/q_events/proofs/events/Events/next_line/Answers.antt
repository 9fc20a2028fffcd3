use Rattle.std.proofs.Common.{◌≡◌, ap, sym}
use Rattle.q_events.specs.States.{EventsState}
use Rattle.q_lines.specs.States.{text_left}
use Rattle.q_events.proofs.NextLines.{last_at, whole_at}
use Rattle.q_events.proofs.events.Events.next_line.Goals as goal

pub returns-in-Ok-Line-clause-line : goal.returns-in-Ok-Line-clause-line
returns-in-Ok-Line-clause-line g c =
    let left = g.S.Source.left in
    let buffered : c.args.self.now.buffered ≡ c.self.inside.reader.buffered = sym (ap (λ (e : EventsState). e.buffered) c.self.view_is) in
    let budget : c.args.self.now.budget ≡ c.self.inside.reader.budget = sym (ap (λ (e : EventsState). e.budget) c.self.view_is) in
    let gives = rw c.in-Ok-Line.field-0-is at c.in-Ok-Line.ensures.line in
    let spends = rw c.in-Ok-Line.field-0-is at c.in-Ok-Line.ensures.progress in
    rw (buffered, budget)
    (spends.1, whole_at (text_left c.self.inside.reader.buffered (left c.args.source.now)) (text_left c.read_line.new.self.buffered (left c.read_line.new.source)) c.in-Ok-Line.line.items c.self.inside.reader.budget c.read_line.new.self.budget gives)

pub returns-in-Ok-Unended-clause-line : goal.returns-in-Ok-Unended-clause-line
returns-in-Ok-Unended-clause-line g c =
    let left = g.S.Source.left in
    let buffered : c.args.self.now.buffered ≡ c.self.inside.reader.buffered = sym (ap (λ (e : EventsState). e.buffered) c.self.view_is) in
    let budget : c.args.self.now.budget ≡ c.self.inside.reader.budget = sym (ap (λ (e : EventsState). e.budget) c.self.view_is) in
    let gives = rw c.in-Ok-Unended.field-0-is at c.in-Ok-Unended.ensures.line in
    let spends = rw c.in-Ok-Unended.field-0-is at c.in-Ok-Unended.ensures.progress in
    rw (buffered, budget)
    (spends.1, last_at (text_left c.self.inside.reader.buffered (left c.args.source.now)) (text_left c.read_line.new.self.buffered (left c.read_line.new.source)) c.in-Ok-Unended.line.items c.self.inside.reader.budget c.read_line.new.self.budget gives)
