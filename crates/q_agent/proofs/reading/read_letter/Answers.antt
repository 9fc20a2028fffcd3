use Rattle.std.proofs.Common.{◌∙◌, ◌<◌, List, Ok, Result, ap, length, sym, subst, ℕ}
use Rattle.std.specs.Prelude.{All, IfOk}
use Rattle.q_message.specs.FileHeads.{IsHead}
use Rattle.q_message.specs.Names.{AreNames}
use Rattle.q_message.specs.Told.{TellsOf}
use Rattle.q_message.specs.declared.error.MessageError.{MessageError}
use Rattle.q_model.specs.Values.{FileHead, Receiver}
use Rattle.q_agent.proofs.ReadingLaws.{all_below, count_says, letter_of, no_fault, read_none, read_some, says}
use Rattle.q_agent.proofs.reading.read_letter.Goals as goal

pub returns-in_default-clause-none : goal.returns-in_default-clause-none
returns-in_default-clause-none g c t =
    let v = g.H.Host.view c.args.host.now in
    let s = c.args.spot in
    let none = read_none c.read_head.result (sym c.readable.ensures ∙ c.in_ok-file.was ∙ ap Ok c.in_default.is) in
    let there = c.requires.there t in
    no_fault (v.files s.area s.name) there.0 none.0 (says (v.files s.area s.name) there.0 (there.1 t)) (c.read_head.ensures.no_message none.0 none.1 t)

pub returns-then-not-are_below-clause-none : goal.returns-then-not-are_below-clause-none
returns-then-not-are_below-clause-none g c t =
    let v = g.H.Host.view c.args.host.now in
    let s = c.args.spot in
    let file = c.in-Some.file in
    let head_read = read_some c.read_head.result file (sym c.readable.ensures ∙ c.in_ok-file.was ∙ ap Ok c.in-Some.is) in
    let head = subst (λ (r : Result FileHead MessageError). IfOk r (λ (h : FileHead). TellsOf g.H.Host.tells v s (IsHead h))) head_read c.read_head.ensures.head in
    let there = c.requires.there t in
    let count = ap (λ (h : FileHead). h.recipients) c.file.view_is ∙ count_says (v.files s.area s.name) there.0 file (says (v.files s.area s.name) there.0 (there.1 t)) (head t) in
    let below = all_below (length there.0.addresses) c.file.inside.recipients c.args.positions.now count there.2 in
    let holds = c.are_below.ensures.1 (subst (λ (ps : List ℕ). All (λ (p : ℕ). p < c.file.inside.recipients) ps) (sym c.as_slice.ensures) below) in
    let never = sym holds ∙ c.if-not-are_below.true in
    absurd cc

pub returns-clause-letter : goal.returns-clause-letter
returns-clause-letter g c =
    let v = g.H.Host.view c.args.host.now in
    let w = g.H.Host.view c.read_head.new.host in
    let s = c.args.spot in
    let file = c.in-Some.file in
    let to = c.in-Some-2.to in
    let head_read = read_some c.read_head.result file (sym c.readable.ensures ∙ c.in_ok-file.was ∙ ap Ok c.in-Some.is) in
    let names_read = read_some c.read_names.result to (sym c.readable-2.ensures ∙ c.in_ok-to.was ∙ ap Ok c.in-Some-2.is) in
    let head = subst (λ (r : Result FileHead MessageError). IfOk r (λ (h : FileHead). TellsOf g.H.Host.tells v s (IsHead h))) head_read c.read_head.ensures.head in
    let names = subst (λ (r : Result (List Receiver) MessageError). IfOk r (λ (names : List Receiver). TellsOf g.H.Host.tells w s (AreNames c.args.positions.now names))) names_read c.read_names.ensures.names in
    letter_of g.H.Host.tells v w s c.args.positions.now file to head c.read_head.ensures.stays names (sym c.len.ensures ∙ c.if-len.false ∙ c.len-2.ensures)
