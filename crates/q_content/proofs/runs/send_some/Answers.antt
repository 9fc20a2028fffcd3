use Rattle.std.proofs.Common.{◌∙◌, ◌+◌, ◌++◌, ap, length, List, sym, take, ℕ}
use Rattle.q_content.proofs.RunLaws.{first_byte}
use Rattle.q_content.proofs.runs.send_some.Goals as goal

pub returns-clause-line : goal.returns-clause-line
returns-clause-line c = c.line_behind.ensures c.args.line ∙ sym (first_byte c.args.line c.args.rest.now c.requires.some).line

pub returns-clause-count : goal.returns-clause-count
returns-clause-count c = c.send_byte.ensures.count ∙ ap (λ (x : List ℕ). c.args.count + length x) (sym (first_byte c.args.line c.args.rest.now c.requires.some).sent)

pub returns-clause-bytes : goal.returns-clause-bytes
returns-clause-bytes c = c.send_byte.ensures.bytes ∙ ap (λ (x : List ℕ). take c.args.count c.args.out.now ++ x) (sym (first_byte c.args.line c.args.rest.now c.requires.some).sent)
