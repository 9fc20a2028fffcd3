use Rattle.std.proofs.Common.{◌≡◌, ◌+◌, ◌≤◌, length, map}
use Rattle.q_model.specs.Texts.{lower}
use Rattle.q_conf_texts.specs.Lines.{first_line_with}
use Rattle.q_conf_texts.specs.Routes.{entry_in}
use Rattle.q_conf_texts.proofs.FoundLaws.{found_from}
use Rattle.q_conf_texts.proofs.routes.line_of.Given as goal

-- what is found in the lines that are left is what is found in all
abbrev pub invariant-loop-rest : goal.invariant-loop-rest
invariant-loop-rest l = record {
  found : found_from (entry_in (map lower l.pattern)) (l.number + 1) l.rest ≡ first_line_with (entry_in (map lower l.pattern)) l.bytes;
  few : l.number + length l.rest ≤ length l.bytes;
}

abbrev pub decreases-loop-rest : goal.decreases-loop-rest
decreases-loop-rest l = length l.rest
