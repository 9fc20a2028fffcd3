use Rattle.std.proofs.Common.{◌≡◌, ◌+◌, ◌≤◌, length}
use Rattle.q_conf_texts.specs.Params.{setting_of, value_in}
use Rattle.q_conf_texts.proofs.FoundLaws.{found_from}
use Rattle.q_conf_texts.proofs.params.setting_of.Given as goal

-- what is found in the lines that are left is what is found in all
abbrev pub invariant-loop-rest : goal.invariant-loop-rest
invariant-loop-rest l = record {
  found : found_from (value_in l.parameter) (l.number + 1) l.rest ≡ setting_of l.parameter l.bytes;
  few : l.number + length l.rest ≤ length l.bytes;
}

abbrev pub decreases-loop-rest : goal.decreases-loop-rest
decreases-loop-rest l = length l.rest
