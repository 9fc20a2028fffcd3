-- The names so far rise, and still do with any name after the last of them.
use Rattle.std.proofs.Common.{◌≤◌, ◌∷◌, ◌++◌, [], ℕ, List, length}
use Rattle.q_host.specs.Reads.{IsAfter, Rise}
use Rattle.q_folder_host.proofs.names.list_names.Given as goal

abbrev pub invariant-loop-name : goal.invariant-loop-name
invariant-loop-name l = record {
  rise : Rise l.fn.after l.out;
  further : (n : List ℕ) → IsAfter l.last n → Rise l.fn.after (l.out ++ n ∷ []);
  few : length l.out ≤ 64;
}
