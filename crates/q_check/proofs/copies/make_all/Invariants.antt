use Rattle.std.proofs.Common.{IsTrue, take}
use Rattle.q_check.specs.Copies.{AddsNames}
use Rattle.q_check.proofs.copies.make_all.Given as goal

abbrev pub invariant-loop-name : goal.invariant-loop-name
invariant-loop-name g l = record {
  adds : IsTrue g.M.Host.tells → AddsNames l.area (take l.name-index l.names) (g.M.Host.view l.fn.copy).files (g.M.Host.view l.copy).files;
}
