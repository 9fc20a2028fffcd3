use Rattle.std.proofs.Common.{◌≡◌, ℕ, ◌<◌, ◌≤◌, get_or, length, if◌then◌else◌}
use Rattle.q_mem_host.specs.Kept.{is_soft}
use Rattle.q_mem_host.proofs.file.rot_bytes.Given as goal

abbrev pub invariant-loop-i : goal.invariant-loop-i
invariant-loop-i l = record {
  done : (k : ℕ) → k < l.i → get_or l.bytes k 0 ≡ (if is_soft l.soft k then l.byte else get_or l.fn.bytes k 0);
  left : (k : ℕ) → l.i ≤ k → get_or l.bytes k 0 ≡ get_or l.fn.bytes k 0;
  long : length l.bytes ≡ length l.fn.bytes;
}
