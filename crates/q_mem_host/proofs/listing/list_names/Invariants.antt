use Rattle.std.proofs.Common.{◌≡◌, ◌+◌, length}
use Rattle.q_mem_host.proofs.Listings.{AreListed}
use Rattle.q_mem_host.proofs.listing.list_names.Given as goal

-- the names are those of the files so far
abbrev pub invariant-loop-i : goal.invariant-loop-i
invariant-loop-i l = record { listed : AreListed l.files l.i l.area l.fn.after l.out; count : l.start + length l.out ≡ l.i }
