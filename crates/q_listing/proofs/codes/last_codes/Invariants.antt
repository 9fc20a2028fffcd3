use Rattle.std.proofs.Common.{◌≡◌, ℕ, take}
use Rattle.std.specs.BTreeMap.{get}
use Rattle.std.specs.Ordering.{nat_cmp}
use Rattle.q_listing.specs.Listings.{last_code}
use Rattle.q_listing.proofs.codes.last_codes.Given as goal

abbrev pub invariant-loop-note : goal.invariant-loop-note
invariant-loop-note l = (position : ℕ) → get nat_cmp l.codes position ≡ last_code (take l.note-index l.notes) position
