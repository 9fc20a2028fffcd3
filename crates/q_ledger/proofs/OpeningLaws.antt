-- The ledger before the first life, on an empty spool.
use Rattle.std.proofs.Common.{◌≡◌, ℕ, ◌+◌, ◌-◌, ◌<◌, ◌^◌, true, [], length, replicate, zero, suc, refl, ap, ◌∙◌, arith, None, eq-eqb, lt-ltb}
use Rattle.std.specs.Prelude.{◌&&◌, nat_lt}
use Rattle.q_bare.specs.Bare.{bare}
use Rattle.q_bare.specs.CountedRows.{may_by}
use Rattle.q_bare.specs.Counts.{counts_of}
use Rattle.q_fronts.specs.Fitting.{IsFitting}
use Rattle.q_fronts.specs.Fronts.{empty_at}
use Rattle.q_laws.specs.Consistency.{IsBookConsistent, IsMemoryConsistent, IsUsable}
use Rattle.q_laws.specs.SitesConsistency.{IsOpen}
use Rattle.q_ledger.specs.Empty.{empty_ledger}
use Rattle.q_ledger.specs.Beside.{IsBeside, IsOfLedger}
use Rattle.q_ledger.proofs.ListLaws.{length-numbered}
use Rattle.q_ledger.specs.Ruling.{HasLines}
use Rattle.q_model.specs.Ledger.{opening}
use Rattle.q_model.specs.Settings.{World}
use Rattle.q_model.specs.Step.{after}
use Rattle.q_model.specs.declared.entry.Entry.TheVariants as entries
use Rattle.q_model.specs.declared.event.Mode.{Mode}

book_fits : (g : ℕ) → IsBookConsistent (empty_ledger g)
book_fits g = record { distinct = refl; orderly = refl; firm = refl; come = refl }

memory_fits : (w : World) (g : ℕ) → IsMemoryConsistent w (empty_ledger g)
memory_fits w g = record {
  admitted = refl;
  present = refl;
  within = refl;
  waiting = refl;
  filled = refl;
  flights = refl;
  unsettled = refl;
  remembered = λ a m h there. absurd cc;
  numbers = refl;
  begun = refl;
  single = refl;
  lines = refl;
  fresh = λ id transport unread away. (refl, refl);
  synced = refl;
  synced_next = λ id left there. absurd cc;
  messages = omega arith;
  recipients = omega arith;
}

pub opening_fits : (w : World) (g : ℕ) → IsUsable w → IsOpen w → IsFitting w (empty_ledger g)
opening_fits w g usable windows = record {
  consistent = record { usable = usable; book = book_fits g; memory = memory_fits w g };
  sites = record { settings = windows; apart = refl; windows = refl; busy = λ site. omega arith; kept = refl; few = omega arith };
  served = refl;
}

pub opening_of : (w : World) (g : ℕ) → IsUsable w → IsOpen w → IsOfLedger w (counts_of (empty_ledger g)) (empty_ledger g)
opening_of w g usable windows = record { ledger = empty_ledger g; fits = opening_fits w g usable windows; counts = refl; bare_ledger = refl }

-- nothing is kept beside it
pub opening_beside : (g : ℕ) → IsBeside (record { ledger = empty_ledger g; slots = []; leftovers = []; left = None })
opening_beside g = record { counted = record { admitted = refl; slots = refl }; leftovers = refl; left = refl }

next_one : (generation : ℕ) → 0 < generation → generation ≡ generation - 1 + 1
next_one generation h = omega (arith, h)

-- the life of the next generation may begin
pub opening_may : (w : World) (generation : ℕ) (mode : Mode) → 0 < generation → generation < 2 ^ 32 →
    may_by (counts_of (empty_ledger (generation - 1))) w (empty_ledger (generation - 1)) (entries.Life generation mode) ≡ true
opening_may w generation mode some few =
    ap (λ b. b && nat_lt generation (2 ^ 32) && true) (eq-eqb generation (generation - 1 + 1) (next_one generation some))
    ∙ ap (λ b. b && true) (lt-ltb generation (2 ^ 32) few)

-- the mode before it doesn't matter
pub opening_after : (w : World) (g generation : ℕ) (mode : Mode) →
    bare (after w (empty_ledger g) (entries.Life generation mode)) ≡ bare (after w (opening mode (empty_at g)) (entries.Life generation mode))
unfolding after
opening_after w g generation mode = refl

length-replicate : {A : Type 0} (n : ℕ) (x : A) → length (replicate n x) ≡ n
length-replicate zero x = refl
length-replicate (suc n) x = ap suc (length-replicate n x)

-- each transport has its line
pub opening_lines : (w : World) (g generation : ℕ) (mode : Mode) → HasLines w (bare (after w (empty_ledger g) (entries.Life generation mode)))
unfolding after
opening_lines w g generation mode =
    length-numbered _ 0 (replicate (length w.table.transports) []) ∙ length-replicate (length w.table.transports) []
