-- An opening makes of a book what the entry `life` makes of it.
use Rattle.std.proofs.Common.{◌≡◌, ◌+◌, refl}
use Rattle.q_model.specs.declared.event.Mode.{Mode}
use Rattle.q_model.specs.Ledger.{Ledger}
use Rattle.q_model.specs.Lives.{after_life}
use Rattle.q_model.specs.Settings.{World}
use Rattle.q_restart.specs.Openings.{begun}

pub after_life-book : (w : World) (l : Ledger) (mode : Mode) → (after_life w l (l.book.generation + 1) mode).book ≡ begun l.book
after_life-book w l mode = refl
