-- What is found in a bare ledger.
use Rattle.q_bare.proofs.BookLaws.{message_bare}
use Rattle.q_bare.proofs.MemoryLaws.{idle_bare, leftovers_bare, unread_bare}
use Rattle.q_bare.specs.Laws.{IsFoundBare}
use Rattle.q_model.specs.Ledger.{Ledger}

pub found_bare : (l : Ledger) → IsFoundBare l
found_bare l = record {
  message = message_bare l.book;
  leftovers_same = leftovers_bare l;
  unread = unread_bare l;
  idle = idle_bare l;
}
