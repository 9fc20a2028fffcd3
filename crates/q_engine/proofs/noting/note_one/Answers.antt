use Rattle.q_books.proofs.Results.{on_ok}
use Rattle.q_engine.proofs.noting.note_one.Goals as goal

pub returns-then-is_log_code-clause-noted : goal.returns-then-is_log_code-clause-noted
returns-then-is_log_code-clause-noted g c = on_ok c.store_note.result (λ noted t code before has. noted t before has) c.store_note.ensures.noted
