-- A life begins: nothing is known but the book.
use Rattle.std.proofs.Common.{◌≡◌, ℕ, ◌+◌, zero, suc, true, List, [], length, map, not, replicate, refl, sym, ap, ◌∙◌}
use Rattle.q_bare.specs.Bare.{bare, bare_message}
use Rattle.q_bare.specs.Counts.{Counts}
use Rattle.q_ledger.proofs.HeldLaws.{held_firm, held_messages}
use Rattle.q_ledger.proofs.ListLaws.{filter_each}
use Rattle.q_ledger.proofs.QuietLaws.{all_stay, left_tidy}
use Rattle.q_ledger.specs.Beside.{IsOfLedger}
use Rattle.q_ledger.specs.Changed.{begun}
use Rattle.q_ledger.specs.State.{State}
use Rattle.q_ledger.specs.Taking.{IsChanged}
use Rattle.q_model.specs.declared.entry.Entry.TheVariants as entries
use Rattle.q_model.specs.declared.event.Mode.{Mode}
use Rattle.q_model.specs.declared.id.Id.{Id}
use Rattle.q_model.specs.Book.{ids_at}
use Rattle.q_model.specs.Ledger.{Ledger}
use Rattle.q_model.specs.Lives.{after_life, firm_failures}
use Rattle.q_model.specs.Memory.{is_admitted}
use Rattle.q_model.specs.Message.{Message}
use Rattle.q_model.specs.Places.{is_active}
use Rattle.q_model.specs.Settings.{World}

-- no job stands in lines without a job
empty_stay : (l : Ledger) (n k : ℕ) → all_stay l n (replicate k []) ≡ true
empty_stay l n zero = refl
empty_stay l n (suc k) = empty_stay l (n + 1) k

-- for each book of bare messages whose failures are firm
pub begun_law : (w : World) (s : State) (generation : ℕ) (mode : Mode) → map bare_message s.ledger.book.messages ≡ s.ledger.book.messages → map firm_failures s.ledger.book.messages ≡ s.ledger.book.messages →
    IsChanged w s.ledger (entries.Life generation mode) (begun w generation mode s)
begun_law w s generation mode messages firm =
    let b = s.ledger in
    let t = begun w generation mode s in
    let l = t.ledger in
    let with_messages : List Message → Ledger = λ ms. record l { book = record l.book { messages = ms } } in
    let same : bare (after_life w b generation mode) ≡ l = ap (λ (ms : List Message). with_messages (map bare_message ms)) firm ∙ ap with_messages messages in
    record {
      ledger = left_tidy (after_life w b generation mode) l same (record { lines = empty_stay l 0 (length w.table.transports); served = refl });
      counted = record { admitted = refl; slots = refl };
      leftovers = sym (filter_each (λ (id : Id). not (is_admitted l id)) (λ id. refl) (ids_at is_active b.book));
      left = refl;
    }

pub life_law : (w : World) (c : Counts) (s : State) (generation : ℕ) (mode : Mode) → IsOfLedger w c s.ledger → IsChanged w s.ledger (entries.Life generation mode) (begun w generation mode s)
life_law w c s generation mode held = begun_law w s generation mode (held_messages w c s.ledger held) (held_firm w c s.ledger held)
