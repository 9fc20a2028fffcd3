use Rattle.std.proofs.Common.{◌≡◌, ◌∙◌, ap, false, slice_get, sym, true}
use Rattle.q_ledger.proofs.PlaceLaws.{none_here, one_here, passes_at}
use Rattle.q_ledger.specs.Pending.{is_open}
use Rattle.q_ledger.proofs.message.Message.first_pending.Goals as goal

pub returns-then-is_pending : goal.returns-then-is_pending
returns-then-is_pending c =
    let m = c.args.self.now in
    let i = c.loop-position.position in
    let passes : passes_at (is_open m) i (slice_get m.recipients i) ≡ true = sym c.is_pending.ensures ∙ c.if-is_pending.true in
    sym (c.loop-position.invariant ∙ ap (λ ps. slice_get ps 0) (one_here (is_open m) i m.recipients passes))

pub loop-position-preserved : goal.loop-position-preserved
loop-position-preserved c =
    let m = c.args.self.now in
    let i = c.loop-position.position in
    let fails : passes_at (is_open m) i (slice_get m.recipients i) ≡ false = sym c.is_pending.ensures ∙ c.if-is_pending.false in
    c.loop-position.invariant ∙ ap (λ ps. slice_get ps 0) (none_here (is_open m) i m.recipients fails)
