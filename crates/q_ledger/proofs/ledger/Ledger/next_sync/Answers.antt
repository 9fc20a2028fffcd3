use Rattle.std.proofs.Common.{rules, ◌≡◌, ◌∙◌, false, sym}
use Rattle.q_ledger.proofs.EarlyRules.{no_sync}
use Rattle.q_ledger.specs.Worlds.{world_of}
use Rattle.q_ledger.proofs.ledger.Ledger.next_sync.Goals as goal

pub returns-then-not-has_written : goal.returns-then-not-has_written
returns-then-not-has_written c =
    let none : c.has_written.result ≡ false = search rules in
    λ some. sym (no_sync (world_of c.args.world.now) c.args.self.now some (sym c.has_written.ensures ∙ none))
