use Rattle.std.proofs.Common.{rules, ◌≡◌, ◌∙◌, false, sym}
use Rattle.q_ledger.proofs.EarlyLaws.{no_process}
use Rattle.q_ledger.specs.Worlds.{world_of}
use Rattle.q_ledger.proofs.ledger.Ledger.current.Goals as goal

pub returns-then-not-has_process : goal.returns-then-not-has_process
returns-then-not-has_process c =
    let none : c.has_process.result ≡ false = search rules in
    sym (no_process (world_of c.args.world.now) c.args.self.now.ledger c.args.transport (sym c.has_process.ensures ∙ none))
