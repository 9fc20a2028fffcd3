use Rattle.std.proofs.Common.{◌≡◌, Some, drop, ap, rules, sym, ◌∙◌}
use Rattle.q_stream.specs.Script.{Script}
use Rattle.q_stream.proofs.Pieces.{front_taken}
use Rattle.q_stream.proofs.memory.MemSourceSource.take.Goals as goal

pub returns-clause-bytes : goal.returns-clause-bytes
returns-clause-bytes c =
    let same : c.args.self.now.rest ≡ drop c.self.inside.at c.self.inside.bytes.items = sym (ap (λ (s : Script). s.rest) c.self.view_is) in
    (search rules, search rules, ap Some (same ∙ front_taken c.self.inside.bytes.items c.copy_front-count.new.to c.self.inside.at c.copy_front-count.result (search rules)))
