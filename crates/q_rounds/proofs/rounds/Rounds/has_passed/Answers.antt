use Rattle.std.proofs.Common.{◌∙◌, ap}
use Rattle.std.specs.List.{list_any}
use Rattle.std.specs.Prelude.{nat_lt}
use Rattle.q_keyed.specs.Numbered.{Items, values_of}
use Rattle.q_rounds.specs.declared.peer.Peer.{Peer}
use Rattle.q_rounds.specs.Rounds.{is_passed}
use Rattle.q_rounds.proofs.Bounds.{any_passed}
use Rattle.q_rounds.proofs.rounds.Rounds.has_passed.Goals as goal

pub returns : goal.returns
returns c =
    ap (nat_lt 0) c.self.invariant.passes ∙ any_passed (values_of c.self.inside.peers.items)
    ∙ ap (λ (v : Items Peer). list_any is_passed (values_of v.items)) c.self.view_is
