-- How a peer may be put in the place of another.
use Rattle.std.specs.Prelude.{◌≡◌}
use Rattle.q_rounds.specs.declared.peer.Peer.{Peer}

-- it is of the same message and site, and was last sent to with the same number
pub record IsOfSame (p q : Peer) : Type 0 where
  pub id : q.id ≡ p.id
  pub site : q.site ≡ p.site
  pub last : q.last ≡ p.last
