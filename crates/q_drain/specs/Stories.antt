-- What a call did: what it told, what its clock gave, and what was done with its hops.
use Rattle.std.specs.Prelude.{◌+◌, ◌++◌, ◌≡◌, [], List, Option, Some, ℕ, ◌∷◌}
use Rattle.q_model.specs.declared.entry.Entry.{Entry}
use Rattle.q_link.specs.Records.{Closed, HopsView, ToldHops}

-- The entries whose lines were told whole, the moments that the clock gave, the connect calls, the
-- next hops of those that `NoMemory` didn't answer, the rests, and the records of links.
pub record Story : Type 0 where
  pub told : List Entry
  pub moments : List ℕ
  pub connects : ℕ
  pub hops : List (List ℕ)
  pub rests : ℕ
  pub records : List Closed

-- the hops told the first before, and tell the second now that this was done since
pub record Did (before now : ToldHops) (s : Story) : Type 0 where
  pub connects : now.connects ≡ before.connects + s.connects
  pub hops : now.hops ≡ before.hops ++ s.hops
  pub rests : now.rests ≡ before.rests + s.rests
  pub records : now.records ≡ before.records ++ s.records

-- Clock and hops tell at the end what this story says; at first the hops told this.
pub record IsStory (clock_before clock_after : Option (List ℕ)) (old new : HopsView) (before : ToldHops) (s : Story) : Type 0 where
  pub clock : (given : List ℕ) × (clock_before ≡ Some given) × (clock_after ≡ Some (given ++ s.moments))
  pub told : old.told ≡ Some before
  pub done : (now : ToldHops) × (new.told ≡ Some now) × Did before now s

-- a connect was made to this next hop
abbrev pub with_request : Story → List ℕ → Story
with_request s hop = record s { connects = s.connects + 1; hops = s.hops ++ hop ∷ [] }
