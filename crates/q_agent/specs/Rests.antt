-- What a rest does to the open sessions.
use Rattle.std.specs.Prelude.{◌++◌, ◌≡◌, List, Option, Some, ◌∷◌}
use Rattle.q_link.specs.Records.{IsRested}
use Rattle.q_link.specs.Views.{View}
use Rattle.q_agent.specs.Sessions.{OpenSession, Sessions, Work}

-- a link was given the rest
pub record RestsWork (old new : Option Work) : Type 0 where
  pub work : Work
  pub link : View
  pub has : old ≡ Some work
  pub link_rested : IsRested work.link link
  pub rest : new ≡ Some (record work { link = link })

-- the same session, whose link was given the rest
pub record IsRestedSession (old new : OpenSession) : Type 0 where
  pub work : RestsWork old.work new.work
  pub rest : new ≡ record old { work = new.work }

-- One open session's link was given the rest.
pub record RestsOne (old new : Sessions) : Type 0 where
  pub before : List OpenSession
  pub behind : List OpenSession
  pub waited : OpenSession
  pub rested : OpenSession
  pub session : IsRestedSession waited rested
  pub sessions : old.listed ≡ before ++ waited ∷ behind
  pub rest : new ≡ record old { listed = before ++ rested ∷ behind }
