use Rattle.q_top.proofs.Called.{all_serve}
use Rattle.q_top.specs.Promises.{courses}
use Rattle.q_top.proofs.promises.whatever_is_called.Goals as goal

pub returns : goal.returns
returns g c = λ b h cs stands orderly are.
    c.promises_hold.ensures b h (courses cs) stands orderly (all_serve g.H.Host.view (λ x. record { only = g.met.H.Host.only_now x; told = g.met.H.Host.told_stays x }) h cs are)
