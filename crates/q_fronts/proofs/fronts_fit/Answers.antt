use Rattle.q_fronts.proofs.Fitting.{fits}
use Rattle.q_fronts.proofs.fronts_fit.Goals as goal

pub returns : goal.returns
returns c = fits
