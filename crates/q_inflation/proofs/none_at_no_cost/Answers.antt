use Rattle.q_inflation.proofs.Inflation.{run_none}
use Rattle.q_inflation.proofs.none_at_no_cost.Goals as goal

pub returns : goal.returns
returns c = λ call m id before since fits h free t. run_none call.world call.mode call.book call.items fits.usable fits.distinct fits.orderly fits.fits before id since h.later h.entries free t
