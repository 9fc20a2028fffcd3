use Rattle.q_inflation.proofs.Inflation.{run_inflation}
use Rattle.q_inflation.proofs.inflation_is_bounded.Goals as goal

pub returns : goal.returns
returns c = λ call m id before since fits h t. run_inflation call.world call.mode call.book call.items fits.usable fits.distinct fits.orderly fits.fits before id since h.later h.entries m h.message t
