use Rattle.std.proofs.Common.{◌∙◌, sym}
use Rattle.q_model.specs.declared.spot.Area.TheVariants as areas
use Rattle.q_restart.proofs.Clears.{other_name}
use Rattle.q_restart.proofs.GenerationLaws.{next-differs}
use Rattle.q_restart.proofs.raising.raise.Goals as goal

pub rename-requires-clause-differ : goal.rename-requires-clause-differ
rename-requires-clause-differ g c t = other_name areas.Boot c.generation_name.result c.generation_name-next.result (λ same. next-differs c.args.generation c.requires.fits (sym c.generation_name-next.ensures ∙ same ∙ c.generation_name.ensures))
