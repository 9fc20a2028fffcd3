use Rattle.std.proofs.Common.{◌∙◌, ap, option_map, sym}
use Rattle.std.specs.Option.{option_copied}
use Rattle.q_core.proofs.PoolTies.{slot_found}
use Rattle.q_pool.specs.declared.kept.Kept.{Kept}
use Rattle.q_core.proofs.tidy.slot.Goals as goal

pub returns-in-Some : goal.returns-in-Some
returns-in-Some c = ap (option_map (λ (k : Kept). k.slot)) (ap option_copied (sym c.in-Some.is) ∙ c.get.ensures) ∙ slot_found c.args.id c.args.admitted.now.items

pub returns-in-None : goal.returns-in-None
returns-in-None c = ap (option_map (λ (k : Kept). k.slot)) (ap option_copied (sym c.in-None.is) ∙ c.get.ensures) ∙ slot_found c.args.id c.args.admitted.now.items
