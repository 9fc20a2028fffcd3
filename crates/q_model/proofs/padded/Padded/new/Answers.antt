use Rattle.std.proofs.Common.{refl}
use Rattle.q_model.proofs.PaddedLaws.{IsPadded-made}
use Rattle.q_model.proofs.padded.Padded.new.Goals as goal

pub invariant_of-result : goal.invariant_of-result
invariant_of-result g c = IsPadded-made g.row.N _ _ _ _ _ c.copy_from_slice.ensures.after c.requires c.split_at_mut-front.ensures.value c.split_at_mut-front.ensures.front_len refl
