use Rattle.q_model.proofs.PaddedLaws.{IsPadded-appended}
use Rattle.q_model.proofs.padded.Padded.append.Goals as goal

pub invariant_of-self : goal.invariant_of-self
invariant_of-self g c = IsPadded-appended g.row.N _ _ c.args.bytes.now _ c.args.self.now c.self.invariant c.self.view_is c.requires c.write_at.ensures
