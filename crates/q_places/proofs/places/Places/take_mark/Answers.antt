use Rattle.std.proofs.Common.{ap, sym}
use Rattle.std.specs.Prelude.{is_some}
use Rattle.q_places.proofs.KeptLaws.{fewer_marks}
use Rattle.q_places.specs.declared.places.KeptFile.{KeptFile}
use Rattle.q_places.proofs.places.Places.take_mark.Goals as goal

pub returns-in-Some-clause-rest : goal.returns-in-Some-clause-rest
returns-in-Some-clause-rest c =
    let left : KeptFile = record { progress = c.in-Some.file.now.progress; marks = c.remove.new.self } in
    fewer_marks c.args.self.now (record { files = c.get_mut.follows.lender left }) c.args.id c.in-Some.file.now c.remove.new.self c.args.position (sym c.in-Some.ensures.value) c.remove.ensures.updates.0 ((c.get_mut.follows.holds left).3 (ap is_some (sym c.in-Some.ensures.value))).0
