use Rattle.std.proofs.Common.{get_or, subst, take_all}
use Rattle.q_super.specs.FoundPlaces.{ArePlacesOf}
use Rattle.q_super.proofs.FoundPlaces.{placed_more, placed_none}
use Rattle.q_super.proofs.ToldMoves.{no_file, same_default}
use Rattle.q_super.proofs.indexing.places_of.Goals as goal

pub loop-file-init : goal.loop-file-init
loop-file-init c = record { places = placed_none c.new-places.result c.new-places.ensures.empty }

pub loop-file-preserved : goal.loop-file-preserved
loop-file-preserved c =
    let files = c.args.files.now in
    let i = c.loop-file.file-index in
    let file = get_or files i no_file in
    record {
      places = placed_more files i file c.loop-file-test.true (same_default files i no_file file c.loop-file-test.true) c.loop-file.places c.insert.new.self c.in_ok-insert.ensures.updates c.loop-file.invariant.places;
    }

pub returns : goal.returns
returns c = subst (λ ss. ArePlacesOf ss c.loop-file.places) (take_all c.loop-file.file-index c.args.files.now c.loop-file-test.false) c.loop-file.invariant.places
