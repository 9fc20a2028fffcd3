use Rattle.std.proofs.Common.{List, subst}
use Rattle.q_super.specs.FoundPlaces.{ArePlacesOf}
use Rattle.q_super.specs.declared.standing.Standing.{Standing}
use Rattle.q_super.proofs.FoundPlaces.{placed_finds, placed_sources}
use Rattle.q_super.proofs.indexing.taken_places.Goals as goal

pub returns-clause-sources : goal.returns-clause-sources
returns-clause-sources g c =
    placed_sources c.args.act c.in_ok-found.found.items c.in_ok-places.places c.in_ok-found.ensures.sources
    (subst (λ (ss : List Standing). ArePlacesOf ss c.in_ok-places.places) c.as_slice.ensures.value c.in_ok-places.ensures)

pub returns-clause-finds : goal.returns-clause-finds
returns-clause-finds g c t b h =
    placed_finds (g.H.Host.view c.args.host.now).files b h c.args.act c.in_ok-found.found.items c.in_ok-places.places (c.in_ok-found.ensures.taken t b h)
    (subst (λ (ss : List Standing). ArePlacesOf ss c.in_ok-places.places) c.as_slice.ensures.value c.in_ok-places.ensures)
