-- The numbers of each record stay bounded.
use Rattle.std.proofs.Common.{◌++◌, ◌∷◌, [], Bool, cond, false, List, map, true}
use Rattle.std.specs.Prelude.{filter}
use Rattle.q_dest.specs.Dests.{AreBounded, changed_at, is_at}
use Rattle.q_dest.specs.Records.{IsBounded}
use Rattle.q_dest.specs.declared.dest.Dest.{Dest}
use Rattle.q_model.specs.Values.{Site}

pub bounded_more : (ds : List Dest) (d : Dest) → AreBounded ds → IsBounded d.known → AreBounded (ds ++ d ∷ [])
bounded_more [] d h one = (one, tt)
bounded_more (x ∷ xs) d h one = (h.0, bounded_more xs d h.1 one)

left_step : (b : Bool) (d : Dest) (ds : List Dest) → IsBounded d.known → AreBounded ds → AreBounded (cond b (d ∷ ds) ds)
left_step true d ds h hs = (h, hs)
left_step false d ds h hs = hs

pub bounded_left : (p : Dest → Bool) (ds : List Dest) → AreBounded ds → AreBounded (filter p ds)
bounded_left p [] h = h
bounded_left p (d ∷ ds) h = left_step (p d) d (filter p ds) h.0 (bounded_left p ds h.1)

set_step : (b : Bool) (v d : Dest) → IsBounded v.known → IsBounded d.known → IsBounded (cond b v d).known
set_step true v d one h = one
set_step false v d one h = h

pub bounded_set : (site : Site) (v : Dest) (ds : List Dest) → IsBounded v.known → AreBounded ds → AreBounded (map (changed_at site (λ d. v)) ds)
bounded_set site v [] one h = h
bounded_set site v (d ∷ ds) one h = (set_step (is_at site d) v d one h.0, bounded_set site v ds one h.1)
