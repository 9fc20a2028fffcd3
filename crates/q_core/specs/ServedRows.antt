-- The served rows of a core, by its peers.
use Rattle.std.specs.Prelude.{[], ◌∷◌, if◌then◌else◌, List, nat_lt}
use Rattle.q_model.specs.Values.{Served}
use Rattle.q_rounds.specs.declared.peer.Peer.{Peer}
use Rattle.q_rounds.specs.Rounds.{is_started}

-- that of a peer
abbrev pub served_row : Peer → Served
served_row p = record { id = p.id; site = p.site; last = p.last }

-- one more of those of which the last one comes first
abbrev pub served_with : Served → List Served → List Served
served_with s [] = s ∷ []
served_with s (t ∷ ts) = if nat_lt t.last s.last then s ∷ t ∷ ts else t ∷ served_with s ts

-- those of all peers that were sent to, the last one first
abbrev pub served_rows : List Peer → List Served
served_rows [] = []
served_rows (p ∷ ps) = if is_started p then served_with (served_row p) (served_rows ps)
    else served_rows ps
