-- The files of a book in the order of areas and names, and those of them that an act takes.
use Rattle.std.specs.Cmp.Lexicographic.{slice_cmp}
use Rattle.std.specs.Ordering.{is_lt, nat_cmp, ordering_then}
use Rattle.std.specs.declared.cmp.Ordering.{Ordering}
use Rattle.std.specs.Prelude.{◌++◌, Bool, filter, List, map, ℕ}
use Rattle.q_host.specs.Files.{area_number}
use Rattle.q_model.specs.Book.{Book, Damaged}
use Rattle.q_model.specs.Message.{Message}
use Rattle.q_model.specs.SpoolFiles.{area_of, name_at}
use Rattle.q_super.specs.declared.acts.Act.{Act}
use Rattle.q_super.specs.declared.standing.Standing.{Standing}
use Rattle.q_super.specs.Acts.{takes}
use Rattle.q_walk.specs.Orders.{in_order}

-- the file of a message, and a damaged file
abbrev pub of_message : Message → Standing
of_message m = record { id = m.id; place = m.place }

abbrev pub of_damaged : Damaged → Standing
of_damaged d = record { id = d.id; place = d.place }

-- all files of a book
abbrev pub standings : Book → List Standing
standings b = map of_message b.messages ++ map of_damaged b.damaged

-- the name of a file
abbrev pub file_name : Standing → List ℕ
file_name s = name_at s.place s.id

-- the order of the areas incoming, deferred and hold, and in each that of the names' bytes
abbrev pub standing_cmp : Standing → Standing → Ordering
standing_cmp s t =
    ordering_then (nat_cmp (area_number (area_of s.place)) (area_number (area_of t.place)))
    (slice_cmp nat_cmp (file_name s) (file_name t))

abbrev pub comes_before : Standing → Standing → Bool
comes_before s t = is_lt (standing_cmp s t)

-- the files that the act takes, in this order
abbrev pub taken : Act → Book → List Standing
taken act b = in_order comes_before (filter (λ s. takes act s.place) (standings b))
