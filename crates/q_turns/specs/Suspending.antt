-- Which lanes are walked along: those of sites that aren't suspended.
use Rattle.std.specs.List.{AllByRecursion, list_any}
use Rattle.std.specs.Prelude.{◌≡◌, ◌*◌, ◌+◌, ◌++◌, ◌/◌, [], ◌∷◌, Bool, false, if◌then◌else◌, length, List, nat_lt, None, Option, set, Some, true, ℕ}
use Rattle.q_candidates.specs.Suspending.{is_in}
use Rattle.q_dest.specs.declared.dest.Dest.{Dest}
use Rattle.q_model.specs.Values.{Site}
use Rattle.q_rounds.specs.Rounds.{has_space_at}
use Rattle.q_suspended.specs.Suspensions.{is_at}
use Rattle.q_suspended.specs.declared.suspension.Suspension.{Suspension}

-- each transport has two classes of lanes: those that are walked along, and the suspended ones
abbrev pub class_in : Bool → ℕ → ℕ
class_in suspended transport = if suspended then transport * 2 + 1 else transport * 2

-- the transport of a class
abbrev pub transport_of : ℕ → ℕ
transport_of class = class / 2

-- the class of a site's lane
abbrev pub class_at : List Suspension → Site → ℕ
class_at suspended site = class_in (list_any (is_at site) suspended) site.transport

-- the lane of this number is of another class, where there is one
abbrev pub classed_at : Option ℕ → ℕ → List ℕ → List ℕ
classed_at None class classes = classes
classed_at (Some lane) class classes = set classes lane class

-- one site more is suspended, where there is room
abbrev pub suspended_with : ℕ → Suspension → List Suspension → List Suspension
suspended_with room s suspended =
    if nat_lt (length suspended) room then suspended ++ s ∷ [] else suspended

-- each site among the candidates that is suspended is one of them
abbrev pub AreTied : List Suspension → List Site → Type 0
AreTied suspended sites = (s : Site) → is_in s sites ≡ true → list_any (is_at s) suspended ≡ true

-- none of them has space
abbrev pub HaveNoSpace : List Dest → List Suspension → Type 0
HaveNoSpace ds suspended = AllByRecursion (λ s. has_space_at ds s.site ≡ false) suspended
