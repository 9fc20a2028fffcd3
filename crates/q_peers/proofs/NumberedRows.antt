-- Worked rows of what calls find, and of the hash of a site.
use Rattle.std.proofs.Common.{◌≡◌, ◌∷◌, [], false, List, None, refl, Some, ℕ}
use Rattle.q_model.specs.declared.id.Id.{Id}
use Rattle.q_model.specs.declared.rows.Row.{Row}
use Rattle.q_model.specs.Values.{Site}
use Rattle.q_peers.specs.Buckets.{site_hash}
use Rattle.q_peers.specs.Numbered.{any_row, first_such, is_at, is_for, is_of, next_such, Numbered, row_at}

abbrev id : ℕ → Id
id serial = record { generation = 1; serial = serial; bounce = false }

abbrev site : ℕ → Site
site transport = record { transport = transport; hop = 97 ∷ [] }

abbrev row : ℕ → ℕ → Row
row serial transport = record { id = id serial; site = site transport; positions = [] }

abbrev numbered : ℕ → Row → Numbered
numbered n r = record { number = n; row = r }

abbrev waiting : List Numbered
waiting = numbered 4 (row 1 1) ∷ numbered 0 (row 5 2) ∷ numbered 2 (row 1 2) ∷ numbered 3 (row 1 2) ∷ []

rows : (row_at 0 waiting ≡ Some (row 5 2)) × (row_at 1 waiting ≡ None)
rows = (refl, refl)

firsts : (first_such any_row waiting ≡ Some 4) × (first_such (is_of (id 5)) waiting ≡ Some 0) × (first_such (is_at (site 2)) waiting ≡ Some 0)
firsts = (refl, refl, refl)

first_of_both : (first_such (is_for (id 1) (site 2)) waiting ≡ Some 2) × (first_such (is_for (id 5) (site 1)) waiting ≡ None)
first_of_both = (refl, refl)

nexts : (next_such (λ r. any_row) 4 waiting ≡ Some 0) × (next_such (λ r. is_of r.id) 4 waiting ≡ Some 2) × (next_such (λ r. is_at r.site) 0 waiting ≡ Some 2)
nexts = (refl, refl, refl)

no_nexts : (next_such (λ r. any_row) 3 waiting ≡ None) × (next_such (λ r. is_of r.id) 0 waiting ≡ None) × (next_such (λ r. any_row) 1 waiting ≡ None)
no_nexts = (refl, refl, refl)

hash : site_hash (site 1) ≡ 128
hash = refl
