-- What was counted, and how much of it there is.
use Rattle.std.specs.Prelude.{◌∷◌, [], bytes_eq, filter, List, not, sum_by, ℕ}
use Rattle.q_shape.specs.declared.options.ShapeOptions.{ShapeOptions}
use Rattle.q_shape.specs.Buckets.{is_in}

-- a domain, an age in seconds, and how many
abbrev pub Count : Type 0
Count = List ℕ × ℕ × ℕ

-- how many there are
abbrev pub total : List Count → ℕ
total cs = sum_by (λ c. c.2) cs

-- those of a domain
abbrev pub of_domain : List ℕ → List Count → List Count
of_domain name cs = filter (λ c. bytes_eq c.0 name) cs

-- those of a bucket
abbrev pub in_bucket : ShapeOptions → ℕ → List Count → List Count
in_bucket o i cs = filter (λ c. is_in o i c.1) cs

-- the domains, each once
abbrev pub domains : List Count → List (List ℕ)
domains [] = []
domains (c ∷ cs) = c.0 ∷ filter (λ name. not (bytes_eq c.0 name)) (domains cs)
