-- What a contract sees of items in the order in which they came.
use Rattle.std.specs.Coded.{code_by, Coded, coded_list, coded_ℕ, coded×}
use Rattle.std.specs.Prelude.{List, refl, ℕ}

-- the items, the first in front, and how many have room
pub record Queued (T : Type 0) : Type 0 where
  pub items : List T
  pub room : ℕ

-- how they are coded as a list of numbers, which a model says of a type with parameters
abbrev pub queued_code : {T : Type 0} → Coded T → Coded (Queued T)
queued_code {T} t = code_by (List T × ℕ)
    (coded× (coded_list t) coded_ℕ)
    (λ q. (q.items, q.room))
    (λ p. record { items = p.0; room = p.1 })
    (λ _. refl)
