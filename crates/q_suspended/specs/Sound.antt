-- What always holds of the sites that are suspended.
use Rattle.std.specs.Prelude.{map, ℕ}
use Rattle.q_keyed.specs.Numbered.{Items, Numbered}
use Rattle.q_register.specs.Members.{Members}
use Rattle.q_register.specs.declared.member.Member.{Member}
use Rattle.q_suspended.specs.declared.suspension.Suspension.{Suspension}

abbrev pub Numbers : Type 0
Numbers = Members ℕ (Unit {0})

-- the number of a site, at the moment at which it is resumed
abbrev pub number_of : Numbered Suspension → Member ℕ (Unit {0})
number_of k = record { key = k.number; value = tt; rank = k.item.until }

-- the numbers of the sites in one order with them
abbrev pub numbers_of : Items Suspension → Numbers
numbers_of sites = record { items = map number_of sites.items; room = sites.room }
