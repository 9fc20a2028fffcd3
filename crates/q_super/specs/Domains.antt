-- Addresses in a domain.
use Rattle.std.specs.List.{list_any}
use Rattle.std.specs.Prelude.{Bool, bytes_eq, List, map, ℕ}
use Rattle.q_model.specs.Message.{address_at, Message}
use Rattle.q_model.specs.Texts.{domain_of, lower}

-- the address is in the domain, in whatever case (RFC 5321, section 2.4)
abbrev pub is_in_domain : List ℕ → List ℕ → Bool
is_in_domain domain address = bytes_eq (domain_of address) (map lower domain)

-- so is that of one of these positions
abbrev pub has_in_domain : List ℕ → Message → List ℕ → Bool
has_in_domain domain m positions = list_any (λ p. is_in_domain domain (address_at m p)) positions
