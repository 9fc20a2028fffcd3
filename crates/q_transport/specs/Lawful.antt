-- What every transport table keeps.
use Rattle.std.specs.Prelude.{◌≡◌, ◌<◌, length, List, true, ℕ}
use Rattle.q_model.specs.Settings.{Table}
use Rattle.q_model.specs.Text.{transport_text}
use Rattle.q_model.specs.Texts.{is_address, is_hop}
use Rattle.q_transport.specs.Names.{number_of}
use Rattle.q_transport.specs.Texts.{is_transport}

-- Each transport has a name of its form, which is a next hop's too, and which no other has; each address
-- goes to one of the transports, at a next hop.
pub record IsLawful (table : Table) : Type 0 where
  pub names : (n : ℕ) → n < length table.transports → is_transport (transport_text table n) ≡ true
  pub words : (n : ℕ) → n < length table.transports → is_hop (transport_text table n) ≡ true
  pub numbers : (n : ℕ) → n < length table.transports
      → number_of table.transports (transport_text table n) ≡ n
  pub routed : (address : List ℕ) → (table.route address).transport < length table.transports
  pub hops : (address : List ℕ) → is_address address ≡ true → is_hop (table.route address).hop ≡ true
