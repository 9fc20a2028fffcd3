-- The buckets in which the numbers of rows are kept, by message and site, and by site.
use Rattle.std.specs.List.{fold}
use Rattle.std.specs.Prelude.{◌%◌, ◌*◌, ◌+◌, ℕ}
use Rattle.q_model.specs.declared.id.Id.{Id}
use Rattle.q_model.specs.declared.rows.Row.{Row}
use Rattle.q_model.specs.Values.{Site}

-- a hash with a byte more
abbrev pub hash_with : ℕ → ℕ → ℕ
hash_with hash byte = (hash * 31 + byte) % 2147483647

-- the hash of the transport and the next hop
abbrev pub site_hash : Site → ℕ
site_hash site = fold hash_with site.transport site.hop

-- a number that is taken from a message and a site
abbrev pub peer_hash : Id → Site → ℕ
peer_hash id site = (site_hash site * 31 + id.serial) % 2147483647

-- what the bucket of a row is taken from
abbrev pub peer_key : Row → ℕ
peer_key r = peer_hash r.id r.site

abbrev pub site_key : Row → ℕ
site_key r = site_hash r.site
