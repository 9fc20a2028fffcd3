-- The rows of one message to a site, and those of one site, are of one bucket.
use Rattle.std.proofs.Common.{◌≡◌, ◌∙◌, ◌%◌, ap, Bool, false, refl, sym, true, ℕ}
use Rattle.std.proofs.lemmas.Bool.{and_parts, eq-eqb}
use Rattle.std.specs.Prelude.{◌&&◌}
use Rattle.q_model.proofs.IdLaws.{id_eq-true, site_eq-true}
use Rattle.q_model.specs.declared.id.Id.{Id}
use Rattle.q_model.specs.declared.rows.Row.{Row}
use Rattle.q_model.specs.Values.{Site}
use Rattle.q_peers.specs.Buckets.{peer_hash, peer_key, site_hash, site_key}
use Rattle.q_peers.specs.Numbered.{is_at, is_for, is_of}
use Rattle.q_chains.specs.Slots.{is_in_bucket}

pub site_bucket : (site : Site) (room b : ℕ) → b ≡ site_hash site % room → (r : Row) → is_at site r ≡ true → is_in_bucket site_key room b r ≡ true
site_bucket site room b is r h =
    eq-eqb (site_hash r.site % room) b (ap (λ (s : Site). site_hash s % room) (site_eq-true r.site site h) ∙ sym is)

pub bucket_for : (id : Id) (site : Site) (room b : ℕ) → b ≡ peer_hash id site % room → (r : Row) → is_for id site r ≡ true → is_in_bucket peer_key room b r ≡ true
bucket_for id site room b is r h =
    let parts = and_parts (is_of id r) (is_at site r) h in
    eq-eqb (peer_key r % room) b
    (ap (λ (i : Id). peer_hash i r.site % room) (id_eq-true r.id id parts.0) ∙ ap (λ (s : Site). peer_hash id s % room) (site_eq-true r.site site parts.1) ∙ sym is)
