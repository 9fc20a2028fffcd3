-- Keys of lanes that are equal are one and the same.
use Rattle.std.proofs.Common.{◌≡◌, ◌∙◌, ap, refl, true, ℕ}
use Rattle.std.proofs.lemmas.Bool.{and_from, and_parts, eq-eqb, eqb-true}
use Rattle.std.specs.Prelude.{◌==◌}
use Rattle.q_model.proofs.IdLaws.{site_eq-refl, site_eq-true}
use Rattle.q_model.specs.Sites.{site_eq}
use Rattle.q_model.specs.Values.{Site}
use Rattle.q_candidates.specs.declared.lane.LaneKey.{LaneKey}
use Rattle.q_candidates.specs.Filing.{lane_eq}

abbrev key_with : Site → ℕ → LaneKey
key_with site need = record { site = site; need = need }

same_parts : (s t : Site) (m n : ℕ) → s ≡ t → m ≡ n → key_with s m ≡ key_with t n
same_parts s t m n a b = ap (λ x. key_with x m) a ∙ ap (key_with t) b

pub lane_eq-true : (a b : LaneKey) → lane_eq a b ≡ true → a ≡ b
lane_eq-true a b h =
    let parts = and_parts (site_eq a.site b.site) (a.need == b.need) h in
    same_parts a.site b.site a.need b.need (site_eq-true a.site b.site parts.0) (eqb-true a.need b.need parts.1)

pub lane_eq-refl : (a : LaneKey) → lane_eq a a ≡ true
lane_eq-refl a = and_from (site_eq a.site a.site) (a.need == a.need) (site_eq-refl a.site) (eq-eqb a.need a.need refl)
