-- Keys of peers that are equal are one and the same.
use Rattle.std.proofs.Common.{◌≡◌, ◌∙◌, ap, Bool, false, refl, true}
use Rattle.std.specs.Prelude.{◌&&◌}
use Rattle.q_model.proofs.IdLaws.{id_eq-refl, id_eq-true, site_eq-refl, site_eq-true}
use Rattle.q_model.specs.declared.id.Id.{Id}
use Rattle.q_model.specs.Ids.{id_eq}
use Rattle.q_model.specs.Sites.{site_eq}
use Rattle.q_model.specs.Values.{Site}
use Rattle.q_rounds.specs.declared.peer.PeerKey.{PeerKey}
use Rattle.q_rounds.specs.Rounds.{key_eq}

left : (a b : Bool) → (a && b) ≡ true → a ≡ true
left true b h = refl
left false b h = h

right : (a b : Bool) → (a && b) ≡ true → b ≡ true
right true b h = h
right false b h = cc

abbrev key_with : Id → Site → PeerKey
key_with id site = record { id = id; site = site }

same_parts : (i j : Id) (s t : Site) → i ≡ j → s ≡ t → key_with i s ≡ key_with j t
same_parts i j s t a b = ap (λ x. key_with x s) a ∙ ap (key_with j) b

pub key_eq-true : (a b : PeerKey) → key_eq a b ≡ true → a ≡ b
key_eq-true a b h =
    same_parts a.id b.id a.site b.site (id_eq-true a.id b.id (left (id_eq a.id b.id) (site_eq a.site b.site) h)) (site_eq-true a.site b.site (right (id_eq a.id b.id) (site_eq a.site b.site) h))

pub key_eq-refl : (a : PeerKey) → key_eq a a ≡ true
key_eq-refl a = ap (λ b. b && site_eq a.site a.site) (id_eq-refl a.id) ∙ site_eq-refl a.site
