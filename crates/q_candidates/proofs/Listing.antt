-- What calls make of the candidates without their numbers.
use Rattle.std.proofs.Common.{◌≡◌, ◌∙◌, ◌∷◌, ◌++◌, [], ap, cond, List, map, None, not, refl, Some, sym, true, ℕ}
use Rattle.std.proofs.lemmas.List.{map-append}
use Rattle.std.specs.List.{list_any}
use Rattle.std.specs.Option.{is_some}
use Rattle.std.specs.Prelude.{filter, find}
use Rattle.q_keyed.proofs.Values.{find_none, held_item, item_found, keep_none, left_values, none_passes, one_under, put_values}
use Rattle.q_keyed.specs.Numbered.{AreApart, AreKeysApart, first_such, item_at, Numbered, put_at, values_of, without_number}
use Rattle.q_model.proofs.EachLaws.{find-any}
use Rattle.q_model.specs.declared.id.Id.{Id}
use Rattle.q_model.specs.Values.{Site}
use Rattle.q_rounds.specs.declared.peer.PeerKey.{PeerKey}
use Rattle.q_rounds.specs.KeyLaws.{key_eq-true}
use Rattle.q_rounds.specs.Rounds.{key_eq}
use Rattle.q_candidates.specs.declared.candidate.Candidate.{Candidate}
use Rattle.q_candidates.specs.Candidates.{AreApart as AreValuesApart, is_of, key_of, put_in, put_over}

abbrev key_with : Id → Site → PeerKey
key_with id site = record { id = id; site = site }

-- none is found
pub none_of : (id : Id) (site : Site) (ks : List (Numbered Candidate)) → first_such (is_of id site) ks ≡ None → find (is_of id site) (values_of ks) ≡ None
none_of id site ks none = find_none (is_of id site) (values_of ks) (none_passes (is_of id site) ks none)

pub values_apart : (ks : List (Numbered Candidate)) → AreKeysApart key_eq key_of ks → AreValuesApart (values_of ks)
values_apart [] keys = tt
values_apart (k ∷ ks) keys = (none_of k.item.id k.item.site ks keys.0, values_apart ks keys.1)

-- one comes behind all others
pub put_new : (c : Candidate) (n : ℕ) (ks : List (Numbered Candidate)) → first_such (is_of c.id c.site) ks ≡ None → values_of (ks ++ record { number = n; item = c } ∷ []) ≡ put_in c (values_of ks)
put_new c n ks none =
    map-append (λ (k : Numbered Candidate). k.item) ks (record { number = n; item = c } ∷ [])
    ∙ sym (ap (λ b. cond b (map (put_over c) (values_of ks)) (values_of ks ++ c ∷ [])) (sym (find-any (is_of c.id c.site) (values_of ks)) ∙ ap is_some (none_of c.id c.site ks none)))

module _ (id : Id) (site : Site) (n : ℕ) (ks : List (Numbered Candidate)) (apart : AreApart ks) (keys : AreKeysApart key_eq key_of ks) (here : first_such (is_of id site) ks ≡ Some n) where
  pub held : (y : Candidate) × (item_at n ks ≡ Some y) × (is_of id site y ≡ true)
  held = held_item (is_of id site) n ks apart here

  -- one takes the place of another
  pub put_old : (c : Candidate) → c.id ≡ id → c.site ≡ site → values_of (map (put_at n c) ks) ≡ put_in c (values_of ks)
  put_old c a b =
      put_values (is_of id site) (λ x. c) n held.0 c ks apart (one_under key_eq key_of key_eq-true (key_with id site) ks keys) here held.1 refl
      ∙ ap (λ s. map (λ x. cond (is_of id s x) c x) (values_of ks)) (sym b) ∙ ap (λ i. map (λ x. cond (is_of i c.site x) c x) (values_of ks)) (sym a)
      ∙ sym (ap (λ t. cond t (map (put_over c) (values_of ks)) (values_of ks ++ c ∷ [])) there)
    where
      there : list_any (is_of c.id c.site) (values_of ks) ≡ true
      there =
          ap (λ i. list_any (is_of i c.site) (values_of ks)) a ∙ ap (λ s. list_any (is_of id s) (values_of ks)) b
          ∙ sym (find-any (is_of id site) (values_of ks)) ∙ ap is_some (sym (item_found (is_of id site) n ks apart here)) ∙ ap is_some held.1

  -- one goes
  pub left_out : values_of (without_number n ks) ≡ filter (λ c. not (is_of id site c)) (values_of ks)
  left_out = left_values (is_of id site) n ks apart (one_under key_eq key_of key_eq-true (key_with id site) ks keys) here

  pub same_key : (c : Candidate) → key_of c ≡ key_with id site → key_of held.0 ≡ key_of c
  same_key c is = key_eq-true (key_of held.0) (key_with id site) held.2 ∙ sym is

pub none_left_out : (id : Id) (site : Site) (ks : List (Numbered Candidate)) → first_such (is_of id site) ks ≡ None → filter (λ c. not (is_of id site c)) (values_of ks) ≡ values_of ks
none_left_out id site ks none = keep_none (is_of id site) (values_of ks) (none_passes (is_of id site) ks none)
