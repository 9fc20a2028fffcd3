-- The last code of each position, note by note.
use Rattle.std.proofs.Common.{◌≡◌, ◌∙◌, ◌++◌, ◌∷◌, [], ℕ, Bool, true, false, true≢false, cond, nat_eq, List, Option, Some, None, eq-eqb, eqb-true, refl, sym, ap, subst}
use Rattle.std.specs.BTreeMap.{BTreeMap, get, is_at}
use Rattle.std.specs.Cmp.{nat_cmp_is}
use Rattle.std.specs.Option.{option_map, option_map_or}
use Rattle.std.specs.Ordering.{is_eq, nat_cmp}
use Rattle.std.specs.Prelude.{find, reverse, unwrap_or}
use Rattle.std.specs.declared.cmp.Ordering.{Ordering}
use Rattle.std.specs.declared.cmp.Ordering.TheVariants.{Equal, Greater, Less}
use Rattle.std.proofs.lemmas.List.{reverse-append}
use Rattle.std.proofs.lemmas.Map.Lookups.{exact_unsigned}
use Rattle.q_model.specs.declared.id.Id.{Id}
use Rattle.q_model.specs.declared.outcome.Note.{Note}
use Rattle.q_model.specs.declared.spot.Area.TheVariants as areas
use Rattle.q_model.specs.FailureLog.{log_notes}
use Rattle.q_model.specs.IdTexts.{id_text}
use Rattle.q_model.specs.SpoolFiles.{Files}
use Rattle.q_listing.specs.Listings.{last_code, notes_in}

equal_from : (o : Ordering) → is_eq o ≡ true → o ≡ Equal
equal_from Less h = absurd cc
equal_from Equal h = refl
equal_from Greater h = absurd cc

pub same_position : (a b : ℕ) → is_at (nat_cmp a) b ≡ nat_eq a b
same_position a b = by (nat_eq a b) refl
  where
    never : (s : Bool) → is_at (nat_cmp a) b ≡ s → nat_eq a b ≡ false → s ≡ false
    never true k e = absurd (true≢false (sym (eq-eqb a b (exact_unsigned a b (equal_from (nat_cmp a b) k))) ∙ e))
    never false k e = refl

    by : (t : Bool) → nat_eq a b ≡ t → is_at (nat_cmp a) b ≡ t
    by true e = subst (λ x. is_at (nat_cmp a) x ≡ true) (eqb-true a b e) (sym (ap is_eq (nat_cmp_is a a Equal refl)))
    by false e = never (is_at (nat_cmp a) b) refl e

-- one more note
pub code_more : (notes : List Note) (n : Note) (old new : BTreeMap ℕ ℕ)
    → ((q : ℕ) → get nat_cmp new q ≡ cond (is_at (nat_cmp n.position) q) (Some n.code) (get nat_cmp old q))
    → ((q : ℕ) → get nat_cmp old q ≡ last_code notes q) → (q : ℕ) → get nat_cmp new q ≡ last_code (notes ++ n ∷ []) q
code_more notes n old new put was q =
    put q ∙ ap (λ t. cond t (Some n.code) (get nat_cmp old q)) (same_position n.position q)
    ∙ ap (λ o. cond (nat_eq n.position q) (Some n.code) o) (was q) ∙ on (nat_eq n.position q) (find (λ x. nat_eq x.position q) (reverse notes))
    ∙ sym (ap (λ (xs : List Note). option_map (λ x. x.code) (find (λ x. nat_eq x.position q) xs)) (reverse-append notes (n ∷ [])))
  where
    on : (t : Bool) (o : Option Note) → cond t (Some n.code) (option_map (λ x. x.code) o) ≡ option_map (λ x. x.code) (cond t (Some n) o)
    on true o = refl
    on false o = refl

none_read : log_notes [] ≡ []
unfolding log_notes
none_read = refl

-- no file reads as an empty one
notes_read : (o : Option (List ℕ)) → log_notes (unwrap_or o []) ≡ option_map_or log_notes o []
notes_read None = none_read
notes_read (Some bytes) = refl

-- what was read of the file of an id's name are the notes of the id
pub notes_are : (f : Files) (id : Id) (name bytes : List ℕ) (notes : List Note) → name ≡ id_text id
    → bytes ≡ unwrap_or (f areas.Defer name) [] → notes ≡ log_notes bytes → notes ≡ notes_in f id
notes_are f id name bytes notes named read are =
    are ∙ ap log_notes (read ∙ ap (λ (n : List ℕ). unwrap_or (f areas.Defer n) []) named) ∙ notes_read (f areas.Defer (id_text id))
