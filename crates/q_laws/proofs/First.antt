-- The first unsettled outcome, and what it says of the positions that are logged without a mark.
use Rattle.std.proofs.Common.{◌≡◌, ℕ, Bool, true, false, List, [], ◌∷◌, ◌++◌, Option, Some, inl, refl, sym, ap, ◌∙◌, subst, if◌then◌else◌, eqb-true}
use Rattle.std.proofs.lemmas.Bool.{and_parts}
use Rattle.std.specs.Option.{option_map_or}
use Rattle.std.specs.Prelude.{◌&&◌, ◌==◌, slice_get}
use Rattle.q_laws.proofs.Distinct.{id_same}
use Rattle.q_laws.proofs.Members.{IsIn, in_right}
use Rattle.q_laws.specs.Consistency.{flight_positions, logged_of, memory_positions, unsettled_positions, waiting_positions}
use Rattle.q_model.proofs.IdLaws.{id_eq-true}
use Rattle.q_model.specs.Ids.{id_eq}
use Rattle.q_model.specs.Ledger.{Ledger}
use Rattle.q_model.specs.Marking.{needs_mark}
use Rattle.q_model.specs.Message.{Message, is_logged}
use Rattle.q_model.specs.declared.id.Id.{Id}
use Rattle.q_model.specs.declared.rows.Need.{Need}
use Rattle.q_model.specs.declared.rows.Unsettled.{Unsettled}

-- the first unsettled outcome is of the message, at the position, and its need passes
pub first_on : (l : Ledger) (id : Id) (p : ℕ) (test : Need → Bool) (us : List Unsettled) → l.unsettled ≡ us → option_map_or (λ (u : Unsettled). id_eq u.id id && (u.position == p) && test u.need) (slice_get us 0) false ≡ true →
    (u : Unsettled) × (rest : List Unsettled) × (l.unsettled ≡ u ∷ rest) × (u.id ≡ id) × (u.position ≡ p) × (test u.need ≡ true)
first_on l id p test [] e h = absurd cc
first_on l id p test (u ∷ us) e h =
    let two = and_parts (id_eq u.id id && (u.position == p)) (test u.need) h in
    let one = and_parts (id_eq u.id id) (u.position == p) two.0 in
    (u, us, e, id_eq-true u.id id one.0, eqb-true u.position p one.1, two.1)

pub not_logged_yet : (m : Message) (u : Unsettled) (o : Option Unsettled) → needs_mark u.need ≡ false → o ≡ Some u → logged_of m o ≡ []
not_logged_yet m u o h e =
    ap (logged_of m) e ∙ ap (λ b. if id_eq u.id m.id && b && is_logged m u.position then u.position ∷ [] else []) h ∙ none (id_eq u.id m.id) (is_logged m u.position)
  where
    none : (a b : Bool) → (if a && false && b then u.position ∷ [] else []) ≡ []
    none true b = refl
    none false b = refl

pub other_logged : (m : Message) (u : Unsettled) → id_eq u.id m.id ≡ false → logged_of m (Some u) ≡ []
other_logged m u h = ap (λ b. if b && needs_mark u.need && is_logged m u.position then u.position ∷ [] else []) h

pub same_logged : (m : Message) (u : Unsettled) → u.id ≡ m.id → needs_mark u.need ≡ true → is_logged m u.position ≡ true → logged_of m (Some u) ≡ u.position ∷ []
same_logged m u same need logged =
    ap (λ b. if b && needs_mark u.need && is_logged m u.position then u.position ∷ [] else []) (id_same u.id m.id same)
    ∙ ap (λ b. if b && is_logged m u.position then u.position ∷ [] else []) need ∙ ap (λ b. if b then u.position ∷ [] else []) logged

pub first_positions : (u : Unsettled) (rest : List Unsettled) (l : Ledger) (id : Id) → l.unsettled ≡ u ∷ rest → u.id ≡ id → IsIn u.position (memory_positions l id)
first_positions u rest l id e same =
    in_right u.position (waiting_positions id l.waiting ++ flight_positions id l.flights) (unsettled_positions id l.unsettled)
    (subst (λ us. IsIn u.position (unsettled_positions id us)) (sym e) (subst (λ b. IsIn u.position ((if b then u.position ∷ [] else []) ++ unsettled_positions id rest)) (sym (id_same u.id id same)) (inl refl)))
