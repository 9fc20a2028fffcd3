-- A walk along all rows, of which those are held back that pass a test.
use Rattle.std.proofs.Common.{◌≡◌, ◌∙◌, ◌∷◌, ◌++◌, [], ap, Bool, cond, false, List, map, None, Option, option_map, refl, Some, subst, sym, true, ℕ}
use Rattle.std.proofs.lemmas.List.{append_assoc, append-nil, map-append}
use Rattle.std.specs.Option.{option_map_or}
use Rattle.std.specs.Prelude.{find}
use Rattle.q_core.specs.Ties.{goes_to_dead}
use Rattle.q_dest.specs.declared.dest.Dest.{Dest}
use Rattle.q_dest.specs.Dests.{is_at, is_dead}
use Rattle.q_held.proofs.Plain.{plain_held}
use Rattle.q_held.proofs.Tested.{tested_at, tested_more}
use Rattle.q_held.proofs.Walk.{found_here}
use Rattle.q_held.specs.Held.{AreHeldBy, held_at, HeldRow, numbered, plain}
use Rattle.q_model.proofs.IdLaws.{site_eq-refl, site_eq-true}
use Rattle.q_model.specs.declared.rows.Row.{Row}
use Rattle.q_model.specs.Sites.{site_eq}
use Rattle.q_model.specs.Values.{Site}
use Rattle.q_peers.proofs.Peers.{next_behind}
use Rattle.q_peers.specs.Numbered.{any_row, AreApart, first_such, next_such, Numbered, row_at}

-- the rows ahead of the one at hand are held back where they pass
pub record Passed (p : Row → Bool) (hs : List HeldRow) (at : Option ℕ) : Type 0 where
  pub ahead : List HeldRow
  pub behind : List HeldRow
  pub all : hs ≡ ahead ++ behind
  pub next : at ≡ first_such any_row (plain behind)
  pub held : AreHeldBy p ahead

pub begins : (p : Row → Bool) (hs : List HeldRow) (at : Option ℕ) → at ≡ first_such any_row (plain hs) → Passed p hs at
begins p hs at is = record {
  ahead = [];
  behind = hs;
  all = refl;
  next = is;
  held = tt;
}

none_left : (p : Row → Bool) (hs ahead bs : List HeldRow) → hs ≡ ahead ++ bs → first_such any_row (plain bs) ≡ None → AreHeldBy p ahead → AreHeldBy p hs
none_left p hs ahead [] all is held = subst (AreHeldBy p) (sym (all ∙ append-nil ahead)) held
none_left p hs ahead (h ∷ bs) all is held = cc

pub ends : (p : Row → Bool) (hs : List HeldRow) (at : Option ℕ) → Passed p hs at → at ≡ None → AreHeldBy p hs
ends p hs at w none = none_left p hs w.ahead w.behind w.all (sym w.next ∙ none) w.held

-- the row at hand, with those ahead of it and behind it
record Hand (p : Row → Bool) (n : ℕ) (hs : List HeldRow) : Type 0 where
  pub ahead : List HeldRow
  pub found : HeldRow
  pub behind : List HeldRow
  pub all : hs ≡ ahead ++ found ∷ behind
  pub number : found.number ≡ n
  pub held : AreHeldBy p ahead

hand_of : (p : Row → Bool) (n : ℕ) (hs ahead bs : List HeldRow) → hs ≡ ahead ++ bs → first_such any_row (plain bs) ≡ Some n → AreHeldBy p ahead → Hand p n hs
hand_of p n hs ahead [] all is held = cc
hand_of p n hs ahead (h ∷ bs) all is held = record {
  ahead = ahead;
  found = h;
  behind = bs;
  all = all;
  number = cc;
  held = held;
}

at_hand : (p : Row → Bool) (hs : List HeldRow) (at : Option ℕ) (n : ℕ) → Passed p hs at → at ≡ Some n → Hand p n hs
at_hand p hs at n w here = hand_of p n hs w.ahead w.behind w.all (sym w.next ∙ here) w.held

row_here : (p : Row → Bool) (hs : List HeldRow) (n : ℕ) → AreApart (plain hs) → (w : Hand p n hs) → row_at n (plain hs) ≡ Some w.found.row
row_here p hs n apart w =
    ap (λ l. row_at n (plain l)) w.all
    ∙ ap (λ m. row_at m (plain (w.ahead ++ w.found ∷ w.behind))) (sym w.number)
    ∙ ap (option_map (λ (k : Numbered). k.row)) (found_here w.found w.ahead w.behind (subst (λ l. AreApart (plain l)) w.all apart))

-- the row at hand is there
pub stands : (p : Row → Bool) (hs : List HeldRow) (at : Option ℕ) (n : ℕ) → AreApart (plain hs) → Passed p hs at → at ≡ Some n → row_at n (plain hs) ≡ None → ⊥
stands p hs at n apart w here none =
    let found = at_hand p hs at n w here in
    let bad : Some found.found.row ≡ None = sym (row_here p hs n apart found) ∙ none in cc

pub tested_step : (ds : List Dest) (site : Site) (held : Bool) (r : Row) (t : Bool) → site_eq r.site site ≡ t → held ≡ option_map_or is_dead (find (is_at site) ds) false → goes_to_dead ds r ≡ cond t held (goes_to_dead ds r)
tested_step ds site held r true e is = ap (λ s. option_map_or is_dead (find (is_at s) ds) false) (site_eq-true r.site site e) ∙ sym is
tested_step ds site held r false e is = refl

-- One step of the walk, at the row of this number.
module _ (ds : List Dest) (hs : List HeldRow) (at : Option ℕ) (n : ℕ) (row : Row) (site : Site) (held : Bool) (apart : AreApart (plain hs)) (passed : Passed (goes_to_dead ds) hs at) (here : at ≡ Some n)
    (there : row_at n (plain hs) ≡ Some row) (own : site ≡ row.site) (is : held ≡ option_map_or is_dead (find (is_at site) ds) false) where
  abbrev p : Row → Bool
  p = goes_to_dead ds

  hand : Hand (goes_to_dead ds) n hs
  hand = at_hand (goes_to_dead ds) hs at n passed here

  at_site : hand.found.row.site ≡ site
  at_site =
      let both : Some hand.found.row ≡ Some row = sym (row_here (goes_to_dead ds) hs n apart hand) ∙ there in
      let same : hand.found.row ≡ row = cc in
      ap (λ (r : Row). r.site) same ∙ sym own

  abbrev turned : List HeldRow → List HeldRow
  turned = map (held_at site held)

  own_turns : held_at site held hand.found ≡ record hand.found { held = held }
  own_turns = ap (λ t. cond t (record hand.found { held = held }) hand.found) (ap (λ s. site_eq s site) at_site ∙ site_eq-refl site)

  own_held : (held_at site held hand.found).held ≡ goes_to_dead ds (held_at site held hand.found).row
  own_held =
      ap (λ (h : HeldRow). h.held) own_turns ∙ is
      ∙ ap (λ s. option_map_or is_dead (find (is_at s) ds) false) (sym at_site)
      ∙ ap (λ (h : HeldRow). goes_to_dead ds h.row) (sym own_turns)

  pub goes_on : (next : Option ℕ) → next ≡ next_such (λ r. any_row) n (plain (turned hs)) → Passed (goes_to_dead ds) (turned hs) next
  goes_on next e =
      let like : Row → Row → Bool = λ r. any_row in
      let w = hand in
      let parts = ap plain w.all ∙ map-append numbered w.ahead (w.found ∷ w.behind) in
      record {
        ahead = turned w.ahead ++ held_at site held w.found ∷ [];
        behind = turned w.behind;
        all =
            ap turned w.all ∙ map-append (held_at site held) w.ahead (w.found ∷ w.behind)
            ∙ sym (append_assoc (turned w.ahead) (held_at site held w.found ∷ []) (turned w.behind));
        next =
            e ∙ ap (next_such like n) (plain_held site held hs ∙ parts)
            ∙ ap (λ m. next_such like m (plain w.ahead ++ numbered w.found ∷ plain w.behind)) (sym w.number)
            ∙ next_behind like (plain w.ahead) (numbered w.found) (plain w.behind) (subst AreApart parts apart)
            ∙ ap (first_such any_row) (sym (plain_held site held w.behind));
        held = tested_more (goes_to_dead ds) (turned w.ahead) (held_at site held w.found) own_held
            (tested_at (goes_to_dead ds) (goes_to_dead ds) site held w.ahead (λ r. tested_step ds site held r (site_eq r.site site) refl is) w.held);
      }
