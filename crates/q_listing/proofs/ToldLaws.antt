-- Items of which each is told by lines of its own.
use Rattle.std.proofs.Common.{◌≡◌, ◌∙◌, ◌++◌, ◌∷◌, [], Err, List, Ok, OnErr, Result, ℕ, append_assoc, append-nil, ap, refl, subst, sym}
use Rattle.std.specs.Prelude.{flat_map}
use Rattle.std.proofs.lemmas.Grind.{flat_map-append}
use Rattle.q_host.specs.View.{View}
use Rattle.q_host.proofs.Stays.{stays_here}
use Rattle.q_telling.specs.Telling.{TellsFront, TellsMore}
use Rattle.q_telling.proofs.TellingLaws.{OnlyNow, front_more, front_none, front_on, tells_none, tells_on}

pub err_has : {T E P : Type 0} (r : Result T E) → P → OnErr r P
err_has (Ok v) h = tt
err_has (Err e) h = h

pub none_told : (u : View) → OnlyNow u → TellsMore [] u u
none_told u only = tells_none u u only (stays_here u)

-- a whole text is a first part of itself
pub front_all : (text : List ℕ) (u v : View) → TellsMore text u v → TellsFront text u v
front_all text u v p = record { part = text; rest = []; whole = sym (append-nil text); told = p }

-- The lines of the first items were told, those of the rest weren't yet.
pub record IsToldTo {X : Type 0} (line : X → List ℕ) (all : List X) (Ahead Counted : List X → Type 0) (u v : View) : Type 0 where
  pub done : List X
  pub rest : List X
  pub split : all ≡ done ++ rest
  pub told : TellsMore (flat_map line done) u v
  pub ahead : Ahead rest
  pub counted : Counted done

module _ {X : Type 0} (line : X → List ℕ) (all : List X) where
  pub told_begins : (A C : List X → Type 0) (u : View) → OnlyNow u → A all → C [] → IsToldTo line all A C u u
  told_begins A C u only a c = record { done = []; rest = all; split = refl; told = none_told u only; ahead = a; counted = c }

  module _ (A C : List X → Type 0) (u v w : View) (s : IsToldTo line all A C u v) (quiet : TellsMore [] v w) where
    same_text : flat_map line all ≡ flat_map line s.done ++ flat_map line s.rest
    same_text = ap (flat_map line) s.split ∙ flat_map-append line s.done s.rest

    first_text : (x : X) (behind : List X) → s.rest ≡ x ∷ behind → flat_map line s.rest ≡ line x ++ flat_map line behind
    first_text x behind is = ap (flat_map line) is

    -- the next item is told
    pub told_more : (B D : List X → Type 0) (z : View) (x : X) (behind : List X) → s.rest ≡ x ∷ behind → TellsMore (line x) w z
        → B behind → (C s.done → D (s.done ++ x ∷ [])) → IsToldTo line all B D u z
    told_more B D z x behind is more ahead count = record {
      done = s.done ++ x ∷ [];
      rest = behind;
      split = s.split ∙ ap (λ (ys : List X). s.done ++ ys) is ∙ sym (append_assoc s.done (x ∷ []) behind);
      told = subst (λ (t : List ℕ). TellsMore t u z)
          (ap (λ (t : List ℕ). flat_map line s.done ++ t) (sym (append-nil (line x))) ∙ sym (flat_map-append line s.done (x ∷ [])))
          (tells_on (flat_map line s.done) (line x) u v z s.told (tells_on [] (line x) v w z quiet more));
      ahead = ahead;
      counted = count s.counted;
    }

    -- the next item isn't begun
    pub told_waits : TellsFront (flat_map line all) u w
    told_waits = subst (λ (t : List ℕ). TellsFront t u w) (sym same_text)
        (front_on (flat_map line s.done) (flat_map line s.rest) u v w s.told (front_none (flat_map line s.rest) v w quiet))

    -- the next item was told in part
    pub told_stops : (z : View) (x : X) (behind : List X) → s.rest ≡ x ∷ behind → TellsFront (line x) w z → TellsFront (flat_map line all) u z
    told_stops z x behind is part = subst (λ (t : List ℕ). TellsFront t u z) (sym (same_text ∙ ap (λ (t : List ℕ). flat_map line s.done ++ t) (first_text x behind is)))
        (front_on (flat_map line s.done) (line x ++ flat_map line behind) u v z s.told
        (front_on [] (line x ++ flat_map line behind) v w z quiet (front_more (line x) (flat_map line behind) w z part)))

    pub all_done : s.rest ≡ [] → s.done ≡ all
    all_done none = sym (s.split ∙ ap (λ (ys : List X). s.done ++ ys) none ∙ append-nil s.done)

    -- no item is left
    pub told_all : s.rest ≡ [] → TellsMore (flat_map line all) u w
    told_all none = subst (λ (t : List ℕ). TellsMore t u w) (append-nil (flat_map line s.done) ∙ ap (flat_map line) (all_done none))
        (tells_on (flat_map line s.done) [] u v w s.told quiet)
