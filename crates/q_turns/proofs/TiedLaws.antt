-- Sites that are suspended, in the lines and among the candidates.
use Rattle.std.proofs.Common.{◌≡◌, ◌∙◌, ◌∷◌, ◌++◌, [], ap, Bool, cond, false, inl, inr, List, refl, sym, true}
use Rattle.std.proofs.lemmas.Bool.{and_parts, both_ways, false_from_ne_true, or_cases, or_left, or_right}
use Rattle.std.specs.List.{list_any}
use Rattle.std.specs.Prelude.{◌&&◌, filter}
use Rattle.q_candidates.specs.Suspending.{AreIn, AreInAnew, AreInWith, HaveNoSpace as HaveNone, is_in}
use Rattle.q_dest.specs.declared.dest.Dest.{Dest}
use Rattle.q_model.proofs.IdLaws.{site_eq-refl, site_eq-true}
use Rattle.q_model.specs.Sites.{site_eq}
use Rattle.q_model.specs.Values.{Site}
use Rattle.q_rounds.specs.Rounds.{has_space_at}
use Rattle.q_suspended.specs.Suspensions.{is_at}
use Rattle.q_suspended.specs.declared.suspension.Suspension.{Suspension}
use Rattle.q_turns.specs.Suspending.{AreTied, HaveNoSpace}
use Rattle.q_turns.proofs.SuspensionLaws.{any_less, any_more, is_else, not_suspended, turned}

any_last : (site : Site) (s : Suspension) (xs : List Suspension) → is_at site s ≡ true → list_any (is_at site) (xs ++ s ∷ []) ≡ true
any_last site s [] h = or_left (is_at site s) false h
any_last site s (x ∷ xs) h = or_right (is_at site x) (list_any (is_at site) (xs ++ s ∷ [])) (any_last site s xs h)

module _ (ss : List Suspension) (old new : List Site) (tied : AreTied ss old) where
  more_step : (s : Suspension) (t : Site) (b : Bool) → site_eq t s.site ≡ b → cond b true (is_in t old) ≡ true → list_any (is_at t) (ss ++ s ∷ []) ≡ true
  more_step s t true e h = any_last t s ss (ap (site_eq s.site) (site_eq-true t s.site e) ∙ site_eq-refl s.site)
  more_step s t false e h = any_more t s ss (turned t s.site e) ∙ tied t h

  -- one more is suspended
  pub tied_more : (s : Suspension) → AreInAnew s.site true old new → AreTied (ss ++ s ∷ []) new
  tied_more s anew t h = more_step s t (site_eq t s.site) refl (anew t h)

  less_step : (site t : Site) (b : Bool) → site_eq t site ≡ b → cond b false (is_in t old) ≡ true → list_any (is_at t) (filter (is_else site) ss) ≡ true
  less_step site t true e h = absurd cc
  less_step site t false e h = any_less site t ss (turned t site e) ∙ tied t h

  -- one less is
  pub tied_less : (site : Site) → AreInAnew site false old new → AreTied (filter (is_else site) ss) new
  tied_less site anew t h = less_step site t (site_eq t site) refl (anew t h)

  -- a candidate comes, at a site that is suspended or isn't
  pub tied_with : (site : Site) (b : Bool) → b ≡ list_any (is_at site) ss → AreInWith site b old new → AreTied ss new
  tied_with site b is inside t h =
      elim (or_cases (is_in t old) (site_eq t site && b) (inside t h)) [
        | inl stood ↦ tied t stood
        | inr own ↦
            let parts = and_parts (site_eq t site) b own in
            ap (λ s. list_any (is_at s) ss) (site_eq-true t site parts.0) ∙ sym is ∙ parts.1
      ]

  -- one goes
  pub tied_left : AreIn old new → AreTied ss new
  tied_left inside t h = tied t (inside t h)

-- where none that is suspended has space, none among the candidates has
pub tied_shut : (ds : List Dest) (ss : List Suspension) (sites : List Site) → HaveNoSpace ds ss → AreTied ss sites → HaveNone ds sites
tied_shut ds ss sites shut tied s h = false_from_ne_true (has_space_at ds s) (λ space. both_ways (list_any (is_at s) ss) (not_suspended ds s space ss shut) (tied s h))
