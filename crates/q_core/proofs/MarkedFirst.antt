-- The first outcome needs its mark next.
use Rattle.std.proofs.Common.{◌≡◌, ◌∙◌, [], ◌∷◌, ap, List, None, refl, Some, sym}
use Rattle.std.specs.Prelude.{slice_get, slice_set}
use Rattle.q_model.specs.Logs.{first_logged}
use Rattle.q_model.specs.declared.rows.Need.TheVariants.{Mark}
use Rattle.q_model.specs.declared.rows.Unsettled.{Unsettled}

-- the first is replaced
pub marked_first : (us : List Unsettled) (u : Unsettled) → slice_get us 0 ≡ Some u → slice_set us 0 (record u { need = Mark }) ≡ first_logged us
marked_first [] u h = cc
marked_first (x ∷ us) u h = let same : x ≡ u = cc in ap (λ (y : Unsettled). record y { need = Mark } ∷ us) (sym same)

none_logged : (us : List Unsettled) → slice_get us 0 ≡ None → us ≡ first_logged us
none_logged [] h = refl
none_logged (x ∷ us) h = cc

-- there is none
pub none_marked : (us held : List Unsettled) → us ≡ held → slice_get held 0 ≡ None → us ≡ first_logged us
none_marked us held same none = none_logged us (ap (λ xs. slice_get xs 0) same ∙ none)
