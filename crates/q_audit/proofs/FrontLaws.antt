-- The front of a front is a front.
use Rattle.std.proofs.Common.{◌≡◌, ◌++◌, ◌∷◌, ◌∙◌, [], ℕ, zero, suc, List, Some, ap, subst, append_assoc, take, drop}
use Rattle.std.specs.Prelude.{slice_get}
use Rattle.q_audit.specs.ReportLaws.{FrontsAreWhole}
use Rattle.q_fronts.specs.Fronts.{IsFront}
use Rattle.q_model.specs.declared.entry.Entry.{Entry}
use Rattle.q_model.specs.Settings.{World}

abbrev pub shorter : (w : World) (es fs : List Entry) → IsFront w (es ++ fs) → IsFront w es
shorter w es fs f = record {
  generation = f.generation;
  mode = f.mode;
  items = f.items;
  later = fs ++ f.later;
  fits = f.fits;
  run = f.run ∙ append_assoc es fs f.later;
}

-- a list up to a place, what stands there, and what stands behind
divided : (es : List Entry) (n : ℕ) (e : Entry) → slice_get es n ≡ Some e → es ≡ (take n es ++ e ∷ []) ++ drop (suc n) es
divided [] n e h = absurd (cc)
divided (d ∷ es) zero e h = ap (λ (x : Entry). x ∷ es) (cc)
divided (d ∷ es) (suc n) e h = ap (λ (x : List Entry). d ∷ x) (divided es n e h)

pub whole : FrontsAreWhole
whole w es count rule front broken =
    broken.breaks (shorter w (take count es ++ broken.entry ∷ []) (drop (suc count) es)
    (subst (IsFront w) (divided es count broken.entry broken.is) front))
