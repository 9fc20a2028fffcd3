-- What more entries name, behind those before.
use Rattle.std.proofs.Common.{◌≡◌, ℕ, List, [], ◌∷◌, ◌++◌, refl, sym, ap, ◌∙◌, append_assoc}
use Rattle.std.proofs.lemmas.Grind.{flat_map-append}
use Rattle.q_drain.specs.Told.{Begun, begun, begun_from, begun_of, ended, ended_of, moment_after, moment_behind, moment_of, moments_of}
use Rattle.q_model.specs.declared.entry.Entry.{Entry}

pub ended_added : (es fs : List Entry) → ended (es ++ fs) ≡ ended es ++ ended fs
ended_added es fs = flat_map-append ended_of es fs

pub moments_added : (es fs : List Entry) → moments_of (es ++ fs) ≡ moments_of es ++ moments_of fs
moments_added es fs = flat_map-append moment_of es fs

pub moment_added : (t : ℕ) (es fs : List Entry) → moment_after t (es ++ fs) ≡ moment_after (moment_after t es) fs
moment_added t [] fs = refl
moment_added t (e ∷ es) fs = moment_added (moment_behind t e) es fs

pub begun_added : (t : ℕ) (es fs : List Entry) → begun_from t (es ++ fs) ≡ begun_from t es ++ begun_from (moment_after t es) fs
begun_added t [] fs = refl
begun_added t (e ∷ es) fs = ap (λ (bs : List Begun). begun_of t e ++ bs) (begun_added (moment_behind t e) es fs)
    ∙ sym (append_assoc (begun_of t e) (begun_from (moment_behind t e) es) (begun_from (moment_after (moment_behind t e) es) fs))

-- a delivery that begins is found also where more is told
pub found_longer : (es fs : List Entry) (b : Begun) → ((more others : List Begun) × (begun es ≡ more ++ b ∷ others)) → (more others : List Begun) × (begun (es ++ fs) ≡ more ++ b ∷ others)
found_longer es fs b f = let late : List Begun = begun_from (moment_after 0 es) fs in (f.0, f.1 ++ late, begun_added 0 es fs ∙ ap (λ (bs : List Begun). bs ++ late) f.2 ∙ append_assoc f.0 (b ∷ f.1) late)
