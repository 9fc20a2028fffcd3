-- Calls of hops whose links follow scripts are those of hops.
use Rattle.std.proofs.Common.{◌≡◌, ◌<◌, ◌+◌, ◌∙◌, ℕ, zero, suc, Bool, true, false, List, [], ◌∷◌, length, get_or, map, Option, Some, None, IfSome, refl, sym, ap, subst, arith}
use Rattle.std.specs.List.{slice_get, slice_set}
use Rattle.std.specs.Option.{option_map_or}
use Rattle.std.specs.Prelude.{option_and_then, option_map, unwrap_or}
use Rattle.q_link.specs.ClosedLinks.{record_of, records_of, untold}
use Rattle.q_link.specs.declared.closed_link.ClosedLink.{ClosedLink}
use Rattle.q_link.specs.Records.{Closes, HopsView, Rests, ToldHops, closed, counted, with_closed, with_record, with_rest}
use Rattle.q_link.specs.ScriptHops.{ScriptHops, last_changed, with_last, with_scripts}
use Rattle.q_link.specs.Scripts.{Script}
use Rattle.q_link.specs.ScriptLinks.{told_more, told_while}
use Rattle.q_link.specs.Views.{Told, View}
use Rattle.q_link.proofs.Telling.{tells_more}

-- ---- the script that was begun last

last_set : (change : Script → Script) (scripts : List Script) (i : ℕ) (old new : Script) → i + 1 ≡ length scripts → old ≡ get_or scripts i old → new ≡ change old
    → slice_set scripts i new ≡ last_changed change scripts
last_set change [] i old new last is same = absurd (omega (arith, last))
last_set change (s ∷ []) zero old new last is same = ap (λ x. x ∷ []) (same ∙ ap change is)
last_set change (s ∷ []) (suc i) old new last is same = absurd (omega (arith, last))
last_set change (s ∷ t ∷ more) zero old new last is same = absurd (omega (arith, last))
last_set change (s ∷ t ∷ more) (suc i) old new last is same = ap (λ x. s ∷ x) (last_set change (t ∷ more) i old new (omega (arith, last)) is same)

pub last_added : (change : Script → Script) (h now : ScriptHops) (i : ℕ) (old new : Script) → h ≡ now → i + 1 ≡ length h.scripts → old ≡ get_or h.scripts i old → new ≡ change old
    → with_scripts (slice_set h.scripts i new) h ≡ with_last change now
last_added change h now i old new same last is changed =
    ap (λ (l : List Script). with_scripts l h) (last_set change h.scripts i old new last is changed) ∙ ap (with_last change) same

-- ---- rests

pub rests : (old new : HopsView) → new ≡ record old { rests = counted old.rests 1; told = told_more (λ t. t.rests) with_rest old.told } → Rests old new
rests old new is = subst (λ (v : HopsView). Rests old v) (sym is) (tells_more (λ t. t.rests) with_rest old.told, refl)

-- ---- closes

recorded : (link : View) (old : Option ToldHops) (told : Option Told) (now : ToldHops) → option_and_then (λ t. option_map (λ l. with_record (closed link l t) t) told) old ≡ Some now
    → (before : ToldHops) × (l : Told) × (old ≡ Some before) × (told ≡ Some l) × (now ≡ with_record (closed link l before) before)
recorded link None told now is = cc
recorded link (Some t) None now is = cc
recorded link (Some t) (Some l) now is = (t, l, refl, refl, cc)

pub closes : (link : View) (old new : HopsView)
    → new ≡ record (with_closed link old) { told = option_and_then (λ t. option_map (λ told. with_record (closed link told t) t) link.told) old.told } → Closes link old new
closes link old new is = subst (λ (v : HopsView). Closes link old v) (sym is) (recorded link old.told link.told, refl)

-- ---- what was sent

told_sent : (told : Option Told) → (unwrap_or told untold).sent ≡ option_map_or (λ t. t.sent) told []
told_sent None = refl
told_sent (Some t) = refl

sent_at : (links : List ClosedLink) (i : ℕ) (c : ClosedLink) → i < length links → slice_get (map (λ r. r.sent) (records_of links)) i ≡ Some (record_of (get_or links i c)).sent
sent_at [] i c within = absurd (omega (arith, within))
sent_at (link ∷ links) zero c within = refl
sent_at (link ∷ links) (suc i) c within = sent_at links i c (omega (arith, within))

pub sent_in : (tells : Bool) (t : ToldHops) (links : List ClosedLink) (i : ℕ) (c : ClosedLink) (bytes : List ℕ) → t.records ≡ records_of links → i < length links → c ≡ get_or links i c
    → bytes ≡ option_map_or (λ t. t.sent) c.link.view.told [] → IfSome (told_while tells t) (λ t. slice_get (map (λ r. r.sent) t.records) i ≡ Some bytes)
sent_in true t links i c bytes all within is same =
    ap (λ l. slice_get (map (λ r. r.sent) l) i) all ∙ sent_at links i c within
    ∙ ap (λ (x : ClosedLink). Some (record_of x).sent) (sym is) ∙ ap (λ (b : List ℕ). Some b) (told_sent c.link.view.told ∙ sym same)
sent_in false t links i c bytes all within is same = tt
