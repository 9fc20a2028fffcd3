-- Lines and sites are gone through one by one as rows come, and what comes of sites is what the definition says.
use Rattle.std.proofs.Common.{◌≡◌, ℕ, ◌+◌, ◌<◌, Bool, true, false, List, [], ◌∷◌, ◌++◌, length, map, take, refl, sym, ap, ◌∙◌, Some, arith, zero, suc, append_assoc, append-nil, if◌then◌else◌}
use Rattle.std.proofs.lemmas.List.Folds.{list_any-append}
use Rattle.std.specs.List.{enumerate_from}
use Rattle.std.specs.Prelude.{◌||◌, slice_get}
use Rattle.q_ledger.specs.Loading.{has_record, new_sites, with_site}
use Rattle.q_model.specs.Ledger.{Ledger}
use Rattle.q_model.specs.Loads.{with_records}
use Rattle.q_model.specs.Settings.{Settings, World}
use Rattle.q_model.specs.SiteRecords.{new_record, with_record}
use Rattle.q_model.specs.Sites.{site_eq}
use Rattle.q_model.specs.Values.{Site, SiteRecord}
use Rattle.q_model.specs.declared.rows.Row.{Row}

-- ---- one more each time

pub sites_more : (p : Settings) (known : List SiteRecord) (i : ℕ) (fresh : List SiteRecord) (rs : List Row) (site : Site) → i < length rs → ((r : Row) → slice_get rs i ≡ Some r → site ≡ r.site) →
    new_sites p known fresh (take (suc i) rs) ≡ with_site p known site (new_sites p known fresh (take i rs))
sites_more p known i fresh [] site h k = absurd (omega (arith, h))
sites_more p known zero fresh (r ∷ rs) site h k = ap (λ s. with_site p known s fresh) (sym (k r refl))
sites_more p known (suc i) fresh (r ∷ rs) site h k = sites_more p known i (with_site p known r.site fresh) rs site (omega (arith, h)) k

pub numbered_step : {X Y : Type 0} (f : (ℕ × X) → Y) (n i j : ℕ) (xs : List X) (y : Y) → j ≡ n + i → i < length xs → ((x : X) → slice_get xs i ≡ Some x → y ≡ f (j, x)) →
    (map f (enumerate_from n (take i xs)) ++ y ∷ []) ≡ map f (enumerate_from n (take (suc i) xs))
numbered_step f n i j [] y e h k = absurd (omega (arith, h))
numbered_step f n zero j (x ∷ xs) y e h k = let same : j ≡ n = omega (arith, e) in ap (λ z. z ∷ []) (k x refl ∙ ap (λ m. f (m, x)) same)
numbered_step f n (suc i) j (x ∷ xs) y e h k = ap (λ ys. f (n, x) ∷ ys) (numbered_step f (n + 1) i j xs y (omega (arith, e)) (omega (arith, h)) k)

-- ---- sites

-- the records, with one for each site of these rows
abbrev pub sites_after : World → List SiteRecord → List Row → List SiteRecord
sites_after w sites [] = sites
sites_after w sites (r ∷ rs) = sites_after w (with_record w sites r.site) rs

pub with_records_is : (w : World) (rows : List Row) (l : Ledger) → with_records w rows l ≡ record l { sites = sites_after w l.sites rows }
with_records_is w [] l = refl
with_records_is w (r ∷ rs) l = with_records_is w rs (record l { sites = with_record w l.sites r.site })

either_known : (w : World) (records fresh : List SiteRecord) (site : Site) (b : Bool) →
    (records ++ (if b then fresh else fresh ++ new_record w site ∷ [])) ≡ (if b then records ++ fresh else (records ++ fresh) ++ new_record w site ∷ [])
either_known w records fresh site true = refl
either_known w records fresh site false = sym (append_assoc records fresh (new_record w site ∷ []))

site_known : (w : World) (records fresh : List SiteRecord) (site : Site) → (records ++ with_site w.settings records site fresh) ≡ with_record w (records ++ fresh) site
site_known w records fresh site =
    either_known w records fresh site (has_record records site || has_record fresh site)
    ∙ ap (λ b. if b then records ++ fresh else (records ++ fresh) ++ new_record w site ∷ []) (sym (list_any-append (λ (r : SiteRecord). site_eq r.site site) records fresh))

sites_same : (w : World) (records fresh : List SiteRecord) (rows : List Row) → (records ++ new_sites w.settings records fresh rows) ≡ sites_after w (records ++ fresh) rows
sites_same w records fresh [] = refl
sites_same w records fresh (r ∷ rs) = sites_same w records (with_site w.settings records r.site fresh) rs ∙ ap (λ ss. sites_after w ss rs) (site_known w records fresh r.site)

-- the records with the new ones are those that each site of the rows has
pub sites_joined : (w : World) (records : List SiteRecord) (rows : List Row) → (records ++ new_sites w.settings records [] rows) ≡ sites_after w records rows
sites_joined w records rows = sites_same w records [] rows ∙ ap (λ ss. sites_after w ss rows) (append-nil records)
