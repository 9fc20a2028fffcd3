-- Which lanes are suspended, so that they aren't walked along.
use Rattle.std.specs.List.{list_any}
use Rattle.std.specs.Option.{option_map_or}
use Rattle.std.specs.Prelude.{◌≡◌, ◌≢◌, ◌&&◌, ◌||◌, Bool, false, filter, if◌then◌else◌, List, map, not, true, ℕ}
use Rattle.q_dest.specs.declared.dest.Dest.{Dest}
use Rattle.q_keyed.specs.Numbered.{item_at, Numbered, values_of}
use Rattle.q_model.specs.Sites.{site_eq}
use Rattle.q_model.specs.Values.{Site}
use Rattle.q_rounds.specs.Rounds.{has_space_at}
use Rattle.q_candidates.specs.declared.lane.Lane.{Lane}
use Rattle.q_candidates.specs.Filing.{AreFrom}

-- the site is one of these
abbrev pub is_in : Site → List Site → Bool
is_in site sites = list_any (site_eq site) sites

-- none of them has space
abbrev pub HaveNoSpace : List Dest → List Site → Type 0
HaveNoSpace ds sites = (s : Site) → is_in s sites ≡ true → has_space_at ds s ≡ false

-- each of the new ones is one of the old
abbrev pub AreIn : List Site → List Site → Type 0
AreIn old new = (s : Site) → is_in s new ≡ true → is_in s old ≡ true

-- or this site, where that is suspended
abbrev pub AreInWith : Site → Bool → List Site → List Site → Type 0
AreInWith site suspended old new = (s : Site) → is_in s new ≡ true
    → (is_in s old || site_eq s site && suspended) ≡ true

-- each but this site is one of the old, and this one where it is suspended
abbrev pub AreInAnew : Site → Bool → List Site → List Site → Type 0
AreInAnew site suspended old new = (s : Site) → is_in s new ≡ true
    → (if site_eq s site then suspended else is_in s old) ≡ true

-- the sites of the lanes that are suspended
abbrev pub sites_of : List (Numbered Lane) → List Site
sites_of lanes = map (λ l. l.site) (filter (λ l. l.suspended) (values_of lanes))

-- the lane is one of the site, and is to be set
abbrev pub differs : Site → Bool → Lane → Bool
differs site suspended l =
    site_eq l.site site && (if suspended then not l.suspended else l.suspended)

-- so is that of this number
abbrev pub differs_at : Site → Bool → List (Numbered Lane) → ℕ → Bool
differs_at site suspended lanes n =
    option_map_or (differs site suspended) (item_at n lanes) false

-- the lane of this number is set where it is one of the site, and the others stay
pub record IsSetAt (site : Site) (suspended : Bool) (n : ℕ) (old new : List (Numbered Lane)) : Type 0 where
  pub own : differs_at site suspended new n ≡ false
  pub others : (m : ℕ) → m ≢ n → item_at m new ≡ item_at m old
  pub from : AreFrom site suspended old new

-- all lanes of the site are set, and the others stay
pub record AreSet (site : Site) (suspended : Bool) (old new : List (Numbered Lane)) : Type 0 where
  pub own : (n : ℕ) → differs_at site suspended new n ≡ false
  pub from : AreFrom site suspended old new
