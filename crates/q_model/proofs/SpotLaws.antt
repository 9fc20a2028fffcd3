-- No two ids or places share a file.
use Rattle.std.proofs.Common.{◌≡◌, ℕ, ◌^◌, ◌<◌, true, ◌∷◌, take, drop, refl, sym, ap, ◌∙◌, List, codes, Option, Some, None, bytes_eq, if◌then◌else◌}
use Rattle.std.specs.Str.Parse.{digits_value}
use Rattle.std.proofs.lemmas.Bool.{eq-eqb, eqb-true}
use Rattle.std.proofs.lemmas.List.{take_at, drop_at}
use Rattle.std.proofs.lemmas.Option.{same_Some}
use Rattle.q_model.specs.declared.id.Id.{Id}
use Rattle.q_model.specs.declared.rows.Place.{Place}
use Rattle.q_model.specs.declared.spot.Area.{Area}
use Rattle.q_model.specs.IdTexts.{decimals, due_text, id_text, IsId}
use Rattle.q_model.specs.Folders.{AreFoldersApart, folder_name}
use Rattle.q_model.specs.SpoolFiles.{area_of, IsPlace, name_at}
use Rattle.q_model.specs.Places.{place_eq}
use Rattle.q_model.specs.declared.rows.Place.TheVariants as places
use Rattle.q_model.specs.declared.spot.Area.TheVariants as areas
use Rattle.q_model.proofs.IdLaws.{id_text-injective}
use Rattle.q_model.proofs.NumberTexts.{decimals-Spells, length-spell, value-spell}

decimals_same : (m n : ℕ) → m < 10 ^ 12 → n < 10 ^ 12 → decimals 12 m ≡ decimals 12 n → m ≡ n
decimals_same m n h k e = sym (value-spell decimals-Spells 12 m h) ∙ ap (digits_value 10) e ∙ value-spell decimals-Spells 12 n k

-- no two ids and due times have the same text
pub due_text-injective : (d e : ℕ) (i j : Id) → d < 10 ^ 12 → e < 10 ^ 12 → IsId i → IsId j → due_text d i ≡ due_text e j → (d ≡ e) × (i ≡ j)
due_text-injective d e i j hd he hi hj same =
    let front : decimals 12 d ≡ decimals 12 e = sym (take_at (decimals 12 d) (45 ∷ id_text i) 12 (length-spell decimals-Spells 12 d)) ∙ ap (take 12) same ∙ take_at (decimals 12 e) (45 ∷ id_text j) 12 (length-spell decimals-Spells 12 e) in
    let back : (45 ∷ id_text i) ≡ (45 ∷ id_text j) = sym (drop_at (decimals 12 d) (45 ∷ id_text i) 12 (length-spell decimals-Spells 12 d)) ∙ ap (drop 12) same ∙ drop_at (decimals 12 e) (45 ∷ id_text j) 12 (length-spell decimals-Spells 12 e) in
    (decimals_same d e hd he front, id_text-injective i j hi hj (ap (drop 1) back))

pub same_spot : (p q : Place) (i j : Id) → IsPlace p → IsPlace q → IsId i → IsId j → area_of p ≡ area_of q → name_at p i ≡ name_at q j → (p ≡ q) × (i ≡ j)
same_spot places.Incoming places.Incoming i j hp hq hi hj a e = (refl, id_text-injective i j hi hj e)
same_spot places.Active places.Active i j hp hq hi hj a e = (refl, id_text-injective i j hi hj e)
same_spot (places.Deferred d) (places.Deferred k) i j hp hq hi hj a e =
    let both = due_text-injective d k i j hp hq hi hj e in
    (ap (λ (x : ℕ). places.Deferred x) both.0, both.1)
same_spot places.Hold places.Hold i j hp hq hi hj a e = (refl, id_text-injective i j hi hj e)
same_spot places.Corrupt places.Corrupt i j hp hq hi hj a e = (refl, id_text-injective i j hi hj e)
same_spot p q i j hp hq hi hj a e = absurd cc

-- the area of a folder's name
area_of_folder : List ℕ → Option Area
area_of_folder name =
    if bytes_eq name (codes "boot") then Some areas.Boot else
    if bytes_eq name (codes "conf") then Some areas.Conf else
    if bytes_eq name (codes "tmp") then Some areas.Tmp else
    if bytes_eq name (codes "incoming") then Some areas.Incoming else
    if bytes_eq name (codes "active") then Some areas.Active else
    if bytes_eq name (codes "deferred") then Some areas.Deferred else
    if bytes_eq name (codes "hold") then Some areas.Hold else
    if bytes_eq name (codes "corrupt") then Some areas.Corrupt else
    if bytes_eq name (codes "bounce") then Some areas.Bounce else
    if bytes_eq name (codes "defer") then Some areas.Defer else None

folder_read_back : (a : Area) → area_of_folder (folder_name a) ≡ Some a
unfolding area_of_folder
folder_read_back areas.Boot = refl
folder_read_back areas.Conf = refl
folder_read_back areas.Tmp = refl
folder_read_back areas.Incoming = refl
folder_read_back areas.Active = refl
folder_read_back areas.Deferred = refl
folder_read_back areas.Hold = refl
folder_read_back areas.Corrupt = refl
folder_read_back areas.Bounce = refl
folder_read_back areas.Defer = refl

-- no two areas share a folder
pub folders_apart : AreFoldersApart
folders_apart a b same =
    same_Some a b (sym (folder_read_back a) ∙ ap area_of_folder same ∙ folder_read_back b)

-- the test tells whether two places are the same
pub place_eq-refl : (p : Place) → place_eq p p ≡ true
place_eq-refl places.Incoming = refl
place_eq-refl places.Active = refl
place_eq-refl (places.Deferred due) = eq-eqb due due refl
place_eq-refl places.Hold = refl
place_eq-refl places.Corrupt = refl

pub place_eq-true : (p q : Place) → place_eq p q ≡ true → p ≡ q
place_eq-true places.Incoming places.Incoming e = refl
place_eq-true places.Active places.Active e = refl
place_eq-true (places.Deferred d) (places.Deferred k) e = ap (λ (x : ℕ). places.Deferred x) (eqb-true d k e)
place_eq-true places.Hold places.Hold e = refl
place_eq-true places.Corrupt places.Corrupt e = refl
place_eq-true p q e = absurd cc

-- no place is in Tmp, in boot or among the logs
pub record IsQueue (a : Area) : Type 0 where
  pub not_tmp : a ≡ areas.Tmp → ⊥
  pub not_boot : a ≡ areas.Boot → ⊥
  pub not_bounce : a ≡ areas.Bounce → ⊥

pub area_of-IsQueue : (p : Place) → IsQueue (area_of p)
area_of-IsQueue places.Incoming = record { not_tmp = λ e. absurd cc; not_boot = λ e. absurd cc; not_bounce = λ e. absurd cc }
area_of-IsQueue places.Active = record { not_tmp = λ e. absurd cc; not_boot = λ e. absurd cc; not_bounce = λ e. absurd cc }
area_of-IsQueue (places.Deferred due) = record { not_tmp = λ e. absurd cc; not_boot = λ e. absurd cc; not_bounce = λ e. absurd cc }
area_of-IsQueue places.Hold = record { not_tmp = λ e. absurd cc; not_boot = λ e. absurd cc; not_bounce = λ e. absurd cc }
area_of-IsQueue places.Corrupt = record { not_tmp = λ e. absurd cc; not_boot = λ e. absurd cc; not_bounce = λ e. absurd cc }

-- the places whose area is incoming
pub incoming_only : (p : Place) → area_of p ≡ areas.Incoming → p ≡ places.Incoming
incoming_only places.Incoming e = refl
incoming_only p e = absurd cc
