-- What was seen of a spool: which ids stand there, and its last generation.
use Rattle.std.proofs.Common.{◌≡◌, ◌⊎◌, inl, inr, ◌<◌, ℕ, zero, suc, Bool, true, false, List, [], ◌∷◌, Option, Some, None, is_some, if◌then◌else◌, nat_lt, refl, sym, ap, subst, ◌∙◌, arith}
use Rattle.std.specs.List.{Contains}
use Rattle.std.specs.Option.{IsSome, option_map, option_or}
use Rattle.std.specs.Prelude.{◌&&◌, bytes_eq, find, slice_get, unwrap_or}
use Rattle.std.proofs.lemmas.Bool.{and_parts}
use Rattle.std.proofs.lemmas.Slice.Eq.{bytes_eq-Decides}
use Rattle.q_model.specs.declared.id.Id.{Id}
use Rattle.q_model.specs.declared.spot.Area.TheVariants as areas
use Rattle.q_model.specs.FilesStand.{BootStands}
use Rattle.q_model.specs.Ids.{id_eq}
use Rattle.q_model.specs.IdTexts.{hex}
use Rattle.q_model.specs.SpoolFiles.{Files}
use Rattle.q_model.specs.Values.{Spot}
use Rattle.q_model.proofs.IdLaws.{id_eq-refl}
use Rattle.q_model.proofs.StandLaws.{true_false}
use Rattle.q_restart.specs.declared.standing.Standing.{Standing}
use Rattle.q_restart.specs.Damages.{boot_damage, boot_spot, damage_of, is_mispaired, repeated_behind, SpoolShows, standing_spot, walk_damage}
use Rattle.q_restart.specs.Generations.{boot_generation}
use Rattle.q_restart.specs.Places.{ArePlacesOf, ArePlacesOfOnce, IdMap, is_placed}
use Rattle.q_restart.specs.Walks.{AreAllNames, HasStanding, standing_place}
use Rattle.q_restart.proofs.BootNames.{each-generation, generation-is, generation-name, is_other}
use Rattle.q_restart.proofs.GenerationLaws.{hex-same, spells, Spells}
use Rattle.q_restart.proofs.Lists.{has_cases, has_head, has_none}
use Rattle.q_restart.proofs.Placing.{place-contains}
use Rattle.q_restart.proofs.RaisedBooks.{boot-there}

-- ---- no damage

spot-none : {A : Type 0} (o : Option A) (f : A → Spot) (p : Option Spot) → option_or (option_map f o) p ≡ None → (o ≡ None) × (p ≡ None)
spot-none None f p h = (refl, h)
spot-none (Some x) f p h = absurd cc

or-none : {A : Type 0} (o p : Option A) → option_or o p ≡ None → (o ≡ None) × (p ≡ None)
or-none None p h = (refl, h)
or-none (Some x) p h = absurd cc

map-none : {A B : Type 0} (f : A → B) (o : Option A) → option_map f o ≡ None → o ≡ None
map-none f None h = refl
map-none f (Some x) h = absurd cc

pub no_boot : (boot : List (List ℕ)) (walk : List Standing) → damage_of boot walk ≡ None → boot_damage boot ≡ None
no_boot boot walk h = (spot-none (boot_damage boot) boot_spot (walk_damage walk) h).0

pub no_repeat : (boot : List (List ℕ)) (walk : List Standing) → damage_of boot walk ≡ None → repeated_behind [] walk ≡ None
no_repeat boot walk h = (or-none (repeated_behind [] walk) (find (is_mispaired walk) walk) (map-none standing_spot (option_or (repeated_behind [] walk) (find (is_mispaired walk) walk)) (spot-none (boot_damage boot) boot_spot (walk_damage walk) h).1)).0

-- ---- ids

-- the ids that are kept are those that have a file
pub record Sees (f : Files) (keeps : Id → Bool) : Type 0 where
  pub to : (s : Standing) → HasStanding f s → keeps s.id ≡ true
  pub back : (id : Id) → keeps id ≡ true → (s : Standing) × HasStanding f s × (s.id ≡ id)

placed-by : (s : Standing) (walk : List Standing) (id : Id) (t : Bool) → id_eq s.id id ≡ t → (id_eq s.id id ≡ false → is_some (standing_place walk id) ≡ true) → is_some (option_map (λ (x : Standing). x.place) (if t then Some s else find (λ (x : Standing). id_eq x.id id) walk)) ≡ true
placed-by s walk id true e rest = refl
placed-by s walk id false e rest = rest e

placed-step : (x : Standing) (walk : List Standing) (s : Standing) → (x ≡ s) ⊎ Contains walk s → (Contains walk s → is_some (standing_place walk s.id) ≡ true) → id_eq x.id s.id ≡ false → is_some (standing_place walk s.id) ≡ true
placed-step x walk s (inl e) rest apart = absurd (true_false (id_eq x.id s.id) (ap (λ (y : Standing). id_eq y.id s.id) e ∙ id_eq-refl s.id) apart)
placed-step x walk s (inr behind) rest apart = rest behind

pub placed : (walk : List Standing) (s : Standing) → Contains walk s → is_some (standing_place walk s.id) ≡ true
placed [] s k = absurd (has_none s k)
placed (x ∷ walk) s k = placed-by x walk s.id (id_eq x.id s.id) refl (placed-step x walk s (has_cases x walk s k) (placed walk s))

pub sees : (f : Files) (boot : List (List ℕ)) (walk items : List Standing) (repeated : Option Standing) (places : IdMap) → items ≡ walk → SpoolShows f boot walk → damage_of boot walk ≡ None → repeated ≡ repeated_behind [] items → ArePlacesOfOnce items repeated places → Sees f (is_placed places)
sees f boot walk items repeated places same shows sound is once =
    let none : repeated ≡ None = is ∙ ap (repeated_behind []) same ∙ no_repeat boot walk sound in
    let are : ArePlacesOf walk places = λ id. once none id ∙ ap (λ (xs : List Standing). standing_place xs id) same in
    record {
      to = λ s h. ap is_some (are s.id) ∙ placed walk s (shows.files.all s h);
      back = λ id kept.
          let found = place-contains walk id (sym (ap is_some (are id)) ∙ kept) in
          (found.0, shows.files.there found.0 found.1, found.2);
    }

-- ---- boot

boot-head : (n : List ℕ) (ns : List (List ℕ)) → boot_damage (n ∷ ns) ≡ None → is_other n ≡ false
boot-head n ns h = each-generation (n ∷ ns) 0 n (or-none (find is_other (n ∷ ns)) (slice_get (n ∷ ns) 1) h).0 refl

pub record BootHead (n : List ℕ) (g : ℕ) : Type 0 where
  pub form : is_other n ≡ false
  pub spelt : Spells n g

boot-spells : (n : List ℕ) (ns : List (List ℕ)) → boot_damage (n ∷ ns) ≡ None → BootHead n (boot_generation (n ∷ ns))
boot-spells n ns h =
    let form = boot-head n ns h in
    let g = generation-is n form in
    record { form = form; spelt = subst (Spells n) (sym (ap (λ (o : Option ℕ). unwrap_or o 0) g.1)) (spells n g.0 g.1) }

-- the file of the last generation
pub boot-file : (f : List ℕ → Option (List ℕ)) (boot : List (List ℕ)) (g : ℕ) → AreAllNames f boot → boot_damage boot ≡ None → boot_generation boot ≡ g → 0 < g → IsSome (f (hex 8 g))
boot-file f [] g names sound last some = absurd (omega (arith, last, some))
boot-file f (n ∷ ns) g names sound last some =
    let head = boot-spells n ns sound in
    subst (λ (x : List ℕ). IsSome (f x)) (head.spelt.is ∙ ap (hex 8) last) (names.there n (has_head n ns))

is_boot-parts : (g : ℕ) (n : List ℕ) → (nat_lt 0 g && bytes_eq n (hex 8 g)) ≡ true → n ≡ hex 8 g
is_boot-parts g n h = (bytes_eq-Decides n (hex 8 g)).0 (and_parts (nat_lt 0 g) (bytes_eq n (hex 8 g)) h).1

-- it is the book's
pub boot-is : (f : Files) (boot : List (List ℕ)) (g : ℕ) → AreAllNames (f areas.Boot) boot → BootStands f g → boot_damage boot ≡ None → boot_generation boot ≡ g
boot-is f [] zero names h sound = refl
boot-is f [] (suc g) names h sound = absurd (has_none (hex 8 (suc g)) (names.all (hex 8 (suc g)) (boot-there f (suc g) h (omega arith))))
boot-is f (n ∷ ns) g names h sound =
    let head = boot-spells n ns sound in
    let same : n ≡ hex 8 g = is_boot-parts g n (sym (h.names n (generation-name n head.form)) ∙ names.there n (has_head n ns)) in
    hex-same (boot_generation (n ∷ ns)) g head.spelt.fits h.fits (sym head.spelt.is ∙ same)
