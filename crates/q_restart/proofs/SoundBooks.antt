-- Files that stand for an orderly book show no damage.
use Rattle.std.proofs.Common.{◌≡◌, ◌≢◌, ◌<◌, ◌-◌, ◌^◌, ℕ, Bool, true, false, not, ◌&&◌, ◌||◌, List, [], ◌∷◌, map, Option, Some, None, is_some, nat_lt, inl, inr, refl, sym, ap, subst, ◌∙◌, arith}
use Rattle.std.specs.Cmp.Lexicographic.{nat_list_cmp_total, slice_cmp}
use Rattle.std.specs.List.{AllByRecursion, Contains, list_all, list_any}
use Rattle.std.specs.List.Sorted.{IsStrictlySortedBy}
use Rattle.std.specs.Option.{IsSome, option_map, option_map_or, option_or}
use Rattle.std.specs.Ordering.{nat_cmp}
use Rattle.std.specs.Prelude.{bytes_eq, find, is_none, nat_le, slice_get}
use Rattle.std.specs.declared.cmp.Ordering.TheVariants.{Less}
use Rattle.std.proofs.lemmas.Bool.{and_parts, ltb-true, or_cases}
use Rattle.std.proofs.lemmas.List.Folds.{list_any-append}
use Rattle.std.proofs.lemmas.Slice.Eq.{bytes_eq-Decides}
use Rattle.std.proofs.lemmas.List.Elements.{Contains-append_left, Contains-append_right}
use Rattle.q_model.specs.declared.id.Id.{Id}
use Rattle.q_model.specs.declared.rows.Place.{Place}
use Rattle.q_model.specs.declared.spot.Area.{Area}
use Rattle.q_model.specs.declared.spot.Area.TheVariants as areas
use Rattle.q_model.specs.Book.{all_ids, Book, Damaged, damaged_of, message_of, stands, stands_in}
use Rattle.q_model.specs.FilesStand.{BootStands, DamagedStands, MessageStands, Stands}
use Rattle.q_model.specs.Ids.{cause_of, id_eq}
use Rattle.q_model.specs.IdTexts.{hex, IsId}
use Rattle.q_model.specs.Message.{Message}
use Rattle.q_model.specs.Orderly.{is_orderly, is_paired, is_sealed, is_sound}
use Rattle.q_model.specs.Places.{is_active, is_incoming, place_eq}
use Rattle.q_model.specs.SpoolFiles.{file_at, Files, IsPlace}
use Rattle.q_model.specs.Texts.{is_name}
use Rattle.q_model.specs.Values.{Spot}
use Rattle.q_model.proofs.EachLaws.{any-map, find-any}
use Rattle.q_model.proofs.IdLaws.{id_eq-true}
use Rattle.q_model.proofs.SpotLaws.{place_eq-refl, place_eq-true}
use Rattle.q_model.proofs.StandChanges.{Stands-message}
use Rattle.q_model.proofs.StandDamaged.{only_place_damaged}
use Rattle.q_model.proofs.StandLaws.{true_false}
use Rattle.q_model.proofs.StandRenames.{only_place}
use Rattle.q_restart.specs.declared.error.OpenError.{OpenError}
use Rattle.q_restart.specs.declared.error.OpenError.TheVariants as errors
use Rattle.q_restart.specs.declared.standing.Standing.{Standing}
use Rattle.q_restart.specs.Damages.{boot_damage, boot_spot, is_mispaired, repeated_behind, SpoolShows, standing_spot, walk_damage}
use Rattle.q_restart.specs.Generations.{generation_of}
use Rattle.q_restart.specs.Judgements.{IsRefused}
use Rattle.q_restart.specs.Walks.{AreAllNames, HasStanding, IsWalk, standing_cmp, standing_place}
use Rattle.q_restart.proofs.BootNames.{each-generation, generation-name, is_other}
use Rattle.q_restart.proofs.GenerationLaws.{generation_of-hex}
use Rattle.q_restart.proofs.Lists.{has_at, has_head, not_itself, sorted_cross, sorted_first}
use Rattle.q_restart.proofs.Opened.{standing-stands}
use Rattle.q_restart.proofs.Placing.{find-contains, repeated-is}
use Rattle.q_restart.proofs.Seen.{boot-is, no_boot}
use Rattle.q_restart.proofs.Standings.{standing_cmp_total}

-- ---- an id has one file

abbrev IsOnlyPlace : Files → Id → Place → Type 0
IsOnlyPlace f id q = (place : Place) → IsPlace place → IsSome (file_at f place id) → place ≡ q

only-by : (f : Files) (id : Id) (q place : Place) (t : Bool) → place_eq q place ≡ t → IsSome (file_at f place id) → (q ≢ place → file_at f place id ≡ None) → place ≡ q
only-by f id q place true e there gone = sym (place_eq-true q place e)
only-by f id q place false e there gone = absurd (true_false (is_some (file_at f place id)) there
    (ap is_some (gone (λ same. true_false (place_eq q place) (ap (place_eq q) (sym same) ∙ place_eq-refl q) e))))

the-place : (f : Files) (b : Book) (id : Id) → Stands f b → IsId id → (o : Option Message) → message_of b id ≡ o → (p : Option Damaged) → damaged_of b id ≡ p → (is_some o || is_some p) ≡ true → (q : Place) × IsOnlyPlace f id q
the-place f b id h hid (Some m) e p k there = (m.place, λ place hp some. only-by f id m.place place (place_eq m.place place) refl some (only_place f b id m h e hid place hp))
the-place f b id h hid None e (Some d) k there = (d.place, λ place hp some. only-by f id d.place place (place_eq d.place place) refl some (only_place_damaged f b id d h k hid place hp))
the-place f b id h hid None e None k there = absurd (true_false false there refl)

pub one-place : (f : Files) (b : Book) (s t : Standing) → Stands f b → HasStanding f s → HasStanding f t → s.id ≡ t.id → s.place ≡ t.place
one-place f b s t h hs ht same =
    let only = the-place f b s.id h hs.id (message_of b s.id) refl (damaged_of b s.id) refl (standing-stands f b s h hs) in
    only.1 s.place hs.place hs.there ∙ sym (only.1 t.place ht.place (subst (λ (i : Id). IsSome (file_at f t.place i)) (sym same) ht.there))

-- ---- no id twice

abbrev standing : Id → Place → Standing
standing id place = record { id = id; place = place }

pub none-repeated : (f : Files) (b : Book) (walk : List Standing) (s : Standing) → Stands f b → IsWalk f walk → repeated_behind [] walk ≡ Some s → ⊥
none-repeated f b walk s h is again =
    let r = repeated-is [] walk s again in
    let in_front : Contains walk r.first = subst (λ (xs : List Standing). Contains xs r.first) (sym r.split) (Contains-append_left r.before (s ∷ r.after) r.first r.there) in
    let here : Contains walk s = subst (λ (xs : List Standing). Contains xs s) (sym r.split) (Contains-append_right r.before (s ∷ r.after) s (has_head s r.after)) in
    let place = one-place f b r.first s h (is.there r.first in_front) (is.there s here) r.same in
    let same : r.first ≡ s = ap (λ (p : Place). standing r.first.id p) place ∙ ap (λ (i : Id). standing i s.place) r.same in
    let less = sorted_cross standing_cmp standing_cmp_total r.before (s ∷ r.after) r.first s (subst (IsStrictlySortedBy standing_cmp) r.split is.sorted) r.there (has_head s r.after) in
    not_itself standing_cmp standing_cmp_total s (subst (λ (x : Standing). standing_cmp x s ≡ Less) same less)

-- ---- no bounce beside its cause

any-each : {A : Type 0} (P : A → Type 0) (p : A → Bool) (xs : List A) → AllByRecursion P xs → list_any p xs ≡ true → (x : A) × P x × (p x ≡ true)
any-each P p [] h k = absurd cc
any-each P p (x ∷ xs) h k = elim (or_cases (p x) (list_any p xs) k) [ inl here ↦ (x, h.0, here) | inr behind ↦ any-each P p xs h.1 behind ]

all-any : (p : Id → Bool) (xs : List Id) (id : Id) → list_all p xs ≡ true → list_any (λ i. id_eq i id) xs ≡ true → p id ≡ true
all-any p [] id h k = absurd cc
all-any p (x ∷ xs) id h k =
    let two = and_parts (p x) (list_all p xs) h in
    elim (or_cases (id_eq x id) (list_any (λ i. id_eq i id) xs) k) [ inl here ↦ ap p (sym (id_eq-true x id here)) ∙ two.0 | inr behind ↦ all-any p xs id two.1 behind ]

among : (b : Book) (id : Id) → stands b id ≡ true → list_any (λ i. id_eq i id) (all_ids b) ≡ true
among b id there = list_any-append (λ i. id_eq i id) (map (λ (m : Message). m.id) b.messages) (map (λ (d : Damaged). d.id) b.damaged)
    ∙ ap (λ (t : Bool). t || list_any (λ i. id_eq i id) (map (λ (d : Damaged). d.id) b.damaged)) (any-map (λ i. id_eq i id) (λ (m : Message). m.id) b.messages ∙ sym (find-any (λ (m : Message). id_eq m.id id) b.messages))
    ∙ ap (λ (t : Bool). is_some (message_of b id) || t) (any-map (λ i. id_eq i id) (λ (d : Damaged). d.id) b.damaged ∙ sym (find-any (λ (d : Damaged). id_eq d.id id) b.damaged))
    ∙ there

pub orderly-paired : (b : Book) (id : Id) → is_orderly b ≡ true → stands b id ≡ true → is_paired b id ≡ true
orderly-paired b id orderly there =
    let two = and_parts (list_all (λ i. nat_le i.generation b.generation && is_paired b i) (all_ids b)) (list_all (λ (m : Message). is_active m.place || is_sound m) b.messages) orderly in
    (and_parts (nat_le id.generation b.generation) (is_paired b id) (all-any (λ i. nat_le i.generation b.generation && is_paired b i) (all_ids b) id two.0 (among b id there))).1

pair-parts : (bounce cause in_incoming sealed : Bool) → bounce ≡ true → cause ≡ true → (not bounce || not cause || (in_incoming && sealed)) ≡ true → (in_incoming ≡ true) × (sealed ≡ true)
pair-parts true true true true hb hc h = (refl, refl)
pair-parts true true true false hb hc h = cc
pair-parts true true false sealed hb hc h = cc
pair-parts true false i s hb hc h = cc
pair-parts false c i s hb hc h = cc

-- where an id stands in incoming, its file does
incoming-there : (f : Files) (b : Book) (s : Standing) → Stands f b → HasStanding f s → stands_in is_incoming b s.id ≡ true → is_incoming s.place ≡ true
incoming-there f b s h hs there = elim (or_cases (list_any (λ (m : Message). id_eq m.id s.id && is_incoming m.place) b.messages) (list_any (λ (d : Damaged). id_eq d.id s.id && is_incoming d.place) b.damaged) there) [
  | inl at ↦
      let m = any-each (MessageStands f) (λ (m : Message). id_eq m.id s.id && is_incoming m.place) b.messages h.messages at in
      let two = and_parts (id_eq m.0.id s.id) (is_incoming m.0.place) m.2 in
      ap is_incoming (one-place f b s (standing m.0.id m.0.place) h hs (record { id = m.1.id; place = m.1.place; there = ap is_some m.1.there }) (sym (id_eq-true m.0.id s.id two.0))) ∙ two.1
  | inr at ↦
      let d = any-each (DamagedStands f) (λ (d : Damaged). id_eq d.id s.id && is_incoming d.place) b.damaged h.damaged at in
      let two = and_parts (id_eq d.0.id s.id) (is_incoming d.0.place) d.2 in
      ap is_incoming (one-place f b s (standing d.0.id d.0.place) h hs (record { id = d.1.id; place = d.1.place; there = ap is_some d.1.there }) (sym (id_eq-true d.0.id s.id two.0))) ∙ two.1
]

active-by : (f : Files) (b : Book) (t : Standing) → Stands f b → HasStanding f t → (o : Option Message) → message_of b t.id ≡ o → option_map_or (λ m. is_active m.place && is_sealed m) o false ≡ true → is_active t.place ≡ true
active-by f b t h ht None e there = absurd (true_false false there refl)
active-by f b t h ht (Some m) e there =
    let here = Stands-message f b t.id m h e in
    ap is_active (one-place f b t (standing m.id m.place) h ht (record { id = here.0.id; place = here.0.place; there = ap is_some here.0.there }) (sym here.1)) ∙ (and_parts (is_active m.place) (is_sealed m) there).0

both-false : (a b : Bool) → a ≡ true → b ≡ true → not (a && b) ≡ true → ⊥
both-false true true ha hb h = cc
both-false true false ha hb h = cc
both-false false b ha hb h = cc

cause-by : (f : Files) (b : Book) (walk : List Standing) (s : Standing) → Stands f b → IsWalk f walk → is_orderly b ≡ true → HasStanding f s → s.id.bounce ≡ true
    → (o : Option Standing) → find (λ (x : Standing). id_eq x.id (cause_of s.id)) walk ≡ o → option_map_or (λ cause. not (is_incoming s.place && is_active cause)) (option_map (λ (x : Standing). x.place) o) false ≡ true → ⊥
cause-by f b walk s h is orderly hs bounce None e wrong = true_false false wrong refl
cause-by f b walk s h is orderly hs bounce (Some t) e wrong =
    let found = find-contains (λ (x : Standing). id_eq x.id (cause_of s.id)) walk t e in
    let ht = is.there t found.0 in
    let same : t.id ≡ cause_of s.id = id_eq-true t.id (cause_of s.id) found.1 in
    let cause : stands b (cause_of s.id) ≡ true = ap (stands b) (sym same) ∙ standing-stands f b t h ht in
    let pair = pair-parts s.id.bounce (stands b (cause_of s.id)) (stands_in is_incoming b s.id) (option_map_or (λ m. is_active m.place && is_sealed m) (message_of b (cause_of s.id)) false) bounce cause
    (orderly-paired b s.id orderly (standing-stands f b s h hs)) in
    both-false (is_incoming s.place) (is_active t.place) (incoming-there f b s h hs pair.0)
    (active-by f b t h ht (message_of b t.id) refl (ap (λ (i : Id). option_map_or (λ m. is_active m.place && is_sealed m) (message_of b i) false) same ∙ pair.1)) wrong

pub none-mispaired : (f : Files) (b : Book) (walk : List Standing) (s : Standing) → Stands f b → IsWalk f walk → is_orderly b ≡ true → find (is_mispaired walk) walk ≡ Some s → ⊥
none-mispaired f b walk s h is orderly found =
    let at = find-contains (is_mispaired walk) walk s found in
    let two = and_parts s.id.bounce (option_map_or (λ cause. not (is_incoming s.place && is_active cause)) (standing_place walk (cause_of s.id)) false) at.1 in
    cause-by f b walk s h is orderly (is.there s at.0) two.0 (find (λ (x : Standing). id_eq x.id (cause_of s.id)) walk) refl two.1

-- ---- boot

-- a name in boot is that of the book's generation
boot-name : (f : Files) (g : ℕ) (boot : List (List ℕ)) (n : List ℕ) → BootStands f g → AreAllNames (f areas.Boot) boot → is_name n ≡ true → Contains boot n → (0 < g) × (n ≡ hex 8 g)
boot-name f g boot n h names form k =
    let two = and_parts (nat_lt 0 g) (bytes_eq n (hex 8 g)) (sym (h.names n form) ∙ names.there n k) in
    (ltb-true 0 g two.0, (bytes_eq-Decides n (hex 8 g)).0 two.1)

second-apart : (boot : List (List ℕ)) (n : List ℕ) → IsStrictlySortedBy (slice_cmp nat_cmp) boot → slice_get boot 1 ≡ Some n → (first : List ℕ) × (slice_get boot 0 ≡ Some first) × (slice_cmp nat_cmp first n ≡ Less)
second-apart [] n sorted at = absurd cc
second-apart (a ∷ boot) n sorted at = (a, refl, sorted_first (slice_cmp nat_cmp) nat_list_cmp_total a boot n sorted (has_at boot 0 n at))

none-boot-by : (f : Files) (g : ℕ) (boot : List (List ℕ)) (n : List ℕ) → BootStands f g → AreAllNames (f areas.Boot) boot → is_name n ≡ true
    → (o : Option (List ℕ)) → find is_other boot ≡ o → option_or o (slice_get boot 1) ≡ Some n → ⊥
none-boot-by f g boot n h names form (Some m) e named =
    let same : m ≡ n = cc in
    let found = find-contains is_other boot m e in
    let is = boot-name f g boot m h names (ap is_name same ∙ form) found.0 in
    true_false (is_other m) found.1 (ap is_none (ap generation_of is.1 ∙ generation_of-hex g is.0 h.fits))
none-boot-by f g boot n h names form None e named =
    let front = second-apart boot n names.sorted named in
    let first = boot-name f g boot front.0 h names (generation-name front.0 (each-generation boot 0 front.0 e front.1)) (has_at boot 0 front.0 front.1) in
    let second = boot-name f g boot n h names form (has_at boot 1 n named) in
    not_itself (slice_cmp nat_cmp) nat_list_cmp_total n (subst (λ (x : List ℕ). slice_cmp nat_cmp x n ≡ Less) (first.1 ∙ sym second.1) front.2)

pub none-boot : (f : Files) (g : ℕ) (boot : List (List ℕ)) (n : List ℕ) → BootStands f g → AreAllNames (f areas.Boot) boot → is_name n ≡ true → boot_damage boot ≡ Some n → ⊥
none-boot f g boot n h names form named = none-boot-by f g boot n h names form (find is_other boot) refl named

-- ---- no refusal

some-name : (m n : List ℕ) (area : Area) → Some (boot_spot m) ≡ Some (record { area = area; name = n }) → m ≡ n
some-name m n area e = ap (λ (s : Spot). s.name) (some_spot (boot_spot m) (record { area = area; name = n }) e)
  where
    some_spot : (x y : Spot) → Some x ≡ Some y → x ≡ y
    some_spot x y k = cc

module _ (f : Files) (b : Book) (boot : List (List ℕ)) (walk : List Standing) (shows : SpoolShows f boot walk) (h : Stands f b) (orderly : is_orderly b ≡ true) where
  none-walk : (o p : Option Standing) → repeated_behind [] walk ≡ o → find (is_mispaired walk) walk ≡ p → (s : Spot) → option_map standing_spot (option_or o p) ≡ Some s → ⊥
  none-walk (Some s) p e k spot named = none-repeated f b walk s h shows.files e
  none-walk None (Some s) e k spot named = none-mispaired f b walk s h shows.files orderly k
  none-walk None None e k spot named = absurd cc

  none-damaged : (area : Area) (n : List ℕ) → is_name n ≡ true → (o : Option (List ℕ)) → boot_damage boot ≡ o → option_or (option_map boot_spot o) (walk_damage walk) ≡ Some (record { area = area; name = n }) → ⊥
  none-damaged area n form (Some m) e named =
      let same : m ≡ n = some-name m n area named in
      none-boot f b.generation boot m h.boot shows.names (ap is_name same ∙ form) e
  none-damaged area n form None e named = none-walk (repeated_behind [] walk) (find (is_mispaired walk) walk) refl refl (record { area = area; name = n }) named

  -- what an orderly book's files show is refused for nothing but its last generation
  pub none-refused : b.generation < 2 ^ 32 - 1 → (e : OpenError) → IsRefused boot walk e → ⊥
  none-refused below errors.Disk refused = refused
  none-refused below errors.NoMemory refused = refused
  none-refused below (errors.Damaged area name) refused = none-damaged area name refused.1 (boot_damage boot) refl refused.0
  none-refused below errors.Spent refused =
      let last : 2 ^ 32 - 1 ≡ b.generation = sym refused.1 ∙ boot-is f boot b.generation shows.names h.boot (no_boot boot walk refused.0) in
      absurd (omega (arith, last, below))
