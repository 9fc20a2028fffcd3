-- Boot's file has its next name: the files stand for the book of the next generation.
use Rattle.std.proofs.Common.{◌≡◌, ◌≢◌, ◌<◌, ◌+◌, ◌^◌, ℕ, Bool, true, false, List, [], Some, None, is_some, if◌then◌else◌, nat_lt, refl, sym, ap, subst, ◌∙◌, arith}
use Rattle.std.specs.Prelude.{◌&&◌, ◌==◌, bytes_eq}
use Rattle.std.proofs.lemmas.Bool.{eqb-true, false_from_ne_true}
use Rattle.std.proofs.lemmas.Bool.Decides.{nat_tests}
use Rattle.std.proofs.lemmas.Slice.Eq.{bytes_eq-Decides}
use Rattle.q_model.specs.declared.id.Id.{Id}
use Rattle.q_model.specs.declared.rows.Place.{Place}
use Rattle.q_model.specs.declared.spot.Area.{Area}
use Rattle.q_model.specs.declared.spot.Area.TheVariants as areas
use Rattle.q_model.specs.Book.{Book}
use Rattle.q_model.specs.FilesStand.{BootStands, DamagedStands, MessageStands, Stands}
use Rattle.q_model.specs.IdTexts.{hex, id_text}
use Rattle.q_model.specs.SpoolFiles.{area_of, file_at, Files, name_at}
use Rattle.q_model.specs.Texts.{is_name}
use Rattle.q_model.proofs.EachLaws.{each-same}
use Rattle.q_model.proofs.SpotLaws.{area_of-IsQueue}
use Rattle.q_model.proofs.StandLaws.{DamagedStands-kept, MessageStands-kept, true_false}
use Rattle.q_host.specs.Files.{moved, same_place, with_file, without_file}
use Rattle.q_host.proofs.Puts.{other_area, put-here, put-other, same_place-refl, same_place-true}
use Rattle.q_books.proofs.Calls.{Carries}
use Rattle.q_restart.specs.Raises.{raised}
use Rattle.q_restart.proofs.GenerationLaws.{is_name-hex}

abbrev pub raise_book : Book → Book
raise_book b = record b { generation = b.generation + 1 }

-- ---- other areas

pub raised-other : (g : ℕ) (f : Files) (a : Area) (n : List ℕ) → a ≢ areas.Boot → raised g f a n ≡ f a n
raised-other g f a n differ = by (g == 0)
  where
    by : (t : Bool) → (if t then with_file f areas.Boot (hex 8 1) [] else moved f areas.Boot (hex 8 g) areas.Boot (hex 8 (g + 1))) a n ≡ f a n
    by true = put-other f areas.Boot (hex 8 1) (Some []) a n (other_area areas.Boot (hex 8 1) a n differ)
    by false = put-other (without_file f areas.Boot (hex 8 g)) areas.Boot (hex 8 (g + 1)) (f areas.Boot (hex 8 g)) a n (other_area areas.Boot (hex 8 (g + 1)) a n differ)
        ∙ put-other f areas.Boot (hex 8 g) None a n (other_area areas.Boot (hex 8 g) a n differ)

-- ---- boot

abbrev is_boot : ℕ → List ℕ → Bool
is_boot k n = nat_lt 0 k && bytes_eq n (hex 8 k)

both : (a b : Bool) → a ≡ true → b ≡ true → (a && b) ≡ true
both true true h k = refl
both true false h k = cc
both false b h k = cc

neither : (a b : Bool) → b ≡ false → (a && b) ≡ false
neither true b h = h
neither false b h = refl

boot-yes : (k : ℕ) (n : List ℕ) → 0 < k → n ≡ hex 8 k → is_boot k n ≡ true
boot-yes k n some same = both (nat_lt 0 k) (bytes_eq n (hex 8 k)) (grind (arith, nat_tests)) ((bytes_eq-Decides n (hex 8 k)).1 same)

boot-no : (k : ℕ) (n : List ℕ) → n ≢ hex 8 k → is_boot k n ≡ false
boot-no k n differ = neither (nat_lt 0 k) (bytes_eq n (hex 8 k)) (false_from_ne_true (bytes_eq n (hex 8 k)) (λ e. differ ((bytes_eq-Decides n (hex 8 k)).0 e)))

apart : (n m : List ℕ) → same_place areas.Boot m areas.Boot n ≡ false → n ≢ m
apart n m e same = true_false (same_place areas.Boot m areas.Boot n) (ap (same_place areas.Boot m areas.Boot) same ∙ same_place-refl areas.Boot m) e

module _ (f : Files) (g : ℕ) (h : BootStands f g) where
  -- the first generation
  first-names : g ≡ 0 → (n : List ℕ) → is_name n ≡ true → (t : Bool) → same_place areas.Boot (hex 8 1) areas.Boot n ≡ t → is_some (with_file f areas.Boot (hex 8 1) [] areas.Boot n) ≡ is_boot (g + 1) n
  first-names zero n form true e =
      let same : n ≡ hex 8 1 = sym (same_place-true areas.Boot (hex 8 1) areas.Boot n e).1 in
      let one : g + 1 ≡ 1 = omega (arith, zero) in
      ap is_some (ap (with_file f areas.Boot (hex 8 1) [] areas.Boot) same ∙ put-here f areas.Boot (hex 8 1) (Some [])) ∙ sym (boot-yes (g + 1) n (omega arith) (same ∙ ap (hex 8) (sym one)))
  first-names zero n form false e =
      let one : g + 1 ≡ 1 = omega (arith, zero) in
      let none : nat_lt 0 g ≡ false = grind (arith, nat_tests, zero) in
      ap is_some (put-other f areas.Boot (hex 8 1) (Some []) areas.Boot n e) ∙ h.names n form ∙ ap (λ (t : Bool). t && bytes_eq n (hex 8 g)) none
      ∙ sym (boot-no (g + 1) n (λ same. apart n (hex 8 1) e (same ∙ ap (hex 8) one)))

  -- a later one
  old-gone : (n : List ℕ) → is_name n ≡ true → (t : Bool) → same_place areas.Boot (hex 8 g) areas.Boot n ≡ t → is_some (without_file f areas.Boot (hex 8 g) areas.Boot n) ≡ false
  old-gone n form true e = ap is_some (ap (without_file f areas.Boot (hex 8 g) areas.Boot) (sym (same_place-true areas.Boot (hex 8 g) areas.Boot n e).1) ∙ put-here f areas.Boot (hex 8 g) None)
  old-gone n form false e = ap is_some (put-other f areas.Boot (hex 8 g) None areas.Boot n e) ∙ h.names n form ∙ boot-no g n (apart n (hex 8 g) e)

  next-names : 0 < g → (n : List ℕ) → is_name n ≡ true → (t : Bool) → same_place areas.Boot (hex 8 (g + 1)) areas.Boot n ≡ t
      → is_some (moved f areas.Boot (hex 8 g) areas.Boot (hex 8 (g + 1)) areas.Boot n) ≡ is_boot (g + 1) n
  next-names some n form true e =
      let same : n ≡ hex 8 (g + 1) = sym (same_place-true areas.Boot (hex 8 (g + 1)) areas.Boot n e).1 in
      ap is_some (ap (moved f areas.Boot (hex 8 g) areas.Boot (hex 8 (g + 1)) areas.Boot) same ∙ put-here (without_file f areas.Boot (hex 8 g)) areas.Boot (hex 8 (g + 1)) (f areas.Boot (hex 8 g)))
      ∙ h.names (hex 8 g) (is_name-hex g) ∙ boot-yes g (hex 8 g) some refl ∙ sym (boot-yes (g + 1) n (omega arith) same)
  next-names some n form false e =
      ap is_some (put-other (without_file f areas.Boot (hex 8 g)) areas.Boot (hex 8 (g + 1)) (f areas.Boot (hex 8 g)) areas.Boot n e) ∙ old-gone n form (same_place areas.Boot (hex 8 g) areas.Boot n) refl
      ∙ sym (boot-no (g + 1) n (apart n (hex 8 (g + 1)) e))

  raised-names : (n : List ℕ) → is_name n ≡ true → (t : Bool) → (g == 0) ≡ t
      → is_some ((if t then with_file f areas.Boot (hex 8 1) [] else moved f areas.Boot (hex 8 g) areas.Boot (hex 8 (g + 1))) areas.Boot n) ≡ is_boot (g + 1) n
  raised-names n form true e = first-names (eqb-true g 0 e) n form (same_place areas.Boot (hex 8 1) areas.Boot n) refl
  raised-names n form false e =
      let some : 0 < g = grind (arith, nat_tests, e) in
      next-names some n form (same_place areas.Boot (hex 8 (g + 1)) areas.Boot n) refl

  pub BootStands-raised : g + 1 < 2 ^ 32 → BootStands (raised g f) (g + 1)
  BootStands-raised fits = record { fits = fits; names = λ n form. raised-names n form (g == 0) refl }

-- there is a file where there was a generation
pub boot-there : (f : Files) (g : ℕ) → BootStands f g → 0 < g → is_some (f areas.Boot (hex 8 g)) ≡ true
boot-there f g h some = h.names (hex 8 g) (is_name-hex g) ∙ boot-yes g (hex 8 g) some refl

-- ---- the book

pub Stands-raised : (f : Files) (b : Book) → b.generation + 1 < 2 ^ 32 → Stands f b → Stands (raised b.generation f) (raise_book b)
Stands-raised f b fits h =
    let g = b.generation in
    let file : (p : Place) (i : Id) → file_at (raised g f) p i ≡ file_at f p i = λ p i. raised-other g f (area_of p) (name_at p i) (area_of-IsQueue p).not_boot in
    record {
      boot = BootStands-raised f g h.boot fits;
      distinct = h.distinct;
      messages = each-same (MessageStands f) (MessageStands (raised g f)) b.messages (λ m k. MessageStands-kept f (raised g f) m (file m.place m.id) (raised-other g f areas.Bounce (id_text m.id) not_boot) k) h.messages;
      damaged = each-same (DamagedStands f) (DamagedStands (raised g f)) b.damaged (λ d k. DamagedStands-kept f (raised g f) d (file d.place d.id) k) h.damaged;
      nothing_else = λ place i bytes hi hp there. h.nothing_else place i bytes hi hp (sym (file place i) ∙ there);
    }
  where
    not_boot : areas.Bounce ≡ areas.Boot → ⊥
    not_boot e = cc

bounce_not_boot : areas.Bounce ≡ areas.Boot → ⊥
bounce_not_boot e = cc

pub raises : (b : Book) → b.generation + 1 < 2 ^ 32 → Carries b raise_book (raised b.generation)
raises b fits = record {
  reads = λ f h. Stands-raised f b fits h;
  left = λ f l after h.
      let fits-left : l.generation + 1 < 2 ^ 32 = subst (λ (k : ℕ). k + 1 < 2 ^ 32) (sym after.generation) fits in
      subst (λ (k : ℕ). Stands (raised k f) (raise_book l)) after.generation (Stands-raised f l fits-left h);
  crash = λ l after. record { generation = ap (λ (k : ℕ). k + 1) after.generation; damaged = after.damaged; messages = after.messages };
  logs = λ f own i hi absent. raised-other b.generation f areas.Bounce (id_text i) bounce_not_boot ∙ own i hi absent;
}
