-- The marks of heads as tickets come and go.
use Rattle.std.proofs.Common.{◌≡◌, ◌≢◌, ◌∙◌, ◌≤◌, ◌<◌, [], ◌∷◌, ap, arith, Bool, cond, false, inl, inr, length, List, map, None, not, Option, option_map, refl, Some, subst, sym, true, ℕ}
use Rattle.std.proofs.lemmas.Bool.{both_ways, eqb-true, false_from_ne_true, ne_eqb, or_cases}
use Rattle.std.proofs.lemmas.List.{length-map}
use Rattle.std.proofs.lemmas.Map.Keys.{IsDistinct-cons}
use Rattle.std.proofs.lemmas.Map.Steps.{length-le_from_distinct_below}
use Rattle.std.specs.List.{AllByRecursion, IsDistinct, list_any}
use Rattle.std.specs.Option.{IfNone}
use Rattle.std.specs.Prelude.{eqb, filter, find, IfSome}
use Rattle.q_sorted.specs.declared.ticket.Ticket.{Ticket}
use Rattle.q_sorted.specs.Tickets.{goes_before, inserted, is_another, is_of, Rises}
use Rattle.q_heads.specs.Lanes.{AreKnown, class_of, is_same, is_the, stands}
use Rattle.q_heads.specs.Marks.{AreMarks, mark_in, mark_of}
use Rattle.q_heads.proofs.Standing.{all_stand, found, not_itself, same_is, same_refl, stands_here, stands_later}

-- The first of a lane, as a ticket of another lane comes or goes.
come_step : (e y : Ticket) (n : ℕ) (ys : List Ticket) (t u : Bool) → is_of n e ≡ false → find (is_of n) (inserted e ys) ≡ find (is_of n) ys → find (is_of n) (cond t (y ∷ inserted e ys) (cond u (e ∷ y ∷ ys) (y ∷ ys))) ≡ find (is_of n) (y ∷ ys)
come_step e y n ys true u other rest = ap (λ found. cond (is_of n y) (Some y) found) rest
come_step e y n ys false true other rest = rw other refl
come_step e y n ys false false other rest = refl

pub first_as_one_comes : (e : Ticket) (n : ℕ) (xs : List Ticket) → is_of n e ≡ false → find (is_of n) (inserted e xs) ≡ find (is_of n) xs
first_as_one_comes e n [] other = rw other refl
first_as_one_comes e n (y ∷ ys) other = come_step e y n ys (goes_before y e) (goes_before e y) other (first_as_one_comes e n ys other)

go_step : (e y : Ticket) (n : ℕ) (ys zs : List Ticket) (t : Bool) → is_same e y ≡ t → is_of n e ≡ false → find (is_of n) zs ≡ find (is_of n) ys → find (is_of n) (cond (not t) (y ∷ zs) zs) ≡ find (is_of n) (y ∷ ys)
go_step e y n ys zs true s other rest = rw (ap (is_of n) (sym (same_is e y s)) ∙ other) rest
go_step e y n ys zs false s other rest = ap (λ found. cond (is_of n y) (Some y) found) rest

pub first_as_one_goes : (e : Ticket) (n : ℕ) (xs : List Ticket) → is_of n e ≡ false → find (is_of n) (filter (is_another e) xs) ≡ find (is_of n) xs
first_as_one_goes e n [] other = refl
first_as_one_goes e n (y ∷ ys) other = go_step e y n ys (filter (is_another e) ys) (is_same e y) refl other (first_as_one_goes e n ys other)

-- Each ticket's lane is known.
known_step : (lanes : ℕ) (e y : Ticket) (ys : List Ticket) (t u : Bool) → e.group < lanes → AreKnown lanes (y ∷ ys) → AreKnown lanes (inserted e ys) → AreKnown lanes (cond t (y ∷ inserted e ys) (cond u (e ∷ y ∷ ys) (y ∷ ys)))
known_step lanes e y ys true u h known rest = (known.0, rest)
known_step lanes e y ys false true h known rest = (h, known)
known_step lanes e y ys false false h known rest = known

pub known_inserted : (lanes : ℕ) (e : Ticket) (xs : List Ticket) → e.group < lanes → AreKnown lanes xs → AreKnown lanes (inserted e xs)
known_inserted lanes e [] h known = (h, tt)
known_inserted lanes e (y ∷ ys) h known = known_step lanes e y ys (goes_before y e) (goes_before e y) h known (known_inserted lanes e ys h known.1)

left_step : (lanes : ℕ) (y : Ticket) (zs : List Ticket) (t : Bool) → y.group < lanes → AreKnown lanes zs → AreKnown lanes (cond t (y ∷ zs) zs)
left_step lanes y zs true h known = (h, known)
left_step lanes y zs false h known = known

pub known_left : (lanes : ℕ) (e : Ticket) (xs : List Ticket) → AreKnown lanes xs → AreKnown lanes (filter (is_another e) xs)
known_left lanes e [] known = tt
known_left lanes e (y ∷ ys) known = left_step lanes y (filter (is_another e) ys) (is_another e y) known.0 (known_left lanes e ys known.1)

another_step : (e y : Ticket) (ys zs : List Ticket) (t : Bool) → is_same e y ≡ t → e.group ≢ y.group → zs ≡ ys → cond (not t) (y ∷ zs) zs ≡ y ∷ ys
another_step e y ys zs true s other rest = absurd (other (ap (λ (x : Ticket). x.group) (same_is e y s)))
another_step e y ys zs false s other rest = ap (λ ws. y ∷ ws) rest

-- nothing goes where its lane isn't
pub nothing_goes : (lanes : ℕ) (e : Ticket) (xs : List Ticket) → lanes ≤ e.group → AreKnown lanes xs → filter (is_another e) xs ≡ xs
nothing_goes lanes e [] h known = refl
nothing_goes lanes e (y ∷ ys) h known = another_step e y ys (filter (is_another e) ys) (is_same e y) refl (λ same. omega (arith, same, h, known.0)) (nothing_goes lanes e ys h known.1)

-- Marks.
of_lane : (n : ℕ) (e : Ticket) (items : List Ticket) → find (is_of n) items ≡ Some e → e.group ≡ n
of_lane n e items h = eqb-true e.group n (found (is_of n) e items h).1

-- a mark and the head that it stands for
pub record IsMark (classes : List ℕ) (items : List Ticket) (mark : Ticket) : Type 0 where
  pub head : Ticket
  pub first : find (is_of mark.item) items ≡ Some head
  pub is : mark ≡ mark_of (class_of mark.item classes) head
  pub lane : head.group ≡ mark.item

mark_step : (classes : List ℕ) (items : List Ticket) (m : Ticket) (o : Option Ticket) → find (is_of m.item) items ≡ o → is_the m (option_map (mark_of (class_of m.item classes)) o) ≡ true → IsMark classes items m
mark_step classes items m None s h = absurd cc
mark_step classes items m (Some e) s h = record { head = e; first = s; is = same_is m (mark_of (class_of m.item classes) e) h; lane = of_lane m.item e items s }

other_step : (class lane : ℕ) (items : List Ticket) (x : Ticket) (o : Option Ticket) → find (is_of lane) items ≡ o → x.item ≢ lane → is_the x (option_map (mark_of class) o) ≡ false
other_step class lane items x None s other = refl
other_step class lane items x (Some e) s other =
    false_from_ne_true (is_same x (mark_of class e)) (λ h. other (ap (λ (y : Ticket). y.item) (same_is x (mark_of class e) h) ∙ of_lane lane e items s))

pub other_mark : (class lane : ℕ) (items : List Ticket) (x : Ticket) → x.item ≢ lane → is_the x (mark_in class lane items) ≡ false
other_mark class lane items x other = other_step class lane items x (find (is_of lane) items) refl other

module _ (classes : List ℕ) (items marks : List Ticket) (marked : AreMarks classes items marks) where
  pub mark_is : (m : Ticket) → stands m marks ≡ true → IsMark classes items m
  mark_is m h = mark_step classes items m (find (is_of m.item) items) refl (sym (marked m) ∙ h)

  pub mark_stands : (e : Ticket) → find (is_of e.group) items ≡ Some e → stands (mark_of (class_of e.group classes) e) marks ≡ true
  mark_stands e h =
      let mark = mark_of (class_of e.group classes) e in
      marked mark ∙ ap (λ (o : Option Ticket). is_the mark (option_map (mark_of (class_of e.group classes)) o)) h ∙ same_refl mark

  there_step : (lane : ℕ) (o : Option Ticket) → find (is_of lane) items ≡ o → IfSome (option_map (mark_of (class_of lane classes)) o) (λ m. stands m marks ≡ true)
  there_step lane None h = tt
  there_step lane (Some e) h =
      let same = of_lane lane e items h in
      subst (λ (n : ℕ). stands (mark_of (class_of n classes) e) marks ≡ true) same (mark_stands e (ap (λ (n : ℕ). find (is_of n) items) same ∙ h))

  -- the mark of a lane stands there
  pub mark_there : (lane : ℕ) → IfSome (mark_in (class_of lane classes) lane items) (λ m. stands m marks ≡ true)
  mark_there lane = there_step lane (find (is_of lane) items) refl

  -- each lane has one mark at most
  same_lane : (a b : Ticket) → stands a marks ≡ true → stands b marks ≡ true → a.item ≡ b.item → a ≡ b
  same_lane a b h k same =
      let p = mark_is a h in
      let q = mark_is b k in
      let heads : Some p.head ≡ Some q.head = sym p.first ∙ ap (λ (n : ℕ). find (is_of n) items) same ∙ q.first in
      let one : p.head ≡ q.head = cc in
      p.is ∙ ap (λ (n : ℕ). mark_of (class_of n classes) p.head) same ∙ ap (mark_of (class_of b.item classes)) one ∙ sym q.is

  abbrev Stand : List Ticket → Type 0
  Stand ms = (x : Ticket) → stands x ms ≡ true → stands x marks ≡ true

  -- no mark of these is of the lane
  abbrev AreOthers : ℕ → List Ticket → Type 0
  AreOthers lane ms = AllByRecursion (λ n. eqb lane n ≡ false) (map (λ m. m.item) ms)

  others : (lane : ℕ) (ms : List Ticket) → ((m : Ticket) → stands m ms ≡ true → lane ≢ m.item) → AreOthers lane ms
  others lane [] differ = tt
  others lane (m ∷ ms) differ = (ne_eqb lane m.item (differ m (stands_here m m ms refl)), others lane ms (λ y k. differ y (stands_later y m ms k)))

  apart : (ms : List Ticket) → Rises ms → Stand ms → IsDistinct eqb (map (λ m. m.item) ms)
  unfolding IsDistinct
  apart [] rising stand = tt
  apart (m ∷ ms) rising stand =
      let rest : Stand ms = λ y k. stand y (stands_later y m ms k) in
      let own = stand m (stands_here m m ms refl) in
      IsDistinct-cons eqb m.item (map (λ m. m.item) ms)
      (others m.item ms (λ y k same. both_ways (goes_before m y) (ap (goes_before m) (sym (same_lane m y own (rest y k) same)) ∙ not_itself m) (all_stand (λ z. goes_before m z ≡ true) y ms rising.0 k)))
      (apart ms rising.1 rest)

  lane_stands : (q : ℕ) (ms : List Ticket) → list_any (eqb q) (map (λ m. m.item) ms) ≡ true → (m : Ticket) × (stands m ms ≡ true) × (m.item ≡ q)
  lane_stands q [] h = absurd cc
  lane_stands q (m ∷ ms) h =
      elim (or_cases (eqb q m.item) (list_any (eqb q) (map (λ m. m.item) ms)) h) [
        | inl here ↦ (m, stands_here m m ms refl, sym (eqb-true q m.item here))
        | inr later ↦ let there = lane_stands q ms later in (there.0, stands_later there.0 m ms there.1, there.2)
      ]

  module _ (rising : Rises marks) (known : AreKnown (length classes) items) (lane : ℕ) (below : lane < length classes) (none : find (is_of lane) items ≡ None) where
    lacks : AreOthers lane marks
    lacks = others lane marks (λ m k same.
        let is = mark_is m k in
        let no : None ≡ Some is.head = sym none ∙ ap (λ (n : ℕ). find (is_of n) items) same ∙ is.first in
        absurd cc)

    below_each : (q : ℕ) → list_any (eqb q) (lane ∷ map (λ m. m.item) marks) ≡ true → q < length classes
    below_each q h =
        elim (or_cases (eqb q lane) (list_any (eqb q) (map (λ m. m.item) marks)) h) [
          | inl here ↦ omega (arith, eqb-true q lane here, below)
          | inr later ↦
              let there = lane_stands q marks later in
              let is = mark_is there.0 there.1 in
              let low : is.head.group < length classes = all_stand (λ e. e.group < length classes) is.head items known (found (is_of there.0.item) is.head items is.first).0 in
              omega (arith, low, is.lane, there.2)
        ]

    -- while a lane has no ticket, there are fewer marks than lanes
    pub few_marks : length marks < length classes
    few_marks =
        let most = length-le_from_distinct_below (lane ∷ map (λ m. m.item) marks) (length classes) (IsDistinct-cons eqb lane (map (λ m. m.item) marks) lacks (apart marks rising (λ x h. h))) below_each in
        omega (arith, most, length-map marks (λ (m : Ticket). m.item))

  room_step : (lane : ℕ) (o : Option Ticket) → find (is_of lane) items ≡ o → (find (is_of lane) items ≡ None → length marks < length classes) → IfNone (option_map (mark_of (class_of lane classes)) o) (length marks < length classes)
  room_step lane None h few = few h
  room_step lane (Some e) h few = tt

  -- the marks of other lanes leave room for one of this lane
  pub mark_room : (lane : ℕ) → Rises marks → AreKnown (length classes) items → lane < length classes → IfNone (mark_in (class_of lane classes) lane items) (length marks < length classes)
  mark_room lane rising known below = room_step lane (find (is_of lane) items) refl (λ none. few_marks rising known lane below none)
