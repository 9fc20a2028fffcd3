-- What is kept of marks as tickets come and go, and the heads that are found by them.
use Rattle.std.proofs.Common.{◌≡◌, ◌≢◌, ◌∙◌, ◌≤◌, ◌<◌, ◌||◌, ◌&&◌, ap, arith, Bool, false, inl, inr, length, List, None, not, Option, option_map, refl, Some, subst, sym, true, ℕ}
use Rattle.std.proofs.lemmas.Bool.{and_from, and_parts, both_ways, cases_eq, eq-eqb, eqb-true, ne_eqb}
use Rattle.std.proofs.lemmas.Bool.Decides.{nat_tests}
use Rattle.std.specs.Option.{IfNone}
use Rattle.std.specs.Prelude.{◌==◌, filter, find, IfSome}
use Rattle.q_sorted.specs.declared.ticket.Ticket.{Ticket}
use Rattle.q_sorted.specs.Tickets.{goes_before, inserted, is_another, is_of, Rises, Tickets}
use Rattle.q_heads.specs.Lanes.{AreKnown, class_of, foremost, goes_ahead, heads_behind, heads_of, is_the, Lanes, stands}
use Rattle.q_heads.specs.Marks.{AreMarks, IsSound, mark_in, mark_of, seen}
use Rattle.q_heads.proofs.Foremost.{foremost_is, foremost_none, head_from, head_stands}
use Rattle.q_heads.specs.Walking.{IsHeadOf}
use Rattle.q_heads.proofs.Marking.{first_as_one_comes, first_as_one_goes, known_inserted, known_left, mark_is, mark_room, mark_stands, mark_there, nothing_goes, other_mark}
use Rattle.q_heads.proofs.Standing.{first_found, found, none_found, stands_filtered}

-- The marks after a change of the tickets of one lane.
pub not_both : (a b : Bool) → (a || (b && not b)) ≡ a
not_both true b = refl
not_both false true = refl
not_both false false = refl

pub only_first : (b : Bool) → (false || (b && not false)) ≡ b
only_first true = refl
only_first false = refl

module _ (classes : List ℕ) (was items marks left : List Ticket) (lane : ℕ) (marked : AreMarks classes was marks) (others : (n : ℕ) → n ≢ lane → find (is_of n) items ≡ find (is_of n) was)
    (renewed : (x : Ticket) → stands x left ≡ (is_the x (mark_in (class_of lane classes) lane items) || stands x marks && not (is_the x (mark_in (class_of lane classes) lane was)))) where
  pub marks_renewed : AreMarks classes items left
  marks_renewed x =
      elim (cases_eq x.item lane) [
        | inl same ↦
            let own = marked x ∙ ap (λ (n : ℕ). is_the x (mark_in (class_of n classes) n was)) same in
            renewed x ∙ ap (λ (t : Bool). is_the x (mark_in (class_of lane classes) lane items) || t && not (is_the x (mark_in (class_of lane classes) lane was))) own
            ∙ not_both (is_the x (mark_in (class_of lane classes) lane items)) (is_the x (mark_in (class_of lane classes) lane was))
            ∙ ap (λ (n : ℕ). is_the x (mark_in (class_of n classes) n items)) (sym same)
        | inr other ↦
            renewed x ∙ ap (λ (t : Bool). t || stands x marks && not (is_the x (mark_in (class_of lane classes) lane was))) (other_mark (class_of lane classes) lane items x other)
            ∙ ap (λ (t : Bool). false || stands x marks && not t) (other_mark (class_of lane classes) lane was x other)
            ∙ only_first (stands x marks) ∙ marked x
            ∙ ap (λ (o : Option Ticket). is_the x (option_map (mark_of (class_of x.item classes)) o)) (sym (others x.item other))
      ]

-- A lane whose mark is renewed.
module _ (tickets marks : Tickets) (classes : List ℕ) (sound : IsSound tickets marks classes) (lane class : ℕ) (from : Option Ticket) (of : class ≡ class_of lane classes) (is : from ≡ mark_in class lane tickets.items) where
  pub from_there : IfSome from (λ m. stands m marks.items ≡ true)
  from_there = subst (λ (o : Option Ticket). IfSome o (λ m. stands m marks.items ≡ true)) (sym (is ∙ ap (λ (n : ℕ). mark_in n lane tickets.items) of)) (mark_there classes tickets.items marks.items sound.marked lane)

  pub from_room : Rises marks.items → lane < length classes → IfNone from (length marks.items < marks.room)
  from_room rising below =
      subst (λ (room : ℕ). IfNone from (length marks.items < room)) (sym sound.room)
      (subst (λ (o : Option Ticket). IfNone o (length marks.items < length classes)) (sym (is ∙ ap (λ (n : ℕ). mark_in n lane tickets.items) of)) (mark_room classes tickets.items marks.items sound.marked lane rising sound.known below))

  module _ (items : List Ticket) (left : Tickets) (to : Option Ticket) (next : to ≡ mark_in class lane items) (renewed : (x : Ticket) → stands x left.items ≡ (is_the x to || stands x marks.items && not (is_the x from))) (room : left.room ≡ marks.room) where
    sound_renewed : AreKnown (length classes) items → ((n : ℕ) → n ≢ lane → find (is_of n) items ≡ find (is_of n) tickets.items) → IsSound (record tickets { items = items }) left classes
    sound_renewed known others = record {
      known = known;
      marked = marks_renewed classes tickets.items items marks.items left.items lane sound.marked others
          (λ x. renewed x ∙ ap (λ (o : Option Ticket). is_the x o || stands x marks.items && not (is_the x from)) (next ∙ ap (λ (n : ℕ). mark_in n lane items) of)
          ∙ ap (λ (o : Option Ticket). is_the x (mark_in (class_of lane classes) lane items) || stands x marks.items && not (is_the x o)) (is ∙ ap (λ (n : ℕ). mark_in n lane tickets.items) of));
      room = room ∙ sound.room;
    }

-- a ticket comes
pub sound_inserted : (tickets marks new left : Tickets) (classes : List ℕ) (sound : IsSound tickets marks classes) (e : Ticket) (class : ℕ) (from to : Option Ticket) → new ≡ record tickets { items = inserted e tickets.items } → e.group < length classes → class ≡ class_of e.group classes
    → from ≡ mark_in class e.group tickets.items → to ≡ mark_in class e.group new.items → ((x : Ticket) → stands x left.items ≡ (is_the x to || stands x marks.items && not (is_the x from))) → left.room ≡ marks.room → IsSound new left classes
sound_inserted tickets marks new left classes sound e class from to come below of is next renewed room =
    subst (λ (s : Tickets). IsSound s left classes) (sym come)
    (sound_renewed tickets marks classes sound e.group class from of is (inserted e tickets.items) left to (next ∙ ap (λ (s : Tickets). mark_in class e.group s.items) come) renewed room (known_inserted (length classes) e tickets.items below sound.known)
    (λ n other. first_as_one_comes e n tickets.items (ne_eqb e.group n (λ same. other (sym same)))))

-- a ticket goes
pub sound_left : (tickets marks new left : Tickets) (classes : List ℕ) (sound : IsSound tickets marks classes) (e : Ticket) (class : ℕ) (from to : Option Ticket) → new ≡ record tickets { items = filter (is_another e) tickets.items } → class ≡ class_of e.group classes
    → from ≡ mark_in class e.group tickets.items → to ≡ mark_in class e.group new.items → ((x : Ticket) → stands x left.items ≡ (is_the x to || stands x marks.items && not (is_the x from))) → left.room ≡ marks.room → IsSound new left classes
sound_left tickets marks new left classes sound e class from to gone of is next renewed room =
    subst (λ (s : Tickets). IsSound s left classes) (sym gone)
    (sound_renewed tickets marks classes sound e.group class from of is (filter (is_another e) tickets.items) left to (next ∙ ap (λ (s : Tickets). mark_in class e.group s.items) gone) renewed room (known_left (length classes) e tickets.items sound.known)
    (λ n other. first_as_one_goes e n tickets.items (ne_eqb e.group n (λ same. other (sym same)))))

-- nothing goes from a lane that isn't there
pub none_goes : (tickets marks : Tickets) (classes : List ℕ) (v : Lanes) (e : Ticket) → IsSound tickets marks classes → seen tickets classes ≡ v → length classes ≤ e.group → v ≡ record v { items = filter (is_another e) v.items }
none_goes tickets marks classes v e sound view past =
    subst (λ (s : Lanes). s ≡ record s { items = filter (is_another e) s.items }) view
    (ap (λ items. seen (record tickets { items = items }) classes) (sym (nothing_goes (length classes) e tickets.items past sound.known)))

-- Marks of one class go by key, then by lane.
before_ahead : (class : ℕ) (a b : Ticket) → goes_before (mark_of class a) (mark_of class b) ≡ goes_ahead a b
before_ahead class a b = grind (arith, nat_tests)

-- one behind a mark is of its class, or of a later one
past_class : (m n k : Ticket) → goes_before m n ≡ true → n.group ≢ m.group → goes_before m k ≡ true → k.group ≡ m.group → goes_before k n ≡ true
past_class m n k h other b same = grind (arith, nat_tests)

module _ (s : Lanes) (marks : List Ticket) (rising : Rises marks) (marked : AreMarks s.classes s.items marks) where
  head_of_mark : (class : ℕ) (m : Ticket) → stands m marks ≡ true → m.group ≡ class → (e : Ticket) × IsHeadOf class s e × (m ≡ mark_of class e) × (find (is_of m.item) s.items ≡ Some e)
  head_of_mark class m h of =
      let is = mark_is s.classes s.items marks marked m h in
      let own : class_of m.item s.classes ≡ class = sym (ap (λ (x : Ticket). x.group) is.is) ∙ of in (
        is.head,
        record { of_class = ap (λ (n : ℕ). class_of n s.classes) is.lane ∙ own; first = ap (λ (n : ℕ). find (is_of n) s.items) is.lane ∙ is.first },
        is.is ∙ ap (λ (n : ℕ). mark_of n is.head) own,
        is.first,
      )

  mark_of_head : (class : ℕ) (e : Ticket) → IsHeadOf class s e → stands (mark_of class e) marks ≡ true
  mark_of_head class e is = subst (λ (n : ℕ). stands (mark_of n e) marks ≡ true) is.of_class (mark_stands s.classes s.items marks marked e is.first)

  -- The first of a class.
  pub first_none : (class : ℕ) → find (is_of class) marks ≡ None → foremost (heads_of class s) ≡ None
  first_none class h = foremost_none (heads_of class s) (λ x k.
      let there = mark_of_head class x (head_from class s x k) in
      both_ways (class == class) (none_found (is_of class) (mark_of class x) marks h there) (eq-eqb class class refl))

  pub first_some : (class : ℕ) (m : Ticket) → find (is_of class) marks ≡ Some m → find (is_of m.item) s.items ≡ foremost (heads_of class s)
  first_some class m h =
      let there = found (is_of class) m marks h in
      let is = head_of_mark class m there.0 (eqb-true m.group class there.1) in
      is.3 ∙ sym (foremost_is class s (heads_of class s) is.0 (λ x k. head_from class s x k) (head_stands class s is.0 is.1) (λ x k.
      sym (before_ahead class x is.0) ∙ ap (goes_before (mark_of class x)) (sym is.2)
      ∙ first_found (is_of class) m (mark_of class x) marks rising h (mark_of_head class x (head_from class s x k)) (eq-eqb class class refl)))

  module _ (h : Ticket) where
    -- a head behind it
    behind_parts : (x : Ticket) → stands x (heads_behind h s) ≡ true → IsHeadOf (class_of h.group s.classes) s x × (goes_ahead h x ≡ true)
    behind_parts x k =
        let both = and_parts (goes_ahead h x) (stands x (heads_of (class_of h.group s.classes) s)) (sym (stands_filtered (goes_ahead h) x (heads_of (class_of h.group s.classes) s)) ∙ k) in
        (head_from (class_of h.group s.classes) s x both.1, both.0)

    behind_mark : (x : Ticket) → stands x (heads_behind h s) ≡ true → (stands (mark_of (class_of h.group s.classes) x) marks ≡ true) × (goes_before (mark_of (class_of h.group s.classes) h) (mark_of (class_of h.group s.classes) x) ≡ true)
    behind_mark x k =
        let both = behind_parts x k in
        (mark_of_head (class_of h.group s.classes) x both.0, before_ahead (class_of h.group s.classes) h x ∙ both.1)

    pub behind_none : find (goes_before (mark_of (class_of h.group s.classes) h)) marks ≡ None → foremost (heads_behind h s) ≡ None
    behind_none none = foremost_none (heads_behind h s) (λ x k.
        let is = behind_mark x k in
        both_ways (goes_before (mark_of (class_of h.group s.classes) h) (mark_of (class_of h.group s.classes) x)) (none_found (goes_before (mark_of (class_of h.group s.classes) h)) (mark_of (class_of h.group s.classes) x) marks none is.0) is.1)

    pub behind_other : (m : Ticket) → find (goes_before (mark_of (class_of h.group s.classes) h)) marks ≡ Some m → m.group ≢ class_of h.group s.classes → foremost (heads_behind h s) ≡ None
    behind_other m next other = foremost_none (heads_behind h s) (λ x k.
        let is = behind_mark x k in
        let mark = mark_of (class_of h.group s.classes) h in
        let past = (found (goes_before mark) m marks next).1 in
        both_ways (goes_before (mark_of (class_of h.group s.classes) x) m) (first_found (goes_before mark) m (mark_of (class_of h.group s.classes) x) marks rising next is.0 is.1)
        (past_class mark m (mark_of (class_of h.group s.classes) x) past other is.1 refl))

    pub behind_some : (m : Ticket) → find (goes_before (mark_of (class_of h.group s.classes) h)) marks ≡ Some m → m.group ≡ class_of h.group s.classes → find (is_of m.item) s.items ≡ foremost (heads_behind h s)
    behind_some m next of =
        let class = class_of h.group s.classes in
        let mark = mark_of class h in
        let there = found (goes_before mark) m marks next in
        let is = head_of_mark class m there.0 of in
        let ahead : goes_ahead h is.0 ≡ true = sym (before_ahead class h is.0) ∙ ap (goes_before mark) (sym is.2) ∙ there.1 in
        is.3 ∙ sym (foremost_is class s (heads_behind h s) is.0 (λ x k. (behind_parts x k).0)
        (stands_filtered (goes_ahead h) is.0 (heads_of class s) ∙ and_from (goes_ahead h is.0) (stands is.0 (heads_of class s)) ahead (head_stands class s is.0 is.1)) (λ x k.
        let own = behind_mark x k in
        sym (before_ahead class x is.0) ∙ ap (goes_before (mark_of class x)) (sym is.2) ∙ first_found (goes_before mark) m (mark_of class x) marks rising next own.0 own.1))
