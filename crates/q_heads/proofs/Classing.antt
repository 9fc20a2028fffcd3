-- The marks after a lane came to be of another class.
use Rattle.std.proofs.Common.{◌≡◌, ◌∙◌, ◌<◌, ◌||◌, ◌&&◌, ap, Bool, false, inl, inr, length, List, not, Option, set, subst, sym, ℕ}
use Rattle.std.proofs.lemmas.Bool.{cases_eq}
use Rattle.std.proofs.lemmas.List.{get_or-set_other, get_or-set_same, length-set}
use Rattle.q_sorted.specs.declared.ticket.Ticket.{Ticket}
use Rattle.q_sorted.specs.Tickets.{Tickets}
use Rattle.q_heads.specs.Lanes.{AreKnown, class_of, is_the, stands}
use Rattle.q_heads.specs.Marks.{AreMarks, IsSound, mark_in}
use Rattle.q_heads.proofs.Marked.{not_both, only_first}
use Rattle.q_heads.proofs.Marking.{other_mark}

module _ (classes : List ℕ) (items marks left : List Ticket) (lane class : ℕ) (below : lane < length classes) (marked : AreMarks classes items marks)
    (renewed : (x : Ticket) → stands x left ≡ (is_the x (mark_in class lane items) || stands x marks && not (is_the x (mark_in (class_of lane classes) lane items)))) where
  abbrev classed : List ℕ
  classed = set classes lane class

  pub marks_classed : AreMarks classed items left
  marks_classed x =
      elim (cases_eq x.item lane) [
        | inl same ↦
            let own = marked x ∙ ap (λ (n : ℕ). is_the x (mark_in (class_of n classes) n items)) same in
            renewed x ∙ ap (λ (t : Bool). is_the x (mark_in class lane items) || t && not (is_the x (mark_in (class_of lane classes) lane items))) own
            ∙ not_both (is_the x (mark_in class lane items)) (is_the x (mark_in (class_of lane classes) lane items))
            ∙ ap (λ (n : ℕ). is_the x (mark_in n lane items)) (sym (get_or-set_same classes lane class 0 below))
            ∙ ap (λ (n : ℕ). is_the x (mark_in (class_of n classed) n items)) (sym same)
        | inr other ↦
            renewed x ∙ ap (λ (t : Bool). t || stands x marks && not (is_the x (mark_in (class_of lane classes) lane items))) (other_mark class lane items x other)
            ∙ ap (λ (t : Bool). false || stands x marks && not t) (other_mark (class_of lane classes) lane items x other)
            ∙ only_first (stands x marks) ∙ marked x
            ∙ ap (λ (n : ℕ). is_the x (mark_in n x.item items)) (sym (get_or-set_other classes lane x.item class 0 other))
      ]

-- a lane comes to be of another class
pub sound_classed : (tickets marks left : Tickets) (classes : List ℕ) (sound : IsSound tickets marks classes) (lane old class : ℕ) (from to : Option Ticket) → lane < length classes → old ≡ class_of lane classes → from ≡ mark_in old lane tickets.items → to ≡ mark_in class lane tickets.items →
    ((x : Ticket) → stands x left.items ≡ (is_the x to || stands x marks.items && not (is_the x from))) → left.room ≡ marks.room → IsSound tickets left (set classes lane class)
sound_classed tickets marks left classes sound lane old class from to below of is next renewed room =
    let count = length-set classes lane class in
    record {
      known = subst (λ n. AreKnown n tickets.items) (sym count) sound.known;
      marked = marks_classed classes tickets.items marks.items left.items lane class below sound.marked
          (λ x. renewed x ∙ ap (λ (o : Option Ticket). is_the x o || stands x marks.items && not (is_the x from)) next
          ∙ ap (λ (o : Option Ticket). is_the x (mark_in class lane tickets.items) || stands x marks.items && not (is_the x o)) (is ∙ ap (λ (n : ℕ). mark_in n lane tickets.items) of));
      room = room ∙ sound.room ∙ sym count;
    }
