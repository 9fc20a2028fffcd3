use Rattle.std.proofs.Common.{◌∙◌, ap, find, sym}
use Rattle.q_sorted.specs.Tickets.{goes_before}
use Rattle.q_heads.specs.Lanes.{foremost, heads_behind, Lanes}
use Rattle.q_heads.specs.Marks.{mark_of, seen}
use Rattle.q_heads.proofs.Marked.{behind_none, behind_other, behind_some}
use Rattle.q_heads.proofs.heads.Heads.behind.Goals as goal

pub returns-in_err-mark : goal.returns-in_err-mark
returns-in_err-mark c =
    let a = c.self.inside in
    let h = c.args.head.now in
    let next = c.behind.ensures.is ∙ ap (λ m. find (goes_before m) a.marks.items) (c.mark_of.ensures ∙ ap (λ n. mark_of n h) c.class_of-class.ensures) in
    c.from_residual.ensures ∙ sym (behind_none (seen a.tickets a.classes.items) a.marks.items c.behind.ensures.rising c.self.invariant.marked h (sym next ∙ c.in_err-mark.was))
    ∙ ap (λ (s : Lanes). foremost (heads_behind h s)) c.self.view_is

pub returns-then-mark-class : goal.returns-then-mark-class
returns-then-mark-class c =
    let a = c.self.inside in
    let h = c.args.head.now in
    let next = c.behind.ensures.is ∙ ap (λ m. find (goes_before m) a.marks.items) (c.mark_of.ensures ∙ ap (λ n. mark_of n h) c.class_of-class.ensures) in
    c.first_of.ensures.is ∙ behind_some (seen a.tickets a.classes.items) a.marks.items c.behind.ensures.rising c.self.invariant.marked h c.in_ok-mark.mark (sym next ∙ c.in_ok-mark.was) (c.if-mark-class.true ∙ c.class_of-class.ensures)
    ∙ ap (λ (s : Lanes). foremost (heads_behind h s)) c.self.view_is

pub returns-else-mark-class : goal.returns-else-mark-class
returns-else-mark-class c =
    let a = c.self.inside in
    let h = c.args.head.now in
    let next = c.behind.ensures.is ∙ ap (λ m. find (goes_before m) a.marks.items) (c.mark_of.ensures ∙ ap (λ n. mark_of n h) c.class_of-class.ensures) in
    sym (behind_other (seen a.tickets a.classes.items) a.marks.items c.behind.ensures.rising c.self.invariant.marked h c.in_ok-mark.mark (sym next ∙ c.in_ok-mark.was) (λ same. c.if-mark-class.false (same ∙ sym c.class_of-class.ensures)))
    ∙ ap (λ (s : Lanes). foremost (heads_behind h s)) c.self.view_is
