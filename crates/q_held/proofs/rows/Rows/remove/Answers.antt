use Rattle.std.proofs.Common.{◌≡◌, ◌∙◌, ap, false, List, None, not, Option, refl, set, Some, subst, sym, ℕ}
use Rattle.std.specs.Option.{is_some}
use Rattle.std.specs.Prelude.{filter}
use Rattle.q_chains.specs.Lists.{is_in, without}
use Rattle.q_held.proofs.Changes.{none_left, numbers_left, view_less, view_without}
use Rattle.q_held.proofs.Views.{below_in, plain_view, row_in, rows_view}
use Rattle.q_held.specs.Held.{Held, HeldRow, numbered, plain, rows_of}
use Rattle.q_held.specs.Sound.{IsSound, with_marks}
use Rattle.q_marked.specs.Marks.{Marks}
use Rattle.q_model.specs.Lists.{drop_first}
use Rattle.q_model.specs.declared.rows.Row.{Row}
use Rattle.q_peers.specs.Numbered.{first_such, has_number, Items, Numbered, row_at}
use Rattle.q_held.proofs.rows.Rows.remove.Goals as goal

none : (o : Option Row) → is_some o ≡ false → o ≡ None
none None h = refl
none (Some r) h = cc

-- no row has the number, and all stay
all_stay : (n : ℕ) (w v : Items) → v ≡ record w { items = filter (λ k. not (has_number n k)) w.items } → is_some (row_at n w.items) ≡ false → v ≡ w
all_stay n w v is h = is ∙ ap (λ (ks : List Numbered). record w { items = ks }) (none_left n w.items (none (row_at n w.items) h))

pub invariant_of-self : goal.invariant_of-self
invariant_of-self c =
    let a = c.self.inside in
    subst (λ (w : Items). IsSound w a.marks)
    (sym (all_stay c.args.number a.waiting c.remove.new.self c.remove.ensures.items (sym c.remove.ensures.taken ∙ c.if-not-remove.true))) c.self.invariant

pub returns-then-not-remove-clause-taken : goal.returns-then-not-remove-clause-taken
returns-then-not-remove-clause-taken c =
    let a = c.self.inside in
    let n = c.args.number in
    sym c.if-not-remove.true ∙ c.remove.ensures.taken
    ∙ ap (λ (ks : List Numbered). is_some (row_at n ks)) (sym (plain_view a.marks.marks a.waiting.items))
    ∙ ap (λ (v : Held). is_some (row_at n (plain v.items))) c.self.view_is

pub returns-then-not-remove-clause-items : goal.returns-then-not-remove-clause-items
returns-then-not-remove-clause-items c =
    let a = c.self.inside in
    let n = c.args.number in
    let marks = a.marks.marks in
    ap (λ (w : Items). record { items = with_marks marks w.items; room = w.room; most = w.most }) c.remove.ensures.items
    ∙ ap (λ (hs : List HeldRow). record { items = hs; room = a.waiting.room; most = a.waiting.most }) (view_less n marks marks a.waiting.items (λ j e. refl))
    ∙ ap (λ (v : Held). record v { items = filter (λ h. not (has_number n (numbered h))) v.items }) c.self.view_is

pub returns-then-not-remove-clause-rows : goal.returns-then-not-remove-clause-rows
returns-then-not-remove-clause-rows c = λ p first.
    let a = c.self.inside in
    let marks = a.marks.marks in
    let ks = a.waiting.items in
    let found = ap (first_such p) (sym (plain_view marks ks)) ∙ ap (λ (v : Held). first_such p (plain v.items)) c.self.view_is ∙ first in
    rows_view marks c.remove.new.self.items ∙ c.remove.ensures.rows p found
    ∙ ap (drop_first p) (sym (rows_view marks ks)) ∙ ap (λ (v : Held). drop_first p (rows_of v.items)) c.self.view_is

pub remove-requires-2 : goal.remove-requires-2
remove-requires-2 c =
    let a = c.self.inside in
    let n = c.args.number in
    below_in a.marks.numbers n a.marks.order c.stand_marked.ensures.below
    (ap (is_in n) c.self.invariant.order ∙ row_in n a.waiting.items (sym c.remove.ensures.taken ∙ c.if-not-remove.false))

pub invariant_of-self-2 : goal.invariant_of-self-2
invariant_of-self-2 c =
    let a = c.self.inside in
    let n = c.args.number in
    subst (λ (m : Marks). IsSound c.remove.new.self m) (sym c.remove-2.ensures)
    (subst (λ (w : Items). IsSound w (record a.marks { order = without n a.marks.order; marks = set a.marks.marks n false })) (sym c.remove.ensures.items)
    (record {
      order = ap (without n) c.self.invariant.order ∙ sym (numbers_left n a.waiting.items);
      numbers = c.self.invariant.numbers;
    }))

pub returns-clause-taken : goal.returns-clause-taken
returns-clause-taken c =
    let a = c.self.inside in
    let n = c.args.number in
    sym c.if-not-remove.false ∙ c.remove.ensures.taken
    ∙ ap (λ (ks : List Numbered). is_some (row_at n ks)) (sym (plain_view a.marks.marks a.waiting.items))
    ∙ ap (λ (v : Held). is_some (row_at n (plain v.items))) c.self.view_is

pub returns-clause-items : goal.returns-clause-items
returns-clause-items c =
    let a = c.self.inside in
    let n = c.args.number in
    let w = c.remove.new.self in
    ap (λ (m : Marks). record { items = with_marks m.marks w.items; room = w.room; most = w.most }) c.remove-2.ensures
    ∙ ap (λ (v : Items). record { items = with_marks (set a.marks.marks n false) v.items; room = v.room; most = v.most }) c.remove.ensures.items
    ∙ ap (λ (hs : List HeldRow). record { items = hs; room = a.waiting.room; most = a.waiting.most }) (view_without n false a.marks.marks a.waiting.items)
    ∙ ap (λ (v : Held). record v { items = filter (λ h. not (has_number n (numbered h))) v.items }) c.self.view_is

pub returns-clause-rows : goal.returns-clause-rows
returns-clause-rows c = λ p first.
    let a = c.self.inside in
    let marks = a.marks.marks in
    let ks = a.waiting.items in
    let found = ap (first_such p) (sym (plain_view marks ks)) ∙ ap (λ (v : Held). first_such p (plain v.items)) c.self.view_is ∙ first in
    rows_view c.remove-2.new.self.marks c.remove.new.self.items ∙ c.remove.ensures.rows p found
    ∙ ap (drop_first p) (sym (rows_view marks ks)) ∙ ap (λ (v : Held). drop_first p (rows_of v.items)) c.self.view_is
