-- Runs that go on by one entry or by one turn.
use Rattle.std.proofs.Common.{Some, None, zero, suc, ◌+◌, ◌-◌, ◌<◌, ◌≡◌, ℕ, List, [], ◌∷◌, ◌++◌, refl, sym, ap, ◌∙◌, append_assoc, arith}
use Rattle.std.proofs.lemmas.List.{append-nil}
use Rattle.q_model.specs.declared.entry.Entry.{Entry}
use Rattle.q_model.specs.declared.event.LifeEvent.{LifeEvent}
use Rattle.q_model.specs.Ledger.{Ledger}
use Rattle.q_model.specs.Next.{next}
use Rattle.q_model.specs.Run.{turn, run, decide}
use Rattle.q_model.specs.Settings.{World}
use Rattle.q_model.specs.Step.{after, after_all}

pub after_all-append : (w : World) (l : Ledger) (es fs : List Entry) → after_all w l (es ++ fs) ≡ after_all w (after_all w l es) fs
unfolding after_all
after_all-append w l [] fs = refl
after_all-append w l (x ∷ es) fs = after_all-append w (after w l x) es fs

-- a run goes on by one turn
pub run-turn : (w : World) (l : Ledger) (items : List LifeEvent) (item : LifeEvent) → run w l (items ++ item ∷ []) ≡ run w l items ++ turn w (after_all w l (run w l items)) item
unfolding run after_all
run-turn w l [] item = append-nil (turn w l item)
run-turn w l (i ∷ items) item =
    let first = turn w l i in
    let m = after_all w l first in
    ap (λ (x : List Entry). first ++ x) (run-turn w m items item)
    ∙ sym (append_assoc first (run w m items) (turn w (after_all w m (run w m items)) item))
    ∙ ap (λ (k : Ledger). (first ++ run w m items) ++ turn w k item) (sym (after_all-append w l first (run w m items)))

-- A loop that tells the decisions: those told, and those that follow, are all of them.
pub decide-more : (w : World) (l : Ledger) (n i : ℕ) (es total : List Entry) (e : Entry) → i < n → next w (after_all w l es) ≡ Some e
    → es ++ decide (n - i) w (after_all w l es) ≡ total → (es ++ e ∷ []) ++ decide (n - (i + 1)) w (after_all w l (es ++ e ∷ [])) ≡ total
unfolding decide after_all
decide-more w l n i es total e lt h so_far =
    let k : n - i ≡ suc (n - (i + 1)) = omega arith in
    let m = after_all w l es in
    let one : decide (n - i) w m ≡ e ∷ decide (n - (i + 1)) w (after w m e) = rw (k, h, decide) refl in
    append_assoc es (e ∷ []) (decide (n - (i + 1)) w (after_all w l (es ++ e ∷ [])))
    ∙ ap (λ (x : Ledger). es ++ (e ∷ decide (n - (i + 1)) w x)) (after_all-append w l es (e ∷ []))
    ∙ ap (λ (x : List Entry). es ++ x) (sym one) ∙ so_far

none_follow : (k : ℕ) (w : World) (m : Ledger) → next w m ≡ None → decide k w m ≡ []
unfolding decide
none_follow zero w m h = refl
none_follow (suc k) w m h = rw (h, decide) refl

pub decide-ends : (w : World) (l : Ledger) (n i : ℕ) (es total : List Entry) → next w (after_all w l es) ≡ None → es ++ decide (n - i) w (after_all w l es) ≡ total → es ≡ total
decide-ends w l n i es total h so_far = sym (ap (λ (x : List Entry). es ++ x) (none_follow (n - i) w (after_all w l es) h) ∙ append-nil es) ∙ so_far
