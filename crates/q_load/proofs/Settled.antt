-- The events of a load are settled by the number of its mails.
use Rattle.std.proofs.Common.{◌≡◌, ◌∙◌, ◌∷◌, [], List, None, Some, ap, refl, subst, sym, ℕ}
use Rattle.q_load.specs.Loads.{AreDue, begun, behind, first, HasOneSummary, ledger_of, summary_at}
use Rattle.q_model.specs.Ledger.{Ledger}
use Rattle.q_model.specs.declared.event.Event.{Event}

same_events : (mails : ℕ) (heard : List Event) (l : Ledger) (es fs : List Event) → AreDue mails heard l es → AreDue mails heard l fs → es ≡ fs
same_events mails heard l [] [] h k = refl
same_events mails heard l [] (f ∷ fs) h k = let bad : None ≡ Some f = sym h ∙ k.0 in absurd cc
same_events mails heard l (e ∷ es) [] h k = let bad : None ≡ Some e = sym k ∙ h.0 in absurd cc
same_events mails heard l (e ∷ es) (f ∷ fs) h k =
    let both : Some e ≡ Some f = sym h.0 ∙ k.0 in
    let one : e ≡ f = cc in
    let rest = same_events mails (e ∷ heard) (behind l e) es fs h.1 (subst (λ (x : Event). AreDue mails (x ∷ heard) (behind l x) fs) (sym one) k.1) in
    ap (λ (x : Event). x ∷ es) one ∙ ap (λ (xs : List Event). f ∷ xs) rest

pub one_summary : HasOneSummary
one_summary mails s t a b =
    let same = same_events mails [] (behind begun first) a.heard b.heard a.are b.are in
    a.counts ∙ ap (λ (es : List Event). summary_at mails (ledger_of es)) same ∙ sym b.counts
