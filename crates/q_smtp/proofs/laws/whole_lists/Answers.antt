use Rattle.std.proofs.Common.{sym, ap, ◌∙◌, subst, List, ℕ, length}
use Rattle.q_model.specs.declared.outcome.Outcome.{Outcome}
use Rattle.q_smtp.specs.Dialogue.{dialogue, Settled}
use Rattle.q_smtp.specs.WholeDialogues.{whole_codes, whole_outcomes}
use Rattle.q_smtp.proofs.Endings.{dialogue_ends}
use Rattle.q_smtp.proofs.SettledLists.{settled_says}
use Rattle.q_smtp.proofs.Rests.{OfDialogue}
use Rattle.q_smtp.proofs.Wholes.{dialogue_form, dialogue_whole}
use Rattle.q_smtp.proofs.laws.whole_lists.Goals as goal

pub returns-clause-settled : goal.returns-clause-settled
returns-clause-settled c = settled_says

pub returns-clause-says : goal.returns-clause-says
returns-clause-says c = λ t codes said s.
    ap (λ (cs : List ℕ). (dialogue t cs).ending) s.begins ∙ (dialogue_ends t).whole (whole_codes s.whole) s.more _ (dialogue_whole t s.whole s.form) ∙ ap Settled (sym s.outcomes)

pub returns-clause-open : goal.returns-clause-open
returns-clause-open c = λ t codes e.
    let r = (dialogue_ends t).goes_on codes e in
    let w = dialogue_form t _ r.1 r.2 in
    (w.0, r.0, w.1, w.2)

pub returns-clause-broken : goal.returns-clause-broken
returns-clause-broken c = λ t codes e w.
    let said : List Outcome = whole_outcomes (length t.to) w.0 in
    (dialogue_ends t).broken codes e w.1 said (subst (λ (cs : List ℕ). OfDialogue t cs said) (sym w.3) (dialogue_whole t w.0 w.2))
