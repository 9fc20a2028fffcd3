-- Which decision marks a recipient.
use Rattle.std.proofs.Common.{◌≡◌, ◌∙◌, Some, ap, true}
use Rattle.q_core.specs.Deciding.{is_answered, question_of}
use Rattle.q_core.specs.declared.decision.Decision.{Decision}
use Rattle.q_core.specs.declared.decision.Decision.TheVariants as decisions
use Rattle.q_core.specs.declared.state.Question.{Question}
use Rattle.q_engine.specs.Marks.{mark_of}
use Rattle.q_engine.specs.declared.carrying.Marked.{Marked}

some_same : (x y : Marked) → Some x ≡ Some y → x ≡ y
some_same x y h = cc

pub marks : (d : Decision) (m : Marked) → mark_of d ≡ Some m → d ≡ decisions.Mark m.id m.position
marks (decisions.Mark id position) m h = ap (λ (x : Marked). decisions.Mark x.id x.position) (some_same (record { id = id; position = position }) m h)
marks (decisions.Log id failure) m h = absurd cc
marks (decisions.Sync id) m h = absurd cc
marks (decisions.Skip id site entry) m h = absurd cc
marks (decisions.Defer id due) m h = absurd cc
marks (decisions.Back id) m h = absurd cc
marks (decisions.Bounce id) m h = absurd cc
marks (decisions.Remove id) m h = absurd cc
marks (decisions.Corrupt id place) m h = absurd cc
marks (decisions.Admit id place) m h = absurd cc
marks (decisions.Preempt child parent transport need) m h = absurd cc
marks (decisions.Start number id site) m h = absurd cc
marks (decisions.Read id from max) m h = absurd cc
marks decisions.LookActive m h = absurd cc
marks decisions.LookIncoming m h = absurd cc
marks (decisions.LookDeferred after until) m h = absurd cc

-- it asks nothing
pub mark_answered : (d : Decision) (m : Marked) (q : Question) → mark_of d ≡ Some m → q ≡ question_of d → is_answered q ≡ true
mark_answered d m q is asked = ap is_answered (asked ∙ ap question_of (marks d m is))
