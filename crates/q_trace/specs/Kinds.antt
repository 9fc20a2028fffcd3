-- The words by which the lines of a trace begin.
use Rattle.std.specs.Prelude.{[], codes, List, ℕ, ◌∷◌}
use Rattle.q_trace.specs.declared.kind.Kind.{Kind}
use Rattle.q_trace.specs.declared.kind.Kind.TheVariants as kinds

-- the first word of a line
abbrev pub word_of : Kind → List ℕ
word_of kinds.Life = codes "life"
word_of kinds.At = codes "at"
word_of kinds.Arrive = codes "arrive"
word_of kinds.Back = codes "back"
word_of kinds.Admit = codes "admit"
word_of kinds.Load = codes "load"
word_of kinds.Start = codes "start"
word_of kinds.Preempt = codes "preempt"
word_of kinds.Reply = codes "reply"
word_of kinds.Skip = codes "skip"
word_of kinds.Log = codes "log"
word_of kinds.Mark = codes "mark"
word_of kinds.Sync = codes "sync"
word_of kinds.Defer = codes "defer"
word_of kinds.Bounce = codes "bounce"
word_of kinds.Remove = codes "remove"
word_of kinds.Corrupt = codes "corrupt"
word_of kinds.Trigger = codes "trigger"

-- all of them
abbrev pub all_kinds : List Kind
all_kinds =
    kinds.Life ∷ kinds.At ∷ kinds.Arrive ∷ kinds.Back ∷ kinds.Admit ∷ kinds.Load ∷ kinds.Start
    ∷ kinds.Preempt ∷ kinds.Reply ∷ kinds.Skip ∷ kinds.Log ∷ kinds.Mark ∷ kinds.Sync ∷ kinds.Defer
    ∷ kinds.Bounce ∷ kinds.Remove ∷ kinds.Corrupt ∷ kinds.Trigger ∷ []
