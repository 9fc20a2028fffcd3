-- From clap's answers to those of a command.
use Rattle.std.proofs.Common.{◌≡◌, List, [], ◌∷◌, Bool, true, false, Result, Ok, Err, ap, sym, subst, ◌∙◌, ◌||◌, ◌≢◌, inl, inr, length, nat_lt, arith}
use Rattle.std.proofs.lemmas.Bool.{lt-ltb}
use Rattle.clap.specs.declared.error.Error.{Error}
use Rattle.clap.specs.declared.error.kind.ErrorKind.TheVariants.{OutOfMemory}
use Rattle.clap.specs.Words.{HasKind, kind_of, Kinds, Row}
use Rattle.q_words.specs.declared.error.WordsError.{WordsError}
use Rattle.q_words.specs.Usages.{IsAnswer, IsUsageError}

-- an error for another cause than memory is a fault of the words
pub is-fault : (kinds : Kinds) (e : Error) → HasKind kinds e → kind_of e ≢ OutOfMemory → nat_lt 0 (length kinds) ≡ true
is-fault [] e (inl memory) other = absurd (other memory)
is-fault [] e (inr none) other = absurd none
is-fault (k ∷ ks) e h other = lt-ltb 0 (length (k ∷ ks)) (omega arith)

pub no-fault : (kinds : Kinds) → kinds ≡ [] → nat_lt 0 (length kinds) ≡ false
no-fault kinds is = ap (λ (ks : Kinds). nat_lt 0 (length ks)) is

-- clap let the words through
pub answer-ok : {T : Type 0} (fault : Bool) (rows other : List Row) (bad : List Row → Bool) (says : List Row → T → Type 0) (r : Result T WordsError) → fault ≡ false → rows ≡ other
    → IsAnswer (bad rows) (says rows) r → IsAnswer (fault || bad other) (says other) r
answer-ok fault rows other bad says (Ok x) whole same h = (ap (λ b. b || bad other) whole ∙ ap bad (sym same) ∙ h.0, subst (λ rs. says rs x) same h.1)
answer-ok fault rows other bad says (Err e) whole same h = λ u. ap (λ b. b || bad other) whole ∙ ap bad (sym same) ∙ h u

-- clap refused them
pub answer-err : {T : Type 0} (fault bad : Bool) (says : T → Type 0) (e : WordsError) → (IsUsageError e → fault ≡ true) → IsAnswer (fault || bad) says (Err e)
answer-err fault bad says e h = λ u. ap (λ b. b || bad) (h u)
