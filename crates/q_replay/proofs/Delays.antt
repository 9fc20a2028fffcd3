-- What a law of each moment of a run says of lives, one after another.
use Rattle.std.proofs.Common.{List, [], ◌∷◌}
use Rattle.q_inflation.specs.Bounds.{AtEachMoment, Call, IsCall}
use Rattle.q_lives.proofs.Throughout.{lives_orderly}
use Rattle.q_lives.specs.Lives.{AreLives, IsOrderly, Life}
use Rattle.q_model.specs.Book.{Book}
use Rattle.q_model.specs.Message.{Message}
use Rattle.q_model.specs.declared.entry.Entry.{Entry}
use Rattle.q_model.specs.declared.id.Id.{Id}
use Rattle.q_replay.specs.Spools.{call_of, EachMoment}

pub each_moment : (P : Call → Message → Id → List Entry → Type 0) → AtEachMoment P → (b : Book) (lives : List Life) → IsOrderly b → AreLives b lives → EachMoment P b lives
each_moment P law b [] orderly are = tt
each_moment P law b (life ∷ lives) orderly are =
    let is : IsCall (call_of b life) = record { usable = (are.0).usable; distinct = orderly.distinct; orderly = orderly.orderly; fits = (are.0).fits } in
    ((λ m id before since here. law (call_of b life) m id before since is here), each_moment P law life.left lives (lives_orderly b (life ∷ []) orderly (are.0, tt)) are.1)
