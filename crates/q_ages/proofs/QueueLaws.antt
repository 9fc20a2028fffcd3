-- What is added to a table, message after message of a walk.
use Rattle.std.proofs.Common.{◌≡◌, List, flat_map, Option, Some, None, sym, subst}
use Rattle.q_ages.proofs.AddingLaws.{adds_none, adds_on}
use Rattle.q_ages.specs.Adding.{Adds}
use Rattle.q_model.specs.Book.{Book}
use Rattle.q_model.specs.FilesStand.{Stands}
use Rattle.q_model.specs.Message.{Message}
use Rattle.q_model.specs.SpoolFiles.{Files}
use Rattle.q_shape.specs.Counts.{Count}
use Rattle.q_shape.specs.declared.age_table.AgeTable.{AgeTable}
use Rattle.q_walk.specs.declared.walk.Found.{Found}
use Rattle.q_walk.specs.declared.walk.Walk.{Walk}
use Rattle.q_walk.specs.Walks.{GivesNext, IsAhead, IsFound}

-- What the loop over messages keeps: these are still to be counted, and behind them all are.
pub record HasQueued (f : Files) (b : Book) (counts : Message → List Count) (first now : AgeTable) (w : Walk) (ms : List Message) : Type 0 where
  pub left : List Message
  pub ahead : IsAhead f b w left
  pub then_all : (t : AgeTable) → Adds (flat_map counts left) now t → Adds (flat_map counts ms) first t

-- all are still to be counted
pub queued_first : (f : Files) (b : Book) (counts : Message → List Count) (t : AgeTable) (w : Walk) (ms : List Message) → IsAhead f b w ms → HasQueued f b counts t t w ms
queued_first f b counts t w ms ahead = record { left = ms; ahead = ahead; then_all = λ u later. later }

-- what the walk gives next, for files that are the same
pub gives_now : (f h : Files) (b : Book) (w v : Walk) (o given : Option Found) → f ≡ h → o ≡ given
    → ((ms : List Message) → Stands f b → IsAhead f b w ms → GivesNext f b v ms o) → (ms : List Message) → Stands h b → IsAhead h b w ms → GivesNext h b v ms given
gives_now f h b w v o given same is gives =
    subst (λ (x : Option Found). (ms : List Message) → Stands h b → IsAhead h b w ms → GivesNext h b v ms x) is
    (subst (λ (x : Files). (ms : List Message) → Stands x b → IsAhead x b w ms → GivesNext x b v ms o) same gives)

-- one more is counted
pub queued_less : (f n : Files) (b : Book) (counts : Message → List Count) (first now more : AgeTable) (w v : Walk) (ms : List Message) (found : Found) → n ≡ f → Stands f b
    → ((ms : List Message) → Stands f b → IsAhead f b w ms → GivesNext f b v ms (Some found)) → ((m : Message) → IsFound n m found → Adds (counts m) now more)
    → HasQueued f b counts first now w ms → HasQueued f b counts first more v ms
queued_less f n b counts first now more w v ms found same stands gives adds kept =
    let g = gives kept.left stands kept.ahead in
    let one : Adds (counts g.0) now more = adds g.0 (subst (λ (x : Files). IsFound x g.0 found) (sym same) g.3) in
    record {
      left = g.1;
      ahead = g.4;
      then_all = λ t later. kept.then_all t (subst (λ (xs : List Message). Adds (flat_map counts xs) now t) (sym g.2) (adds_on (counts g.0) (flat_map counts g.1) now more t one later));
    }

-- all are counted
pub queued_all : (f : Files) (b : Book) (counts : Message → List Count) (first now : AgeTable) (w v : Walk) (ms : List Message) → Stands f b
    → ((ms : List Message) → Stands f b → IsAhead f b w ms → GivesNext f b v ms None) → HasQueued f b counts first now w ms → Adds (flat_map counts ms) first now
queued_all f b counts first now w v ms stands gives kept =
    kept.then_all now (subst (λ (xs : List Message). Adds (flat_map counts xs) now now) (sym (gives kept.left stands kept.ahead)) (adds_none now))
