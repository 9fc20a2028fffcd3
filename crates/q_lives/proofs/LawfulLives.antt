-- Lives leave a lawful book lawful.
use Rattle.std.proofs.Common.{◌≡◌, true, List, [], ◌∷◌, drop, map, take, Option, Some, None, ◌⊎◌, inl, inr, refl, sym, ap, ◌∙◌}
use Rattle.std.proofs.lemmas.Bool.{and_from, and_parts}
use Rattle.std.proofs.lemmas.List.{take-append-drop}
use Rattle.std.specs.Option.{option_map_or}
use Rattle.std.specs.Prelude.{slice_get}
use Rattle.q_laws.proofs.Runs.{run_lawful}
use Rattle.q_lives.specs.Lives.{IsOrderly, cut_book}
use Rattle.q_lives.proofs.Throughout.{ends_orderly, lives_orderly}
use Rattle.q_lives.proofs.ToolSteps.{StepsKeep, are_corrupt, end_orderly, files_named, worked_corrupt, worked_keeps}
use Rattle.q_lives.specs.Tools.{cut_step}
use Rattle.q_model.specs.ToolSteps.{ToolStep, after_step, fails, moves}
use Rattle.q_model.specs.declared.id.Id.{Id}
use Rattle.q_lives.specs.Lives.{AreLives, IsLeftBy, IsLife, Life, last_book, ledger_of}
use Rattle.q_model.specs.CutOff.{cut_off}
use Rattle.q_model.specs.Book.{Book, Damaged}
use Rattle.q_model.specs.Crashes.{IsCrashOf}
use Rattle.q_model.specs.Book.{all_ids}
use Rattle.q_model.specs.Ids.{are_distinct}
use Rattle.q_model.specs.Ledger.{Ledger}
use Rattle.q_model.specs.Orderly.{is_lawful, is_orderly}
use Rattle.q_model.specs.Run.{run_of}
use Rattle.q_model.specs.declared.entry.Entry.{Entry}
use Rattle.q_model.specs.declared.entry.Entry.TheVariants as entries

-- an entry that is cut off keeps the damaged files
cut_damaged : (e : Entry) (b : Book) → (cut_off e b).damaged ≡ b.damaged
cut_damaged (entries.Log id failure) b = refl
cut_damaged (entries.Life generation mode) b = refl
cut_damaged (entries.At t) b = refl
cut_damaged (entries.Arrive id sender to content) b = refl
cut_damaged (entries.Back id) b = refl
cut_damaged (entries.Admit id) b = refl
cut_damaged (entries.Load id from to) b = refl
cut_damaged (entries.Start number id site positions) b = refl
cut_damaged (entries.Preempt child parent transport need) b = refl
cut_damaged (entries.Reply number state outcomes) b = refl
cut_damaged (entries.Skip id site positions) b = refl
cut_damaged (entries.Mark id position) b = refl
cut_damaged (entries.Sync id) b = refl
cut_damaged (entries.Defer id due) b = refl
cut_damaged (entries.Bounce id) b = refl
cut_damaged (entries.Remove id) b = refl
cut_damaged (entries.Corrupt id) b = refl
cut_damaged (entries.Trigger kind) b = refl
cut_damaged entries.End b = refl

cut_on : (b : Book) (o : Option Entry) → (option_map_or (λ e. cut_off e b) o b).damaged ≡ b.damaged
cut_on b None = refl
cut_on b (Some e) = cut_damaged e b

end_damaged : (l : Ledger) (steps : List ToolStep) (left : Book) (h : IsLeftBy l steps left) → h.end.damaged ≡ l.book.damaged
end_damaged l steps left h = end h.ends
  where
    end : (h.end ≡ l.book) ⊎ (h.end ≡ cut_book l) → h.end.damaged ≡ l.book.damaged
    end (inl e) = ap (λ (b : Book). b.damaged) e
    end (inr e) = ap (λ (b : Book). b.damaged) e ∙ cut_on l.book (slice_get l.past 0)

crash_damaged : (b left : Book) → (left ≡ b) ⊎ IsCrashOf b left → left.damaged ≡ b.damaged
crash_damaged b left (inl e) = ap (λ (x : Book). x.damaged) e
crash_damaged b left (inr crash) = crash.damaged

-- ---- the names of damaged files

abbrev damaged_ids : Book → List Id
damaged_ids b = map (λ (d : Damaged). d.id) b.damaged

step_names : (b : Book) (s : ToolStep) → damaged_ids (after_step b s) ≡ damaged_ids b
step_names b (moves id place) = files_named id place b.damaged
step_names b (fails id position) = refl

cut_names : (b : Book) (s : ToolStep) → damaged_ids (cut_step b s) ≡ damaged_ids b
cut_names b (moves id place) = refl
cut_names b (fails id position) = refl

names_keep : StepsKeep (λ b c. damaged_ids c ≡ damaged_ids b)
names_keep = record { same = λ b. refl; join = λ a b c h k. k ∙ h; step = step_names; cut = cut_names }

-- a life and tools behind it leave the names of damaged files
pub left_names : (l : Ledger) (steps : List ToolStep) (left : Book) → IsLeftBy l steps left → map (λ (d : Damaged). d.id) left.damaged ≡ map (λ (d : Damaged). d.id) l.book.damaged
left_names l steps left h =
    ap (map (λ (d : Damaged). d.id)) (crash_damaged h.worked left h.leaves)
    ∙ worked_keeps (λ b c. damaged_ids c ≡ damaged_ids b) names_keep l steps left h
    ∙ ap (map (λ (d : Damaged). d.id)) (end_damaged l steps left h)

-- one life leaves a lawful book
life_lawful : (book : Book) (life : Life) → are_distinct (all_ids book) ≡ true → is_lawful book ≡ true → IsLife book life → IsOrderly life.left → is_lawful life.left ≡ true
life_lawful book life distinct lawful h good =
    let w = life.world in
    let all = run_of w life.mode book life.items in
    let l = ledger_of book life in
    let kept : is_lawful l.book ≡ true = run_lawful w life.mode book life.items h.usable distinct lawful h.fits (take life.count all) (drop life.count all) (sym (take-append-drop life.count all)) in
    let first : IsOrderly book = record { distinct = distinct; orderly = (and_parts (is_orderly book) (are_corrupt book.damaged) lawful).0 } in
    let ends = ends_orderly book life first h in
    let corrupt = ap are_corrupt (end_damaged l life.steps life.left h.left) ∙ (and_parts (is_orderly l.book) (are_corrupt l.book.damaged) kept).1 in
    let worked = worked_corrupt l life.steps life.left h.left (end_orderly l life.steps life.left ends.0 ends.1 h.left) corrupt in
    and_from (is_orderly life.left) (are_corrupt (life.left).damaged) good.orderly (ap are_corrupt (crash_damaged h.left.worked life.left h.left.leaves) ∙ worked)

pub lives_lawful : (book : Book) (lives : List Life) → are_distinct (all_ids book) ≡ true → is_lawful book ≡ true → AreLives book lives → is_lawful (last_book book lives) ≡ true
lives_lawful book [] distinct lawful h = lawful
lives_lawful book (life ∷ lives) distinct lawful h =
    let good : IsOrderly life.left = lives_orderly book (life ∷ []) (record { distinct = distinct; orderly = (and_parts (is_orderly book) (are_corrupt book.damaged) lawful).0 }) (h.0, tt) in
    lives_lawful life.left lives good.distinct (life_lawful book life distinct lawful h.0 good) h.1
