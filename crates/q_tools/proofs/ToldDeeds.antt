-- Each line that a tool tells names a message with which a step was done before it.
use Rattle.std.proofs.Common.{◌≡◌, ◌∙◌, ◌+◌, ◌++◌, ◌∷◌, [], ℕ, Bool, true, false, List, length, take, Some, None, Option, refl, sym, ap, subst, append-nil, append_assoc}
use Rattle.std.specs.List.{list_any}
use Rattle.std.specs.Option.{option_map_or}
use Rattle.std.specs.Prelude.{codes, flat_map, if◌then◌else◌}
use Rattle.std.proofs.Math.Seq.{take-append-add}
use Rattle.std.proofs.lemmas.Bool.{or_left, or_right}
use Rattle.std.proofs.lemmas.List.Folds.{list_any-append}
use Rattle.q_model.specs.declared.id.Id.{Id}
use Rattle.q_model.specs.declared.rows.Place.{Place}
use Rattle.q_model.specs.declared.rows.Place.TheVariants as places
use Rattle.q_model.specs.Book.{Book, message_of, stands_in}
use Rattle.q_model.specs.Message.{Message, pending}
use Rattle.q_model.specs.ToolSteps.{fails, moves, ToolStep}
use Rattle.q_model.proofs.IdLaws.{id_eq-refl}
use Rattle.q_replay.specs.ToolLines.{AreToolLines, is_act_word, is_step_of, NamesDone, tool_line, tool_text, ToolLine}
use Rattle.q_super.specs.declared.acts.Act.{Act}
use Rattle.q_super.specs.declared.acts.Act.TheVariants as acts
use Rattle.q_super.specs.Acts.{goal_of, takes, word_of}
use Rattle.q_super.specs.Deeds.{Deed, deeds_of, does, expired, expiring, failing, flushed, line_of, lines_in, moving, steps_in, tells}
use Rattle.q_super.specs.EachDeeds.{each_deeds}
use Rattle.q_super.specs.Plays.{after_deeds, next_line}
use Rattle.q_super.specs.Standings.{taken}
use Rattle.q_tools.specs.Tasks.{deeds_for}
use Rattle.q_tools.specs.declared.task.Task.{Task}
use Rattle.q_tools.specs.declared.task.Task.TheVariants as tasks

-- the line is that of an act, with a message with which one of these steps was done
pub record IsDoneLine (past : List ToolStep) (line : List ℕ) : Type 0 where
  pub named : ToolLine
  pub is : line ≡ tool_line named
  pub names : NamesDone past named

-- so is each line among deeds, by the steps before it
abbrev pub TellsDone : List ToolStep → List Deed → Type 0
TellsDone past [] = Unit {0}
TellsDone past (does s ∷ ds) = TellsDone (past ++ s ∷ []) ds
TellsDone past (tells line ∷ ds) = IsDoneLine past line × TellsDone past ds

any_front : {A : Type 0} (p : A → Bool) (xs ys : List A) → list_any p xs ≡ true → list_any p (xs ++ ys) ≡ true
any_front p xs ys h = list_any-append p xs ys ∙ or_left (list_any p xs) (list_any p ys) h

any_last : {A : Type 0} (p : A → Bool) (xs : List A) (x : A) → p x ≡ true → list_any p (xs ++ x ∷ []) ≡ true
any_last p xs x h = list_any-append p xs (x ∷ []) ∙ or_right (list_any p xs) (list_any p (x ∷ [])) (or_left (p x) false h)

names_more : (past more : List ToolStep) (l : ToolLine) → NamesDone past l → NamesDone (past ++ more) l
names_more past more l h = record { word = h.word; done = any_front (is_step_of l.id) past more h.done }

-- ---- what is told of the first deeds

none_told : (steps : List ToolStep) (part : ℕ) → AreToolLines steps (take part [])
none_told steps part = record { lines = []; each = tt; part = part; told_is = refl }

pub told_front : (past : List ToolStep) (done rest : List Deed) (part : ℕ) → TellsDone past (done ++ rest) → AreToolLines (past ++ steps_in done) (lines_in done ++ take part (next_line rest))
told_front past [] [] part t = none_told (past ++ []) part
told_front past [] (does s ∷ rest) part t = none_told (past ++ []) part
told_front past [] (tells line ∷ rest) part t = record {
  lines = (t.0).named ∷ [];
  each = (names_more past [] (t.0).named (t.0).names, tt);
  part = part;
  told_is = ap (take part) ((t.0).is ∙ sym (append-nil (tool_line (t.0).named)));
}
told_front past (does s ∷ done) rest part t =
    subst (λ (steps : List ToolStep). AreToolLines steps (lines_in done ++ take part (next_line rest))) (append_assoc past (s ∷ []) (steps_in done)) (told_front (past ++ s ∷ []) done rest part t)
told_front past (tells line ∷ done) rest part t =
    let more = told_front past done rest part t.1 in
    record {
      lines = (t.0).named ∷ more.lines;
      each = (names_more past (steps_in done) (t.0).named (t.0).names, more.each);
      part = length (tool_line (t.0).named) + more.part;
      told_is = append_assoc line (lines_in done) (take part (next_line rest))
          ∙ ap (λ (xs : List ℕ). line ++ xs) more.told_is
          ∙ ap (λ (xs : List ℕ). xs ++ take more.part (tool_text more.lines)) (t.0).is
          ∙ sym (take-append-add (tool_line (t.0).named) (tool_text more.lines) more.part);
    }

-- ---- deeds of tools

line_done : (past : List ToolStep) (word : List ℕ) (id : Id) → is_act_word word ≡ true → list_any (is_step_of id) past ≡ true → IsDoneLine past (line_of word id)
line_done past word id act done = record { named = record { word = word; id = id }; is = refl; names = record { word = act; done = done } }

moving_tells : (past : List ToolStep) (word : List ℕ) (place : Place) (id : Id) (more : List Deed) → is_act_word word ≡ true → TellsDone (past ++ moves id place ∷ []) more → TellsDone past (moving word place id ++ more)
moving_tells past word place id more act rest = (line_done (past ++ moves id place ∷ []) word id act (any_last (is_step_of id) past (moves id place) (id_eq-refl id)), rest)

each_tells : {A : Type 0} (files : List A) (name : A → Id) (past : List ToolStep) (word : List ℕ) (place : Place) → is_act_word word ≡ true → TellsDone past (flat_map (λ f. moving word place (name f)) files)
each_tells [] name past word place act = tt
each_tells (f ∷ files) name past word place act =
    moving_tells past word place (name f) (flat_map (λ x. moving word place (name x)) files) act (each_tells files name (past ++ moves (name f) place ∷ []) word place act)

failing_tells : (past : List ToolStep) (id : Id) (positions : List ℕ) (word : List ℕ) → is_act_word word ≡ true → list_any (is_step_of id) past ≡ true → TellsDone past (failing id positions ++ tells (line_of word id) ∷ [])
failing_tells past id [] word act done = (line_done past word id act done, tt)
failing_tells past id (p ∷ positions) word act done =
    failing_tells (past ++ fails id p ∷ []) id positions word act (any_front (is_step_of id) past (fails id p ∷ []) done)

expiring_tells : (m : Message) → TellsDone [] (expiring m)
expiring_tells m = failing_tells (moves m.id places.Active ∷ []) m.id (pending m) (word_of acts.Expire) refl (or_left (is_step_of m.id (moves m.id places.Active)) false (id_eq-refl m.id))

act_word : (act : Act) → is_act_word (word_of act) ≡ true
act_word acts.Hold = refl
act_word acts.Release = refl
act_word acts.Requeue = refl
act_word acts.Expire = refl

if_tells : (b : Bool) (ds : List Deed) → TellsDone [] ds → TellsDone [] (if b then ds else [])
if_tells true ds h = h
if_tells false ds h = tt

one_tells : (word : List ℕ) (place : Place) (id : Id) → is_act_word word ≡ true → TellsDone [] (moving word place id)
one_tells word place id act = moving_tells [] word place id [] act tt

found_tells : (o : Option Message) → TellsDone [] (option_map_or expiring o [])
found_tells None = tt
found_tells (Some m) = expiring_tells m

deeds_tell : (act : Act) (id : Id) (b : Book) → TellsDone [] (deeds_of act id b)
deeds_tell acts.Hold id b = if_tells (stands_in (takes acts.Hold) b id) (moving (word_of acts.Hold) (goal_of acts.Hold) id) (one_tells (word_of acts.Hold) (goal_of acts.Hold) id refl)
deeds_tell acts.Release id b = if_tells (stands_in (takes acts.Release) b id) (moving (word_of acts.Release) (goal_of acts.Release) id) (one_tells (word_of acts.Release) (goal_of acts.Release) id refl)
deeds_tell acts.Requeue id b = if_tells (stands_in (takes acts.Requeue) b id) (moving (word_of acts.Requeue) (goal_of acts.Requeue) id) (one_tells (word_of acts.Requeue) (goal_of acts.Requeue) id refl)
deeds_tell acts.Expire id b = if_tells (stands_in (takes acts.Expire) b id) (expired b id) (found_tells (message_of b id))

-- ---- some deeds behind others

any_behind : {A : Type 0} (p : A → Bool) (xs ys : List A) → list_any p ys ≡ true → list_any p (xs ++ ys) ≡ true
any_behind p xs ys h = list_any-append p xs ys ∙ or_right (list_any p xs) (list_any p ys) h

-- so it is where more steps were done before
tells_later : (before past : List ToolStep) (ds : List Deed) → TellsDone past ds → TellsDone (before ++ past) ds
tells_later before past [] h = tt
tells_later before past (does s ∷ ds) h =
    subst (λ (steps : List ToolStep). TellsDone steps ds) (sym (append_assoc before past (s ∷ []))) (tells_later before (past ++ s ∷ []) ds h)
tells_later before past (tells line ∷ ds) h = (
  record { named = (h.0).named; is = (h.0).is; names = record { word = (h.0).names.word; done = any_behind (is_step_of (h.0).named.id) before past (h.0).names.done } },
  tells_later before past ds h.1,
)

tells_then : (past : List ToolStep) (ds more : List Deed) → TellsDone past ds → TellsDone (past ++ steps_in ds) more → TellsDone past (ds ++ more)
tells_then past [] more h k = subst (λ (steps : List ToolStep). TellsDone steps more) (append-nil past) k
tells_then past (does s ∷ ds) more h k =
    tells_then (past ++ s ∷ []) ds more h (subst (λ (steps : List ToolStep). TellsDone steps more) (sym (append_assoc past (s ∷ []) (steps_in ds))) k)
tells_then past (tells line ∷ ds) more h k = (h.0, tells_then past ds more h.1 k)

ids_tell : (act : Act) (ids : List Id) (b : Book) (past : List ToolStep) → TellsDone past (each_deeds act ids b)
ids_tell act [] b past = tt
ids_tell act (id ∷ ids) b past =
    let ds = deeds_of act id b in
    tells_then past ds (each_deeds act ids (after_deeds b ds))
    (subst (λ (steps : List ToolStep). TellsDone steps ds) (append-nil past) (tells_later past [] ds (deeds_tell act id b)))
    (ids_tell act ids (after_deeds b ds) (past ++ steps_in ds))

pub task_tells : (task : Task) (b : Book) → TellsDone [] (deeds_for task b)
task_tells (tasks.One act id) b = deeds_tell act id b
task_tells (tasks.Each act ids) b = ids_tell act ids b []
task_tells (tasks.All act) b = each_tells (taken act b) (λ s. s.id) [] (word_of act) (goal_of act) (act_word act)
task_tells (tasks.Flush domain) b = each_tells (flushed domain b) (λ s. s.id) [] (codes "flush") places.Incoming refl
