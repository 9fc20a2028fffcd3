-- What a step of a walk leaves ahead.
use Rattle.std.proofs.Common.{◌<◌, ◌≤◌, ◌+◌, arith, ◌≡◌, ◌∙◌, ◌⊎◌, ℕ, List, [], ◌∷◌, ◌++◌, Bool, true, false, Option, Some, None, ap, sym, subst, refl, inl, inr}
use Rattle.std.specs.List.{AllByRecursion}
use Rattle.std.specs.Option.{option_map}
use Rattle.std.specs.Prelude.{IfSome, IsSome}
use Rattle.std.specs.Ordering.{is_lt, nat_cmp}
use Rattle.std.specs.declared.cmp.Ordering.TheVariants.{Less}
use Rattle.std.specs.Cmp.Lexicographic.{slice_cmp}
use Rattle.std.proofs.lemmas.Bool.{false_from_ne_true}
use Rattle.std.proofs.lemmas.List.{append-nil}
use Rattle.q_host.specs.NamesLeft.{names_left}
use Rattle.q_host.specs.Reads.{IsAfter}
use Rattle.q_message.specs.FileHeads.{head_of}
use Rattle.q_model.specs.declared.id.Id.{Id}
use Rattle.q_model.specs.declared.rows.Place.{Place}
use Rattle.q_model.specs.declared.spot.Area.{Area}
use Rattle.q_model.specs.Book.{Book}
use Rattle.q_model.specs.FilesStand.{file_message, MessageStands, Stands}
use Rattle.q_model.specs.Message.{Message}
use Rattle.q_model.specs.QueueFile.{FileMessage, queue_file}
use Rattle.q_model.specs.SpoolFiles.{area_of, file_at, Files, name_at}
use Rattle.q_model.specs.Values.{FileHead}
use Rattle.q_books.specs.Spots.{spot_of}
use Rattle.q_scan.specs.Walks.{IsDueAhead, IsFirstDue, IsNextOf, IsUpToDate, IsWithin}
use Rattle.q_scan.specs.Walks.{Walk as Scan}
use Rattle.q_host.proofs.NamesInOrder.{after_on, either_order, not_both}
use Rattle.q_walk.specs.declared.queue.Queue.{Queue}
use Rattle.q_walk.specs.declared.queue.Queue.TheVariants as queues
use Rattle.q_walk.specs.declared.walk.Found.{Found}
use Rattle.q_walk.specs.declared.walk.Step.{Step}
use Rattle.q_walk.specs.declared.walk.Step.TheVariants as steps
use Rattle.q_walk.specs.declared.walk.Walk.{Walk}
use Rattle.q_walk.specs.Listed.{comes_before, listed, of_queue}
use Rattle.q_walk.specs.Queues.{held_behind, held_in, is_chosen, is_in, IsNamed, names_behind, queue_after, queue_area}
use Rattle.q_walk.specs.Steps.{IsFileFound, IsNextName, Leads, LeavesFewer, SaysFile}
use Rattle.q_walk.specs.Walks.{GivesNext, is_behind, IsAhead, left, walk_left}
use Rattle.q_walk.proofs.Held.{all_held, held_order, in_area, in_sound, in_within, IsHeld, IsThisOf, message_there, not_none, one_held, read_file, same_bytes}
use Rattle.q_walk.proofs.Ordered.{all_at, before_less, file_name, is_less, not_less, IsOneOf, left_all, left_none, left_skip, left_step}
use Rattle.q_model.proofs.EachLaws.{each-both, each-same}
use Rattle.q_model.specs.declared.queues.Queues.{Queues}

-- ---- queues, one behind another

queue_same : (x y : Queue) → Some x ≡ Some y → x ≡ y
queue_same x y e = cc

-- the messages behind a queue are those of the next one, and those behind that
pub behind_next : (chosen : Queues) (queue next : Queue) (b : Book) → queue_after queue ≡ Some next
    → held_behind chosen queue b ≡ left None (held_in chosen next b) ++ held_behind chosen next b
behind_next chosen queue next b is = behind queue is ∙ ap (λ (ms : List Message). ms ++ held_behind chosen next b) (sym (left_all (held_in chosen next b)))
  where
    behind : (q : Queue) → queue_after q ≡ Some next → held_behind chosen q b ≡ held_in chosen next b ++ held_behind chosen next b
    behind queues.Incoming e = ap (λ (n : Queue). held_in chosen n b ++ held_behind chosen n b) (queue_same queues.Active next e)
    behind queues.Active e = ap (λ (n : Queue). held_in chosen n b ++ held_behind chosen n b) (queue_same queues.Deferred next e)
    behind queues.Deferred e = sym (append-nil (held_in chosen queues.Hold b)) ∙ ap (λ (n : Queue). held_in chosen n b ++ held_behind chosen n b) (queue_same queues.Hold next e)
    behind queues.Hold e = absurd cc

-- a walk that begins at a queue has its messages ahead, and those behind it
pub begun : (f : Files) (b : Book) (w : Walk) → w.scan.area ≡ queue_area w.queue → w.scan.place ≡ None → IsUpToDate f w.scan
    → (ms : List Message) → ms ≡ left None (held_in w.queues w.queue b) ++ held_behind w.queues w.queue b → IsAhead f b w ms
begun f b w area place up ms all = record {
  area = area;
  up_to_date = up;
  all = all ∙ ap (λ (p : Option (List ℕ)). left p (held_in w.queues w.queue b) ++ held_behind w.queues w.queue b) (sym place);
}

-- at the first queue all are ahead
pub all_at_first : (chosen : Queues) (b : Book) → listed chosen b ≡ left None (held_in chosen queues.Incoming b) ++ held_behind chosen queues.Incoming b
all_at_first chosen b = ap (λ (ms : List Message). ms ++ held_behind chosen queues.Incoming b) (sym (left_all (held_in chosen queues.Incoming b)))

-- ---- the names of a queue, and its messages

some_there : (x : List ℕ) (o : Option (List ℕ)) → o ≡ Some x → IsSome o
some_there x o e = subst IsSome (sym e) refl

there_some : (o : Option (List ℕ)) → IsSome o → (x : List ℕ) × (o ≡ Some x)
there_some None h = absurd cc
there_some (Some x) h = (x, refl)

after_of : (p : Option (List ℕ)) (m : Message) → is_behind p m ≡ true → IsAfter p (file_name m)
after_of None m h = tt
after_of (Some name) m h = is_less (slice_cmp nat_cmp name (file_name m)) h

behind_of : (p : Option (List ℕ)) (m : Message) → IsAfter p (file_name m) → is_behind p m ≡ true
behind_of None m h = refl
behind_of (Some name) m h = ap is_lt h

head_read : (head : FileMessage → FileHead) (o : Option FileMessage) (x : FileHead) → option_map head o ≡ Some x → (m : FileMessage) × (o ≡ Some m)
head_read head None x e = absurd cc
head_read head (Some m) x e = (m, refl)

head_same : (x y : FileHead) → Some x ≡ Some y → x ≡ y
head_same x y e = cc

module _ (f : Files) (b : Book) (h : Stands f b) (chosen : Queues) (queue : Queue) (s : Scan) (area : s.area ≡ queue_area queue) where
  abbrev held : List Message
  held = held_in chosen queue b

  due_ahead : (m : Message) → IsHeld f queue m → is_behind s.place m ≡ true → IsDueAhead f s 999999999999 (file_name m)
  due_ahead m k past = record {
    there = subst (λ (a : Area). IsSome (f a (file_name m))) (in_area queue m.place k.inside ∙ sym area) (some_there k.stands.bytes (file_at f m.place m.id) k.stands.there);
    behind = after_of s.place m past;
    within = subst (λ (a : Area). IsWithin a 999999999999 (file_name m)) (sym area) (in_within queue m.place m.id k.stands.id k.stands.place k.inside);
  }

  nothing_left : IsNextOf f s 999999999999 None → left s.place held ≡ []
  nothing_left none = left_none s.place held (each-same (IsHeld f queue) (λ y. is_behind s.place y ≡ false) held
      (λ y k. false_from_ne_true (is_behind s.place y) (λ past. none (file_name y) (due_ahead y k past))) (all_held f b h chosen queue))

  module _ (x : List ℕ) (first : IsFirstDue f s 999999999999 x) where
    none_before : (y : Message) → IsHeld f queue y → slice_cmp nat_cmp (file_name y) x ≡ Less → is_behind s.place y ≡ false
    none_before y k less = false_from_ne_true (is_behind s.place y) (λ past. first.first (file_name y) (due_ahead y k past) less)

    same_side : (y : Message) → IsHeld f queue y → (file_name y ≡ x → ⊥)
        → (slice_cmp nat_cmp x (file_name y) ≡ Less) ⊎ ((x ≡ file_name y) ⊎ (slice_cmp nat_cmp (file_name y) x ≡ Less)) → is_behind s.place y ≡ is_behind (Some x) y
    same_side y k other (inl less) = behind_of s.place y (after_on s.place x (file_name y) first.due.behind less) ∙ sym (behind_of (Some x) y less)
    same_side y k other (inr (inl same)) = absurd (other (sym same))
    same_side y k other (inr (inr more)) = none_before y k more ∙ sym (not_less (slice_cmp nat_cmp x (file_name y)) (not_both (file_name y) x more))

    skipped : AllByRecursion (λ y. file_name y ≡ x → ⊥) held → left s.place held ≡ left (Some x) held
    skipped none = left_skip s.place x held (each-same (λ y. IsHeld f queue y × (file_name y ≡ x → ⊥)) (λ y. is_behind s.place y ≡ is_behind (Some x) y) held
        (λ y k. same_side y k.0 k.1 (either_order x (file_name y))) (each-both (IsHeld f queue) (λ y. file_name y ≡ x → ⊥) held (all_held f b h chosen queue) none))

    met : (m : Message) → IsOneOf m held → file_name m ≡ x → left s.place held ≡ m ∷ left (Some x) held
    met m there same =
        left_step s.place held m (held_order f b h chosen queue) there (behind_of s.place m (subst (IsAfter s.place) (sym same) first.due.behind))
        (each-same (IsHeld f queue) (λ y. comes_before y m ≡ true → is_behind s.place y ≡ false) held
        (λ y k before. none_before y k (subst (λ (n : List ℕ). slice_cmp nat_cmp (file_name y) n ≡ Less) same (before_less y m before))) (all_held f b h chosen queue))
        ∙ ap (λ (n : List ℕ). m ∷ left (Some n) held) same

    -- a name that is no file's is no message's
    unnamed : ((place : Place) (id : Id) → IsNamed queue x place id → ⊥) → AllByRecursion (λ y. file_name y ≡ x → ⊥) held
    unnamed never = each-same (IsHeld f queue) (λ y. file_name y ≡ x → ⊥) held
        (λ y k same. never y.place y.id (record { form = k.stands.id; fits = k.stands.place; inside = k.inside; says = same })) (all_held f b h chosen queue)

    module _ (place : Place) (id : Id) (named : IsNamed queue x place id) where
      -- a file stands at the name
      bytes_there : (bytes : List ℕ) × (file_at f place id ≡ Some bytes)
      bytes_there =
          let found = there_some (f s.area x) first.due.there in
          (found.0, ap (λ (a : Area). f a (name_at place id)) (in_area queue place named.inside ∙ sym area) ∙ ap (f s.area) named.says ∙ found.1)

      read_there : (bytes : List ℕ) → file_at f place id ≡ Some bytes → (y : Message) → IsHeld f queue y → file_name y ≡ x → queue_file bytes ≡ Some (file_message y)
      read_there bytes there y k same =
          let here : file_at f y.place y.id ≡ Some bytes = ap (λ (a : Area). f a (file_name y)) (in_area queue y.place k.inside ∙ sym (in_area queue place named.inside)) ∙ ap (f (area_of place)) (same ∙ sym named.says) ∙ there in
          ap queue_file (same_bytes bytes k.stands.bytes (file_at f y.place y.id) here k.stands.there) ∙ read_file k.stands.bytes (file_message y) k.stands.reads

      -- nor is that of a file that is no queue file
      unread : (bytes : List ℕ) → file_at f place id ≡ Some bytes → queue_file bytes ≡ None → AllByRecursion (λ y. file_name y ≡ x → ⊥) held
      unread bytes there none = each-same (IsHeld f queue) (λ y. file_name y ≡ x → ⊥) held
          (λ y k same. not_none (queue_file bytes) (file_message y) none (read_there bytes there y k same)) (all_held f b h chosen queue)

-- ---- steps

-- the walk came to a name
pub record IsAtName (f : Files) (old new : Walk) (x : List ℕ) : Type 0 where
  pub queues : new.queues ≡ old.queues
  pub queue : new.queue ≡ old.queue
  pub area : new.scan.area ≡ old.scan.area
  pub place : new.scan.place ≡ Some x
  pub up_to_date : IsUpToDate f new.scan
  pub next : IsNextName f old (Some x)

pub at_name : (f : Files) (old new : Walk) (o : Option (List ℕ)) (x : List ℕ) → o ≡ Some x → new.queues ≡ old.queues → new.queue ≡ old.queue → new.scan.area ≡ old.scan.area
    → IfSome o (λ y. new.scan.place ≡ Some y) → IsUpToDate f new.scan → IsNextName f old o → IsAtName f old new x
at_name f old new o x is chosen queue area place up next = record {
  queues = chosen;
  queue = queue;
  area = area;
  place = subst (λ (p : Option (List ℕ)). IfSome p (λ y. new.scan.place ≡ Some y)) is place;
  up_to_date = up;
  next = subst (IsNextName f old) is next;
}

-- behind it stand the same messages as before
pub behind_same : (b : Book) (old new : Walk) → new.queues ≡ old.queues → new.queue ≡ old.queue → held_behind new.queues new.queue b ≡ held_behind old.queues old.queue b
behind_same b old new chosen queue = ap (λ (q : Queues). held_behind q new.queue b) chosen ∙ ap (λ (q : Queue). held_behind old.queues q b) queue

-- where the next name is none, no message of the queue is left
pub ended : (f : Files) (b : Book) (w : Walk) (ms : List Message) → Stands f b → IsAhead f b w ms → IsNextName f w None → ms ≡ held_behind w.queues w.queue b
ended f b w ms h a next = a.all ∙ ap (λ (xs : List Message). xs ++ held_behind w.queues w.queue b) (by (is_chosen w.queues w.queue) refl)
  where
    by : (t : Bool) → is_chosen w.queues w.queue ≡ t → left w.scan.place (held_in w.queues w.queue b) ≡ []
    by true e = nothing_left f b h w.queues w.queue w.scan a.area (next.chosen e)
    by false e = ap (λ (t : Bool). left w.scan.place (of_queue t (is_in w.queue) b)) e

some_none : (x : List ℕ) → Some x ≡ None → ⊥
some_none x e = cc

-- a name comes of a queue that is chosen
came : (f : Files) (w : Walk) (x : List ℕ) → IsNextName f w (Some x) → (is_chosen w.queues w.queue ≡ true) × IsFirstDue f w.scan 999999999999 x
came f w x next = by (is_chosen w.queues w.queue) refl
  where
    by : (t : Bool) → is_chosen w.queues w.queue ≡ t → (is_chosen w.queues w.queue ≡ true) × IsFirstDue f w.scan 999999999999 x
    by true e = (e, next.chosen e)
    by false e = absurd (some_none x (next.passed e))

module _ (f : Files) (b : Book) (h : Stands f b) (old new : Walk) (ms : List Message) (a : IsAhead f b old ms) (x : List ℕ) (at : IsAtName f old new x) where
  abbrev here : List Message
  here = held_in old.queues old.queue b

  abbrev rest : List Message
  rest = held_behind old.queues old.queue b

  ahead_at : (zs : List Message) → zs ≡ left (Some x) here ++ rest → IsAhead f b new zs
  ahead_at zs is = record {
    area = at.area ∙ a.area ∙ ap queue_area (sym at.queue);
    up_to_date = at.up_to_date;
    all = is ∙ ap (λ (p : Option (List ℕ)). left p here ++ rest) (sym at.place)
        ∙ ap (λ (q : Queues). left new.scan.place (held_in q old.queue b) ++ held_behind q old.queue b) (sym at.queues)
        ∙ ap (λ (q : Queue). left new.scan.place (held_in new.queues q b) ++ held_behind new.queues q b) (sym at.queue);
  }

  first : IsFirstDue f old.scan 999999999999 x
  first = (came f old x at.next).1

  passed : AllByRecursion (λ y. file_name y ≡ x → ⊥) here → IsAhead f b new ms
  passed none = ahead_at ms (a.all ∙ ap (λ (zs : List Message). zs ++ rest) (skipped f b h old.queues old.queue old.scan a.area x first none))

  -- a name of another form is passed over
  pub passed_unnamed : ((place : Place) (id : Id) → IsNamed new.queue x place id → ⊥) → IsAhead f b new ms
  passed_unnamed never = passed (unnamed f b h old.queues old.queue old.scan a.area x first (λ place id is. never place id (subst (λ (q : Queue). IsNamed q x place id) (sym at.queue) is)))

  module _ (place : Place) (id : Id) (is_named : IsNamed new.queue x place id) where
    named : IsNamed old.queue x place id
    named = subst (λ (q : Queue). IsNamed q x place id) at.queue is_named

    there : (bytes : List ℕ) × (file_at f place id ≡ Some bytes)
    there = bytes_there f b h old.queues old.queue old.scan a.area x first place id named

    -- and so is a file that is no queue file
    pub passed_unread : SaysFile f place id None → IsAhead f b new ms
    passed_unread says = passed (unread f b h old.queues old.queue old.scan a.area x first place id named there.0 there.1 (says there.0 there.1))

    message_at : (found : Found) → IsFileFound place id there.0 found → (m : Message) × IsThisOf b.messages place id m
    message_at found is =
        let read = head_read head_of (queue_file there.0) found.head is.head in
        message_there f b h place id there.0 read.0 named.form named.fits (in_sound old.queue place named.inside) there.1 read.1

    gives : (found : Found) → IsFileFound place id there.0 found → (m : Message) → IsThisOf b.messages place id m → GivesNext f b new ms (Some found)
    gives found is m this =
        let stands = all_at (MessageStands f) b.messages m h.messages this.one in
        let inside : is_in old.queue m.place ≡ true = ap (is_in old.queue) this.same_place ∙ named.inside in
        let name : file_name m ≡ x = ap (λ (p : Place). name_at p m.id) this.same_place ∙ ap (name_at place) this.same_id ∙ named.says in
        let one = one_held f b h old.queues old.queue m (came f old x at.next).0 this.one inside in
        let reads = read_there f b h old.queues old.queue old.scan a.area x first place id named there.0 there.1 m (record { stands = stands; inside = inside }) name in (
          m,
          left (Some x) here ++ rest,
          a.all ∙ ap (λ (zs : List Message). zs ++ rest) (met f b h old.queues old.queue old.scan a.area x first m one name),
          record {
            stands = stands;
            spot = is.spot ∙ ap (λ (p : Place). spot_of p id) (sym this.same_place) ∙ ap (spot_of m.place) (sym this.same_id);
            id = is.same_id ∙ sym this.same_id;
            place = is.same_place ∙ sym this.same_place;
            head = head_same found.head (head_of (file_message m)) (sym is.head ∙ ap (option_map head_of) reads);
          },
          ahead_at (left (Some x) here ++ rest) refl,
        )

    -- a queue file is that of the next message
    pub given : (found : Found) → SaysFile f place id (Some found) → GivesNext f b new ms (Some found)
    given found says =
        let is = says there.0 there.1 in
        let this = message_at found is in
        gives found is this.0 this.1

-- a step over the same files
pub led : (f g : Files) (b : Book) (old new : Walk) (ms : List Message) (step : Step) → g ≡ f → (Stands g b → IsAhead g b old ms → Leads g b new ms step) → Stands f b → IsAhead f b old ms → Leads f b new ms step
led f g b old new ms step same h stands ahead =
    subst (λ (k : Files). Leads k b new ms step) same (h (subst (λ (k : Files). Stands k b) (sym same) stands) (subst (λ (k : Files). IsAhead k b old ms) (sym same) ahead))

-- ---- how many names are left

-- fewer than behind a name of the queue are left from the front of the next queue on
pub fewer_behind : (queue next : Queue) (old new : Option (List ℕ)) → queue_after queue ≡ Some next → new ≡ None → names_behind next + names_left new < names_behind queue + names_left old
fewer_behind queues.Incoming next old new after none = omega (arith, ap names_behind (queue_same queues.Active next after), ap names_left none)
fewer_behind queues.Active next old new after none = omega (arith, ap names_behind (queue_same queues.Deferred next after), ap names_left none)
fewer_behind queues.Deferred next old new after none = omega (arith, ap names_behind (queue_same queues.Hold next after), ap names_left none)
fewer_behind queues.Hold next old new after none = absurd cc

-- a name that was passed in a queue leaves fewer
pub fewer_named : (old new : Walk) (o : Option (List ℕ)) (name : List ℕ) → o ≡ Some name → new.queue ≡ old.queue → IfSome o (λ _. names_left new.scan.place < names_left old.scan.place) → walk_left new < walk_left old
fewer_named old new o name is queue fewer =
    let less = subst (λ (p : Option (List ℕ)). IfSome p (λ _. names_left new.scan.place < names_left old.scan.place)) is fewer in
    omega (arith, ap names_behind queue, less)

-- and what leaves fewer than no more leaves fewer
pub fewer_then : (old between new : Walk) → between.queue ≡ old.queue → names_left between.scan.place ≤ names_left old.scan.place → (step : Step) → LeavesFewer between new step → LeavesFewer old new step
fewer_then old between new queue left (steps.Given found) fewer = omega (arith, ap names_behind queue, left, fewer)
fewer_then old between new queue left steps.Passed fewer = omega (arith, ap names_behind queue, left, fewer)
fewer_then old between new queue left steps.Ended fewer = tt
