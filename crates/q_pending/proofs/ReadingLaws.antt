-- What a reader has ahead, as it reads on and gives one recipient after another.
use Rattle.std.proofs.Common.{◌≡◌, ◌∙◌, ℕ, zero, suc, ◌+◌, ◌<◌, ◌≤◌, Bool, true, false, not, List, [], ◌∷◌, ◌++◌, length, filter, map, take, drop, slice_get, Option, Some, None, if◌then◌else◌, refl, sym, ap, subst, arith}
use Rattle.std.specs.Option.{IfSome, option_map, option_map_or}
use Rattle.std.proofs.lemmas.List.{drop_all, length-map, take-append-drop}
use Rattle.std.proofs.lemmas.Option.{slice_get-map}
use Rattle.q_logfile.specs.Flags.{AreFlags, flag_at}
use Rattle.q_message.specs.FileHeads.{head_of, IsHead}
use Rattle.q_message.specs.Names.{address_in}
use Rattle.q_message.specs.Pending.{AreTaken, cursor_at, IsPlaceBehind, position_behind, taken_at, taken_from, unmarked_from}
use Rattle.q_model.specs.declared.file_head.Cursor.{Cursor}
use Rattle.q_model.specs.FilesStand.{file_message, file_recipient}
use Rattle.q_model.specs.Message.{address_at, Message, pending, Recipient}
use Rattle.q_model.specs.QueueFile.{FileMessage, FileRecipient}
use Rattle.q_model.specs.SpoolFiles.{Files, logged_in}
use Rattle.q_model.specs.Values.{FileHead, Spot, Taken}
use Rattle.q_pending.proofs.FileLaws.{has_file, HasFile, left_behind, none_left, of_file}
use Rattle.q_pending.proofs.LoggedLaws.{pending_is}
use Rattle.q_pending.specs.declared.pending.Pending.{Pending}
use Rattle.q_pending.specs.Readings.{GivesPending, GivesUnmarked, HasNoneAhead, IsFileOfMessage, IsPendingAhead, IsUnmarkedAhead, KeepsAhead, pending_left}

-- ---- what is read

no_map : {A B : Type 0} (g : A → B) (xs : List A) → [] ≡ map g xs → xs ≡ []
no_map g [] h = refl
no_map g (x ∷ xs) h = absurd cc

-- the recipients that were read are ahead, where the batch before was given
pub read_ahead : (f : Files) (p q : Pending) (room : ℕ) → 1 ≤ room → length p.batch.items ≤ p.index → q.index ≡ 0 → q.spot ≡ p.spot
    → IfSome (f p.spot.area p.spot.name) (AreTaken p.next.position room q.batch.items) → IfSome (f p.spot.area p.spot.name) (IsPlaceBehind p.next.position room q.next) → KeepsAhead f p q
read_ahead f p q room some done first same taken behind m positions h =
    let here = f p.spot.area p.spot.name in
    let from = p.next.position in
    let file : HasFile (f p.spot.area p.spot.name) (file_message m) = has_file f m p.spot h.file in
    let xs = unmarked_from (file_message m) p.next.position in
    let items : q.batch.items ≡ taken_from (file_message m) p.next.position room = of_file here (file_message m) (λ x. q.batch.items ≡ taken_from x from room) file taken in
    let next : q.next ≡ cursor_at (file_message m) (position_behind (file_message m) p.next.position room) = of_file here (file_message m) (λ x. q.next ≡ cursor_at x (position_behind x from room)) file behind in
    let left : unmarked_from (file_message m) q.next.position ≡ drop room xs = ap (λ (c : Cursor). unmarked_from (file_message m) c.position) next ∙ left_behind (file_message m) from room some in
    let none : h.read ≡ [] = no_map (taken_at (file_message m)) h.read (sym (drop_all p.index p.batch.items done) ∙ h.items) in
    record {
      file = subst (λ (s : Spot). IsFileOfMessage f m s) (sym same) h.file;
      read = take room xs;
      items = ap (λ (k : ℕ). drop k q.batch.items) first ∙ items;
      all = h.all ∙ ap (λ (ps : List ℕ). ps ++ xs) none ∙ sym (ap (λ (ps : List ℕ). take room xs ++ ps) left ∙ take-append-drop room xs);
    }

none_taken : (m : FileMessage) (room : ℕ) (xs : List ℕ) → 1 ≤ room → length (map (taken_at m) (take room xs)) ≡ 0 → xs ≡ []
none_taken m room xs some none = none_left room xs some (sym (length-map (take room xs) (taken_at m)) ∙ none)

-- where none were read none are ahead
pub read_none : (f : Files) (p q : Pending) (room : ℕ) → 1 ≤ room → q.spot ≡ p.spot
    → IfSome (f p.spot.area p.spot.name) (AreTaken p.next.position room q.batch.items) → IfSome (f p.spot.area p.spot.name) (IsPlaceBehind p.next.position room q.next)
    → length q.batch.items ≡ 0 → HasNoneAhead f q
read_none f p q room some same taken behind none m positions h =
    let here = f p.spot.area p.spot.name in
    let from = p.next.position in
    let file : HasFile (f p.spot.area p.spot.name) (file_message m) = has_file f m p.spot (subst (λ (s : Spot). IsFileOfMessage f m s) same h.file) in
    let xs = unmarked_from (file_message m) p.next.position in
    let items : q.batch.items ≡ taken_from (file_message m) p.next.position room = of_file here (file_message m) (λ x. q.batch.items ≡ taken_from x from room) file taken in
    let next : q.next ≡ cursor_at (file_message m) (position_behind (file_message m) p.next.position room) = of_file here (file_message m) (λ x. q.next ≡ cursor_at x (position_behind x from room)) file behind in
    let all : unmarked_from (file_message m) p.next.position ≡ [] = none_taken (file_message m) room xs some (ap (λ (ts : List Taken). length ts) (sym items) ∙ none) in
    let left : unmarked_from (file_message m) q.next.position ≡ [] =
    ap (λ (c : Cursor). unmarked_from (file_message m) c.position) next ∙ left_behind (file_message m) from room some ∙ ap (drop room) all ∙ drop_all room [] (omega arith) in
    let read : h.read ≡ [] = no_map (taken_at (file_message m)) h.read (sym (drop_all q.index q.batch.items (omega (arith, none))) ∙ h.items) in
    h.all ∙ ap (λ (ps : List ℕ). ps ++ unmarked_from (file_message m) q.next.position) read ∙ left

-- ---- one after another

one_address : (o : Option Recipient) → option_map_or (λ (r : FileRecipient). r.address) (option_map file_recipient o) [] ≡ option_map_or (λ (r : Recipient). r.address) o []
one_address None = refl
one_address (Some r) = refl

address_same : (m : Message) (p : ℕ) → address_in (file_message m) p ≡ address_at m p
address_same m p =
    ap (λ (o : Option FileRecipient). option_map_or (λ (r : FileRecipient). r.address) o []) (slice_get-map file_recipient m.recipients p)
    ∙ one_address (slice_get m.recipients p)

drop_one : {A : Type 0} (xs : List A) (i : ℕ) (x : A) → slice_get xs i ≡ Some x → drop i xs ≡ x ∷ drop (suc i) xs
drop_one [] i x h = absurd cc
drop_one (y ∷ xs) zero x h = let same : y ≡ x = cc in ap (λ z. z ∷ xs) same
drop_one (y ∷ xs) (suc i) x h = drop_one xs i x h

first_same : {A : Type 0} (x y : A) (xs ys : List A) → x ∷ xs ≡ y ∷ ys → (x ≡ y) × (xs ≡ ys)
first_same x y xs ys h = (cc, cc)

-- the next of the batch is given
pub gives_next : (f : Files) (p q : Pending) (taken : Taken) → slice_get p.batch.items p.index ≡ Some taken → q.batch ≡ p.batch → q.index ≡ p.index + 1 → q.spot ≡ p.spot → q.next ≡ p.next
    → (m : Message) (positions : List ℕ) → IsUnmarkedAhead f m p positions → GivesUnmarked f m q positions (Some taken)
gives_next f p q taken here batch index spot next m positions h = by h.read (sym (drop_one p.batch.items p.index taken here) ∙ h.items) h.all
  where
    behind : List ℕ
    behind = unmarked_from (file_message m) p.next.position

    by : (read : List ℕ) → taken ∷ drop (suc p.index) p.batch.items ≡ map (taken_at (file_message m)) read → positions ≡ read ++ unmarked_from (file_message m) p.next.position → GivesUnmarked f m q positions (Some taken)
    by [] e all = absurd cc
    by (i ∷ read) e all =
        let two = first_same taken (taken_at (file_message m) i) (drop (suc p.index) p.batch.items) (map (taken_at (file_message m)) read) e in
        let position : taken.position ≡ i = ap (λ (t : Taken). t.position) two.0 in
        let one : q.index ≡ suc p.index = omega (arith, index) in (
          read ++ unmarked_from (file_message m) p.next.position,
          all ∙ ap (λ (k : ℕ). k ∷ (read ++ unmarked_from (file_message m) p.next.position)) (sym position),
          ap (λ (t : Taken). t.address) two.0 ∙ address_same m i ∙ ap (address_at m) (sym position),
          record {
            file = subst (λ (s : Spot). IsFileOfMessage f m s) (sym spot) h.file;
            read = read;
            items = ap (λ b. drop q.index b.items) batch ∙ ap (λ (k : ℕ). drop k p.batch.items) one ∙ two.1;
            all = ap (λ (c : Cursor). read ++ unmarked_from (file_message m) c.position) (sym next);
          },
        )

-- the files are the same, and what was answered is this
pub gives_same : (f h : Files) (p q : Pending) (o given : Option Taken) → f ≡ h → o ≡ given → ((m : Message) (positions : List ℕ) → IsUnmarkedAhead f m p positions → GivesUnmarked f m q positions o) → (m : Message) (positions : List ℕ) → IsUnmarkedAhead h m p positions → GivesUnmarked h m q positions given
gives_same f h p q o given same is gives =
    subst (λ (x : Option Taken). (m : Message) (positions : List ℕ) → IsUnmarkedAhead h m p positions → GivesUnmarked h m q positions x) is
    (subst (λ (x : Files). (m : Message) (positions : List ℕ) → IsUnmarkedAhead x m p positions → GivesUnmarked x m q positions o) same gives)

-- ---- the flags of the log

abbrev open_at : List Bool → ℕ → Bool
open_at flags i = not (flag_at flags i)

kept : (flags : List Bool) (i : ℕ) (is : List ℕ) (b : Bool) → flag_at flags i ≡ b → filter (open_at flags) (i ∷ is) ≡ (if b then filter (open_at flags) is else i ∷ filter (open_at flags) is)
kept flags i is true e = rw e refl
kept flags i is false e = rw e refl

-- one that has a record is passed over
pub passes_logged : (f : Files) (m : Message) (p q : Pending) (positions : List ℕ) (taken : Taken) → q.logged.items ≡ p.logged.items → flag_at q.logged.items taken.position ≡ true
    → ((us : List ℕ) → IsUnmarkedAhead f m p us → GivesUnmarked f m q us (Some taken)) → IsPendingAhead f m p positions → IsPendingAhead f m q positions
passes_logged f m p q positions taken same flag gives h =
    let g = gives h.unmarked h.ahead in
    record {
      unmarked = g.0;
      ahead = g.3;
      not_logged = h.not_logged ∙ ap (λ (flags : List Bool). filter (open_at flags) h.unmarked) (sym same) ∙ ap (filter (open_at q.logged.items)) g.1 ∙ kept q.logged.items taken.position g.0 true flag;
    }

-- another one is given
pub gives_open : (f : Files) (m : Message) (p q : Pending) (positions : List ℕ) (taken : Taken) → q.logged.items ≡ p.logged.items → flag_at q.logged.items taken.position ≡ false
    → ((us : List ℕ) → IsUnmarkedAhead f m p us → GivesUnmarked f m q us (Some taken)) → IsPendingAhead f m p positions → GivesPending f m q positions (Some taken)
gives_open f m p q positions taken same flag gives h =
    let g = gives h.unmarked h.ahead in (
      taken.position,
      filter (open_at q.logged.items) g.0,
      h.not_logged ∙ ap (λ (flags : List Bool). filter (open_at flags) h.unmarked) (sym same) ∙ ap (filter (open_at q.logged.items)) g.1 ∙ kept q.logged.items taken.position g.0 false flag,
      record { position = refl; address = g.2 },
      record { unmarked = g.0; ahead = g.3; not_logged = refl },
    )

pub gives_none : (f : Files) (m : Message) (p q : Pending) (positions : List ℕ) → ((us : List ℕ) → IsUnmarkedAhead f m p us → GivesUnmarked f m q us None) → IsPendingAhead f m p positions → GivesPending f m q positions None
gives_none f m p q positions gives h = h.not_logged ∙ ap (filter (open_at p.logged.items)) (gives h.unmarked h.ahead)

-- ---- the beginning

-- as many recipients as the head says
pub count_is : (f : Files) (m : Message) (spot : Spot) (head : FileHead) → IsFileOfMessage f m spot → IfSome (f spot.area spot.name) (IsHead head) → head.recipients ≡ length m.recipients
count_is f m spot head is reads =
    let file = has_file f m spot is in
    let told = subst (λ (o : Option (List ℕ)). IfSome o (IsHead head)) file.here reads in
    let same = of_some (ap (option_map head_of) (sym file.reads) ∙ told) in
    sym (ap (λ (h : FileHead). h.recipients) same) ∙ length-map m.recipients file_recipient
  where
    of_some : {A : Type 0} {x y : A} → Some x ≡ Some y → x ≡ y
    of_some h = cc

-- all pending ones are ahead
pub begins : (f : Files) (m : Message) (q : Pending) → IsFileOfMessage f m q.spot → q.batch.items ≡ [] → q.next.position ≡ 0 → AreFlags (length m.recipients) (logged_in f m.id) q.logged.items → IsPendingAhead f m q (pending m)
begins f m q file none first flags = record {
  unmarked = unmarked_from (file_message m) 0;
  ahead = record {
    file = file;
    read = [];
    items = ap (drop q.index) none ∙ drop_all q.index [] (omega arith);
    all = ap (unmarked_from (file_message m)) (sym first);
  };
  not_logged = pending_is f m q.logged.items file.stands flags;
}

-- where one was given, fewer are left
pub fewer_given : (new old : Pending) (o : Option Taken) (taken : Taken) → o ≡ Some taken → IfSome o (λ _. pending_left new < pending_left old) → pending_left new < pending_left old
fewer_given new old o taken is fewer = subst (λ (p : Option Taken). IfSome p (λ _. pending_left new < pending_left old)) is fewer
