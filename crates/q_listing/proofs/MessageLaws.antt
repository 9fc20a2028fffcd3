-- The messages of a listing, told one behind another.
use Rattle.std.proofs.Common.{◌≡◌, ◌∙◌, ◌+◌, ◌∷◌, [], List, None, Some, ℕ, ap, arith, length, length-append, subst, sym}
use Rattle.std.specs.Prelude.{flat_map}
use Rattle.std.proofs.lemmas.List.Sums.{sum_by-append}
use Rattle.q_host.specs.View.{View}
use Rattle.q_model.specs.declared.id.Id.{Id}
use Rattle.q_model.specs.declared.rows.Place.{Place}
use Rattle.q_model.specs.Book.{Book}
use Rattle.q_model.specs.FilesStand.{Stands}
use Rattle.q_model.specs.Message.{Message, pending}
use Rattle.q_model.specs.SpoolFiles.{Files}
use Rattle.q_model.specs.Values.{FileHead}
use Rattle.q_telling.specs.Telling.{TellsFront, TellsMore}
use Rattle.q_telling.proofs.TellingLaws.{front_more, front_on, tells_on}
use Rattle.q_walk.specs.declared.walk.Found.{Found}
use Rattle.q_walk.specs.declared.walk.Walk.{Walk}
use Rattle.q_walk.proofs.Counts.{few_listed, few_recipients}
use Rattle.q_walk.specs.Counted.{counted}
use Rattle.q_walk.specs.Listed.{all_queues, listed}
use Rattle.q_walk.specs.Walks.{GivesNext, IsAhead, IsFound}
use Rattle.q_listing.specs.Listings.{found_line, lines_in, message_line, message_lines, notes_in, queue_text, recipient_count, recipient_lines, total_line}
use Rattle.q_listing.proofs.RecipientLaws.{found_still}
use Rattle.q_listing.proofs.ToldLaws.{IsToldTo, all_done, told_all, told_more, told_stops}

-- ---- one message

abbrev line_of : Message → List ℕ
line_of m = message_line (queue_text m.place) m.id (length m.content) m.arrival m.sender

same_head : (f : Files) (m : Message) (found : Found) → IsFound f m found → found_line found ≡ line_of m
same_head f m found is =
    ap (λ (p : Place). message_line (queue_text p) found.id found.head.content_len found.head.head.arrival found.head.head.sender) is.place
    ∙ ap (λ (i : Id). message_line (queue_text m.place) i found.head.content_len found.head.head.arrival found.head.head.sender) is.id
    ∙ ap (λ (h : FileHead). message_line (queue_text m.place) m.id h.content_len h.head.arrival h.head.sender) is.head

module _ (m : Message) (found : Found) (u v w : View) (is : IsFound u.files m found) where
  abbrev rest_of : Files → List ℕ
  rest_of f = recipient_lines (notes_in f m.id) m

  -- the head was told in part
  pub head_stops : TellsFront (found_line found) u v → TellsFront (message_lines (notes_in u.files m.id) m) u v
  head_stops part = front_more (line_of m) (rest_of u.files) u v (subst (λ (t : List ℕ). TellsFront t u v) (same_head u.files m found is) part)

  module _ (head : TellsMore (found_line found) u v) where
    head_told : TellsMore (line_of m) u v
    head_told = subst (λ (t : List ℕ). TellsMore t u v) (same_head u.files m found is) head

    -- it is found still when its head was told
    pub found_behind : IsFound v.files m found
    found_behind = found_still u.files v.files m found head.files is

    pub message_told : (n : ℕ) → (n ≡ length (pending m)) × TellsMore (recipient_lines (notes_in v.files m.id) m) v w
        → (n ≡ length (pending m)) × TellsMore (message_lines (notes_in u.files m.id) m) u w
    message_told n more = (
      more.0,
      tells_on (line_of m) (rest_of u.files) u v w head_told
          (subst (λ (f : Files). TellsMore (rest_of f) v w) head.files more.1),
    )

    pub message_stops : TellsFront (recipient_lines (notes_in v.files m.id) m) v w → TellsFront (message_lines (notes_in u.files m.id) m) u w
    message_stops part = front_on (line_of m) (rest_of u.files) u v w head_told
        (subst (λ (f : Files). TellsFront (rest_of f) v w) head.files part)

-- ---- all messages

-- the messages that are told, counted, and their recipients
abbrev pub AreCounted : ℕ → ℕ → List Message → Type 0
AreCounted messages recipients done = (messages ≡ counted (length done)) × (recipients ≡ counted (recipient_count done))

-- the messages are told up to where the walk stands
abbrev pub AreToldTo : Files → Book → List Message → Walk → ℕ → ℕ → View → View → Type 0
AreToldTo f b ms walk messages recipients u v = IsToldTo (lines_in f) ms (IsAhead f b walk) (AreCounted messages recipients) u v

module _ (b : Book) (ms : List Message) (messages recipients : ℕ) (p q : Walk) (u v w : View)
    (s : AreToldTo u.files b ms p messages recipients u v) (quiet : TellsMore [] v w) where
  here : IsAhead v.files b p s.rest
  here = subst (λ (f : Files). IsAhead f b p s.rest) (sym s.told.files) s.ahead

  -- the walk gives none
  pub messages_end : ((xs : List Message) → IsAhead v.files b p xs → GivesNext v.files b q xs None)
      → (messages ≡ counted (length ms)) × (recipients ≡ counted (recipient_count ms)) × TellsMore (flat_map (lines_in u.files) ms) u w
  messages_end next =
      let none = next s.rest here in
      let all = all_done (lines_in u.files) ms (IsAhead u.files b p) (AreCounted messages recipients) u v w s quiet none in (
        s.counted.0 ∙ ap (λ (xs : List Message). counted (length xs)) all,
        s.counted.1 ∙ ap (λ (xs : List Message). counted (recipient_count xs)) all,
        told_all (lines_in u.files) ms (IsAhead u.files b p) (AreCounted messages recipients) u v w s quiet none,
      )

  module _ (z : View) (found : Found) (next : (xs : List Message) → IsAhead v.files b p xs → GivesNext v.files b q xs (Some found)) where
    files_behind : w.files ≡ u.files
    files_behind = quiet.files ∙ s.told.files

    is_found : IsFound w.files (next s.rest here).0 found
    is_found = found_still v.files w.files (next s.rest here).0 found quiet.files (next s.rest here).3

    -- the next one is told
    pub messages_more : (n more sum : ℕ) → more ≡ counted (messages + 1) → sum ≡ counted (recipients + n) → ((m : Message) → IsFound w.files m found → (n ≡ length (pending m)) × TellsMore (lines_in w.files m) w z)
        → AreToldTo u.files b ms q more sum u z
    messages_more n more sum one added tell =
        let given = next s.rest here in
        let m = given.0 in
        let told = tell m is_found in
        told_more (lines_in u.files) ms (IsAhead u.files b p) (AreCounted messages recipients) u v w s quiet
        (IsAhead u.files b q) (AreCounted more sum) z m given.1 given.2
        (subst (λ (f : Files). TellsMore (lines_in f m) w z) files_behind told.1)
        (subst (λ (f : Files). IsAhead f b q given.1) s.told.files given.4)
        (λ count. (
          omega (arith, one, count.0, length-append s.done (m ∷ [])),
          omega (arith, added, count.1, told.0, sum_by-append (λ (x : Message). length (pending x)) s.done (m ∷ [])),
        ))

    pub messages_stop : ((m : Message) → IsFound w.files m found → TellsFront (lines_in w.files m) w z) → TellsFront (flat_map (lines_in u.files) ms) u z
    messages_stop tell =
        let given = next s.rest here in
        told_stops (lines_in u.files) ms (IsAhead u.files b p) (AreCounted messages recipients) u v w s quiet z given.0 given.1 given.2
        (subst (λ (f : Files). TellsFront (lines_in f given.0) w z) files_behind (tell given.0 is_found))

-- the last line by what was counted
pub same_total : (messages recipients : ℕ) (f : Files) (b : Book) → Stands f b → messages ≡ counted (length (listed all_queues b)) → recipients ≡ counted (recipient_count (listed all_queues b))
    → total_line messages recipients ≡ total_line (length (listed all_queues b)) (recipient_count (listed all_queues b))
same_total messages recipients f b stands count sum =
    let few = few_listed f b all_queues stands in
    let fits = few_recipients f b all_queues stands in
    let first : messages ≡ length (listed all_queues b) = omega (arith, count, few) in
    let second : recipients ≡ recipient_count (listed all_queues b) = omega (arith, sum, fits) in
    ap (λ (n : ℕ). total_line n recipients) first ∙ ap (λ (n : ℕ). total_line (length (listed all_queues b)) n) second
