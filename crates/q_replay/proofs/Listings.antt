-- What an event list says is what its first item is, and then what the lines behind it say.
use Rattle.std.proofs.Common.{◌≡◌, ℕ, suc, ◌+◌, Bool, true, false, cond, if◌then◌else◌, List, [], ◌∷◌, ◌++◌, length, take, drop, Option, Some, None, refl, sym, ap, ◌∙◌, append_assoc, append-nil, arith}
use Rattle.std.specs.List.{flat_map, list_all, prefix_len, take_while}
use Rattle.std.specs.Option.{option_map_or}
use Rattle.std.specs.Prelude.{option_and_then}
use Rattle.std.proofs.lemmas.Bool.{and_parts}
use Rattle.q_events.specs.EventList.{FirstItem, found, bad, past_limit, command_in, content_of, first_item, item_at, item_of, leads, meaning, passes_limit}
use Rattle.q_lines.specs.TextLines.{TextLine}
use Rattle.q_events.specs.declared.list_item.ListItem.{ListItem}
use Rattle.q_replay.specs.Listings.{Listing, listing}
use Rattle.q_replay.specs.Listings.{gives as says, bad as breaks, past_limit as passes}

abbrev pub Lines : Type 0
Lines = List TextLine

-- what stands first in these lines behind this content
abbrev first_from : List ℕ → ℕ → Lines → FirstItem
first_from content n lines = item_at (content ++ flat_map content_of (take_while leads lines)) (n + length (take_while leads lines)) (drop (length (take_while leads lines)) lines)

first_is : (n : ℕ) (lines : Lines) → first_item n lines ≡ first_from [] n lines
first_is n lines = refl

-- ---- one line

front_one : (line : TextLine) (lines : Lines) → leads line ≡ true → take_while leads (line ∷ lines) ≡ line ∷ take_while leads lines
front_one line lines h =
    let next : 1 + prefix_len leads lines ≡ suc (prefix_len leads lines) = omega arith in
    ap (λ b. take (cond b (1 + prefix_len leads lines) 0) (line ∷ lines)) h ∙ ap (λ k. take k (line ∷ lines)) next

front_none : (line : TextLine) (lines : Lines) → leads line ≡ false → take_while leads (line ∷ lines) ≡ []
front_none line lines h = ap (λ b. take (cond b (1 + prefix_len leads lines) 0) (line ∷ lines)) h

-- a line that stands before the item
first_led : (content : List ℕ) (n : ℕ) (line : TextLine) (lines : Lines) → leads line ≡ true → first_from content n (line ∷ lines) ≡ first_from (content ++ content_of line) (n + 1) lines
first_led content n line lines h =
    let front = take_while leads lines in
    let count : n + length (line ∷ front) ≡ (n + 1) + length front = omega arith in
    ap (λ (x : Lines). item_at (content ++ flat_map content_of x) (n + length x) (drop (length x) (line ∷ lines))) (front_one line lines h)
    ∙ ap (λ (x : List ℕ). item_at x (n + length (line ∷ front)) (drop (length front) lines)) (sym (append_assoc content (content_of line) (flat_map content_of front)))
    ∙ ap (λ k. item_at ((content ++ content_of line) ++ flat_map content_of front) k (drop (length front) lines)) count

-- the line of the item
first_here : (content : List ℕ) (n : ℕ) (line : TextLine) (lines : Lines) → leads line ≡ false → first_from content n (line ∷ lines) ≡ item_at content n (line ∷ lines)
first_here content n line lines h =
    let count : n + 0 ≡ n = omega arith in
    ap (λ (x : Lines). item_at (content ++ flat_map content_of x) (n + length x) (drop (length x) (line ∷ lines))) (front_none line lines h)
    ∙ ap (λ (x : List ℕ). item_at x (n + 0) (line ∷ lines)) (append-nil content) ∙ ap (λ k. item_at content k (line ∷ lines)) count

-- ---- all lines

-- what a list says that begins so
abbrev pub said : FirstItem → Listing
said (found item n more) = says item n (listing [] (n + 1) more)
said (bad n) = breaks n
said past_limit = passes

said_by : (n : ℕ) (more : Lines) (o : Option ListItem) → option_map_or (λ item. says item n (listing [] (n + 1) more)) o (breaks n) ≡ said (option_map_or (λ item. found item n more) o (bad n))
said_by n more None = refl
said_by n more (Some item) = refl

said_at : (n : ℕ) (more : Lines) (b : Bool) (o : Option ListItem) → (if b then passes else option_map_or (λ item. says item n (listing [] (n + 1) more)) o (breaks n)) ≡ said (if b then past_limit else option_map_or (λ item. found item n more) o (bad n))
said_at n more true o = refl
said_at n more false o = said_by n more o

pub listed_led : (content : List ℕ) (n : ℕ) (line : TextLine) (lines : Lines) → leads line ≡ true → listing content n (line ∷ lines) ≡ listing (content ++ content_of line) (n + 1) lines
unfolding listing
listed_led content n line lines h = ap (λ b. if b then listing (content ++ content_of line) (n + 1) lines
    else (if passes_limit line then passes else option_map_or (λ item. says item n (listing [] (n + 1) lines)) (option_and_then (item_of content n) (command_in (meaning line))) (breaks n))) h

pub listed_at : (content : List ℕ) (n : ℕ) (line : TextLine) (lines : Lines) → leads line ≡ false
    → listing content n (line ∷ lines) ≡ (if passes_limit line then passes else option_map_or (λ item. says item n (listing [] (n + 1) lines)) (option_and_then (item_of content n) (command_in (meaning line))) (breaks n))
unfolding listing
listed_at content n line lines h = ap (λ b. if b then listing (content ++ content_of line) (n + 1) lines
    else (if passes_limit line then passes else option_map_or (λ item. says item n (listing [] (n + 1) lines)) (option_and_then (item_of content n) (command_in (meaning line))) (breaks n))) h

listed_here : (content : List ℕ) (n : ℕ) (line : TextLine) (lines : Lines) → leads line ≡ false → listing content n (line ∷ lines) ≡ said (item_at content n (line ∷ lines))
listed_here content n line lines h = listed_at content n line lines h ∙ said_at n lines (passes_limit line) (option_and_then (item_of content n) (command_in (meaning line)))

listed_line : (content : List ℕ) (n : ℕ) (line : TextLine) (lines : Lines) (b : Bool) → leads line ≡ b
    → listing (content ++ content_of line) (n + 1) lines ≡ said (first_from (content ++ content_of line) (n + 1) lines) → listing content n (line ∷ lines) ≡ said (first_from content n (line ∷ lines))
listed_line content n line lines true h more = listed_led content n line lines h ∙ more ∙ ap said (sym (first_led content n line lines h))
listed_line content n line lines false h more = listed_here content n line lines h ∙ ap said (sym (first_here content n line lines h))

listed_from : (content : List ℕ) (n : ℕ) (lines : Lines) → listing content n lines ≡ said (first_from content n lines)
unfolding listing
listed_from content n [] = let count : n ≡ n + 0 = omega arith in ap breaks count
listed_from content n (line ∷ lines) = listed_line content n line lines (leads line) refl (listed_from (content ++ content_of line) (n + 1) lines)

-- the list begins with what `first_item` gives of it
pub listed : (n : ℕ) (lines : Lines) → listing [] n lines ≡ said (first_item n lines)
listed n lines = listed_from [] n lines

-- ---- the lines up to an item, whatever stands behind them

pub record IsUpTo (content : List ℕ) (n : ℕ) (lines : Lines) (item : ListItem) (k : ℕ) (more : Lines) : Type 0 where
  pub front : Lines
  pub all : lines ≡ front ++ more
  pub number : k + 1 ≡ n + length front
  pub gives : (others : Lines) → listing content n (front ++ others) ≡ says item k (listing [] (k + 1) others)

found_by : (content : List ℕ) (n : ℕ) (line : TextLine) (lines : Lines) (item : ListItem) (k : ℕ) (more : Lines) (b : Bool) (o : Option ListItem) → leads line ≡ false → passes_limit line ≡ b → option_and_then (item_of content n) (command_in (meaning line)) ≡ o
    → (if b then past_limit else option_map_or (λ item. found item n lines) o (bad n)) ≡ found item k more → IsUpTo content n (line ∷ lines) item k more
found_by content n line lines item k more true o h p e is = absurd cc
found_by content n line lines item k more false None h p e is = absurd cc
found_by content n line lines item k more false (Some other) h p e is =
    let same_item : other ≡ item = cc in
    let same : n ≡ k = cc in
    let rest : lines ≡ more = cc in
    record {
      front = line ∷ [];
      all = ap (λ (x : Lines). line ∷ x) rest;
      number = omega (arith, same);
      gives = λ others. listed_here content n line others h
          ∙ ap (λ b. said (if b then past_limit else option_map_or (λ item. found item n others) (option_and_then (item_of content n) (command_in (meaning line))) (bad n))) p
          ∙ ap (λ (x : Option ListItem). said (option_map_or (λ item. found item n others) x (bad n))) e
          ∙ ap (λ x. says x n (listing [] (n + 1) others)) same_item
          ∙ ap (λ j. says item j (listing [] (j + 1) others)) same;
    }

up_line : (content : List ℕ) (n : ℕ) (line : TextLine) (lines : Lines) (item : ListItem) (k : ℕ) (more : Lines) (b : Bool) → leads line ≡ b
    → (first_from (content ++ content_of line) (n + 1) lines ≡ found item k more → IsUpTo (content ++ content_of line) (n + 1) lines item k more) → first_from content n (line ∷ lines) ≡ found item k more → IsUpTo content n (line ∷ lines) item k more
up_line content n line lines item k more true h behind_line is =
    let r = behind_line (sym (first_led content n line lines h) ∙ is) in
    record {
      front = line ∷ r.front;
      all = ap (λ (x : Lines). line ∷ x) r.all;
      number = omega (arith, r.number);
      gives = λ others. listed_led content n line (r.front ++ others) h ∙ r.gives others;
    }
up_line content n line lines item k more false h behind_line is = found_by content n line lines item k more (passes_limit line) (option_and_then (item_of content n) (command_in (meaning line))) h refl refl (sym (first_here content n line lines h) ∙ is)

up_from : (content : List ℕ) (n : ℕ) (lines : Lines) (item : ListItem) (k : ℕ) (more : Lines) → first_from content n lines ≡ found item k more → IsUpTo content n lines item k more
up_from content n [] item k more is = absurd cc
up_from content n (line ∷ lines) item k more is = up_line content n line lines item k more (leads line) refl (up_from (content ++ content_of line) (n + 1) lines item k more) is

pub up_to : (n : ℕ) (lines : Lines) (item : ListItem) (k : ℕ) (more : Lines) → first_item n lines ≡ found item k more → IsUpTo [] n lines item k more
up_to n lines item k more is = up_from [] n lines item k more is

-- lines that stand before an item lack the line behind them
led_lack : (content : List ℕ) (n : ℕ) (lines : Lines) → list_all leads lines ≡ true → listing content n lines ≡ breaks (n + length lines)
unfolding listing
led_lack content n [] h = let count : n ≡ n + 0 = omega arith in ap breaks count
led_lack content n (line ∷ lines) h =
    let (here, rest) = and_parts (leads line) (list_all leads lines) h in
    let count : (n + 1) + length lines ≡ n + length (line ∷ lines) = omega arith in
    listed_led content n line lines here ∙ led_lack (content ++ content_of line) (n + 1) lines rest ∙ ap breaks count

pub lines_lack : (n : ℕ) (lines : Lines) → list_all leads lines ≡ true → listing [] n lines ≡ breaks (n + length lines)
lines_lack n lines h = led_lack [] n lines h
