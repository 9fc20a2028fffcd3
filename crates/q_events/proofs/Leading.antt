-- The first item of an event list, line by line.
use Rattle.std.proofs.Common.{◌≡◌, ◌≤◌, ◌+◌, ℕ, suc, true, false, cond, List, [], ◌∷◌, ◌++◌, length, take, drop, Option, Some, None, Ok, Err, refl, sym, ap, ◌∙◌, append_assoc, arith}
use Rattle.std.specs.Prelude.{IfSome, option_and_then, if◌then◌else◌}
use Rattle.std.specs.List.{flat_map, list_all, prefix_len, take_while}
use Rattle.std.specs.Option.{ok_or, option_map_or}
use Rattle.std.proofs.lemmas.Bool.{le-ltb, and_parts, and_from}
use Rattle.std.proofs.lemmas.List.{append-nil, length_push}
use Rattle.q_events.specs.EventLines.{meaning_of_line}
use Rattle.q_events.specs.EventList.{FirstItem, found, bad, past_limit, meaning, is_leading, leads, content_by, content_of, item_of, command_in, item_in, item_at, first_item, passes_limit}
use Rattle.q_events.specs.LineReadings.{AnswersAt, GivesLine, LineAt, Says}
use Rattle.q_events.specs.Readings.{GivesItem, reading, StopsBefore}
use Rattle.q_events.specs.States.{EventsState}
use Rattle.q_lines.specs.LineReadings.{StopsInLine}
use Rattle.q_lines.specs.TextLines.{TextLine, whole, unended, cut, bytes_of, is_long, lines_from}
use Rattle.q_events.specs.declared.error.EventError.{EventError}
use Rattle.q_events.specs.declared.error.EventError.TheVariants as errors
use Rattle.q_events.specs.declared.list_item.ListItem.{ListItem}
use Rattle.q_events.specs.declared.list_item.ListItem.TheVariants as items
use Rattle.q_events.specs.declared.line.ListLine.{ListLine}
use Rattle.q_events.specs.declared.line.ListLine.TheVariants.{Body, Passed, Told}
use Rattle.q_events.specs.declared.line.Command.{Command}

-- ---- the lines before an item

-- leading lines, and then one that isn't, or none
prefix_cons : (x : TextLine) (xs : List TextLine) → leads x ≡ true → prefix_len leads (x ∷ xs) ≡ 1 + prefix_len leads xs
prefix_cons x xs h = rw h refl

take_one : (x : TextLine) (xs : List TextLine) (n : ℕ) → take (1 + n) (x ∷ xs) ≡ x ∷ take n xs
take_one x xs n = let e : 1 + n ≡ suc n = omega arith in rw e refl

led_front : (ls more : List TextLine) → list_all leads ls ≡ true → take_while leads more ≡ [] → take_while leads (ls ++ more) ≡ ls
led_front [] more h stops = stops
led_front (l ∷ ls) more h stops =
    let (here, rest) = and_parts (leads l) (list_all leads ls) h in
    ap (λ n. take n (l ∷ (ls ++ more))) (prefix_cons l (ls ++ more) here) ∙ take_one l (ls ++ more) (prefix_len leads (ls ++ more)) ∙ ap (λ (x : List TextLine). l ∷ x) (led_front ls more rest stops)

drop_front : (ls more : List TextLine) → drop (length ls) (ls ++ more) ≡ more
drop_front [] more = refl
drop_front (l ∷ ls) more = drop_front ls more

-- what stands first behind leading lines
first_behind : (n : ℕ) (ls more : List TextLine) → list_all leads ls ≡ true → take_while leads more ≡ [] → first_item n (ls ++ more) ≡ item_at (flat_map content_of ls) (n + length ls) more
first_behind n ls more h stops =
    let front = led_front ls more h stops in
    ap (λ (x : List TextLine). item_at (flat_map content_of x) (n + length x) (drop (length x) (ls ++ more))) front ∙ ap (item_at (flat_map content_of ls) (n + length ls)) (drop_front ls more)

-- ---- what was read so far

-- the lines so far are leading ones, with this content
pub record IsLed (e : EventsState) (bytes content : List ℕ) (now : EventsState) (rest : List ℕ) : Type 0 where
  pub going : e.ended ≡ false
  pub lines : List TextLine
  pub split : lines_from e.budget bytes ≡ lines ++ lines_from now.budget rest
  pub lead : list_all leads lines ≡ true
  pub text : content ≡ flat_map content_of lines
  pub number : now.lines ≡ e.lines + length lines

abbrev pub Led : EventsState → Option (List ℕ) → List ℕ → EventsState → Option (List ℕ) → Type 0
Led e old content now new = IfSome old (λ bytes. (rest : List ℕ) × (new ≡ Some rest) × IsLed e bytes content now rest)

pub nothing_read : (e : EventsState) (old : Option (List ℕ)) → e.ended ≡ false → Led e old [] e old
nothing_read e None going = tt
nothing_read e (Some bytes) going = (bytes, refl, record { going = going; lines = []; split = refl; lead = refl; text = refl; number = omega arith })

-- what stands first is what stands behind the lines so far
led_reading : (e now : EventsState) (bytes content rest : List ℕ) (more : List TextLine) → IsLed e bytes content now rest → lines_from now.budget rest ≡ more → take_while leads more ≡ []
    → reading e bytes ≡ item_at content (now.lines + 1) more
led_reading e now bytes content rest more is at stops =
    let number : e.lines + 1 + length is.lines ≡ now.lines + 1 = omega (arith, is.number) in
    ap (λ b. if b then found items.End e.lines (lines_from e.budget bytes) else first_item (e.lines + 1) (lines_from e.budget bytes)) is.going ∙ ap (first_item (e.lines + 1)) (is.split ∙ ap (λ (x : List TextLine). is.lines ++ x) at) ∙ first_behind (e.lines + 1) is.lines more is.lead stops
    ∙ ap (λ (x : List ℕ). item_at x (e.lines + 1 + length is.lines) more) (sym is.text) ∙ ap (λ n. item_at content n more) number

-- ---- one line more

-- a line that isn't cut
said_bytes : (line : TextLine) (text : List ℕ) → Says line text → bytes_of line ≡ text
said_bytes (whole line) text says = says
said_bytes (unended line) text says = says
said_bytes (cut line) text says = absurd says

no_limit : (line : TextLine) (text : List ℕ) → Says line text → passes_limit line ≡ false
no_limit (whole line) text says = refl
no_limit (unended line) text says = refl
no_limit (cut line) text says = absurd says

meaning_short : (text : List ℕ) → length text ≤ 16777216 → meaning (whole text) ≡ meaning_of_line text
meaning_short text short = ap (λ b. if b then None else meaning_of_line text) (le-ltb 16777216 (length text) short)

meaning_of : (line : TextLine) (text : List ℕ) → Says line text → length text ≤ 16777216 → meaning line ≡ meaning_of_line text
meaning_of (whole line) text says short = ap (λ (x : List ℕ). meaning (whole x)) says ∙ meaning_short text short
meaning_of (unended line) text says short = ap (λ (x : List ℕ). meaning (whole x)) says ∙ meaning_short text short
meaning_of (cut line) text says short = absurd says

flat_push : (ls : List TextLine) (x : TextLine) → flat_map content_of (ls ++ x ∷ []) ≡ flat_map content_of ls ++ content_of x
flat_push [] x = append-nil (content_of x)
flat_push (l ∷ ls) x = ap (λ (r : List ℕ). content_of l ++ r) (flat_push ls x) ∙ sym (append_assoc (content_of l) (flat_map content_of ls) (content_of x))

lead_push : (ls : List TextLine) (x : TextLine) → list_all leads ls ≡ true → leads x ≡ true → list_all leads (ls ++ x ∷ []) ≡ true
lead_push [] x h k = and_from (leads x) true k refl
lead_push (l ∷ ls) x h k = let (here, rest) = and_parts (leads l) (list_all leads ls) h in and_from (leads l) (list_all leads (ls ++ x ∷ [])) here (lead_push ls x rest k)

led_more : (e now later : EventsState) (bytes content more rest others : List ℕ) (line : TextLine) → IsLed e bytes content now rest → lines_from now.budget rest ≡ line ∷ lines_from later.budget others
    → leads line ≡ true → more ≡ content ++ content_of line → later.lines ≡ now.lines + 1 → IsLed e bytes more later others
led_more e now later bytes content more rest others line is at lead text count = record {
  going = is.going;
  lines = is.lines ++ line ∷ [];
  split = is.split ∙ ap (λ (x : List TextLine). is.lines ++ x) at ∙ sym (append_assoc is.lines (line ∷ []) (lines_from later.budget others));
  lead = lead_push is.lines line is.lead lead;
  text = text ∙ ap (λ (x : List ℕ). x ++ content_of line) is.text ∙ sym (flat_push is.lines line);
  number = omega (arith, is.number, count, length_push is.lines line);
}

no_command : (said : ListLine) → command_in (Some said) ≡ None → is_leading (Some said) ≡ true
no_command Passed h = refl
no_command Body h = refl
no_command (Told command) h = cc

pub line_led : (e now later : EventsState) (old mid new : Option (List ℕ)) (content more text : List ℕ) (said : ListLine) → Led e old content now mid → LineAt now mid later new text → length text ≤ 16777216
    → meaning_of_line text ≡ Some said → command_in (Some said) ≡ None → more ≡ content ++ content_by text (Some said) → later.lines ≡ now.lines + 1 → Led e old more later new
line_led e now later None mid new content more text said led at short is_said none added count = tt
line_led e now later (Some bytes) None new content more text said (rest, m, is) at short is_said none added count = absurd (cc)
line_led e now later (Some bytes) (Some mid) new content more text said (rest, m, is) (others, line, n, says, at) short is_said none added count =
    let same : mid ≡ rest = cc in
    let meant = meaning_of line text says short ∙ is_said in (
      others,
      n,
      led_more e now later bytes content more rest others line is (ap (lines_from now.budget) (sym same) ∙ at) (ap is_leading meant ∙ no_command said none)
          (added ∙ ap (λ (o : Option ListLine). content ++ content_by text o) (sym meant) ∙ ap (λ (x : List ℕ). content ++ content_by x (meaning line)) (sym (said_bytes line text says))) count,
    )

-- ---- a line that is no leading one

no_front : (x : TextLine) (xs : List TextLine) → leads x ≡ false → take_while leads (x ∷ xs) ≡ []
no_front x xs h = ap (λ b. take (cond b (1 + prefix_len leads xs) 0) (x ∷ xs)) h

at_line : (content text : List ℕ) (line : TextLine) (n : ℕ) (more : List TextLine) (o : Option ListLine) → Says line text → length text ≤ 16777216 → meaning_of_line text ≡ o
    → item_at content n (line ∷ more) ≡ option_map_or (λ item. found item n more) (option_and_then (item_of content n) (command_in o)) (bad n)
at_line content text line n more o says short said =
    ap (λ b. if b then past_limit else option_map_or (λ item. found item n more) (item_in content n line) (bad n)) (no_limit line text says)
    ∙ ap (λ (x : Option ListLine). option_map_or (λ item. found item n more) (option_and_then (item_of content n) (command_in x)) (bad n)) (meaning_of line text says short ∙ said)

stops_at : (text : List ℕ) (line : TextLine) (more : List TextLine) (o : Option ListLine) → Says line text → length text ≤ 16777216 → meaning_of_line text ≡ o → is_leading o ≡ false → take_while leads (line ∷ more) ≡ []
stops_at text line more o says short said h = no_front line more (ap is_leading (meaning_of line text says short ∙ said) ∙ h)

line_reading : (e now later : EventsState) (bytes content text mid rest others : List ℕ) (line : TextLine) (o : Option ListLine) → IsLed e bytes content now rest → mid ≡ rest → Says line text
    → lines_from now.budget mid ≡ line ∷ lines_from later.budget others → length text ≤ 16777216 → meaning_of_line text ≡ o → is_leading o ≡ false → later.lines ≡ now.lines + 1
    → reading e bytes ≡ option_map_or (λ item. found item later.lines (lines_from later.budget others)) (option_and_then (item_of content later.lines) (command_in o)) (bad later.lines)
line_reading e now later bytes content text mid rest others line o is same says at short said h count =
    let more = lines_from later.budget others in
    led_reading e now bytes content rest (line ∷ more) is (ap (lines_from now.budget) (sym same) ∙ at) (stops_at text line more o says short said h)
    ∙ ap (λ n. item_at content n (line ∷ more)) (sym count) ∙ at_line content text line later.lines more o says short said

-- the item of a command
pub item_found : (e now later : EventsState) (old mid new : Option (List ℕ)) (content text : List ℕ) (command : Command) (item : ListItem) → Led e old content now mid → LineAt now mid later new text → length text ≤ 16777216
    → meaning_of_line text ≡ Some (Told command) → item_of content later.lines command ≡ Some item → later.lines ≡ now.lines + 1
    → IfSome old (λ bytes. (rest : List ℕ) × (new ≡ Some rest) × (reading e bytes ≡ found item later.lines (lines_from later.budget rest)))
item_found e now later None mid new content text command item led at short said h count = tt
item_found e now later (Some bytes) None new content text command item (rest, m, is) at short said h count = absurd (cc)
item_found e now later (Some bytes) (Some mid) new content text command item (rest, m, is) (others, line, n, says, at) short said h count =
    let same : mid ≡ rest = cc in (
      others,
      n,
      line_reading e now later bytes content text mid rest others line (Some (Told command)) is same says at short said refl count
          ∙ ap (λ (o : Option ListItem). option_map_or (λ item. found item later.lines (lines_from later.budget others)) o (bad later.lines)) h,
    )

-- a command that can't have this content
pub no_item : (e now later : EventsState) (old mid new : Option (List ℕ)) (content text : List ℕ) (command : Command) → Led e old content now mid → LineAt now mid later new text → length text ≤ 16777216
    → meaning_of_line text ≡ Some (Told command) → item_of content later.lines command ≡ None → later.lines ≡ now.lines + 1
    → IfSome old (λ bytes. reading e bytes ≡ bad later.lines)
no_item e now later None mid new content text command led at short said h count = tt
no_item e now later (Some bytes) None new content text command (rest, m, is) at short said h count = absurd (cc)
no_item e now later (Some bytes) (Some mid) new content text command (rest, m, is) (others, line, n, says, at) short said h count =
    let same : mid ≡ rest = cc in
    line_reading e now later bytes content text mid rest others line (Some (Told command)) is same says at short said refl count
    ∙ ap (λ (o : Option ListItem). option_map_or (λ item. found item later.lines (lines_from later.budget others)) o (bad later.lines)) h

-- a line that is none of an event list
pub bad_line : (e now later : EventsState) (old mid new : Option (List ℕ)) (content text : List ℕ) → Led e old content now mid → LineAt now mid later new text → length text ≤ 16777216
    → meaning_of_line text ≡ None → later.lines ≡ now.lines + 1 → IfSome old (λ bytes. reading e bytes ≡ bad later.lines)
bad_line e now later None mid new content text led at short said count = tt
bad_line e now later (Some bytes) None new content text (rest, m, is) at short said count = absurd (cc)
bad_line e now later (Some bytes) (Some mid) new content text (rest, m, is) (others, line, n, says, at) short said count =
    let same : mid ≡ rest = cc in line_reading e now later bytes content text mid rest others line None is same says at short said refl count

-- ---- where there is no next line

pub answered : (e now : EventsState) (old mid : Option (List ℕ)) (content : List ℕ) (answer : FirstItem) → Led e old content now mid → AnswersAt now mid answer → IfSome old (λ bytes. reading e bytes ≡ answer)
answered e now None mid content answer led at = tt
answered e now (Some bytes) None content answer (rest, m, is) at = absurd (cc)
answered e now (Some bytes) (Some mid) content answer (rest, m, is) at =
    let same : mid ≡ rest = cc in
    let (stops, gives) = at content in
    led_reading e now bytes content rest (lines_from now.budget mid) is (ap (lines_from now.budget) (sym same)) stops ∙ gives

pub stopped : (e now : EventsState) (old mid source : Option (List ℕ)) (content : List ℕ) → Led e old content now mid → StopsInLine mid source → StopsBefore e old source
stopped e now None mid source content led at = tt
stopped e now (Some bytes) None source content (rest, m, is) at = absurd (cc)
stopped e now (Some bytes) (Some mid) source content (rest, m, is) (part, others, s, halves, in_line) =
    let same : rest ≡ part ++ others = let back : rest ≡ mid = cc in back ∙ halves in
    (is.lines, now.budget, part, others, s, is.split ∙ ap (λ (x : List ℕ). is.lines ++ lines_from now.budget x) same, is.lead, in_line)

-- ---- the same of the first line alone

is_cut : (line : List ℕ) (more : List TextLine) → is_long (cut line) ≡ false → (content : List ℕ) (n : ℕ) → (take_while leads (cut line ∷ more) ≡ []) × (item_at content n (cut line ∷ more) ≡ past_limit)
is_cut line more short content n = (refl, rw short refl)

too_long : (line : TextLine) (more : List TextLine) → is_long line ≡ true → (content : List ℕ) (n : ℕ) → (take_while leads (line ∷ more) ≡ []) × (item_at content n (line ∷ more) ≡ bad n)
too_long (whole line) more long content n = (
  no_front (whole line) more (ap (λ b. is_leading (if b then None else meaning_of_line line)) long),
  ap (λ b. option_map_or (λ item. found item n more) (option_and_then (item_of content n) (command_in (if b then None else meaning_of_line line))) (bad n)) long,
)
too_long (unended line) more long content n = (
  no_front (unended line) more (ap (λ b. is_leading (if b then None else meaning_of_line line)) long),
  ap (λ b. option_map_or (λ item. found item n more) (option_and_then (item_of content n) (command_in (if b then None else meaning_of_line line))) (bad n)) long,
)
too_long (cut line) more long content n = (refl, rw long refl)

pub limit_answers : (now : EventsState) (mid : Option (List ℕ)) → IfSome mid (λ bytes. (line : List ℕ) × (lines_from now.budget bytes ≡ cut line ∷ []) × (is_long (cut line) ≡ false)) → AnswersAt now mid past_limit
limit_answers now None h = tt
limit_answers now (Some bytes) (line, e, short) = λ content. rw e (is_cut line [] short content (now.lines + 1))

pub long_answers : (now : EventsState) (mid : Option (List ℕ)) → IfSome mid (λ bytes. (line : TextLine) × (more : List TextLine) × (lines_from now.budget bytes ≡ line ∷ more) × (is_long line ≡ true)) → AnswersAt now mid (bad (now.lines + 1))
long_answers now None h = tt
long_answers now (Some bytes) (line, more, e, long) = λ content. rw e (too_long line more long content (now.lines + 1))

pub end_answers : (now : EventsState) (mid : Option (List ℕ)) → IfSome mid (λ bytes. lines_from now.budget bytes ≡ []) → AnswersAt now mid (bad (now.lines + 1))
end_answers now None h = tt
end_answers now (Some bytes) e = λ content. rw e (refl, refl)

-- ---- what a call gives

pub line_fails : (e now later : EventsState) (old mid new source : Option (List ℕ)) (content : List ℕ) (error : EventError) → Led e old content now mid → GivesLine now mid later new source (Err error) → GivesItem e old later new source (Err error)
line_fails e now later old mid new source content errors.NoMemory led at = tt
line_fails e now later old mid new source content errors.Source led at = stopped e now old mid source content led at
line_fails e now later old mid new source content (errors.BadEvent line) led at = answered e now old mid content (bad line) led at
line_fails e now later old mid new source content (errors.Limit bound) led at = (at.0, answered e now old mid content past_limit led at.1)

command_gives : (e now later : EventsState) (old mid new source : Option (List ℕ)) (content text : List ℕ) (command : Command) (r : Option ListItem) → Led e old content now mid → LineAt now mid later new text → length text ≤ 16777216
    → meaning_of_line text ≡ Some (Told command) → r ≡ item_of content later.lines command → later.lines ≡ now.lines + 1 → GivesItem e old later new source (ok_or r (errors.BadEvent later.lines))
command_gives e now later old mid new source content text command None led at short said h count = no_item e now later old mid new content text command led at short said (sym h) count
command_gives e now later old mid new source content text command (Some item) led at short said h count = item_found e now later old mid new content text command item led at short said (sym h) count

pub is_told : (said : ListLine) (command : Command) → command_in (Some said) ≡ Some command → said ≡ Told command
is_told Passed command h = cc
is_told Body command h = cc
is_told (Told other) command h = let same : other ≡ command = cc in ap Told same

pub told_gives : (e now later : EventsState) (old mid new source : Option (List ℕ)) (content more text : List ℕ) (said : ListLine) (command : Command) (r : Option ListItem) → Led e old content now mid → LineAt now mid later new text → length text ≤ 16777216
    → meaning_of_line text ≡ Some said → command_in (Some said) ≡ Some command → more ≡ content ++ content_by text (Some said) → r ≡ item_of more later.lines command → later.lines ≡ now.lines + 1
    → GivesItem e old later new source (ok_or r (errors.BadEvent later.lines))
told_gives e now later old mid new source content more text said command r led at short is_said told added h count =
    let is = is_told said command told in
    let bare : more ≡ content = added ∙ ap (λ (x : ListLine). content ++ content_by text (Some x)) is ∙ append-nil content in
    command_gives e now later old mid new source content text command r led at short (is_said ∙ ap Some is) (h ∙ ap (λ (x : List ℕ). item_of x later.lines command) bare) count

-- ---- behind the end

pub stays_ended : (e : EventsState) (old source : Option (List ℕ)) → e.ended ≡ true → GivesItem e old e old source (Ok items.End)
stays_ended e None source ended = tt
stays_ended e (Some bytes) source ended = (bytes, refl, ap (λ b. if b then found items.End e.lines (lines_from e.budget bytes) else first_item (e.lines + 1) (lines_from e.budget bytes)) ended)
