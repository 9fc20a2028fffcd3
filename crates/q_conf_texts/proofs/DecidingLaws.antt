-- The first line that has an entry of a pattern says what the table's entry of that pattern is.
use Rattle.std.proofs.Common.{◌≡◌, ◌≤◌, ◌+◌, ◌-◌, ◌∷◌, ◌∙◌, ◌⊎◌, [], ap, arith, Bool, cond, false, inl, inr, List, map, None, Ok, Option, refl, Some, subst, suc, sym, true, zero, ℕ}
use Rattle.std.specs.List.{enumerate_from, fold, slice_get}
use Rattle.std.specs.Option.{option_or}
use Rattle.std.specs.Prelude.{bytes_eq, option_map, unwrap_or}
use Rattle.std.proofs.lemmas.List.Folds.{find-append, fold_stays}
use Rattle.q_model.specs.Lists.{first_some}
use Rattle.q_model.specs.Texts.{lower}
use Rattle.q_text.specs.Blanks.{is_passed_over}
use Rattle.q_text.specs.Lines.{lines_in}
use Rattle.q_transport.specs.Contents.{Contents, empty_contents, Rule, rule_from, rule_of_pattern}
use Rattle.q_transport.specs.Names.{number_of, smtp}
use Rattle.q_transport.specs.Routing.{patterns_of}
use Rattle.q_transport.specs.TableFile.{table_of_file}
use Rattle.q_transport.specs.TableLines.{parts_of_line, Parts}
use Rattle.q_conf_texts.specs.Deciding.{Decides, NamesDecidingLine}
use Rattle.q_conf_texts.specs.Lines.{at, At, first_line_with, then_line}
use Rattle.q_conf_texts.specs.Routes.{deciding_line, entry_in, line_of_pattern, pattern_in}
use Rattle.q_conf_texts.proofs.LookupLaws.{first_then}
use Rattle.q_conf_texts.proofs.TableReads.{Adds, line_says, name_stands, name_stays, one_line, same_Ok, same_pattern, table_by}

-- the entry of a pattern is what a line says
record Holds (c : Contents) (pattern line : List ℕ) : Type 0 where
  pub parts : Parts
  pub entry : Rule
  pub said : parts_of_line line ≡ Some parts
  pub found : rule_of_pattern c.entries pattern ≡ Some entry
  pub same : entry.pattern ≡ map lower parts.pattern
  pub transport : slice_get c.names entry.transport ≡ Some parts.transport
  pub hop : entry.hop ≡ parts.hop

-- ---- what a table has stays

entry_stays : (c m : Contents) (line pattern : List ℕ) (r : Rule) → ((is_passed_over line ≡ true) × (m ≡ c)) ⊎ Adds c m line → rule_of_pattern c.entries pattern ≡ Some r → rule_of_pattern m.entries pattern ≡ Some r
entry_stays c m line pattern r (inl same) h = ap (λ (x : Contents). rule_of_pattern x.entries pattern) same.1 ∙ h
entry_stays c m line pattern r (inr adds) h =
    let new = rule_from (map lower adds.parts.pattern) (number_of c.names adds.parts.transport) adds.parts.hop ∷ [] in
    ap (λ (x : Contents). rule_of_pattern x.entries pattern) adds.becomes ∙ find-append (λ (entry : Rule). bytes_eq entry.pattern pattern) c.entries new
    ∙ ap (λ o. option_or o (rule_of_pattern new pattern)) h

entries_stay : (c d : Contents) (n : ℕ) (lines : List (List ℕ)) (pattern : List ℕ) (r : Rule) → table_by c n lines ≡ Ok d → rule_of_pattern c.entries pattern ≡ Some r → rule_of_pattern d.entries pattern ≡ Some r
entries_stay c d n [] pattern r e h = ap (λ (x : Contents). rule_of_pattern x.entries pattern) (sym (same_Ok c d e)) ∙ h
entries_stay c d n (line ∷ lines) pattern r e h =
    let (m, read, rest) = one_line c d n line lines e in
    entries_stay m d (n + 1) lines pattern r rest (entry_stays c m line pattern r (line_says n c m line read) h)

named_stays : (c m : Contents) (line : List ℕ) (k : ℕ) (name : List ℕ) → ((is_passed_over line ≡ true) × (m ≡ c)) ⊎ Adds c m line → slice_get c.names k ≡ Some name → slice_get m.names k ≡ Some name
named_stays c m line k name (inl same) h = ap (λ (x : Contents). slice_get x.names k) same.1 ∙ h
named_stays c m line k name (inr adds) h = ap (λ (x : Contents). slice_get x.names k) adds.becomes ∙ name_stays c.names adds.parts.transport k name h

names_stay : (c d : Contents) (n : ℕ) (lines : List (List ℕ)) (k : ℕ) (name : List ℕ) → table_by c n lines ≡ Ok d → slice_get c.names k ≡ Some name → slice_get d.names k ≡ Some name
names_stay c d n [] k name e h = ap (λ (x : Contents). slice_get x.names k) (sym (same_Ok c d e)) ∙ h
names_stay c d n (line ∷ lines) k name e h =
    let (m, read, rest) = one_line c d n line lines e in
    names_stay m d (n + 1) lines k name rest (named_stays c m line k name (line_says n c m line read) h)

-- ---- the entry that a line adds

-- what is looked up behind one more entry
looked_up : (c m : Contents) (line pattern : List ℕ) (adds : Adds c m line) → rule_of_pattern c.entries pattern ≡ None
    → rule_of_pattern m.entries pattern ≡ cond (bytes_eq (map lower adds.parts.pattern) pattern) (Some (rule_from (map lower adds.parts.pattern) (number_of c.names adds.parts.transport) adds.parts.hop)) None
looked_up c m line pattern adds none =
    let new = rule_from (map lower adds.parts.pattern) (number_of c.names adds.parts.transport) adds.parts.hop ∷ [] in
    ap (λ (x : Contents). rule_of_pattern x.entries pattern) adds.becomes ∙ find-append (λ (entry : Rule). bytes_eq entry.pattern pattern) c.entries new
    ∙ ap (λ o. option_or o (rule_of_pattern new pattern)) none

held : (c m d : Contents) (n : ℕ) (line : List ℕ) (lines : List (List ℕ)) (pattern : List ℕ) (adds : Adds c m line) → rule_of_pattern c.entries pattern ≡ None → table_by m n lines ≡ Ok d
    → bytes_eq (map lower adds.parts.pattern) pattern ≡ true → Holds d pattern line
held c m d n line lines pattern adds none rest same =
    let p = adds.parts in
    let k = number_of c.names p.transport in
    let entry = rule_from (map lower p.pattern) k p.hop in
    record {
      parts = p;
      entry = entry;
      said = adds.said;
      found = entries_stay m d n lines pattern entry rest (looked_up c m line pattern adds none ∙ ap (λ b. cond b (Some entry) None) same);
      same = refl;
      transport = names_stay m d n lines k p.transport rest (ap (λ (x : Contents). slice_get x.names k) adds.becomes ∙ name_stands c.names p.transport);
      hop = refl;
    }

-- ---- the first line of a pattern

-- what is found from line n on, and what the table has then
abbrev Found : Contents → ℕ → List (List ℕ) → List ℕ → Option (At (Unit {0})) → Type 0
Found d n lines pattern None = rule_of_pattern d.entries pattern ≡ None
Found d n lines pattern (Some found) = (line : List ℕ) × (n ≤ found.line) × (slice_get lines (found.line - n) ≡ Some line) × Holds d pattern line

one_more : (d : Contents) (n : ℕ) (line : List ℕ) (lines : List (List ℕ)) (pattern : List ℕ) (o : Option (At (Unit {0}))) → Found d (n + 1) lines pattern o → Found d n (line ∷ lines) pattern o
one_more d n line lines pattern None f = f
one_more d n line lines pattern (Some found) f =
    let later : n + 1 ≤ found.line = f.1 in
    let next : found.line - n ≡ suc (found.line - (n + 1)) = omega (arith, later) in
    (f.0, omega (arith, later), ap (slice_get (line ∷ lines)) next ∙ f.2, f.3)

entry_of : (pattern line : List ℕ) (p : Parts) (b : Bool) → pattern_in line ≡ Some p.pattern → bytes_eq (map lower p.pattern) pattern ≡ b → entry_in pattern line ≡ cond b (Some tt) None
entry_of pattern line p b has same = rw (has, same) refl

abbrev found_in : List ℕ → ℕ → List (List ℕ) → Option (At (Unit {0}))
found_in pattern n lines = fold (then_line (entry_in pattern)) None (enumerate_from n lines)

-- the same, where this is read of the first line
abbrev Begun : Contents → ℕ → List ℕ → List (List ℕ) → List ℕ → Option (Unit {0}) → Type 0
Begun d n line lines pattern o = Found d n (line ∷ lines) pattern (fold (then_line (entry_in pattern)) (option_map (at n) o) (enumerate_from (n + 1) lines))

-- what is found in the lines behind, whatever table they go on from
abbrev Goes : Contents → ℕ → List (List ℕ) → List ℕ → Type 0
Goes d n lines pattern = (m : Contents) → table_by m n lines ≡ Ok d → rule_of_pattern m.entries pattern ≡ None → Found d n lines pattern (found_in pattern n lines)

all_lines : (pattern : List ℕ) (lines : List (List ℕ)) (n : ℕ) (c d : Contents) → table_by c n lines ≡ Ok d → rule_of_pattern c.entries pattern ≡ None → Found d n lines pattern (found_in pattern n lines)
all_lines pattern [] n c d e none = ap (λ (x : Contents). rule_of_pattern x.entries pattern) (sym (same_Ok c d e)) ∙ none
all_lines pattern (line ∷ lines) n c d e none =
    let (m, read, rest) = one_line c d n line lines e in
    by (λ m rest none. all_lines pattern lines (n + 1) m d rest none) m rest (line_says n c m line read)
  where
    later : Goes d (n + 1) lines pattern → (m : Contents) → table_by m (n + 1) lines ≡ Ok d → rule_of_pattern m.entries pattern ≡ None → entry_in pattern line ≡ None → Begun d n line lines pattern (entry_in pattern line)
    later more m rest still says = subst (Begun d n line lines pattern) (sym says) (one_more d n line lines pattern (found_in pattern (n + 1) lines) (more m rest still))

    here : Holds d pattern line → entry_in pattern line ≡ Some tt → Begun d n line lines pattern (entry_in pattern line)
    here holds says =
        let first : n - n ≡ zero = omega arith in
        let this : Found d n (line ∷ lines) pattern (Some (at n tt)) = (line, omega arith, ap (slice_get (line ∷ lines)) first, holds) in
        subst (Begun d n line lines pattern) (sym says) (subst (Found d n (line ∷ lines) pattern) (sym (fold_stays (then_line (entry_in pattern)) (Some (at n tt)) (λ _. refl) (enumerate_from (n + 1) lines))) this)

    test : Goes d (n + 1) lines pattern → (m : Contents) (adds : Adds c m line) (b : Bool) → table_by m (n + 1) lines ≡ Ok d → bytes_eq (map lower adds.parts.pattern) pattern ≡ b → Begun d n line lines pattern (entry_in pattern line)
    test more m adds true rest same = here (held c m d (n + 1) line lines pattern adds none rest same) (entry_of pattern line adds.parts true (same_pattern line adds.parts adds.reads adds.said) same)
    test more m adds false rest same =
        later more m rest (looked_up c m line pattern adds none ∙ ap (λ b. cond b (Some (rule_from (map lower adds.parts.pattern) (number_of c.names adds.parts.transport) adds.parts.hop)) None) same)
        (entry_of pattern line adds.parts false (same_pattern line adds.parts adds.reads adds.said) same)

    by : Goes d (n + 1) lines pattern → (m : Contents) → table_by m (n + 1) lines ≡ Ok d → ((is_passed_over line ≡ true) × (m ≡ c)) ⊎ Adds c m line → Begun d n line lines pattern (entry_in pattern line)
    by more m rest (inl same) = later more m rest (ap (λ (x : Contents). rule_of_pattern x.entries pattern) same.1 ∙ none) (rw same.0 refl)
    by more m rest (inr adds) = test more m adds (bytes_eq (map lower adds.parts.pattern) pattern) rest refl

-- ---- the first pattern that has a line

abbrev Chosen : Contents → List ℕ → List (List ℕ) → Option ℕ → Type 0
Chosen d bytes patterns None = first_some (rule_of_pattern d.entries) patterns ≡ None
Chosen d bytes patterns (Some n) = (line : List ℕ) × (pattern : List ℕ) × (first_some (rule_of_pattern d.entries) patterns ≡ rule_of_pattern d.entries pattern)
    × (slice_get (lines_in bytes) (n - 1) ≡ Some line) × Holds d pattern line

module _ (d : Contents) (bytes : List ℕ) (read : table_of_file bytes ≡ Ok d) where
  found : (pattern : List ℕ) → Found d 1 (lines_in bytes) pattern (first_line_with (entry_in pattern) bytes)
  found pattern = all_lines pattern (lines_in bytes) 1 empty_contents d read refl

  first_rule : (pattern : List ℕ) (patterns : List (List ℕ)) (o : Option Rule) → rule_of_pattern d.entries pattern ≡ o → first_some (rule_of_pattern d.entries) (pattern ∷ patterns) ≡ option_or o (first_some (rule_of_pattern d.entries) patterns)
  first_rule pattern patterns o is = first_then (rule_of_pattern d.entries) pattern patterns ∙ ap (λ x. option_or x (first_some (rule_of_pattern d.entries) patterns)) is

  next : (pattern : List ℕ) (patterns : List (List ℕ)) (o : Option ℕ) → rule_of_pattern d.entries pattern ≡ None → Chosen d bytes patterns o → Chosen d bytes (pattern ∷ patterns) o
  next pattern patterns None none h = first_rule pattern patterns None none ∙ h
  next pattern patterns (Some n) none h = (h.0, h.1, first_rule pattern patterns None none ∙ h.2, h.3, h.4)

  this_or : (pattern : List ℕ) (patterns : List (List ℕ)) (o : Option (At (Unit {0}))) (others : Option ℕ) → Found d 1 (lines_in bytes) pattern o → Chosen d bytes patterns others
      → Chosen d bytes (pattern ∷ patterns) (option_or (option_map (λ (x : At (Unit {0})). x.line) o) others)
  this_or pattern patterns None others none h = next pattern patterns others none h
  this_or pattern patterns (Some x) others f h = (f.0, pattern, first_rule pattern patterns (Some f.3.entry) f.3.found ∙ sym f.3.found, f.2, f.3)

  chosen : (patterns : List (List ℕ)) → Chosen d bytes patterns (first_some (line_of_pattern bytes) patterns)
  chosen [] = refl
  chosen (pattern ∷ patterns) =
      subst (Chosen d bytes (pattern ∷ patterns)) (sym (first_then (line_of_pattern bytes) pattern patterns))
      (this_or pattern patterns (first_line_with (entry_in pattern) bytes) (first_some (line_of_pattern bytes) patterns) (found pattern) (chosen patterns))

  decides : (address : List ℕ) (o : Option ℕ) → Chosen d bytes (patterns_of address) o → Decides d bytes address o
  decides address None h = h
  decides address (Some n) h =
      let holds = h.4 in
      record {
        entry = holds.entry;
        line = h.0;
        decides = h.2 ∙ holds.found;
        stands = h.3;
        said = record {
          parts = holds.parts;
          said = holds.said;
          pattern = holds.same;
          transport = ap (λ o. unwrap_or o []) (name_stays d.names smtp holds.entry.transport holds.parts.transport holds.transport);
          hop = holds.hop;
        };
      }

-- the line that is named is that of the entry that decides
pub names_deciding_line : NamesDecidingLine
names_deciding_line bytes address d read = decides d bytes read address (deciding_line bytes address) (chosen d bytes read (patterns_of address))
