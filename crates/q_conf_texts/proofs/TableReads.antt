-- What the lines of a table without fault say, one at a time.
use Rattle.std.proofs.Common.{◌≡◌, ◌+◌, ◌++◌, ◌∷◌, ◌∙◌, ◌⊎◌, [], ap, arith, Bool, cond, drop, Err, false, get_or, inl, inr, length, List, map, None, Ok, Option, refl, Result, Some, suc, sym, take, true, zero, ℕ}
use Rattle.std.specs.List.{enumerate_from, fold, position, slice_get}
use Rattle.std.specs.Option.{option_map_or}
use Rattle.std.specs.Prelude.{◌==◌, bytes_eq, is_some, option_and_then, option_map, unwrap_or}
use Rattle.std.proofs.lemmas.Bool.{eq-eqb, ne_eqb}
use Rattle.std.proofs.lemmas.List.Folds.{fold_stays}
use Rattle.std.proofs.lemmas.List.Quantifiers.{position-Some}
use Rattle.std.proofs.lemmas.Option.{same_Some, slice_get-get_or}
use Rattle.std.proofs.lemmas.Slice.Eq.{bytes_eq-Decides}
use Rattle.q_model.specs.Texts.{lower}
use Rattle.q_numbers.specs.Pieces.{cut}
use Rattle.q_text.specs.Blanks.{is_blank, is_passed_over, is_text_byte, trimmed_start}
use Rattle.std.specs.List.{list_all}
use Rattle.q_transport.specs.Contents.{Contents, Rule, rule_of_pattern}
use Rattle.q_transport.specs.Names.{number_of, with_name}
use Rattle.q_transport.specs.Readings.{add_parts, is_full, read_table_line, with_parts}
use Rattle.q_transport.specs.TableFile.{then_table_line}
use Rattle.q_transport.specs.TableLines.{behind_pattern, divided_at, divided_line, next_hop_of, parts_of, parts_of_line, Parts, with_hop}
use Rattle.q_transport.specs.Texts.{is_transport}
use Rattle.q_transport.specs.declared.error.TableError.{TableError}
use Rattle.q_transport.specs.declared.error.TableError.TheVariants.{BadLine, TooMany, Twice}
use Rattle.q_conf_texts.specs.Routes.{pattern_in}

-- what the lines make of a table, of which the first has number n
abbrev pub table_by : Contents → ℕ → List (List ℕ) → Result Contents TableError
table_by c n lines = fold then_table_line (Ok c) (enumerate_from n lines)

-- ---- one line

pub same_Ok : {A E : Type 0} (a b : A) → ◌≡◌ {A = Result A E} (Ok a) (Ok b) → a ≡ b
same_Ok a b e = cc

-- a line that isn't refused, and what the next ones say
pub one_line : (c d : Contents) (n : ℕ) (line : List ℕ) (lines : List (List ℕ)) → table_by c n (line ∷ lines) ≡ Ok d → (m : Contents) × (read_table_line n c line ≡ Ok m) × (table_by m (n + 1) lines ≡ Ok d)
one_line c d n line lines e = by (read_table_line n c line) refl e
  where
    by : (r : Result Contents TableError) → read_table_line n c line ≡ r → fold then_table_line r (enumerate_from (n + 1) lines) ≡ Ok d → (m : Contents) × (read_table_line n c line ≡ Ok m) × (table_by m (n + 1) lines ≡ Ok d)
    by (Ok m) is rest = (m, is, rest)
    by (Err f) is rest = let stuck = fold_stays then_table_line (Err f) (λ _. refl) (enumerate_from (n + 1) lines) in cc

-- the line says nothing, or adds these parts
pub record Adds (c m : Contents) (line : List ℕ) : Type 0 where
  pub parts : Parts
  pub reads : is_passed_over line ≡ false
  pub said : parts_of_line line ≡ Some parts
  pub new : rule_of_pattern c.entries (map lower parts.pattern) ≡ None
  pub becomes : m ≡ with_parts c parts

pub line_says : (n : ℕ) (c m : Contents) (line : List ℕ) → read_table_line n c line ≡ Ok m → ((is_passed_over line ≡ true) × (m ≡ c)) ⊎ Adds c m line
line_says n c m line e = passed (is_passed_over line) refl e
  where
    full : (p : Parts) (b : Bool) → is_passed_over line ≡ false → parts_of_line line ≡ Some p → rule_of_pattern c.entries (map lower p.pattern) ≡ None → ◌≡◌ {A = Result Contents TableError} (cond b (Err (TooMany n)) (Ok (with_parts c p))) (Ok m) → Adds c m line
    full p true reads said new e = absurd (cc)
    full p false reads said new e = record { parts = p; reads = reads; said = said; new = new; becomes = sym (same_Ok (with_parts c p) m e) }

    added : (p : Parts) (o : Option Rule) → is_passed_over line ≡ false → parts_of_line line ≡ Some p → rule_of_pattern c.entries (map lower p.pattern) ≡ o
        → cond (is_some o) (Err (Twice n)) (cond (is_full c (number_of c.names p.transport)) (Err (TooMany n)) (Ok (with_parts c p))) ≡ Ok m → Adds c m line
    added p (Some r) reads said new e = absurd (cc)
    added p None reads said new e = full p (is_full c (number_of c.names p.transport)) reads said new e

    parted : (o : Option Parts) → is_passed_over line ≡ false → parts_of_line line ≡ o → option_map_or (add_parts n c) o (Err (BadLine n)) ≡ Ok m → Adds c m line
    parted None reads said e = absurd (cc)
    parted (Some p) reads said e = added p (rule_of_pattern c.entries (map lower p.pattern)) reads said refl e

    passed : (b : Bool) → is_passed_over line ≡ b → cond b (Ok c) (option_map_or (add_parts n c) (parts_of_line line) (Err (BadLine n))) ≡ Ok m → ((is_passed_over line ≡ true) × (m ≡ c)) ⊎ Adds c m line
    passed true is e = inl (is, sym (same_Ok c m e))
    passed false is e = inr (parted (parts_of_line line) is refl e)

-- ---- the pattern of a line

hop_pattern : (pattern name : List ℕ) (o : Option (Option (List ℕ))) (b : Bool) (p : Parts) → cond b (option_map (with_hop pattern name) o) None ≡ Some p → p.pattern ≡ pattern
hop_pattern pattern name o false p e = absurd (cc)
hop_pattern pattern name None true p e = absurd (cc)
hop_pattern pattern name (Some h) true p e = ap (λ (x : Parts). x.pattern) (sym (same_Some (with_hop pattern name h) p e))

behind : (pattern : List ℕ) (o : Option (List ℕ × List ℕ)) (p : Parts) → option_and_then (λ (c : List ℕ × List ℕ). parts_of pattern c.0 c.1) o ≡ Some p → p.pattern ≡ pattern
behind pattern None p e = absurd (cc)
behind pattern (Some c) p e = hop_pattern pattern c.0 (next_hop_of c.1) (is_transport c.0) p e

divided : (line : List ℕ) (n : ℕ) (b : Bool) (p : Parts) → cond b None (behind_pattern (take n line) (trimmed_start (drop n line))) ≡ Some p → p.pattern ≡ take n line
divided line n true p e = absurd (cc)
divided line n false p e = behind (take n line) (cut 58 (trimmed_start (drop n line))) p e

placed : (line : List ℕ) (o : Option ℕ) (p : Parts) → option_and_then (divided_at line) o ≡ Some p → option_map (λ n. take n line) o ≡ Some p.pattern
placed line None p e = absurd (cc)
placed line (Some n) p e = ap (λ (x : List ℕ). Some x) (sym (divided line n (n == 0) p e))

texts : (line : List ℕ) (b : Bool) (p : Parts) → cond b (divided_line line) None ≡ Some p → option_map (λ n. take n line) (position is_blank line) ≡ Some p.pattern
texts line false p e = absurd (cc)
texts line true p e = placed line (position is_blank line) p e

-- what stands before the first blank is the pattern of the parts
pub same_pattern : (line : List ℕ) (p : Parts) → is_passed_over line ≡ false → parts_of_line line ≡ Some p → pattern_in line ≡ Some p.pattern
same_pattern line p reads said = rw reads (texts line (list_all is_text_byte line) p said)

-- ---- the names of transports

pub stays_left : {A : Type 0} (xs ys : List A) (k : ℕ) (x : A) → slice_get xs k ≡ Some x → slice_get (xs ++ ys) k ≡ Some x
stays_left (x ∷ xs) ys zero y e = e
stays_left (x ∷ xs) ys (suc k) y e = stays_left xs ys k y e
stays_left [] ys k y e = absurd (cc)

last_is : {A : Type 0} (xs : List A) (x : A) → slice_get (xs ++ x ∷ []) (length xs) ≡ Some x
last_is [] x = refl
last_is (y ∷ xs) x = last_is xs x

-- a name that was there keeps its number
pub name_stays : (names : List (List ℕ)) (name : List ℕ) (k : ℕ) (x : List ℕ) → slice_get names k ≡ Some x → slice_get (with_name names name) k ≡ Some x
name_stays names name k x e = by (number_of names name == length names)
  where
    by : (b : Bool) → slice_get (cond b (names ++ name ∷ []) names) k ≡ Some x
    by true = stays_left names (name ∷ []) k x e
    by false = e

-- a name that is added stands at its number
pub name_stands : (names : List (List ℕ)) (name : List ℕ) → slice_get (with_name names name) (number_of names name) ≡ Some name
name_stands names name = by (position (λ (other : List ℕ). bytes_eq other name) names) refl
  where
    by : (o : Option ℕ) → position (λ (other : List ℕ). bytes_eq other name) names ≡ o
        → slice_get (cond (unwrap_or o (length names) == length names) (names ++ name ∷ []) names) (unwrap_or o (length names)) ≡ Some name
    by None is = rw (eq-eqb (length names) (length names) refl) (last_is names name)
    by (Some k) is =
        let (within, same, _) = position-Some (λ (other : List ℕ). bytes_eq other name) names k [] is in
        rw (ne_eqb k (length names) (λ e. omega (arith, e, within))) (slice_get-get_or names k [] within ∙ ap (λ (x : List ℕ). Some x) ((bytes_eq-Decides (get_or names k []) name).0 same))
