-- What the lines of a parameter file without fault set is told, one line at a time.
use Rattle.std.proofs.Common.{◌≡◌, ◌≢◌, ◌≤◌, ◌+◌, ◌∷◌, ◌∙◌, ◌⊎◌, [], ap, arith, Bool, cond, Err, false, get_or, inl, inr, length, List, None, Ok, Option, refl, Result, Some, subst, sym, true, ℕ}
use Rattle.std.specs.List.{enumerate_from, find, fold, list_all}
use Rattle.std.specs.Option.{option_map_or}
use Rattle.std.specs.Prelude.{◌==◌, bytes_eq, nat_lt, set}
use Rattle.std.specs.Result.{result_map_both}
use Rattle.std.proofs.lemmas.Bool.{eqb-true}
use Rattle.std.proofs.lemmas.List.{get_or-set_other, get_or-set_same, length-set}
use Rattle.std.proofs.lemmas.List.Folds.{fold_stays}
use Rattle.std.proofs.lemmas.Option.{same_Some}
use Rattle.std.proofs.lemmas.Slice.Eq.{bytes_eq-Decides}
use Rattle.q_conf_texts.specs.InForce.{TellsValuesInForce, told_value}
use Rattle.q_conf_texts.specs.Lines.{at, At, then_line}
use Rattle.q_conf_texts.specs.Params.{setting_of, value_in, value_named}
use Rattle.q_model.specs.Lists.{least}
use Rattle.q_model.specs.Settings.{Settings}
use Rattle.q_numbers.specs.Pieces.{cut}
use Rattle.q_params.specs.ParameterFile.{agreed_of, at_line, disagreements, nothing_read, read_lines, then_setting_line}
use Rattle.q_params.specs.Parameters.{all_parameters, name_of, place_of}
use Rattle.q_params.specs.Readings.{read_setting, read_setting_line, set_at, set_named, setting_line, SettingsSoFar, with_line}
use Rattle.q_params.specs.Values.{set_to}
use Rattle.q_params.specs.declared.error.ParamCause.{ParamCause}
use Rattle.q_params.specs.declared.error.ParamCause.TheVariants.{BadValue, NoEquals, NotText, Twice, UnknownName}
use Rattle.q_params.specs.declared.error.ParamError.{ParamError}
use Rattle.q_params.specs.declared.parameter.Parameter.{Parameter}
use Rattle.q_text.specs.Blanks.{is_passed_over, is_text_byte, trimmed}
use Rattle.q_text.specs.Lines.{lines_in}
use Rattle.q_conf_texts.proofs.SettingLaws.{by_name, default_set, place_within, same_place, set_again, set_other, unset_line}
use Rattle.q_conf_texts.proofs.TableReads.{same_Ok}

-- ---- one line

-- what the lines make of a reading, of which the first has number n
abbrev read_by : SettingsSoFar → ℕ → List (List ℕ) → Result SettingsSoFar ParamError
read_by r n lines = fold then_setting_line (Ok r) (enumerate_from n lines)

one_line : (r d : SettingsSoFar) (n : ℕ) (line : List ℕ) (lines : List (List ℕ)) → read_by r n (line ∷ lines) ≡ Ok d → (m : SettingsSoFar) × (read_setting_line n r line ≡ Ok m) × (read_by m (n + 1) lines ≡ Ok d)
one_line r d n line lines e = by (read_setting_line n r line) refl e
  where
    by : (x : Result SettingsSoFar ParamCause) → read_setting_line n r line ≡ x → fold then_setting_line (result_map_both (λ r. r) (at_line n) x) (enumerate_from (n + 1) lines) ≡ Ok d
        → (m : SettingsSoFar) × (read_setting_line n r line ≡ Ok m) × (read_by m (n + 1) lines ≡ Ok d)
    by (Ok m) is rest = (m, is, rest)
    by (Err f) is rest = let stuck = fold_stays then_setting_line (Err (at_line n f)) (λ _. refl) (enumerate_from (n + 1) lines) in absurd (cc)

-- the line sets this parameter to this value, and no other
record Sets (n : ℕ) (r m : SettingsSoFar) (line : List ℕ) : Type 0 where
  pub parameter : Parameter
  pub value : List ℕ
  pub settings : Settings
  pub free : setting_line r parameter ≡ 0
  pub sets : set_to parameter value r.settings ≡ Some settings
  pub becomes : m ≡ with_line n r parameter settings
  pub here : value_in parameter line ≡ Some value
  pub others : (q : Parameter) → (q ≡ parameter) ⊎ (value_in q line ≡ None)

-- the line says nothing, or sets a parameter
abbrev Says : ℕ → SettingsSoFar → SettingsSoFar → List ℕ → Type 0
Says n r m line = (((q : Parameter) → value_in q line ≡ None) × (m ≡ r)) ⊎ Sets n r m line

found_passes : (test : Parameter → Bool) (xs : List Parameter) (x : Parameter) → find test xs ≡ Some x → test x ≡ true
found_passes test [] x e = absurd (cc)
found_passes test (y ∷ ys) x e = by (test y) refl (found_passes test ys x) e
  where
    by : (b : Bool) → test y ≡ b → (find test ys ≡ Some x → test x ≡ true) → cond b (Some y) (find test ys) ≡ Some x → test x ≡ true
    by true is later e = ap test (sym (same_Some y x e)) ∙ is
    by false is later e = later e

module _ (n : ℕ) (r m : SettingsSoFar) (line : List ℕ) (reads : is_passed_over line ≡ false) where
  value_here : (q : Parameter) (c : List ℕ × List ℕ) → cut 61 line ≡ Some c → value_in q line ≡ value_named q c
  value_here q c is = rw (reads, is) refl

  module _ (c : List ℕ × List ℕ) (is : cut 61 line ≡ Some c) where
    set_by : (q : Parameter) (o : Option Settings) (b : Bool) → find (λ x. bytes_eq (name_of x) (trimmed c.0)) all_parameters ≡ Some q → set_to q (trimmed c.1) r.settings ≡ o → (setting_line r q == 0) ≡ b
        → cond b (option_map_or (λ s. Ok (with_line n r q s)) o (Err BadValue)) (Err Twice) ≡ Ok m → Sets n r m line
    set_by q o false found sets free e = absurd (cc)
    set_by q None true found sets free e = absurd (cc)
    set_by q (Some s) true found sets free e =
        let named : name_of q ≡ trimmed c.0 = (bytes_eq-Decides (name_of q) (trimmed c.0)).0 (found_passes (λ x. bytes_eq (name_of x) (trimmed c.0)) all_parameters q found) in
        record {
          parameter = q;
          value = trimmed c.1;
          settings = s;
          free = eqb-true (setting_line r q) 0 free;
          sets = sets;
          becomes = sym (same_Ok (with_line n r q s) m e);
          here = value_here q c is ∙ ap (λ b. cond b (Some (trimmed c.1)) None) ((bytes_eq-Decides (trimmed c.0) (name_of q)).1 (sym named));
          others = λ other. other_by other q found (bytes_eq (trimmed c.0) (name_of other)) refl;
        }
      where
        other_by : (other q : Parameter) → find (λ x. bytes_eq (name_of x) (trimmed c.0)) all_parameters ≡ Some q → (b : Bool) → bytes_eq (trimmed c.0) (name_of other) ≡ b → (other ≡ q) ⊎ (value_in other line ≡ None)
        other_by other q found true same =
            let name : trimmed c.0 ≡ name_of other = (bytes_eq-Decides (trimmed c.0) (name_of other)).0 same in
            inl (same_Some other q (sym (by_name other) ∙ ap (λ (t : List ℕ). find (λ x. bytes_eq (name_of x) t) all_parameters) (sym name) ∙ found))
        other_by other q found false same = inr (value_here other c is ∙ ap (λ b. cond b (Some (trimmed c.1)) None) same)

    named_by : (o : Option Parameter) → find (λ x. bytes_eq (name_of x) (trimmed c.0)) all_parameters ≡ o → option_map_or (set_at n r (trimmed c.1)) o (Err UnknownName) ≡ Ok m → Sets n r m line
    named_by None found e = absurd (cc)
    named_by (Some q) found e = set_by q (set_to q (trimmed c.1) r.settings) (setting_line r q == 0) found refl refl e

  cut_by : (o : Option (List ℕ × List ℕ)) → cut 61 line ≡ o → option_map_or (λ (c : List ℕ × List ℕ). set_named n r (trimmed c.0) (trimmed c.1)) o (Err NoEquals) ≡ Ok m → Sets n r m line
  cut_by None is e = absurd (cc)
  cut_by (Some c) is e = named_by c is (find (λ x. bytes_eq (name_of x) (trimmed c.0)) all_parameters) refl e

  text_by : (b : Bool) → cond b (read_setting n r line) (Err NotText) ≡ Ok m → Sets n r m line
  text_by true e = cut_by (cut 61 line) refl e
  text_by false e = absurd (cc)

line_says : (n : ℕ) (r m : SettingsSoFar) (line : List ℕ) → read_setting_line n r line ≡ Ok m → Says n r m line
line_says n r m line e = by (is_passed_over line) refl e
  where
    by : (b : Bool) → is_passed_over line ≡ b → cond b (Ok r) (cond (list_all is_text_byte line) (read_setting n r line) (Err NotText)) ≡ Ok m → Says n r m line
    by true passed e = inl ((λ q. rw passed refl), sym (same_Ok r m e))
    by false reads e = inr (text_by n r m line reads (list_all is_text_byte line) e)

-- ---- all lines

-- whether a line set it
abbrev HasLine : ℕ → Option (At (List ℕ)) → Type 0
HasLine n None = n ≡ 0
HasLine n (Some found) = 1 ≤ n

-- what is told of the parameter is in force
record Agrees (q : Parameter) (r : SettingsSoFar) (o : Option (At (List ℕ))) : Type 0 where
  pub size : length r.lines ≡ 21
  pub line : HasLine (setting_line r q) o
  pub force : set_to q (told_value q o) r.settings ≡ Some r.settings

agrees_now : (q : Parameter) (n : ℕ) (r m : SettingsSoFar) (value : List ℕ) (s : Settings) → 1 ≤ n → length r.lines ≡ 21 → set_to q value r.settings ≡ Some s → m ≡ with_line n r q s → Agrees q m (Some (at n value))
agrees_now q n r m value s filled size sets becomes =
    let stands : get_or (set r.lines (place_of q) n) (place_of q) 0 ≡ n = get_or-set_same r.lines (place_of q) n 0 (omega (arith, size, place_within q)) in
    subst (λ (x : SettingsSoFar). Agrees q x (Some (at n value))) (sym becomes)
    (record { size = length-set r.lines (place_of q) n ∙ size; line = omega (arith, stands, filled); force = set_again q value r.settings s sets })

agrees_still : (q other : Parameter) (n : ℕ) (r m : SettingsSoFar) (value : List ℕ) (s : Settings) (o : Option (At (List ℕ))) → place_of q ≢ place_of other → set_to other value r.settings ≡ Some s → m ≡ with_line n r other s
    → Agrees q r o → Agrees q m o
agrees_still q other n r m value s o apart sets becomes h =
    let still : get_or (set r.lines (place_of other) n) (place_of q) 0 ≡ setting_line r q = get_or-set_other r.lines (place_of other) (place_of q) n 0 apart in
    subst (λ (x : SettingsSoFar). Agrees q x o) (sym becomes) (record {
      size = length-set r.lines (place_of other) n ∙ h.size;
      line = subst (λ k. HasLine k o) (sym still) h.line;
      force = set_other q other (told_value q o) value r.settings s apart sets h.force;
    })

-- the line sets another parameter, or none
quiet : (q : Parameter) (n : ℕ) (m : SettingsSoFar) (line : List ℕ) (o : Option (At (List ℕ))) → value_in q line ≡ None → Agrees q m o → Agrees q m (then_line (value_in q) o (n, line))
quiet q n m line None none h = rw none h
quiet q n m line (Some found) none h = h

agrees_then : (q : Parameter) (n : ℕ) (r m : SettingsSoFar) (line : List ℕ) (o : Option (At (List ℕ))) → 1 ≤ n → Says n r m line → Agrees q r o → Agrees q m (then_line (value_in q) o (n, line))
agrees_then q n r m line o filled (inl nothing) h = quiet q n m line o (nothing.0 q) (subst (λ (x : SettingsSoFar). Agrees q x o) (sym nothing.1) h)
agrees_then q n r m line o filled (inr it) h = by (it.others q)
  where
    apart : value_in q line ≡ None → place_of q ≡ place_of it.parameter → ⊥
    apart none e = let same = ap (λ x. value_in x line) (same_place q it.parameter e) in let has = sym none ∙ same ∙ it.here in absurd (cc)

    first : (o : Option (At (List ℕ))) → q ≡ it.parameter → Agrees q r o → Agrees q m (then_line (value_in q) o (n, line))
    first None e h =
        let says : value_in q line ≡ Some it.value = ap (λ x. value_in x line) e ∙ it.here in
        let now = agrees_now q n r m it.value it.settings filled h.size (ap (λ x. set_to x it.value r.settings) e ∙ it.sets) (it.becomes ∙ ap (λ x. with_line n r x it.settings) (sym e)) in
        rw says now
    first (Some found) e h = let none = ap (setting_line r) e ∙ it.free in absurd (omega (arith, h.line, none))

    by : (q ≡ it.parameter) ⊎ (value_in q line ≡ None) → Agrees q m (then_line (value_in q) o (n, line))
    by (inl e) = first o e h
    by (inr none) = quiet q n m line o none (agrees_still q it.parameter n r m it.value it.settings o (apart none) it.sets it.becomes h)

all_agree : (q : Parameter) (lines : List (List ℕ)) (n : ℕ) (r d : SettingsSoFar) (o : Option (At (List ℕ))) → 1 ≤ n → read_by r n lines ≡ Ok d → Agrees q r o → Agrees q d (fold (then_line (value_in q)) o (enumerate_from n lines))
all_agree q [] n r d o filled e h = subst (λ (x : SettingsSoFar). Agrees q x o) (same_Ok r d e) h
all_agree q (line ∷ lines) n r d o filled e h =
    let (m, read, rest) = one_line r d n line lines e in
    all_agree q lines (n + 1) m d (then_line (value_in q) o (n, line)) (omega (arith, filled)) rest (agrees_then q n r m line o filled (line_says n r m line read) h)

-- ---- the whole file

whole : (x : Result SettingsSoFar ParamError) (s : Settings) → agreed_of x ≡ Ok s → (d : SettingsSoFar) × (x ≡ Ok d) × (d.settings ≡ s)
whole (Err e) s is = absurd (cc)
whole (Ok d) s is = (d, refl, by (least nat_lt (disagreements d)) is)
  where
    by : (o : Option ℕ) → option_map_or (λ line. Err (at_line line BadValue)) o (Ok d.settings) ≡ Ok s → d.settings ≡ s
    by None e = same_Ok d.settings s e
    by (Some line) e = absurd (cc)

-- each value that is told is in force
pub tells_values_in_force : TellsValuesInForce
tells_values_in_force bytes s read q =
    let (d, lines, is) = whole (read_lines bytes) s read in
    let start : Agrees q nothing_read None = record { size = refl; line = unset_line q; force = default_set q } in
    subst (λ (x : Settings). set_to q (told_value q (setting_of q bytes)) x ≡ Some x) is (all_agree q (lines_in bytes) 1 nothing_read d None (omega arith) lines start).force
