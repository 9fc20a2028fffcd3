-- The lines at fault of the files of conf are the lines that are refused.
use Rattle.std.proofs.Common.{◌≡◌, ◌+◌, ◌++◌, ◌∷◌, ◌∙◌, ◌-◌, [], ⊎_elim, Bool, true, false, if◌then◌else◌, is_some, map, ℕ, zero, suc, List, Option, Some, None, Result, Ok, Err, refl, sym, ap, take, arith}
use Rattle.std.specs.Option.{option_map, option_map_or}
use Rattle.std.specs.Result.{result_err, result_map_both}
use Rattle.q_conf.specs.Confs.{conf_line_of}
use Rattle.q_conf.specs.declared.error.ConfFile.{ConfFile}
use Rattle.q_conf.specs.declared.error.ConfFile.TheVariants.{Parameters, Table}
use Rattle.q_params.specs.ParameterFile.{agreed_of, at_line, nothing_read, then_setting_line}
use Rattle.q_params.specs.Readings.{read_setting_line, SettingsSoFar}
use Rattle.q_params.specs.declared.error.ParamCause.{ParamCause}
use Rattle.q_params.specs.declared.error.ParamError.{ParamError}
use Rattle.q_text.specs.Lines.{lines_in}
use Rattle.q_model.specs.Texts.{lower}
use Rattle.q_text.specs.Blanks.{is_passed_over}
use Rattle.q_transport.specs.Contents.{Contents, empty_contents, rule_of_pattern}
use Rattle.q_transport.specs.Names.{number_of}
use Rattle.q_transport.specs.Readings.{add_parts, is_full, read_table_line, with_parts}
use Rattle.q_transport.specs.TableFile.{then_table_line}
use Rattle.q_transport.specs.TableLines.{Parts, parts_of_line}
use Rattle.q_transport.specs.declared.error.TableError.{TableError}
use Rattle.q_transport.specs.declared.error.TableError.TheVariants.{BadLine, TooMany, Twice}
use Rattle.q_check.specs.Faults.{blanked, fault_in, faults}
use Rattle.q_check.specs.Refusals.{AreParamFaults, AreTableFaults, refused}
use Rattle.q_check.proofs.BlankLaws.{lines_blanked, spaces_passed}
use Rattle.q_check.proofs.RefusalLaws.{ends, Faultless, Faulty, Reader}

-- ---- one line at fault, and the others

fault_first : (file : ConfFile) (most n : ℕ) (bytes : List ℕ) → fault_in file bytes ≡ Some n → faults file (suc most) bytes ≡ n ∷ faults file most (blanked n bytes)
unfolding faults
fault_first file most n bytes is = ap (λ (o : Option ℕ). option_map_or (λ m. m ∷ faults file most (blanked m bytes)) o []) is

fault_none : (file : ConfFile) (most : ℕ) (bytes : List ℕ) → fault_in file bytes ≡ None → faults file (suc most) bytes ≡ []
unfolding faults
fault_none file most bytes is = ap (λ (o : Option ℕ). option_map_or (λ m. m ∷ faults file most (blanked m bytes)) o []) is

no_faults : (file : ConfFile) (bytes : List ℕ) → faults file 0 bytes ≡ []
unfolding faults
no_faults file bytes = refl

-- what is refused with the first line that is refused blank
rest_of : {S E : Type 0} (r : Reader S E) (start : S) (bytes : List ℕ) (f : Faulty r 1 start (lines_in bytes)) → refused r.read 1 start (lines_in (blanked (r.number f.error) bytes)) ≡ f.others
rest_of r start bytes f =
    let low = f.low in
    let k = r.number f.error - 1 in
    let number : r.number f.error ≡ suc k = omega (arith, low) in
    ap (λ (m : ℕ). refused r.read 1 start (lines_in (blanked m bytes))) number ∙ ap (refused r.read 1 start) (lines_blanked k bytes) ∙ f.rest

-- ---- a transport table

same_error : {S : Type 0} (x y : TableError) → ◌≡◌ {A = Result S TableError} (Err x) (Err y) → conf_line_of y ≡ conf_line_of x
same_error x y e =
    let same : x ≡ y = cc in
    ap conf_line_of (sym same)

no_error : {S E P : Type 0} (x : S) (e : E) → ◌≡◌ {A = Result S E} (Ok x) (Err e) → P
no_error x e is = absurd cc

added_number : (n : ℕ) (c d : Contents) (twice full : Bool) (e : TableError) → (if twice then Err (Twice n) else if full then Err (TooMany n) else Ok d) ≡ Err e → conf_line_of e ≡ n
added_number n c d true full e is = same_error {S = Contents} (Twice n) e is
added_number n c d false true e is = same_error {S = Contents} (TooMany n) e is
added_number n c d false false e is = no_error d e is

entry_cases : (n : ℕ) (c : Contents) (passed : Bool) (parts : Option Parts) (e : TableError) → (if passed then Ok c else option_map_or (add_parts n c) parts (Err (BadLine n))) ≡ Err e → conf_line_of e ≡ n
entry_cases n c true parts e is = no_error c e is
entry_cases n c false None e is = same_error {S = Contents} (BadLine n) e is
entry_cases n c false (Some p) e is = added_number n c (with_parts c p) (is_some (rule_of_pattern c.entries (map lower p.pattern))) (is_full c (number_of c.names p.transport)) e is

entry_number : (n : ℕ) (c : Contents) (line : List ℕ) (e : TableError) → read_table_line n c line ≡ Err e → conf_line_of e ≡ n
entry_number n c line e is = entry_cases n c (is_passed_over line) (parts_of_line line) e is

table_reader : Reader Contents TableError
table_reader = record {
  read = read_table_line;
  number = conf_line_of;
  behind = then_table_line;
  behind_ok = λ s line. refl;
  behind_err = λ e line. refl;
  numbered = entry_number;
  blank = λ n s m. rw (spaces_passed m) refl;
}

pub table_faults : AreTableFaults
unfolding table_reader
table_faults zero bytes = no_faults Table bytes
table_faults (suc most) bytes = ⊎_elim
    (λ (f : Faulty table_reader 1 empty_contents (lines_in bytes)).
    fault_first Table most (conf_line_of f.error) bytes (ap (λ (x : Result Contents TableError). option_map conf_line_of (result_err x)) f.is)
    ∙ ap (λ (xs : List ℕ). conf_line_of f.error ∷ xs) (table_faults most (blanked (conf_line_of f.error) bytes) ∙ ap (take most) (rest_of table_reader empty_contents bytes f))
    ∙ ap (take (suc most)) (sym f.refused_are))
    (λ (g : Faultless table_reader 1 empty_contents (lines_in bytes)).
    fault_none Table most bytes (ap (λ (x : Result Contents TableError). option_map conf_line_of (result_err x)) g.is) ∙ ap (take (suc most)) (sym g.none))
    (ends table_reader 1 empty_contents (lines_in bytes))

-- ---- a parameter file

abbrev setting_read : ℕ → SettingsSoFar → List ℕ → Result SettingsSoFar ParamError
setting_read n s line = result_map_both (λ r. r) (at_line n) (read_setting_line n s line)

setting_cases : (n : ℕ) (x : Result SettingsSoFar ParamCause) (e : ParamError) → result_map_both (λ r. r) (at_line n) x ≡ Err e → e.line ≡ n
setting_cases n (Ok r) e is = no_error r e is
setting_cases n (Err cause) e is =
    let same : at_line n cause ≡ e = cc in
    ap (λ (y : ParamError). y.line) (sym same)

setting_reader : Reader SettingsSoFar ParamError
setting_reader = record {
  read = setting_read;
  number = λ e. e.line;
  behind = then_setting_line;
  behind_ok = λ s line. refl;
  behind_err = λ e line. refl;
  numbered = λ n s line e is. setting_cases n (read_setting_line n s line) e is;
  blank = λ n s m. rw (spaces_passed m) refl;
}

same_refused : (n : ℕ) (s : SettingsSoFar) (lines : List (List ℕ)) → refused setting_read n s lines ≡ refused read_setting_line n s lines
same_refused n s [] = refl
same_refused n s (line ∷ lines) = by (read_setting_line n s line) refl (λ t. same_refused (n + 1) t lines)
  where
    by : (x : Result SettingsSoFar ParamCause) → read_setting_line n s line ≡ x → ((t : SettingsSoFar) → refused setting_read (n + 1) t lines ≡ refused read_setting_line (n + 1) t lines)
        → refused setting_read n s (line ∷ lines) ≡ refused read_setting_line n s (line ∷ lines)
    by (Ok t) is rest = rw is (rest t)
    by (Err cause) is rest = rw is (ap (λ (xs : List ℕ). n ∷ xs) (rest s))

pub param_faults : AreParamFaults
unfolding setting_reader
param_faults zero bytes = ([], no_faults Parameters bytes)
param_faults (suc most) bytes = ⊎_elim
    (λ (f : Faulty setting_reader 1 nothing_read (lines_in bytes)).
    let later = param_faults most (blanked f.error.line bytes) in
    let rest = sym (same_refused 1 nothing_read (lines_in (blanked f.error.line bytes))) ∙ rest_of setting_reader nothing_read bytes f in
    let first = sym (same_refused 1 nothing_read (lines_in bytes)) ∙ f.refused_are in (
      later.0,
      fault_first Parameters most f.error.line bytes (ap (λ (x : Result SettingsSoFar ParamError). option_map (λ (e : ParamError). e.line) (result_err (agreed_of x))) f.is)
          ∙ ap (λ (xs : List ℕ). f.error.line ∷ xs) (later.1 ∙ ap (λ (xs : List ℕ). take most xs ++ later.0) rest)
          ∙ ap (λ (xs : List ℕ). take (suc most) xs ++ later.0) (sym first),
    ))
    (λ (g : Faultless setting_reader 1 nothing_read (lines_in bytes)).
    let none = sym (same_refused 1 nothing_read (lines_in bytes)) ∙ g.none in
    (faults Parameters (suc most) bytes, ap (λ (xs : List ℕ). take (suc most) xs ++ faults Parameters (suc most) bytes) (sym none)))
    (ends setting_reader 1 nothing_read (lines_in bytes))
