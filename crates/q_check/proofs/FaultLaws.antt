-- The lines of a file of conf that are at fault, one at a time, and the worst of both files.
use Rattle.std.proofs.Common.{◌≡◌, ◌<◌, ◌-◌, ◌++◌, ◌∷◌, ◌∙◌, [], ℕ, zero, suc, List, Option, Some, None, Result, Ok, Err, refl, sym, ap, subst, append_assoc, append-nil, arith}
use Rattle.std.specs.Option.{IfSome, option_map, option_map_or}
use Rattle.std.specs.Prelude.{codes, slice_get}
use Rattle.std.specs.Result.{result_err}
use Rattle.q_model.specs.Settings.{Settings}
use Rattle.q_model.specs.SpoolFiles.{Files}
use Rattle.q_model.specs.Values.{Spot}
use Rattle.q_conf.specs.Confs.{conf_bytes, conf_line_of, conf_of, with_params, with_table}
use Rattle.q_conf.specs.declared.error.ConfFile.{ConfFile}
use Rattle.q_conf.specs.declared.error.ConfFile.TheVariants.{Parameters, Table}
use Rattle.q_params.specs.ParameterFile.{settings_of_file as params_of}
use Rattle.q_params.specs.declared.error.ParamError.{ParamError}
use Rattle.q_transport.specs.Contents.{Contents}
use Rattle.q_transport.specs.TableFile.{table_of_file as contents_of}
use Rattle.q_transport.specs.declared.error.TableError.{TableError}
use Rattle.q_check.specs.SpoolDamages.{IsDamageIn, IsDamageOfSome}
use Rattle.q_check.specs.Worst.{AreFaultsIn, AreFaultsOfSome, CanGoBy, IsFoundIn, IsFoundOfSome, worse_of, worst_of}
use Rattle.q_check.specs.Faults.{blanked, fault_in, faults}

-- ---- one line more

pub one_more : (file : ConfFile) (left n : ℕ) (bytes : List ℕ) → 0 < left → fault_in file bytes ≡ Some n → faults file left bytes ≡ n ∷ faults file (left - 1) (blanked n bytes)
unfolding faults
one_more file zero n bytes some is = absurd (omega (arith, some))
one_more file (suc left) n bytes some is =
    let less : suc left - 1 ≡ left = omega arith in
    rw less (ap (λ (o : Option ℕ). option_map_or (λ m. m ∷ faults file left (blanked m bytes)) o []) is)

pub no_more : (file : ConfFile) (left : ℕ) (bytes : List ℕ) → fault_in file bytes ≡ None → faults file left bytes ≡ []
unfolding faults
no_more file zero bytes is = refl
no_more file (suc left) bytes is = ap (λ (o : Option ℕ). option_map_or (λ m. m ∷ faults file left (blanked m bytes)) o []) is

pub no_room : (file : ConfFile) (bytes : List ℕ) → faults file 0 bytes ≡ []
unfolding faults
no_room file bytes = refl

-- the loop finds one line more
pub found_more : (file : ConfFile) (left n : ℕ) (bytes next lines new all : List ℕ) → 0 < left → fault_in file bytes ≡ Some n → new ≡ lines ++ n ∷ [] → next ≡ blanked n bytes
    → lines ++ faults file left bytes ≡ all → new ++ faults file (left - 1) next ≡ all
found_more file left n bytes next lines new all some is pushed blank so_far =
    ap (λ (xs : List ℕ). xs ++ faults file (left - 1) next) pushed ∙ append_assoc lines (n ∷ []) (faults file (left - 1) next)
    ∙ ap (λ (xs : List ℕ). lines ++ n ∷ faults file (left - 1) xs) blank
    ∙ ap (λ (xs : List ℕ). lines ++ xs) (sym (one_more file left n bytes some is)) ∙ so_far

-- and then none
pub found_all : (file : ConfFile) (left : ℕ) (bytes lines all : List ℕ) → fault_in file bytes ≡ None → lines ++ faults file left bytes ≡ all → lines ≡ all
found_all file left bytes lines all none so_far = sym (append-nil lines) ∙ ap (λ (xs : List ℕ). lines ++ xs) (sym (no_more file left bytes none)) ∙ so_far

pub found_enough : (file : ConfFile) (left : ℕ) (bytes lines all : List ℕ) → (0 < left → ⊥) → lines ++ faults file left bytes ≡ all → lines ≡ all
found_enough file zero bytes lines all none so_far = sym (append-nil lines) ∙ ap (λ (xs : List ℕ). lines ++ xs) (sym (no_room file bytes)) ∙ so_far
found_enough file (suc left) bytes lines all none so_far = absurd (none (omega arith))

first_or : (o : Option ℕ) (rest : ℕ → List ℕ) → slice_get (option_map_or (λ n. n ∷ rest n) o []) 0 ≡ o
first_or None rest = refl
first_or (Some n) rest = refl

-- the first of the lines at fault is that for which a life is refused
pub first_fault : (file : ConfFile) (bytes : List ℕ) → slice_get (faults file 100 bytes) 0 ≡ fault_in file bytes
unfolding faults
first_fault file bytes = first_or (fault_in file bytes) (λ n. faults file 99 (blanked n bytes))

-- ---- the worst

abbrev line_of : Result Settings ParamError → Option ℕ
line_of r = option_map (λ (e : ParamError). e.line) (result_err r)

abbrev table_line_of : Result Contents TableError → Option ℕ
table_line_of t = option_map conf_line_of (result_err t)

module _ (f : Files) (damage : Option Spot) (is_damage : IsDamageIn f damage) where
  worse_damage : (d : Option Spot) → damage ≡ d → CanGoBy f → IsFoundIn f (worse_of None d)
  worse_damage None e can = (can, subst (IsDamageIn f) e is_damage)
  worse_damage (Some spot) e can = (can, subst (IsDamageIn f) e is_damage)

  worst_table : (settings : Settings) (t : Result Contents TableError) → conf_of f ≡ with_table settings t → IsFoundIn f (worse_of (table_line_of t) damage)
  worst_table settings (Ok c) is = worse_damage damage refl (_, is)
  worst_table settings (Err e) is = is

  worst_params : (r : Result Settings ParamError) (table : List ℕ) → conf_of f ≡ with_params r table → IsFoundIn f (worst_of (line_of r) (fault_in Table table) damage)
  worst_params (Ok settings) table is = worst_table settings (contents_of table) is
  worst_params (Err e) table is = is

  -- what is found in these files
  pub worst_in : (params table : Option ℕ) → AreFaultsIn f params table → IsFoundIn f (worst_of params table damage)
  unfolding conf_of
  worst_in params table h = subst (λ (a : Option ℕ). IsFoundIn f (worst_of a table damage)) (sym h.0)
      (subst (λ (b : Option ℕ). IsFoundIn f (worst_of (fault_in Parameters (conf_bytes f (codes "params"))) b damage)) (sym h.1) (worst_params (params_of (conf_bytes f (codes "params"))) (conf_bytes f (codes "transport")) refl))

-- ---- the same of some texts

module _ (damage : Option Spot) (some : IfSome damage IsDamageOfSome) where
  named_damage : (d : Option Spot) → damage ≡ d → IsFoundOfSome (worse_of None d)
  named_damage None e = tt
  named_damage (Some spot) e = subst (λ (o : Option Spot). IfSome o IsDamageOfSome) e some

  named_table : (first second : List ℕ) (settings : Settings) (t : Result Contents TableError) → params_of first ≡ Ok settings → contents_of second ≡ t → IsFoundOfSome (worse_of (table_line_of t) damage)
  named_table first second settings (Ok c) is then_is = named_damage damage refl
  named_table first second settings (Err e) is then_is = record {
    params = first;
    table = second;
    say = ap (λ (r : Result Settings ParamError). with_params r second) is ∙ ap (with_table settings) then_is;
  }

  named_params : (first second : List ℕ) (r : Result Settings ParamError) → params_of first ≡ r → IsFoundOfSome (worst_of (line_of r) (fault_in Table second) damage)
  named_params first second (Ok settings) is = named_table first second settings (contents_of second) is refl
  named_params first second (Err e) is = record {
    params = first;
    table = second;
    say = ap (λ (r : Result Settings ParamError). with_params r second) is;
  }

  pub worst_named : (params table : Option ℕ) → AreFaultsOfSome params table → IsFoundOfSome (worst_of params table damage)
  worst_named params table h = subst (λ (a : Option ℕ). IsFoundOfSome (worst_of a table damage)) (sym h.2)
      (subst (λ (b : Option ℕ). IsFoundOfSome (worst_of (fault_in Parameters h.0) b damage)) (sym h.3) (named_params h.0 h.1 (params_of h.0) refl))
