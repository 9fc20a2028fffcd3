-- What the bytes of the files of conf say is what a command goes by.
use Rattle.std.proofs.Common.{◌≡◌, ℕ, List, [], Result, Ok, Err, sym, ap, ◌∙◌, subst, IsTrue, Bool}
use Rattle.std.specs.Prelude.{codes}
use Rattle.q_host.specs.Calls.{Stays}
use Rattle.q_model.specs.SpoolFiles.{Files}
use Rattle.q_host.specs.View.{View}
use Rattle.q_model.specs.Settings.{Settings}
use Rattle.q_params.specs.ParameterFile.{settings_of_file as params_of}
use Rattle.q_settings.specs.Ranges.{IsInRange}
use Rattle.q_params.specs.declared.error.ParamError.{ParamError}
use Rattle.q_transport.specs.TableFile.{table_of_file as contents_of}
use Rattle.q_conf.specs.ConfReads.{GivesParams, GivesTable}
use Rattle.q_conf.specs.Confs.{at_fault, conf_bytes, conf_of, goes_by, IsConfFault, IsFaultOfSome, SaySo, conf_line_of, with_params, with_table, world_of}
use Rattle.q_conf.specs.declared.conf.Conf.{Conf}
use Rattle.q_conf.specs.declared.error.ConfError.{ConfError}
use Rattle.q_conf.specs.declared.error.ConfError.TheVariants as errors

pub params_fault : (tells : Bool) (f : Files) (bytes : List ℕ) (error : ConfError) → GivesParams (Err error) (params_of bytes) → (IsTrue tells → bytes ≡ conf_bytes f (codes "params")) → IsConfFault tells (conf_of f) error
unfolding conf_of
params_fault tells f bytes error (e, read, is) there =
    subst (λ s. IsConfFault tells (conf_of f) s) (sym is) (λ t. ap (λ (r : Result Settings ParamError). with_params r (conf_bytes f (codes "transport"))) (ap params_of (sym (there t)) ∙ read))

-- the parameters, and what the table makes of them
both : (f : Files) (first second : List ℕ) (settings : Settings) → params_of first ≡ Ok settings → first ≡ conf_bytes f (codes "params") → second ≡ conf_bytes f (codes "transport") → conf_of f ≡ with_table settings (contents_of second)
unfolding conf_of
both f first second settings read is then_is =
    ap (λ (r : Result Settings ParamError). with_params r (conf_bytes f (codes "transport"))) (ap params_of (sym is) ∙ read) ∙ ap (λ (x : List ℕ). with_table settings (contents_of x)) (sym then_is)

-- the same of any texts
pub params_fault_of : (bytes : List ℕ) (error : ConfError) → GivesParams (Err error) (params_of bytes) → IsFaultOfSome error
params_fault_of bytes error (e, read, is) =
    subst IsFaultOfSome (sym is) (record { params = bytes; table = []; say = ap (λ (r : Result Settings ParamError). with_params r []) read })

pub table_fault_of : (first second : List ℕ) (settings : Settings) (error : ConfError) → GivesTable (Err error) (contents_of second) → params_of first ≡ Ok settings → IsFaultOfSome error
table_fault_of first second settings (errors.BadLine file line) (e, read, is_table, is_line) params = record {
  params = first;
  table = second;
  say = ap (λ (r : Result Settings ParamError). with_params r second) params ∙ ap (with_table settings) read ∙ ap (λ x. at_fault x (conf_line_of e)) (sym is_table) ∙ ap (at_fault file) (sym is_line);
}
table_fault_of first second settings errors.NoMemory gives params = tt
table_fault_of first second settings errors.Disk gives params = absurd gives

pub said_by : (first second : List ℕ) (conf : Conf) → params_of first ≡ Ok conf.params → contents_of second ≡ Ok conf.table → SaySo (goes_by (world_of conf))
unfolding world_of
said_by first second conf params contents = record {
  params = first;
  table = second;
  say = ap (λ (r : Result Settings ParamError). with_params r second) params ∙ ap (with_table conf.params) contents;
}

pub table_fault : (tells : Bool) (f : Files) (first second : List ℕ) (settings : Settings) (error : ConfError) → GivesTable (Err error) (contents_of second) → params_of first ≡ Ok settings → (IsTrue tells → first ≡ conf_bytes f (codes "params")) → (IsTrue tells → second ≡ conf_bytes f (codes "transport"))
    → IsConfFault tells (conf_of f) error
table_fault tells f first second settings (errors.BadLine file line) (e, read, is_table, is_line) params is then_is =
    λ t. both f first second settings params (is t) (then_is t) ∙ ap (with_table settings) read ∙ ap (λ x. at_fault x (conf_line_of e)) (sym is_table) ∙ ap (at_fault file) (sym is_line)
table_fault tells f first second settings errors.NoMemory gives params is then_is = tt
table_fault tells f first second settings errors.Disk gives params is then_is = absurd gives

pub conf_read : (f : Files) (first second : List ℕ) (conf : Conf) → params_of first ≡ Ok conf.params → contents_of second ≡ Ok conf.table → first ≡ conf_bytes f (codes "params") → second ≡ conf_bytes f (codes "transport") → conf_of f ≡ goes_by (world_of conf)
unfolding world_of
conf_read f first second conf params contents is then_is = both f first second conf.params params is then_is ∙ ap (with_table conf.params) contents

pub conf_range : (conf : Conf) → IsInRange conf.params → IsInRange (world_of conf).settings
unfolding world_of
conf_range conf h = h

-- the second file is read after the first
pub second_bytes : (before mid : View) (bytes name other : List ℕ) → Stays before mid → name ≡ other → bytes ≡ conf_bytes mid.files name → bytes ≡ conf_bytes before.files other
second_bytes before mid bytes name other still same is = is ∙ ap (λ (f : Files). conf_bytes f name) still.files ∙ ap (conf_bytes before.files) same
