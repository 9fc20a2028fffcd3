-- What the files of conf say: the parameters and the transport table.
use Rattle.std.specs.Option.{unwrap_or}
use Rattle.std.specs.Prelude.{◌≡◌, ℕ, Bool, List, [], Result, Ok, Err, codes, IsTrue}
use Rattle.q_model.specs.declared.spot.Area.TheVariants.{Conf as ConfArea}
use Rattle.q_model.specs.Settings.{Settings, World}
use Rattle.q_model.specs.SpoolFiles.{Files}
use Rattle.q_params.specs.ParameterFile.{settings_of_file as params_of}
use Rattle.q_params.specs.declared.error.ParamError.{ParamError}
use Rattle.q_transport.specs.Contents.{Contents}
use Rattle.q_transport.specs.TableFile.{table_of_file as contents_of}
use Rattle.q_transport.specs.Routing.{table_of}
use Rattle.q_transport.specs.declared.error.TableError.{TableError}
use Rattle.q_transport.specs.declared.error.TableError.TheVariants as table_errors
use Rattle.q_conf.specs.declared.conf.Conf.{Conf}
use Rattle.q_conf.specs.declared.error.ConfError.{ConfError}
use Rattle.q_conf.specs.declared.error.ConfError.TheVariants as errors
use Rattle.q_conf.specs.declared.error.ConfFile.{ConfFile}
use Rattle.q_conf.specs.declared.error.ConfFile.TheVariants as files
use Rattle.q_host.specs.declared.error.HostError.{HostError}
use Rattle.q_host.specs.declared.error.HostError.TheVariants as faults

-- the bytes of a file of conf; a missing one says as much as an empty one
abbrev pub conf_bytes : Files → List ℕ → List ℕ
conf_bytes f name = unwrap_or (f ConfArea name) []

-- what the ledger goes by, or the first fault of the two files
pub data Sayings : Type 0 where
  goes_by : World → Sayings
  at_fault : ConfFile → ℕ → Sayings

-- the line of a fault of the table
abbrev pub conf_line_of : TableError → ℕ
conf_line_of table_errors.NoMemory = 0
conf_line_of (table_errors.BadLine n) = n
conf_line_of (table_errors.Twice n) = n
conf_line_of (table_errors.TooMany n) = n

-- what the table says, beside these parameters
abbrev pub with_table : Settings → Result Contents TableError → Sayings
with_table settings (Ok contents) = goes_by
    (record { settings = settings; table = table_of contents })
with_table settings (Err e) = at_fault files.Table (conf_line_of e)

-- the parameters come first, then the table
abbrev pub with_params : Result Settings ParamError → List ℕ → Sayings
with_params (Ok settings) table = with_table settings (contents_of table)
with_params (Err e) table = at_fault files.Parameters e.line

-- what the two files say
unfoldable pub conf_of : Files → Sayings
conf_of f = with_params (params_of (conf_bytes f (codes "params")))
    (conf_bytes f (codes "transport"))

-- Some two texts say so, in place of the parameters and of the table.
pub record SaySo (said : Sayings) : Type 0 where
  pub params : List ℕ
  pub table : List ℕ
  pub say : with_params (params_of params) table ≡ said

-- a fault of a line is one that some texts have, whether the host tells its files or not
abbrev pub IsFaultOfSome : ConfError → Type 0
IsFaultOfSome (errors.BadLine file line) = SaySo (at_fault file line)
IsFaultOfSome errors.Disk = Unit {0}
IsFaultOfSome errors.NoMemory = Unit {0}

-- why they can't be gone by
abbrev pub IsConfFault : Bool → Sayings → ConfError → Type 0
IsConfFault tells c (errors.BadLine file line) = IsTrue tells → c ≡ at_fault file line
IsConfFault tells c errors.Disk = Unit {0}
IsConfFault tells c errors.NoMemory = Unit {0}

-- what a refusal to read is answered as; telling is none
abbrev pub IsRefusal : HostError → ConfError → Type 0
IsRefusal faults.Disk error = error ≡ errors.Disk
IsRefusal faults.NoMemory error = error ≡ errors.NoMemory
IsRefusal faults.Tell error = ⊥

-- its parameters and its table, as the rules have them
unfoldable pub world_of : Conf → World
world_of conf = record { settings = conf.params; table = table_of conf.table }
