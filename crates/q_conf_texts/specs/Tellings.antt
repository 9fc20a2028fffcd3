-- How a command ends that tells what the files of conf say.
use Rattle.std.specs.Prelude.{◌≡◌, ◌≤◌, ◌⊎◌, [], codes, Err, IsErrOf, List, Ok, Result, ℕ}
use Rattle.std.specs.Result.{result_map_both}
use Rattle.q_conf.specs.Confs.{conf_bytes, conf_line_of}
use Rattle.q_conf.specs.declared.error.ConfFile.{ConfFile}
use Rattle.q_conf.specs.declared.error.ConfFile.TheVariants.{Parameters, Table}
use Rattle.q_conf_texts.specs.Params.{params_text}
use Rattle.q_conf_texts.specs.Routes.{routes_text}
use Rattle.q_conf_texts.specs.declared.error.LookError.{LookError}
use Rattle.q_conf_texts.specs.declared.error.LookError.TheVariants as errors
use Rattle.q_host.specs.declared.error.HostError.{HostError}
use Rattle.q_host.specs.declared.error.HostError.TheVariants as faults
use Rattle.q_host.specs.Faults.{Faults}
use Rattle.q_host.specs.View.{View}
use Rattle.q_model.specs.FaultCounts.{Rose}
use Rattle.q_model.specs.Settings.{Settings}
use Rattle.q_params.specs.ParameterFile.{settings_of_file}
use Rattle.q_params.specs.declared.error.ParamError.{ParamError}
use Rattle.q_telling.specs.Telling.{TellsFront, TellsMore}
use Rattle.q_transport.specs.Contents.{Contents}
use Rattle.q_transport.specs.TableFile.{table_of_file}

-- a fault of the host, as it is answered
abbrev pub look_error : HostError → LookError
look_error faults.Disk = errors.Disk
look_error faults.Tell = errors.Tell
look_error faults.NoMemory = errors.NoMemory

-- no count of faults fell, and each fault comes only where its count rose
pub record LookCause {T : Type 0} (before after : Faults) (result : Result T LookError) : Type 0 where
  pub disk_later : before.disk ≤ after.disk
  pub tell_later : before.tell ≤ after.tell
  pub disk : IsErrOf result errors.Disk → Rose before.disk after.disk
  pub tell : IsErrOf result errors.Tell → Rose before.tell after.tell

-- the line of a fault of the parameter file
abbrev pub line_or : Result Settings ParamError → Result Settings ℕ
line_or read = result_map_both (λ s. s) (λ e. e.line) read

-- what the bytes of the parameter file say, or the line of its first fault
abbrev pub params_said : List ℕ → Result Settings ℕ
params_said bytes = line_or (settings_of_file bytes)

-- the same of a table
abbrev pub routes_said : List ℕ → Result Contents ℕ
routes_said bytes = result_map_both (λ c. c) conf_line_of (table_of_file bytes)

-- what is said, unless memory runs out
abbrev pub GivesTable : Result Contents LookError → Result Contents ℕ → Type 0
GivesTable (Ok contents) said = said ≡ Ok contents
GivesTable (Err (errors.BadLine file line)) said = (file ≡ Table) × (said ≡ Err line)
GivesTable (Err errors.NoMemory) said = Unit {0}
GivesTable (Err errors.Disk) said = ⊥
GivesTable (Err errors.Tell) said = ⊥

-- A line at fault is one of this file, which some bytes have, whether the host tells its files or not.
abbrev pub IsFaultIn : {A : Type 0} → ConfFile → (List ℕ → Result A ℕ) → LookError → Type 0
IsFaultIn file said (errors.BadLine f line) = (f ≡ file) × ((bytes : List ℕ) × (said bytes ≡ Err line))
IsFaultIn file said errors.Disk = Unit {0}
IsFaultIn file said errors.Tell = Unit {0}
IsFaultIn file said errors.NoMemory = Unit {0}

-- nothing was told, or the file is without fault and some first part of its text was told
abbrev pub TellsFrontOf : {A : Type 0} → Result A ℕ → (A → List ℕ) → View → View → Type 0
TellsFrontOf {A} said text u v = TellsMore [] u v ⊎ ((a : A) × (said ≡ Ok a) × TellsFront (text a) u v)

-- By each answer: the file is without fault, and the text was told of what it says; or its first fault is
-- named, and nothing was told; or the host failed. No file changed.
abbrev pub TellsSaid : {A : Type 0} → ConfFile → Result A ℕ → (A → List ℕ) → View → View → Result (Unit {0}) LookError → Type 0
TellsSaid {A} file said text u v (Ok done) = (a : A) × (said ≡ Ok a) × TellsMore (text a) u v
TellsSaid file said text u v (Err (errors.BadLine f line)) =
    (f ≡ file) × (said ≡ Err line) × TellsMore [] u v
TellsSaid file said text u v (Err errors.Disk) = TellsFrontOf said text u v
TellsSaid file said text u v (Err errors.Tell) = TellsFrontOf said text u v
TellsSaid file said text u v (Err errors.NoMemory) = TellsFrontOf said text u v

-- the files of conf
abbrev pub params_bytes : View → List ℕ
params_bytes u = conf_bytes u.files (codes "params")

abbrev pub table_bytes : View → List ℕ
table_bytes u = conf_bytes u.files (codes "transport")

-- the parameters in force are told
abbrev pub TellsParams : View → View → Result (Unit {0}) LookError → Type 0
TellsParams u v result =
    TellsSaid Parameters (params_said (params_bytes u)) (λ s. params_text (params_bytes u)) u v result

-- it is told where these addresses go by the table
abbrev pub TellsRoutes : List (List ℕ) → View → View → Result (Unit {0}) LookError → Type 0
TellsRoutes addresses u v result =
    TellsSaid Table (routes_said (table_bytes u)) (λ c. routes_text c (table_bytes u) addresses) u v result
