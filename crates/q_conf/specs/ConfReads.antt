-- What reading one file of conf gives.
use Rattle.std.specs.Prelude.{◌≡◌, Err, Ok, Result}
use Rattle.q_model.specs.Settings.{Settings}
use Rattle.q_params.specs.declared.error.ParamError.{ParamError}
use Rattle.q_transport.specs.Contents.{Contents}
use Rattle.q_transport.specs.declared.error.TableError.{TableError}
use Rattle.q_conf.specs.Confs.{conf_line_of}
use Rattle.q_conf.specs.declared.error.ConfError.{ConfError}
use Rattle.q_conf.specs.declared.error.ConfError.TheVariants as errors
use Rattle.q_conf.specs.declared.error.ConfFile.TheVariants.{Parameters, Table}

-- what the bytes say, or the error that names their fault
abbrev pub GivesParams : Result Settings ConfError → Result Settings ParamError → Type 0
GivesParams (Ok settings) read = read ≡ Ok settings
GivesParams (Err error) read = (e : ParamError) × (read ≡ Err e)
    × (error ≡ errors.BadLine Parameters e.line)

-- the same of a table, unless memory runs out
abbrev pub GivesTable : Result Contents ConfError → Result Contents TableError → Type 0
GivesTable (Ok contents) read = read ≡ Ok contents
GivesTable (Err errors.NoMemory) read = Unit {0}
GivesTable (Err errors.Disk) read = ⊥
GivesTable (Err (errors.BadLine file line)) read = (e : TableError) × (read ≡ Err e)
    × (file ≡ Table) × (line ≡ conf_line_of e)
