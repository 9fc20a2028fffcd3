-- Commands that tell what the files of conf say.
use Rattle.std.proofs.Common.{◌≡◌, [], ap, false, inl, inr, List, Option, refl, ℕ}
use Rattle.std.specs.Prelude.{Err, IfErr, Ok, Result}
use Rattle.std.specs.Result.{result_map_both}
use Rattle.q_books.specs.HostStands.{HostStands}
use Rattle.q_conf.specs.Confs.{at_fault, conf_line_of, SaySo, with_params, with_table}
use Rattle.q_conf.specs.declared.error.ConfFile.{ConfFile}
use Rattle.q_conf.specs.declared.error.ConfFile.TheVariants as conf
use Rattle.q_conf_texts.specs.Tellings.{IsFaultIn, line_or, LookCause, params_said, routes_said, TellsSaid, TellsFrontOf}
use Rattle.q_conf_texts.specs.declared.error.LookError.{LookError}
use Rattle.q_conf_texts.specs.declared.error.LookError.TheVariants as errors
use Rattle.q_host.specs.Faults.{Faults}
use Rattle.q_host.specs.View.{View}
use Rattle.q_model.specs.Book.{Book}
use Rattle.q_model.specs.Settings.{defaults, Settings}
use Rattle.q_params.specs.ParameterFile.{settings_of_file}
use Rattle.q_params.specs.declared.error.ParamError.{ParamError}
use Rattle.q_replay.specs.Spools.{OnlyLooks}
use Rattle.q_transport.specs.Contents.{Contents}
use Rattle.q_transport.specs.TableFile.{table_of_file}
use Rattle.q_transport.specs.declared.error.TableError.{TableError}
use Rattle.q_top.proofs.Serving.{told_looks}
use Rattle.q_top.specs.Causes.{HasHostCause}
use Rattle.q_top.specs.Named.{IsNamed}
use Rattle.q_top.specs.Statuses.{is_unreadable, look_status}
use Rattle.q_words.specs.declared.request.Request.{Request}

pub look_readable : (r : Result (Unit {0}) LookError) → is_unreadable (look_status r) ≡ false
look_readable (Ok done) = refl
look_readable (Err errors.Disk) = refl
look_readable (Err errors.Tell) = refl
look_readable (Err errors.NoMemory) = refl
look_readable (Err (errors.BadLine file line)) = refl

-- ---- no file is changed

module _ {A : Type 0} (file : ConfFile) (said : Result A ℕ) (text : A → List ℕ) (b : Book) (u v : View) (h : HostStands u b) where
  some_looks : TellsFrontOf said text u v → OnlyLooks b u v
  some_looks (inl told) = told_looks [] b u v h told
  some_looks (inr (a, is, front)) = told_looks front.part b u v h front.told

  pub said_looks : (r : Result (Unit {0}) LookError) → TellsSaid file said text u v r → OnlyLooks b u v
  said_looks (Ok done) (a, is, told) = told_looks (text a) b u v h told
  said_looks (Err (errors.BadLine f line)) (same, is, told) = told_looks [] b u v h told
  said_looks (Err errors.Disk) some = some_looks some
  said_looks (Err errors.Tell) some = some_looks some
  said_looks (Err errors.NoMemory) some = some_looks some

-- ---- causes

pub look_cause : (before after : Faults) (r : Result (Unit {0}) LookError) → LookCause before after r → HasHostCause before after (look_status r)
look_cause before after (Ok done) h = record { disk = λ is. absurd cc; tell = λ is. absurd cc }
look_cause before after (Err errors.Disk) h = record { disk = λ is. h.disk refl; tell = λ is. absurd cc }
look_cause before after (Err errors.Tell) h = record { disk = λ is. absurd cc; tell = λ is. h.tell refl }
look_cause before after (Err errors.NoMemory) h = record { disk = λ is. absurd cc; tell = λ is. absurd cc }
look_cause before after (Err (errors.BadLine file line)) h = record { disk = λ is. absurd cc; tell = λ is. absurd cc }

-- ---- a line at fault

params_at : (read : Result Settings ParamError) (table : List ℕ) (line : ℕ) → line_or read ≡ Err line → with_params read table ≡ at_fault conf.Parameters line
params_at (Ok s) table line fault = absurd cc
params_at (Err e) table line fault = let same : e.line ≡ line = cc in ap (at_fault conf.Parameters) same

-- the empty file of parameters has no fault
table_at : (read : Result Contents TableError) (line : ℕ) → result_map_both (λ c. c) conf_line_of read ≡ Err line → with_table defaults read ≡ at_fault conf.Table line
table_at (Ok contents) line fault = absurd cc
table_at (Err e) line fault = let same : conf_line_of e ≡ line = cc in ap (at_fault conf.Table) same

params_fault : (bytes : List ℕ) (line : ℕ) → params_said bytes ≡ Err line → SaySo (at_fault conf.Parameters line)
params_fault bytes line fault = record { params = bytes; table = []; say = params_at (settings_of_file bytes) [] line fault }

table_fault : (bytes : List ℕ) (line : ℕ) → routes_said bytes ≡ Err line → SaySo (at_fault conf.Table line)
table_fault bytes line fault = record { params = []; table = bytes; say = table_at (table_of_file bytes) line fault }

module _ (Asks : Request → Type 0) (text : Option (List ℕ)) where
  pub params_named : (r : Result (Unit {0}) LookError) → IfErr r (IsFaultIn conf.Parameters params_said) → IsNamed Asks text (look_status r)
  params_named (Ok done) h = tt
  params_named (Err errors.Disk) h = tt
  params_named (Err errors.Tell) h = tt
  params_named (Err errors.NoMemory) h = tt
  params_named (Err (errors.BadLine conf.Parameters line)) (same, (bytes, fault)) = params_fault bytes line fault
  params_named (Err (errors.BadLine conf.Table line)) (same, rest) = absurd cc

  pub routes_named : (r : Result (Unit {0}) LookError) → IfErr r (IsFaultIn conf.Table routes_said) → IsNamed Asks text (look_status r)
  routes_named (Ok done) h = tt
  routes_named (Err errors.Disk) h = tt
  routes_named (Err errors.Tell) h = tt
  routes_named (Err errors.NoMemory) h = tt
  routes_named (Err (errors.BadLine conf.Table line)) (same, (bytes, fault)) = table_fault bytes line fault
  routes_named (Err (errors.BadLine conf.Parameters line)) (same, rest) = absurd cc
