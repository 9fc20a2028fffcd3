-- The number of each status, and the status by which a command ends.
use Rattle.std.specs.Prelude.{Bool, Err, false, Ok, Result, true, ℕ}
use Rattle.q_audit.specs.declared.trace.TraceError.{TraceError}
use Rattle.q_audit.specs.declared.trace.TraceError.TheVariants as trace_errors
use Rattle.q_conf.specs.declared.error.ConfError.{ConfError}
use Rattle.q_conf.specs.declared.error.ConfError.TheVariants as conf_errors
use Rattle.q_conf.specs.declared.error.ConfFile.{ConfFile}
use Rattle.q_conf.specs.declared.error.ConfFile.TheVariants as conf_files
use Rattle.q_check.specs.declared.found.Found.{Found}
use Rattle.q_check.specs.declared.found.Found.TheVariants as founds
use Rattle.q_conf_texts.specs.declared.error.LookError.{LookError}
use Rattle.q_conf_texts.specs.declared.error.LookError.TheVariants as look_errors
use Rattle.q_model.specs.declared.limits.Bound.TheVariants as bounds
use Rattle.q_host.specs.declared.error.HostError.{HostError}
use Rattle.q_host.specs.declared.error.HostError.TheVariants as faults
use Rattle.q_input.specs.declared.error.IdsError.{IdsError}
use Rattle.q_input.specs.declared.error.IdsError.TheVariants as ids_errors
use Rattle.q_input.specs.declared.error.InputError.{InputError}
use Rattle.q_input.specs.declared.error.InputError.TheVariants as input_errors
use Rattle.q_listen.specs.declared.listened.Listened.{Listened}
use Rattle.q_listen.specs.declared.listened.Listened.TheVariants as listenings
use Rattle.q_listen.specs.declared.listened.ListenError.{ListenError}
use Rattle.q_listen.specs.declared.listened.ListenError.TheVariants as listen_errors
use Rattle.q_replay.specs.declared.deliveries.Delivered.{Delivered}
use Rattle.q_replay.specs.declared.deliveries.Delivered.TheVariants as deliveries
use Rattle.q_replay.specs.declared.error.ReplayError.{ReplayError}
use Rattle.q_replay.specs.declared.error.ReplayError.TheVariants as errors
use Rattle.q_super.specs.declared.error.SuperError.TheVariants as acts
use Rattle.q_tools.specs.declared.error.ToolError.{ToolError}
use Rattle.q_tools.specs.declared.error.ToolError.TheVariants.{Act, Life}
use Rattle.q_top.specs.declared.status.InputFile.{InputFile}
use Rattle.q_top.specs.declared.status.InputFile.TheVariants.{Events, Ids, Parameters, Table, Trace}
use Rattle.q_top.specs.declared.status.Status.{Status}
use Rattle.q_top.specs.declared.status.Status.TheVariants.{Absent, BadInput, Damaged, Disk, Done, Door, Limit, NoMemory, Source, Tell, Unfinished, Unreadable, Usage}

-- the exit status of a program
abbrev pub status_number : Status → ℕ
status_number Done = 0
status_number Usage = 1
status_number (BadInput file line) = 2
status_number Disk = 3
status_number Tell = 4
status_number Source = 5
status_number (Damaged area name) = 6
status_number (Unfinished rests) = 7
status_number (Limit bound) = 8
status_number NoMemory = 9
status_number Door = 10
status_number Absent = 11
status_number (Unreadable area name) = 12

-- a queue file can't be read any longer
abbrev pub is_unreadable : Status → Bool
is_unreadable (Unreadable area name) = true
is_unreadable _ = false

-- the input, the spool, one of its files, what was asked of it or a limit is at fault
abbrev pub names_fault : Status → Bool
names_fault (BadInput file line) = true
names_fault (Damaged area name) = true
names_fault (Limit bound) = true
names_fault (Unreadable area name) = true
names_fault Absent = true
names_fault _ = false

-- how a command ends whose lives ended so
abbrev pub replay_status : ReplayError → Status
replay_status errors.Disk = Disk
replay_status errors.Tell = Tell
replay_status errors.Source = Source
replay_status errors.NoMemory = NoMemory
replay_status (errors.BadEvent line) = BadInput Events line
replay_status (errors.Limit bound) = Limit bound
replay_status (errors.Damaged area name) = Damaged area name
replay_status (errors.Unreadable area name) = Unreadable area name

-- how a command ends by how lives ended
abbrev pub status_of : Result (Unit {0}) ReplayError → Status
status_of (Ok done) = Done
status_of (Err error) = replay_status error

-- how a command ends by how a life ended that delivers
abbrev pub delivery_status : Result Delivered ReplayError → Status
delivery_status (Ok deliveries.All) = Done
delivery_status (Ok (deliveries.Unfinished rests)) = Unfinished rests
delivery_status (Err error) = replay_status error

-- how a command ends whose life listened, and was refused so
abbrev pub listen_error_status : ListenError → Status
listen_error_status listen_errors.Disk = Disk
listen_error_status listen_errors.Tell = Tell
listen_error_status listen_errors.Door = Door
listen_error_status listen_errors.NoMemory = NoMemory
listen_error_status (listen_errors.Limit bound) = Limit bound
listen_error_status (listen_errors.Damaged area name) = Damaged area name
listen_error_status (listen_errors.Unreadable area name) = Unreadable area name

-- how a command ends by how a life ended that listens
abbrev pub listen_status : Result Listened ListenError → Status
listen_status (Ok listenings.All) = Done
listen_status (Ok (listenings.Unfinished rests)) = Unfinished rests
listen_status (Err error) = listen_error_status error

-- how a command ends by how a queue tool ended
abbrev pub tool_status : Result (Unit {0}) ToolError → Status
tool_status (Ok done) = Done
tool_status (Err (Life error)) = replay_status error
tool_status (Err (Act acts.Disk)) = Disk
tool_status (Err (Act acts.Tell)) = Tell
tool_status (Err (Act acts.NoMemory)) = NoMemory
tool_status (Err (Act acts.Absent)) = Absent

-- a file of conf among the files of input
abbrev pub input_of : ConfFile → InputFile
input_of conf_files.Parameters = Parameters
input_of conf_files.Table = Table

-- how a command ends that can't go by the files of conf
abbrev pub conf_status : ConfError → Status
conf_status conf_errors.Disk = Disk
conf_status conf_errors.NoMemory = NoMemory
conf_status (conf_errors.BadLine file line) = BadInput (input_of file) line

-- how a command ends that only tells
abbrev pub telling_status : Result (Unit {0}) HostError → Status
telling_status (Ok done) = Done
telling_status (Err faults.Disk) = Disk
telling_status (Err faults.Tell) = Tell
telling_status (Err faults.NoMemory) = NoMemory

-- how a command ends that tells what the files of conf say
abbrev pub look_status : Result (Unit {0}) LookError → Status
look_status (Ok done) = Done
look_status (Err look_errors.Disk) = Disk
look_status (Err look_errors.Tell) = Tell
look_status (Err look_errors.NoMemory) = NoMemory
look_status (Err (look_errors.BadLine file line)) = BadInput (input_of file) line

-- how a command ends that told a message, if there is one
abbrev pub show_status : Result Bool HostError → Status
show_status (Ok true) = Done
show_status (Ok false) = Absent
show_status (Err error) = telling_status (Err error)

-- how a command ends that found this
abbrev pub found_status : Found → Status
found_status founds.Nothing = Done
found_status (founds.BadConf file line) = BadInput (input_of file) line
found_status (founds.Damaged area name) = Damaged area name

-- how a command ends that told what is wrong
abbrev pub check_status : Result Found HostError → Status
check_status (Ok found) = found_status found
check_status (Err error) = telling_status (Err error)

-- how a command ends that has no content
abbrev pub content_status : InputError → Status
content_status input_errors.TooLong = Limit bounds.Content
content_status input_errors.Source = Source
content_status input_errors.NoMemory = NoMemory

-- how a command ends whose input is no list of ids
abbrev pub ids_status : IdsError → Status
ids_status (ids_errors.BadLine line) = BadInput Ids line
ids_status ids_errors.TooLong = Limit bounds.Content
ids_status ids_errors.Source = Source
ids_status ids_errors.NoMemory = NoMemory

-- how a command ends whose trace has no report
abbrev pub trace_status : TraceError → Status
trace_status trace_errors.NoMemory = NoMemory
trace_status trace_errors.Source = Source
trace_status (trace_errors.BadLine line) = BadInput Trace line
trace_status trace_errors.TooLong = Limit bounds.Input
