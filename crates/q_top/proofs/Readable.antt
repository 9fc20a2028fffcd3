-- No status names an unreadable file where none is unreadable.
use Rattle.std.proofs.Common.{◌≡◌, ◌∙◌, false, refl, sym, true}
use Rattle.std.specs.Prelude.{Err, IfErr, Ok, Result}
use Rattle.q_conf.specs.declared.error.ConfError.{ConfError}
use Rattle.q_conf.specs.declared.error.ConfError.TheVariants as conf_errors
use Rattle.q_host.specs.declared.error.HostError.{HostError}
use Rattle.q_host.specs.declared.error.HostError.TheVariants as faults
use Rattle.q_input.specs.declared.error.IdsError.{IdsError}
use Rattle.q_input.specs.declared.error.IdsError.TheVariants as ids_errors
use Rattle.q_input.specs.declared.error.InputError.{InputError}
use Rattle.q_input.specs.declared.error.InputError.TheVariants as input_errors
use Rattle.q_listen.specs.Refusals.{is_unreadable as is_listen_unreadable}
use Rattle.q_listen.specs.declared.listened.ListenError.{ListenError}
use Rattle.q_listen.specs.declared.listened.ListenError.TheVariants as listen_errors
use Rattle.q_listen.specs.declared.listened.Listened.{Listened}
use Rattle.q_listen.specs.declared.listened.Listened.TheVariants as listenings
use Rattle.q_replay.specs.Takings.{is_unreadable as is_error_unreadable}
use Rattle.q_replay.specs.declared.deliveries.Delivered.{Delivered}
use Rattle.q_replay.specs.declared.deliveries.Delivered.TheVariants as deliveries
use Rattle.q_replay.specs.declared.error.ReplayError.{ReplayError}
use Rattle.q_replay.specs.declared.error.ReplayError.TheVariants as errors
use Rattle.q_top.specs.Qmgr.{words_status}
use Rattle.q_top.specs.Statuses.{conf_status, content_status, delivery_status, ids_status, names_fault, is_unreadable, listen_status, replay_status, status_of, telling_status}
use Rattle.q_top.specs.declared.status.Status.{Status}
use Rattle.q_words.specs.declared.error.WordsError.{WordsError}
use Rattle.q_words.specs.declared.error.WordsError.TheVariants as words_errors

pub error_readable : (error : ReplayError) → is_error_unreadable error ≡ false → is_unreadable (replay_status error) ≡ false
error_readable errors.Disk h = refl
error_readable errors.Tell h = refl
error_readable errors.Source h = refl
error_readable errors.NoMemory h = refl
error_readable (errors.BadEvent line) h = refl
error_readable (errors.Limit bound) h = refl
error_readable (errors.Damaged area name) h = refl
error_readable (errors.Unreadable area name) h = absurd cc

pub ended_readable : (end : Result (Unit {0}) ReplayError) → IfErr end (λ error. is_error_unreadable error ≡ false) → is_unreadable (status_of end) ≡ false
ended_readable (Ok done) h = refl
ended_readable (Err error) h = error_readable error h

pub delivered_readable : (end : Result Delivered ReplayError) → IfErr end (λ error. is_error_unreadable error ≡ false) → is_unreadable (delivery_status end) ≡ false
delivered_readable (Ok deliveries.All) h = refl
delivered_readable (Ok (deliveries.Unfinished rests)) h = refl
delivered_readable (Err error) h = error_readable error h

pub listened_readable : (end : Result Listened ListenError) → IfErr end (λ error. is_listen_unreadable error ≡ false) → is_unreadable (listen_status end) ≡ false
listened_readable (Ok listenings.All) h = refl
listened_readable (Ok (listenings.Unfinished rests)) h = refl
listened_readable (Err listen_errors.Disk) h = refl
listened_readable (Err listen_errors.Tell) h = refl
listened_readable (Err listen_errors.Door) h = refl
listened_readable (Err listen_errors.NoMemory) h = refl
listened_readable (Err (listen_errors.Limit bound)) h = refl
listened_readable (Err (listen_errors.Damaged area name)) h = refl
listened_readable (Err (listen_errors.Unreadable area name)) h = absurd cc

pub conf_readable : (error : ConfError) → is_unreadable (conf_status error) ≡ false
conf_readable conf_errors.Disk = refl
conf_readable conf_errors.NoMemory = refl
conf_readable (conf_errors.BadLine file line) = refl

pub content_readable : (error : InputError) → is_unreadable (content_status error) ≡ false
content_readable input_errors.TooLong = refl
content_readable input_errors.Source = refl
content_readable input_errors.NoMemory = refl

pub ids_readable : (error : IdsError) → is_unreadable (ids_status error) ≡ false
ids_readable (ids_errors.BadLine line) = refl
ids_readable ids_errors.TooLong = refl
ids_readable ids_errors.Source = refl
ids_readable ids_errors.NoMemory = refl

pub told_readable : (told : Result (Unit {0}) HostError) → is_unreadable (telling_status told) ≡ false
told_readable (Ok done) = refl
told_readable (Err faults.Disk) = refl
told_readable (Err faults.Tell) = refl
told_readable (Err faults.NoMemory) = refl

pub words_readable : (error : WordsError) → is_unreadable (words_status error) ≡ false
words_readable words_errors.NoMemory = refl
words_readable words_errors.NoCommand = refl
words_readable (words_errors.Refused why) = refl
words_readable words_errors.NoAddress = refl
words_readable words_errors.NoQueue = refl
words_readable words_errors.NoTarget = refl
words_readable words_errors.NoChosen = refl
words_readable words_errors.NoId = refl
words_readable words_errors.NoRoute = refl
words_readable words_errors.NoDomain = refl

-- what only tells names no fault
pub told_faultless : (told : Result (Unit {0}) HostError) → names_fault (telling_status told) ≡ false
told_faultless (Ok done) = refl
told_faultless (Err faults.Disk) = refl
told_faultless (Err faults.Tell) = refl
told_faultless (Err faults.NoMemory) = refl

pub words_faultless : (error : WordsError) → names_fault (words_status error) ≡ false
words_faultless words_errors.NoMemory = refl
words_faultless words_errors.NoCommand = refl
words_faultless (words_errors.Refused why) = refl
words_faultless words_errors.NoAddress = refl
words_faultless words_errors.NoQueue = refl
words_faultless words_errors.NoTarget = refl
words_faultless words_errors.NoChosen = refl
words_faultless words_errors.NoId = refl
words_faultless words_errors.NoRoute = refl
words_faultless words_errors.NoDomain = refl

pub faultless_of : {P : Type 0} (s : Status) → names_fault s ≡ false → names_fault s ≡ true → P
faultless_of s none some = absurd (let bad : false ≡ true = sym none ∙ some in cc)
