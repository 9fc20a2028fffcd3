-- Which words are refused, and which answers say so.
use Rattle.std.specs.List.{list_all}
use Rattle.std.specs.Option.{option_map_or}
use Rattle.std.specs.Prelude.{◌||◌, ◌≡◌, Bool, bytes_eq, codes, Err, false, if◌then◌else◌, is_none, List, not, Ok, Result, true}
use Rattle.clap.specs.Words.{matches_of, new_app, Row, Text}
use Rattle.q_words.specs.declared.error.WordsError.{WordsError}
use Rattle.q_words.specs.declared.error.WordsError.TheVariants as errors
use Rattle.q_words.specs.Commands.{domain_app, drain_app, id_app, is_fault, listen_app, load_app, qshape_app, route_app, submit_app}
use Rattle.q_words.specs.Requests.{command_of, is_queue, sender_in, to_in, words_of}
use Rattle.q_words.specs.Looks.{addresses_in, id_in}
use Rattle.q_words.specs.Tools.{chosen_in, domain_in, target_in}

-- a word of `submit` is no address
abbrev pub has_no_address : List Row → Bool
has_no_address rows = is_none (sender_in rows) || is_none (to_in rows)

-- a word of `qshape` is no queue
abbrev pub has_no_queue : List Row → Bool
has_no_queue rows = not (list_all is_queue (words_of (codes "queues") rows))

abbrev pub is_submit_usage : List Text → Bool
is_submit_usage words = is_fault submit_app words || has_no_address (matches_of submit_app words)

abbrev pub is_qshape_usage : List Text → Bool
is_qshape_usage words = is_fault qshape_app words || has_no_queue (matches_of qshape_app words)

abbrev pub is_drain_usage : List Text → Bool
is_drain_usage words = is_fault drain_app words

abbrev pub is_load_usage : List Text → Bool
is_load_usage words = is_fault load_app words

abbrev pub is_listen_usage : List Text → Bool
is_listen_usage words = is_fault listen_app words

-- a command that takes no words
abbrev pub is_plain_usage : Text → List Text → Bool
is_plain_usage command words = is_fault (new_app command) words

-- a word of an act is no id, and neither `ALL` nor `-`
abbrev pub is_target_usage : Text → List Text → Bool
is_target_usage command words =
    is_fault (id_app command) words || is_none (target_in (matches_of (id_app command) words))

-- one of `expire` is no id and isn't `-`
abbrev pub is_expire_usage : List Text → Bool
is_expire_usage words = is_fault (id_app (codes "expire")) words
    || is_none (chosen_in (matches_of (id_app (codes "expire")) words))

-- one of `show` is no id
abbrev pub is_show_usage : List Text → Bool
is_show_usage words = is_fault (id_app (codes "show")) words
    || is_none (id_in (matches_of (id_app (codes "show")) words))

-- one of `route` is no address
abbrev pub is_route_usage : List Text → Bool
is_route_usage words = is_fault route_app words || is_none (addresses_in (matches_of route_app words))

-- one of `flush` is no domain
abbrev pub is_flush_usage : List Text → Bool
is_flush_usage words = is_fault domain_app words || is_none (domain_in (matches_of domain_app words))

abbrev pub is_look_usage : List Text → Text → Bool
is_look_usage words command =
    if bytes_eq command (codes "json") then is_plain_usage (codes "json") words
    else if bytes_eq command (codes "status") then is_plain_usage (codes "status") words
    else if bytes_eq command (codes "params") then is_plain_usage (codes "params") words
    else if bytes_eq command (codes "check") then is_plain_usage (codes "check") words
    else if bytes_eq command (codes "audit") then is_plain_usage (codes "audit") words
    else if bytes_eq command (codes "show") then is_show_usage words
    else if bytes_eq command (codes "route") then is_route_usage words
    else true

abbrev pub is_tool_usage : List Text → Text → Bool
is_tool_usage words command =
    if bytes_eq command (codes "hold") then is_target_usage (codes "hold") words
    else if bytes_eq command (codes "release") then is_target_usage (codes "release") words
    else if bytes_eq command (codes "requeue") then is_target_usage (codes "requeue") words
    else if bytes_eq command (codes "expire") then is_expire_usage words
    else if bytes_eq command (codes "flush") then is_flush_usage words
    else is_look_usage words command

abbrev pub is_usage_of : List Text → Text → Bool
is_usage_of words command =
    if bytes_eq command (codes "replay") then is_plain_usage (codes "replay") words
    else if bytes_eq command (codes "submit") then is_submit_usage words
    else if bytes_eq command (codes "drain") then is_drain_usage words
    else if bytes_eq command (codes "qshape") then is_qshape_usage words
    else if bytes_eq command (codes "load") then is_load_usage words
    else if bytes_eq command (codes "queue") then is_plain_usage (codes "queue") words
    else if bytes_eq command (codes "listen") then is_listen_usage words
    else is_tool_usage words command

-- The words are refused: the first is no command, or the command refuses them.
abbrev pub is_usage : List Text → Bool
is_usage words = option_map_or (is_usage_of words) (command_of words) true

-- the error is of words, and not want of memory
abbrev pub IsUsageError : WordsError → Type 0
IsUsageError errors.NoMemory = ⊥
IsUsageError error = Unit {0}

-- An answer is given to words that aren't refused, and says what they say; an error of words
-- comes only to words that are.
abbrev pub IsAnswer : {T : Type 0} → Bool → (T → Type 0) → Result T WordsError → Type 0
IsAnswer usage says (Ok answer) = (usage ≡ false) × says answer
IsAnswer usage says (Err error) = IsUsageError error → usage ≡ true
