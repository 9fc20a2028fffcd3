-- What stands behind the first word of a line.
use Rattle.std.specs.Option.{option_map_or}
use Rattle.std.specs.Prelude.{bytes_eq, codes, find, if◌then◌else◌, List, None, Option, option_and_then, option_map, replicate, Some, ℕ}
use Rattle.q_numbers.specs.Numbers.{number32_of, number64_of, number_within}
use Rattle.q_numbers.specs.Pieces.{cut}
use Rattle.q_text.specs.ValueTexts.{sender_of_text, state_of_text, trigger_of}
use Rattle.q_model.specs.declared.entry.Entry.{Entry}
use Rattle.q_model.specs.declared.event.Mode.{Mode}
use Rattle.q_model.specs.declared.event.Mode.TheVariants.{Deliver, Intake}
use Rattle.q_model.specs.Settings.{Table}
use Rattle.q_trace.specs.declared.kind.Kind.{Kind}
use Rattle.q_trace.specs.Kinds.{all_kinds, word_of}
use Rattle.q_trace.specs.Parts.{then_read}
use Rattle.q_trace.specs.PartTexts.{addresses_of, hop_of, id_of, outcomes_of, positions_of, size_of, transport_of, why_of_text}
use Rattle.q_model.specs.declared.entry.Entry.TheVariants as entries
use Rattle.q_trace.specs.declared.kind.Kind.TheVariants as kinds

-- a generation, in a life of this mode
abbrev pub life_in : Mode → List ℕ → Option Entry
life_in mode text =
    option_map (λ generation. entries.Life generation mode) (number_within 1 4294967295 text)

-- a generation, and `intake`
abbrev pub with_mode : List ℕ → List ℕ → Option Entry
with_mode generation mode = if bytes_eq mode (codes "intake") then life_in Intake generation else None

-- a generation, and perhaps `intake`
abbrev pub life_behind : List ℕ → Option Entry
life_behind text =
    option_map_or (λ (c : List ℕ × List ℕ). with_mode c.0 c.1) (cut 32 text) (life_in Deliver text)

abbrev pub at_behind : List ℕ → Option Entry
at_behind text = option_map (λ t. entries.At t) (number_within 0 999990000000 text)

abbrev pub arrive_behind : List ℕ → Option Entry
arrive_behind text =
    option_map (λ v. entries.Arrive v.0 v.1.0 v.1.1.1 (replicate v.1.1.0 0))
    (then_read id_of (λ _. then_read sender_of_text (λ _. then_read size_of (λ _. addresses_of))) text)

abbrev pub load_behind : List ℕ → Option Entry
load_behind text =
    option_map (λ v. entries.Load v.0 v.1.0 v.1.1)
    (then_read id_of (λ _. then_read number32_of (λ _. number32_of)) text)

abbrev pub start_behind : Table → List ℕ → Option Entry
start_behind table text =
    option_map (λ v. entries.Start v.0 v.1.0 (record { transport = v.1.1.0; hop = v.1.1.1.0 }) v.1.1.1.1)
    (then_read number64_of (λ _. then_read id_of (λ _.
    then_read (transport_of table) (λ _. then_read hop_of (λ _. positions_of)))) text)

abbrev pub preempt_behind : Table → List ℕ → Option Entry
preempt_behind table text =
    option_map (λ v. entries.Preempt v.0 v.1.0 v.1.1.0 v.1.1.1)
    (then_read id_of (λ _. then_read id_of (λ _. then_read (transport_of table) (λ _. number32_of))) text)

abbrev pub reply_behind : List ℕ → Option Entry
reply_behind text =
    option_map (λ v. entries.Reply v.0 v.1.0 v.1.1)
    (then_read number64_of (λ _. then_read state_of_text outcomes_of) text)

abbrev pub skip_behind : Table → List ℕ → Option Entry
skip_behind table text =
    option_map (λ v. entries.Skip v.0 (record { transport = v.1.0; hop = v.1.1.0 }) v.1.1.1)
    (then_read id_of (λ _. then_read (transport_of table) (λ _. then_read hop_of (λ _. positions_of))) text)

abbrev pub log_behind : List ℕ → Option Entry
log_behind text =
    option_map (λ v. entries.Log v.0 (record { position = v.1.0; why = v.1.1.0; code = v.1.1.1 }))
    (then_read id_of (λ _. then_read number32_of (λ _. then_read why_of_text (λ _. number_within 0 65535))) text)

abbrev pub mark_behind : List ℕ → Option Entry
mark_behind text = option_map (λ v. entries.Mark v.0 v.1) (then_read id_of (λ _. number32_of) text)

abbrev pub defer_behind : List ℕ → Option Entry
defer_behind text =
    option_map (λ v. entries.Defer v.0 v.1)
    (then_read id_of (λ _. number_within 0 999999999999) text)

-- the entry of a kind without a list, with this text behind its word; of the other kinds none
unfoldable pub plain_behind : Table → Kind → List ℕ → Option Entry
plain_behind table kinds.Life text = life_behind text
plain_behind table kinds.At text = at_behind text
plain_behind table kinds.Arrive text = None
plain_behind table kinds.Back text = option_map (λ id. entries.Back id) (id_of text)
plain_behind table kinds.Admit text = option_map (λ id. entries.Admit id) (id_of text)
plain_behind table kinds.Load text = load_behind text
plain_behind table kinds.Start text = None
plain_behind table kinds.Preempt text = preempt_behind table text
plain_behind table kinds.Reply text = None
plain_behind table kinds.Skip text = None
plain_behind table kinds.Log text = log_behind text
plain_behind table kinds.Mark text = mark_behind text
plain_behind table kinds.Sync text = option_map (λ id. entries.Sync id) (id_of text)
plain_behind table kinds.Defer text = defer_behind text
plain_behind table kinds.Bounce text = option_map (λ id. entries.Bounce id) (id_of text)
plain_behind table kinds.Remove text = option_map (λ id. entries.Remove id) (id_of text)
plain_behind table kinds.Corrupt text = option_map (λ id. entries.Corrupt id) (id_of text)
plain_behind table kinds.Trigger text = option_map (λ kind. entries.Trigger kind) (trigger_of text)

-- the entry of this kind with this text behind its word
unfoldable pub entry_behind : Table → Kind → List ℕ → Option Entry
entry_behind table kinds.Arrive text = arrive_behind text
entry_behind table kinds.Start text = start_behind table text
entry_behind table kinds.Reply text = reply_behind text
entry_behind table kinds.Skip text = skip_behind table text
entry_behind table kind text = plain_behind table kind text

-- the kind of this word
unfoldable pub kind_of : List ℕ → Option Kind
kind_of word = find (λ kind. bytes_eq (word_of kind) word) all_kinds

-- the entry with this first word and this text behind it
abbrev pub named_body : Table → List ℕ → List ℕ → Option Entry
named_body table word text = option_and_then (λ kind. entry_behind table kind text) (kind_of word)

-- the entry of a line without its end
unfoldable pub entry_of_line : Table → List ℕ → Option Entry
entry_of_line table text =
    if bytes_eq text (codes "end") then Some entries.End
    else option_and_then (λ (c : List ℕ × List ℕ). named_body table c.0 c.1) (cut 32 text)
