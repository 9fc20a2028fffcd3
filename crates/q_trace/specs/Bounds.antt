-- The values that an entry of a trace may have.
use Rattle.std.specs.Prelude.{◌^◌, ◌≡◌, ◌<◌, ◌≤◌, length, List, map, None, replicate, true, ℕ, ◌≢◌}
use Rattle.q_model.specs.declared.entry.Entry.{Entry}
use Rattle.q_model.specs.IdTexts.{IsId}
use Rattle.q_model.specs.Settings.{Table}
use Rattle.q_model.specs.Text.{line, transport_text}
use Rattle.q_model.specs.Texts.{is_hop}
use Rattle.q_model.specs.Values.{Receiver, Site}
use Rattle.q_text.specs.ValueForms.{FitsBits, HasAddressForm, IsListOf, IsOutcomeAt, IsSender}
use Rattle.q_transport.specs.Names.{number_of}
use Rattle.q_model.specs.declared.entry.Entry.TheVariants as entries

-- the number of a transport of the table, by its name, which has no spaces; where two have one name it is
-- that of the first
abbrev pub IsTransport : Table → ℕ → Type 0
IsTransport table n =
    (n < length table.transports) × (number_of table.transports (transport_text table n) ≡ n)
    × (is_hop (transport_text table n) ≡ true)

-- a transport of the table, and a next hop
abbrev pub IsSite : Table → Site → Type 0
IsSite table site = IsTransport table site.transport × (is_hop site.hop ≡ true)

-- an entry whose values are within the bounds of a trace
abbrev pub IsEntry : Table → Entry → Type 0
IsEntry table (entries.Life generation mode) = (1 ≤ generation) × FitsBits 32 generation
IsEntry table (entries.At t) = t ≤ 999990000000
IsEntry table (entries.Arrive id sender to content) =
    IsId id × IsSender sender × (length content ≤ 10240000)
    × IsListOf HasAddressForm (map (λ r. r.address) to) × (length to ≤ 50000)
IsEntry table (entries.Back id) = IsId id
IsEntry table (entries.Admit id) = IsId id
IsEntry table (entries.Load id from to) = IsId id × FitsBits 32 from × FitsBits 32 to
IsEntry table (entries.Start number id site positions) =
    FitsBits 64 number × IsId id × IsSite table site × IsListOf (FitsBits 32) positions
IsEntry table (entries.Preempt child parent transport need) =
    IsId child × IsId parent × IsTransport table transport × FitsBits 32 need
IsEntry table (entries.Reply number state outcomes) =
    FitsBits 64 number × IsListOf (IsOutcomeAt state) outcomes
IsEntry table (entries.Skip id site positions) =
    IsId id × IsSite table site × IsListOf (FitsBits 32) positions
IsEntry table (entries.Log id f) = IsId id × FitsBits 32 f.position × FitsBits 16 f.code
IsEntry table (entries.Mark id position) = IsId id × FitsBits 32 position
IsEntry table (entries.Sync id) = IsId id
IsEntry table (entries.Defer id due) = IsId id × (due < 10 ^ 12)
IsEntry table (entries.Bounce id) = IsId id
IsEntry table (entries.Remove id) = IsId id
IsEntry table (entries.Corrupt id) = IsId id
IsEntry table (entries.Trigger kind) = Unit {0}
IsEntry table entries.End = Unit {0}

-- the bytes are the line of such an entry
abbrev pub IsLineOf : Table → List ℕ → Entry → Type 0
IsLineOf table bytes e = IsEntry table e × (line table e ≡ bytes)

-- a recipient by its address alone
abbrev pub plain : Receiver → Receiver
plain r = record { address = r.address; original = None }

-- the entry as its line tells it: of an arrived content only the number of bytes, which are zeros here, and of
-- its recipients no original address
abbrev pub as_told : Entry → Entry
as_told (entries.Arrive id sender to content) =
    entries.Arrive id sender (map plain to) (replicate (length content) 0)
as_told e = e

-- no entry within these bounds has this line
abbrev pub IsNoLine : Table → List ℕ → Type 0
IsNoLine table text = (e : Entry) → IsEntry table e → line table e ≢ text

-- no other entry within them has its line, but for what a line doesn't tell
abbrev pub IsAloneInLine : Table → Entry → Type 0
IsAloneInLine table entry = (e : Entry) → IsEntry table entry
    → IsLineOf table (line table entry) e → as_told e ≡ as_told entry
