-- The line that is named beside an address is that of the entry that decides where its mail goes.
use Rattle.std.specs.List.{slice_get}
use Rattle.std.specs.Prelude.{◌-◌, ◌≡◌, List, map, None, Ok, Option, Some, ℕ}
use Rattle.q_conf_texts.specs.Routes.{deciding_line}
use Rattle.q_model.specs.Text.{transport_text}
use Rattle.q_model.specs.Texts.{lower}
use Rattle.q_text.specs.Lines.{lines_in}
use Rattle.q_transport.specs.Contents.{Contents, Rule}
use Rattle.q_transport.specs.Routing.{deciding, table_of}
use Rattle.q_transport.specs.TableFile.{table_of_file}
use Rattle.q_transport.specs.TableLines.{parts_of_line, Parts}

-- an entry of the table is what this line says
pub record IsSaidBy (c : Contents) (entry : Rule) (line : List ℕ) : Type 0 where
  pub parts : Parts
  pub said : parts_of_line line ≡ Some parts
  pub pattern : entry.pattern ≡ map lower parts.pattern
  pub transport : transport_text (table_of c) entry.transport ≡ parts.transport
  pub hop : entry.hop ≡ parts.hop

-- the entry that decides is what line n says; lines count from 1
pub record IsDecidedBy (c : Contents) (bytes address : List ℕ) (n : ℕ) : Type 0 where
  pub entry : Rule
  pub line : List ℕ
  pub decides : deciding c.entries address ≡ Some entry
  pub stands : slice_get (lines_in bytes) (n - 1) ≡ Some line
  pub said : IsSaidBy c entry line

-- and where no line is named no entry decides
abbrev pub Decides : Contents → List ℕ → List ℕ → Option ℕ → Type 0
Decides c bytes address None = deciding c.entries address ≡ None
Decides c bytes address (Some n) = IsDecidedBy c bytes address n

-- so it is of each table without fault, and of each address
abbrev pub NamesDecidingLine : Type 0
NamesDecidingLine = (bytes address : List ℕ) (c : Contents) → table_of_file bytes ≡ Ok c
    → Decides c bytes address (deciding_line bytes address)
