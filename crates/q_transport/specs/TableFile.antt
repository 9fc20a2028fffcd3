-- The transport table as a whole: its first fault, or what it says.
use Rattle.std.specs.Prelude.{Err, List, Ok, Result, ℕ}
use Rattle.q_text.specs.Lines.{through_lines}
use Rattle.q_transport.specs.Contents.{Contents, empty_contents}
use Rattle.q_transport.specs.Readings.{read_table_line}
use Rattle.q_transport.specs.declared.error.TableError.{TableError}

-- a line with its number, unless an earlier line was at fault
abbrev pub then_table_line : Result Contents TableError → ℕ × List ℕ → Result Contents TableError
then_table_line (Err e) line = Err e
then_table_line (Ok c) line = read_table_line line.0 c line.1

-- the lines of these bytes, of which the first has number n
abbrev pub table_from : Result Contents TableError → ℕ → List ℕ → Result Contents TableError
table_from c n bytes = through_lines then_table_line c n bytes

-- what the bytes of a file say; lines count from 1
abbrev pub table_of_file : List ℕ → Result Contents TableError
table_of_file bytes = table_from (Ok empty_contents) 1 bytes
