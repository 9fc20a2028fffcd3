-- What a line of a transport table adds to what the lines before it said.
use Rattle.std.specs.Option.{option_map_or}
use Rattle.std.specs.Prelude.{◌&&◌, ◌++◌, ◌==◌, ◌≡◌, [], Bool, Err, if◌then◌else◌, is_some, length, List, map, nat_le, Ok, Result, ◌||◌, ℕ, ◌∷◌}
use Rattle.q_model.specs.Texts.{lower}
use Rattle.q_transport.specs.Contents.{Contents, rule_of_pattern, rule_from}
use Rattle.q_transport.specs.Names.{number_of, with_name}
use Rattle.q_transport.specs.TableLines.{parts_of_line, Parts}
use Rattle.q_text.specs.Blanks.{is_passed_over}
use Rattle.q_transport.specs.declared.error.TableError.{TableError}
use Rattle.q_transport.specs.declared.error.TableError.TheVariants.{BadLine, NoMemory, TooMany, Twice}

-- the entry of a line is the last, with its pattern in lower case
abbrev pub with_parts : Contents → Parts → Contents
with_parts c p = record {
  names = with_name c.names p.transport;
  entries = c.entries ++ rule_from (map lower p.pattern) (number_of c.names p.transport) p.hop ∷ [];
}

-- there are 10,000 entries, or a transport of this number would be a 21st
abbrev pub is_full : Contents → ℕ → Bool
is_full c transport =
    nat_le 10000 (length c.entries) || ((transport == length c.names) && nat_le 20 (length c.names))

-- line n has these parts
abbrev pub add_parts : ℕ → Contents → Parts → Result Contents TableError
add_parts n c p =
    if is_some (rule_of_pattern c.entries (map lower p.pattern)) then Err (Twice n)
    else if is_full c (number_of c.names p.transport) then Err (TooMany n)
    else Ok (with_parts c p)

-- line n
abbrev pub read_table_line : ℕ → Contents → List ℕ → Result Contents TableError
read_table_line n c line =
    if is_passed_over line then Ok c else option_map_or (add_parts n c) (parts_of_line line) (Err (BadLine n))

-- a call answers what is read, unless memory runs out
abbrev pub AnswersTable : Result Contents TableError → Result Contents TableError → Type 0
AnswersTable (Ok c) read = read ≡ Ok c
AnswersTable (Err NoMemory) read = Unit {0}
AnswersTable (Err (BadLine n)) read = read ≡ Err (BadLine n)
AnswersTable (Err (Twice n)) read = read ≡ Err (Twice n)
AnswersTable (Err (TooMany n)) read = read ≡ Err (TooMany n)

-- a call that changes a table in place does what is read: at Ok its new state is what is read
abbrev pub BecomesTable : Result (Unit {0}) TableError → Contents → Result Contents TableError → Type 0
BecomesTable (Ok _) new read = AnswersTable (Ok new) read
BecomesTable (Err e) new read = AnswersTable (Err e) read
