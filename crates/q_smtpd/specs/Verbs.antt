-- The words of a command line (RFC 5321, section 4.1.1): a verb, and what stands behind its space.
use Rattle.std.specs.Option.{option_map, option_map_or}
use Rattle.std.specs.Prelude.{◌==◌, Bool, bytes_eq, codes, if◌then◌else◌, length, List, map, Option, true, ℕ}
use Rattle.std.specs.Char.{to_ascii_lowercase}
use Rattle.q_numbers.specs.Pieces.{cut}
use Rattle.q_smtpd.specs.declared.verb.Verb.{Verb}
use Rattle.q_smtpd.specs.declared.verb.Verb.TheVariants as verbs

-- a text is this word, which is in lower case, with letters in either case
abbrev pub reads_as : List ℕ → List ℕ → Bool
reads_as word text = bytes_eq (map to_ascii_lowercase text) word

-- which command a word names
abbrev pub verb_of : List ℕ → Verb
verb_of word =
    if reads_as (codes "ehlo") word then verbs.Hello
    else if reads_as (codes "helo") word then verbs.Hello
    else if reads_as (codes "mail") word then verbs.Mail
    else if reads_as (codes "rcpt") word then verbs.Rcpt
    else if reads_as (codes "data") word then verbs.Data
    else if reads_as (codes "rset") word then verbs.Reset
    else if reads_as (codes "noop") word then verbs.Noop
    else if reads_as (codes "vrfy") word then verbs.Verify
    else if reads_as (codes "quit") word then verbs.Quit
    else verbs.Other

-- what stands before the first space, or the whole line
abbrev pub word_of : List ℕ → List ℕ
word_of line = option_map_or (λ c. c.0) (cut 32 line) line

-- what stands behind that space
abbrev pub argument_of : List ℕ → Option (List ℕ)
argument_of line = option_map (λ c. c.1) (cut 32 line)

-- nothing stands there
abbrev pub is_missing : Option (List ℕ) → Bool
is_missing argument = option_map_or (λ text. length text == 0) argument true
