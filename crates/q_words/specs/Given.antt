-- What clap has let through.
use Rattle.std.specs.Prelude.{◌≡◌, pos, Some, ℕ}
use Rattle.clap.specs.Values.{IsSignedIn}
use Rattle.clap.specs.Words.{found_of, one_text, Text, without_minus}
use Rattle.clap.specs.declared.parser.matches.ArgMatches.{ArgMatches}

-- the argument has a value, and it is a number from low to high
pub record HasNumber (m : ArgMatches) (id : Text) (low high : ℕ) : Type 0 where
  pub text : Text
  pub given : one_text (found_of m) id ≡ Some (without_minus text)
  pub within : IsSignedIn (pos low) (pos high) text
