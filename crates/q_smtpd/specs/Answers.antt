-- The replies of an SMTP server, each one line.
use Rattle.std.specs.Prelude.{◌++◌, codes, List, ℕ}
use Rattle.q_smtp.specs.ContentLines.{crlf}
use Rattle.q_smtpd.specs.declared.answer.Answer.{Answer}
use Rattle.q_smtpd.specs.declared.answer.Answer.TheVariants.{Accepted, AnyArgument, BadAddress, BadSyntax, Bye, Go, Greeting, Hello, HasParameters, OutOfOrder, TooBig, TooLong, TooMany, Unknown}

-- a line as it is sent
abbrev pub with_crlf : List ℕ → List ℕ
with_crlf line = line ++ crlf

abbrev pub answer_line : Answer → List ℕ
answer_line Greeting = with_crlf (codes "220 localhost")
answer_line Hello = with_crlf (codes "250 localhost")
answer_line Accepted = with_crlf (codes "250 ok")
answer_line Go = with_crlf (codes "354 go")
answer_line AnyArgument = with_crlf (codes "252 try it")
answer_line Bye = with_crlf (codes "221 bye")
answer_line OutOfOrder = with_crlf (codes "503 order")
answer_line BadSyntax = with_crlf (codes "501 syntax")
answer_line BadAddress = with_crlf (codes "553 address")
answer_line HasParameters = with_crlf (codes "555 parameters")
answer_line TooMany = with_crlf (codes "452 too many")
answer_line TooBig = with_crlf (codes "552 too big")
answer_line TooLong = with_crlf (codes "500 too long")
answer_line Unknown = with_crlf (codes "500 unknown")

-- sent where nothing came for so long, by one write whose answer isn't looked at
abbrev pub timeout_line : List ℕ
timeout_line = with_crlf (codes "421 timeout")
