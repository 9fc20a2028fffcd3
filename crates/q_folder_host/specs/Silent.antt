-- What a host that tells nothing has in place of its content.
use Rattle.std.specs.Prelude.{◌≡◌, [], None}
use Rattle.q_host.specs.View.{Remains, View}

-- no file and nothing told
abbrev pub no_content : Remains
no_content = record { files = λ _ _. None; told = [] }

abbrev pub silent : View
silent = record {
  files = λ _ _. None;
  told = [];
  may_leave = λ c. c ≡ no_content;
  moment = 0;
  left_since = λ _ c. c ≡ no_content;
}
