-- A setting as the program keeps it.
use Rattle.std.specs.Prelude.{List, ℕ}
use Rattle.q_conf_texts.specs.Lines.{at, At}
use Rattle.q_conf_texts.specs.declared.params.Setting.{Setting}

-- its line and its value
abbrev pub setting_at : Setting → At (List ℕ)
setting_at s = at s.line s.value.now
