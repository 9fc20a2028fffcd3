-- The names of logs in Tmp.
use Rattle.std.specs.Prelude.{◌++◌, codes, if◌then◌else◌, List, ℕ}
use Rattle.q_model.specs.declared.spot.Area.{Area}
use Rattle.q_model.specs.declared.spot.Area.TheVariants.{Defer}
use Rattle.q_model.specs.Texts.{is_name}

-- what a log's name begins with
abbrev pub log_prefix : Area → List ℕ
log_prefix Defer = codes "def-"
log_prefix area = codes "log-"

-- the name with this before it, or alone where there is no room for both
abbrev pub tmp_name : Area → List ℕ → List ℕ
tmp_name area name = if is_name (log_prefix area ++ name) then log_prefix area ++ name else name
