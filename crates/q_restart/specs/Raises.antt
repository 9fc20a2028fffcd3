-- The file in boot gets the name of the next generation.
use Rattle.std.specs.Prelude.{◌+◌, ◌==◌, ◌⊎◌, [], if◌then◌else◌, ℕ}
use Rattle.q_model.specs.declared.spot.Area.TheVariants as areas
use Rattle.q_model.specs.IdTexts.{hex}
use Rattle.q_model.specs.SpoolFiles.{Files}
use Rattle.q_host.specs.Calls.{Changes, Stays}
use Rattle.q_host.specs.View.{View}
use Rattle.q_host.specs.Files.{moved, with_file}

-- it is renamed, or made where there was none
abbrev pub raised : ℕ → Files → Files
raised generation f = if generation == 0
    then with_file f areas.Boot (hex 8 1) []
    else moved f areas.Boot (hex 8 generation) areas.Boot (hex 8 (generation + 1))

-- that, or nothing changed
abbrev pub MayRaise : ℕ → View → View → Type 0
MayRaise generation v w = Changes (raised generation) v w ⊎ Stays v w
