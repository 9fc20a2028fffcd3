-- The worst of what is wrong with a spool: that for which a life would be refused first.
use Rattle.std.specs.Prelude.{◌≡◌, codes, List, None, Option, Some, ℕ}
use Rattle.q_conf.specs.Confs.{at_fault, conf_bytes, conf_of, goes_by, SaySo}
use Rattle.q_conf.specs.declared.error.ConfFile.TheVariants as conf_files
use Rattle.q_model.specs.Settings.{World}
use Rattle.q_model.specs.SpoolFiles.{Files}
use Rattle.q_model.specs.Values.{Spot}
use Rattle.q_restart.specs.Damages.{IsDamage, IsUndamaged}
use Rattle.q_check.specs.Faults.{fault_in}
use Rattle.q_check.specs.SpoolDamages.{IsDamageOfSome}
use Rattle.q_check.specs.declared.found.Found.{Found}
use Rattle.q_check.specs.declared.found.Found.TheVariants as found

-- a fault of the table, else a damage
abbrev pub worse_of : Option ℕ → Option Spot → Found
worse_of (Some n) damage = found.BadConf conf_files.Table n
worse_of None (Some spot) = found.Damaged spot.area spot.name
worse_of None None = found.Nothing

-- a fault of the parameters, else one of the table, else a damage
abbrev pub worst_of : Option ℕ → Option ℕ → Option Spot → Found
worst_of (Some n) table damage = found.BadConf conf_files.Parameters n
worst_of None table damage = worse_of table damage

-- the faults of the files of conf
abbrev pub AreFaultsIn : Files → Option ℕ → Option ℕ → Type 0
AreFaultsIn f params table =
    (params ≡ fault_in conf_files.Parameters (conf_bytes f (codes "params")))
    × (table ≡ fault_in conf_files.Table (conf_bytes f (codes "transport")))

-- the faults of some files of conf
abbrev pub AreFaultsOfSome : Option ℕ → Option ℕ → Type 0
AreFaultsOfSome params table = (first : List ℕ) × (second : List ℕ)
    × (params ≡ fault_in conf_files.Parameters first) × (table ≡ fault_in conf_files.Table second)

-- both files of conf can be gone by
abbrev pub CanGoBy : Files → Type 0
CanGoBy f = (world : World) × (conf_of f ≡ goes_by world)

-- What is found in these files: the fault of conf that is named first, else the damage that is named.
abbrev pub IsFoundIn : Files → Found → Type 0
IsFoundIn f found.Nothing = CanGoBy f × IsUndamaged f
IsFoundIn f (found.BadConf file line) = conf_of f ≡ at_fault file line
IsFoundIn f (found.Damaged area name) = CanGoBy f × IsDamage f area name

-- the same of some texts and names, whether the host tells its files or not
abbrev pub IsFoundOfSome : Found → Type 0
IsFoundOfSome found.Nothing = Unit {0}
IsFoundOfSome (found.BadConf file line) = SaySo (at_fault file line)
IsFoundOfSome (found.Damaged area name) = IsDamageOfSome (record { area = area; name = name })
