-- The lines in which it is told what is wrong.
use Rattle.std.specs.Prelude.{◌++◌, codes, decimal, List, ℕ}
use Rattle.q_conf.specs.declared.error.ConfFile.{ConfFile}
use Rattle.q_conf.specs.declared.error.ConfFile.TheVariants as conf_files
use Rattle.q_model.specs.Folders.{folder_name}
use Rattle.q_model.specs.TextParts.{text_line}
use Rattle.q_model.specs.declared.spot.Area.{Area}

-- the name of a file of conf
abbrev pub conf_name : ConfFile → List ℕ
conf_name conf_files.Parameters = codes "params"
conf_name conf_files.Table = codes "transport"

-- on line n of a file of conf
abbrev pub conf_line : ConfFile → ℕ → List ℕ → List ℕ
conf_line file n what = text_line (conf_name file ++ codes " line " ++ decimal n ++ codes ": " ++ what)

-- on a file of a spool
abbrev pub file_line : Area → List ℕ → List ℕ → List ℕ
file_line area name what = text_line (folder_name area ++ codes "/" ++ name ++ codes ": " ++ what)

-- of a line at fault
abbrev pub fault_text : List ℕ
fault_text = codes "bad line"

-- of an entry of the transport table whose next hop has no route
abbrev pub hop_text : List ℕ
hop_text = codes "the next hop can't be reached"

-- of a damage for which no life can begin
abbrev pub refusal : List ℕ
refusal = codes "the spool can't be opened"
