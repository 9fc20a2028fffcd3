-- What calls make of hops whose links follow scripts.
use Rattle.std.specs.Prelude.{◌∷◌, ◌≡◌, ◌+◌, ◌++◌, [], drop, Err, false, IfSome, length, List, map, Ok, Option, option_and_then, option_map, Result, slice_get, Some, ℕ}
use Rattle.q_link.specs.declared.hops.NoLink.{NoLink}
use Rattle.q_link.specs.declared.hops.NoLink.TheVariants.{Failed, NoMemory, NoRoute}
use Rattle.q_link.specs.Records.{HopsView, ToldHops, closed, counted, with_closed, with_connect, with_hop, with_record, with_rest}
use Rattle.q_link.specs.Scripts.{Script, script_waits, scripts_waits}
use Rattle.q_link.specs.ScriptLinks.{ScriptLink, told_more}
use Rattle.q_link.specs.declared.usage.Usage.TheVariants.{Open}
use Rattle.q_link.specs.Views.{NoWait, View}

-- the scripts that no link follows yet, how many links were closed, and what is known of the hops
pub record ScriptHops : Type 0 where
  pub scripts : List Script
  pub closed_links : ℕ
  pub view : HopsView

-- nothing is to come, and nothing was done
abbrev pub no_scripts : ScriptHops
no_scripts = record {
  scripts = [];
  closed_links = 0;
  view = record {
    connect_faults = 0;
    rests = 0;
    link_faults = 0;
    link_ends = 0;
    waits_left = Some 0;
    told = Some (record { connects = 0; hops = []; rests = 0; records = [] });
  };
}

-- these scripts are left
abbrev pub with_scripts : List Script → ScriptHops → ScriptHops
with_scripts scripts h = record h {
  scripts = scripts;
  view = record h.view { waits_left = scripts_waits scripts };
}

-- one script more
abbrev pub with_script : Script → ScriptHops → ScriptHops
with_script script h = with_scripts (h.scripts ++ script ∷ []) h

-- the last script changed
abbrev pub last_changed : (Script → Script) → List Script → List Script
last_changed change [] = []
last_changed change (script ∷ []) = change script ∷ []
last_changed change (script ∷ other ∷ more) = script ∷ last_changed change (other ∷ more)

-- the script that was begun last changed
abbrev pub with_last : (Script → Script) → ScriptHops → ScriptHops
with_last change h = with_scripts (last_changed change h.scripts) h

-- a connect call, which is told so
abbrev pub connected : (ToldHops → ToldHops) → ScriptHops → ScriptHops
connected change h = record h {
  view = record h.view { told = told_more (λ t. t.connects) change h.view.told };
}

-- a connect that failed is counted
abbrev pub with_fault : ScriptHops → ScriptHops
with_fault h = record h {
  view = record h.view { connect_faults = counted h.view.connect_faults 1 };
}

-- the hops after a connect with this answer
abbrev pub after_connect : {L : Type 0} → List ℕ → Result L NoLink → ScriptHops → ScriptHops
after_connect hop (Ok link) h = with_scripts (drop 1 h.scripts) (connected (with_hop hop) h)
after_connect hop (Err NoRoute) h = connected (with_hop hop) h
after_connect hop (Err Failed) h = with_fault (connected (with_hop hop) h)
after_connect hop (Err NoMemory) h = connected with_connect h

-- what is known of a link that was just opened, and follows this script
abbrev pub opened : Script → List ℕ → Option ToldHops → View
opened script hop told = record {
  faults = 0;
  wait = NoWait;
  ended = false;
  usage = Open;
  waits_left = script_waits script;
  told = option_map
      (λ t. record { hop = hop; received = []; sent = []; not_yets = 0; rests_before = t.rests })
      told;
}

-- the hops after a rest
abbrev pub after_rest : ScriptHops → ScriptHops
after_rest h = record h {
  view = record h.view {
    rests = counted h.view.rests 1;
    told = told_more (λ t. t.rests) with_rest h.view.told;
  };
}

-- The hops after a link was closed. Where it tells no more, they don't either.
abbrev pub after_close : ScriptLink → ScriptHops → ScriptHops
after_close link h = record h {
  closed_links = h.closed_links + 1;
  view = record (with_closed link.view h.view) {
    told = option_and_then
        (λ t. option_map (λ told. with_record (closed link.view told t) t) link.view.told)
        h.view.told;
  };
}

-- these bytes were sent in the record with this index
abbrev pub IsSentIn : ScriptHops → ℕ → List ℕ → Type 0
IsSentIn h i bytes =
    IfSome h.view.told (λ t. slice_get (map (λ r. r.sent) t.records) i ≡ Some bytes)

-- there are so many records
abbrev pub HasRecords : ScriptHops → ℕ → Type 0
HasRecords h count = IfSome h.view.told (λ t. length t.records ≡ count)
