-- The commands as clap reads their words.
use Rattle.std.specs.Prelude.{◌∷◌, ◌-◌, ◌^◌, [], Bool, codes, length, List, nat_lt, pos, Some, true, ℕ}
use Rattle.clap.specs.Words.{App, fault_of, new_app, new_rule, Rule, Text, with_rule}
use Rattle.clap.specs.declared.builder.action.ArgAction.TheVariants.{Set, SetTrue}
use Rattle.clap.specs.declared.builder.value_parser.ValueParser.TheVariants.{Signed}

-- `submit SENDER RECIPIENT..`
abbrev pub sender_rule : Rule
sender_rule = record (new_rule (codes "sender")) { required = true }

abbrev pub to_rule : Rule
to_rule = record (new_rule (codes "to")) {
  required = true;
  range = Some (record { start_inclusive = 1; end_inclusive = 2 ^ 64 - 1 });
}

abbrev pub submit_app : App
submit_app = with_rule (with_rule (new_app (codes "submit")) sender_rule) to_rule

-- `drain -n RESTS`
abbrev pub rests_rule : ℕ → Rule
rests_rule letter = record (new_rule (codes "rests")) {
  short = Some letter;
  action = Some Set;
  parser = Some (Signed (pos 0) (pos 1000000000));
  defaults = codes "1000000" ∷ [];
}

abbrev pub drain_app : App
drain_app = with_rule (new_app (codes "drain")) (rests_rule 110)

-- `listen -p PORT -n COUNT -r RESTS`
abbrev pub port_rule : Rule
port_rule = record (new_rule (codes "port")) {
  short = Some 112;
  action = Some Set;
  parser = Some (Signed (pos 1) (pos 65535));
  defaults = codes "2525" ∷ [];
}

abbrev pub count_rule : Rule
count_rule = record (new_rule (codes "count")) {
  short = Some 110;
  action = Some Set;
  parser = Some (Signed (pos 1) (pos 1000000));
  defaults = codes "1" ∷ [];
}

abbrev pub listen_app : App
listen_app = with_rule (with_rule (with_rule (new_app (codes "listen")) port_rule) count_rule)
    (rests_rule 114)

-- `load N`
abbrev pub mails_rule : Rule
mails_rule = record (new_rule (codes "mails")) {
  required = true;
  action = Some Set;
  parser = Some (Signed (pos 1) (pos 2000));
}

abbrev pub load_app : App
load_app = with_rule (new_app (codes "load")) mails_rule

-- `route ADDRESS..`
abbrev pub address_rule : Rule
address_rule = record (new_rule (codes "address")) {
  required = true;
  range = Some (record { start_inclusive = 1; end_inclusive = 2 ^ 64 - 1 });
}

abbrev pub route_app : App
route_app = with_rule (new_app (codes "route")) address_rule

-- `hold ID`, and so with the other acts on messages and with `show`
abbrev pub id_rule : Rule
id_rule = record (new_rule (codes "id")) { required = true }

abbrev pub id_app : Text → App
id_app command = with_rule (new_app command) id_rule

-- `flush DOMAIN`
abbrev pub domain_rule : Rule
domain_rule = record (new_rule (codes "domain")) { required = true }

abbrev pub domain_app : App
domain_app = with_rule (new_app (codes "flush")) domain_rule

-- `qshape -l -s -b N -t MINUTES QUEUE..`
abbrev pub flag_rule : Text → ℕ → Rule
flag_rule id letter = record (new_rule id) { short = Some letter; action = Some SetTrue }

abbrev pub buckets_rule : Rule
buckets_rule = record (new_rule (codes "buckets")) {
  short = Some 98;
  action = Some Set;
  parser = Some (Signed (pos 2) (pos 20));
  defaults = codes "10" ∷ [];
}

abbrev pub minutes_rule : Rule
minutes_rule = record (new_rule (codes "minutes")) {
  short = Some 116;
  action = Some Set;
  parser = Some (Signed (pos 1) (pos 10000));
  defaults = codes "5" ∷ [];
}

abbrev pub queues_rule : Rule
queues_rule = record (new_rule (codes "queues")) {
  range = Some (record { start_inclusive = 0; end_inclusive = 2 ^ 64 - 1 });
}

abbrev pub flags_app : App
flags_app = with_rule (with_rule (new_app (codes "qshape")) (flag_rule (codes "linear") 108))
    (flag_rule (codes "senders") 115)

abbrev pub qshape_app : App
qshape_app = with_rule (with_rule (with_rule flags_app buckets_rule) minutes_rule) queues_rule

-- clap refuses the words for another cause than memory
abbrev pub is_fault : App → List Text → Bool
is_fault app words = nat_lt 0 (length (fault_of app words))
