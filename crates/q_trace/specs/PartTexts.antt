-- What a part of a line says, beside the values that event lists have too.
use Rattle.std.specs.Prelude.{◌&&◌, Bool, bytes_eq, codes, drop, if◌then◌else◌, length, List, nat_le, nat_lt, None, Option, position, Some, take, ℕ}
use Rattle.std.specs.Str.Parse.{digits_value}
use Rattle.q_model.specs.declared.id.Id.{Id}
use Rattle.q_model.specs.declared.outcome.Outcome.{Outcome}
use Rattle.q_model.specs.declared.outcome.SiteState.{SiteState}
use Rattle.q_model.specs.declared.outcome.Why.{Why}
use Rattle.q_model.specs.declared.outcome.Why.TheVariants.{Expired, Refused}
use Rattle.q_model.specs.IdTexts.{id_text}
use Rattle.q_model.specs.Settings.{Table}
use Rattle.q_model.specs.Texts.{is_hop}
use Rattle.q_model.specs.Values.{Receiver}
use Rattle.q_numbers.specs.Numbers.{number32_of, number_within}
use Rattle.q_numbers.specs.Pieces.{one_or_more, words_in}
use Rattle.q_text.specs.ValueTexts.{outcome_of, plain_of}

-- the number of bytes of an arrived content
abbrev pub size_of : List ℕ → Option ℕ
size_of text = number_within 0 10240000 text

-- the id whose digits would stand there
abbrev pub id_like : List ℕ → Id
id_like text = record {
  generation = digits_value 16 (take 8 text);
  serial = digits_value 16 (take 8 (drop 9 text));
  bounce = nat_lt 17 (length text);
}

-- both numbers are from 1 to 2^32 - 1
abbrev pub is_id : Id → Bool
is_id id =
    nat_lt 0 id.generation && nat_lt id.generation 4294967296
    && nat_lt 0 id.serial && nat_lt id.serial 4294967296

-- the id with this text
unfoldable pub id_of : List ℕ → Option Id
id_of text =
    if is_id (id_like text) && bytes_eq (id_text (id_like text)) text then Some (id_like text)
    else None

-- 1 to 50,000 recipients, by their addresses
abbrev pub addresses_of : List ℕ → Option (List Receiver)
addresses_of text =
    if nat_le (length (words_in text)) 50000 then one_or_more plain_of (words_in text) else None

-- at least one position
abbrev pub positions_of : List ℕ → Option (List ℕ)
positions_of text = one_or_more number32_of (words_in text)

-- the first transport of this name, which has no spaces
abbrev pub transport_of : Table → List ℕ → Option ℕ
transport_of table text =
    if is_hop text then position (λ name. bytes_eq name text) table.transports else None

-- a next hop
abbrev pub hop_of : List ℕ → Option (List ℕ)
hop_of text = if is_hop text then Some text else None

-- why a recipient failed
abbrev pub why_of_text : List ℕ → Option Why
why_of_text text =
    if bytes_eq text (codes "refused") then Some Refused
    else if bytes_eq text (codes "expired") then Some Expired
    else None

-- at least one outcome at a site in this state
abbrev pub outcomes_of : SiteState → List ℕ → Option (List Outcome)
outcomes_of state text = one_or_more (outcome_of state) (words_in text)
