-- What a table keeps, by what its contents keep.
use Rattle.std.proofs.Common.{◌≡◌, ◌<◌, ◌+◌, ℕ, true, List, [], length, get_or, Option, Some, None, refl, arith}
use Rattle.std.specs.Prelude.{◌&&◌, nat_le, nat_lt, unwrap_or}
use Rattle.std.specs.List.{list_all}
use Rattle.std.specs.Option.{option_map_or}
use Rattle.std.proofs.lemmas.Bool.{and_parts, both_ways, ltb-true, true_from_ne_false}
use Rattle.std.proofs.lemmas.List.Folds.{list_all_at}
use Rattle.std.proofs.lemmas.Option.{unwrap_or-slice_get}
use Rattle.q_model.proofs.DomainLaws.{domain_is_hop}
use Rattle.q_model.specs.Texts.{domain_from, domain_of, is_address, is_address_byte, is_hop}
use Rattle.q_model.specs.Values.{Site}
use Rattle.q_transport.specs.Contents.{AreContents, Contents, Rule}
use Rattle.q_transport.specs.Lawful.{IsLawful}
use Rattle.q_transport.specs.Names.{AreTransportNames, name_of_number, number_of, smtp, with_name}
use Rattle.q_transport.specs.Routing.{deciding, site_by, table_of}
use Rattle.q_transport.specs.Texts.{is_transport}
use Rattle.q_transport.proofs.ContentLaws.{decided_rule, with_name_longer}
use Rattle.q_transport.proofs.NameLaws.{transport_is_hop}
use Rattle.q_transport.proofs.NumberLaws.{named, number_below}

name_form : (names : List (List ℕ)) (n : ℕ) → AreTransportNames names → n < length names → is_transport (name_of_number names n) ≡ true
name_form names n h below =
    rw (unwrap_or-slice_get names n [])
    (true_from_ne_false (is_transport (get_or names n [])) (λ other. both_ways (list_all is_transport names) (list_all_at is_transport names n [] below other) h.forms))

-- the domain of an address is a next hop
domain_hop : (address : List ℕ) → is_address address ≡ true → is_hop (domain_of address) ≡ true
domain_hop address h =
    let (most, user) = and_parts (nat_le 3 (length address) && nat_le (length address) 254 && list_all is_address_byte address && nat_lt 0 (length (domain_from address [])))
    (nat_lt (length (domain_from address []) + 1) (length address)) h in
    let short = ltb-true (length (domain_from address []) + 1) (length address) user in
    domain_is_hop address address (domain_from address []) h refl refl (omega (arith, short))

-- what holds of the site by each entry that may decide, and of the one where none does
site_has : (P : Site → Type 0) (address : List ℕ) (o : Option Rule) (other : Site) → ((entry : Rule) → o ≡ Some entry → P (site_by address entry)) → P other → P (option_map_or (site_by address) o other)
site_has P address None other each rest = rest
site_has P address (Some entry) other each rest = each entry refl

hop_or : (hop : Option (List ℕ)) (domain : List ℕ) → option_map_or is_hop hop true ≡ true → is_hop domain ≡ true → is_hop (unwrap_or hop domain) ≡ true
hop_or None domain h k = k
hop_or (Some hop) domain h k = h

pub routed : (c : Contents) (address : List ℕ) → AreContents c → ((table_of c).route address).transport < length (table_of c).transports
routed c address h =
    site_has (λ (site : Site). site.transport < length (with_name c.names smtp)) address (deciding c.entries address) (record { transport = number_of c.names smtp; hop = domain_of address })
    (λ entry e. let rule = decided_rule c.entries address (length c.names) entry h.entries e in omega (arith, rule.0, with_name_longer c.names smtp))
    (number_below c.names smtp)

pub hop_form : (c : Contents) (address : List ℕ) → AreContents c → is_address address ≡ true → is_hop ((table_of c).route address).hop ≡ true
hop_form c address h form =
    site_has (λ (site : Site). is_hop site.hop ≡ true) address (deciding c.entries address) (record { transport = number_of c.names smtp; hop = domain_of address })
    (λ entry e. let rule = decided_rule c.entries address (length c.names) entry h.entries e in hop_or entry.hop (domain_of address) rule.1 (domain_hop address form))
    (domain_hop address form)

pub lawful : (c : Contents) → AreContents c → IsLawful (table_of c)
lawful c h =
    let names : AreTransportNames (with_name c.names smtp) = named c.names smtp h.names refl in
    record {
      names = λ n below. name_form (with_name c.names smtp) n names below;
      words = λ n below. transport_is_hop (name_of_number (with_name c.names smtp) n) (name_form (with_name c.names smtp) n names below);
      numbers = names.numbers;
      routed = λ address. routed c address h;
      hops = λ address form. hop_form c address h form;
    }
