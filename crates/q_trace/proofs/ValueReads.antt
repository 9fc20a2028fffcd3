-- What a part says, in both directions: the size of a content, ids and next hops.
use Rattle.std.proofs.Common.{◌≡◌, ◌≤◌, true, Some, None, arith}
use Rattle.std.specs.Prelude.{decimal}
use Rattle.std.proofs.lemmas.Bool.{cond-true}
use Rattle.q_model.specs.IdTexts.{id_text, IsId}
use Rattle.q_model.specs.Texts.{is_hop}
use Rattle.q_text.proofs.Exactness.{ExactPart}
use Rattle.q_text.proofs.NumberReads.{as_it_is, exact_number}
use Rattle.q_text.proofs.SolidTexts.{hop_is_solid, id_solid}
use Rattle.q_trace.specs.PartTexts.{hop_of, id_of, size_of}
use Rattle.q_trace.proofs.IdReads.{id_back, id_gives}

pub exact_size : ExactPart size_of (λ n. n ≤ 10240000) decimal
exact_size = exact_number 0 10240000 (λ n. n ≤ 10240000) (omega arith) (λ n a b. b) (λ n h. (omega arith, h))

pub exact_id : ExactPart id_of IsId id_text
exact_id = record { exact = record { back = id_back; gives = id_gives }; solid = λ id h. id_solid id }

pub exact_hop : ExactPart hop_of (λ hop. is_hop hop ≡ true) (λ hop. hop)
exact_hop = record {
  exact = record { back = as_it_is is_hop; gives = λ a h. cond-true (is_hop a) (Some a) None h };
  solid = hop_is_solid;
}
