use Rattle.std.proofs.Common.{◌≡◌, ◌∙◌, ap, subst}
use Rattle.std.specs.Prelude.{codes, IfOk}
use Rattle.clap.specs.Words.{all_of, found_of, rows_of}
use Rattle.clap.proofs.WalkLemmas.{raw_values-rows}
use Rattle.q_numbers.specs.Pieces.{one_or_more}
use Rattle.q_text.specs.ValueTexts.{address_of}
use Rattle.q_words.proofs.WordLaws.{words-none, words-some}
use Rattle.q_words.proofs.looking.addresses_in.Goals as goal

pub returns-in-Some : goal.returns-in-Some
returns-in-Some c = let f = found_of c.args.matches.now in
    subst (λ ws. IfOk c.some_addresses.result (λ list. list ≡ one_or_more address_of ws))
    (words-some c.get_strs.result c.in-Some.words (all_of (codes "address") (rows_of f)) c.in-Some.is (c.get_strs.ensures ∙ raw_values-rows f (codes "address"))) c.some_addresses.ensures

pub returns-in-None : goal.returns-in-None
returns-in-None c = let f = found_of c.args.matches.now in
    ap (one_or_more address_of) (words-none c.get_strs.result (all_of (codes "address") (rows_of f)) c.in-None.is (c.get_strs.ensures ∙ raw_values-rows f (codes "address")))
