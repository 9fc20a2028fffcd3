use Rattle.std.proofs.Common.{◌∙◌}
use Rattle.std.specs.Prelude.{codes}
use Rattle.clap.specs.Words.{all_of, found_of, rows_of}
use Rattle.clap.proofs.WalkLemmas.{raw_values-rows}
use Rattle.q_words.proofs.WordLaws.{words-none, words-some}
use Rattle.q_words.proofs.tables.table_in.Goals as goal

pub table_of-requires-clause-words : goal.table_of-requires-clause-words
table_of-requires-clause-words c = let f = found_of c.args.matches.now in
    words-some c.get_strs.result c.in-Some.words (all_of (codes "queues") (rows_of f)) c.in-Some.is (c.get_strs.ensures ∙ raw_values-rows f (codes "queues"))

pub table_of-requires-in-None-clause-words : goal.table_of-requires-in-None-clause-words
table_of-requires-in-None-clause-words c = let f = found_of c.args.matches.now in
    words-none c.get_strs.result (all_of (codes "queues") (rows_of f)) c.in-None.is (c.get_strs.ensures ∙ raw_values-rows f (codes "queues"))
