use Rattle.std.proofs.Common.{◌∙◌}
use Rattle.clap.specs.Words.{found_of}
use Rattle.clap.proofs.WalkLemmas.{one_text-rows}
use Rattle.q_words.proofs.tables.flag.Goals as goal

pub returns : goal.returns
returns c = record {
  set = λ e. c.get_flag.ensures.value (one_text-rows (found_of c.args.matches.now) c.args.id.now ∙ e);
  unset = λ e. c.get_flag.ensures.other (one_text-rows (found_of c.args.matches.now) c.args.id.now ∙ e);
}
