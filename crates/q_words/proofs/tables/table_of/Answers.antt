use Rattle.std.proofs.Common.{◌≡◌, ◌∙◌, true, false, ap, not, sym, rules}
use Rattle.std.specs.List.{list_all}
use Rattle.q_words.specs.Requests.{is_queue, queues_of}
use Rattle.q_words.proofs.WordLaws.{all-seen}
use Rattle.q_words.proofs.tables.table_of.Goals as goal

pub returns-then-not-are_queues : goal.returns-then-not-are_queues
returns-then-not-are_queues c = λ u.
    let e : c.are_queues.result ≡ false = search rules in
    ap not (sym (ap (list_all is_queue) c.requires.words) ∙ all-seen is_queue c.args.words.now ∙ sym c.are_queues.ensures ∙ e)

pub returns : goal.returns
returns c =
    let e : c.are_queues.result ≡ true = search rules in (
      ap not (sym (ap (list_all is_queue) c.requires.words) ∙ all-seen is_queue c.args.words.now ∙ sym c.are_queues.ensures ∙ e),
      record {
        senders = c.flag.ensures;
        linear = c.shape_in.ensures.linear;
        buckets = c.shape_in.ensures.buckets;
        minutes = c.shape_in.ensures.minutes;
        shape = c.shape_in.ensures.shape;
        queues = c.queues_of.ensures ∙ ap queues_of c.requires.words;
      },
    )
