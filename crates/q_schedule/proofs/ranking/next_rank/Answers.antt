use Rattle.std.proofs.Common.{◌≤◌, ◌∙◌, ◌+◌, ap, arith, length, subst, sym}
use Rattle.q_keyed.specs.Numbered.{Items, values_of}
use Rattle.q_schedule.proofs.RankedAnew.{anew_messages, anew_ranked}
use Rattle.q_schedule.specs.declared.ranked.Ranked.{Ranked}
use Rattle.q_schedule.specs.Sound.{AreRanked, messages_of}
use Rattle.q_schedule.proofs.ranking.next_rank.Goals as goal

pub returns-clause-ranked : goal.returns-clause-ranked
returns-clause-ranked c =
    let ks = c.args.messages.now.items in
    let fits : 0 + length ks ≤ c.rank_anew.result = omega (arith, c.rank_anew.ensures.few) in
    subst (λ (v : Items Ranked). AreRanked c.rank_anew.result (values_of v.items)) (sym c.rank_anew.ensures.ranked) (anew_ranked 0 c.rank_anew.result ks fits)

pub returns-clause-messages : goal.returns-clause-messages
returns-clause-messages c =
    ap (λ (v : Items Ranked). messages_of (values_of v.items)) c.rank_anew.ensures.ranked ∙ anew_messages 0 c.args.messages.now.items
