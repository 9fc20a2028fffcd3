use Rattle.std.proofs.Common.{◌∙◌, ap, map, refl, subst, sym}
use Rattle.q_keyed.specs.Numbered.{Items, put_at, values_of}
use Rattle.q_schedule.proofs.RankedAnew.{put_ranked, ranked_facts}
use Rattle.q_schedule.proofs.Keeping.{others_stay}
use Rattle.q_schedule.specs.declared.ranked.Ranked.{Ranked}
use Rattle.q_schedule.specs.Sound.{AreKept}
use Rattle.q_turns.specs.Filing.{candidate_at}
use Rattle.q_schedule.proofs.ranking.rank_one.Goals as goal

pub returns-clause-kept : goal.returns-clause-kept
returns-clause-kept c =
    let ks = c.args.messages.now.items in
    let lines = c.args.turns.now.lines in
    let ps = c.args.turns.now.peers in
    let there = sym (c.copied.ensures ∙ c.get.ensures) ∙ c.in-Some.is in
    let id = c.in-Some.ranked.message.id in
    subst (λ (v : Items Ranked). AreKept lines ps (values_of v.items) c.touch.new.stale c.touch.new.candidates.items) (sym c.put.ensures)
    (subst (λ s. AreKept lines ps (values_of (map (put_at c.args.number (record c.in-Some.ranked { rank = c.args.rank })) ks)) s c.touch.new.candidates.items) (sym c.touch.ensures.stale)
    (others_stay lines ps (values_of ks) lines ps (values_of (map (put_at c.args.number (record c.in-Some.ranked { rank = c.args.rank })) ks)) c.touch.new.candidates.items id c.touch.ensures.kept
    (λ i s other. ap (λ o. candidate_at lines ps o i s) (ranked_facts id i other c.args.number c.args.rank c.in-Some.ranked ks c.stand_apart.ensures.apart there refl))))

pub returns-clause-ranked : goal.returns-clause-ranked
returns-clause-ranked c =
    let ks = c.args.messages.now.items in
    let there = sym (c.copied.ensures ∙ c.get.ensures) ∙ c.in-Some.is in
    c.put.ensures ∙ ap (λ xs. record c.args.messages.now { items = xs }) (put_ranked c.args.number c.args.rank c.in-Some.ranked ks c.stand_apart.ensures.apart there)
