use Rattle.std.proofs.Common.{◌∙◌, ◌+◌, ap, subst, sym}
use Rattle.std.specs.Option.{option_copied}
use Rattle.q_keyed.specs.Numbered.{values_of}
use Rattle.q_rounds.specs.Rounds.{next_in, rows_left}
use Rattle.q_schedule.proofs.Owns.{not_able, not_wanted, own_is}
use Rattle.q_schedule.specs.Best.{IsOwn}
use Rattle.q_schedule.proofs.best.own.Goals as goal

pub returns-in_err-next : goal.returns-in_err-next
returns-in_err-next c =
    let w = c.args.wanted.now in
    let ds = c.args.sites.now.items in
    let lines = c.args.turns.now.lines in
    let ps = c.args.turns.now.peers in
    let rs = values_of c.args.messages.now.items in
    let id = c.in_ok-id.id in
    subst (λ o. IsOwn ds lines ps rs c.args.stale w.transport w.most w.except o) (sym c.from_residual-in_err-next.ensures)
    (not_able ds lines ps rs c.args.stale w.transport w.most w.except id c.in_ok-id.was (ap (λ t. next_in ds t id ps) (sym c.from-at.ensures) ∙ sym c.next.ensures ∙ ap option_copied c.in_err-next.was))

pub returns-then-not-is_wanted : goal.returns-then-not-is_wanted
returns-then-not-is_wanted c =
    let w = c.args.wanted.now in
    let ps = c.args.turns.now.peers in
    let id = c.in_ok-id.id in
    let r = c.in_ok-ranked.ranked.now in
    let count = ap (λ n. n + c.from.result) (c.rows_left.ensures.value ∙ ap (λ t. rows_left id t ps) c.from-at.ensures) ∙ ap (λ n. rows_left id w.transport ps + n) c.from.ensures in
    not_wanted c.args.sites.now.items c.args.turns.now.lines ps (values_of c.args.messages.now.items) c.args.stale w.transport w.most w.except id c.in_ok-id.was r (sym c.message.ensures ∙ ap option_copied c.in_ok-ranked.was) _ count
    (sym c.is_wanted.ensures ∙ c.if-not-is_wanted.true)

pub returns : goal.returns
returns c =
    let w = c.args.wanted.now in
    let ds = c.args.sites.now.items in
    let ps = c.args.turns.now.peers in
    let id = c.in_ok-id.id in
    let r = c.in_ok-ranked.ranked.now in
    let count = ap (λ n. n + c.from.result) (c.rows_left.ensures.value ∙ ap (λ t. rows_left id t ps) c.from-at.ensures) ∙ ap (λ n. rows_left id w.transport ps + n) c.from.ensures in
    own_is ds c.args.turns.now.lines ps (values_of c.args.messages.now.items) c.args.stale w.transport w.most w.except id c.in_ok-id.was r (sym c.message.ensures ∙ ap option_copied c.in_ok-ranked.was) _ count c.in_ok-next.next.now
    (ap (λ t. next_in ds t id ps) (sym c.from-at.ensures) ∙ sym c.next.ensures ∙ ap option_copied c.in_ok-next.was)
    (sym c.is_wanted.ensures ∙ c.if-not-is_wanted.false)
