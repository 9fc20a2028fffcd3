use Rattle.std.proofs.Common.{◌≡◌, ◌-◌, ◌∙◌, ap, ℕ, sym}
use Rattle.std.proofs.lemmas.Result.{on_ok_weaker}
use Rattle.q_ages.proofs.AddingLaws.{all_ahead, recipients_counted, sender_counted}
use Rattle.q_model.specs.Message.{pending}
use Rattle.q_model.specs.Values.{FileHead, Head}
use Rattle.q_walk.specs.declared.walk.Found.{Found}
use Rattle.q_ages.proofs.counting.count_message.Goals as goal

pub returns-then-senders-clause-counted : goal.returns-then-senders-clause-counted
returns-then-senders-clause-counted g c = on_ok_weaker c.count_sender.result (λ counted t m found.
    let before = g.H.Host.view c.args.host.now in
    let after = g.H.Host.view c.open.new.host in
    let head = ap (λ (x : Found). x.head) c.found.view_is ∙ found.head in
    let inside = c.head.view_is ∙ ap (λ (f : FileHead). f.head) head in
    let sender : c.head.inside.sender ≡ m.sender = ap (λ (h : Head). h.sender) inside in
    let age = c.saturating_sub-age.ensures ∙ ap (λ (n : ℕ). c.args.now - n) (ap (λ (h : Head). h.arrival) inside) in
    sender_counted m c.args.senders c.args.now c.saturating_sub-age.result c.head.inside.sender c.args.table.now c.count_sender.new.table c.if-senders.true sender age
    (counted t m (pending m) (all_ahead before.files after.files m c.in_ok-pending.field-0 c.in-Some.pending (sym (c.in_ok-pending.ensures.stays t).files) c.in-Some.is (c.in_ok-pending.ensures.opened t m found))))
    c.count_sender.ensures.counted

pub returns-clause-counted : goal.returns-clause-counted
returns-clause-counted g c = on_ok_weaker c.count_recipients.result (λ counted t m found.
    let before = g.H.Host.view c.args.host.now in
    let after = g.H.Host.view c.open.new.host in
    let head = ap (λ (x : Found). x.head) c.found.view_is ∙ found.head in
    let inside = c.head.view_is ∙ ap (λ (f : FileHead). f.head) head in
    let age = c.saturating_sub-age.ensures ∙ ap (λ (n : ℕ). c.args.now - n) (ap (λ (h : Head). h.arrival) inside) in
    recipients_counted m c.args.senders c.args.now c.saturating_sub-age.result c.args.table.now c.count_recipients.new.table c.if-senders.false age
    (counted t m (pending m) (all_ahead before.files after.files m c.in_ok-pending.field-0 c.in-Some.pending (sym (c.in_ok-pending.ensures.stays t).files) c.in-Some.is (c.in_ok-pending.ensures.opened t m found))))
    c.count_recipients.ensures.counted
