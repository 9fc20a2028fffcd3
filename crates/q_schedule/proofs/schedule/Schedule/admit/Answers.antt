use Rattle.std.proofs.Common.{◌≡◌, ◌∙◌, ◌∷◌, ◌++◌, ◌+◌, ◌<◌, ◌^◌, [], ap, arith, find, length, refl, subst, sym}
use Rattle.std.specs.List.{AllByRecursion}
use Rattle.q_keyed.proofs.Values.{none_sought}
use Rattle.q_keyed.specs.Numbered.{Items, values_of}
use Rattle.q_schedule.proofs.Knowing.{few_from, few_messages, few_more, values_more}
use Rattle.q_schedule.proofs.MessageLaws.{count_same, none_ranked}
use Rattle.q_schedule.proofs.MessageSames.{facts_more, messages_more, ranked_more}
use Rattle.q_schedule.proofs.Schedules.{sound_known}
use Rattle.q_schedule.specs.declared.admitted.Admitted.{Admitted}
use Rattle.q_schedule.specs.declared.ranked.Ranked.{Ranked}
use Rattle.q_schedule.specs.Schedule.{is_message, Scheduling}
use Rattle.q_schedule.specs.Sound.{IsSound, is_ranked, messages_of}
use Rattle.q_schedule.proofs.schedule.Schedule.admit.Goals as goal

pub push-number-requires-clause-room : goal.push-number-requires-clause-room
push-number-requires-clause-room c =
    let a = c.self.inside in
    let n = c.next_rank-rank in
    let count : length (messages_of (values_of n.new.messages.items)) ≡ length c.args.self.now.messages = ap length n.ensures.messages ∙ ap (λ (v : Scheduling). length v.messages) c.self.view_is in
    let room = n.ensures.message_room ∙ ap (λ (v : Scheduling). v.message_room) c.self.view_is in
    omega (arith, count, count_same n.new.messages.items, room, c.requires.room)

pub push-number-requires-clause-absent : goal.push-number-requires-clause-absent
push-number-requires-clause-absent c =
    let n = c.next_rank-rank in
    let id = c.args.message.id in
    none_sought (is_ranked id) n.new.messages.items
    (none_ranked id (values_of n.new.messages.items)
    (ap (find (is_message id)) n.ensures.messages ∙ ap (λ (v : Scheduling). find (is_message id) v.messages) c.self.view_is ∙ c.requires.absent))

pub invariant_of-self : goal.invariant_of-self
invariant_of-self c =
    let a = c.self.inside in
    let n = c.next_rank-rank in
    let rank = n.result in
    let r : Ranked = record { message = c.args.message; rank = rank } in
    let rs = values_of n.new.messages.items in
    let few = few_from rs (subst (AllByRecursion (λ (m : Admitted). m.unread < 2 ^ 32)) (sym n.ensures.messages) (few_messages (values_of a.messages.items) c.self.invariant.few)) in
    let low : c.args.message.unread < 2 ^ 32 = omega arith in
    let mid : IsSound a.turns n.new.messages n.new.candidates n.new.stale rank = record { kept = n.ensures.kept; ranked = n.ensures.ranked; few = few; room = n.ensures.room ∙ c.self.invariant.room; tied = n.ensures.tied } in
    sound_known a.turns n.new.messages n.new.candidates c.touch.new.candidates n.new.stale rank mid c.args.message.id c.touch.new.stale c.push-number.new.self (rs ++ r ∷ []) (rank + 1) c.touch.ensures.stale c.touch.ensures.kept c.touch.ensures.room c.touch.ensures.tied
    (ap (λ (v : Items Ranked). values_of v.items) c.push-number.ensures.items ∙ values_more n.new.messages.items _)
    (ranked_more rank r refl rs n.ensures.ranked) (few_more r rs few low)
    (λ i other. facts_more c.args.message.id i other r refl rs)

pub returns : goal.returns
returns c =
    let a = c.self.inside in
    let n = c.next_rank-rank in
    let r : Ranked = record { message = c.args.message; rank = n.result } in
    ap (λ (v : Items Ranked). record { lines = a.turns.lines; peers = a.turns.peers; suspended = a.turns.suspended; messages = messages_of (values_of v.items); line_room = a.turns.line_room; room = a.turns.room; suspended_room = a.turns.suspended_room; message_room = v.room }) c.push-number.ensures.items
    ∙ ap (λ rs. record { lines = a.turns.lines; peers = a.turns.peers; suspended = a.turns.suspended; messages = messages_of rs; line_room = a.turns.line_room; room = a.turns.room; suspended_room = a.turns.suspended_room; message_room = n.new.messages.room }) (values_more n.new.messages.items _)
    ∙ ap (λ ms. record { lines = a.turns.lines; peers = a.turns.peers; suspended = a.turns.suspended; messages = ms; line_room = a.turns.line_room; room = a.turns.room; suspended_room = a.turns.suspended_room; message_room = n.new.messages.room }) (messages_more r (values_of n.new.messages.items) ∙ ap (λ ms. ms ++ c.args.message ∷ []) n.ensures.messages)
    ∙ ap (λ room. record { lines = a.turns.lines; peers = a.turns.peers; suspended = a.turns.suspended; messages = messages_of (values_of a.messages.items) ++ c.args.message ∷ []; line_room = a.turns.line_room; room = a.turns.room; suspended_room = a.turns.suspended_room; message_room = room }) n.ensures.message_room
    ∙ ap (λ (v : Scheduling). record v { messages = v.messages ++ c.args.message ∷ [] }) c.self.view_is
