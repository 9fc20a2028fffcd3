use Rattle.std.proofs.Common.{◌∙◌, ap, filter, sym}
use Rattle.q_keyed.proofs.Values.{keep_none, none_passes}
use Rattle.q_keyed.specs.Numbered.{Items, values_of}
use Rattle.q_schedule.proofs.Knowing.{few_left, left_known}
use Rattle.q_schedule.proofs.MessageSames.{facts_left, messages_left, ranked_left}
use Rattle.q_schedule.proofs.Schedules.{sound_known}
use Rattle.q_schedule.proofs.ScheduleViews.{with_messages}
use Rattle.q_schedule.specs.declared.ranked.Ranked.{Ranked}
use Rattle.q_schedule.specs.Schedule.{is_another, Scheduling}
use Rattle.q_schedule.specs.Sound.{is_ranked, messages_of}
use Rattle.q_schedule.proofs.schedule.Schedule.remove.Goals as goal

pub returns-in_default : goal.returns-in_default
returns-in_default c =
    let rs = values_of c.self.inside.messages.items in
    let same = keep_none (is_ranked c.args.id) rs (none_passes (is_ranked c.args.id) c.self.inside.messages.items (sym c.find.ensures.is ∙ c.in_default.is)) in
    with_messages c.args.self.now (filter (is_another c.args.id))
    (sym (ap (λ (v : Scheduling). filter (is_another c.args.id) v.messages) (sym c.self.view_is) ∙ sym (messages_left c.args.id rs) ∙ ap messages_of same ∙ ap (λ (v : Scheduling). v.messages) c.self.view_is))

pub invariant_of-self : goal.invariant_of-self
invariant_of-self c =
    let a = c.self.inside in
    let s = c.find.ensures in
    sound_known a.turns a.messages a.candidates c.touch.new.candidates a.stale a.next c.self.invariant c.args.id c.touch.new.stale c.remove-ranked.new.self _ a.next c.touch.ensures.stale c.touch.ensures.kept c.touch.ensures.room c.touch.ensures.tied
    (ap (λ (v : Items Ranked). values_of v.items) c.remove-ranked.ensures.items ∙ left_known c.args.id c.in-Some.number a.messages.items s.apart s.keys (sym c.find.ensures.is ∙ c.in-Some.is))
    (ranked_left a.next c.args.id (values_of a.messages.items) c.self.invariant.ranked) (few_left c.args.id (values_of a.messages.items) c.self.invariant.few)
    (λ i other. facts_left c.args.id i other (values_of a.messages.items))

pub returns : goal.returns
returns c =
    let a = c.self.inside in
    let s = c.find.ensures in
    ap (λ (v : Items Ranked). record { lines = a.turns.lines; peers = a.turns.peers; suspended = a.turns.suspended; messages = messages_of (values_of v.items); line_room = a.turns.line_room; room = a.turns.room; suspended_room = a.turns.suspended_room; message_room = v.room }) c.remove-ranked.ensures.items
    ∙ ap (λ rs. record { lines = a.turns.lines; peers = a.turns.peers; suspended = a.turns.suspended; messages = messages_of rs; line_room = a.turns.line_room; room = a.turns.room; suspended_room = a.turns.suspended_room; message_room = a.messages.room })
    (left_known c.args.id c.in-Some.number a.messages.items s.apart s.keys (sym c.find.ensures.is ∙ c.in-Some.is))
    ∙ ap (λ ms. record { lines = a.turns.lines; peers = a.turns.peers; suspended = a.turns.suspended; messages = ms; line_room = a.turns.line_room; room = a.turns.room; suspended_room = a.turns.suspended_room; message_room = a.messages.room }) (messages_left c.args.id (values_of a.messages.items))
    ∙ ap (λ (v : Scheduling). record v { messages = filter (is_another c.args.id) v.messages }) c.self.view_is
