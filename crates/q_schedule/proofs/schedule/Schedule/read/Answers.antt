use Rattle.std.proofs.Common.{◌∙◌, ap, map, refl, sym}
use Rattle.q_keyed.proofs.Values.{change_none, held_item, none_passes}
use Rattle.q_keyed.specs.Numbered.{Items, values_of}
use Rattle.q_rounds.proofs.ItemSets.{unless_none}
use Rattle.q_schedule.proofs.Knowing.{few_changed, put_known}
use Rattle.q_schedule.proofs.MessageSames.{facts_changed, messages_read, ranked_changed, with_unread}
use Rattle.q_schedule.proofs.Schedules.{sound_known}
use Rattle.q_schedule.proofs.ScheduleViews.{with_messages}
use Rattle.q_schedule.specs.declared.ranked.Ranked.{Ranked}
use Rattle.q_schedule.specs.Schedule.{read_to, Scheduling}
use Rattle.q_schedule.specs.Sound.{is_ranked, messages_of}
use Rattle.q_schedule.proofs.schedule.Schedule.read.Goals as goal

pub returns-in_default : goal.returns-in_default
returns-in_default c =
    let rs = values_of c.self.inside.messages.items in
    let same = change_none (is_ranked c.args.id) (with_unread c.args.unread) rs (none_passes (is_ranked c.args.id) c.self.inside.messages.items (sym c.find.ensures.is ∙ c.in_default.is)) in
    with_messages c.args.self.now (map (read_to c.args.id c.args.unread))
    (sym (ap (λ (v : Scheduling). map (read_to c.args.id c.args.unread) v.messages) (sym c.self.view_is) ∙ sym (messages_read c.args.id c.args.unread rs) ∙ ap messages_of same ∙ ap (λ (v : Scheduling). v.messages) c.self.view_is))

pub returns-in_default-copied : goal.returns-in_default-copied
returns-in_default-copied c =
    let it = held_item (is_ranked c.args.id) c.in-Some.number c.self.inside.messages.items c.find.ensures.apart (sym c.find.ensures.is ∙ c.in-Some.is) in
    absurd (unless_none _ it.0 (sym (c.copied.ensures ∙ c.get.ensures) ∙ c.in_default-copied.is) it.1)

pub invariant_of-self : goal.invariant_of-self
invariant_of-self c =
    let a = c.self.inside in
    let s = c.find.ensures in
    let f = with_unread c.args.unread in
    sound_known a.turns a.messages a.candidates c.touch.new.candidates a.stale a.next c.self.invariant c.args.id c.touch.new.stale c.put.new.self _ a.next c.touch.ensures.stale c.touch.ensures.kept c.touch.ensures.room c.touch.ensures.tied
    (ap (λ (v : Items Ranked). values_of v.items) c.put.ensures ∙ put_known c.args.id c.in-Some.number a.messages.items s.apart s.keys (sym c.find.ensures.is ∙ c.in-Some.is) f c.in-Some-copied.ranked _ (sym (c.copied.ensures ∙ c.get.ensures) ∙ c.in-Some-copied.is) refl)
    (ranked_changed c.args.id f (λ q. refl) a.next (values_of a.messages.items) c.self.invariant.ranked) (few_changed c.args.id f (λ q low. c.ranges.unread.fits) (values_of a.messages.items) c.self.invariant.few)
    (λ i other. facts_changed c.args.id i other f (λ q. refl) (values_of a.messages.items))

pub returns : goal.returns
returns c =
    let a = c.self.inside in
    let s = c.find.ensures in
    ap (λ (v : Items Ranked). record { lines = a.turns.lines; peers = a.turns.peers; suspended = a.turns.suspended; messages = messages_of (values_of v.items); line_room = a.turns.line_room; room = a.turns.room; suspended_room = a.turns.suspended_room; message_room = v.room }) c.put.ensures
    ∙ ap (λ rs. record { lines = a.turns.lines; peers = a.turns.peers; suspended = a.turns.suspended; messages = messages_of rs; line_room = a.turns.line_room; room = a.turns.room; suspended_room = a.turns.suspended_room; message_room = a.messages.room })
    (put_known c.args.id c.in-Some.number a.messages.items s.apart s.keys (sym c.find.ensures.is ∙ c.in-Some.is) (with_unread c.args.unread) c.in-Some-copied.ranked _ (sym (c.copied.ensures ∙ c.get.ensures) ∙ c.in-Some-copied.is) refl)
    ∙ ap (λ ms. record { lines = a.turns.lines; peers = a.turns.peers; suspended = a.turns.suspended; messages = ms; line_room = a.turns.line_room; room = a.turns.room; suspended_room = a.turns.suspended_room; message_room = a.messages.room }) (messages_read c.args.id c.args.unread (values_of a.messages.items))
    ∙ ap (λ (v : Scheduling). record v { messages = map (read_to c.args.id c.args.unread) v.messages }) c.self.view_is
