use Rattle.std.proofs.Common.{◌∙◌, ◌*◌, ◌+◌, [], ap}
use Rattle.q_core.specs.Rooms.{most_flights}
use Rattle.q_dest.specs.Dests.{Dests}
use Rattle.q_model.specs.Settings.{Settings}
use Rattle.q_schedule.specs.Schedule.{Scheduling}
use Rattle.q_core.proofs.beginning.registers.Goals as goal

pub returns : goal.returns
returns c = record {
  admitted = c.in_ok-admitted.ensures ∙ ap (λ (p : Settings). record { items = []; room = p.active_limit; sync_limit = p.mark_sync_limit; minimum = p.recipient_minimum }) c.params.view_is;
  lines = ap (λ (x : Scheduling). x.lines) c.in_ok-schedule.ensures;
  peers = ap (λ (x : Scheduling). x.peers) c.in_ok-schedule.ensures;
  suspended = ap (λ (x : Scheduling). x.suspended) c.in_ok-schedule.ensures;
  messages = ap (λ (x : Scheduling). x.messages) c.in_ok-schedule.ensures;
  message_room = ap (λ (x : Scheduling). x.message_room) c.in_ok-schedule.ensures ∙ ap (λ (p : Settings). p.active_limit) c.params.view_is;
  sites = ap (λ (x : Dests). x.items) c.in_ok-sites.ensures;
  site_room =
      ap (λ (x : Dests). x.room) c.in_ok-sites.ensures ∙ ap (λ n. 2 * c.params.inside.qmgr_message_recipient_limit + n) c.most_flights.ensures.result
      ∙ ap (λ (p : Settings). 2 * p.recipient_limit + most_flights c.args.params.now c.args.transports) c.params.view_is;
  peer_room = ap (λ (x : Scheduling). x.room) c.in_ok-schedule.ensures ∙ ap (λ (p : Settings). p.recipient_limit) c.params.view_is;
  line_room = ap (λ (x : Scheduling). x.line_room) c.in_ok-schedule.ensures ∙ ap (λ (p : Settings). p.active_limit) c.params.view_is;
}
