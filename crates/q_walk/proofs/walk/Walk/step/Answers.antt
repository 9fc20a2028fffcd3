use Rattle.std.proofs.Common.{◌∙◌, List, Some, None, sym, subst}
use Rattle.q_model.specs.Message.{Message}
use Rattle.q_model.specs.SpoolFiles.{Files}
use Rattle.q_walk.specs.Steps.{IsNextName, Leads, SaysFile}
use Rattle.q_walk.proofs.Leading.{at_name, behind_same, fewer_named, fewer_then, ended, given, IsAtName, passed_unnamed, passed_unread}
use Rattle.q_walk.proofs.walk.Walk.step.Goals as goal

pub returns-in_default-clause-step : goal.returns-in_default-clause-step
returns-in_default-clause-step g c t b ms stands ahead =
    let f = (g.H.Host.view c.args.host.now).files in
    let old = c.args.self.now in
    let new = c.next_name.new.self in
    let next : IsNextName f old None = subst (IsNextName f old) c.in_default.is (c.in_ok-name.ensures.exact t ahead.up_to_date) in
    subst (λ (zs : List Message). Leads f b c.next_queue.new.self zs c.in_ok-next_queue.field-0)
    (behind_same b old new c.next_name.ensures.queues c.next_name.ensures.queue ∙ sym (ended f b old ms stands ahead next))
    (c.in_ok-next_queue.ensures.step f b)

pub returns-in_default-named_in-clause-step : goal.returns-in_default-named_in-clause-step
returns-in_default-named_in-clause-step g c t b ms stands ahead =
    let f = (g.H.Host.view c.args.host.now).files in
    let old = c.args.self.now in
    let new = c.next_name.new.self in
    let at : IsAtName f old new c.in-Some.name =
    at_name f old new c.in_ok-name.field-0 c.in-Some.name c.in-Some.is c.next_name.ensures.queues c.next_name.ensures.queue c.next_name.ensures.area
    c.in_ok-name.ensures.place (c.in_ok-name.ensures.up_to_date t ahead.up_to_date) (c.in_ok-name.ensures.exact t ahead.up_to_date) in
    passed_unnamed f b stands old new ms ahead c.in-Some.name at c.in_default-named_in.ensures.none

pub returns-in-Some-2-clause-step : goal.returns-in-Some-2-clause-step
returns-in-Some-2-clause-step g c t b ms stands ahead =
    let f = (g.H.Host.view c.args.host.now).files in
    let old = c.args.self.now in
    let new = c.next_name.new.self in
    let place = c.in-Some-named_in.place in
    let id = c.in-Some-named_in.id in
    let at : IsAtName f old new c.in-Some.name =
    at_name f old new c.in_ok-name.field-0 c.in-Some.name c.in-Some.is c.next_name.ensures.queues c.next_name.ensures.queue c.next_name.ensures.area
    c.in_ok-name.ensures.place (c.in_ok-name.ensures.up_to_date t ahead.up_to_date) (c.in_ok-name.ensures.exact t ahead.up_to_date) in
    let says : SaysFile f place id (Some c.in-Some-2.found) = subst (SaysFile f place id) c.in-Some-2.is (subst (λ (h : Files). SaysFile h place id c.in_ok-found.field-0) (c.next_name.ensures.stays t).files (c.in_ok-found.ensures.found t)) in
    given f b stands old new ms ahead c.in-Some.name at place id c.in-Some-named_in.ensures.some c.in-Some-2.found says

pub returns-in-None-clause-step : goal.returns-in-None-clause-step
returns-in-None-clause-step g c t b ms stands ahead =
    let f = (g.H.Host.view c.args.host.now).files in
    let old = c.args.self.now in
    let new = c.next_name.new.self in
    let place = c.in-Some-named_in.place in
    let id = c.in-Some-named_in.id in
    let at : IsAtName f old new c.in-Some.name =
    at_name f old new c.in_ok-name.field-0 c.in-Some.name c.in-Some.is c.next_name.ensures.queues c.next_name.ensures.queue c.next_name.ensures.area
    c.in_ok-name.ensures.place (c.in_ok-name.ensures.up_to_date t ahead.up_to_date) (c.in_ok-name.ensures.exact t ahead.up_to_date) in
    let says : SaysFile f place id None = subst (SaysFile f place id) c.in-None.is (subst (λ (h : Files). SaysFile h place id c.in_ok-found.field-0) (c.next_name.ensures.stays t).files (c.in_ok-found.ensures.found t)) in
    passed_unread f b stands old new ms ahead c.in-Some.name at place id c.in-Some-named_in.ensures.some says

pub returns-in_default-clause-fewer : goal.returns-in_default-clause-fewer
returns-in_default-clause-fewer g c = fewer_then c.args.self.now c.next_name.new.self c.next_queue.new.self c.next_name.ensures.queue c.in_ok-name.ensures.left_over c.in_ok-next_queue.field-0 c.in_ok-next_queue.ensures.fewer

pub returns-in_default-named_in-clause-fewer : goal.returns-in_default-named_in-clause-fewer
returns-in_default-named_in-clause-fewer g c = fewer_named c.args.self.now c.next_name.new.self c.in_ok-name.field-0 c.in-Some.name c.in-Some.is c.next_name.ensures.queue c.in_ok-name.ensures.fewer

pub returns-in-Some-2-clause-fewer : goal.returns-in-Some-2-clause-fewer
returns-in-Some-2-clause-fewer g c = fewer_named c.args.self.now c.next_name.new.self c.in_ok-name.field-0 c.in-Some.name c.in-Some.is c.next_name.ensures.queue c.in_ok-name.ensures.fewer

pub returns-in-None-clause-fewer : goal.returns-in-None-clause-fewer
returns-in-None-clause-fewer g c = fewer_named c.args.self.now c.next_name.new.self c.in_ok-name.field-0 c.in-Some.name c.in-Some.is c.next_name.ensures.queue c.in_ok-name.ensures.fewer
