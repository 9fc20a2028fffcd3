use Rattle.std.proofs.Common.{◌≡◌, ◌∙◌, sym}
use Rattle.q_top.proofs.Named.{asked_too, unnamed}
use Rattle.q_top.proofs.Readable.{faultless_of}
use Rattle.q_top.proofs.Rests.{drain_needs, gave_drain, gave_listen, listen_needs}
use Rattle.q_words.specs.declared.request.Request.TheVariants.{Audit, Drain, Listen, Replay, Show, Submit, Tool}
use Rattle.q_top.proofs.command.carry_out.Goals as goal

pub returns-in-Replay-clause-unfinished : goal.returns-in-Replay-clause-unfinished
returns-in-Replay-clause-unfinished g c n is = absurd (c.replay_list.ensures.no_rests n is)

pub returns-in-Submit-clause-unfinished : goal.returns-in-Submit-clause-unfinished
returns-in-Submit-clause-unfinished g c n is = absurd (c.submit_content.ensures.no_rests n is)

pub returns-in-Drain-clause-unfinished : goal.returns-in-Drain-clause-unfinished
returns-in-Drain-clause-unfinished g c n is = gave_drain c.args.request c.in-Drain.rests n c.in-Drain.is
    (record { before = g.N.Hops.view c.args.hops.now; after = g.N.Hops.view c.drain_spool.new.hops })
    (record { before = g.D.Door.view c.args.door.now; after = g.D.Door.view c.args.door.now }) (c.drain_spool.ensures.unfinished n is)

pub returns-in-Listen-clause-unfinished : goal.returns-in-Listen-clause-unfinished
returns-in-Listen-clause-unfinished g c n is = gave_listen c.args.request c.in-Listen.rests n c.in-Listen.port c.in-Listen.count c.in-Listen.is
    (record { before = g.N.Hops.view c.args.hops.now; after = g.N.Hops.view c.args.hops.now })
    (record { before = g.D.Door.view c.args.door.now; after = g.D.Door.view c.listen_spool.new.door }) (c.listen_spool.ensures.unfinished n is)

pub returns-in-Drain-clause-few : goal.returns-in-Drain-clause-few
returns-in-Drain-clause-few g c n is = drain_needs c.args.request c.in-Drain.rests n c.in-Drain.is (g.N.Hops.view c.args.hops.now) (g.D.Door.view c.args.door.now) (c.drain_spool.ensures.few n is)

pub returns-in-Listen-clause-few : goal.returns-in-Listen-clause-few
returns-in-Listen-clause-few g c n is = listen_needs c.args.request c.in-Listen.rests n c.in-Listen.port c.in-Listen.count c.in-Listen.is (g.N.Hops.view c.args.hops.now) (g.D.Door.view c.args.door.now) (c.listen_spool.ensures.few n is)

pub returns-in-Qshape-clause-unfinished : goal.returns-in-Qshape-clause-unfinished
returns-in-Qshape-clause-unfinished g c n is = absurd (c.table_ages.ensures.no_rests n is)

pub returns-in-Queue-clause-unfinished : goal.returns-in-Queue-clause-unfinished
returns-in-Queue-clause-unfinished g c n is = absurd (c.list_queues.ensures.no_rests n is)

pub returns-in-Load-clause-unfinished : goal.returns-in-Load-clause-unfinished
returns-in-Load-clause-unfinished g c n is = absurd (c.tell_load.ensures.no_rests n is)

pub returns-in-Qshape-clause-blames : goal.returns-in-Qshape-clause-blames
returns-in-Qshape-clause-blames g c = faultless_of c.table_ages.result c.table_ages.ensures.faultless

pub returns-in-Queue-clause-blames : goal.returns-in-Queue-clause-blames
returns-in-Queue-clause-blames g c = faultless_of c.list_queues.result c.list_queues.ensures.faultless

pub returns-in-Load-clause-blames : goal.returns-in-Load-clause-blames
returns-in-Load-clause-blames g c = faultless_of c.tell_load.result c.tell_load.ensures.faultless

pub returns-in-Replay-clause-few : goal.returns-in-Replay-clause-few
returns-in-Replay-clause-few g c n is = absurd (c.replay_list.ensures.no_rests n is)

pub returns-in-Submit-clause-few : goal.returns-in-Submit-clause-few
returns-in-Submit-clause-few g c n is = absurd (c.submit_content.ensures.no_rests n is)

pub returns-in-Qshape-clause-few : goal.returns-in-Qshape-clause-few
returns-in-Qshape-clause-few g c n is = absurd (c.table_ages.ensures.no_rests n is)

pub returns-in-Queue-clause-few : goal.returns-in-Queue-clause-few
returns-in-Queue-clause-few g c n is = absurd (c.list_queues.ensures.no_rests n is)

pub returns-in-Load-clause-few : goal.returns-in-Load-clause-few
returns-in-Load-clause-few g c n is = absurd (c.tell_load.ensures.no_rests n is)

pub returns-in-Replay-clause-named : goal.returns-in-Replay-clause-named
returns-in-Replay-clause-named g c = asked_too (λ r. r ≡ Replay) (λ r. r ≡ c.args.request) (λ r is. is ∙ sym c.in-Replay.is) (g.S.Source.left c.args.source.now) c.replay_list.result c.replay_list.ensures.named

pub returns-in-Submit-clause-named : goal.returns-in-Submit-clause-named
returns-in-Submit-clause-named g c = asked_too (λ r. r ≡ Submit c.in-Submit.sender c.in-Submit.to) (λ r. r ≡ c.args.request) (λ r is. is ∙ sym c.in-Submit.is) (g.S.Source.left c.args.source.now) c.submit_content.result c.submit_content.ensures.named

pub returns-in-Drain-clause-named : goal.returns-in-Drain-clause-named
returns-in-Drain-clause-named g c =
    let text = g.S.Source.left c.args.source.now in
    asked_too (λ r. r ≡ Drain c.in-Drain.rests) (λ r. r ≡ c.args.request) (λ r is. is ∙ sym c.in-Drain.is) text c.drain_spool.result (c.drain_spool.ensures.named text)

pub returns-in-Listen-clause-named : goal.returns-in-Listen-clause-named
returns-in-Listen-clause-named g c =
    let text = g.S.Source.left c.args.source.now in
    asked_too (λ r. r ≡ Listen c.in-Listen.port c.in-Listen.count c.in-Listen.rests) (λ r. r ≡ c.args.request) (λ r is. is ∙ sym c.in-Listen.is) text c.listen_spool.result (c.listen_spool.ensures.named text)

pub returns-in-Qshape-clause-named : goal.returns-in-Qshape-clause-named
returns-in-Qshape-clause-named g c = unnamed (λ r. r ≡ c.args.request) (g.S.Source.left c.args.source.now) c.table_ages.result c.table_ages.ensures.faultless

pub returns-in-Queue-clause-named : goal.returns-in-Queue-clause-named
returns-in-Queue-clause-named g c = unnamed (λ r. r ≡ c.args.request) (g.S.Source.left c.args.source.now) c.list_queues.result c.list_queues.ensures.faultless

pub returns-in-Load-clause-named : goal.returns-in-Load-clause-named
returns-in-Load-clause-named g c = unnamed (λ r. r ≡ c.args.request) (g.S.Source.left c.args.source.now) c.tell_load.result c.tell_load.ensures.faultless

pub returns-in-Tool-clause-unfinished : goal.returns-in-Tool-clause-unfinished
returns-in-Tool-clause-unfinished g c n is = absurd (c.use_tool.ensures.no_rests n is)

pub returns-in-Tool-clause-few : goal.returns-in-Tool-clause-few
returns-in-Tool-clause-few g c n is = absurd (c.use_tool.ensures.no_rests n is)

pub returns-in-Tool-clause-named : goal.returns-in-Tool-clause-named
returns-in-Tool-clause-named g c = asked_too (λ r. r ≡ Tool c.in-Tool.tool) (λ r. r ≡ c.args.request) (λ r is. is ∙ sym c.in-Tool.is) (g.S.Source.left c.args.source.now) c.use_tool.result c.use_tool.ensures.named

pub returns-in-Json-clause-unfinished : goal.returns-in-Json-clause-unfinished
returns-in-Json-clause-unfinished g c n is = absurd (c.list_json.ensures.no_rests n is)

pub returns-in-Json-clause-few : goal.returns-in-Json-clause-few
returns-in-Json-clause-few g c n is = absurd (c.list_json.ensures.no_rests n is)

pub returns-in-Json-clause-named : goal.returns-in-Json-clause-named
returns-in-Json-clause-named g c = unnamed (λ r. r ≡ c.args.request) (g.S.Source.left c.args.source.now) c.list_json.result c.list_json.ensures.faultless

pub returns-in-Json-clause-blames : goal.returns-in-Json-clause-blames
returns-in-Json-clause-blames g c = faultless_of c.list_json.result c.list_json.ensures.faultless

pub returns-in-Status-clause-unfinished : goal.returns-in-Status-clause-unfinished
returns-in-Status-clause-unfinished g c n is = absurd (c.tell_figures.ensures.no_rests n is)

pub returns-in-Status-clause-few : goal.returns-in-Status-clause-few
returns-in-Status-clause-few g c n is = absurd (c.tell_figures.ensures.no_rests n is)

pub returns-in-Status-clause-named : goal.returns-in-Status-clause-named
returns-in-Status-clause-named g c = unnamed (λ r. r ≡ c.args.request) (g.S.Source.left c.args.source.now) c.tell_figures.result c.tell_figures.ensures.faultless

pub returns-in-Status-clause-blames : goal.returns-in-Status-clause-blames
returns-in-Status-clause-blames g c = faultless_of c.tell_figures.result c.tell_figures.ensures.faultless

pub returns-in-Show-clause-unfinished : goal.returns-in-Show-clause-unfinished
returns-in-Show-clause-unfinished g c n is = absurd (c.show_message.ensures.no_rests n is)

pub returns-in-Show-clause-few : goal.returns-in-Show-clause-few
returns-in-Show-clause-few g c n is = absurd (c.show_message.ensures.no_rests n is)

pub returns-in-Show-clause-named : goal.returns-in-Show-clause-named
returns-in-Show-clause-named g c =
    let text = g.S.Source.left c.args.source.now in
    asked_too (λ r. r ≡ Show c.in-Show.id) (λ r. r ≡ c.args.request) (λ r is. is ∙ sym c.in-Show.is) text c.show_message.result (c.show_message.ensures.named text)

pub returns-in-Params-clause-unfinished : goal.returns-in-Params-clause-unfinished
returns-in-Params-clause-unfinished g c n is = absurd (c.tell_parameters.ensures.no_rests n is)

pub returns-in-Params-clause-few : goal.returns-in-Params-clause-few
returns-in-Params-clause-few g c n is = absurd (c.tell_parameters.ensures.no_rests n is)

pub returns-in-Params-clause-named : goal.returns-in-Params-clause-named
returns-in-Params-clause-named g c =
    let text = g.S.Source.left c.args.source.now in
    asked_too (λ r. ⊥) (λ r. r ≡ c.args.request) (λ r none. absurd none) text c.tell_parameters.result (c.tell_parameters.ensures.named text)

pub returns-in-Route-clause-unfinished : goal.returns-in-Route-clause-unfinished
returns-in-Route-clause-unfinished g c n is = absurd (c.tell_ways.ensures.no_rests n is)

pub returns-in-Route-clause-few : goal.returns-in-Route-clause-few
returns-in-Route-clause-few g c n is = absurd (c.tell_ways.ensures.no_rests n is)

pub returns-in-Route-clause-named : goal.returns-in-Route-clause-named
returns-in-Route-clause-named g c =
    let text = g.S.Source.left c.args.source.now in
    asked_too (λ r. ⊥) (λ r. r ≡ c.args.request) (λ r none. absurd none) text c.tell_ways.result (c.tell_ways.ensures.named text)

pub returns-in-Check-clause-unfinished : goal.returns-in-Check-clause-unfinished
returns-in-Check-clause-unfinished g c n is = absurd (c.check_spool.ensures.no_rests n is)

pub returns-in-Check-clause-few : goal.returns-in-Check-clause-few
returns-in-Check-clause-few g c n is = absurd (c.check_spool.ensures.no_rests n is)

pub returns-in-Check-clause-named : goal.returns-in-Check-clause-named
returns-in-Check-clause-named g c =
    let text = g.S.Source.left c.args.source.now in
    asked_too (λ r. ⊥) (λ r. r ≡ c.args.request) (λ r none. absurd none) text c.check_spool.result (c.check_spool.ensures.named text)

pub returns-in-Audit-clause-unfinished : goal.returns-in-Audit-clause-unfinished
returns-in-Audit-clause-unfinished g c n is = absurd (c.audit_source.ensures.no_rests n is)

pub returns-in-Audit-clause-few : goal.returns-in-Audit-clause-few
returns-in-Audit-clause-few g c n is = absurd (c.audit_source.ensures.no_rests n is)

pub returns-in-Audit-clause-named : goal.returns-in-Audit-clause-named
returns-in-Audit-clause-named g c = asked_too (λ r. r ≡ Audit) (λ r. r ≡ c.args.request) (λ r is. is ∙ sym c.in-Audit.is) (g.S.Source.left c.args.source.now) c.audit_source.result c.audit_source.ensures.named
