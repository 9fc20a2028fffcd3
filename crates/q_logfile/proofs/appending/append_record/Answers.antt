use Rattle.std.specs.Prelude.{Err, Ok, OnErr, OnOk, Result}
use Rattle.q_model.specs.FailureLog.{IsFailure}
use Rattle.q_store.proofs.Storing.{always_err}
use Rattle.q_logfile.proofs.AppendCalls.{adds_record, appends_log, gate_there, gives_up_last, gives_up_opening, gives_up_syncing, gives_up_writing}
use Rattle.q_logfile.proofs.appending.append_record.Goals as goal

pub returns-in_err-write_at-clause-err : goal.returns-in_err-write_at-clause-err
returns-in_err-write_at-clause-err g c = always_err c.from_residual.result (λ t.
    let view = g.H.Host.view in
    let f = c.args.failure in
    let fits : IsFailure f = record { position = c.behind_gate-record.ensures.fits; code = c.requires.code } in
    gives_up_writing c.args.area c.args.name f c.args.count _ _ fits c.gate_behind-gate.ensures c.behind_gate-record.ensures.bytes (view c.args.host.now) (view c.write_at.new.self) (c.requires.records t)
    (c.in_err-write_at.ensures.err t))

pub returns-in_err-sync-clause-err : goal.returns-in_err-sync-clause-err
returns-in_err-sync-clause-err g c = always_err c.from_residual-in_err-sync.result (λ t.
    let view = g.H.Host.view in
    let f = c.args.failure in
    let fits : IsFailure f = record { position = c.behind_gate-record.ensures.fits; code = c.requires.code } in
    gives_up_syncing c.args.area c.args.name f c.args.count _ _ fits c.gate_behind-gate.ensures c.behind_gate-record.ensures.bytes (view c.args.host.now) (view c.write_at.new.self) (c.requires.records t)
    (c.in_ok-write_at.ensures.ok t) (view c.sync.new.self) (c.in_err-sync.ensures.err t))

pub write_at-requires-2 : goal.write_at-requires-2
write_at-requires-2 g c t =
    let view = g.H.Host.view in
    let f = c.args.failure in
    let fits : IsFailure f = record { position = c.behind_gate-record.ensures.fits; code = c.requires.code } in
    gate_there c.args.area c.args.name f c.args.count _ _ fits c.gate_behind-gate.ensures c.behind_gate-record.ensures.bytes (view c.args.host.now) (view c.write_at.new.self) (c.requires.records t)
    (c.in_ok-write_at.ensures.ok t) (view c.sync.new.self) (c.in_ok-sync.ensures.ok t)

pub returns-in_err-write_at-2-clause-err : goal.returns-in_err-write_at-2-clause-err
returns-in_err-write_at-2-clause-err g c = always_err c.from_residual-in_err-write_at-2.result (λ t.
    let view = g.H.Host.view in
    let f = c.args.failure in
    let fits : IsFailure f = record { position = c.behind_gate-record.ensures.fits; code = c.requires.code } in
    gives_up_opening c.args.area c.args.name f c.args.count _ _ fits c.gate_behind-gate.ensures c.behind_gate-record.ensures.bytes (view c.args.host.now) (view c.write_at.new.self) (c.requires.records t)
    (c.in_ok-write_at.ensures.ok t) (view c.sync.new.self) (c.in_ok-sync.ensures.ok t) (view c.write_at-2.new.self) (c.in_err-write_at-2.ensures.err t))

on_ok : {T E : Type 0} {P Q : Type 0} (r : Result T E) → (P → Q) → OnOk r P → OnOk r Q
on_ok (Ok v) f p = f p
on_ok (Err e) f p = p

on_err : {T E : Type 0} {P Q : Type 0} (r : Result T E) → (P → Q) → OnErr r P → OnErr r Q
on_err (Ok v) f p = p
on_err (Err e) f p = f p

pub returns-clause-ok : goal.returns-clause-ok
returns-clause-ok g c = on_ok c.sync-2.result (λ d t.
    let view = g.H.Host.view in
    let f = c.args.failure in
    let fits : IsFailure f = record { position = c.behind_gate-record.ensures.fits; code = c.requires.code } in
    appends_log c.args.area c.args.name f c.args.count _ _ fits c.gate_behind-gate.ensures c.behind_gate-record.ensures.bytes (view c.args.host.now) (view c.write_at.new.self) (c.requires.records t)
    (c.in_ok-write_at.ensures.ok t) (view c.sync.new.self) (c.in_ok-sync.ensures.ok t) (view c.write_at-2.new.self) (c.in_ok-write_at-2.ensures.ok t) (view c.sync-2.new.self) (d t)) c.sync-2.ensures.ok

pub returns-clause-err : goal.returns-clause-err
returns-clause-err g c = on_err c.sync-2.result (λ d t.
    let view = g.H.Host.view in
    let f = c.args.failure in
    let fits : IsFailure f = record { position = c.behind_gate-record.ensures.fits; code = c.requires.code } in
    gives_up_last c.args.area c.args.name f c.args.count _ _ fits c.gate_behind-gate.ensures c.behind_gate-record.ensures.bytes (view c.args.host.now) (view c.write_at.new.self) (c.requires.records t)
    (c.in_ok-write_at.ensures.ok t) (view c.sync.new.self) (c.in_ok-sync.ensures.ok t) (view c.write_at-2.new.self) (c.in_ok-write_at-2.ensures.ok t) (view c.sync-2.new.self) (d t)) c.sync-2.ensures.err

pub returns-clause-again : goal.returns-clause-again
returns-clause-again g c = on_ok c.sync-2.result (λ d t.
    let view = g.H.Host.view in
    let f = c.args.failure in
    let fits : IsFailure f = record { position = c.behind_gate-record.ensures.fits; code = c.requires.code } in
    adds_record c.args.area c.args.name f c.args.count fits (view c.args.host.now) (view c.sync-2.new.self) (c.requires.records t) (d t)) (returns-clause-ok g c)
