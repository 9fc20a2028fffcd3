use Rattle.std.proofs.Common.{◌+◌, refl, subst, arith}
use Rattle.q_books.proofs.Results.{on_ok}
use Rattle.q_entries.proofs.Lines.{changed_does, changed_stops, may_stop}
use Rattle.q_entries.specs.Entries.{StopsEntry}
use Rattle.q_model.specs.Step.{after, change}
use Rattle.q_model.specs.declared.entry.Entry.TheVariants as entries
use Rattle.q_model.specs.declared.id.Id.{Id}
use Rattle.q_transport.specs.Routing.{table_of}
use Rattle.q_engine.specs.declared.engine.Engine.{Engine}
use Rattle.q_engine.specs.Heard.{WasDone}
use Rattle.q_engine.proofs.Counting.{counts_arrival}
use Rattle.q_engine.proofs.HeardEvents.{done, stopped}
use Rattle.q_engine.proofs.Mails.{adds_as, mail_adds, mail_allowed, mail_id, mail_next}
use Rattle.q_engine.proofs.StoredNotes.{plain_told}
use Rattle.q_engine.specs.Stands.{with_core}
use Rattle.q_engine.proofs.Boxed.{lent_agrees}
use Rattle.q_engine.proofs.engine.Engine.hear_mail.Goals as goal

pub returns-in_err-store-clause-err : goal.returns-in_err-store-clause-err
returns-in_err-store-clause-err g c error is t w l h =
    let engine = c.args.self.now in
    let v = g.H.Host.view c.args.host.now in
    let x = g.H.Host.view c.store.new.host in
    let i : Id = mail_id w l engine v h in
    let e = entries.Arrive i c.args.sender c.args.to c.args.content in
    let k = (change w l e).book in
    let adds = mail_adds w l engine v h c.args.sender c.args.to c.args.content c.now.result (c.now.ensures.ledger w l (lent_agrees w l _ _ c.deref.ensures h.core)) (omega arith) c.requires.possible.serial in
    subst (λ (j : Id). StopsEntry w.table (entries.Arrive j c.args.sender c.args.to c.args.content) l.book (after w l (entries.Arrive j c.args.sender c.args.to c.args.content)).book error v x) (mail_next w l engine v h)
    (stopped w l e engine v h k error x refl (may_stop (table_of engine.table) e l.book k error v x (c.in_err-store.ensures.err t l.book k h.host (adds_as v.files i (record { sender = c.args.sender; arrival = c.now.result }) c.head_of-head.result c.args.to c.args.content c.as_slice.result.now l.book k c.head_of-head.ensures c.as_slice.ensures adds))))

pub returns-clause-ok : goal.returns-clause-ok
returns-clause-ok g c = on_ok c.tell.result (λ told t w l h.
    let engine = c.args.self.now in
    let v = g.H.Host.view c.args.host.now in
    let m = g.H.Host.view c.store.new.host in
    let x = g.H.Host.view c.tell.new.host in
    let i : Id = mail_id w l engine v h in
    let e = entries.Arrive i c.args.sender c.args.to c.args.content in
    let k = (change w l e).book in
    let adds = mail_adds w l engine v h c.args.sender c.args.to c.args.content c.now.result (c.now.ensures.ledger w l (lent_agrees w l _ _ c.deref.ensures h.core)) (omega arith) c.requires.possible.serial in
    let takes = c.in_ok-store.ensures.ok t l.book k h.host (adds_as v.files i (record { sender = c.args.sender; arrival = c.now.result }) c.head_of-head.result c.args.to c.args.content c.as_slice.result.now l.book k c.head_of-head.ensures c.as_slice.ensures adds) in
    let core = c.event.ensures.exact w l (lent_agrees w l _ _ c.deref_mut.ensures.value h.core) e (c.args.sender, c.args.to, c.args.content, refl) (mail_allowed w l engine v h c.args.sender c.args.to c.args.content c.requires.timed) in
    let left : Engine = record (with_core c.event.new.self engine) { arrivals = engine.arrivals + 1 } in
    subst (λ (j : Id). WasDone w l (entries.Arrive j c.args.sender c.args.to c.args.content) left v x) (mail_next w l engine v h)
    (done w l e engine v h left k x refl refl (λ id. refl) core (counts_arrival w l e engine c.event.new.self (engine.arrivals + 1) refl refl refl refl h.counts) refl
    (changed_does (table_of engine.table) e l.book k v m x takes (told t k takes.stands)) (plain_told w l e v m x refl (c.in_ok-store.ensures.notes t) (c.tell.ensures.files t)))) c.tell.ensures.ok

pub returns-clause-err : goal.returns-clause-err
returns-clause-err g c error is t w l h =
    let engine = c.args.self.now in
    let v = g.H.Host.view c.args.host.now in
    let m = g.H.Host.view c.store.new.host in
    let x = g.H.Host.view c.tell.new.host in
    let i : Id = mail_id w l engine v h in
    let e = entries.Arrive i c.args.sender c.args.to c.args.content in
    let k = (change w l e).book in
    let adds = mail_adds w l engine v h c.args.sender c.args.to c.args.content c.now.result (c.now.ensures.ledger w l (lent_agrees w l _ _ c.deref.ensures h.core)) (omega arith) c.requires.possible.serial in
    let takes = c.in_ok-store.ensures.ok t l.book k h.host (adds_as v.files i (record { sender = c.args.sender; arrival = c.now.result }) c.head_of-head.result c.args.to c.args.content c.as_slice.result.now l.book k c.head_of-head.ensures c.as_slice.ensures adds) in
    subst (λ (j : Id). StopsEntry w.table (entries.Arrive j c.args.sender c.args.to c.args.content) l.book (after w l (entries.Arrive j c.args.sender c.args.to c.args.content)).book error v x) (mail_next w l engine v h)
    (stopped w l e engine v h k error x refl (changed_stops (table_of engine.table) e l.book k v m x takes error (c.tell.ensures.err error is t k takes.stands)))
