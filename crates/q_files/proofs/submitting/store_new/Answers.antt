use Rattle.std.proofs.Common.{inr, List, ℕ, subst, sym}
use Rattle.q_model.specs.declared.spot.Area.TheVariants as areas
use Rattle.q_model.specs.QueueFileBytes.{IsFileOf}
use Rattle.q_message.specs.NewFile.{new_message}
use Rattle.q_store.specs.Stores.{Holds, MayHold}
use Rattle.q_books.specs.HostStands.{TellsCrashes}
use Rattle.q_books.proofs.Results.{on_ok}
use Rattle.q_files.proofs.MessageStores.{adds, may_add, stores_no_notes}
use Rattle.q_files.proofs.Outcomes.{either}
use Rattle.q_files.proofs.submitting.store_new.Goals as goal

pub returns-clause-ok : goal.returns-clause-ok
returns-clause-ok g c = on_ok c.store_file.result (λ d t b k h ch.
    let v = g.H.Host.view c.args.host.now in
    let w = g.H.Host.view c.store_file.new.host in
    let bytes = c.as_slice.result.now in
    let name = c.id_name-name.result in
    let lawful : TellsCrashes v = (record { only = g.met.H.Host.only_now c.args.host.now; told = g.met.H.Host.told_stays c.args.host.now }) in
    let file = subst (λ (xs : List ℕ). IsFileOf xs (new_message c.args.head.now c.args.to.now c.args.content.now)) (sym c.as_slice.ensures) c.in_ok-file.ensures.reads in
    adds name c.args.id c.args.head.now c.args.to.now c.args.content.now bytes file b k v w lawful (g.met.H.Host.names_stay c.args.host.now) ch h
    (subst (λ (n : List ℕ). Holds name areas.Incoming n bytes v w) c.id_name-name.ensures (d t))) c.store_file.ensures.ok

pub returns-clause-tries : goal.returns-clause-tries
returns-clause-tries g c t b k h ch =
    let v = g.H.Host.view c.args.host.now in
    let w = g.H.Host.view c.store_file.new.host in
    let bytes = c.as_slice.result.now in
    let name = c.id_name-name.result in
    let lawful : TellsCrashes v = (record { only = g.met.H.Host.only_now c.args.host.now; told = g.met.H.Host.told_stays c.args.host.now }) in
    let file = subst (λ (xs : List ℕ). IsFileOf xs (new_message c.args.head.now c.args.to.now c.args.content.now)) (sym c.as_slice.ensures) c.in_ok-file.ensures.reads in
    let make = λ (d : MayHold name areas.Incoming name bytes v w). may_add name c.args.id c.args.head.now c.args.to.now c.args.content.now bytes file b k v w lawful (g.met.H.Host.names_stay c.args.host.now) ch h
    (subst (λ (n : List ℕ). MayHold name areas.Incoming n bytes v w) c.id_name-name.ensures d) in
    either c.store_file.result (λ d. make (inr (d t))) (λ d. make (d t)) c.store_file.ensures.ok c.store_file.ensures.err

pub returns-clause-notes : goal.returns-clause-notes
returns-clause-notes g c t =
    let v = g.H.Host.view c.args.host.now in
    let w = g.H.Host.view c.store_file.new.host in
    let bytes = c.as_slice.result.now in
    let name = c.id_name-name.result in
    let keep = stores_no_notes name areas.Incoming name bytes v w (λ e. cc) in
    either c.store_file.result (λ d. keep (inr (d t))) (λ d. keep (d t)) c.store_file.ensures.ok c.store_file.ensures.err
