use Rattle.std.proofs.Common.{◌∙◌, ap, position, sym}
use Rattle.q_ledger.proofs.AccountLaws.{added_None, changed_Some}
use Rattle.q_ledger.specs.Counted.{is_of, with_start}
use Rattle.q_ledger.proofs.accounts.note_start.Goals as goal

pub returns-in-Some : goal.returns-in-Some
returns-in-Some c = λ room.
    let mine = is_of c.args.id c.args.transport in
    changed_Some mine with_start (record { id = c.args.id; transport = c.args.transport; starts = 1; charged = 0 }) c.args.jobs.now.items c.add_start.new.jobs.items c.in-Some.place
    (ap (position mine) (sym c.deref.ensures.value) ∙ sym c.in-Some.ensures) c.add_start.ensures

pub returns-in-None : goal.returns-in-None
returns-in-None c = λ room.
    let mine = is_of c.args.id c.args.transport in
    let ok = c.push.ensures.succeeds room in
    let put = rw ok at c.push.ensures.items in
    put ∙ added_None mine with_start (record { id = c.args.id; transport = c.args.transport; starts = 1; charged = 0 }) c.args.jobs.now.items (ap (position mine) (sym c.deref.ensures.value) ∙ sym c.in-None.ensures)
