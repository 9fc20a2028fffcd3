-- An entry that is one of a kind changes what entries of this kind change.
use Rattle.std.proofs.Common.{◌≡◌, subst, sym}
use Rattle.q_ledger.specs.Following.{ChangesIn}
use Rattle.q_ledger.specs.State.{State}
use Rattle.q_model.specs.declared.entry.Entry.{Entry}
use Rattle.q_model.specs.Settings.{World}

pub of_kind : (w : World) (old : State) (e f : Entry) (new : State) → e ≡ f → ChangesIn w old f new → ChangesIn w old e new
of_kind w old e f new same h = subst (λ (x : Entry). ChangesIn w old x new) (sym same) h
