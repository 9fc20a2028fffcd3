-- The end of a life, told.
use Rattle.std.proofs.Common.{◌≡◌, sym, subst}
use Rattle.q_model.specs.declared.entry.Entry.TheVariants as entries
use Rattle.q_model.specs.Book.{Book}
use Rattle.q_model.specs.Ledger.{Ledger}
use Rattle.q_model.specs.Settings.{Table, World}
use Rattle.q_model.specs.Step.{after}
use Rattle.q_host.specs.View.{View}
use Rattle.q_lives.proofs.Books.{after_is}
use Rattle.q_transport.specs.Routing.{table_of}
use Rattle.q_entries.specs.Entries.{DoesEntry}
use Rattle.q_engine.specs.Stands.{EngineStands}
use Rattle.q_engine.specs.declared.engine.Engine.{Engine}

pub ended : (w : World) (l : Ledger) (engine : Engine) (v x : View) → EngineStands w engine v l → DoesEntry (table_of engine.table) entries.End l.book l.book v x → DoesEntry w.table entries.End l.book (after w l entries.End).book v x
ended w l engine v x h does =
    let there : l.book ≡ (after w l entries.End).book = sym (after_is w l entries.End).book in
    subst (λ (t : Table). DoesEntry t entries.End l.book (after w l entries.End).book v x) (sym h.table) (subst (λ (b : Book). DoesEntry (table_of engine.table) entries.End l.book b v x) there does)
