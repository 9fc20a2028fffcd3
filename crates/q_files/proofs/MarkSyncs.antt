-- The marks of a message are synced: what the files stand for, and what a crash leaves of it.
use Rattle.std.proofs.Common.{◌≡◌, Some, refl, sym, ap, subst, inl}
use Rattle.q_model.specs.declared.id.Id.{Id}
use Rattle.q_model.specs.declared.spot.Area.TheVariants as areas
use Rattle.q_model.specs.Book.{Book, message_of}
use Rattle.q_model.specs.BookChanges.{change_message}
use Rattle.q_model.specs.FilesStand.{Stands}
use Rattle.q_model.specs.Message.{Message}
use Rattle.q_model.specs.SpoolFiles.{area_of, file_at, Files, name_at}
use Rattle.q_model.specs.Syncs.{sync_all}
use Rattle.q_model.proofs.MarkChanges.{crash-sync, Stands-sync}
use Rattle.q_host.specs.Calls.{Syncs}
use Rattle.q_host.specs.View.{Remains, View}
use Rattle.q_books.specs.HostStands.{HostStands, IsLeftOf, Takes, TellsCrashes}
use Rattle.q_books.proofs.Calls.{meanwhile}
use Rattle.q_books.proofs.Ids.{own_logs-changed}

module _ (b : Book) (id : Id) (m : Message) (found : message_of b id ≡ Some m) where
  abbrev synced : Book
  synced = change_message b id sync_all

  -- what is left, where the file is as reads give it
  settled : (f : Files) (c : Remains) → Stands f b → IsLeftOf b c → file_at c.files m.place id ≡ file_at f m.place id → IsLeftOf synced c
  settled f c reads left whole = record { left = left.left; after = crash-sync f c.files b left.left id m found reads left.after left.stands whole; stands = left.stands }

  pub synced_marks : (v w : View) → TellsCrashes v → Syncs (area_of m.place) (name_at m.place id) v w → HostStands v b → Takes b synced v w
  synced_marks v w lawful s h = record {
    told = s.told;
    stands = record {
      reads = subst (λ (f : Files). Stands f synced) (sym s.files) (Stands-sync v.files b id h.reads);
      crash = λ c may. let d = s.goes.crash c may in settled v.files c h.reads (subst (IsLeftOf b) (sym d.2.same) (h.crash d.0 d.1)) d.2.whole;
    };
    logs = λ own. own_logs-changed v.files w.files b id sync_all (λ x. refl) (λ n. ap (λ (f : Files). f areas.Bounce n) s.files) own;
    moments = meanwhile b synced v w lawful s.goes (λ d c may left same. (ap (λ (r : Remains). r.told) same, inl (subst (IsLeftOf b) (sym same) left))) h;
  }
