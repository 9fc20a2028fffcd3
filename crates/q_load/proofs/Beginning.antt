-- A new host in memory stands for an empty spool, and looking at a host changes nothing.
use Rattle.std.proofs.Common.{◌≡◌, List, None, ℕ, ap, refl, subst, sym}
use Rattle.q_books.proofs.Joining.{reads_keep}
use Rattle.q_books.specs.HostStands.{HostStands, OwnLogs, TellsCrashes}
use Rattle.q_engine.specs.Stands.{EngineStands}
use Rattle.q_engine.specs.declared.engine.Engine.{Engine}
use Rattle.q_host.specs.Calls.{Stays}
use Rattle.q_host.specs.View.{now, Remains, View}
use Rattle.q_mem_host.specs.Event.{Event}
use Rattle.q_mem_host.specs.Laws.{mem_only_now}
use Rattle.q_mem_host.specs.Left.{nothing, view_of}
use Rattle.q_model.proofs.StandLaws.{Stands-empty}
use Rattle.q_model.specs.Book.{empty_book}
use Rattle.q_model.specs.Crashes.{IsCrashOf}
use Rattle.q_model.specs.FilesStand.{Stands}
use Rattle.q_model.specs.Ledger.{Ledger}
use Rattle.q_model.specs.Settings.{World}
use Rattle.q_model.specs.SpoolFiles.{file_at, Files}
use Rattle.q_model.specs.declared.spot.Area.{Area}
use Rattle.q_model.specs.declared.spot.Area.TheVariants as areas

no_files : (f : Files) → f ≡ (λ (a : Area) (n : List ℕ). None) → Stands f empty_book
no_files f is = Stands-empty f (λ n h. ap (λ (g : Files). g areas.Boot n) is) (λ place id h k. ap (λ (g : Files). file_at g place id) is)

same_crash : IsCrashOf empty_book empty_book
same_crash = record { generation = refl; damaged = refl; messages = tt }

pub new_stands : (u : View) → now u ≡ nothing → ((c : Remains) → u.may_leave c → c ≡ nothing) → HostStands u empty_book
new_stands u is only = record {
  reads = no_files u.files (ap (λ (r : Remains). r.files) is);
  crash = λ c left. record {
    left = empty_book;
    after = same_crash;
    stands = no_files c.files (ap (λ (r : Remains). r.files) (only c left));
  };
}

-- a crash leaves of a host in memory what it tells
pub tells_crashes : (h : List Event) → TellsCrashes (view_of h)
tells_crashes h = record { only = λ c left. mem_only_now h c left; told = λ c left. left.told }

-- what was only looked at
pub still_stands : (w : World) (engine : Engine) (l : Ledger) (u v : View) → TellsCrashes u → Stays u v → EngineStands w engine u l → EngineStands w engine v l
still_stands w engine l u v lawful stays h = record {
  table = h.table;
  core = h.core;
  counts = h.counts;
  host = (reads_keep l.book l.book u v lawful stays h.host).stands;
  logs = subst (λ (f : Files). OwnLogs f l.book) (sym stays.files) h.logs;
  places = h.places;
}
