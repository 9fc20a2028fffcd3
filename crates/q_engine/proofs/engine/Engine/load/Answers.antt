use Rattle.std.proofs.Common.{◌≡◌, ◌≤◌, ◌∙◌, length, Option, subst, sym}
use Rattle.std.specs.Option.{IfSome}
use Rattle.std.specs.Prelude.{IfNone, None}
use Rattle.q_books.proofs.Joining.{reads_keep}
use Rattle.q_books.proofs.Results.{on_ok}
use Rattle.q_books.specs.HostStands.{TellsCrashes}
use Rattle.q_entries.specs.Entries.{DoesEntry, StopsEntry}
use Rattle.q_message.specs.Told.{bytes_at, TellsOf}
use Rattle.q_model.specs.Batches.{load_end}
use Rattle.q_model.specs.FilesStand.{file_message}
use Rattle.q_model.specs.QueueFile.{queue_file}
use Rattle.q_model.specs.declared.entry.Entry.TheVariants as entries
use Rattle.q_transport.specs.Routing.{table_of}
use Rattle.q_engine.specs.KeptPlaces.{ArePlaced, HasProgress, IsReadTo}
use Rattle.q_core.specs.declared.state.Question.{Question}
use Rattle.q_engine.specs.Loads.{AsksFor}
use Rattle.q_engine.specs.Pending.{AreRead}
use Rattle.q_engine.specs.Steps.{WasCarriedOut}
use Rattle.q_engine.specs.declared.engine.Engine.{Engine}
use Rattle.q_engine.specs.declared.seeking.Reading.{Reading}
use Rattle.q_engine.proofs.CarriedLoads.{load_given_up, load_untold, loaded_told, next_load}
use Rattle.q_engine.proofs.LoadedEntries.{ends, file_reads, file_whole, load_speaks, marks_are, read_of, reads_are, told_at, told_of}
use Rattle.q_engine.proofs.KeptPlaces.{each_copied, of_message, placed_more, progress_of, read_to}
use Rattle.q_engine.proofs.Speaking.{file_there, in_active}
use Rattle.q_engine.proofs.StoredNotes.{files_keep, keeps_then}
use Rattle.q_engine.specs.Stands.{with_core}
use Rattle.q_engine.proofs.engine.Engine.load.Goals as goal

pub read_pending-requires : goal.read_pending-requires
read_pending-requires g c = record {
  some = c.requires.some;
  there = λ t.
      let (w, l, n) = c.requires.decided t in
      let a = load_speaks w l c.args.id c.args.from (load_end n.message c.args.from c.args.max) n.stands.core.consistent n.following in
      file_there (g.H.Host.view c.args.host.now) l.book c.args.id a.0 c.file_spot-spot.result n.stands.host (in_active l c.args.id a.0 a.1.message c.file_spot-spot.result c.file_spot-spot.ensures);
  known = each_copied c.progress-known.result (λ p. TellsOf g.H.Host.tells (g.H.Host.view c.args.host.now) c.file_spot-spot.result (HasProgress p)) (λ p kept t.
      let (w, l, n) = c.requires.decided t in
      let v = g.H.Host.view c.args.host.now in
      let spot = c.file_spot-spot.result in
      let a = load_speaks w l c.args.id c.args.from (load_end n.message c.args.from c.args.max) n.stands.core.consistent n.following in
      let file = file_reads v l.book c.args.id a.0 spot n.stands.host (in_active l c.args.id a.0 a.1.message spot c.file_spot-spot.ensures) in
      let upto = of_message l.book c.args.id a.0 (IsReadTo p) a.1.message.there (n.stands.places.progress c.args.id p (sym c.progress-known.ensures ∙ kept)) in
      told_at (bytes_at v spot) file.0 (HasProgress p) file.1 (progress_of p a.0 file.0 file.2 upto));
}

pub returns-in_err-reading-clause-err : goal.returns-in_err-reading-clause-err
returns-in_err-reading-clause-err g c error is t w l n =
    let v = g.H.Host.view c.args.host.now in
    let x = g.H.Host.view c.read_pending.new.host in
    let lawful : TellsCrashes v = record { only = g.met.H.Host.only_now c.args.host.now; told = g.met.H.Host.told_stays c.args.host.now } in
    load_given_up w l c.args.id c.args.from c.args.max c.args.self.now v n error x (reads_keep l.book l.book v x lawful (c.in_err-reading.ensures.stays t) n.stands.host)

pub returns-in_default-clause-ok : goal.returns-in_default-clause-ok
returns-in_default-clause-ok g c t w l n =
    let v = g.H.Host.view c.args.host.now in
    let spot = c.file_spot-spot.result in
    let a = load_speaks w l c.args.id c.args.from (load_end n.message c.args.from c.args.max) n.stands.core.consistent n.following in
    let file = file_reads v l.book c.args.id a.0 spot n.stands.host (in_active l c.args.id a.0 a.1.message spot c.file_spot-spot.ensures) in
    let none = subst (λ (o : Option Reading). IfNone o (TellsOf g.H.Host.tells v spot (λ bytes. queue_file bytes ≡ None))) c.in_default.is c.in_ok-reading.ensures.none in
    absurd {A = WasCarriedOut w l (with_core c.found.new.self c.args.self.now) v (g.H.Host.view c.read_pending.new.host)} (file_whole (bytes_at v spot) file.0 (file_message a.0) file.1 file.2 (none t))

pub returns-clause-ok : goal.returns-clause-ok
returns-clause-ok g c = on_ok c.tell.result (λ told t w l n.
    let id = c.args.id in
    let from = c.args.from in
    let max = c.args.max in
    let engine = c.args.self.now in
    let spot = c.file_spot-spot.result in
    let v = g.H.Host.view c.args.host.now in
    let m = g.H.Host.view c.read_pending.new.host in
    let x = g.H.Host.view c.tell.new.host in
    let items = c.in-Some.reading.taken.items in
    let to = c.in-Some.reading.progress.next.position in
    let lawful : TellsCrashes v = record { only = g.met.H.Host.only_now c.args.host.now; told = g.met.H.Host.told_stays c.args.host.now } in
    let a = load_speaks w l id from (load_end n.message from max) n.stands.core.consistent n.following in
    let file = file_reads v l.book id a.0 spot n.stands.host (in_active l id a.0 a.1.message spot c.file_spot-spot.ensures) in
    let taken = subst (λ (o : Option Reading). IfSome o (λ r. TellsOf g.H.Host.tells v spot (AreRead from max r.taken.items r.progress.next.position))) c.in-Some.is c.in_ok-reading.ensures.taken in
    let read = read_of (bytes_at v spot) file.0 (file_message a.0) from max to items file.1 file.2 (taken t) in
    let following = next_load w l id from max engine v n a.0 to a.1.message.there (ends w l id a.0 engine from max to items a.1 read) in
    let reads = reads_are w l id a.0 engine from max to items a.1 read n.stands.table in
    let agrees = c.take_in.ensures.exact w l n.stands.core id from max c.requires.question following reads in
    let same = c.take_in.ensures.rest in
    let progress = subst (λ (o : Option Reading). IfSome o (λ r. TellsOf g.H.Host.tells v spot (HasProgress r.progress))) c.in-Some.is c.in_ok-reading.ensures.progress in
    let upto = read_to c.in-Some.reading.progress a.0 file.0 file.2 (told_of (bytes_at v spot) file.0 (HasProgress c.in-Some.reading.progress) file.1 (progress t)) in
    let before = subst (λ (e : Engine). ArePlaced e.places l.book) (sym same) n.stands.places in
    let placed = placed_more c.take_in.new.self.places c.keep.new.self l.book id a.0 c.in-Some.reading.progress items a.1.message.there upto (marks_are w l id a.0 engine from max to items a.1 read) c.keep.ensures before in
    let takes = reads_keep l.book l.book v m lawful (c.in_ok-reading.ensures.stays t) n.stands.host in
    let does = subst (λ (e : Engine). DoesEntry (table_of e.table) (entries.Load id from to) l.book l.book m x) same (told t l.book takes.stands) in
    subst (λ (e : Engine). WasCarriedOut w l (record e { places = c.keep.new.self }) v x) (sym same) (loaded_told w l id from max engine v n to c.take_in.new.self.core.value c.keep.new.self m x placed following agrees takes does
    (keeps_then v m x (files_keep v m (c.in_ok-reading.ensures.stays t).files) (files_keep m x (c.tell.ensures.files t))))) c.tell.ensures.ok

pub returns-clause-err : goal.returns-clause-err
returns-clause-err g c error is t w l n =
    let id = c.args.id in
    let from = c.args.from in
    let max = c.args.max in
    let engine = c.args.self.now in
    let spot = c.file_spot-spot.result in
    let v = g.H.Host.view c.args.host.now in
    let m = g.H.Host.view c.read_pending.new.host in
    let x = g.H.Host.view c.tell.new.host in
    let items = c.in-Some.reading.taken.items in
    let to = c.in-Some.reading.progress.next.position in
    let lawful : TellsCrashes v = record { only = g.met.H.Host.only_now c.args.host.now; told = g.met.H.Host.told_stays c.args.host.now } in
    let a = load_speaks w l id from (load_end n.message from max) n.stands.core.consistent n.following in
    let file = file_reads v l.book id a.0 spot n.stands.host (in_active l id a.0 a.1.message spot c.file_spot-spot.ensures) in
    let taken = subst (λ (o : Option Reading). IfSome o (λ r. TellsOf g.H.Host.tells v spot (AreRead from max r.taken.items r.progress.next.position))) c.in-Some.is c.in_ok-reading.ensures.taken in
    let read = read_of (bytes_at v spot) file.0 (file_message a.0) from max to items file.1 file.2 (taken t) in
    let following = next_load w l id from max engine v n a.0 to a.1.message.there (ends w l id a.0 engine from max to items a.1 read) in
    let takes = reads_keep l.book l.book v m lawful (c.in_ok-reading.ensures.stays t) n.stands.host in
    let stops = subst (λ (e : Engine). StopsEntry (table_of e.table) (entries.Load id from to) l.book l.book error m x) c.take_in.ensures.rest (c.tell.ensures.err error is t l.book takes.stands) in
    load_untold w l id from max engine v n to error m x following takes stops

pub take_in-requires-clause-asked : goal.take_in-requires-clause-asked
take_in-requires-clause-asked g c =
    let items = c.in-Some.reading.taken.items in
    let few = subst (λ (o : Option Reading). IfSome o (λ r. length r.taken.items ≤ c.args.max)) c.in-Some.is c.in_ok-reading.ensures.few in
    subst (λ (q : Question). AsksFor q (length items)) (sym c.requires.question) few
