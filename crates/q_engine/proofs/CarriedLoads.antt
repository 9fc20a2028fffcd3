-- The load that the core asked for, carried out and told.
use Rattle.std.proofs.Common.{◌≡◌, ◌∙◌, ◌+◌, ◌<◌, ℕ, List, [], ◌∷◌, ◌++◌, length, map, take, slice_get, Some, true, refl, sym, ap, arith, subst, inl, append_assoc}
use Rattle.std.proofs.lemmas.Bool.{lt-ltb}
use Rattle.std.proofs.lemmas.List.{length-map, length-take-le, map-append}
use Rattle.q_model.specs.declared.entry.Entry.TheVariants as entries
use Rattle.q_model.specs.declared.id.Id.{Id}
use Rattle.q_model.specs.Batches.{load_end}
use Rattle.q_model.specs.Book.{Book, message_of}
use Rattle.q_model.specs.Ledger.{Ledger}
use Rattle.q_model.specs.Message.{Message}
use Rattle.q_model.specs.Next.{next}
use Rattle.q_model.specs.Settings.{Table, World}
use Rattle.q_model.specs.Step.{after}
use Rattle.q_model.specs.Values.{Site, Taken}
use Rattle.q_host.specs.declared.error.HostError.{HostError}
use Rattle.q_host.specs.View.{View}
use Rattle.q_lives.proofs.Books.{after_is}
use Rattle.q_lives.proofs.Caused.{load_alike}
use Rattle.q_transport.specs.Routing.{table_of}
use Rattle.q_books.specs.HostStands.{KeepsNotes, Takes}
use Rattle.q_entries.specs.Entries.{DoesEntry, StopsEntry}
use Rattle.q_entries.proofs.Lines.{changed_does, changed_stops, may_stop}
use Rattle.q_core.specs.Agrees.{Agrees}
use Rattle.q_core.specs.Loading.{may_name, may_name_for}
use Rattle.q_core.specs.declared.state.Core.{Core}
use Rattle.q_core.specs.declared.state.Question.{Question}
use Rattle.q_core.specs.declared.state.Question.TheVariants.{Active, Deferred, Incoming, Nothing, Recipients}
use Rattle.q_places.specs.declared.places.Places.{Places}
use Rattle.q_engine.specs.KeptPlaces.{ArePlaced}
use Rattle.q_engine.specs.Loads.{AsksFor, sites_of}
use Rattle.q_engine.specs.Stands.{HasAsked, with_core}
use Rattle.q_engine.specs.Steps.{WasCarriedOut, WasGivenUp}
use Rattle.q_engine.specs.declared.engine.Engine.{Engine}
use Rattle.q_engine.proofs.Counting.{counts_stay}
use Rattle.q_engine.proofs.OpenRecipients.{next_taken}
use Rattle.q_engine.proofs.StoredNotes.{plain_notes}

-- which sites are named is no part of a ledger
pub named_agrees : (w : World) (c : Core) (l : Ledger) (xs : List Site) → Agrees w c l → Agrees w (record c { named = xs }) l
named_agrees w c l xs a = let m = a.matches in let h = m.parts in record {
  matches = record {
    parts = record {
      settings = h.settings;
      count = h.count;
      transports = h.transports;
      mode = h.mode;
      clock = h.clock;
      timed = h.timed;
      next_run = h.next_run;
      ignores = h.ignores;
      deferred_follows = h.deferred_follows;
      admitted = h.admitted;
      waiting = h.waiting;
      flights = h.flights;
      memory = h.memory;
      served = h.served;
      unsettled = h.unsettled;
      lines = h.lines;
      sites = h.sites;
      synced = h.synced;
      starts = h.starts;
      active = h.active;
      incoming = h.incoming;
    };
    scan = record { goes_on = m.scan.goes_on; seen = m.scan.seen };
  };
  consistent = a.consistent;
  sites = a.sites;
  living = a.living;
  moment = a.moment;
}

-- so many sites of the recipients that were read are named
abbrev pub named_so_far : Engine → List Taken → ℕ → Engine
named_so_far old taken i = with_core (record old.core.value { named = old.core.value.named ++ sites_of old (take i taken) }) old

pub named_next : (old so_far : Engine) (core : Core) (taken : List Taken) (i : ℕ) (t : Taken) (site : Site) → so_far ≡ named_so_far old taken i → slice_get taken i ≡ Some t → site ≡ (table_of so_far.table).route t.address
    → core ≡ record so_far.core.value { named = so_far.core.value.named ++ site ∷ [] } → with_core core so_far ≡ named_so_far old taken (i + 1)
named_next old so_far core taken i t site is here routed named =
    let route = (table_of old.table).route in
    let by_old : site ≡ route t.address = routed ∙ ap (λ (e : Engine). (table_of e.table).route t.address) is in
    let before = sites_of old (take i taken) in
    let sites : (old.core.value.named ++ before) ++ site ∷ [] ≡ old.core.value.named ++ sites_of old (take (i + 1) taken) =
    append_assoc old.core.value.named before (site ∷ [])
    ∙ ap (λ (s : Site). old.core.value.named ++ (before ++ s ∷ [])) by_old
    ∙ ap (λ (ss : List Site). old.core.value.named ++ ss) (sym (ap (map (λ (x : Taken). route x.address)) (next_taken taken i t here) ∙ map-append (λ (x : Taken). route x.address) (take i taken) (t ∷ []))) in
    ap (λ (c : Core). with_core c so_far) named
    ∙ ap (λ (e : Engine). with_core (record e.core.value { named = e.core.value.named ++ site ∷ [] }) e) is
    ∙ ap (λ (ss : List Site). with_core (record old.core.value { named = ss }) old) sites

may_name_more : (q : Question) (n i : ℕ) → AsksFor q n → i < n → may_name_for q i ≡ true
may_name_more Nothing n i asks h = absurd asks
may_name_more Active n i asks h = absurd asks
may_name_more Incoming n i asks h = absurd asks
may_name_more Deferred n i asks h = absurd asks
may_name_more (Recipients id from max) n i asks h = lt-ltb i max (omega (arith, asks, h))

-- while fewer were named than were read, one more may be
pub many_named : (old : Engine) (core : Core) (taken : List Taken) (i : ℕ) → i < length taken → AsksFor old.core.value.question (length taken) → old.core.value.named ≡ []
    → core ≡ record old.core.value { named = old.core.value.named ++ sites_of old (take i taken) } → may_name core ≡ true
many_named old core taken i below asks none is =
    let sites = sites_of old (take i taken) in
    let named : length core.named ≡ i =
    ap (λ (c : Core). length c.named) is ∙ ap (λ (ss : List Site). length (ss ++ sites)) none ∙ length-map (take i taken) (λ (t : Taken). (table_of old.table).route t.address) ∙ length-take-le i taken (omega (arith, below)) in
    ap (λ (c : Core). may_name_for c.question (length core.named)) is ∙ ap (may_name_for old.core.value.question) named ∙ may_name_more old.core.value.question (length taken) i asks below

same_message : (b : Book) (id : Id) (m k : Message) → message_of b id ≡ Some m → message_of b id ≡ Some k → m ≡ k
same_message b id m k e f = by (sym e ∙ f)
  where
    by : Some m ≡ Some k → m ≡ k
    by h = cc

module _ (w : World) (l : Ledger) (id : Id) (from max : ℕ) (engine : Engine) (v : View) (h : HasAsked w l id from max engine v) where
  -- the ledger's next entry, by the message of the book
  pub next_load : (m : Message) (to : ℕ) → message_of l.book id ≡ Some m → to ≡ load_end m from max → next w l ≡ Some (entries.Load id from to)
  next_load m to there is =
      h.following ∙ ap (λ (n : ℕ). Some (entries.Load id from n)) (ap (λ (k : Message). load_end k from max) (same_message l.book id h.message m h.there there) ∙ sym is)

  abbrev lines : Table
  lines = table_of engine.table

  -- a load changes no book
  same_book : (to : ℕ) → l.book ≡ (after w l (entries.Load id from to)).book
  same_book to = sym (load_alike w l id from to (message_of l.book id)).book ∙ sym (after_is w l (entries.Load id from to)).book

  -- it was read, taken in and told
  pub loaded_told : (to : ℕ) (core : Core) (places : Places) (m x : View) → ArePlaced places l.book → next w l ≡ Some (entries.Load id from to) → Agrees w core (after w l (entries.Load id from to)) → Takes l.book l.book v m → DoesEntry lines (entries.Load id from to) l.book l.book m x
      → KeepsNotes v x → WasCarriedOut w l (record (with_core core engine) { places = places }) v x
  loaded_told to core places m x placed following agrees takes does keeps =
      let e = entries.Load id from to in
      let all = changed_does lines e l.book l.book v m x takes does in
      let done = subst (λ (t : Table). DoesEntry t e l.book (after w l e).book v x) (sym h.stands.table) (subst (λ (b : Book). DoesEntry lines e l.book b v x) (same_book to) all) in
      record {
        entry_told = e;
        following = following;
        does = done;
        stands = record {
          table = h.stands.table;
          core = agrees;
          counts = counts_stay w l e (record (with_core core engine) { places = places }) refl refl refl (record { begun = h.stands.counts.begun; generation = h.stands.counts.generation; arrivals = h.stands.counts.arrivals; preempts = h.stands.counts.preempts });
          host = done.stands;
          logs = done.logs h.stands.logs;
          places = subst (ArePlaced places) (same_book to) placed;
        };
        notes = plain_notes w l e v x refl keeps;
      }

  stopped_at : (to : ℕ) (error : HostError) (x : View) → next w l ≡ Some (entries.Load id from to) → StopsEntry lines (entries.Load id from to) l.book l.book error v x → WasGivenUp w l error v x
  stopped_at to error x following stops =
      let e = entries.Load id from to in
      record {
        entry_told = e;
        following = following;
        stops = subst (λ (t : Table). StopsEntry t e l.book (after w l e).book error v x) (sym h.stands.table) (subst (λ (b : Book). StopsEntry lines e l.book b error v x) (same_book to) stops);
      }

  -- it was read, and given up
  pub load_given_up : (error : HostError) (m : View) → Takes l.book l.book v m → WasGivenUp w l error v m
  load_given_up error m takes =
      let to = load_end h.message from max in
      stopped_at to error m h.following (may_stop lines (entries.Load id from to) l.book l.book error v m (record { told = takes.told; stands = inl takes.stands; moments = takes.moments }))

  -- its line was refused
  pub load_untold : (to : ℕ) (error : HostError) (m x : View) → next w l ≡ Some (entries.Load id from to) → Takes l.book l.book v m → StopsEntry lines (entries.Load id from to) l.book l.book error m x → WasGivenUp w l error v x
  load_untold to error m x following takes stops = stopped_at to error x following (changed_stops lines (entries.Load id from to) l.book l.book v m x takes error stops)
