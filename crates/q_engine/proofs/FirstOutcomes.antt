-- What the first unsettled outcome says of its message.
use Rattle.std.proofs.Common.{◌≡◌, ◌<◌, ◌≤◌, ◌&&◌, ◌==◌, ⊎_elim, ◌∙◌, ℕ, Bool, true, false, List, [], length, Option, Some, None, refl, sym, ap, subst, inl, arith}
use Rattle.std.specs.Prelude.{slice_get}
use Rattle.std.specs.Option.{IsSomeAnd, option_map_or}
use Rattle.std.proofs.lemmas.Bool.{and_parts}
use Rattle.q_model.specs.declared.entry.Entry.TheVariants as entries
use Rattle.q_model.specs.declared.id.Id.{Id}
use Rattle.q_model.specs.declared.outcome.Failure.{Failure}
use Rattle.q_model.specs.declared.rows.Need.{Need}
use Rattle.q_model.specs.declared.rows.Need.TheVariants as needs
use Rattle.q_model.specs.declared.rows.Unsettled.{Unsettled}
use Rattle.q_model.specs.Book.{Book, message_of}
use Rattle.q_model.specs.Ids.{id_eq}
use Rattle.q_model.specs.Ledger.{Ledger}
use Rattle.q_model.specs.Leftovers.{is_leftover}
use Rattle.q_model.specs.Logs.{needs_log}
use Rattle.q_model.specs.Marking.{is_unmarked_at, needs_mark}
use Rattle.q_model.specs.Memory.{is_admitted}
use Rattle.q_model.specs.Message.{is_logged, Message, unmarked_logged}
use Rattle.q_model.specs.Next.{next}
use Rattle.q_model.specs.Orderly.{has_firm_failures}
use Rattle.q_model.specs.Settings.{World}
use Rattle.q_model.specs.SpoolFiles.{file_at}
use Rattle.q_model.specs.Values.{Spot}
use Rattle.q_model.proofs.MarkChanges.{mark-in_file}
use Rattle.q_model.proofs.StandChanges.{Stands-message}
use Rattle.q_host.specs.View.{View}
use Rattle.q_laws.specs.Consistency.{IsConsistent, memory_positions}
use Rattle.q_laws.proofs.Books.{left_active, message_in}
use Rattle.q_laws.proofs.Decisions.{next_decided}
use Rattle.q_laws.proofs.First.{first_on, first_positions, not_logged_yet}
use Rattle.q_laws.proofs.Members.{all_at, IsIn}
use Rattle.q_laws.proofs.Synced.{admitted_active, found_admitted, IsActiveMessage}
use Rattle.q_laws.proofs.Unmarked.{bare_logged}
use Rattle.q_books.specs.HostStands.{HostStands}
use Rattle.q_books.specs.Spots.{IsFileAt, IsMarkAt}
use Rattle.q_engine.proofs.Speaking.{unmarked_short}

-- the message of an outcome at this position, whose mark isn't set
pub record HasBare (l : Ledger) (id : Id) (p : ℕ) : Type 0 where
  pub message : Message
  pub active : IsActiveMessage l id message
  pub bare : is_unmarked_at message p ≡ true

-- the same of the first unsettled outcome, whose need passes
pub record IsFirstOutcome (l : Ledger) (id : Id) (p : ℕ) (test : Need → Bool) : Type 0 where
  pub has : HasBare l id p
  pub need : Need
  pub passes : test need ≡ true
  pub none : needs_mark need ≡ false → unmarked_logged has.message ≡ []

pub first_outcome : (w : World) (l : Ledger) (id : Id) (p : ℕ) (test : Need → Bool) → IsConsistent w l
    → option_map_or (λ (u : Unsettled). id_eq u.id id && (u.position == p) && test u.need) (slice_get l.unsettled 0) false ≡ true → IsFirstOutcome l id p test
first_outcome w l id p test c h =
    let one = first_on l id p test l.unsettled refl h in
    let u = one.0 in
    let admitted : is_admitted l id ≡ true = subst (λ (i : Id). is_admitted l i ≡ true) one.3 (all_at (λ (x : Unsettled). is_admitted l x.id) u l.unsettled c.memory.unsettled (subst (λ (us : List Unsettled). IsIn u us) (sym one.2) (inl refl))) in
    let mine = admitted_active w l id c admitted in
    let found = found_admitted w l id c admitted in
    let a = found.0 in
    let remembered = c.memory.remembered a mine.0 found.1 (subst (λ (i : Id). message_of l.book i ≡ Some mine.0) (sym found.2) mine.1.there) in
    let there : IsIn u.position (memory_positions l a.id) = first_positions u one.1 l a.id one.2 (one.3 ∙ sym found.2) in
    record {
      has = record { message = mine.0; active = mine.1; bare = subst (λ (n : ℕ). is_unmarked_at mine.0 n ≡ true) one.4 (all_at (is_unmarked_at mine.0) u.position (memory_positions l a.id) remembered.unmarked there) };
      need = u.need;
      passes = one.5;
      none = λ k. remembered.logged ∙ not_logged_yet mine.0 u (slice_get l.unsettled 0) k (ap (λ (us : List Unsettled). slice_get us 0) one.2);
    }

left_bare : (l : Ledger) (id : Id) (p : ℕ) (o : Option Message) → message_of l.book id ≡ o → option_map_or (λ (m : Message). is_logged m p && is_unmarked_at m p) o false ≡ true
    → (m : Message) × (message_of l.book id ≡ Some m) × (is_unmarked_at m p ≡ true)
left_bare l id p None e h = absurd cc
left_bare l id p (Some m) e h = (m, e, (and_parts (is_logged m p) (is_unmarked_at m p) h).1)

-- a recipient that is marked next has no mark
pub mark_bare : (w : World) (l : Ledger) (id : Id) (p : ℕ) → IsConsistent w l → next w l ≡ Some (entries.Mark id p) → HasBare l id p
mark_bare w l id p c h = ⊎_elim (λ first. (first_outcome w l id p needs_mark c first).has) (λ left.
    let two = and_parts (is_leftover l id) (option_map_or (λ (m : Message). is_logged m p && is_unmarked_at m p) (message_of l.book id) false) left.1 in
    let some = left_bare l id p (message_of l.book id) refl two.1 in
    record { message = some.0; active = record { there = some.1; active = left_active l c.book.distinct id some.0 two.0 some.1 }; bare = some.2 }) (next_decided w l (entries.Mark id p) c h).1

-- a mark stands within its file
pub mark_inside : (v : View) (b : Book) (id : Id) (m : Message) (s : Spot) (p at : ℕ) → HostStands v b → IsFileAt b id m s → IsMarkAt m p at → IsSomeAnd (v.files s.area s.name) (λ file. at ≤ length file)
mark_inside v b id m s p at h file mark =
    let old = Stands-message v.files b id m h.reads file.found in
    let here : file_at v.files m.place id ≡ Some old.0.bytes = sym (ap (file_at v.files m.place) old.1) ∙ old.0.there in
    let inside : at < length old.0.bytes = mark-in_file v.files b id m p at old.0.bytes file.found mark.here mark.offset here h.reads in
    subst (λ (o : Option (List ℕ)). IsSomeAnd o (λ bytes. at ≤ length bytes)) (sym (ap (λ (t : Spot). v.files t.area t.name) file.spot ∙ here)) (omega (arith, inside))

-- ---- a failure

log_no_mark : (f : Failure) (n : Need) → needs_log f n ≡ true → needs_mark n ≡ false
log_no_mark f (needs.Log why code) h = refl
log_no_mark f needs.Mark h = absurd cc

none_logged_at : (m : Message) (p : ℕ) (b : Bool) → is_logged m p ≡ b → unmarked_logged m ≡ [] → is_unmarked_at m p ≡ true → b ≡ false
none_logged_at m p false e none bare = refl
none_logged_at m p true e none bare = absurd (subst (λ (ps : List ℕ). IsIn p ps) none (bare_logged m p bare e))

-- the message whose failure is stored next
pub record TakesFailure (l : Ledger) (id : Id) (p : ℕ) : Type 0 where
  pub message : Message
  pub there : message_of l.book id ≡ Some message
  pub here : p < length message.recipients
  pub fresh : is_logged message p ≡ false
  pub firm : has_firm_failures message ≡ true

pub log_speaks : (w : World) (l : Ledger) (id : Id) (f : Failure) → IsConsistent w l → next w l ≡ Some (entries.Log id f) → TakesFailure l id f.position
log_speaks w l id f c h =
    let first = first_outcome w l id f.position (needs_log f) c (next_decided w l (entries.Log id f) c h).0 in
    let m = first.has.message in
    record {
      message = m;
      there = first.has.active.there;
      here = unmarked_short m f.position first.has.bare;
      fresh = none_logged_at m f.position (is_logged m f.position) refl (first.none (log_no_mark f first.need first.passes)) first.has.bare;
      firm = all_at has_firm_failures m l.book.messages c.book.firm (message_in l.book id m first.has.active.there).0;
    }
