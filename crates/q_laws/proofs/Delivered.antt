-- What fits together still does as rows are skipped and deliveries end.
use Rattle.std.proofs.Common.{◌≡◌, ℕ, ◌≤◌, Bool, true, false, cond, not, List, [], ◌∷◌, ◌++◌, map, filter, replicate, length, Option, Some, None, refl, sym, ap, ◌∙◌, arith, if◌then◌else◌, eq-eqb}
use Rattle.std.proofs.lemmas.Bool.{and_parts}
use Rattle.std.proofs.lemmas.Slice.Eq.{bytes_eq-Decides}
use Rattle.std.specs.List.{list_any}
use Rattle.std.specs.Option.{option_map_or}
use Rattle.std.specs.Prelude.{◌==◌, ◌&&◌, bytes_eq, nat_le}
use Rattle.q_laws.proofs.Books.{message_in}
use Rattle.q_laws.proofs.Counts.{once_fewer, times}
use Rattle.q_laws.proofs.Members.{IsIn, all_at, all_filtered, all_from, find_in, in_dropped}
use Rattle.q_laws.proofs.Quiet.{begun_noted}
use Rattle.q_laws.proofs.RowCounts.{IsRemoved, left_flights, left_lengths, removed, row_positions}
use Rattle.q_laws.proofs.Rows.{outcomes_ready, with_rows}
use Rattle.q_laws.proofs.Tidied.{IsReady, after_consistent}
use Rattle.q_laws.proofs.Synced.{admitted_active}
use Rattle.q_laws.specs.Consistency.{IsConsistent, is_filled}
use Rattle.q_model.proofs.IdLaws.{id_eq-true, site_eq-true}
use Rattle.q_model.specs.Book.{message_of}
use Rattle.q_model.specs.Deliveries.{flight_of}
use Rattle.q_model.specs.Sites.{site_eq}
use Rattle.q_model.specs.Ids.{id_eq}
use Rattle.q_model.specs.Ledger.{Ledger}
use Rattle.q_model.specs.Lists.{drop_first}
use Rattle.q_model.specs.Memory.{is_admitted}
use Rattle.q_model.specs.Message.{Message}
use Rattle.q_model.specs.Past.{starts}
use Rattle.q_model.specs.Replies.{fits_state, landed, may_reply, replied}
use Rattle.q_model.specs.Settings.{World}
use Rattle.q_model.specs.Settling.{needs_of}
use Rattle.q_model.specs.SiteRecords.{is_dead_site}
use Rattle.q_model.specs.Skips.{may_skip, unqueued}
use Rattle.q_model.specs.Starts.{is_row}
use Rattle.q_model.specs.Step.{after, noted}
use Rattle.q_model.specs.Values.{Site}
use Rattle.q_model.specs.Windows.{after_state}
use Rattle.q_model.specs.declared.id.Id.{Id}
use Rattle.q_model.specs.declared.outcome.Outcome.{Outcome}
use Rattle.q_model.specs.declared.outcome.SiteState.{SiteState}
use Rattle.q_model.specs.declared.rows.Delivery.{Delivery}
use Rattle.q_model.specs.declared.rows.Row.{Row}
use Rattle.q_model.specs.declared.entry.Entry.TheVariants as entries
use Rattle.q_model.specs.declared.outcome.Outcome.TheVariants as outcomes

-- ---- skip

-- what a row's test says
pub record IsThisRow (id : Id) (site : Site) (ps : List ℕ) (r : Row) : Type 0 where
  pub name : r.id ≡ id
  pub at : r.site ≡ site
  pub positions : r.positions ≡ ps

pub this_row : (id : Id) (site : Site) (ps : List ℕ) (r : Row) → is_row id site ps r ≡ true → IsThisRow id site ps r
this_row id site ps r h =
    let two = and_parts (id_eq r.id id && site_eq r.site site) (bytes_eq r.positions ps) h in
    let one = and_parts (id_eq r.id id) (site_eq r.site site) two.0 in
    record { name = id_eq-true r.id id one.0; at = site_eq-true r.site site one.1; positions = (bytes_eq-Decides r.positions ps).0 two.1 }

skip_ready : (w : World) (l : Ledger) (id : Id) (site : Site) (ps : List ℕ) (os : List Outcome) (x : Message) → IsConsistent w l → message_of l.book id ≡ Some x → IsRemoved (is_row id site ps) l.waiting →
    IsReady w (with_rows l (drop_first (is_row id site ps) l.waiting) l.flights (l.unsettled ++ needs_of w l.now x ps os) l.served l.sites (entries.Skip id site ps))
skip_ready w l id site ps os x c there t =
    let this = this_row id site ps t.row t.passes in
    let name = (message_in l.book id x there).1 in
    outcomes_ready w l (drop_first (is_row id site ps) l.waiting) l.flights l.served l.sites (entries.Skip id site ps) x ps os c
    (λ i k. record { admit = refl; start = refl; charge = refl })
    (ap (is_admitted l) (name ∙ sym this.name) ∙ all_at (λ (r : Row). is_admitted l r.id) t.row l.waiting c.memory.waiting t.inside)
    (all_from (λ (r : Row). is_admitted l r.id) (drop_first (is_row id site ps) l.waiting) (λ r inside. all_at (λ (y : Row). is_admitted l y.id) r l.waiting c.memory.waiting (in_dropped (is_row id site ps) r l.waiting inside)))
    (all_from is_filled (drop_first (is_row id site ps) l.waiting) (λ r inside. all_at is_filled r l.waiting c.memory.filled (in_dropped (is_row id site ps) r l.waiting inside)))
    c.memory.flights c.memory.numbers (begun_noted l (entries.Skip id site ps) c.memory.begun)
    (λ i q.
    let n = t.count i q in
    let same : times q (row_positions i t.row) ≡ times q (if id_eq x.id i then ps else []) =
    ap (λ (j : Id). times q (if id_eq j i then t.row.positions else [])) (this.name ∙ sym name) ∙ ap (λ (qs : List ℕ). times q (if id_eq x.id i then qs else [])) this.positions in
    omega (arith, n, same))
    (let n = t.lengths in let m : length t.row.positions ≡ length ps = ap length this.positions in omega (arith, n, m))

skip_on : (w : World) (l : Ledger) (id : Id) (site : Site) (ps : List ℕ) (o : Option Message) → IsConsistent w l → message_of l.book id ≡ o → (x : Message) → message_of l.book id ≡ Some x → IsRemoved (is_row id site ps) l.waiting →
    IsReady w (noted (entries.Skip id site ps) (option_map_or (λ m. record (unqueued l id site ps) { unsettled = l.unsettled ++ needs_of w l.now m ps (replicate (length ps) (outcomes.Later 0)) }) o (unqueued l id site ps)))
skip_on w l id site ps None c same x there t = absurd cc
skip_on w l id site ps (Some m) c same x there t = skip_ready w l id site ps (replicate (length ps) (outcomes.Later 0)) m c same t

-- a row is skipped
pub skip_consistent : (w : World) (l : Ledger) (id : Id) (site : Site) (ps : List ℕ) → IsConsistent w l → may_skip l id site ps ≡ true → IsConsistent w (after w l (entries.Skip id site ps))
skip_consistent w l id site ps c may =
    let t = removed (is_row id site ps) l.waiting (and_parts (list_any (is_row id site ps) l.waiting) (is_dead_site l site) may).0 in
    let this = this_row id site ps t.row t.passes in
    let mine = admitted_active w l id c (ap (is_admitted l) (sym this.name) ∙ all_at (λ (r : Row). is_admitted l r.id) t.row l.waiting c.memory.waiting t.inside) in
    after_consistent w l (entries.Skip id site ps) (skip_on w l id site ps (message_of l.book id) c refl mine.0 mine.1.there t)

-- ---- reply

abbrev other_flights : Delivery → List Delivery → List Delivery
other_flights f fs = filter (λ g. not (g.number == f.number)) fs

numbers_kept : (p : Delivery → Bool) (q : ℕ) (fs : List Delivery) → times q (map (λ (f : Delivery). f.number) (filter p fs)) ≤ times q (map (λ (f : Delivery). f.number) fs)
numbers_kept p q [] = omega arith
numbers_kept p q (f ∷ fs) = one (p f) (numbers_kept p q fs)
  where
    one : (b : Bool) → times q (map (λ (g : Delivery). g.number) (filter p fs)) ≤ times q (map (λ (g : Delivery). g.number) fs) →
        times q (map (λ (g : Delivery). g.number) (cond b (f ∷ filter p fs) (filter p fs))) ≤ times q (map (λ (g : Delivery). g.number) (f ∷ fs))
    one true h = omega (arith, h)
    one false h = omega (arith, h)

reply_ready : (w : World) (l : Ledger) (number : ℕ) (state : SiteState) (os : List Outcome) (f : Delivery) (x : Message) → IsConsistent w l → IsIn f l.flights → message_of l.book f.row.id ≡ Some x →
    IsReady w (with_rows l l.waiting (other_flights f l.flights) (l.unsettled ++ needs_of w l.now x f.row.positions os) l.served (after_state w l f.row.site state) (entries.Reply number state os))
reply_ready w l number state os f x c inside there =
    let others : Delivery → Bool = λ g. not (g.number == f.number) in
    let e = entries.Reply number state os in
    let gone : others f ≡ false = ap not (eq-eqb f.number f.number refl) in
    let name = (message_in l.book f.row.id x there).1 in
    outcomes_ready w l l.waiting (other_flights f l.flights) l.served (after_state w l f.row.site state) e x f.row.positions os c
    (λ i k. record { admit = refl; start = refl; charge = refl })
    (ap (is_admitted l) name ∙ all_at (λ (g : Delivery). is_admitted l g.row.id) f l.flights c.memory.flights inside)
    c.memory.waiting
    c.memory.filled
    (all_filtered (λ (g : Delivery). is_admitted l g.row.id) others l.flights c.memory.flights)
    (once_fewer (map (λ (g : Delivery). g.number) l.flights) (map (λ (g : Delivery). g.number) (other_flights f l.flights)) (λ q. numbers_kept others q l.flights) c.memory.numbers)
    (all_filtered (λ (g : Delivery). nat_le g.number (starts (noted e l))) others l.flights (begun_noted l e c.memory.begun))
    (λ i q.
    let n = left_flights others i q f l.flights inside gone in
    let same : times q (row_positions i f.row) ≡ times q (if id_eq x.id i then f.row.positions else []) = ap (λ (j : Id). times q (if id_eq j i then f.row.positions else [])) (sym name) in
    omega (arith, n, same))
    (let n = left_lengths others f l.flights inside gone in omega (arith, n))

tidied_on : (w : World) (l : Ledger) (number : ℕ) (state : SiteState) (os : List Outcome) (f : Delivery) (o : Option Message) → IsConsistent w l → IsIn f l.flights → message_of l.book f.row.id ≡ o → (x : Message) → message_of l.book f.row.id ≡ Some x →
    IsReady w (noted (entries.Reply number state os) (option_map_or (λ m. record (landed w l state f) { unsettled = l.unsettled ++ needs_of w l.now m f.row.positions os }) o (landed w l state f)))
tidied_on w l number state os f None c inside same x there = absurd cc
tidied_on w l number state os f (Some m) c inside same x there = reply_ready w l number state os f m c inside same

reply_on : (w : World) (l : Ledger) (number : ℕ) (state : SiteState) (os : List Outcome) (o : Option Delivery) → IsConsistent w l → flight_of l number ≡ o → option_map_or (λ (f : Delivery). (length os == length f.row.positions) && fits_state state os) o false ≡ true →
    IsReady w (noted (entries.Reply number state os) (option_map_or (λ (f : Delivery). replied w l state os f) o l))
reply_on w l number state os None c here may = absurd cc
reply_on w l number state os (Some f) c here may =
    let inside = (find_in (λ (g : Delivery). g.number == number) f l.flights here).0 in
    let mine = admitted_active w l f.row.id c (all_at (λ (g : Delivery). is_admitted l g.row.id) f l.flights c.memory.flights inside) in
    tidied_on w l number state os f (message_of l.book f.row.id) c inside refl mine.0 mine.1.there

-- a delivery ends
pub reply_consistent : (w : World) (l : Ledger) (number : ℕ) (state : SiteState) (os : List Outcome) → IsConsistent w l → may_reply l number state os ≡ true → IsConsistent w (after w l (entries.Reply number state os))
reply_consistent w l number state os c may = after_consistent w l (entries.Reply number state os) (reply_on w l number state os (flight_of l number) c refl may)
