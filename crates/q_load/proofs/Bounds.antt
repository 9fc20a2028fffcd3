-- The events of a load come to an end: what is due leaves fewer to come.
use Rattle.std.proofs.Common.{◌+◌, ◌<◌, ◌-◌, ◌^◌, ◌≡◌, ◌≤◌, ◌∙◌, ◌∷◌, [], ap, arith, Bool, cond, false, if◌then◌else◌, length, List, ltb-true, None, Option, option_and_then, option_map, refl, Some, subst, sym, true, ℕ}
use Rattle.std.proofs.lemmas.Bool.{and_parts}
use Rattle.std.proofs.lemmas.List.{length-replicate}
use Rattle.std.proofs.lemmas.List.Sums.{sum_by-cons}
use Rattle.std.specs.Option.{option_or}
use Rattle.std.specs.Prelude.{◌&&◌, ◌||◌, count_by, map, max, nat_lt, not, replicate}
use Rattle.q_engine.specs.Heard.{is_moment}
use Rattle.q_load.proofs.Counting.{few_recipients}
use Rattle.q_load.proofs.Deliveries.{decisions_end_none, fewer_ended, mail_ends_none, moment_ends_none, reply_ends_one}
use Rattle.q_load.specs.Due.{due, is_fresh, is_mail, is_reply, mail_due, next_reply, outcome_of, reply_due, reply_to, round_due}
use Rattle.q_load.specs.Ended.{HasEnded}
use Rattle.q_load.specs.Loads.{begun, behind, first, load_world}
use Rattle.q_load.specs.Numbers.{number_of}
use Rattle.q_laws.proofs.Living.{start_flights}
use Rattle.q_laws.proofs.Tidied.{tidy_scan_is}
use Rattle.q_model.specs.Book.{empty_book}
use Rattle.q_model.specs.declared.entry.Entry.TheVariants as entries
use Rattle.q_model.specs.declared.event.Mode.TheVariants.{Deliver}
use Rattle.q_model.specs.Past.{starts}
use Rattle.q_model.specs.Arrivals.{next_id}
use Rattle.q_model.specs.declared.event.Event.{Event}
use Rattle.q_model.specs.declared.event.Event.TheVariants as events
use Rattle.q_model.specs.declared.outcome.SiteState.TheVariants.{Up}
use Rattle.q_model.specs.declared.rows.Delivery.{Delivery}
use Rattle.q_model.specs.Deliveries.{flight_of}
use Rattle.q_model.specs.Ledger.{Ledger, opening}
use Rattle.q_model.specs.Lists.{has_none, least}
use Rattle.q_model.specs.Run.{decisions, event_entry, turn}
use Rattle.q_model.specs.Step.{after, after_all, change, noted}

-- ---- what is due

-- a reply is to a delivery in flight and has as many outcomes as it has recipients, a mail is one of so
-- many and within the limits, and a moment is one of 200
abbrev pub IsDue : ℕ → List Event → Ledger → Event → Type 0
IsDue mails heard l (events.Reply number site os) = (f : Delivery) × (flight_of l number ≡ Some f) × (length os ≡ length f.row.positions)
IsDue mails heard l (events.Mail sender to content) = (count_by is_mail heard < mails) × (length content ≤ 10240000) × (length to ≤ 50000)
IsDue mails heard l (events.At t) = count_by is_moment heard < 200
IsDue mails heard l (events.Trigger kind) = ⊥

abbrev MayBeDue : ℕ → List Event → Ledger → Option Event → Type 0
MayBeDue mails heard l None = Unit {0}
MayBeDue mails heard l (Some e) = IsDue mails heard l e

module _ (mails : ℕ) (heard : List Event) (l : Ledger) where
  by_or : (a b : Option Event) → MayBeDue mails heard l a → MayBeDue mails heard l b → MayBeDue mails heard l (option_or a b)
  by_or None b h k = k
  by_or (Some e) b h k = h

  by_if : (t : Bool) (o : Option Event) → (t ≡ true → MayBeDue mails heard l o) → MayBeDue mails heard l (if t then o else None)
  by_if true o h = h refl
  by_if false o h = tt

  by_flight : (reply number : ℕ) (o : Option Delivery) → flight_of l number ≡ o
      → MayBeDue mails heard l (option_map (λ (f : Delivery). events.Reply number Up (replicate (length f.row.positions) (outcome_of reply))) o)
  by_flight reply number None is = tt
  by_flight reply number (Some f) is = (f, is, length-replicate (length f.row.positions) (outcome_of reply))

  by_number : (reply : ℕ) (o : Option ℕ) → MayBeDue mails heard l (option_and_then (reply_to reply l) o)
  by_number reply None = tt
  by_number reply (Some number) = by_flight reply number (flight_of l number) refl

  reply_is : MayBeDue mails heard l (reply_due mails heard l)
  reply_is = by_if (is_fresh heard || not (nat_lt (count_by is_mail heard) mails)) (next_reply heard l) (λ _. by_number (count_by is_reply heard + 1) (least nat_lt (map (λ (f : Delivery). f.number) l.flights)))

  mail_is : MayBeDue mails heard l (mail_due mails heard)
  mail_is = by_if (nat_lt (count_by is_mail heard) mails) _ (λ h. let few = few_recipients (number_of mails (count_by is_mail heard + 1)) in (ltb-true (count_by is_mail heard) mails h, omega arith, omega (arith, few)))

  round_is : MayBeDue mails heard l (round_due heard l)
  round_is = by_if (nat_lt (count_by is_moment heard) 200 && not (has_none l.book.messages)) _ (λ h. ltb-true (count_by is_moment heard) 200 (and_parts (nat_lt (count_by is_moment heard) 200) (not (has_none l.book.messages)) h).0)

  pub due_is : (e : Event) → due mails heard l ≡ Some e → IsDue mails heard l e
  due_is e is = subst (MayBeDue mails heard l) is (by_or (reply_due mails heard l) (option_or (mail_due mails heard) (round_due heard l)) reply_is (by_or (mail_due mails heard) (round_due heard l) mail_is round_is))

-- ---- the ledger behind

pub more : (p : Event → Bool) (e : Event) (es : List Event) → count_by p (e ∷ es) ≡ cond (p e) 1 0 + count_by p es
more p e es = sum_by-cons (λ x. cond (p x) 1 0) e es

pub behind_is : (l : Ledger) (e : Event) → behind l e ≡ after_all load_world (after load_world l (event_entry l e)) (decisions load_world (after load_world l (event_entry l e)))
unfolding turn after_all
behind_is l e = refl

ended_as : (m n : ℕ) (l : Ledger) → m ≡ n → HasEnded m l → HasEnded n l
ended_as m n l same h = subst (λ (k : ℕ). HasEnded k l) same h

event_ends : (mails : ℕ) (heard : List Event) (l : Ledger) (e : Event) → IsDue mails heard l e → HasEnded (count_by is_reply heard) l → HasEnded (cond (is_reply e) 1 0 + count_by is_reply heard) (after load_world l (event_entry l e))
event_ends mails heard l (events.At t) is h =
    let n = count_by is_reply heard in
    let same : n ≡ 0 + n = omega arith in
    ended_as n (0 + n) _ same (moment_ends_none load_world l (max l.now t) n h)
event_ends mails heard l (events.Mail sender to content) is h =
    let n = count_by is_reply heard in
    let same : n ≡ 0 + n = omega arith in
    ended_as n (0 + n) _ same (mail_ends_none load_world l (next_id l) sender to content n h)
event_ends mails heard l (events.Reply number site os) is h =
    let n = count_by is_reply heard in
    let same : n + 1 ≡ 1 + n = omega arith in
    ended_as (n + 1) (1 + n) _ same (reply_ends_one load_world l number site os is.0 n is.1 h)
event_ends mails heard l (events.Trigger kind) is h = absurd is

-- an event that is due goes on with what ended
pub due_ends : (mails : ℕ) (heard : List Event) (l : Ledger) (e : Event) → due mails heard l ≡ Some e → HasEnded (count_by is_reply heard) l → HasEnded (count_by is_reply (e ∷ heard)) (behind l e)
due_ends mails heard l e is h =
    subst (λ (k : Ledger). HasEnded (count_by is_reply (e ∷ heard)) k) (sym (behind_is l e))
    (subst (λ (n : ℕ). HasEnded n (after_all load_world (after load_world l (event_entry l e)) (decisions load_world (after load_world l (event_entry l e))))) (sym (more is_reply e heard))
    (decisions_end_none load_world (after load_world l (event_entry l e)) _ (event_ends mails heard l e (due_is mails heard l e is) h)))

-- ---- fewer are left

-- how many replies, mails and moments may still come
abbrev pub left_of : ℕ → ℕ → ℕ → ℕ → ℕ
left_of mails replies came rounds = 2 ^ 48 - replies + (mails - came) + (200 - rounds)

fewer_by : (mails : ℕ) (heard : List Event) (l : Ledger) (e : Event) → IsDue mails heard l e → HasEnded (count_by is_reply heard) l
    → left_of mails (cond (is_reply e) 1 0 + count_by is_reply heard) (cond (is_mail e) 1 0 + count_by is_mail heard) (cond (is_moment e) 1 0 + count_by is_moment heard)
    < left_of mails (count_by is_reply heard) (count_by is_mail heard) (count_by is_moment heard)
fewer_by mails heard l (events.At t) is h = omega (arith, is)
fewer_by mails heard l (events.Mail sender to content) is h = let less = is.0 in omega (arith, less)
fewer_by mails heard l (events.Reply number site os) is h = let few = fewer_ended l number is.0 (count_by is_reply heard) is.1 h in omega (arith, few)
fewer_by mails heard l (events.Trigger kind) is h = absurd is

pub due_fewer : (mails : ℕ) (heard : List Event) (l : Ledger) (e : Event) → due mails heard l ≡ Some e → HasEnded (count_by is_reply heard) l
    → left_of mails (count_by is_reply (e ∷ heard)) (count_by is_mail (e ∷ heard)) (count_by is_moment (e ∷ heard)) < left_of mails (count_by is_reply heard) (count_by is_mail heard) (count_by is_moment heard)
due_fewer mails heard l e is h =
    let replies = more is_reply e heard in
    let came = more is_mail e heard in
    let rounds = more is_moment e heard in
    let less = fewer_by mails heard l e (due_is mails heard l e is) h in
    omega (arith, replies, came, rounds, less)

-- the same by other counts that are equal
pub same_left : (mails a b c d e f a' b' c' d' e' f' : ℕ) → a ≡ a' → b ≡ b' → c ≡ c' → d ≡ d' → e ≡ e' → f ≡ f' → left_of mails a' b' c' < left_of mails d' e' f' → left_of mails a b c < left_of mails d e f
same_left mails a b c d e f a' b' c' d' e' f' p q r s t u h =
    let first : left_of mails a b c ≡ left_of mails a' b' c' = ap (λ (n : ℕ). left_of mails n b c) p ∙ ap (λ (n : ℕ). left_of mails a' n c) q ∙ ap (λ (n : ℕ). left_of mails a' b' n) r in
    let second : left_of mails d e f ≡ left_of mails d' e' f' = ap (λ (n : ℕ). left_of mails n e f) s ∙ ap (λ (n : ℕ). left_of mails d' n f) t ∙ ap (λ (n : ℕ). left_of mails d' e' n) u in
    omega (arith, first, second, h)

within_by : (mails : ℕ) (heard : List Event) (l : Ledger) (e : Event) → IsDue mails heard l e → count_by is_mail heard ≤ mails → count_by is_moment heard ≤ 200
    → (cond (is_mail e) 1 0 + count_by is_mail heard ≤ mails) × (cond (is_moment e) 1 0 + count_by is_moment heard ≤ 200)
within_by mails heard l (events.At t) is came rounds = (omega (arith, came), omega (arith, is))
within_by mails heard l (events.Mail sender to content) is came rounds = let less = is.0 in (omega (arith, less), omega (arith, rounds))
within_by mails heard l (events.Reply number site os) is came rounds = (omega (arith, came), omega (arith, rounds))
within_by mails heard l (events.Trigger kind) is came rounds = absurd is

-- mails and moments are no more than may come
pub due_within : (mails : ℕ) (heard : List Event) (l : Ledger) (e : Event) → due mails heard l ≡ Some e → count_by is_mail heard ≤ mails → count_by is_moment heard ≤ 200
    → (count_by is_mail (e ∷ heard) ≤ mails) × (count_by is_moment (e ∷ heard) ≤ 200)
due_within mails heard l e is came rounds =
    let within = within_by mails heard l e (due_is mails heard l e is) came rounds in
    (subst (λ (n : ℕ). n ≤ mails) (sym (more is_mail e heard)) within.0, subst (λ (n : ℕ). n ≤ 200) (sym (more is_moment e heard)) within.1)

-- ---- the first ledger

none_begun : starts begun ≡ 0
unfolding after
none_begun = ap (λ (k : Ledger). starts k) (tidy_scan_is (noted (entries.Life 1 Deliver) (change load_world (opening Deliver empty_book) (entries.Life 1 Deliver)))).2

begun_unended : HasEnded 0 begun
begun_unended =
    let flights = ap (λ (fs : List Delivery). length fs) (start_flights load_world (opening Deliver empty_book) (entries.Life 1 Deliver) [] refl) in
    let none = none_begun in
    record { began = omega (arith, flights); few = omega (arith, none) }

-- no delivery has ended behind the first event
pub first_unended : HasEnded 0 (behind begun first)
first_unended =
    subst (λ (k : Ledger). HasEnded 0 k) (sym (behind_is begun first))
    (decisions_end_none load_world (after load_world begun (event_entry begun first)) 0 (moment_ends_none load_world begun (max begun.now 1000) 0 begun_unended))
