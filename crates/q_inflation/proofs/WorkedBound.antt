-- A worked run in which short messages pass a longer one: the bound is met but for one.
use Rattle.std.proofs.Common.{◌≡◌, ◌≤◌, ◌*◌, ◌-◌, ℕ, length, subst, List, [], ◌∷◌, ◌++◌, map, Some, refl, arith}
use Rattle.std.specs.Fmt.{digits}
use Rattle.std.specs.Prelude.{codes}
use Rattle.q_inflation.proofs.Inflation.{run_inflation}
use Rattle.q_inflation.specs.Bounds.{Call, IsBounded, IsCall, IsInMemory, call_entries}
use Rattle.q_model.proofs.RowWords.{at, id, mail, many, own_domain, up, plain}
use Rattle.q_model.specs.Book.{empty_book}
use Rattle.q_model.specs.Message.{Message, new_recipient}
use Rattle.q_model.specs.Next.{next}
use Rattle.q_model.specs.PreemptingStarts.{preempting_starts, starts_through}
use Rattle.q_model.specs.Routes.{world_without_table}
use Rattle.q_model.specs.Run.{decide, decisions, run, run_of, turn}
use Rattle.q_model.specs.Settings.{defaults}
use Rattle.q_model.specs.Step.{after, after_all, allowed}
use Rattle.q_model.specs.Values.{Receiver, Site}
use Rattle.q_model.specs.declared.entry.Entry.{Entry}
use Rattle.q_model.specs.declared.event.LifeEvent.{LifeEvent}
use Rattle.q_model.specs.declared.event.LifeEvent.TheVariants.{Finish}
use Rattle.q_model.specs.declared.event.Mode.TheVariants.{Deliver}
use Rattle.q_model.specs.declared.outcome.Outcome.{Outcome}
use Rattle.q_model.specs.declared.outcome.SiteState.TheVariants.{Up}
use Rattle.q_model.specs.declared.entry.Entry.TheVariants as entries
use Rattle.q_model.specs.declared.outcome.Outcome.TheVariants as outcomes
use Rattle.q_model.specs.declared.rows.Place.TheVariants as places

abbrev letter : ℕ → List ℕ → LifeEvent
letter n name = mail (codes "a@x.example") (many n 0 (own_domain name))

abbrev ok : List Outcome
ok = outcomes.Ok ∷ []

-- The one process is busy as messages of four and of two recipients come; as the second delivers, one
-- of one recipient comes. A slot costs two deliveries, and a loan bears each preemption.
abbrev call : Call
call = record {
  world = world_without_table (record defaults { process_limit = 1; slot_cost = 2; slot_loan = 40; slot_discount = 0; minimum_slots = 1 });
  mode = Deliver;
  book = empty_book;
  items = at 1000 ∷ letter 1 (codes "c") ∷ letter 4 (codes "d") ∷ letter 2 (codes "e") ∷ up 1 ok ∷ letter 1 (codes "f") ∷ up 2 ok ∷ up 3 ok ∷ up 4 ok ∷ Finish ∷ [];
}

abbrev site : List ℕ → Site
site hop = record { transport = 0; hop = hop }

abbrev to : ℕ → List ℕ → List Receiver
to n name = map plain (many n 0 (own_domain name))

abbrev arrives : ℕ → ℕ → List ℕ → Entry
arrives serial n name = entries.Arrive (id serial) (Some (codes "a@x.example")) (to n name) []

-- the entries before the message of four comes into memory
abbrev before : List Entry
before = entries.Life 1 Deliver ∷ entries.At 1000
    ∷ arrives 1 1 (codes "c") ∷ entries.Admit (id 1) ∷ entries.Load (id 1) 0 1 ∷ entries.Start 1 (id 1) (site (codes "c0.example")) (0 ∷ [])
    ∷ arrives 2 4 (codes "d")
    ∷ []

-- those since: the message of two passes it, and is passed by the message of one
abbrev since : List Entry
since = entries.Load (id 2) 0 4
    ∷ arrives 3 2 (codes "e") ∷ entries.Admit (id 3) ∷ entries.Load (id 3) 0 2
    ∷ entries.Reply 1 Up ok ∷ entries.Mark (id 1) 0 ∷ entries.Sync (id 1) ∷ entries.Remove (id 1)
    ∷ entries.Preempt (id 3) (id 2) 0 2 ∷ entries.Start 2 (id 3) (site (codes "e0.example")) (0 ∷ [])
    ∷ arrives 4 1 (codes "f") ∷ entries.Admit (id 4) ∷ entries.Load (id 4) 0 1
    ∷ entries.Reply 2 Up ok ∷ entries.Mark (id 3) 0 ∷ entries.Sync (id 3)
    ∷ entries.Preempt (id 4) (id 3) 0 1 ∷ entries.Start 3 (id 4) (site (codes "f0.example")) (0 ∷ [])
    ∷ entries.Reply 3 Up ok ∷ entries.Mark (id 4) 0 ∷ entries.Sync (id 4) ∷ entries.Remove (id 4)
    ∷ entries.Start 4 (id 3) (site (codes "e1.example")) (1 ∷ [])
    ∷ []

-- those that come then: at last the message of four is delivered to
abbrev later : List Entry
later = entries.Reply 4 Up ok ∷ entries.Mark (id 3) 1 ∷ entries.Sync (id 3) ∷ entries.Remove (id 3)
    ∷ entries.Start 5 (id 2) (site (codes "d0.example")) (0 ∷ []) ∷ entries.End
    ∷ []

abbrev of_four : Message
of_four = record {
  id = id 2;
  version = 2;
  sender = Some (codes "a@x.example");
  arrival = 1000;
  content = [];
  recipients = map new_recipient (to 4 (codes "d"));
  failures = [];
  place = places.Incoming;
}

call_fits : IsCall call
unfolding run_of run turn decisions decide after after_all next allowed digits
call_fits = record {
  usable = record { recipient_minimum = omega arith; mark_sync_limit = omega arith };
  distinct = refl;
  orderly = refl;
  fits = (refl, (refl, (refl, (refl, (refl, (refl, (refl, (refl, (refl, (refl, (refl, tt)))))))))));
}

run_is : call_entries call ≡ before ++ (entries.Admit (id 2) ∷ (since ++ later))
unfolding run_of run turn decisions decide after after_all next digits
run_is = refl

in_memory : IsInMemory call of_four (id 2) before since
unfolding after after_all digits
in_memory = record { later = later; entries = run_is; message = refl }

-- three deliveries go before it: two of the message that passes it, one of that which passes this one
three_before : preempting_starts (id 2) 0 since ≡ 3
unfolding preempting_starts starts_through digits
three_before = refl

-- so the law speaks of it: three times one are at most four
bounded : IsBounded call of_four (id 2) since
bounded t = run_inflation call.world call.mode call.book call.items call_fits.usable call_fits.distinct call_fits.orderly call_fits.fits before (id 2) since later run_is of_four in_memory.message t

-- by the cost itself, or by half the recipients, it would not hold
not_by_cost : preempting_starts (id 2) 0 since * call.world.settings.slot_cost ≤ length of_four.recipients → ⊥
not_by_cost h = let k : 3 * 2 ≤ 4 = subst (λ n. n * 2 ≤ 4) three_before h in absurd (omega (arith, k))

not_by_half : preempting_starts (id 2) 0 since * (call.world.settings.slot_cost - 1) * 2 ≤ length of_four.recipients → ⊥
not_by_half h = let k : 3 * 1 * 2 ≤ 4 = subst (λ n. n * 1 * 2 ≤ 4) three_before h in absurd (omega (arith, k))
