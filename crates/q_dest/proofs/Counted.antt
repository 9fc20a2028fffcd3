-- The counts of sites that are dead, where one site changes.
use Rattle.std.proofs.Common.{◌≡◌, ◌+◌, ◌++◌, ◌≤◌, ◌<◌, ◌^◌, ◌∷◌, [], arith, Bool, length, List, Some, ℕ}
use Rattle.std.specs.Prelude.{find}
use Rattle.q_dest.proofs.Counts.{counted_found, counted_more, counted_most}
use Rattle.q_dest.specs.Counting.{AreCounted, count_of, one_if}
use Rattle.q_dest.specs.Dests.{AreApart, is_at, is_dead_waiting, is_remembered}
use Rattle.q_dest.specs.declared.counting.Counts.{Counts}
use Rattle.q_dest.specs.declared.dest.Dest.{Dest}
use Rattle.q_model.specs.Values.{Site}

-- the one that is found is counted
pub counted_enough : (p : Dest → Bool) (n : ℕ) (site : Site) (found : Dest) (ds : List Dest) → n ≡ count_of p ds → AreApart ds → find (is_at site) ds ≡ Some found → one_if (p found) ≤ n
counted_enough p n site found ds is apart there = omega (arith, is, counted_found p site found ds apart there)

-- one more still has a number
pub counted_few : (p : Dest → Bool) (n room : ℕ) (ds : List Dest) → n ≡ count_of p ds → length ds ≤ room → room < 2 ^ 30 → n < 2 ^ 30
counted_few p n room ds is within few = omega (arith, is, within, few, counted_most p ds)

same_count : (old new was now before after : ℕ) → old ≡ was → new + before ≡ old + after → now + before ≡ was + after → new ≡ now
same_count old new was now before after a b c = omega (arith, a, b, c)

same_less : (old new was now before : ℕ) → old ≡ was → new + before ≡ old → now + before ≡ was → new ≡ now
same_less old new was now before a b c = omega (arith, a, b, c)

-- with the next site for the one that was found
pub counts_changed : (old new : Counts) (found next : Dest) (was now : List Dest) → ((p : Dest → Bool) → count_of p now + one_if (p found) ≡ count_of p was + one_if (p next)) → AreCounted old was →
    new.remembered + one_if (is_remembered found) ≡ old.remembered + one_if (is_remembered next) →
    new.dead_waiting + one_if (is_dead_waiting found) ≡ old.dead_waiting + one_if (is_dead_waiting next) → AreCounted new now
counts_changed old new found next was now counted h remembered waiting = record {
  remembered_is = same_count old.remembered new.remembered (count_of is_remembered was) (count_of is_remembered now) (one_if (is_remembered found)) (one_if (is_remembered next)) h.remembered_is remembered (counted is_remembered);
  dead_waiting_is = same_count old.dead_waiting new.dead_waiting (count_of is_dead_waiting was) (count_of is_dead_waiting now) (one_if (is_dead_waiting found)) (one_if (is_dead_waiting next)) h.dead_waiting_is waiting (counted is_dead_waiting);
}

-- without the site that was found
pub counts_without : (old new : Counts) (found : Dest) (was now : List Dest) → ((p : Dest → Bool) → count_of p now + one_if (p found) ≡ count_of p was) → AreCounted old was →
    new.remembered + one_if (is_remembered found) ≡ old.remembered → new.dead_waiting + one_if (is_dead_waiting found) ≡ old.dead_waiting → AreCounted new now
counts_without old new found was now counted h remembered waiting = record {
  remembered_is = same_less old.remembered new.remembered (count_of is_remembered was) (count_of is_remembered now) (one_if (is_remembered found)) h.remembered_is remembered (counted is_remembered);
  dead_waiting_is = same_less old.dead_waiting new.dead_waiting (count_of is_dead_waiting was) (count_of is_dead_waiting now) (one_if (is_dead_waiting found)) h.dead_waiting_is waiting (counted is_dead_waiting);
}

more_count : (old new was now after : ℕ) → old ≡ was → new ≡ old + after → now ≡ was + after → new ≡ now
more_count old new was now after a b c = omega (arith, a, b, c)

-- with one site more
pub counts_with : (old new : Counts) (next : Dest) (was : List Dest) → AreCounted old was → new.remembered ≡ old.remembered + one_if (is_remembered next) → new.dead_waiting ≡ old.dead_waiting + one_if (is_dead_waiting next) →
    AreCounted new (was ++ next ∷ [])
counts_with old new next was h remembered waiting = record {
  remembered_is = more_count old.remembered new.remembered (count_of is_remembered was) (count_of is_remembered (was ++ next ∷ [])) (one_if (is_remembered next)) h.remembered_is remembered (counted_more is_remembered was next);
  dead_waiting_is = more_count old.dead_waiting new.dead_waiting (count_of is_dead_waiting was) (count_of is_dead_waiting (was ++ next ∷ [])) (one_if (is_dead_waiting next)) h.dead_waiting_is waiting (counted_more is_dead_waiting was next);
}
