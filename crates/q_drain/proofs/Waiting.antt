-- Rests, moments and answers `NotYet` through the calls of a sweep.
use Rattle.std.proofs.Common.{◌≡◌, ◌≤◌, ◌+◌, ◌-◌, ℕ, Bool, true, false, [], ◌∷◌, ◌++◌, length, length-append, refl, ap}
use native.Mathlib.Omega.{arith}
use Rattle.q_link.specs.Records.{Closed}
use Rattle.q_drain.specs.Causes.{IsPatient}
use Rattle.q_drain.specs.Stories.{Story}
use Rattle.q_drain.specs.Told.{begun, ended}
use Rattle.q_drain.specs.Sweeps.{IsRested}
use Rattle.q_drain.specs.Waits.{Sweeps, Waits, WaitsBetween}

-- a link that is connected in a sweep
pub waits_first : (rests moments : ℕ) → 1 ≤ moments → Waits rests moments rests 0 false
waits_first rests moments h = record { least = omega arith; most = omega arith; waiting = λ is. cc; free = λ is. omega (arith, h) }

-- it was polled, and goes on
pub waits_poll : (rests moments before not_yets : ℕ) → Waits rests moments before not_yets false → Waits rests moments before (not_yets + 1) true
waits_poll rests moments before not_yets p =
    let least = p.least in
    let free = p.free refl in
    record { least = omega (arith, least); most = omega (arith, free); waiting = λ is. omega (arith, least); free = λ is. cc }

pub waits_between : (rests moments before not_yets : ℕ) (polled : Bool) → Waits rests moments before not_yets polled → WaitsBetween rests moments before not_yets
waits_between rests moments before not_yets polled p = record { least = p.least; most = p.most }

pub waits_rest : (rests moments before not_yets : ℕ) → Waits rests moments before not_yets true → WaitsBetween (rests + 1) moments before not_yets
waits_rest rests moments before not_yets p = record { least = p.waiting refl; most = p.most }

-- the clock gave the moment of the next sweep
pub waits_moment : (rests moments before not_yets : ℕ) → WaitsBetween rests moments before not_yets → Waits rests (moments + 1) before not_yets false
waits_moment rests moments before not_yets p = let most = p.most in record { least = p.least; most = omega (arith, most); waiting = λ is. cc; free = λ is. omega (arith, most) }

-- its record, where the last poll answered `NotYet` at most once
pub waits_closed : (s : Story) (r : Closed) (rests before not_yets : ℕ) → Waits rests (length s.moments) before not_yets false → r.rests ≡ rests - before → not_yets ≤ r.not_yets → r.not_yets ≤ not_yets + 1 → IsPatient s r
waits_closed s r rests before not_yets p is least most =
    let l = p.least in
    let f = p.free refl in
    record { rests = omega (arith, l, is, least); moments = omega (arith, f, most) }

-- ---- sweeps

pub sweeps_moment : (s : Story) (t : ℕ) → Sweeps 0 s → Sweeps 1 (record s { moments = s.moments ++ t ∷ [] })
sweeps_moment s t p =
    let n = length-append s.moments (t ∷ []) in
    let least = p.least in
    let most = p.most in
    record { least = omega (arith, n, least); most = omega (arith, n, most) }

-- a sweep that did nothing is followed by a rest
pub sweeps_rest : (s : Story) → Sweeps 1 s → Sweeps 0 (record s { rests = s.rests + 1 })
sweeps_rest s p = let least = p.least in let most = p.most in record { least = omega (arith, least); most = omega (arith, most) }

-- what a sweep did
abbrev pub done : Story → ℕ
done s = length (begun s.told) + length (ended s.told)

-- within a sweep more is done
pub sweeps_more : (extra : ℕ) (s k : Story) → Sweeps extra s → k.moments ≡ s.moments → k.rests ≡ s.rests → done s ≤ done k → Sweeps extra k
sweeps_more extra s k p moments rests more =
    let least = p.least in
    let most = p.most in
    let n : length k.moments ≡ length s.moments = ap length moments in
    record { least = omega (arith, least, n, rests); most = omega (arith, most, n, rests, more) }

-- a sweep in which a delivery began or ended needs no rest
pub sweeps_busy : (s k : Story) → Sweeps 1 s → k.moments ≡ s.moments → k.rests ≡ s.rests → done s + 1 ≤ done k → Sweeps 0 k
sweeps_busy s k p moments rests more =
    let least = p.least in
    let most = p.most in
    let n : length k.moments ≡ length s.moments = ap length moments in
    record { least = omega (arith, least, n, rests); most = omega (arith, most, n, rests, more) }

-- the last sweep
pub sweeps_end : (s : Story) → Sweeps 1 s → length (ended s.told) ≤ length (begun s.told) → IsRested s
sweeps_end s p fewer = let least = p.least in let most = p.most in record { least = least; most = omega (arith, most, fewer) }
