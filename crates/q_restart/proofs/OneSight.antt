-- Files show one thing alone: the names of boot and the walk of the queues are determined.
use Rattle.std.proofs.Common.{◌≡◌, arith, inl, inr, List, Option, None, Some, refl, sym, ap, subst, ◌∙◌, ◌+◌, ℕ}
use Rattle.std.specs.Cmp.Lexicographic.{nat_list_cmp_total, slice_cmp}
use Rattle.std.specs.Ordering.{nat_cmp}
use Rattle.std.specs.Prelude.{Err, IfErr, IsErrAnd, Ok, Result}
use Rattle.q_model.specs.declared.spot.Area.{Area}
use Rattle.q_model.specs.SpoolFiles.{Files}
use Rattle.q_model.specs.Values.{Spot}
use Rattle.q_restart.specs.declared.error.OpenError.{OpenError}
use Rattle.q_restart.specs.declared.error.OpenError.TheVariants as errors
use Rattle.q_restart.specs.declared.opening.Spool.{Spool}
use Rattle.q_restart.specs.declared.standing.Standing.{Standing}
use Rattle.q_restart.specs.Damages.{CannotBegin, damage_of, IsDamage, IsIntact, IsNextGeneration, SpoolShows}
use Rattle.q_restart.specs.Generations.{boot_generation}
use Rattle.q_restart.specs.Judgements.{IsAllowed, IsRefusalOfSome, IsRefused}
use Rattle.q_restart.specs.Openings.{IsAccepted}
use Rattle.q_restart.specs.Walks.{AreAllNames, IsWalk, standing_cmp}
use Rattle.q_restart.proofs.Lists.{sorted_same}
use Rattle.q_restart.proofs.Standings.{standing_cmp_total}

one-names : {X : Type 0} (f : List ℕ → Option X) (xs ys : List (List ℕ)) → AreAllNames f xs → AreAllNames f ys → xs ≡ ys
one-names f xs ys hx hy = sorted_same (slice_cmp nat_cmp) nat_list_cmp_total xs ys hx.sorted hy.sorted (λ n k. hy.all n (hx.there n k)) (λ n k. hx.all n (hy.there n k))

one-walk : (f : Files) (xs ys : List Standing) → IsWalk f xs → IsWalk f ys → xs ≡ ys
one-walk f xs ys hx hy = sorted_same standing_cmp standing_cmp_total xs ys hx.sorted hy.sorted (λ s k. hy.all s (hx.there s k)) (λ s k. hx.all s (hy.there s k))

pub one-damage_of : (f : Files) (boot names : List (List ℕ)) (walk files : List Standing) → SpoolShows f boot walk → SpoolShows f names files → damage_of boot walk ≡ damage_of names files
one-damage_of f boot names walk files h k = ap (λ (ns : List (List ℕ)). damage_of ns walk) (one-names _ boot names h.names k.names) ∙ ap (damage_of names) (one-walk f walk files h.files k.files)

some_spot : (x y : Spot) → Some x ≡ Some y → x ≡ y
some_spot x y e = cc

-- one damage alone is named
pub one-damage : (f : Files) (a b : Area) (n m : List ℕ) → IsDamage f a n → IsDamage f b m → (a ≡ b) × (n ≡ m)
one-damage f a b n m h k =
    let same = some_spot (record { area = a; name = n }) (record { area = b; name = m }) (sym h.is ∙ one-damage_of f h.boot k.boot h.walk k.walk h.shows k.shows ∙ k.is) in
    (ap (λ (s : Spot). s.area) same, ap (λ (s : Spot). s.name) same)

none_spot : (s : Spot) → None ≡ Some s → ⊥
none_spot s e = cc

pub sound-undamaged : (f : Files) (boot : List (List ℕ)) (walk : List Standing) (area : Area) (name : List ℕ) → SpoolShows f boot walk → damage_of boot walk ≡ None → IsDamage f area name → ⊥
sound-undamaged f boot walk area name shows sound h = none_spot (record { area = area; name = name }) (sym sound ∙ one-damage_of f boot h.boot walk h.walk shows h.shows ∙ h.is)

-- and a spool without damage has one last generation
pub one-generation : (f : Files) (g k : ℕ) → IsIntact f g → IsIntact f k → g ≡ k
one-generation f g k h i = sym h.last ∙ ap boot_generation (one-names _ h.boot i.boot h.shows.names i.shows.names) ∙ i.last

pub accepted-spent : (r : Result Spool OpenError) (e : OpenError) → IsErrAnd r (λ x. x ≡ e) → IsAccepted r → e ≡ errors.Spent
accepted-spent (Ok spool) e is accepted = absurd is
accepted-spent (Err errors.Disk) e is accepted = absurd accepted
accepted-spent (Err errors.NoMemory) e is accepted = absurd accepted
accepted-spent (Err (errors.Damaged area name)) e is accepted = absurd accepted
accepted-spent (Err errors.Spent) e is accepted = sym is

-- a spool that is refused is so by these names and files
refused_by_these : (boot : List (List ℕ)) (walk : List Standing) (e : OpenError) → IsRefused boot walk e → IsRefusalOfSome e
refused_by_these boot walk errors.Disk h = tt
refused_by_these boot walk errors.NoMemory h = tt
refused_by_these boot walk (errors.Damaged area name) h = (boot, walk, h)
refused_by_these boot walk errors.Spent h = (boot, walk, h)

pub refused_some : (boot : List (List ℕ)) (walk : List Standing) (e : OpenError) (r : Result Spool OpenError) → IsErrAnd r (λ x. x ≡ e) → IsRefused boot walk e → IfErr r IsRefusalOfSome
refused_some boot walk e (Ok spool) is h = tt
refused_some boot walk e (Err x) is h = subst IsRefusalOfSome (sym is) (refused_by_these boot walk e h)

pub spent-undamaged : (f : Files) (boot : List (List ℕ)) (walk : List Standing) (area : Area) (name : List ℕ) → SpoolShows f boot walk → (e : OpenError) → e ≡ errors.Spent → IsRefused boot walk e → IsDamage f area name → ⊥
spent-undamaged f boot walk area name shows e is refused h = sound-undamaged f boot walk area name shows (subst (IsRefused boot walk) is refused).0 h

-- a spool on which a life can begin isn't one on which none can
pub next-begins : (f : Files) (generation : ℕ) → IsNextGeneration f generation → CannotBegin f → ⊥
next-begins f generation next (inl (area, name, damage)) = sound-undamaged f next.whole.boot next.whole.walk area name next.whole.shows next.whole.sound damage
next-begins f generation next (inr spent) =
    let last = one-generation f next.last _ next.whole spent in
    omega (arith, last, next.next, next.fits)

pub allowed-begins : (f : Files) (boot : List (List ℕ)) (walk : List Standing) (generation : ℕ) → SpoolShows f boot walk → IsAllowed boot walk generation → CannotBegin f → ⊥
allowed-begins f boot walk generation shows allowed cannot =
    next-begins f (generation + 1) (record { last = generation; whole = record { boot = boot; walk = walk; shows = shows; sound = allowed.sound; last = allowed.last }; next = refl; fits = allowed.fits }) cannot
