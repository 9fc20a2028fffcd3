-- What a table counts of a book is within 128 bits.
use Rattle.std.proofs.Common.{◌≡◌, ◌≤◌, ℕ, Bool, true, false, List, [], ◌∷◌, ◌++◌, arith, flat_map, if◌then◌else◌, length, map, refl, suc}
use Rattle.std.specs.Prelude.{sum_by}
use Rattle.std.proofs.lemmas.List.Sums.{sum_by-append, sum_by-cons}
use Rattle.q_ages.specs.Counting.{counted, counts_of, recipient_counts, sender_counts, sender_domain}
use Rattle.q_model.specs.Book.{Book}
use Rattle.q_model.specs.declared.queues.Queues.{Queues}
use Rattle.q_model.specs.FilesStand.{Stands}
use Rattle.q_model.specs.Lists.{has_none}
use Rattle.q_model.specs.Message.{address_at, Message, pending}
use Rattle.q_model.specs.SpoolFiles.{Files}
use Rattle.q_model.specs.Texts.{domain_of}
use Rattle.q_model.specs.Times.{age_of}
use Rattle.q_shape.specs.Counted.{CanBeCounted}
use Rattle.q_shape.specs.Counts.{Count, total}
use Rattle.q_walk.proofs.Counts.{few_recipients}
use Rattle.q_walk.specs.Listed.{listed}

each_one : (name : ℕ → List ℕ) (age : ℕ) (ps : List ℕ) → total (map (λ p. (name p, age, 1)) ps) ≡ length ps
each_one name age [] = refl
each_one name age (p ∷ ps) =
    let rest = each_one name age ps in
    let sum = sum_by-cons (λ (c : Count). c.2) (name p, age, 1) (map (λ (q : ℕ). (name q, age, 1)) ps) in
    omega (arith, rest, sum)

one_at_most : (name : List ℕ) (age : ℕ) (ps : List ℕ) → total (if has_none ps then [] else (name, age, 1) ∷ []) ≤ length ps
one_at_most name age [] = omega arith
one_at_most name age (p ∷ ps) = omega arith

-- a message counts at most as often as it has pending recipients
few_of : (senders : Bool) (now : ℕ) (m : Message) → total (counts_of senders now m) ≤ length (pending m)
few_of true now m = one_at_most (sender_domain m.sender) (age_of now m) (pending m)
few_of false now m =
    let same = each_one (λ (p : ℕ). domain_of (address_at m p)) (age_of now m) (pending m) in
    omega (arith, same)

few_of_all : (senders : Bool) (now : ℕ) (ms : List Message) → total (flat_map (counts_of senders now) ms) ≤ sum_by (λ m. length (pending m)) ms
few_of_all senders now [] = omega arith
few_of_all senders now (m ∷ ms) =
    let first = few_of senders now m in
    let rest = few_of_all senders now ms in
    let parts = sum_by-append (λ (c : Count). c.2) (counts_of senders now m) (flat_map (counts_of senders now) ms) in
    let sum = sum_by-cons (λ (x : Message). length (pending x)) m ms in
    omega (arith, first, rest, parts, sum)

pub few_counts : (f : Files) (b : Book) (senders : Bool) (now : ℕ) (q : Queues) → Stands f b → CanBeCounted (counted senders now q b)
few_counts f b senders now q stands =
    let few = few_of_all senders now (listed q b) in
    let fits = few_recipients f b q stands in
    omega (arith, few, fits)
