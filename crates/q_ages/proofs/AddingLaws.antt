-- What was added to a table, one part behind another.
use Rattle.std.proofs.Common.{◌≡◌, ◌∙◌, ℕ, Bool, true, false, List, [], ◌∷◌, ◌++◌, map, Option, None, Some, if◌then◌else◌, append_assoc, append-nil, sym, ap, subst}
use Rattle.std.specs.Option.{IfSome}
use Rattle.q_ages.specs.Adding.{Adds, IsOpened}
use Rattle.q_ages.specs.Counting.{counts_of, sender_domain}
use Rattle.q_message.specs.FileHeads.{IsFault}
use Rattle.q_model.specs.Lists.{has_none}
use Rattle.q_model.specs.Message.{address_at, Message, pending}
use Rattle.q_model.specs.SpoolFiles.{Files}
use Rattle.q_model.specs.Texts.{domain_of}
use Rattle.q_model.specs.Times.{age_of}
use Rattle.q_model.specs.Values.{Spot, Taken}
use Rattle.q_pending.proofs.FileLaws.{has_file}
use Rattle.q_pending.specs.declared.pending.Pending.{Pending}
use Rattle.q_pending.specs.Readings.{GivesPending, IsFileOfMessage, IsPendingAhead}
use Rattle.q_shape.proofs.CountLaws.{counted_before}
use Rattle.q_shape.specs.Counted.{CanBeCounted}
use Rattle.q_shape.specs.Counts.{Count}
use Rattle.q_shape.specs.declared.age_table.AgeTable.{AgeTable}
use Rattle.q_shape.specs.Rows.{HasCounted}

-- ---- one part behind another

pub adds_none : (t : AgeTable) → Adds [] t t
adds_none t o cs h fits = subst (λ (ds : List Count). HasCounted o ds t) (sym (append-nil cs)) h

pub adds_on : (xs ys : List Count) (a b c : AgeTable) → Adds xs a b → Adds ys b c → Adds (xs ++ ys) a c
adds_on xs ys a b c first second o cs h fits =
    let all : CanBeCounted ((cs ++ xs) ++ ys) = subst CanBeCounted (sym (append_assoc cs xs ys)) fits in
    subst (λ (ds : List Count). HasCounted o ds c) (append_assoc cs xs ys) (second o (cs ++ xs) (first o cs h (counted_before (cs ++ xs) ys all)) all)

-- ---- the file of a message

none_some : {A : Type 0} {x : A} → None ≡ Some x → ⊥
none_some h = cc

-- the file of a message is a queue file
pub no_fault : (f : Files) (m : Message) (spot : Spot) (place : ℕ) → IsFileOfMessage f m spot → IfSome (f spot.area spot.name) (IsFault place) → ⊥
no_fault f m spot place is fault =
    let file = has_file f m spot is in
    let at = subst (λ (o : Option (List ℕ)). IfSome o (IsFault place)) file.here fault in
    none_some (sym at.0 ∙ file.reads)

-- ---- the pending recipients of a message

-- where none is given, none is ahead
pub none_ahead : (f : Files) (m : Message) (p : Pending) (positions : List ℕ) (o : Option Taken) → o ≡ None → GivesPending f m p positions o → positions ≡ []
none_ahead f m p positions o same gives = subst (λ (x : Option Taken). GivesPending f m p positions x) same gives

-- the message counts where one is given
pub some_ahead : (f : Files) (m : Message) (p : Pending) (positions : List ℕ) (o : Option Taken) (taken : Taken) → o ≡ Some taken → GivesPending f m p positions o → has_none positions ≡ false
some_ahead f m p positions o taken same gives =
    let g = subst (λ (x : Option Taken). GivesPending f m p positions x) same gives in
    ap has_none g.2

-- the count of a recipient
abbrev pub one_of : ℕ → Message → ℕ → Count
one_of age m position = (domain_of (address_at m position), age, 1)

-- What the loop over recipients keeps: these are still to be counted, and behind them all are.
pub record HasLeft (f : Files) (m : Message) (age : ℕ) (first now : AgeTable) (p : Pending) (positions : List ℕ) : Type 0 where
  pub left : List ℕ
  pub ahead : IsPendingAhead f m p left
  pub then_all : (t : AgeTable) → Adds (map (one_of age m) left) now t → Adds (map (one_of age m) positions) first t

-- one more is counted
pub left_less : (f h : Files) (m : Message) (age : ℕ) (first now more : AgeTable) (p q : Pending) (positions : List ℕ) (o : Option Taken) (taken : Taken) (domain : List ℕ) → f ≡ h → o ≡ Some taken
    → ((left : List ℕ) → IsPendingAhead f m p left → GivesPending f m q left o) → domain ≡ domain_of taken.address → Adds ((domain, age, 1) ∷ []) now more
    → HasLeft h m age first now p positions → HasLeft h m age first more q positions
left_less f h m age first now more p q positions o taken domain same is gives named adds kept =
    let ahead = subst (λ (x : Files). IsPendingAhead x m p kept.left) (sym same) kept.ahead in
    let g = subst (λ (x : Option Taken). GivesPending f m q kept.left x) is (gives kept.left ahead) in
    let position = g.0 in
    let rest = g.1 in
    let left : kept.left ≡ g.0 ∷ g.1 = g.2 in
    let name : domain ≡ domain_of (address_at m g.0) = named ∙ ap domain_of g.3.address in
    let one : Adds (one_of age m g.0 ∷ []) now more = subst (λ (d : List ℕ). Adds ((d, age, 1) ∷ []) now more) name adds in
    record {
      left = g.1;
      ahead = subst (λ (x : Files). IsPendingAhead x m q g.1) same g.4;
      then_all = λ t later. kept.then_all t (subst (λ (ps : List ℕ). Adds (map (one_of age m) ps) now t) (sym left) (adds_on (one_of age m g.0 ∷ []) (map (one_of age m) g.1) now more t one later));
    }

-- ---- a message

-- all are ahead of the reader, for files that are the same
pub all_ahead : (f h : Files) (m : Message) (o : Option Pending) (p : Pending) → f ≡ h → o ≡ Some p → IsOpened f m o → IsPendingAhead h m p (pending m)
all_ahead f h m o p same is opened =
    subst (λ (x : Files). IsPendingAhead x m p (pending m)) same (subst (λ (x : Option Pending). IsOpened f m x) is opened)

-- by its sender
pub sender_counted : (m : Message) (senders : Bool) (now age : ℕ) (sender : Option (List ℕ)) (a b : AgeTable) → senders ≡ true → sender ≡ m.sender → age ≡ age_of now m
    → Adds (if has_none (pending m) then [] else (sender_domain sender, age, 1) ∷ []) a b → Adds (counts_of senders now m) a b
sender_counted m senders now age sender a b by same old adds =
    subst (λ (t : Bool). Adds (counts_of t now m) a b) (sym by)
    (subst (λ (s : Option (List ℕ)). Adds (if has_none (pending m) then [] else (sender_domain s, age_of now m, 1) ∷ []) a b) same
    (subst (λ (n : ℕ). Adds (if has_none (pending m) then [] else (sender_domain sender, n, 1) ∷ []) a b) old adds))

-- by its pending recipients
pub recipients_counted : (m : Message) (senders : Bool) (now age : ℕ) (a b : AgeTable) → senders ≡ false → age ≡ age_of now m → Adds (map (one_of age m) (pending m)) a b → Adds (counts_of senders now m) a b
recipients_counted m senders now age a b by old adds =
    subst (λ (t : Bool). Adds (counts_of t now m) a b) (sym by) (subst (λ (n : ℕ). Adds (map (one_of n m) (pending m)) a b) old adds)
