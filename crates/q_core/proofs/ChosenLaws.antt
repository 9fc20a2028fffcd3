-- Which row a delivery takes: the first of its message for its site.
use Rattle.std.proofs.Common.{◌≡◌, ℕ, ◌+◌, ◌^◌, Bool, true, false, cond, List, [], ◌∷◌, refl, sym, ap, ◌∙◌, Option, Some, None, option_map, option_and_then, if◌then◌else◌, ltb-true, arith}
use Rattle.std.specs.List.{cons_option, enumerate_from}
use Rattle.std.specs.Option.{option_map_or}
use Rattle.std.specs.Prelude.{◌&&◌, ◌==◌, filter, filter_map, find, nat_lt, slice_get}
use Rattle.q_core.proofs.NameLaws.{and_true_parts, id_eq-same, id_eq-true}
use Rattle.q_core.specs.Sending.{is_for}
use Rattle.q_laws.proofs.Members.{in_filtered, least_in}
use Rattle.q_model.proofs.IdLaws.{site_eq-refl, site_eq-true}
use Rattle.q_model.specs.Candidates.{best}
use Rattle.q_model.specs.Choice.{choice, last_start, next_row, start_of}
use Rattle.q_model.specs.Sites.{site_eq}
use Rattle.q_model.specs.Accounts.{job_left}
use Rattle.q_model.specs.Ids.{id_eq}
use Rattle.q_model.specs.Ledger.{Ledger}
use Rattle.q_model.specs.Lists.{first_some, least}
use Rattle.q_model.specs.Next.{start_rule}
use Rattle.q_model.specs.Past.{starts}
use Rattle.q_model.specs.Settings.{World}
use Rattle.q_model.specs.Startable.{current, is_startable}
use Rattle.q_model.specs.Values.{Site}
use Rattle.q_model.specs.declared.entry.Entry.{Entry}
use Rattle.q_model.specs.declared.entry.Entry.TheVariants as entries
use Rattle.q_model.specs.declared.id.Id.{Id}
use Rattle.q_model.specs.declared.rows.Row.{Row}

-- ---- the least of those that pass, among equals the first

over_step : {X : Type 0} (before : X → X → Bool) (q : X → Bool) (r x : X) (xs : List X) (o : Option X) → q r ≡ true → (q x ≡ true → before r x ≡ false) → (o ≡ Some r → find q xs ≡ Some r) →
    (b : Bool) → q x ≡ b → Some (option_map_or (λ y. if before y x then y else x) o x) ≡ Some r → cond b (Some x) (find q xs) ≡ Some r
over_step before q r x xs None passes ties later true e h = h
over_step before q r x xs None passes ties later false e h = let same : x ≡ r = cc in let bad : false ≡ true = sym e ∙ ap q same ∙ passes in cc
over_step before q r x xs (Some y) passes ties later b e h = split (before y x) refl b e h
  where
    split : (c : Bool) → before y x ≡ c → (b : Bool) → q x ≡ b → Some (if c then y else x) ≡ Some r → cond b (Some x) (find q xs) ≡ Some r
    split true f true e h = let same : y ≡ r = cc in let bad : true ≡ false = sym f ∙ ap (λ z. before z x) same ∙ ties e in cc
    split true f false e h = later h
    split false f true e h = h
    split false f false e h = let same : x ≡ r = cc in let bad : false ≡ true = sym e ∙ ap q same ∙ passes in cc

least_step : {X : Type 0} (before : X → X → Bool) (p q : X → Bool) (r x : X) (xs : List X) → q r ≡ true → (q x ≡ true → p x ≡ true) → (q x ≡ true → before r x ≡ false) →
    (least before (filter p xs) ≡ Some r → find q xs ≡ Some r) → (a : Bool) → p x ≡ a → least before (cond a (x ∷ filter p xs) (filter p xs)) ≡ Some r → find q (x ∷ xs) ≡ Some r
least_step before p q r x xs passes inside ties later true e h = over_step before q r x xs (least before (filter p xs)) passes ties later (q x) refl h
least_step before p q r x xs passes inside ties later false e h = split (q x) refl
  where
    split : (b : Bool) → q x ≡ b → cond b (Some x) (find q xs) ≡ Some r
    split true f = let bad : false ≡ true = sym e ∙ inside f in cc
    split false f = later h

least_first : {X : Type 0} (before : X → X → Bool) (p q : X → Bool) (r : X) → q r ≡ true → ((y : X) → q y ≡ true → p y ≡ true) → ((y : X) → q y ≡ true → before r y ≡ false) →
    (xs : List X) → least before (filter p xs) ≡ Some r → find q xs ≡ Some r
least_first before p q r passes inside ties [] h = h
least_first before p q r passes inside ties (x ∷ xs) h = least_step before p q r x xs passes (inside x) (ties x) (least_first before p q r passes inside ties xs) (p x) refl h

-- ---- the choice that begins a delivery

same_Some : {A : Type 0} (x y : A) → Some x ≡ Some y → x ≡ y
same_Some x y h = cc

first_given : {A B : Type 0} (f : A → Option B) (x : B) (y : A) (ys : List A) (o : Option B) → f y ≡ o → (slice_get (filter_map f ys) 0 ≡ Some x → (z : A) × (f z ≡ Some x)) → slice_get (cons_option o (filter_map f ys)) 0 ≡ Some x → (z : A) × (f z ≡ Some x)
first_given f x y ys None e later h = later h
first_given f x y ys (Some v) e later h = (y, e ∙ h)

pub some_given : {A B : Type 0} (f : A → Option B) (x : B) (xs : List A) → first_some f xs ≡ Some x → (z : A) × (f z ≡ Some x)
some_given f x [] h = cc
some_given f x (y ∷ ys) h = first_given f x y ys (f y) refl (some_given f x ys) h

-- the row that a current job starts
record IsNextRow (w : World) (l : Ledger) (e : Entry) : Type 0 where
  transport : ℕ
  parent : Id
  row : Row
  next : next_row w l transport parent ≡ Some row
  entry : start_of l row ≡ e

abbrev preempt_or : Ledger → ℕ → Id → Option Id → Option Row → Option Entry
preempt_or l t parent o q = option_map_or (λ child. Some (entries.Preempt child parent t (job_left l child t))) o (option_map (start_of l) q)

row_chosen : (w : World) (l : Ledger) (t : ℕ) (parent : Id) (number : ℕ) (id : Id) (site : Site) (ps : List ℕ) (o : Option Id) (q : Option Row) → next_row w l t parent ≡ q →
    preempt_or l t parent o q ≡ Some (entries.Start number id site ps) → IsNextRow w l (entries.Start number id site ps)
row_chosen w l t parent number id site ps (Some child) q e h = let bad = same_Some (entries.Preempt child parent t (job_left l child t)) (entries.Start number id site ps) h in cc
row_chosen w l t parent number id site ps None None e h = cc
row_chosen w l t parent number id site ps None (Some r) e h = record { transport = t; parent = parent; row = r; next = e; entry = same_Some (start_of l r) (entries.Start number id site ps) h }

job_chosen : (w : World) (l : Ledger) (t number : ℕ) (id : Id) (site : Site) (ps : List ℕ) (o : Option Id) →
    option_and_then (λ parent. preempt_or l t parent (best w l t parent) (next_row w l t parent)) o ≡ Some (entries.Start number id site ps) → IsNextRow w l (entries.Start number id site ps)
job_chosen w l t number id site ps None h = cc
job_chosen w l t number id site ps (Some parent) h = row_chosen w l t parent number id site ps (best w l t parent) (next_row w l t parent) refl h

-- what a delivery that begins takes
pub record IsChosen (l : Ledger) (number : ℕ) (id : Id) (site : Site) (ps : List ℕ) : Type 0 where
  pub few : nat_lt (starts l) (2 ^ 48) ≡ true
  pub count : number ≡ starts l + 1
  pub first : find (is_for id site) l.waiting ≡ Some (record { id = id; site = site; positions = ps })

not_less : (n : ℕ) → nat_lt n n ≡ false
not_less n = test (nat_lt n n) refl
  where
    test : (b : Bool) → nat_lt n n ≡ b → b ≡ false
    test false e = refl
    test true e = let bad = ltb-true n n e in absurd (omega (arith, bad))

-- the row by what the tests look at
abbrev startable_at : World → Ledger → Id → ℕ → Id → Site → Bool
startable_at w l parent t id site = id_eq id parent && (site.transport == t) && is_startable w l (record { id = id; site = site; positions = [] })

row_first : (w : World) (l : Ledger) (t : ℕ) (parent : Id) (r : Row) → next_row w l t parent ≡ Some r → find (is_for r.id r.site) l.waiting ≡ Some r
row_first w l t parent r h =
    let p : Row → Bool = λ x. id_eq x.id parent && (x.site.transport == t) && is_startable w l x in
    let before : Row → Row → Bool = λ a b. nat_lt (last_start l a) (last_start l b) in
    let passes : p r ≡ true = (in_filtered p r l.waiting (least_in before r (filter p l.waiting) h)).1 in
    let same : (y : Row) → is_for r.id r.site y ≡ true → (y.id ≡ r.id) × (y.site ≡ r.site) = λ y e.
    let both = and_true_parts (id_eq y.id r.id) (site_eq y.site r.site) e in (id_eq-true y.id r.id both.0, site_eq-true y.site r.site both.1) in
    least_first before p (is_for r.id r.site) r
    (ap (λ b. b && site_eq r.site r.site) (id_eq-same r.id) ∙ site_eq-refl r.site)
    (λ y e. ap (λ i. startable_at w l parent t i y.site) (same y e).0 ∙ ap (startable_at w l parent t r.id) (same y e).1 ∙ passes)
    (λ y e. ap (λ i. nat_lt (last_start l r) (last_start l (record { id = i; site = y.site; positions = [] }))) (same y e).0
    ∙ ap (λ s. nat_lt (last_start l r) (last_start l (record { id = r.id; site = s; positions = [] }))) (same y e).1
    ∙ not_less (last_start l r))
    l.waiting h

row_is : (w : World) (l : Ledger) (number : ℕ) (id : Id) (site : Site) (ps : List ℕ) → nat_lt (starts l) (2 ^ 48) ≡ true → IsNextRow w l (entries.Start number id site ps) → IsChosen l number id site ps
row_is w l number id site ps few n =
    let r : Row = n.row in
    let e : start_of l r ≡ entries.Start number id site ps = n.entry in
    let count : starts l + 1 ≡ number = cc in
    let name : r.id ≡ id = cc in
    let there : r.site ≡ site = cc in
    let whole : r.positions ≡ ps = cc in
    let first = row_first w l n.transport n.parent r n.next in
    let same : r ≡ record { id = id; site = site; positions = ps } =
    ap (λ x. record { id = x; site = r.site; positions = r.positions }) name
    ∙ ap (λ x. record { id = id; site = x; positions = r.positions }) there
    ∙ ap (λ x. record { id = id; site = site; positions = x }) whole in
    record {
      few = few;
      count = sym count;
      first = ap (λ i. find (is_for i site) l.waiting) (sym name) ∙ ap (λ s. find (is_for r.id s) l.waiting) (sym there) ∙ first ∙ ap Some same;
    }

chosen_on : (w : World) (l : Ledger) (number : ℕ) (id : Id) (site : Site) (ps : List ℕ) (b : Bool) → nat_lt (starts l) (2 ^ 48) ≡ b →
    (if b then first_some (λ (line : ℕ × List Id). choice w l line.0) (enumerate_from 0 l.lines) else None) ≡ Some (entries.Start number id site ps) → IsChosen l number id site ps
chosen_on w l number id site ps false few h = cc
chosen_on w l number id site ps true few h =
    let one = some_given (λ (line : ℕ × List Id). choice w l line.0) (entries.Start number id site ps) (enumerate_from 0 l.lines) h in
    row_is w l number id site ps few (job_chosen w l (one.0).0 number id site ps (current w l (one.0).0) one.1)

pub chosen_row : (w : World) (l : Ledger) (number : ℕ) (id : Id) (site : Site) (ps : List ℕ) → start_rule w l ≡ Some (entries.Start number id site ps) → IsChosen l number id site ps
chosen_row w l number id site ps h = chosen_on w l number id site ps (nat_lt (starts l) (2 ^ 48)) refl h
