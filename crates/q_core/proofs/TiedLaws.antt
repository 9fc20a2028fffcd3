-- What holds of a core's parts goes on to hold as rows come, move and go.
use Rattle.std.proofs.Common.{◌≡◌, ◌∙◌, ◌+◌, ◌-◌, ◌<◌, ◌≤◌, ◌^◌, add-zero, ap, arith, Bool, cond, false, length, List, [], ◌∷◌, ◌++◌, map, None, Option, refl, Some, subst, sym, true, ℕ}
use Rattle.std.proofs.lemmas.Grind.{common_steps}
use Rattle.std.specs.List.{remove}
use Rattle.std.specs.Option.{option_map_or}
use Rattle.std.specs.Prelude.{◌==◌, filter, find, not, slice_get}
use Rattle.q_core.specs.Counting.{counted_as, more, recounted, with_flight, with_row_put_off, with_unsettled, with_waiting, without_flight, without_unsettled}
use Rattle.q_core.specs.Ties.{AreCounted, AreNamed, AreNumbered, AreTied, count_of, kept_of}
use Rattle.q_core.proofs.NameLaws.{id_eq-same, id_eq-true}
use Rattle.q_core.proofs.CountLaws.{count_more, count_within, count_without}
use Rattle.q_core.proofs.TieLaws.{tie_kept, tie_left, tie_more, tie_set}
use Rattle.q_core.proofs.ServedLaws.{all_filtered, all_last, all_weaker}
use Rattle.q_flights.proofs.Rising.{count_left}
use Rattle.q_flights.specs.Flying.{AreRising, IsAbove}
use Rattle.q_model.specs.declared.id.Id.{Id}
use Rattle.q_model.specs.declared.rows.Delivery.{Delivery}
use Rattle.q_model.specs.declared.rows.Need.TheVariants as needs
use Rattle.q_model.specs.declared.rows.Row.{Row}
use Rattle.q_model.specs.declared.rows.Unsettled.{Unsettled}
use Rattle.q_model.specs.Ids.{id_eq}
use Rattle.q_model.specs.Logs.{first_logged}
use Rattle.q_model.specs.Settings.{Settings}
use Rattle.q_pool.specs.Kept.{is_of, kept_at}
use Rattle.q_pool.specs.Pooled.{Pooled}
use Rattle.q_pool.specs.declared.kept.Kept.{Kept}
use Rattle.q_pool.specs.declared.slot.Slot.{Slot}

-- items of one message

named_step : {X : Type 0} (name : X → Id) (y : Id) (x : X) (xs : List X) (b : Bool) → id_eq (name x) y ≡ b → count_of name y (x ∷ xs) ≡ cond b 1 0 + count_of name y xs
named_step name y x xs b t = grind (arith, common_steps)

pub count_named : {X : Type 0} (name : X → Id) (id : Id) (xs : List X) → AreNamed name id xs → count_of name id xs ≡ length xs
count_named name id [] h = refl
count_named name id (x ∷ xs) h =
    let like : id_eq (name x) id ≡ true = ap (λ i. id_eq i id) h.0 ∙ id_eq-same id in
    let rest = count_named name id xs h.1 in
    let step = named_step name id x xs true like in omega (arith, step, rest)

other_way : (a b : Id) → id_eq a b ≡ false → (t : Bool) → id_eq b a ≡ t → t ≡ false
other_way a b h false t = refl
other_way a b h true t = let same : b ≡ a = id_eq-true b a t in let bad : true ≡ false = sym (id_eq-same a) ∙ ap (id_eq a) (sym same) ∙ h in cc

pub count_others : {X : Type 0} (name : X → Id) (id y : Id) (xs : List X) → id_eq id y ≡ false → AreNamed name id xs → count_of name y xs ≡ 0
count_others name id y [] apart h = refl
count_others name id y (x ∷ xs) apart h =
    let unlike : id_eq (name x) y ≡ false = ap (λ i. id_eq i y) h.0 ∙ apart in
    let step = named_step name y x xs false unlike in
    let rest = count_others name id y xs apart h.1 in
    omega (arith, step, rest)

-- one message's counts change

pub tie_as : {X : Type 0} (g : Kept → ℕ) (name : X → Id) (ks : List Kept) (xs ys : List X) (id : Id) (change : Kept → Kept) (k : Kept) → AreCounted g name ks xs → find (is_of id) ks ≡ Some k →
    g (record k { waiting = (change k).waiting; flying = (change k).flying; unsettled = (change k).unsettled }) ≡ count_of name id ys → ((y : Id) → id_eq id y ≡ false → count_of name y ys ≡ count_of name y xs) → AreCounted g name (recounted change id ks) ys
tie_as g name ks xs ys id change k tie there own others =
    subst (λ o. AreCounted g name (option_map_or (λ k. counted_as id (change k) ks) o ks) ys) (sym there)
    (tie_set g name ks xs ys id (change k).waiting (change k).flying (change k).unsettled k tie there own others)

here : {X : Type 0} (g : Kept → ℕ) (name : X → Id) (ks : List Kept) (xs : List X) (id : Id) (k : Kept) → AreCounted g name ks xs → find (is_of id) ks ≡ Some k → g k ≡ count_of name id xs
here g name ks xs id k tie there = ap (λ o. option_map_or g o 0) (sym there) ∙ tie id

-- a list that isn't touched
pub tie_stays : {X : Type 0} (g : Kept → ℕ) (name : X → Id) (ks : List Kept) (xs : List X) (id : Id) (change : Kept → Kept) (k : Kept) → AreCounted g name ks xs → find (is_of id) ks ≡ Some k →
    g (record k { waiting = (change k).waiting; flying = (change k).flying; unsettled = (change k).unsettled }) ≡ g k → AreCounted g name (recounted change id ks) xs
tie_stays g name ks xs id change k tie there same = tie_as g name ks xs xs id change k tie there (same ∙ here g name ks xs id k tie there) (λ y apart. refl)

-- some come
pub tie_comes : {X : Type 0} (g : Kept → ℕ) (name : X → Id) (ks : List Kept) (xs new : List X) (id : Id) (change : Kept → Kept) (k : Kept) (n : ℕ) → AreCounted g name ks xs → find (is_of id) ks ≡ Some k →
    g (record k { waiting = (change k).waiting; flying = (change k).flying; unsettled = (change k).unsettled }) ≡ more n (g k) → n ≡ length new → length (xs ++ new) < 2 ^ 64 → AreNamed name id new → AreCounted g name (recounted change id ks) (xs ++ new)
tie_comes g name ks xs new id change k n tie there is many few named =
    let before = here g name ks xs id k tie there in
    let sum = count_more (λ x. id_eq (name x) id) xs new in
    let all = count_named name id new named in
    let within = count_within (λ x. id_eq (name x) id) (xs ++ new) in
    let own : more n (g k) ≡ count_of name id (xs ++ new) = omega (arith, before, sum, all, within, many, few) in
    tie_as g name ks xs (xs ++ new) id change k tie there (is ∙ own)
    (λ y apart. count_more (λ x. id_eq (name x) y) xs new ∙ ap (λ m. count_of name y xs + m) (count_others name id y new apart named) ∙ add-zero (count_of name y xs))

-- one goes
pub tie_goes : {X : Type 0} (g : Kept → ℕ) (name : X → Id) (ks : List Kept) (xs : List X) (i : ℕ) (x : X) (change : Kept → Kept) (k : Kept) → AreCounted g name ks xs → find (is_of (name x)) ks ≡ Some k → slice_get xs i ≡ Some x →
    g (record k { waiting = (change k).waiting; flying = (change k).flying; unsettled = (change k).unsettled }) ≡ g k - 1 → AreCounted g name (recounted change (name x) ks) (remove xs i)
tie_goes g name ks xs i x change k tie there at is =
    let id = name x in
    let before = here g name ks xs id k tie there in
    let out = count_without (λ y. id_eq (name y) id) xs i x at ∙ ap (λ b. count_of name id (remove xs i) + cond b 1 0) (id_eq-same id) in
    tie_as g name ks xs (remove xs i) id change k tie there (is ∙ omega (arith, before, out))
    (λ y apart. add-zero-sym (count_of name y (remove xs i)) ∙ sym (count_without (λ z. id_eq (name z) y) xs i x at ∙ ap (λ b. count_of name y (remove xs i) + cond b 1 0) apart))
  where
    add-zero-sym : (n : ℕ) → n ≡ n + 0
    add-zero-sym n = sym (add-zero n)

-- what is there has a message in memory

some_kept : (g : Kept → ℕ) (o : Option Kept) (n : ℕ) → option_map_or g o 0 ≡ n + 1 → (k : Kept) × (o ≡ Some k)
some_kept g None n h = absurd (omega (arith, h))
some_kept g (Some k) n h = (k, refl)

pub in_memory : {X : Type 0} (g : Kept → ℕ) (name : X → Id) (ks : List Kept) (xs : List X) (i : ℕ) (x : X) → AreCounted g name ks xs → slice_get xs i ≡ Some x → (k : Kept) × (find (is_of (name x)) ks ≡ Some k)
in_memory g name ks xs i x tie at =
    let id = name x in
    some_kept g (find (is_of id) ks) (count_of name id (remove xs i))
    (tie id ∙ count_without (λ y. id_eq (name y) id) xs i x at ∙ ap (λ b. count_of name id (remove xs i) + cond b 1 0) (id_eq-same id))

-- numbers of deliveries

numbered_more : (starts n : ℕ) (fs : List Delivery) (g : Delivery) → starts < n → g.number ≡ n → AreNumbered starts fs → AreNumbered n (fs ++ g ∷ [])
numbered_more starts n fs g less is h =
    all_last (λ (f : Delivery). f.number ≤ n) fs g (all_weaker (λ (f : Delivery). f.number ≤ starts) (λ f. f.number ≤ n) (λ f low. omega (arith, less, low)) fs h) (omega (arith, is))

-- the next number is above all others
pub numbered_below : (starts n : ℕ) (fs : List Delivery) → starts < n → AreNumbered starts fs → IsAbove n fs
numbered_below starts n fs less h = all_weaker (λ (f : Delivery). f.number ≤ starts) (λ f. f.number < n) (λ f low. omega (arith, less, low)) fs h

-- the parts together

pub tied_kept : (p : Settings) (m n : Pooled) (rows : List Row) (fs : List Delivery) (us : List Unsettled) (starts : ℕ) (id : Id) (f : Slot → Slot) → ((s : Slot) → (f s).id ≡ s.id) →
    n ≡ record m { items = map (kept_at id f) m.items } → AreTied p m rows fs us starts → AreTied p n rows fs us starts
tied_kept p m n rows fs us starts id f same is h = subst (λ x. AreTied p x rows fs us starts) (sym is) (record {
  numbers = h.numbers;
  pool = record { room = h.pool.room; sync_limit = h.pool.sync_limit; minimum = h.pool.minimum };
  waiting = tie_kept (λ k. k.waiting) (λ (r : Row). r.id) m.items rows id f same (λ k s. refl) h.waiting;
  flights = tie_kept (λ k. k.flying) (λ (x : Delivery). x.row.id) m.items fs id f same (λ k s. refl) h.flights;
  unsettled = tie_kept (λ k. k.unsettled) (λ (u : Unsettled). u.id) m.items us id f same (λ k s. refl) h.unsettled;
})

pub tied_more : (p : Settings) (m n : Pooled) (rows : List Row) (fs : List Delivery) (us : List Unsettled) (starts : ℕ) (s : Slot) →
    n ≡ record m { items = m.items ++ record { slot = s; waiting = 0; flying = 0; unsettled = 0 } ∷ [] } → AreTied p m rows fs us starts → AreTied p n rows fs us starts
tied_more p m n rows fs us starts s is h = subst (λ x. AreTied p x rows fs us starts) (sym is) (record {
  numbers = h.numbers;
  pool = record { room = h.pool.room; sync_limit = h.pool.sync_limit; minimum = h.pool.minimum };
  waiting = tie_more (λ k. k.waiting) (λ (r : Row). r.id) m.items rows _ refl h.waiting;
  flights = tie_more (λ k. k.flying) (λ (x : Delivery). x.row.id) m.items fs _ refl h.flights;
  unsettled = tie_more (λ k. k.unsettled) (λ (u : Unsettled). u.id) m.items us _ refl h.unsettled;
})

pub tied_left : (p : Settings) (m n : Pooled) (rows : List Row) (fs : List Delivery) (us : List Unsettled) (starts : ℕ) (id : Id) →
    kept_of (λ k. k.waiting) m.items id ≡ 0 → kept_of (λ k. k.flying) m.items id ≡ 0 → kept_of (λ k. k.unsettled) m.items id ≡ 0 →
    n ≡ record m { items = filter (λ k. not (is_of id k)) m.items } → AreTied p m rows fs us starts → AreTied p n rows fs us starts
tied_left p m n rows fs us starts id w f u is h = subst (λ x. AreTied p x rows fs us starts) (sym is) (record {
  numbers = h.numbers;
  pool = record { room = h.pool.room; sync_limit = h.pool.sync_limit; minimum = h.pool.minimum };
  waiting = tie_left (λ k. k.waiting) (λ (r : Row). r.id) m.items rows id h.waiting w;
  flights = tie_left (λ k. k.flying) (λ (x : Delivery). x.row.id) m.items fs id h.flights f;
  unsettled = tie_left (λ k. k.unsettled) (λ (u : Unsettled). u.id) m.items us id h.unsettled u;
})

-- rows are read
pub tied_read : (p : Settings) (m n : Pooled) (rows new : List Row) (fs : List Delivery) (us : List Unsettled) (starts : ℕ) (id : Id) (k : Kept) (many : ℕ) → find (is_of id) m.items ≡ Some k →
    many ≡ length new → length (rows ++ new) < 2 ^ 64 → AreNamed (λ (r : Row). r.id) id new →
    n ≡ record m { items = recounted (with_waiting many) id m.items } → AreTied p m rows fs us starts → AreTied p n (rows ++ new) fs us starts
tied_read p m n rows new fs us starts id k many there is few named to h = subst (λ x. AreTied p x (rows ++ new) fs us starts) (sym to) (record {
  numbers = h.numbers;
  pool = record { room = h.pool.room; sync_limit = h.pool.sync_limit; minimum = h.pool.minimum };
  waiting = tie_comes (λ k. k.waiting) (λ (r : Row). r.id) m.items rows new id (with_waiting many) k many h.waiting there refl is few named;
  flights = tie_stays (λ k. k.flying) (λ (x : Delivery). x.row.id) m.items fs id (with_waiting many) k h.flights there refl;
  unsettled = tie_stays (λ k. k.unsettled) (λ (u : Unsettled). u.id) m.items us id (with_waiting many) k h.unsettled there refl;
})

-- a row is sent
pub tied_sent : (p : Settings) (m n : Pooled) (rows : List Row) (i : ℕ) (r : Row) (fs : List Delivery) (us : List Unsettled) (starts number : ℕ) → slice_get rows i ≡ Some r → starts < number →
    length (fs ++ record { number = number; row = r } ∷ []) < 2 ^ 64 →
    n ≡ record m { items = recounted with_flight r.id m.items } → AreTied p m rows fs us starts → AreTied p n (remove rows i) (fs ++ record { number = number; row = r } ∷ []) us number
tied_sent p m n rows i r fs us starts number at less few to h =
    let own = in_memory (λ k. k.waiting) (λ (r : Row). r.id) m.items rows i r h.waiting at in
    let k = own.0 in
    let there = own.1 in
    subst (λ x. AreTied p x (remove rows i) (fs ++ record { number = number; row = r } ∷ []) us number) (sym to) (record {
      numbers = numbered_more starts number fs (record { number = number; row = r }) less refl h.numbers;
      pool = record { room = h.pool.room; sync_limit = h.pool.sync_limit; minimum = h.pool.minimum };
      waiting = tie_goes (λ k. k.waiting) (λ (r : Row). r.id) m.items rows i r with_flight k h.waiting there at refl;
      flights = tie_comes (λ k. k.flying) (λ (x : Delivery). x.row.id) m.items fs (record { number = number; row = r } ∷ []) r.id with_flight k 1 h.flights there refl refl few (refl, tt);
      unsettled = tie_stays (λ k. k.unsettled) (λ (u : Unsettled). u.id) m.items us r.id with_flight k h.unsettled there refl;
    })

-- a row is put off
pub tied_put_off : (p : Settings) (m n : Pooled) (rows : List Row) (i : ℕ) (r : Row) (fs : List Delivery) (us new : List Unsettled) (starts many : ℕ) → slice_get rows i ≡ Some r →
    many ≡ length new → length (us ++ new) < 2 ^ 64 → AreNamed (λ (u : Unsettled). u.id) r.id new →
    n ≡ record m { items = recounted (with_row_put_off many) r.id m.items } → AreTied p m rows fs us starts → AreTied p n (remove rows i) fs (us ++ new) starts
tied_put_off p m n rows i r fs us new starts many at is few named to h =
    let own = in_memory (λ k. k.waiting) (λ (r : Row). r.id) m.items rows i r h.waiting at in
    let k = own.0 in
    let there = own.1 in
    subst (λ x. AreTied p x (remove rows i) fs (us ++ new) starts) (sym to) (record {
      numbers = h.numbers;
      pool = record { room = h.pool.room; sync_limit = h.pool.sync_limit; minimum = h.pool.minimum };
      waiting = tie_goes (λ k. k.waiting) (λ (r : Row). r.id) m.items rows i r (with_row_put_off many) k h.waiting there at refl;
      flights = tie_stays (λ k. k.flying) (λ (x : Delivery). x.row.id) m.items fs r.id (with_row_put_off many) k h.flights there refl;
      unsettled = tie_comes (λ k. k.unsettled) (λ (u : Unsettled). u.id) m.items us new r.id (with_row_put_off many) k many h.unsettled there refl is few named;
    })

-- outcomes come
pub tied_replied : (p : Settings) (m n : Pooled) (rows : List Row) (fs : List Delivery) (us new : List Unsettled) (starts : ℕ) (id : Id) (k : Kept) (many : ℕ) → find (is_of id) m.items ≡ Some k →
    many ≡ length new → length (us ++ new) < 2 ^ 64 → AreNamed (λ (u : Unsettled). u.id) id new →
    n ≡ record m { items = recounted (with_unsettled many) id m.items } → AreTied p m rows fs us starts → AreTied p n rows fs (us ++ new) starts
tied_replied p m n rows fs us new starts id k many there is few named to h = subst (λ x. AreTied p x rows fs (us ++ new) starts) (sym to) (record {
  numbers = h.numbers;
  pool = record { room = h.pool.room; sync_limit = h.pool.sync_limit; minimum = h.pool.minimum };
  waiting = tie_stays (λ k. k.waiting) (λ (r : Row). r.id) m.items rows id (with_unsettled many) k h.waiting there refl;
  flights = tie_stays (λ k. k.flying) (λ (x : Delivery). x.row.id) m.items fs id (with_unsettled many) k h.flights there refl;
  unsettled = tie_comes (λ k. k.unsettled) (λ (u : Unsettled). u.id) m.items us new id (with_unsettled many) k many h.unsettled there refl is few named;
})

-- the first outcome is settled
pub tied_settled : (p : Settings) (m n : Pooled) (rows : List Row) (fs : List Delivery) (us : List Unsettled) (starts : ℕ) (i : ℕ) (u : Unsettled) → slice_get us i ≡ Some u →
    n ≡ record m { items = recounted (without_unsettled 1) u.id m.items } → AreTied p m rows fs us starts → AreTied p n rows fs (remove us i) starts
tied_settled p m n rows fs us starts i u at to h =
    let own = in_memory (λ k. k.unsettled) (λ (u : Unsettled). u.id) m.items us i u h.unsettled at in
    let k = own.0 in
    let there = own.1 in
    subst (λ x. AreTied p x rows fs (remove us i) starts) (sym to) (record {
      numbers = h.numbers;
      pool = record { room = h.pool.room; sync_limit = h.pool.sync_limit; minimum = h.pool.minimum };
      waiting = tie_stays (λ k. k.waiting) (λ (r : Row). r.id) m.items rows u.id (without_unsettled 1) k h.waiting there refl;
      flights = tie_stays (λ k. k.flying) (λ (x : Delivery). x.row.id) m.items fs u.id (without_unsettled 1) k h.flights there refl;
      unsettled = tie_goes (λ k. k.unsettled) (λ (u : Unsettled). u.id) m.items us i u (without_unsettled 1) k h.unsettled there at refl;
    })

-- the first outcome needs its mark next
logged_same : (y : Id) (us : List Unsettled) → count_of (λ (u : Unsettled). u.id) y (first_logged us) ≡ count_of (λ (u : Unsettled). u.id) y us
logged_same y [] = refl
logged_same y (u ∷ us) = named_step (λ (u : Unsettled). u.id) y (record u { need = needs.Mark }) us (id_eq u.id y) refl ∙ sym (named_step (λ (u : Unsettled). u.id) y u us (id_eq u.id y) refl)

pub tied_logged : (p : Settings) (m : Pooled) (rows : List Row) (fs : List Delivery) (us : List Unsettled) (starts : ℕ) → AreTied p m rows fs us starts → AreTied p m rows fs (first_logged us) starts
tied_logged p m rows fs us starts h = record {
  numbers = h.numbers;
  pool = h.pool;
  waiting = h.waiting;
  flights = h.flights;
  unsettled = λ y. h.unsettled y ∙ sym (logged_same y us);
}

-- a delivery is over
pub tied_landed : (p : Settings) (m n : Pooled) (rows : List Row) (fs : List Delivery) (us : List Unsettled) (starts number : ℕ) (f : Delivery) → find (λ (x : Delivery). x.number == number) fs ≡ Some f →
    AreRising fs →
    n ≡ record m { items = recounted without_flight f.row.id m.items } → AreTied p m rows fs us starts → AreTied p n rows (filter (λ (x : Delivery). not (x.number == number)) fs) us starts
tied_landed p m n rows fs us starts number f at rise to h =
    let id = f.row.id in
    let left = filter (λ (x : Delivery). not (x.number == number)) fs in
    let landed = λ (y : Id). count_left (λ (x : Delivery). id_eq x.row.id y) number fs f rise at in
    let out = landed id ∙ ap (λ b. count_of (λ (x : Delivery). x.row.id) id left + cond b 1 0) (id_eq-same id) in
    let own = some_kept (λ k. k.flying) (find (is_of id) m.items) (count_of (λ (x : Delivery). x.row.id) id left) (h.flights id ∙ out) in
    let k = own.0 in
    let there = own.1 in
    let before = here (λ k. k.flying) (λ (x : Delivery). x.row.id) m.items fs id k h.flights there in
    subst (λ x. AreTied p x rows left us starts) (sym to) (record {
      numbers = all_filtered (λ (x : Delivery). x.number ≤ starts) (λ x. not (x.number == number)) fs h.numbers;
      pool = record { room = h.pool.room; sync_limit = h.pool.sync_limit; minimum = h.pool.minimum };
      waiting = tie_stays (λ k. k.waiting) (λ (r : Row). r.id) m.items rows id without_flight k h.waiting there refl;
      flights = tie_as (λ k. k.flying) (λ (x : Delivery). x.row.id) m.items fs left id without_flight k h.flights there (omega (arith, before, out))
          (λ y apart. sym (landed y ∙ ap (λ b. count_of (λ (x : Delivery). x.row.id) y left + cond b 1 0) apart ∙ add-zero (count_of (λ (x : Delivery). x.row.id) y left)));
      unsettled = tie_stays (λ k. k.unsettled) (λ (u : Unsettled). u.id) m.items us id without_flight k h.unsettled there refl;
    })

-- at the beginning there is nothing
pub tied_new : (p : Settings) (m : Pooled) (rows : List Row) (fs : List Delivery) (us : List Unsettled) → m ≡ record { items = []; room = p.active_limit; sync_limit = p.mark_sync_limit; minimum = p.recipient_minimum } →
    rows ≡ [] → fs ≡ [] → us ≡ [] → AreTied p m rows fs us 0
tied_new p m rows fs us is r f u =
    subst (λ x. AreTied p x rows fs us 0) (sym is) (subst (λ x. AreTied p (record { items = []; room = p.active_limit; sync_limit = p.mark_sync_limit; minimum = p.recipient_minimum }) x fs us 0) (sym r)
    (subst (λ x. AreTied p (record { items = []; room = p.active_limit; sync_limit = p.mark_sync_limit; minimum = p.recipient_minimum }) [] x us 0) (sym f)
    (subst (λ x. AreTied p (record { items = []; room = p.active_limit; sync_limit = p.mark_sync_limit; minimum = p.recipient_minimum }) [] [] x 0) (sym u) (record {
      numbers = tt;
      pool = record { room = refl; sync_limit = refl; minimum = refl };
      waiting = λ id. refl;
      flights = λ id. refl;
      unsettled = λ id. refl;
    }))))
