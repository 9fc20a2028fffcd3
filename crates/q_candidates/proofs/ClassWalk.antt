-- A walk along the heads of a class, in search of the least key among those that are wanted.
use Rattle.std.proofs.Common.{◌≡◌, ◌∙◌, ◌+◌, ◌<◌, ◌≤◌, ap, arith, Bool, cond, false, inl, inr, length, List, None, Option, refl, Some, subst, sym, true, ℕ, ◌⊎◌}
use Rattle.std.proofs.lemmas.Bool.{and_parts, both_ways, cases_Bool, eqb-true, ltb-true, leb-true}
use Rattle.std.proofs.lemmas.Bool.Decides.{nat_tests}
use Rattle.std.specs.Option.{option_map_or}
use Rattle.std.specs.Prelude.{◌==◌, ◌&&◌, filter, IfSome, nat_lt, not}
use Rattle.q_dest.specs.declared.dest.Dest.{Dest}
use Rattle.q_heads.proofs.Foremost.{ahead_along, head_stands, not_ahead_of_itself, same_head}
use Rattle.q_heads.proofs.Walk.{first_is_head, has_head, next_is_head, no_head, none_ahead, none_behind, none_between}
use Rattle.q_heads.specs.Lanes.{class_of, foremost, goes_ahead, heads_behind, heads_of, Lanes}
use Rattle.q_heads.specs.Walking.{IsHeadOf}
use Rattle.q_keyed.specs.Numbered.{item_at, Numbered}
use Rattle.q_model.specs.Ids.{id_eq}
use Rattle.q_rounds.proofs.Fewer.{fewer_pass}
use Rattle.q_rounds.proofs.ItemSets.{unless_none}
use Rattle.q_rounds.specs.Rounds.{has_space_at}
use Rattle.q_sorted.specs.declared.ticket.Ticket.{Ticket}
use Rattle.q_sorted.specs.Tickets.{Rises}
use Rattle.q_candidates.specs.declared.candidate.Candidate.{Candidate}
use Rattle.q_candidates.specs.declared.lane.Lane.{Lane}
use Rattle.q_candidates.specs.declared.wanted.Wanted.{Wanted}
use Rattle.q_candidates.specs.Filing.{class_for, lane_of}
use Rattle.q_candidates.specs.Walking.{AreOrdered, AreShut, first_in_lane, is_open, is_past, is_wanted, IsFoundBy, nearer}
use Rattle.q_candidates.proofs.LaneHeads.{has_ticket, its_class, lane_nearest, lane_proper, not_before_key}

-- where the walk stands
abbrev pub AtHead : ℕ → Lanes → Option Ticket → Type 0
AtHead class s at = IfSome at (λ h. IsHeadOf class s h)

-- how many heads are left
abbrev pub heads_left : ℕ → Lanes → Option Ticket → ℕ
heads_left class s at = option_map_or (λ h. length (filter (goes_ahead h) (heads_of class s)) + 1) at 0

module _ (class : ℕ) (s : Lanes) where
  begin_step : (o : Option Ticket) → foremost (heads_of class s) ≡ o → AtHead class s o
  begin_step None is = tt
  begin_step (Some h) is = first_is_head class s h is

  pub walk_begins : (at : Option Ticket) → at ≡ foremost (heads_of class s) → AtHead class s at
  walk_begins at is = begin_step at (sym is)

  pub at_head : (h : Ticket) (at : Option Ticket) → at ≡ Some h → AtHead class s at → IsHeadOf class s h
  at_head h at here walk = subst (AtHead class s) here walk

  next_step : (h : Ticket) (o : Option Ticket) → class_of h.group s.classes ≡ class → foremost (heads_behind h s) ≡ o → AtHead class s o
  next_step h None of next = tt
  next_step h (Some e) of next = (next_is_head class s h of e next).0

  pub walk_goes : (h : Ticket) (at next : Option Ticket) → at ≡ Some h → AtHead class s at → next ≡ foremost (heads_behind h s) → AtHead class s next
  walk_goes h at next here walk is = next_step h next (at_head h at here walk).of_class (sym is)

  left_step : (h : Ticket) (o : Option Ticket) → class_of h.group s.classes ≡ class → foremost (heads_behind h s) ≡ o → heads_left class s o < length (filter (goes_ahead h) (heads_of class s)) + 1
  left_step h None of next = omega arith
  left_step h (Some e) of next =
      let is = next_is_head class s h of e next in
      let fewer = fewer_pass (goes_ahead h) (goes_ahead e) e (heads_of class s) (λ x ahead. ahead_along h e x is.1 ahead) (head_stands class s e is.0) is.1 (not_ahead_of_itself e) in
      omega (arith, fewer)

  pub walk_smaller : (h : Ticket) (at next : Option Ticket) → at ≡ Some h → AtHead class s at → next ≡ foremost (heads_behind h s) → heads_left class s next < heads_left class s at
  walk_smaller h at next here walk is =
      let from = ap (heads_left class s) here in
      let step = left_step h next (at_head h at here walk).of_class (sym is) in
      omega (arith, from, step)

key_of_head : (x h : Ticket) → goes_ahead x h ≡ false → h.key ≤ x.key
key_of_head x h k = grind (arith, nat_tests)

-- What was found is no farther than before, and no farther than what is found now.
abbrev HasKey : Option Ticket → ℕ → Type 0
HasKey o n = (y : Ticket) × (o ≡ Some y) × (y.key ≤ n)

cond_left : (a b : Ticket) (n : ℕ) (t : Bool) → nat_lt b.key a.key ≡ t → a.key ≤ n → HasKey (cond t (Some b) (Some a)) n
cond_left a b n true is low = (b, refl, omega (arith, ltb-true b.key a.key is, low))
cond_left a b n false is low = (a, refl, low)

not_less : (m n : ℕ) → nat_lt m n ≡ false → n ≤ m
not_less m n h = grind (arith, nat_tests)

cond_right : (a b : Ticket) (n : ℕ) (t : Bool) → nat_lt b.key a.key ≡ t → b.key ≤ n → HasKey (cond t (Some b) (Some a)) n
cond_right a b n true is low = (b, refl, low)
cond_right a b n false is low = (a, refl, omega (arith, not_less b.key a.key is, low))

near_left : (a b : Option Ticket) (n : ℕ) → HasKey a n → HasKey (nearer a b) n
near_left None b n has = absurd (unless_none None has.0 refl has.1)
near_left (Some a) None n has = has
near_left (Some a) (Some b) n has =
    let both : Some a ≡ Some has.0 = has.1 in
    let same : a ≡ has.0 = cc in
    cond_left a b n (nat_lt b.key a.key) refl (omega (arith, has.2, ap (λ (x : Ticket). x.key) same))

near_right : (a b : Option Ticket) (n : ℕ) → HasKey b n → HasKey (nearer a b) n
near_right None b n has = has
near_right (Some a) None n has = absurd (unless_none None has.0 refl has.1)
near_right (Some a) (Some b) n has =
    let both : Some b ≡ Some has.0 = has.1 in
    let same : b ≡ has.0 = cc in
    cond_right a b n (nat_lt b.key a.key) refl (omega (arith, has.2, ap (λ (x : Ticket). x.key) same))

near_all : (P : Ticket → Type 0) (a b : Option Ticket) → IfSome a P → IfSome b P → IfSome (nearer a b) P
near_all P None b x y = y
near_all P (Some a) None x y = x
near_all P (Some a) (Some b) x y = step (nat_lt b.key a.key)
  where
    step : (t : Bool) → IfSome (cond t (Some b) (Some a)) P
    step true = y
    step false = x

some_if : (P : Ticket → Type 0) (o : Option Ticket) → ((y : Ticket) → o ≡ Some y → P y) → IfSome o P
some_if P None h = tt
some_if P (Some y) h = h y refl

-- the ticket is of a candidate that is wanted
pub record IsWantedAt (key : Candidate → ℕ) (ds : List Dest) (w : Wanted) (ks : List (Numbered Candidate)) (y : Ticket) : Type 0 where
  pub candidate : Candidate
  pub there : item_at y.item ks ≡ Some candidate
  pub passes : is_wanted ds w candidate ≡ true
  pub keyed : y.key ≡ key candidate

-- all that are wanted in the head's lane have no lesser key than what was found
abbrev IsDone : (Candidate → ℕ) → List (Numbered Lane) → List Dest → Wanted → List (Numbered Candidate) → Option Ticket → Ticket → Type 0
IsDone key lanes ds w ks found x = (n : ℕ) (c : Candidate) → item_at n ks ≡ Some c → is_wanted ds w c ≡ true → lane_of c.site c.need lanes ≡ Some x.group → HasKey found (key c)

-- the head doesn't go ahead of where the walk stands
abbrev IsLeft : Option Ticket → Ticket → Type 0
IsLeft at x = (h : Ticket) × (at ≡ Some h) × (goes_ahead x h ≡ false)

pub record InWalk (key : Candidate → ℕ) (lanes : List (Numbered Lane)) (ks : List (Numbered Candidate)) (s : Lanes) (ds : List Dest) (w : Wanted) (found at : Option Ticket) : Type 0 where
  pub heads : (x : Ticket) → IsHeadOf (class_for false w.transport w.need) s x → IsDone key lanes ds w ks found x ⊎ IsLeft at x
  pub proper : IfSome found (IsWantedAt key ds w ks)

module _ (key : Candidate → ℕ) (lanes : List (Numbered Lane)) (ks : List (Numbered Candidate)) (s : Lanes) (order : AreOrdered key lanes ks s) (rising : Rises s.items) (ds : List Dest) (shut : AreShut ds lanes) (w : Wanted) where
  abbrev class : ℕ
  class = class_for false w.transport w.need

  first_left : (x : Ticket) → IsHeadOf class s x → (o : Option Ticket) → foremost (heads_of class s) ≡ o → IsLeft o x
  first_left x is None first = absurd (no_head class s x first is)
  first_left x is (Some h) first = (h, refl, none_ahead class s h x first is)

  pub in_begins : (at : Option Ticket) → at ≡ foremost (heads_of class s) → InWalk key lanes ks s ds w None at
  in_begins at is = record { heads = λ x own. inr (first_left x own at (sym is)); proper = tt }

  module _ (h : Ticket) (found at : Option Ticket) (here : at ≡ Some h) (is_head : IsHeadOf class s h) (walk : InWalk key lanes ks s ds w found at) where
    abbrev now : Option Ticket
    now = nearer found (first_in_lane ds w ks s.items h)

    own_done : IsDone key lanes ds w ks now h
    own_done n c there wanted laned =
        near_right found (first_in_lane ds w ks s.items h) (key c) (lane_nearest key lanes ks s order rising ds w h is_head.first n c there wanted laned)

    behind_left : (x : Ticket) → IsHeadOf class s x → goes_ahead h x ≡ true → (o : Option Ticket) → foremost (heads_behind h s) ≡ o → IsLeft o x
    behind_left x own ahead None next = absurd (both_ways (goes_ahead h x) (none_behind class s h is_head.of_class x next own) ahead)
    behind_left x own ahead (Some e) next = (e, refl, none_between class s h is_head.of_class e x next own ahead)

    heads_step : (x : Ticket) (next : Option Ticket) → IsHeadOf class s x → next ≡ foremost (heads_behind h s) → IsDone key lanes ds w ks found x ⊎ IsLeft at x → (goes_ahead h x ≡ true) ⊎ (goes_ahead h x ≡ false) → IsDone key lanes ds w ks now x ⊎ IsLeft next x
    heads_step x next own is (inl done) which = inl (λ n c there wanted laned. near_left found (first_in_lane ds w ks s.items h) (key c) (done n c there wanted laned))
    heads_step x next own is (inr left) (inl ahead) = inr (behind_left x own ahead next (sym is))
    heads_step x next own is (inr left) (inr not_ahead) =
        let both : Some left.0 ≡ Some h = sym left.1 ∙ here in
        let one : left.0 ≡ h = cc in
        let same : x ≡ h = same_head class s x h own is_head (ap (goes_ahead x) (sym one) ∙ left.2) not_ahead in
        inl (subst (IsDone key lanes ds w ks now) (sym same) own_done)

    pub in_goes : (next : Option Ticket) → next ≡ foremost (heads_behind h s) → InWalk key lanes ks s ds w now next
    in_goes next is = record {
      heads = λ x own. heads_step x next own is (walk.heads x own) (cases_Bool (goes_ahead h x));
      proper = near_all (IsWantedAt key ds w ks) found (first_in_lane ds w ks s.items h) walk.proper
          (some_if (IsWantedAt key ds w ks) (first_in_lane ds w ks s.items h) (λ y k.
          let p = lane_proper key lanes ks s order rising ds w h is_head.first y k in
          record { candidate = p.candidate; there = p.there; passes = p.passes; keyed = p.keyed }));
    }

  -- The lane of a candidate that is wanted has a head of the class.
  module _ (n : ℕ) (c : Candidate) (there : item_at n ks ≡ Some c) (wanted : is_wanted ds w c ≡ true) where
    open_parts : (c.site.transport ≡ w.transport) × (c.need ≡ w.need) × (has_space_at ds c.site ≡ true)
    open_parts =
        let outer = and_parts (is_open ds w c) (not (id_eq c.id w.except)) wanted in
        let inner = and_parts ((c.site.transport == w.transport) && (c.need == w.need)) (has_space_at ds c.site) outer.0 in
        let parts = and_parts (c.site.transport == w.transport) (c.need == w.need) inner.0 in
        (eqb-true c.site.transport w.transport parts.0, eqb-true c.need w.need parts.1, inner.1)

    record HasLaneHead : Type 0 where
      head : Ticket
      is : IsHeadOf class s head
      laned : lane_of c.site c.need lanes ≡ Some head.group
      low : head.key ≤ key c

    lane_head : HasLaneHead
    lane_head =
        let e = has_ticket key lanes ks s order rising n c there in
        let of : class_of e.ticket.group s.classes ≡ class =
        its_class key lanes ks s order rising ds shut c e.ticket.group open_parts.2 e.lane ∙ ap (λ t. class_for false t c.need) open_parts.0 ∙ ap (class_for false w.transport) open_parts.1 in
        let has = has_head class s e.ticket of rising e.there in
        record {
          head = has.head;
          is = has.is;
          laned = e.lane ∙ ap Some (sym has.lane);
          low = omega (arith, not_before_key e.ticket has.head (sym has.lane) has.first, e.keyed);
        }

    -- it was walked by, or what was found is no farther than where the walk stands
    pub found_low : (found at : Option Ticket) → InWalk key lanes ks s ds w found at → ((h : Ticket) → at ≡ Some h → HasKey found h.key) → HasKey found (key c)
    found_low found at walk past = step (walk.heads lane_head.head lane_head.is)
      where
        step : IsDone key lanes ds w ks found lane_head.head ⊎ IsLeft at lane_head.head → HasKey found (key c)
        step (inl done) = done n c there wanted lane_head.laned
        step (inr left) =
            let f = past left.0 left.1 in
            (f.0, f.1, omega (arith, f.2, key_of_head lane_head.head left.0 left.2, lane_head.low))

  found_step : (found : Option Ticket) → ((n : ℕ) (c : Candidate) → item_at n ks ≡ Some c → is_wanted ds w c ≡ true → HasKey found (key c)) → IfSome found (IsWantedAt key ds w ks) → IsFoundBy key (is_wanted ds w) ks found
  found_step None low proper = λ n c there. none n c there (is_wanted ds w c) refl
    where
      none : (n : ℕ) (c : Candidate) → item_at n ks ≡ Some c → (t : Bool) → is_wanted ds w c ≡ t → t ≡ false
      none n c there true wanted = let has = low n c there wanted in absurd (unless_none None has.0 refl has.1)
      none n c there false wanted = refl
  found_step (Some f) low proper = record {
    candidate = proper.candidate;
    there = proper.there;
    passes = proper.passes;
    least = λ n c there wanted.
        let has = low n c there wanted in
        let both : Some f ≡ Some has.0 = has.1 in
        let same : f ≡ has.0 = cc in
        omega (arith, has.2, ap (λ (x : Ticket). x.key) same, proper.keyed);
  }

  -- nothing is left
  pub in_ends : (found at : Option Ticket) → at ≡ None → InWalk key lanes ks s ds w found at → IsFoundBy key (is_wanted ds w) ks found
  in_ends found at none walk = found_step found (λ n c there wanted. found_low n c there wanted found at walk (λ h here. absurd (unless_none at h none here))) walk.proper

  past_step : (found : Option Ticket) (h : Ticket) → is_past found h ≡ true → HasKey found h.key
  past_step None h is = absurd cc
  past_step (Some f) h is = (f, refl, leb-true f.key h.key is)

  -- or all that is left is farther
  pub in_past : (found at : Option Ticket) (h : Ticket) → at ≡ Some h → is_past found h ≡ true → InWalk key lanes ks s ds w found at → IsFoundBy key (is_wanted ds w) ks found
  in_past found at h here past walk =
      found_step found (λ n c there wanted. found_low n c there wanted found at walk (λ k at_k.
      let both : Some h ≡ Some k = sym here ∙ at_k in
      let same : h ≡ k = cc in
      let has = past_step found h past in
      (has.0, has.1, omega (arith, has.2, ap (λ (x : Ticket). x.key) same)))) walk.proper
