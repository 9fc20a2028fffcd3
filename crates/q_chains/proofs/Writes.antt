-- What is written into the two arrays, place by place.
use Rattle.std.proofs.Common.{◌≡◌, ◌∙◌, ◌≢◌, ◌<◌, ◌≤◌, ◌^◌, get_or, length, List, set, subst, sym, ℕ}
use Rattle.std.proofs.lemmas.List.{get_or-set_other, get_or-set_same, length-set}
use Rattle.std.proofs.lemmas.List.Elements.{All-get_or, All-set}
use Rattle.std.specs.List.{All}
use Rattle.q_chains.specs.Laid.{AreJoined, led_past, put_between}
use Rattle.q_chains.proofs.Paths.{LeadsOver, LeadsPast}
use Rattle.q_chains.proofs.Places.{other_way}

-- after two writes
got_first : (xs : List ℕ) (i x j y : ℕ) → i < length xs → i ≢ j → get_or (set (set xs i x) j y) i 0 ≡ x
got_first xs i x j y h k = get_or-set_other (set xs i x) j i y 0 k ∙ get_or-set_same xs i x 0 h

got_second : (xs : List ℕ) (i x j y : ℕ) → j < length xs → get_or (set (set xs i x) j y) j 0 ≡ y
got_second xs i x j y h = get_or-set_same (set xs i x) j y 0 (subst (λ (n : ℕ). j < n) (sym (length-set xs i x)) h)

got_other : (xs : List ℕ) (i x j y p : ℕ) → p ≢ j → p ≢ i → get_or (set (set xs i x) j y) p 0 ≡ get_or xs p 0
got_other xs i x j y p h k = get_or-set_other (set xs i x) j p y 0 h ∙ get_or-set_other xs i p x 0 k

pub same_length : (xs : List ℕ) (i x j y : ℕ) → length (set (set xs i x) j y) ≡ length xs
same_length xs i x j y = length-set (set xs i x) j y ∙ length-set xs i x

pub within_next : (nx bf : List ℕ) (p : ℕ) → AreJoined nx bf → p < length nx → get_or nx p 0 < length nx
within_next nx bf p joined h = All-get_or (λ q. q < length nx) nx p 0 h joined.next

pub within_before : (nx bf : List ℕ) (p : ℕ) → AreJoined nx bf → p < length nx → get_or bf p 0 < length nx
within_before nx bf p joined h = All-get_or (λ q. q < length nx) bf p 0 (subst (λ (n : ℕ). p < n) (sym joined.same) h) joined.before

-- places lead to places still
pub joined_written : (nx bf : List ℕ) (i x j y k z l w : ℕ) → AreJoined nx bf → x < length nx → y < length nx → z < length nx → w < length nx → AreJoined (set (set nx i x) j y) (set (set bf k z) l w)
joined_written nx bf i x j y k z l w joined hx hy hz hw =
    let len = same_length nx i x j y in
    record {
      same = same_length bf k z l w ∙ joined.same ∙ sym len;
      few = subst (λ (n : ℕ). n ≤ 2 ^ 32) (sym len) joined.few;
      next = subst (λ (n : ℕ). All (λ p. p < n) (set (set nx i x) j y)) (sym len) (All-set (λ p. p < length nx) (set nx i x) j y hy (All-set (λ p. p < length nx) nx i x hx joined.next));
      before = subst (λ (n : ℕ). All (λ p. p < n) (set (set bf k z) l w)) (sym len) (All-set (λ p. p < length nx) (set bf k z) l w hw (All-set (λ p. p < length nx) bf k z hz joined.before));
    }

-- a number is led past
pub past_written : (nx bf : List ℕ) (n : ℕ) → AreJoined nx bf → n < length nx → LeadsPast nx bf (led_past nx bf n) (led_past bf nx n) n
past_written nx bf n joined h =
    let p = get_or bf n 0 in
    let q = get_or nx n 0 in
    let to_next = subst (λ (m : ℕ). q < m) (sym joined.same) (within_next nx bf n joined h) in
    let own = subst (λ (m : ℕ). n < m) (sym joined.same) h in
    record {
      next_at = λ k. got_first nx p q n n (within_before nx bf n joined h) k;
      before_at = λ k. got_first bf q p n n to_next k;
      next = λ r k l. got_other nx p q n n r k l;
      before = λ r k l. got_other bf q p n n r k l;
      own_next = got_second nx p q n n h;
      own_before = got_second bf q p n n own;
    }

-- a number is put before a place
pub over_written : (nx bf : List ℕ) (n at : ℕ) → AreJoined nx bf → n < length nx → at < length nx → n ≢ at → n ≢ get_or bf at 0 → LeadsOver nx bf (put_between nx (get_or bf at 0) n at) (put_between bf at n (get_or bf at 0)) n at
over_written nx bf n at joined h i apart apart_from =
    let p = get_or bf at 0 in
    let own = subst (λ (m : ℕ). n < m) (sym joined.same) h in
    let to = subst (λ (m : ℕ). at < m) (sym joined.same) i in
    record {
      next_at = got_first nx p n n at (within_before nx bf at joined i) (other_way n p apart_from);
      before_at = got_first bf at n n p to (other_way n at apart);
      own_next = got_second nx p n n at h;
      own_before = got_second bf at n n p own;
      next = λ r k l. got_other nx p n n at r k l;
      before = λ r k l. got_other bf at n n p r k l;
    }
