-- What a crash leaves told, after telling and during it.
use Rattle.std.proofs.Common.{◌≡◌, ℕ, ◌+◌, List, ◌++◌, length, take, sym, ap, ◌∙◌, arith, rules, subst, length-append, take_all, append_assoc}
use Rattle.std.proofs.lemmas.List.{take-append-le}
use Rattle.std.proofs.Math.Seq.{take-append-add}
use Rattle.q_host.specs.View.{Remains, View, LeavesOnly}
use Rattle.q_host.specs.Steps.{Add, AddSome, ToldSome}
use Rattle.q_host.specs.Calls.{Tells}
use Rattle.q_host.proofs.Moments.{goes_on, leaves_by}

told_more : (xs ys : List ℕ) (k : ℕ) (x y z : List ℕ) → y ≡ x ++ take (length xs) xs → z ≡ y ++ take k ys → z ≡ x ++ take (length xs + k) (xs ++ ys)
told_more xs ys k x y z first second =
    second ∙ ap (λ (t : List ℕ). t ++ take k ys) (first ∙ ap (λ (t : List ℕ). x ++ t) (take_all (length xs) xs (omega arith)))
    ∙ append_assoc x xs (take k ys) ∙ ap (λ (t : List ℕ). x ++ t) (sym (take-append-add xs ys k))

-- after telling, a crash leaves exactly what was told before and these bytes
pub told_after : {bytes : List ℕ} {k : ℕ} {a b : View} → ((c : Remains) → b.may_leave c → c.told ≡ b.told) → Tells bytes k a b → (c : Remains) → b.may_leave c → c.told ≡ a.told ++ take k bytes
told_after stays p c left = stays c left ∙ p.told

-- during it, what was told before and some first part of these bytes
pub told_during : {bytes : List ℕ} {k : ℕ} {a b : View} → ((c : Remains) → a.left_since a.moment c → a.may_leave c) → ((c : Remains) → a.may_leave c → c.told ≡ a.told) → Tells bytes k a b
    → LeavesOnly a b (ToldSome a.told bytes)
told_during {bytes = bytes} {a = a} only stays p = leaves_by (λ d. d.told ≡ a.told) (ToldSome a.told bytes) only p.goes stays
    (λ d was. (0, omega arith, was ∙ search (arith, rules)))
    (λ d c was some. (some.0, some.1, some.2.told ∙ ap (λ (t : List ℕ). t ++ take some.0 bytes) was))

-- all of some bytes, and the first k of others
abbrev seam : List ℕ → List ℕ → ℕ → List ℕ
seam xs ys k = take (length xs + k) (xs ++ ys)

add_more : (xs ys : List ℕ) (k : ℕ) (x y z : Remains) → Add (take (length xs) xs) x y → Add (take k ys) y z → Add (seam xs ys k) x z
add_more xs ys k x y z first second = record {
  files = second.files ∙ first.files;
  told = told_more xs ys k x.told y.told z.told first.told second.told;
}

some_more : (xs ys : List ℕ) (x y z : Remains) → Add (take (length xs) xs) x y → AddSome ys y z → AddSome (xs ++ ys) x z
some_more xs ys x y z first second = (length xs + second.0, omega (arith, second.1, length-append xs ys), add_more xs ys second.0 x y z first second.2)

some_front : (xs ys : List ℕ) (x y : Remains) → AddSome xs x y → AddSome (xs ++ ys) x y
some_front xs ys x y some = (
  some.0,
  omega (arith, some.1, length-append xs ys),
  record {
    files = some.2.files;
    told = some.2.told ∙ ap (λ (t : List ℕ). x.told ++ t) (sym (take-append-le some.0 xs ys some.1));
  },
)

-- all of some bytes told, and then the first k of others, are one telling of both
pub tells_more : {xs ys : List ℕ} {k : ℕ} {a b c : View} → Tells xs (length xs) a b → Tells ys k b c → Tells (xs ++ ys) (length xs + k) a c
tells_more {xs = xs} {ys = ys} {k = k} {a = a} {b = b} {c = c} p q = record {
  files = q.files ∙ p.files;
  told = told_more xs ys k a.told b.told c.told p.told q.told;
  goes = goes_on (Add (seam xs ys k)) (AddSome (xs ++ ys)) p.goes q.goes (add_more xs ys k) (some_front xs ys) (some_more xs ys);
}

-- two tellings in full are one
pub tells_both : {xs ys : List ℕ} {a b c : View} → Tells xs (length xs) a b → Tells ys (length ys) b c → Tells (xs ++ ys) (length (xs ++ ys)) a c
tells_both {xs = xs} {ys = ys} {a = a} {c = c} p q = subst (λ n. Tells (xs ++ ys) n a c) (sym (length-append xs ys)) (tells_more p q)
