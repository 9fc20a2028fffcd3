-- How many final dots were answered.
use Rattle.std.proofs.Common.{◌≡◌, ℕ, ◌-◌, ◌≤◌, ◌==◌, Bool, true, false, List, [], ◌∷◌, ◌++◌, Option, Some, None, length, refl, sym, ap, arith, subst, length-append}
use Rattle.q_listen.specs.Links.{begun_replies}
use Rattle.q_smtpd.specs.Intakes.{bytes_of, mails_of}
use Rattle.q_smtpd.specs.Places.{Mail, Reply}

none_begun : (rs : List Reply) → begun_replies 0 rs ≡ []
unfolding begun_replies
none_begun [] = refl
none_begun (r ∷ rs) = refl

-- of replies whose bytes reach further than those sent, those behind aren't begun
pub begun_front : (rs more : List Reply) (n : ℕ) → n ≤ length (bytes_of rs) → begun_replies n (rs ++ more) ≡ begun_replies n rs
unfolding begun_replies
begun_front [] more n h =
    let zero_sent : n ≡ 0 = omega arith in
    rw zero_sent (none_begun more)
begun_front (r ∷ rs) more n h = by (n == 0) refl (begun_front rs more (n - length r.text) (omega (arith, h, length-append r.text (bytes_of rs))))
  where
    by : (t : Bool) → (n == 0) ≡ t → begun_replies (n - length r.text) (rs ++ more) ≡ begun_replies (n - length r.text) rs
        → begun_replies n (r ∷ rs ++ more) ≡ begun_replies n (r ∷ rs)
    by true e rest = rw e refl
    by false e rest = rw e (ap (λ (x : List Reply). r ∷ x) rest)

one_more : (r : Reply) (xs ys : List Reply) → length (mails_of xs) ≤ length (mails_of ys) → length (mails_of (r ∷ xs)) ≤ length (mails_of (r ∷ ys))
one_more r xs ys h = by r.mail refl
  where
    by : (l : Option Mail) → r.mail ≡ l → length (mails_of (r ∷ xs)) ≤ length (mails_of (r ∷ ys))
    by None e = rw e h
    by (Some mail) e = rw e (omega arith)

-- the begun ones take no more messages than all
pub begun_few : (rs : List Reply) (n : ℕ) → length (mails_of (begun_replies n rs)) ≤ length (mails_of rs)
unfolding begun_replies
begun_few [] n = omega arith
begun_few (r ∷ rs) n = by (n == 0) refl (begun_few rs (n - length r.text))
  where
    by : (t : Bool) → (n == 0) ≡ t → length (mails_of (begun_replies (n - length r.text) rs)) ≤ length (mails_of rs) → length (mails_of (begun_replies n (r ∷ rs))) ≤ length (mails_of (r ∷ rs))
    by true e rest = rw e (omega arith)
    by false e rest = rw e (one_more r (begun_replies (n - length r.text) rs) rs rest)

-- so at most as many final dots were answered as the first replies take messages, where no more than their bytes were sent
pub dots_few : (rs more : List Reply) (n : ℕ) → n ≤ length (bytes_of rs) → length (mails_of (begun_replies n (rs ++ more))) ≤ length (mails_of rs)
dots_few rs more n h = subst (λ (x : List Reply). length (mails_of x) ≤ length (mails_of rs)) (sym (begun_front rs more n h)) (begun_few rs n)
