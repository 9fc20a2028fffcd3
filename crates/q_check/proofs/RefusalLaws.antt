-- The lines at fault, each found with those before it blank, are the lines that are refused.
use Rattle.std.proofs.Common.{◌≡◌, ◌≤◌, ◌+◌, ◌∷◌, ◌∙◌, ◌⊎◌, ⊎_elim, ◌-◌, [], ℕ, suc, List, length, Result, Ok, Err, inl, inr, refl, sym, ap, arith}
use Rattle.std.specs.List.{enumerate_from, fold}
use Rattle.q_check.specs.Refusals.{refused}
use Rattle.q_check.proofs.BlankLaws.{blank_at, spaces}

-- how a file is read: what a line adds, the number of an error's line, and the reading of a line behind others
pub record Reader (S E : Type 0) : Type 0 where
  pub read : ℕ → S → List ℕ → Result S E
  pub number : E → ℕ
  pub behind : Result S E → ℕ × List ℕ → Result S E
  pub behind_ok : (s : S) (line : ℕ × List ℕ) → behind (Ok s) line ≡ read line.0 s line.1
  pub behind_err : (e : E) (line : ℕ × List ℕ) → behind (Err e) line ≡ Err e
  pub numbered : (n : ℕ) (s : S) (line : List ℕ) (e : E) → read n s line ≡ Err e → number e ≡ n
  pub blank : (n : ℕ) (s : S) (m : ℕ) → read n s (spaces m) ≡ Ok s

module _ {S E : Type 0} (r : Reader S E) where
  stays_err : (e : E) (lines : List (ℕ × List ℕ)) → fold r.behind (Err e) lines ≡ Err e
  stays_err e [] = refl
  stays_err e (line ∷ lines) = ap (λ (x : Result S E). fold r.behind x lines) (r.behind_err e line) ∙ stays_err e lines

  -- the file is read, and no line is refused; or its fault is the first line that is refused
  pub record Faulty (n : ℕ) (s : S) (lines : List (List ℕ)) : Type 0 where
    pub error : E
    pub is : fold r.behind (Ok s) (enumerate_from n lines) ≡ Err error
    pub others : List ℕ
    pub refused_are : refused r.read n s lines ≡ r.number error ∷ others
    pub low : n ≤ r.number error
    -- with that line blank the others are refused
    pub rest : refused r.read n s (blank_at (r.number error - n) lines) ≡ others

  pub record Faultless (n : ℕ) (s : S) (lines : List (List ℕ)) : Type 0 where
    pub state : S
    pub is : fold r.behind (Ok s) (enumerate_from n lines) ≡ Ok state
    pub none : refused r.read n s lines ≡ []

  module _ (n : ℕ) (s : S) (line : List ℕ) (lines : List (List ℕ)) where
    refused_here : (e : E) → r.read n s line ≡ Err e → refused r.read n s (line ∷ lines) ≡ n ∷ refused r.read (n + 1) s lines
    refused_here e is = rw is refl

    refused_behind : (t : S) → r.read n s line ≡ Ok t → refused r.read n s (line ∷ lines) ≡ refused r.read (n + 1) t lines
    refused_behind t is = rw is refl

    fold_here : (x : Result S E) → r.read n s line ≡ x → fold r.behind (Ok s) (enumerate_from n (line ∷ lines)) ≡ fold r.behind x (enumerate_from (n + 1) lines)
    fold_here x is = ap (λ (y : Result S E). fold r.behind y (enumerate_from (n + 1) lines)) (r.behind_ok s (n, line) ∙ is)

  faulty_here : (n : ℕ) (s : S) (line : List ℕ) (lines : List (List ℕ)) (e : E) → r.read n s line ≡ Err e → Faulty n s (line ∷ lines)
  faulty_here n s line lines e is =
      let same = r.numbered n s line e is in
      let first : r.number e - n ≡ 0 = omega (arith, same) in
      record {
        error = e;
        is = fold_here n s line lines (Err e) is ∙ stays_err e (enumerate_from (n + 1) lines);
        others = refused r.read (n + 1) s lines;
        refused_are = refused_here n s line lines e is ∙ ap (λ (m : ℕ). m ∷ refused r.read (n + 1) s lines) (sym same);
        low = omega (arith, same);
        rest = ap (λ (k : ℕ). refused r.read n s (blank_at k (line ∷ lines))) first ∙ refused_behind n s (spaces (length line)) lines s (r.blank n s (length line));
      }

  faulty_behind : (n : ℕ) (s t : S) (line : List ℕ) (lines : List (List ℕ)) → r.read n s line ≡ Ok t → Faulty (n + 1) t lines → Faulty n s (line ∷ lines)
  faulty_behind n s t line lines is f =
      let low = f.low in
      let later : r.number f.error - n ≡ suc (r.number f.error - (n + 1)) = omega (arith, low) in
      record {
        error = f.error;
        is = fold_here n s line lines (Ok t) is ∙ f.is;
        others = f.others;
        refused_are = refused_behind n s line lines t is ∙ f.refused_are;
        low = omega (arith, low);
        rest = ap (λ (k : ℕ). refused r.read n s (blank_at k (line ∷ lines))) later ∙ refused_behind n s line (blank_at (r.number f.error - (n + 1)) lines) t is ∙ f.rest;
      }

  -- each file is one or the other
  pub ends : (n : ℕ) (s : S) (lines : List (List ℕ)) → Faulty n s lines ⊎ Faultless n s lines
  ends n s [] = inr (record { state = s; is = refl; none = refl })
  ends n s (line ∷ lines) = by (r.read n s line) refl (λ t. ends (n + 1) t lines)
    where
      by : (x : Result S E) → r.read n s line ≡ x → ((t : S) → Faulty (n + 1) t lines ⊎ Faultless (n + 1) t lines) → Faulty n s (line ∷ lines) ⊎ Faultless n s (line ∷ lines)
      by (Err e) is rest = inl (faulty_here n s line lines e is)
      by (Ok t) is rest = ⊎_elim (λ f. inl (faulty_behind n s t line lines is f))
          (λ g. inr (record { state = g.state; is = fold_here n s line lines (Ok t) is ∙ g.is; none = refused_behind n s line lines t is ∙ g.none }))
          (rest t)
