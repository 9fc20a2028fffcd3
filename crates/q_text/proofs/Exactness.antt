-- Readers that give a value exactly where a text is that value's.
use Rattle.std.proofs.Common.{◌≡◌, ◌∙◌, ℕ, true, Option, Some, List, [], ◌++◌, ap}
use Rattle.std.specs.List.{list_all}
use Rattle.std.proofs.lemmas.List.{append-nil}
use Rattle.q_text.proofs.SolidTexts.{is_solid}

-- what is read is such a value with this text, and each such value is read from its text
pub record Exact {A : Type 0} (read : List ℕ → Option A) (is : A → Type 0) (write : A → List ℕ) : Type 0 where
  pub back : (text : List ℕ) (a : A) → read text ≡ Some a → is a × (write a ≡ text)
  pub gives : (a : A) → is a → read (write a) ≡ Some a

-- the same, where no such text has spaces
pub record ExactPart {A : Type 0} (read : List ℕ → Option A) (is : A → Type 0) (write : A → List ℕ) : Type 0 where
  pub exact : Exact read is write
  pub solid : (a : A) → is a → list_all is_solid (write a) ≡ true

-- at the end of a line
pub exact_last : {A : Type 0} {read : List ℕ → Option A} {is : A → Type 0} {write : A → List ℕ} → Exact read is write → Exact read is (λ a. write a ++ [])
exact_last {A} {read} {is} {write} e = record {
  back = λ text a h. let b = e.back text a h in (b.0, append-nil (write a) ∙ b.1);
  gives = λ a h. ap read (append-nil (write a)) ∙ e.gives a h;
}
