-- Bytes of a file, told piece by piece; and where the content of a message stands in its file.
use Rattle.std.proofs.Common.{◌≡◌, ◌∙◌, ◌+◌, ◌-◌, ◌<◌, ◌≤◌, ◌++◌, [], List, Option, Some, ℕ, ap, append-nil, arith, drop, length, subst, sym, take, take-add}
use Rattle.std.specs.Option.{IfSome}
use Rattle.std.proofs.lemmas.List.{drop-drop, length-drop, take-take, take_all}
use Rattle.q_host.specs.Reads.{IsRead}
use Rattle.q_host.specs.View.{View}
use Rattle.q_model.specs.SpoolFiles.{Files}
use Rattle.q_model.specs.Values.{Spot}
use Rattle.q_telling.specs.Telling.{TellsFront, TellsMore}
use Rattle.q_telling.proofs.TellingLaws.{front_more, front_none, front_on, tells_on}

-- the first bytes, and those behind them
take_both : (a b : ℕ) (xs : List ℕ) → take (a + b) xs ≡ take a xs ++ take b (drop a xs)
take_both a b xs = take-add a b xs

split_at : (done size : ℕ) (xs : List ℕ) → done ≤ size → take size xs ≡ take done xs ++ take (size - done) (drop done xs)
split_at done size xs within =
    let whole : size ≡ done + (size - done) = omega (arith, within) in
    ap (λ (n : ℕ). take n xs) whole ∙ take_both done (size - done) xs

-- what was read is what stands there
pub piece_is : (file old new : List ℕ) (at done more count : ℕ) → IsRead file (at + done) old new count → more ≤ count → take more new ≡ take more (drop done (drop at file))
piece_is file old new at done more count r within =
    sym (shorter new) ∙ ap (take more) r.bytes ∙ shorter (drop (at + done) file) ∙ ap (take more) (behind at done file)
  where
    shorter : (xs : List ℕ) → take more (take count xs) ≡ take more xs
    shorter xs = take-take more count xs within

    behind : (a b : ℕ) (xs : List ℕ) → drop (a + b) xs ≡ drop b (drop a xs)
    behind a b xs = sym (drop-drop b a xs)

module _ (file : List ℕ) (at size done : ℕ) (within : done ≤ size) (u v w : View) (told : TellsMore (take done (drop at file)) u v) (quiet : TellsMore [] v w) where
  told_so_far : TellsMore (take done (drop at file)) u w
  told_so_far = subst (λ (t : List ℕ). TellsMore t u w) (append-nil (take done (drop at file))) (tells_on (take done (drop at file)) [] u v w told quiet)

  -- no more is told
  pub bytes_wait : TellsFront (take size (drop at file)) u w
  bytes_wait = subst (λ (t : List ℕ). TellsFront t u w) (sym (split_at done size (drop at file) within))
      (front_on (take done (drop at file)) (take (size - done) (drop done (drop at file))) u v w told (front_none (take (size - done) (drop done (drop at file))) v w quiet))

  -- the file has no more
  pub bytes_end : length file ≤ at + done → TellsMore (take size (drop at file)) u w
  bytes_end none =
      let short : length (drop at file) ≤ done = omega (arith, none, length-drop at file) in
      let all : length (drop at file) ≤ size = omega (arith, short, within) in
      subst (λ (t : List ℕ). TellsMore t u w) (take_all done (drop at file) short ∙ sym (take_all size (drop at file) all)) told_so_far

  module _ (z : View) (old new : List ℕ) (more count : ℕ) (r : IsRead file (at + done) old new count) (few : more ≤ count) (inside : done + more ≤ size) where
    -- a piece more is told
    pub bytes_more : TellsMore (take more new) w z → TellsMore (take (done + more) (drop at file)) u z
    bytes_more piece = subst (λ (t : List ℕ). TellsMore t u z)
        (ap (λ (t : List ℕ). take done (drop at file) ++ t) (piece_is file old new at done more count r few) ∙ sym (take_both done more (drop at file)))
        (tells_on (take done (drop at file)) (take more new) u w z told_so_far piece)

    -- a piece is told in part
    pub bytes_stop : TellsFront (take more new) w z → TellsFront (take size (drop at file)) u z
    bytes_stop part = subst (λ (t : List ℕ). TellsFront t u z) (sym whole) (front_more (take (done + more) xs) (take (size - (done + more)) (drop (done + more) xs)) u z
        (subst (λ (t : List ℕ). TellsFront t u z)
        (ap (λ (t : List ℕ). take done xs ++ t) (piece_is file old new at done more count r few) ∙ sym (take_both done more xs))
        (front_on (take done xs) (take more new) u w z told_so_far part)))
      where
        xs : List ℕ
        xs = drop at file

        whole : take size xs ≡ take (done + more) xs ++ take (size - (done + more)) (drop (done + more) xs)
        whole = split_at (done + more) size xs inside

-- what was read of the file at a spot, while the files are the same
pub read_at : (f h : Files) (s : Spot) (file old new : List ℕ) (place at done n : ℕ) → h ≡ f → f s.area s.name ≡ Some file → place ≡ at + done
    → IfSome (h s.area s.name) (λ x. IsRead x place old new n) → IsRead file (at + done) old new n
read_at f h s file old new place at done n same here is read =
    subst (λ (p : ℕ). IsRead file p old new n) is
    (subst (λ (o : Option (List ℕ)). IfSome o (λ x. IsRead x place old new n)) (ap (λ (k : Files). k s.area s.name) same ∙ here) read)

-- where nothing was read, the file ends there
pub read_none : (file old new : List ℕ) (at n : ℕ) → IsRead file at old new n → n ≡ 0 → 0 < length old → length file ≤ at
read_none file old new at n r none some = omega (arith, r.count, none, some)
