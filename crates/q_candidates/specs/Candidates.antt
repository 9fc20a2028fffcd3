-- What a contract sees of candidates, and which of them preempts.
use Rattle.std.specs.List.{AllByRecursion, list_any}
use Rattle.std.specs.Prelude.{◌≡◌, ◌*◌, ◌&&◌, ◌||◌, ◌+◌, ◌-◌, ◌++◌, ◌==◌, [], ◌∷◌, Bool, false, find, if◌then◌else◌, List, map, nat_le, nat_lt, None, not, Option, Some, true, ℕ}
use Rattle.q_dest.specs.declared.dest.Dest.{Dest}
use Rattle.q_model.specs.declared.id.Id.{Id}
use Rattle.q_model.specs.Ids.{id_eq}
use Rattle.q_model.specs.Sites.{site_eq}
use Rattle.q_model.specs.Values.{Site}
use Rattle.q_rounds.specs.declared.peer.PeerKey.{PeerKey}
use Rattle.q_rounds.specs.Rounds.{has_space_at}
use Rattle.q_candidates.specs.declared.candidate.Candidate.{Candidate}

-- the candidates in the order in which they came, the sites of those that `best` passes without a
-- step, and how many candidates have room
pub record Listed : Type 0 where
  pub items : List Candidate
  pub suspended : List Site
  pub room : ℕ

abbrev pub key_of : Candidate → PeerKey
key_of c = record { id = c.id; site = c.site }

-- the candidate of the message at the site
abbrev pub is_of : Id → Site → Candidate → Bool
is_of id site c = id_eq c.id id && site_eq c.site site

-- no two are of one message and site
abbrev pub AreApart : List Candidate → Type 0
AreApart [] = Unit {0}
AreApart (c ∷ cs) = (find (is_of c.id c.site) cs ≡ None) × AreApart cs

-- in the place of one of the same message and site
abbrev pub put_over : Candidate → Candidate → Candidate
put_over c x = if is_of c.id c.site x then c else x

-- in the place of that of the same message and site, or behind all others
abbrev pub put_in : Candidate → List Candidate → List Candidate
put_in c cs = if list_any (is_of c.id c.site) cs then map (put_over c) cs else cs ++ c ∷ []

-- it is of the transport and of another message than the one that is left out, needs no more than
-- so many deliveries, and its site has space
abbrev pub may_preempt : List Dest → ℕ → ℕ → Id → Candidate → Bool
may_preempt ds transport most except c = (c.site.transport == transport)
    && nat_le c.need most && not (id_eq c.id except) && has_space_at ds c.site

-- how long ago it came; 0 where it came later than now
abbrev pub age_at : ℕ → Candidate → ℕ
age_at now c = now - c.arrival

-- (age + 1) / need is greater
abbrev pub is_better : ℕ → Candidate → Candidate → Bool
is_better now a b = nat_lt ((age_at now b + 1) * a.need) ((age_at now a + 1) * b.need)

-- it is better, or as good and admitted before
abbrev pub goes_first : ℕ → Candidate → Candidate → Bool
goes_first now a b = is_better now a b || (not (is_better now b a) && nat_lt a.rank b.rank)

-- it is one of these that may preempt, and no other that may goes first
pub record IsTheBest (test : Candidate → Bool) (now : ℕ) (cs : List Candidate) (b : Candidate) : Type 0 where
  pub there : find (is_of b.id b.site) cs ≡ Some b
  pub passes : test b ≡ true
  pub first : AllByRecursion (λ c. test c ≡ true → goes_first now c b ≡ false) cs

-- the best that may preempt, or none does
abbrev pub IsBest : List Dest → ℕ → ℕ → ℕ → Id → List Candidate → Option Candidate → Type 0
IsBest ds transport most now except cs None =
    AllByRecursion (λ c. may_preempt ds transport most except c ≡ false) cs
IsBest ds transport most now except cs (Some b) =
    IsTheBest (may_preempt ds transport most except) now cs b
