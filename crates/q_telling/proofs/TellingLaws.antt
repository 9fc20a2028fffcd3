-- Texts that were told one behind another.
use Rattle.std.proofs.Common.{◌∙◌, Bool, Err, IsTrue, List, Ok, OnErr, OnOk, Result, [], ◌++◌, ℕ, ap, append_assoc, append-nil, length, refl, subst, sym, take, take_all, drop, arith}
use Rattle.std.proofs.lemmas.List.{take-append-drop}
use Rattle.q_host.specs.Calls.{Stays, Tells}
use Rattle.q_host.specs.View.{Remains, View}
use Rattle.q_host.proofs.Moments.{leaves_by, leaves_on}
use Rattle.q_telling.specs.Telling.{LeavesFiles, OnlyTells, TellsFront, TellsMore}

-- the law of a host: what a crash may have left since now, it may leave now
abbrev pub OnlyNow : View → Type 0
OnlyNow u = (c : Remains) → u.left_since u.moment c → u.may_leave c

module _ (u v : View) where
  -- the first k bytes are told, and so no file changed
  pub tells_first : (text : List ℕ) (k : ℕ) → OnlyNow u → Tells text k u v → TellsMore (take k text) u v
  tells_first text k only p = record {
    files = p.files;
    told = p.told;
    crash = λ c left. let d = p.goes.crash c left in (d.0, d.1, d.2.files);
    moments = leaves_by u.may_leave (LeavesFiles u) only p.goes (λ d here. here) (λ d here. (d, here, refl))
        (λ d c here some. (d, here, some.2.files));
  }

  -- the whole text is told
  pub tells_all : (text : List ℕ) → OnlyNow u → Tells text (length text) u v → TellsMore text u v
  tells_all text only p = subst (λ (x : List ℕ). TellsMore x u v) (take_all (length text) text (omega arith)) (tells_first text (length text) only p)

  -- what was told after a fault
  pub tells_some : (text : List ℕ) (k : ℕ) → OnlyNow u → Tells text k u v → TellsFront text u v
  tells_some text k only p = record {
    part = take k text;
    rest = drop k text;
    whole = sym (take-append-drop k text);
    told = tells_first text k only p;
  }

  -- nothing is told while nothing changes
  pub tells_none : OnlyNow u → Stays u v → TellsMore [] u v
  tells_none only p = record {
    files = p.files;
    told = p.told ∙ sym (append-nil u.told);
    crash = λ c left. let d = p.goes.crash c left in (d.0, d.1, ap (λ x. x.files) d.2);
    moments = leaves_by u.may_leave (LeavesFiles u) only p.goes (λ d here. here) (λ d here. (d, here, refl))
        (λ d c here same. (d, here, ap (λ x. x.files) same));
  }

-- one text behind another
pub tells_on : (a b : List ℕ) (u v x : View) → TellsMore a u v → TellsMore b v x → TellsMore (a ++ b) u x
tells_on a b u v x p q = record {
  files = q.files ∙ p.files;
  told = q.told ∙ ap (λ (t : List ℕ). t ++ b) p.told ∙ append_assoc u.told a b;
  crash = λ c left. back c (q.crash c left);
  moments = leaves_on (LeavesFiles u) p.moments q.moments (λ c here. here) back;
}
  where
    back : (c : Remains) → LeavesFiles v c → LeavesFiles u c
    back c here = let d = p.crash here.0 here.1 in (d.0, d.1, here.2 ∙ d.2)

-- none of the text is told yet
pub front_none : (text : List ℕ) (u v : View) → TellsMore [] u v → TellsFront text u v
front_none text u v p = record { part = []; rest = text; whole = refl; told = p }

-- a whole text, and some first part of another
pub front_on : (a b : List ℕ) (u v x : View) → TellsMore a u v → TellsFront b v x → TellsFront (a ++ b) u x
front_on a b u v x p q = record {
  part = a ++ q.part;
  rest = q.rest;
  whole = ap (λ (t : List ℕ). a ++ t) q.whole ∙ sym (append_assoc a q.part q.rest);
  told = tells_on a q.part u v x p q.told;
}

-- some first part of a text is one of a longer text
pub front_more : (a b : List ℕ) (u v : View) → TellsFront a u v → TellsFront (a ++ b) u v
front_more a b u v p = record {
  part = p.part;
  rest = p.rest ++ b;
  whole = ap (λ (t : List ℕ). t ++ b) p.whole ∙ append_assoc p.part p.rest b;
  told = p.told;
}

-- ---- whatever is told

pub only_none : (u v : View) → OnlyNow u → Stays u v → OnlyTells u v
only_none u v only p = record { text = []; told = tells_none u v only p }

pub only_on : (u v x : View) → OnlyTells u v → OnlyTells v x → OnlyTells u x
only_on u v x p q = record { text = p.text ++ q.text; told = tells_on p.text q.text u v x p.told q.told }

-- a text was told, or some first part of it
pub only_some : {T E : Type 0} (tells : Bool) (text : List ℕ) (u v : View) (r : Result T E) → OnOk r (IsTrue tells → TellsMore text u v) → OnErr r (IsTrue tells → TellsFront text u v)
    → IsTrue tells → OnlyTells u v
only_some tells text u v (Ok done) all part t = record { text = text; told = all t }
only_some tells text u v (Err e) all part t = let p = part t in record { text = p.part; told = p.told }
