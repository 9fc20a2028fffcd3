-- A reply and its turn are added to what was told, and its case to those before.
use Rattle.std.proofs.Common.{◌≡◌, ◌≢◌, List, [], ◌∷◌, ◌++◌, map, Option, Some, None, refl, sym, ap, ◌∙◌, subst, append_assoc}
use native.Mathlib.Omega.{arith}
use Rattle.std.proofs.lemmas.List.{append-nil, map-append}
use Rattle.std.proofs.lemmas.List.Elements.{filter_map-append}
use Rattle.q_link.specs.Records.{Closed}
use Rattle.q_model.specs.declared.entry.Entry.{Entry}
use Rattle.q_model.specs.Ledger.{Ledger}
use Rattle.q_model.specs.Settings.{World}
use Rattle.q_drain.proofs.Adding.{ended_added}
use Rattle.q_drain.specs.AllTold.{AllTold, IsTold}
use Rattle.q_drain.specs.Cases.{AreCases, Case, EachBehind, IsNext, IsPlace, records_of, replies_of}
use Rattle.q_drain.specs.Stories.{Story}
use Rattle.q_drain.specs.Told.{Ended, ended, ended_of}

-- ---- cases one behind another

pub each_behind_map : (P Q : List Ended → Case → Type 0) → ((earlier : List Ended) (c : Case) → P earlier c → Q earlier c) → (earlier : List Ended) (cs : List Case) → EachBehind P earlier cs → EachBehind Q earlier cs
each_behind_map P Q f earlier [] h = tt
each_behind_map P Q f earlier (c ∷ cs) h = (f earlier c h.0, each_behind_map P Q f (earlier ++ c.reply ∷ []) cs h.1)

-- one more behind them
pub each_behind_more : (P : List Ended → Case → Type 0) (earlier : List Ended) (cs : List Case) (c : Case) → EachBehind P earlier cs → P (earlier ++ replies_of cs) c → EachBehind P earlier (cs ++ c ∷ [])
each_behind_more P earlier [] c h p = (subst (λ es. P es c) (append-nil earlier) p, tt)
each_behind_more P earlier (d ∷ cs) c h p = (h.0, each_behind_more P (earlier ++ d.reply ∷ []) cs c h.1 (subst (λ es. P es c) (sym (append_assoc earlier (d.reply ∷ []) (replies_of cs))) p))

-- ---- more is told

-- what was told behind an earlier reply grows
abbrev pub longer : List Entry → Case → Case
longer more c = record c { behind = c.behind ++ more }

next_longer : (reply : Ended) (behind more : List Entry) → behind ≢ [] → IsNext reply behind → IsNext reply (behind ++ more)
next_longer reply [] more some h = absurd (some refl)
next_longer reply (e ∷ behind) more some h = h

not_empty : (xs ys : List Entry) → xs ≢ [] → xs ++ ys ≢ []
not_empty [] ys h k = h refl
not_empty (x ∷ xs) ys h k = cc

-- the story, with more told and recorded
abbrev pub with_more : Story → List Entry → List Closed → Story
with_more s es records = record s { told = s.told ++ es; records = s.records ++ records }

told_longer : (w : World) (l : Ledger) (s : Story) (es : List Entry) (rs : List Closed) (earlier : List Ended) (c : Case) → IsTold w l s earlier c → IsTold w l (with_more s es rs) earlier (longer es c)
told_longer w l s es rs earlier c h =
    let p = h.place in
    record {
      place = record {
        told = ap (λ (xs : List Entry). xs ++ es) p.told ∙ append_assoc c.before c.behind es;
        replies = p.replies;
        next = next_longer c.reply c.behind es h.told p.next;
        number = p.number;
        begins = p.begins;
        message = p.message;
        moment = p.moment;
      };
      told = not_empty c.behind es h.told;
    }

all_longer : (w : World) (l : Ledger) (s : Story) (es : List Entry) (rs : List Closed) (earlier : List Ended) (cs : List Case) → EachBehind (IsTold w l s) earlier cs → EachBehind (IsTold w l (with_more s es rs)) earlier (map (longer es) cs)
all_longer w l s es rs earlier [] h = tt
all_longer w l s es rs earlier (c ∷ cs) h = (told_longer w l s es rs earlier c h.0, all_longer w l s es rs (earlier ++ c.reply ∷ []) cs h.1)

replies_longer : (es : List Entry) (cs : List Case) → replies_of (map (longer es) cs) ≡ replies_of cs
replies_longer es [] = refl
replies_longer es (c ∷ cs) = ap (λ (xs : List Ended). c.reply ∷ xs) (replies_longer es cs)

record_longer : (es : List Entry) (c : Case) (cs ds : List Case) (o : Option Closed) → c.link ≡ o → records_of ds ≡ records_of cs → records_of (longer es c ∷ ds) ≡ records_of (c ∷ cs)
record_longer es c cs ds None h rest = rw (h) rest
record_longer es c cs ds (Some r) h rest = rw (h) (ap (λ (xs : List Closed). r ∷ xs) rest)

records_longer : (es : List Entry) (cs : List Case) → records_of (map (longer es) cs) ≡ records_of cs
records_longer es [] = refl
records_longer es (c ∷ cs) = record_longer es c cs (map (longer es) cs) c.link refl (records_longer es cs)

-- a turn without a reply is told
pub none_added : (w : World) (l : Ledger) (s : Story) (cs : List Case) (es : List Entry) → AllTold w l s cs → ended es ≡ [] → AllTold w l (with_more s es []) (map (longer es) cs)
none_added w l s cs es a none = record {
  replies = ended_added s.told es ∙ ap (λ (xs : List Ended). ended s.told ++ xs) none ∙ append-nil (ended s.told) ∙ a.replies ∙ sym (replies_longer es cs);
  records = append-nil s.records ∙ a.records ∙ sym (records_longer es cs);
  places = all_longer w l s es [] [] cs a.places;
}

-- ---- a case

replies_more : (cs : List Case) (c : Case) → replies_of (cs ++ c ∷ []) ≡ replies_of cs ++ c.reply ∷ []
replies_more cs c = map-append (λ (d : Case). d.reply) cs (c ∷ [])

records_more : (cs : List Case) (c : Case) → records_of (cs ++ c ∷ []) ≡ records_of cs ++ records_of (c ∷ [])
records_more cs c = filter_map-append (λ (d : Case). d.link) cs (c ∷ [])

-- its reply was told, and no other behind it
pub case_added : (w : World) (l : Ledger) (s : Story) (cs : List Case) (e : Entry) (es : List Entry) (c : Case) → AllTold w l s cs
    → ended_of e ≡ c.reply ∷ [] → ended es ≡ [] → IsTold w l (with_more s (e ∷ es) (records_of (c ∷ []))) (replies_of cs) c
    → AllTold w l (with_more s (e ∷ es) (records_of (c ∷ []))) (map (longer (e ∷ es)) cs ++ c ∷ [])
case_added w l s cs e es c a is none place =
    let late : List Case = map (longer (e ∷ es)) cs in
    let k : Story = with_more s (e ∷ es) (records_of (c ∷ [])) in
    let same : replies_of late ≡ replies_of cs = replies_longer (e ∷ es) cs in
    record {
      replies = ended_added s.told (e ∷ es)
          ∙ ap (λ (xs : List Ended). ended s.told ++ (xs ++ ended es)) is
          ∙ ap (λ (xs : List Ended). ended s.told ++ (c.reply ∷ xs)) none
          ∙ ap (λ (xs : List Ended). xs ++ c.reply ∷ []) (a.replies ∙ sym same)
          ∙ sym (replies_more late c);
      records = ap (λ (xs : List Closed). xs ++ records_of (c ∷ [])) (a.records ∙ sym (records_longer (e ∷ es) cs)) ∙ sym (records_more late c);
      places = each_behind_more (IsTold w l k) [] late c (all_longer w l s (e ∷ es) (records_of (c ∷ [])) [] cs a.places) (subst (λ xs. IsTold w l k xs c) (sym same) place);
    }

-- ---- the end of a call

-- all replies were told
pub all_cases : (w : World) (l : Ledger) (s : Story) (cs : List Case) → AllTold w l s cs → AreCases w l s cs
all_cases w l s cs a = record {
  untold = [];
  one = omega arith;
  replies = append-nil (ended s.told) ∙ a.replies;
  records = a.records;
  places = each_behind_map (IsTold w l s) (IsPlace w l s) (λ earlier c h. h.place) [] cs a.places;
}

-- all but that of one more case were
pub untold_case : (w : World) (l : Ledger) (s : Story) (cs : List Case) (c : Case) → AllTold w l s cs
    → IsPlace w l (with_more s [] (records_of (c ∷ []))) (replies_of cs) c → AreCases w l (with_more s [] (records_of (c ∷ []))) (map (longer []) cs ++ c ∷ [])
untold_case w l s cs c a place =
    let late : List Case = map (longer []) cs in
    let k : Story = with_more s [] (records_of (c ∷ [])) in
    let same : replies_of late ≡ replies_of cs = replies_longer [] cs in
    record {
      untold = c.reply ∷ [];
      one = omega arith;
      replies = ap (λ (es : List Entry). ended es ++ c.reply ∷ []) (append-nil s.told) ∙ ap (λ (xs : List Ended). xs ++ c.reply ∷ []) (a.replies ∙ sym same) ∙ sym (replies_more late c);
      records = ap (λ (xs : List Closed). xs ++ records_of (c ∷ [])) (a.records ∙ sym (records_longer [] cs)) ∙ sym (records_more late c);
      places = each_behind_more (IsPlace w l k) [] late c
          (each_behind_map (IsTold w l k) (IsPlace w l k) (λ earlier d h. h.place) [] late (all_longer w l s [] (records_of (c ∷ [])) [] cs a.places))
          (subst (λ xs. IsPlace w l k xs c) (sym same) place);
    }
