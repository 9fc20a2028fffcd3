-- A book whose failures are sure: what reads give and what a crash leaves stand for it, where no log can differ.
use Rattle.std.proofs.Common.{◌≡◌, ◌≤◌, ℕ, true, false, List, [], ◌∷◌, length, map, Option, inl, inr, refl, sym, ap, subst, ◌∙◌, arith}
use Rattle.std.specs.List.{AllByRecursion}
use Rattle.std.specs.Option.{IsSome, option_map_or}
use Rattle.std.proofs.lemmas.List.{length-map}
use Rattle.q_model.specs.declared.outcome.Failure.{Failure}
use Rattle.q_model.specs.declared.spot.Area.TheVariants as areas
use Rattle.q_model.specs.Book.{Book}
use Rattle.q_model.specs.Crashes.{EachTo, FailuresAfter, MessageAfter}
use Rattle.q_model.specs.FailureLog.{failures_of, log_records}
use Rattle.q_model.specs.FilesStand.{MessageStands, Stands}
use Rattle.q_model.specs.IdTexts.{id_text}
use Rattle.q_model.specs.Lives.{firm_failures}
use Rattle.q_model.specs.Message.{Logged, Message}
use Rattle.q_model.specs.SpoolFiles.{Files, logged_in}
use Rattle.q_model.proofs.CrashChanges.{recipients-length}
use Rattle.q_model.proofs.StandReads.{ReadsSame, Stands-reads}
use Rattle.q_host.specs.View.{Remains}
use Rattle.q_books.specs.HostStands.{IsLeftOf}
use Rattle.q_restart.specs.declared.standing.Standing.{Standing}
use Rattle.q_restart.specs.Walks.{HasStanding}

abbrev pub firmed : Book → Book
firmed b = record b { messages = map firm_failures b.messages }

abbrev sure : Logged → Logged
sure f = record f { firm = true }

-- ---- failures

kept-length : (fs gs : List Logged) → FailuresAfter fs gs → length gs ≤ length fs
kept-length [] gs h = omega (arith, ap length h)
kept-length (f ∷ fs) gs (inl kept) = omega (arith, ap length kept.1, kept-length fs kept.0 kept.2)
kept-length (f ∷ fs) gs (inr gone) = omega (arith, kept-length fs gs gone.1)

-- where none was lost, they may as well have been sure
firm-after : (fs gs : List Logged) → FailuresAfter fs gs → length gs ≡ length fs → FailuresAfter (map sure fs) gs
firm-after [] gs h same = h
firm-after (f ∷ fs) gs (inl kept) same =
    let rest : length kept.0 ≡ length fs = omega (arith, same, ap length kept.1) in
    inl (kept.0, kept.1, firm-after fs kept.0 kept.2 rest)
firm-after (f ∷ fs) gs (inr gone) same = absurd (omega (arith, same, kept-length fs gs gone.1))

-- what may become of sure ones may become of others
unfirm-after : (fs gs : List Logged) → FailuresAfter (map sure fs) gs → FailuresAfter fs gs
unfirm-after [] gs h = h
unfirm-after (f ∷ fs) gs (inl kept) = inl (kept.0, kept.1, unfirm-after fs kept.0 kept.2)
unfirm-after (f ∷ fs) gs (inr gone) = absurd (no gone.0)
  where
    no : true ≡ false → ⊥
    no e = cc

failures-same : (fs : List Logged) → map (λ (l : Logged). l.failure) (map sure fs) ≡ map (λ (l : Logged). l.failure) fs
failures-same [] = refl
failures-same (f ∷ fs) = ap (λ (xs : List Failure). f.failure ∷ xs) (failures-same fs)

-- ---- reads

one-reads : (m : Message) → ReadsSame m (firm_failures m)
one-reads m = record { id = refl; place = refl; says = refl; failures = failures-same m.failures }

each-reads : (ms : List Message) → EachTo ReadsSame ms (map firm_failures ms)
each-reads [] = tt
each-reads (m ∷ ms) = (one-reads m, each-reads ms)

one-back : (m : Message) → ReadsSame (firm_failures m) m
one-back m = record { id = refl; place = refl; says = refl; failures = sym (failures-same m.failures) }

each-back : (ms : List Message) → EachTo ReadsSame (map firm_failures ms) ms
each-back [] = tt
each-back (m ∷ ms) = (one-back m, each-back ms)

pub Stands-firm : (f : Files) (b : Book) → Stands f b → Stands f (firmed b)
Stands-firm f b h = Stands-reads f b (firmed b) refl refl (each-reads b.messages) h

pub Stands-unfirm : (f : Files) (b : Book) → Stands f (firmed b) → Stands f b
Stands-unfirm f b h = Stands-reads f (firmed b) b refl refl (each-back b.messages) h

-- ---- crashes

unfirm-each : (ms ns : List Message) → EachTo MessageAfter (map firm_failures ms) ns → EachTo MessageAfter ms ns
unfirm-each [] [] h = tt
unfirm-each [] (n ∷ ns) h = absurd h
unfirm-each (m ∷ ms) [] h = absurd h
unfirm-each (m ∷ ms) (n ∷ ns) h = (
  record { id = h.0.id; version = h.0.version; sender = h.0.sender; arrival = h.0.arrival; content = h.0.content; place = h.0.place; recipients = h.0.recipients; failures = unfirm-after m.failures n.failures h.0.failures },
  unfirm-each ms ns h.1,
)

pub left-unfirm : (b : Book) (c : Remains) → IsLeftOf (firmed b) c → IsLeftOf b c
left-unfirm b c h = record {
  left = h.left;
  after = record { generation = h.after.generation; damaged = h.after.damaged; messages = unfirm-each b.messages h.left.messages h.after.messages };
  stands = h.stands;
}

-- a crash left the logs of messages as reads give them
abbrev pub SameLogs : Files → Files → Type 0
SameLogs f g = (s : Standing) → HasStanding f s → g areas.Bounce (id_text s.id) ≡ f areas.Bounce (id_text s.id)

module _ (f g : Files) (same : SameLogs f g) where
  has : (m : Message) → MessageStands f m → HasStanding f (record { id = m.id; place = m.place })
  has m h = record { id = h.id; place = h.place; there = subst (λ (o : Option (List ℕ)). IsSome o) (sym h.there) refl }

  one-length : (m n : Message) → MessageAfter m n → MessageStands f m → MessageStands g n → length n.failures ≡ length m.failures
  one-length m n after hm hn =
      let log : logged_in g n.id ≡ logged_in f m.id = ap (logged_in g) after.id ∙ ap (λ (o : Option (List ℕ)). option_map_or log_records o []) (same (record { id = m.id; place = m.place }) (has m hm)) in
      let count : length n.recipients ≡ length m.recipients = recipients-length m.recipients n.recipients after.recipients in
      sym (length-map n.failures (λ (l : Logged). l.failure))
      ∙ ap length (hn.failures ∙ ap (failures_of (length n.recipients)) log ∙ ap (λ (k : ℕ). failures_of k (logged_in f m.id)) count ∙ sym hm.failures)
      ∙ length-map m.failures (λ (l : Logged). l.failure)

  firm-each : (ms ns : List Message) → EachTo MessageAfter ms ns → AllByRecursion (MessageStands f) ms → AllByRecursion (MessageStands g) ns → EachTo MessageAfter (map firm_failures ms) ns
  firm-each [] [] h hm hn = tt
  firm-each [] (n ∷ ns) h hm hn = absurd h
  firm-each (m ∷ ms) [] h hm hn = absurd h
  firm-each (m ∷ ms) (n ∷ ns) h hm hn = (
    record { id = h.0.id; version = h.0.version; sender = h.0.sender; arrival = h.0.arrival; content = h.0.content; place = h.0.place; recipients = h.0.recipients; failures = firm-after m.failures n.failures h.0.failures (one-length m n h.0 hm.0 hn.0) },
    firm-each ms ns h.1 hm.1 hn.1,
  )

  pub left-firm : (b : Book) (c : Remains) → c.files ≡ g → Stands f b → IsLeftOf b c → IsLeftOf (firmed b) c
  left-firm b c is reads h = record {
    left = h.left;
    after = record {
      generation = h.after.generation;
      damaged = h.after.damaged;
      messages = firm-each b.messages h.left.messages h.after.messages reads.messages (subst (λ (x : Files). AllByRecursion (MessageStands x) h.left.messages) is h.stands.messages);
    };
    stands = h.stands;
  }
