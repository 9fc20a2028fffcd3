-- A call that listens goes on with its door: from poll to poll, and from link to link.
use Rattle.std.proofs.Common.{◌≡◌, ◌≤◌, ◌<◌, ◌+◌, ◌*◌, inl, inr, ℕ, Bool, true, false, if◌then◌else◌, List, [], ◌∷◌, ◌++◌, length, refl, sym, ap, ◌∙◌, arith, length-append, append_assoc}
use Rattle.std.specs.List.{AllByRecursion}
use Rattle.std.proofs.lemmas.Grind.{flat_map-append, fold-append}
use Rattle.std.proofs.lemmas.List.{append-nil, map-append}
use Rattle.q_door.specs.Doors.{Closed}
use Rattle.q_listen.proofs.Growing.{mails_added}
use Rattle.q_listen.proofs.Patience.{greatest_more, patient, waited_late, waited_more, waited_on}
use Rattle.q_listen.specs.Links.{IsCutOff, IsServed}
use Rattle.q_listen.specs.Listens.{Case, IsLast, ServesAll, ServesClosed, ServesSome, ServesWhole, greatest, mails_of_cases, records_of}
use Rattle.q_listen.specs.Serving.{IsWaited, Serving, Task, late_links, next_task}
use Rattle.q_listen.specs.Sessions.{IsUnbound}
use Rattle.q_listen.specs.Stories.{Story, with_accept, with_bind, with_moment, with_port, with_record, with_rest, with_told}
use Rattle.q_listen.specs.Told.{mails_told}
use Rattle.q_model.specs.declared.entry.Entry.{Entry}
use Rattle.q_smtpd.specs.Places.{Mail}

-- a poll is still to be made, so a moment came
pub some_moments : {k : Task} {heard links : ℕ} {cases : List Case} {mails : List Mail} {s : Story} → Serving k cases mails heard 1 links s → s.moments ≡ [] → ⊥
some_moments v none = let size = ap (λ (x : List ℕ). length x) none in let polled = v.polled in omega (arith, polled, size)

same_told : (told es : List Entry) (mails : List Mail) → mails_told told ≡ mails → mails_told es ≡ [] → mails_told (told ++ es) ≡ mails
same_told told es mails is none = mails_added told es ∙ ap (λ (ms : List Mail). mails_told told ++ ms) none ∙ append-nil (mails_told told) ∙ is

greatest_later : (moments : List ℕ) (t : ℕ) → greatest moments ≤ greatest (moments ++ t ∷ [])
greatest_later moments t = let more = greatest_more moments t in omega (arith, more)

-- ---- the door is bound, and a link accepted

unwaited : (moments : List ℕ) → moments ≡ [] → IsWaited moments 0 0
unwaited [] none = refl
unwaited (t ∷ ts) none = cc

pub binds : (port count : ℕ) (s : Story) → IsUnbound s → Serving (record { port = port; count = count; served = 0 }) [] [] 0 0 0 (with_port port s)
binds port count s u = record {
  records = sym u.records;
  told = sym u.mails;
  each = tt;
  waited = unwaited s.moments u.moments;
  heard_is = omega arith;
  polled =
      let rests = u.rests in
      let moments = ap (λ (x : List ℕ). length x) u.moments in
      let mails = ap (λ (x : List Mail). length x) u.mails in
      omega (arith, rests, moments, mails);
  bound = (let binds = u.binds in omega (arith, binds), ap (λ (x : List ℕ). x ++ port ∷ []) u.ports);
  served_are = ap (λ (x : List Closed). length x) u.records;
  accepted = u.accepts;
  few = omega arith;
}

pub accepts : {k : Task} {heard : ℕ} {cases : List Case} {s : Story} → Serving k cases [] heard 0 0 s → k.served < k.count → Serving k cases [] heard 0 1 (with_accept s)
accepts v more = record {
  records = v.records;
  told = v.told;
  each = v.each;
  waited = v.waited;
  heard_is = v.heard_is;
  polled = v.polled;
  bound = v.bound;
  served_are = v.served_are;
  accepted = let accepted = v.accepted in omega (arith, accepted);
  few = omega (arith, more);
}

-- ---- a moment

waited_begins : (moments : List ℕ) (late heard t : ℕ) → heard ≤ greatest moments → IsWaited moments late heard → IsWaited (moments ++ t ∷ []) late (greatest (moments ++ t ∷ []))
waited_begins [] late heard t le none = let more = greatest_more [] t in let zero_late : late ≡ 0 = none in omega (arith, more, zero_late)
waited_begins (first ∷ moments) late heard t le h = let more = greatest_more (first ∷ moments) t in let was : first + 300 * late ≤ heard = h in omega (arith, more, was, le)

-- the first of a link, at which its session begins
pub hears_first : {k : Task} {heard : ℕ} {cases : List Case} {s : Story} (t : ℕ) (es : List Entry) → Serving k cases [] heard 0 1 s → mails_told es ≡ []
    → Serving k cases [] (greatest (s.moments ++ t ∷ [])) 1 1 (with_moment es t s)
hears_first {k = k} {heard = heard} {cases = cases} {s = s} t es v none =
    let told : mails_told (s.told ++ es) ≡ mails_told s.told = same_told s.told es (mails_told s.told) refl none in
    let size = ap (λ (ms : List Mail). length ms) told in
    let polled = v.polled in
    record {
      records = v.records;
      told = v.told ∙ sym told;
      each = v.each;
      waited = waited_begins s.moments (late_links cases) heard t v.heard_is v.waited;
      heard_is = omega arith;
      polled = omega (arith, polled, size, length-append s.moments (t ∷ []));
      bound = v.bound;
      served_are = v.served_are;
      accepted = v.accepted;
      few = v.few;
    }

-- a later one
pub hears_on : {k : Task} {heard : ℕ} {cases : List Case} {mails : List Mail} {s : Story} (t : ℕ) (es : List Entry) → (s.moments ≡ [] → ⊥) → Serving k cases mails heard 0 1 s → mails_told es ≡ []
    → Serving k cases mails heard 1 1 (with_moment es t s)
hears_on {k = k} {heard = heard} {cases = cases} {mails = mails} {s = s} t es some v none =
    let told : mails_told (s.told ++ es) ≡ mails_told s.told = same_told s.told es (mails_told s.told) refl none in
    let size = ap (λ (ms : List Mail). length ms) told in
    let polled = v.polled in
    let later = greatest_later s.moments t in
    let was = v.heard_is in
    record {
      records = v.records;
      told = v.told ∙ sym told;
      each = v.each;
      waited = waited_more s.moments (late_links cases) heard t some v.waited;
      heard_is = omega (arith, later, was);
      polled = omega (arith, polled, size, length-append s.moments (t ∷ []));
      bound = v.bound;
      served_are = v.served_are;
      accepted = v.accepted;
      few = v.few;
    }

-- ---- a poll

-- it waited, and a rest was given
pub waits : {k : Task} {heard : ℕ} {cases : List Case} {mails : List Mail} {s : Story} (later : ℕ) → Serving k cases mails heard 1 1 s → heard ≤ later → later ≤ greatest s.moments
    → Serving k cases mails later 0 1 (with_rest s)
waits {heard = heard} {cases = cases} {s = s} later v more most = record {
  records = v.records;
  told = v.told;
  each = v.each;
  waited = waited_on s.moments (late_links cases) heard later more v.waited;
  heard_is = most;
  polled = let polled = v.polled in omega (arith, polled);
  bound = v.bound;
  served_are = v.served_are;
  accepted = v.accepted;
  few = v.few;
}

-- it heard more, and a rest is still to be given
pub hears_more : {k : Task} {heard : ℕ} {cases : List Case} {mails : List Mail} {s : Story} (later : ℕ) → Serving k cases mails heard 1 1 s → heard ≤ later → later ≤ greatest s.moments
    → Serving k cases mails later 1 1 s
hears_more {heard = heard} {cases = cases} {s = s} later v more most = record {
  records = v.records;
  told = v.told;
  each = v.each;
  waited = waited_on s.moments (late_links cases) heard later more v.waited;
  heard_is = most;
  polled = v.polled;
  bound = v.bound;
  served_are = v.served_are;
  accepted = v.accepted;
  few = v.few;
}

-- it gave a message, which was told
pub gives : {k : Task} {heard : ℕ} {cases : List Case} {mails : List Mail} {s : Story} (mail : Mail) (later : ℕ) (es : List Entry) → Serving k cases mails heard 1 1 s → heard ≤ later → later ≤ greatest s.moments → mails_told es ≡ mail ∷ []
    → Serving k cases (mails ++ mail ∷ []) later 0 1 (with_told es s)
gives {heard = heard} {cases = cases} {mails = mails} {s = s} mail later es v more most one =
    let told : mails_told (s.told ++ es) ≡ mails_told s.told ++ mail ∷ [] = mails_added s.told es ∙ ap (λ (ms : List Mail). mails_told s.told ++ ms) one in
    let size = ap (λ (ms : List Mail). length ms) told in
    let polled = v.polled in
    record {
      records = v.records;
      told = sym (append_assoc (mails_of_cases cases) mails (mail ∷ [])) ∙ ap (λ (ms : List Mail). ms ++ mail ∷ []) v.told ∙ sym told;
      each = v.each;
      waited = waited_on s.moments (late_links cases) heard later more v.waited;
      heard_is = most;
      polled = omega (arith, polled, size, length-append (mails_told s.told) (mail ∷ []));
      bound = v.bound;
      served_are = v.served_are;
      accepted = v.accepted;
      few = v.few;
    }

-- its message wasn't told
pub gives_none : {k : Task} {heard ahead links : ℕ} {cases : List Case} {mails : List Mail} {s : Story} (es : List Entry) → Serving k cases mails heard ahead links s → mails_told es ≡ []
    → Serving k cases mails heard ahead links (with_told es s)
gives_none {s = s} es v none =
    let told : mails_told (s.told ++ es) ≡ mails_told s.told = same_told s.told es (mails_told s.told) refl none in
    let size = ap (λ (ms : List Mail). length ms) told in
    let polled = v.polled in
    record {
      records = v.records;
      told = v.told ∙ sym told;
      each = v.each;
      waited = v.waited;
      heard_is = v.heard_is;
      polled = omega (arith, polled, size);
      bound = v.bound;
      served_are = v.served_are;
      accepted = v.accepted;
      few = v.few;
    }

-- ---- a link was served

all_added : (P : Case → Type 0) (cases : List Case) (c : Case) → AllByRecursion P cases → P c → AllByRecursion P (cases ++ c ∷ [])
all_added P [] c h p = (p, tt)
all_added P (d ∷ cases) c h p = (h.0, all_added P cases c h.1 p)

late_added : (cases : List Case) (c : Case) → late_links (cases ++ c ∷ []) ≡ late_links cases + (if c.late then 1 else 0)
late_added cases c = fold-append (λ (n : ℕ) (c : Case). n + (if c.late then 1 else 0)) 0 cases (c ∷ [])

mails_of_added : (cases : List Case) (c : Case) → mails_of_cases (cases ++ c ∷ []) ≡ mails_of_cases cases ++ c.mails
mails_of_added cases c = flat_map-append (λ (c : Case). c.mails) cases (c ∷ []) ∙ ap (λ (ms : List Mail). mails_of_cases cases ++ ms) (append-nil c.mails)

waited_served : (moments : List ℕ) (cases : List Case) (r : Closed) (mails : List Mail) (late : Bool) (heard now : ℕ) → (moments ≡ [] → ⊥) → heard ≤ now → (late ≡ true → heard + 300 ≤ now) → IsWaited moments (late_links cases) heard
    → IsWaited moments (late_links (cases ++ record { link = r; mails = mails; late = late } ∷ [])) now
waited_served moments cases r mails true heard now some more past h =
    rw (late_added cases (record { link = r; mails = mails; late = true })) (waited_late moments (late_links cases) heard now some (past refl) h)
waited_served moments cases r mails false heard now some more past h =
    let c : Case = record { link = r; mails = mails; late = false } in
    let same : late_links (cases ++ c ∷ []) ≡ late_links cases = let added = late_added cases c in omega (arith, added) in
    rw same (waited_on moments (late_links cases) heard now more h)

-- it was closed
pub closes : {k : Task} {heard : ℕ} {cases : List Case} {mails : List Mail} {s : Story} (r : Closed) (late : Bool) → Serving k cases mails heard 1 1 s
    → IsServed r mails late → (late ≡ true → heard + 300 ≤ greatest s.moments)
    → Serving (next_task k) (cases ++ record { link = r; mails = mails; late = late } ∷ []) [] (greatest s.moments) 0 0 (with_record r s)
closes {k = k} {heard = heard} {cases = cases} {mails = mails} {s = s} r late v served past =
    let c : Case = record { link = r; mails = mails; late = late } in
    let polled = v.polled in
    let are = v.served_are in
    let accepted = v.accepted in
    let few = v.few in
    record {
      records = map-append (λ (c : Case). c.link) cases (c ∷ []) ∙ ap (λ (rs : List Closed). rs ++ r ∷ []) v.records;
      told = append-nil (mails_of_cases (cases ++ c ∷ [])) ∙ mails_of_added cases c ∙ v.told;
      each = all_added (λ c. IsServed c.link c.mails c.late) cases c v.each served;
      waited = waited_served s.moments cases r mails late heard (greatest s.moments) (some_moments v) v.heard_is past v.waited;
      heard_is = omega arith;
      polled = omega (arith, polled);
      bound = v.bound;
      served_are = omega (arith, are, length-append s.records (r ∷ []));
      accepted = omega (arith, accepted);
      few = omega (arith, few);
    }

-- all were
pub ends : {k : Task} {heard : ℕ} {cases : List Case} {s : Story} → Serving k cases [] heard 0 0 s → k.served ≡ k.count → ServesAll k.port k.count s
ends {k = k} {heard = heard} {cases = cases} {s = s} v all =
    let binds = v.bound.0 in
    let accepted = v.accepted in
    let are = v.served_are in
    let polled = v.polled in
    record {
      cases = cases;
      records = v.records;
      mails = sym (append-nil (mails_of_cases cases)) ∙ v.told;
      each = v.each;
      patient = patient s.moments (late_links cases) (greatest s.moments) refl (waited_on s.moments (late_links cases) heard (greatest s.moments) v.heard_is v.waited);
      within = record {
        binds = omega (arith, binds);
        accepts = omega (arith, accepted, all);
        accepted = omega (arith, accepted, are);
        rested = omega (arith, polled, are);
      };
      bound = v.bound;
      all = omega (arith, are, all);
    }

-- ---- it was given up

-- with a record of its link
pub cut : {k : Task} {heard ahead : ℕ} {cases : List Case} {mails : List Mail} {s : Story} (r : Closed) → Serving k cases mails heard ahead 1 s → ahead ≤ 1 → IsCutOff r mails → ServesSome k.count (with_record r s)
cut {k = k} {cases = cases} {mails = mails} {s = s} r v little off =
    let binds = v.bound.0 in
    let accepted = v.accepted in
    let few = v.few in
    let are = v.served_are in
    let polled = v.polled in
    let size = length-append s.records (r ∷ []) in
    record {
      cases = cases;
      last = record { link = r; mails = mails; late = false } ∷ [];
      unrecorded = [];
      records = ap (λ (rs : List Closed). rs ++ r ∷ []) v.records;
      mails = append-nil (mails_of_cases cases ++ (mails ++ [])) ∙ ap (λ (ms : List Mail). mails_of_cases cases ++ ms) (append-nil mails) ∙ v.told;
      each = v.each;
      is_last = (refl, refl, off, omega (arith, accepted, size, are));
      within = record {
        binds = omega (arith, binds);
        accepts = omega (arith, accepted, few);
        accepted = omega (arith, accepted, size, are);
        rested = omega (arith, polled, size, are, little);
      };
    }

-- so each link was closed
pub cut_closed : {k : Task} {heard ahead : ℕ} {cases : List Case} {mails : List Mail} {s : Story} (r : Closed) → Serving k cases mails heard ahead 1 s → ahead ≤ 1 → IsCutOff r mails → ServesClosed k.count (with_record r s)
cut_closed {s = s} r v little off =
    let accepted = v.accepted in
    let are = v.served_are in
    (cut r v little off, omega (arith, accepted, length-append s.records (r ∷ []), are))

-- without one
pub cut_unrecorded : {k : Task} {heard ahead : ℕ} {cases : List Case} {mails : List Mail} {s : Story} → Serving k cases mails heard ahead 1 s → ahead ≤ 1 → ServesSome k.count s
cut_unrecorded {k = k} {cases = cases} {mails = mails} {s = s} v little =
    let binds = v.bound.0 in
    let accepted = v.accepted in
    let few = v.few in
    let are = v.served_are in
    let polled = v.polled in
    record {
      cases = cases;
      last = [];
      unrecorded = mails;
      records = append-nil (records_of cases) ∙ v.records;
      mails = ap (λ (ms : List Mail). ms ++ mails) (append-nil (mails_of_cases cases)) ∙ v.told;
      each = v.each;
      is_last = inl (omega (arith, accepted, are));
      within = record {
        binds = omega (arith, binds);
        accepts = omega (arith, accepted, few);
        accepted = omega (arith, accepted, are);
        rested = omega (arith, polled, are, little);
      };
    }

whole_by : {k : Task} {heard ahead links : ℕ} {cases : List Case} {s : Story} → Serving k cases [] heard ahead links s → ahead ≤ 1 → links ≤ 1 → IsLast s [] [] → ServesWhole k.count s
whole_by {k = k} {cases = cases} {s = s} v little one known =
    let binds = v.bound.0 in
    let accepted = v.accepted in
    let few = v.few in
    let are = v.served_are in
    let polled = v.polled in
    let some : ServesSome k.count s = record {
      cases = cases;
      last = [];
      unrecorded = [];
      records = append-nil (records_of cases) ∙ v.records;
      mails = ap (λ (ms : List Mail). ms ++ []) (append-nil (mails_of_cases cases)) ∙ v.told;
      each = v.each;
      is_last = known;
      within = record {
        binds = omega (arith, binds);
        accepts = omega (arith, accepted, few);
        accepted = omega (arith, accepted, are, one);
        rested = omega (arith, polled, are, little);
      };
    } in
    (some, refl, refl)

-- between two links
pub cut_between : {k : Task} {heard ahead : ℕ} {cases : List Case} {s : Story} → Serving k cases [] heard ahead 0 s → ahead ≤ 1 → ServesWhole k.count s
cut_between v little =
    let accepted = v.accepted in
    let are = v.served_are in
    whole_by v little (omega arith) (inr (refl, omega (arith, accepted, are)))

-- behind an accept that gave none
pub cut_accepted : {k : Task} {heard ahead : ℕ} {cases : List Case} {s : Story} → Serving k cases [] heard ahead 1 s → ahead ≤ 1 → ServesWhole k.count s
cut_accepted v little =
    let accepted = v.accepted in
    let are = v.served_are in
    whole_by v little (omega arith) (inl (omega (arith, accepted, are)))

-- before any link
pub cut_none : (count : ℕ) (s : Story) → IsUnbound s → ServesSome count s
cut_none count s u =
    let binds = u.binds in
    let accepts = u.accepts in
    let moments = ap (λ (x : List ℕ). length x) u.moments in
    let none = ap (λ (x : List Closed). length x) u.records in
    record {
      cases = [];
      last = [];
      unrecorded = [];
      records = sym u.records;
      mails = sym u.mails;
      each = tt;
      is_last = inr (refl, omega (arith, accepts, none));
      within = record {
        binds = omega (arith, binds);
        accepts = omega (arith, accepts);
        accepted = omega (arith, accepts);
        rested = omega (arith, moments);
      };
    }

-- and behind a bind that failed
pub cut_unbound : (count : ℕ) (s : Story) → IsUnbound s → ServesWhole count (with_bind s)
cut_unbound count s u =
    let binds = u.binds in
    let accepts = u.accepts in
    let moments = ap (λ (x : List ℕ). length x) u.moments in
    let none = ap (λ (x : List Closed). length x) u.records in
    let some : ServesSome count (with_bind s) = record {
      cases = [];
      last = [];
      unrecorded = [];
      records = sym u.records;
      mails = sym u.mails;
      each = tt;
      is_last = inr (refl, omega (arith, accepts, none));
      within = record {
        binds = omega (arith, binds);
        accepts = omega (arith, accepts);
        accepted = omega (arith, accepts);
        rested = omega (arith, moments);
      };
    } in
    (some, refl, refl)
