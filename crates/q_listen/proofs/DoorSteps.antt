-- What a door tells of a call grows by each of its calls.
use Rattle.std.proofs.Common.{◌≡◌, ◌+◌, ℕ, List, [], ◌∷◌, ◌++◌, Option, Some, None, sym, ap, ◌∙◌, arith, subst, append-nil, append_assoc}
use Rattle.std.specs.Prelude.{Err, Ok}
use Rattle.q_door.specs.Doors.{AddsDoor, AddsRecord, Closed, DoorView, ToldDoor, closed, with_accept as adds_accept, with_bind as adds_bind, with_record as adds_record, with_rest as adds_rest}
use Rattle.q_door.specs.declared.door.DoorError.{DoorError}
use Rattle.q_link.specs.Views.{Told, View}
use Rattle.q_listen.specs.Stories.{Did, HasDone, Story, with_accept, with_bind, with_port, with_record, with_rest}

-- nothing was done yet
pub done_none : (d : DoorView) (s : Story) (P : Type 0) → s.binds ≡ 0 → s.ports ≡ [] → s.accepts ≡ 0 → s.rests ≡ 0 → s.records ≡ [] → P → HasDone d d s P
done_none d s P binds ports accepts rests records p = λ now told. (
  now,
  told,
  record {
    binds = omega (arith, binds);
    ports = sym (append-nil now.ports) ∙ ap (λ (x : List ℕ). now.ports ++ x) (sym ports);
    accepts = omega (arith, accepts);
    rests = omega (arith, rests);
    records = sym (append-nil now.records) ∙ ap (λ (x : List Closed). now.records ++ x) (sym records);
  },
  p,
)

-- what holds of it may be said otherwise
pub done_as : (old d : DoorView) (s : Story) (P Q : Type 0) → (P → Q) → HasDone old d s P → HasDone old d s Q
done_as old d s P Q f h = λ now told. let b = h now told in (b.0, b.1, b.2, f b.3)

-- the door was left alone
pub done_still : (old d : DoorView) (s r : Story) (P Q : Type 0) → r.binds ≡ s.binds → r.ports ≡ s.ports → r.accepts ≡ s.accepts → r.rests ≡ s.rests → r.records ≡ s.records → (P → Q) → HasDone old d s P → HasDone old d r Q
done_still old d s r P Q binds ports accepts rests records f h = λ now told.
    let b = h now told in
    let was = b.2 in (
      b.0,
      b.1,
      record {
        binds = was.binds ∙ ap (λ (n : ℕ). (b.0).binds + n) (sym binds);
        ports = was.ports ∙ ap (λ (x : List ℕ). (b.0).ports ++ x) (sym ports);
        accepts = was.accepts ∙ ap (λ (n : ℕ). (b.0).accepts + n) (sym accepts);
        rests = was.rests ∙ ap (λ (n : ℕ). (b.0).rests + n) (sym rests);
        records = was.records ∙ ap (λ (x : List Closed). (b.0).records ++ x) (sym records);
      },
      f b.3,
    )

done_by : (change : ToldDoor → ToldDoor) (old d e : DoorView) (s r : Story) (P Q : Type 0) → AddsDoor change d e → ((before now : ToldDoor) → Did before now s → Did before (change now) r) → (P → Q) → HasDone old d s P → HasDone old e r Q
done_by change old d e s r P Q adds did f h = λ now told.
    let m = adds now told in
    let b = h m.0 m.1 in
    (b.0, b.1, subst (λ (x : ToldDoor). Did b.0 x r) (sym m.2) (did b.0 m.0 b.2), f b.3)

did_rest : (s : Story) (before now : ToldDoor) → Did before now s → Did before (adds_rest now) (with_rest s)
did_rest s before now was = record { binds = was.binds; ports = was.ports; accepts = was.accepts; rests = let rests = was.rests in omega (arith, rests); records = was.records }

did_accept : (s : Story) (before now : ToldDoor) → Did before now s → Did before (adds_accept now) (with_accept s)
did_accept s before now was = record { binds = was.binds; ports = was.ports; accepts = let accepts = was.accepts in omega (arith, accepts); rests = was.rests; records = was.records }

did_bind : (error : DoorError) (port : ℕ) (s : Story) (before now : ToldDoor) → Did before now s → Did before (adds_bind port (Err error) now) (with_bind s)
did_bind error port s before now was = record { binds = let binds = was.binds in omega (arith, binds); ports = was.ports; accepts = was.accepts; rests = was.rests; records = was.records }

did_port : (done : Unit {0}) (port : ℕ) (s : Story) (before now : ToldDoor) → Did before now s → Did before (adds_bind port (Ok done) now) (with_port port s)
did_port done port s before now was = record {
  binds = let binds = was.binds in omega (arith, binds);
  ports = ap (λ (x : List ℕ). x ++ port ∷ []) was.ports ∙ append_assoc before.ports s.ports (port ∷ []);
  accepts = was.accepts;
  rests = was.rests;
  records = was.records;
}

did_record : (r : Closed) (s : Story) (before now : ToldDoor) → Did before now s → Did before (adds_record r now) (with_record r s)
did_record r s before now was = record {
  binds = was.binds;
  ports = was.ports;
  accepts = was.accepts;
  rests = was.rests;
  records = ap (λ (x : List Closed). x ++ r ∷ []) was.records ∙ append_assoc before.records s.records (r ∷ []);
}

did_same : (s : Story) (before now : ToldDoor) → Did before now s → Did before now s
did_same s before now was = was

-- a rest, an accept, a bind that failed, and one that took the port
pub done_rest : (old d e : DoorView) (s : Story) (P Q : Type 0) → AddsDoor adds_rest d e → (P → Q) → HasDone old d s P → HasDone old e (with_rest s) Q
done_rest old d e s P Q adds f h = done_by adds_rest old d e s (with_rest s) P Q adds (did_rest s) f h

pub done_accept : (old d e : DoorView) (s : Story) (P Q : Type 0) → AddsDoor adds_accept d e → (P → Q) → HasDone old d s P → HasDone old e (with_accept s) Q
done_accept old d e s P Q adds f h = done_by adds_accept old d e s (with_accept s) P Q adds (did_accept s) f h

pub done_bind : (error : DoorError) (port : ℕ) (old d e : DoorView) (s : Story) (P Q : Type 0) → AddsDoor (adds_bind port (Err error)) d e → (P → Q) → HasDone old d s P → HasDone old e (with_bind s) Q
done_bind error port old d e s P Q adds f h = done_by (adds_bind port (Err error)) old d e s (with_bind s) P Q adds (did_bind error port s) f h

pub done_port : (done : Unit {0}) (port : ℕ) (old d e : DoorView) (s : Story) (P Q : Type 0) → AddsDoor (adds_bind port (Ok done)) d e → (P → Q) → HasDone old d s P → HasDone old e (with_port port s) Q
done_port done port old d e s P Q adds f h = done_by (adds_bind port (Ok done)) old d e s (with_port port s) P Q adds (did_port done port s) f h

-- a link without a record
pub done_open : (old d e : DoorView) (s : Story) (P Q : Type 0) → AddsDoor (λ t. t) d e → (P → Q) → HasDone old d s P → HasDone old e s Q
done_open old d e s P Q adds f h = done_by (λ t. t) old d e s s P Q adds (did_same s) f h

-- ---- a link that was closed

no_link : Told
no_link = record { hop = []; received = []; sent = []; not_yets = 0; rests_before = 0 }

no_door : ToldDoor
no_door = record { binds = 0; ports = []; accepts = 0; rests = 0; records = [] }

or_else : {A : Type 0} → Option A → A → A
or_else (Some a) b = a
or_else None b = b

-- its record, where link and door tell
pub record_of : View → DoorView → Closed
record_of v d = closed v (or_else v.told no_link) (or_else d.told no_door)

pub done_record : (old d e : DoorView) (v : View) (s : Story) (P Q : Type 0) → AddsRecord v d e
    → ((t : Told) → (door : ToldDoor) → v.told ≡ Some t → record_of v d ≡ closed v t door → P → Q) → HasDone old d s P → HasDone old e (with_record (record_of v d) s) Q
unfolding or_else record_of
done_record old d e v s P Q adds f h = λ now told.
    let m = adds now told in
    let before = m.0 in
    let t = m.1 in
    let b = h before m.2 in
    let same : record_of v d ≡ closed v t before = ap (λ (x : Option Told). closed v (or_else x no_link) (or_else d.told no_door)) m.3 ∙ ap (λ (x : Option ToldDoor). closed v t (or_else x no_door)) m.2 in
    let is : now ≡ adds_record (record_of v d) before = m.4 ∙ ap (λ (r : Closed). adds_record r before) (sym same) in
    (b.0, b.1, subst (λ (x : ToldDoor). Did b.0 x (with_record (record_of v d) s)) (sym is) (did_record (record_of v d) s b.0 before b.2), f t before m.3 same b.3)
