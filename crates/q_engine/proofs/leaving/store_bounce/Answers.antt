use Rattle.std.proofs.Common.{◌≡◌, ◌≤◌, ◌∙◌, ◌∷◌, [], IsTrue, length, List, None, Option, refl, Some, subst, sym, true, ℕ}
use Rattle.std.specs.Prelude.{IfNone, IfSome}
use Rattle.q_books.proofs.Joining.{kept_takes, kept_tries, reads_keep, reads_try}
use Rattle.q_books.specs.HostStands.{TellsCrashes}
use Rattle.q_host.proofs.Stays.{stays_on}
use Rattle.q_message.specs.FileHeads.{IsHead}
use Rattle.q_message.specs.Told.{TellsOf}
use Rattle.q_model.specs.Ids.{bounce_of}
use Rattle.q_model.specs.QueueFile.{queue_file}
use Rattle.q_model.specs.SpoolFiles.{Files}
use Rattle.q_message.specs.NewFile.{is_receiver}
use Rattle.q_model.specs.Values.{FileHead, Receiver}
use Rattle.std.specs.List.{list_all}
use Rattle.q_engine.specs.BounceTexts.{TellsNotice}
use Rattle.q_engine.proofs.Bounced.{adds_by, bounce_adds, notice_before, plain, tried, unread_bounce, unsent_bounce}
use Rattle.q_engine.proofs.leaving.store_bounce.Goals as goal

pub returns-in_err-head-clause-tries : goal.returns-in_err-head-clause-tries
returns-in_err-head-clause-tries g c t b k h adds =
    let v = g.H.Host.view c.args.host.now in
    let lawful : TellsCrashes v = record { only = g.met.H.Host.only_now c.args.host.now; told = g.met.H.Host.told_stays c.args.host.now } in
    reads_try b k v (g.H.Host.view c.head_at.new.host) lawful (c.in_err-head.ensures.stays t) h

pub returns-in_default-clause-made : goal.returns-in_default-clause-made
returns-in_default-clause-made g c unmade t =
    let v = g.H.Host.view c.args.host.now in
    let none = subst (λ (o : Option FileHead). IfNone o (TellsOf g.H.Host.tells v c.args.spot (λ bytes. queue_file bytes ≡ None))) c.in_default.is c.in_ok-head.ensures.none in
    unread_bounce v c.args.spot c.args.id c.args.arrival (none t)

pub returns-in_default-clause-ok : goal.returns-in_default-clause-ok
returns-in_default-clause-ok g c t b k h adds =
    let v = g.H.Host.view c.args.host.now in
    let none = subst (λ (o : Option FileHead). IfNone o (TellsOf g.H.Host.tells v c.args.spot (λ bytes. queue_file bytes ≡ None))) c.in_default.is c.in_ok-head.ensures.none in
    absurd (unread_bounce v c.args.spot c.args.id c.args.arrival (none t) b k h adds)

pub returns-in_default-clause-tries : goal.returns-in_default-clause-tries
returns-in_default-clause-tries g c t b k h adds =
    let v = g.H.Host.view c.args.host.now in
    let lawful : TellsCrashes v = record { only = g.met.H.Host.only_now c.args.host.now; told = g.met.H.Host.told_stays c.args.host.now } in
    reads_try b k v (g.H.Host.view c.head_at.new.host) lawful (c.in_ok-head.ensures.stays t) h

pub returns-in_default-sender_of-clause-made : goal.returns-in_default-sender_of-clause-made
returns-in_default-sender_of-clause-made g c unmade t =
    let v = g.H.Host.view c.args.host.now in
    let head = (subst (λ (o : Option FileHead). IfSome o (λ head. TellsOf g.H.Host.tells v c.args.spot (IsHead head))) c.in-Some.is c.in_ok-head.ensures.head) in
    unsent_bounce v c.args.spot c.args.id c.args.arrival c.in-Some.head (head t) (sym c.sender_of.ensures ∙ c.in_default-sender_of.is)

pub returns-in_default-sender_of-clause-ok : goal.returns-in_default-sender_of-clause-ok
returns-in_default-sender_of-clause-ok g c t b k h adds =
    let v = g.H.Host.view c.args.host.now in
    let head = (subst (λ (o : Option FileHead). IfSome o (λ head. TellsOf g.H.Host.tells v c.args.spot (IsHead head))) c.in-Some.is c.in_ok-head.ensures.head) in
    absurd (unsent_bounce v c.args.spot c.args.id c.args.arrival c.in-Some.head (head t) (sym c.sender_of.ensures ∙ c.in_default-sender_of.is) b k h adds)

pub returns-in_default-sender_of-clause-tries : goal.returns-in_default-sender_of-clause-tries
returns-in_default-sender_of-clause-tries g c t b k h adds =
    let v = g.H.Host.view c.args.host.now in
    let lawful : TellsCrashes v = record { only = g.met.H.Host.only_now c.args.host.now; told = g.met.H.Host.told_stays c.args.host.now } in
    reads_try b k v (g.H.Host.view c.head_at.new.host) lawful (c.in_ok-head.ensures.stays t) h

pub notice_at-requires-clause-reading : goal.notice_at-requires-clause-reading
notice_at-requires-clause-reading g c t =
    let v = g.H.Host.view c.args.host.now in
    let head = (subst (λ (o : Option FileHead). IfSome o (λ head. TellsOf g.H.Host.tells v c.args.spot (IsHead head))) c.in-Some.is c.in_ok-head.ensures.head) in
    let s = c.args.spot in
    subst (λ (f : Files). IfSome (f s.area s.name) (IsHead c.in-Some.head)) (sym (c.in_ok-head.ensures.stays t).files) (head t)

pub returns-in_err-text-clause-tries : goal.returns-in_err-text-clause-tries
returns-in_err-text-clause-tries g c t b k h adds =
    let v = g.H.Host.view c.args.host.now in
    let lawful : TellsCrashes v = record { only = g.met.H.Host.only_now c.args.host.now; told = g.met.H.Host.told_stays c.args.host.now } in
    reads_try b k v (g.H.Host.view c.notice_at.new.host) lawful (stays_on v (g.H.Host.view c.head_at.new.host) (g.H.Host.view c.notice_at.new.host) (c.in_ok-head.ensures.stays t) (c.in_err-text.ensures.stays t)) h

pub returns-in_default-2-clause-made : goal.returns-in_default-2-clause-made
returns-in_default-2-clause-made g c unmade t b k h adds = (subst (λ (o : Option (List ℕ)). IfNone o (IsTrue g.H.Host.tells → ⊥)) c.in_default-2.is c.in_ok-text.ensures.read t)

pub returns-in_default-2-clause-ok : goal.returns-in_default-2-clause-ok
returns-in_default-2-clause-ok g c t b k h adds = absurd (subst (λ (o : Option (List ℕ)). IfNone o (IsTrue g.H.Host.tells → ⊥)) c.in_default-2.is c.in_ok-text.ensures.read t)

pub returns-in_default-2-clause-tries : goal.returns-in_default-2-clause-tries
returns-in_default-2-clause-tries g c t b k h adds =
    let v = g.H.Host.view c.args.host.now in
    let lawful : TellsCrashes v = record { only = g.met.H.Host.only_now c.args.host.now; told = g.met.H.Host.told_stays c.args.host.now } in
    reads_try b k v (g.H.Host.view c.notice_at.new.host) lawful (stays_on v (g.H.Host.view c.head_at.new.host) (g.H.Host.view c.notice_at.new.host) (c.in_ok-head.ensures.stays t) (c.in_ok-text.ensures.stays t)) h

pub returns-in_err-to-clause-tries : goal.returns-in_err-to-clause-tries
returns-in_err-to-clause-tries g c t b k h adds =
    let v = g.H.Host.view c.args.host.now in
    let lawful : TellsCrashes v = record { only = g.met.H.Host.only_now c.args.host.now; told = g.met.H.Host.told_stays c.args.host.now } in
    reads_try b k v (g.H.Host.view c.notice_at.new.host) lawful (stays_on v (g.H.Host.view c.head_at.new.host) (g.H.Host.view c.notice_at.new.host) (c.in_ok-head.ensures.stays t) (c.in_ok-text.ensures.stays t)) h

pub returns-in_err-store-clause-tries : goal.returns-in_err-store-clause-tries
returns-in_err-store-clause-tries g c t b k h adds =
    let v = g.H.Host.view c.args.host.now in
    let lawful : TellsCrashes v = record { only = g.met.H.Host.only_now c.args.host.now; told = g.met.H.Host.told_stays c.args.host.now } in
    let m = g.H.Host.view c.head_at.new.host in
    let x = g.H.Host.view c.notice_at.new.host in
    let w = g.H.Host.view c.store.new.host in
    let read = (subst (λ (o : Option FileHead). IfSome o (λ head. TellsOf g.H.Host.tells v c.args.spot (IsHead head))) c.in-Some.is c.in_ok-head.ensures.head) in
    let head = c.in-Some.head in
    let sender = c.in-Some-sender_of.sender in
    let text = c.in-Some-2.text in
    let some : head.head.sender ≡ Some sender = sym c.sender_of.ensures ∙ c.in-Some-sender_of.is in
    let same = c.in_ok-head.ensures.stays t in
    let first = stays_on v m x same (c.in_ok-text.ensures.stays t) in
    let keeps = reads_keep b b v x lawful first h in
    let noticed = subst (λ (o : Option (List ℕ)). IfSome o (λ text. IsTrue g.H.Host.tells → TellsNotice m c.args.spot c.args.id sender text)) c.in-Some-2.is c.in_ok-text.ensures.notice in
    let told = notice_before v m c.args.spot c.args.id sender text lawful same (noticed t) in
    let made = bounce_adds v x.files b k c.args.spot c.args.id c.args.arrival head sender text first.files h (read t) some told adds in
    let stored = adds_by x.files (bounce_of c.args.id) c.bounce_of.result (record { sender = None; arrival = c.args.arrival }) (plain sender ∷ []) c.in_ok-to.to text c.as_slice.result.now b k c.bounce_of.ensures c.in_ok-to.ensures c.as_slice.ensures made in
    kept_tries b k v x w keeps (c.in_err-store.ensures.err t b k keeps.stands stored)

pub returns-clause-ok : goal.returns-clause-ok
returns-clause-ok g c t b k h adds =
    let v = g.H.Host.view c.args.host.now in
    let lawful : TellsCrashes v = record { only = g.met.H.Host.only_now c.args.host.now; told = g.met.H.Host.told_stays c.args.host.now } in
    let m = g.H.Host.view c.head_at.new.host in
    let x = g.H.Host.view c.notice_at.new.host in
    let w = g.H.Host.view c.store.new.host in
    let read = (subst (λ (o : Option FileHead). IfSome o (λ head. TellsOf g.H.Host.tells v c.args.spot (IsHead head))) c.in-Some.is c.in_ok-head.ensures.head) in
    let head = c.in-Some.head in
    let sender = c.in-Some-sender_of.sender in
    let text = c.in-Some-2.text in
    let some : head.head.sender ≡ Some sender = sym c.sender_of.ensures ∙ c.in-Some-sender_of.is in
    let same = c.in_ok-head.ensures.stays t in
    let first = stays_on v m x same (c.in_ok-text.ensures.stays t) in
    let keeps = reads_keep b b v x lawful first h in
    let noticed = subst (λ (o : Option (List ℕ)). IfSome o (λ text. IsTrue g.H.Host.tells → TellsNotice m c.args.spot c.args.id sender text)) c.in-Some-2.is c.in_ok-text.ensures.notice in
    let told = notice_before v m c.args.spot c.args.id sender text lawful same (noticed t) in
    let made = bounce_adds v x.files b k c.args.spot c.args.id c.args.arrival head sender text first.files h (read t) some told adds in
    let stored = adds_by x.files (bounce_of c.args.id) c.bounce_of.result (record { sender = None; arrival = c.args.arrival }) (plain sender ∷ []) c.in_ok-to.to text c.as_slice.result.now b k c.bounce_of.ensures c.in_ok-to.ensures c.as_slice.ensures made in
    kept_takes b k v x w keeps (c.in_ok-store.ensures.ok t b k keeps.stands stored)

pub returns-clause-tries : goal.returns-clause-tries
returns-clause-tries g c t b k h adds =
    let v = g.H.Host.view c.args.host.now in
    let lawful : TellsCrashes v = record { only = g.met.H.Host.only_now c.args.host.now; told = g.met.H.Host.told_stays c.args.host.now } in
    let m = g.H.Host.view c.head_at.new.host in
    let x = g.H.Host.view c.notice_at.new.host in
    let w = g.H.Host.view c.store.new.host in
    let read = (subst (λ (o : Option FileHead). IfSome o (λ head. TellsOf g.H.Host.tells v c.args.spot (IsHead head))) c.in-Some.is c.in_ok-head.ensures.head) in
    let head = c.in-Some.head in
    let sender = c.in-Some-sender_of.sender in
    let text = c.in-Some-2.text in
    let some : head.head.sender ≡ Some sender = sym c.sender_of.ensures ∙ c.in-Some-sender_of.is in
    let same = c.in_ok-head.ensures.stays t in
    let first = stays_on v m x same (c.in_ok-text.ensures.stays t) in
    let keeps = reads_keep b b v x lawful first h in
    let noticed = subst (λ (o : Option (List ℕ)). IfSome o (λ text. IsTrue g.H.Host.tells → TellsNotice m c.args.spot c.args.id sender text)) c.in-Some-2.is c.in_ok-text.ensures.notice in
    let told = notice_before v m c.args.spot c.args.id sender text lawful same (noticed t) in
    let made = bounce_adds v x.files b k c.args.spot c.args.id c.args.arrival head sender text first.files h (read t) some told adds in
    let stored = adds_by x.files (bounce_of c.args.id) c.bounce_of.result (record { sender = None; arrival = c.args.arrival }) (plain sender ∷ []) c.in_ok-to.to text c.as_slice.result.now b k c.bounce_of.ensures c.in_ok-to.ensures c.as_slice.ensures made in
    kept_tries b k v x w keeps (tried b k x w (c.in_ok-store.ensures.ok t b k keeps.stands stored))

pub notice_at-requires-clause-few : goal.notice_at-requires-clause-few
notice_at-requires-clause-few g c = subst (λ (o : Option FileHead). IfSome o (λ head. head.recipients ≤ 50000)) c.in-Some.is c.in_ok-head.ensures.few

pub store-requires-clause-short : goal.store-requires-clause-short
store-requires-clause-short g c =
    let short = subst (λ (o : Option (List ℕ)). IfSome o (λ text. length text ≤ 40000000)) c.in-Some-2.is c.in_ok-text.ensures.short in
    subst (λ (x : List ℕ). length x ≤ 40000000) (sym c.as_slice.ensures) short

pub store-requires-clause-others : goal.store-requires-clause-others
store-requires-clause-others g c = subst (λ (to : List Receiver). list_all is_receiver to ≡ true) (sym c.in_ok-to.ensures) refl
