-- The entries of decisions.
use Rattle.std.specs.Prelude.{◌≡◌, ◌⊎◌, List, None, Option, slice_get, Some, ℕ}
use Rattle.q_model.specs.declared.entry.Entry.{Entry}
use Rattle.q_model.specs.declared.id.Id.{Id}
use Rattle.q_model.specs.declared.rows.Scan.{Scan}
use Rattle.q_model.specs.Batches.{load_end}
use Rattle.q_model.specs.Book.{message_of}
use Rattle.q_model.specs.Ledger.{Ledger}
use Rattle.q_model.specs.Memory.{free}
use Rattle.q_model.specs.Message.{Message}
use Rattle.q_model.specs.Settings.{World}
use Rattle.q_model.specs.Values.{Site}
use Rattle.q_model.specs.declared.entry.Entry.TheVariants as entries
use Rattle.q_core.specs.Sending.{row_for}
use Rattle.q_core.specs.declared.decision.Decision.{Decision}
use Rattle.q_core.specs.declared.state.Core.{Core}
use Rattle.q_core.specs.declared.state.Seen.{Seen}
use Rattle.q_core.specs.declared.decision.Decision.TheVariants as decisions
use Rattle.q_core.specs.declared.state.Seen.TheVariants.{Unknown}

-- these are the positions of the message's first row that waits at the site
abbrev pub IsRowFor : Core → Id → Site → List ℕ → Type 0
IsRowFor c id site positions = row_for c id site
    ≡ Some (record { id = id; site = site; positions = positions })

-- a row of this message and site with these positions stands at this place
abbrev pub IsRowAt : Core → ℕ → Id → Site → List ℕ → Type 0
IsRowAt c entry id site positions = slice_get c.waiting entry ≡ Some
    (record { id = id; site = site; positions = positions })

-- The entry is that of the decision. A look and a read have none.
abbrev pub IsOf : Core → Decision → Entry → Type 0
IsOf c (decisions.Log id failure) e = e ≡ entries.Log id failure
IsOf c (decisions.Mark id position) e = e ≡ entries.Mark id position
IsOf c (decisions.Sync id) e = e ≡ entries.Sync id
IsOf c (decisions.Skip id site entry) e = (positions : List ℕ) × IsRowFor c id site positions
    × (e ≡ entries.Skip id site positions)
IsOf c (decisions.Defer id due) e = e ≡ entries.Defer id due
IsOf c (decisions.Back id) e = e ≡ entries.Back id
IsOf c (decisions.Bounce id) e = e ≡ entries.Bounce id
IsOf c (decisions.Remove id) e = e ≡ entries.Remove id
IsOf c (decisions.Corrupt id place) e = e ≡ entries.Corrupt id
IsOf c (decisions.Admit id place) e = e ≡ entries.Admit id
IsOf c (decisions.Preempt child parent transport need) e =
    e ≡ entries.Preempt child parent transport need
IsOf c (decisions.Start number id site) e = (positions : List ℕ)
    × (e ≡ entries.Start number id site positions)
IsOf c (decisions.Read id from max) e = ⊥
IsOf c decisions.LookActive e = ⊥
IsOf c decisions.LookIncoming e = ⊥
IsOf c (decisions.LookDeferred after until) e = ⊥

-- the rule has the entry of this decision, or none where there is none
abbrev pub IsRule : Core → Option Decision → Option Entry → Type 0
IsRule c None rule = rule ≡ None
IsRule c (Some d) rule = (e : Entry) × IsOf c d e × (rule ≡ Some e)

-- The rule wants a load of this message from the read's place on, of at most so many recipients as
-- the ledger has free.
abbrev pub WantsRead : World → Ledger → Decision → Option Entry → Type 0
WantsRead w l (decisions.Read id from max) rule = (m : Message) × (message_of l.book id ≡ Some m)
    × (max ≡ free w l) × (rule ≡ Some (entries.Load id from (load_end m from max)))
WantsRead w l _ rule = ⊥

-- the rule has the load of this read, or none where there is none
abbrev pub IsReadRule : World → Ledger → Option Decision → Option Entry → Type 0
IsReadRule w l None rule = rule ≡ None
IsReadRule w l (Some d) rule = WantsRead w l d rule

-- the rule has the entry of this decision; or the decision is to look, and what the look tells
-- isn't known
abbrev pub IsRuleOrLook : Core → Decision → Seen → Option Decision → Option Entry → Type 0
IsRuleOrLook c look seen d rule = IsRule c d rule ⊎ ((d ≡ Some look) × (seen ≡ Unknown))

-- the same with the look at active
abbrev pub IsRuleOrActiveLook : Core → Option Decision → Option Entry → Type 0
IsRuleOrActiveLook c d rule = IsRuleOrLook c decisions.LookActive c.active d rule

-- the same with the two looks of an admission
abbrev pub IsRuleOrLooks : Core → Option Decision → Option Entry → Type 0
IsRuleOrLooks c d rule = IsRule c d rule
    ⊎ (((d ≡ Some decisions.LookIncoming) × (c.incoming ≡ Unknown))
    ⊎ ((scan : Scan) × (d ≡ Some (decisions.LookDeferred scan.place scan.until))
    × (c.scan ≡ Some scan)
    × (c.deferred ≡ Unknown)))
