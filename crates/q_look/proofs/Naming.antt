-- A name says one file.
use Rattle.std.proofs.Common.{◌≡◌, ◌<◌, ◌^◌, true, ℕ, List, sym, ap, ◌∙◌, arith}
use Rattle.q_core.specs.declared.state.Core.{Core}
use Rattle.q_core.specs.Held.{is_admitted_in}
use Rattle.q_model.specs.declared.id.Id.{Id}
use Rattle.q_model.specs.declared.rows.DeferredName.{DeferredName}
use Rattle.q_model.specs.IdTexts.{due_text, id_text, IsId}
use Rattle.q_model.proofs.IdLaws.{due_text-injective, id_text-injective}
use Rattle.q_model.proofs.StandLaws.{true_false}
use Rattle.q_look.specs.FirstNames.{NamesDue, NamesLeftover}

-- the id of the name is in memory
pub no_leftover : (core : Core) (id : Id) (name : List ℕ) → IsId id → id_text id ≡ name → is_admitted_in core id ≡ true → (d : DeferredName) → NamesLeftover core name d → ⊥
no_leftover core id name form says held d h =
    let same : d.id ≡ id = id_text-injective d.id id h.named.form form (h.named.says ∙ sym says) in
    true_false (is_admitted_in core id) held (ap (is_admitted_in core) (sym same) ∙ h.left)

-- the name's due time is later
pub not_due : (until due : ℕ) (id : Id) (name : List ℕ) → due < 10 ^ 12 → IsId id → due_text due id ≡ name → until < due → (d : DeferredName) → NamesDue until name d → ⊥
not_due until due id name digits form says late d h =
    let same = due_text-injective d.due due d.id id h.digits digits h.form form (h.says ∙ sym says) in
    omega (arith, h.due, late, same.0)
