use Rattle.std.proofs.Common.{◌≡◌, ◌∙◌, ◌<◌, ap, length, None, refl, subst, sym}
use Rattle.std.specs.Option.{is_some}
use Rattle.q_model.specs.declared.id.Id.{Id}
use Rattle.q_model.specs.Ids.{id_eq}
use Rattle.q_keyed.proofs.Values.{find_none, held_item, inserted_values, none_passes, none_sought}
use Rattle.q_keyed.specs.Numbered.{first_such, Items, values_of, without_number}
use Rattle.q_jobs.specs.declared.job.Job.{Job}
use Rattle.q_jobs.specs.Jobs.{is_job_of, Jobs, moved_job, put_job, rank_of}
use Rattle.q_jobs.specs.Sound.{IsSound}
use Rattle.q_jobs.proofs.LineLaws.{fewer_left, moved_is, moved_nowhere, none_left, not_gone, own_job, put_is, put_none}
use Rattle.q_jobs.proofs.LineSteps.{found_below, found_in, free_in, kept_inserted, kept_left, line_is, sound_inserted, sound_left}
use Rattle.q_jobs.proofs.RankLaws.{rank_in}
use Rattle.q_jobs.proofs.line.Line.put_before.Goals as goal

pub returns-in_default-clause-line : goal.returns-in_default-clause-line
returns-in_default-clause-line c =
    subst (λ (v : Jobs). v ≡ record v { jobs = moved_job c.args.child c.args.parent v.jobs }) c.self.view_is
    (line_is _ _ c.self.inside.jobs.room c.self.inside.jobs.room _ _
    (sym (moved_nowhere c.args.child c.self.inside.jobs.items (sym c.find.ensures.is ∙ c.in_default.is) c.args.parent)) refl refl)

-- it was found under that number
pub invariant_of-self : goal.invariant_of-self
invariant_of-self c =
    let s = c.find.ensures in
    absurd (not_gone c.args.child c.in-Some.from c.self.inside.jobs.items s.apart s.keys (sym c.find.ensures.is ∙ c.in-Some.is) (sym c.remove.ensures.taken ∙ c.in_default-remove.is))

pub returns-in_default-remove : goal.returns-in_default-remove
returns-in_default-remove c =
    let s = c.find.ensures in
    absurd (not_gone c.args.child c.in-Some.from c.self.inside.jobs.items s.apart s.keys (sym c.find.ensures.is ∙ c.in-Some.is) (sym c.remove.ensures.taken ∙ c.in_default-remove.is))

pub remove-requires-2 : goal.remove-requires-2
remove-requires-2 c =
    found_below c.self.inside.jobs c.self.inside.ranks c.self.invariant (is_job_of c.args.child) c.in-Some.from c.stand_ranked.ensures.below (sym c.find.ensures.is ∙ c.in-Some.is)

pub invariant_of-self-in_default-find : goal.invariant_of-self-in_default-find
invariant_of-self-in_default-find c =
    sound_left c.self.inside.jobs c.self.inside.ranks c.self.invariant c.in-Some.from _ _ c.remove.ensures.items c.remove-2.ensures

pub returns-in_default-find-clause-line : goal.returns-in_default-find-clause-line
returns-in_default-find-clause-line c =
    let s = c.find.ensures in
    let job = c.in-Some-remove.job in
    let left = c.remove.new.self in
    line_is _ _ _ _ _ _
    (sym (put_none job c.args.parent (values_of left.items) (none_passes (is_job_of c.args.parent) left.items (sym c.find-2.ensures.is ∙ c.in_default-find.is)))
    ∙ ap (λ (v : Items Job). put_job job c.args.parent (values_of v.items)) c.remove.ensures.items
    ∙ sym (moved_is c.args.child c.in-Some.from c.self.inside.jobs.items s.apart s.keys (sym c.find.ensures.is ∙ c.in-Some.is) c.args.parent job (sym c.remove.ensures.taken ∙ c.in-Some-remove.is))
    ∙ ap (λ (v : Jobs). moved_job c.args.child c.args.parent v.jobs) c.self.view_is)
    (ap (λ (v : Items Job). v.room) c.remove.ensures.items ∙ ap (λ (v : Jobs). v.room) c.self.view_is) refl

pub returns-in_default-find-clause-kept : goal.returns-in_default-find-clause-kept
returns-in_default-find-clause-kept c = λ h other differ.
    kept_left c.self.inside.jobs c.self.inside.ranks c.self.invariant c.in-Some.from _ _ c.remove.ensures.items c.remove-2.ensures c.args.child other differ c.find.ensures.apart (sym c.find.ensures.is ∙ c.in-Some.is)
    ∙ ap (λ (v : Jobs). rank_of other v.jobs v.ranks) c.self.view_is

pub insert_before-number-requires-clause-room : goal.insert_before-number-requires-clause-room
insert_before-number-requires-clause-room c =
    let s = c.find.ensures in
    subst (λ (v : Items Job). length v.items < v.room) (sym c.remove.ensures.items)
    (fewer_left c.args.child c.in-Some.from c.self.inside.jobs.items s.apart s.keys (sym c.find.ensures.is ∙ c.in-Some.is) c.self.inside.jobs.room s.within)

pub insert_before-number-requires-clause-absent : goal.insert_before-number-requires-clause-absent
insert_before-number-requires-clause-absent c =
    let s = c.find.ensures in
    let n = c.in-Some.from in
    let ks = c.self.inside.jobs.items in
    let found = sym c.find.ensures.is ∙ c.in-Some.is in
    let job = c.in-Some-remove.job in
    let same = own_job c.args.child n ks s.apart s.keys found job (sym c.remove.ensures.taken ∙ c.in-Some-remove.is) in
    subst (λ (v : Items Job). first_such (λ t. id_eq t.id job.id) v.items ≡ None) (sym c.remove.ensures.items)
    (ap (λ (i : Id). first_such (is_job_of i) (without_number n ks)) same
    ∙ none_sought (is_job_of c.args.child) (without_number n ks)
    (find_none (is_job_of c.args.child) (values_of (without_number n ks)) (none_left c.args.child n ks s.apart s.keys found)))

pub insert_before-number-requires-clause-there : goal.insert_before-number-requires-clause-there
insert_before-number-requires-clause-there c =
    ap is_some (held_item (is_job_of c.args.parent) c.in-Some-find.at c.remove.new.self.items c.find-2.ensures.apart (sym c.find-2.ensures.is ∙ c.in-Some-find.is)).1

pub insert_before-requires-clause-free : goal.insert_before-requires-clause-free
insert_before-requires-clause-free c =
    free_in c.remove.new.self c.remove-2.new.self
    (sound_left c.self.inside.jobs c.self.inside.ranks c.self.invariant c.in-Some.from _ _ c.remove.ensures.items c.remove-2.ensures)
    c.insert_before-number.result c.insert_before-number.ensures.fresh

pub insert_before-requires-clause-there : goal.insert_before-requires-clause-there
insert_before-requires-clause-there c =
    found_in c.remove.new.self c.remove-2.new.self
    (sound_left c.self.inside.jobs c.self.inside.ranks c.self.invariant c.in-Some.from _ _ c.remove.ensures.items c.remove-2.ensures)
    (is_job_of c.args.parent) c.in-Some-find.at (sym c.find-2.ensures.is ∙ c.in-Some-find.is)

pub invariant_of-self-2 : goal.invariant_of-self-2
invariant_of-self-2 c =
    subst (λ (v : Items Job). IsSound v c.insert_before.new.self) (sym c.insert_before-number.ensures.items)
    (sound_inserted c.remove.new.self c.remove-2.new.self
    (sound_left c.self.inside.jobs c.self.inside.ranks c.self.invariant c.in-Some.from _ _ c.remove.ensures.items c.remove-2.ensures)
    c.in-Some-find.at (record { number = c.insert_before-number.result; item = c.in-Some-remove.job }) c.insert_before.new.self c.find-2.ensures.apart c.insert_before.ensures.order c.insert_before.ensures.numbers)

pub returns-clause-line : goal.returns-clause-line
returns-clause-line c =
    let s = c.find.ensures in
    let job = c.in-Some-remove.job in
    let left = c.remove.new.self in
    line_is _ _ _ _ _ _
    (ap (λ (v : Items Job). values_of v.items) c.insert_before-number.ensures.items
    ∙ inserted_values (is_job_of c.args.parent) c.in-Some-find.at (record { number = c.insert_before-number.result; item = job }) left.items c.find-2.ensures.apart (sym c.find-2.ensures.is ∙ c.in-Some-find.is)
    ∙ put_is job c.args.parent (values_of left.items)
    ∙ ap (λ (v : Items Job). put_job job c.args.parent (values_of v.items)) c.remove.ensures.items
    ∙ sym (moved_is c.args.child c.in-Some.from c.self.inside.jobs.items s.apart s.keys (sym c.find.ensures.is ∙ c.in-Some.is) c.args.parent job (sym c.remove.ensures.taken ∙ c.in-Some-remove.is))
    ∙ ap (λ (v : Jobs). moved_job c.args.child c.args.parent v.jobs) c.self.view_is)
    (ap (λ (v : Items Job). v.room) c.insert_before-number.ensures.items ∙ ap (λ (v : Items Job). v.room) c.remove.ensures.items ∙ ap (λ (v : Jobs). v.room) c.self.view_is) refl

pub returns-clause-kept : goal.returns-clause-kept
returns-clause-kept c = λ h other differ.
    let s = c.find.ensures in
    let a = c.self.inside in
    let found = sym c.find.ensures.is ∙ c.in-Some.is in
    let job = c.in-Some-remove.job in
    ap (λ (v : Items Job). rank_in other c.insert_before.new.self.ranks v.items) c.insert_before-number.ensures.items
    ∙ kept_inserted c.args.child other differ (record { number = c.insert_before-number.result; item = job })
    (own_job c.args.child c.in-Some.from a.jobs.items s.apart s.keys found job (sym c.remove.ensures.taken ∙ c.in-Some-remove.is))
    c.remove-2.new.self.ranks c.insert_before.new.self.ranks c.remove.new.self.items c.insert_before-number.ensures.fresh (c.insert_before.ensures.kept h) c.in-Some-find.at
    ∙ kept_left a.jobs a.ranks c.self.invariant c.in-Some.from _ _ c.remove.ensures.items c.remove-2.ensures c.args.child other differ s.apart found
    ∙ ap (λ (v : Jobs). rank_of other v.jobs v.ranks) c.self.view_is
