use Rattle.std.proofs.Common.{ap, inl, ◌∙◌}
use Rattle.q_model.specs.declared.spot.Area.TheVariants.{Tmp}
use Rattle.q_model.specs.SpoolFiles.{Files}
use Rattle.q_host.proofs.Moments.{goes_wider}
use Rattle.q_host.proofs.Puts.{other_area}
use Rattle.q_store.specs.Stores.{MayStore}
use Rattle.q_store.proofs.Storing.{made, stayed, then_one, may, synced, renamed, may_renamed, made_empty, now_whole, there, stored, not_made, stores_may, made_one, stayed_one, always_err, not_made_leaves, not_renamed, one_leaves}
use Rattle.q_store.proofs.Pieces.{chain}
use Rattle.q_store.proofs.store.store_whole.Goals as goal

pub returns-in_err-create-clause-goes : goal.returns-in_err-create-clause-goes
returns-in_err-create-clause-goes g c t = not_made c.args.tmp c.args.area c.args.name c.args.bytes.now _ _ (c.in_err-create.ensures.err t)

pub write_pieces-requires : goal.write_pieces-requires
write_pieces-requires g c t = made_empty c.args.tmp c.args.area c.args.name c.args.bytes.now (g.H.Host.view c.args.host.now) (g.H.Host.view c.create.new.self) (c.in_ok-create.ensures.ok t)

pub returns-in_err-write_pieces-clause-goes : goal.returns-in_err-write_pieces-clause-goes
returns-in_err-write_pieces-clause-goes g c t =
    let view = g.H.Host.view in
    let tmp = c.args.tmp in
    let a = c.args.area in
    let n = c.args.name in
    let bytes = c.args.bytes.now in
    may tmp a n bytes _ _ (then_one tmp a n bytes (view c.args.host.now) (view c.create.new.self) (view c.write_pieces.new.host) (made tmp a n bytes _ _ (c.in_ok-create.ensures.ok t)) (c.write_pieces.ensures.goes t))

pub sync-requires : goal.sync-requires
sync-requires g c t = there c.args.tmp c.args.area c.args.name c.args.bytes.now (g.H.Host.view c.write_pieces.new.host).files (now_whole c.args.tmp c.args.area c.args.name c.args.bytes.now (g.H.Host.view c.create.new.self) (g.H.Host.view c.write_pieces.new.host) (c.in_ok-write_pieces.ensures.files t))

pub returns-in_err-sync-clause-goes : goal.returns-in_err-sync-clause-goes
returns-in_err-sync-clause-goes g c t =
    let view = g.H.Host.view in
    let tmp = c.args.tmp in
    let a = c.args.area in
    let n = c.args.name in
    let bytes = c.args.bytes.now in
    let first = then_one tmp a n bytes (view c.args.host.now) (view c.create.new.self) (view c.write_pieces.new.host) (made tmp a n bytes _ _ (c.in_ok-create.ensures.ok t)) (c.write_pieces.ensures.goes t) in
    may tmp a n bytes _ _ (then_one tmp a n bytes _ _ _ first (stayed tmp a n bytes _ _ (c.in_err-sync.ensures.err t)))

pub rename-requires-clause-there : goal.rename-requires-clause-there
rename-requires-clause-there g c t =
    let view = g.H.Host.view in
    let tmp = c.args.tmp in
    let a = c.args.area in
    let n = c.args.name in
    let bytes = c.args.bytes.now in
    there tmp a n bytes (view c.sync.new.self).files (ap (λ (f : Files). f Tmp tmp) (c.in_ok-sync.ensures.ok t).files ∙ now_whole tmp a n bytes (view c.create.new.self) (view c.write_pieces.new.host) (c.in_ok-write_pieces.ensures.files t))

pub rename-requires-clause-differ : goal.rename-requires-clause-differ
rename-requires-clause-differ g c t = other_area Tmp c.args.tmp c.args.area c.args.name c.requires

pub returns-in_err-rename-clause-goes : goal.returns-in_err-rename-clause-goes
returns-in_err-rename-clause-goes g c t =
    let view = g.H.Host.view in
    let tmp = c.args.tmp in
    let a = c.args.area in
    let n = c.args.name in
    let bytes = c.args.bytes.now in
    let first = then_one tmp a n bytes (view c.args.host.now) (view c.create.new.self) (view c.write_pieces.new.host) (made tmp a n bytes _ _ (c.in_ok-create.ensures.ok t)) (c.write_pieces.ensures.goes t) in
    let ready = synced tmp a n bytes (view c.args.host.now) (view c.write_pieces.new.host) (view c.sync.new.self) (now_whole tmp a n bytes (view c.create.new.self) (view c.write_pieces.new.host) (c.in_ok-write_pieces.ensures.files t)) first (c.in_ok-sync.ensures.ok t) in
    may_renamed tmp a n bytes _ (view c.sync.new.self) _ ready (c.in_err-rename.ensures.err t)

pub returns-clause-ok : goal.returns-clause-ok
returns-clause-ok g c t =
    let view = g.H.Host.view in
    let tmp = c.args.tmp in
    let a = c.args.area in
    let n = c.args.name in
    let bytes = c.args.bytes.now in
    let first = then_one tmp a n bytes (view c.args.host.now) (view c.create.new.self) (view c.write_pieces.new.host) (made tmp a n bytes _ _ (c.in_ok-create.ensures.ok t)) (c.write_pieces.ensures.goes t) in
    let ready = synced tmp a n bytes (view c.args.host.now) (view c.write_pieces.new.host) (view c.sync.new.self) (now_whole tmp a n bytes (view c.create.new.self) (view c.write_pieces.new.host) (c.in_ok-write_pieces.ensures.files t)) first (c.in_ok-sync.ensures.ok t) in
    record {
      reads = stored tmp a n bytes (view c.args.host.now) (view c.create.new.self) (view c.write_pieces.new.host) (view c.sync.new.self) (view c.rename.new.self)
          (c.in_ok-create.ensures.ok t) (c.in_ok-write_pieces.ensures.files t) (c.write_pieces.ensures.reads t).told (c.in_ok-sync.ensures.ok t) (c.in_ok-rename.ensures.ok t);
      goes = renamed tmp a n bytes _ (view c.sync.new.self) _ ready (c.in_ok-rename.ensures.ok t);
    }

pub returns-clause-goes : goal.returns-clause-goes
returns-clause-goes g c t =
    let view = g.H.Host.view in
    let tmp = c.args.tmp in
    let a = c.args.area in
    let n = c.args.name in
    let bytes = c.args.bytes.now in
    goes_wider (MayStore tmp a n bytes) (MayStore tmp a n bytes) (returns-clause-ok g c t).goes (stores_may tmp a n bytes) (λ x y h. h)

pub returns-in_err-create-clause-err : goal.returns-in_err-create-clause-err
returns-in_err-create-clause-err g c = always_err c.from_residual.result (λ t. inl (not_made_leaves c.args.tmp c.args.area c.args.name c.args.bytes.now _ _ (c.in_err-create.ensures.err t)))

pub returns-in_err-write_pieces-clause-err : goal.returns-in_err-write_pieces-clause-err
returns-in_err-write_pieces-clause-err g c = always_err c.from_residual-in_err-write_pieces.result (λ t.
    let view = g.H.Host.view in
    let tmp = c.args.tmp in
    let a = c.args.area in
    let n = c.args.name in
    let bytes = c.args.bytes.now in
    inl (one_leaves tmp a n bytes (view c.args.host.now) (view c.write_pieces.new.host) (chain Tmp tmp _ _ _ (made_one tmp a n bytes _ _ (c.in_ok-create.ensures.ok t)) (c.write_pieces.ensures.reads t))
    (then_one tmp a n bytes (view c.args.host.now) (view c.create.new.self) (view c.write_pieces.new.host) (made tmp a n bytes _ _ (c.in_ok-create.ensures.ok t)) (c.write_pieces.ensures.goes t))))

pub returns-in_err-sync-clause-err : goal.returns-in_err-sync-clause-err
returns-in_err-sync-clause-err g c = always_err c.from_residual-in_err-sync.result (λ t.
    let view = g.H.Host.view in
    let tmp = c.args.tmp in
    let a = c.args.area in
    let n = c.args.name in
    let bytes = c.args.bytes.now in
    let first = then_one tmp a n bytes (view c.args.host.now) (view c.create.new.self) (view c.write_pieces.new.host) (made tmp a n bytes _ _ (c.in_ok-create.ensures.ok t)) (c.write_pieces.ensures.goes t) in
    inl (one_leaves tmp a n bytes (view c.args.host.now) (view c.sync.new.self)
    (chain Tmp tmp _ _ _ (chain Tmp tmp _ _ _ (made_one tmp a n bytes _ _ (c.in_ok-create.ensures.ok t)) (c.write_pieces.ensures.reads t)) (stayed_one tmp a n bytes _ _ (c.in_err-sync.ensures.err t)))
    (then_one tmp a n bytes _ _ _ first (stayed tmp a n bytes _ _ (c.in_err-sync.ensures.err t)))))

pub returns-in_err-rename-clause-err : goal.returns-in_err-rename-clause-err
returns-in_err-rename-clause-err g c = always_err c.from_residual-in_err-rename.result (λ t.
    let view = g.H.Host.view in
    let tmp = c.args.tmp in
    let a = c.args.area in
    let n = c.args.name in
    let bytes = c.args.bytes.now in
    let first = then_one tmp a n bytes (view c.args.host.now) (view c.create.new.self) (view c.write_pieces.new.host) (made tmp a n bytes _ _ (c.in_ok-create.ensures.ok t)) (c.write_pieces.ensures.goes t) in
    let ready = synced tmp a n bytes (view c.args.host.now) (view c.write_pieces.new.host) (view c.sync.new.self) (now_whole tmp a n bytes (view c.create.new.self) (view c.write_pieces.new.host) (c.in_ok-write_pieces.ensures.files t)) first (c.in_ok-sync.ensures.ok t) in
    not_renamed tmp a n bytes (view c.args.host.now) (view c.create.new.self) (view c.write_pieces.new.host) (view c.sync.new.self) (view c.rename.new.self)
    (c.in_ok-create.ensures.ok t) (c.in_ok-write_pieces.ensures.files t) (c.write_pieces.ensures.reads t) (c.in_ok-sync.ensures.ok t) ready (c.in_err-rename.ensures.err t))
