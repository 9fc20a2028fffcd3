-- What reads and writes meet in a script.
use Rattle.std.proofs.Common.{◌≡◌, ◌∷◌, [], None, Some, refl}
use Rattle.std.specs.Prelude.{codes}
use Rattle.q_link.specs.declared.link.Got.TheVariants as got
use Rattle.q_link.specs.declared.link.Put.TheVariants as put
use Rattle.q_link.specs.Scripts.{end, failure, not_yet, piece, read_answer, script_waits, scripts_waits, steps_after, steps_waits, write_answer, writes_waits}

fits : read_answer (piece (codes "hello") ∷ end ∷ []) 9 ≡ got.Took 5
fits = refl

fitted : steps_after (piece (codes "hello") ∷ end ∷ []) 9 ≡ end ∷ []
fitted = refl

exceeds : read_answer (piece (codes "hello") ∷ []) 3 ≡ got.Took 3
exceeds = refl

rest_stays : steps_after (piece (codes "hello") ∷ end ∷ []) 3 ≡ piece (codes "lo") ∷ end ∷ []
rest_stays = refl

behind_the_last : read_answer [] 9 ≡ got.NotYet
behind_the_last = refl

second_write : write_answer (record { not_yet = 2 ∷ []; failing = 3 ∷ 4 ∷ []; calls = 1 }) 7 ≡ put.NotYet
second_write = refl

named_twice : write_answer (record { not_yet = 2 ∷ []; failing = 2 ∷ []; calls = 1 }) 7 ≡ put.Failed
named_twice = refl

unnamed : write_answer (record { not_yet = 2 ∷ []; failing = 3 ∷ []; calls = 0 }) 7 ≡ put.Gave 7
unnamed = refl

reads_wait_twice : steps_waits (not_yet ∷ piece (codes "hello") ∷ not_yet ∷ end ∷ not_yet ∷ []) ≡ Some 2
reads_wait_twice = refl

reads_wait_for_ever : steps_waits (not_yet ∷ piece (codes "hello") ∷ []) ≡ None
reads_wait_for_ever = refl

write_waits_once : writes_waits (record { not_yet = 2 ∷ 5 ∷ []; failing = []; calls = 3 }) ≡ Some 1
write_waits_once = refl

writes_wait_for_ever : writes_waits (record { not_yet = 18446744073709551615 ∷ []; failing = []; calls = 3 }) ≡ None
writes_wait_for_ever = refl

both_wait : script_waits (record { steps = not_yet ∷ failure ∷ []; writes = record { not_yet = 1 ∷ []; failing = []; calls = 0 } }) ≡ Some 2
both_wait = refl

none_wait : scripts_waits [] ≡ Some 0
none_wait = refl
