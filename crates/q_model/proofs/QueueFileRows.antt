-- Worked queue files with one recipient and no content: in the first version 73 bytes, with the mark at
-- offset 51; in the second 78 bytes, with the mark at offset 56, or more where there is an original address.
use Rattle.std.proofs.Common.{◌≡◌, ℕ, true, false, List, [], ◌∷◌, ◌++◌, length, set, Option, Some, None, refl, codes}
use Rattle.q_model.specs.QueueFile.{FileMessage, queue_file}
use Rattle.q_model.specs.QueueFileBytes.{file_bytes, mark_at, mark_recipient}

abbrev thin : ℕ → Option (List ℕ) → FileMessage
thin version original = record { version = version; sender = Some (codes "a@x.example"); arrival = 1000; content = []; recipients = record { address = codes "b@y.example"; original = original; marked = false } ∷ [] }

-- the file of a version, with what stands before the recipient's record, and this mark byte
abbrev thin_file : ℕ → List ℕ → ℕ → List ℕ
thin_file version before mark =
    67 ∷ 0 ∷ 0 ∷ 0 ∷ 12 ∷ 0 ∷ 0 ∷ 0 ∷ version ∷ 0 ∷ 0 ∷ 0 ∷ 1 ∷ 0 ∷ 0 ∷ 0 ∷ 0
    ∷ 84 ∷ 0 ∷ 0 ∷ 0 ∷ 8 ∷ 0 ∷ 0 ∷ 0 ∷ 0 ∷ 0 ∷ 0 ∷ 3 ∷ 232
    ∷ 83 ∷ 0 ∷ 0 ∷ 0 ∷ 11 ∷ (codes "a@x.example" ++ (before ++ (82 ∷ 0 ∷ 0 ∷ 0 ∷ 12 ∷ mark ∷ (codes "b@y.example"
    ++ (78 ∷ 0 ∷ 0 ∷ 0 ∷ 0 ∷ 69 ∷ 0 ∷ 0 ∷ 0 ∷ 0 ∷ [])))))

-- the record without an original address, and one with `info@x.example`
abbrev none_before : List ℕ
none_before = 79 ∷ 0 ∷ 0 ∷ 0 ∷ 0 ∷ []

abbrev info_before : List ℕ
info_before = 79 ∷ 0 ∷ 0 ∷ 0 ∷ 14 ∷ codes "info@x.example"

-- ---- the first version

thin_file-written : file_bytes (thin 1 None) (80 ∷ []) ≡ thin_file 1 [] 80
unfolding file_bytes
thin_file-written = refl

thin_file-read : queue_file (thin_file 1 [] 80) ≡ Some (thin 1 None)
unfolding queue_file
thin_file-read = refl

thin_file-size : (length (thin_file 1 [] 80) ≡ 73) × (mark_at (thin 1 None) 0 ≡ 51)
thin_file-size = (refl, refl)

-- with its mark set
thin_file-marked : (set (thin_file 1 [] 80) 51 68 ≡ thin_file 1 [] 68) × (queue_file (thin_file 1 [] 68) ≡ Some (mark_recipient (thin 1 None) 0 true))
unfolding queue_file
thin_file-marked = (refl, refl)

-- a byte more, a record of the second version, a third version, and nothing
thin_file-broken : (queue_file (thin_file 1 [] 80 ++ 0 ∷ []) ≡ None) × (queue_file (thin_file 1 none_before 80) ≡ None) × (queue_file (thin_file 3 none_before 80) ≡ None) × (queue_file [] ≡ None)
unfolding queue_file
thin_file-broken = (refl, refl, refl, refl)

-- ---- the second version

thin_file-second_written : (file_bytes (thin 2 None) (80 ∷ []) ≡ thin_file 2 none_before 80) × (file_bytes (thin 2 (Some (codes "info@x.example"))) (80 ∷ []) ≡ thin_file 2 info_before 80)
unfolding file_bytes
thin_file-second_written = (refl, refl)

thin_file-second_read : (queue_file (thin_file 2 none_before 80) ≡ Some (thin 2 None)) × (queue_file (thin_file 2 info_before 80) ≡ Some (thin 2 (Some (codes "info@x.example"))))
unfolding queue_file
thin_file-second_read = (refl, refl)

thin_file-second_size : (length (thin_file 2 none_before 80) ≡ 78) × (mark_at (thin 2 None) 0 ≡ 56)
thin_file-second_size = (refl, refl)

thin_file-second_marked : (set (thin_file 2 none_before 80) 56 68 ≡ thin_file 2 none_before 68) × (queue_file (thin_file 2 none_before 68) ≡ Some (mark_recipient (thin 2 None) 0 true))
unfolding queue_file
thin_file-second_marked = (refl, refl)

-- without the record of the original address, and with one that says the address itself
thin_file-second_broken : (queue_file (thin_file 2 [] 80) ≡ None) × (queue_file (thin_file 2 (79 ∷ 0 ∷ 0 ∷ 0 ∷ 11 ∷ codes "b@y.example") 80) ≡ None)
unfolding queue_file
thin_file-second_broken = (refl, refl)
