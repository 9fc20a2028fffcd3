-- The numbers that a generated load is made of: the linear congruential generator of ISO C's sample
-- rand(3), modulo 2^31.
use Rattle.std.specs.Prelude.{◌%◌, ◌*◌, ◌+◌, ◌^◌, suc, zero, ℕ}

abbrev pub next_number : ℕ → ℕ
next_number x = (x * 1103515245 + 12345) % 2 ^ 31

-- the number of a mail, counted from 1, where the load begins with this one
abbrev pub number_of : ℕ → ℕ → ℕ
number_of first zero = first
number_of first (suc i) = next_number (number_of first i)
