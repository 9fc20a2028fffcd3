-- Worked replies.
use Rattle.std.proofs.Common.{◌≡◌, ℕ, List, [], ◌∷◌, ◌++◌, refl, codes, replicate}
use Rattle.std.specs.Prelude.{flat_map}
use Rattle.q_smtp.specs.Replies.{codes_from, nothing_yet, reply_codes}
use Rattle.q_reply.specs.Feeds.{fed}
use Rattle.q_reply.specs.declared.replies.Fed.{Fed}
use Rattle.q_reply.specs.declared.replies.Fed.TheVariants.{Reply, More, BadReply, TooLong}

abbrev crlf : List ℕ
crlf = 13 ∷ 10 ∷ []

abbrev answer : List ℕ → Fed
unfolding fed
answer bytes = fed nothing_yet bytes

two_lines : answer (codes "250-a" ++ crlf ++ codes "250 b" ++ crlf) ≡ Reply 250 14
unfolding fed
two_lines = refl

bare_code : answer (codes "250" ++ crlf) ≡ Reply 250 5
unfolding fed
bare_code = refl

other_code : answer (codes "250-a" ++ crlf ++ codes "251 b" ++ crlf) ≡ BadReply 49
unfolding fed
other_code = refl

no_code : answer (codes "199 x") ≡ BadReply 49
unfolding fed
no_code = refl

no_end : answer (codes "25") ≡ More
unfolding fed
no_end = refl

-- 512 bytes with the end are a line, and the 513th is one too many, an LF too
longest : answer (codes "250 " ++ replicate 507 120 ++ 10 ∷ []) ≡ Reply 250 512
unfolding fed
longest = refl

too_long : answer (codes "250 " ++ replicate 508 120 ++ 10 ∷ []) ≡ TooLong
unfolding fed
too_long = refl

-- a hundred lines are a reply, and the first byte of another is one too many
too_many : answer (flat_map (λ line. line ++ crlf) (replicate 100 (codes "220-x")) ++ codes "2") ≡ TooLong
unfolding fed
too_many = refl

-- pipelined replies, and what leaves the grammar behind them
codes_of_three : reply_codes (codes "220 hi" ++ crlf ++ codes "250-a" ++ crlf ++ codes "250 b" ++ crlf ++ codes "2x") ≡ 220 ∷ 250 ∷ 0 ∷ []
unfolding codes_from
codes_of_three = refl
