-- What feeding bytes answers, and what the answer says of the codes.
use Rattle.std.specs.Prelude.{◌+◌, ◌++◌, ◌≡◌, [], List, take, ℕ, ◌∷◌}
use Rattle.q_smtp.specs.Replies.{Bad, Came, Long, On, Part, Whole, codes_from, comes, nothing_yet, part_after}
use Rattle.q_reply.specs.declared.replies.Fed.{Fed}
use Rattle.q_reply.specs.declared.replies.Fed.TheVariants.{Reply, More, BadReply, TooLong}

-- one byte more was used
abbrev pub one_more : Fed → Fed
one_more (Reply code used) = Reply code (used + 1)
one_more More = More
one_more (BadReply byte) = BadReply byte
one_more TooLong = TooLong

abbrev pub fed_by : Came → ℕ → (Part → Fed) → Fed
fed_by (On p) b rest = one_more (rest p)
fed_by (Whole code) b rest = Reply code 1
fed_by Bad b rest = BadReply b
fed_by Long b rest = TooLong

-- the answer to bytes that go on with a reply: its code, and how many of the bytes it takes
unfoldable pub fed : Part → List ℕ → Fed
fed p [] = More
fed p (b ∷ bytes) = fed_by (comes p b) b (λ q. fed q bytes)

-- What an answer says of the codes in these bytes and any that come behind those it used.
abbrev pub Cuts : Fed → Part → List ℕ → Type 0
Cuts (Reply code used) p bytes = (more : List ℕ) → codes_from p (take used bytes ++ more) ≡ code ∷ codes_from nothing_yet more
Cuts More p bytes = (more : List ℕ) → codes_from p (bytes ++ more) ≡ codes_from (part_after p bytes) more
Cuts (BadReply byte) p bytes = (more : List ℕ) → codes_from p (bytes ++ more) ≡ 0 ∷ []
Cuts TooLong p bytes = (more : List ℕ) → codes_from p (bytes ++ more) ≡ 0 ∷ []
