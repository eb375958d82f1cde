-- What the bytes of a message say, from its first to the one that just came: more is to come, it is whole, or it is refused. RULES 7.
-- Heading and message are judged by `announcing` and `reading` of the layer below; this file adds the room of 510 bytes.
use Rattle.std.specs.Prelude.{ℕ, cond, List, ltb, length}
use Rattle.envelope.specs.Announcing.{AnnouncementAnswer, unfinished, announces, announcing}
use Rattle.envelope.specs.Announcing as announced
use Rattle.envelope.specs.Fields.{Fields, Refusal, Answer, accepted}
use Rattle.envelope.specs.Fields as read
use Rattle.envelope.specs.Reading.{reading}
use Rattle.envelope.specs.Refusals.{plainly, RefusalNumbers, numbers_of, reading_numbers}

-- the longest message that a feed takes
abbrev pub room : ℕ
room = 510

-- a refusal of reading, passed on whole; 51, the announced length is over the room; 52, the end came inside a message
pub data FeedRefusal : Type 0 where
  reads : Refusal → FeedRefusal
  too_long : FeedRefusal
  cut : FeedRefusal

-- in numbers: 51 and 52 have no place
abbrev pub feed_numbers : FeedRefusal → RefusalNumbers
feed_numbers (reads r) = reading_numbers r
feed_numbers too_long = numbers_of (plainly 51)
feed_numbers cut = numbers_of (plainly 52)

abbrev pub number_of : FeedRefusal → ℕ
number_of f = (feed_numbers f).number

pub data Verdict : Type 0 where
  more : Verdict
  complete : Fields → Verdict
  refused : FeedRefusal → Verdict

abbrev pub settled : Answer → Verdict
settled (accepted f) = complete f
settled (read.refused r) = refused (reads r)

-- the heading first (2, 3, 4), then 51, and when the announced length is in, reading (6, 7)
abbrev pub weighed : AnnouncementAnswer → List ℕ → Verdict
weighed unfinished m = more
weighed (announced.refused r) m = refused (reads r)
weighed (announces n) m = cond (ltb room n) (refused too_long) (cond (ltb (length m) n) more (settled (reading m)))

unfoldable pub verdict : List ℕ → Verdict
verdict m = weighed (announcing m) m
