-- What the first bytes of a message announce before the rest is there: nothing yet, a heading that is refused, or the message's whole length. RULES 7.
-- Laws in proofs/AnnouncingLaws. A layer that takes a message in parts rests on these and opens neither heading nor reading.
use Rattle.std.specs.Prelude.{◌≡◌, ℕ, cond, List, length, Option, Some, None, Result, Ok, Err, nat_lt}
use Rattle.envelope.specs.Fields.{Refusal}
use Rattle.envelope.specs.Heading.{announced, HeadingAnswer, passed, heading}
use Rattle.envelope.specs.Heading as judged
use Rattle.envelope.specs.Layout.{header_size}
use Rattle.envelope.specs.Told.{told_refusal}
use Rattle.envelope.specs.declared.reader.Refusal.{Refusal as CodeRefusal}

pub data AnnouncementAnswer : Type 0 where
  unfinished : AnnouncementAnswer
  refused : Refusal → AnnouncementAnswer
  announces : ℕ → AnnouncementAnswer

-- rules 2 to 4 come before the length
abbrev pub announced_by : HeadingAnswer → ℕ → AnnouncementAnswer
announced_by (judged.refused r) whole = refused r
announced_by passed whole = announces whole

-- fewer than 17 bytes announce nothing
unfoldable pub announcing : List ℕ → AnnouncementAnswer
announcing s = cond (nat_lt (length s) header_size) unfinished (announced_by (heading s) (announced s))

abbrev pub told_announcement : Result (Option ℕ) CodeRefusal → AnnouncementAnswer
told_announcement (Ok None) = unfinished
told_announcement (Ok (Some n)) = announces n
told_announcement (Err r) = refused (told_refusal r)

-- what `announce` promises
abbrev pub Announces : List ℕ → Result (Option ℕ) CodeRefusal → Type 0
Announces bytes r = told_announcement r ≡ announcing bytes
