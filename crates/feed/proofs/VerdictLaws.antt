-- What the verdict on the bytes of a message says of them, by what they announce.
-- What was announced stays announced while bytes go in.
use mathlib.Core.List.{List, [], ◌∷◌}
use mathlib.Core.Path.{◌≡◌, ap, ◌∙◌}
use Prim.Native.Nat.{ℕ, suc, ◌≤◌, ◌<◌, ◌+◌}
use native.Mathlib.Omega.{arith}
use borrow.Author.Tests.{lt-ltb, le-ltb}
use lib.ListN.{length, take, set}
use lib.Seq.{take-suc-set, length-take-le, sets}
use Rattle.envelope.proofs.AnnouncingLaws.{announcing_short, announcing_more}
use Rattle.envelope.specs.Announcing.{AnnouncementAnswer, unfinished, refused, announces, announcing}
use Rattle.envelope.specs.Fields.{Refusal}
use Rattle.envelope.specs.Layout.{header_size}
use Rattle.envelope.specs.Reading.{reading}
use Rattle.feed.specs.Verdict.{room, more, refused, reads, too_long, settled, weighed, verdict}
use Rattle.feed.proofs.LaidLaws.{laid_front}

pub verdict_by : (m : List ℕ) (a : AnnouncementAnswer) → announcing m ≡ a → verdict m ≡ weighed a m
unfolding verdict
verdict_by m a e = ap (λ (b : AnnouncementAnswer). weighed b m) e

pub verdict_short : (m : List ℕ) → length m < header_size → verdict m ≡ more
verdict_short m h = verdict_by m unfinished (announcing_short m h)

pub verdict_heading : (m : List ℕ) (r : Refusal) → announcing m ≡ refused r → verdict m ≡ refused (reads r)
verdict_heading m r e = verdict_by m (refused r) e

pub verdict_too_long : (m : List ℕ) (w : ℕ) → announcing m ≡ announces w → room < w → verdict m ≡ refused too_long
verdict_too_long m w e h = verdict_by m (announces w) e ∙ rw (lt-ltb room w h)

pub verdict_more : (m : List ℕ) (w : ℕ) → announcing m ≡ announces w → w ≤ room → length m < w → verdict m ≡ more
verdict_more m w e h l = verdict_by m (announces w) e ∙ rw (le-ltb room w h, lt-ltb (length m) w l)

pub verdict_whole : (m : List ℕ) (w : ℕ) → announcing m ≡ announces w → w ≤ room → w ≤ length m → verdict m ≡ settled (reading m)
verdict_whole m w e h l = verdict_by m (announces w) e ∙ rw (le-ltb room w h, le-ltb (length m) w l)

-- what was announced stays announced when a byte comes
pub announcing_grown : (k : List ℕ) (n x w : ℕ) → n < length k → header_size ≤ n → announcing (take n k) ≡ announces w
    → announcing (take (suc n) (set k n x)) ≡ announces w
announcing_grown k n x w h l e =
    let long : header_size ≤ length (take n k) = omega (arith, length-take-le n k (omega arith)) in
    ap announcing (take-suc-set k n x h) ∙ announcing_more (take n k) (x ∷ []) long ∙ e

pub announcing_laid : (k l : List ℕ) (n w : ℕ) → n + length l ≤ length k → header_size ≤ n → announcing (take n k) ≡ announces w
    → announcing (take (n + length l) (sets k n l)) ≡ announces w
announcing_laid k l n w h b e =
    let long : header_size ≤ length (take n k) = omega (arith, length-take-le n k (omega arith)) in
    ap announcing (laid_front k l n h) ∙ announcing_more (take n k) l long ∙ e
