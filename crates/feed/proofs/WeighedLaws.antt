-- A verdict by its cases: on an announced length it is too long, not all in yet, or what reading says of all that is in.
-- A complete verdict is on a message that reading accepts, with the fields that it carries.
use mathlib.Core.Bool.{Bool, true, false}
use mathlib.Core.List.{List}
use mathlib.Core.Path.{◌≡◌, refl}
use Prim.Native.Nat.{ℕ, ◌≤◌, ◌<◌}
use borrow.Author.Tests.{ltb-true, ltb-false}
use lib.Dec.{ltb}
use lib.ListN.{length}
use Rattle.envelope.specs.Announcing.{AnnouncementAnswer, unfinished, refused as refusedHeading, announces, announcing}
use Rattle.envelope.specs.Fields.{Fields, Answer, accepted, refused as refusedMessage}
use Rattle.envelope.specs.Reading.{reading}
use Rattle.feed.specs.Verdict.{room, too_long, more, complete, refused, settled, verdict}
use Rattle.feed.proofs.VerdictLaws.{verdict_by, verdict_too_long, verdict_more, verdict_whole}

pub settled_not_more : (a : Answer) → settled a ≡ more → ⊥
settled_not_more (accepted f) e = cc
settled_not_more (refusedMessage r) e = cc

-- ---- a verdict on an announced length, in its three cases

pub data Weighed (m : List ℕ) (w : ℕ) : Type 0 where
  is_too_long : room < w → verdict m ≡ refused too_long → Weighed m w
  not_yet : w ≤ room → length m < w → verdict m ≡ more → Weighed m w
  all_in : w ≤ room → w ≤ length m → verdict m ≡ settled (reading m) → Weighed m w

pub weigh : (m : List ℕ) (w : ℕ) → announcing m ≡ announces w → Weighed m w
weigh m w e = go (ltb room w) refl (ltb (length m) w) refl
  where
    go : (a : Bool) → ltb room w ≡ a → (b : Bool) → ltb (length m) w ≡ b → Weighed m w
    go true ea b eb = is_too_long (ltb-true room w ea) (verdict_too_long m w e (ltb-true room w ea))
    go false ea true eb =
        let fits = ltb-false room w ea in
        let few = ltb-true (length m) w eb in
        not_yet fits few (verdict_more m w e fits few)
    go false ea false eb =
        let fits = ltb-false room w ea in
        let all = ltb-false (length m) w eb in
        all_in fits all (verdict_whole m w e fits all)

-- a complete verdict is on a message that reading accepts, with these fields
pub complete_accepts : (m : List ℕ) (f : Fields) → verdict m ≡ complete f → reading m ≡ accepted f
complete_accepts m f v = go (announcing m) refl
  where
    by_answer : (a : Answer) → verdict m ≡ settled a → a ≡ accepted f
    by_answer (accepted g) e = cc
    by_answer (refusedMessage r) e = cc

    by : (w : ℕ) → Weighed m w → reading m ≡ accepted f
    by w (is_too_long l e) = cc
    by w (not_yet l k e) = cc
    by w (all_in l k e) = by_answer (reading m) e

    go : (a : AnnouncementAnswer) → announcing m ≡ a → reading m ≡ accepted f
    go unfinished e = cc (verdict_by m unfinished e)
    go (refusedHeading r) e = cc (verdict_by m (refusedHeading r) e)
    go (announces w) e = by w (weigh m w e)
