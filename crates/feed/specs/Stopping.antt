-- What stops a feed and what does not: a refusal, the end, an empty piece, a restart. RULES 7.
-- Proofs in proofs/StopLaws.
use Rattle.std.specs.Prelude.{ℕ, ◌<◌, List, [], None, Ok, Err, ◌≡◌}
use Rattle.feed.specs.Feeding.{begun, standing}
use Rattle.feed.specs.Messages.{Between}
use Rattle.feed.specs.Told.{told_feed, told_taken, Fresh, Takes, Ends}
use Rattle.feed.specs.declared.refusal.Refusal.{Refusal as CodeRefusal}
use Rattle.feed.specs.declared.refusal.Refusal.TheVariants.{Cut}
use Rattle.feed.specs.declared.feeder.Ended.{Ended}
use Rattle.feed.specs.declared.feeder.Feed.{Feed}
use Rattle.feed.specs.declared.feeder.Taken.{Taken}
use Rattle.feed.specs.declared.step.Standing.TheVariants.{Refused}

-- a refusal that a call tells stands from then on
abbrev pub RefusalIsKept : Type 0
RefusalIsKept = (f : Feed) (refusal : CodeRefusal) (piece : List ℕ) (t : Taken) → Takes f piece t → t.found ≡ Err refusal → t.feed.beside.standing ≡ Refused refusal

-- and one that stands after a call was told by it, wherever the bytes are cut
abbrev pub RefusalIsTold : Type 0
RefusalIsTold = (f : Feed) (refusal : CodeRefusal) (piece : List ℕ) (t : Taken) → Takes f piece t → t.feed.beside.standing ≡ Refused refusal → t.found ≡ Err refusal

-- the end's stands from then on too
abbrev pub EndIsKept : Type 0
EndIsKept = (f : Feed) (refusal : CodeRefusal) (e : Ended) → Ends f e → e.found ≡ Err refusal → e.feed.beside.standing ≡ Refused refusal

-- while it stands nothing is used and nothing changes, and every call repeats it
abbrev pub RefusalStands : Type 0
RefusalStands = (f : Feed) (refusal : CodeRefusal) (piece : List ℕ) (t : Taken) (e : Ended) → f.beside.standing ≡ Refused refusal → Takes f piece t → Ends f e
    → (t ≡ record { feed = f; used = 0; found = Err refusal }) × (e ≡ record { feed = f; found = Err refusal })

-- until a restart, which gives the feed that `new` gives
abbrev pub RestartIsNew : Type 0
RestartIsNew = (restarted new : Feed) → Fresh restarted → Fresh new → restarted ≡ new

-- an empty piece changes nothing and finds nothing new: what stands is told again
abbrev pub EmptyPiece : Type 0
EmptyPiece = (f : Feed) (t : Taken) → Takes f [] t → (t.feed ≡ f) × (t.used ≡ 0) × ((told_taken t).finding ≡ standing (told_feed f).stand)

-- the end between messages is no refusal and changes nothing
abbrev pub EndBetween : Type 0
EndBetween = (f : Feed) (e : Ended) → Ends f e → Between (told_feed f) → e ≡ record { feed = f; found = Ok None }

-- inside one it is 52, and the bytes kept stay
abbrev pub EndInside : Type 0
EndInside = (f : Feed) (e : Ended) → Ends f e → 0 < begun (told_feed f)
    → e ≡ record { feed = record { kept = f.kept; beside = record { count = f.beside.count; standing = Refused Cut } }; found = Err Cut }
