-- What a run finds is what reading accepts, all of it is found, and each thing is told at the byte that settles it and not before. RULES 7.
-- Proofs in proofs/SettlingLaws, proofs/FoundLaws and proofs/RefusedLaws.
use Rattle.std.specs.Prelude.{ℕ, ◌≤◌, ◌<◌, List, [], ◌∷◌, ◌++◌, Some, Ok, Err, ◌≡◌, length, take}
use Rattle.std.proofs.lemmas.List.Edits.{sets}
use Rattle.envelope.specs.Announcing.{announces, announcing}
use Rattle.envelope.specs.Fields.{Fields, accepted}
use Rattle.envelope.specs.Layout.{header_size}
use Rattle.envelope.specs.Reading.{reading}
use Rattle.envelope.specs.Told.{told_envelope}
use Rattle.envelope.specs.declared.fields.Envelope.{Envelope}
use Rattle.feed.specs.Cutting.{Came, Calls}
use Rattle.feed.specs.Feeding.{Stand, whole, refused, State, begun, Finding, nothing, message, FeedOutcome, standing, taking, ending}
use Rattle.feed.specs.Stream.{found_in}
use Rattle.feed.specs.Told.{told_feed_refusal, told_feed, told_taken, Fresh, Takes, Holds}
use Rattle.feed.specs.Verdict.{room, FeedRefusal, number_of, refused, verdict}
use Rattle.feed.specs.declared.refusal.Refusal.{Refusal as CodeRefusal}
use Rattle.feed.specs.declared.feeder.Feed.{Feed}
use Rattle.feed.specs.declared.feeder.Taken.{Taken}
use Rattle.feed.specs.declared.step.Standing.TheVariants.{Whole, Refused}

-- reading accepts it, and a feed has room for it
pub record Fits (m : List ℕ) : Type 0 where
  pub fields : Fields
  pub accepts : reading m ≡ accepted fields
  pub short : length m ≤ room

pub data All (P : List ℕ → Type 0) : List (List ℕ) → Type 0 where
  none : All P []
  also : {m : List ℕ} {ms : List (List ℕ)} → P m → All P ms → All P (m ∷ ms)

abbrev pub AllFit : List (List ℕ) → Type 0
AllFit = All Fits

-- end to end
abbrev pub joined : List (List ℕ) → List ℕ
joined [] = []
joined (m ∷ ms) = m ++ joined ms

-- a feed's own bytes are 510; of a `Feed` the language sees to it
abbrev pub Roomy : State → Type 0
Roomy s = length s.kept ≡ room

-- no refusal, and no byte of the next message is in
pub record Between (s : State) : Type 0 where
  pub roomy : Roomy s
  pub going : standing s.stand ≡ nothing
  pub none : begun s ≡ 0

abbrev pub NewIsBetween : Type 0
NewIsBetween = (f : Feed) → Fresh f → Between (told_feed f)

-- ---- what is found is what reading accepts, and all of it is found

abbrev pub FoundAreAccepted : Type 0
FoundAreAccepted = (f : Feed) (bytes : List ℕ) (c : Came) → Roomy (told_feed f) → Calls f bytes c → AllFit c.found

-- messages end to end: each of them, in order, all bytes used, and the feed is between messages again
abbrev pub AllAreFound : Type 0
AllAreFound = (f : Feed) (ms : List (List ℕ)) (c : Came) → Between (told_feed f) → AllFit ms → Calls f (joined ms) c
    → (c.found ≡ ms) × (c.used ≡ length (joined ms)) × Between (told_feed c.feed)

-- a call that is lent a message, and whatever behind it: the message is found with its envelope, and nothing behind it is used
abbrev pub FoundInOnePiece : Type 0
FoundInOnePiece = (f : Feed) (m rest : List ℕ) (e : Envelope) → Between (told_feed f) → length m ≤ room → reading m ≡ accepted (told_envelope e)
    → Takes f (m ++ rest) (record { feed = record { kept = sets f.kept 0 m; beside = record { count = length m; standing = Whole } }; used = length m; found = Ok (Some (record { size = length m; envelope = e })) })

-- a message is handed out with what reading hands out of its bytes, and these are the ones that `held` then gives
abbrev pub FoundIsHeld : Type 0
FoundIsHeld = (f : Feed) (piece : List ℕ) (t : Taken) (n : ℕ) (e : Envelope) (m : List ℕ)
    → Roomy (told_feed f) → Takes f piece t → t.found ≡ Ok (Some (record { size = n; envelope = e })) → Holds t.feed.kept t.feed.beside m
    → (found_in (told_taken t) ≡ m ∷ []) × (reading m ≡ accepted (told_envelope e)) × (length m ≡ n)

-- ---- no call uses more bytes than the longest message has, or finds a longer one

abbrev pub found_size : Finding → ℕ
found_size nothing = 0
found_size (message n f) = n
found_size (refused f) = 0

pub record Few (o : FeedOutcome) : Type 0 where
  pub used : o.used ≤ room
  pub size : found_size o.finding ≤ room

abbrev pub UsesFew : Type 0
UsesFew = (s : State) (piece : List ℕ) (o : FeedOutcome) → Roomy s → o ≡ taking s piece → Few o

-- an end finds none at all
abbrev pub EndFindsNoMessage : Type 0
EndFindsNoMessage = (s : State) → found_size (ending s).finding ≡ 0

-- ---- the moment

-- all these bytes were used, nothing was found and nothing refused
pub record Silent (p : List ℕ) (c : Came) : Type 0 where
  pub none_found : c.found ≡ []
  pub all_used : c.used ≡ length p
  pub none_refused : standing (told_feed c.feed).stand ≡ nothing

-- these bytes were used and no further one, they stand at the front of the room, and so it stands then
pub record SettledAt (before : Feed) (m : List ℕ) (stand : Stand) (c : Came) : Type 0 where
  pub last_used : c.used ≡ length m
  pub leaves : told_feed c.feed ≡ record { kept = sets before.kept 0 m; count = length m; stand = stand }

-- p ++ q is the message: silent while a byte of it is missing, and found with its last byte
abbrev pub FoundAtItsLastByte : Type 0
FoundAtItsLastByte = (f : Feed) (p q : List ℕ) (c d : Came) → Between (told_feed f) → Fits (p ++ q) → Calls f p c → Calls f (p ++ q) d
    → (0 < length q → Silent p c) × (d.found ≡ (p ++ q) ∷ []) × SettledAt f (p ++ q) whole d

-- refused when p ++ q is in, whatever follows: silent while a byte of it is missing, and nothing of what follows is used
abbrev pub RefusedWith : (List ℕ → Type 0) → Type 0
RefusedWith Settling =
    (f : Feed) (p q rest : List ℕ) (refusal : FeedRefusal) (c d : Came) → Between (told_feed f) → Settling (p ++ q) → verdict (p ++ q) ≡ refused refusal
    → Calls f p c → Calls f ((p ++ q) ++ rest) d
    → (0 < length q → Silent p c) × (d.found ≡ []) × SettledAt f (p ++ q) (refused refusal) d

-- a call that is lent such bytes, and whatever behind them
abbrev pub RefusedInOnePiece : (List ℕ → Type 0) → Type 0
RefusedInOnePiece Settling =
    (f : Feed) (m rest : List ℕ) (refusal : CodeRefusal) → Between (told_feed f) → Settling m → verdict m ≡ refused (told_feed_refusal refusal)
    → Takes f (m ++ rest) (record { feed = record { kept = sets f.kept 0 m; beside = record { count = length m; standing = Refused refusal } }; used = length m; found = Err refusal })

-- a refused heading, with the 17th byte
abbrev pub OfThe17th : List ℕ → Type 0
OfThe17th m = length m ≡ header_size

abbrev pub RefusedAtThe17th : Type 0
RefusedAtThe17th = RefusedWith OfThe17th × RefusedInOnePiece OfThe17th

-- any other, when the announced length is in
abbrev pub Complete : List ℕ → Type 0
Complete m = (announcing m ≡ announces (length m)) × (length m ≤ room)

abbrev pub RefusedWhenComplete : Type 0
RefusedWhenComplete = RefusedWith Complete × RefusedInOnePiece Complete

-- ---- and there is no other refusal

pub data HeadingNumber (n : ℕ) : Type 0 where
  is_2 : n ≡ 2 → HeadingNumber n
  is_3 : n ≡ 3 → HeadingNumber n
  is_4 : n ≡ 4 → HeadingNumber n
  is_51 : n ≡ 51 → HeadingNumber n

pub data WholeNumber (n : ℕ) : Type 0 where
  is_6 : n ≡ 6 → WholeNumber n
  is_7 : n ≡ 7 → WholeNumber n

-- 17 bytes with 2, 3, 4 or 51, or as many as are announced with 6 or 7
pub data Settles (m : List ℕ) (n : ℕ) : Type 0 where
  at_17 : length m ≡ header_size → HeadingNumber n → Settles m n
  at_announced : announcing m ≡ announces (length m) → WholeNumber n → Settles m n

-- whatever run from a new feed: the bytes that are in of the refused message
abbrev pub WhereRefused : Type 0
WhereRefused = (f : Feed) (bytes : List ℕ) (c : Came) (refusal : CodeRefusal) → Fresh f → Calls f bytes c → c.feed.beside.standing ≡ Refused refusal
    → Settles (take c.feed.beside.count c.feed.kept) (number_of (told_feed_refusal refusal))
