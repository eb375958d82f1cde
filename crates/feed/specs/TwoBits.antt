-- K11 for the feed: of two streams, cut anyhow, a message found in the one and one found in the other never differ in one or two bits before the field alone. RULES 6.
-- Proofs in proofs/BitsLaws.
use Rattle.std.specs.Prelude.{ℕ, ◌≤◌, List, ◌∷◌, ◌++◌, ◌≡◌, length}
use Rattle.envelope.specs.Demand3.{DeclaresCrc}
use Rattle.envelope.specs.Promise.{Bytes}
use Rattle.envelope.specs.TwoBits.{bits_apart, summed, field_of}
use Rattle.feed.specs.Cutting.{Came, Calls}
use Rattle.feed.specs.Told.{Fresh}
use Rattle.feed.specs.declared.feeder.Feed.{Feed}

-- m was found in a stream of bytes, by some run from a new feed
pub record FoundSomewhere (m : List ℕ) : Type 0 where
  pub feed : Feed
  pub new : Fresh feed
  pub stream : List ℕ
  pub bytes : Bytes stream
  pub came : Came
  pub calls : Calls feed stream came
  pub before : List (List ℕ)
  pub behind : List (List ℕ)
  pub found : came.found ≡ before ++ (m ∷ behind)

-- two CRC messages of one length, at whatever places of their streams, with the same field and 1 to n bits before it: that cannot be
abbrev pub FeedBitsBeforeField : ℕ → Type 0
FeedBitsBeforeField n =
    (s t : List ℕ) → FoundSomewhere s → FoundSomewhere t → length s ≡ length t → DeclaresCrc s → DeclaresCrc t
    → field_of s ≡ field_of t → 1 ≤ bits_apart (summed s) (summed t) → bits_apart (summed s) (summed t) ≤ n → ⊥

abbrev pub FeedTwoBits : Type 0
FeedTwoBits = FeedBitsBeforeField 2

-- up to n bits, anywhere in the message: equal
abbrev pub FeedBits : ℕ → Type 0
FeedBits n =
    (s t : List ℕ) → FoundSomewhere s → FoundSomewhere t → length s ≡ length t → DeclaresCrc s → DeclaresCrc t → bits_apart s t ≤ n → s ≡ t

abbrev pub FeedThreeBits : Type 0
FeedThreeBits = FeedBits 3
