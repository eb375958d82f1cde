-- Lateness of a message at a clock, counted from its entry into the messaging infrastructure, both in seconds. RULES 4.
-- The sum of entry and TTL is a whole number: it does not run round. Each theorem is a type here; proofs in proofs/LatenessLaws.
use Rattle.std.specs.Prelude.{◌≡◌, ℕ, ◌+◌, ◌<◌, ◌≤◌, Bool, cond, ◌==◌, Some, nat_lt}
use Rattle.envelope.specs.Fields.{AddressingFields, absent, present, Fields}
use Rattle.envelope.specs.Told.{told_envelope}
use Rattle.envelope.specs.declared.fields.Addressing.{Addressing}
use Rattle.envelope.specs.declared.fields.Envelope.{Envelope}
use Rattle.envelope.specs.declared.lateness.Lateness.{Lateness}
use Rattle.envelope.specs.declared.lateness.Lateness.TheVariants.{NoClock, Late, InTime}

pub data LatenessAnswer : Type 0 where
  no_clock : LatenessAnswer
  late : LatenessAnswer
  in_time : LatenessAnswer

-- the clock is past entry and TTL together
abbrev pub late_after : (entry ttl clock : ℕ) → Bool
late_after entry ttl clock = nat_lt (entry + ttl) clock

-- no answer where there is no variable header, or its TTL is left blank, which is 0
unfoldable pub lateness_of : AddressingFields → (entry clock : ℕ) → LatenessAnswer
lateness_of absent entry clock = no_clock
lateness_of (present ttl qos source destination) entry clock = cond (ttl == 0) no_clock (cond (late_after entry ttl clock) late in_time)

abbrev pub lateness : Fields → (entry clock : ℕ) → LatenessAnswer
lateness f entry clock = lateness_of f.addressing entry clock

abbrev pub told_lateness : Lateness → LatenessAnswer
told_lateness NoClock = no_clock
told_lateness Late = late
told_lateness InTime = in_time

-- what `lateness::judge` promises
abbrev pub JudgesLateness : Envelope → (entry clock : ℕ) → Lateness → Type 0
JudgesLateness e entry clock r = told_lateness r ≡ lateness (told_envelope e) entry clock

-- envelopes with one addressing get one answer at an entry and a clock, whatever their time, their flags and all else
abbrev pub AddressingDecides : Type 0
AddressingDecides =
    (d e : Envelope) (entry clock : ℕ) (r s : Lateness) → d.addressing ≡ e.addressing
    → JudgesLateness d entry clock r → JudgesLateness e entry clock s → r ≡ s

-- once late, late at every later clock
abbrev pub LateStaysLate : Type 0
LateStaysLate =
    (e : Envelope) (entry clock later : ℕ) (s : Lateness) → JudgesLateness e entry clock Late → clock ≤ later
    → JudgesLateness e entry later s → s ≡ Late

-- with a TTL that is not blank: in time at every clock up to entry + TTL, and at no other
abbrev pub InTimeUpToEntryAndTtl : Type 0
InTimeUpToEntryAndTtl =
    (e : Envelope) (a : Addressing) (entry clock : ℕ) (r : Lateness)
    → e.addressing ≡ Some a → 0 < a.ttl → JudgesLateness e entry clock r
    → (clock ≤ entry + a.ttl → r ≡ InTime) × (r ≡ InTime → clock ≤ entry + a.ttl)
