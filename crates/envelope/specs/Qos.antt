-- The QoS field: its five numbers, split out and joined again. RULES 1.
-- Bits 15-13 service request, 12-9 special handling, 8-6 network preference, 5-3 priority, 2-0 class.
use Rattle.std.specs.Prelude.{◌≡◌, ℕ, ◌+◌, ◌*◌, ◌/◌, ◌%◌, ◌<◌, Bool, cond, ◌&&◌, nat_lt, Option, Some, None}
use Rattle.envelope.specs.declared.qos.Qos.{Qos}

pub record QosFields : Type 0 where
  pub service_request : ℕ
  pub special_handling : ℕ
  pub network_preference : ℕ
  pub priority : ℕ
  pub class : ℕ

unfoldable pub splitting : ℕ → QosFields
splitting q =
    record {
      service_request = q / 8192 % 8;
      special_handling = q / 512 % 16;
      network_preference = q / 64 % 8;
      priority = q / 8 % 8;
      class = q % 8;
    }

-- each of the five fits its bits
abbrev pub fits_its_bits : QosFields → Bool
fits_its_bits f =
    nat_lt f.service_request 8
    && (nat_lt f.special_handling 16
    && (nat_lt f.network_preference 8
    && (nat_lt f.priority 8
    && nat_lt f.class 8)))

pub data QosAnswer : Type 0 where
  joined : ℕ → QosAnswer
  refused : ℕ → QosAnswer

unfoldable pub joining : QosFields → QosAnswer
joining f =
    cond (fits_its_bits f)
    (joined (f.service_request * 8192 + f.special_handling * 512 + f.network_preference * 64 + f.priority * 8 + f.class))
    (refused 41)

-- the code's types, told in these
abbrev pub told_qos : Qos → QosFields
told_qos q =
    record {
      service_request = q.service_request;
      special_handling = q.special_handling;
      network_preference = q.network_preference;
      priority = q.priority;
      class = q.class;
    }

abbrev pub told_joining : Option ℕ → QosAnswer
told_joining (Some q) = joined q
told_joining None = refused 41

-- what `split` and `join` promise
abbrev pub Splits : ℕ → Qos → Type 0
Splits q r = told_qos r ≡ splitting q

abbrev pub Joins : Qos → Option ℕ → Type 0
Joins q r = told_joining r ≡ joining (told_qos q)

-- the two ways round: a field split and joined again is that field, and what was joined splits into what it was joined from
abbrev pub JoinsWhatWasSplit : Type 0
JoinsWhatWasSplit = (q : ℕ) → q < 65536 → joining (splitting q) ≡ joined q

abbrev pub SplitsWhatWasJoined : Type 0
SplitsWhatWasJoined = (f : QosFields) (q : ℕ) → joining f ≡ joined q → splitting q ≡ f
