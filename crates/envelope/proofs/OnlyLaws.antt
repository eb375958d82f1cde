-- One answer alone keeps each promise: what a function is told as can be told back.
-- `untold` undoes `told`, case by case.
use Rattle.std.proofs.Common.{◌≡◌, ℕ, zero, suc, ◌-◌, List, length, Option, Some, None, Result, Ok, Err, sym, refl, ap, ◌∙◌}
pub use Rattle.sum.proofs.Laws.{only_by_telling}
use Rattle.sum.specs.Promise.{Only₁}
use Rattle.envelope.specs.Fields.{Span, HeaderFields, AddressingFields, absent, present, IntegrityFields, none, crc, application, Fields, Answer, accepted, refused}
use Rattle.envelope.specs.Fields as paper
use Rattle.envelope.specs.Flags.{kind_of, TellsTime, TellsEncryption, TellsCompression, told_kind, TellsKind, NumbersKind}
use Rattle.envelope.specs.Lateness.{LatenessAnswer, no_clock, late, in_time, lateness, told_lateness, JudgesLateness}
use Rattle.envelope.specs.Message.{Given}
use Rattle.envelope.specs.Numbers.{TwoBytes, ThreeBytes, FourBytes, TwoDigits, FourDigits}
use Rattle.envelope.specs.Promise.{Only₂}
use Rattle.envelope.specs.Qos.{QosFields, splitting, QosAnswer, joining, told_qos, told_joining, Splits, Joins}
use Rattle.envelope.specs.Qos as qos
use Rattle.envelope.specs.Reading.{reading}
use Rattle.envelope.specs.Refusals.{RefusalNumbers, numbers_of, reading_numbers, told_numbers, TellsNumbers, NumbersByReading}
use Rattle.envelope.specs.Refusals as passed
use Rattle.envelope.specs.Rewriting.{RewriteAnswer, told_rewriting, Rewrites}
use Rattle.envelope.specs.Rewriting as rewriting
use Rattle.envelope.specs.Sequence.{SequenceAnswer, repeat, next, ahead, behind, sequence_of, distance, told_sequence, Distance, JudgesSequence}
use Rattle.envelope.specs.Told.{told_fault, told_refusal, NumbersFault, told_addressing, told_integrity, told_envelope, told, Slices, Reads, Holds}
use Rattle.envelope.specs.Writing.{WriteAnswer, wrote, refused, answer_to_writing, writing, told_write_fault, NumbersWriteFault, told_writing, Writes}
use Rattle.envelope.specs.declared.fields.Part.{Part}
use Rattle.envelope.specs.declared.fields.Header.{Header}
use Rattle.envelope.specs.declared.fields.Addressing.{Addressing}
use Rattle.envelope.specs.declared.fields.Integrity.{Integrity}
use Rattle.envelope.specs.declared.fields.Integrity.TheVariants as held
use Rattle.envelope.specs.declared.fields.Envelope.{Envelope}
use Rattle.envelope.specs.declared.lateness.Lateness.{Lateness}
use Rattle.envelope.specs.declared.lateness.Lateness.TheVariants.{NoClock, Late, InTime}
use Rattle.envelope.specs.declared.qos.Qos.{Qos}
use Rattle.envelope.specs.declared.reader.Fault.{Fault}
use Rattle.envelope.specs.declared.reader.Fault.TheVariants.{TooShort, WrongVersion, BadFlags, BadVariableSize, WrongLength, BadAddresses, BadIntegrity}
use Rattle.envelope.specs.declared.fields.Kind.{Kind}
use Rattle.envelope.specs.declared.fields.Kind.TheVariants as kind
use Rattle.envelope.specs.declared.reader.Refusal.{Refusal}
use Rattle.envelope.specs.declared.refusals.Numbers.{Numbers}
use Rattle.envelope.specs.declared.sequence.Sequence.{Sequence}
use Rattle.envelope.specs.declared.sequence.Sequence.TheVariants.{Repeat, Next, Ahead, Behind}
use Rattle.envelope.specs.declared.rewriter.RewriteFault.{RewriteFault}
use Rattle.envelope.specs.declared.rewriter.RewriteFault.TheVariants as again
use Rattle.envelope.specs.declared.writer.WriteFault.{WriteFault}
use Rattle.envelope.specs.declared.writer.WriteFault.TheVariants.{BadFlags as NoFlags, BadAddresses as NoEnds, BodyTooLong, StrayIntegrity, NoRoom}

-- ---- reading

abbrev pub untold_fault : ℕ → Fault
untold_fault zero = TooShort
untold_fault (suc zero) = TooShort
untold_fault (suc (suc zero)) = WrongVersion
untold_fault (suc (suc (suc zero))) = BadFlags
untold_fault (suc (suc (suc (suc zero)))) = BadVariableSize
untold_fault (suc (suc (suc (suc (suc zero))))) = WrongLength
untold_fault (suc (suc (suc (suc (suc (suc zero)))))) = BadAddresses
untold_fault (suc (suc (suc (suc (suc (suc (suc n))))))) = BadIntegrity

pub untold_fault_lem : (f : Fault) → untold_fault (told_fault f) ≡ f
untold_fault_lem TooShort = refl
untold_fault_lem WrongVersion = refl
untold_fault_lem BadFlags = refl
untold_fault_lem BadVariableSize = refl
untold_fault_lem WrongLength = refl
untold_fault_lem BadAddresses = refl
untold_fault_lem BadIntegrity = refl

abbrev pub untold_refusal : paper.Refusal → Refusal
untold_refusal r = record { fault = untold_fault r.number; place = r.place }

pub untold_refusal_lem : (r : Refusal) → untold_refusal (told_refusal r) ≡ r
untold_refusal_lem r = λ i. record { fault = untold_fault_lem r.fault i; place = r.place }

pub only_numbers_fault : (f : Fault) → Only₁ (NumbersFault f)
only_numbers_fault f a b p q = p ∙ sym q

-- the numbers of a refusal: of reading itself, and of whoever passes it on
pub only_told_numbers : (n : RefusalNumbers) → Only₁ (λ (r : Numbers). told_numbers r ≡ n)
only_told_numbers n =
    only_by_telling told_numbers (λ (m : RefusalNumbers). record { number = m.number; reading = m.reading; place = m.place }) (λ a. refl) n

pub only_numbers_by_reading : (r : Refusal) → Only₁ (NumbersByReading r)
only_numbers_by_reading r = only_told_numbers (reading_numbers (told_refusal r))

pub only_numbers : (r : passed.Refused) → Only₁ (TellsNumbers r)
only_numbers r = only_told_numbers (numbers_of r)

abbrev untold_part : Span → Part
untold_part p = record { place = p.place; size = p.size }

abbrev untold_header : HeaderFields → Header
untold_header h =
    record {
      message_type = h.message_type;
      version = h.version;
      flags = h.flags;
      number = h.number;
      time = h.time;
    }

abbrev untold_addressing : AddressingFields → Option Addressing
untold_addressing absent = None
untold_addressing (present ttl qos source destination) =
    Some (record { ttl = ttl; qos = qos; source = untold_part source; destination = untold_part destination })

untold_addressing_lem : (a : Option Addressing) → untold_addressing (told_addressing a) ≡ a
untold_addressing_lem None = refl
untold_addressing_lem (Some a) = refl

abbrev untold_integrity : IntegrityFields → Integrity
untold_integrity none = held.None
untold_integrity (crc n) = held.Crc n
untold_integrity (application n) = held.Application n

untold_integrity_lem : (i : Integrity) → untold_integrity (told_integrity i) ≡ i
untold_integrity_lem held.None = refl
untold_integrity_lem (held.Crc n) = refl
untold_integrity_lem (held.Application n) = refl

abbrev pub untold_envelope : Fields → Envelope
untold_envelope f =
    record {
      header = untold_header f.header;
      addressing = untold_addressing f.addressing;
      body = untold_part f.body;
      integrity = untold_integrity f.integrity;
    }

pub untold_envelope_lem : (e : Envelope) → untold_envelope (told_envelope e) ≡ e
untold_envelope_lem e = λ i.
    record {
      header = e.header;
      addressing = untold_addressing_lem e.addressing i;
      body = e.body;
      integrity = untold_integrity_lem e.integrity i;
    }

abbrev untold : Answer → Result Envelope Refusal
untold (accepted f) = Ok (untold_envelope f)
untold (refused r) = Err (untold_refusal r)

untold_told : (r : Result Envelope Refusal) → untold (told r) ≡ r
untold_told (Ok e) = ap Ok (untold_envelope_lem e)
untold_told (Err r) = ap Err (untold_refusal_lem r)

pub only_reads : (bytes : List ℕ) → Only₁ (Reads bytes)
only_reads bytes = only_by_telling told untold untold_told (reading bytes)

-- ---- the envelope's constructor, and numbers by value

pub only_holds : (header : Header) (addressing : Option Addressing) (body : Part) (integrity : Integrity)
    → Only₁ (Holds header addressing body integrity)
only_holds header addressing body integrity a b p q = p ∙ sym q

pub only_two_bytes : (a b : ℕ) → Only₁ (TwoBytes a b)
only_two_bytes a b x y p q = p ∙ sym q

pub only_three_bytes : (a b c : ℕ) → Only₁ (ThreeBytes a b c)
only_three_bytes a b c x y p q = p ∙ sym q

pub only_four_bytes : (a b c d : ℕ) → Only₁ (FourBytes a b c d)
only_four_bytes a b c d x y p q = p ∙ sym q

pub only_two_digits : (n : ℕ) → Only₁ (TwoDigits n)
only_two_digits n x y p q = p ∙ sym q

pub only_four_digits : (n : ℕ) → Only₁ (FourDigits n)
only_four_digits n x y p q = p ∙ sym q

-- ---- flags

pub only_tells_time : (flags : ℕ) → Only₁ (TellsTime flags)
only_tells_time flags x y p q = p ∙ sym q

pub only_tells_encryption : (flags : ℕ) → Only₁ (TellsEncryption flags)
only_tells_encryption flags x y p q = p ∙ sym q

pub only_tells_compression : (flags : ℕ) → Only₁ (TellsCompression flags)
only_tells_compression flags x y p q = p ∙ sym q

abbrev untold_kind : ℕ → Kind
untold_kind zero = kind.None
untold_kind (suc zero) = kind.Crc
untold_kind (suc (suc zero)) = kind.Application
untold_kind (suc (suc (suc n))) = kind.Unassigned

untold_kind_lem : (k : Kind) → untold_kind (told_kind k) ≡ k
untold_kind_lem kind.None = refl
untold_kind_lem kind.Crc = refl
untold_kind_lem kind.Application = refl
untold_kind_lem kind.Unassigned = refl

pub only_tells_kind : (flags : ℕ) → Only₁ (TellsKind flags)
only_tells_kind flags = only_by_telling told_kind untold_kind untold_kind_lem (kind_of flags)

pub only_numbers_kind : (k : Kind) → Only₁ (NumbersKind k)
only_numbers_kind k a b p q = p ∙ sym q

-- ---- QoS

abbrev untold_qos : QosFields → Qos
untold_qos f =
    record {
      service_request = f.service_request;
      special_handling = f.special_handling;
      network_preference = f.network_preference;
      priority = f.priority;
      class = f.class;
    }

pub only_splits : (q : ℕ) → Only₁ (Splits q)
only_splits q = only_by_telling told_qos untold_qos (λ r. refl) (splitting q)

abbrev untold_joining : QosAnswer → Option ℕ
untold_joining (qos.joined q) = Some q
untold_joining (qos.refused n) = None

untold_joining_lem : (r : Option ℕ) → untold_joining (told_joining r) ≡ r
untold_joining_lem (Some q) = refl
untold_joining_lem None = refl

pub only_joins : (q : Qos) → Only₁ (Joins q)
only_joins q = only_by_telling told_joining untold_joining untold_joining_lem (joining (told_qos q))

-- ---- lateness

abbrev untold_lateness : LatenessAnswer → Lateness
untold_lateness no_clock = NoClock
untold_lateness late = Late
untold_lateness in_time = InTime

untold_lateness_lem : (r : Lateness) → untold_lateness (told_lateness r) ≡ r
untold_lateness_lem NoClock = refl
untold_lateness_lem Late = refl
untold_lateness_lem InTime = refl

pub only_judges_lateness : (e : Envelope) (entry clock : ℕ) → Only₁ (JudgesLateness e entry clock)
only_judges_lateness e entry clock = only_by_telling told_lateness untold_lateness untold_lateness_lem (lateness (told_envelope e) entry clock)

-- ---- sequence

pub only_distance : (old new : ℕ) → Only₁ (Distance old new)
only_distance old new a b p q = p ∙ sym q

abbrev untold_sequence : SequenceAnswer → Sequence
untold_sequence repeat = Repeat
untold_sequence next = Next
untold_sequence (ahead n) = Ahead n
untold_sequence (behind n) = Behind n

untold_sequence_lem : (r : Sequence) → untold_sequence (told_sequence r) ≡ r
untold_sequence_lem Repeat = refl
untold_sequence_lem Next = refl
untold_sequence_lem (Ahead n) = refl
untold_sequence_lem (Behind n) = refl

pub only_judges_sequence : (old new : ℕ) → Only₁ (JudgesSequence old new)
only_judges_sequence old new = only_by_telling told_sequence untold_sequence untold_sequence_lem (sequence_of (distance old new))

-- ---- a part's bytes

pub only_slices : (p : Part) (bytes : List ℕ) → Only₁ (Slices p bytes)
only_slices p bytes a b e f = e ∙ sym f

-- ---- writing, and rewriting: the answer and the whole buffer

abbrev untold_write_fault : ℕ → WriteFault
untold_write_fault zero = NoFlags
untold_write_fault (suc zero) = NoEnds
untold_write_fault (suc (suc zero)) = BodyTooLong
untold_write_fault (suc (suc (suc zero))) = StrayIntegrity
untold_write_fault (suc (suc (suc (suc n)))) = NoRoom

untold_write_fault_lem : (f : WriteFault) → untold_write_fault (told_write_fault f - 11) ≡ f
untold_write_fault_lem NoFlags = refl
untold_write_fault_lem NoEnds = refl
untold_write_fault_lem BodyTooLong = refl
untold_write_fault_lem StrayIntegrity = refl
untold_write_fault_lem NoRoom = refl

pub only_numbers_write_fault : (f : WriteFault) → Only₁ (NumbersWriteFault f)
only_numbers_write_fault f a b p q = p ∙ sym q

abbrev untold_writing : WriteAnswer → Result ℕ WriteFault
untold_writing (wrote n) = Ok n
untold_writing (refused n) = Err (untold_write_fault (n - 11))

untold_writing_lem : (r : Result ℕ WriteFault) → untold_writing (told_writing r) ≡ r
untold_writing_lem (Ok n) = refl
untold_writing_lem (Err f) = ap Err (untold_write_fault_lem f)

pub only_writes : (g : Given) (entry : List ℕ) → Only₂ (Writes g entry)
only_writes g entry a b x y p q =
    (only_by_telling told_writing untold_writing untold_writing_lem (answer_to_writing (writing g (length entry))) a b p.0 q.0, p.1 ∙ sym q.1)

abbrev untold_rewriting : RewriteAnswer → Result ℕ RewriteFault
untold_rewriting (rewriting.rewrote n) = Ok n
untold_rewriting (rewriting.refused r) = Err (again.Refused (untold_refusal r))
untold_rewriting rewriting.no_room = Err again.NoRoom

untold_rewriting_lem : (r : Result ℕ RewriteFault) → untold_rewriting (told_rewriting r) ≡ r
untold_rewriting_lem (Ok n) = refl
untold_rewriting_lem (Err (again.Refused r)) = ap (λ (x : Refusal). Err (again.Refused x)) (untold_refusal_lem r)
untold_rewriting_lem (Err again.NoRoom) = refl

pub only_rewrites : (s entry : List ℕ) → Only₂ (Rewrites s entry)
only_rewrites s entry a b x y p q =
    (only_by_telling told_rewriting untold_rewriting untold_rewriting_lem (rewriting.rewriting s (length entry)) a b p.0 q.0, p.1 ∙ sym q.1)
