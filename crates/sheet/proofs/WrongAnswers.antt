-- For each public promise two answers that a careless program would give, each refuted by computing.
-- They show that no promise is met by whatever comes.
use Rattle.std.specs.Prelude.{Ok, Err, Some, Result, ◌≢◌}
use mathlib.Core.Bool.{true, false}
use mathlib.Core.List.{List, [], ◌∷◌, ◌++◌}
use mathlib.Core.Path.{◌≡◌, refl, sym, ap, ◌∙◌}
use Prim.Native.Nat.{ℕ}
use native.Mathlib.Omega.{arith}
use lib.IntN.{ℤ, pos, negsuc}
use lib.ListN.{length, take, set, get_or, replicate}
use Rattle.sum.specs.Crc.{crc32}
use Rattle.sum.specs.Promise.{Sums}
use Rattle.sum.specs.Vectors.{digits}
use Rattle.sum.proofs.Computed.{vectors, crc32_computes}
use Rattle.envelope.specs.Addresses.{bad_addresses}
use Rattle.envelope.specs.Fields.{absent, refused_by, refusal_by}
use Rattle.envelope.specs.Flags.{bad_flags, TellsTime, TellsEncryption, TellsCompression, TellsKind, told_kind}
use Rattle.envelope.specs.Heading.{announced, bad_variable_size, heading}
use Rattle.envelope.specs.IntegrityField.{bad_integrity}
use Rattle.envelope.specs.Lateness.{lateness_of, JudgesLateness}
use Rattle.envelope.specs.Message.{Given, before_field, field_number, message}
use Rattle.envelope.specs.Numbers.{two_at, three_at, four_at, TwoBytes, ThreeBytes, FourBytes, TwoDigits, FourDigits}
use Rattle.envelope.specs.Qos.{QosFields, splitting, joining, Splits, Joins}
use Rattle.envelope.specs.Reading.{reading_whole, reading}
use Rattle.envelope.specs.Refusals.{RefusalNumbers, NumbersByReading, NumbersPlainly, NumbersPassingOn}
use Rattle.envelope.specs.Rewriting.{rewrote, refused, Rewrites}
use Rattle.envelope.specs.RoundTrips.{given_by}
use Rattle.envelope.specs.Sequence.{steps_on, Distance, JudgesSequence}
use Rattle.envelope.specs.Told.{NumbersFault, Slices, Reads, Holds}
use Rattle.envelope.specs.Writing.{WriteOutcome, written, writing, after_writing, has_zero, bad_end, stray_integrity, NumbersWriteFault, Writes}
use Rattle.envelope.specs.declared.fields.Envelope.{Envelope}
use Rattle.std.specs.Prelude as prelude
use Rattle.envelope.specs.declared.fields.Header.{Header}
use Rattle.envelope.specs.declared.fields.Kind.{Kind}
use Rattle.envelope.specs.declared.writer.WriteFault.{WriteFault}
use Rattle.envelope.specs.declared.fields.Integrity.TheVariants.{None}
use Rattle.envelope.specs.declared.lateness.Lateness.TheVariants.{NoClock, Late, InTime}
use Rattle.envelope.specs.declared.reader.Fault.TheVariants.{TooShort, WrongVersion, BadFlags}
use Rattle.envelope.specs.declared.reader.Refusal.{Refusal as ReadingRefusal}
use Rattle.envelope.specs.declared.sequence.Sequence.TheVariants.{Ahead, Behind}
use Rattle.envelope.specs.declared.writer.WriteFault.TheVariants.{StrayIntegrity, NoRoom}
use Rattle.envelope.proofs.BoolLaws.{true_is_not_false}
use Rattle.sheet.specs.Cases.{M, like_m}
use Rattle.sheet.proofs.Apart.{apart, accepted_not_refused, refusal_number}
use Rattle.sheet.proofs.Cases.{starred}

-- ---- crc: one fixed answer; the state with nothing inverted; the last byte left out; another polynomial (Castagnoli's); a start value of zero

pub crc_is_not_always_0 : Sums digits 0 → ⊥
crc_is_not_always_0 kept = apart 0 0xCBF43926 tt (kept ∙ vectors.check_value)

pub crc_is_inverted : Sums [] 0xFFFFFFFF → ⊥
crc_is_inverted kept = apart 0xFFFFFFFF 0 tt (kept ∙ vectors.no_bytes)

pub crc_takes_the_last_byte : Sums digits (crc32 (take 8 digits)) → ⊥
crc_takes_the_last_byte kept =
    apart 0x9AE0DAAF 0xCBF43926 tt (sym (crc32_computes (take 8 digits) tt) ∙ kept ∙ vectors.check_value)

pub crc_has_its_own_polynomial : Sums digits 0xE3069283 → ⊥
crc_has_its_own_polynomial kept = apart 0xE3069283 0xCBF43926 tt (kept ∙ vectors.check_value)

pub crc_starts_with_all_ones : Sums digits 0xD202D277 → ⊥
crc_starts_with_all_ones kept = apart 0xD202D277 0xCBF43926 tt (kept ∙ vectors.check_value)

-- ---- read: all turned away; the field skipped where the kind is none; another rule's number

pub read_does_not_turn_all_away : (r : ReadingRefusal) → Reads M (Err r) → ⊥
read_does_not_turn_all_away r kept = accepted_not_refused _ _ (sym (kept ∙ starred.a.0))

pub read_does_not_skip_the_field : (e : Envelope) → Reads (set M 20 1) (Ok e) → ⊥
read_does_not_skip_the_field e kept = accepted_not_refused _ _ (kept ∙ starred.f)

pub read_gives_the_first_rule : (place : ℕ) → Reads (take 20 M) (Err (record { fault = WrongVersion; place = place })) → ⊥
read_gives_the_first_rule place kept = apart 2 1 tt (refusal_number 2 place 1 20 (kept ∙ starred.b))

-- the sum over the message with its field as zeros, in the field
abbrev pub field_as_zeros : List ℕ
field_as_zeros =
    0x04 ∷ 0x17 ∷ 0x70 ∷ 0x01 ∷ 0x08 ∷ 0x00 ∷ 0x00 ∷ 0x04 ∷ 0x00 ∷ 0x00 ∷ 0x00 ∷ 0x01 ∷ 0x00 ∷ 0x00 ∷ 0x00 ∷ 0x00 ∷ 0x00
    ∷ 0x62 ∷ 0x6F ∷ 0x64 ∷ 0x79 ∷ 0x76 ∷ 0xB6 ∷ 0x90 ∷ 0x24 ∷ []

is_that_sum : crc32 (take 21 field_as_zeros ++ replicate 4 0) ≡ 0x76B69024
is_that_sum = crc32_computes (take 21 field_as_zeros ++ replicate 4 0) tt

reads_as_zeros : reading field_as_zeros ≡ refused_by 7 21
unfolding reading reading_whole heading announced bad_flags bad_variable_size bad_addresses bad_integrity two_at three_at four_at
reads_as_zeros = rw (crc32_computes (take 21 field_as_zeros) tt)

pub read_does_not_count_the_field_as_zeros : (e : Envelope) → Reads field_as_zeros (Ok e) → ⊥
read_does_not_count_the_field_as_zeros e kept = accepted_not_refused _ _ (kept ∙ reads_as_zeros)

-- ---- write: nothing touched; a byte past the message touched; another header version; a refusal that writes

abbrev pub given_m : Given
given_m = given_by M (like_m absent 17 0)

pub writes_M : writing given_m 21 ≡ written M
unfolding writing message before_field field_number bad_flags bad_end has_zero stray_integrity
writes_M = refl

pub write_does_not_touch_nothing : (r : Result ℕ WriteFault) → Writes given_m (replicate 21 0) r (replicate 21 0) → ⊥
write_does_not_touch_nothing r kept =
    apart 0 4 tt (ap (λ (s : List ℕ). get_or s 0 0) (kept.1 ∙ ap (λ (o : WriteOutcome). after_writing o (replicate 21 0)) writes_M))

pub write_leaves_the_rest : (r : Result ℕ WriteFault) → Writes given_m (replicate 22 0) r (M ++ 9 ∷ []) → ⊥
unfolding writing message before_field field_number bad_flags bad_end has_zero stray_integrity
write_leaves_the_rest r kept = apart 9 0 tt (ap (λ (s : List ℕ). get_or s 21 0) kept.1)

pub write_puts_header_version_4 : (r : Result ℕ WriteFault) → Writes given_m (replicate 21 0) r (set M 0 3) → ⊥
write_puts_header_version_4 r kept =
    apart 3 4 tt (ap (λ (s : List ℕ). get_or s 0 0) (kept.1 ∙ ap (λ (o : WriteOutcome). after_writing o (replicate 21 0)) writes_M))

-- no room, and the message's first bytes all the same
pub write_writes_nothing_on_a_refusal : Writes given_m (replicate 20 0) (Err NoRoom) (take 20 M) → ⊥
unfolding writing message before_field field_number bad_flags bad_end has_zero stray_integrity
write_writes_nothing_on_a_refusal kept = apart 4 0 tt (ap (λ (s : List ℕ). get_or s 0 0) kept.1)

-- ---- rewrite: nothing touched; a message of which one byte is missing

pub rewrite_does_not_touch_nothing : Rewrites M (replicate 21 0) (Ok 21) (replicate 21 0) → ⊥
rewrite_does_not_touch_nothing kept =
    apart 0 4 tt (ap (λ (s : List ℕ). get_or s 0 0) (rw starred.a.0 at kept.1))

pub rewrite_refuses_what_read_refuses : (exit : List ℕ) → Rewrites (take 20 M) (replicate 21 0) (Ok 20) exit → ⊥
rewrite_refuses_what_read_refuses exit kept = told (rw starred.b at kept.0)
  where
    told : rewrote 20 ≡ refused (refusal_by 1 20) → ⊥
    told e = let z : ◌≡◌ {A = ℕ} 0 1 = cc in omega arith

-- ---- Envelope::new: another body; another integrity

abbrev header_m : Header
header_m = record { message_type = 6000; version = 1; flags = 0; number = 1; time = 0 }

pub new_keeps_the_body :
    Holds header_m prelude.None (record { place = 17; size = 0 }) None (record { header = header_m; addressing = prelude.None; body = record { place = 0; size = 0 }; integrity = None }) → ⊥
new_keeps_the_body kept = apart 0 17 tt (ap (λ (e : Envelope). e.body.place) kept)

pub new_keeps_the_header :
    Holds header_m prelude.None (record { place = 17; size = 0 }) None
    (record { header = record { message_type = 0; version = 1; flags = 0; number = 1; time = 0 }; addressing = prelude.None; body = record { place = 17; size = 0 }; integrity = None })
    → ⊥
new_keeps_the_header kept = apart 0 6000 tt (ap (λ (e : Envelope). e.header.message_type) kept)

-- ---- Part::slice: one place off; nothing

pub slice_begins_at_its_place : Slices (record { place = 1; size = 1 }) (7 ∷ 8 ∷ 9 ∷ []) (7 ∷ []) → ⊥
slice_begins_at_its_place kept = apart 7 8 tt (ap (λ (s : List ℕ). get_or s 0 0) kept)

pub slice_has_its_size : Slices (record { place = 1; size = 2 }) (7 ∷ 8 ∷ 9 ∷ []) (8 ∷ []) → ⊥
slice_has_its_size kept = apart 1 2 tt (ap length kept)

-- ---- the numbers of refusals: another rule's; one for all

pub a_fault_keeps_its_number : NumbersFault TooShort 2 → ⊥
a_fault_keeps_its_number kept = apart 2 1 tt kept

pub faults_have_different_numbers : NumbersFault WrongVersion 1 → ⊥
faults_have_different_numbers kept = apart 1 2 tt kept

pub a_write_fault_keeps_its_number : NumbersWriteFault NoRoom 14 → ⊥
a_write_fault_keeps_its_number kept = apart 14 15 tt kept

pub write_faults_have_different_numbers : NumbersWriteFault StrayIntegrity 11 → ⊥
write_faults_have_different_numbers kept = apart 11 14 tt kept

-- ---- the numbers of a refusal: another's; reading's number or its place invented or lost

pub plainly_keeps_its_number : NumbersPlainly 21 (record { number = 22; reading = 0; place = 0 }) → ⊥
plainly_keeps_its_number kept = apart 22 21 tt (ap (λ (r : RefusalNumbers). r.number) kept)

pub plainly_has_no_reading : NumbersPlainly 21 (record { number = 21; reading = 1; place = 0 }) → ⊥
plainly_has_no_reading kept = apart 1 0 tt (ap (λ (r : RefusalNumbers). r.reading) kept)

pub plainly_has_no_place : NumbersPlainly 21 (record { number = 21; reading = 0; place = 4 }) → ⊥
plainly_has_no_place kept = apart 4 0 tt (ap (λ (n : RefusalNumbers). n.place) kept)

pub passing_on_keeps_its_number : NumbersPassingOn 25 (record { fault = TooShort; place = 9 }) (record { number = 31; reading = 1; place = 9 }) → ⊥
passing_on_keeps_its_number kept = apart 31 25 tt (ap (λ (r : RefusalNumbers). r.number) kept)

pub passing_on_tells_reading : NumbersPassingOn 25 (record { fault = WrongVersion; place = 0 }) (record { number = 25; reading = 0; place = 0 }) → ⊥
passing_on_tells_reading kept = apart 0 2 tt (ap (λ (r : RefusalNumbers). r.reading) kept)

pub passing_on_tells_the_place : NumbersPassingOn 25 (record { fault = BadFlags; place = 4 }) (record { number = 25; reading = 3; place = 0 }) → ⊥
passing_on_tells_the_place kept = apart 0 4 tt (ap (λ (n : RefusalNumbers). n.place) kept)

-- of reading itself: no number of its own; no place

pub by_reading_has_its_own_number : NumbersByReading (record { fault = BadFlags; place = 4 }) (record { number = 0; reading = 3; place = 4 }) → ⊥
by_reading_has_its_own_number kept = apart 0 3 tt (ap (λ (n : RefusalNumbers). n.number) kept)

pub by_reading_tells_the_place : NumbersByReading (record { fault = BadFlags; place = 4 }) (record { number = 3; reading = 0; place = 0 }) → ⊥
by_reading_tells_the_place kept = apart 0 4 tt (ap (λ (n : RefusalNumbers). n.place) kept)

-- ---- numbers: the lowest byte first; a byte forgotten

pub two_bytes_are_big_endian : TwoBytes 1 2 0x0201 → ⊥
two_bytes_are_big_endian kept = apart 0x0201 0x0102 tt kept

pub two_bytes_are_two : TwoBytes 1 2 2 → ⊥
two_bytes_are_two kept = apart 2 0x0102 tt kept

pub three_bytes_are_big_endian : ThreeBytes 1 2 3 0x030201 → ⊥
three_bytes_are_big_endian kept = apart 0x030201 0x010203 tt kept

pub three_bytes_are_three : ThreeBytes 1 2 3 0x0203 → ⊥
three_bytes_are_three kept = apart 0x0203 0x010203 tt kept

pub four_bytes_are_big_endian : FourBytes 1 2 3 4 0x04030201 → ⊥
four_bytes_are_big_endian kept = apart 0x04030201 0x01020304 tt kept

pub four_bytes_are_four : FourBytes 1 2 3 4 0x020304 → ⊥
four_bytes_are_four kept = apart 0x020304 0x01020304 tt kept

pub two_digits_are_big_endian : TwoDigits 0x0102 (2 ∷ 1 ∷ []) → ⊥
two_digits_are_big_endian kept = apart 2 1 tt (ap (λ (s : List ℕ). get_or s 0 0) kept)

pub two_digits_are_two : TwoDigits 1 (1 ∷ []) → ⊥
two_digits_are_two kept = apart 1 2 tt (ap length kept)

pub four_digits_are_big_endian : FourDigits 0x01020304 (4 ∷ 3 ∷ 2 ∷ 1 ∷ []) → ⊥
four_digits_are_big_endian kept = apart 4 1 tt (ap (λ (s : List ℕ). get_or s 0 0) kept)

pub four_digits_are_four : FourDigits 1 (1 ∷ []) → ⊥
four_digits_are_four kept = apart 1 4 tt (ap length kept)

-- ---- flags: one fixed answer; another bit's; the kind left in its place; a bit too many for the kind

pub time_is_not_always_relative : TellsTime 1 false → ⊥
time_is_not_always_relative kept = true_is_not_false kept refl

pub time_format_is_bit_0 : TellsTime 2 true → ⊥
time_format_is_bit_0 kept = true_is_not_false refl kept

pub encrypted_is_not_always_no : TellsEncryption 2 false → ⊥
encrypted_is_not_always_no kept = true_is_not_false kept refl

pub encrypted_is_bit_1 : TellsEncryption 4 true → ⊥
encrypted_is_bit_1 kept = true_is_not_false refl kept

pub compressed_is_not_always_no : TellsCompression 4 false → ⊥
compressed_is_not_always_no kept = true_is_not_false kept refl

pub compressed_is_bit_2 : TellsCompression 2 true → ⊥
compressed_is_bit_2 kept = true_is_not_false refl kept

pub kind_is_not_left_in_its_place : (k : Kind) → told_kind k ≢ 1 → TellsKind 8 k → ⊥
kind_is_not_left_in_its_place k wrong kept = wrong kept

pub kind_is_two_bits : (k : Kind) → told_kind k ≢ 0 → TellsKind 0x20 k → ⊥
kind_is_two_bits k wrong kept = wrong kept

-- ---- qos::split: priority taken for class; all zero. qos::join: a number that does not fit run round; all refused

pub split_does_not_take_priority_for_class :
    Splits 8 (record { service_request = 0; special_handling = 0; network_preference = 0; priority = 0; class = 1 }) → ⊥
unfolding splitting
split_does_not_take_priority_for_class kept = apart 0 1 tt (ap (λ (f : QosFields). f.priority) kept)

pub split_is_not_always_0 :
    Splits 0x8000 (record { service_request = 0; special_handling = 0; network_preference = 0; priority = 0; class = 0 }) → ⊥
unfolding splitting
split_is_not_always_0 kept = apart 0 4 tt (ap (λ (f : QosFields). f.service_request) kept)

pub join_does_not_run_round :
    Joins (record { service_request = 8; special_handling = 0; network_preference = 0; priority = 0; class = 0 }) (Some 0) → ⊥
unfolding joining
join_does_not_run_round kept = let z : ◌≡◌ {A = ℕ} 0 1 = cc in omega arith

pub join_does_not_refuse_all :
    Joins (record { service_request = 0; special_handling = 0; network_preference = 0; priority = 1; class = 0 }) prelude.None → ⊥
unfolding joining
join_does_not_refuse_all kept = let z : ◌≡◌ {A = ℕ} 0 1 = cc in omega arith

-- ---- lateness: late at the very second; in time for ever; late with a blank TTL; in time without a variable header; a sum that runs round; counted from the message's own time; no clock for a time that is relative and 0

abbrev timed : (flags time ttl : ℕ) → Envelope
timed flags time ttl =
    record {
      header = record { message_type = 6000; version = 1; flags = flags; number = 1; time = time };
      addressing = Some (record { ttl = ttl; qos = 0; source = (record { place = 21; size = 0 }); destination = (record { place = 22; size = 0 }) });
      body = record { place = 23; size = 0 };
      integrity = None;
    }

pub not_late_at_the_very_second : JudgesLateness (timed 1 100 20) 100 120 Late → ⊥
unfolding lateness_of
not_late_at_the_very_second kept = let z : ◌≡◌ {A = ℕ} 0 1 = cc in omega arith

pub not_in_time_for_ever : JudgesLateness (timed 1 100 20) 100 121 InTime → ⊥
unfolding lateness_of
not_in_time_for_ever kept = let z : ◌≡◌ {A = ℕ} 0 1 = cc in omega arith

pub no_clock_for_a_blank_ttl : JudgesLateness (timed 1 100 0) 100 101 Late → ⊥
unfolding lateness_of
no_clock_for_a_blank_ttl kept = let z : ◌≡◌ {A = ℕ} 0 1 = cc in omega arith

pub no_clock_without_a_variable_header :
    JudgesLateness (record { header = header_m; addressing = prelude.None; body = record { place = 17; size = 0 }; integrity = None }) 100 101 InTime → ⊥
unfolding lateness_of
no_clock_without_a_variable_header kept = let z : ◌≡◌ {A = ℕ} 0 1 = cc in omega arith

pub lateness_does_not_run_round : JudgesLateness (timed 1 100 1) 18446744073709551615 1 Late → ⊥
unfolding lateness_of
lateness_does_not_run_round kept = let z : ◌≡◌ {A = ℕ} 0 1 = cc in omega arith

pub lateness_is_not_from_the_message_time : JudgesLateness (timed 1 100 20) 200 210 Late → ⊥
unfolding lateness_of
lateness_is_not_from_the_message_time kept = let z : ◌≡◌ {A = ℕ} 0 1 = cc in omega arith

pub a_relative_time_has_a_clock : JudgesLateness (timed 0 0 20) 100 120 NoClock → ⊥
unfolding lateness_of
a_relative_time_has_a_clock kept = let z : ◌≡◌ {A = ℕ} 0 1 = cc in omega arith

-- ---- sequence: a distance that does not run round; one that is not signed; the next told as ahead by 1; a number ahead told as behind

natural : ℤ → ℕ
natural (pos n) = n
natural (negsuc n) = 0

pub distance_runs_round : Distance 4294967295 0 (negsuc 4294967294) → ⊥
unfolding steps_on natural
distance_runs_round kept = apart 0 1 tt (ap natural kept)

pub distance_is_signed : Distance 0 2147483648 (pos 2147483648) → ⊥
unfolding steps_on natural
distance_is_signed kept = apart 2147483648 0 tt (ap natural kept)

pub the_next_is_not_ahead : JudgesSequence 7 8 (Ahead 1) → ⊥
unfolding steps_on
the_next_is_not_ahead kept = let z : ◌≡◌ {A = ℕ} 0 1 = cc in omega arith

pub ahead_is_not_behind : JudgesSequence 7 9 (Behind 4294967294) → ⊥
unfolding steps_on
ahead_is_not_behind kept = let z : ◌≡◌ {A = ℕ} 0 1 = cc in omega arith
