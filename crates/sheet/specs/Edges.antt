-- What the definitions say at their edges: the last that passes, and the first that does not.
-- Computed, or shown for every input of the size named, in proofs/Edges.
use Rattle.std.specs.Prelude.{ℕ, ◌+◌, ◌<◌, true, false, List, [], ◌∷◌, ◌≡◌, length, replicate}
use Rattle.sum.specs.Detection.{Bytes}
use Rattle.envelope.specs.Fields.{Fields, accepted, refused_by}
use Rattle.envelope.specs.Flags.{bad_flags}
use Rattle.envelope.specs.Heading.{bad_variable_size}
use Rattle.envelope.specs.Lateness.{late_after}
use Rattle.envelope.specs.Layout.{largest_body, largest_message}
use Rattle.envelope.specs.Qos.{joined, joining}
use Rattle.envelope.specs.Qos as qos
use Rattle.envelope.specs.Reading.{reading}
use Rattle.envelope.specs.Writing.{bad_end, body_too_long}
use Rattle.golden.specs.Checking.{counted, checking}
use Rattle.golden.specs.Comparing.{CompareOutcome, positions, refused, comparing, after_comparing}
use Rattle.golden.specs.File.{bad_file, count_of, not_there}
use Rattle.golden.specs.Finding.{NameFields, finding}
use Rattle.golden.specs.Finding as find
use Rattle.golden.specs.Listing.{counting}
use Rattle.golden.specs.Listing as listing
use Rattle.golden.specs.Record.{bad_length}
use Rattle.envelope.specs.Refusals.{plainly}
use Rattle.golden.specs.Stepping.{end, step_at}

-- a file of 128 records, the most: the last is record 127
pub record FullFile (f : List ℕ) : Type 0 where
  pub whole : bad_file f ≡ false
  pub count : count_of f ≡ 128
  pub last : not_there f 127 ≡ false
  pub past_the_last : not_there f 128 ≡ true

-- the file of no bytes: no records, and nothing is found, reached or compared
pub record EmptyFile : Type 0 where
  pub checks : checking [] ≡ counted 0
  pub counts : counting [] ≡ listing.counted 0
  pub finds : (name : NameFields) → finding [] name ≡ find.refused (plainly 27) 0
  pub steps : (n : ℕ) → step_at [] n ≡ end
  pub compares : (n : ℕ) (radio : List ℕ) → comparing [] n radio ≡ refused (plainly 22)

pub record Edges : Type 0 where
  -- reading: no bytes; longer than any message can be; V; flags
  pub no_bytes : reading [] ≡ refused_by 1 0
  pub past_the_longest : (s : List ℕ) (f : Fields) → Bytes s → largest_message < length s → reading s ≡ accepted f → ⊥
  pub v_0 : bad_variable_size 0 ≡ false
  pub v_1 : bad_variable_size 1 ≡ true
  pub v_5 : bad_variable_size 5 ≡ true
  pub v_6 : bad_variable_size 6 ≡ false
  pub v_132 : bad_variable_size 132 ≡ false
  pub v_133 : bad_variable_size 133 ≡ true
  pub kind_2 : bad_flags 0x17 ≡ false
  pub kind_3 : bad_flags 0x18 ≡ true
  pub bit_5 : bad_flags 0x20 ≡ true
  -- writing: an address of 63 bytes and of 64; a body at its limit and past it
  pub address_63 : bad_end (replicate 63 0x41) ≡ false
  pub address_64 : bad_end (replicate 64 0x41) ≡ true
  pub largest_body_lem : (body : List ℕ) → length body ≡ largest_body → body_too_long body ≡ false
  pub larger_body : (body : List ℕ) → length body ≡ largest_body + 1 → body_too_long body ≡ true
  -- the largest QoS, and a number one too large
  pub all_ones :
      joining (record { service_request = 7; special_handling = 15; network_preference = 7; priority = 7; class = 7 }) ≡ joined 65535
  pub special_16 :
      joining (record { service_request = 0; special_handling = 16; network_preference = 0; priority = 0; class = 0 }) ≡ qos.refused 41
  -- the least TTL that is not blank, and the largest: the very second, and the next
  pub ttl_1_very_second : late_after 1700000000 1 1700000001 ≡ false
  pub ttl_1_next_second : late_after 1700000000 1 1700000002 ≡ true
  pub ttl_65535_very_second : late_after 1700000000 65535 1700065535 ≡ false
  pub ttl_65535_next_second : late_after 1700000000 65535 1700065536 ≡ true
  -- a clock before the entry; a sum past 64 bits, which has not run round
  pub clock_before_entry : late_after 1700000000 1 0 ≡ false
  pub largest_entry_and_clock : late_after 18446744073709551615 1 18446744073709551615 ≡ false
  pub largest_entry_first_clock : late_after 18446744073709551615 1 1 ≡ false
  -- golden files: none, 128 and 129 records, and a byte too many; the stored length
  pub empty : EmptyFile
  pub full : (f : List ℕ) → length f ≡ 65536 → FullFile f
  pub a_record_more : (f : List ℕ) → length f ≡ 66048 → bad_file f ≡ true
  pub a_byte_more : (f : List ℕ) → length f ≡ 513 → bad_file f ≡ true
  pub length_20 : bad_length 20 ≡ true
  pub length_21 : bad_length 21 ≡ false
  pub length_510 : bad_length 510 ≡ false
  pub length_511 : bad_length 511 ≡ true
  -- the list of positions: no room, and room for fewer than there are
  pub no_room : (o : CompareOutcome) → after_comparing o [] ≡ []
  pub little_room : after_comparing (positions (3 ∷ 7 ∷ [])) (9 ∷ []) ≡ 3 ∷ []
