-- The cases of K1, computed from the definitions. Where a CRC is read the sum is put in, so these take the message's reading as it stands.
-- The CRC of the damaged message is computed by the crate `sum`.
use mathlib.Core.List.{◌++◌}
use mathlib.Core.Path.{◌≡◌, refl, sym}
use lib.Dec.{lit≤}
use lib.ListN.{take, drop}
use Rattle.sum.specs.Crc.{crc32}
use Rattle.sum.proofs.Computed.{crc32_computes}
use Rattle.envelope.specs.Addresses.{ends_in_its_only_zero, is_address, splits_at, splits_up_to, bad_addresses, first_zero, destination_size}
use Rattle.envelope.specs.Announcing.{announces, announcing}
use Rattle.envelope.specs.Fields.{refused_by}
use Rattle.envelope.specs.Flags.{bad_flags}
use Rattle.envelope.specs.Heading.{announced, bad_variable_size, heading}
use Rattle.envelope.specs.IntegrityField.{bad_integrity}
use Rattle.envelope.specs.Numbers.{two_at, three_at, four_at}
use Rattle.envelope.specs.Reading.{header_of, addressing_of, integrity_of, fields_of, reading_whole, reading}
use Rattle.envelope.specs.declared.reader.Fault.TheVariants.{BadIntegrity}
use Rattle.feed.specs.Feeding.{inside, whole, fresh, message, byte_in, taking, ending}
use Rattle.feed.specs.Stream.{streaming}
use Rattle.feed.specs.Verdict.{refused, verdict}
use Rattle.feed.specs.declared.refusal.Refusal.{Refusal}
use Rattle.feed.specs.declared.refusal.Refusal.TheVariants.{MessageRefused}
use Rattle.feed.proofs.SettlingLaws.{refused_when_complete}
use Rattle.sheet.specs.Cases.{M, C, fields_of_c}
use Rattle.sheet.specs.FeedCases.{number, held_by, fed, refused_at, damaged_c, FeedCases}
use Rattle.sheet.proofs.Cases.{starred}
use Rattle.sheet.proofs.OneFeed.{new_feed, new_between, envelope_c, takes_whole}

-- ---- a CRC that holds, and one that does not

sum_damaged : crc32 (take 19 damaged_c) ≡ 0xC032AED4
sum_damaged = crc32_computes (take 19 damaged_c) tt

pub reads_damaged : reading damaged_c ≡ refused_by 7 19
unfolding reading reading_whole heading announced bad_flags bad_variable_size bad_addresses bad_integrity three_at four_at
reads_damaged = rw sum_damaged

pub announces_damaged : announcing damaged_c ≡ announces 23
unfolding announcing heading announced bad_flags bad_variable_size three_at
announces_damaged = refl

pub verdict_damaged : verdict damaged_c ≡ refused (number 7 19)
unfolding verdict announcing heading announced bad_flags bad_variable_size three_at
verdict_damaged = rw reads_damaged

abbrev pub wrong_sum : Refusal
wrong_sum = MessageRefused (record { fault = BadIntegrity; place = 19 })

found_C : taking fresh (C ++ M) ≡ fed C whole (message 23 fields_of_c)
found_C = sym (takes_whole C envelope_c (lit≤ tt) starred.kind_crc_lem M)

refused_C : taking fresh (damaged_c ++ M) ≡ refused_at 23 damaged_c (number 7 19)
refused_C = sym (refused_when_complete.1 new_feed damaged_c M wrong_sum new_between (announces_damaged, lit≤ tt) verdict_damaged)

cut_C : taking (held_by (take 17 C) inside) (drop 17 C) ≡ record { state = held_by C whole; used = 6; finding = message 23 fields_of_c }
unfolding taking byte_in verdict announcing heading announced bad_flags bad_variable_size three_at
cut_C = rw starred.kind_crc_lem

-- ---- all of them

pub feed_cases : FeedCases
unfolding taking ending streaming byte_in verdict announcing heading announced bad_flags bad_variable_size bad_addresses splits_up_to splits_at is_address ends_in_its_only_zero first_zero destination_size bad_integrity two_at three_at four_at header_of addressing_of integrity_of fields_of reading_whole reading
feed_cases =
    record {
      found = refl;
      found_crc = found_C;
      missing = refl;
      missing_crc = refl;
      sixteen = refl;
      no_2 = refl;
      no_2_cut = refl;
      no_2_first = refl;
      no_3_first = refl;
      no_4_first = refl;
      no_51 = refl;
      room_for_510 = refl;
      no_6 = refl;
      no_6_first = refl;
      no_7 = refl;
      no_7_crc = refused_C;
      cut_at_10 = refl;
      cut_at_17 = cut_C;
      next_message = refl;
      no_bytes = refl;
      no_bytes_after = refl;
      no_bytes_refused = refl;
      not_resumed = refl;
      end_of_new = refl;
      end_after = refl;
      end_within = refl;
      end_refused = refl;
      stream = refl;
      stream_refused = refl;
    }
