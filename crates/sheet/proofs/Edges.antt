-- The edges, computed from the definitions; those of every input of a size by that size alone.
-- That nothing longer than the longest message is accepted is the envelope's own law.
use mathlib.Core.List.{List, [], ◌∷◌}
use mathlib.Core.Path.{◌≡◌, refl}
use Prim.Native.Nat.{ℕ}
use native.Mathlib.Omega.{arith}
use borrow.Author.Tests.{lt-ltb, le-ltb, le-leb}
use lib.ListN.{length}
use Rattle.envelope.proofs.ReadingLaws.{accepted_most}
use Rattle.envelope.specs.Flags.{bad_flags}
use Rattle.envelope.specs.Heading.{bad_variable_size}
use Rattle.envelope.specs.Layout.{largest_body}
use Rattle.envelope.specs.Qos.{joining}
use Rattle.envelope.specs.Reading.{reading}
use Rattle.envelope.specs.Writing.{bad_end, has_zero}
use Rattle.golden.specs.Checking.{check_from, checking}
use Rattle.golden.specs.Comparing.{CompareOutcome, positions, refused, comparing, after_comparing}
use Rattle.golden.specs.File.{bad_file}
use Rattle.golden.specs.Finding.{find_from, finding}
use Rattle.golden.specs.Listing.{counting}
use Rattle.golden.specs.Positions.{noted}
use Rattle.golden.specs.Record.{bad_length}
use Rattle.golden.specs.Stepping.{step_at}
use Rattle.sheet.specs.Edges.{FullFile, EmptyFile, Edges}

empty_file : EmptyFile
unfolding checking check_from counting finding find_from step_at comparing bad_file
empty_file =
    record {
      checks = refl;
      counts = refl;
      finds = λ name. refl;
      steps = λ n. rw (le-leb 0 n (omega arith));
      compares = λ n radio. rw (le-leb 0 n (omega arith));
    }

full_file : (f : List ℕ) → length f ≡ 65536 → FullFile f
unfolding bad_file
full_file f e = record { whole = rw e refl; count = rw e refl; last = rw e refl; past_the_last = rw e refl }

kept_empty : (o : CompareOutcome) → after_comparing o [] ≡ []
unfolding after_comparing noted
kept_empty (positions []) = refl
kept_empty (positions (k ∷ ks)) = refl
kept_empty (refused x) = refl

pub edges : Edges
unfolding reading bad_variable_size bad_flags bad_end has_zero joining bad_file bad_length after_comparing noted
edges =
    record {
      no_bytes = refl;
      past_the_longest = λ s f bytes h e. omega (arith, accepted_most s f bytes e);
      v_0 = refl;
      v_1 = refl;
      v_5 = refl;
      v_6 = refl;
      v_132 = refl;
      v_133 = refl;
      kind_2 = refl;
      kind_3 = refl;
      bit_5 = refl;
      address_63 = refl;
      address_64 = refl;
      largest_body_lem = λ body e. le-ltb largest_body (length body) (omega (arith, e));
      larger_body = λ body e. lt-ltb largest_body (length body) (omega (arith, e));
      all_ones = refl;
      special_16 = refl;
      ttl_1_very_second = refl;
      ttl_1_next_second = refl;
      ttl_65535_very_second = refl;
      ttl_65535_next_second = refl;
      clock_before_entry = refl;
      largest_entry_and_clock = refl;
      largest_entry_first_clock = refl;
      empty = empty_file;
      full = full_file;
      a_record_more = λ f e. rw e refl;
      a_byte_more = λ f e. rw e refl;
      length_20 = refl;
      length_21 = refl;
      length_510 = refl;
      length_511 = refl;
      no_room = kept_empty;
      little_room = refl;
    }
