-- A new feed and one call on it: a message is found, with its envelope. Messages M and C as the code hands them out.
-- What instances and refutations about feeds start from.
use Rattle.std.specs.Prelude.{Ok, Some, None}
use mathlib.Core.List.{List, [], ◌++◌, append-nil}
use mathlib.Core.Path.{◌≡◌, refl, sym, ◌∙◌, subst}
use Prim.Native.Nat.{ℕ, ◌≤◌}
use lib.ListN.{length, drop, replicate}
use lib.Seq.{sets, drop-length}
use Rattle.envelope.specs.Fields.{accepted}
use Rattle.envelope.specs.Promise.{Bytes}
use Rattle.envelope.specs.Reading.{reading}
use Rattle.envelope.specs.Told.{told_envelope}
use Rattle.envelope.specs.declared.fields.Envelope.{Envelope}
use Rattle.envelope.specs.declared.fields.Integrity.{Integrity}
use Rattle.envelope.specs.declared.fields.Integrity.TheVariants.{None, Crc}
use Rattle.feed.specs.Cutting.{Came, Calls, over, call, no_calls, call_then}
use Rattle.feed.specs.Messages.{Fits, Between}
use Rattle.feed.specs.Told.{told_feed, Fresh, Takes}
use Rattle.feed.specs.TwoBits.{FoundSomewhere}
use Rattle.feed.specs.Verdict.{room}
use Rattle.feed.specs.declared.feeder.Feed.{Feed}
use Rattle.feed.specs.declared.feeder.Taken.{Taken}
use Rattle.feed.specs.declared.step.Standing.TheVariants.{Inside, Whole}
use Rattle.feed.proofs.SettlingLaws.{new_is_between, found_in_one_piece, found_at_its_last_byte}

abbrev pub new_feed : Feed
new_feed = record { kept = replicate room 0; beside = record { count = 0; standing = Inside } }

pub is_new : Fresh new_feed
is_new = refl

pub new_between : Between (told_feed new_feed)
new_between = new_is_between new_feed is_new

-- type 6000, number 1, no addressing
abbrev pub envelope_of : (flags size : ℕ) → Integrity → Envelope
envelope_of flags size integrity =
    record {
      header = record { message_type = 6000; version = 1; flags = flags; number = 1; time = 0 };
      addressing = None;
      body = record { place = 17; size = size };
      integrity = integrity;
    }

abbrev pub envelope_m : Envelope
envelope_m = envelope_of 0 0 None

abbrev pub envelope_c : Envelope
envelope_c = envelope_of 8 2 (Crc 0xD9299F95)

-- ---- any message that fits, lent whole

module _ (m : List ℕ) (e : Envelope) (short : length m ≤ room) (accepts : reading m ≡ accepted (told_envelope e)) where
  abbrev pub taken_whole : Taken
  taken_whole =
      record { feed = record { kept = sets new_feed.kept 0 m; beside = record { count = length m; standing = Whole } }; used = length m; found = Ok (Some (record { size = (length m); envelope = e })) }

  -- and whatever behind it
  pub takes_whole : (rest : List ℕ) → Takes new_feed (m ++ rest) taken_whole
  takes_whole rest = found_in_one_piece new_feed m rest e new_between short accepts

  pub fits : Fits m
  fits = record { fields = told_envelope e; accepts = accepts; short = short }

  abbrev pub came_of_one : Came
  came_of_one = call_then taken_whole (no_calls taken_whole.feed)

  pub one_call : Calls new_feed m came_of_one
  one_call =
      call m [] taken_whole (sym (append-nil m)) (subst (λ (l : List ℕ). Takes new_feed l taken_whole) (append-nil m) (takes_whole []))
      (subst (λ (l : List ℕ). Calls taken_whole.feed l (no_calls taken_whole.feed)) (sym (append-nil (drop (length m) m) ∙ drop-length m)) over)

  pub found_somewhere : Bytes m → FoundSomewhere m
  found_somewhere bytes =
      record {
        feed = new_feed;
        new = is_new;
        stream = m;
        bytes = bytes;
        came = came_of_one;
        calls = one_call;
        before = [];
        behind = [];
        found = (found_at_its_last_byte new_feed [] m (no_calls new_feed) came_of_one new_between fits over one_call).1;
      }
