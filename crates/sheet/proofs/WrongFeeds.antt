-- For each public function of the feed answers that a careless program would give, and five feeds that are wrong, each refuted by computing.
-- Whatever else such an answer says: what is refuted is one number or one case of it.
use Rattle.std.specs.Prelude.{Ok, Err, Some, None}
use mathlib.Core.List.{List, [], ◌∷◌, ◌++◌}
use mathlib.Core.Path.{◌≡◌, ap, sym, ◌∙◌}
use Prim.Native.Nat.{ℕ}
use lib.Dec.{lit≤}
use lib.ListN.{take, set, get_or, length}
use Rattle.envelope.specs.Announcing.{AnnouncementAnswer, unfinished, refused as refusedHeading, announces, announcing, Announces}
use Rattle.envelope.specs.Flags.{bad_flags}
use Rattle.envelope.specs.Heading.{announced, bad_variable_size, heading}
use Rattle.envelope.specs.Numbers.{three_at}
use Rattle.envelope.specs.declared.fields.Envelope.{Envelope}
use Rattle.envelope.specs.declared.reader.Fault.TheVariants.{BadVariableSize}
use Rattle.feed.specs.Cutting.{Came, Calls}
use Rattle.envelope.specs.Refusals.{RefusalNumbers}
use Rattle.feed.specs.Feeding.{Stand, inside, whole, refused, State, Finding, nothing, message, FeedOutcome}
use Rattle.feed.specs.Messages.{none, also}
use Rattle.feed.specs.Told.{told_standing, told_found, told_taken, NumbersFeedRefusal, Fresh, Takes, Ends, Advances, Closes, Holds}
use Rattle.feed.specs.Verdict.{number_of}
use Rattle.feed.specs.declared.refusal.Refusal.TheVariants.{MessageRefused, TooLong, Cut}
use Rattle.feed.specs.declared.feeder.Ended.{Ended}
use Rattle.feed.specs.declared.feeder.Feed.{Feed}
use Rattle.feed.specs.declared.feeder.Taken.{Taken}
use Rattle.feed.specs.declared.step.Standing.{Standing}
use Rattle.feed.specs.declared.step.Standing.TheVariants.{Inside, Whole, Refused}
use Rattle.feed.specs.declared.step.Step.{Step}
use Rattle.sheet.specs.Cases.{M, C}
use Rattle.sheet.specs.FeedCases.{held_by, announcing511, damaged_c}
use Rattle.sheet.proofs.Apart.{apart}
use Rattle.sheet.proofs.Cases.{starred}
use Rattle.sheet.proofs.FeedCases.{feed_cases}
use Rattle.sheet.proofs.Feeding.{all_are_found}
use Rattle.sheet.proofs.OneFeed.{new_feed, new_between, envelope_m, fits}

-- a finding as two numbers: 0 nothing, 1 a message, 2 a refusal; and its size or number
kind_of : Finding → ℕ
kind_of nothing = 0
kind_of (message n f) = 1
kind_of (refused f) = 2

value_of : Finding → ℕ
value_of nothing = 0
value_of (message n f) = n
value_of (refused f) = number_of f

stand_of : Stand → ℕ
stand_of inside = 0
stand_of whole = 1
stand_of (refused f) = number_of f

used_in : (t : Taken) (o : FeedOutcome) → told_taken t ≡ o → t.used ≡ o.used
used_in t o e = ap (λ (p : FeedOutcome). p.used) e

found_in : (t : Taken) (o : FeedOutcome) → told_taken t ≡ o → told_found t.found ≡ o.finding
found_in t o e = ap (λ (p : FeedOutcome). p.finding) e

-- ---- five wrong feeds

-- one that forgets the bytes behind a message in the same piece: it says that it used them too
pub a_feed_leaves_what_is_behind : (t : Taken) → t.used ≡ 42 → Takes new_feed (M ++ M) t → ⊥
a_feed_leaves_what_is_behind t all kept = apart 42 21 tt (sym all ∙ used_in t _ (kept ∙ feed_cases.found))

-- one that uses a byte past the settling one
pub a_feed_stops_at_the_settling_byte : (t : Taken) → t.used ≡ 18 → Takes new_feed (set M 0 3) t → ⊥
a_feed_stops_at_the_settling_byte t one kept = apart 18 17 tt (sym one ∙ used_in t _ (kept ∙ feed_cases.no_2))

pub a_feed_stops_at_the_wrong_sum : (t : Taken) → t.used ≡ 24 → Takes new_feed (damaged_c ++ M) t → ⊥
a_feed_stops_at_the_wrong_sum t one kept = apart 24 23 tt (sym one ∙ used_in t _ (kept ∙ feed_cases.no_7_crc))

-- one that tells 51 before 4
pub a_feed_tells_4_before_51 : (t : Taken) → t.found ≡ Err TooLong → Takes new_feed (set announcing511 16 5) t → ⊥
unfolding value_of
a_feed_tells_4_before_51 t wrong kept =
    apart 51 4 tt (ap value_of (ap told_found (sym wrong) ∙ found_in t _ (kept ∙ feed_cases.no_4_first)))

-- one that resumes after a refusal: a whole message is lent, and it takes it
abbrev refused_feed : Feed
refused_feed = record { kept = (held_by (take 17 announcing511) whole).kept; beside = record { count = 17; standing = Refused TooLong } }

pub a_feed_does_not_resume : (t : Taken) (n : ℕ) (e : Envelope) → t.found ≡ Ok (Some (record { size = n; envelope = e })) → Takes refused_feed M t → ⊥
unfolding kind_of
a_feed_does_not_resume t n e wrong kept = apart 1 2 tt (ap kind_of (ap told_found (sym wrong) ∙ found_in t _ (kept ∙ feed_cases.not_resumed)))

abbrev feed_between : Feed
feed_between = record { kept = (held_by C whole).kept; beside = record { count = 23; standing = Whole } }

-- and with an empty piece: it finds the message again, or says nothing of the refusal
pub an_empty_piece_finds_nothing_again : (t : Taken) (n : ℕ) (e : Envelope) → t.found ≡ Ok (Some (record { size = n; envelope = e })) → Takes feed_between [] t → ⊥
unfolding kind_of
an_empty_piece_finds_nothing_again t n e wrong kept = apart 1 0 tt (ap kind_of (ap told_found (sym wrong) ∙ found_in t _ (kept ∙ feed_cases.no_bytes_after)))

pub an_empty_piece_repeats_the_refusal : (t : Taken) → t.found ≡ Ok None → Takes refused_feed [] t → ⊥
unfolding kind_of
an_empty_piece_repeats_the_refusal t wrong kept = apart 0 2 tt (ap kind_of (ap told_found (sym wrong) ∙ found_in t _ (kept ∙ feed_cases.no_bytes_refused)))

-- one that drops a byte at a cut: it would not find M, however M is cut
pub a_feed_drops_no_byte_at_a_cut : (c : Came) → c.found ≡ [] → Calls new_feed M c → ⊥
a_feed_drops_no_byte_at_a_cut c wrong calls =
    apart 0 1 tt (ap length (sym wrong ∙ (all_are_found new_feed (M ∷ []) c new_between (also (fits M envelope_m (lit≤ tt) starred.a.0) none) calls).0))

-- ---- take: the message one byte early; a byte fewer in than came; another message's fields

pub take_does_not_find_early : (t : Taken) (n : ℕ) (e : Envelope) → t.found ≡ Ok (Some (record { size = n; envelope = e })) → Takes new_feed (take 22 C) t → ⊥
unfolding kind_of
take_does_not_find_early t n e wrong kept = apart 1 0 tt (ap kind_of (ap told_found (sym wrong) ∙ found_in t _ (kept ∙ feed_cases.missing_crc)))

pub take_counts_what_is_in : (t : Taken) → t.feed.beside.count ≡ 19 → Takes new_feed (take 20 M) t → ⊥
take_counts_what_is_in t wrong kept = apart 19 20 tt (sym wrong ∙ ap (λ (o : FeedOutcome). o.state.count) (kept ∙ feed_cases.missing))

flags_in : Finding → ℕ
flags_in nothing = 0
flags_in (message n f) = f.header.flags
flags_in (refused f) = 0

pub take_hands_out_its_envelope : (t : Taken) → t.found ≡ Ok (Some (record { size = 23; envelope = envelope_m })) → Takes new_feed (C ++ M) t → ⊥
unfolding flags_in
take_hands_out_its_envelope t wrong kept = apart 0 8 tt (ap flags_in (ap told_found (sym wrong) ∙ found_in t _ (kept ∙ feed_cases.found_crc)))

-- ---- new and restart: a feed with a byte in; a feed that keeps its refusal

pub new_has_no_byte_in : (f : Feed) → f.beside.count ≡ 1 → Fresh f → ⊥
new_has_no_byte_in f wrong kept = apart 1 0 tt (sym wrong ∙ ap (λ (s : State). s.count) kept)

pub restart_keeps_no_refusal : (f : Feed) → f.beside.standing ≡ Refused TooLong → Fresh f → ⊥
unfolding stand_of
restart_keeps_no_refusal f wrong kept =
    apart 51 0 tt (ap (λ (s : Standing). stand_of (told_standing s)) (sym wrong) ∙ ap (λ (s : State). stand_of s.stand) kept)

-- ---- end: nothing inside a message; 52 between messages; 52 told and not kept

abbrev feed_within : Feed
feed_within = record { kept = (held_by (take 5 C) inside).kept; beside = record { count = 5; standing = Inside } }

pub end_inside_is_refused : (e : Ended) → e.found ≡ Ok None → Ends feed_within e → ⊥
unfolding kind_of
end_inside_is_refused e wrong kept =
    apart 0 2 tt (ap kind_of (ap told_found (sym wrong) ∙ ap (λ (o : FeedOutcome). o.finding) (kept ∙ feed_cases.end_within)))

pub end_between_is_no_refusal : (e : Ended) → e.found ≡ Err Cut → Ends feed_between e → ⊥
unfolding kind_of
end_between_is_no_refusal e wrong kept =
    apart 2 0 tt (ap kind_of (ap told_found (sym wrong) ∙ ap (λ (o : FeedOutcome). o.finding) (kept ∙ feed_cases.end_after)))

pub end_keeps_its_refusal : Ends feed_within (record { feed = feed_within; found = Err Cut }) → ⊥
unfolding stand_of
end_keeps_its_refusal kept = apart 0 52 tt (ap (λ (o : FeedOutcome). stand_of o.state.stand) (kept ∙ feed_cases.end_within))

-- ---- advance: the bytes lent not touched; the rest of the room wiped

pub advance_does_not_touch_nothing : (r : Step) → Advances new_feed.kept (record { count = 0; standing = Inside }) (take 20 M) r new_feed.kept → ⊥
advance_does_not_touch_nothing r kept =
    apart 0 4 tt (ap (λ (o : FeedOutcome). get_or o.state.kept 0 0) (kept ∙ feed_cases.missing))

pub advance_keeps_the_rest_of_the_room : (r : Step) (exit : List ℕ) → get_or exit 22 0 ≡ 0 → Advances (held_by C whole).kept (record { count = 23; standing = Whole }) (9 ∷ []) r exit → ⊥
advance_keeps_the_rest_of_the_room r exit wrong kept =
    apart 0 0x95 tt (sym wrong ∙ ap (λ (o : FeedOutcome). get_or o.state.kept 22 0) (kept ∙ feed_cases.next_message))

-- ---- close: the end forgets what stands; the count is lost

pub close_repeats_a_refusal : (r : Step) → r.found ≡ Err Cut → Closes (record { count = 17; standing = Refused TooLong }) r → ⊥
unfolding value_of
close_repeats_a_refusal r wrong kept =
    apart 52 51 tt
    (ap value_of (ap told_found (sym wrong) ∙ ap (λ (o : FeedOutcome). o.finding) (kept (held_by (take 17 announcing511) whole).kept ∙ feed_cases.end_refused)))

pub close_keeps_the_count : (r : Step) → r.beside.count ≡ 0 → Closes (record { count = 23; standing = Whole }) r → ⊥
close_keeps_the_count r wrong kept =
    apart 0 23 tt (sym wrong ∙ ap (λ (o : FeedOutcome). o.state.count) (kept (held_by C whole).kept ∙ feed_cases.end_after))

-- ---- held: half a message; none where there is one

pub held_is_no_half_message : Holds (held_by (take 20 M) inside).kept (record { count = 20; standing = Inside }) (take 20 M) → ⊥
held_is_no_half_message kept = apart 20 0 tt (ap length kept)

pub held_is_the_message : Holds (held_by M whole).kept (record { count = 21; standing = Whole }) [] → ⊥
held_is_the_message kept = apart 0 21 tt (ap length kept)

-- ---- the numbers of refusals: another's; one for all that reading gives; a place lost, and one that there is not

pub a_feed_refusal_keeps_its_number : NumbersFeedRefusal TooLong (record { number = 52; reading = 0; place = 0 }) → ⊥
a_feed_refusal_keeps_its_number kept = apart 52 51 tt (ap (λ (n : RefusalNumbers). n.number) kept)

pub a_feed_refusal_passes_reading_on : NumbersFeedRefusal (MessageRefused (record { fault = BadVariableSize; place = 16 })) (record { number = 2; reading = 0; place = 16 }) → ⊥
a_feed_refusal_passes_reading_on kept = apart 2 4 tt (ap (λ (n : RefusalNumbers). n.number) kept)

pub a_feed_refusal_keeps_its_place : NumbersFeedRefusal (MessageRefused (record { fault = BadVariableSize; place = 16 })) (record { number = 4; reading = 0; place = 0 }) → ⊥
a_feed_refusal_keeps_its_place kept = apart 0 16 tt (ap (λ (n : RefusalNumbers). n.place) kept)

pub a_feed_refusal_of_its_own_has_no_place : NumbersFeedRefusal TooLong (record { number = 51; reading = 0; place = 5 }) → ⊥
a_feed_refusal_of_its_own_has_no_place kept = apart 5 0 tt (ap (λ (n : RefusalNumbers). n.place) kept)

-- ---- announce: a length before 17 bytes are there; a refused heading passed over; another length

announced_in : AnnouncementAnswer → ℕ
announced_in unfinished = 0
announced_in (refusedHeading r) = 1
announced_in (announces n) = n

pub announce_waits_for_the_header : Announces (take 16 M) (Ok (Some 21)) → ⊥
unfolding announcing announced_in
announce_waits_for_the_header kept = apart 21 0 tt (ap announced_in kept)

pub announce_does_not_pass_over_2 : Announces (set M 0 3) (Ok (Some 21)) → ⊥
unfolding announcing heading announced_in
announce_does_not_pass_over_2 kept = apart 21 1 tt (ap announced_in kept)

pub announce_tells_the_whole_length : Announces C (Ok (Some 19)) → ⊥
unfolding announcing heading announced bad_flags bad_variable_size three_at announced_in
announce_tells_the_whole_length kept = apart 19 23 tt (ap announced_in kept)
