-- No theorem about feeds is empty: for each that has hypotheses a run in which they hold, computed, and what the theorem then says of it.
-- M whole and cut after ten bytes, M and C end to end, a heading of another version, C damaged.
use Rattle.std.specs.Prelude.{Ok, Err, Some, None}
use mathlib.Core.List.{List, [], ◌∷◌, ◌++◌}
use mathlib.Core.Path.{◌≡◌, refl, ap, sym}
use Prim.Native.Nat.{ℕ}
use native.Mathlib.Omega.{arith}
use lib.Dec.{lit≤, lit<}
use lib.ListN.{length, take, drop, set}
use Rattle.sum.proofs.Computed.{literals}
use Rattle.sum.proofs.Flips.{bits_apart_same}
use Rattle.envelope.specs.Announcing.{announcing}
use Rattle.envelope.specs.Demand3.{DeclaresCrc}
use Rattle.envelope.specs.Fields.{absent, accepted}
use Rattle.envelope.specs.Heading.{heading}
use Rattle.envelope.specs.Reading.{reading}
use Rattle.envelope.specs.Told.{told_envelope}
use Rattle.envelope.specs.declared.reader.Fault.TheVariants.{WrongVersion}
use Rattle.feed.specs.Cutting.{Came, Calls, over, stopped, call, no_calls, call_then, told_came, Uses, SettledBy}
use Rattle.feed.specs.Feeding.{inside, whole, refused, fresh, nothing, message, FeedOutcome, byte_in, taking, ending}
use Rattle.feed.specs.Messages.{Few, AllFit, none, also, Between, Silent, SettledAt, Settles}
use Rattle.feed.specs.Stream.{found_in, streaming}
use Rattle.feed.specs.TwoBits.{FoundSomewhere}
use Rattle.feed.specs.Told.{told_feed, told_found, told_taken, Takes, Ends, Closes}
use Rattle.feed.specs.Verdict.{refused, verdict}
use Rattle.feed.specs.declared.refusal.Refusal.{Refusal}
use Rattle.feed.specs.declared.refusal.Refusal.TheVariants.{MessageRefused, Cut}
use Rattle.feed.specs.declared.feeder.Ended.{Ended}
use Rattle.feed.specs.declared.feeder.Feed.{Feed}
use Rattle.feed.specs.declared.feeder.Taken.{Taken}
use Rattle.feed.specs.declared.step.Standing.TheVariants.{Inside, Whole, Refused}
use Rattle.feed.specs.declared.step.Step.{Step}
use Rattle.exports.specs.Envelopes.{field_numbers}
use Rattle.exports.specs.Feeds.{state_numbers, found_slots, fields_found, Lent, lent, lent_after, TakesForC, EndsForC, RestartsForC, HoldsForC}
use Rattle.exports.specs.Word.{slots, word, sized}
use Rattle.sheet.specs.Cases.{M, like_m, C, fields_of_c}
use Rattle.sheet.specs.FeedCases.{number, held_by, fed, damaged_c}
use Rattle.sheet.proofs.Cases.{starred}
use Rattle.sheet.proofs.FeedCases.{announces_damaged, verdict_damaged, wrong_sum, feed_cases}
use Rattle.sheet.proofs.Feeding.{cut_anywhere, end_anywhere, as_defined, advance_is_take, close_is_end, take_for_c_is_take, end_for_c_is_end, restart_for_c_is_new, message_for_c_is_held, uses_few, refusal_is_told, uses_bytes, last_used_settles, found_are_accepted, all_are_found, found_in_one_piece, found_is_held, found_at_its_last_byte, refused_at_the_17th, refused_when_complete, where_refused, refusal_is_kept, end_is_kept, refusal_stands, restart_is_new, empty_piece, end_between, end_inside, feed_three_bits}
use Rattle.sheet.proofs.OneFeed.{new_feed, is_new, new_between, envelope_m, envelope_c, taken_whole, takes_whole, fits, came_of_one, one_call, found_somewhere}

-- ---- two runs over M: in one piece, and cut after ten bytes

abbrev whole_m : Came
whole_m = came_of_one M envelope_m (lit≤ tt) starred.a.0

run_whole : Calls new_feed M whole_m
run_whole = one_call M envelope_m (lit≤ tt) starred.a.0

abbrev ten_in : Taken
ten_in = record { feed = record { kept = (held_by (take 10 M) inside).kept; beside = record { count = 10; standing = Inside } }; used = 10; found = Ok None }

takes_ten : Takes new_feed (take 10 M) ten_in
unfolding taking byte_in verdict announcing
takes_ten = refl

abbrev rest_in : Taken
rest_in = record { feed = record { kept = (held_by M whole).kept; beside = record { count = 21; standing = Whole } }; used = 11; found = Ok (Some (record { size = 21; envelope = envelope_m })) }

takes_rest : Takes ten_in.feed (drop 10 M) rest_in
takes_rest = sym feed_cases.cut_at_10

abbrev cut_m : Came
cut_m = call_then ten_in (call_then rest_in (no_calls rest_in.feed))

abbrev ten_came : Came
ten_came = call_then ten_in (no_calls ten_in.feed)

run_ten : Calls new_feed (take 10 M) ten_came
run_ten = call (take 10 M) [] ten_in refl takes_ten over

run_cut : Calls new_feed M cut_m
run_cut = call (take 10 M) (drop 10 M) ten_in refl takes_ten (call (drop 10 M) [] rest_in refl takes_rest over)

-- ---- (a)

pub M_cut_anywhere : whole_m ≡ cut_m
M_cut_anywhere = cut_anywhere new_feed M whole_m cut_m run_whole run_cut

abbrev ended_m : Ended
ended_m = record { feed = rest_in.feed; found = Ok None }

abbrev cut_feed : Feed
cut_feed = record { kept = ten_in.feed.kept; beside = record { count = 10; standing = Refused Cut } }

abbrev cut_ended : Ended
cut_ended = record { feed = cut_feed; found = Err Cut }

ends_computed : Ends rest_in.feed ended_m × Ends ten_in.feed cut_ended
unfolding ending
ends_computed = (refl, refl)

ends_M : Ends rest_in.feed ended_m
ends_M = ends_computed.0

pub M_end_anywhere : ended_m ≡ ended_m
M_end_anywhere = end_anywhere new_feed M cut_m cut_m ended_m ended_m run_cut run_cut ends_M ends_M

pub M_as_defined : told_came cut_m ≡ streaming fresh M
M_as_defined = as_defined new_feed M cut_m run_cut

abbrev ten_step : Step
ten_step = record { beside = record { count = 10; standing = Inside }; used = 10; found = Ok None }

pub ten_advance : Takes new_feed (take 10 M) ten_in
ten_advance = advance_is_take new_feed (take 10 M) (held_by (take 10 M) inside).kept ten_step takes_ten

abbrev cut_step : Step
cut_step = record { beside = record { count = 10; standing = Refused Cut }; used = 0; found = Err Cut }

closes_ten : Closes ten_in.feed.beside cut_step
unfolding ending
closes_ten kept = refl

pub ten_close : Ends ten_in.feed cut_ended
ten_close = close_is_end ten_in.feed cut_step closes_ten

pub ten_uses : Uses fresh (take 10 M) (told_taken ten_in)
ten_uses = uses_bytes new_feed (take 10 M) ten_in takes_ten

pub M_last_settles : SettledBy (told_feed ten_in.feed) (drop 10 M) (told_taken rest_in)
M_last_settles = last_used_settles ten_in.feed (drop 10 M) rest_in takes_rest refl found_something
  where
    found_something : (told_taken rest_in).finding ≡ nothing → ⊥
    found_something e = let z : ◌≡◌ {A = ℕ} 0 1 = cc in omega arith

-- ---- (b): M and C end to end, in two calls

abbrev feed_m : Feed
feed_m = (taken_whole M envelope_m (lit≤ tt) starred.a.0).feed

between_M : Between (told_feed feed_m)
between_M = record { roomy = refl; going = refl; none = refl }

abbrev taken_c : Taken
taken_c = record { feed = record { kept = C ++ drop 23 feed_m.kept; beside = record { count = 23; standing = Whole } }; used = 23; found = Ok (Some (record { size = 23; envelope = envelope_c })) }

abbrev cameMC : Came
cameMC = call_then (taken_whole M envelope_m (lit≤ tt) starred.a.0) (call_then taken_c (no_calls taken_c.feed))

takes_C : Takes feed_m C taken_c
takes_C = found_in_one_piece feed_m C [] envelope_c between_M (lit≤ tt) starred.kind_crc_lem

run_MC : Calls new_feed (M ++ C) cameMC
run_MC =
    call (M ++ C) [] (taken_whole M envelope_m (lit≤ tt) starred.a.0) refl (takes_whole M envelope_m (lit≤ tt) starred.a.0 C)
    (call C [] taken_c refl takes_C over)

fit_MC : AllFit (M ∷ C ∷ [])
fit_MC = also (fits M envelope_m (lit≤ tt) starred.a.0) (also (fits C envelope_c (lit≤ tt) starred.kind_crc_lem) none)

pub M_and_C_are_accepted : AllFit (M ∷ C ∷ [])
M_and_C_are_accepted = found_are_accepted new_feed (M ++ C) cameMC new_between.roomy run_MC

pub M_and_C_are_found : (cameMC.found ≡ M ∷ C ∷ []) × (cameMC.used ≡ 44) × Between (told_feed cameMC.feed)
M_and_C_are_found = all_are_found new_feed (M ∷ C ∷ []) cameMC new_between fit_MC run_MC

pub C_is_held : (found_in (told_taken taken_c) ≡ C ∷ []) × (reading C ≡ accepted (told_envelope envelope_c)) × (length C ≡ 23)
C_is_held = found_is_held feed_m C taken_c 23 envelope_c C refl takes_C refl refl

-- ---- (c): M after ten bytes and whole; a heading of another version; C damaged

pub M_at_its_last_byte : Silent (take 10 M) ten_came × SettledAt new_feed M whole cut_m
M_at_its_last_byte =
    let t = found_at_its_last_byte new_feed (take 10 M) (drop 10 M) ten_came cut_m new_between (fits M envelope_m (lit≤ tt) starred.a.0) run_ten run_cut in
    (t.0 (lit< tt), t.2)

abbrev pub other_version : List ℕ
other_version = set M 0 3

abbrev version3 : Refusal
version3 = MessageRefused (record { fault = WrongVersion; place = 0 })

verdict_17 : verdict (take 17 other_version) ≡ refused (number 2 0)
unfolding verdict announcing heading
verdict_17 = refl

abbrev sixteen_in : Taken
sixteen_in = record { feed = record { kept = (held_by (take 16 other_version) inside).kept; beside = record { count = 16; standing = Inside } }; used = 16; found = Ok None }

abbrev pub refused_in : Taken
refused_in = record { feed = record { kept = (held_by (take 17 other_version) inside).kept; beside = record { count = 17; standing = Refused version3 } }; used = 17; found = Err version3 }

pub takes_refused : Takes new_feed other_version refused_in
takes_refused = refused_at_the_17th.1 new_feed (take 17 other_version) (drop 17 other_version) version3 new_between refl verdict_17

abbrev came_of_version3 : Came
came_of_version3 = call_then refused_in (no_calls refused_in.feed)

run_refused : Calls new_feed other_version came_of_version3
run_refused = call other_version [] refused_in refl takes_refused (stopped version3 refl)

abbrev sixteen_came : Came
sixteen_came = call_then sixteen_in (no_calls sixteen_in.feed)

run_sixteen : Calls new_feed (take 16 other_version) sixteen_came
run_sixteen = call (take 16 other_version) [] sixteen_in refl (sym feed_cases.sixteen) over

pub refused_with_the_17th : Silent (take 16 other_version) sixteen_came × SettledAt new_feed (take 17 other_version) (refused (number 2 0)) came_of_version3
refused_with_the_17th =
    let last = take 1 (drop 16 other_version) in
    let t = refused_at_the_17th.0 new_feed (take 16 other_version) last (drop 17 other_version) (number 2 0) sixteen_came came_of_version3 new_between refl verdict_17 run_sixteen run_refused in
    (t.0 (lit< tt), t.2)

abbrev pub damaged_in : Taken
damaged_in = record { feed = record { kept = (held_by damaged_c whole).kept; beside = record { count = 23; standing = Refused wrong_sum } }; used = 23; found = Err wrong_sum }

abbrev pub came_of_damaged : Came
came_of_damaged = call_then damaged_in (no_calls damaged_in.feed)

pub run_damaged : Calls new_feed (damaged_c ++ M) came_of_damaged
run_damaged =
    call (damaged_c ++ M) [] damaged_in refl
    (refused_when_complete.1 new_feed damaged_c M wrong_sum new_between (announces_damaged, lit≤ tt) verdict_damaged) (stopped wrong_sum refl)

pub refused_with_the_last : SettledAt new_feed damaged_c (refused (number 7 19)) came_of_damaged
refused_with_the_last =
    (refused_when_complete.0 new_feed [] damaged_c M (number 7 19) (no_calls new_feed) came_of_damaged new_between (announces_damaged, lit≤ tt) verdict_damaged over run_damaged).2

pub where_2_is_told : Settles (take 17 other_version) 2
where_2_is_told = where_refused new_feed other_version came_of_version3 version3 is_new run_refused refl

-- ---- (d)

pub refusal_2_is_kept : refused_in.feed.beside.standing ≡ Refused version3
refusal_2_is_kept = refusal_is_kept new_feed version3 other_version refused_in takes_refused refl

abbrev again_in : Taken
again_in = record { feed = refused_in.feed; used = 0; found = Err version3 }

abbrev again_ended : Ended
again_ended = record { feed = refused_in.feed; found = Err version3 }

repeats_computed : Takes refused_in.feed M again_in × Ends refused_in.feed again_ended
unfolding taking byte_in ending
repeats_computed = (refl, refl)

pub refusal_2_stands : (again_in ≡ again_in) × (again_ended ≡ again_ended)
refusal_2_stands = refusal_stands refused_in.feed version3 M again_in again_ended refl repeats_computed.0 repeats_computed.1

pub restarted_is_new : new_feed ≡ new_feed
restarted_is_new = restart_is_new new_feed new_feed is_new is_new

pub nothing_lent : (new_feed ≡ new_feed) × (◌≡◌ {A = ℕ} 0 0) × (nothing ≡ nothing)
nothing_lent = empty_piece new_feed (record { feed = new_feed; used = 0; found = Ok None }) (sym feed_cases.no_bytes)

pub M_ends_between : ended_m ≡ record { feed = rest_in.feed; found = Ok None }
M_ends_between = end_between rest_in.feed ended_m ends_M (record { roomy = refl; going = refl; none = refl })

ends_ten : Ends ten_in.feed cut_ended
ends_ten = ends_computed.1

pub ten_ends_inside : cut_ended ≡ record { feed = cut_feed; found = Err Cut }
ten_ends_inside = end_inside ten_in.feed cut_ended ends_ten (lit< tt)

pub the_end_is_kept : cut_feed.beside.standing ≡ Refused Cut
the_end_is_kept = end_is_kept ten_in.feed Cut cut_ended ends_ten refl

-- ---- K11: C found in two streams

found_C : FoundSomewhere C
found_C = found_somewhere C envelope_c (lit≤ tt) starred.kind_crc_lem (literals C tt)

declares_C : DeclaresCrc C
declares_C = record { fields = fields_of_c; accepts = starred.kind_crc_lem; declares = refl }

pub C_found_twice : C ≡ C
C_found_twice = feed_three_bits C C found_C found_C refl declares_C declares_C (rw (bits_apart_same C) (lit≤ tt))

-- ---- from C: M is found in a new feed, and what is behind it is left; held, ended, restarted

abbrev new_for_c : List ℕ → Lent
new_for_c fields = lent new_feed.kept (0 ∷ 0 ∷ []) fields

abbrev found_for_c : Lent
found_for_c = lent (held_by M whole).kept (21 ∷ 255 ∷ []) (field_numbers (like_m absent 17 0))

finds_for_c : (fields : List ℕ) → TakesForC (new_for_c fields) (M ++ M) (word (slots 0 0 21 21)) found_for_c
finds_for_c fields =
    let found = sym feed_cases.found in
    (ap (λ (o : FeedOutcome). word (found_slots o.finding o.used)) found, ap (λ (o : FeedOutcome). lent_after o fields) found)

abbrev taken_m : Taken
taken_m = taken_whole M envelope_m (lit≤ tt) starred.a.0

pub found_for_c_is_taken : (fields : List ℕ) → found_for_c ≡ lent taken_m.feed.kept (state_numbers (told_feed taken_m.feed)) (fields_found (told_found taken_m.found) fields)
found_for_c_is_taken fields =
    (take_for_c_is_take new_feed (new_for_c fields) (M ++ M) _ found_for_c taken_m refl (finds_for_c fields) (takes_whole M envelope_m (lit≤ tt) starred.a.0 M)).1

-- a whole message, in storage whose number for it is none that a call writes
abbrev whole_feed : Feed
whole_feed = record { kept = (held_by M whole).kept; beside = record { count = 21; standing = Whole } }

abbrev an_end : Ended
an_end = record { feed = whole_feed; found = Ok None }

pub end_for_c_is_taken : (exit : List ℕ) → EndsForC (21 ∷ 9 ∷ []) 0 exit → exit ≡ (21 ∷ 255 ∷ [])
unfolding ending
end_for_c_is_taken exit promise = (end_for_c_is_end whole_feed whole_feed.kept (21 ∷ 9 ∷ []) 0 exit an_end refl promise refl).1

pub restart_for_c_is_taken : (kept numbers : List ℕ) → RestartsForC kept numbers → (kept ≡ new_feed.kept) × (numbers ≡ (0 ∷ 0 ∷ []))
restart_for_c_is_taken kept numbers promise = restart_for_c_is_new new_feed kept numbers is_new promise

pub message_for_c_is_M : HoldsForC whole_feed.kept (21 ∷ 9 ∷ []) (word (sized 21)) → M ≡ take (length M) whole_feed.kept
message_for_c_is_M promise = (message_for_c_is_held whole_feed whole_feed.kept (21 ∷ 9 ∷ []) _ M refl promise refl).1

-- ---- no more than 510 bytes

pub few_of_M : Few (fed M whole (message 21 (like_m absent 17 0)))
few_of_M = uses_few fresh (M ++ M) (fed M whole (message 21 (like_m absent 17 0))) refl (sym feed_cases.found)

-- ---- a refusal that comes with the second piece is told by it

abbrev all_but_the17th : Feed
all_but_the17th = record { kept = (held_by (take 16 (set M 0 3)) inside).kept; beside = record { count = 16; standing = Inside } }

abbrev version_in : Taken
version_in =
    record {
      feed = record { kept = (held_by (take 17 (set M 0 3)) inside).kept; beside = record { count = 17; standing = Refused (MessageRefused (record { fault = WrongVersion; place = 0 })) } };
      used = 1;
      found = Err (MessageRefused (record { fault = WrongVersion; place = 0 }));
    }

pub version_is_told : version_in.found ≡ Err (MessageRefused (record { fault = WrongVersion; place = 0 }))
version_is_told = refusal_is_told all_but_the17th _ (drop 16 (set M 0 3)) version_in (sym feed_cases.no_2_cut) refl
