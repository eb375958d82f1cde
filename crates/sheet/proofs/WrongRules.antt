-- For each number of document 01, an answer that passes over its rule, refuted by computing.
-- For 7 and 41 it stands in WrongAnswers, for 21, 22, 27 and 35 in WrongGolden; 32 is gone (K13).
use Rattle.std.specs.Prelude.{Ok, Err, Result}
use mathlib.Core.List.{List, [], ◌∷◌, ◌++◌}
use mathlib.Core.Path.{◌≡◌, refl, ap, sym, ◌∙◌}
use Prim.Native.Nat.{ℕ, ◌+◌}
use native.Mathlib.Omega.{arith}
use borrow.Author.Tests.{lt-ltb}
use lib.ListN.{length, take, set, get_or, replicate}
use Rattle.envelope.specs.Fields.{Answer, accepted, refused_by, refusal_by}
use Rattle.envelope.specs.Fields as answer
use Rattle.envelope.specs.Flags.{bad_flags}
use Rattle.envelope.specs.Heading.{heading}
use Rattle.envelope.specs.Layout.{largest_body}
use Rattle.envelope.specs.Message.{Given, unaddressed, before_field, field_number, message}
use Rattle.envelope.specs.Numbers.{two_at}
use Rattle.envelope.specs.Reading.{reading}
use Rattle.envelope.specs.Told.{Reads}
use Rattle.envelope.specs.Writing.{refused, writing, wrote, answer_to_writing, bad_end, has_zero, stray_integrity, Writes}
use Rattle.envelope.specs.declared.fields.Envelope.{Envelope}
use Rattle.envelope.specs.declared.reader.Fault.TheVariants.{WrongLength}
use Rattle.golden.specs.Checking.{counted, check_from, checking, Checks}
use Rattle.golden.specs.Checking as check
use Rattle.golden.specs.Comparing.{comparing, after_comparing, Compares}
use Rattle.golden.specs.Comparing as compare
use Rattle.golden.specs.File.{bad_file, judged_at}
use Rattle.golden.specs.Making.{made, making, record_of, Makes}
use Rattle.golden.specs.Making as make
use Rattle.golden.specs.Record.{message_room, stored_word, is_retired, stored_length, all_zero, bad_length, judging}
use Rattle.envelope.specs.Refusals.{Refused, plainly, passing_on}
use Rattle.golden.specs.declared.refusal.Refusal.{Refusal as GoldenRefusal}
use Rattle.sheet.specs.Cases.{M, with_addresses}
use Rattle.sheet.proofs.Apart.{apart, accepted_not_refused, refusal_number}
use Rattle.sheet.proofs.Cases.{starred}
use Rattle.sheet.proofs.WrongAnswers.{given_m}

-- ---- reading

pub read_does_not_pass_over_1 : (e : Envelope) → Reads (take 20 M) (Ok e) → ⊥
read_does_not_pass_over_1 e kept = accepted_not_refused _ _ (kept ∙ starred.b)

pub read_does_not_pass_over_2 : (e : Envelope) → Reads (set M 0 3) (Ok e) → ⊥
read_does_not_pass_over_2 e kept = accepted_not_refused _ _ (kept ∙ starred.c)

-- bit 5, and kind 3
unassigned : (reading (set M 4 0x20) ≡ refused_by 3 4) × (reading (set M 4 0x18) ≡ refused_by 3 4)
unfolding reading heading bad_flags
unassigned = (refl, refl)

pub read_does_not_pass_over_3 : (e : Envelope) → Reads (set M 4 0x20) (Ok e) → ⊥
read_does_not_pass_over_3 e kept = accepted_not_refused _ _ (kept ∙ unassigned.0)

pub read_does_not_pass_over_kind_3 : (e : Envelope) → Reads (set M 4 0x18) (Ok e) → ⊥
read_does_not_pass_over_kind_3 e kept = accepted_not_refused _ _ (kept ∙ unassigned.1)

pub read_does_not_pass_over_4 : (e : Envelope) → Reads (set M 16 5) (Ok e) → ⊥
read_does_not_pass_over_4 e kept = accepted_not_refused _ _ (kept ∙ starred.d.0)

pub read_gives_4_before_5 : (place : ℕ) → Reads (set M 16 5) (Err (record { fault = WrongLength; place = place })) → ⊥
read_gives_4_before_5 place kept = apart 5 4 tt (refusal_number 5 place 4 16 (kept ∙ starred.d.0))

pub read_does_not_pass_over_5 : (e : Envelope) → Reads (M ++ 0 ∷ []) (Ok e) → ⊥
read_does_not_pass_over_5 e kept = accepted_not_refused _ _ (kept ∙ starred.e 0)

pub read_does_not_pass_over_6 : (e : Envelope) → Reads (with_addresses 7 (0x41 ∷ 0x41 ∷ 0 ∷ [])) (Ok e) → ⊥
read_does_not_pass_over_6 e kept = accepted_not_refused _ _ (kept ∙ starred.i_refused)

-- and what is accepted has the message's own fields: not another number, and not a body from another place
number_in : Answer → ℕ
number_in (accepted f) = f.header.number
number_in (answer.refused r) = 0

body_place_in : Answer → ℕ
body_place_in (accepted f) = f.body.place
body_place_in (answer.refused r) = 0

pub read_does_not_change_the_number : (e : Envelope) → e.header.number ≡ 2 → Reads M (Ok e) → ⊥
unfolding number_in
read_does_not_change_the_number e other kept = apart 2 1 tt (sym other ∙ ap number_in (kept ∙ starred.a.0))

pub read_does_not_move_the_body : (e : Envelope) → e.body.place ≡ 21 → Reads M (Ok e) → ⊥
unfolding body_place_in
read_does_not_move_the_body e other kept = apart 21 17 tt (sym other ∙ ap body_place_in (kept ∙ starred.a.0))

-- ---- writing: M as it is given, but for one thing

wrote_not_refused : (n k : ℕ) → wrote n ≡ refused k → ⊥
wrote_not_refused n k e = let z : ◌≡◌ {A = ℕ} 0 1 = cc in omega arith

passed_over : (g : Given) (entry : List ℕ) (n k : ℕ) → writing g (length entry) ≡ refused k → wrote n ≡ answer_to_writing (writing g (length entry)) → ⊥
passed_over g entry n k refuses kept = wrote_not_refused n k (kept ∙ ap answer_to_writing refuses)

abbrev like : (flags : ℕ) (source body : List ℕ) (application : ℕ) → Given
like flags source body application =
    record {
      header = record { message_type = 6000; version = 1; flags = flags; number = 1; time = 0 };
      routing = unaddressed;
      source = source;
      destination = [];
      body = body;
      application = application;
    }

refuses_11 : writing (like 0x20 [] [] 0) 21 ≡ refused 11
unfolding writing bad_flags
refuses_11 = refl

pub write_does_not_pass_over_11 : (n : ℕ) (exit : List ℕ) → Writes (like 0x20 [] [] 0) (replicate 21 0) (Ok n) exit → ⊥
write_does_not_pass_over_11 n exit kept = passed_over (like 0x20 [] [] 0) (replicate 21 0) n 11 refuses_11 kept.0

-- an address where addressing is absent
refuses_12 : writing (like 0 (0x41 ∷ []) [] 0) 21 ≡ refused 12
unfolding writing bad_flags bad_end has_zero
refuses_12 = refl

pub write_does_not_pass_over_12 : (n : ℕ) (exit : List ℕ) → Writes (like 0 (0x41 ∷ []) [] 0) (replicate 21 0) (Ok n) exit → ⊥
write_does_not_pass_over_12 n exit kept = passed_over (like 0 (0x41 ∷ []) [] 0) (replicate 21 0) n 12 refuses_12 kept.0

-- any body of a byte too many, whatever the room
refuses_13 : (body : List ℕ) (room : ℕ) → length body ≡ largest_body + 1 → writing (like 0 [] body 0) room ≡ refused 13
unfolding writing bad_flags bad_end has_zero
refuses_13 body room e = rw (lt-ltb largest_body (length body) (omega (arith, e)))

pub write_does_not_pass_over_13 : (body entry exit : List ℕ) (n : ℕ) → length body ≡ largest_body + 1 → Writes (like 0 [] body 0) entry (Ok n) exit → ⊥
write_does_not_pass_over_13 body entry exit n e kept = passed_over (like 0 [] body 0) entry n 13 (refuses_13 body (length entry) e) kept.0

refuses_14 : writing (like 0 [] [] 1) 21 ≡ refused 14
unfolding writing bad_flags bad_end has_zero stray_integrity
refuses_14 = refl

pub write_does_not_pass_over_14 : (n : ℕ) (exit : List ℕ) → Writes (like 0 [] [] 1) (replicate 21 0) (Ok n) exit → ⊥
write_does_not_pass_over_14 n exit kept = passed_over (like 0 [] [] 1) (replicate 21 0) n 14 refuses_14 kept.0

refuses_15 : writing given_m 20 ≡ refused 15
unfolding writing message before_field field_number bad_flags bad_end has_zero stray_integrity
refuses_15 = refl

pub write_does_not_pass_over_15 : (n : ℕ) (exit : List ℕ) → Writes given_m (replicate 20 0) (Ok n) exit → ⊥
write_does_not_pass_over_15 n exit kept = passed_over given_m (replicate 20 0) n 15 refuses_15 kept.0

-- ---- golden files: a record whose length is 20, one with a byte behind its message, and one of another header version

abbrev pub short_length : List ℕ
short_length = 0 ∷ 20 ∷ replicate 510 0

abbrev byte_behind : List ℕ
byte_behind = 0 ∷ 21 ∷ M ++ 1 ∷ replicate 488 0

abbrev other_version : List ℕ
other_version = 0 ∷ 21 ∷ set M 0 3 ++ replicate 489 0

pub bad_records :
    (checking short_length ≡ check.refused 0 (plainly 23))
    × ((checking byte_behind ≡ check.refused 0 (plainly 24)) × (checking other_version ≡ check.refused 0 (passing_on 25 (refusal_by 2 0))))
unfolding checking check_from bad_file judged_at judging bad_length stored_length stored_word all_zero two_at reading heading
bad_records = (refl, (refl, refl))

counted_not_refused : (n k : ℕ) (r : Refused) → counted n ≡ check.refused k r → ⊥
counted_not_refused n k r e = let z : ◌≡◌ {A = ℕ} 0 1 = cc in omega arith

pub check_does_not_pass_over_23 : (n : ℕ) → Checks short_length (Ok n) → ⊥
check_does_not_pass_over_23 n kept = counted_not_refused n 0 (plainly 23) (kept ∙ bad_records.0)

pub check_does_not_pass_over_24 : (n : ℕ) → Checks byte_behind (Ok n) → ⊥
check_does_not_pass_over_24 n kept = counted_not_refused n 0 (plainly 24) (kept ∙ bad_records.1.0)

pub check_does_not_pass_over_25 : (n : ℕ) → Checks other_version (Ok n) → ⊥
check_does_not_pass_over_25 n kept = counted_not_refused n 0 (passing_on 25 (refusal_by 2 0)) (kept ∙ bad_records.1.1)

-- ---- compare: a radio's message that reading refuses

pub refused_radio : comparing (record_of M) 0 (take 20 M) ≡ compare.refused (passing_on 31 (refusal_by 1 20))
unfolding comparing bad_file judged_at judging bad_length is_retired stored_length stored_word all_zero record_of two_at
refused_radio = rw (starred.a.0, starred.b)

pub compare_does_not_pass_over_31 : (entry exit : List ℕ) → Compares (record_of M) 0 (take 20 M) entry (Ok 0) exit → ⊥
unfolding compare.answer_to_comparing
compare_does_not_pass_over_31 entry exit kept =
    let told : compare.same ≡ compare.refused (passing_on 31 (refusal_by 1 20)) = kept.0 ∙ ap compare.answer_to_comparing refused_radio in
    let z : ◌≡◌ {A = ℕ} 0 1 = cc in
    omega arith

pub compare_writes_nothing_at_31 : (r : Result ℕ GoldenRefusal) → Compares (record_of M) 0 (take 20 M) (9 ∷ []) r (0 ∷ []) → ⊥
unfolding after_comparing
compare_writes_nothing_at_31 r kept =
    apart 0 9 tt (ap (λ (s : List ℕ). get_or s 0 0) (kept.1 ∙ ap (λ (o : compare.CompareOutcome). after_comparing o (9 ∷ [])) refused_radio))

-- ---- make: any message of 511 bytes, and one that reading refuses

made_not_refused : (r : Refused) → made ≡ make.refused r → ⊥
made_not_refused r e = let z : ◌≡◌ {A = ℕ} 0 1 = cc in omega arith

pub make_does_not_pass_over_33 : (m entry exit : List ℕ) → length m ≡ 511 → Makes m entry (Ok tt) exit → ⊥
unfolding making
make_does_not_pass_over_33 m entry exit e kept =
    made_not_refused (plainly 33) (rw (lt-ltb message_room (length m) (omega (arith, e))) at kept.0)

pub make_does_not_pass_over_34 : (entry exit : List ℕ) → Makes (take 20 M) entry (Ok tt) exit → ⊥
unfolding making
make_does_not_pass_over_34 entry exit kept = made_not_refused (passing_on 34 (refusal_by 1 20)) (rw starred.b at kept.0)
