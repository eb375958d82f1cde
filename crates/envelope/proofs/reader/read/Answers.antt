-- `reader::read` tries the rules in their order, and hands out the definition's fields where none is broken.
use Rattle.std.proofs.Common.{◌≡◌, ℕ, ◌+◌, ◌-◌, false, length, sym, ap, ◌∙◌, ap₂, arith, le-ltb, lt-ltb, eq-eqb, ne_eqb}
use Rattle.std.proofs.lemmas.Option.{MatchOption-at_some}
use Rattle.std.proofs.lemmas.Result.{err_from_is_err_and}
use Rattle.envelope.proofs.BoolLaws.{broken, kept}
use Rattle.envelope.proofs.ReadingLaws.{reading_past_heading}
use Rattle.envelope.proofs.HeadingLaws.{Header, header_says, announced_is, heading_passed, size_least}
use Rattle.envelope.specs.Addresses.{bad_addresses}
use Rattle.envelope.specs.Fields.{accepted, refused, refused_by}
use Rattle.envelope.specs.Flags.{kind_of, told_kind}
use Rattle.envelope.specs.Heading.{flags_of, variable_size, data_length, field_place, announced}
use Rattle.envelope.specs.IntegrityField.{bad_integrity}
use Rattle.envelope.specs.Layout.{header_size, field_size}
use Rattle.envelope.specs.Numbers.{four_at}
use Rattle.envelope.specs.Reading.{addressing_of, integrity_of, fields_of, reading_whole, reading}
use Rattle.envelope.specs.Told.{told_addressing}
use Rattle.envelope.proofs.reader.read.Goals as goal
use Rattle.envelope.proofs.reader.read.Goals.{After-unwrap-header, In_ok-judge_heading, Else-announced_length-bytes, After-from-v, In_ok-addressing, After-integrity_of}

header : (c : After-unwrap-header) → Header c.args.bytes.now c.unwrap-header.result.now
header c = header_says _ _ (MatchOption-at_some _ _ _ c.unwrap-header.ensures c.first_chunk.ensures.cases)

-- past rules 1 to 4 reading is of the whole message
whole : (c : In_ok-judge_heading) → Header c.args.bytes.now c.unwrap-header.result.now → reading c.args.bytes.now ≡ reading_whole c.args.bytes.now
whole c h = reading_past_heading _ (omega arith) (sym h.heading ∙ sym c.in_ok-judge_heading.ensures)

announced_is_length : (c : Else-announced_length-bytes) → Header c.args.bytes.now c.unwrap-header.result.now
    → announced c.args.bytes.now ≡ length c.args.bytes.now
announced_is_length c h = sym (c.announced_length.ensures ∙ h.announced) ∙ c.if-announced_length-bytes.false

v_is : (c : After-from-v) → Header c.args.bytes.now c.unwrap-header.result.now → c.from-v.result ≡ variable_size c.args.bytes.now
v_is c h = c.from-v.ensures ∙ h.size

-- rule 6, where it is kept
addresses_kept : (c : In_ok-addressing) → Header c.args.bytes.now c.unwrap-header.result.now →
    let s = c.args.bytes.now in
    (bad_addresses s (variable_size s) ≡ false) × (told_addressing c.in_ok-addressing.addressing ≡ addressing_of s (variable_size s))
addresses_kept c h =
    let s = c.args.bytes.now in
    let size : c.from-v.result ≡ variable_size s = c.from-v.ensures ∙ h.size in
    let k = kept _ _ _ _ c.in_ok-addressing.ensures in
    (ap (bad_addresses s) (sym size) ∙ k.0, k.1 ∙ ap (addressing_of s) size)

-- rule 7 is tried on the kind of the flags and at the place of the field
tried : (c : After-integrity_of) → Header c.args.bytes.now c.unwrap-header.result.now → length c.args.bytes.now - field_size ≡ field_place c.args.bytes.now →
    let s = c.args.bytes.now in
    let place = length s - field_size in
    (bad_integrity s (told_kind c.kind-kind.result) place ≡ bad_integrity s (kind_of (flags_of s)) (field_place s))
    × (integrity_of (told_kind c.kind-kind.result) (four_at s place) ≡ integrity_of (kind_of (flags_of s)) (four_at s (field_place s)))
tried c h place =
    let s = c.args.bytes.now in
    let kind : told_kind c.kind-kind.result ≡ kind_of (flags_of s) = c.kind-kind.ensures ∙ ap kind_of h.flags in
    (ap₂ (bad_integrity s) kind place, ap₂ (λ (k p : ℕ). integrity_of k (four_at s p)) kind place)

pub returns-then-bytes-lt-LEAST_SIZE : goal.returns-then-bytes-lt-LEAST_SIZE
unfolding reading
returns-then-bytes-lt-LEAST_SIZE c = rw (c.at.ensures, lt-ltb _ _ c.if-bytes-lt-LEAST_SIZE.true)

pub returns-in_err-judge_heading : goal.returns-in_err-judge_heading
unfolding reading
returns-in_err-judge_heading c =
    let h = header (goal.at.returns-in_err-judge_heading c).After-unwrap-header in
    let p = err_from_is_err_and c.from_residual.result c.from_residual.ensures.1 in
    rw (p.1, p.2, le-ltb _ _ c.if-bytes-lt-LEAST_SIZE.false, ← h.heading, sym c.in_err-judge_heading.ensures)

pub returns-then-announced_length-bytes : goal.returns-then-announced_length-bytes
unfolding reading_whole
returns-then-announced_length-bytes c =
    let at = goal.at.returns-then-announced_length-bytes c in
    let h = header at.After-unwrap-header in
    let five = ne_eqb _ _ (λ e. c.if-announced_length-bytes.true (c.announced_length.ensures ∙ h.announced ∙ e)) in
    rw (c.at-then-announced_length-bytes.ensures, whole at.In_ok-judge_heading h, five)

pub addressing_of-requires : goal.addressing_of-requires
addressing_of-requires c =
    let at = goal.at.addressing_of-requires c in
    let h = header at.After-unwrap-header in
    let p = heading_passed c.args.bytes.now (sym h.heading ∙ sym c.in_ok-judge_heading.ensures) in
    let size = v_is at.After-from-v h in
    let l = announced_is_length at.Else-announced_length-bytes h in
    (omega (arith, announced_is c.args.bytes.now), λ n. rw size (size_least _ p.size (λ z. n (size ∙ z))))

pub overflow_sub-body : goal.overflow_sub-body
overflow_sub-body c =
    let at = goal.at.overflow_sub-body c in
    let h = header at.After-unwrap-header in
    let size = v_is at.After-from-v h in
    let l = announced_is_length at.Else-announced_length-bytes h in
    omega (arith, announced_is c.args.bytes.now)

pub returns-in_err-addressing : goal.returns-in_err-addressing
unfolding reading_whole
returns-in_err-addressing c =
    let at = goal.at.returns-in_err-addressing c in
    let h = header at.After-unwrap-header in
    let p = err_from_is_err_and c.from_residual-in_err-addressing.result c.from_residual-in_err-addressing.ensures.1 in
    let six = broken _ _ _ _ c.in_err-addressing.ensures in
    let l = announced_is_length at.Else-announced_length-bytes h in
    rw (p.1, p.2, whole at.In_ok-judge_heading h, eq-eqb _ _ l, ← v_is at.After-from-v h, six.0) (ap refused six.1)

pub returns-in_err-integrity : goal.returns-in_err-integrity
unfolding reading_whole
returns-in_err-integrity c =
    let at = goal.at.returns-in_err-integrity c in
    let s = c.args.bytes.now in
    let h = header at.After-unwrap-header in
    let p = err_from_is_err_and c.from_residual-in_err-integrity.result c.from_residual-in_err-integrity.ensures.1 in
    let l = announced_is_length at.Else-announced_length-bytes h in
    let place : length s - field_size ≡ field_place s = omega (arith, announced_is s) in
    let seven = broken _ _ _ _ c.in_err-integrity.ensures in
    rw (p.1, p.2, whole at.In_ok-judge_heading h, eq-eqb _ _ l, (addresses_kept at.In_ok-addressing h).0, sym (tried at.After-integrity_of h place).0 ∙ seven.0)
    (ap refused seven.1 ∙ (λ i. refused_by 7 (place i)))

pub returns : goal.returns
unfolding reading_whole fields_of
returns c =
    let at = goal.at.returns c in
    let s = c.args.bytes.now in
    let h = header at.After-unwrap-header in
    let l = announced_is_length at.Else-announced_length-bytes h in
    let v = v_is at.After-from-v h in
    let place : length s - field_size ≡ field_place s = omega (arith, announced_is s) in
    let size : length s - field_size - (header_size + c.from-v.result) ≡ data_length s = omega (arith, announced_is s) in
    let six = addresses_kept at.In_ok-addressing h in
    let t = tried at.After-integrity_of h place in
    let k = kept _ _ _ _ c.in_ok-integrity.ensures in
    rw (c.new.ensures, whole at.In_ok-judge_heading h, eq-eqb _ _ l, six.0, sym t.0 ∙ k.0)
    (λ i.
    accepted
    (record {
      header = (c.header_of.ensures ∙ h.fields) i;
      addressing = six.1 i;
      body = record { place = header_size + v i; size = size i };
      integrity = (k.1 ∙ t.1) i;
    }))
