-- K5 in cases about the definition: the bytes, the rules that are broken with their places, and those that are not judged.
-- M and C are the messages of the starred cases. The checker computes every line, in proofs/JudgeCases.
use Rattle.std.specs.Prelude.{ℕ, List, [], ◌∷◌, ◌++◌, map, ◌≡◌, take, set, replicate}
use Rattle.sum.specs.Vectors.{digits}
use Rattle.envelope.specs.Fields.{Refusal, refusal_by}
use Rattle.judge.specs.Division.{divided}
use Rattle.judge.specs.Rules.{RuleAnswer, kept, broken, not_judged, RuleAnswers, judging, broken_rules}
use Rattle.sheet.specs.Cases.{M, C}

pub record JudgeCase : Type 0 where
  pub bytes : List ℕ
  pub broken : List Refusal
  pub unjudged : List ℕ

abbrev case : List ℕ → List Refusal → List ℕ → JudgeCase
case s refusals rest = record { bytes = s; broken = refusals; unjudged = rest }

-- the rules as they are broken: 1 and 7 at a place that goes by the message, the others at their own
abbrev short : ℕ → Refusal
short n = refusal_by 1 n

abbrev version : Refusal
version = refusal_by 2 0

abbrev flags : Refusal
flags = refusal_by 3 4

abbrev size : Refusal
size = refusal_by 4 16

abbrev whole : Refusal
whole = refusal_by 5 5

abbrev addresses : Refusal
addresses = refusal_by 6 21

abbrev field : ℕ → Refusal
field place = refusal_by 7 place

-- to list the rules that were not judged: these alone count as broken
abbrev unjudged_alone : RuleAnswer → RuleAnswer
unjudged_alone kept = kept
unjudged_alone (broken place) = kept
unjudged_alone not_judged = broken 0

abbrev unjudged_rules : RuleAnswers → List ℕ
unjudged_rules j =
    map (λ (r : Refusal). r.number)
    (broken_rules
    (record {
      least = unjudged_alone j.least;
      version = unjudged_alone j.version;
      flags = unjudged_alone j.flags;
      variable_size = unjudged_alone j.variable_size;
      length = unjudged_alone j.length;
      addresses = unjudged_alone j.addresses;
      integrity = unjudged_alone j.integrity;
    }))

abbrev told_case : List ℕ → JudgeCase
told_case bytes = case bytes (broken_rules (judging bytes)) (unjudged_rules (judging bytes))

-- M with this V, TTL 120 and QoS 0, these address bytes, and what stands behind them
abbrev addressed : ℕ → List ℕ → List ℕ → List ℕ
addressed v addresses behind = take 16 M ++ (v ∷ 0 ∷ 120 ∷ 0 ∷ 0 ∷ []) ++ addresses ++ behind

abbrev zeros : List ℕ
zeros = 0 ∷ 0 ∷ 0 ∷ 0 ∷ []

-- V 133 and as many bytes, all letters
abbrev pub with_v133 : List ℕ
with_v133 = addressed 133 (replicate 129 0x41) zeros

abbrev pub judge_cases : List JudgeCase
judge_cases =
    case M [] (6 ∷ [])
    -- as far as the bytes reach: none, byte 0, byte 4 not, byte 4, up to byte 15, up to byte 16, one too few
    ∷ case [] (short 0 ∷ []) (2 ∷ 3 ∷ 4 ∷ 5 ∷ 6 ∷ 7 ∷ [])
    ∷ case (3 ∷ []) (short 1 ∷ version ∷ []) (3 ∷ 4 ∷ 5 ∷ 6 ∷ 7 ∷ [])
    ∷ case (take 4 (set M 4 0x20)) (short 4 ∷ []) (3 ∷ 4 ∷ 5 ∷ 6 ∷ 7 ∷ [])
    ∷ case (take 5 (set M 4 0x20)) (short 5 ∷ flags ∷ []) (4 ∷ 5 ∷ 6 ∷ 7 ∷ [])
    ∷ case (take 16 M) (short 16 ∷ []) (4 ∷ 5 ∷ 6 ∷ 7 ∷ [])
    ∷ case (take 17 M) (short 17 ∷ whole ∷ []) (6 ∷ 7 ∷ [])
    ∷ case (take 20 M) (short 20 ∷ whole ∷ []) (6 ∷ 7 ∷ [])
    -- each by itself
    ∷ case (set M 0 3) (version ∷ []) (6 ∷ [])
    ∷ case (set M 4 0x18) (flags ∷ []) (6 ∷ [])
    ∷ case (set M 4 0x20) (flags ∷ []) (6 ∷ [])
    ∷ case (set M 20 1) (field 17 ∷ []) (6 ∷ [])
    -- V 5: rule 6 is for 6 to 132, and the four bytes from place 22 are not there
    ∷ case (set M 16 5) (size ∷ whole ∷ []) (6 ∷ 7 ∷ [])
    -- V 5 with all its bytes: rule 7 is judged
    ∷ case (addressed 5 (0x41 ∷ []) (0 ∷ 0 ∷ 0 ∷ 1 ∷ [])) (size ∷ field 22 ∷ []) (6 ∷ [])
    -- V 6, of which the addresses have two zeros alone; V 132 and 133, all letters
    ∷ case (addressed 6 (0 ∷ 0 ∷ []) zeros) [] []
    ∷ case (addressed 132 (replicate 128 0x41) zeros) (addresses ∷ []) []
    ∷ case with_v133 (size ∷ []) (6 ∷ [])
    -- one byte too many: the field is still that from place 17, and not the last four
    ∷ case (M ++ (1 ∷ [])) (whole ∷ []) (6 ∷ [])
    ∷ case (set M 20 1 ++ (0 ∷ [])) (whole ∷ field 17 ∷ []) (6 ∷ [])
    -- unassigned flags, kind none by bits 3 and 4: rule 7 looks at these alone
    ∷ case (set (set M 4 0x20) 20 1) (flags ∷ field 17 ∷ []) (6 ∷ [])
    -- an application's field, and one of the unassigned kind, may hold anything
    ∷ case (set (set M 4 0x10) 20 1) [] (6 ∷ [])
    ∷ case (set (set M 4 0x18) 20 1) (flags ∷ []) (6 ∷ [])
    ∷ case (addressed 7 (0x41 ∷ 0 ∷ 0 ∷ []) zeros) [] []
    ∷ case (addressed 7 (0x41 ∷ 0x41 ∷ 0 ∷ []) zeros) (addresses ∷ []) []
    -- the addresses are there, the field is not; then the addresses are not all there
    ∷ case (addressed 7 (0x41 ∷ 0x41 ∷ 0 ∷ []) []) (whole ∷ addresses ∷ []) (7 ∷ [])
    ∷ case (addressed 7 (0x41 ∷ 0x41 ∷ []) []) (whole ∷ []) (6 ∷ 7 ∷ [])
    -- as many at once as can be, with rule 1 and without
    ∷ case (take 17 (set (set (set M 0 3) 4 0x20) 16 5)) (short 17 ∷ version ∷ flags ∷ size ∷ whole ∷ []) (6 ∷ 7 ∷ [])
    ∷ case (set (set (addressed 7 (0x41 ∷ 0x41 ∷ 0 ∷ []) (0 ∷ 0 ∷ 0 ∷ 1 ∷ 0 ∷ [])) 0 3) 4 0x20) (version ∷ flags ∷ whole ∷ addresses ∷ field 24 ∷ []) []
    ∷ []

abbrev pub JudgedCases : Type 0
JudgedCases = map (λ (c : JudgeCase). told_case c.bytes) judge_cases ≡ judge_cases

-- kind CRC: the field holds what division finds, one bit of it changed, and a byte behind it
pub record CrcCases : Type 0 where
  pub check_value : divided digits ≡ 0xCBF43926
  pub found : divided (take 19 C) ≡ 0xD9299F95
  pub field_holds : broken_rules (judging C) ≡ []
  pub field_does_not : broken_rules (judging (set C 22 0x94)) ≡ field 19 ∷ []
  pub byte_behind_lem : broken_rules (judging (C ++ (0 ∷ []))) ≡ whole ∷ []
