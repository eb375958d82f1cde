-- The meaning of the one private helper of `lowest`. Nothing that a public promise says is defined here.
-- A rule's refusal, where it is broken.
use Rattle.std.specs.Prelude.{Option, Some, None}
use Rattle.envelope.specs.declared.reader.Fault.{Fault}
use Rattle.envelope.specs.declared.reader.Refusal.{Refusal}
use Rattle.judge.specs.declared.judging.Verdict.{Verdict}
use Rattle.judge.specs.declared.judging.Verdict.TheVariants.{Kept, Broken, NotJudged}

abbrev pub refused_as : Verdict → Fault → Option Refusal
refused_as Kept fault = None
refused_as (Broken place) fault = Some (record { fault = fault; place = place })
refused_as NotJudged fault = None
