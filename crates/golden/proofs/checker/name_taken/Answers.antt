-- `checker::name_taken`: one of the records seen has the name; or where no bucket was used, none has.
use mathlib.Core.Path.{◌∙◌}
use native.Mathlib.Omega.{arith}
use Rattle.std.proofs.Common.{rules, tests}
use Rattle.std.proofs.lemmas.Iterator.{YieldsList-from_range}
use Rattle.std.proofs.lemmas.Iterator.Search.{any_from_yields_List}
use Rattle.golden.proofs.PairingLaws.{any_of_range}
use Rattle.golden.specs.File.{record_at}
use Rattle.golden.specs.Finding.{told_name}
use Rattle.golden.specs.Helpers.{is_written}
use Rattle.golden.proofs.checker.name_taken.Goals as goal

pub returns-then-used : goal.returns-then-used
returns-then-used c =
    let n = c.args.end in
    any_from_yields_List (λ k. is_written (told_name c.args.name) (record_at c.args.file.now k)) _ _ c.any.result c.any.ensures.ran (YieldsList-from_range 0 n n (cc) (omega arith)) (λ x b q k. search (rules, tests))
    ∙ any_of_range (λ k. is_written (told_name c.args.name) (record_at c.args.file.now k)) n
