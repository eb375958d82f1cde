-- `file::has_record`: by the count, where there is one.
use Rattle.std.proofs.Common.{rules}
use Rattle.golden.proofs.FileLaws.{has_record_lem}
use Rattle.golden.proofs.file.has_record.Goals as goal

pub returns : goal.returns
returns c = has_record_lem _ _ _ _ _ (λ count p. search rules) c.count.ensures c.is_ok_and.ensures
