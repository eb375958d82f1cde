-- `rewriter::rewrite`: a refusal of reading is passed on, and writing again can only want room.
use Rattle.std.proofs.Common.{◌≡◌, ℕ, sym, ap, rules}
use Rattle.std.specs.Prelude.{Result, Ok, Err}
use Rattle.std.specs.Result.{MatchResult, IsErrAnd}
use Rattle.envelope.proofs.RewriteLaws.{again}
use Rattle.envelope.specs.Writing.{Writes}
use Rattle.envelope.specs.declared.rewriter.RewriteFault.{RewriteFault}
use Rattle.envelope.specs.declared.rewriter.RewriteFault.TheVariants.{NoRoom}
use Rattle.envelope.specs.declared.writer.WriteFault.{WriteFault}
use Rattle.envelope.proofs.rewriter.rewrite.Goals as goal

-- the closure answers want of room, whatever it was given
mapped : (w : Result ℕ WriteFault) (r : Result ℕ RewriteFault) {P : WriteFault → RewriteFault → Type 0} → ((e : WriteFault) (f : RewriteFault) → P e f → f ≡ NoRoom)
    → MatchResult w (λ n. r ≡ Ok n) (λ e. IsErrAnd r (λ f. P e f)) → MatchResult w (λ n. r ≡ Ok n) (λ e. r ≡ Err NoRoom)
mapped (Ok n) r k h = h
mapped (Err e) (Ok n) k h = absurd h
mapped (Err e) (Err f) k h = ap Err (k e f h)

pub returns : goal.returns
returns c =
    let w : Writes _ c.args.buffer.now c.write.result c.write.new.buffer = rw c.given_by.ensures at c.write.ensures in
    again c.args.bytes.now _ c.args.buffer.now _ (λ k. (c.type_inv.bytes k).fits) (sym c.in_ok-envelope.ensures)
    w.1 _ _ (mapped c.write.result c.map_err.result (λ e f p. search rules) c.map_err.ensures.cases) w.0
