-- What a call of the feed uses of a piece, where it does not refuse: a byte at least, and no more than there is.
-- Rests on the laws that `feed` exports.
use Rattle.std.proofs.Common.{◌≡◌, ℕ, ◌<◌, ◌≤◌, List, length, Option, Some, None, Ok, sym, refl, ap, ◌∙◌}
use Rattle.feed.proofs.StandLaws.{refused_takes}
use Rattle.feed.proofs.UseLaws.{uses_bytes}
use Rattle.feed.specs.Feeding.{FeedOutcome, refused, standing}
use Rattle.feed.specs.Told.{told_feed_refusal, told_standing, told_found, state_of, Advances}
use Rattle.feed.specs.Verdict.{FeedRefusal}
use Rattle.feed.specs.declared.feeder.Taken.{Taken}
use Rattle.feed.specs.declared.step.Beside.{Beside}
use Rattle.feed.specs.declared.step.Message.{Message}
use Rattle.feed.specs.declared.step.Standing.{Standing}
use Rattle.feed.specs.declared.step.Standing.TheVariants.{Inside, Whole, Refused}
use Rattle.feed.specs.declared.step.Step.{Step}

no_refusal : (o : Option Message) (f : FeedRefusal) → told_found (Ok o) ≡ refused f → ⊥
no_refusal None f e = cc
no_refusal (Some m) f e = cc

abbrev as_taken : Step → List ℕ → Taken
as_taken r exit = record { feed = record { kept = exit; beside = r.beside }; used = r.used; found = r.found }

pub gets_on : (kept exit : List ℕ) (b : Beside) (piece : List ℕ) (r : Step) (o : Option Message) → Advances kept b piece r exit → 0 < length piece
    → r.found ≡ Ok o → (0 < r.used) × (r.used ≤ length piece)
gets_on kept exit b piece r o a some e = go b.standing refl
  where
    goes_on : (s : Standing) → b.standing ≡ s → standing (told_standing b.standing) ≡ standing (told_standing s)
    goes_on s q = ap (λ t. standing (told_standing t)) q

    go : (s : Standing) → b.standing ≡ s → (0 < r.used) × (r.used ≤ length piece)
    go Inside q = let u = uses_bytes (record { kept = kept; beside = b }) piece (as_taken r exit) a in (u.some (goes_on Inside q) some, u.within)
    go Whole q = let u = uses_bytes (record { kept = kept; beside = b }) piece (as_taken r exit) a in (u.some (goes_on Whole q) some, u.within)
    go (Refused f) q =
        let still = refused_takes (state_of kept b) (told_feed_refusal f) piece (ap told_standing q) in
        let found : told_found r.found ≡ standing (told_standing b.standing) = ap (λ (t : FeedOutcome). t.finding) (a ∙ sym still) in
        absurd (no_refusal o (told_feed_refusal f) (sym (ap told_found e) ∙ found ∙ goes_on (Refused f) q))
