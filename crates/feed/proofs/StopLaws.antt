-- After a refusal, at the end, and with an empty piece: where the outcome is known whole, one answer alone is left.
-- That a refusal which is told stands from then on goes byte by byte.
use mathlib.Core.List.{List, [], ◌∷◌}
use mathlib.Core.Path.{◌≡◌, refl, ap, sym, ◌∙◌, subst}
use Prim.Native.Nat.{ℕ, zero, suc}
use native.Mathlib.Omega.{arith}
use Rattle.std.specs.Prelude.{None, Ok, Err}
use Rattle.feed.specs.Feeding.{Stand, inside, whole, refused, State, begun_by, begun, Finding, nothing, FeedOutcome, closing, finding_by, standing, still, further_by, taking, ending, end_by}
use Rattle.feed.specs.Stopping.{RefusalIsKept, RefusalIsTold, EndIsKept, RefusalStands, RestartIsNew, EmptyPiece, EndBetween, EndInside}
use Rattle.feed.specs.Told.{told_feed_refusal, told_standing, told_feed, told_found, told_taken, told_ended}
use Rattle.feed.specs.Verdict.{FeedRefusal, Verdict, more, complete, refused}
use Rattle.feed.specs.declared.refusal.Refusal.TheVariants.{Cut}
use Rattle.feed.specs.declared.step.Standing.TheVariants.{Refused}
use Rattle.feed.proofs.OnlyLaws.{untold_standing_lem, untold_standing, untold_found, untold_found_lem, untold_feed_refusal_lem, same_feed, only_fresh, only_takes, only_ends}
use Rattle.feed.proofs.RunLaws.{Byte, repeats, goes_in, byte}
use Rattle.feed.proofs.StandLaws.{still_as, refused_takes, end_none, end_some}
use Rattle.feed.proofs.TakingLaws.{taking_nil, taking_cons}

-- ---- a refusal that is told stands

abbrev pub Stands : FeedOutcome → FeedRefusal → Type 0
Stands o f = o.finding ≡ refused f → o.state.stand ≡ refused f

pub still_stands : (s : State) (f : FeedRefusal) → Stands (still s) f
still_stands s f = go s.stand refl
  where
    go : (t : Stand) → s.stand ≡ t → standing s.stand ≡ refused f → s.stand ≡ refused f
    go inside e r = cc (ap standing e)
    go whole e r = cc (ap standing e)
    go (refused g) e r = cc (ap standing e)

closing_stands : (v : Verdict) (k : List ℕ) (n : ℕ) (f : FeedRefusal) (later : FeedOutcome) → Stands later f
    → Stands (further_by (finding_by v n) (closing v k n 1) later) f
closing_stands more k n f later h = h
closing_stands (complete g) k n f later h = λ e. cc
closing_stands (refused g) k n f later h = λ e. cc

pub taking_stands : (piece : List ℕ) (s : State) (f : FeedRefusal) → Stands (taking s piece) f
taking_stands [] s f = rw (taking_nil s) (still_stands s f)
taking_stands (x ∷ l) s f = go (λ t. taking_stands l t f) (byte s x)
  where
    go : ((t : State) → Stands (taking t l) f) → Byte s x → Stands (taking s (x ∷ l)) f
    go later (repeats g e b) = rw (← refused_takes s g (x ∷ l) e) (still_stands s f)
    go later (goes_in v q b o) = rw (taking_cons s x l _ b) (closing_stands v _ _ f _ (later _))

end_stands : (t : Stand) (m : ℕ) (s : State) (f : FeedRefusal) → Stands (end_by t m s) f
end_stands inside zero s f = still_stands s f
end_stands inside (suc n) s f = λ e. cc
end_stands whole m s f = still_stands s f
end_stands (refused g) m s f = still_stands s f

pub ending_stands : (s : State) (f : FeedRefusal) → Stands (ending s) f
unfolding ending
ending_stands s f = end_stands s.stand (begun s) s f

pub refusal_is_kept : RefusalIsKept
refusal_is_kept f fault piece t p e =
    let stands : Stands (told_taken t) (told_feed_refusal fault) =
    subst (λ (o : FeedOutcome). Stands o (told_feed_refusal fault)) (sym p) (taking_stands piece (told_feed f) (told_feed_refusal fault)) in
    sym (untold_standing_lem t.feed.beside.standing) ∙ ap untold_standing (stands (ap told_found e)) ∙ ap Refused (untold_feed_refusal_lem fault)

pub end_is_kept : EndIsKept
end_is_kept f fault t p e =
    let stands : Stands (told_ended t) (told_feed_refusal fault) =
    subst (λ (o : FeedOutcome). Stands o (told_feed_refusal fault)) (sym p) (ending_stands (told_feed f) (told_feed_refusal fault)) in
    sym (untold_standing_lem t.feed.beside.standing) ∙ ap untold_standing (stands (ap told_found e)) ∙ ap Refused (untold_feed_refusal_lem fault)

-- ---- and one that stands was told

abbrev Tells : FeedOutcome → FeedRefusal → Type 0
Tells o f = o.state.stand ≡ refused f → o.finding ≡ refused f

closing_tells : (v : Verdict) (k : List ℕ) (n : ℕ) (f : FeedRefusal) (later : FeedOutcome) → Tells later f
    → Tells (further_by (finding_by v n) (closing v k n 1) later) f
closing_tells more k n f later h = h
closing_tells (complete g) k n f later h = λ e. cc
closing_tells (refused g) k n f later h = λ e. ap standing e

taking_tells : (piece : List ℕ) (s : State) (f : FeedRefusal) → Tells (taking s piece) f
taking_tells [] s f = rw (taking_nil s) (λ e. ap standing e)
taking_tells (x ∷ l) s f = go (λ t. taking_tells l t f) (byte s x)
  where
    go : ((t : State) → Tells (taking t l) f) → Byte s x → Tells (taking s (x ∷ l)) f
    go later (repeats g e b) = rw (← refused_takes s g (x ∷ l) e) (λ z. ap standing z)
    go later (goes_in v q b o) = rw (taking_cons s x l _ b) (closing_tells v _ _ f _ (later _))

pub refusal_is_told : RefusalIsTold
refusal_is_told f fault piece t p e =
    let tells : Tells (told_taken t) (told_feed_refusal fault) =
    subst (λ (o : FeedOutcome). Tells o (told_feed_refusal fault)) (sym p) (taking_tells piece (told_feed f) (told_feed_refusal fault)) in
    sym (untold_found_lem t.found) ∙ ap untold_found (tells (ap told_standing e)) ∙ ap Err (untold_feed_refusal_lem fault)

-- ---- while it stands

pub refusal_stands : RefusalStands
refusal_stands f fault piece t e r p q =
    let stands : told_standing f.beside.standing ≡ refused (told_feed_refusal fault) = ap told_standing r in
    let repeated = still_as (told_feed f) (refused (told_feed_refusal fault)) stands in (
      only_takes f piece t (record { feed = f; used = 0; found = Err fault }) p (sym repeated ∙ refused_takes (told_feed f) (told_feed_refusal fault) piece stands),
      only_ends f e (record { feed = f; found = Err fault }) q (sym repeated ∙ sym (end_none (told_feed f) (ap (λ (t : Stand). begun_by t f.beside.count) stands))),
    )

pub restart_is_new : RestartIsNew
restart_is_new = only_fresh

pub empty_piece : EmptyPiece
empty_piece f t p =
    let e : told_taken t ≡ still (told_feed f) = p ∙ taking_nil (told_feed f) in
    (same_feed t.feed f (ap (λ (o : FeedOutcome). o.state) e), ap (λ (o : FeedOutcome). o.used) e, ap (λ (o : FeedOutcome). o.finding) e)

-- ---- the end

end_nothing : (s : State) → standing s.stand ≡ nothing → begun s ≡ 0 → ending s ≡ record { state = s; used = 0; finding = nothing }
end_nothing s g z = end_none s z ∙ ap (λ (f : Finding). record { state = s; used = 0; finding = f }) g

pub ends_between : EndBetween
ends_between f e p w = only_ends f e (record { feed = f; found = Ok None }) p (sym (end_nothing (told_feed f) w.going w.none))

pub ends_inside : EndInside
ends_inside f e p h =
    only_ends f e (record { feed = record { kept = f.kept; beside = record { count = f.beside.count; standing = Refused Cut } }; found = Err Cut }) p
    (sym (end_some (told_feed f) (λ z. absurd (omega arith))))
