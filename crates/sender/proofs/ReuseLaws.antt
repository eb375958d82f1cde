-- A COMMID that was settled or failed is free again; a submission more changes no other; and a fate that is over stays.
-- The last two are laws of reading, about any lines whatever.
use Prim.Native.Nat.{ℕ, ◌≤◌, ◌<◌}
use mathlib.Core.Bool.{Bool, true, false, cond, ◌||◌, true≢false}
use mathlib.Core.List.{List, [], ◌∷◌, ◌++◌}
use mathlib.Core.Path.{◌≡◌, refl, ap, sym, ◌∙◌, subst}
use lib.Dec.{eqb}
use lib.ListN.{length}
use native.Mathlib.Omega.{arith}
use borrow.Author.Tests.{lt-leb, eqb-true, clash}
use Rattle.sender.specs.Accounts.{in_slot}
use Rattle.sender.specs.History.{Line, line, Fate, waiting, in_flight, acknowledged, failed, commid_of, is_settled_by, is_failed_by, goes_out_by, fate, Submission, submission, accepted, submissions, final}
use Rattle.sender.specs.Queue.{Slot, empty, holds, Queue, queue, empty_bench, Event, submit, Reply, sent, waits, settles, again, fails, refused, Outcome, among, known, placed, freed, submitting, answering}
use Rattle.sender.specs.Reuse.{accepts, ends, UsableAtOnce, UsableLater, fate_at_first, IsNew, is_over, AllStay, FatesStay}
use Rattle.sender.proofs.AccountLaws.{accounts}
use Rattle.sender.proofs.CaseLaws.{Cases, each_case}
use Rattle.sender.proofs.BoundLaws.{never_more}
use Rattle.sender.proofs.StandingLaws.{Distinct, Good, fine}
use Rattle.sender.proofs.AmongLaws.{among_nil}

-- ---- a COMMID that is not known is accepted, while there is room

placed_accepts : (x n : ℕ) (s : Slot) (ws : List ℕ) → accepts (placed x n s ws).reply ≡ true
placed_accepts x n empty ws = refl
placed_accepts x n (holds y k) ws = refl

submit_accepts : (x : ℕ) (q : Queue) → length q.waiting < 16 → among x (known q.slot q.waiting) ≡ false
    → accepts (answering (submit x) q).reply ≡ true
unfolding submitting
submit_accepts x q h a = rw (lt-leb 16 (length q.waiting) h, a) (placed_accepts x q.resends q.slot q.waiting)

-- ---- at once

freed_accepts : (n y : ℕ) (ws : List ℕ) (x : ℕ) → Distinct (y ∷ ws) → length ws ≤ 16 → x ≡ y → accepts (answering (submit x) (freed n ws)).reply ≡ true
freed_accepts n y [] x d h p = submit_accepts x (freed n []) (omega arith) (among_nil x)
freed_accepts n y (w ∷ ws) x d h p =
    submit_accepts x (freed n (w ∷ ws)) (omega arith) (ap (λ (v : ℕ). among v (w ∷ ws)) p ∙ d.0)

abbrev Usable : Event → Outcome → Type 0
Usable e o = ends o.reply ≡ true → accepts (answering (submit (commid_of e)) o.after).reply ≡ true

placed_usable : (e : Event) (x n : ℕ) (s : Slot) (ws : List ℕ) → Usable e (placed x n s ws)
placed_usable e x n empty ws h = absurd (clash h)
placed_usable e x n (holds y k) ws h = absurd (clash h)

usable_cases : (n : ℕ) (s : Slot) (ws : List ℕ) → Good s ws → length ws ≤ 16 → Cases n s ws Usable
usable_cases n empty ws g l =
    record {
      refused = λ e k meets h. absurd (clash h);
      placed = λ x room new. placed_usable (submit x) x n empty ws;
      settled = λ e here. absurd (clash here);
      failed = λ e here none. absurd (clash here);
      again = λ e here some. absurd (clash here);
    }
usable_cases n (holds y k) ws g l =
    record {
      refused = λ e k' meets h. absurd (clash h);
      placed = λ x room new. placed_usable (submit x) x n (holds y k) ws;
      settled = λ e here h. freed_accepts n y ws (commid_of e) g l (eqb-true (commid_of e) y here);
      failed = λ e here none h. freed_accepts n y ws (commid_of e) g l (eqb-true (commid_of e) y here);
      again = λ e here some h. absurd (clash h);
    }

usable : (n : ℕ) (s : Slot) (ws : List ℕ) → Good s ws → length ws ≤ 16 → (e : Event) → Usable e (answering e (queue n s ws))
usable n s ws g l e = each_case n s ws Usable (usable_cases n s ws g l) e

good_at_end : (n : ℕ) (s : Slot) (ws : List ℕ) → Good s ws → (es : List Event) → Good (final (queue n s ws) es).slot (final (queue n s ws) es).waiting
unfolding final
good_at_end n s ws g [] = g
good_at_end n s ws g (e ∷ es) =
    let m = answering e (queue n s ws) in
    good_at_end m.after.resends m.after.slot m.after.waiting (fine n s ws g e).good es

pub usable_at_once : UsableAtOnce
usable_at_once n es e =
    let q = final (empty_bench n) es in
    usable q.resends q.slot q.waiting (good_at_end n empty [] refl es) (never_more n es) e

-- ---- later

known_apart : (x : ℕ) (s : Slot) (ws : List ℕ) → among x ws ≡ false → among x (in_slot s) ≡ false → among x (known s ws) ≡ false
unfolding among
known_apart x empty ws a b = a
known_apart x (holds y k) ws a b = go (eqb x y) refl where
  go : (c : Bool) → eqb x y ≡ c → (eqb x y || among x ws) ≡ false
  go true e = let z : true ≡ false = sym (rw e refl) ∙ b in absurd (true≢false z)
  go false e = rw e a

pub usable_later : UsableLater
usable_later n es x a b l =
    let q = final (empty_bench n) es in
    let r = accounts n es in
    submit_accepts x q (subst (λ (ws : List ℕ). length ws < 16) r.now_waiting l)
    (known_apart x q.slot q.waiting (ap (among x) (sym r.now_waiting) ∙ a) (ap (among x) (sym r.now_in_flight) ∙ b))

-- ---- a submission more

or_none_lem : (b : Bool) → (b || false) ≡ b
or_none_lem true = refl
or_none_lem false = refl

fate_at_end : (x : ℕ) (out : Bool) (y : ℕ) (r : Reply) → accepts r ≡ true → fate x out (line (submit y) r ∷ []) ≡ fate x out []
unfolding fate
fate_at_end x out y sent h = ap (λ (b : Bool). cond b in_flight waiting) (or_none_lem out)
fate_at_end x out y waits h = ap (λ (b : Bool). cond b in_flight waiting) (or_none_lem out)
fate_at_end x out y (settles o) h = absurd (true≢false (sym h))
fate_at_end x out y again h = absurd (true≢false (sym h))
fate_at_end x out y (fails o) h = absurd (true≢false (sym h))
fate_at_end x out y (refused k) h = absurd (true≢false (sym h))

fate_same : (x : ℕ) (out : Bool) (ls : List Line) (y : ℕ) (r : Reply) → accepts r ≡ true → fate x out (ls ++ (line (submit y) r ∷ [])) ≡ fate x out ls
unfolding fate
fate_same x out [] y r h = fate_at_end x out y r h
fate_same x out (l ∷ ls) y r h =
    ap (λ (f : Fate). cond (is_settled_by x l.event l.reply) acknowledged (cond (is_failed_by x l.event l.reply) failed f))
    (fate_same x (out || goes_out_by x l.reply) ls y r h)

accepted_same : (x : ℕ) (r : Reply) (ls ls' : List Line) (ms last : List Submission) → ((out : Bool) → fate x out ls' ≡ fate x out ls)
    → accepted x r ls' (ms ++ last) ≡ accepted x r ls ms ++ last
accepted_same x sent ls ls' ms last h = ap (λ (f : Fate). submission x f ∷ (ms ++ last)) (h true)
accepted_same x waits ls ls' ms last h = ap (λ (f : Fate). submission x f ∷ (ms ++ last)) (h false)
accepted_same x (settles o) ls ls' ms last h = refl
accepted_same x again ls ls' ms last h = refl
accepted_same x (fails o) ls ls' ms last h = refl
accepted_same x (refused k) ls ls' ms last h = refl

new_alone : (x : ℕ) (r : Reply) → accepts r ≡ true → accepted x r [] [] ≡ submission x (fate_at_first r) ∷ []
unfolding fate
new_alone x sent h = refl
new_alone x waits h = refl
new_alone x (settles o) h = absurd (true≢false (sym h))
new_alone x again h = absurd (true≢false (sym h))
new_alone x (fails o) h = absurd (true≢false (sym h))
new_alone x (refused k) h = absurd (true≢false (sym h))

pub is_new : IsNew
unfolding submissions
is_new [] x r h = new_alone x r h
is_new (l ∷ ls) x r h =
    ap (accepted (commid_of l.event) l.reply (ls ++ (line (submit x) r ∷ []))) (is_new ls x r h)
    ∙ accepted_same (commid_of l.event) l.reply ls (ls ++ (line (submit x) r ∷ [])) (submissions ls) (submission x (fate_at_first r) ∷ [])
    (λ out. fate_same (commid_of l.event) out ls x r h)

-- ---- a fate that is over stays

over_by : (a b : Bool) (f g : Fate) → (is_over g ≡ true → f ≡ g) → is_over (cond a acknowledged (cond b failed g)) ≡ true
    → cond a acknowledged (cond b failed f) ≡ cond a acknowledged (cond b failed g)
over_by true b f g k h = refl
over_by false true f g k h = refl
over_by false false f g k h = k h

not_over : (out : Bool) → is_over (cond out in_flight waiting) ≡ true → ⊥
not_over true h = true≢false (sym h)
not_over false h = true≢false (sym h)

fate_stays : (x : ℕ) (out : Bool) (ls later : List Line) → is_over (fate x out ls) ≡ true → fate x out (ls ++ later) ≡ fate x out ls
unfolding fate
fate_stays x out [] later h = absurd (not_over out h)
fate_stays x out (l ∷ ls) later h =
    over_by (is_settled_by x l.event l.reply) (is_failed_by x l.event l.reply)
    (fate x (out || goes_out_by x l.reply) (ls ++ later)) (fate x (out || goes_out_by x l.reply) ls)
    (fate_stays x (out || goes_out_by x l.reply) ls later) h

accepted_stay : (x : ℕ) (r : Reply) (ls later : List Line) (ms ms' : List Submission) → AllStay ms ms' → AllStay (accepted x r ls ms) (accepted x r (ls ++ later) ms')
accepted_stay x sent ls later ms ms' h = ((refl, fate_stays x true ls later), h)
accepted_stay x waits ls later ms ms' h = ((refl, fate_stays x false ls later), h)
accepted_stay x (settles o) ls later ms ms' h = h
accepted_stay x again ls later ms ms' h = h
accepted_stay x (fails o) ls later ms ms' h = h
accepted_stay x (refused k) ls later ms ms' h = h

pub fates_stay : FatesStay
unfolding submissions
fates_stay [] later = tt
fates_stay (l ∷ ls) later = accepted_stay (commid_of l.event) l.reply ls later (submissions ls) (submissions (ls ++ later)) (fates_stay ls later)
