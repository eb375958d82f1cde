-- A message that failed was sent once and as often as resends are set, and none more often. By induction on the events, from any good queue:
-- the one in flight is sent again at most as often as it has resends left.
use Prim.Native.Nat.{ℕ, suc, ◌-◌, ◌≤◌}
use mathlib.Core.Path.{◌≡◌, refl, ap, sym, ◌∙◌, subst}
use mathlib.Core.List.{List, [], ◌∷◌, ◌++◌}
use mathlib.Core.Option.{Option}
use mathlib.Core.Bool.{Bool, true, false, cond}
use lib.Dec.{eqb}
use native.Mathlib.Omega.{arith}
use borrow.Author.Tests.{eq-eqb, eqb-true, clash}
use Rattle.envelope.specs.Refusals.{plainly}
use Rattle.sender.specs.Queue.{Slot, empty, holds, queue, Outcome, outcome, refusal, Event, submit, waits, settles, fails, again, refused, among, placed, next, freed, answering}
use Rattle.sender.specs.History.{Line, line, Fate, waiting, in_flight, acknowledged, failed, commid_of, is_next, fate, history}
use Rattle.sender.specs.Sends.{sends, SentSoOften, AllSent, SendsAreCounted}
use Rattle.sender.proofs.CaseLaws.{Cases, each_case}
use Rattle.sender.proofs.StandingLaws.{Distinct, Good, eqb_swap, apart, settled_other, failed_other, settled_own, failed_own, fine}

-- of the one in flight, with k resends left
abbrev Flown : ℕ → Fate → ℕ → Type 0
Flown k waiting c = ⊥
Flown k in_flight c = c ≤ k
Flown k acknowledged c = c ≤ k
Flown k failed c = c ≡ k

-- and with the line that sent it out
flown_sent : (k : ℕ) (f : Fate) (c : ℕ) → Flown k f c → SentSoOften k f (suc c)
flown_sent k waiting c h = absurd h
flown_sent k in_flight c h = (omega arith, omega arith)
flown_sent k acknowledged c h = (omega arith, omega arith)
flown_sent k failed c h = omega arith

flown_again : (k : ℕ) (f : Fate) (c : ℕ) → (k ≡ 0 → ⊥) → Flown (k - 1) f c → Flown k f (suc c)
flown_again k waiting c z h = h
flown_again k in_flight c z h = omega arith
flown_again k acknowledged c z h = omega arith
flown_again k failed c z h = omega arith

flown_by : (k : ℕ) (f g : Fate) (c d : ℕ) → f ≡ g → c ≡ d → Flown k g d → Flown k f c
flown_by k f g c d p q h = rw (p, q) h

sent_by : (n : ℕ) (f g : Fate) (c d : ℕ) → f ≡ g → c ≡ d → SentSoOften n g d → SentSoOften n f c
sent_by n f g c d p q h = rw (p, q) h

abbrev InSlot : Slot → List Line → Type 0
InSlot empty ls = Unit {0}
InSlot (holds y k) ls = Flown k (fate y true ls) (sends y ls)

abbrev InLine : ℕ → List ℕ → List Line → Type 0
InLine n [] ls = Unit {0}
InLine n (w ∷ ws) ls = SentSoOften n (fate w false ls) (sends w ls) × InLine n ws ls

record Held (n : ℕ) (s : Slot) (ws : List ℕ) (ls : List Line) : Type 0 where
  slot : InSlot s ls
  wait : InLine n ws ls
  later : AllSent n ls

record Keeps (n : ℕ) (s : Slot) (ws : List ℕ) (e : Event) (m : Outcome) : Type 0 where
  number : m.after.resends ≡ n
  held : (ls : List Line) → Held n m.after.slot m.after.waiting ls → Held n s ws (line e m.reply ∷ ls)

-- the count, line by line
sends_settled_other : (e : Event) (o : Option ℕ) (v : ℕ) (b : Bool) (ls : List Line) → eqb v (commid_of e) ≡ false → is_next v o ≡ b
    → sends v (line e (settles o) ∷ ls) ≡ cond b (suc (sends v ls)) (sends v ls)
unfolding sends
sends_settled_other e o v true ls p q = rw (p, q)
sends_settled_other e o v false ls p q = rw (p, q)

sends_failed_other : (e : Event) (o : Option ℕ) (v : ℕ) (b : Bool) (ls : List Line) → eqb v (commid_of e) ≡ false → is_next v o ≡ b
    → sends v (line e (fails o) ∷ ls) ≡ cond b (suc (sends v ls)) (sends v ls)
unfolding sends
sends_failed_other e o v true ls p q = rw (p, q)
sends_failed_other e o v false ls p q = rw (p, q)

sends_settled_own : (e : Event) (o : Option ℕ) (v : ℕ) (ls : List Line) → eqb v (commid_of e) ≡ true → sends v (line e (settles o) ∷ ls) ≡ 0
unfolding sends
sends_settled_own e o v ls p = rw p

sends_failed_own : (e : Event) (o : Option ℕ) (v : ℕ) (ls : List Line) → eqb v (commid_of e) ≡ true → sends v (line e (fails o) ∷ ls) ≡ 0
unfolding sends
sends_failed_own e o v ls p = rw p

sends_again_other : (e : Event) (v : ℕ) (ls : List Line) → eqb v (commid_of e) ≡ false → sends v (line e again ∷ ls) ≡ sends v ls
unfolding sends
sends_again_other e v ls p = rw p

sends_again_own : (e : Event) (v : ℕ) (ls : List Line) → eqb v (commid_of e) ≡ true → sends v (line e again ∷ ls) ≡ suc (sends v ls)
unfolding sends
sends_again_own e v ls p = rw p

-- those that wait, past a line that does nothing to them
line_by : (n : ℕ) (ws : List ℕ) (l : Line) (ls : List Line)
    → ((v : ℕ) → SentSoOften n (fate v false ls) (sends v ls) → SentSoOften n (fate v false (l ∷ ls)) (sends v (l ∷ ls))) → InLine n ws ls → InLine n ws (l ∷ ls)
line_by n [] l ls h a = tt
line_by n (w ∷ ws) l ls h a = (h w a.0, line_by n ws l ls h a.1)

line_apart : (n y : ℕ) (ws : List ℕ) (l : Line) (ls : List Line) → among y ws ≡ false
    → ((v : ℕ) → eqb v y ≡ false → SentSoOften n (fate v false ls) (sends v ls) → SentSoOften n (fate v false (l ∷ ls)) (sends v (l ∷ ls))) → InLine n ws ls → InLine n ws (l ∷ ls)
line_apart n y [] l ls d h a = tt
line_apart n y (v ∷ ws) l ls d h a =
    let p = apart y v ws d in
    (h v (eqb_swap y v p.0) a.0, line_apart n y ws l ls p.1 h a.1)

line_apart2 : (n y w : ℕ) (ws : List ℕ) (l : Line) (ls : List Line) → among y ws ≡ false → among w ws ≡ false
    → ((v : ℕ) → eqb v y ≡ false → eqb v w ≡ false → SentSoOften n (fate v false ls) (sends v ls) → SentSoOften n (fate v false (l ∷ ls)) (sends v (l ∷ ls)))
    → InLine n ws ls → InLine n ws (l ∷ ls)
line_apart2 n y w [] l ls d d' h a = tt
line_apart2 n y w (v ∷ ws) l ls d d' h a =
    let p = apart y v ws d in
    let q = apart w v ws d' in
    (h v (eqb_swap y v p.0) (eqb_swap w v q.0) a.0, line_apart2 n y w ws l ls p.1 q.1 h a.1)

line_front : (n x : ℕ) (ws : List ℕ) (ls : List Line) → InLine n (ws ++ (x ∷ [])) ls → InLine n ws ls
line_front n x [] ls a = tt
line_front n x (w ∷ ws) ls a = (a.0, line_front n x ws ls a.1)

line_last : (n x : ℕ) (ws : List ℕ) (ls : List Line) → InLine n (ws ++ (x ∷ [])) ls → SentSoOften n (fate x false ls) (sends x ls)
line_last n x [] ls a = a.0
line_last n x (w ∷ ws) ls a = line_last n x ws ls a.1

-- a refusal
slot_refused : (s : Slot) (e : Event) (k : ℕ) (ls : List Line) → InSlot s ls → InSlot s (line e (refused (plainly k)) ∷ ls)
unfolding fate sends
slot_refused empty e k ls h = tt
slot_refused (holds y j) e k ls h = h

refused_keeps : (n : ℕ) (s : Slot) (ws : List ℕ) (e : Event) (k : ℕ) → Keeps n s ws e (refusal k (queue n s ws))
unfolding fate sends AllSent
refused_keeps n s ws e k =
    record {
      number = refl;
      held = λ ls h. record { slot = slot_refused s e k ls h.slot; wait = line_by n ws (line e (refused (plainly k))) ls (λ v w. w) h.wait; later = h.later };
    }

-- a submission
placed_keeps : (n : ℕ) (s : Slot) (ws : List ℕ) → Good s ws → (x : ℕ) → Keeps n s ws (submit x) (placed x n s ws)
unfolding fate sends AllSent
placed_keeps n empty [] g x =
    record {
      number = refl;
      held = λ ls h. record { slot = tt; wait = tt; later = (flown_sent n (fate x true ls) (sends x ls) h.slot, h.later) };
    }
placed_keeps n empty (w ∷ ws) g x = let z : ◌≡◌ {A = ℕ} 0 1 = cc in absurd (omega (arith, z))
placed_keeps n (holds y k) ws g x =
    record {
      number = refl;
      held = λ ls h.
          record {
            slot = h.slot;
            wait = line_by n ws (line (submit x) waits) ls (λ v w. w) (line_front n x ws ls h.wait);
            later = (line_last n x ws ls h.wait, h.later);
          };
    }

-- the slot falls free
line_freed : (n y : ℕ) (ws : List ℕ) (l : Line) (ls : List Line) → Distinct (y ∷ ws)
    → ((v : ℕ) (b : Bool) → eqb v y ≡ false → is_next v (next ws) ≡ b → fate v false (l ∷ ls) ≡ fate v b ls)
    → ((v : ℕ) (b : Bool) → eqb v y ≡ false → is_next v (next ws) ≡ b → sends v (l ∷ ls) ≡ cond b (suc (sends v ls)) (sends v ls))
    → InSlot (freed n ws).slot ls → InLine n (freed n ws).waiting ls → InLine n ws (l ∷ ls)
line_freed n y [] l ls d f c s a = tt
line_freed n y (w ∷ ws) l ls d f c s a =
    let p = apart y w ws d.0 in
    let q = eqb_swap y w p.0 in (
      sent_by n _ _ _ _ (f w true q (eq-eqb w w refl)) (c w true q (eq-eqb w w refl)) (flown_sent n (fate w true ls) (sends w ls) s),
      line_apart2 n y w ws l ls p.1 d.1.0 (λ v e e' h. sent_by n _ _ _ _ (f v false e e') (c v false e e') h) a,
    )

freed_number : (n : ℕ) (ws : List ℕ) → (freed n ws).resends ≡ n
freed_number n [] = refl
freed_number n (w ∷ ws) = refl

settled_keeps : (n y k : ℕ) (ws : List ℕ) → Distinct (y ∷ ws) → (e : Event) → commid_of e ≡ y → Keeps n (holds y k) ws e (outcome (settles (next ws)) (freed n ws))
unfolding AllSent
settled_keeps n y k ws d e p =
    let away : (v : ℕ) → eqb v y ≡ false → eqb v (commid_of e) ≡ false = λ v q. ap (eqb v) p ∙ q in
    let own : eqb y (commid_of e) ≡ true = eq-eqb y (commid_of e) (sym p) in
    record {
      number = freed_number n ws;
      held = λ ls h.
          record {
            slot = flown_by k _ acknowledged _ 0 (settled_own e (next ws) y ls own) (sends_settled_own e (next ws) y ls own) (omega arith);
            wait = line_freed n y ws (line e (settles (next ws))) ls d (λ v b q r. settled_other e (next ws) v b ls (away v q) r) (λ v b q r. sends_settled_other e (next ws) v b ls (away v q) r) h.slot h.wait;
            later = h.later;
          };
    }

failed_keeps : (n y k : ℕ) (ws : List ℕ) → Distinct (y ∷ ws) → (e : Event) → commid_of e ≡ y → k ≡ 0 → Keeps n (holds y k) ws e (outcome (fails (next ws)) (freed n ws))
unfolding AllSent
failed_keeps n y k ws d e p z =
    let away : (v : ℕ) → eqb v y ≡ false → eqb v (commid_of e) ≡ false = λ v q. ap (eqb v) p ∙ q in
    let own : eqb y (commid_of e) ≡ true = eq-eqb y (commid_of e) (sym p) in
    record {
      number = freed_number n ws;
      held = λ ls h.
          record {
            slot = flown_by k _ failed _ 0 (failed_own e (next ws) y ls own) (sends_failed_own e (next ws) y ls own) (sym z);
            wait = line_freed n y ws (line e (fails (next ws))) ls d (λ v b q r. failed_other e (next ws) v b ls (away v q) r) (λ v b q r. sends_failed_other e (next ws) v b ls (away v q) r) h.slot h.wait;
            later = h.later;
          };
    }

again_same : (e : Event) (v : ℕ) (b : Bool) (ls : List Line) → fate v b (line e again ∷ ls) ≡ fate v b ls
unfolding fate
again_same e v true ls = refl
again_same e v false ls = refl

again_keeps : (n y k x : ℕ) (ws : List ℕ) → Distinct (y ∷ ws) → (e : Event) → x ≡ y → commid_of e ≡ x → (k ≡ 0 → ⊥)
    → Keeps n (holds y k) ws e (outcome again (queue n (holds x (k - 1)) ws))
unfolding AllSent
again_keeps n y k x ws d e p q z =
    let c : commid_of e ≡ y = q ∙ p in
    let away : (v : ℕ) → eqb v y ≡ false → eqb v (commid_of e) ≡ false = λ v r. ap (eqb v) c ∙ r in
    record {
      number = refl;
      held = λ ls h.
          record {
            slot = flown_by k _ (fate y true ls) _ (suc (sends y ls)) (again_same e y true ls) (sends_again_own e y ls (eq-eqb y (commid_of e) (sym c)))
                (flown_again k (fate y true ls) (sends y ls) z (subst (λ (v : ℕ). Flown (k - 1) (fate v true ls) (sends v ls)) p h.slot));
            wait = line_apart n y ws (line e again) ls d.0 (λ v r w. sent_by n _ _ _ _ (again_same e v false ls) (sends_again_other e v ls (away v r)) w) h.wait;
            later = h.later;
          };
    }

-- the events
keep_cases : (n : ℕ) (s : Slot) (ws : List ℕ) → Good s ws → Cases n s ws (Keeps n s ws)
keep_cases n empty ws g =
    record {
      refused = λ e k meets. refused_keeps n empty ws e k;
      placed = λ x room new. placed_keeps n empty ws g x;
      settled = λ e here. absurd (clash here);
      failed = λ e here none. absurd (clash here);
      again = λ e here some. absurd (clash here);
    }
keep_cases n (holds y k) ws g =
    record {
      refused = λ e k' meets. refused_keeps n (holds y k) ws e k';
      placed = λ x room new. placed_keeps n (holds y k) ws g x;
      settled = λ e here. settled_keeps n y k ws g e (eqb-true (commid_of e) y here);
      failed = λ e here none. failed_keeps n y k ws g e (eqb-true (commid_of e) y here) none;
      again = λ e here some. again_keeps n y k (commid_of e) ws g e (eqb-true (commid_of e) y here) refl some;
    }

keeps : (n : ℕ) (s : Slot) (ws : List ℕ) → Good s ws → (e : Event) → Keeps n s ws e (answering e (queue n s ws))
keeps n s ws g e = each_case n s ws (Keeps n s ws) (keep_cases n s ws g) e

-- before any event
line_new : (n : ℕ) (ws : List ℕ) → InLine n ws []
unfolding fate sends
line_new n [] = tt
line_new n (w ∷ ws) = (refl, line_new n ws)

slot_new : (s : Slot) → InSlot s []
unfolding fate sends
slot_new empty = tt
slot_new (holds y k) = omega arith

held_all : (n : ℕ) (s : Slot) (ws : List ℕ) → Good s ws → (es : List Event) → Held n s ws (history (queue n s ws) es)
unfolding history AllSent
held_all n s ws g [] = record { slot = slot_new s; wait = line_new n ws; later = tt }
held_all n s ws g (e ∷ es) =
    let m = answering e (queue n s ws) in
    let k = keeps n s ws g e in
    let h = held_all m.after.resends m.after.slot m.after.waiting (fine n s ws g e).good es in
    k.held (history m.after es) (subst (λ (j : ℕ). Held j m.after.slot m.after.waiting (history m.after es)) k.number h)

pub sends_are_counted : SendsAreCounted
sends_are_counted n es = (held_all n empty [] refl es).later
