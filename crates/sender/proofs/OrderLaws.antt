-- Oldest first: by induction on the events, from any queue in which an empty slot has nothing waiting. Each event moves a COMMID from the front
-- of one list to the end of the list before it, or puts a new one at the end of the last.
use Prim.Native.Nat.{ℕ, ◌-◌}
use mathlib.Core.List.{List, [], ◌∷◌, ◌++◌, append_assoc, append-nil}
use mathlib.Core.Path.{◌≡◌, refl, ap, sym, ◌∙◌}
use borrow.Author.Tests.{eqb-true, clash}
use Rattle.sender.specs.Accounts.{in_slot}
use Rattle.sender.specs.History.{Line, line, commid_of, submissions, history, final}
use Rattle.sender.specs.Order.{commids, went_out, ended, OldestFirst}
use Rattle.sender.specs.Queue.{Slot, empty, holds, Queue, queue, Event, submit, settles, again, fails, Outcome, outcome, refusal, placed, next, freed, answering}
use Rattle.sender.proofs.CaseLaws.{Cases, each_case}
use Rattle.sender.proofs.StandingLaws.{Good, fine}

-- what a line does, before whatever lines follow it: `late` is what waits at the end, `last` what is in flight at the end
record Moves (s : Slot) (ws : List ℕ) (e : Event) (m : Outcome) : Type 0 where
  out : (ls : List Line) (late : List ℕ) → m.after.waiting ++ commids (submissions ls) ≡ went_out ls ++ late
      → ws ++ commids (submissions (line e m.reply ∷ ls)) ≡ went_out (line e m.reply ∷ ls) ++ late
  over : (ls : List Line) (last : List ℕ) → in_slot m.after.slot ++ went_out ls ≡ ended ls ++ last
      → in_slot s ++ went_out (line e m.reply ∷ ls) ≡ ended (line e m.reply ∷ ls) ++ last

refused_moves : (n : ℕ) (s : Slot) (ws : List ℕ) (e : Event) (k : ℕ) → Moves s ws e (refusal k (queue n s ws))
unfolding submissions went_out ended
refused_moves n s ws e k = record { out = λ ls late h. h; over = λ ls last h. h }

placed_moves : (n : ℕ) (s : Slot) (ws : List ℕ) → Good s ws → (x : ℕ) → Moves s ws (submit x) (placed x n s ws)
unfolding submissions went_out ended
placed_moves n empty ws g x =
    record {
      out = λ ls late h.
          ap (λ (l : List ℕ). l ++ (x ∷ commids (submissions ls))) g
          ∙ ap (λ (l : List ℕ). x ∷ l) (ap (λ (l : List ℕ). l ++ commids (submissions ls)) (sym g) ∙ h);
      over = λ ls last h. h;
    }
placed_moves n (holds y k) ws g x =
    record {
      out = λ ls late h. sym (append_assoc ws (x ∷ []) (commids (submissions ls))) ∙ h;
      over = λ ls last h. h;
    }

settled_moves : (n y k : ℕ) (ws : List ℕ) (e : Event) → commid_of e ≡ y → Moves (holds y k) ws e (outcome (settles (next ws)) (freed n ws))
unfolding submissions went_out ended
settled_moves n y k [] e p = record { out = λ ls late h. h; over = λ ls last h. λ i. sym p i ∷ h i }
settled_moves n y k (w ∷ ws) e p = record { out = λ ls late h. ap (λ (l : List ℕ). w ∷ l) h; over = λ ls last h. λ i. sym p i ∷ h i }

failed_moves : (n y k : ℕ) (ws : List ℕ) (e : Event) → commid_of e ≡ y → Moves (holds y k) ws e (outcome (fails (next ws)) (freed n ws))
unfolding submissions went_out ended
failed_moves n y k [] e p = record { out = λ ls late h. h; over = λ ls last h. λ i. sym p i ∷ h i }
failed_moves n y k (w ∷ ws) e p = record { out = λ ls late h. ap (λ (l : List ℕ). w ∷ l) h; over = λ ls last h. λ i. sym p i ∷ h i }

again_moves : (n y k j x : ℕ) (ws : List ℕ) (e : Event) → x ≡ y → Moves (holds y k) ws e (outcome again (queue n (holds x j) ws))
unfolding submissions went_out ended
again_moves n y k j x ws e p =
    record { out = λ ls late h. h; over = λ ls last h. ap (λ (z : ℕ). z ∷ went_out ls) (sym p) ∙ h }

-- the events
move_cases : (n : ℕ) (s : Slot) (ws : List ℕ) → Good s ws → Cases n s ws (Moves s ws)
move_cases n empty ws g =
    record {
      refused = λ e k meets. refused_moves n empty ws e k;
      placed = λ x room new. placed_moves n empty ws g x;
      settled = λ e here. absurd (clash here);
      failed = λ e here none. absurd (clash here);
      again = λ e here some. absurd (clash here);
    }
move_cases n (holds y k) ws g =
    record {
      refused = λ e k' meets. refused_moves n (holds y k) ws e k';
      placed = λ x room new. placed_moves n (holds y k) ws g x;
      settled = λ e here. settled_moves n y k ws e (eqb-true (commid_of e) y here);
      failed = λ e here none. failed_moves n y k ws e (eqb-true (commid_of e) y here);
      again = λ e here some. again_moves n y k (k - 1) (commid_of e) ws e (eqb-true (commid_of e) y here);
    }

moves : (n : ℕ) (s : Slot) (ws : List ℕ) → Good s ws → (e : Event) → Moves s ws e (answering e (queue n s ws))
moves n s ws g e = each_case n s ws (Moves s ws) (move_cases n s ws g) e

-- after any events, from any good queue
record Ordered (s : Slot) (ws : List ℕ) (q : Queue) (ls : List Line) : Type 0 where
  out : ws ++ commids (submissions ls) ≡ went_out ls ++ q.waiting
  over : in_slot s ++ went_out ls ≡ ended ls ++ in_slot q.slot

ordered : (n : ℕ) (s : Slot) (ws : List ℕ) → Good s ws → (es : List Event)
    → Ordered s ws (final (queue n s ws) es) (history (queue n s ws) es)
unfolding history final submissions went_out ended
ordered n s ws g [] = record { out = append-nil ws; over = append-nil (in_slot s) }
ordered n s ws g (e ∷ es) =
    let m = answering e (queue n s ws) in
    let r = ordered m.after.resends m.after.slot m.after.waiting (fine n s ws g e).good es in
    let v = moves n s ws g e in
    record {
      out = v.out (history m.after es) (final m.after es).waiting r.out;
      over = v.over (history m.after es) (in_slot (final m.after es).slot) r.over;
    }

pub oldest_first : OldestFirst
oldest_first n es =
    let r = ordered n empty [] refl es in
    record { out_then_waiting = r.out; ended_then_in_flight = r.over }
