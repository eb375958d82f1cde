-- No COMMID stands twice in the queue, and an empty slot has nothing waiting: what every event keeps.
-- With it, one event at a time: the submissions of a history, split into those that the queue already holds and the later ones.
use Prim.Native.Nat.{ℕ, ◌-◌}
use mathlib.Core.Path.{◌≡◌, refl, ap, sym, ◌∙◌}
use mathlib.Core.List.{List, [], ◌∷◌, ◌++◌, append_assoc}
use mathlib.Core.Option.{Option}
use mathlib.Core.Bool.{Bool, true, false}
use lib.Dec.{eqb}
use native.Mathlib.Omega.{arith}
use borrow.Author.Tests.{eq-eqb, ne_eqb, eqb-true, eqb-false, clash}
use Rattle.envelope.specs.Refusals.{plainly}
use Rattle.sender.specs.Queue.{Slot, empty, holds, queue, Outcome, outcome, refusal, Event, submit, Reply, sent, waits, settles, fails, again, refused, among, known, placed, next, freed, answering}
use Rattle.sender.specs.History.{Line, line, acknowledged, failed, Submission, submission, commid_of, is_next, fate, submissions}
use Rattle.envelope.proofs.BoolLaws.{neither}
use Rattle.sender.proofs.CaseLaws.{Cases, each_case}
use Rattle.sender.proofs.AmongLaws.{among_nil}

abbrev pub Distinct : List ℕ → Type 0
Distinct [] = Unit {0}
Distinct (x ∷ xs) = (among x xs ≡ false) × Distinct xs

abbrev pub Good : Slot → List ℕ → Type 0
Good empty ws = ws ≡ []
Good (holds y k) ws = Distinct (y ∷ ws)

-- Bool and among

pub eqb_swap : (x y : ℕ) → eqb x y ≡ false → eqb y x ≡ false
eqb_swap x y e = ne_eqb y x (λ p. eqb-false x y e (sym p))

pub apart : (x y : ℕ) (l : List ℕ) → among x (y ∷ l) ≡ false → (eqb x y ≡ false) × (among x l ≡ false)
unfolding among
apart x y l e = neither (eqb x y) (among x l) e

pub apart_of : (x y : ℕ) (l : List ℕ) → eqb x y ≡ false → among x l ≡ false → among x (y ∷ l) ≡ false
unfolding among
apart_of x y l e f = rw (e, f)

apart_end : (x y : ℕ) (l : List ℕ) → among x l ≡ false → eqb x y ≡ false → among x (l ++ (y ∷ [])) ≡ false
apart_end x y [] e f = apart_of x y [] f (among_nil x)
apart_end x y (z ∷ l) e f =
    let a = apart x z l e in
    apart_of x z (l ++ (y ∷ [])) a.0 (apart_end x y l a.1 f)

distinct_end : (x : ℕ) (l : List ℕ) → Distinct l → among x l ≡ false → Distinct (l ++ (x ∷ []))
distinct_end x [] d e = (among_nil x, tt)
distinct_end x (y ∷ l) d e =
    let a = apart x y l e in
    (apart_end y x l d.0 (eqb_swap x y a.0), distinct_end x l d.1 a.1)

-- The submissions that a queue holds, with the fates that the later lines give them.

abbrev pub olds : List ℕ → List Line → List Submission
olds [] ls = []
olds (w ∷ ws) ls = submission w (fate w false ls) ∷ olds ws ls

abbrev pub old : Slot → List ℕ → List Line → List Submission
old empty ws ls = olds ws ls
old (holds y k) ws ls = submission y (fate y true ls) ∷ olds ws ls

-- what a line ends
abbrev pub with_ended : Event → Reply → List Submission → List Submission
with_ended e sent ms = ms
with_ended e waits ms = ms
with_ended e (settles n) ms = submission (commid_of e) acknowledged ∷ ms
with_ended e again ms = ms
with_ended e (fails n) ms = submission (commid_of e) failed ∷ ms
with_ended e (refused k) ms = ms

-- an event keeps the queue good, and ends at most the submission in flight
pub record Fine (n : ℕ) (s : Slot) (ws : List ℕ) (e : Event) (m : Outcome) : Type 0 where
  pub good : Good m.after.slot m.after.waiting
  pub same : (ls : List Line) → old s ws (line e m.reply ∷ ls) ++ submissions (line e m.reply ∷ ls)
      ≡ with_ended e m.reply (old m.after.slot m.after.waiting ls ++ submissions ls)

olds_same : (ws : List ℕ) (l : Line) (ls : List Line) → ((x : ℕ) → fate x false (l ∷ ls) ≡ fate x false ls) → olds ws (l ∷ ls) ≡ olds ws ls
olds_same [] l ls h = refl
olds_same (w ∷ ws) l ls h = λ i. submission w (h w i) ∷ olds_same ws l ls h i

old_same : (s : Slot) (ws : List ℕ) (l : Line) (ls : List Line) → ((x : ℕ) → fate x true (l ∷ ls) ≡ fate x true ls)
    → ((x : ℕ) → fate x false (l ∷ ls) ≡ fate x false ls) → old s ws (l ∷ ls) ≡ old s ws ls
old_same empty ws l ls g h = olds_same ws l ls h
old_same (holds y k) ws l ls g h = λ i. submission y (g y i) ∷ olds_same ws l ls h i

-- a refusal
refused_fine : (n : ℕ) (s : Slot) (ws : List ℕ) → Good s ws → (e : Event) (k : ℕ) → Fine n s ws e (refusal k (queue n s ws))
unfolding submissions fate
refused_fine n s ws g e k =
    record {
      good = g;
      same = λ ls. ap (λ (ms : List Submission). ms ++ submissions ls) (old_same s ws (line e (refused (plainly k))) ls (λ x. refl) (λ x. refl));
    }

-- an accepted submission
olds_end : (ws : List ℕ) (x : ℕ) (ls : List Line) → olds (ws ++ (x ∷ [])) ls ≡ olds ws ls ++ (submission x (fate x false ls) ∷ [])
olds_end [] x ls = refl
olds_end (w ∷ ws) x ls = ap (λ (ms : List Submission). submission w (fate w false ls) ∷ ms) (olds_end ws x ls)

placed_fine : (n : ℕ) (s : Slot) (ws : List ℕ) → Good s ws → (x : ℕ) → among x (known s ws) ≡ false → Fine n s ws (submit x) (placed x n s ws)
unfolding submissions fate
placed_fine n empty [] g x a = record { good = (a, tt); same = λ ls. refl }
placed_fine n empty (w ∷ ws) g x a = let z : ◌≡◌ {A = ℕ} 0 1 = cc in absurd (omega (arith, z))
placed_fine n (holds y k) ws g x a =
    record {
      good = distinct_end x (y ∷ ws) g a;
      same = λ ls.
          let u : olds ws (line (submit x) waits ∷ ls) ≡ olds ws ls = olds_same ws (line (submit x) waits) ls (λ x. refl) in
          ap (λ (ms : List Submission). submission y (fate y true ls) ∷ (ms ++ submission x (fate x false ls) ∷ submissions ls)) u
          ∙ ap (λ (ms : List Submission). submission y (fate y true ls) ∷ ms)
          (sym (append_assoc (olds ws ls) (submission x (fate x false ls) ∷ []) (submissions ls))
          ∙ ap (λ (ms : List Submission). ms ++ submissions ls) (sym (olds_end ws x ls)));
    }

-- The submission in flight ends, and the oldest that waits goes out. `l` is the line that says so.
others_same : (y w : ℕ) (ws : List ℕ) (l : Line) (ls : List Line) → among y ws ≡ false → among w ws ≡ false
    → ((v : ℕ) → eqb v y ≡ false → eqb v w ≡ false → fate v false (l ∷ ls) ≡ fate v false ls) → olds ws (l ∷ ls) ≡ olds ws ls
others_same y w [] l ls a b h = refl
others_same y w (v ∷ ws) l ls a b h =
    let p = apart y v ws a in
    let q = apart w v ws b in
    λ i. submission v (h v (eqb_swap y v p.0) (eqb_swap w v q.0) i) ∷ others_same y w ws l ls p.1 q.1 h i

freed_same : (n y : ℕ) (ws : List ℕ) (l : Line) (ls : List Line) → Distinct (y ∷ ws)
    → ((v : ℕ) → eqb v y ≡ false → is_next v (next ws) ≡ false → fate v false (l ∷ ls) ≡ fate v false ls)
    → ((v : ℕ) → eqb v y ≡ false → is_next v (next ws) ≡ true → fate v false (l ∷ ls) ≡ fate v true ls)
    → olds ws (l ∷ ls) ≡ old (freed n ws).slot (freed n ws).waiting ls
freed_same n y [] l ls d h g = refl
freed_same n y (w ∷ ws) l ls d h g =
    let p = apart y w ws d.0 in
    λ i. submission w (g w (eqb_swap y w p.0) (eq-eqb w w refl) i) ∷ others_same y w ws l ls p.1 d.1.0 h i

pub freed_good : (n y : ℕ) (ws : List ℕ) → Distinct (y ∷ ws) → Good (freed n ws).slot (freed n ws).waiting
freed_good n y [] d = refl
freed_good n y (w ∷ ws) d = d.1

-- a line that ends another submission sends this one out, if it is the next, and else does nothing to it
pub settled_other : (e : Event) (o : Option ℕ) (v : ℕ) (b : Bool) (ls : List Line) → eqb v (commid_of e) ≡ false → is_next v o ≡ b
    → fate v false (line e (settles o) ∷ ls) ≡ fate v b ls
unfolding fate
settled_other e o v b ls p q = rw (p, q)

pub failed_other : (e : Event) (o : Option ℕ) (v : ℕ) (b : Bool) (ls : List Line) → eqb v (commid_of e) ≡ false → is_next v o ≡ b
    → fate v false (line e (fails o) ∷ ls) ≡ fate v b ls
unfolding fate
failed_other e o v b ls p q = rw (p, q)

pub settled_own : (e : Event) (o : Option ℕ) (v : ℕ) (ls : List Line) → eqb v (commid_of e) ≡ true → fate v true (line e (settles o) ∷ ls) ≡ acknowledged
unfolding fate
settled_own e o v ls p = rw p

pub failed_own : (e : Event) (o : Option ℕ) (v : ℕ) (ls : List Line) → eqb v (commid_of e) ≡ true → fate v true (line e (fails o) ∷ ls) ≡ failed
unfolding fate
failed_own e o v ls p = rw p

-- the one in flight is settled, or fails
settled_fine : (n y k : ℕ) (ws : List ℕ) → Distinct (y ∷ ws) → (e : Event) → commid_of e ≡ y
    → Fine n (holds y k) ws e (outcome (settles (next ws)) (freed n ws))
unfolding submissions
settled_fine n y k ws d e p =
    let away : (v : ℕ) → eqb v y ≡ false → eqb v (commid_of e) ≡ false = λ v q. ap (eqb v) p ∙ q in
    record {
      good = freed_good n y ws d;
      same = λ ls.
          let own : fate y true (line e (settles (next ws)) ∷ ls) ≡ acknowledged = settled_own e (next ws) y ls (eq-eqb y (commid_of e) (sym p)) in
          let rest : olds ws (line e (settles (next ws)) ∷ ls) ≡ old (freed n ws).slot (freed n ws).waiting ls =
          freed_same n y ws (line e (settles (next ws))) ls d
          (λ v q r. settled_other e (next ws) v false ls (away v q) r)
          (λ v q r. settled_other e (next ws) v true ls (away v q) r) in
          λ i. submission (sym p i) (own i) ∷ (rest i ++ submissions ls);
    }

failed_fine : (n y k : ℕ) (ws : List ℕ) → Distinct (y ∷ ws) → (e : Event) → commid_of e ≡ y
    → Fine n (holds y k) ws e (outcome (fails (next ws)) (freed n ws))
unfolding submissions
failed_fine n y k ws d e p =
    let away : (v : ℕ) → eqb v y ≡ false → eqb v (commid_of e) ≡ false = λ v q. ap (eqb v) p ∙ q in
    record {
      good = freed_good n y ws d;
      same = λ ls.
          let own : fate y true (line e (fails (next ws)) ∷ ls) ≡ failed = failed_own e (next ws) y ls (eq-eqb y (commid_of e) (sym p)) in
          let rest : olds ws (line e (fails (next ws)) ∷ ls) ≡ old (freed n ws).slot (freed n ws).waiting ls =
          freed_same n y ws (line e (fails (next ws))) ls d
          (λ v q r. failed_other e (next ws) v false ls (away v q) r)
          (λ v q r. failed_other e (next ws) v true ls (away v q) r) in
          λ i. submission (sym p i) (own i) ∷ (rest i ++ submissions ls);
    }

-- it is sent again
again_fine : (n y k j x : ℕ) (ws : List ℕ) → Distinct (y ∷ ws) → (e : Event) → x ≡ y
    → Fine n (holds y k) ws e (outcome again (queue n (holds x j) ws))
unfolding submissions fate
again_fine n y k j x ws d e p =
    record {
      good = rw p d;
      same = λ ls. λ i. submission (sym p i) (fate (sym p i) true ls) ∷ (olds_same ws (line e again) ls (λ v. refl) i ++ submissions ls);
    }

fine_cases : (n : ℕ) (s : Slot) (ws : List ℕ) → Good s ws → Cases n s ws (Fine n s ws)
fine_cases n empty ws g =
    record {
      refused = λ e k meets. refused_fine n empty ws g e k;
      placed = λ x room new. placed_fine n empty ws g x new;
      settled = λ e here. absurd (clash here);
      failed = λ e here none. absurd (clash here);
      again = λ e here some. absurd (clash here);
    }
fine_cases n (holds y k) ws g =
    record {
      refused = λ e k' meets. refused_fine n (holds y k) ws g e k';
      placed = λ x room new. placed_fine n (holds y k) ws g x new;
      settled = λ e here. settled_fine n y k ws g e (eqb-true (commid_of e) y here);
      failed = λ e here none. failed_fine n y k ws g e (eqb-true (commid_of e) y here);
      again = λ e here some. again_fine n y k (k - 1) (commid_of e) ws g e (eqb-true (commid_of e) y here);
    }

pub fine : (n : ℕ) (s : Slot) (ws : List ℕ) → Good s ws → (e : Event) → Fine n s ws e (answering e (queue n s ws))
fine n s ws g e = each_case n s ws (Fine n s ws) (fine_cases n s ws g) e
