-- Laws of printing: some lines and then others, a text that fits, a text that does not, and a line at the start of a buffer's free end.
use Prim.Native.Nat.{ℕ, ◌+◌, ◌-◌, ◌≤◌, ◌<◌}
use native.Mathlib.Nat.{add-zero, add_assoc}
use native.Mathlib.Omega.{arith}
use mathlib.Core.Path.{◌≡◌, refl, sym, ◌∙◌, ap}
use mathlib.Core.Bool.{Bool, true, false, ◌&&◌}
use mathlib.Core.List.{List, [], ◌∷◌, ◌++◌, append_assoc, append-nil}
use lib.ListN.{length, take, drop, length-append, length-drop, take-append-drop, drop_of_length-le}
use lib.Seq.{length-take-le, take-append_seam, take-take, drop-drop, drop_at, take_at, take_all}
use lib.Dec.{leb, eqb}
use borrow.Author.Tests.{le-leb, lt-leb, leb-true, leb-false}
use Rattle.model.specs.Pick.{pick, pick_true, pick_false, by_test}
use Rattle.model.proofs.Local.{both_left, both_right}
use Rattle.std.specs.Prelude.{Ok, Err}
use Rattle.std.specs.Result.{result_unwrap_or}
use Rattle.listing.specs.Printing.{Put, refused, put_number, put_next, Print, shown, room, written, printed, end_of, joined, Printed, Whole, no_room, put_length, lines_number, LinesExported}

-- What follows a print: the lines ys, unless it was refused.
abbrev and_then : Print → List (List ℕ) → Print
and_then p ys = pick (eqb p.refusal 0) (printed p.bytes p.next ys) p

printed_append : (b : List ℕ) (p : ℕ) (xs ys : List (List ℕ)) → printed b p (xs ++ ys) ≡ and_then (printed b p xs) ys
unfolding printed pick
printed_append b p [] ys = refl
printed_append b p (x ∷ xs) ys = by (room b p x) _ _ (printed_append (written b p x) (p + length x) xs ys)
  where
    by : (t : Bool) (n m : Print) → n ≡ and_then m ys → pick t n (shown refused b) ≡ and_then (pick t m (shown refused b)) ys
    by true n m e = e
    by false n m e = refl

-- A print that went well, and the rest after it; and one that did not.
pub then_next : (b o : List ℕ) (p q : ℕ) (a : Put) (xs ys : List (List ℕ)) → shown a o ≡ printed b p xs → a ≡ Ok q → printed b p (xs ++ ys) ≡ printed o q ys
unfolding pick
then_next b o p q a xs ys e f = printed_append b p xs ys ∙ rw (← e, f)

pub then_refused : (b o : List ℕ) (p : ℕ) (a : Put) (xs ys : List (List ℕ)) → shown a o ≡ printed b p xs → a ≡ refused → printed b p (xs ++ ys) ≡ shown refused o
unfolding pick
then_refused b o p a xs ys e f = printed_append b p xs ys ∙ rw (← e, f)

-- Where writing ends, in the same two cases.
end_append : (b : List ℕ) (p : ℕ) (xs ys : List (List ℕ)) → end_of b p (xs ++ ys) ≡ pick (eqb (printed b p xs).refusal 0) (end_of (printed b p xs).bytes (printed b p xs).next ys) (end_of b p xs)
unfolding printed end_of pick
end_append b p [] ys = refl
end_append b p (x ∷ xs) ys = by (room b p x) _ _ (printed (written b p x) (p + length x) xs) (end_append (written b p x) (p + length x) xs ys)
  where
    by : (t : Bool) (n k : ℕ) (m : Print) → n ≡ pick (eqb m.refusal 0) (end_of m.bytes m.next ys) k
        → pick t n p ≡ pick (eqb (pick t m (shown refused b)).refusal 0) (end_of (pick t m (shown refused b)).bytes (pick t m (shown refused b)).next ys) (pick t k p)
    by true n k m e = e
    by false n k m e = refl

pub end_next : (b o : List ℕ) (p q : ℕ) (a : Put) (xs ys : List (List ℕ)) → shown a o ≡ printed b p xs → a ≡ Ok q → end_of b p (xs ++ ys) ≡ end_of o q ys
unfolding pick
end_next b o p q a xs ys e f = end_append b p xs ys ∙ rw (← e, f)

pub end_refused : (b o : List ℕ) (p : ℕ) (a : Put) (xs ys : List (List ℕ)) → shown a o ≡ printed b p xs → a ≡ refused → end_of b p (xs ++ ys) ≡ end_of b p xs
unfolding pick
end_refused b o p a xs ys e f = end_append b p xs ys ∙ rw (← e, f)

-- The answer, from 01's number and the offset.
pub answer_next : (a : Put) (q : ℕ) → put_number a ≡ 0 → put_next a ≡ q → a ≡ Ok q
answer_next (Ok p) q e f = ap Ok f
answer_next (Err x) q e f = let v : ⊥ = omega arith in absurd v

pub answer_refused : (a : Put) → put_number a ≡ 15 → a ≡ refused
answer_refused (Ok p) e = let v : ⊥ = omega arith in absurd v
answer_refused (Err x) e = refl

-- What is written keeps the length, and two pieces after one another are one.
module _ (b x : List ℕ) (p : ℕ) (h : p + length x ≤ length b) where
  before_long : length (take p b) ≡ p
  before_long = length-take-le p b (omega arith)

  pub written_long : length (written b p x) ≡ length b
  written_long = simp (length-append, before_long, length-drop) (omega arith)

  pub written_twice : (y : List ℕ) → written (written b p x) (p + length x) y ≡ written b p (x ++ y)
  written_twice y =
      let e : length (take p b ++ x) ≡ p + length x = simp (length-append, before_long) in
      let t : take (p + length x) (written b p x) ≡ take p b ++ x = rw (← append_assoc) (take_at (take p b ++ x) _ (p + length x) e) in
      let d : drop (p + length x) (written b p x) ≡ drop (p + length x) b = rw (← append_assoc) (drop_at (take p b ++ x) _ (p + length x) e) in
      rw (t, ← drop-drop (length y) (p + length x) (written b p x), d, drop-drop, append_assoc, append_assoc, length-append, add_assoc)

room_fits : (b x : List ℕ) (p : ℕ) → room b p x ≡ true → p + length x ≤ length b
room_fits b x p q =
    let s = leb-true p (length b) (both_left _ _ q) in
    let t = leb-true (length x) (length b - p) (both_right (leb p (length b)) _ q) in
    omega arith

-- Whatever is printed, the buffer keeps its length, and the bytes before the offset stay.
pub printed_long : (b : List ℕ) (p : ℕ) (xs : List (List ℕ)) → length (printed b p xs).bytes ≡ length b
unfolding printed
printed_long b p [] = refl
printed_long b p (x ∷ xs) =
    by_test (λ (r : Print). length r.bytes ≡ length b) (λ q. printed_long (written b p x) (p + length x) xs ∙ written_long b x p (room_fits b x p q)) (λ q. refl)

pub printed_before : (b : List ℕ) (p : ℕ) (xs : List (List ℕ)) → take p (printed b p xs).bytes ≡ take p b
unfolding printed
printed_before b p [] = refl
printed_before b p (x ∷ xs) = by_test (λ (r : Print). take p r.bytes ≡ take p b) (λ q. more (room_fits b x p q) _ (printed_before (written b p x) (p + length x) xs)) (λ q. refl)
  where
    more : p + length x ≤ length b → (o : List ℕ) → take (p + length x) o ≡ take (p + length x) (written b p x) → take p o ≡ take p b
    more h o e =
        let s : p ≤ p + length x = omega arith in
        sym (take-take p (p + length x) o s) ∙ rw e (take-take p (p + length x) (written b p x) s ∙ take_at (take p b) _ p (before_long b x p h))

-- Enough room: everything is written.
printed_fits : (b : List ℕ) (p : ℕ) (xs : List (List ℕ)) → p + length (joined xs) ≤ length b →
    printed b p xs ≡ shown (Ok (p + length (joined xs))) (written b p (joined xs))
unfolding printed joined pick
printed_fits b p [] h = rw (add-zero, take-append-drop)
printed_fits b p (x ∷ xs) h =
    let k : p + (length x + length (joined xs)) ≤ length b = simp length-append at h in
    let h1 : p + length x ≤ length b = omega arith in
    let l = written_long b x p h1 in
    let i = printed_fits (written b p x) (p + length x) xs (rw l (omega arith)) in
    rw (le-leb p (length b) (omega arith), le-leb (length x) (length b - p) (omega arith), i, written_twice b x p h1 (joined xs), length-append, add_assoc)

-- Too little room: refused.
printed_short : (b : List ℕ) (p : ℕ) (xs : List (List ℕ)) → p ≤ length b → length b < p + length (joined xs) → (printed b p xs).refusal ≡ 15
unfolding printed joined pick
printed_short b p [] q h = let v : ⊥ = omega arith in absurd v
printed_short b p (x ∷ xs) q h =
    by (leb p (length b)) (leb (length x) (length b - p)) refl
    (λ m. printed_short (written b p x) (p + length x) xs (rw (written_long b x p m) m) (rw (written_long b x p m) (let k = simp length-append at h in omega arith)))
  where
    by : (s t : Bool) → leb (length x) (length b - p) ≡ t → (p + length x ≤ length b → (printed (written b p x) (p + length x) xs).refusal ≡ 15) →
        (pick (s && t) (printed (written b p x) (p + length x) xs) (shown refused b)).refusal ≡ 15
    by false t e f = refl
    by true false e f = refl
    by true true e f = let z = leb-true (length x) (length b - p) e in f (omega arith)

-- Lines printed from p on: where the buffer is long enough they stand there whole, with all else as it was; else the answer is 15.
module _ (b o : List ℕ) (p : ℕ) (a : Put) (xs : List (List ℕ)) (e : shown a o ≡ printed b p xs) where
  pub printed_whole : p + length (joined xs) ≤ length b → (a ≡ Ok (p + length (joined xs))) × (o ≡ written b p (joined xs))
  printed_whole h =
      let f = e ∙ printed_fits b p xs h in
      (answer_next a _ (ap (λ (r : Print). r.refusal) f) (ap (λ (r : Print). r.next) f), ap (λ (r : Print). r.bytes) f)

  pub printed_no_room : p ≤ length b → length b < p + length (joined xs) → a ≡ refused
  printed_no_room q h = answer_refused a (ap (λ (r : Print). r.refusal) e ∙ printed_short b p xs q h)

-- Lines printed from the start of a buffer are what `Printed` says.
pub printed_holds : (xs : List (List ℕ)) (b o : List ℕ) (a : Put) → shown a o ≡ printed b 0 xs → Printed xs b o a
printed_holds xs b o a e = by (leb (length (joined xs)) (length b)) refl
  where
    z : 0 + length (joined xs) ≡ length (joined xs)
    z = omega arith

    by : (t : Bool) → leb (length (joined xs)) (length b) ≡ t → Printed xs b o a
    by true f =
        let h = leb-true (length (joined xs)) (length b) f in
        let w = rw z at (printed_whole b o 0 a xs e (omega arith)) in
        record { answer = rw (f, pick_true) w.0; whole = λ k. w.1; lines = e }
    by false f =
        let h = leb-false (length (joined xs)) (length b) f in
        let w = printed_no_room b o 0 a xs e (omega arith) (omega arith) in
        record { answer = rw (f, pick_false) w; whole = λ k. (let v : ⊥ = omega arith in absurd v); lines = e }

-- A buffer in which they fit then holds all their bytes.
module _ (xs : List (List ℕ)) (b o : List ℕ) (a : Put) (e : Printed xs b o a) (fits : length (joined xs) ≤ length b) where
  answered : a ≡ Ok (length (joined xs))
  answered = rw (le-leb _ _ fits, pick_true) at e.answer

  pub whole_next : (n : ℕ) → a ≡ Ok n → Whole xs b o n
  whole_next n f =
      let m : n ≡ length (joined xs) = (let k = sym f ∙ answered in cc) in
      let y : take n o ≡ joined xs = rw (m, e.whole fits) (take-append_seam (joined xs) (drop (length (joined xs)) b)) in
      let z : length o ≡ length b = rw (e.whole fits) (simp (length-append, length-drop) (omega (arith, fits))) in
      record { size = m; bytes = rw m (e.whole fits); within = omega (arith, fits); counted = rw y m }

  pub whole_or : (n : ℕ) → n ≡ result_unwrap_or a 0 → Whole xs b o n
  whole_or n f = rw (f ∙ ap (λ (r : Put). result_unwrap_or r 0) answered) (whole_next _ answered)

  pub never_refused : a ≡ refused → ⊥
  never_refused f = let k = sym f ∙ answered in let z : ◌≡◌ {A = ℕ} 0 1 = cc in omega arith

-- One line.
pub line_refused : (b s : List ℕ) (p : ℕ) → length b < p + length s → shown refused b ≡ printed b p (s ∷ [])
unfolding printed pick
line_refused b s p h = by (leb p (length b)) refl
  where
    by : (t : Bool) → leb p (length b) ≡ t → shown refused b ≡ pick (t && leb (length s) (length b - p)) (shown (Ok (p + length s)) (written b p s)) (shown refused b)
    by true q = let z = leb-true p (length b) q in rw (lt-leb (length s) (length b - p) (omega arith))
    by false q = refl

pub line_next : (b o s : List ℕ) (p q : ℕ) → q ≡ p + length s → q ≤ length b → o ≡ written b p s → shown (Ok q) o ≡ printed b p (s ∷ [])
unfolding printed pick
line_next b o s p q e h f = rw (e, f, le-leb p (length b) (omega arith), le-leb (length s) (length b - p) (omega arith))

-- Where one line ends: behind it, or where it was to begin.
module _ (b s : List ℕ) (p : ℕ) where
  end_by : (t : Bool) → room b p s ≡ t → end_of b p (s ∷ []) ≡ pick t (p + length s) p
  unfolding end_of
  end_by t q = rw q

  pub line_ends : p + length s ≤ length b → p + length s ≡ end_of b p (s ∷ [])
  unfolding pick
  line_ends h = sym (end_by true (rw (le-leb p (length b) (omega arith), le-leb (length s) (length b - p) (omega arith))))

  pub line_stays : length b < p + length s → p ≡ end_of b p (s ∷ [])
  line_stays h = by (room b p s) refl
    where
      by : (t : Bool) → room b p s ≡ t → p ≡ end_of b p (s ∷ [])
      by true q = let k = room_fits b s p q in let v : ⊥ = omega arith in absurd v
      by false q = sym (end_by false q ∙ pick_false (p + length s) p)

-- A line written at the start of the free end from at on: the buffer has it at at.
module _ (b s last : List ℕ) (at : ℕ) (a : Put) (h : at ≤ length b) (e : shown a last ≡ printed (take (length b - at) (drop at b)) 0 (s ∷ [])) where
  free_all : take (length b - at) (drop at b) ≡ drop at b
  free_all = take_all (length b - at) (drop at b) (simp length-drop (omega arith))

  free_ends : drop (length b - at) (drop at b) ≡ []
  free_ends = drop_of_length-le (drop at b) {i = length b - at} (simp length-drop (omega arith))

  free_room : room (drop at b) 0 s ≡ room b at s
  free_room =
      let z : length b - at - 0 ≡ length b - at = omega arith in
      rw (length-drop, z, le-leb 0 (length b - at) (omega arith), le-leb at (length b) h)

  free_shown : (t : Bool) → room b at s ≡ t → shown a last ≡ pick t (shown (Ok (length s)) (s ++ drop (length s) (drop at b))) (shown refused (drop at b))
  unfolding printed
  free_shown t q = let z : 0 + length s ≡ length s = omega arith in rw (← q, ← free_room) (e ∙ rw (free_all, z))

  by_room : (P : Type 0) → (room b at s ≡ true → (a ≡ Ok (length s)) → last ≡ s ++ drop (length s) (drop at b) → P) → (room b at s ≡ false → a ≡ refused → last ≡ drop at b → P) → P
  unfolding pick
  by_room P f g = by (room b at s) refl
    where
      by : (t : Bool) → room b at s ≡ t → P
      by true q = let z = free_shown true q in f q (answer_next a _ (ap (λ (r : Print). r.refusal) z) (ap (λ (r : Print). r.next) z)) (ap (λ (r : Print). r.bytes) z)
      by false q = let z = free_shown false q in g q (answer_refused a (ap (λ (r : Print). r.refusal) z)) (ap (λ (r : Print). r.bytes) z)

  pub put_fits : (n : ℕ) → a ≡ Ok n → n ≤ length b - at
  put_fits n w =
      by_room (n ≤ length b - at) (λ q i j. let x = room_fits b s at q in let y : n ≡ length s = cc in omega arith)
      (λ q i j. let y : ◌≡◌ {A = ℕ} 0 1 = cc in let v : ⊥ = omega arith in absurd v)

  pub put_next_lem : (n : ℕ) → a ≡ Ok n → shown (Ok (at + n)) (take at b ++ (last ++ drop (length b - at) (drop at b))) ≡ printed b at (s ∷ [])
  unfolding printed pick
  put_next_lem n w =
      by_room _ (λ q i j. let y : n ≡ length s = cc in rw (q, y, j, free_ends, append-nil, drop-drop))
      (λ q i j. let y : ◌≡◌ {A = ℕ} 0 1 = cc in let v : ⊥ = omega arith in absurd v)

  pub put_ends : (n : ℕ) → a ≡ Ok n → at + n ≡ end_of b at (s ∷ [])
  put_ends n w =
      by_room _ (λ q i j. let y : n ≡ length s = cc in let k = room_fits b s at q in rw y (line_ends b s at k))
      (λ q i j. let y : ◌≡◌ {A = ℕ} 0 1 = cc in let v : ⊥ = omega arith in absurd v)

  pub put_stays : a ≡ refused → at ≡ end_of b at (s ∷ [])
  put_stays w =
      by_room _ (λ q i j. let y : ◌≡◌ {A = ℕ} 0 1 = cc in let v : ⊥ = omega arith in absurd v)
      (λ q i j. sym (end_by b s at false q ∙ pick_false (at + length s) at))

  pub put_refused : a ≡ refused → shown refused (take at b ++ (last ++ drop (length b - at) (drop at b))) ≡ printed b at (s ∷ [])
  unfolding printed pick
  put_refused w =
      by_room _ (λ q i j. let y : ◌≡◌ {A = ℕ} 0 1 = cc in let v : ⊥ = omega arith in absurd v)
      (λ q i j. rw (q, j, free_ends, append-nil, take-append-drop))

-- ── the promise of a function that Rust or C calls, from that of printing ──

module _ (xs : List (List ℕ)) (b : List ℕ) where
  length_put : put_length (pick (leb (length (joined xs)) (length b)) (Ok (length (joined xs))) refused) ≡ lines_number xs b
  unfolding lines_number pick
  length_put = by (leb (length (joined xs)) (length b))
    where
      by : (t : Bool) → put_length (pick t (Ok (length (joined xs))) refused) ≡ pick t (length (joined xs)) no_room
      by true = refl
      by false = refl

  only_long : length b < no_room → lines_number xs b ≡ no_room → length b < length (joined xs)
  unfolding lines_number
  only_long h =
      by_test (λ (n : ℕ). n ≡ no_room → length b < length (joined xs))
      (λ q z. absurd (let f = leb-true (length (joined xs)) (length b) q in omega arith))
      (λ q _. leb-false (length (joined xs)) (length b) q)

  pub lines_exported : (o : List ℕ) (a : Put) → length b < no_room → Printed xs b o a → (r : ℕ) → r ≡ put_length a → LinesExported xs b o r
  lines_exported o a h p r e =
      let n : r ≡ lines_number xs b = e ∙ (ap put_length p.answer ∙ length_put) in
      record {
        number = n;
        buffer = ap (λ (x : Print). x.bytes) p.lines;
        whole = p.whole;
        only = λ z. only_long h (sym n ∙ z);
      }
