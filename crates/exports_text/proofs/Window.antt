-- What stands in a buffer while the pieces of a text come one after another: the bytes of the window that asks for them. And the claims `WindowsMakeText`, `CallsMakeText` and `NoOtherShortLists`.
use Prim.Native.Nat.{ℕ, ◌+◌, ◌-◌, ◌^◌, ◌≤◌, ◌<◌}
use native.Mathlib.Omega.{arith}
use mathlib.Core.Bool.{Bool, true, false}
use mathlib.Core.Path.{◌≡◌, refl, sym, ◌∙◌, ap, ap₂, subst}
use mathlib.Core.Logic.{inl, inr}
use mathlib.Core.List.{List, [], ◌∷◌, ◌++◌, append_assoc, append-nil}
use lib.Dec.{leb}
use lib.ListN.{length, take, drop, get_or, length-take, length-append, length-drop, take-append-drop, drop_of_length-le}
use lib.Seq.{length-take-le, take_all, take_at, drop_at, take-nil, drop-nil, take-add, drop-drop, take-append-le, take-append-add, drop-append-le, drop-append-add}
use borrow.Author.Tests.{leb-true, leb-false}
use Rattle.listing.specs.Printing.{Appended}
use Rattle.listing.specs.Ascii.{bytes}
use Rattle.short_lists_text.specs.Text.{text_of as short_lists_text}
use Rattle.short_lists_text.proofs.Cases.{text_cases}
use Rattle.list_search.specs.Search.{text_left, text_after, Begun, Gave}
use Rattle.list_search.specs.declared.Search.{Search}
use Rattle.list_search.specs.declared.Piece.{Piece}
use Rattle.exports_text.proofs.Short.{short_text}
use Rattle.exports_text.specs.Window.{window, sum, windows, WindowsMakeText}
use Rattle.exports_text.specs.Boundary.{ShortListsExported, ShortListsCall, ShortListsCalls, got_by, sizes, OneEnds, CallsMakeText, NoOtherShortLists}

-- ── a window of two parts ──

take_two : (k : ℕ) (xs ys : List ℕ) → take k (xs ++ ys) ≡ take k xs ++ take (k - length xs) ys
take_two k xs ys = by (leb k (length xs)) refl
  where
    by : (t : Bool) → leb k (length xs) ≡ t → take k (xs ++ ys) ≡ take k xs ++ take (k - length xs) ys
    by true q = let h = leb-true k (length xs) q in let z : k - length xs ≡ 0 = omega arith in rw (take-append-le k xs ys h, z, append-nil)
    by false q =
        let h : length xs ≤ k = omega (arith, leb-false k (length xs) q) in
        let z : k ≡ length xs + (k - length xs) = omega arith in
        ap (λ (n : ℕ). take n (xs ++ ys)) z ∙ take-append-add xs ys (k - length xs) ∙ ap (λ (l : List ℕ). l ++ take (k - length xs) ys) (sym (take_all k xs h))

drop_two : (k : ℕ) (xs ys : List ℕ) → drop k (xs ++ ys) ≡ drop k xs ++ drop (k - length xs) ys
drop_two k xs ys = by (leb k (length xs)) refl
  where
    by : (t : Bool) → leb k (length xs) ≡ t → drop k (xs ++ ys) ≡ drop k xs ++ drop (k - length xs) ys
    by true q = let h = leb-true k (length xs) q in let z : k - length xs ≡ 0 = omega arith in rw (drop-append-le k xs ys h, z)
    by false q =
        let h : length xs ≤ k = omega (arith, leb-false k (length xs) q) in
        let z : k ≡ length xs + (k - length xs) = omega arith in
        ap (λ (n : ℕ). drop n (xs ++ ys)) z ∙ drop-append-add xs ys (k - length xs) ∙ ap (λ (l : List ℕ). l ++ drop (k - length xs) ys) (sym (drop_of_length-le xs {i = k} h))

window_two : (xs ys : List ℕ) (from m : ℕ) → window (xs ++ ys) from m ≡ window xs from m ++ window ys (from - length xs) (m - length (window xs from m))
window_two xs ys from m =
    let e = length-take m (drop from xs) in
    let z : m - length (drop from xs) ≡ m - length (window xs from m) = omega arith in
    ap (take m) (drop_two from xs ys) ∙ take_two m (drop from xs) (drop (from - length xs) ys) ∙ ap (λ (k : ℕ). window xs from m ++ window ys (from - length xs) k) z

-- ── the buffer, piece by piece ──

-- Of a window of the text t the first `at` bytes stand in the buffer, which held b and holds o. The others are those of what is left of the text, behind the first `skip` bytes of that.
pub record Filled (t : List ℕ) (from : ℕ) (b o : List ℕ) (at skip : ℕ) (left : List ℕ) : Type 0 where
  pub long : length o ≡ length b
  pub fits : at ≤ length b
  pub behind : drop at o ≡ drop at b
  pub text : window t from (length b) ≡ take at o ++ window left skip (length b - at)

filled_none : (t : List ℕ) (from : ℕ) (b : List ℕ) → Filled t from b b 0 from t
filled_none t from b =
    let z : length b ≡ length b - 0 = omega arith in
    record { long = refl; fits = omega arith; behind = refl; text = ap (window t from) z }

pub filled_begun : (l : List ℕ) (from : ℕ) (b : List ℕ) (s : Search) → Begun l s → Filled (short_lists_text l) from b b 0 from (text_left s)
filled_begun l from b s g = subst (λ (x : List ℕ). Filled (short_lists_text l) from b b 0 from x) (sym g.text) (filled_none (short_lists_text l) from b)

module _ {t : List ℕ} {from : ℕ} {b o : List ℕ} {at skip : ℕ} {left : List ℕ} (f : Filled t from b o at skip left) where
  -- x is the first of what is left, and of x what is of the window is written
  filled_more : (x rest u : List ℕ) (r : ℕ) → left ≡ x ++ rest → Appended o at (window x skip (length o - at)) u r → Filled t from b u r (skip - length x) rest
  filled_more x rest u r e a =
      let w = window x skip (length b - at) in
      let a' = subst (λ (k : ℕ). Appended o at (window x skip (k - at)) u r) f.long a in
      let n : r ≡ at + length w = a'.next in
      let z : length b - at - length w ≡ length b - r = omega arith in
      record {
        long = a.long ∙ f.long;
        fits = let l = a.long in let m = f.long in let h = a.fits in omega arith;
        behind = a.behind ∙ ap (λ (k : ℕ). drop k o) n ∙ sym (drop-drop (length w) at o) ∙ ap (drop (length w)) f.behind ∙ drop-drop (length w) at b ∙ ap (λ (k : ℕ). drop k b) (sym n);
        text =
            f.text ∙ ap (λ (l : List ℕ). take at o ++ window l skip (length b - at)) e ∙ ap (λ (l : List ℕ). take at o ++ l) (window_two x rest skip (length b - at))
            ∙ sym (append_assoc (take at o) w (window rest (skip - length x) (length b - at - length w)))
            ∙ ap₂ (λ (l : List ℕ) (k : ℕ). l ++ window rest (skip - length x) k) (sym a'.text) z;
      }

-- all of the window stands there
filled_whole : (l : List ℕ) (from : ℕ) (b o : List ℕ) (at skip : ℕ) (left : List ℕ) → Filled (short_lists_text l) from b o at skip left → window left skip (length b - at) ≡ []
    → ShortListsExported l from b o at
filled_whole l from b o at skip left f e =
    let w : window (short_lists_text l) from (length b) ≡ take at o = f.text ∙ ap (λ (x : List ℕ). take at o ++ x) e ∙ append-nil (take at o) in
    let m = f.long in
    let h = f.fits in
    record {
      number = sym (ap length w ∙ length-take-le at o (omega arith));
      buffer = sym (take-append-drop at o) ∙ ap₂ (λ (x y : List ℕ). x ++ y) (sym w) f.behind;
      short = short_text l;
    }

-- where the buffer is full,
filled_full : (l : List ℕ) (from : ℕ) (b o : List ℕ) (at skip : ℕ) (left : List ℕ) → Filled (short_lists_text l) from b o at skip left → at ≡ length o → ShortListsExported l from b o at
filled_full l from b o at skip left f e =
    let m = f.long in
    let z : length b - at ≡ 0 = omega arith in
    filled_whole l from b o at skip left f (rw z)

-- and where nothing is left of the text
pub filled_end : (l : List ℕ) (from : ℕ) (b o : List ℕ) (at skip : ℕ) (left : List ℕ) → Filled (short_lists_text l) from b o at skip left → left ≡ [] → ShortListsExported l from b o at
filled_end l from b o at skip left f e =
    filled_whole l from b o at skip left f (ap (λ (x : List ℕ). window x skip (length b - at)) e ∙ ap (take (length b - at)) (drop-nil skip) ∙ take-nil (length b - at))

-- A piece p that the search s gave, in the buffer z.
module _ (l : List ℕ) (from : ℕ) (b o u z : List ℕ) (at skip r : ℕ) (s : Search) (p : Piece) (g : Gave s z p) (f : Filled (short_lists_text l) from b o at skip (text_left s))
    (a : Appended o at (window (take p.written z) skip (length o - at)) u r) where
  pub piece_put : Filled (short_lists_text l) from b u r (skip - p.written) (text_after p)
  piece_put =
      subst (λ (k : ℕ). Filled (short_lists_text l) from b u r (skip - k) (text_after p)) (length-take-le p.written z g.fits) (filled_more f (take p.written z) (text_after p) u r g.text a)

  pub piece_full : r ≡ length u → ShortListsExported l from b u r
  piece_full e = filled_full l from b u r (skip - p.written) (text_after p) piece_put e

-- and the lent bytes are those of the buffer
pub filled_there : {l : List ℕ} {from : ℕ} {b u : List ℕ} {r : ℕ} → ShortListsExported l from b u r → (o : List ℕ) → o ≡ u → ShortListsExported l from b o r
filled_there {l} {from} {b} {u} {r} w o e = subst (λ (x : List ℕ). ShortListsExported l from b x r) (sym e) w

-- ── claims ──

-- calls from any byte on
from_on : (t : List ℕ) (from : ℕ) (ms : List ℕ) → windows t from ms ≡ take (sum ms) (drop from t)
from_on t from [] = refl
from_on t from (m ∷ ms) =
    let w = window t from m in
    ap (λ (l : List ℕ). w ++ l) (from_on t (from + length w) ms ∙ next (leb m (length (drop from t))) refl) ∙ sym (take-add m (sum ms) (drop from t))
  where
    next : (x : Bool) → leb m (length (drop from t)) ≡ x → take (sum ms) (drop (from + length (window t from m)) t) ≡ take (sum ms) (drop m (drop from t))
    next true q = let h = leb-true m (length (drop from t)) q in ap (λ (k : ℕ). take (sum ms) (drop (from + k) t)) (length-take-le m (drop from t) h) ∙ ap (take (sum ms)) (sym (drop-drop m from t))
    next false q =
        let h : length (drop from t) ≤ m = omega (arith, leb-false m (length (drop from t)) q) in
        let e = length-take m (drop from t) in
        let d = length-drop from t in
        ap (take (sum ms)) (drop_of_length-le t {i = from + length (window t from m)} (omega arith) ∙ sym (drop_of_length-le (drop from t) {i = m} h))

pub windows_make_text : WindowsMakeText
windows_make_text = record {
  parts = from_on;
  whole = λ t ms h. let e = from_on t 0 ms in let d = ap length e ∙ length-take (sum ms) t in e ∙ take_all (sum ms) t (omega arith);
  enough = λ t ms h. from_on t 0 ms ∙ take_all (sum ms) t h;
  last = λ t from m h. let e = length-take m (drop from t) in let d = length-drop from t in omega arith;
}

-- what a call gives is the window that it asks for
module _ (l : List ℕ) (from : ℕ) (b o : List ℕ) (r : ℕ) (e : ShortListsExported l from b o r) where
  got : take r o ≡ window (short_lists_text l) from (length b)
  got = ap (take r) e.buffer ∙ take_at (window (short_lists_text l) from (length b)) (drop r b) r (sym e.number)

  kept : drop r o ≡ drop r b
  kept = ap (drop r) e.buffer ∙ drop_at (window (short_lists_text l) from (length b)) (drop r b) r (sym e.number)

  long : r ≤ length b
  long = let n = e.number in let d = length-take (length b) (drop from (short_lists_text l)) in omega arith

  got_long : length (take r o) ≡ r
  got_long = ap length got ∙ sym e.number

calls_are : (l : List ℕ) (from : ℕ) (cs : List ShortListsCall) → ShortListsCalls l from cs → got_by cs ≡ windows (short_lists_text l) from (sizes cs)
calls_are l from [] a = refl
calls_are l from (c ∷ cs) a =
    ap₂ (λ (x y : List ℕ). x ++ y) (got l from c.before c.buffer c.answer a.0)
    (calls_are l (from + c.answer) cs a.1 ∙ ap (λ (k : ℕ). windows (short_lists_text l) (from + k) (sizes cs)) a.0.number)

calls_long : (l : List ℕ) (from : ℕ) (cs : List ShortListsCall) → ShortListsCalls l from cs → length (got_by cs) ≤ sum (sizes cs)
calls_long l from [] a = omega arith
calls_long l from (c ∷ cs) a =
    let x = got_long l from c.before c.buffer c.answer a.0 in
    let y = long l from c.before c.buffer c.answer a.0 in
    let z = calls_long l (from + c.answer) cs a.1 in
    let w = length-append (take c.answer c.buffer) (got_by cs) in omega arith

calls_end : (l : List ℕ) (from : ℕ) (cs : List ShortListsCall) → ShortListsCalls l from cs → OneEnds cs → length (got_by cs) < sum (sizes cs)
calls_end l from (c ∷ cs) a (inl h) =
    let x = got_long l from c.before c.buffer c.answer a.0 in
    let z = calls_long l (from + c.answer) cs a.1 in
    let w = length-append (take c.answer c.buffer) (got_by cs) in omega arith
calls_end l from (c ∷ cs) a (inr h) =
    let x = got_long l from c.before c.buffer c.answer a.0 in
    let y = long l from c.before c.buffer c.answer a.0 in
    let z = calls_end l (from + c.answer) cs a.1 h in
    let w = length-append (take c.answer c.buffer) (got_by cs) in omega arith
calls_end l from [] a x'' = elim x'' [ ]

next_offset : (l : List ℕ) (from : ℕ) (b o : List ℕ) (r : ℕ) → ShortListsExported l from b o r → from < 2 ^ 64 → from + r < 2 ^ 64
next_offset l from b o r w h =
    let n = w.number in
    let s = w.short in
    let e = length-take (length b) (drop from (short_lists_text l)) in
    let d = length-drop from (short_lists_text l) in omega arith

pub calls_make_text : CallsMakeText
calls_make_text = record {
  parts = λ l cs a. calls_are l 0 cs a ∙ from_on (short_lists_text l) 0 (sizes cs);
  whole = λ l cs a h.
      let e = calls_are l 0 cs a in
      let k = calls_end l 0 cs a h in
      e ∙ windows_make_text.whole (short_lists_text l) (sizes cs) (subst (λ (x : List ℕ). length x < sum (sizes cs)) e k);
  enough = λ l cs a h. calls_are l 0 cs a ∙ windows_make_text.enough (short_lists_text l) (sizes cs) h;
  next = next_offset;
}

only : (l : List ℕ) (from : ℕ) (b o p : List ℕ) (r q : ℕ) → ShortListsExported l from b o r → ShortListsExported l from b p q → (o ≡ p) × (r ≡ q)
only l from b o p r q e f =
    let n : r ≡ q = e.number ∙ sym f.number in
    (e.buffer ∙ ap (λ (k : ℕ). window (short_lists_text l) from (length b) ++ drop k b) n ∙ sym f.buffer, n)

ends_early : (l : List ℕ) (from : ℕ) (b o : List ℕ) (r : ℕ) → ShortListsExported l from b o r → r < length b → from + r < length (short_lists_text l) → ⊥
ends_early l from b o r w h k =
    let n = w.number in
    let e = length-take (length b) (drop from (short_lists_text l)) in
    let d = length-drop from (short_lists_text l) in omega arith

begins_again : (b o : List ℕ) (r : ℕ) → ShortListsExported (3 ∷ 1 ∷ []) 10 b o r → length b ≡ 10 → o ≡ bytes "recover 1\n" → ⊥
begins_again b o r w h q =
    let t : window (short_lists_text (3 ∷ 1 ∷ [])) 10 (length b) ≡ bytes "recover 2\n" = ap₂ (λ (x : List ℕ) (m : ℕ). window x 10 m) text_cases.one h in
    let e : bytes "recover 1\n" ≡ bytes "recover 2\n" ++ drop r b = sym q ∙ w.buffer ∙ ap (λ (x : List ℕ). x ++ drop r b) t in
    let z : ◌≡◌ {A = ℕ} 49 50 = ap (λ (x : List ℕ). get_or x 8 0) e in omega arith

past_end : (l : List ℕ) (from : ℕ) (b o : List ℕ) (r : ℕ) → ShortListsExported l from b o r → length (short_lists_text l) ≤ from → ((o ≡ b) × (r ≡ 0) → ⊥) → ⊥
past_end l from b o r w h f =
    let n = w.number in
    let e = length-take (length b) (drop from (short_lists_text l)) in
    let d = length-drop from (short_lists_text l) in
    let z : r ≡ 0 = omega arith in
    let t : window (short_lists_text l) from (length b) ≡ [] = ap (take (length b)) (drop_of_length-le (short_lists_text l) {i = from} h) ∙ take-nil (length b) in
    f (w.buffer ∙ ap₂ (λ (x : List ℕ) (k : ℕ). x ++ drop k b) t z, z)

refused : (b o : List ℕ) (r : ℕ) → ShortListsExported [] 0 b o r → 13 ≤ length b → (take r o ≡ bytes "stopped 0 16\n" → ⊥) → ⊥
refused b o r w h f = f (got [] 0 b o r w ∙ ap (take (length b)) text_cases.no_bytes ∙ take_all (length b) (bytes "stopped 0 16\n") h)

ignores_input : (b o : List ℕ) (r : ℕ) → 1 ≤ length b → ShortListsExported (3 ∷ 1 ∷ []) 0 b o r → ShortListsExported (3 ∷ 0 ∷ []) 0 b o r → ⊥
ignores_input [] o r h v w = omega arith
ignores_input (x ∷ b) o r h v w =
    let e = ap (take (length (x ∷ b))) (sym text_cases.one) ∙ sym (got (3 ∷ 1 ∷ []) 0 (x ∷ b) o r v) ∙ got (3 ∷ 0 ∷ []) 0 (x ∷ b) o r w ∙ ap (take (length (x ∷ b))) text_cases.empty_list in
    let z : ◌≡◌ {A = ℕ} 114 10 = ap (λ (y : List ℕ). get_or y 0 0) e in omega arith

pub no_other_short_lists : NoOtherShortLists
no_other_short_lists = record {
  only = only;
  ends_early = ends_early;
  behind = λ l from b o r w f. f (kept l from b o r w);
  begins_again = begins_again;
  past_end = past_end;
  refused = refused;
  ignores_input = ignores_input;
}
