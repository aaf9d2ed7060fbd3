-- Laws of the bytes of a list: they are read as the first field and the events that they stand for, each of them is one byte, and a list that reads to its end is exactly the bytes of what it says.
use Prim.Native.Nat.{ℕ, zero, suc, ◌+◌, ◌-◌, ◌≤◌, ◌<◌}
use native.Mathlib.Omega.{arith}
use mathlib.Core.Bool.{Bool, true, false, not, ◌||◌, true≢false}
use mathlib.Core.Path.{◌≡◌, refl, sym, ap, ◌∙◌}
use mathlib.Core.Logic.{inl, inr}
use mathlib.Core.List.{List, [], ◌∷◌, ◌++◌}
use lib.ListN.{length, get_or, take, drop, length-append, length-drop, take-append-drop, drop_of_length-le}
use lib.Seq.{length-take-le, take-append_seam, drop-append_seam, drop-cons, drop-drop, get_or-drop}
use lib.Dec.{eqb, ltb}
use borrow.Author.Tests.{le-ltb, lt-leb, leb-true, ltb-false, eq-eqb, eqb-true, not-false}
use Rattle.std.specs.Prelude.{Some, None, Ok, Err}
use Rattle.model.specs.Pick.{pick, by_test}
use Rattle.model.specs.declared.Limits.{Limits}
use Rattle.model.specs.declared.Event.{Event}
use Rattle.model.specs.declared.Event.TheVariants.{Crash, Recover, Check, Timeout, Tick, Expire, Finish, Deliver, Lose}
use Rattle.event_list.specs.Format.{First, Next, max_bytes, two_bytes, tag_at, length_at, contents_at, behind, first_tag, limits_of, event_tag, length_of, cut_short, checked, event_of, next_at, nodes_of, first_of, complete, Reading, onward, read_from, rest, begun, listed, reading}
use Rattle.event_list.proofs.Fields.{uncut, next_end}
use Rattle.event_list.proofs.Reading.{rest_step}
use Rattle.short_lists_text.specs.Rows.{All, concat_map}
use Rattle.short_lists_text.specs.Order.{tag, contents}
use Rattle.short_lists_text.proofs.Rows.{all_rows}
use Rattle.short_lists_text.proofs.Bytes.{same_bytes}
use Rattle.list_text.specs.Script.{opening_field, event_field, list_bytes}
use Rattle.list_text.specs.Words.{AllBytes}
use Rattle.list_text.specs.Claims.{FitsBytes, IsFirstTag, opened}

-- ── a field by the bytes from its offset on ──

-- Its tag, its length and what stands behind these, where the bytes from its offset on are given.
module _ (l : List ℕ) (at t high low : ℕ) (r : List ℕ) (e : drop at l ≡ t ∷ high ∷ low ∷ r) where
  given_tag : tag_at l at ≡ t
  given_tag = let k : at + 0 ≡ at = omega arith in rw k at (sym (get_or-drop at l 0 0)) ∙ ap (λ s. get_or s 0 0) e

  given_length : length_at l at ≡ two_bytes high low
  given_length = rw (← get_or-drop at l 1 0, ← get_or-drop at l 2 0, e)

  given_behind : drop (at + 3) l ≡ r
  given_behind = sym (drop-drop 3 at l) ∙ ap (drop 3) e

  given_left : length l - at ≡ 3 + length r
  given_left = sym (length-drop at l) ∙ (ap length e ∙ omega arith)

  given_whole : two_bytes high low ≤ length r → cut_short l at ≡ false
  unfolding cut_short
  given_whole h =
      let k = given_left in
      rw (given_length, le-ltb (length l - at) 3 (omega arith), le-ltb (length l - (at + 3)) (two_bytes high low) (omega arith))

-- ── the bytes of an event are read as that event ──

-- The bytes of e stand from an offset on, and s behind them.
module _ (l : List ℕ) (at : ℕ) (e : Event) (s : List ℕ) (p : drop at l ≡ event_field e ++ s) where
  event_start : drop at l ≡ tag e ∷ 0 ∷ length (contents e) ∷ (contents e ++ s)
  unfolding event_field
  event_start = p

  event_before_end : at < length l
  event_before_end = let k = given_left l at _ _ _ _ event_start in omega arith

  event_length : length_at l at ≡ length (contents e)
  event_length = given_length l at _ _ _ _ event_start ∙ omega arith

  event_contents : contents_at l at ≡ contents e
  event_contents = rw (event_length, given_behind l at _ _ _ _ event_start) (take-append_seam (contents e) s)

  event_whole : cut_short l at ≡ false
  event_whole = given_whole l at _ _ _ _ event_start (rw length-append (omega arith))

  event_behind : behind l at ≡ at + length (event_field e)
  unfolding event_field
  event_behind = let k = event_length in omega arith

  next_event : next_at l at ≡ Ok (Some (e, at + length (event_field e)))
  unfolding next_at checked pick
  next_event =
      rw (
        lt-leb (length l) at event_before_end,
        event_whole,
        event_contents,
        event_behind,
        event_length,
        given_tag l at _ _ _ _ event_start,
        same_bytes.tagged e,
        eq-eqb _ _ (same_bytes.long e),
        same_bytes.read e,
      )

  after_event : drop (at + length (event_field e)) l ≡ s
  after_event = sym (drop-drop (length (event_field e)) at l) ∙ (ap (drop (length (event_field e))) p ∙ drop-append_seam (event_field e) s)

-- The bytes of events up to the end are read as those events, to the end.
rest_events : (l : List ℕ) (at : ℕ) (es : List Event) → drop at l ≡ concat_map event_field es → rest l at ≡ record { events = es; ending = complete }
rest_events l at [] p = let k : length l - at ≡ 0 = sym (length-drop at l) ∙ ap length p in rest_step l at ∙ rw (next_end l at (omega arith))
rest_events l at (e ∷ es) p =
    let s = concat_map event_field es in
    rest_step l at ∙ rw (next_event l at e s p, rest_events l (at + length (event_field e)) es (after_event l at e s p))

-- ── those of a first field are read as that field ──

opening_tag_lem : (u : ℕ) → IsFirstTag u → first_tag u ≡ true
opening_tag_lem u (inl e) = rw e
opening_tag_lem u (inr e) = rw e

opening_length : (u : ℕ) → IsFirstTag u → length_of u ≡ 1
unfolding length_of pick
opening_length u o = rw (opening_tag_lem u o)

first_opening : (u n : ℕ) (es : List Event) → IsFirstTag u → length (list_bytes u n es) ≤ max_bytes → first_of (list_bytes u n es) ≡ nodes_of (limits_of u) n
unfolding list_bytes first_of checked pick
first_opening u n es o h =
    rw
    (le-ltb max_bytes (length (list_bytes u n es)) h, given_whole (list_bytes u n es) 0 _ _ _ _ refl (omega arith), opening_tag_lem u o, opening_length u o)

-- Behind it, at offset 4, the events are read.
listed_opened : (u n : ℕ) (es : List Event) (x : First) → listed (list_bytes u n es) x ≡ opened x es
unfolding list_bytes
listed_opened u n es (Err s) = refl
listed_opened u n es (Ok (m, lim)) = ap (begun m lim) (rest_events (list_bytes u n es) 4 es refl)

pub fields_read : (u n : ℕ) (es : List Event) → IsFirstTag u → length (list_bytes u n es) ≤ max_bytes → reading (list_bytes u n es) ≡ opened (nodes_of (limits_of u) n) es
unfolding reading
fields_read u n es o h = rw (first_opening u n es o h) (listed_opened u n es (nodes_of (limits_of u) n))

-- ── each is one byte ──

event_bytes : (e : Event) → FitsBytes e → AllBytes (event_field e)
unfolding event_field
event_bytes (Crash i) f = omega arith
event_bytes (Recover i) f = omega arith
event_bytes (Check i) f = omega arith
event_bytes (Timeout i) f = omega arith
event_bytes (Tick i) f = omega arith
event_bytes (Expire i) f = omega arith
event_bytes (Finish i t) f = omega arith
event_bytes (Deliver a b) f = omega arith
event_bytes (Lose a b) f = omega arith

opening_byte : (u : ℕ) → IsFirstTag u → u < 256
opening_byte u (inl e) = omega arith
opening_byte u (inr e) = omega arith

pub fields_bytes : (u n : ℕ) (es : List Event) → IsFirstTag u → n < 256 → All FitsBytes es → AllBytes (list_bytes u n es)
unfolding list_bytes
fields_bytes u n es o h f = (opening_byte u o, (omega arith, (omega arith, (h, all_rows FitsBytes (λ b. b < 256) event_field es event_bytes f))))

-- ── the bytes of a field that is there whole ──

pub all_drop : (P : ℕ → Type 0) (k : ℕ) (l : List ℕ) → All P l → All P (drop k l)
all_drop P zero l a = a
all_drop P (suc k) [] a = tt
all_drop P (suc k) (x ∷ l) a = all_drop P k l a.1

pub all_take : (P : ℕ → Type 0) (k : ℕ) (l : List ℕ) → All P l → All P (take k l)
all_take P zero l a = tt
all_take P (suc k) [] a = tt
all_take P (suc k) (x ∷ l) a = (a.0, all_take P k l a.1)

contents_bytes : (l : List ℕ) (at : ℕ) → AllBytes l → AllBytes (contents_at l at)
contents_bytes l at b = all_take _ (length_at l at) (drop (at + 3) l) (all_drop _ (at + 3) l b)

abbrev AtMostThree : ℕ → Type 0
AtMostThree k = k ≤ 3

short_contents : (t : ℕ) → length_of t ≤ 3
unfolding length_of
short_contents t =
    by_test AtMostThree
    (λ _. omega arith)
    (λ _. by_test AtMostThree (λ _. omega arith) (λ _. by_test AtMostThree (λ _. omega arith) (λ _. by_test AtMostThree (λ _. omega arith) (λ _. omega arith))))

three_bytes : (l : List ℕ) (at : ℕ) → at + 3 ≤ length l → drop at l ≡ tag_at l at ∷ get_or l (at + 1) 0 ∷ get_or l (at + 2) 0 ∷ drop (at + 3) l
three_bytes l at h =
    let a : suc at ≡ at + 1 = omega arith in
    let b : suc (at + 1) ≡ at + 2 = omega arith in
    let d : suc (at + 2) ≡ at + 3 = omega arith in
    rw (drop-cons l at 0 (omega arith), a, drop-cons l (at + 1) 0 (omega arith), b, drop-cons l (at + 2) 0 (omega arith), d)

-- A field that lies within the list and whose length is k.
module _ (l : List ℕ) (at k : ℕ) (h : behind l at ≤ length l) (e : length_at l at ≡ k) where
  whole_length : length (contents_at l at) ≡ k
  whole_length = length-take-le (length_at l at) (drop (at + 3) l) (rw length-drop (omega arith)) ∙ e

  whole_contents : drop (at + 3) l ≡ contents_at l at ++ drop (behind l at) l
  whole_contents = sym (take-append-drop (length_at l at) (drop (at + 3) l)) ∙ ap (λ s. contents_at l at ++ s) (drop-drop (length_at l at) (at + 3) l)

  -- The high byte of so small a length is 0.
  whole_bytes : k ≤ 3 → drop at l ≡ tag_at l at ∷ 0 ∷ k ∷ (contents_at l at ++ drop (behind l at) l)
  whole_bytes f =
      let high : get_or l (at + 1) 0 ≡ 0 = omega arith in
      let low : get_or l (at + 2) 0 ≡ k = omega arith in
      three_bytes l at (omega arith) ∙ (λ i. tag_at l at ∷ high i ∷ low i ∷ whole_contents i)

-- ── what is read as events is their bytes ──

-- what is known of the bytes from an offset on, by what stands there
abbrev NextBytes : List ℕ → ℕ → Next → Type 0
NextBytes l at (Ok None) = length l ≤ at
NextBytes l at (Err s) = Unit {0}
NextBytes l at (Ok (Some (e, p))) = (drop at l ≡ event_field e ++ drop p l) × FitsBytes e × (at < p)

next_bytes : (l : List ℕ) (at : ℕ) → AllBytes l → NextBytes l at (next_at l at)
unfolding next_at checked event_field
next_bytes l at b =
    by_test (NextBytes l at)
    (λ m. leb-true (length l) at m)
    (λ m. by_test (NextBytes l at) (λ u. tt) (λ u. by_test (NextBytes l at) (λ t. tt) (λ t. by_test (NextBytes l at) (λ w. tt) (λ w. got u t w))))
  where
    got : cut_short l at ≡ false → not (event_tag (tag_at l at)) ≡ false → not (eqb (length_at l at) (length_of (tag_at l at))) ≡ false →
        NextBytes l at (Ok (Some (event_of (tag_at l at) (contents_at l at), behind l at)))
    got u t w =
        let h = uncut l at u in
        let d = eqb-true (length_at l at) (length_of (tag_at l at)) (not-false _ w) in
        let c = whole_length l at (length_of (tag_at l at)) h d in
        let a = contents_bytes l at b in
        let o = same_bytes.only (tag_at l at) (contents_at l at) (not-false _ t) c a in
        (rw (o.0, o.1, c) (whole_bytes l at (length_of (tag_at l at)) h d (short_contents (tag_at l at))), rw o.1 a, omega arith)

-- the bytes from an offset on are those of these events
abbrev BytesOf : List ℕ → ℕ → List Event → Type 0
BytesOf l at es = (drop at l ≡ concat_map event_field es) × All FitsBytes es

read_bytes : (k : ℕ) (l : List ℕ) (at : ℕ) → AllBytes l → length l ≤ at + k → (read_from k l at).ending ≡ complete → BytesOf l at (read_from k l at).events
unfolding read_from
read_bytes zero l at b h c = (drop_of_length-le l {i = at} (omega arith), tt)
read_bytes (suc k) l at b h c = by (next_at l at) (next_bytes l at b) (λ p. read_bytes k l p b) c
  where
    by : (x : Next) → NextBytes l at x → ((p : ℕ) → length l ≤ p + k → (read_from k l p).ending ≡ complete → BytesOf l p (read_from k l p).events) →
        (onward at x (read_from k l)).ending ≡ complete → BytesOf l at (onward at x (read_from k l)).events
    by (Ok None) g r q = (drop_of_length-le l g, tt)
    by (Err s) g r q = let z : ◌≡◌ {A = ℕ} 0 1 = cc in absurd (omega arith)
    by (Ok (Some (e, p))) g r q = let z = r p (omega arith) q in (g.0 ∙ ap (λ s. event_field e ++ s) z.0, (g.1, z.1))

rest_bytes : (l : List ℕ) (at : ℕ) → AllBytes l → (rest l at).ending ≡ complete → BytesOf l at (rest l at).events
unfolding rest
rest_bytes l at b c = read_bytes (length l) l at b (omega arith) c

-- ── and what is read as a first field is its bytes ──

-- what is known of a list by what its first field says
abbrev FirstBytes : List ℕ → First → Type 0
FirstBytes l (Err s) = Unit {0}
FirstBytes l (Ok (n, lim)) = IsFirstTag (tag_at l 0) × (n < 256) × (l ≡ opening_field (tag_at l 0) n ++ drop (behind l 0) l) × (length l ≤ max_bytes)

either_tag : (t : ℕ) → first_tag t ≡ true → IsFirstTag t
either_tag t e = by (eqb t 0x01) (eqb t 0x02) refl refl e
  where
    by : (p q : Bool) → eqb t 0x01 ≡ p → eqb t 0x02 ≡ q → (p || q) ≡ true → IsFirstTag t
    by true q a b d = inl (eqb-true t 0x01 a)
    by false true a b d = inr (eqb-true t 0x02 b)
    by false false a b d = absurd (true≢false (sym d))

one_byte : (c : List ℕ) → length c ≡ 1 → AllBytes c → (get_or c 0 0 < 256) × (c ≡ get_or c 0 0 ∷ [])
one_byte [] e a = absurd (omega arith)
one_byte (x ∷ []) e a = (a.0, refl)
one_byte (x ∷ y ∷ c) e a = absurd (omega arith)

nodes_bytes : (l : List ℕ) (n : ℕ) (lim : Limits) → FirstBytes l (Ok (n, lim)) → FirstBytes l (nodes_of lim n)
unfolding nodes_of
nodes_bytes l n lim g = by_test (FirstBytes l) (λ _. tt) (λ _. g)

first_bytes : (l : List ℕ) → AllBytes l → FirstBytes l (first_of l)
unfolding first_of checked
first_bytes l b =
    by_test (FirstBytes l)
    (λ m. tt)
    (λ m. by_test (FirstBytes l) (λ u. tt) (λ u. by_test (FirstBytes l) (λ t. tt) (λ t. by_test (FirstBytes l) (λ w. tt) (λ w. good m u t w))))
  where
    good : ltb max_bytes (length l) ≡ false → cut_short l 0 ≡ false → not (first_tag (tag_at l 0)) ≡ false → not (eqb (length_at l 0) (length_of (tag_at l 0))) ≡ false →
        FirstBytes l (nodes_of (limits_of (tag_at l 0)) (get_or (contents_at l 0) 0 0))
    good m u t w =
        let o = either_tag (tag_at l 0) (not-false _ t) in
        let h = uncut l 0 u in
        let d : length_at l 0 ≡ 1 = eqb-true (length_at l 0) (length_of (tag_at l 0)) (not-false _ w) ∙ opening_length (tag_at l 0) o in
        let c = one_byte (contents_at l 0) (whole_length l 0 1 h d) (contents_bytes l 0 b) in
        let p = whole_bytes l 0 1 h d (omega arith) ∙ ap (λ s. tag_at l 0 ∷ 0 ∷ 1 ∷ (s ++ drop (behind l 0) l)) c.1 in
        nodes_bytes l (get_or (contents_at l 0) 0 0) (limits_of (tag_at l 0)) (o, c.0, p, ltb-false max_bytes (length l) m)

-- l is exactly the bytes of a first field with n and of the events of r
pub record FieldsOnly (l : List ℕ) (n : ℕ) (r : Reading) : Type 0 where
  pub tag : IsFirstTag (tag_at l 0)
  pub nodes : n < 256
  pub fit : All FitsBytes r.events
  pub bytes : l ≡ list_bytes (tag_at l 0) n r.events
  pub long : length l ≤ max_bytes

pub fields_only : (l : List ℕ) (n : ℕ) (lim : Limits) (r : Reading) → AllBytes l → reading l ≡ begun n lim r → r.ending ≡ complete → FieldsOnly l n r
unfolding reading list_bytes
fields_only l n lim r b e c = by (first_of l) (first_bytes l b) e
  where
    by : (x : First) → FirstBytes l x → listed l x ≡ begun n lim r → FieldsOnly l n r
    by (Err s) g q = let z : ◌≡◌ {A = ℕ} 0 1 = cc in absurd (omega arith)
    by (Ok (m, k)) g q =
        let i : m ≡ n = cc in
        let p : rest l (behind l 0) ≡ r = cc in
        let z : BytesOf l (behind l 0) r.events = rw p at (rest_bytes l (behind l 0) b (ap (λ s. s.ending) p ∙ c)) in
        record {
          tag = g.0;
          nodes = rw i at g.1;
          fit = z.1;
          bytes = g.2 ∙ (λ j. opening_field (tag_at l 0) (i j) ++ z.0 j);
          long = g.3;
        }
