-- What a field is, by the bytes at its offset; and that what the reader's inner functions answer is what the definitions say: laws for the proofs of `event_at`,
-- `first_of` and other readers of a field.
use Prim.Native.Nat.{ℕ, suc, ◌+◌, ◌-◌, ◌≤◌, ◌<◌}
use native.Mathlib.Omega.{arith}
use mathlib.Core.Path.{◌≡◌, refl, sym, ◌∙◌, ap}
use mathlib.Core.Bool.{Bool, true, false, ◌&&◌, not, ◌||◌, true≢false}
use mathlib.Core.List.{List, [], ◌∷◌, ◌++◌}
use lib.ListN.{get_or, length, take, drop, length-append, length-drop}
use lib.Seq.{length-take-le, take-append-le}
use lib.Dec.{eqb, leb, ltb}
use borrow.Author.Tests.{le-ltb, lt-ltb, le-leb, lt-leb, leb-true, leb-false, ltb-false}
use Rattle.std.specs.Prelude.{Option, Some, None, Result, Ok, Err}
use Rattle.model.specs.Pick.{pick, by_test}
use Rattle.model.specs.declared.Limits.{Limits}
use Rattle.model.specs.declared.Event.{Event}
use Rattle.event_list.specs.declared.Stop.{Stop}
use Rattle.event_list.specs.declared.Stop.TheVariants.{TooLong, CutShort, WrongTag, WrongLength, WrongCount}
use Rattle.event_list.specs.declared.Field.{Field}
use Rattle.event_list.specs.Format.{stop_number, max_bytes, between, two_bytes, tag_at, length_at, contents_at, behind, event_tag, length_of, event_of, cut_short, field_at, checked, Next, next_at, First, nodes_of, first_of}
use Rattle.event_list.specs.Parts.{sized, decoded, counted_in, first_in}

-- What cannot lie between two ends does not.
pub not_between : (a b x : ℕ) → (a ≤ x → x ≤ b → ⊥) → between a b x ≡ false
not_between a b x h = by (leb a x) (leb x b) refl refl
  where
    by : (p q : Bool) → leb a x ≡ p → leb x b ≡ q → (p && q) ≡ false
    by false q e f = refl
    by true false e f = refl
    by true true e f = absurd (h (leb-true a x e) (leb-true x b f))

-- ── what stands at an offset ──

neither : (p q : Bool) → (p || q) ≡ false → (p ≡ false) × (q ≡ false)
neither false q e = (refl, e)
neither true q e = absurd (true≢false e)

-- A field that is not cut short lies within the list.
pub uncut : (l : List ℕ) (at : ℕ) → cut_short l at ≡ false → behind l at ≤ length l
unfolding cut_short
uncut l at e =
    let f = neither (ltb (length l - at) 3) (ltb (length l - (at + 3)) (length_at l at)) e in
    let h = ltb-false (length l - at) 3 f.0 in
    let k = ltb-false (length l - (at + 3)) (length_at l at) f.1 in
    omega arith

-- No bytes are a field cut short.
pub cut_empty : (l : List ℕ) → length l ≤ 0 → cut_short l 0 ≡ true
unfolding cut_short
cut_empty l z = let k = lt-ltb (length l - 0) 3 (omega arith) in rw k

-- a field that is there whole: its tag, and where its contents start and end
pub record Found (l : List ℕ) (at t s e : ℕ) : Type 0 where
  pub more : at < length l
  pub uncut : cut_short l at ≡ false
  pub tag : t ≡ tag_at l at
  pub start : s ≡ at + 3
  pub end : e ≡ behind l at
  pub inside : e ≤ length l

-- what each answer of `field_at` says
abbrev pub Seen : List ℕ → ℕ → Result (Option Field) Stop → Type 0
Seen l at (Ok None) = length l ≤ at
Seen l at (Err s) = (at < length l) × (cut_short l at ≡ true) × (s ≡ CutShort)
Seen l at (Ok (Some f)) = Found l at f.tag f.start f.end

seen_at : (l : List ℕ) (at : ℕ) → Seen l at (field_at l at)
unfolding field_at
seen_at l at =
    by_test (Seen l at)
    (λ m. leb-true (length l) at m)
    (λ m.
    by_test (Seen l at)
    (λ u. (leb-false (length l) at m, u, refl))
    (λ u. record { more = leb-false (length l) at m; uncut = u; tag = refl; start = refl; end = refl; inside = uncut l at u }))

-- The same for an answer x of `field_at`.
module _ (l : List ℕ) (at : ℕ) {x : Result (Option Field) Stop} (e : x ≡ field_at l at) where
  pub seen : {o p : Option Field} → x ≡ Ok o → o ≡ p → Seen l at (Ok p)
  seen {o} {p} f g = let w : field_at l at ≡ Ok p = sym e ∙ (f ∙ ap Ok g) in rw w at (seen_at l at)

  pub seen_short : {s : Stop} → x ≡ Err s → (at < length l) × (cut_short l at ≡ true) × (s ≡ CutShort)
  seen_short {s} f = let w : field_at l at ≡ Err s = sym e ∙ f in rw w at (seen_at l at)

-- what stands at an offset where a whole field says this and ends there
abbrev pub placed : Result Event Stop → ℕ → Next
placed (Ok v) e = Ok (Some (v, e))
placed (Err s) e = Err s

-- what a first field says whose contents say this
abbrev pub first_then : Limits → Result ℕ Stop → First
first_then lim (Ok n) = nodes_of lim n
first_then lim (Err s) = Err s

module _ (l : List ℕ) (at : ℕ) where
  pub next_end : length l ≤ at → next_at l at ≡ Ok None
  unfolding next_at pick
  next_end h = rw (le-leb (length l) at h)

  pub next_short : at < length l → cut_short l at ≡ true → next_at l at ≡ Err CutShort
  unfolding next_at checked pick
  next_short h k = rw (lt-leb (length l) at h, k)

  module _ (t s e : ℕ) (f : Found l at t s e) where
    -- A whole field's contents are as long as it says.
    pub own_length : length (contents_at l at) ≡ length_at l at
    own_length = length-take-le (length_at l at) (drop (at + 3) l) (rw length-drop (omega arith))

    pub own_part : take (e - s) (drop s l) ≡ contents_at l at
    own_part = let k : e - s ≡ length_at l at = omega arith in rw (k, f.start)

    pub next_whole : next_at l at ≡ placed (decoded t (take (e - s) (drop s l))) e
    unfolding next_at checked decoded sized pick
    next_whole =
        rw (lt-leb (length l) at f.more, f.uncut, own_part, own_length, f.tag, f.end)
        (by (not (event_tag (tag_at l at))) (not (eqb (length_at l at) (length_of (tag_at l at)))))
      where
        by : (a b : Bool) → pick a (Err WrongTag) (pick b (Err WrongLength) (Ok (Some (event_of (tag_at l at) (contents_at l at), behind l at))))
            ≡ placed (pick a (Err WrongTag) (pick b (Err WrongLength) (Ok (event_of (tag_at l at) (contents_at l at))))) (behind l at)
        by true b = refl
        by false true = refl
        by false false = refl

module _ (l : List ℕ) where
  pub first_long : max_bytes < length l → first_of l ≡ Err TooLong
  unfolding first_of pick
  first_long h = rw (lt-ltb max_bytes (length l) h)

  module _ (h : length l ≤ max_bytes) where
    pub first_short : cut_short l 0 ≡ true → first_of l ≡ Err CutShort
    unfolding first_of checked pick
    first_short k = rw (le-ltb max_bytes (length l) h, k)

    pub first_empty : length l ≤ 0 → first_of l ≡ Err CutShort
    first_empty z = first_short (cut_empty l z)

    pub first_whole : (t s e : ℕ) → Found l 0 t s e → first_of l ≡ first_in t (take (e - s) (drop s l))
    unfolding first_of checked counted_in first_in pick
    first_whole t s e f = rw (le-ltb max_bytes (length l) h, f.uncut, own_part l 0 t s e f, own_length l 0 t s e f, f.tag)

-- the first field's n, by its length
module _ (wanted : ℕ) (lim : Limits) (c : List ℕ) {b : ℕ} (f : b ≡ get_or c 0 0) where
  counted_by : (t : Bool) → pick t (Err WrongLength) (nodes_of lim b) ≡ first_then lim (pick t (Err WrongLength) (Ok b))
  unfolding pick
  counted_by true = refl
  counted_by false = refl

  pub counted_by_sized : {x : Result ℕ Stop} → x ≡ sized (length c) wanted b → counted_in wanted lim c ≡ first_then lim x
  unfolding counted_in sized
  counted_by_sized e = rw (e, ← f) (counted_by (not (eqb (length c) wanted)))

-- ── bytes behind a field that is there whole ──

module _ (a b c : ℕ) where
  whole : (r : List ℕ) → two_bytes b c ≤ length r → cut_short (a ∷ b ∷ c ∷ r) 0 ≡ false
  unfolding cut_short
  whole r h = rw (le-ltb (suc (suc (suc (length r))) - 0) 3 (omega arith), le-ltb (suc (suc (suc (length r))) - 3) (two_bytes b c) (omega arith))

  fits : (r : List ℕ) → cut_short (a ∷ b ∷ c ∷ r) 0 ≡ false → two_bytes b c ≤ length r
  unfolding cut_short
  fits r e =
      let k = ltb-false (suc (suc (suc (length r))) - 3) (two_bytes b c) (rw (le-ltb (suc (suc (suc (length r))) - 0) 3 (omega arith)) at e) in
      omega arith

-- They change none of its grounds, and nothing that is made of its tag, its contents and where it ends.
module _ {A : Type 0} (tags : ℕ → Bool) (long : ℕ → ℕ) (stop : Stop → A) (good : ℕ → List ℕ → ℕ → A) where
  abbrev read : List ℕ → A
  read f = checked tags long f 0 stop (good (tag_at f 0) (contents_at f 0) (behind f 0))

  same_read : (a b c : ℕ) (r g : List ℕ) → two_bytes b c ≤ length r → read (a ∷ b ∷ c ∷ (r ++ g)) ≡ read (a ∷ b ∷ c ∷ r)
  unfolding checked
  same_read a b c r g h =
      let l : two_bytes b c ≤ length (r ++ g) = simp length-append (omega arith) in
      rw (whole a b c r h, whole a b c (r ++ g) l, take-append-le (two_bytes b c) r g h)

  pub checked_alone : (f g : List ℕ) → cut_short f 0 ≡ false → read (f ++ g) ≡ read f
  unfolding cut_short
  checked_alone [] g h = absurd (true≢false h)
  checked_alone (a ∷ []) g h = absurd (true≢false h)
  checked_alone (a ∷ b ∷ []) g h = absurd (true≢false h)
  checked_alone (a ∷ b ∷ c ∷ r) g h = same_read a b c r g (fits a b c r h)

-- ── its grounds ──

-- no ground of a field has the number 0
pub refuses : (s : Stop) → stop_number s ≡ 0 → ⊥
refuses TooLong z = omega arith
refuses CutShort z = omega arith
refuses WrongTag z = omega arith
refuses WrongLength z = omega arith
refuses WrongCount z = omega arith
