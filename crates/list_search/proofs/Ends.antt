-- The first search, a search of the empty list, a refused one; and the pieces put together.
use Prim.Native.Nat.{ℕ, zero, suc, ◌+◌, ◌-◌, ◌^◌, ◌≤◌, ◌<◌}
use native.Mathlib.Omega.{arith}
use mathlib.Core.Bool.{true, false}
use mathlib.Core.Logic.{◌⊎◌, inl, inr}
use mathlib.Core.Path.{◌≡◌, refl, sym, ◌∙◌, ap, subst}
use mathlib.Core.List.{List, [], ◌∷◌, ◌++◌, append_assoc, append-nil}
use lib.Dec.{eqb}
use lib.ListN.{length, take, get_or, length-append}
use lib.Seq.{length-take-le}
use borrow.Author.Tests.{ne_eqb, clash}
use Rattle.std.specs.Prelude.{Option, None, Some, IfSome, IsSome}
use Rattle.std.specs.Option.{unwrap_or}
use Rattle.model.specs.Range.{TwoPairs}
use Rattle.model.specs.Limits.{tower}
use Rattle.model.specs.Pick.{pick_true, pick_false}
use Rattle.model.specs.State.{start, counts_of, in_range, first_of, view}
use Rattle.model.specs.declared.Table.{Table}
use Rattle.machine.specs.Stepped.{starting_table}
use Rattle.packed.proofs.Turns.{same_start}
use Rattle.model.proofs.InRange.{stays_in_range}
use Rattle.listing.specs.Ascii.{bytes}
use Rattle.listing.specs.Printing.{Wrote}
use Rattle.listing.specs.declared.buffer.TextBuffer.{TextBuffer}
use Rattle.packed.specs.Seen.{seen_waiting}
use Rattle.short_lists_text.specs.Text.{count_line, fits, text_of}
use Rattle.short_lists_text.proofs.Few.{few_lists}
use Rattle.short_lists_text.proofs.Refuses.{fits_are, stopped}
use Rattle.list_search.specs.declared.Search.{Search}
use Rattle.list_search.specs.declared.Piece.{Piece}
use Rattle.list_search.specs.Stack.{Frame, frame, path, lists_left, stack_text}
use Rattle.list_search.specs.Line.{beginning}
use Rattle.list_search.specs.Search.{no_level, frame_of, frames_of, stack_of, missing, text_left, text_from, SoundLevel, Going, Sound, First, Begun, Gave, GaveInto, Call, written_by, Calls, search_after, EndsLine, AllPieces}
use Rattle.list_search.proofs.Stack.{all_left, whole_text, left_given, left_none, text_given, text_over}
use Rattle.list_search.proofs.Lines.{line_empty}
use Rattle.list_search.proofs.Loop.{text_of_lem, ends_after, count_ends}

-- ── the first search ──

pub lowest_state : (n : ℕ) (t : Table) (ws : List ℕ) → t ≡ starting_table n tower → view t ≡ start n tower → seen_waiting n tower t.nodes ws 0 ≡ start n tower
unfolding first_of counts_of
lowest_state n t ws e v = ap (λ (u : Table). seen_waiting n tower u.nodes ws 0) e ∙ same_start (starting_table n tower) ws refl ∙ ap view (sym e) ∙ v

module _ (n k : ℕ) (s : Search) (f : First n k s) where
  stack_is : stack_of s ≡ frame (start n tower) 0 ∷ []
  unfolding frames_of
  stack_is = rw (f.height, f.nodes, f.lowest.state, f.lowest.tried)

  missing_is : missing s ≡ k
  missing_is = let a = f.height in let b = f.events in omega (arith, a, b)

  module _ (low : 1 ≤ n) (high : n ≤ 3) (long : k ≤ 7) where
    top_is : SoundLevel s.n (path (frames_of s.n s.levels 0)) (get_or s.levels 0 no_level)
    unfolding frames_of path beginning
    top_is =
        let w = f.lowest in
        record {
          nodes = w.nodes;
          words = w.words;
          range = rw f.nodes (ap in_range w.state ∙ stays_in_range.starts TwoPairs n tower (record { within = refl; pair = refl; low = low; high = omega (arith, high) }));
          within = rw w.tried (omega arith);
          space = w.space;
          end = rw w.end (omega arith);
          line = rw w.end;
        }

    below_is : (j : ℕ) → s.length ≡ j → (0 < s.length) ⊎ ((s.length ≡ 0) × (◌≡◌ {A = ℕ} 0 0))
    below_is zero e = inr (e, refl)
    below_is (suc j) e = inl (omega (arith, e))

    going_is : Going s 0
    going_is = record {
      some = rw f.nodes low;
      few = rw f.nodes high;
      long = rw f.events long;
      levels = f.levels;
      height = f.height;
      below = below_is s.length refl;
      beneath = tt;
      top = top_is;
      count = let c = few_lists.few n k low high long in rw (f.given, missing_is, stack_is, all_left k (start n tower)) (omega (arith, c));
    }

    pub first_sound : Sound s
    first_sound = let z : s.height - 1 ≡ 0 = let a = f.height in omega (arith, a) in inr (subst (Going s) (sym z) going_is)

    pub first_text : text_left s ≡ stack_text 0 k (frame (start n tower) 0 ∷ [])
    unfolding text_left
    first_text =
        let z : eqb s.n 0 ≡ false = let a = f.nodes in ne_eqb s.n 0 (λ q. absurd (omega (arith, a, low, q))) in
        rw (z, pick_false, f.given, missing_is, stack_is)

module _ (l : List ℕ) (s : Search) where
  -- of an input that is refused
  pub begun_refused : fits l ≡ false → First 0 0 s → Begun l s
  unfolding text_left text_of
  begun_refused q f = record { sound = inl f.nodes; text = rw (q, f.nodes, pick_false, pick_true) }

  pub begun_fits : fits l ≡ true → First (get_or l 0 0) (get_or l 1 0) s → Begun l s
  begun_fits q f =
      let a = fits_are 7 l q in
      record { sound = first_sound (get_or l 0 0) (get_or l 1 0) s f a.0 a.1 a.2; text = first_text (get_or l 0 0) (get_or l 1 0) s f a.0 a.1 a.2 ∙ sym (whole_text l q) }

-- ── pieces that are not the loop's ──

pub refused_text : (s : Search) → s.n ≡ 0 → text_left s ≡ bytes "stopped 0 16\n"
unfolding text_left
refused_text s q = rw (q, pick_true) stopped

pub refused_line_lem : EndsLine (bytes "stopped 0 16\n")
refused_line_lem = record { before = bytes "stopped 0 16"; is = refl }

pub empty_lines : (k : ℕ) → EndsLine (bytes "\n" ++ count_line k)
empty_lines k = ends_after (bytes "\n") (count_line k) (count_ends k)

-- the one list of no events, and then the last line
module _ (s : Search) (h : ℕ) (c : Going s h) (z : s.length ≡ 0) where
  lowest_one : h ≡ 0
  lowest_one = by c.below
    where
      by : (h < s.length) ⊎ ((s.length ≡ 0) × (h ≡ 0)) → h ≡ 0
      by (inl q) = absurd (omega (arith, q, z))
      by (inr q) = q.1

  abbrev top : Frame
  top = frame_of s.n (get_or s.levels h no_level)

  frames_are : frames_of s.n s.levels h ≡ []
  unfolding frames_of
  frames_are = rw lowest_one

  none_missing : s.length - h ≡ 0
  none_missing = omega (arith, z)

  one_left : lists_left (s.length - h) (top ∷ frames_of s.n s.levels h) ≡ [] ∷ []
  unfolding path
  one_left = rw (none_missing, frames_are) (left_given top [] ∙ ap (λ l. [] ∷ l) (left_none 1))

  pub empty_text : text_left s ≡ bytes "\n" ++ count_line (s.given + 1)
  empty_text =
      text_of_lem s h c ∙ text_given s.given (s.length - h) 1 (top ∷ frames_of s.n s.levels h) [] [] (one_left ∙ ap (λ l. [] ∷ l) (sym (left_none 1)))
      ∙ ap (λ l. l ++ stack_text (s.given + 1) 1 []) line_empty ∙ ap (λ l. bytes "\n" ++ l) (text_over (s.given + 1) 1 [] (left_none 1))

  pub empty_count : s.given + 1 < 2 ^ 32
  unfolding frames_of
  empty_count =
      let y : s.height ≡ suc h = let a = c.height in omega (arith, a) in
      let m : s.length + 1 - suc h ≡ s.length - h = omega arith in
      let d = rw (y, m) at c.count in
      let e = ap length one_left in
      omega (arith, d, e)

-- the whole text is one piece
pub gave_whole : (s : Search) {b o : TextBuffer} (x : List ℕ) → text_left s ≡ x → b.end ≡ 0 → Wrote b x o → 1 ≤ length x → EndsLine x → GaveInto s b (record { written = o.end; next = None }) o
gave_whole s {b} {o} x q z w l e =
    let a = rw z at w.appended in
    record {
      same = w.same;
      gave = record {
        text = q ∙ sym a.text ∙ sym (append-nil (take o.end o.bytes.now));
        fits = a.fits;
        some = let n = a.next in omega (arith, n, l);
        lines = subst EndsLine (sym a.text) e;
        sound = tt;
      };
    }

pub not_refused : (s : Search) → Sound s → (s.n ≡ 0 → ⊥) → Going s (s.height - 1)
not_refused s (inl q) d = absurd (d q)
not_refused s (inr g) d = g

-- ── the pieces put together ──

-- after a piece less is left
pub less_left : (s : Search) (o : List ℕ) (p : Piece) (n : Search) → Gave s o p → p.next ≡ Some n → length (text_left n) < length (text_left s)
less_left s o p n g d =
    let t : text_left s ≡ take p.written o ++ text_left n = rw d at g.text in
    let e = ap length t in
    let a = length-append (take p.written o) (text_left n) in
    let w : length (take p.written o) ≡ p.written = length-take-le p.written o g.fits in
    let i = g.some in
    omega (arith, e, a, w, i)

-- of a piece that gives a search
next_text : (o : Option Search) (s : Search) → IsSome o → text_from o ≡ text_left (unwrap_or o s)
next_text None s i = absurd (clash i)
next_text (Some n) s i = refl

next_sound : (o : Option Search) (s : Search) → IsSome o → IfSome o Sound → Sound (unwrap_or o s)
next_sound None s i h = absurd (clash i)
next_sound (Some n) s i h = h

sound_again : (s : Search) (cs : List Call) → Sound s → Calls s cs → Sound (search_after s cs)
sound_again s [] h a = h
sound_again s (c ∷ cs) h a = sound_again (unwrap_or c.piece.next s) cs (next_sound c.piece.next s a.1 a.0.sound) a.2

part_of : (s : Search) (cs : List Call) → Calls s cs → text_left s ≡ written_by cs ++ text_left (search_after s cs)
part_of s [] a = refl
part_of s (c ∷ cs) a =
    let w = take c.piece.written c.buffer in
    a.0.text ∙ ap (λ l. w ++ l) (next_text c.piece.next s a.1 ∙ part_of (unwrap_or c.piece.next s) cs a.2) ∙ sym (append_assoc w (written_by cs) (text_left (search_after s (c ∷ cs))))

written_more : (cs : List Call) (c : Call) → written_by (cs ++ (c ∷ [])) ≡ written_by cs ++ take c.piece.written c.buffer
written_more [] c = append-nil (take c.piece.written c.buffer)
written_more (d ∷ cs) c = rw (written_more cs c, append_assoc)

each_writes : (s : Search) (cs : List Call) → Calls s cs → length cs ≤ length (written_by cs)
each_writes s [] a = omega arith
each_writes s (c ∷ cs) a =
    let i = each_writes (unwrap_or c.piece.next s) cs a.2 in
    let w : length (take c.piece.written c.buffer) ≡ c.piece.written = length-take-le c.piece.written c.buffer a.0.fits in
    let o = a.0.some in
    simp length-append (omega (arith, i, w, o))

pub pieces_make_text : AllPieces
pieces_make_text l s b = record {
  whole = λ cs c a g d. written_more cs c ∙ ap (λ x. written_by cs ++ x) (sym (append-nil _) ∙ sym (rw d at g.text)) ∙ sym (part_of s cs a) ∙ b.text;
  part = λ cs a. sym b.text ∙ part_of s cs a;
  again = λ cs a. sound_again s cs b.sound a;
  ends = λ cs a. let e = ap length (sym b.text ∙ part_of s cs a) in let w = each_writes s cs a in let p = length-append (written_by cs) (text_left (search_after s cs)) in omega (arith, e, w, p);
}
