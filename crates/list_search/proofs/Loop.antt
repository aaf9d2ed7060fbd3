-- What the search's loop keeps, turn by turn. The topmost level stands in its locals: t.
use Prim.Native.Nat.{ℕ, zero, suc, ◌+◌, ◌-◌, ◌%◌, ◌^◌, ◌≤◌, ◌<◌}
use native.Mathlib.Omega.{arith}
use mathlib.Core.Bool.{false}
use mathlib.Core.Logic.{◌⊎◌, inl, inr}
use mathlib.Core.Path.{◌≡◌, refl, sym, ◌∙◌, ap, subst}
use mathlib.Core.List.{List, [], ◌∷◌, ◌++◌, append_assoc, append-nil}
use lib.Dec.{eqb}
use lib.ListN.{length, take, get_or, set, length-set, length-append}
use lib.Seq.{get_or-set_same, get_or-set_other}
use borrow.Author.Tests.{le-leb, lt-leb, ne_eqb}
use Rattle.std.specs.Prelude.{None, Some, Ok, Err}
use Rattle.model.specs.Range.{TwoPairs}
use Rattle.model.specs.Limits.{tower}
use Rattle.model.specs.Pick.{pick_false}
use Rattle.model.specs.Counts.{no_counts}
use Rattle.model.specs.State.{State, counts_of, counts_aside}
use Rattle.model.specs.Answers.{refusal_number}
use Rattle.model.specs.Step.{Result, refused, accepted, step, actor, sent, pair_at_end, effect, reaction_to}
use Rattle.model.specs.declared.Mark.{Mark}
use Rattle.model.specs.declared.Node.{Node}
use Rattle.model.specs.declared.Event.{Event}
use Rattle.model.specs.declared.Reaction.{Reaction}
use Rattle.model.specs.declared.Refusal.{Refusal}
use Rattle.model.proofs.Waiting.{waiting_in}
use Rattle.model.proofs.Fields.{in_range_pair}
use Rattle.model.proofs.Aside.{waiting_small, waiting_below, in_range_base}
use Rattle.listing.specs.Ascii.{bytes}
use Rattle.listing.specs.Decimal.{decimal}
use Rattle.listing.specs.Lines.{row}
use Rattle.listing.specs.Printing.{Appended}
use Rattle.packed.specs.Seen.{seen_waiting}
use Rattle.machine.specs.Parts.{without, Room, left_of}
use Rattle.packed.specs.declared.Ruling.{Ruling}
use Rattle.packed.specs.Packed.{queue, Ruled}
use Rattle.packed.proofs.Turns.{Ready, refused_step, has_room, end_below, step_accepts, next_is, ready_again}
use Rattle.short_lists_text.specs.Lists.{lists_from}
use Rattle.short_lists_text.proofs.Aside.{keeps_room, lists_aside}
use Rattle.short_lists_text.specs.Text.{event_text, list_line, count_line}
use Rattle.list_events.specs.Events.{size_of, event_at}
use Rattle.list_search.specs.declared.Level.{Level}
use Rattle.list_search.specs.declared.Search.{Search}
use Rattle.list_search.specs.Stack.{Frame, frame, path, lists_left, stack_text}
use Rattle.list_search.specs.Line.{beginning}
use Rattle.list_search.specs.Search.{no_level, frame_of, frames_of, text_left, SoundLevel, SoundBelow, Going, EndsLine, Gave}
use Rattle.list_search.proofs.Stack.{turns_left, text_same, text_over, text_given, left_none, gone, passed_by, gone_up, gave_one, path_passed}
use Rattle.list_search.proofs.Lines.{beginning_more, line_ends}

-- ── the levels below one that is stored ──

frames_below : (n : ℕ) (ls : List Level) (k : ℕ) (l : Level) (h : ℕ) → h ≤ k → frames_of n (set ls k l) h ≡ frames_of n ls h
unfolding frames_of
frames_below n ls k l zero q = refl
frames_below n ls k l (suc h) q = rw (get_or-set_other ls k h l no_level (λ z. absurd (omega arith)), frames_below n ls k l h (omega arith))

sound_below : (n : ℕ) (ls : List Level) (k : ℕ) (l : Level) (h : ℕ) → h ≤ k → SoundBelow n ls h → SoundBelow n (set ls k l) h
sound_below n ls k l zero q b = tt
sound_below n ls k l (suc h) q b =
    rw (get_or-set_other ls k h l no_level (λ z. absurd (omega arith)), frames_below n ls k l h (omega arith)) (b.0, b.1, sound_below n ls k l h (omega arith) b.2)

path_long : (n : ℕ) (ls : List Level) (h : ℕ) → length (path (frames_of n ls h)) ≡ h
unfolding frames_of path
path_long n ls zero = refl
path_long n ls (suc h) = simp length-append (omega (arith, path_long n ls h))

-- ── what is kept ──

-- one more event was tried on it
abbrev pub onward : Level → Level
onward t = record { nodes = t.nodes; words = t.words; waiting = t.waiting; tried = t.tried + 1; line = t.line; end = t.end }

-- x: the text that the search gave at first; o: the buffer; h: how many levels stand below; g: how many lists were given; at: how many bytes were written
pub record Kept (x o : List ℕ) (n len : ℕ) (ls : List Level) (h : ℕ) (t : Level) (g at : ℕ) : Type 0 where
  pub some : 1 ≤ n
  pub few : n ≤ 3
  pub long : len ≤ 7
  pub levels : length ls ≡ 7
  pub below : h < len
  pub beneath : SoundBelow n ls h
  pub top : SoundLevel n (path (frames_of n ls h)) t
  pub count : g + length (lists_left (len - h) (frame_of n t ∷ frames_of n ls h)) < 2 ^ 32
  pub size : length o ≡ 65536
  pub space : at ≤ 65408
  pub text : x ≡ take at o ++ stack_text g (len - h) (frame_of n t ∷ frames_of n ls h)

abbrev pub turns_of : ℕ → ℕ → List Level → ℕ → Level → ℕ
turns_of n len ls h t = turns_left (len - h) (frame_of n t ∷ frames_of n ls h)

-- the level's table, with the counts of what waits, is ready for a turn
abbrev pub ReadyLevel : ℕ → Level → Type 0
ReadyLevel n t = Ready n tower t.nodes t.words t.waiting (counts_of (queue t.words t.waiting)) no_counts no_counts

pub ready : (n : ℕ) (p : List Event) (t : Level) → SoundLevel n p t → ReadyLevel n t
ready n p t s = record { words = s.words; nodes = s.nodes; range = s.range }

module _ {x o : List ℕ} {n len : ℕ} {ls : List Level} {g at : ℕ} where
  -- ── all events were tried ──

  -- on the lowest table: the last line is left
  last_line : {t : Level} → Kept x o n len ls 0 t g at → size_of n ≤ t.tried → x ≡ take at o ++ count_line g
  unfolding frames_of
  last_line {t} k q =
      let z : len - 0 ≡ suc (len - 1) = omega (arith, k.below) in
      let none : lists_left (len - 0) (frame_of n t ∷ []) ≡ [] = rw z ((gone (len - 1) (frame_of n t) [] (le-leb _ _ q)).0 ∙ left_none _) in
      k.text ∙ ap (λ y. take at o ++ y) (text_over g (len - 0) (frame_of n t ∷ []) none)

  -- on another: the search goes on with the one below
  module _ {h : ℕ} {t : Level} (k : Kept x o n len ls (suc h) t g at) (q : size_of n ≤ t.tried) where
    same : lists_left (len - suc h) (frame_of n t ∷ frames_of n ls (suc h)) ≡ lists_left (len - h) (frames_of n ls (suc h))
    same =
        let z : len - suc h ≡ suc (len - suc (suc h)) = omega (arith, k.below) in
        let y : len - h ≡ suc (suc (len - suc (suc h))) = omega (arith, k.below) in
        rw (z, y) (gone (len - suc (suc h)) (frame_of n t) (frames_of n ls (suc h)) (le-leb _ _ q)).0

    popped : Kept x o n len ls h (get_or ls h no_level) g at
    unfolding frames_of
    popped = record {
      some = k.some;
      few = k.few;
      long = k.long;
      levels = k.levels;
      below = omega (arith, k.below);
      beneath = k.beneath.2;
      top = k.beneath.0;
      count = rw (← same) k.count;
      size = k.size;
      space = k.space;
      text = k.text ∙ ap (λ y. take at o ++ y) (text_same g _ _ _ _ same);
    }

    popped_less : turns_of n len ls h (get_or ls h no_level) < turns_of n len ls (suc h) t
    unfolding frames_of
    popped_less =
        let z : len - suc h ≡ suc (len - suc (suc h)) = omega (arith, k.below) in
        let y : len - h ≡ suc (suc (len - suc (suc h))) = omega (arith, k.below) in
        rw (z, y) (gone (len - suc (suc h)) (frame_of n t) (frames_of n ls (suc h)) (le-leb _ _ q)).1

  -- ── an event is tried ──
  module _ {h : ℕ} {t : Level} (k : Kept x o n len ls h t g at) (q : t.tried < size_of n) where
    abbrev e : Event
    e = event_at n t.tried

    abbrev s : State
    s = seen_waiting n tower t.nodes t.words t.waiting

    abbrev fs : List Frame
    fs = frames_of n ls h

    missing_one : len - h ≡ suc (len - suc h)
    missing_one = omega (arith, k.below)

    onward_sound : SoundLevel n (path fs) (onward t)
    onward_sound =
        let p = k.top in
        record { nodes = p.nodes; words = p.words; range = p.range; within = omega (arith, q); space = p.space; end = p.end; line = p.line }

    -- refused
    module _ (r : ℕ) (z : step s e ≡ refused r) where
      same_lists : lists_left (len - h) (frame_of n t ∷ fs) ≡ lists_left (len - h) (frame_of n (onward t) ∷ fs)
      same_lists = rw missing_one (passed_by (len - suc h) (frame_of n t) fs (lt-leb _ _ q) r z).0

      refused_kept : Kept x o n len ls h (onward t) g at
      refused_kept = record {
        some = k.some;
        few = k.few;
        long = k.long;
        levels = k.levels;
        below = k.below;
        beneath = k.beneath;
        top = onward_sound;
        count = rw (← same_lists) k.count;
        size = k.size;
        space = k.space;
        text = k.text ∙ ap (λ y. take at o ++ y) (text_same g _ _ _ _ same_lists);
      }

      refused_less : turns_of n len ls h (onward t) < turns_of n len ls h t
      refused_less = rw missing_one (passed_by (len - suc h) (frame_of n t) fs (lt-leb _ _ q) r z).1

    -- accepted
    module _ (u : State) (m : Mark) (z : step s e ≡ accepted u m) where
      -- as the last of a list
      module _ (last : suc h ≡ len) where
        one : len - h ≡ 1
        one = omega (arith, last)

        given_one : lists_left (len - h) (frame_of n t ∷ fs) ≡ (path fs ++ (e ∷ [])) ∷ lists_left (len - h) (frame_of n (onward t) ∷ fs)
        given_one = rw one (gave_one (frame_of n t) fs (lt-leb _ _ q) u m z).0

        count_more : g + 1 + length (lists_left (len - h) (frame_of n (onward t) ∷ fs)) < 2 ^ 32
        count_more = let c = k.count in let y = ap length given_one in omega (arith, c, y)

        given_less : turns_of n len ls h (onward t) < turns_of n len ls h t
        given_less = rw one (gave_one (frame_of n t) fs (lt-leb _ _ q) u m z).1

        -- its line was written
        module _ {o' : List ℕ} {r : ℕ} (w : Appended o at (take t.end t.line ++ (event_text e ++ bytes "\n")) o' r) where
          written_line : take r o' ≡ take at o ++ list_line (path fs ++ (e ∷ []))
          written_line = w.text ∙ ap (λ y. take at o ++ y) (ap (λ y. y ++ (event_text e ++ bytes "\n")) k.top.line ∙ sym (line_ends (path fs) e))

          given_text : x ≡ take r o' ++ stack_text (g + 1) (len - h) (frame_of n (onward t) ∷ fs)
          given_text =
              k.text ∙ ap (λ y. take at o ++ y) (text_given g _ _ _ _ _ given_one)
              ∙ sym (append_assoc (take at o) (list_line (path fs ++ (e ∷ []))) _)
              ∙ ap (λ y. y ++ stack_text (g + 1) (len - h) (frame_of n (onward t) ∷ fs)) (sym written_line)

          given_kept : r ≤ 65408 → Kept x o' n len ls h (onward t) (g + 1) r
          given_kept y = record {
            some = k.some;
            few = k.few;
            long = k.long;
            levels = k.levels;
            below = k.below;
            beneath = k.beneath;
            top = onward_sound;
            count = count_more;
            size = w.long ∙ k.size;
            space = y;
            text = given_text;
          }

      -- as one of others: its table, with the pieces v, is put on top, and the one below it is stored
      module _ (more : suc h < len) (v : Level) (i : v.tried ≡ 0) (a : seen_waiting n tower v.nodes v.words v.waiting ≡ counts_aside u) (rd : ReadyLevel n v)
          (w : Appended t.line t.end (event_text e ++ bytes ", ") v.line v.end) where
        abbrev below : List Level
        below = set ls h (onward t)

        frames_up : frames_of n below (suc h) ≡ frame_of n (onward t) ∷ fs
        unfolding frames_of
        frames_up =
            let d : get_or below h no_level ≡ onward t = get_or-set_same ls h (onward t) no_level (omega (arith, k.levels, k.below, k.long)) in
            rw (d, frames_below n ls h (onward t) h (omega arith))

        path_up : path (frames_of n below (suc h)) ≡ path fs ++ (e ∷ [])
        path_up = ap path frames_up ∙ path_passed (frame_of n t) fs

        frame_up : frame_of n v ≡ frame (counts_aside u) 0
        frame_up = rw (a, i)

        -- no count comes to its end: in s each is at most 64, and at most 7 events follow
        counts_aside_lem : lists_from (len - suc h) u ≡ lists_from (len - suc h) (counts_aside u)
        counts_aside_lem =
            let g = in_range_base s k.top.range in
            let b = waiting_small s.rule s.n s.limits s.nodes s.queue (in_range_pair s k.top.range) g.0 g.1 in
            lists_aside (len - suc h) u (omega (arith, k.long))
            (keeps_room (len - suc h) s e u m (record { range = k.top.range; room = λ j. omega (arith, k.long, b j) }) z)

        up : lists_left (len - h) (frame_of n t ∷ fs) ≡ lists_left (len - suc h) (frame_of n v ∷ frames_of n below (suc h))
        up = rw (frames_up, frame_up, missing_one) (gone_up (len - suc h) (frame_of n t) fs (lt-leb _ _ q) u m z counts_aside_lem).0

        suc_less : turns_of n len below (suc h) v < turns_of n len ls h t
        suc_less = rw (frames_up, frame_up, missing_one) (gone_up (len - suc h) (frame_of n t) fs (lt-leb _ _ q) u m z counts_aside_lem).1

        top_sound : v.end ≤ t.end + 18 → SoundLevel n (path (frames_of n below (suc h))) v
        top_sound y = record {
          nodes = rd.nodes;
          words = rd.words;
          range = rd.range;
          within = omega (arith, i);
          space = w.long ∙ k.top.space;
          end = let b = k.top.end in rw path_up (simp length-append (omega (arith, b, y)));
          line = w.text ∙ ap (λ l. l ++ (event_text e ++ bytes ", ")) k.top.line ∙ sym (beginning_more (path fs) e) ∙ ap beginning (sym path_up);
        }

        below_sound : SoundBelow n below (suc h)
        below_sound =
            let d : get_or below h no_level ≡ onward t = get_or-set_same ls h (onward t) no_level (omega (arith, k.levels, k.below, k.long)) in
            rw (d, frames_below n ls h (onward t) h (omega arith)) (onward_sound, omega arith, sound_below n ls h (onward t) h (omega arith) k.beneath)

        pushed_suc : v.end ≤ t.end + 18 → Kept x o n len below (suc h) v g at
        pushed_suc y = record {
          some = k.some;
          few = k.few;
          long = k.long;
          levels = simp length-set k.levels;
          below = more;
          beneath = below_sound;
          top = top_sound y;
          count = rw (← up) k.count;
          size = k.size;
          space = k.space;
          text = k.text ∙ ap (λ l. take at o ++ l) (text_same g _ _ _ _ up);
        }

        pushed : v.end ≤ t.end + 18 → Kept x o n len below (h + 1) v g at
        pushed y = let i : suc h ≡ h + 1 = omega arith in subst (λ j. Kept x o n len below j v g at) i (pushed_suc y)

        pushed_less : turns_of n len below (h + 1) v < turns_of n len ls h t
        pushed_less = let i : suc h ≡ h + 1 = omega arith in subst (λ j. turns_of n len below j v < turns_of n len ls h t) i suc_less

-- ── the search before the loop and after it ──

-- the text of a search that goes on, by its topmost level
pub text_of_lem : (s : Search) (h : ℕ) → Going s h → text_left s ≡ stack_text s.given (s.length - h) (frame_of s.n (get_or s.levels h no_level) ∷ frames_of s.n s.levels h)
unfolding text_left frames_of
text_of_lem s h c =
    let z : eqb s.n 0 ≡ false = ne_eqb s.n 0 (λ q. absurd (omega (arith, c.some, q))) in
    let y : s.height ≡ suc h = omega (arith, c.height) in
    let m : s.length + 1 - suc h ≡ s.length - h = omega arith in
    rw (z, pick_false, y, m)

pub loop_starts : (s : Search) (o : List ℕ) (h at : ℕ) → Going s h → 1 ≤ s.length → at ≡ 0 → length o ≡ 65536 → Kept (text_left s) o s.n s.length s.levels h (get_or s.levels h no_level) s.given at
unfolding frames_of
loop_starts s o h at c l none z =
    let y : s.height ≡ suc h = omega (arith, c.height) in
    let m : s.length + 1 - suc h ≡ s.length - h = omega arith in
    record {
      some = c.some;
      few = c.few;
      long = c.long;
      levels = c.levels;
      below = under c.below;
      beneath = c.beneath;
      top = c.top;
      count = rw (y, m) at c.count;
      size = z;
      space = omega (arith, none);
      text = rw none (text_of_lem s h c);
    }
  where
    under : (h < s.length) ⊎ ((s.length ≡ 0) × (h ≡ 0)) → h < s.length
    under (inl q) = q
    under (inr q) = absurd (omega (arith, q.0, l))

pub ends_after : (x y : List ℕ) → EndsLine y → EndsLine (x ++ y)
ends_after x y e = record { before = x ++ e.before; is = ap (λ l. x ++ l) e.is ∙ sym (append_assoc x e.before (bytes "\n")) }

pub count_ends : (k : ℕ) → EndsLine (count_line k)
unfolding count_line row
count_ends k = record { before = bytes "lists" ++ (bytes " " ++ decimal k); is = rw append_assoc }

-- the last piece
pub gave_last : (s : Search) (o : List ℕ) (g at : ℕ) (o' : List ℕ) (r : ℕ) → text_left s ≡ take at o ++ count_line g → Appended o at (count_line g) o' r → at < r → Gave s o' (record { written = r; next = None })
gave_last s o g at o' r x w l = record {
  text = x ∙ sym w.text ∙ sym (append-nil (take r o'));
  fits = w.fits;
  some = omega (arith, l);
  lines = subst EndsLine (sym w.text) (ends_after (take at o) (count_line g) (count_ends g));
  sound = tt;
}

-- a piece behind which more comes: the topmost level is stored, and the search goes on with it
module _ {x o : List ℕ} {n len : ℕ} {ls : List Level} {g at h : ℕ} {t : Level} (k : Kept x o n len ls h t g at) (q : t.tried < size_of n) (u : State) (m : Mark)
    (z : step (seen_waiting n tower t.nodes t.words t.waiting) (event_at n t.tried) ≡ accepted u m) (last : suc h ≡ len) where
  abbrev goes_on : Search
  goes_on = record { n = n; length = len; given = g + 1; height = h + 1; levels = set ls h (onward t) }

  stored : get_or (set ls h (onward t)) h no_level ≡ onward t
  stored = get_or-set_same ls h (onward t) no_level (omega (arith, k.levels, k.below, k.long))

  stays : frames_of n (set ls h (onward t)) h ≡ frames_of n ls h
  stays = frames_below n ls h (onward t) h (omega arith)

  going : Going goes_on h
  unfolding frames_of
  going =
      let y : h + 1 ≡ suc h = omega arith in
      let d : len + 1 - suc h ≡ len - h = omega arith in
      record {
        some = k.some;
        few = k.few;
        long = k.long;
        levels = simp length-set k.levels;
        height = refl;
        below = inl k.below;
        beneath = sound_below n ls h (onward t) h (omega arith) k.beneath;
        top = rw (stays, stored) (onward_sound k q);
        count = rw (y, d, stays, stored) (count_more k q u m z last);
      }

  gave_more : (o' : List ℕ) (r : ℕ) → Appended o at (take t.end t.line ++ (event_text (event_at n t.tried) ++ bytes "\n")) o' r → (s : Search) → x ≡ text_left s → at < r
      → Gave s o' (record { written = r; next = Some goes_on })
  gave_more o' r w s c l = record {
    text = sym c ∙ given_text k q u m z last w ∙ ap (λ y. take r o' ++ y) (sym (text_of_lem goes_on h going ∙ rw (stays, stored)));
    fits = w.fits;
    some = omega (arith, l);
    lines = subst EndsLine (sym w.text) (ends_after (take at o) _ (ends_after (take t.end t.line) _ (record { before = event_text (event_at n t.tried); is = refl })));
    sound = let i : h + 1 - 1 ≡ h = omega arith in inr (subst (Going goes_on) (sym i) going);
  }

-- the topmost level is one of the seven
pub top_place : (s : Search) (h : ℕ) → Going s h → h < 7
top_place s h c = by c.below
  where
    by : (h < s.length) ⊎ ((s.length ≡ 0) × (h ≡ 0)) → h < 7
    by (inl q) = omega (arith, q, c.long)
    by (inr q) = omega (arith, q.1)

-- ── as the code has it; c: how many events there are ──

same_step : (s : State) (d e : Event) (r : Result) → d ≡ e → step s d ≡ r → step s e ≡ r
same_step s d e r p h = subst (λ y. step s y ≡ r) p h

module _ {x o : List ℕ} {n len : ℕ} {ls : List Level} {g at h : ℕ} {t : Level} (k : Kept x o n len ls h t g at) (c : ℕ) (hc : c ≡ size_of n) where
  pub short_line : t.end ≤ 108
  short_line = let e = k.top.end in let p = path_long n ls h in omega (arith, e, p, k.below, k.long)

  all : t.tried ≡ c → size_of n ≤ t.tried
  all q = omega (arith, q, hc)

  pub ends : t.tried ≡ c → h ≡ 0 → x ≡ take at o ++ count_line g
  ends q z = last_line (subst (λ i. Kept x o n len ls i t g at) z k) (all q)

  module _ (q : t.tried ≡ c) (z : h ≡ 0 → ⊥) where
    up_one : h ≡ suc (h - 1)
    up_one = omega (arith, z)

    above : Kept x o n len ls (suc (h - 1)) t g at
    above = subst (λ i. Kept x o n len ls i t g at) up_one k

    pub down : Kept x o n len ls (h - 1) (get_or ls (h - 1) no_level) g at
    down = popped above (all q)

    pub down_less : turns_of n len ls (h - 1) (get_or ls (h - 1) no_level) < turns_of n len ls h t
    down_less = subst (λ i. turns_of n len ls (h - 1) (get_or ls (h - 1) no_level) < turns_of n len ls i t) (sym up_one) (popped_less above (all q))

  -- e is tried: i is its node's place, and r what is ruled
  module _ (d : t.tried ≡ c → ⊥) {e : Event} (he : t.tried < size_of n → e ≡ event_at n t.tried) {i : ℕ} (hi : i ≡ (actor e + 15) % 16) (b : Node) {r : Ruling}
      (j : Ruled t.words n tower.messages t.waiting (get_or t.nodes i b) e r) where
    under : t.tried < size_of n
    under = let w = k.top.within in omega (arith, w, hc, d)

    abbrev before : State
    before = seen_waiting n tower t.nodes t.words t.waiting

    rd : ReadyLevel n t
    rd = ready n (path (frames_of n ls h)) t k.top

    -- it is refused by y
    module _ (y : Refusal) (no : r.verdict ≡ Err y) where
      refusal : step before (event_at n t.tried) ≡ refused (refusal_number y)
      refusal = same_step _ _ _ _ (he under) (refused_step _ tower _ _ _ _ _ _ rd e i hi b r j y no)

      pub turned_down : Kept x o n len ls h (onward t) g at
      turned_down = refused_kept k under _ refusal

      pub turned_less : turns_of n len ls h (onward t) < turns_of n len ls h t
      turned_less = refused_less k under _ refusal

    -- or y is what its node does
    module _ (y : Reaction) (yes : r.verdict ≡ Ok y) where
      pub room_for : Room y.outgoing (left_of t.waiting r.place)
      room_for = has_room _ tower _ _ _ _ _ _ rd e i hi b r j y yes

      -- 17 is not met
      not_at_end : pair_at_end before.sent y.outgoing ≡ false
      not_at_end = end_below _ tower _ _ _ _ _ _ rd e i hi b r j y yes (waiting_below before.rule n tower before.nodes before.queue (in_range_pair before k.top.range) (in_range_base before k.top.range).0 (in_range_base before k.top.range).1)

      taken : step before (event_at n t.tried) ≡ accepted (effect before e) (reaction_to before e).mark
      taken = same_step _ _ _ _ (he under) (step_accepts _ tower _ _ _ _ _ _ rd e i hi b r j y yes not_at_end)

      -- as the last of a list
      module _ (l : h + 1 ≡ len) where
        last : suc h ≡ len
        last = omega (arith, l)

        pub count_one : g + 1 + length (lists_left (len - h) (frame_of n (onward t) ∷ frames_of n ls h)) < 2 ^ 32
        count_one = count_more k under _ _ taken last

        pub listed_less : turns_of n len ls h (onward t) < turns_of n len ls h t
        listed_less = given_less k under _ _ taken last

        module _ {o' : List ℕ} {p : ℕ} (w : Appended o at (take t.end t.line ++ (event_text e ++ bytes "\n")) o' p) where
          line_of : Appended o at (take t.end t.line ++ (event_text (event_at n t.tried) ++ bytes "\n")) o' p
          line_of = rw (he under) at w

          pub listed : p ≤ 65408 → Kept x o' n len ls h (onward t) (g + 1) p
          listed q = given_kept k under _ _ taken last line_of q

          pub listed_more : (s : Search) → x ≡ text_left s → at < p → Gave s o' (record { written = p; next = Some (record { n = n; length = len; given = g + 1; height = h + 1; levels = set ls h (onward t) }) })
          listed_more s q z = gave_more k under _ _ taken last o' p line_of s q z

      -- as one of others: v is the level of its table
      module _ (l : h + 1 ≡ len → ⊥) (us : List ℕ) (w : ℕ) (q : queue us w ≡ without r.place (queue t.words t.waiting) ++ sent y.outgoing) (z : length us ≡ 256)
          {line : List ℕ} {end : ℕ} (a : Appended t.line t.end (event_text e ++ bytes ", ") line end) where
        abbrev v : Level
        v = record { nodes = set t.nodes i y.node; words = us; waiting = w; tried = 0; line = line; end = end }

        more : suc h < len
        more = omega (arith, l, k.below)

        -- the state after it, with its counts set aside
        state_above : seen_waiting n tower v.nodes us w ≡ counts_aside (effect before e)
        state_above = ap counts_aside (next_is _ tower _ _ _ _ _ _ rd e i hi b r j y yes not_at_end us w q)

        ready_above : ReadyLevel n v
        ready_above =
            let z = ready_again _ tower _ _ _ _ _ _ rd e i hi b r j y yes not_at_end us w q z in
            record { words = z.words; nodes = z.nodes; range = waiting_in TwoPairs n tower _ (queue us w) refl refl (in_range_base _ z.range).1 }

        longer : Appended t.line t.end (event_text (event_at n t.tried) ++ bytes ", ") line end
        longer = rw (he under) at a

        pub raised : end ≤ t.end + 18 → Kept x o n len (set ls h (onward t)) (h + 1) v g at
        raised f = pushed k under _ _ taken more v refl state_above ready_above longer f

        pub raised_less : turns_of n len (set ls h (onward t)) (h + 1) v < turns_of n len ls h t
        raised_less = pushed_less k under _ _ taken more v refl state_above ready_above longer
