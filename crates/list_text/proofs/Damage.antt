-- A damaged list is shown as the list that ends where the damage is, with the line of its stop behind it; and no text with such a line is read as a list. 32 is a space, 10 a line end.
use Prim.Native.Nat.{ℕ, zero, suc, ◌+◌, ◌-◌, ◌≤◌, ◌<◌}
use native.Mathlib.Omega.{arith}
use mathlib.Core.Path.{◌≡◌, refl, sym, ◌∙◌, ap, subst}
use mathlib.Core.Bool.{Bool, true, false}
use mathlib.Core.Logic.{⊎_elim}
use mathlib.Core.List.{List, [], ◌∷◌, ◌++◌, append_assoc, append-nil, map}
use lib.ListN.{length, get_or, take, drop}
use lib.Seq.{length-take-le, take-take}
use borrow.Author.Tests.{le-ltb, lt-leb, eqb-true, not-false}
use Rattle.std.specs.Prelude.{Some, Err, None, Ok}
use Rattle.model.specs.Pick.{pick, by_test}
use Rattle.model.specs.declared.Limits.{Limits}
use Rattle.model.specs.declared.Event.{Event}
use Rattle.event_list.specs.declared.Stop.{Stop}
use Rattle.event_list.specs.Format.{First, Next, max_bytes, tag_at, length_at, contents_at, behind, first_tag, length_of, cut_short, checked, next_at, limits_of, nodes_of, first_of, stop_number, Ending, complete, stopped, Reading, onward, read_from, rest, Listed, failed, begun, listed, reading}
use Rattle.event_list.proofs.Fields.{next_end}
use Rattle.event_list.proofs.Reading.{rest_step, next_past, reading_begun, first_good, reads_all}
use Rattle.listing.specs.Ascii.{bytes}
use Rattle.listing.specs.Decimal.{decimal}
use Rattle.listing.specs.Lines.{row, stopped_line}
use Rattle.listing.specs.Printing.{joined}
use Rattle.run_list.specs.Text.{ending_lines}
use Rattle.short_lists_text.specs.Rows.{All}
use Rattle.short_lists_text.specs.Text.{event_text}
use Rattle.short_lists_text.proofs.Counts.{joined_last}
use Rattle.list_text.specs.Text.{opening_line, event_line, shown_lines, list_lines, list_text}
use Rattle.list_text.specs.Words.{AllBytes, is_skipped, past_skipped, word_at, same}
use Rattle.list_text.specs.Script as Script
use Rattle.list_text.specs.Script.{due, event_field, opening_tag, opening_at, event_named, event_at, event_from, separated_at, part_at, Said, wrong, said, before, said_from, script_of, Outcome, bad, list, outcome, list_of}
use Rattle.list_text.specs.Claims.{DamageShown, FitsBytes, IsFirstTag}
use Rattle.list_text.specs.declared.Expected.TheVariants as Expected
use Rattle.list_text.proofs.Parts.{says_all}
use Rattle.list_text.proofs.Found.{Stops, IsWord, is_word, behind_one, byte_is, byte_inside, word_is, blank_none, skip_none, skip_line_end, behind_line_end}
use Rattle.list_text.proofs.Found as Found
use Rattle.list_text.proofs.Fields.{all_take, fields_only}
use Rattle.list_text.proofs.Lines.{opens, cabinets_opens, stand_opens}
use Rattle.list_text.proofs.Claims.{text_is, reads_back, text_reads}

-- ── the first b bytes of a list ──

-- A byte among them, and a part of them, is that of the list.
get_take : (b : ℕ) (l : List ℕ) (k : ℕ) → k < b → get_or (take b l) k 0 ≡ get_or l k 0
get_take zero l k h = absurd (omega arith)
get_take (suc b) [] k h = refl
get_take (suc b) (x ∷ l) zero h = refl
get_take (suc b) (x ∷ l) (suc k) h = get_take b l k (omega arith)

part_take : (j k b : ℕ) (l : List ℕ) → j + k ≤ b → take k (drop j (take b l)) ≡ take k (drop j l)
part_take zero k b l h = take-take k b l (omega arith)
part_take (suc j) k zero l h = absurd (omega arith)
part_take (suc j) k (suc b) [] h = refl
part_take (suc j) k (suc b) (x ∷ l) h = part_take j k b l (omega arith)

-- A field that lies within a list is not cut short.
whole : (l : List ℕ) (at : ℕ) → behind l at ≤ length l → cut_short l at ≡ false
unfolding cut_short
whole l at h = rw (le-ltb (length l - at) 3 (omega arith), le-ltb (length l - (at + 3)) (length_at l at) (omega arith))

-- A field that lies within them is read as in the list.
module _ (l : List ℕ) (b at : ℕ) (h : b ≤ length l) (f : behind l at ≤ b) where
  cut_long : length (take b l) ≡ b
  cut_long = length-take-le b l h

  cut_tag : tag_at (take b l) at ≡ tag_at l at
  cut_tag = get_take b l at (omega arith)

  cut_length : length_at (take b l) at ≡ length_at l at
  cut_length = rw (get_take b l (at + 1) (omega arith), get_take b l (at + 2) (omega arith))

  cut_behind : behind (take b l) at ≡ behind l at
  cut_behind = let k = cut_length in omega arith

  cut_contents : contents_at (take b l) at ≡ contents_at l at
  cut_contents = rw cut_length (part_take (at + 3) (length_at l at) b l f)

  cut_whole : cut_short (take b l) at ≡ false
  cut_whole = let k = cut_behind in let m = cut_long in whole (take b l) at (omega arith)

  cut_checked : {A : Type 0} (tags : ℕ → Bool) (long : ℕ → ℕ) (stop : Stop → A) (good : A) → checked tags long (take b l) at stop good ≡ checked tags long l at stop good
  unfolding checked
  cut_checked tags long stop good = rw (cut_whole, whole l at (omega arith), cut_length, cut_tag)

  cut_next : next_at (take b l) at ≡ next_at l at
  unfolding next_at pick
  cut_next =
      let m = cut_long in
      rw (lt-leb (length (take b l)) at (omega arith), lt-leb (length l) at (omega arith), cut_contents, cut_behind, cut_tag)
      (cut_checked _ _ _ _)

-- So is the first field.
cut_first : (l : List ℕ) (b : ℕ) → b ≤ length l → behind l 0 ≤ b → length l ≤ max_bytes → first_of (take b l) ≡ first_of l
unfolding first_of pick
cut_first l b h f i =
    let m = cut_long l b 0 h f in
    rw (le-ltb max_bytes (length (take b l)) (omega arith), le-ltb max_bytes (length l) i, cut_contents l b 0 h f, cut_tag l b 0 h f)
    (cut_checked l b 0 h f first_tag length_of Err (nodes_of (limits_of (tag_at l 0)) (get_or (contents_at l 0) 0 0)))

-- ── the list up to where it stops ──

-- The next field starts behind this one.
abbrev StartsBehind : List ℕ → ℕ → Next → Type 0
StartsBehind l at (Ok None) = Unit {0}
StartsBehind l at (Err s) = Unit {0}
StartsBehind l at (Ok (Some (e, p))) = p ≡ behind l at

starts_behind : (l : List ℕ) (at : ℕ) → StartsBehind l at (next_at l at)
unfolding next_at checked
starts_behind l at =
    by_test (StartsBehind l at) (λ m. tt)
    (λ m. by_test (StartsBehind l at) (λ u. tt) (λ u. by_test (StartsBehind l at) (λ t. tt) (λ t. by_test (StartsBehind l at) (λ w. tt) (λ w. refl))))

-- what is read before a stop at b is read from the first b bytes, to their end
abbrev ReadsTo : List ℕ → ℕ → ℕ → List Event → Type 0
ReadsTo l b at es = (at ≤ b) × (rest (take b l) at ≡ record { events = es; ending = complete })

cut_from : (k : ℕ) (l : List ℕ) (at b : ℕ) (s : Stop) → b ≤ length l → (read_from k l at).ending ≡ stopped b s → ReadsTo l b at (read_from k l at).events
unfolding read_from
cut_from zero l at b s h q = let z : ◌≡◌ {A = ℕ} 0 1 = cc in absurd (omega arith)
cut_from (suc k) l at b s h q = by (next_at l at) refl (starts_behind l at) (λ p. cut_from k l p b s h) q
  where
    by : (x : Next) → x ≡ next_at l at → StartsBehind l at x → ((p : ℕ) → (read_from k l p).ending ≡ stopped b s → ReadsTo l b p (read_from k l p).events) →
        (onward at x (read_from k l)).ending ≡ stopped b s → ReadsTo l b at (onward at x (read_from k l)).events
    by (Ok None) i g r c = let z : ◌≡◌ {A = ℕ} 0 1 = cc in absurd (omega arith)
    by (Err v) i g r c =
        let z : at ≡ b = cc in
        let m = length-take-le b l h in
        (omega arith, rest_step (take b l) at ∙ rw (next_end (take b l) at (omega arith)))
    by (Ok (Some (e, p))) i g r c =
        let y = r p c in
        let n = y.0 in
        let o = next_past l at i refl in
        (omega arith, rest_step (take b l) at ∙ rw (cut_next l b at h (omega arith), ← i, y.1))

-- A good first field has no more than four bytes.
abbrev FirstShort : List ℕ → First → Type 0
FirstShort l (Err s) = Unit {0}
FirstShort l (Ok (n, lim)) = behind l 0 ≤ 4

one_length : (t : ℕ) → first_tag t ≡ true → length_of t ≡ 1
unfolding length_of pick
one_length t h = rw h

nodes_short : (l : List ℕ) (lim : Limits) (n : ℕ) → behind l 0 ≤ 4 → FirstShort l (nodes_of lim n)
unfolding nodes_of
nodes_short l lim n h = by_test (FirstShort l) (λ _. tt) (λ _. h)

first_short : (l : List ℕ) → FirstShort l (first_of l)
unfolding first_of checked
first_short l =
    by_test (FirstShort l) (λ m. tt)
    (λ m. by_test (FirstShort l) (λ u. tt) (λ u. by_test (FirstShort l) (λ t. tt) (λ t. by_test (FirstShort l) (λ w. tt) (λ w.
    let e = eqb-true (length_at l 0) (length_of (tag_at l 0)) (not-false _ w) in
    let o : length_at l 0 ≡ 1 = e ∙ one_length (tag_at l 0) (not-false _ t) in
    nodes_short l (limits_of (tag_at l 0)) (get_or (contents_at l 0) 0 0) (omega arith)))))

-- what is known of the list that ends where another stops
record Cut (l : List ℕ) (n : ℕ) (lim : Limits) (es : List Event) (b : ℕ) : Type 0 where
  reads : reading (take b l) ≡ begun n lim (record { events = es; ending = complete })
  tag : tag_at (take b l) 0 ≡ tag_at l 0

cut_reads : (l : List ℕ) (n : ℕ) (lim : Limits) (r : Reading) (b : ℕ) (s : Stop) → reading l ≡ begun n lim r → r.ending ≡ stopped b s → Cut l n lim r.events b
unfolding reading rest
cut_reads l n lim r b s e q = by (first_of l) refl (first_short l) e
  where
    by : (x : First) → x ≡ first_of l → FirstShort l x → listed l x ≡ begun n lim r → Cut l n lim r.events b
    by (Err v) i g w = let z : ◌≡◌ {A = ℕ} 0 1 = cc in absurd (omega arith)
    by (Ok (m, k)) i g w =
        let good = first_good l i refl in
        let p : begun m k (rest l 4) ≡ begun n lim r = sym (reading_begun l i refl) ∙ e in
        let x : m ≡ n = cc in
        let y : k ≡ lim = cc in
        let z : rest l 4 ≡ r = cc in
        let c : (rest l 4).ending ≡ stopped b s = ap (λ v. v.ending) z ∙ q in
        let h : b < length l = reads_all.before l 4 b s c in
        let u = cut_from (length l) l 4 b s (omega arith) c in
        let d = u.0 in
        let f : Ok (m, k) ≡ first_of (take b l) = i ∙ sym (cut_first l b (omega arith) (omega arith) good.1) in
        record {
          reads = reading_begun (take b l) f refl ∙ rw (x, y, u.1, ap (λ v. v.events) z);
          tag = cut_tag l b 0 (omega arith) (omega arith);
        }

-- ── its text ──

up_to : (l : List ℕ) (n : ℕ) (lim : Limits) (r : Reading) (b : ℕ) (s : Stop) → reading l ≡ begun n lim r → r.ending ≡ stopped b s → list_text l ≡ list_text (take b l) ++ stopped_line b (stop_number s)
unfolding list_lines
up_to l n lim r b s e q =
    let c = cut_reads l n lim r b s e q in
    let u = tag_at l 0 in
    let es = map event_line r.events in
    let first : list_text l ≡ joined (opening_line u n ∷ (es ++ ending_lines r.ending)) = ap (λ (x : Listed). joined (shown_lines u x)) e in
    let stop : joined (opening_line u n ∷ (es ++ ending_lines r.ending)) ≡ joined ((opening_line u n ∷ es) ++ (stopped_line b (stop_number s) ∷ [])) = ap (λ (x : Ending). joined (opening_line u n ∷ (es ++ ending_lines x))) q in
    let cut : list_text (take b l) ≡ joined (opening_line u n ∷ es) = text_is (take b l) n lim _ c.reads refl ∙ ap (λ (t : ℕ). joined (opening_line t n ∷ es)) c.tag in
    first ∙ stop ∙ joined_last (opening_line u n ∷ es) (stopped_line b (stop_number s)) ∙ ap (λ (t : List ℕ). t ++ stopped_line b (stop_number s)) (sym cut)

-- ── the line of a stop is no part ──

-- It starts with a word that names nothing.
stopped_starts : (b r : ℕ) → (s : List ℕ) × (stopped_line b r ≡ bytes "stopped" ++ (32 ∷ s))
unfolding stopped_line row
stopped_starts b r = (_, refl)

stopped_word : (t : List ℕ) (at : ℕ) (b r : ℕ) → drop at t ≡ stopped_line b r → word_at t at ≡ bytes "stopped"
stopped_word t at b r d = let x = stopped_starts b r in word_is t at (bytes "stopped") (32 ∷ x.0) (d ∙ x.1) (is_word (bytes "stopped") refl) refl

-- It is no event.
stopped_part : (t : List ℕ) (at b r : ℕ) → drop at t ≡ 10 ∷ stopped_line b r → part_at t at ≡ Err (due (at + 1) Expected.Name)
unfolding part_at separated_at event_from event_at event_named same pick
stopped_part t at b r d =
    let x = stopped_starts b r in
    let w : List ℕ = bytes "stopped" ++ (32 ∷ x.0) in
    let c : drop at t ≡ 10 ∷ w = d ∙ ap (λ (l : List ℕ). 10 ∷ l) x.1 in
    let n : drop (at + 1) t ≡ w = behind_one t at 10 w c in
    rw (
      blank_none t at (10 ∷ w) c refl,
      lt-leb (length t) at (byte_inside t at 10 w c),
      byte_is t at 10 w c,
      skip_line_end t at w c refl,
      lt-leb (length t) (at + 1) (byte_inside t (at + 1) _ _ n),
      stopped_word t (at + 1) b r (behind_one t at 10 (stopped_line b r) d),
    )

-- It is no opening.
stopped_opening : (b r : ℕ) → opening_at (stopped_line b r) (past_skipped (stopped_line b r) 0) ≡ Err (due 0 Expected.Opening)
unfolding opening_at opening_tag same pick
stopped_opening b r =
    let t = stopped_line b r in
    let x = stopped_starts b r in
    rw (skip_none t 0 (bytes "stopped" ++ (32 ∷ x.0)) x.1 refl, stopped_word t 0 b r refl)

-- ── events and such a line ──

-- nothing is said
abbrev NotSaid : Said → Type 0
NotSaid (wrong p x) = Unit {0}
NotSaid (said es) = ⊥

before_not : (e : Event) (x : Said) → NotSaid x → NotSaid (before e x)
before_not e (wrong p x) h = tt
before_not e (said es) h = h

-- what stands behind the opening's number, and behind the text of each event
abbrev tail_behind : List Event → List ℕ → List ℕ
tail_behind es s = 10 ∷ (joined (map event_line es) ++ s)

tail_more : (e : Event) (es : List Event) (s : List ℕ) → tail_behind (e ∷ es) s ≡ 10 ∷ (event_text e ++ tail_behind es s)
unfolding joined event_line
tail_more e es s =
    ap (λ (l : List ℕ). 10 ∷ l) (append_assoc (event_text e ++ (10 ∷ [])) (joined (map event_line es)) s ∙ append_assoc (event_text e) (10 ∷ []) (joined (map event_line es) ++ s))

-- The events are read, and then no part is found.
tail_said : (b r : ℕ) (es : List Event) → All FitsBytes es → (t : List ℕ) (at room : ℕ) → drop at t ≡ tail_behind es (stopped_line b r) → NotSaid (said_from t at room)
unfolding joined
tail_said b r [] f t at room d = subst NotSaid (sym (says_all.next t at room ∙ ap (λ x. Script.onward at room x (said_from t)) (stopped_part t at b r d))) tt
tail_said b r (e ∷ es) f t at room d =
    let s = tail_behind es (stopped_line b r) in
    let g : drop at t ≡ (10 ∷ event_text e) ++ s = d ∙ tail_more e es (stopped_line b r) in
    let p = at + 1 + length (event_text e) in
    let z : at + length (10 ∷ event_text e) ≡ p = omega arith in
    let n : drop p t ≡ s = ap (λ (k : ℕ). drop k t) (sym z) ∙ Found.behind t at (10 ∷ event_text e) s g in
    let left = room - length (event_field e) in
    subst NotSaid (sym (says_all.next t at room ∙ ap (λ x. Script.onward at room x (said_from t)) (behind_line_end t at e s g f.0 refl)))
    (by_test NotSaid (λ _. tt) (λ _. before_not e (said_from t p left) (tail_said b r es f.1 t p left n)))

-- ── texts with such a line are bad ──

abbrev IsBad : Outcome → Type 0
IsBad (bad p x) = Unit {0}
IsBad (list l) = ⊥

-- That line alone: where a list fails it is all that is printed.
alone_bad : (b r : ℕ) → IsBad (list_of (stopped_line b r))
unfolding list_of script_of
alone_bad b r =
    let t = stopped_line b r in
    by_test (λ (x : Script.Script). IsBad (outcome t x)) (λ _. tt) (λ _. rw (stopped_opening b r) tt)

events_bad : (u n : ℕ) (t : List ℕ) (x : Said) → NotSaid x → IsBad (outcome t (Script.with_events u n x))
events_bad u n t (wrong p x) h = tt
events_bad u n t (said es) h = h

module _ (n : ℕ) (es : List Event) (b r : ℕ) (h : n < 256) (f : All FitsBytes es) where
  abbrev tail : List ℕ
  tail = joined (map event_line es) ++ stopped_line b r

  opened_bad : (w : List ℕ) (u : ℕ) → IsWord w → Stops (is_skipped false) (w ++ (32 ∷ (decimal n ++ (10 ∷ tail)))) → opening_tag w ≡ Some u → IsBad (list_of (w ++ (32 ∷ (decimal n ++ (10 ∷ tail)))))
  unfolding list_of script_of
  opened_bad w u a k g =
      let t = w ++ (32 ∷ (decimal n ++ (10 ∷ tail))) in
      let p = 0 + length w + 1 + length (decimal n) in
      let d = Found.behind t 0 w (32 ∷ (decimal n ++ (10 ∷ tail))) refl in
      let q = Found.behind t (0 + length w + 1) (decimal n) (10 ∷ tail) (behind_one t (0 + length w) 32 (decimal n ++ (10 ∷ tail)) d) in
      by_test (λ (x : Script.Script). IsBad (outcome t x)) (λ _. tt)
      (λ _. rw (opens w u n (10 ∷ tail) a k g h refl) (events_bad u n t (said_from t p (max_bytes - 4)) (tail_said b r es f t p (max_bytes - 4) q)))

  cabinets_bad : IsBad (list_of (opening_line 0x01 n ++ tail))
  unfolding opening_line opening_tag same pick
  cabinets_bad = subst (λ (t : List ℕ). IsBad (list_of t)) (sym (cabinets_opens n tail)) (opened_bad (bytes "cabinets") 1 (is_word (bytes "cabinets") refl) refl refl)

  stand_bad : IsBad (list_of (opening_line 0x02 n ++ tail))
  unfolding opening_line opening_tag same pick
  stand_bad = subst (λ (t : List ℕ). IsBad (list_of t)) (sym (stand_opens n tail)) (opened_bad (bytes "stand") 2 (is_word (bytes "stand") refl) refl refl)

  lines_bad : (u : ℕ) → IsFirstTag u → IsBad (list_of (joined (opening_line u n ∷ map event_line es) ++ stopped_line b r))
  unfolding joined
  lines_bad u g =
      subst (λ (t : List ℕ). IsBad (list_of t)) (sym (append_assoc (opening_line u n) (joined (map event_line es)) (stopped_line b r)))
      (⊎_elim
      (λ e. subst (λ (v : ℕ). IsBad (list_of (opening_line v n ++ tail))) (sym e) cabinets_bad)
      (λ e. subst (λ (v : ℕ). IsBad (list_of (opening_line v n ++ tail))) (sym e) stand_bad)
      g)

-- ── damage stays ──

failed_bad : (l : List ℕ) (s : Stop) → reading l ≡ failed s → IsBad (list_of (list_text l))
unfolding list_lines joined
failed_bad l s e =
    let t : list_text l ≡ stopped_line 0 (stop_number s) = ap (λ (x : Listed). joined (shown_lines (tag_at l 0) x)) e ∙ append-nil (stopped_line 0 (stop_number s)) in
    subst (λ (t : List ℕ). IsBad (list_of t)) (sym t) (alone_bad 0 (stop_number s))

stopped_bad : (l : List ℕ) (n : ℕ) (lim : Limits) (r : Reading) (b : ℕ) (s : Stop) → AllBytes l → reading l ≡ begun n lim r → r.ending ≡ stopped b s → IsBad (list_of (list_text l))
stopped_bad l n lim r b s a e q =
    let c = cut_reads l n lim r b s e q in
    let f = fields_only (take b l) n lim _ (all_take (λ x. x < 256) b l a) c.reads refl in
    let t = up_to l n lim r b s e q ∙ ap (λ (x : List ℕ). x ++ stopped_line b (stop_number s)) (text_is (take b l) n lim _ c.reads refl) in
    subst (λ (x : List ℕ). IsBad (list_of x)) (sym t) (lines_bad n r.events b (stop_number s) f.nodes f.fit (tag_at (take b l) 0) f.tag)

not_list : (x : Outcome) (m : List ℕ) → IsBad x → x ≡ list m → ⊥
not_list x m b e = subst IsBad e b

same_list : (l m : List ℕ) → list l ≡ list m → l ≡ m
same_list l m e = cc

stays : (l m : List ℕ) → AllBytes l → list_of (list_text l) ≡ list m → l ≡ m
stays l m a e = by (reading l) refl
  where
    ends : (n : ℕ) (lim : Limits) (r : Reading) → reading l ≡ begun n lim r → (x : Ending) → r.ending ≡ x → l ≡ m
    ends n lim r i complete q = same_list l m (sym (reads_back.good l n lim r a i q) ∙ e)
    ends n lim r i (stopped b s) q = absurd (not_list (list_of (list_text l)) m (stopped_bad l n lim r b s a i q) e)

    by : (x : Listed) → reading l ≡ x → l ≡ m
    by (failed s) i = absurd (not_list (list_of (list_text l)) m (failed_bad l s i) e)
    by (begun n lim r) i = ends n lim r i r.ending refl

-- A list that stops does not read to its end, as the list of a text does.
refused_text : (l m : List ℕ) (n : ℕ) (lim : Limits) (r : Reading) (b : ℕ) (s : Stop) → AllBytes l → reading l ≡ begun n lim r → r.ending ≡ stopped b s → list_of (list_text l) ≡ list m → ⊥
refused_text l m n lim r b s h e q a =
    let w : list_of (list_text l) ≡ list l = a ∙ ap list (sym (stays l m h a)) in
    let z : ◌≡◌ {A = ℕ} 1 0 = ap is_stop (sym q ∙ text_reads.to_end (list_text l) l n lim r w e) in
    omega arith
  where
    is_stop : Ending → ℕ
    is_stop complete = 0
    is_stop (stopped c t) = 1

pub damage_shown : DamageShown
damage_shown = record { up_to = up_to; stays = stays; refused = refused_text }
