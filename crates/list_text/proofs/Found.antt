-- What is found at an offset where the text goes on with a given word, number or event: words end at the first byte that is no word's, and what is printed is found again. 32 is a space, 10 a line end, 44 a comma.
use Prim.Native.Nat.{ℕ, zero, suc, ◌+◌, ◌^◌, ◌≤◌, ◌<◌}
use native.Mathlib.Omega.{arith}
use mathlib.Core.Path.{◌≡◌, refl, sym, ◌∙◌, ap}
use mathlib.Core.Bool.{Bool, true, false, ◌&&◌}
use mathlib.Core.List.{List, [], ◌∷◌, ◌++◌, append_assoc}
use lib.ListN.{length, get_or, drop, length-append, length-drop}
use lib.Seq.{take-append_seam, drop-append_seam, drop-drop, get_or-drop}
use lib.Dec.{eqb, leb}
use borrow.Author.Tests.{lt-leb, le-leb, ne_eqb}
use Rattle.std.specs.Prelude.{Some, None, Ok}
use Rattle.model.specs.Pick.{pick}
use Rattle.model.specs.declared.Event.{Event}
use Rattle.model.specs.declared.Event.TheVariants.{Crash, Recover, Check, Timeout, Tick, Expire, Finish, Deliver, Lose}
use Rattle.model.proofs.Local.{both_left, both_right}
use Rattle.event_list.specs.Format.{event_of}
use Rattle.listing.specs.Ascii.{bytes}
use Rattle.listing.specs.Decimal.{decimal}
use Rattle.listing.proofs.Decimal.{decimal_each, decimal_denotes}
use Rattle.short_lists_text.specs.Rows.{All}
use Rattle.short_lists_text.specs.Text.{name_of, spaced, event_text}
use Rattle.short_lists_text.proofs.Rows.{all_weaken}
use Rattle.short_lists_text.proofs.Spaced.{spaced_one, spaced_two, one_long, two_long}
use Rattle.list_text.specs.Words.{is_digit, is_blank, is_word_byte, is_skipped, span, past, skipped, past_skipped, word_at, same, value_up_to, number_at}
use Rattle.list_text.specs.Script.{event_named, second_most, event_of_two, numbers_at, event_at, event_from, separated_at, part_at}
use Rattle.list_text.specs.Claims.{AllDigits, FitsBytes}
use Rattle.list_text.proofs.Numbers.{numbers_read}

-- ── offsets ──

-- Behind the bytes w.
pub behind : (t : List ℕ) (at : ℕ) (w s : List ℕ) → drop at t ≡ w ++ s → drop (at + length w) t ≡ s
behind t at w s e = sym (drop-drop (length w) at t) ∙ ap (λ (l : List ℕ). drop (length w) l) e ∙ drop-append_seam w s

-- Behind one byte.
pub behind_one : (t : List ℕ) (at b : ℕ) (s : List ℕ) → drop at t ≡ b ∷ s → drop (at + 1) t ≡ s
behind_one t at b s e = behind t at (b ∷ []) s e

-- The byte there.
pub byte_is : (t : List ℕ) (at b : ℕ) (s : List ℕ) → drop at t ≡ b ∷ s → get_or t at 0 ≡ b
byte_is t at b s e = let z : at + 0 ≡ at = omega arith in ap (λ (k : ℕ). get_or t k 0) (sym z) ∙ sym (get_or-drop at t 0 0) ∙ ap (λ (l : List ℕ). get_or l 0 0) e

-- There is one, so the text is not at its end.
pub byte_inside : (t : List ℕ) (at b : ℕ) (s : List ℕ) → drop at t ≡ b ∷ s → at < length t
byte_inside t at b s e =
    let l = length-drop at t in
    let m : length (drop at t) ≡ suc (length s) = ap (λ (x : List ℕ). length x) e in
    omega arith

-- There is none, so it is.
byte_end : (t : List ℕ) (at : ℕ) → drop at t ≡ [] → length t ≤ at
byte_end t at e =
    let l = length-drop at t in
    let m : length (drop at t) ≡ 0 = ap (λ (x : List ℕ). length x) e in
    omega arith

-- ── stretches ──

-- s is empty, or its first byte is not of the kind f
abbrev pub Stops : (ℕ → Bool) → List ℕ → Type 0
Stops f [] = Unit {0}
Stops f (b ∷ s) = f b ≡ false

-- Bytes of the kind f up to another one.
span_none : (f : ℕ → Bool) (s : List ℕ) → Stops f s → span f s ≡ 0
unfolding span pick
span_none f [] h = refl
span_none f (b ∷ s) h = rw h

span_is : (f : ℕ → Bool) (w s : List ℕ) → All (λ b. f b ≡ true) w → Stops f s → span f (w ++ s) ≡ length w
unfolding span pick
span_is f [] s a h = span_none f s h
span_is f (b ∷ w) s a h = rw (a.0, span_is f w s a.1 h) (omega arith)

pub past_is : (f : ℕ → Bool) (t : List ℕ) (at : ℕ) (w s : List ℕ) → drop at t ≡ w ++ s → All (λ b. f b ≡ true) w → Stops f s → past f t at ≡ at + length w
unfolding past
past_is f t at w s e a h = rw (e, span_is f w s a h)

-- No blank, and one.
pub blank_none : (t : List ℕ) (at : ℕ) (s : List ℕ) → drop at t ≡ s → Stops is_blank s → past is_blank t at ≡ at
blank_none t at s e h = past_is is_blank t at [] s e tt h ∙ omega arith

pub blank_one : (t : List ℕ) (at : ℕ) (s : List ℕ) → drop at t ≡ 32 ∷ s → Stops is_blank s → past is_blank t at ≡ at + 1
blank_one t at s e h = past_is is_blank t at (32 ∷ []) s e (refl, tt) h

-- Nothing is skipped, and a line end.
pub skip_none : (t : List ℕ) (at : ℕ) (s : List ℕ) → drop at t ≡ s → Stops (is_skipped false) s → past_skipped t at ≡ at
unfolding past_skipped skipped pick
skip_none t at [] e h = rw e (omega arith)
skip_none t at (b ∷ s) e h = rw (e, h) (omega arith)

pub skip_line_end : (t : List ℕ) (at : ℕ) (s : List ℕ) → drop at t ≡ 10 ∷ s → Stops (is_skipped false) s → past_skipped t at ≡ at + 1
unfolding past_skipped skipped pick
skip_line_end t at [] e h = rw e (omega arith)
skip_line_end t at (b ∷ s) e h = rw (e, h) (omega arith)

-- ── words ──

abbrev pub IsWord : List ℕ → Type 0
IsWord w = All (λ b. is_word_byte b ≡ true) w

pub word_is : (t : List ℕ) (at : ℕ) (w s : List ℕ) → drop at t ≡ w ++ s → IsWord w → Stops is_word_byte s → word_at t at ≡ w
unfolding word_at
word_is t at w s e a h = rw (e, span_is is_word_byte w s a h) (take-append_seam w s)

-- ── digits ──

-- a digit by its number
digit_is : (b : ℕ) → (48 ≤ b) × (b ≤ 57) → is_digit b ≡ true
digit_is b h = rw (le-leb 48 b h.0, le-leb b 57 h.1)

unequal : (b k : ℕ) → (48 ≤ b) × (b ≤ 57) → k < 48 → eqb b k ≡ false
unequal b k h i = ne_eqb b k (λ e. omega arith)

digit_word : (b : ℕ) → (48 ≤ b) × (b ≤ 57) → is_word_byte b ≡ true
digit_word b h = rw (unequal b 32 h (omega arith), unequal b 9 h (omega arith), unequal b 13 h (omega arith), unequal b 10 h (omega arith), unequal b 35 h (omega arith)) (rw (ne_eqb b 44 (λ e. omega arith)))

-- what holds of the byte at each place holds of all
all_get : (P : ℕ → Type 0) (l : List ℕ) → ((k : ℕ) → k < length l → P (get_or l k 0)) → All P l
all_get P [] f = tt
all_get P (b ∷ l) f = (f zero (omega arith), all_get P l (λ k h. f (suc k) (omega arith)))

digits_each : (x : ℕ) → All (λ b. (48 ≤ b) × (b ≤ 57)) (decimal x)
digits_each x = all_get (λ b. (48 ≤ b) × (b ≤ 57)) (decimal x) (decimal_each x)

decimal_word : (x : ℕ) → IsWord (decimal x)
decimal_word x = all_weaken (λ b. (48 ≤ b) × (b ≤ 57)) (λ b. is_word_byte b ≡ true) (decimal x) digit_word (digits_each x)

-- Digits are no blanks.
digits_stop : (w s : List ℕ) → 1 ≤ length w → All (λ b. (48 ≤ b) × (b ≤ 57)) w → Stops is_blank (w ++ s)
digits_stop [] s h a = absurd (omega arith)
digits_stop (b ∷ w) s h a = rw (unequal b 32 a.0 (omega arith), unequal b 9 a.0 (omega arith), unequal b 13 a.0 (omega arith))

-- ── numbers ──

decimal_value : (most x : ℕ) → x ≤ most → x < 2 ^ 64 → value_up_to most (decimal x) ≡ Some x
decimal_value most x h k =
    let d = decimal_denotes x k in
    let v = d.value in
    let a : AllDigits (decimal x) = record { some = d.some; each = all_weaken (λ b. (48 ≤ b) × (b ≤ 57)) (λ b. is_digit b ≡ true) (decimal x) digit_is (digits_each x) } in
    numbers_read.is most (decimal x) a (omega arith) ∙ ap Some v

pub number_is : (most : ℕ) (t : List ℕ) (at x : ℕ) (s : List ℕ) → drop at t ≡ 32 ∷ (decimal x ++ s) → x ≤ most → x < 2 ^ 64 → Stops is_word_byte s → number_at most t at ≡ Ok (x, at + 1 + length (decimal x))
unfolding number_at
number_is most t at x s e h k p =
    let d = behind_one t at 32 (decimal x ++ s) e in
    rw (blank_one t at (decimal x ++ s) e (digits_stop (decimal x) s (decimal_denotes x k).some (digits_each x)), word_is t (at + 1) (decimal x) s d (decimal_word x) p, decimal_value most x h k, past_is is_word_byte t (at + 1) (decimal x) s d (decimal_word x) p)
    refl

-- ── events ──

-- all bytes are a word's
abbrev all_word_bytes : List ℕ → Bool
all_word_bytes [] = true
all_word_bytes (b ∷ w) = is_word_byte b && all_word_bytes w

pub is_word : (w : List ℕ) → all_word_bytes w ≡ true → IsWord w
is_word [] h = tt
is_word (b ∷ w) h = (both_left (is_word_byte b) (all_word_bytes w) h, is_word w (both_right (is_word_byte b) (all_word_bytes w) h))

-- The name w of an event with tag u, and its number.
one_at : (t : List ℕ) (at : ℕ) (w : List ℕ) (u i : ℕ) (s : List ℕ) → drop at t ≡ w ++ (32 ∷ (decimal i ++ s)) → IsWord w → event_named w ≡ Some u → leb u 0x15 ≡ true → i < 256 → Stops is_word_byte s →
    event_at t at ≡ Ok (Some (event_of u (i ∷ []), at + length w + 1 + length (decimal i)))
unfolding event_at numbers_at pick
one_at t at w u i s e a n o h p =
    let d = behind t at w (32 ∷ (decimal i ++ s)) e in
    rw (word_is t at w (32 ∷ (decimal i ++ s)) e a refl, n, o, past_is is_word_byte t at w (32 ∷ (decimal i ++ s)) e a refl, number_is 255 t (at + length w) i s d (omega arith) (omega arith) p)

-- With two numbers.
two_at : (t : List ℕ) (at : ℕ) (w : List ℕ) (u i x : ℕ) (s : List ℕ) → drop at t ≡ w ++ (32 ∷ (decimal i ++ (32 ∷ (decimal x ++ s)))) → IsWord w → event_named w ≡ Some u → leb u 0x15 ≡ false →
    i < 256 → x ≤ second_most u → x < 2 ^ 64 → Stops is_word_byte s →
    event_at t at ≡ Ok (Some (event_of_two u i x, at + length w + 1 + length (decimal i) + 1 + length (decimal x)))
unfolding event_at numbers_at pick
two_at t at w u i x s e a n o h k l p =
    let r : List ℕ = 32 ∷ (decimal x ++ s) in
    let d = behind t at w (32 ∷ (decimal i ++ r)) e in
    let b = behind t (at + length w + 1) (decimal i) r (behind_one t (at + length w) 32 (decimal i ++ r) d) in
    rw (word_is t at w (32 ∷ (decimal i ++ r)) e a refl, n, o, past_is is_word_byte t at w (32 ∷ (decimal i ++ r)) e a refl, number_is 255 t (at + length w) i r d (omega arith) (omega arith) refl)
    (rw (number_is (second_most u) t (at + length w + 1 + length (decimal i)) x s b k l p))

-- The text of an event from its name on.
text_one : (w : List ℕ) (i : ℕ) (s : List ℕ) → (w ++ spaced (i ∷ [])) ++ s ≡ w ++ (32 ∷ (decimal i ++ s))
text_one w i s = rw (spaced_one i) (append_assoc w (32 ∷ decimal i) s)

text_two : (w : List ℕ) (i x : ℕ) (s : List ℕ) → (w ++ spaced (i ∷ x ∷ [])) ++ s ≡ w ++ (32 ∷ (decimal i ++ (32 ∷ (decimal x ++ s))))
text_two w i x s = rw (spaced_two i x, spaced_one i) (append_assoc w (32 ∷ (decimal i ++ (32 ∷ decimal x))) s ∙ ap (λ (l : List ℕ). w ++ (32 ∷ l)) (append_assoc (decimal i) (32 ∷ decimal x) s))

end_one : (at : ℕ) (w : List ℕ) (i : ℕ) → at + length w + 1 + length (decimal i) ≡ at + length (w ++ spaced (i ∷ []))
end_one at w i = let l = one_long i in simp length-append (omega arith)

end_two : (at : ℕ) (w : List ℕ) (i x : ℕ) → at + length w + 1 + length (decimal i) + 1 + length (decimal x) ≡ at + length (w ++ spaced (i ∷ x ∷ []))
end_two at w i x = let l = one_long i in let m = two_long i x in simp length-append (omega arith)

-- The event e with the name w, the tag u and the number i.
one_named : (t : List ℕ) (at : ℕ) (w : List ℕ) (u i : ℕ) (s : List ℕ) → drop at t ≡ (w ++ spaced (i ∷ [])) ++ s → all_word_bytes w ≡ true → event_named w ≡ Some u → leb u 0x15 ≡ true → i < 256 → Stops is_word_byte s →
    event_at t at ≡ Ok (Some (event_of u (i ∷ []), at + length (w ++ spaced (i ∷ []))))
one_named t at w u i s e a n o h p = rw (← end_one at w i) (one_at t at w u i s (e ∙ text_one w i s) (is_word w a) n o h p)

two_named : (t : List ℕ) (at : ℕ) (w : List ℕ) (u i x : ℕ) (s : List ℕ) → drop at t ≡ (w ++ spaced (i ∷ x ∷ [])) ++ s → all_word_bytes w ≡ true → event_named w ≡ Some u → leb u 0x15 ≡ false →
    i < 256 → x ≤ second_most u → x < 2 ^ 64 → Stops is_word_byte s → event_at t at ≡ Ok (Some (event_of_two u i x, at + length (w ++ spaced (i ∷ x ∷ []))))
two_named t at w u i x s e a n o h k l p = rw (← end_two at w i x) (two_at t at w u i x s (e ∙ text_two w i x s) (is_word w a) n o h k l p)

-- The event whose text stands at an offset is found there.
pub event_is : (t : List ℕ) (at : ℕ) (e : Event) (s : List ℕ) → drop at t ≡ event_text e ++ s → FitsBytes e → Stops is_word_byte s → event_at t at ≡ Ok (Some (e, at + length (event_text e)))
unfolding event_text name_of event_named same second_most event_of_two event_of pick
event_is t at (Crash i) s e f p = one_named t at (bytes "crash") 0x10 i s e refl refl refl f.0 p
event_is t at (Recover i) s e f p = one_named t at (bytes "recover") 0x11 i s e refl refl refl f.0 p
event_is t at (Check i) s e f p = one_named t at (bytes "check") 0x12 i s e refl refl refl f.0 p
event_is t at (Timeout i) s e f p = one_named t at (bytes "timeout") 0x13 i s e refl refl refl f.0 p
event_is t at (Tick i) s e f p = one_named t at (bytes "tick") 0x14 i s e refl refl refl f.0 p
event_is t at (Expire i) s e f p = one_named t at (bytes "expire") 0x15 i s e refl refl refl f.0 p
event_is t at (Finish i x) s e f p = two_named t at (bytes "finish") 0x16 i x.number s e refl refl refl f.0 (omega arith) (omega arith) p
event_is t at (Deliver a b) s e f p = two_named t at (bytes "deliver") 0x17 a b s e refl refl refl f.0 (omega arith) (omega arith) p
event_is t at (Lose a b) s e f p = two_named t at (bytes "lose") 0x18 a b s e refl refl refl f.0 (omega arith) (omega arith) p

-- ── parts ──

-- The first byte of an event's text is neither blank nor skipped.
pub event_first : (e : Event) (s : List ℕ) → (b : ℕ) × (r : List ℕ) × (event_text e ++ s ≡ b ∷ r) × (is_skipped false b ≡ false) × (is_blank b ≡ false)
unfolding event_text name_of
event_first (Crash i) s = (_, _, refl, refl, refl)
event_first (Recover i) s = (_, _, refl, refl, refl)
event_first (Check i) s = (_, _, refl, refl, refl)
event_first (Timeout i) s = (_, _, refl, refl, refl)
event_first (Tick i) s = (_, _, refl, refl, refl)
event_first (Expire i) s = (_, _, refl, refl, refl)
event_first (Finish i x) s = (_, _, refl, refl, refl)
event_first (Deliver a b) s = (_, _, refl, refl, refl)
event_first (Lose a b) s = (_, _, refl, refl, refl)

-- Behind a line end.
pub behind_line_end : (t : List ℕ) (at : ℕ) (e : Event) (s : List ℕ) → drop at t ≡ 10 ∷ (event_text e ++ s) → FitsBytes e → Stops is_word_byte s → part_at t at ≡ Ok (Some (e, at + 1 + length (event_text e)))
unfolding part_at separated_at event_from pick
behind_line_end t at e s d f p =
    let x = event_first e s in
    let n : drop (at + 1) t ≡ event_text e ++ s = behind_one t at 10 (event_text e ++ s) d in
    rw (
      blank_none t at (10 ∷ (event_text e ++ s)) d refl,
      lt-leb (length t) at (byte_inside t at 10 (event_text e ++ s) d),
      byte_is t at 10 (event_text e ++ s) d,
      skip_line_end t at (x.0 ∷ x.1) (d ∙ ap (λ (l : List ℕ). 10 ∷ l) x.2) x.3,
      lt-leb (length t) (at + 1) (byte_inside t (at + 1) x.0 x.1 (n ∙ x.2)),
    )
    (event_is t (at + 1) e s n f p)

-- Behind a comma and a space.
pub behind_comma : (t : List ℕ) (at : ℕ) (e : Event) (s : List ℕ) → drop at t ≡ 44 ∷ 32 ∷ (event_text e ++ s) → FitsBytes e → Stops is_word_byte s → part_at t at ≡ Ok (Some (e, at + 2 + length (event_text e)))
unfolding part_at separated_at pick
behind_comma t at e s d f p =
    let x = event_first e s in
    let n : drop (at + 1) t ≡ 32 ∷ (event_text e ++ s) = behind_one t at 44 (32 ∷ (event_text e ++ s)) d in
    let z : at + 1 + 1 ≡ at + 2 = omega arith in
    let m : drop (at + 2) t ≡ event_text e ++ s = ap (λ (k : ℕ). drop k t) (sym z) ∙ behind_one t (at + 1) 32 (event_text e ++ s) n in
    rw (
      blank_none t at (44 ∷ 32 ∷ (event_text e ++ s)) d refl,
      lt-leb (length t) at (byte_inside t at 44 (32 ∷ (event_text e ++ s)) d),
      byte_is t at 44 (32 ∷ (event_text e ++ s)) d,
      blank_one t (at + 1) (x.0 ∷ x.1) (n ∙ ap (λ (l : List ℕ). 32 ∷ l) x.2) x.4,
      z,
    )
    (event_is t (at + 2) e s m f p)

-- The last line end, and two of them.
pub last_line_end : (t : List ℕ) (at : ℕ) → drop at t ≡ 10 ∷ [] → part_at t at ≡ Ok None
unfolding part_at separated_at event_from pick
last_line_end t at d =
    rw (blank_none t at (10 ∷ []) d refl, lt-leb (length t) at (byte_inside t at 10 [] d), byte_is t at 10 [] d, skip_line_end t at [] d tt, le-leb (length t) (at + 1) (byte_end t (at + 1) (behind_one t at 10 [] d)))

pub two_line_ends : (t : List ℕ) (at : ℕ) → drop at t ≡ 10 ∷ 10 ∷ [] → part_at t at ≡ Ok None
unfolding part_at separated_at event_from past_skipped skipped pick
two_line_ends t at d =
    let m = byte_end t (at + 2) (behind t at (10 ∷ 10 ∷ []) [] d) in
    rw (blank_none t at (10 ∷ 10 ∷ []) d refl, lt-leb (length t) at (byte_inside t at 10 (10 ∷ []) d), byte_is t at 10 (10 ∷ []) d, d, le-leb (length t) (at + 2) m)
