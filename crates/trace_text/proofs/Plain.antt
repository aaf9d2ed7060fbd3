-- The lines that the trace alone has are lines: behind the space that each starts with, 0x0A stands at the end and nowhere else.
use Prim.Native.Nat.{ℕ}
use native.Mathlib.Omega.{arith}
use mathlib.Core.Bool.{Bool, true, false}
use mathlib.Core.Path.{◌≡◌, refl}
use mathlib.Core.List.{List, [], ◌∷◌, ◌++◌}
use lib.Dec.{eqb}
use Rattle.model.specs.Pick.{pick}
use Rattle.model.specs.declared.Activity.{Activity}
use Rattle.model.specs.declared.Activity.TheVariants.{Idle, Asking, Waiting, Inviting, Collecting, Handing, Contacting, Forwarding, Accepting}
use Rattle.model.specs.declared.Node.{Node}
use Rattle.model.specs.declared.Message.{Message}
use Rattle.listing.specs.Ascii.{bytes}
use Rattle.listing.specs.Decimal.{decimal}
use Rattle.listing.proofs.Parted.{Each, each_append, IsLine, line_after}
use Rattle.short_lists_text.specs.Text.{spaced}
use Rattle.trace_text.specs.Words.{nodes_from, set_text, numbered, activity_text, shown_numbers, record_line, kind_text, carried_text, message_words, taken_line, sent_line}
use Rattle.trace_text.proofs.Parts.{Not, lacks, each_not, decimal_not, spaced_not}

-- ── words ──

-- no line end
record Plain (w : List ℕ) : Type 0 where
  each : Each (Not 10) w

word_plain : (w : List ℕ) → lacks 10 w ≡ true → Plain w
word_plain w h = record { each = each_not 10 w h }

append_plain : (a b : List ℕ) → Plain a → Plain b → Plain (a ++ b)
append_plain a b f g = record { each = each_append (Not 10) a b f.each g.each }

pick_plain : (t : Bool) (a b : List ℕ) → Plain a → Plain b → Plain (pick t a b)
unfolding pick
pick_plain true a b f g = f
pick_plain false a b f g = g

number_plain : (x : ℕ) → Plain (decimal x)
number_plain x = record { each = decimal_not 10 x (omega arith) }

spaced_plain : (xs : List ℕ) → Plain (spaced xs)
spaced_plain xs = record { each = spaced_not xs }

-- a fixed word w before b
behind_plain : (w b : List ℕ) → lacks 10 w ≡ true → Plain b → Plain (w ++ b)
behind_plain w b h g = append_plain w b (word_plain w h) g

numbered_plain : (w : List ℕ) (x : ℕ) → lacks 10 w ≡ true → Plain (numbered w x)
numbered_plain w x h = behind_plain w (spaced (x ∷ [])) h (spaced_plain (x ∷ []))

-- a word and a number before b
numbered_behind : (w : List ℕ) (x : ℕ) (b : List ℕ) → lacks 10 w ≡ true → Plain b → Plain (numbered w x ++ b)
numbered_behind w x b h g = append_plain (numbered w x) b (numbered_plain w x h) g

-- ── a record ──

set_plain : (s : ℕ) → Plain (set_text s)
unfolding set_text
set_plain s = pick_plain (eqb s 0) (bytes " none") (spaced (nodes_from 16 1 s)) (word_plain (bytes " none") refl) (spaced_plain (nodes_from 16 1 s))

-- the set s before b
set_behind : (s : ℕ) (b : List ℕ) → Plain b → Plain (set_text s ++ b)
set_behind s b g = append_plain (set_text s) b (set_plain s) g

activity_plain : (a : Activity) → Plain (activity_text a)
unfolding activity_text
activity_plain Idle = word_plain (bytes "idle") refl
activity_plain (Asking i f) = numbered_behind (bytes "asking") i _ refl (behind_plain (bytes " found") (set_text f) refl (set_plain f))
activity_plain (Waiting t f) = numbered_behind (bytes "waiting ticks") t _ refl (behind_plain (bytes " found") (set_text f) refl (set_plain f))
activity_plain (Inviting f g i) = numbered_behind (bytes "inviting") i _ refl (behind_plain (bytes " found") _ refl (set_behind f _ (behind_plain (bytes " former") (set_text g) refl (set_plain g))))
activity_plain Collecting = word_plain (bytes "collecting") refl
activity_plain (Handing r i) = numbered_behind (bytes "handing") i _ refl (behind_plain (bytes " still") (set_text r) refl (set_plain r))
activity_plain Contacting = word_plain (bytes "contacting") refl
activity_plain (Forwarding r i a k) =
    numbered_behind (bytes "forwarding") i _ refl
    (behind_plain (bytes " still") _ refl
    (set_behind r _ (numbered_behind (bytes " caller") a _ refl (numbered_plain (bytes " call") k.number refl))))
activity_plain (Accepting a k) = behind_plain (bytes "accepting") _ refl (numbered_behind (bytes " caller") a _ refl (numbered_plain (bytes " call") k.number refl))

-- ── a message ──

kind_plain : (k : ℕ) → Plain (kind_text k)
unfolding kind_text
kind_plain k =
    pick_plain (eqb k 1) _ _ (word_plain (bytes "AreYouCoordinator") refl)
    (pick_plain (eqb k 2) _ _ (word_plain (bytes "AreYouThere") refl)
    (pick_plain (eqb k 3) _ _ (word_plain (bytes "Invitation") refl)
    (pick_plain (eqb k 4) _ _ (word_plain (bytes "Accept") refl)
    (pick_plain (eqb k 5) _ _ (word_plain (bytes "Ready") refl)
    (word_plain (bytes "reply") refl)))))

carried_plain : (m : Message) → Plain (carried_text m)
unfolding carried_text
carried_plain m =
    pick_plain (eqb m.kind 1) [] _ (word_plain [] refl)
    (pick_plain (eqb m.kind 6) _ _ (pick_plain m.yes (bytes " yes") (bytes " no") (word_plain (bytes " yes") refl) (word_plain (bytes " no") refl))
    (numbered_behind (bytes " group") m.group.number _ refl (pick_plain (eqb m.kind 5) _ [] (numbered_plain (bytes " task") m.task.number refl) (word_plain [] refl))))

words_plain : (m : Message) → Plain (message_words m)
unfolding message_words
words_plain m =
    append_plain (decimal m.sender) _ (number_plain m.sender)
    (behind_plain (bytes " -> ") _ refl
    (append_plain (decimal m.receiver) _ (number_plain m.receiver)
    (behind_plain (bytes " ") _ refl
    (append_plain (kind_text m.kind) _ (kind_plain m.kind)
    (append_plain (carried_text m) _ (carried_plain m)
    (numbered_plain (bytes " call") m.call.number refl))))))

-- ── lines ──

end_line : (w : List ℕ) → Plain w → IsLine (w ++ (10 ∷ []))
end_line w h = record { body = w; ends = refl; inside = h.each }

-- x is a line behind a space
pub record Indented (x : List ℕ) : Type 0 where
  pub rest : List ℕ
  pub starts : x ≡ 32 ∷ rest
  pub line : IsLine rest

pub record_indented : (i : ℕ) (c : Node) → Indented (record_line i c)
unfolding record_line
record_indented i c =
    record {
      rest = _;
      starts = refl;
      line =
          line_after (32 ∷ decimal i) _ (append_plain (bytes " ") (decimal i) (word_plain (bytes " ") refl) (number_plain i)).each
          (line_after (spaced (shown_numbers c)) _ (spaced_not (shown_numbers c))
          (line_after (bytes " ") _ (each_not 10 (bytes " ") refl) (end_line (activity_text c.activity) (activity_plain c.activity))));
    }

pub taken_indented : (m : Message) → Indented (taken_line m)
unfolding taken_line
taken_indented m = record { rest = _; starts = refl; line = line_after (bytes " taken ") _ (each_not 10 (bytes " taken ") refl) (end_line (message_words m) (words_plain m)) }

pub sent_indented : (m : Message) → Indented (sent_line m)
unfolding sent_line
sent_indented m = record { rest = _; starts = refl; line = line_after (bytes " sent ") _ (each_not 10 (bytes " sent ") refl) (end_line (message_words m) (words_plain m)) }
