-- `list_parser::cursor::Cursor::number_up_to` meets its contract: what lies between the two ends is the next word.
use Prim.Native.Nat.{ℕ, ◌-◌}
use mathlib.Core.Path.{◌≡◌, sym, ◌∙◌}
use mathlib.Core.List.{List}
use lib.ListN.{take, drop}
use Rattle.std.proofs.Common.{Option, None, Some}
use Rattle.list_text.specs.Words.{is_blank, past, behind_word, value_up_to, found_at, number_at}
use Rattle.list_text.proofs.Parts.{number_further}
use Rattle.list_parser.proofs.Names.{own_word}
use Rattle.list_parser.proofs.cursor.Cursor.number_up_to.Goals as goal

-- by what the word between its ends gives
found : (most : ℕ) (t : List ℕ) (at s e : ℕ) (x : Option ℕ) → s ≡ past is_blank t at → e ≡ behind_word t s → x ≡ value_up_to most (take (e - s) (drop s t)) → found_at s e x ≡ number_at most t at
unfolding number_at
found most t at s e x p q r = rw (r, own_word t s e q, q, p)

pub returns-in-None-clause-value : goal.returns-in-None-clause-value
returns-in-None-clause-value c =
    let p = c.past_blanks-start.ensures in
    found _ _ _ _ _ None p.1 (rw p.0 at c.behind_word-end.ensures.1) (sym c.in-None.is ∙ c.value_up_to.ensures)

pub returns-in-Some-clause-value : goal.returns-in-Some-clause-value
returns-in-Some-clause-value c =
    let p = c.past_blanks-start.ensures in
    found _ _ _ _ _ (Some _) p.1 (rw p.0 at c.behind_word-end.ensures.1) (sym c.in-Some.is ∙ c.value_up_to.ensures)

pub returns-in-Some-clause-within : goal.returns-in-Some-clause-within
returns-in-Some-clause-within c =
    let p = c.past_blanks-start.ensures in
    let q = c.behind_word-end.ensures in
    let f = number_further _ _ _ _ _ (sym (found _ _ _ _ _ (Some _) p.1 (rw p.0 at q.1) (sym c.in-Some.is ∙ c.value_up_to.ensures))) in
    (f.2, f.1)
