-- A line as the code reads it: how the word begins, and what stands behind. Assumes nothing.
use Rattle.std.specs.Prelude.{◌≡◌, Option, None, Result, Ok, List, ◌++◌, ℕ, length}
use Rattle.std.specs.Option.{option_map}
use Rattle.std.specs.Result.{result_ok}
use Rattle.code.specs.declared.Line.{Line}
use Rattle.code.specs.declared.Line.TheVariants.{Row, Column}
use Rattle.lettering.specs.Line.{ascii}
use Rattle.words.specs.Words.{Begins, AmountIs, value, too_large, no_number, row, column, Behind, LineIs, no_line}
use Rattle.words.specs.Begin.{rest_from, behind}
use Rattle.words.specs.Once.{large_no, word_no, row_not_column}
use Rattle.words.specs.declared.NoNumber.{NoNumber}

-- the number that stands behind is what the rest of the word says
pub number_behind : (first word : List ℕ) (n : ℕ) → Begins first word
    → AmountIs (rest_from (length first) word) (Ok n) → Behind first word n
number_behind first word n b a = record { rest = b.rest; is = b.is; number = rw (behind first word b.rest b.is) a }

pub behind_number : (first word : List ℕ) (n : ℕ) → Behind first word n → AmountIs (rest_from (length first) word) (Ok n)
behind_number first word n b = rw (behind first word b.rest b.is) at b.number

-- `row:` or `column:` with no number behind it is no line
pub no_row : (word : List ℕ) → Begins (ascii "row:") word
    → ((n : ℕ) → AmountIs (rest_from 4 word) (Ok n) → ⊥) → LineIs word None
no_row word b f = no_line (λ n r. f n (behind_number (ascii "row:") word n r)) (λ n c. row_not_column b.is c.is)

pub no_column : (word : List ℕ) → Begins (ascii "column:") word
    → ((n : ℕ) → AmountIs (rest_from 7 word) (Ok n) → ⊥) → LineIs word None
no_column word b f = no_line (λ n r. row_not_column r.is b.is) (λ n c. f n (behind_number (ascii "column:") word n c))

-- nor is what begins with neither
pub neither : (word : List ℕ) → (Begins (ascii "row:") word → ⊥) → (Begins (ascii "column:") word → ⊥) → LineIs word None
neither word f g = no_line (λ n r. f (record { rest = r.rest; is = r.is })) (λ n c. g (record { rest = c.rest; is = c.is }))

-- so where one of the two stands first, the word names the line whose number stands behind it, and none where no number does
pub row_or_none : (word digits : List ℕ) (r : Result ℕ NoNumber) → word ≡ ascii "row:" ++ digits → AmountIs digits r
    → (m : Option Line) → m ≡ option_map (λ n. Row n) (result_ok r) → LineIs word m
row_or_none word digits r is (value {n} d v l) m e = rw e (row (record { rest = digits; is = is; number = value d v l }))
row_or_none word digits r is (too_large d l) m e =
    rw e (no_row word (record { rest = digits; is = is }) (λ n a. large_no (too_large d l) n (rw (behind (ascii "row:") word digits is) a)))
row_or_none word digits r is (no_number f) m e =
    rw e (no_row word (record { rest = digits; is = is }) (λ n a. word_no (no_number f) n (rw (behind (ascii "row:") word digits is) a)))

pub column_or_none : (word digits : List ℕ) (r : Result ℕ NoNumber) → word ≡ ascii "column:" ++ digits → AmountIs digits r
    → (m : Option Line) → m ≡ option_map (λ n. Column n) (result_ok r) → LineIs word m
column_or_none word digits r is (value {n} d v l) m e = rw e (column (record { rest = digits; is = is; number = value d v l }))
column_or_none word digits r is (too_large d l) m e =
    rw e (no_column word (record { rest = digits; is = is }) (λ n a. large_no (too_large d l) n (rw (behind (ascii "column:") word digits is) a)))
column_or_none word digits r is (no_number f) m e =
    rw e (no_column word (record { rest = digits; is = is }) (λ n a. word_no (no_number f) n (rw (behind (ascii "column:") word digits is) a)))
