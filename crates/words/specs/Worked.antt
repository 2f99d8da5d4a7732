-- SPEC 12 and 12.1: words worked out: what is said of each. Assumes nothing.
use Rattle.std.specs.Prelude.{◌≡◌, refl, Some, None, Ok, Err, List, [], ◌∷◌, ℕ, zero, suc, ◌+◌, ◌*◌, ◌-◌, ◌≤◌, ◌<◌, length, get_or}
use Rattle.std.proofs.Common.{ap, arith}
use Rattle.code.specs.declared.Line.TheVariants.{Row, Column}
use Rattle.lettering.specs.Line.{ascii}
use Rattle.words.specs.Words.{VerbIs, names, SortIs, plain, force, text, unknown, Digit, Decimal, value_from, AmountIs, value, too_large, LineIs, row, column}
use Rattle.words.specs.Begin.{begun_length}
use Rattle.words.specs.Digits.{not_digit, empty}
use Rattle.words.specs.Names.{none_named}
use Rattle.words.specs.Once.{large_no, word_no}
use Rattle.words.specs.Lines.{no_row}
use Rattle.words.specs.declared.Verb.TheVariants as verb
use Rattle.words.specs.declared.Sort.TheVariants.{Plain, Force, Text}
use Rattle.words.specs.declared.NoNumber.TheVariants.{TooLarge, NotDigits}

-- ---- tests that are computed

-- a number made of all signs of a word: where two words have different ones, the words differ
abbrev pub key : List ℕ → ℕ
key [] = 1
key (sign ∷ rest) = sign + 256 * key rest

-- how far the signs of a word are from being digits: where that is nothing, each is one
abbrev far : List ℕ → ℕ
far [] = 0
far (sign ∷ rest) = (48 - sign) + (sign - 57) + far rest

each : (word : List ℕ) → far word ≡ 0 → (i : ℕ) → i < length word → Digit (get_or word i 0)
each [] e i h = absurd (omega arith)
each (sign ∷ rest) e zero h = (omega arith, omega arith)
each (sign ∷ rest) e (suc i) h = each rest (omega arith) i (omega arith)

digits : (word : List ℕ) → far word ≡ 0 → 1 ≤ length word → Decimal word
digits word e h = record { some = h; digits = each word e }

-- ---- commands

-- SPEC 12: `list` is a command
pub list_taken : VerbIs (ascii "list") (Some verb.List)
list_taken = names refl

-- and so are `read` and `version`
pub read_taken : VerbIs (ascii "read") (Some verb.Read)
read_taken = names refl

pub version_taken : VerbIs (ascii "version") (Some verb.Version)
version_taken = names refl

-- SPEC 12.6: `lists` is no such command
pub lists_none : VerbIs (ascii "lists") None
lists_none =
    none_named (ascii "lists") (λ e. omega (arith, ap key e)) (λ e. omega (arith, ap key e)) (λ e. omega (arith, ap key e))
    (λ e. omega (arith, ap key e)) (λ e. omega (arith, ap key e)) (λ e. omega (arith, ap key e)) (λ e. omega (arith, ap key e))
    (λ e. omega (arith, ap key e)) (λ e. omega (arith, ap key e))

-- ---- options

-- SPEC 12.1 and 12.2: `-` is plain, and so is `-f`
pub hyphen_plain : SortIs (ascii "-") (Some Plain)
hyphen_plain = plain (λ o. omega (arith, begun_length o))

pub short_plain : SortIs (ascii "-f") (Some Plain)
short_plain = plain (λ o. let z = ap (λ (l : List ℕ). get_or l 1 0) o.is in omega arith)

-- SPEC 12.1: the two options, and one that there is not
pub force_taken : SortIs (ascii "--force") (Some Force)
force_taken = force refl

pub text_taken : SortIs (ascii "--text") (Some Text)
text_taken = text refl

pub forces_unknown : SortIs (ascii "--forces") None
forces_unknown = unknown (record { rest = ascii "forces"; is = refl }) (λ e. omega (arith, ap key e)) (λ e. omega (arith, ap key e))

-- ---- numbers

-- SPEC 12.1: the largest number, and the next
pub largest_is : AmountIs (ascii "4294967295") (Ok 4294967295)
unfolding value_from
largest_is = value (digits (ascii "4294967295") refl (omega arith)) refl (omega arith)

pub next_too_large : AmountIs (ascii "4294967296") (Err TooLarge)
unfolding value_from
next_too_large = too_large (digits (ascii "4294967296") refl (omega arith)) (omega arith)

-- a number may begin with zeros
pub zeros_before : AmountIs (ascii "007") (Ok 7)
unfolding value_from
zeros_before = value (digits (ascii "007") refl (omega arith)) refl (omega arith)

-- SPEC 12.1: no digits, and something else beside them
pub no_digits : AmountIs (ascii "") (Err NotDigits)
no_digits = empty [] refl

pub a_behind : AmountIs (ascii "12a") (Err NotDigits)
a_behind = not_digit (ascii "12a") 2 (omega arith) (λ d. omega arith)

-- ---- lines

-- SPEC 12.1: a row and a column
three : AmountIs (ascii "3") (Ok 3)
unfolding value_from
three = value (digits (ascii "3") refl (omega arith)) refl (omega arith)

twelve : AmountIs (ascii "12") (Ok 12)
unfolding value_from
twelve = value (digits (ascii "12") refl (omega arith)) refl (omega arith)

pub row_three : LineIs (ascii "row:3") (Some (Row 3))
row_three = row (record { rest = ascii "3"; is = refl; number = three })

pub column_three : LineIs (ascii "column:3") (Some (Column 3))
column_three = column (record { rest = ascii "3"; is = refl; number = three })

pub column_twelve : LineIs (ascii "column:12") (Some (Column 12))
column_twelve = column (record { rest = ascii "12"; is = refl; number = twelve })

-- SPEC 12.1: no number behind it, and one that is too large
pub row_alone : LineIs (ascii "row:") None
row_alone = no_row (ascii "row:") (record { rest = []; is = refl }) (word_no no_digits)

pub row_too_large : LineIs (ascii "row:4294967296") None
row_too_large = no_row (ascii "row:4294967296") (record { rest = ascii "4294967296"; is = refl }) (large_no next_too_large)
