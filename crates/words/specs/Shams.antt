-- Wrong programs, each broken by a theorem: no such program meets its contract. Assumes nothing.
use Rattle.std.specs.Prelude.{◌≡◌, Some, None, Ok, Err, ℕ, true, false}
use Rattle.std.proofs.Common.{arith}
use Rattle.code.specs.declared.Line.TheVariants.{Row}
use Rattle.code.specs.Says.{Says}
use Rattle.lettering.specs.Line.{ascii}
use Rattle.words.specs.Words.{VerbIs, SortIs, AmountIs, LineIs, Takes, repair_force, correct_force, fewest_behind, most_behind, TakesBehind, its_own}
use Rattle.words.specs.Once.{verb_once, sort_once, amount_once, line_once}
use Rattle.words.specs.Worked.{lists_none, read_taken, short_plain, hyphen_plain, a_behind, next_too_large, column_three, row_alone}
use Rattle.words.specs.declared.Verb.TheVariants as verb
use Rattle.words.specs.declared.Sort.TheVariants.{Plain, Force, Text}
use Rattle.words.specs.declared.NoNumber.TheVariants.{TooLarge, NotDigits}

-- one that takes any word that begins with `list` for it
pub begins_enough : VerbIs (ascii "lists") (Some verb.List) → ⊥
begins_enough t = let e = verb_once (ascii "lists") (Some verb.List) None t lists_none in let z : ◌≡◌ {A = ℕ} 0 1 = cc in omega arith

-- one that looks at the first two signs alone, and so takes `read` for `repair`
pub two_signs : VerbIs (ascii "read") (Some verb.Repair) → ⊥
two_signs t = let e = verb_once (ascii "read") (Some verb.Repair) (Some verb.Read) t read_taken in let z : ◌≡◌ {A = ℕ} 0 1 = cc in omega arith

-- one that takes `-f` for `--force`
pub short_force : SortIs (ascii "-f") (Some Force) → ⊥
short_force t = let e = sort_once (ascii "-f") (Some Force) (Some Plain) t short_plain in let z : ◌≡◌ {A = ℕ} 0 1 = cc in omega arith

-- one to which one hyphen makes an option, so that standard input cannot be named
pub hyphen_option : SortIs (ascii "-") None → ⊥
hyphen_option t = let e = sort_once (ascii "-") None (Some Plain) t hyphen_plain in let z : ◌≡◌ {A = ℕ} 0 1 = cc in omega arith

-- one that stops at the first sign that is no digit, and so takes `12a` for 12
pub stops_early : AmountIs (ascii "12a") (Ok 12) → ⊥
stops_early t = let e = amount_once (ascii "12a") (Ok 12) (Err NotDigits) t a_behind in let z : ◌≡◌ {A = ℕ} 0 1 = cc in omega arith

-- one that counts in four bytes, so that 4294967296 comes round to 0
pub comes_round : AmountIs (ascii "4294967296") (Ok 0) → ⊥
comes_round t =
    let e = amount_once (ascii "4294967296") (Ok 0) (Err TooLarge) t next_too_large in let z : ◌≡◌ {A = ℕ} 0 1 = cc in omega arith

-- one that takes a column for the row with its number
pub column_as_row : LineIs (ascii "column:3") (Some (Row 3)) → ⊥
column_as_row t = let e = line_once (ascii "column:3") (Some (Row 3)) _ t column_three in let z : ◌≡◌ {A = ℕ} 0 1 = cc in omega arith

-- one that takes `row:` for row 0
pub row_of_nothing : LineIs (ascii "row:") (Some (Row 0)) → ⊥
row_of_nothing t = let e = line_once (ascii "row:") (Some (Row 0)) None t row_alone in let z : ◌≡◌ {A = ℕ} 0 1 = cc in omega arith

-- one by which `correct` takes no option
pub correct_refuses : Says false (Takes verb.Correct Force) → ⊥
correct_refuses f = f correct_force

-- and one by which `list` takes `--text`, as `map` does
pub list_takes_text : Says true (Takes verb.List Text) → ⊥
list_takes_text = elim [ ]

-- one that wants a word where no command is named ..
pub wants_for_none : fewest_behind None ≡ 1 → ⊥
wants_for_none e = omega (arith, e)

-- .. and one that writes a reel of no text
pub writes_nothing : fewest_behind (Some verb.Write) ≡ 4 → ⊥
writes_nothing e = omega (arith, e)

-- one that lets a word stand where no command is named ..
pub takes_for_none : most_behind None ≡ 1 → ⊥
takes_for_none e = omega (arith, e)

-- .. and one that fills one line alone
pub one_line_alone : most_behind (Some verb.Fill) ≡ 4 → ⊥
one_line_alone e = omega (arith, e)

-- one that takes `--force` where no command is named ..
pub forced_for_none : Says true (TakesBehind None (Some Force)) → ⊥
forced_for_none = elim [ ]

-- .. and one by which `repair` is not the one that it names
pub repair_not_named : Says false (TakesBehind (Some verb.Repair) (Some Force)) → ⊥
repair_not_named f = f (its_own repair_force)
