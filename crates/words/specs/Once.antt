-- The contracts settle the answers: two answers that are right for the same word are the same. Assumes nothing.
use Rattle.std.specs.Prelude.{◌≡◌, refl, cond, Option, Some, Result, Ok, Err, List, ◌++◌, ℕ, ◌+◌, ◌*◌, eqb, length, get_or}
use Rattle.std.proofs.Common.{sym, ap, ◌∙◌, arith}
use Rattle.code.specs.declared.Line.{Line}
use Rattle.code.specs.declared.Line.TheVariants.{Row, Column}
use Rattle.lettering.specs.Line.{ascii}
use Rattle.words.specs.Words.{Names, VerbIs, names, names_none, Begins, SortIs, plain, force, text, unknown, AmountIs, value, too_large, no_number, Behind, LineIs, row, column, no_line}
use Rattle.words.specs.Begin.{behind}
use Rattle.words.specs.declared.Verb.{Verb}
use Rattle.words.specs.declared.Verb.TheVariants as verb
use Rattle.words.specs.declared.Sort.{Sort}
use Rattle.words.specs.declared.NoNumber.{NoNumber}
use Rattle.words.specs.declared.NoNumber.TheVariants.{TooLarge, NotDigits}

-- ---- commands

-- the first sign and the length of a word tell which of the names it can be
mark : List ℕ → ℕ
mark word = 10 * get_or word 0 0 + length word

abbrev marked : ℕ → Verb
marked n =
    cond (eqb n 1084) verb.List
    (cond (eqb n 1146) verb.Repair
    (cond (eqb n 1093) verb.Map
    (cond (eqb n 1144) verb.Read
    (cond (eqb n 1195) verb.Write
    (cond (eqb n 1024) verb.Fill
    (cond (eqb n 997) verb.Correct
    (cond (eqb n 1044) verb.Help verb.Version)))))))

back : (word : List ℕ) (v : Verb) → Names word v → marked (mark word) ≡ v
unfolding mark
back word verb.List e = ap (λ (l : List ℕ). marked (mark l)) e
back word verb.Repair e = ap (λ (l : List ℕ). marked (mark l)) e
back word verb.Map e = ap (λ (l : List ℕ). marked (mark l)) e
back word verb.Read e = ap (λ (l : List ℕ). marked (mark l)) e
back word verb.Write e = ap (λ (l : List ℕ). marked (mark l)) e
back word verb.Fill e = ap (λ (l : List ℕ). marked (mark l)) e
back word verb.Correct e = ap (λ (l : List ℕ). marked (mark l)) e
back word verb.Help e = ap (λ (l : List ℕ). marked (mark l)) e
back word verb.Version e = ap (λ (l : List ℕ). marked (mark l)) e

-- a word names one command, and of one word one command is said
pub named_once : (word : List ℕ) (v w : Verb) → Names word v → Names word w → v ≡ w
named_once word v w a b = sym (back word v a) ∙ back word w b

pub verb_once : (word : List ℕ) (a b : Option Verb) → VerbIs word a → VerbIs word b → a ≡ b
verb_once word a b (names {v} m) (names {v = w} n) = ap (λ (x : Verb). Some x) (named_once word v w m n)
verb_once word a b (names {v} m) (names_none f) = absurd (f v m)
verb_once word a b (names_none f) (names {v} n) = absurd (f v n)
verb_once word a b (names_none f) (names_none g) = refl

-- so a command's name is recognised: whatever answer is right for it is that command
pub name_taken : (word : List ℕ) (v : Verb) → Names word v → (r : Option Verb) → VerbIs word r → r ≡ Some v
name_taken word v n r a = verb_once word r (Some v) a (names n)

-- ---- options

-- both options begin with two hyphens, and they differ
force_begins : {word : List ℕ} → word ≡ ascii "--force" → Begins (ascii "--") word
force_begins e = record { rest = ascii "force"; is = e }

text_begins : {word : List ℕ} → word ≡ ascii "--text" → Begins (ascii "--") word
text_begins e = record { rest = ascii "text"; is = e }

force_not_text : {word : List ℕ} → word ≡ ascii "--force" → word ≡ ascii "--text" → ⊥
force_not_text e f = let z = ap length (sym e ∙ f) in omega arith

pub sort_once : (word : List ℕ) (a b : Option Sort) → SortIs word a → SortIs word b → a ≡ b
sort_once word a b (plain f) (plain g) = refl
sort_once word a b (plain f) (force e) = absurd (f (force_begins e))
sort_once word a b (plain f) (text e) = absurd (f (text_begins e))
sort_once word a b (plain f) (unknown o g h) = absurd (f o)
sort_once word a b (force e) (plain g) = absurd (g (force_begins e))
sort_once word a b (force e) (force e') = refl
sort_once word a b (force e) (text e') = absurd (force_not_text e e')
sort_once word a b (force e) (unknown o g h) = absurd (g e)
sort_once word a b (text e) (plain g) = absurd (g (text_begins e))
sort_once word a b (text e) (force e') = absurd (force_not_text e' e)
sort_once word a b (text e) (text e') = refl
sort_once word a b (text e) (unknown o g h) = absurd (h e)
sort_once word a b (unknown o f g) (plain h) = absurd (h o)
sort_once word a b (unknown o f g) (force e) = absurd (f e)
sort_once word a b (unknown o f g) (text e) = absurd (g e)
sort_once word a b (unknown o f g) (unknown o' f' g') = refl

-- ---- numbers

pub amount_once : (word : List ℕ) (a b : Result ℕ NoNumber) → AmountIs word a → AmountIs word b → a ≡ b
amount_once word a b (value d e l) (value d' e' l') = ap (λ (n : ℕ). Ok n) (sym e ∙ e')
amount_once word a b (value d e l) (too_large d' m) = absurd (omega arith)
amount_once word a b (value d e l) (no_number f) = absurd (f d)
amount_once word a b (too_large d m) (value d' e l) = absurd (omega arith)
amount_once word a b (too_large d m) (too_large d' m') = refl
amount_once word a b (too_large d m) (no_number f) = absurd (f d)
amount_once word a b (no_number f) (value d e l) = absurd (f d)
amount_once word a b (no_number f) (too_large d m) = absurd (f d)
amount_once word a b (no_number f) (no_number g) = refl

-- a word that is too large, or no number, says no number n
pub large_no : {word : List ℕ} → AmountIs word (Err TooLarge) → (n : ℕ) → AmountIs word (Ok n) → ⊥
large_no {word} a n b = let e = amount_once word (Err TooLarge) (Ok n) a b in let z : ◌≡◌ {A = ℕ} 0 1 = cc in omega arith

pub word_no : {word : List ℕ} → AmountIs word (Err NotDigits) → (n : ℕ) → AmountIs word (Ok n) → ⊥
word_no {word} a n b = let e = amount_once word (Err NotDigits) (Ok n) a b in let z : ◌≡◌ {A = ℕ} 0 1 = cc in omega arith

-- ---- lines

-- a word begins with `row:` or with `column:`, and not with both
pub row_not_column : {word rest rest' : List ℕ} → word ≡ ascii "row:" ++ rest → word ≡ ascii "column:" ++ rest' → ⊥
row_not_column e f = let z = ap (λ (l : List ℕ). get_or l 0 0) (sym e ∙ f) in omega arith

-- one number stands behind
behind_once : (first word : List ℕ) (m n : ℕ) → Behind first word m → Behind first word n → m ≡ n
behind_once first word m n a b =
    let rests : a.rest ≡ b.rest = behind first word a.rest a.is ∙ sym (behind first word b.rest b.is) in
    let e = amount_once b.rest (Ok m) (Ok n) (rw rests at a.number) b.number in
    cc

pub line_once : (word : List ℕ) (a b : Option Line) → LineIs word a → LineIs word b → a ≡ b
line_once word a b (row {n = m} r) (row {n = n} s) = ap (λ (k : ℕ). Some (Row k)) (behind_once (ascii "row:") word m n r s)
line_once word a b (row r) (column s) = absurd (row_not_column r.is s.is)
line_once word a b (row {n = m} r) (no_line f g) = absurd (f m r)
line_once word a b (column r) (row s) = absurd (row_not_column s.is r.is)
line_once word a b (column {n = m} r) (column {n = n} s) = ap (λ (k : ℕ). Some (Column k)) (behind_once (ascii "column:") word m n r s)
line_once word a b (column {n = m} r) (no_line f g) = absurd (g m r)
line_once word a b (no_line f g) (row {n = n} s) = absurd (f n s)
line_once word a b (no_line f g) (column {n = n} s) = absurd (g n s)
line_once word a b (no_line f g) (no_line f' g') = refl
