-- WHAT A READER MUST BELIEVE: which command, which option, which number and which line of a tile a word is, and which words a command takes
-- (SPEC 12 and 12.1). A word is the list of its bytes. Assumes nothing.
use Rattle.std.specs.Prelude.{◌≡◌, Option, Some, None, Result, Ok, Err, List, [], ◌∷◌, ◌++◌, ℕ, ◌+◌, ◌*◌, ◌-◌, ◌≤◌, ◌<◌, length, get_or}
use Prim.Native.Char.{code}
use Rattle.code.specs.declared.Line.{Line}
use Rattle.code.specs.declared.Line.TheVariants.{Row, Column}
use Rattle.lettering.specs.Line.{ascii}
use Rattle.words.specs.declared.Verb.{Verb}
use Rattle.words.specs.declared.Verb.TheVariants as verb
use Rattle.words.specs.declared.Sort.{Sort}
use Rattle.words.specs.declared.Sort.TheVariants.{Plain, Force, Text}
use Rattle.words.specs.declared.NoNumber.{NoNumber}
use Rattle.words.specs.declared.NoNumber.TheVariants.{TooLarge, NotDigits}

-- ---- commands

-- SPEC 12: the names of the commands
abbrev pub name_of : Verb → List ℕ
name_of verb.List = ascii "list"
name_of verb.Repair = ascii "repair"
name_of verb.Map = ascii "map"
name_of verb.Read = ascii "read"
name_of verb.Write = ascii "write"
name_of verb.Fill = ascii "fill"
name_of verb.Correct = ascii "correct"
name_of verb.Help = ascii "help"
name_of verb.Version = ascii "version"

-- SPEC 12: the word is the name of the command
abbrev pub Names : List ℕ → Verb → Type 0
Names word v = word ≡ name_of v

-- SPEC 12: the command that a word says is the one that it names, and none where it names none
pub data VerbIs (word : List ℕ) : Option Verb → Type 0 where
  names : {v : Verb} → Names word v → VerbIs word (Some v)
  names_none : ((v : Verb) → Names word v → ⊥) → VerbIs word None

-- ---- options

-- SPEC 12.1: the word begins with these signs
pub record Begins (first word : List ℕ) : Type 0 where
  pub rest : List ℕ
  pub is : word ≡ first ++ rest

-- SPEC 12.1: an option is a word that begins with two hyphens
abbrev pub IsOption : List ℕ → Type 0
IsOption word = Begins (ascii "--") word

-- SPEC 12.1: the sort of a word: it is plain, or one of the two options that there are. Another option is of no sort
pub data SortIs (word : List ℕ) : Option Sort → Type 0 where
  plain : (IsOption word → ⊥) → SortIs word (Some Plain)
  force : word ≡ ascii "--force" → SortIs word (Some Force)
  text : word ≡ ascii "--text" → SortIs word (Some Text)
  unknown : IsOption word → (word ≡ ascii "--force" → ⊥) → (word ≡ ascii "--text" → ⊥) → SortIs word None

-- ---- numbers

-- SPEC 12.1: a decimal digit, as the code of its sign
abbrev pub Digit : ℕ → Type 0
Digit sign = (code "0" ≤ sign) × (sign ≤ code "9")

-- SPEC 12.1: a number is decimal digits and nothing else, at least one of them
pub record Decimal (word : List ℕ) : Type 0 where
  pub some : 1 ≤ length word
  pub digits : (i : ℕ) → i < length word → Digit (get_or word i 0)

-- SPEC 12.1: its value, digit by digit from the left: ten times what stood before, and the digit. Before the first digit stood `before`
unfoldable pub value_from : ℕ → List ℕ → ℕ
value_from before [] = before
value_from before (sign ∷ rest) = value_from (10 * before + (sign - code "0")) rest

abbrev pub value_of : List ℕ → ℕ
value_of word = value_from 0 word

-- SPEC 12.1: the largest number that may be said
abbrev pub largest : ℕ
largest = 4294967295

-- SPEC 12.1: what a word says as a number: its value, or that it is too large, or that it is no number
pub data AmountIs (word : List ℕ) : Result ℕ NoNumber → Type 0 where
  value : {n : ℕ} → Decimal word → value_of word ≡ n → n ≤ largest → AmountIs word (Ok n)
  too_large : Decimal word → largest < value_of word → AmountIs word (Err TooLarge)
  no_number : (Decimal word → ⊥) → AmountIs word (Err NotDigits)

-- ---- lines

-- SPEC 12.1: the word is `first` and such a number behind it, the number n
pub record Behind (first word : List ℕ) (n : ℕ) : Type 0 where
  pub rest : List ℕ
  pub is : word ≡ first ++ rest
  pub number : AmountIs rest (Ok n)

-- SPEC 12.1: the line that a word names: it is `row:` or `column:` with a number behind it, or it names no line
pub data LineIs (word : List ℕ) : Option Line → Type 0 where
  row : {n : ℕ} → Behind (ascii "row:") word n → LineIs word (Some (Row n))
  column : {n : ℕ} → Behind (ascii "column:") word n → LineIs word (Some (Column n))
  no_line : ((n : ℕ) → Behind (ascii "row:") word n → ⊥) → ((n : ℕ) → Behind (ascii "column:") word n → ⊥) → LineIs word None

-- ---- what a command takes

-- SPEC 12: the fewest plain words behind each command
abbrev pub fewest_words : Verb → ℕ
fewest_words verb.List = 1
fewest_words verb.Repair = 2
fewest_words verb.Map = 1
fewest_words verb.Read = 2
fewest_words verb.Write = 5
fewest_words verb.Fill = 4
fewest_words verb.Correct = 4
fewest_words verb.Help = 0
fewest_words verb.Version = 0

-- SPEC 12: the most of them. `fill` may name a second line, and `help` a command. `write` takes any number of TEXT: no system hands over
-- as many words as the number here
abbrev pub most_words : Verb → ℕ
most_words verb.List = 1
most_words verb.Repair = 2
most_words verb.Map = 1
most_words verb.Read = 2
most_words verb.Write = 4294967295
most_words verb.Fill = 5
most_words verb.Correct = 4
most_words verb.Help = 1
most_words verb.Version = 0

-- SPEC 12.1: the sorts of words that a command takes: plain ones always, and the options that are its own
pub data Takes : Verb → Sort → Type 0 where
  plain : {v : Verb} → Takes v Plain
  repair_force : Takes verb.Repair Force
  write_force : Takes verb.Write Force
  fill_force : Takes verb.Fill Force
  correct_force : Takes verb.Correct Force
  map_text : Takes verb.Map Text

-- ---- what is taken behind a first word, which may name no command

-- SPEC 12: the fewest plain words behind it. Behind a word that names no command none has to stand, ..
abbrev pub fewest_behind : Option Verb → ℕ
fewest_behind (Some v) = fewest_words v
fewest_behind None = 0

-- SPEC 12: .. and none may. The most of them
abbrev pub most_behind : Option Verb → ℕ
most_behind (Some v) = most_words v
most_behind None = 0

-- SPEC 12.1: the sorts of words that are taken behind it: plain ones always, and the options of the command that it names. What is of no
-- sort is never taken
pub data TakesBehind : Option Verb → Option Sort → Type 0 where
  any_plain : {first : Option Verb} → TakesBehind first (Some Plain)
  its_own : {v : Verb} {s : Sort} → Takes v s → TakesBehind (Some v) (Some s)
