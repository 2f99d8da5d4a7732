-- WHAT A READER MUST BELIEVE: what it means that a text is put on a page, and what a form with numbers says (SPEC 12.7, 12.8). Assumes
-- nothing.
use Rattle.std.specs.Prelude.{◌≡◌, cond, List, [], ◌∷◌, ◌++◌, ℕ, ◌+◌, ◌≤◌, eqb, length, take, drop, get_or}
use Prim.Native.Char.{code}
use Rattle.lettering.specs.Line.{ascii, decimal}
use Rattle.page.specs.declared.Page.{Page}

-- a text is put on a page behind what it holds up to a place: there it stands now, up to another place; what stood before it and what
-- stands behind it is as it was
pub record Puts (page : List ℕ) (at : ℕ) (text : List ℕ) (to : ℕ) (new : List ℕ) : Type 0 where
  pub long : to ≡ at + length text
  pub same : length new ≡ length page
  pub is : take to new ≡ take at page ++ text
  pub behind : drop to new ≡ drop to page

-- there is room on a page for so many bytes more
abbrev pub Room : ℕ → Page → Type 0
Room most page = page.used + most ≤ length page.bytes.now

-- a text, of at most so many bytes, is put on a page behind what it holds
pub record PutOn (most : ℕ) (page : Page) (text : List ℕ) (new : Page) : Type 0 where
  pub puts : Puts page.bytes.now page.used text new.used new.bytes.now
  pub within : new.used ≤ page.used + most
  pub same : new.bytes.ghost_name ≡ page.bytes.ghost_name

-- SPEC 12.8: a number that ends 12 places further on, with spaces before it; one with more digits has none
unfoldable pub right_aligned : ℕ → List ℕ
right_aligned n = drop (length (decimal n)) (ascii "            ") ++ decimal n

-- ---- forms

-- SPEC 12.7 and 12.8 give lines as forms, in which a letter stands for a number. Here that is @: each sign stands for itself, but @ for a
-- number in decimal, and that number is taken
unfoldable pub sign_filled : ℕ → ℕ → List ℕ
sign_filled sign n = cond (eqb sign (code "@")) (decimal n) (sign ∷ [])

unfoldable pub taken : ℕ → ℕ
taken sign = cond (eqb sign (code "@")) 1 0

-- a form with numbers for its @s, one after the other; where none is left, 0
unfoldable pub filled : List ℕ → List ℕ → List ℕ
filled [] numbers = []
filled (sign ∷ form) numbers = sign_filled sign (get_or numbers 0 0) ++ filled form (drop (taken sign) numbers)

-- room for a form, whatever the numbers: 20 digits for each
abbrev pub sign_room : ℕ → ℕ
sign_room sign = cond (eqb sign (code "@")) 20 1

abbrev pub room : List ℕ → ℕ
room [] = 0
room (sign ∷ form) = sign_room sign + room form
